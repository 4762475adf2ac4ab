-- The occupied stations: which they are, and what holds of each. Assumes nothing.
use mathlib.Core.Path.{◌≡◌, refl, sym, subst}
use mathlib.Core.Logic.{◌⊎◌, inl, inr}
use mathlib.Core.Bool.{Bool, true, false}
use mathlib.Core.List.{List, [], ◌∷◌}
use Prim.Native.Nat.{ℕ, zero, suc, ◌+◌, ◌*◌, ◌≤◌, ◌<◌}
use native.Mathlib.Omega.{arith}
use lib.ListN.{get_or}
use borrow.Author.Tests.{ltb-true}
use Rattle.numbers.specs.Order.{up_from, keep}
use Rattle.numbers.proofs.order.Laws.{All, keep_yes, keep_no}
use Rattle.numbers.proofs.order.Merging.{le_or_lt}
use Rattle.network.specs.Words.{is_occupied, occupied}
use Rattle.network.specs.Views.{counts_in}
use Rattle.network.proofs.Occupied.{passed_all, is_occupied_lem, count_at}
use Rattle.network.proofs.Rest.{onward, onward_start, onward_yes, onward_no, onward_end}
use Rattle.boxes.specs.Stages.Cells.{In}
use Rattle.boxes.specs.Stages.Cells.In.{front, later}

-- ---- numbers of a list
pub all_in : (P : ℕ → Type 0) (l : List ℕ) → All P l → (x : ℕ) → In x l → P x
all_in P [] a x i = elim i [ ]
all_in P (y ∷ l) a x (front ys) = a.0
all_in P (y ∷ l) a x (later z ys i) = all_in P l a.1 x i

front_or_later : (x y : ℕ) (l : List ℕ) → In x (y ∷ l) → (x ≡ y) ⊎ In x l
front_or_later x y l (front ys) = inl refl
front_or_later x y l (later z ys i) = inr i

module _ (p : ℕ → Bool) where
  kept_more : (x y : ℕ) (l : List ℕ) → In x (keep p l) → In x (keep p (y ∷ l))
  kept_more x y l i = go (p y) refl
    where
      go : (t : Bool) → p y ≡ t → In x (keep p (y ∷ l))
      go true e = subst (In x) (sym (keep_yes p y l e)) (later y (keep p l) i)
      go false e = subst (In x) (sym (keep_no p y l e)) i

  in_keep : (a n x : ℕ) → a ≤ x → x < a + n → p x ≡ true → In x (keep p (up_from a n))
  unfolding up_from
  in_keep a zero x h k t = absurd (none a x h k)
    where
      none : (a x : ℕ) → a ≤ x → x < a + 0 → ⊥
      none a x h k = omega arith
  in_keep a (suc n) x h k t = go (λ g. in_keep (suc a) n x g (omega arith) t) (le_or_lt x a)
    where
      go : (a < x → In x (keep p (up_from (suc a) n))) → (x ≤ a) ⊎ (a < x) → In x (keep p (a ∷ up_from (suc a) n))
      go f (inl g) = let e : a ≡ x = omega arith in subst (λ (y : ℕ). In x (keep p (y ∷ up_from (suc a) n))) (sym e) (subst (In x) (sym (keep_yes p x (up_from (suc a) n) t)) (front (keep p (up_from (suc a) n))))
      go f (inr g) = kept_more x a (up_from (suc a) n) (f g)

  of_keep : (a n x : ℕ) → In x (keep p (up_from a n)) → (x < a + n) × (p x ≡ true)
  unfolding up_from keep
  of_keep a zero x i = elim i [ ]
  of_keep a (suc n) x i = go (λ j. of_keep (suc a) n x j) (p a) refl
    where
      less : (a n x : ℕ) → x < suc a + n → x < a + suc n
      less a n x h = omega arith

      first : (a n : ℕ) → a < a + suc n
      first a n = omega arith

      head : (x ≡ a) ⊎ In x (keep p (up_from (suc a) n)) → p a ≡ true → (In x (keep p (up_from (suc a) n)) → (x < suc a + n) × (p x ≡ true)) → (x < a + suc n) × (p x ≡ true)
      head (inl h) e f = (subst (λ (y : ℕ). y < a + suc n) (sym h) (first a n), subst (λ (y : ℕ). p y ≡ true) (sym h) e)
      head (inr j) e f = (less a n x (f j).0, (f j).1)

      go : (In x (keep p (up_from (suc a) n)) → (x < suc a + n) × (p x ≡ true)) → (t : Bool) → p a ≡ t → (x < a + suc n) × (p x ≡ true)
      go f true e = head (front_or_later x a (keep p (up_from (suc a) n)) (subst (In x) (keep_yes p a (up_from (suc a) n) e) i)) e f
      go f false e = let r = f (subst (In x) (keep_no p a (up_from (suc a) n) e) i) in (less a n x r.0, r.1)

module _ (k : ℕ) (st : List ℕ) where
  pub in_occupied : (s : ℕ) → s < k → 0 < get_or st (2 * s) 0 → In s (occupied (counts_in k st))
  in_occupied s h g = subst (In s) (passed_all k st) (in_keep (is_occupied (counts_in k st)) 0 k s (omega arith) (omega arith) (is_occupied_lem k s st h g))

  pub of_occupied : (s : ℕ) → In s (occupied (counts_in k st)) → (s < k) × (0 < get_or st (2 * s) 0)
  of_occupied s i =
      let r = of_keep (is_occupied (counts_in k st)) 0 k s (subst (In s) (sym (passed_all k st)) i) in
      let h : s < k = omega (arith, r.0) in
      (h, subst (λ (n : ℕ). 0 < n) (count_at k s st h) (ltb-true 0 (get_or (counts_in k st) s 0) r.1))

  -- ---- what holds of all, station by station
  module _ (P : ℕ → Type 0) where
    unfoldable pub Left : ℕ → Type 0
    Left s = All P (onward k st s) → All P (occupied (counts_in k st))

    pub left_start : Left 0
    unfolding Left
    left_start h = subst (All P) (onward_start k st) h

    pub left_yes : (s : ℕ) → s < k → 0 < get_or st (2 * s) 0 → P s → Left s → Left (s + 1)
    unfolding Left
    left_yes s h o p g r = g (subst (All P) (sym (onward_yes k st s h o)) (p, r))

    pub left_no : (s : ℕ) → s < k → get_or st (2 * s) 0 ≤ 0 → Left s → Left (s + 1)
    unfolding Left
    left_no s h o g r = g (subst (All P) (sym (onward_no k st s h o)) r)

    pub left_end : (s : ℕ) → k ≤ s → Left s → All P (occupied (counts_in k st))
    unfolding Left
    left_end s h g = g (subst (All P) (sym (onward_end k st s h)) tt)
