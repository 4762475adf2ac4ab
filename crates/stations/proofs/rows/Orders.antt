-- Places in an order of numbers: the lower of two places holds the number that stands before the other. Assumes nothing.
--     chain_order     in a list that is in the order R, places and R say the same
--     place_order     so do the counts of those that stand before, among the numbers below n that pass a test
use mathlib.Core.Path.{◌≡◌, refl, sym, ap, subst, ◌∙◌}
use mathlib.Core.Logic.{◌⊎◌, inl, inr, ⊎_elim}
use mathlib.Core.Bool.{Bool, true, false, true≢false}
use mathlib.Core.List.{List, [], ◌∷◌}
use Prim.Native.Nat.{ℕ, zero, suc, ◌≤◌, ◌<◌}
use native.Mathlib.Nat.{not-suc-le-zero, le_of_suc-le-suc, eq-or-lt_of_le}
use native.Mathlib.Omega.{arith}
use borrow.Author.Tests.{lt-ltb, le-ltb, ltb-true, eq-eqb, eqb-true}
use lib.Dec.{ltb, eqb}
use lib.ListN.{length, get_or}
use Rattle.numbers.specs.Order.{pick, sort_by, up_from, keep, before}
use Rattle.numbers.proofs.order.Merging.{le_or_lt, length_sort}
use Rattle.numbers.proofs.order.Laws.{Chain, all_at, chain_up, chain_keep, chain_sort, length_keep}
use Rattle.stations.proofs.rows.RowLaw.{place, has_place}

module _ (R : ℕ → ℕ → Bool) where
  chain_self : (l : List ℕ) (i : ℕ) → i < length l → Chain R l → R (get_or l i 0) (get_or l i 0) ≡ false
  chain_self [] i h c = absurd (not-suc-le-zero h)
  chain_self (x ∷ xs) zero h c = c.0
  chain_self (x ∷ xs) (suc i) h c = chain_self xs i (le_of_suc-le-suc h) c.2

  chain_pair : (l : List ℕ) (i j : ℕ) → i < j → j < length l → Chain R l → (R (get_or l i 0) (get_or l j 0) ≡ true) × (R (get_or l j 0) (get_or l i 0) ≡ false)
  chain_pair [] i j h k c = absurd (not-suc-le-zero k)
  chain_pair (x ∷ xs) i zero h k c = absurd (not-suc-le-zero h)
  chain_pair (x ∷ xs) zero (suc j) h k c = all_at (λ y. (R x y ≡ true) × (R y x ≡ false)) xs j (le_of_suc-le-suc k) c.1
  chain_pair (x ∷ xs) (suc i) (suc j) h k c = chain_pair xs i j (le_of_suc-le-suc h) (le_of_suc-le-suc k) c.2

  pub chain_order : (l : List ℕ) → Chain R l → (i j : ℕ) → i < length l → j < length l
      → (i < j → R (get_or l i 0) (get_or l j 0) ≡ true) × (R (get_or l i 0) (get_or l j 0) ≡ true → i < j)
  chain_order l c i j h k = (λ m. (chain_pair l i j m k c).0, λ e. go e (le_or_lt j i))
    where
      go : R (get_or l i 0) (get_or l j 0) ≡ true → (j ≤ i) ⊎ (i < j) → i < j
      go e (inr m) = m
      go e (inl m) = ⊎_elim
          (λ (q : j ≡ i). absurd (true≢false (sym e ∙ subst (λ (z : ℕ). R (get_or l i 0) (get_or l z 0) ≡ false) (sym q) (chain_self l i h c))))
          (λ (q : j < i). absurd (true≢false (sym e ∙ (chain_pair l j i q h c).1)))
          (eq-or-lt_of_le m)

-- of the numbers below n that pass p, in the order of their keys and then by number
module _ (key : ℕ → ℕ) (p : ℕ → Bool) (n : ℕ) where
  abbrev kept : List ℕ
  kept = keep p (up_from 0 n)

  abbrev sorted : List ℕ
  sorted = sort_by key kept

  in_order : Chain (before key ltb) sorted
  in_order = chain_sort key ltb kept (chain_keep ltb p (up_from 0 n) (chain_up 0 n))

  within : (i : ℕ) → i < n → p i ≡ true → place key p n i < length sorted
  within i h e = subst (λ (w : ℕ). place key p n i < w) (sym (length_sort key kept ∙ length_keep p (up_from 0 n))) (has_place key p n i h e).0

  pub place_order : (i j : ℕ) → i < n → p i ≡ true → j < n → p j ≡ true
      → (place key p n i < place key p n j → before key ltb i j ≡ true) × (before key ltb i j ≡ true → place key p n i < place key p n j)
  place_order i j h e k f =
      let c = chain_order (before key ltb) sorted in_order (place key p n i) (place key p n j) (within i h e) (within j k f) in
      let a : get_or sorted (place key p n i) 0 ≡ i = (has_place key p n i h e).1 in
      let b : get_or sorted (place key p n j) 0 ≡ j = (has_place key p n j k f).1 in
      subst (λ (x : ℕ). (place key p n i < place key p n j → before key ltb x j ≡ true) × (before key ltb x j ≡ true → place key p n i < place key p n j)) a
      (subst (λ (y : ℕ). (place key p n i < place key p n j → before key ltb (get_or sorted (place key p n i) 0) y ≡ true) × (before key ltb (get_or sorted (place key p n i) 0) y ≡ true → place key p n i < place key p n j)) b c)

-- what `before` says of two keys
module _ (key : ℕ → ℕ) (R : ℕ → ℕ → Bool) where
  abbrev Before : ℕ → ℕ → Type 0
  Before i j = (key i < key j) ⊎ ((key i ≡ key j) × (R i j ≡ true))

  pub before_told : (i j : ℕ) → before key R i j ≡ true → (key i < key j) ⊎ ((key i ≡ key j) × (R i j ≡ true))
  before_told i j h = go (ltb (key i) (key j)) refl (eqb (key i) (key j)) refl h
    where
      go : (u : Bool) → ltb (key i) (key j) ≡ u → (v : Bool) → eqb (key i) (key j) ≡ v → pick u true (pick v (R i j) false) ≡ true → Before i j
      go true e v f t = inl (ltb-true (key i) (key j) e)
      go false e true f t = inr (eqb-true (key i) (key j) f, t)
      go false e false f t = absurd (true≢false (sym t))

  pub before_tells : (i j : ℕ) → (key i < key j) ⊎ ((key i ≡ key j) × (R i j ≡ true)) → before key R i j ≡ true
  before_tells i j (inl h) = ap (λ (u : Bool). pick u true (pick (eqb (key i) (key j)) (R i j) false)) (lt-ltb (key i) (key j) h)
  before_tells i j (inr h) =
      ap (λ (u : Bool). pick u true (pick (eqb (key i) (key j)) (R i j) false)) (le-ltb (key i) (key j) (omega (arith, h.0)))
      ∙ ap (λ (v : Bool). pick v (R i j) false) (eq-eqb (key i) (key j) h.0) ∙ h.1
