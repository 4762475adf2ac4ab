-- The numbers of points by rising x: each stands at one place, and x does not fall. Assumes nothing.
use mathlib.Core.Path.{◌≡◌, refl, sym, ap, ◌∙◌, subst}
use mathlib.Core.Bool.{Bool}
use mathlib.Core.List.{List, [], ◌∷◌, ◌++◌}
use Prim.Native.Nat.{ℕ, zero, suc, ◌+◌, ◌-◌, ◌≤◌, ◌<◌}
use native.Mathlib.Omega.{arith}
use lib.Dec.{T}
use lib.ListN.{length, get_or, take, drop, length-append}
use lib.Seq.{get_or-take, get_or-drop, get_or_at, take_at, take-take}
use lib.Ieee.{Float, le}
use Rattle.numbers.specs.Order.{pick, sort_by, up_from, count, rank}
use Rattle.numbers.specs.Table.{how_many}
use Rattle.numbers.proofs.order.Merging.{length_sort}
use Rattle.numbers.proofs.order.Laws.{length_up, sorted, below_sort, place_law, rank_found, count_sort}
use Rattle.numbers.proofs.order.Tables.{how_many_zero, how_many_ext}
use Rattle.plane.specs.Stages.Sweep.{x_at, x_key, Swept}

-- the elements from place a to before n, lent as a part of a list
pub in_part : (o : List ℕ) (a n i : ℕ) → i < n - a → get_or (take (n - a) (drop a o)) i 0 ≡ get_or o (a + i) 0
in_part o a n i h = get_or-take (n - a) (drop a o) i 0 h ∙ get_or-drop a o i 0

-- what is left, r, of the front of a list that is read from its end: the last element read, j, and what is left after it
module _ (r s : List ℕ) (j : ℕ) (f : r ≡ s ++ j ∷ []) where
  pub back_length : length r ≡ length s + 1
  back_length = ap length f ∙ length-append s (j ∷ [])

  module _ (o : List ℕ) (e : r ≡ take (length r) o) where
    pub back_rest : s ≡ take (length s) o
    back_rest =
        sym (take_at s (j ∷ []) (length s) refl) ∙ ap (take (length s)) (sym f ∙ e) ∙ take-take (length s) (length r) o (omega (arith, back_length))

    pub back_item : j ≡ get_or o (length s) 0
    back_item =
        sym (get_or_at s j [] 0 (length s) refl) ∙ ap (λ (l : List ℕ). get_or l (length s) 0) (sym f ∙ e) ∙ get_or-take (length r) o (length s) 0 (omega (arith, back_length))

-- a count by places
count_later : (p : ℕ → Bool) (a n : ℕ) → count p (up_from (suc a) n) ≡ count (λ q. p (suc q)) (up_from a n)
unfolding count up_from
count_later p a zero = refl
count_later p a (suc n) = ap (λ (c : ℕ). pick (p (suc a)) (suc c) c) (count_later p (suc a) n)

count_places : (p : ℕ → Bool) (l : List ℕ) → how_many (λ q. p (get_or l q 0)) (length l) ≡ count p l
unfolding count up_from
count_places p [] = refl
count_places p (x ∷ xs) = ap (λ (c : ℕ). pick (p x) (suc c) c) (count_later (λ q. p (get_or (x ∷ xs) q 0)) 0 (length xs) ∙ count_places p xs)

module _ (ps : List Float) (n : ℕ) (o : List ℕ) (S : Swept ps n o) where
  abbrev order : List ℕ
  order = sort_by (x_key ps) (up_from 0 n)

  at_place : (q : ℕ) → q < n → get_or o q 0 ≡ get_or order q 0
  at_place q h = sym (get_or-take n o q 0 h) ∙ ap (λ (l : List ℕ). get_or l q 0) S.listed

  pub place_below : (q : ℕ) → q < n → get_or o q 0 < n
  place_below q h = subst (λ (j : ℕ). j < n) (sym (at_place q h)) (below_sort (x_key ps) n q h)

  -- the last element of what is left of their front
  pub back_below : (r s : List ℕ) (j : ℕ) → r ≡ s ++ j ∷ [] → r ≡ take (length r) o → length r ≤ n → j < n
  back_below r s j f e h = subst (λ (i : ℕ). i < n) (sym (back_item r s j f o e)) (place_below (length s) (omega (arith, back_length r s j f)))

  pub place_rising : (i j : ℕ) → i ≤ j → j < n → T (le (x_at ps (get_or o i 0)) (x_at ps (get_or o j 0)))
  place_rising i j h k =
      let g : i < n = omega arith in
      let l : j < length (up_from 0 n) = rw (length_up 0 n) k in
      S.rising (get_or o i 0) (get_or o j 0) (place_below i g) (place_below j k)
      (subst (λ (t : ℕ). (x_key ps) t ≤ (x_key ps) (get_or o j 0)) (sym (at_place i g))
      (subst (λ (t : ℕ). (x_key ps) (get_or order i 0) ≤ (x_key ps) t) (sym (at_place j k)) (sorted (x_key ps) (up_from 0 n) i j h l)))

  -- no number stands at two places, and each stands at one
  pub place_once : (q c : ℕ) → q < n → c < n → get_or o q 0 ≡ get_or o c 0 → q ≡ c
  place_once q c h k e =
      sym (place_law (x_key ps) n q h) ∙ ap (rank (x_key ps) n) (sym (at_place q h) ∙ e ∙ at_place c k) ∙ place_law (x_key ps) n c k

  pub entry_of : (j : ℕ) → j < n → (q : ℕ) × (q < n) × (get_or o q 0 ≡ j)
  entry_of j h = let r = rank_found (x_key ps) n j h in (rank (x_key ps) n j, r.0, at_place (rank (x_key ps) n j) r.0 ∙ r.1)

  -- as many of the first n numbers pass a test as of those at the places
  pub place_count : (p : ℕ → Bool) → how_many (λ q. p (get_or o q 0)) n ≡ how_many p n
  place_count p =
      let e : length order ≡ n = length_sort (x_key ps) (up_from 0 n) ∙ length_up 0 n in
      how_many_ext (λ q. p (get_or o q 0)) (λ q. p (get_or order q 0)) n (λ q h. ap p (at_place q h))
      ∙ ap (how_many (λ q. p (get_or order q 0))) (sym e) ∙ count_places p order ∙ count_sort (x_key ps) p (up_from 0 n)

-- a scan backwards along the order, from nothing counted on
pub ruleset left_laws = (back_below, how_many_zero)
