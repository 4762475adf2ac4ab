-- The pairs of a list's stations, each with those behind it, are the overlaps of the list, in whatever order it stands. Assumes nothing.
use mathlib.Core.Path.{◌≡◌, refl, ap, ◌∙◌}
use mathlib.Core.Logic.{◌⊎◌, inl, inr, ⊎_elim}
use mathlib.Core.Bool.{Bool, true, false, ◌&&◌, ◌||◌, true≢false}
use mathlib.Core.List.{List, [], ◌∷◌}
use Prim.Native.Nat.{ℕ, suc, ◌+◌, ◌≤◌, ◌<◌}
use native.Mathlib.Omega.{arith}
use borrow.Author.Tests.{le-ltb}
use Rattle.numbers.specs.Order.{pick, count, insert_by, sort_by}
use Rattle.numbers.proofs.order.Merging.{le_or_lt, insert_here, insert_past}
use Rattle.numbers.proofs.order.Laws.{count_sort}
use Rattle.plane.specs.declared.geometry.Box.{Box}
use Rattle.plane.specs.Plane.{shrunk, box_in}
use Rattle.plane.specs.Overlap.{overlap}
use Rattle.audit.specs.Overlaps.{overlapping, overlapping_pairs, overlaps}
use Rattle.audit.specs.Stages.Sweep.{either, pairs}

module _ (bs : List Box) where
  -- only the higher number of two is the first
  pub overlapping_low : (s t : ℕ) → s ≤ t → overlapping bs s t ≡ false
  unfolding overlapping
  overlapping_low s t h = ap (λ (b : Bool). b && overlap (shrunk (box_in bs s)) (box_in bs t)) (le-ltb t s h)

  -- ---- one station more, as the higher and as the lower number
  both_ways : (s : ℕ) (l : List ℕ) → count (overlapping bs s) l + count (λ t. overlapping bs t s) l ≡ count (either bs s) l
  unfolding count either
  both_ways s [] = refl
  both_ways s (t ∷ ts) = go (overlapping bs s t) (overlapping bs t s) (⊎_elim (λ h. inl (overlapping_low s t h)) (λ h. inr (overlapping_low t s (under h))) (le_or_lt s t)) (both_ways s ts)
    where
      under : t < s → t ≤ s
      under h = omega arith

      go : (a b : Bool) → (a ≡ false) ⊎ (b ≡ false) → count (overlapping bs s) ts + count (λ t. overlapping bs t s) ts ≡ count (either bs s) ts
          → pick a (suc (count (overlapping bs s) ts)) (count (overlapping bs s) ts) + pick b (suc (count (λ t. overlapping bs t s) ts)) (count (λ t. overlapping bs t s) ts)
          ≡ pick (a || b) (suc (count (either bs s) ts)) (count (either bs s) ts)
      go true true (inl e) q = absurd (true≢false e)
      go true true (inr e) q = absurd (true≢false e)
      go true false e q = omega (arith, q)
      go false true e q = omega (arith, q)
      go false false e q = q

  with_lower : (s : ℕ) (ss higher : List ℕ) → overlapping_pairs bs (s ∷ ss) higher ≡ count (λ t. overlapping bs t s) higher + overlapping_pairs bs ss higher
  unfolding overlapping_pairs count
  with_lower s ss [] = refl
  with_lower s ss (t ∷ ts) = go (overlapping bs t s) (with_lower s ss ts)
    where
      go : (a : Bool) → overlapping_pairs bs (s ∷ ss) ts ≡ count (λ t. overlapping bs t s) ts + overlapping_pairs bs ss ts
          → pick a (suc (count (overlapping bs t) ss)) (count (overlapping bs t) ss) + overlapping_pairs bs (s ∷ ss) ts
          ≡ pick a (suc (count (λ t. overlapping bs t s) ts)) (count (λ t. overlapping bs t s) ts) + (count (overlapping bs t) ss + overlapping_pairs bs ss ts)
      go true q = omega (arith, q)
      go false q = omega (arith, q)

  pairs_all : (l : List ℕ) → pairs bs l ≡ overlapping_pairs bs l l
  unfolding pairs overlapping_pairs count
  pairs_all [] = refl
  pairs_all (s ∷ ss) =
      let own : count (overlapping bs s) (s ∷ ss) ≡ count (overlapping bs s) ss = ap (λ (b : Bool). pick b (suc (count (overlapping bs s) ss)) (count (overlapping bs s) ss)) (overlapping_low s s (omega arith)) in
      omega (arith, own, both_ways s ss, with_lower s ss ss, pairs_all ss)

  -- ---- the order doesn't matter
  module _ (key : ℕ → ℕ) (ss : List ℕ) where
    higher_insert : (x : ℕ) (l : List ℕ) → overlapping_pairs bs ss (insert_by key x l) ≡ count (overlapping bs x) ss + overlapping_pairs bs ss l
    unfolding overlapping_pairs insert_by
    higher_insert x [] = refl
    higher_insert x (y ∷ ys) = ⊎_elim
        (λ (h : key x ≤ key y). ap (overlapping_pairs bs ss) (insert_here key x y ys h))
        (λ (h : key y < key x). let e : overlapping_pairs bs ss (insert_by key x (y ∷ ys)) ≡ count (overlapping bs y) ss + overlapping_pairs bs ss (insert_by key x ys) = ap (overlapping_pairs bs ss) (insert_past key x y ys h) in
        omega (arith, e, higher_insert x ys))
        (le_or_lt (key x) (key y))

    higher_sort : (l : List ℕ) → overlapping_pairs bs ss (sort_by key l) ≡ overlapping_pairs bs ss l
    unfolding overlapping_pairs sort_by
    higher_sort [] = refl
    higher_sort (x ∷ xs) = higher_insert x (sort_by key xs) ∙ ap (λ (n : ℕ). count (overlapping bs x) ss + n) (higher_sort xs)

    lower_sort : (l : List ℕ) → overlapping_pairs bs (sort_by key ss) l ≡ overlapping_pairs bs ss l
    unfolding overlapping_pairs
    lower_sort [] = refl
    lower_sort (x ∷ xs) = let e : count (overlapping bs x) (sort_by key ss) ≡ count (overlapping bs x) ss = count_sort key (overlapping bs x) ss in omega (arith, e, lower_sort xs)

  pub pairs_sorted : (key : ℕ → ℕ) (ss : List ℕ) → pairs bs (sort_by key ss) ≡ overlaps bs ss
  unfolding overlaps
  pairs_sorted key ss = pairs_all (sort_by key ss) ∙ lower_sort key ss (sort_by key ss) ∙ higher_sort key ss ss
