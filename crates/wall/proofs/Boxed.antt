-- Places and boxes of a drawing: what each station's box is, and where no two overlap. Assumes nothing.
use Prim.Native.Nat.{ℕ, zero, suc, ◌≤◌, ◌<◌}
use mathlib.Core.Path.{◌≡◌, refl, sym, ap, subst, ◌∙◌}
use mathlib.Core.Logic.{⊎_elim, ◌≢◌}
use mathlib.Core.Bool.{true, true≢false}
use mathlib.Core.List.{List, map}
use native.Mathlib.Nat.{not-suc-le-zero, le_of_suc-le-suc, eq-or-lt_of_le, le_of_lt}
use native.Mathlib.Omega.{arith}
use lib.Dec.{T, ltb}
use lib.ListN.{length, get_or, take, get_or-eq_default}
use lib.Seq.{get_or-set_other, get_or-take, length-take-le}
use Rattle.numbers.specs.Order.{sort_by}
use Rattle.numbers.proofs.order.Merging.{le_or_lt}
use Rattle.numbers.proofs.order.Laws.{all_at, all_sort}
use Rattle.numbers.proofs.order.Tables.{all_which}
use Rattle.plane.specs.declared.geometry.Point.{Point}
use Rattle.plane.specs.declared.geometry.Box.{Box}
use Rattle.plane.specs.Plane.{origin}
use Rattle.network.specs.Words.{is_occupied, occupied}
use Rattle.network.specs.Seed.{place_at}
use Rattle.stations.specs.Column.{falling}
use Rattle.offsets.specs.declared.offset.Offset.{Offset}
use Rattle.placement.specs.Place.{box_of, places_to, places, found_free}
use Rattle.placement.specs.Search.{HalfSides, half_sides_at, box_on, buffered, free, place_for}
use Rattle.placement.specs.Turns.{top_to, placement_order}
use Rattle.placement.specs.Stages.Listed.{Turns}
use Rattle.numbers.proofs.order.Sorting.{map_agree}
use Rattle.placement.proofs.Placing.{all_of_lem}
use Rattle.placement.proofs.PlaceLaw.{first_free_of}
use Rattle.placement.specs.Search.{FirstOf, tries}

-- an occupied station's number is one of a station
pub below_count : (counts : List ℕ) (s : ℕ) → is_occupied counts s ≡ true → s < length counts
below_count counts s o = ⊎_elim
    (λ (h : length counts ≤ s). absurd (true≢false (sym o ∙ ap (ltb 0) (get_or-eq_default counts 0 {n = s} h))))
    (λ (h : s < length counts). h)
    (le_or_lt (length counts) s)

-- every station of the order is occupied
pub order_occupied : (sub kv counts : List ℕ) (i : ℕ) → i < length (placement_order sub kv counts)
    → is_occupied counts (get_or (placement_order sub kv counts) i 0) ≡ true
unfolding placement_order occupied
order_occupied sub kv counts i h =
    all_at (λ s. is_occupied counts s ≡ true) (placement_order sub kv counts) i h
    (all_sort (λ s. falling (top_to sub kv s (length sub))) (λ s. is_occupied counts s ≡ true) (sort_by (λ s. falling (get_or counts s 0)) (occupied counts))
    (all_sort (λ s. falling (get_or counts s 0)) (λ s. is_occupied counts s ≡ true) (occupied counts)
    (all_which (is_occupied counts) (λ s. is_occupied counts s ≡ true) (length counts) (λ s l o. o))))

-- the first free place, by equal half sides and boxes
pub first_moved : (r r' : HalfSides) (q q' : List Box) (seed c : Point) (os : List Offset) → r ≡ r' → q ≡ q' → c ≡ place_for seed r q os
    → FirstOf (λ d. free (buffered d r') q') (tries seed r'.half os) seed c
first_moved r r' q q' seed c os e f g =
    subst (λ (x : HalfSides). FirstOf (λ d. free (buffered d x) q') (tries seed x.half os) seed c) e
    (subst (λ (x : List Box). FirstOf (λ d. free (buffered d r) x) (tries seed r.half os) seed c) f
    (subst (λ (x : Point). FirstOf (λ d. free (buffered d r) q) (tries seed r.half os) seed x) (sym g) (first_free_of seed r q os)))

-- a place that is free beside the finished boxes was free when it was taken
module _ (fs : List HalfSides) (os : List Offset) (seeds : List Point) (order : List ℕ) (T : Turns (length seeds) order) where
  abbrev at : ℕ → List Point
  at i = places_to fs os seeds order i

  keeps : (j i : ℕ) → i < j → j ≤ length order → place_at (at j) (get_or order i 0) ≡ place_at (at (suc i)) (get_or order i 0)
  unfolding places_to
  keeps zero i h l = absurd (not-suc-le-zero h)
  keeps (suc j) i h l = ⊎_elim
      (λ (e : i ≡ j). subst (λ (k : ℕ). place_at (at (suc j)) (get_or order i 0) ≡ place_at (at (suc k)) (get_or order i 0)) (sym e) refl)
      (λ (k : i < j).
      get_or-set_other (at j) (get_or order j 0) (get_or order i 0) _ origin (λ (e : get_or order i 0 ≡ get_or order j 0). let z : i ≡ j = T.once i j (omega arith) l e in omega arith)
      ∙ keeps j i k (le_of_lt l))
      (eq-or-lt_of_le (le_of_suc-le-suc h))

  pub found_is : (i : ℕ) → i < length order
      → found_free fs os seeds order i
      ≡ free (buffered (place_at (places fs os seeds order) (get_or order i 0)) (half_sides_at fs (get_or order i 0))) (map (box_of fs (places fs os seeds order)) (take i order))
  unfolding found_free box_of places
  found_is i h =
      let s = get_or order i 0 in
      let l : i ≤ length order = omega arith in
      ap (free (buffered (place_at (at (length order)) s) (half_sides_at fs s)))
      (map_agree (box_of fs (at i)) (box_of fs (at (length order))) (take i order) (all_of_lem (λ t. box_of fs (at i) t ≡ box_of fs (at (length order)) t) (take i order) (λ j q.
      let k : j < i = subst (λ (n : ℕ). j < n) (length-take-le i order l) q in
      let e : get_or (take i order) j 0 ≡ get_or order j 0 = get_or-take i order j 0 k in
      subst (λ (t : ℕ). box_of fs (at i) t ≡ box_of fs (at (length order)) t) (sym e)
      (ap (λ (c : Point). box_on c (half_sides_at fs (get_or order j 0)).half) (keeps i j k l ∙ sym (keeps (length order) j (omega arith) (omega arith)))))))
