-- The search box by box and offset by offset: whether a place is free, and the first that is. Assumes nothing.
use mathlib.Core.Path.{◌≡◌, refl, sym, ap, subst, ◌∙◌}
use mathlib.Core.Bool.{Bool, true, false, not, ◌&&◌}
use mathlib.Core.List.{List, [], ◌∷◌, map}
use Prim.Native.Nat.{ℕ, zero, suc, ◌+◌, ◌-◌, ◌*◌, ◌≤◌, ◌<◌}
use native.Mathlib.Omega.{arith}
use native.Mathlib.Numerals.{add-one}
use lib.Dec.{ltb, eqb, eqb-suc-zero}
use lib.IntN.{pos}
use lib.ListN.{length, get_or, take, drop}
use lib.Seq.{length-take-le, get_or-take, drop-cons}
use lib.Ieee.{Float}
use Rattle.std.proofs.lemmas.List.{drop_all}
use Rattle.numbers.specs.Ops.{f1, f2, f4}
use Rattle.numbers.specs.Order.{pick, count}
use Rattle.numbers.proofs.order.Laws.{All, all_at}
use Rattle.plane.specs.declared.geometry.Point.{Point}
use Rattle.plane.specs.declared.geometry.Box.{Box}
use Rattle.plane.specs.Plane.{box_at}
use Rattle.plane.specs.Overlap.{overlap}
use Rattle.plane.specs.declared.box_order.TestedPart.{TestedPart}
use Rattle.plane.specs.Stages.Cells.{cell_key, from}
use Rattle.plane.specs.Stages.Kept.{Bounds}
use Rattle.plane.proofs.cells.CellOrder.{tested_part_count}
use Rattle.plane.proofs.cells.CellHalving.{count_length}
use Rattle.plane.proofs.box_order.Keeping.{same_length, tested_part_is}
use Rattle.offsets.specs.declared.offset.Offset.{Offset}
use Rattle.std.specs.Prelude.{Option, Some, None, unwrap_or}
use Rattle.std.specs.Option.{option_or}
use Rattle.placement.specs.Search.{HalfSides, free, place, buffered, first_free, place_for, found_place}
use Rattle.offset_table.specs.Table.{inside, skipped, pair_at}
use Rattle.placement.specs.Stages.Among.{kept_boxes, boxes_among, Holds}

-- ---- free, by counting
pub free_count : (box : ℕ → Box) (p : Box) (l : List ℕ) → free p (map box l) ≡ eqb (count (λ s. overlap p (box s)) l) 0
unfolding free count
free_count box p [] = refl
free_count box p (x ∷ xs) = go (overlap p (box x)) (free_count box p xs)
  where
    go : (o : Bool) → free p (map box xs) ≡ eqb (count (λ s. overlap p (box s)) xs) 0
        → (not o && free p (map box xs)) ≡ eqb (pick o (suc (count (λ s. overlap p (box s)) xs)) (count (λ s. overlap p (box s)) xs)) 0
    go true ih = sym (eqb-suc-zero (count (λ s. overlap p (box s)) xs))
    go false ih = ih

-- ---- whether p overlaps none of the boxes of a tested part, by those from the j-th on
abbrev pub Free : Box → List Float → List ℕ → ℕ → ℕ → ℕ → Type 0
Free p fs sorted first end j = free p (boxes_among fs j end sorted) ≡ free p (boxes_among fs first end sorted)

module _ (p : Box) (fs : List Float) (sorted : List ℕ) (first end : ℕ) (l : end ≤ length sorted) (I : All (λ s. 4 * s + 3 < length fs) (take end sorted)) where
  module _ (j : ℕ) (h : j < end) where
    pub box_in : 4 * get_or sorted j 0 + 3 < length fs
    box_in =
        subst (λ (s : ℕ). 4 * s + 3 < length fs) (get_or-take end sorted j 0 h)
        (all_at (λ s. 4 * s + 3 < length fs) (take end sorted) j (omega (arith, length-take-le end sorted l)) I)

    among_more : take (end - j) (drop j sorted) ≡ get_or sorted j 0 ∷ take (end - (j + 1)) (drop (j + 1) sorted)
    among_more =
        let e : end - j ≡ suc (end - (j + 1)) = omega arith in
        ap (λ (m : ℕ). take m (drop j sorted)) e
        ∙ ap (take (suc (end - (j + 1)))) (drop-cons sorted j 0 (omega arith))
        ∙ ap (λ (i : ℕ). get_or sorted j 0 ∷ take (end - (j + 1)) (drop i sorted)) (sym (add-one j))

    module _ (b : Bool) (B : b ≡ overlap p (box_at fs (get_or sorted j 0))) where
      free_at : free p (boxes_among fs j end sorted) ≡ not b && free p (boxes_among fs (j + 1) end sorted)
      unfolding free
      free_at = ap (λ (m : List ℕ). free p (map (box_at fs) m)) among_more ∙ ap (λ (x : Bool). not x && free p (boxes_among fs (j + 1) end sorted)) (sym B)

      pub free_hit : b ≡ true → Free p fs sorted first end j → false ≡ free p (boxes_among fs first end sorted)
      free_hit t i = sym (free_at ∙ ap (λ (x : Bool). not x && free p (boxes_among fs (j + 1) end sorted)) t) ∙ i

      pub free_miss : b ≡ false → Free p fs sorted first end j → Free p fs sorted first end (j + 1)
      free_miss t i = sym (free_at ∙ ap (λ (x : Bool). not x && free p (boxes_among fs (j + 1) end sorted)) t) ∙ i

  pub free_end : (j : ℕ) → end ≤ j → Free p fs sorted first end j → true ≡ free p (boxes_among fs first end sorted)
  unfolding free
  free_end j h i =
      let e : end - j ≡ 0 = omega arith in
      sym (ap (λ (m : ℕ). free p (map (box_at fs) (take m (drop j sorted)))) e) ∙ i

-- ---- the boxes of the tested part that can overlap answer for all that are kept
all_front : (P : ℕ → Type 0) (a : ℕ) (l : List ℕ) → All P l → All P (take a l)
all_front P zero l A = tt
all_front P (suc a) [] A = tt
all_front P (suc a) (x ∷ l) A = (A.0, all_front P a l A.1)

module _ (unit : Float) (p : Box) (fs : List Float) (most : ℕ) (keys sorted : List ℕ) (H : Holds unit fs most keys sorted) (t : TestedPart)
    (B : Bounds unit p.left p.right most keys t) where
  end_most : t.end ≤ length sorted
  unfolding from
  end_most = omega (arith, B.ends, count_length (λ x. ltb x (cell_key unit p.right + 1)) keys, same_length unit fs keys sorted H.kept.ordered)

  pub part_inside : (t.end ≤ length sorted) × All (λ s. 4 * s + 3 < length fs) (take t.end sorted)
  part_inside = (end_most, all_front (λ s. 4 * s + 3 < length fs) t.end sorted H.inside)

  pub part_free : free p (boxes_among fs t.first t.end sorted) ≡ free p (kept_boxes fs sorted)
  part_free =
      free_count (box_at fs) p (take (t.end - t.first) (drop t.first sorted))
      ∙ ap (λ (c : ℕ). eqb c 0)
      (ap (count (λ s. overlap p (box_at fs s))) (sym (tested_part_is unit fs keys sorted H.kept.ordered most p t.first t.end B.begins B.ends))
      ∙ sym (tested_part_count unit (box_at fs) sorted most p H.kept.ordered.order H.kept.wide))
      ∙ sym (free_count (box_at fs) p sorted)

-- ---- lists of boxes that are free of the same boxes
module _ (seed : Point) (r : HalfSides) (e e' : List Box) (f : (q : Box) → free q e ≡ free q e') where
  first_same : (widening : Float) (os : List Offset) → first_free seed r e widening os ≡ first_free seed r e' widening os
  unfolding first_free
  first_same widening [] = refl
  first_same widening (o ∷ os) =
      let c = place seed r.half widening o in
      ap (λ (b : Bool). pick b (Some c) (first_free seed r e widening os)) (f (buffered c r))
      ∙ ap (λ (l : Option Point). pick (free (buffered c r) e') (Some c) l) (first_same widening os)

  pub place_same : (os : List Offset) → place_for seed r e os ≡ place_for seed r e' os
  unfolding place_for
  place_same os =
      ap (λ (x : Option Point). unwrap_or x (unwrap_or (first_free seed r e f2 os) (unwrap_or (first_free seed r e f4 os) seed))) (first_same f1 os)
      ∙ ap (λ (x : Option Point). unwrap_or (first_free seed r e' f1 os) (unwrap_or x (unwrap_or (first_free seed r e f4 os) seed))) (first_same f2 os)
      ∙ ap (λ (x : Option Point). unwrap_or (first_free seed r e' f1 os) (unwrap_or (first_free seed r e' f2 os) (unwrap_or x seed))) (first_same f4 os)

  pub found_same : (os : List Offset) → found_place seed r e os ≡ found_place seed r e' os
  unfolding found_place
  found_same os =
      ap (λ (x : Option Point). option_or x (option_or (first_free seed r e f2 os) (first_free seed r e f4 os))) (first_same f1 os)
      ∙ ap (λ (x : Option Point). option_or (first_free seed r e' f1 os) (option_or x (first_free seed r e f4 os))) (first_same f2 os)
      ∙ ap (λ (x : Option Point). option_or (first_free seed r e' f1 os) (option_or (first_free seed r e' f2 os) x)) (first_same f4 os)

-- ---- the pairs from the j-th on
drop_more : (pairs : List Offset) (j : ℕ) → j < length pairs → drop j pairs ≡ pair_at pairs j ∷ drop (j + 1) pairs
unfolding pair_at
drop_more pairs j h = rw (add-one, drop-cons pairs j (record { a = pos 0; b = pos 0 }))

-- ---- the first free place among the pairs of a list within the search
module _ (seed : Point) (r : HalfSides) (earlier : List Box) (widening : Float) (pairs : List Offset) (search : ℕ) where
  abbrev found : List Offset → Option Point
  found os = first_free seed r earlier widening os

  abbrev spot : ℕ → Point
  spot j = place seed r.half widening (pair_at pairs j)

  -- the pairs from the j-th on
  abbrev pub onward : ℕ → List Offset
  onward j = skipped search (drop j pairs)

  abbrev all : Option Point
  all = found (skipped search pairs)

  abbrev pub First : ℕ → Type 0
  First j = first_free seed r earlier widening (onward j) ≡ first_free seed r earlier widening (skipped search pairs)

  pub first_start : First 0
  first_start = refl

  module _ (j : ℕ) (t : Bool) (o : Offset) (h : j < length pairs) (O : o ≡ pair_at pairs j) (I : t ≡ inside search o) where
    onward_at : onward j ≡ pick t (pair_at pairs j ∷ onward (j + 1)) (onward (j + 1))
    unfolding skipped
    onward_at =
        ap (skipped search) (drop_more pairs j h)
        ∙ ap (λ (x : Bool). pick x (pair_at pairs j ∷ onward (j + 1)) (onward (j + 1))) (sym (I ∙ ap (inside search) O))

    pub first_skip : t ≡ false → First j → First (j + 1)
    first_skip e i = sym (ap found (onward_at ∙ ap (λ (x : Bool). pick x (pair_at pairs j ∷ onward (j + 1)) (onward (j + 1))) e)) ∙ i

    module _ (e : t ≡ true) (c : Point) (p : Box) (b : Bool) (C : c ≡ place seed r.half widening o) (P : p ≡ buffered c r) (B : b ≡ free p earlier) (i : First j) where
      place_is : c ≡ spot j
      place_is = C ∙ ap (place seed r.half widening) O

      test_is : free (buffered (spot j) r) earlier ≡ b
      test_is = sym (B ∙ ap (λ (q : Box). free q earlier) (P ∙ ap (λ (x : Point). buffered x r) place_is))

      first_at : all ≡ pick b (Some c) (found (onward (j + 1)))
      unfolding first_free
      first_at =
          sym i ∙ ap found (onward_at ∙ ap (λ (x : Bool). pick x (pair_at pairs j ∷ onward (j + 1)) (onward (j + 1))) e)
          ∙ ap (λ (x : Bool). pick x (Some (spot j)) (found (onward (j + 1)))) test_is
          ∙ ap (λ (x : Point). pick b (Some x) (found (onward (j + 1)))) (sym place_is)

      pub first_hit : b ≡ true → Some c ≡ all
      first_hit y = sym (first_at ∙ ap (λ (x : Bool). pick x (Some c) (found (onward (j + 1)))) y)

      pub first_miss : b ≡ false → First (j + 1)
      first_miss y = sym (first_at ∙ ap (λ (x : Bool). pick x (Some c) (found (onward (j + 1)))) y)

  pub first_end : (j : ℕ) → length pairs ≤ j → First j → None ≡ all
  unfolding first_free skipped
  first_end j h i = sym (ap (λ (os : List Offset). found (skipped search os)) (drop_all j pairs h)) ∙ i

-- ---- the three widenings
module _ (seed : Point) (r : HalfSides) (earlier : List Box) (os : List Offset) where
  abbrev at2 : Option Point
  at2 = first_free seed r earlier f2 os

  abbrev at4 : Option Point
  at4 = first_free seed r earlier f4 os

  pub place_found : unwrap_or (found_place seed r earlier os) seed ≡ place_for seed r earlier os
  unfolding found_place place_for
  place_found = go (first_free seed r earlier f1 os) at2
    where
      go : (a b : Option Point) → unwrap_or (option_or a (option_or b at4)) seed ≡ unwrap_or a (unwrap_or b (unwrap_or at4 seed))
      go (Some x) b = refl
      go None (Some y) = refl
      go None None = refl

  module _ (o : Option Point) (O : o ≡ first_free seed r earlier f1 os) where
    tried : option_or o (option_or at2 at4) ≡ found_place seed r earlier os
    unfolding found_place
    tried = ap (λ (x : Option Point). option_or x (option_or at2 at4)) O

    pub found_near : (c : Point) → o ≡ Some c → Some c ≡ found_place seed r earlier os
    found_near c e = sym (ap (λ (x : Option Point). option_or x (option_or at2 at4)) e) ∙ tried

    module _ (e : o ≡ None) (p : Option Point) (P : p ≡ first_free seed r earlier f2 os) where
      tried_2 : option_or p at4 ≡ found_place seed r earlier os
      tried_2 =
          ap (λ (x : Option Point). option_or x at4) P
          ∙ sym (ap (λ (x : Option Point). option_or x (option_or at2 at4)) e) ∙ tried

      pub found_wide : (c : Point) → p ≡ Some c → Some c ≡ found_place seed r earlier os
      found_wide c f = sym (ap (λ (x : Option Point). option_or x at4) f) ∙ tried_2

      module _ (f : p ≡ None) (q : Option Point) (Q : q ≡ first_free seed r earlier f4 os) where
        pub found_last : q ≡ found_place seed r earlier os
        found_last = Q ∙ sym (ap (λ (x : Option Point). option_or x at4) f) ∙ tried_2
