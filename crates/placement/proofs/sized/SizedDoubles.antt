-- Refusal 8 in two drawings, the second one's boxes doubled, is the same. Assumes nothing.
use mathlib.Core.Path.{◌≡◌, refl, ap, ◌∙◌}
use mathlib.Core.Bool.{Bool, not, ◌||◌}
use mathlib.Core.List.{List, [], ◌∷◌}
use Prim.Native.Nat.{ℕ, ◌+◌}
use lib.Ieee.{Float, binary64, le, eq, of_bits}
use Rattle.numbers.specs.Small.{abs_of}
use Rattle.numbers.specs.Ops.{f0}
use Rattle.numbers.specs.Double.{Limit, Doubles}
use Rattle.numbers.proofs.float.DoublePairs.{eq_of_doubles, div_of_doubles, max_doubles, sub_doubles, zero_doubles}
use Rattle.plane.specs.declared.geometry.Box.{Box}
use Rattle.plane.specs.Plane.{box_in}
use Rattle.placement.specs.Sized.{larger_side, largest, sized, sized_box, all_sized, ill_sized}
use Rattle.placement.specs.Doubles.{DoublesBox}

module _ {lo top : ℕ} (bs bs' : List Box) (B : (s : ℕ) → DoublesBox lo top (box_in bs s) (box_in bs' s)) (l : Limit (top + top)) where
  largest_doubles : (x x' : Float) → Doubles lo (top + top) x x' → (ss : List ℕ) → Doubles lo (top + top) (largest bs x ss) (largest bs' x' ss)
  unfolding largest
  largest_doubles x x' h [] = h
  largest_doubles x x' h (s ∷ ss) =
      let b = B s in
      largest_doubles (larger_side x (box_in bs s)) (larger_side x' (box_in bs' s)) (max_doubles (max_doubles h (sub_doubles b.right b.left l)) (sub_doubles b.bottom b.top_side l)) ss

  sized_of_doubles : {i j t u : ℕ} (x x' c c' : Float) → Doubles i t x x' → Doubles j u c c' → sized x' c' ≡ sized x c
  unfolding sized
  sized_of_doubles x x' c c' h k = ap (λ (q : Float). le (abs_of q) (of_bits binary64 0x4270_0000_0000_0000)) (div_of_doubles k h)

  all_sized_of_doubles : {i t : ℕ} (x x' : Float) → Doubles i t x x' → (ss : List ℕ) → all_sized bs' x' ss ≡ all_sized bs x ss
  unfolding all_sized sized_box
  all_sized_of_doubles x x' h [] = refl
  all_sized_of_doubles x x' h (s ∷ ss) =
      let b = B s in
      let p = sized_of_doubles x x' (box_in bs s).left (box_in bs' s).left h b.left in
      let q = sized_of_doubles x x' (box_in bs s).top (box_in bs' s).top h b.top_side in
      let r = sized_of_doubles x x' (box_in bs s).right (box_in bs' s).right h b.right in
      let z = sized_of_doubles x x' (box_in bs s).bottom (box_in bs' s).bottom h b.bottom in
      let e = all_sized_of_doubles x x' h ss in
      cc (p, q, r, z, e)

  pub ill_sized_of_doubles : (ss : List ℕ) → ill_sized bs' ss ≡ ill_sized bs ss
  unfolding ill_sized
  ill_sized_of_doubles [] = refl
  ill_sized_of_doubles (s ∷ ss) =
      let h = largest_doubles f0 f0 (zero_doubles lo (top + top)) (s ∷ ss) in
      ap (λ (b : Bool). b || not (all_sized bs' (largest bs' f0 (s ∷ ss)) (s ∷ ss))) (eq_of_doubles h (zero_doubles lo (top + top)))
      ∙ ap (λ (b : Bool). eq (largest bs f0 (s ∷ ss)) f0 || not b) (all_sized_of_doubles (largest bs f0 (s ∷ ss)) (largest bs' f0 (s ∷ ss)) h (s ∷ ss))
