-- Laws of overlap: it is symmetric and strict; boxes that touch, or stand apart, do not overlap. Assumes nothing.
use mathlib.Core.Path.{◌≡◌, refl, sym, ap, ◌∙◌, subst}
use mathlib.Core.Bool.{Bool, true, false, ◌&&◌}
use lib.Ieee.{Float, lt, le}
use lib.Dec.{T}
use Rattle.numbers.proofs.float.Keys.{not_both}
use Rattle.plane.specs.declared.geometry.Box.{Box}
use Rattle.plane.specs.Overlap.{meet, overlap}

and_comm : (a b : Bool) → (a && b) ≡ (b && a)
and_comm true true = refl
and_comm true false = refl
and_comm false true = refl
and_comm false false = refl

and_false : (a b : Bool) → b ≡ false → (a && b) ≡ false
and_false a b h = and_comm a b ∙ ap (λ (t : Bool). t && a) h

meet_symmetric : (l0 r0 l1 r1 : Float) → meet l0 r0 l1 r1 ≡ meet l1 r1 l0 r0
unfolding meet
meet_symmetric l0 r0 l1 r1 = and_comm (lt l0 r1) (lt l1 r0)

pub overlap_symmetric : (p q : Box) → overlap p q ≡ overlap q p
unfolding overlap
overlap_symmetric p q =
    ap (λ (t : Bool). t && meet p.top p.bottom q.top q.bottom) (meet_symmetric p.left p.right q.left q.right)
    ∙ ap (λ (t : Bool). meet q.left q.right p.left p.right && t) (meet_symmetric p.top p.bottom q.top q.bottom)

-- what is at or above is not below
not_below : (x y : Float) → le y x ≡ true → lt x y ≡ false
not_below x y h = go (lt x y) (λ t. not_both x y t (subst T (sym h) tt))
  where
    go : (b : Bool) → (T b → ⊥) → b ≡ false
    go true f = absurd (f tt)
    go false f = refl

meet_apart : (l0 r0 l1 r1 : Float) → le r1 l0 ≡ true → meet l0 r0 l1 r1 ≡ false
unfolding meet
meet_apart l0 r0 l1 r1 h = ap (λ (t : Bool). t && lt l1 r0) (not_below l0 r1 h)

-- a box whose left side is not left of the other's right side, and one whose top is not above the other's bottom, don't overlap it
pub beside : (p q : Box) → le q.right p.left ≡ true → overlap p q ≡ false
unfolding overlap
beside p q h = ap (λ (t : Bool). t && meet p.top p.bottom q.top q.bottom) (meet_apart p.left p.right q.left q.right h)

pub beneath : (p q : Box) → le q.bottom p.top ≡ true → overlap p q ≡ false
unfolding overlap
beneath p q h = and_false (meet p.left p.right q.left q.right) (meet p.top p.bottom q.top q.bottom) (meet_apart p.top p.bottom q.top q.bottom h)
