-- Laws of the clip test: a piece hits a box just where each of the four tests, in their order, leaves a part of it; a part that is left
-- is not turned round. Assumes nothing.
use mathlib.Core.Path.{◌≡◌, refl, ap, ◌∙◌}
use mathlib.Core.Bool.{Bool, true, false, cond, ◌&&◌}
use lib.Ieee.{Float, lt, eq, neg, of_bits}
use Rattle.numbers.specs.Small.{max_of, min_of}
use Rattle.numbers.specs.Ops.{◌⊖◌, ◌⊘◌, f0, f1}
use Rattle.plane.specs.declared.geometry.Point.{Point}
use Rattle.plane.specs.declared.geometry.Box.{Box}
use Rattle.std.specs.Prelude.{Option, Some, None, is_some}
use Rattle.plane.specs.Clip.{part, cut, clip_by, clipped, hits}

-- what is left after one more test was left before it
clip_met : (p q : Float) (c : Option (Float × Float)) → is_some (clip_by p q c) ≡ (is_some c && is_some (clip_by p q c))
unfolding clip_by
clip_met p q None = refl
clip_met p q (Some (t0, t1)) = refl

-- the four tests, in order: left, right, top, bottom
abbrev pub left_test : Point → Point → Box → Option (Float × Float)
left_test p q b = clip_by (neg (q.x ⊖ p.x)) (p.x ⊖ b.left) (Some (f0, f1))

abbrev pub right_test : Point → Point → Box → Option (Float × Float)
right_test p q b = clip_by (q.x ⊖ p.x) (b.right ⊖ p.x) (left_test p q b)

abbrev pub top_test : Point → Point → Box → Option (Float × Float)
top_test p q b = clip_by (neg (q.y ⊖ p.y)) (p.y ⊖ b.top) (right_test p q b)

abbrev pub bottom_test : Point → Point → Box → Option (Float × Float)
bottom_test p q b = clip_by (q.y ⊖ p.y) (b.bottom ⊖ p.y) (top_test p q b)

-- a hit is decided by the four tests
pub hits_tests : (p q : Point) (b : Box)
    → hits p q b ≡ (is_some (left_test p q b) && (is_some (right_test p q b) && (is_some (top_test p q b) && is_some (bottom_test p q b))))
unfolding hits clipped
hits_tests p q b = both (is_some (left_test p q b)) (is_some (right_test p q b)) (is_some (top_test p q b)) (is_some (bottom_test p q b)) (clip_met _ _ (left_test p q b)) (clip_met _ _ (right_test p q b)) (clip_met _ _ (top_test p q b))
  where
    both : (w x y z : Bool) → x ≡ (w && x) → y ≡ (x && y) → z ≡ (y && z) → z ≡ (w && (x && (y && z)))
    both true true true z a b c = refl
    both true true false z a b c = c
    both true false y z a b c = c ∙ ap (λ (t : Bool). t && z) b
    both false x y z a b c = c ∙ ap (λ (t : Bool). t && z) (b ∙ ap (λ (t : Bool). t && y) a)

-- the part that is left is not turned round
unfoldable pub Straight : Option (Float × Float) → Type 0
Straight None = Unit {0}
Straight (Some (t0, t1)) = lt t1 t0 ≡ false

part_straight : (t0 t1 : Float) → Straight (part t0 t1)
unfolding part Straight
part_straight t0 t1 = go (lt t1 t0) refl
  where
    go : (b : Bool) → lt t1 t0 ≡ b → Straight (cond b None (Some (t0, t1)))
    go true e = tt
    go false e = e

clip_straight : (p q : Float) (c : Option (Float × Float)) → Straight c → Straight (clip_by p q c)
unfolding clip_by cut Straight
clip_straight p q None h = tt
clip_straight p q (Some (t0, t1)) h = go (eq p f0) (lt q f0) (lt p f0)
  where
    go : (a b c : Bool) → Straight (cond a (cond b None (Some (t0, t1))) (cut c (q ⊘ p) t0 t1))
    go true true c = tt
    go true false c = h
    go false b true = part_straight (max_of t0 (q ⊘ p)) t1
    go false b false = part_straight t0 (min_of t1 (q ⊘ p))

pub clipped_straight : (p q : Point) (b : Box) → Straight (clipped p q b)
unfolding clipped Straight lt of_bits
clipped_straight p q b = clip_straight (q.y ⊖ p.y) (b.bottom ⊖ p.y) (top_test p q b) (clip_straight (neg (q.y ⊖ p.y)) (p.y ⊖ b.top) (right_test p q b) (clip_straight (q.x ⊖ p.x) (b.right ⊖ p.x) (left_test p q b) (clip_straight (neg (q.x ⊖ p.x)) (p.x ⊖ b.left) (Some (f0, f1)) start)))
  where
    start : Straight (Some (f0, f1))
    start = refl
