-- The channel of an edge that a line crosses is ready for spacing, whichever end of the edge it is counted from. Assumes nothing.
use mathlib.Core.Path.{◌≡◌, sym, subst}
use mathlib.Core.Logic.{◌⊎◌, inl, inr}
use Prim.Native.Nat.{◌+◌}
use mathlib.Core.Bool.{true}
use lib.Dec.{T, lit≤}
use lib.Ieee.{Float, binary64}
use lib.Ieee.Fits.{sub-fits}
use Rattle.numbers.specs.Ops.{◌⊖◌, ◌⊗◌, least_normal}
use Rattle.numbers.specs.Small.{max_of, min_of}
use Rattle.numbers.specs.Hypot.{hypot_of}
use Rattle.numbers.specs.Size.{AtMost, AtLeast}
use Rattle.numbers.proofs.float.Keys.{plus}
use Rattle.numbers.proofs.float.Bounds.{hypot_plus}
use Rattle.numbers.proofs.float.SizeLaws.{sub_most, mul_most, min_most}
use Rattle.numbers.proofs.float.Quotients.{div_plus, mul_plus, min_plus, least_positive, sub_swap}
use Rattle.plane.specs.declared.geometry.Point.{Point}
use Rattle.plane.specs.declared.geometry.Box.{Box}
use Rattle.plane.specs.Cross.{crosses}
use Rattle.plane.proofs.crossing.Crossing.{crossing_least}
use Rattle.plane.proofs.geometry.PointSizes.{Near}
use Rattle.channels.specs.Channel.{held, channel_of}
use Rattle.channels.proofs.channel.Sizes.{Boxed, channel_most, length_is, length_far}
use Rattle.channels.proofs.spacing.SpaceSizes.{Ready}

-- what is known of a station of a channel: a place and a box within 2 ^ 70, and a scale from 0 to 1
pub record Stands (p : Point) (b : Box) (s : Float) : Type 0 where
  pub place : Near (1074 + 70) p
  pub box : Boxed (1074 + 70) b
  pub scale : AtMost 1074 s
  pub clear : T (plus s)

module _ (u w : Point) (bu bw : Box) (su sw clearance : Float) (U : Stands u bu su) (W : Stands w bw sw) (G : AtMost (1074 + 46) clearance) (C : T (plus clearance)) (D : AtLeast 464 (w.x ⊖ u.x) ⊎ AtLeast 464 (w.y ⊖ u.y)) where
  part_x : AtMost 1145 (w.x ⊖ u.x)
  part_x = sub_most (1074 + 70) w.x u.x (lit≤ tt) W.place.x U.place.x

  part_y : AtMost 1145 (w.y ⊖ u.y)
  part_y = sub_most (1074 + 70) w.y u.y (lit≤ tt) W.place.y U.place.y

  len_plus : T (plus (max_of (hypot_of (w.x ⊖ u.x) (w.y ⊖ u.y)) least_normal))
  len_plus =
      subst (λ (v : Float). T (plus v))
      (sym (length_is 1145 464 (w.x ⊖ u.x) (w.y ⊖ u.y) (lit≤ tt) (lit≤ tt) (lit≤ tt) (lit≤ tt) (sub-fits binary64 w.x u.x) (sub-fits binary64 w.y u.y) part_x part_y D))
      (hypot_plus (w.x ⊖ u.x) (w.y ⊖ u.y) part_x.finite part_y.finite)

  len_far : AtLeast 464 (max_of (hypot_of (w.x ⊖ u.x) (w.y ⊖ u.y)) least_normal)
  len_far = length_far 1145 464 (w.x ⊖ u.x) (w.y ⊖ u.y) (lit≤ tt) (lit≤ tt) (lit≤ tt) (lit≤ tt) (sub-fits binary64 w.x u.x) (sub-fits binary64 w.y u.y) part_x part_y D

  least_step_plus : T (plus (channel_of u w bu bw su sw clearance).least_step)
  unfolding channel_of held
  least_step_plus =
      let g : AtMost (1074 + 46) (clearance ⊗ min_of su sw) = mul_most (1074 + 46) 1074 (1074 + 46) clearance (min_of su sw) (lit≤ tt) (lit≤ tt) G (min_most 1074 su sw U.scale W.scale) in
      div_plus (clearance ⊗ min_of su sw) (max_of (hypot_of (w.x ⊖ u.x) (w.y ⊖ u.y)) least_normal) g.finite
      (mul_plus clearance (min_of su sw) C (min_plus su sw U.clear W.clear) g.finite) (least_positive 464 (max_of (hypot_of (w.x ⊖ u.x) (w.y ⊖ u.y)) least_normal) len_far len_plus)

  far_ready : Ready (1074 + 720) (channel_of u w bu bw su sw clearance)
  far_ready =
      let z = channel_most (1074 + 70) 464 (1074 + 46) 1074 (1074 + 720) u w bu bw su sw clearance (lit≤ tt) (lit≤ tt) (lit≤ tt) (lit≤ tt) (lit≤ tt) (lit≤ tt) (lit≤ tt)
      U.place W.place U.box W.box G U.scale W.scale D in
      record { lo = z.0; hi = z.1; least_step = z.2; clear = least_step_plus }

-- the line from p to q crosses the edge from a to b
module _ (p q a b : Point) (ba bb : Box) (sa sb clearance : Float) (P : Near (1074 + 70) p) (Q : Near (1074 + 70) q) (A : Stands a ba sa) (B : Stands b bb sb) (G : AtMost (1074 + 46) clearance) (C : T (plus clearance)) (h : crosses p q a b ≡ true) where
  far : AtLeast 464 (b.x ⊖ a.x) ⊎ AtLeast 464 (b.y ⊖ a.y)
  far = crossing_least (1074 + 70) 464 p q a b (lit≤ tt) (lit≤ tt) P Q A.place B.place h

  pub crossed_ready : Ready (1074 + 720) (channel_of a b ba bb sa sb clearance)
  crossed_ready = far_ready a b ba bb sa sb clearance A B G C far

  -- counted from b
  pub crossed_ready_back : Ready (1074 + 720) (channel_of b a bb ba sb sa clearance)
  crossed_ready_back = far_ready b a bb ba sb sa clearance B A G C (turn far)
    where
      turn : AtLeast 464 (b.x ⊖ a.x) ⊎ AtLeast 464 (b.y ⊖ a.y) → AtLeast 464 (a.x ⊖ b.x) ⊎ AtLeast 464 (a.y ⊖ b.y)
      turn (inl k) = inl (sub_swap 464 b.x a.x B.place.x.finite A.place.x.finite k)
      turn (inr k) = inr (sub_swap 464 b.y a.y B.place.y.finite A.place.y.finite k)
