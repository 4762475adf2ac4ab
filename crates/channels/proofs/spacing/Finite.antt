-- The laws of a crossed channel and of its wishes, in the words of specs/Laws. Assumes nothing.
use Rattle.std.proofs.Common.{◌≡◌, ℕ, ◌+◌, Bool, true, false, not, List, [], ◌∷◌, T, sym, refl, subst}
use Rattle.std.specs.Float.{is_sign_negative}
use lib.Dec.{lit≤}
use lib.Ieee.{Float, nan, inf, fin}
use Rattle.numbers.specs.Small.{is_finite}
use Rattle.numbers.specs.Size.{AtMost}
use Rattle.numbers.proofs.float.Keys.{plus}
use Rattle.numbers.proofs.float.Each.{Each}
use Rattle.plane.specs.declared.geometry.Point.{Point}
use Rattle.plane.specs.declared.geometry.Box.{Box}
use Rattle.plane.proofs.geometry.PointSizes.{Near}
use Rattle.channels.specs.declared.channel.Channel.{Channel}
use Rattle.channels.specs.Channel.{channel_of}
use Rattle.channels.specs.Space.{placed}
use Rattle.channels.specs.Laws.{PointWithin, StationWithin, ChannelWithin, CrossedIsFinite, EachAtMost, PlacedIsFinite}
use Rattle.channels.proofs.spacing.SpaceSizes.{Ready, placed_most}
use Rattle.channels.proofs.spacing.Crossed.{Stands, crossed_ready}

-- ---- the sign of a finite number
not_minus : (b : Bool) → b ≡ false → T (not b)
not_minus true h = cc
not_minus false h = tt

is_plus : (b : Bool) → T (not b) → b ≡ false
is_plus true h = absurd h
is_plus false h = refl

plus_by : (x : Float) → T (is_finite x) → is_sign_negative x ≡ false → T (plus x)
unfolding is_finite is_sign_negative plus
plus_by nan f h = absurd f
plus_by (inf s) f h = absurd f
plus_by (fin s m e) f h = not_minus s h

sign_by : (x : Float) → T (plus x) → is_sign_negative x ≡ false
unfolding is_sign_negative plus
sign_by nan h = absurd h
sign_by (inf s) h = is_plus s h
sign_by (fin s m e) h = is_plus s h

-- ---- a crossed channel
near : (p : Point) → PointWithin (1074 + 70) p → Near (1074 + 70) p
near p h = record { x = h.0; y = h.1 }

stands : (p : Point) (b : Box) (s : Float) → StationWithin p b s → Stands p b s
stands p b s h = record {
  place = near p h.place;
  box = record { left = h.left; top = h.top; right = h.right; bottom = h.bottom };
  scale = h.most;
  clear = plus_by s h.most.finite h.sign;
}

pub crossed_is_finite : CrossedIsFinite
crossed_is_finite p q u w bu bw su sw least_step P Q U W G C h =
    let R = crossed_ready p q u w bu bw su sw least_step (near p P) (near q Q) (stands u bu su U) (stands w bw sw W) G (plus_by least_step G.finite C) h in
    record { low = R.lo; high = R.hi; step = R.least_step; sign = sign_by (channel_of u w bu bw su sw least_step).least_step R.clear }

-- ---- its wishes
each_of : (l : List Float) → EachAtMost (1074 + 32) l → Each (AtMost 1106) l
each_of [] h = tt
each_of (x ∷ xs) h = (h.0, each_of xs h.1)

of_each : (l : List Float) → Each (AtMost 1106) l → EachAtMost (1074 + 32) l
of_each [] h = tt
of_each (x ∷ xs) h = (h.0, of_each xs h.1)

pub placed_is_finite : PlacedIsFinite
placed_is_finite c C wishes few close =
    let R : Ready (1074 + 720) c = record { lo = C.low; hi = C.high; least_step = C.step; clear = plus_by c.least_step C.step.finite C.sign } in
    of_each (placed c wishes) (placed_most (1074 + 720) c (lit≤ tt) R wishes few (each_of wishes close))
