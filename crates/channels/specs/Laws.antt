-- What a channel must be. The functions of `channels::laws` promise it. Definitions only.
use Rattle.std.specs.Prelude.{◌≡◌, ℕ, ◌+◌, ◌^◌, ◌≤◌, true, false, List, [], ◌∷◌, length, Float}
use Rattle.std.specs.Float.{is_sign_negative}
use Rattle.std.specs.Float.Ieee.{lt}
use Rattle.numbers.specs.Size.{AtMost}
use Rattle.plane.specs.declared.geometry.Point.{Point}
use Rattle.plane.specs.declared.geometry.Box.{Box}
use Rattle.plane.specs.Cross.{crosses}
use Rattle.channels.specs.declared.channel.Channel.{Channel}
use Rattle.channels.specs.Channel.{held, channel_of}
use Rattle.channels.specs.Space.{placed}
use Rattle.channels.specs.Cases.{spacings, spacings_said}

-- the lower end is not above the upper one
abbrev pub EndsOrdered : Type 0
EndsOrdered = (lo hi least_step : Float) → lt (held lo hi least_step).hi (held lo hi least_step).lo ≡ false

-- Both coordinates of a point are finite, and at most 2 ^ (k - 1074) in size.
abbrev pub PointWithin : ℕ → Point → Type 0
PointWithin k p = AtMost k p.x × AtMost k p.y

-- A station that a channel ends at: its place and its box are within 2 ^ 70, its scale is from +0 to 1.
pub record StationWithin (p : Point) (b : Box) (scale : Float) : Type 0 where
  pub place : PointWithin (1074 + 70) p
  pub left : AtMost (1074 + 70) b.left
  pub top : AtMost (1074 + 70) b.top
  pub right : AtMost (1074 + 70) b.right
  pub bottom : AtMost (1074 + 70) b.bottom
  pub most : AtMost 1074 scale
  pub sign : is_sign_negative scale ≡ false

-- Both ends of a channel are finite and at most 1 in size, its least step is from +0 to 2 ^ 720.
pub record ChannelWithin (c : Channel) : Type 0 where
  pub low : AtMost 1074 c.lo
  pub high : AtMost 1074 c.hi
  pub step : AtMost (1074 + 720) c.least_step
  pub sign : is_sign_negative c.least_step ≡ false

-- Where the line from p to q crosses the stroke from u to w, the channel between u and w is such a one.
abbrev pub CrossedIsFinite : Type 0
CrossedIsFinite =
    (p q u w : Point) (bu bw : Box) (su sw least_step : Float) → PointWithin (1074 + 70) p → PointWithin (1074 + 70) q
    → StationWithin u bu su → StationWithin w bw sw → AtMost (1074 + 46) least_step
    → is_sign_negative least_step ≡ false
    → crosses p q u w ≡ true → ChannelWithin (channel_of u w bu bw su sw least_step)

-- every number of a list is finite, and at most 2 ^ (k - 1074) in size
abbrev pub EachAtMost : ℕ → List Float → Type 0
EachAtMost k [] = Unit {0}
EachAtMost k (x ∷ xs) = AtMost k x × EachAtMost k xs

-- On such a channel at most 2 ^ 28 wishes within 2 ^ 32 get fractions within 2 ^ 32.
abbrev pub PlacedIsFinite : Type 0
PlacedIsFinite =
    (c : Channel) → ChannelWithin c → (wishes : List Float) → length wishes ≤ 2 ^ 28 → EachAtMost (1074 + 32) wishes
    → EachAtMost (1074 + 32) (placed c wishes)

-- The worked cases of a channel and of wishes on one give what they should.
abbrev pub SpacingsHold : Type 0
SpacingsHold = spacings ≡ spacings_said
