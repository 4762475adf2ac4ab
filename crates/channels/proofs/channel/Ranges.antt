-- A channel's ends are held to 0..1. Assumes nothing.
use mathlib.Core.Path.{◌≡◌, refl}
use mathlib.Core.Bool.{Bool, true, false, cond}
use lib.Ieee.{Float, lt, of_bits}
use Rattle.numbers.specs.Ops.{f0, f1}
use Rattle.numbers.specs.Small.{clamp_of}
use Rattle.plane.specs.declared.geometry.Point.{Point}
use Rattle.plane.specs.declared.geometry.Box.{Box}
use Rattle.plane.proofs.crossing.Places.{InUnit}
use Rattle.channels.specs.Channel.{held, channel_of}

clamp_held : (x : Float) → InUnit (clamp_of x f0 f1)
unfolding clamp_of lt of_bits
clamp_held x = go (lt x f0) (lt f1 x) refl refl
  where
    go : (a b : Bool) → lt x f0 ≡ a → lt f1 x ≡ b → InUnit (cond a f0 (cond b f1 x))
    go true b d e = record { low = refl; high = refl }
    go false true d e = record { low = refl; high = refl }
    go false false d e = record { low = d; high = e }

held_in : (lo hi least_step : Float) → InUnit (held lo hi least_step).lo × InUnit (held lo hi least_step).hi
unfolding held
held_in lo hi least_step = (clamp_held _, clamp_held _)

-- neither end is below 0 or above 1
pub channel_in : (u w : Point) (bu bw : Box) (su sw clearance : Float) → InUnit (channel_of u w bu bw su sw clearance).lo × InUnit (channel_of u w bu bw su sw clearance).hi
unfolding channel_of
channel_in u w bu bw su sw clearance = held_in _ _ _
