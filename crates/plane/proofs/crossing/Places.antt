-- A place that `line_param` answers is held to 0..1. Assumes nothing.
use mathlib.Core.Path.{◌≡◌, refl, ap, subst}
use mathlib.Core.Bool.{Bool, true, false, cond}
use lib.Ieee.{Float, lt, of_bits}
use Rattle.numbers.specs.Small.{clamp_of}
use Rattle.numbers.specs.Ops.{f0, f1}
use Rattle.plane.specs.declared.geometry.Point.{Point}
use Rattle.plane.specs.declared.crossing.Param.{Param}
use Rattle.plane.specs.declared.crossing.Param.TheVariants.{At, Parallel}
use Rattle.plane.specs.Cross.{parallel, param, fraction_or}

-- not below 0 and not above 1
pub record InUnit (t : Float) : Type 0 where
  pub low : lt t f0 ≡ false
  pub high : lt f1 t ≡ false

clamp_held : (x : Float) → InUnit (clamp_of x f0 f1)
unfolding clamp_of lt of_bits
clamp_held x = go (lt x f0) (lt f1 x) refl refl
  where
    go : (a b : Bool) → lt x f0 ≡ a → lt f1 x ≡ b → InUnit (cond a f0 (cond b f1 x))
    go true b d e = record { low = refl; high = refl }
    go false true d e = record { low = refl; high = refl }
    go false false d e = record { low = d; high = e }

-- a place that is answered is held to 0..1
pub place_held : (p q u w : Point) (t : Float) → param p q u w ≡ At t → InUnit t
unfolding param fraction_or
place_held p q u w t = go (parallel _ _ _) _
  where
    go : (b : Bool) (x : Float) → cond b Parallel (At (clamp_of x f0 f1)) ≡ At t → InUnit t
    go true x h = absurd (cc)
    go false x h = subst InUnit (ap (λ (y : Param). fraction_or y f0) h) (clamp_held x)
