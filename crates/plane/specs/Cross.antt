-- Whether two segments cross (docs/RULES.md, 'Walk'), and where on a segment a line crosses it (docs/RULES.md,
-- 'Crossings'). Definitions only.
use Rattle.std.specs.Prelude.{Bool, cond, ◌&&◌, Float}
use Rattle.std.specs.Float.Ieee.{lt, of_bits}
use Rattle.std.specs.Float.{binary64}
use Rattle.numbers.specs.Small.{max_of, abs_of, clamp_of}
use Rattle.numbers.specs.Hypot.{hypot_of}
use Rattle.numbers.specs.Ops.{◌⊖◌, ◌⊗◌, ◌⊘◌, f0, f1, least_normal}
use Rattle.plane.specs.declared.geometry.Point.{Point}
use Rattle.plane.specs.declared.crossing.Param.{Param}
use Rattle.plane.specs.declared.crossing.Param.TheVariants.{At, Parallel}

-- 1e-12
abbrev pub tiny : Float
tiny = of_bits binary64 0x3D71_9799_812D_EA11

-- twice the area of the triangle o, a, b, with its sense
unfoldable pub orient : Point → Point → Point → Float
orient o a b = (a.x ⊖ o.x) ⊗ (b.y ⊖ o.y) ⊖ (a.y ⊖ o.y) ⊗ (b.x ⊖ o.x)

-- p q and a b cross at a point inside both
unfoldable pub crosses : Point → Point → Point → Point → Bool
unfolding orient
crosses p q a b = lt (orient a b p ⊗ orient a b q) f0 && lt (orient p q a ⊗ orient p q b) f0

-- the directions r and s are parallel, where denom is their cross product
unfoldable pub parallel : Float → Point → Point → Bool
parallel denom r s = lt (abs_of denom) (tiny ⊗ max_of (hypot_of r.x r.y ⊗ hypot_of s.x s.y) least_normal)

-- where the line through p and q crosses u w, held to 0..1, or parallel
unfoldable pub param : Point → Point → Point → Point → Param
param p q u w =
    let r : Point = record { x = q.x ⊖ p.x; y = q.y ⊖ p.y } in
    let s : Point = record { x = w.x ⊖ u.x; y = w.y ⊖ u.y } in
    let denom = r.x ⊗ s.y ⊖ r.y ⊗ s.x in
    let t = ((u.x ⊖ p.x) ⊗ r.y ⊖ (u.y ⊖ p.y) ⊗ r.x) ⊘ denom in
    cond (parallel denom r s) Parallel (At (clamp_of t f0 f1))

-- the value of each case: the place itself, another where the lines are parallel
unfoldable pub fraction_or : Param → Float → Float
fraction_or (At t) other = t
fraction_or Parallel other = other
