-- Answers for `plane::proximity::closer`.
use mathlib.Core.Path.{sym, subst}
use lib.Dec.{T}
use Rattle.plane.specs.Near.{nearer}
use Rattle.plane.proofs.proximity.Sides.{nearer_keeps, nearer_zero}
use Rattle.plane.proofs.proximity.closer.Goals as goal

pub returns-then-best-longer : goal.returns-then-best-longer
returns-then-best-longer c = nearer_keeps _ _ (c.longer.ensures.bound _ c.if-best-longer.true)

pub returns-then-abs : goal.returns-then-abs
returns-then-abs c = nearer_zero _ _ _ (subst T (sym c.well_formed.1.0.1) tt) (subst T (sym c.well_formed.1.1.0.1) tt) (rw (c.abs.ensures, c.abs-2.ensures) at c.if-abs.true)

pub returns-then-d : goal.returns-then-d
unfolding nearer
returns-then-d c = simp (c.min.ensures, ← c.hypot-d.ensures.computed, c.if-d.true)

pub returns : goal.returns
unfolding nearer
returns c = simp (← c.hypot-d.ensures.computed, c.if-d.false)
