-- Answers for `plane::proximity::longer`.
use mathlib.Core.Path.{sym, subst}
use lib.Dec.{T}
use Rattle.plane.proofs.proximity.Sides.{longer_past}
use Rattle.plane.proofs.proximity.longer.Goals as goal

pub returns : goal.returns
returns c =
    simp (c.max-3.ensures, c.max-2.ensures, c.max.ensures)
    (longer_past _ _ (subst T (sym c.well_formed.0.1) tt) (subst T (sym c.well_formed.1.0.1) tt))
