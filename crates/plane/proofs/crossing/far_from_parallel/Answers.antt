-- Answers for `plane::crossing::far_from_parallel`.
use mathlib.Core.Path.{sym, subst}
use lib.Dec.{T}
use Rattle.plane.proofs.crossing.Parallels.{not_parallel}
use Rattle.plane.proofs.crossing.far_from_parallel.Goals as goal

pub returns : goal.returns
returns c =
    simp (c.abs-5.ensures, c.max.ensures, c.abs-4.ensures, c.abs-3.ensures, c.abs-2.ensures, c.abs.ensures)
    (not_parallel c.args.denom c.args.first_x c.args.first_y c.args.second_x c.args.second_y (subst T (sym c.well_formed.1.0.1) tt) (subst T (sym c.well_formed.1.1.0.1) tt) (subst T (sym c.well_formed.1.1.1.0.1) tt) (subst T (sym c.well_formed.1.1.1.1.0.1) tt))
