-- Answers for `plane::proximity::is_near`.
use mathlib.Core.Path.{sym, subst, ◌∙◌}
use lib.Dec.{T}
use Rattle.plane.proofs.proximity.Sides.{near_under}
use Rattle.plane.proofs.proximity.is_near.Goals as goal

pub returns-then-abs-radius : goal.returns-then-abs-radius
returns-then-abs-radius c =
    c.if-abs-radius.true
    ∙ sym (near_under _ _ _ (subst T (sym c.well_formed.0.1) tt) (subst T (sym c.well_formed.1.0.1) tt) (rw (c.abs.ensures, c.abs-2.ensures) at c.if-abs-radius.true))
