-- Answers for `fill::tries::try_fill`.
use mathlib.Core.Path.{refl}
use Rattle.fill.proofs.Fills.{crowded, tried}
use Rattle.fill.proofs.tries.try_fill.Goals as goal

pub route_laid_out-outcome-requires-clause-laid : goal.route_laid_out-outcome-requires-clause-laid
route_laid_out-outcome-requires-clause-laid c = c.lay_out-laid.ensures.laid c.if-not-laid.false

pub returns-then-not-laid-clause-tried : goal.returns-then-not-laid-clause-tried
returns-then-not-laid-clause-tried c = (crowded _ _ _ _ c.lay_out-laid.ensures.free c.if-not-laid.true, refl)

pub returns-clause-tried : goal.returns-clause-tried
returns-clause-tried c =
    tried _ _ _ _ _ _ c.lay_out-laid.ensures.free c.if-not-laid.false _ c.write_drawing.ensures.drew.answer_is
    c.write_drawing.ensures.drew.lists_are _ c.ok.ensures.value
