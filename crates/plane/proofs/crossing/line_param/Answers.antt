-- Answers for `plane::crossing::line_param`.
use Rattle.plane.specs.Cross.{param}
use Rattle.plane.proofs.crossing.line_param.Goals as goal

pub returns-then-parallel : goal.returns-then-parallel
unfolding param
returns-then-parallel c = simp (← c.parallel.ensures, c.if-parallel.true)

pub returns : goal.returns
unfolding param
returns c =
    simp (c.clamp.ensures, ← c.parallel.ensures, c.if-parallel.false)
