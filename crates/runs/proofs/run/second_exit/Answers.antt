-- Answers for `runs::run::second_exit`.
use mathlib.Core.Path.{ap, ◌∙◌}
use native.Mathlib.Omega.{arith}
use Rattle.plane.specs.Plane.{point_at}
use Rattle.runs.proofs.run.second_exit.Goals as goal

pub returns : goal.returns
returns c = c.first_exit.ensures ∙ ap (point_at c.args.places.now) (omega arith)
