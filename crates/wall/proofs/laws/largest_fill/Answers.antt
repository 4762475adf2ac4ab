-- Answers for `wall::laws::largest_fill`.
use Rattle.wall.proofs.Largest.{largest_holds}
use Rattle.wall.proofs.laws.largest_fill.Goals as goal

pub returns : goal.returns
returns c = largest_holds
