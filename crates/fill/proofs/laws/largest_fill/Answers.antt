-- Answers for `fill::laws::largest_fill`.
use Rattle.fill.proofs.Largest.{largest_fill_holds}
use Rattle.fill.proofs.laws.largest_fill.Goals as goal

pub returns : goal.returns
returns c = largest_fill_holds
