-- Answers for `fill::laws::greatest`.
use Rattle.fill.proofs.Calls.{greatest_holds}
use Rattle.fill.proofs.laws.greatest.Goals as goal

pub returns : goal.returns
returns c = greatest_holds
