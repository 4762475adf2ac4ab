-- Answers for `wall::laws::cases`.
use Rattle.wall.proofs.Cases.{marked}
use Rattle.wall.proofs.laws.cases.Goals as goal

pub returns : goal.returns
returns c = marked
