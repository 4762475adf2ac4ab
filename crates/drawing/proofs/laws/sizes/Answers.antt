-- Answers for `drawing::laws::sizes`.
use Rattle.drawing.proofs.Finite.{numbers_sized}
use Rattle.drawing.proofs.laws.sizes.Goals as goal

pub returns : goal.returns
returns c = numbers_sized
