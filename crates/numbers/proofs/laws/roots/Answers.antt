-- Answers for `numbers::laws::roots`.
use mathlib.Core.Path.{◌∙◌, sym}
use Rattle.numbers.proofs.float.RoundLaws.{root_only}
use Rattle.numbers.proofs.laws.roots.Goals as goal

pub returns : goal.returns
returns c n x y f g R S = root_only n x f R ∙ sym (root_only n y g S)
