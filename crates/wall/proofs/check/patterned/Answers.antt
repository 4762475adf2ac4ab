-- Answers for `wall::check::patterned`.
use Rattle.wall.proofs.check.patterned.Goals as goal

pub returns : goal.returns
returns c = λ i. (c.type_inv.kv i).fits
