-- Answers for `numbers::laws::rounding`.
use Rattle.numbers.proofs.float.RoundLaws.{rounded, round_only}
use Rattle.numbers.proofs.laws.rounding.Goals as goal

pub returns-clause-rounds : goal.returns-clause-rounds
returns-clause-rounds c = rounded

pub returns-clause-to_one : goal.returns-clause-to_one
returns-clause-to_one c = round_only
