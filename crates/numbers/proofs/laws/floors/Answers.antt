-- Answers for `numbers::laws::floors`.
use Rattle.numbers.proofs.float.FloorLaws.{floor_greatest, floor_inf, floor_nan}
use Rattle.numbers.proofs.laws.floors.Goals as goal

pub returns-clause-finite : goal.returns-clause-finite
returns-clause-finite c = floor_greatest

pub returns-clause-infinite : goal.returns-clause-infinite
returns-clause-infinite c = floor_inf

pub returns-clause-no_number : goal.returns-clause-no_number
returns-clause-no_number c = floor_nan
