-- Answers for `doubling::laws::premises`.
use Rattle.doubling.proofs.Example.{asked, close_unit, close_unit_doubled, lone_unit, lone_unit_doubled}
use Rattle.doubling.proofs.laws.premises.Goals as goal

pub returns-clause-met : goal.returns-clause-met
returns-clause-met c = asked

pub returns-clause-close_seeds : goal.returns-clause-close_seeds
returns-clause-close_seeds c = (close_unit, close_unit_doubled)

pub returns-clause-one_seed : goal.returns-clause-one_seed
returns-clause-one_seed c = (lone_unit, lone_unit_doubled)
