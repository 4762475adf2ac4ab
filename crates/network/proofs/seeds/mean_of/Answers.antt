-- Answers for `network::seeds::mean_of`.
use Rattle.network.proofs.seeds.Seeding.{mean_zero, mean_more}
use Rattle.network.proofs.seeds.mean_of.Goals as goal

pub returns-then-count-eq0 : goal.returns-then-count-eq0
returns-then-count-eq0 c = mean_zero _ _ c.if-count-eq0.true

pub returns : goal.returns
returns c = mean_more _ _ c.if-count-eq0.false
