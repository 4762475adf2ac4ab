-- Answers for `stations::ranking::clear_counters`.
use mathlib.Core.Path.{◌≡◌}
use native.Mathlib.Omega.{arith}
use Rattle.stations.proofs.ranking.Walking.{clear_start, clear_step}
use Rattle.stations.proofs.ranking.clear_counters.Goals as goal

pub loop-s-preserved : goal.loop-s-preserved
loop-s-preserved c = clear_step _ _ (omega arith) _ _ (omega arith) c.loop-s.invariant
