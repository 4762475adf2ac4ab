-- Answers for `stations::spans::clear_rows`.
use mathlib.Core.Path.{◌≡◌}
use native.Mathlib.Omega.{arith}
use Rattle.stations.proofs.spans.Rows.{bare_more, bare_all}
use Rattle.stations.proofs.spans.clear_rows.Goals as goal

pub loop-i-preserved : goal.loop-i-preserved
loop-i-preserved c = bare_more _ _ _ (omega arith) c.loop-i.invariant

pub returns : goal.returns
returns c =
    let both = let e : c.loop-i.i ≡ c.args.bus_count = omega arith in bare_all _ _ _ (rw e at c.loop-i.invariant) in record { no_rows = both.0; columns_kept = both.1 }
