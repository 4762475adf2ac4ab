-- Answers for `stations::spans::include_all`.
use mathlib.Core.Path.{◌≡◌}
use native.Mathlib.Omega.{arith}
use lib.ListN.{length}
use Rattle.stations.proofs.spans.Rows.{spanned_none, spanned_more, spanned_all}
use Rattle.stations.proofs.spans.include_all.Goals as goal

pub loop-e-init : goal.loop-e-init
loop-e-init c = spanned_none _ _ _ _ _ _ c.requires.no_rows

pub loop-e-preserved : goal.loop-e-preserved
loop-e-preserved c = spanned_more _ _ _ _ _ _ _ _ _ c.loop-e-test.true c.include_branch.ensures c.loop-e.invariant

pub returns : goal.returns
returns c =
    let both = let e : c.loop-e.e ≡ length c.args.net.now.lists.from.now = omega arith in spanned_all _ _ _ _ _ _ _ (rw e at c.loop-e.invariant) in record { spans_written = both.0; columns_kept = both.1 }
