-- What the loops of `audit::overlaps::left_keys` keep.
use mathlib.Core.Path.{◌≡◌}
use mathlib.Core.List.{◌++◌}
use lib.ListN.{drop}
use Rattle.numbers.specs.Ops.{order_key}
use Rattle.numbers.specs.Table.{table}
use Rattle.audit.specs.Stages.Sweep.{left_at}
use Rattle.audit.proofs.overlaps.left_keys.Given as goal

abbrev pub invariant-loop-s : goal.invariant-loop-s
invariant-loop-s l = l.keys ≡ table (λ t. order_key (left_at l.boxes t)) l.s ++ drop l.s l.initial.keys
