-- What the loops of `stations::rows::put_rows` keep.
use Prim.Native.Nat.{◌*◌, ◌-◌, ◌≤◌}
use mathlib.Core.Path.{◌≡◌}
use lib.ListN.{length, get_or}
use Rattle.numbers.specs.Table.{table, strided}
use Rattle.network.specs.Words.{kind_of}
use Rattle.stations.specs.Stages.Entry.{to_entry}
use Rattle.stations.proofs.rows.put_rows.Given as goal

abbrev pub invariant-loop-e : goal.invariant-loop-e
invariant-loop-e l = (l.e ≤ l.m) × (l.m ≡ length l.net.from.now) × (length l.ends ≡ length l.initial.ends) × (strided 4 0 0 l.e l.ends ≡ table (λ e. get_or l.rows (2 * e) 0) l.e)
    × (strided 4 1 0 l.e l.ends ≡ table (λ e. get_or l.rows (to_entry (kind_of l.net.sub.now l.net.from.now l.net.to.now l.net.service.now e) e) 0) l.e)
