-- Answers for `stations::columns::columns`.
use Prim.Native.Nat.{ℕ}
use mathlib.Core.Path.{◌≡◌, ap, sym, subst, ◌∙◌}
use native.Mathlib.Omega.{arith}
use lib.ListN.{length, take}
use lib.Seq.{length-take-le}
use Rattle.network.specs.Views.{columns_in}
use Rattle.numbers.specs.Table.{table}
use Rattle.stations.specs.Column.{voltage, falling}
use Rattle.stations.proofs.columns.ColumnLaw.{columns_law}
use Rattle.stations.proofs.columns.columns.Goals as goal

pub returns-clause-columns_written : goal.returns-clause-columns_written
returns-clause-columns_written c =
    ap (λ (n : ℕ). columns_in n c.put_columns.new.buses) (sym (length-take-le (length c.args.lent.now.sub.now) c.rank_in_stations.new.places (omega (arith, c.requires))))
    ∙ c.put_columns.ensures
    ∙ columns_law _ _ _ _ _ c.requires.counted
    (subst (λ (n : ℕ). take n c.falling_keys.new.keys ≡ table (λ i. falling (voltage c.args.lent.now.kv.now i)) n) c.args.lent.now.even c.falling_keys.ensures)
    c.rank_in_stations.ensures.places_written
