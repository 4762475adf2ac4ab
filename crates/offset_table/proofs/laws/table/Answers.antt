-- Answers for `offset_table::laws::table`.
use mathlib.Core.Path.{sym, ap}
use mathlib.Core.List.{List}
use lib.IntN.{pos}
use lib.ListN.{get_or}
use Rattle.offsets.specs.declared.offset.Offset.{Offset}
use Rattle.offset_table.specs.Table.{table_pair}
use Rattle.offset_table.proofs.Rule.{table_complete, table_whole, table_offsets}
use Rattle.offset_table.proofs.laws.table.Goals as goal

pub returns-clause-complete : goal.returns-clause-complete
returns-clause-complete c = table_complete

pub returns-clause-generated : goal.returns-clause-generated
unfolding table_pair
returns-clause-generated c j = ap (λ (l : List Offset). get_or l j (record { a = pos 0; b = pos 0 })) (sym table_whole)

pub returns-clause-smaller : goal.returns-clause-smaller
returns-clause-smaller c search s = table_offsets search s
