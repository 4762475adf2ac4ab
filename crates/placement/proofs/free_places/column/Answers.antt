-- Answers for `placement::free_places::column`.
use Rattle.offset_table.proofs.Sizes.{read}
use Rattle.placement.proofs.free_places.Columns.{column_code}
use Rattle.placement.proofs.free_places.column.Goals as goal

pub overflow_sub-result : goal.overflow_sub-result
overflow_sub-result c = (column_code c.args.offset.a _ _ c.requires (read c.args.offset.a (record { sfits = c.struct_told-1.given.0.1 })) c.shifted.ensures).0

pub returns : goal.returns
returns c = let k = column_code c.args.offset.a _ _ c.requires (read c.args.offset.a (record { sfits = c.struct_told-1.given.0.1 })) c.shifted.ensures in record { is_column = k.1; upper_bound = k.2 }
