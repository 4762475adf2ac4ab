-- Answers for `offset_table::table_pair`.
use mathlib.Core.Path.{refl, ◌∙◌}
use Rattle.offsets.specs.Offset.{offset_of}
use Rattle.offset_table.specs.Table.{codes, table_pairs}
use Rattle.offset_table.proofs.Pairs.{pair_held}
use Rattle.offset_table.proofs.table_pair.Goals as goal

pub returns : goal.returns
unfolding codes table_pairs offset_of
returns c = c.pair_at.ensures ∙ pair_held _ refl c.args.index
