-- What the table of offsets must be. The functions of `offset_table::laws` promise it. Definitions only.
use Rattle.std.specs.Prelude.{◌≡◌, ℕ, ◌≤◌, pos, get_or}
use Rattle.offsets.specs.Offset.{offsets}
use Rattle.offsets.specs.Complete.{Complete}
use Rattle.offset_table.specs.Table.{table_pairs, table_pair, skipped}

-- each pair within search 20 once, no other, in the order of offsets
abbrev pub TableIsComplete : Type 0
TableIsComplete = Complete 20 table_pairs

-- the generated offsets of search 20 are the table, entry for entry
abbrev pub TableIsGenerated : Type 0
TableIsGenerated = (j : ℕ) → get_or (offsets 20) j (record { a = pos 0; b = pos 0 }) ≡ table_pair j

-- for a smaller search, the table without the pairs outside it
abbrev pub TableServesSmaller : Type 0
TableServesSmaller = (search : ℕ) → search ≤ 20 → skipped search table_pairs ≡ offsets search
