-- How the lent work lists hold offsets. Definitions only.
use Rattle.std.specs.Prelude.{ℕ, List, get_or}
use Rattle.numbers.specs.Table.{table}
use Rattle.offsets.specs.declared.offset.Offset.{Offset}
use Rattle.offsets.specs.Offset.{offset_of}

-- the j-th offset: `sorted` holds places of `keys`, which holds offsets' numbers
unfoldable pub offset_at : List ℕ → List ℕ → ℕ → Offset
offset_at keys sorted j = offset_of (get_or keys (get_or sorted j 0) 0)

unfoldable pub offsets_in : ℕ → List ℕ → List ℕ → List Offset
offsets_in c keys sorted = table (offset_at keys sorted) c
