-- The needed length of the list that boxes are entered in (docs/WORK.md). Definitions only.
use Rattle.std.specs.Prelude.{ℕ, ◌*◌}

-- for the boxes of n stations
unfoldable pub index_length : ℕ → ℕ
index_length n = 5 * n
