-- Columns: `kv` falling, then bus number (docs/RULES.md, 'Columns'). Definitions only.
use Rattle.std.specs.Prelude.{ℕ, ◌-◌, ◌^◌, false, List, eqb, ltb, length, get_or}
use Rattle.numbers.specs.Key.{key_of}
use Rattle.numbers.specs.Order.{pick, before}
use Rattle.numbers.specs.Table.{table, how_many}
use Rattle.network.specs.Words.{station_of}

-- a bus's voltage as a number in the order of `total_cmp`, and one that falls where it rises
abbrev pub voltage : List ℕ → ℕ → ℕ
voltage kv i = key_of (get_or kv i 0)

unfoldable pub falling : ℕ → ℕ
falling v = 2 ^ 64 - 1 - v

-- A bus's column is how many buses of its station stand before it.
unfoldable pub column : List ℕ → List ℕ → ℕ → ℕ
column sub kv i =
    how_many
    (λ j. pick (eqb (station_of sub j) (station_of sub i)) (before (λ b. falling (voltage kv b)) ltb j i) false)
    (length sub)

unfoldable pub columns : List ℕ → List ℕ → List ℕ
columns sub kv = table (column sub kv) (length sub)
