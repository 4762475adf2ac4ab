-- Stations are placed by top `kv` falling, bus count falling, number (docs/RULES.md, 'Order of placement').
-- Definitions only.
use Rattle.std.specs.Prelude.{ℕ, zero, suc, max, List, eqb, length, get_or}
use Rattle.numbers.specs.Order.{pick, sort_by}
use Rattle.network.specs.Words.{station_of, occupied}
use Rattle.stations.specs.Column.{voltage, falling}

-- the highest voltage of station s's buses among the first i
unfoldable pub top_to : List ℕ → List ℕ → ℕ → ℕ → ℕ
top_to sub kv s zero = 0
top_to sub kv s (suc i) = let t = top_to sub kv s i in pick (eqb (station_of sub i) s) (max t (voltage kv i)) t

-- the occupied stations in the order of their placement: each sort keeps the order before it among equals
unfoldable pub placement_order : List ℕ → List ℕ → List ℕ → List ℕ
placement_order sub kv counts =
    sort_by (λ s. falling (top_to sub kv s (length sub))) (sort_by (λ s. falling (get_or counts s 0)) (occupied counts))
