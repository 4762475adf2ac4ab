-- How the lent work lists hold the order of placement. Definitions only.
use Rattle.std.specs.Prelude.{ℕ, ◌<◌, ◌≡◌, List, length, get_or, take}
use Rattle.numbers.specs.Order.{key_at}
use Rattle.numbers.specs.Table.{how_many, which}
use Rattle.network.specs.Words.{is_occupied}
use Rattle.stations.specs.Column.{falling}

-- the c occupied stations lead the list o, and each station has its bus count's key
pub record Listed (counts : List ℕ) (k : ℕ) (ks o : List ℕ) (c : ℕ) : Type 0 where
  pub count : c ≡ how_many (is_occupied counts) k
  pub listed : take c o ≡ which (is_occupied counts) k
  pub keyed : (s : ℕ) → s < k → key_at ks s ≡ falling (get_or counts s 0)

-- an order of stations below k: each at most once
pub record Turns (k : ℕ) (order : List ℕ) : Type 0 where
  pub below : (i : ℕ) → i < length order → get_or order i 0 < k
  pub once : (i j : ℕ) → i < length order → j < length order → get_or order i 0 ≡ get_or order j 0 → i ≡ j
