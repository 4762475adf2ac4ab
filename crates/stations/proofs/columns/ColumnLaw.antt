-- Columns: places in stations by keys that fall where the voltage rises.
-- Assumes nothing.
use mathlib.Core.Path.{◌≡◌, refl, ◌∙◌}
use mathlib.Core.List.{List}
use Prim.Native.Nat.{ℕ, ◌<◌}
use lib.ListN.{length, take, get_or}
use Rattle.numbers.specs.Order.{key_at}
use Rattle.numbers.specs.Table.{table}
use Rattle.numbers.proofs.order.Tables.{table_ext}
use Rattle.network.specs.Words.{station_count}
use Rattle.network.proofs.Stations.{station_below}
use Rattle.stations.specs.Column.{voltage, falling, column, columns}
use Rattle.stations.specs.Stages.Ranking.{rank_in}
use Rattle.stations.proofs.ranking.Placing.{place_some, place_ext}
use Rattle.stations.proofs.ranking.Fronts.{front_at}

-- what the ranking gives under these keys
pub columns_law : (sub kv keys places : List ℕ) (k : ℕ) → k ≡ station_count sub
    → take (length sub) keys ≡ table (λ i. falling (voltage kv i)) (length sub)
    → take (length sub) places ≡ table (rank_in (key_at sub) (key_at keys) k (length sub)) (length sub)
    → take (length sub) places ≡ columns sub kv
unfolding columns column
columns_law sub kv keys places k c e f =
    f ∙ table_ext (rank_in (key_at sub) (key_at keys) k (length sub)) (column sub kv) (length sub)
    (λ i h.
    let key : ℕ → ℕ = λ b. falling (voltage kv b) in
    let l : get_or sub i 0 < k = rw c (station_below sub i h) in
    place_ext (key_at sub) (key_at sub) (length sub) (λ j g. refl) (key_at keys) key (front_at key (length sub) keys e) k i h
    ∙ place_some (key_at sub) key k (length sub) i l)
