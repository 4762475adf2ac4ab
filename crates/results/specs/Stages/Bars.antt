-- The bars of all buses as the lent work lists hold them. Definitions only.
use Rattle.std.specs.Prelude.{ℕ, List, length, Float}
use Rattle.numbers.specs.Table.{table}
use Rattle.network.specs.Words.{station_of}
use Rattle.stations.specs.declared.measures.Measures.{Measures}
use Rattle.stations.specs.declared.bars.Bar.{Bar}
use Rattle.runs.specs.Stages.Views.{bar_of}

-- by the buses' stations, the unit with the block options, and the lists of buses, blocks and boxes
unfoldable pub bars_in : List ℕ → Measures → List ℕ → List Float → List Float → List Bar
bars_in sub measures buses blocks frames =
    table (λ i. bar_of measures buses blocks frames (station_of sub i) i) (length sub)
