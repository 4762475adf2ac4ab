-- What lent stations say, one word each. Definitions only.
use Rattle.std.specs.Prelude.{ℕ, List, Float}
use Rattle.network.specs.declared.options.BlockOptions.{BlockOptions}
use Rattle.network.specs.declared.lists.Stations.{Stations}
use Rattle.network.specs.Views.{points_in}
use Rattle.network.specs.Lent.{station_counts}
use Rattle.stations.specs.Size.{Size, sizes_for}
use Rattle.stations.specs.Unit.{spacing}
use Rattle.stations.specs.Stages.Views.{row_counts_in}

-- the size of each station, by its bus count and its row count
abbrev pub station_sizes : BlockOptions → Stations → List Size
station_sizes block_options stations =
    sizes_for block_options (station_counts stations) (row_counts_in stations.k stations.counts.now)

-- the spacing of the stations whose seeds these are
abbrev pub station_spacing : Stations → List Float → Float
station_spacing stations places = spacing (points_in stations.k places) (station_counts stations)
