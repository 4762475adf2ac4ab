-- What lent stations with their sizes say, one word each. Definitions only.
use Rattle.std.specs.Prelude.{ℕ, List}
use Rattle.network.specs.Views.{counts_in}
use Rattle.stations.specs.Size.{Size}
use Rattle.stations.specs.declared.sizes.Measured.{Measured}
use Rattle.stations.specs.Stages.Views.{sizes_in}

-- how many buses each station has, and its size
abbrev pub measured_counts : Measured → List ℕ
measured_counts measured = counts_in measured.k measured.counts.now

abbrev pub measured_sizes : Measured → List Size
measured_sizes measured = sizes_in measured.k measured.blocks.now
