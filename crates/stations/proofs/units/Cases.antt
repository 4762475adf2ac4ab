-- A worked case of the unit (docs/RULES.md, 'Worked cases'): no buses. Assumes nothing.
use mathlib.Core.Path.{◌≡◌, refl}
use mathlib.Core.List.{List, []}
use lib.Ieee.{Float, binary64, of_bits, lt, mul, div}
use Rattle.numbers.specs.Small.{max_of}
use Rattle.numbers.specs.Order.{up_from, keep}
use Rattle.numbers.specs.Table.{table_from}
use Rattle.numbers.specs.Median.{median_of}
use Rattle.network.specs.declared.words.Kind.{Kind}
use Rattle.network.specs.Options.{defaults}
use Rattle.network.specs.Words.{past_to, station_count, bus_counts, occupied}
use Rattle.network.specs.Seed.{seeds}
use Rattle.stations.specs.Size.{sizes, sides}
use Rattle.stations.specs.Unit.{coordinates, spacing_of, spacing, typical, unit_for}

-- No buses: unit 0.45 with the defaults, 0.45 by its pattern.
pub no_buses : (xy : List Float) (ks : List Kind)
    → unit_for defaults.fill (spacing (seeds [] xy) (bus_counts [])) (typical (sizes defaults.block_options [] ks (bus_counts [])) (bus_counts [])) ≡ of_bits binary64 0x3FDC_CCCC_CCCC_CCCD
unfolding defaults past_to station_count bus_counts seeds sizes occupied keep up_from table_from coordinates spacing_of spacing sides typical unit_for median_of max_of lt mul div of_bits
no_buses xy ks = refl
