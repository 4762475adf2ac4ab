-- Networks that show that the premises of doubling can be met, and that two of them are needed. Definitions only.
use Rattle.std.specs.Prelude.{ℕ, zero, suc, List, [], ◌∷◌, map, Float}
use Rattle.std.specs.Float.{binary64}
use Rattle.std.specs.Float.Ieee.{of_bits, to_bits, le, lt, eq, add, sub, mul, div, of_int}
use Rattle.numbers.specs.Small.{is_finite, min_of, max_of}
use Rattle.numbers.specs.Hypot.{hypot_of}
use Rattle.numbers.specs.Key.{key_of}
use Rattle.numbers.specs.Ops.{f0, f1, f2, f3, f4, ◌⊗◌}
use Rattle.numbers.specs.Order.{up_from, count, keep}
use Rattle.numbers.specs.Table.{table_from}
use Rattle.numbers.specs.Median.{median_of}
use Rattle.plane.specs.Near.{nearest}
use Rattle.network.specs.declared.options.Options.{Options}
use Rattle.network.specs.Options.{defaults}
use Rattle.network.specs.Words.{past_to, station_count, buses_in, bus_counts, occupied}
use Rattle.network.specs.Seed.{bus_point, point_of, sum_to, mean, seed_of, seeds}
use Rattle.stations.specs.Row.{rows_in}
use Rattle.stations.specs.Size.{size_for, sizes, sides}
use Rattle.stations.specs.Unit.{coordinates, spacing, spacing_of, typical, unit_for}
use Rattle.drawing.specs.Network.{Network, network}

-- 2 times each number of a list, by the format's own product
abbrev pub times2 : List Float → List Float
times2 xy = map (λ x. f2 ⊗ x) xy

-- the same k times
abbrev pub times : ℕ → List Float → List Float
times zero xy = xy
times (suc k) xy = times k (times2 xy)

-- the default options without iterations
abbrev pub straight : Options
straight = record {
  fill = defaults.fill;
  tier_radius = defaults.tier_radius;
  tier_count_1 = defaults.tier_count_1;
  tier_count_2 = defaults.tier_count_2;
  tier_scale_1 = defaults.tier_scale_1;
  tier_scale_2 = defaults.tier_scale_2;
  search = defaults.search;
  route_iterations = 0;
  block_options = defaults.block_options;
}

-- two stations of one bus each, without branches, at these points
abbrev pub pair : List Float → Network
pair xy = network (0 ∷ 1 ∷ []) (0 ∷ 0 ∷ []) [] [] [] xy [] []

-- (0, 0) and (3, 4)
abbrev pub points : List Float
points = f0 ∷ f0 ∷ f3 ∷ f4 ∷ []

-- (0, 0) and 2 ^ -1072 to its right, four times the least positive f64
abbrev pub close : List Float
close = f0 ∷ f0 ∷ of_bits binary64 4 ∷ f0 ∷ []

-- the bits of the unit of stations without branches at these points, with these options
unfoldable pub unit_of : List ℕ → List Float → ℕ
unfolding defaults unit_for spacing spacing_of typical sizes size_for sides rows_in median_of nearest coordinates seeds seed_of sum_to mean bus_point point_of occupied bus_counts buses_in station_count past_to table_from up_from count keep eq le lt add sub mul div of_int of_bits to_bits hypot_of key_of min_of max_of is_finite
unit_of sub xy =
    to_bits binary64 (unit_for straight.fill (spacing (seeds sub xy) (bus_counts sub))
    (typical (sizes straight.block_options sub [] (bus_counts sub)) (bus_counts sub)))
