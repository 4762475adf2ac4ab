-- The premises can be met (`asked`): two stations at (0, 0) and (3, 4) with the default options and no iterations. And two of them are needed: with stations 2 ^ -1072 apart the unit is 0, and doubled it is not;
-- with one seed only the unit stays what it is. Assumes nothing.
use mathlib.Core.Path.{◌≡◌, refl}
use mathlib.Core.Bool.{true≢false}
use mathlib.Core.Logic.{inl, inr}
use mathlib.Core.List.{List, [], ◌∷◌}
use Prim.Native.Nat.{ℕ, zero, suc, ◌+◌, ◌*◌, ◌<◌}
use native.Mathlib.Omega.{arith}
use lib.Dec.{T}
use lib.ListN.{get_or}
use lib.Ieee.{Float, nan, binary64, fits, eq, of_bits, lt, le, add, sub, mul, div, of_int, to_bits}
use Rattle.numbers.specs.Small.{abs_of, is_finite, min_of, max_of}
use Rattle.numbers.specs.Hypot.{hypot_of}
use Rattle.numbers.specs.Key.{key_of}
use Rattle.numbers.specs.Ops.{f0, f1, f2, f3, f4}
use Rattle.numbers.specs.Double.{twice, scaled}
use Rattle.numbers.specs.Order.{up_from, count, keep}
use Rattle.numbers.specs.Table.{table_from}
use Rattle.numbers.specs.Median.{median_of}
use Rattle.plane.specs.Near.{nearest}
use Rattle.network.specs.declared.options.Options.{Options}
use Rattle.network.specs.Options.{defaults}
use Rattle.network.specs.Words.{past_to, station_count, buses_in, bus_counts, occupied}
use Rattle.network.specs.Seed.{bus_point, point_of, sum_to, mean, seed_of, seeds}
use Rattle.network.specs.Refusal.{above}
use Rattle.stations.specs.Row.{rows_in}
use Rattle.stations.specs.Size.{size_for, sizes, sides}
use Rattle.stations.specs.Unit.{coordinates, spacing, spacing_of, typical, unit_for}
use Rattle.drawing.specs.Network.{Network, network}
use Rattle.doubling.specs.Doubling.{HasPoint, Allowed, Asked}
use Rattle.doubling.specs.Example.{times2, straight, pair, points, close, unit_of}

-- ---- met
held : (k : ℕ) → T (fits binary64 (get_or points k nan))
unfolding fits of_bits
held zero = tt
held (suc zero) = tt
held (suc (suc zero)) = tt
held (suc (suc (suc zero))) = tt
held (suc (suc (suc (suc k)))) = tt

zero_allowed : Allowed 1 f0
unfolding eq lt abs_of of_bits above scaled twice
zero_allowed = record { large = λ e. absurd (true≢false e); near = refl }

three_allowed : Allowed 1 f3
unfolding eq lt abs_of of_bits above scaled twice
three_allowed = record { large = λ e. refl; near = refl }

four_allowed : Allowed 1 f4
unfolding eq lt abs_of of_bits above scaled twice
four_allowed = record { large = λ e. refl; near = refl }

allowed : (i : ℕ) → i < 2 → HasPoint points i → Allowed 1 (get_or points (2 * i) nan) × Allowed 1 (get_or points (2 * i + 1) nan)
allowed zero l h = (zero_allowed, zero_allowed)
allowed (suc zero) l h = (three_allowed, four_allowed)
allowed (suc (suc i)) l h = absurd (never i l)
  where
    never : (i : ℕ) → suc (suc i) < 2 → ⊥
    never i l = omega arith

pub asked : Asked 1 straight (pair points)
unfolding defaults fits le eq lt add div of_int of_bits is_finite seeds seed_of sum_to mean bus_point point_of bus_counts buses_in station_count past_to table_from up_from count keep
asked = record {
  held = record { fill = tt; radius = tt; scale_1 = tt; scale_2 = tt; block_options = record { bar_gap = tt; pad = tt; min_bar = tt; buffer = tt }; map = held };
  iterations = refl;
  fill = refl;
  radius = inr refl;
  points = allowed;
  s = 0;
  t = 1;
  first = refl;
  second = refl;
  different = inl refl;
}

-- ---- needed
pub close_unit : unit_of (0 ∷ 1 ∷ []) close ≡ 0
unfolding unit_of
close_unit = refl

pub close_unit_doubled : unit_of (0 ∷ 1 ∷ []) (times2 close) ≡ 1
unfolding unit_of
close_unit_doubled = refl

-- one station: the spacing is 1 in both, the unit 0.45 / 4
pub lone_unit : unit_of (0 ∷ []) (f1 ∷ f1 ∷ []) ≡ 0x3FBC_CCCC_CCCC_CCCD
unfolding unit_of
lone_unit = refl

pub lone_unit_doubled : unit_of (0 ∷ []) (f2 ∷ f2 ∷ []) ≡ 0x3FBC_CCCC_CCCC_CCCD
unfolding unit_of
lone_unit_doubled = refl
