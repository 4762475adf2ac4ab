-- From the coordinates to the boxes: where every coordinate of a network is doubled, the rows and the scales are the same, and every seed, the unit, every place and every box is doubled;
-- refusal 8 is the same. The ranges, in grains of 2 ^ -1074, are closed numbers. Assumes nothing.
use Rattle.std.specs.Prelude.{IsSome}
use mathlib.Core.Path.{◌≡◌, refl, sym, subst}
use mathlib.Core.List.{List}
use Prim.Native.Nat.{ℕ, suc, ◌+◌, ◌*◌, ◌^◌, ◌≤◌, ◌<◌}
use native.Mathlib.Nat.{le_trans, lt_of_lt_of_le, lt_of_not-le}
use native.Mathlib.Omega.{arith}
use native.Mathlib.Decide.{dec_le}
use lib.Dec.{lit≤, lit<}
use lib.Pow.{pow_mono, shl_lt}
use lib.ListN.{length, get_or, get_or-eq_default}
use lib.Ieee.{Float}
use Rattle.numbers.specs.Ops.{f0, f1}
use Rattle.numbers.specs.Double.{Stepped, Limit, Doubles}
use Rattle.numbers.proofs.float.DoublePairs.{widen_doubles, mul_doubles_2, zero_doubles}
use Rattle.numbers.specs.Table.{table}
use Rattle.numbers.specs.Median.{median_of}
use Rattle.numbers.proofs.order.Tables.{get_d_table, length_table, how_many_le}
use Rattle.plane.specs.declared.geometry.Point.{Point}
use Rattle.plane.specs.Near.{nearest}
use Rattle.network.specs.declared.options.BlockOptions.{BlockOptions}
use Rattle.network.specs.declared.options.Options.{Options}
use Rattle.network.specs.declared.words.Kind.{Kind}
use Rattle.network.specs.Words.{station_count, buses_in, bus_counts, occupied}
use Rattle.network.specs.Seed.{seed_of, seeds, place_at}
use Rattle.stations.specs.Row.{from_rows, to_rows}
use Rattle.stations.specs.Size.{Size, sizes, size_at}
use Rattle.stations.specs.Unit.{coordinates, spacing, typical, unit_for}
use Rattle.stations.specs.Scale.{scales}
use Rattle.offsets.specs.Offset.{offsets}
use Rattle.plane.specs.Plane.{box_in}
use Rattle.placement.specs.Place.{places, boxes}
use Rattle.placement.specs.Search.{HalfSides, half_sides_for, half_sides, half_sides_at}
use Rattle.placement.specs.Turns.{placement_order}
use Rattle.placement.specs.Sized.{ill_sized}
use Rattle.placement.specs.Stages.Listed.{Turns}
use Rattle.placement.proofs.turns.Queue.{order_turns}
use Rattle.stations.specs.Doubles.{DoublesPoint}
use Rattle.placement.specs.Doubles.{DoublesBox, DoublesHalfSides, SearchLimits}
use Rattle.drawing.specs.Drawing.{measures_of}
use Rattle.doubling.specs.Doubling.{EachBlockOption}
use Rattle.doubling.specs.Twice.{DoubledMap}
use Rattle.doubling.proofs.Seeds.{Mapped, bus_doubles, seeds_doubles, from_rows_lem, to_rows_lem}
use Rattle.stations.proofs.units.SpacingDoubles.{spacing_doubles, unit_doubles}
use Rattle.doubling.proofs.Sizes.{BlockOption, Blocks, power, sizes_stepped, typical_stepped, typical_positive, scales_stepped}
use Rattle.doubling.proofs.HalfSidesDoubled.{coordinates_doubles, scales_same, half_sides_doubles}
use Rattle.placement.proofs.PlaceDoubles.{offsets_small, places_doubles, boxes_doubles}
use Rattle.placement.proofs.sized.SizedDoubles.{ill_sized_of_doubles}

-- ---- limits: up to 2 ^ 53 - 1 times a power of two
limit : (q k : ℕ) → q < 2 ^ 53 → k ≤ 2044 → Limit (q * 2 ^ k)
limit q k h l = record { q = q; k = k; is = refl; digits = h; room = below }
  where
    below : q * 2 ^ k < 2 ^ 2097
    below = lt_of_lt_of_le (shl_lt 53 k h) (pow_mono (room k l))
      where
        room : (k : ℕ) → k ≤ 2044 → 53 + k ≤ 2097
        room k l = omega arith

pub sum_limit : (i : ℕ) → i ≤ 4095 → Limit (i * 2 ^ 1113 + 2 ^ 1113)
sum_limit i h = subst Limit (flat i (2 ^ 1113)) (limit (suc i) 1113 (le_trans (most i h) (lit≤ tt)) (lit≤ tt))
  where
    flat : (i p : ℕ) → suc i * p ≡ i * p + p
    flat i p = omega arith

    most : (i : ℕ) → i ≤ 4095 → suc (suc i) ≤ 4097
    most i h = omega arith

-- two tables whose elements double
pub doubles_table : {A : Type 0} (R : A → A → Type 0) (f g : ℕ → A) (n : ℕ) (d : A) → ((s : ℕ) → R (f s) (g s)) → R d d → (s : ℕ) → R (get_or (table f n) s d) (get_or (table g n) s d)
doubles_table {A} R f g n d h k s = go (dec_le n s)
  where
    past : (e : ℕ → A) → n ≤ s → get_or (table e n) s d ≡ d
    past e l = get_or-eq_default (table e n) d (subst (λ (z : ℕ). z ≤ s) (sym (length_table e n)) l)

    go : Dec (n ≤ s) → R (get_or (table f n) s d) (get_or (table g n) s d)
    go (yes l) = subst (λ (a : A). R a (get_or (table g n) s d)) (sym (past f l)) (subst (λ (a : A). R d a) (sym (past g l)) k)
    go (no l) = subst (λ (a : A). R a (get_or (table g n) s d)) (sym (get_d_table f n s d (lt_of_not-le l))) (subst (λ (a : A). R (f s) a) (sym (get_d_table g n s d (lt_of_not-le l))) (h s))

-- half sides by station
each_half_sides_doubles : {t : ℕ} (lo : ℕ) (G : BlockOptions) (unit unit' : Float) (ss : List Float) (zs : List Size) → Doubles (lo + 164) t unit unit' → ((s : ℕ) → Stepped 1016 (2 ^ 1074) (get_or ss s f1)) → ((s : ℕ) → Blocks (size_at zs s)) → BlockOption G.buffer → lo ≤ 1900 → Limit t → Limit (t * 2 ^ 16)
    → (s : ℕ) → DoublesHalfSides lo (t * 2 ^ 16) (half_sides_at (half_sides (record { unit = unit; block_options = G }) ss zs) s) (half_sides_at (half_sides (record { unit = unit'; block_options = G }) ss zs) s)
unfolding half_sides
each_half_sides_doubles {t} lo G unit unit' ss zs u a b g r l m s =
    doubles_table (DoublesHalfSides lo (t * 2 ^ 16)) (λ i. half_sides_for (record { unit = unit; block_options = G }) (get_or ss i f1) (size_at zs i)) (λ i. half_sides_for (record { unit = unit'; block_options = G }) (get_or ss i f1) (size_at zs i)) (length zs) none
    (λ i. half_sides_doubles lo G unit unit' (get_or ss i f1) (size_at zs i) u (a i) (b i).w (b i).h g r (lit≤ tt) l m)
    (record { half = record { w = zero_doubles lo (t * 2 ^ 16); h = zero_doubles lo (t * 2 ^ 16) }; f = zero_doubles (lo + 106) (t * 2 ^ 16); same = refl; kept_free = (zero_doubles 1021 (8 * 2 ^ 1074)).stepped }) s
  where
    none : HalfSides
    none = record { half = record { w = f0; h = f0 }; f = f0; buffer = f0 }

-- ---- small things
finer : {p p' : Point} → DoublesPoint 458 (2 ^ 1125) p p' → DoublesPoint 116 (2 ^ 1180) p p'
finer h = record { x = widen_doubles 116 (2 ^ 1180) (lit≤ tt) (lit≤ tt) h.x; y = widen_doubles 116 (2 ^ 1180) (lit≤ tt) (lit≤ tt) h.y }

pub buses_le : (sub : List ℕ) → length sub ≤ 2 ^ 12 → (s : ℕ) → buses_in sub s ≤ 2 ^ 12
unfolding buses_in
buses_le sub h s = le_trans (how_many_le _ (length sub)) h

pub seeds_length : (sub : List ℕ) (xy : List Float) → length (seeds sub xy) ≡ station_count sub
unfolding seeds
seeds_length sub xy = length_table (seed_of sub xy) (station_count sub)

pub counts_length : (sub : List ℕ) → length (bus_counts sub) ≡ station_count sub
unfolding bus_counts
counts_length sub = length_table (buses_in sub) (station_count sub)

-- ---- what doubling asks of the input, as ranges: 522 is 1074 - 500 - 52, 1016 is 1074 - 6 - 52
pub record InRanges (O : Options) (sub : List ℕ) (ks : List Kind) (xy : List Float) : Type 0 where
  pub buses : length sub ≤ 2 ^ 12
  pub branches : length ks ≤ 2 ^ 13
  pub mapped : Mapped 522 (2 ^ 1113) xy
  pub fill : Stepped 1016 (16 * 2 ^ 1074) O.fill
  pub radius : Stepped 1016 (1024 * 2 ^ 1074) O.tier_radius
  pub scale_1 : Stepped 1016 (2 ^ 1074) O.tier_scale_1
  pub scale_2 : Stepped 1016 (2 ^ 1074) O.tier_scale_2
  pub block_options : EachBlockOption BlockOption O.block_options
  -- two occupied stations on different seeds: some station has a nearest other
  pub some : IsSome (median_of (table (nearest (coordinates (seeds sub xy) (occupied (bus_counts sub))) (length (occupied (bus_counts sub)))) (length (occupied (bus_counts sub)))))

module _ (O : Options) (sub kv : List ℕ) (ks : List Kind) (xy : List Float) (search : ℕ) (F : InRanges O sub ks xy) (xy' : List Float) (D : DoubledMap xy xy') where
  abbrev pub counts : List ℕ
  counts = bus_counts sub

  abbrev pub seeds₁ : List Point
  seeds₁ = seeds sub xy

  abbrev pub seeds₂ : List Point
  seeds₂ = seeds sub xy'

  pub seed_of_lem : (s : ℕ) → DoublesPoint 458 (2 ^ 1125) (place_at seeds₁ s) (place_at seeds₂ s)
  seed_of_lem = seeds_doubles sub xy xy' (bus_doubles xy xy' D F.mapped) 4095 F.buses sum_limit (power 1125 (lit< tt)) (buses_le sub F.buses)

  pub rows_from : from_rows sub seeds₂ ks ≡ from_rows sub seeds₁ ks
  rows_from = from_rows_lem (lit< tt) sub seeds₁ seeds₂ seed_of_lem ks

  pub rows_to : to_rows sub seeds₂ ks ≡ to_rows sub seeds₁ ks
  rows_to = to_rows_lem (lit< tt) sub seeds₁ seeds₂ seed_of_lem ks

  -- spacing: the differences of seeds are up to 2 ^ 1126 grains
  pub spacing_of : Doubles 406 (2 ^ 1127) (spacing seeds₁ counts) (spacing seeds₂ counts)
  unfolding spacing
  spacing_of =
      spacing_doubles {i = 458} {t = 2 ^ 1125} 406 (2 ^ 1127) refl (lit≤ tt) (lit≤ tt) (power 1126 (lit< tt)) (power 1127 (lit< tt))
      (coordinates seeds₁ (occupied counts)) (coordinates seeds₂ (occupied counts)) (length (occupied counts)) (coordinates_doubles seeds₁ seeds₂ seed_of_lem (occupied counts)) F.some

  pub scales_are : scales O seeds₂ counts (spacing seeds₂ counts) ≡ scales O seeds₁ counts (spacing seeds₁ counts)
  scales_are =
      scales_same {i = 458} {t = 2 ^ 1125} 406 (2 ^ 1127) refl (lit≤ tt) (lit≤ tt) (power 1126 (lit< tt)) (power 1127 (lit< tt)) O seeds₁ seeds₂ counts (spacing seeds₁ counts) (spacing seeds₂ counts) seed_of_lem
      (mul_doubles_2 348 (2 ^ 1137) F.radius spacing_of refl (lit≤ tt) (lit≤ tt) (power 1137 (lit< tt)))

  abbrev pub blocks : List Size
  blocks = sizes O.block_options sub ks counts

  abbrev pub unit₁ : Float
  unit₁ = unit_for O.fill (spacing seeds₁ counts) (typical blocks counts)

  abbrev pub unit₂ : Float
  unit₂ = unit_for O.fill (spacing seeds₂ counts) (typical blocks counts)

  sized : (s : ℕ) → Blocks (size_at blocks s)
  sized = sizes_stepped O.block_options F.block_options sub ks F.buses F.branches

  -- unit: 348 - 52 - 16
  pub unit_of : Doubles 280 (2 ^ 1184) unit₁ unit₂
  unit_of =
      unit_doubles 348 (2 ^ 1131) 280 (2 ^ 1184) F.fill spacing_of (typical_stepped blocks sized counts) (typical_positive blocks sized counts) refl (lit≤ tt) (lit≤ tt) (power 1131 (lit< tt))
      (lit≤ tt) (lit≤ tt) (lit≤ tt) (power 1184 (lit< tt))

  abbrev pub scales₁ : List Float
  scales₁ = scales O seeds₁ counts (spacing seeds₁ counts)

  abbrev pub half_sides₁ : List HalfSides
  half_sides₁ = half_sides (measures_of O unit₁) scales₁ blocks

  abbrev pub half_sides₂ : List HalfSides
  half_sides₂ = half_sides (measures_of O unit₂) (scales O seeds₂ counts (spacing seeds₂ counts)) blocks

  pub half_sides_of : (s : ℕ) → DoublesHalfSides 116 (2 ^ 1200) (half_sides_at half_sides₁ s) (half_sides_at half_sides₂ s)
  half_sides_of s =
      subst (λ (l : List Float). DoublesHalfSides 116 (2 ^ 1200) (half_sides_at half_sides₁ s) (half_sides_at (half_sides (measures_of O unit₂) l blocks) s)) (sym scales_are)
      (each_half_sides_doubles {t = 2 ^ 1184} 116 O.block_options unit₁ unit₂ scales₁ blocks unit_of (scales_stepped O seeds₁ counts (spacing seeds₁ counts) F.scale_1 F.scale_2) sized F.block_options.buffer (lit≤ tt) (power 1184 (lit< tt)) (power 1200 (lit< tt)) s)

  -- seeds up to 2 ^ 1180 grains, half sides up to 2 ^ 1200
  search_limits : SearchLimits 116 (2 ^ 1180) (2 ^ 1200)
  search_limits = record {
    fine = lit≤ tt;
    offset = limit 20 1200 (lit< tt) (lit≤ tt);
    widened = limit 80 1200 (lit< tt) (lit≤ tt);
    place = limit (1 + 80 * 2 ^ 20) 1180 (lit< tt) (lit≤ tt);
    box = limit (1 + 81 * 2 ^ 20) 1180 (lit< tt) (lit≤ tt);
    kept_free = limit 8 1200 (lit< tt) (lit≤ tt);
    buffer = limit (1 + 89 * 2 ^ 20) 1180 (lit< tt) (lit≤ tt);
  }

  abbrev pub order : List ℕ
  order = placement_order sub kv counts

  abbrev pub places₁ : List Point
  places₁ = places half_sides₁ (offsets search) seeds₁ order

  abbrev pub places₂ : List Point
  places₂ = places half_sides₂ (offsets search) seeds₂ order

  pub place_of : (s : ℕ) → DoublesPoint 116 (2 ^ 1180 + 80 * 2 ^ 1200) (place_at places₁ s) (place_at places₂ s)
  place_of =
      places_doubles half_sides₁ half_sides₂ (offsets search) seeds₁ seeds₂ order half_sides_of (λ s. finer (seed_of_lem s)) (station_count sub) (seeds_length sub xy) (seeds_length sub xy')
      (subst (λ (n : ℕ). Turns n order) (counts_length sub) (order_turns sub kv counts)) (offsets_small search) search_limits

  pub box_of : (s : ℕ) → DoublesBox 116 (2 ^ 1180 + 80 * 2 ^ 1200 + 2 ^ 1200) (box_in (boxes half_sides₁ counts places₁) s) (box_in (boxes half_sides₂ counts places₂) s)
  box_of = boxes_doubles half_sides₁ half_sides₂ counts places₁ places₂ half_sides_of place_of search_limits.box

  -- refusal 8
  pub ill_sized_lem : ill_sized (boxes half_sides₂ counts places₂) (occupied counts) ≡ ill_sized (boxes half_sides₁ counts places₁) (occupied counts)
  ill_sized_lem = ill_sized_of_doubles (boxes half_sides₁ counts places₁) (boxes half_sides₂ counts places₂) box_of (limit (2 * (1 + 81 * 2 ^ 20)) 1180 (lit< tt) (lit≤ tt)) (occupied counts)
