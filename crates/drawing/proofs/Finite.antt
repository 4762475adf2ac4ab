-- No number of a drawing is lost: where refusals 1 to 7, 15 and 9 let an input pass, each seed, the unit, each box corner, bar end, crossing place and route point is finite.
-- It is shown for every list of seeds within 10 ^ 12, whatever they come from; a network's are within it by refusal 6. Assumes nothing.
use mathlib.Core.Path.{◌≡◌, refl, sym, ap, ◌∙◌, subst}
use mathlib.Core.Logic.{⊎_elim}
use Prim.Native.Nat.{ℕ, zero, suc, ◌+◌, ◌^◌, ◌≤◌, ◌<◌, zero-le}
use native.Mathlib.Nat.{le_trans, le_of_eq, zero-add, not-suc-le-zero, le_of_suc-le-suc}
use native.Mathlib.Omega.{arith}
use mathlib.Core.Bool.{Bool, true, false, not, cond, ◌&&◌, ◌||◌, true≢false}
use mathlib.Core.List.{List, [], ◌∷◌, map}
use Rattle.std.specs.Prelude.{Some, None}
use borrow.Author.Tests.{leb-true}
use lib.Dec.{T, ltb, eqb, lit≤}
use lib.IntN.{ℤ, pos, negsuc}
use lib.ListN.{length, get_or, get_or-map, get_or-eq_default}
use lib.Ieee.{Float, nan, lt, le, binary64, of_bits, of_fields, odd}
use Rattle.numbers.specs.Ops.{f0, f1}
use Rattle.numbers.specs.Small.{is_finite}
use Rattle.numbers.specs.Size.{AtMost, most_test}
use Rattle.numbers.proofs.float.Keys.{plus}
use Rattle.numbers.proofs.float.SizeLaws.{most_weaken, most_lit, mul_most, limit_most, f0_most}
use Rattle.numbers.proofs.float.Quotients.{mul_plus}
use Rattle.numbers.proofs.float.Each.{Each, each_at}
use Rattle.numbers.specs.Order.{pick, up_from, before, keep}
use Rattle.numbers.specs.Table.{table, which}
use Rattle.numbers.proofs.order.Laws.{all_at, get_d_up, length_up}
use Rattle.numbers.proofs.order.Merging.{le_or_lt}
use Rattle.numbers.proofs.order.Tables.{length_table, get_d_table, how_many_le, all_which}
use Rattle.plane.specs.declared.geometry.Point.{Point}
use Rattle.plane.specs.declared.geometry.Box.{Box}
use Rattle.plane.specs.Plane.{origin, box_in, no_box}
use Rattle.plane.proofs.geometry.PointSizes.{Near, Edges}
use Rattle.network.specs.Mesh.{mesh_ok}
use Rattle.network.proofs.mesh.Meshes.{Sound, mesh_sound}
use Rattle.network.specs.declared.options.Options.{Options}
use Rattle.network.specs.declared.words.Kind.{Kind}
use Rattle.network.specs.declared.words.Kind.TheVariants.{Undrawn, Open, Internal, Line}
use Rattle.network.specs.Options.{in_range, between, search_fits, block_options_fit, search_of}
use Rattle.network.specs.Words.{station_count, buses_in, bus_counts, station_of, is_occupied, occupied, kind_of, kinds, kind_at, Safe}
use Rattle.std.specs.Option.{option_or}
use Rattle.network.specs.declared.refusals.Refusal.TheVariants as Refusals
use Rattle.network.specs.Refusal.{refuse, too_far}
use Rattle.network.specs.Seed as Seed
use Rattle.network.specs.Seed.{place_at, seed_of}
use Rattle.network.proofs.refusals.SeedSizes.{Times, seed_times}
use Rattle.network.proofs.Stations.{station_below}
use Rattle.network.proofs.Branches.{kind_safe}
use Rattle.stations.specs.Column as Column
use Rattle.stations.specs.Column.{falling, voltage}
use Rattle.stations.specs.Row as Row
use Rattle.stations.specs.Row.{has_row, row_key, row}
use Rattle.stations.proofs.rows.RowLaw as RowLaw
use Rattle.stations.specs.Size as Sizes
use Rattle.stations.specs.Unit.{coordinates, spacing, typical, unit_for}
use Rattle.stations.specs.Scale as Scale
use Rattle.stations.proofs.units.UnitSizes.{spacing_most, spacing_plus, typical_least, typical_positive, unit_most, unit_plus, coordinates_each, coordinates_length, point_near}
use Rattle.stations.proofs.sizes.SideSizes.{table_at, Sides, Narrow, block_options_narrow, sizes_most}
use Rattle.stations.proofs.scales.ScaleSizes.{Scaled, scale_in, scales_all, scales_at}
use Rattle.offsets.specs.Offset as Offset
use Rattle.placement.specs.Turns.{placement_order}
use Rattle.placement.specs.Stages.Listed.{Turns}
use Rattle.placement.proofs.turns.Queue.{order_turns}
use Rattle.placement.proofs.turns.OrderLaw.{bus_occupied}
use Rattle.placement.specs.Sized.{ill_sized}
use Rattle.placement.specs.Place as Place
use Rattle.placement.specs.Search as PlaceSearch
use Rattle.placement.specs.Search.{HalfSides, half_sides_at}
use Rattle.placement.proofs.PlaceSizes.{each_half_sides_most, places_near, offsets_near, boxes_most}
use Rattle.stations.specs.declared.bars.Bar.{Bar}
use Rattle.stations.specs.Bar as Bars
use Rattle.stations.specs.Bar.{block_at, bar_at}
use Rattle.stations.proofs.bars.BarSizes.{Barred, spans_spanned, bars_most, position_near, exit_near}
use Rattle.boxes.proofs.detour.DetourSizes.{Points}
use Rattle.runs.specs.Run as Run
use Rattle.runs.specs.Run.{row_end_at}
use Rattle.runs.specs.Finite.{all_of, finite_point, finite_box, finite_bar}
use Rattle.runs.proofs.RunSizes.{most_finite, near_finite, edges_finite, barred_finite, all_of_lem, all_each, Bounded, row_end_at_near, run_near, runs_finite}
use Rattle.routing.specs.Route as Route
use Rattle.routing.specs.Route.{vertex_of}
use Rattle.routing.specs.Clearance.{clearance_of}
use Rattle.routing.proofs.rounds.CrossedSizes.{Lined, Firm}
use Rattle.routing.specs.Routes.{mesh_used, mesh_fits, crossings_of, route_refusal}
use Rattle.routing.proofs.routes.RoundSizes.{crossings_most, ways_near}
use Rattle.drawing.specs.Network.{Network}
use Rattle.drawing.specs.Drawing.{measures_of, straight_scene, planned, led_scene, line_for, line_of, routed_scene, routed_of, waypoints_of, scene_of, Drawing, drawing}
use Rattle.drawing.specs.declared.lengths.ListLengths.{ListLengths}
use Rattle.boxes.specs.Laws.{PointAtMost}
use Rattle.drawing.specs.Laws.{NumbersAreSized}
use Rattle.drawing.specs.Answer.{early, piece_room, crossing_room, routed_by, late_by, late, all_finite}
use Rattle.drawing.proofs.Fitting.{fits_of}

-- ---- the options' ranges

record Ranged (O : Options) : Type 0 where
  above : lt f0 O.fill ≡ true
  most : le O.fill (of_bits binary64 0x4030_0000_0000_0000) ≡ true
  first : Scaled O.tier_scale_1
  second : Scaled O.tier_scale_2
  search : search_of O.search ≤ 20
  block_options : Narrow O.block_options

both : (a b : Bool) → (a && b) ≡ true → (a ≡ true) × (b ≡ true)
both true b h = (refl, h)
both false b h = absurd (true≢false (sym h))

search_small : (s : ℤ) → search_fits s ≡ true → search_of s ≤ 20
unfolding search_fits search_of
search_small (pos s) h = leb-true s 20 h
search_small (negsuc s) h = zero-le

ranged : (O : Options) → in_range O ≡ true → Ranged O
unfolding in_range
ranged O h =
    let h1 = both (lt f0 O.fill) _ h in
    let h2 = both (le O.fill (of_bits binary64 0x4030_0000_0000_0000)) _ h1.1 in
    let h3 = both (between f0 O.tier_radius (of_bits binary64 0x408F_4000_0000_0000)) _ h2.1 in
    let h4 = both (between (of_bits binary64 0x3F90_0000_0000_0000) O.tier_scale_1 f1) _ h3.1 in
    let h5 = both (between (of_bits binary64 0x3F90_0000_0000_0000) O.tier_scale_2 f1) _ h4.1 in
    let h6 = both (search_fits O.search) _ h5.1 in
    let h7 = both (block_options_fit O.block_options) _ h6.1 in
    record {
      above = h1.0;
      most = h2.0;
      first = scale_in O.tier_scale_1 h4.0;
      second = scale_in O.tier_scale_2 h5.0;
      search = search_small O.search h6.0;
      block_options = block_options_narrow O.block_options h7.0;
    }

-- ---- the clearance
clearance_part : AtMost 1074 (of_bits binary64 0x3FE9_9999_9999_999A)
unfolding most_test is_finite of_bits of_fields odd
clearance_part = most_lit 1074 (of_bits binary64 0x3FE9_9999_9999_999A) tt

clearance_part_plus : T (plus (of_bits binary64 0x3FE9_9999_9999_999A))
unfolding plus of_bits of_fields odd
clearance_part_plus = tt

clearance_of_most : (unit : Float) → AtMost (1074 + 46) unit → AtMost (1074 + 46) (clearance_of unit)
unfolding clearance_of
clearance_of_most unit h = mul_most 1074 (1074 + 46) (1074 + 46) (of_bits binary64 0x3FE9_9999_9999_999A) unit (lit≤ tt) (lit≤ tt) clearance_part h

clearance_of_plus : (unit : Float) → AtMost (1074 + 46) unit → T (plus unit) → T (plus (clearance_of unit))
clearance_of_plus unit h p = go (clearance_of_most unit h)
  where
    go : AtMost (1074 + 46) (clearance_of unit) → T (plus (clearance_of unit))
    go k = unfold clearance_of in mul_plus (of_bits binary64 0x3FE9_9999_9999_999A) unit clearance_part_plus p k.finite

-- ---- a number that stands in a list has a place in it
place_below : (s : ℕ) (l : List ℕ) (j : ℕ) → j < length l → get_or l j 0 ≡ s → vertex_of s l < length l
unfolding vertex_of
place_below s [] j h e = absurd (not-suc-le-zero h)
place_below s (x ∷ xs) zero h e = go (eqb x s) refl
  where
    go : (b : Bool) → eqb x s ≡ b → cond b 0 (suc (vertex_of s xs)) < suc (length xs)
    go true q = omega arith
    go false q = absurd (borrow.Author.Tests.eqb-false x s q e)
place_below s (x ∷ xs) (suc j) h e = go (eqb x s) (place_below s xs j (le_of_suc-le-suc h) e)
  where
    go : (b : Bool) → vertex_of s xs < length xs → cond b 0 (suc (vertex_of s xs)) < suc (length xs)
    go true k = omega arith
    go false k = omega arith

occupied_below : (counts : List ℕ) (v : ℕ) → v < length (occupied counts) → get_or (occupied counts) v 0 < length counts
unfolding occupied
occupied_below counts v h = all_at (λ s. s < length counts) (which (is_occupied counts) (length counts)) v h (all_which (is_occupied counts) (λ s. s < length counts) (length counts) (λ i l e. l))

counts_length : (sub : List ℕ) → length (bus_counts sub) ≡ station_count sub
unfolding bus_counts
counts_length sub = length_table (buses_in sub) (station_count sub)

-- the station of a bus is one of the occupied ones
bus_place : (sub : List ℕ) (i : ℕ) → i < length sub → vertex_of (station_of sub i) (occupied (bus_counts sub)) < length (occupied (bus_counts sub))
unfolding occupied
bus_place sub i h =
    let s = station_of sub i in
    let counts = bus_counts sub in
    let n = length counts in
    let l : s < n = subst (λ (k : ℕ). s < k) (sym (counts_length sub)) (station_below sub i h) in
    let u : get_or (up_from 0 n) s 0 ≡ s = get_d_up 0 n s l ∙ zero-add s in
    let o : is_occupied counts (get_or (up_from 0 n) s 0) ≡ true = ap (is_occupied counts) u ∙ bus_occupied sub s (i, h, refl) in
    let z = RowLaw.kept_at (is_occupied counts) (up_from 0 n) s (subst (λ (k : ℕ). s < k) (sym (length_up 0 n)) l) o in
    place_below s (keep (is_occupied counts) (up_from 0 n)) z.0 z.1 (z.2 ∙ u)

-- ---- kinds and rows
kinds_length : (sub : List ℕ) (from to : List ℤ) (service : List ℕ) → length (kinds sub from to service) ≡ length from
unfolding kinds
kinds_length sub from to service = length_table (kind_of sub from to service) (length from)

kinds_safe : (sub : List ℕ) (from to : List ℤ) (service : List ℕ) (e : ℕ) → Safe sub (kind_at (kinds sub from to service) e)
unfolding kinds Safe
kinds_safe sub from to service e = table_at (Safe sub) (kind_of sub from to service) (length from) e Undrawn (λ i l. kind_safe sub from to service i) tt

row_few : (sub : List ℕ) (seeds : List Point) (ks : List Kind) (s e : ℕ) → row sub seeds ks s e ≤ length ks
unfolding row
row_few sub seeds ks s e = how_many_le (λ i. pick (has_row sub s (kind_at ks i)) (before (λ j. row_key sub seeds s (kind_at ks j)) ltb i e) false) (length ks)

module _ (sub : List ℕ) (seeds : List Point) (ks : List Kind) (many : length ks ≤ 2 ^ 13) where
  few : (s e : ℕ) → row sub seeds ks s e ≤ 2 ^ 13
  few s e = le_trans (row_few sub seeds ks s e) many

  from_few : (e : ℕ) (c : Kind) → Row.from_row sub seeds ks e c ≤ 2 ^ 13
  unfolding Row.from_row
  from_few e Undrawn = zero-le
  from_few e (Open a b) = zero-le
  from_few e (Internal a b) = few (station_of sub a) e
  from_few e (Line a b) = few (station_of sub a) e

  to_few : (e : ℕ) (c : Kind) → Row.to_row sub seeds ks e c ≤ 2 ^ 13
  unfolding Row.to_row
  to_few e Undrawn = zero-le
  to_few e (Open a b) = zero-le
  to_few e (Internal a b) = few (station_of sub b) e
  to_few e (Line a b) = few (station_of sub b) e

  from_rows_few : (e : ℕ) → get_or (Row.from_rows sub seeds ks) e 0 ≤ 2 ^ 13
  unfolding Row.from_rows
  from_rows_few e = table_at (λ n. n ≤ 2 ^ 13) (λ i. Row.from_row sub seeds ks i (kind_at ks i)) (length ks) e 0 (λ i l. from_few i (kind_at ks i)) zero-le

  to_rows_few : (e : ℕ) → get_or (Row.to_rows sub seeds ks) e 0 ≤ 2 ^ 13
  unfolding Row.to_rows
  to_rows_few e = table_at (λ n. n ≤ 2 ^ 13) (λ i. Row.to_row sub seeds ks i (kind_at ks i)) (length ks) e 0 (λ i l. to_few i (kind_at ks i)) zero-le

columns_few : (sub kv : List ℕ) → length sub ≤ 4096 → (i : ℕ) → get_or (Column.columns sub kv) i 0 ≤ 2 ^ 12
unfolding Column.columns Column.column
columns_few sub kv few i =
    table_at (λ n. n ≤ 2 ^ 12) (Column.column sub kv) (length sub) i 0
    (λ j l. le_trans (how_many_le (λ k. pick (eqb (station_of sub k) (station_of sub j)) (before (λ b. falling (voltage kv b)) ltb k j) false) (length sub)) few) zero-le

counts_few : (sub : List ℕ) → length sub ≤ 4096 → (s : ℕ) → get_or (bus_counts sub) s 0 ≤ 2 ^ 12
unfolding bus_counts buses_in
counts_few sub few s =
    table_at (λ n. n ≤ 2 ^ 12) (buses_in sub) (station_count sub) s 0 (λ j l. le_trans (how_many_le (λ i. eqb (station_of sub i) j) (length sub)) few) zero-le

from_some : {A : Type 0} (x y : A) → Some x ≡ Some y → x ≡ y
from_some x y e = cc

-- ---- the drawing of any seeds within 10 ^ 12
module _ (O : Options) (N : Network) (R : Ranged O) (few-buses : length N.station ≤ 4096) (few-branches : length N.from ≤ 8192)
    (seeds : List Point) (long : length seeds ≡ station_count N.station) (close : (s : ℕ) → Near (1074 + 40) (place_at seeds s)) where
  abbrev sub : List ℕ
  sub = N.station

  abbrev counts : List ℕ
  counts = bus_counts sub

  abbrev ks : List Kind
  ks = kinds sub N.from N.to N.service

  abbrev from_rows : List ℕ
  from_rows = Row.from_rows sub seeds ks

  abbrev to_rows : List ℕ
  to_rows = Row.to_rows sub seeds ks

  abbrev sizes : List Sizes.Size
  sizes = Sizes.sizes O.block_options sub ks counts

  abbrev median_spacing : Float
  median_spacing = spacing seeds counts

  abbrev unit : Float
  unit = unit_for O.fill median_spacing (typical sizes counts)

  abbrev scales : List Float
  scales = Scale.scales O seeds counts median_spacing

  abbrev half_sides : List HalfSides
  half_sides = PlaceSearch.half_sides (measures_of O unit) scales sizes

  abbrev order : List ℕ
  order = placement_order sub N.kv counts

  abbrev places : List Point
  places = Place.places half_sides (Offset.offsets (search_of O.search)) seeds order

  abbrev boxes : List Box
  boxes = Place.boxes half_sides counts places

  abbrev blocks : List Float
  blocks = map (λ (r : HalfSides). r.f) half_sides

  abbrev bars : List Bar
  bars = Bars.bars O.block_options sub (Column.columns sub N.kv) (Bars.spans sub ks from_rows to_rows) blocks boxes

  abbrev scene : Run.RunScene
  scene = straight_scene sub ks from_rows to_rows O.block_options blocks boxes places bars

  many : length ks ≤ 2 ^ 13
  many = le_trans (le_of_eq (kinds_length sub N.from N.to N.service)) few-branches

  median_spacing_most : AtMost (1074 + 42) median_spacing
  median_spacing_most = spacing_most (1074 + 40) (lit≤ tt) seeds counts (lit≤ tt) close

  unit_is_most : AtMost (1074 + 46) unit
  unit_is_most = unit_most (1074 + 42) O.fill median_spacing (typical sizes counts) (lit≤ tt) R.above R.most median_spacing_most (typical_least sizes counts)

  unit_is_plus : T (plus unit)
  unit_is_plus =
      unit_plus (1074 + 42) O.fill median_spacing (typical sizes counts) (lit≤ tt) R.above R.most median_spacing_most (spacing_plus (1074 + 40) (lit≤ tt) seeds counts close) (typical_positive sizes counts)

  framed : (s : ℕ) → Sides (1074 + 61) (half_sides_at half_sides s).half × AtMost (1074 + 46) (half_sides_at half_sides s).f
  framed =
      each_half_sides_most (1074 + 46) (1074 + 16) (1074 + 61) (lit≤ tt) (lit≤ tt) (lit≤ tt) (measures_of O unit) scales sizes unit_is_most
      (λ s. (scales_all O R.first R.second seeds counts median_spacing s).most) (sizes_most O.block_options R.block_options sub ks counts (counts_few sub few-buses) many)

  turns : Turns (length seeds) order
  turns = subst (λ (n : ℕ). Turns n order) (counts_length sub ∙ sym long) (order_turns sub N.kv counts)

  placed : (s : ℕ) → Near (1074 + 69) (place_at places s)
  placed =
      places_near (1074 + 40) (1074 + 61) (lit≤ tt) (lit≤ tt) (lit≤ tt) half_sides (Offset.offsets (search_of O.search)) seeds order turns close (λ s. (framed s).0)
      (offsets_near (search_of O.search) R.search)

  wide : (s : ℕ) → Near (1074 + 70) (place_at places s)
  wide s = let h = placed s in record { x = most_weaken (1074 + 69) (1074 + 70) (place_at places s).x (lit≤ tt) h.x; y = most_weaken (1074 + 69) (1074 + 70) (place_at places s).y (lit≤ tt) h.y }

  boxed : (s : ℕ) → Edges (1074 + 70) (box_in boxes s)
  boxed = boxes_most (1074 + 69) (1074 + 61) half_sides counts places (lit≤ tt) (lit≤ tt) placed (λ s. (framed s).0)

  blocked : (s : ℕ) → AtMost (1074 + 46) (block_at blocks s)
  blocked s = subst (AtMost (1074 + 46)) (sym (get_or-map (λ (r : HalfSides). r.f) half_sides s (record { half = record { w = f0; h = f0 }; f = f0; buffer = f0 }))) (framed s).1

  barred : (i : ℕ) → Barred (1074 + 73) (bar_at bars i)
  barred =
      bars_most O.block_options R.block_options sub (Column.columns sub N.kv) (Bars.spans sub ks from_rows to_rows) blocks boxes (columns_few sub N.kv few-buses)
      (spans_spanned (2 ^ 13) ks from_rows to_rows (from_rows_few sub seeds ks many) (to_rows_few sub seeds ks many) sub) blocked boxed

  -- ---- what lines are routed through
  abbrev occ : List ℕ
  occ = occupied counts

  abbrev used : Bool
  used = mesh_used (length occ) O.route_iterations

  abbrev routed : Route.MeshScene
  routed = routed_scene scene occ scales (clearance_of unit) (pick used N.corners []) (pick used N.twins [])

  row_ends_near : (i row : ℕ) → row ≤ 2 ^ 13 → Near (1074 + 73) (row_end_at scene i row)
  row_ends_near i row l = at (row_end_at_near scene i row l)
    where
      at : (Narrow scene.block_options → ((s : ℕ) → Edges (1074 + 70) (box_in scene.boxes s)) → ((s : ℕ) → AtMost (1074 + 46) (block_at scene.blocks s)) → ((i : ℕ) → Barred (1074 + 73) (bar_at scene.bars i)) → Near (1074 + 73) (row_end_at scene i row)) → Near (1074 + 73) (row_end_at scene i row)
      at f = unfold straight_scene in f R.block_options boxed blocked barred

  left_by : (s t i row : ℕ) → row ≤ 2 ^ 13 → Near 1184 (Rattle.stations.specs.Exit.exit boxes places s t (row_end_at scene i row).y)
  left_by s t i row l = exit_near 1184 boxes places s t (row_end_at scene i row).y (lit≤ tt) (boxed s) (most_weaken (1074 + 73) 1184 (row_end_at scene i row).y (lit≤ tt) (row_ends_near i row l).y)

  line_lined : (ra rb : ℕ) (c : Kind) (l : Route.RoutedLine) → ra ≤ 2 ^ 13 → rb ≤ 2 ^ 13 → Safe sub c → line_for scene ra rb c ≡ Some l → Lined 1184 routed l
  unfolding line_for Safe routed_scene straight_scene
  line_lined ra rb Undrawn l h k s e = absurd (let z : ◌≡◌ {A = ℕ} 0 1 = cc in omega arith)
  line_lined ra rb (Open a b) l h k s e = absurd (let z : ◌≡◌ {A = ℕ} 0 1 = cc in omega arith)
  line_lined ra rb (Internal a b) l h k s e = absurd (let z : ◌≡◌ {A = ℕ} 0 1 = cc in omega arith)
  line_lined ra rb (Line a b) l h k s e =
      subst (Lined 1184 routed) (from_some _ l e)
      (record {
        start = bus_place sub a s.0;
        end = bus_place sub b s.1;
        exit0 = left_by (station_of sub a) (station_of sub b) a ra h;
        exit1 = left_by (station_of sub b) (station_of sub a) b rb k;
      })

  lines_lined : (e : ℕ) (l : Route.RoutedLine) → get_or routed.lines e None ≡ Some l → Lined 1184 routed l
  unfolding routed_scene straight_scene line_of
  lines_lined e l q =
      ⊎_elim
      (λ (k : length ks ≤ e).
      let n : length (table (line_of scene) (length ks)) ≤ e = le_trans (le_of_eq (length_table (line_of scene) (length ks))) k in
      let z : None ≡ Some l = sym (get_or-eq_default (table (line_of scene) (length ks)) None {n = e} n) ∙ q in
      absurd (let w : ◌≡◌ {A = ℕ} 0 1 = cc in omega arith))
      (λ (k : e < length ks).
      line_lined (get_or from_rows e 0) (get_or to_rows e 0) (kind_at ks e) l (from_rows_few sub seeds ks many e) (to_rows_few sub seeds ks many e) (kinds_safe sub N.from N.to N.service e)
      (sym (get_d_table (line_of scene) (length ks) e None k) ∙ q))
      (le_or_lt (length ks) e)

  -- ---- with a mesh that 9 lets pass, or none
  module _ (fits : mesh_fits N.corners N.twins (length occ) O.route_iterations ≡ true) where
    mesh_used_lem : used ≡ true → Sound N.corners N.twins (length occ)
    unfolding mesh_fits
    mesh_used_lem e = mesh_sound N.corners N.twins (length occ) (sym (ap (λ (b : Bool). not b || mesh_ok N.corners N.twins (length occ)) e) ∙ fits)

    corners_in : (b : Bool) → used ≡ b → (h : ℕ) → h < length (pick b N.corners []) → get_or (pick b N.corners []) h 0 < length occ
    corners_in true e h l = (mesh_used_lem e).below h l
    corners_in false e h l = absurd (not-suc-le-zero l)

    corners_short : (b : Bool) → used ≡ b → length (pick b N.corners []) ≤ 24576
    corners_short true e = (mesh_used_lem e).most
    corners_short false e = zero-le

    firm : Firm 1184 routed
    firm = at (λ e l q. lines_lined e l q)
      where
        at : ((e : ℕ) (l : Route.RoutedLine) → get_or routed.lines e None ≡ Some l → Lined 1184 routed l) → Firm 1184 routed
        at f = unfold routed_scene straight_scene in
            (record {
              stands =
                  λ v l.
                  let c = scales_at O R.first R.second seeds counts median_spacing (get_or occ v 0) nan (occupied_below counts v l) in
                  let b = boxed (get_or occ v 0) in
                  record {
                    place = point_near (1074 + 70) (lit≤ tt) (coordinates places occ) (length occ) (coordinates_length (1074 + 70) (lit≤ tt) places occ) (coordinates_each (1074 + 70) (lit≤ tt) places occ wide) v l;
                    box = record { left = b.0; top = b.1; right = b.2; bottom = b.3 };
                    scale = c.most;
                    clear = c.clear;
                  };
              clearance = clearance_of_most unit unit_is_most;
              clear = clearance_of_plus unit unit_is_most unit_is_plus;
              corners = corners_in used refl;
              lines = f;
            })

    lines_few : length routed.lines ≤ 8192
    unfolding routed_scene straight_scene
    lines_few = le_trans (le_of_eq (length_table (line_of scene) (length ks))) many

    routed_short : length routed.corners ≤ 24576
    unfolding routed_scene
    routed_short = corners_short used refl

    abbrev led : Run.RunScene
    led = led_scene scene (ltb 0 O.route_iterations) occ (clearance_of unit) (waypoints_of routed (crossings_of routed O.route_iterations))

    bounded : Bounded 1184 led
    unfolding led_scene straight_scene waypoints_of
    bounded = record {
      from_rows = from_rows_few sub seeds ks many;
      to_rows = to_rows_few sub seeds ks many;
      block_options = R.block_options;
      blocks = blocked;
      boxes = boxed;
      bars = barred;
      clearance = clearance_of_most unit unit_is_most;
      ways =
          λ e. table_at (Points 1184) (Route.waypoints routed (Route.routing routed) (crossings_of routed O.route_iterations)) (length routed.lines) e []
          (λ j l. ways_near 1184 (lit≤ tt) (lit≤ tt) routed firm lines_few routed_short O.route_iterations j l) tt;
    }

    -- ---- how large they are
    crossings_sized : Each (AtMost 1106) (crossings_of routed O.route_iterations)
    crossings_sized = crossings_most 1184 (lit≤ tt) (lit≤ tt) routed firm lines_few routed_short O.route_iterations

    runs_sized : (e : ℕ) → Points 1184 (get_or (Run.runs led) e [])
    unfolding Run.runs
    runs_sized e = table_at (Points 1184) (Run.run_of led) (length led.kinds) e [] (λ i l. run_near 1184 (lit≤ tt) (lit≤ tt) led bounded i) tt

    -- ---- all of them
    seeds_finite : all_of finite_point seeds ≡ true
    seeds_finite = all_of_lem finite_point seeds origin (λ i l. near_finite (1074 + 40) (place_at seeds i) (close i))

    boxes_finite : all_of finite_box boxes ≡ true
    boxes_finite = all_of_lem finite_box boxes no_box (λ s l. edges_finite (1074 + 70) (box_in boxes s) (boxed s))

    bars_finite : all_of finite_bar bars ≡ true
    bars_finite = all_of_lem finite_bar bars (record { x = f0; y0 = f0; y1 = f0 }) (λ i l. barred_finite (1074 + 73) (bar_at bars i) (barred i))

    crossings_finite : all_of is_finite (crossings_of routed O.route_iterations) ≡ true
    crossings_finite = all_each 1106 (crossings_of routed O.route_iterations) crossings_sized

    points_finite : all_of (all_of finite_point) (Run.runs led) ≡ true
    points_finite = runs_finite 1184 (lit≤ tt) (lit≤ tt) led bounded

    all_finite_lem : (all_of finite_point seeds && (is_finite unit && (all_of finite_box boxes && (all_of finite_bar bars && (all_of is_finite (crossings_of routed O.route_iterations) && all_of (all_of finite_point) (Run.runs led)))))) ≡ true
    all_finite_lem = rw (seeds_finite, most_finite (1074 + 46) unit unit_is_most, boxes_finite, bars_finite, crossings_finite, points_finite)

-- ---- the drawing of a network's seeds

-- every seed of a drawing lies within 10 ^ 12 either way
abbrev pub SeedsWithin : Drawing → Type 0
SeedsWithin d = (s : ℕ) → s < length d.seeds → Times 1 (place_at d.seeds s)

seeds_close : (l : List Point) → ((s : ℕ) → s < length l → Times 1 (place_at l s)) → (s : ℕ) → Near (1074 + 40) (place_at l s)
seeds_close l h s =
    ⊎_elim
    (λ (k : length l ≤ s). subst (Near (1074 + 40)) (sym (get_or-eq_default l origin {n = s} k)) (record { x = f0_most (1074 + 40); y = f0_most (1074 + 40) }))
    (λ (k : s < length l). let t = h s k in record { x = limit_most (place_at l s).x t.x; y = limit_most (place_at l s).y t.y })
    (le_or_lt (length l) s)

pub finite_by_seeds : (O : Options) (N : Network) → in_range O ≡ true → length N.station ≤ 4096 → length N.from ≤ 8192 → SeedsWithin (drawing O N) → (drawing O N).mesh_fits ≡ true → all_finite (drawing O N) ≡ true
unfolding all_finite drawing planned scene_of routed_of Seed.seeds
finite_by_seeds O N range buses branches close fits =
    all_finite_lem O N (ranged O range) buses branches (Seed.seeds N.station N.xy) (length_table (seed_of N.station N.xy) (station_count N.station))
    (seeds_close (Seed.seeds N.station N.xy) close) fits

-- refusal 6 keeps them there
pub seeds_within : (O : Options) (N : Network) → length N.station ≤ 4096 → too_far (length N.station) N.xy ≡ false → SeedsWithin (drawing O N)
unfolding drawing planned Seed.seeds
seeds_within O N buses near s l =
    subst (Times 1) (sym (get_d_table (seed_of N.station N.xy) (station_count N.station) s origin (le_trans l (le_of_eq (length_table (seed_of N.station N.xy) (station_count N.station))))))
    (seed_times N.station N.xy buses near s)

-- Where 1 to 7 and 15 don't refuse the input, nor 9 the mesh, all are finite.
pub no_lost_numbers : (O : Options) (N : Network) (R : ListLengths) → None ≡ early O N R → (drawing O N).mesh_fits ≡ true → all_finite (drawing O N) ≡ true
no_lost_numbers O N R h fits =
    let F = fits_of O N R h in
    finite_by_seeds O N F.range F.shape.few F.shape.many (seeds_within O N F.shape.few F.near) fits

-- So are those of every drawing that a call draws.
mesh_of : (full ill crowded fits : Bool) → None ≡ option_or (refuse ill (Some Refusals.IllSized) (refuse (not fits) (Some Refusals.Mesh) (refuse crowded (Some Refusals.Crossings) None))) (refuse full (Some Refusals.Pieces) None) → fits ≡ true
mesh_of full true crowded fits h = cc
mesh_of full false crowded true h = refl
mesh_of full false crowded false h = cc

late_fits : (O : Options) (N : Network) (R : ListLengths) → None ≡ late (drawing O N) R → (drawing O N).mesh_fits ≡ true
unfolding late late_by routed_by route_refusal
late_fits O N R h =
    let d = drawing O N in
    mesh_of (ltb (piece_room R.pieces R.branches) (length d.pieces)) (ill_sized d.boxes (occupied d.counts)) (ltb (crossing_room R) (length d.crossings)) d.mesh_fits h

pub drawn_finite : (O : Options) (N : Network) (R : ListLengths) → None ≡ early O N R → None ≡ late (drawing O N) R → all_finite (drawing O N) ≡ true
drawn_finite O N R h k = no_lost_numbers O N R h (late_fits O N R k)

-- ---- how large each number is
points_at : (k : ℕ) (l : List Point) → Points k l → (i : ℕ) → i < length l → PointAtMost k (place_at l i)
points_at k [] h i l = absurd (not-suc-le-zero l)
points_at k (p ∷ ps) h zero l = let q = h.0 in (q.x, q.y)
points_at k (p ∷ ps) h (suc i) l = points_at k ps h.1 i (le_of_suc-le-suc l)

pub numbers_sized : NumbersAreSized
unfolding drawing planned scene_of routed_of Seed.seeds
numbers_sized O N R h fits =
    let F = fits_of O N R h in
    let r = ranged O F.range in
    let near = seeds_within O N F.shape.few F.near in
    let at = Seed.seeds N.station N.xy in
    let long = length_table (seed_of N.station N.xy) (station_count N.station) in
    let close = seeds_close at near in
    record {
      seeds = λ s l. let t = near s l in (t.x, t.y);
      between_seeds = median_spacing_most O N r F.shape.few F.shape.many at long close;
      unit = unit_is_most O N r F.shape.few F.shape.many at long close;
      places = λ s. let p = placed O N r F.shape.few F.shape.many at long close s in (p.x, p.y);
      boxes = boxed O N r F.shape.few F.shape.many at long close;
      bar_x = λ i. let b = barred O N r F.shape.few F.shape.many at long close i in b.x;
      bar_ends = λ i. let b = barred O N r F.shape.few F.shape.many at long close i in (b.y0, b.y1);
      positions = λ i. let p = position_near (1074 + 73) _ (lit≤ tt) (barred O N r F.shape.few F.shape.many at long close i) in (p.x, p.y);
      crossings = λ x l. each_at (AtMost 1106) _ x nan l (crossings_sized O N r F.shape.few F.shape.many at long close fits);
      points = λ e i l. points_at 1184 _ (runs_sized O N r F.shape.few F.shape.many at long close fits e) i l;
    }
