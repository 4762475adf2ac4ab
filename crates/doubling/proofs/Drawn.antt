-- Doubling for the whole drawing: `drawing` of a network and of the same with every coordinate doubled (DoubledMap), without iterations. The refusals are the same; of the result lists the lengths are doubled,
-- and scales, roles and the pieces' branches are the same. Assumes nothing.
use mathlib.Core.Path.{◌≡◌, refl, sym, ap, ◌∙◌, subst}
use mathlib.Core.Bool.{Bool, true, false, ◌&&◌}
use mathlib.Core.List.{List, [], ◌∷◌, ◌++◌, map}
use Prim.Native.Nat.{ℕ, zero, suc, ◌+◌, ◌*◌, ◌^◌, ◌≤◌, ◌<◌}
use native.Mathlib.Nat.{lt_of_not-le}
use native.Mathlib.Omega.{arith}
use native.Mathlib.Decide.{dec_le}
use lib.Dec.{leb, ltb}
use lib.ListN.{length, get_or, get_or-eq_default}
use lib.Ieee.{Float}
use Rattle.numbers.specs.Ops.{f0}
use Rattle.numbers.specs.Double.{twice, Doubles}
use Rattle.numbers.specs.Order.{pick, up_from}
use Rattle.numbers.specs.Table.{table}
use Rattle.numbers.proofs.order.Tables.{length_table, get_d_table}
use Rattle.plane.specs.declared.geometry.Point.{Point}
use Rattle.plane.specs.declared.geometry.Box.{Box}
use Rattle.network.specs.declared.options.Options.{Options}
use Rattle.network.specs.Options.{search_of}
use Rattle.network.specs.declared.words.Kind.{Kind}
use Rattle.network.specs.Words.{bus_counts, kinds, occupied}
use Rattle.plane.specs.Plane.{no_box}
use Rattle.placement.specs.Place.{boxes}
use Rattle.placement.specs.Sized.{ill_sized}
use Rattle.stations.specs.declared.bars.Bar.{Bar}
use Rattle.stations.specs.Bar.{bars, position}
use Rattle.routing.specs.Route as Route
use Rattle.routing.specs.Routes.{mesh_used, crossings_of}
use Rattle.routing.proofs.routes.Few.{length_rounds, routing_short}
use Rattle.runs.specs.Run.{RunScene, Piece, runs, run_of}
use Rattle.runs.specs.Lists.{flat, point_numbers, box_numbers, bar_numbers, piece_numbers}
use Rattle.drawing.specs.declared.lengths.ListLengths.{ListLengths}
use Rattle.drawing.specs.Network.{Network}
use Rattle.drawing.specs.Drawing.{Plan, planned, straight_scene, led_scene, routed_of, routed_scene, waypoints_of, scene_of, drawing}
use Rattle.drawing.specs.Answer.{crossing_room, routed_by, late_by, late, lists_of}
use Rattle.stations.specs.Doubles.{DoublesPoint, Paired}
use Rattle.placement.specs.Doubles.{DoublesBox}
use Rattle.doubling.specs.Twice.{TwiceBox, Twice, DoubledMap}
use Rattle.doubling.specs.Doubling.{with_map}
use Rattle.doubling.proofs.Bars.{DoublesBar}
use Rattle.doubling.proofs.Runs.{Scenes, DoublesPiece, run_doubles, all_pieces_lem, position_doubles}
use Rattle.doubling.proofs.Stage.{InRanges, doubles_table, unit_of, scales_are, rows_from, rows_to, place_of, box_of, ill_sized_lem}
use Rattle.doubling.proofs.Whole.{few, block_of, bar_of, bounds_of_lem, box_wide, point_wide}
use Rattle.doubling.proofs.Passed.{Passed, in_ranges}

-- ---- lists
-- lists of one length, element by element
paired_of : {A : Type 0} (R : A → A → Type 0) (d : A) (l l' : List A) → length l' ≡ length l → ((i : ℕ) → R (get_or l i d) (get_or l' i d)) → Paired R l l'
paired_of R d [] [] e h = tt
paired_of R d [] (x' ∷ l') e h = absurd (never (length l') e)
  where
    never : (n : ℕ) → suc n ≡ 0 → ⊥
    never n e = omega arith
paired_of R d (x ∷ l) [] e h = absurd (never (length l) e)
  where
    never : (n : ℕ) → 0 ≡ suc n → ⊥
    never n e = omega arith
paired_of R d (x ∷ l) (x' ∷ l') e h = (h 0, paired_of R d l l' (down (length l') (length l) e) (λ i. h (suc i)))
  where
    down : (m n : ℕ) → suc m ≡ suc n → m ≡ n
    down m n e = omega arith

map_append : (l m : List Float) → map twice (l ++ m) ≡ map twice l ++ map twice m
map_append [] m = refl
map_append (x ∷ l) m = ap (λ (k : List Float). twice x ∷ k) (map_append l m)

flat_paired : {A : Type 0} (R : A → A → Type 0) (g : A → List Float) → ((x x' : A) → R x x' → g x' ≡ map twice (g x)) → (l l' : List A) → Paired R l l' → flat g l' ≡ map twice (flat g l)
unfolding flat
flat_paired R g h [] [] p = refl
flat_paired R g h [] (x' ∷ l') p = absurd p
flat_paired R g h (x ∷ l) [] p = absurd p
flat_paired R g h (x ∷ l) (x' ∷ l') p =
    ap (λ (k : List Float). k ++ flat g l') (h x x' p.0) ∙ ap (λ (k : List Float). map twice (g x) ++ k) (flat_paired R g h l l' p.1) ∙ sym (map_append (g x) (flat g l))

paired_length : {A : Type 0} (R : A → A → Type 0) (l l' : List A) → Paired R l l' → length l' ≡ length l
paired_length R [] [] p = refl
paired_length R [] (x' ∷ l') p = absurd p
paired_length R (x ∷ l) [] p = absurd p
paired_length R (x ∷ l) (x' ∷ l') p = ap suc (paired_length R l l' p.1)

-- ---- their numbers
point_numbers_lem : {lo top : ℕ} (p p' : Point) → DoublesPoint lo top p p' → point_numbers p' ≡ map twice (point_numbers p)
point_numbers_lem p p' h = let a = h.x.is in let b = h.y.is in cc (a, b)

box_numbers_lem : {lo top : ℕ} (b b' : Box) → DoublesBox lo top b b' → box_numbers b' ≡ map twice (box_numbers b)
box_numbers_lem b b' h = let l = h.left.is in let t = h.top_side.is in let r = h.right.is in let m = h.bottom.is in cc (l, t, r, m)

bar_numbers_lem : {lo top : ℕ} (b b' : Bar) → DoublesBar lo top b b' → bar_numbers b' ≡ map twice (bar_numbers b)
bar_numbers_lem b b' h = let x = h.x.is in let y = h.y0.is in let z = h.y1.is in cc (x, y, z)

piece_numbers_lem : (p p' : Piece) → DoublesPiece p p' → piece_numbers p' ≡ map twice (piece_numbers p)
piece_numbers_lem p p' h = let a = h.start.x.is in let b = h.start.y.is in let c = h.end.x.is in let d = h.end.y.is in cc (a, b, c, d)

branches_same : (l l' : List Piece) → Paired DoublesPiece l l' → map (λ (p : Piece). p.branch) l' ≡ map (λ (p : Piece). p.branch) l
branches_same [] [] p = refl
branches_same [] (x' ∷ l') p = absurd p
branches_same (x ∷ l) [] p = absurd p
branches_same (x ∷ l) (x' ∷ l') p = ap (λ (k : ℕ). k ∷ map (λ (q : Piece). q.branch) l') p.0.branch ∙ ap (λ (k : List ℕ). x.branch ∷ k) (branches_same l l' p.1)

-- ---- no iterations: no mesh, no crossings, no waypoints
module _ (R : Route.MeshScene) (meshless : length R.corners ≡ 0) where
  none_many : (n : ℕ) → length (crossings_of R n) ≡ 0
  unfolding crossings_of
  none_many n =
      let f = routing_short R in
      let z : length R.lines * length R.corners ≡ length R.lines * 0 = ap (λ (t : ℕ). length R.lines * t) meshless in
      length_rounds R (Route.routing R) n ∙ omega (arith, f.many)

  none_way : (ps : List Float) (e : ℕ) → e < length R.lines → Route.waypoints R (Route.routing R) ps e ≡ []
  unfolding Route.waypoints
  none_way ps e h = at (Route.kept_crossings_at R (Route.routing R) e).first (Route.kept_crossings_at R (Route.routing R) e).count (omega (arith, (routing_short R).each e h))
    where
      at : (a n : ℕ) → n ≤ 0 → map (Route.point_of R (Route.routing R) ps) (up_from a n) ≡ []
      at a zero k = unfold up_from in refl
      at a (suc n) k = absurd (omega arith)

  no_ways : (ps : List Float) (e : ℕ) → get_or (waypoints_of R ps) e [] ≡ []
  unfolding waypoints_of
  no_ways ps e = go (dec_le (length R.lines) e)
    where
      go : Dec (length R.lines ≤ e) → get_or (table (Route.waypoints R (Route.routing R) ps) (length R.lines)) e [] ≡ []
      go (yes h) = get_or-eq_default (table (Route.waypoints R (Route.routing R) ps) (length R.lines)) [] (subst (λ (z : ℕ). z ≤ e) (sym (length_table (Route.waypoints R (Route.routing R) ps) (length R.lines))) h)
      go (no h) = get_d_table (Route.waypoints R (Route.routing R) ps) (length R.lines) e [] (lt_of_not-le h) ∙ none_way ps e (lt_of_not-le h)

and_false : (b : Bool) → b && false ≡ false
and_false true = refl
and_false false = refl

module _ (O : Options) (N : Network) (it : O.route_iterations ≡ 0) (A : Passed 1 O N.station (kinds N.station N.from N.to N.service) N.xy) (xy' : List Float) (D : DoubledMap N.xy xy') where
  abbrev ks : List Kind
  ks = kinds N.station N.from N.to N.service

  F : InRanges O N.station (kinds N.station N.from N.to N.service) N.xy
  F = in_ranges O N.station (kinds N.station N.from N.to N.service) N.xy A

  abbrev search : ℕ
  search = search_of O.search

  no_mesh : (n : ℕ) → mesh_used n O.route_iterations ≡ false
  unfolding mesh_used
  no_mesh n = ap (λ (i : ℕ). leb 3 n && ltb 0 i) it ∙ and_false (leb 3 n)

  meshless : (M : Network) (P : Plan) → length (routed_of O M P).corners ≡ 0
  unfolding routed_of routed_scene
  meshless M P = ap (λ (b : Bool). length (pick b M.corners [])) (no_mesh (length (occupied P.counts)))

  ways_none : (M : Network) (P : Plan) (e : ℕ) → get_or (scene_of O M P).ways e [] ≡ []
  unfolding scene_of led_scene
  ways_none M P e = no_ways (routed_of O M P) (meshless M P) (crossings_of (routed_of O M P) O.route_iterations) e

  scenes : Scenes (scene_of O N (planned O N)) (scene_of O (with_map N xy') (planned O (with_map N xy')))
  unfolding scene_of led_scene planned straight_scene
  scenes = record {
    sub = refl;
    kinds = refl;
    from_rows = rows_from O N.station N.kv ks N.xy search F xy' D;
    to_rows = rows_to O N.station N.kv ks N.xy search F xy' D;
    few = few O N.station N.kv ks N.xy search F xy' D;
    same_block_options = refl;
    block_options = F.block_options;
    blocks = block_of O N.station N.kv ks N.xy search F xy' D;
    boxes = λ s. box_wide (box_of O N.station N.kv ks N.xy search F xy' D s);
    places = λ s. point_wide (place_of O N.station N.kv ks N.xy search F xy' D s);
    bars = bar_of O N.station N.kv ks N.xy search F xy' D;
    led = ap (λ (i : ℕ). ltb 0 i) it;
    led' = ap (λ (i : ℕ). ltb 0 i) it;
    ways = ways_none N (planned O N);
    ways' = ways_none (with_map N xy') (planned O (with_map N xy'));
  }

  run_of_lem : (e : ℕ) → Paired (DoublesPoint 10 (2 ^ 1221)) (get_or (drawing O N).runs e []) (get_or (drawing O (with_map N xy')).runs e [])
  unfolding drawing runs scene_of led_scene planned straight_scene
  run_of_lem = doubles_table (Paired (DoublesPoint 10 (2 ^ 1221))) (run_of (scene_of O N (planned O N))) (run_of (scene_of O (with_map N xy') (planned O (with_map N xy')))) (length ks) [] (run_doubles (scene_of O N (planned O N)) (scene_of O (with_map N xy') (planned O (with_map N xy'))) scenes) tt

  pieces_paired : Paired DoublesPiece (drawing O N).pieces (drawing O (with_map N xy')).pieces
  unfolding drawing
  pieces_paired = all_pieces_lem ks (drawing O N).runs (drawing O (with_map N xy')).runs run_of_lem

  boxes_length : length (drawing O (with_map N xy')).boxes ≡ length (drawing O N).boxes
  unfolding drawing planned boxes
  boxes_length = length_table _ (length (bus_counts N.station)) ∙ sym (length_table _ (length (bus_counts N.station)))

  boxes_paired : Paired (DoublesBox 116 (2 ^ 1180 + 80 * 2 ^ 1200 + 2 ^ 1200)) (drawing O N).boxes (drawing O (with_map N xy')).boxes
  unfolding drawing planned
  boxes_paired = paired_of (DoublesBox 116 (2 ^ 1180 + 80 * 2 ^ 1200 + 2 ^ 1200)) no_box (drawing O N).boxes (drawing O (with_map N xy')).boxes boxes_length (box_of O N.station N.kv ks N.xy search F xy' D)

  bars_length : length (drawing O (with_map N xy')).bars ≡ length (drawing O N).bars
  unfolding drawing planned bars
  bars_length = length_table _ (length N.station) ∙ sym (length_table _ (length N.station))

  bars_paired : Paired (DoublesBar 63 (2 ^ 1220)) (drawing O N).bars (drawing O (with_map N xy')).bars
  unfolding drawing planned
  bars_paired = paired_of (DoublesBar 63 (2 ^ 1220)) (record { x = f0; y0 = f0; y1 = f0 }) (drawing O N).bars (drawing O (with_map N xy')).bars bars_length (bar_of O N.station N.kv ks N.xy search F xy' D)

  unit_doubles : Doubles 280 (2 ^ 1184) (drawing O N).unit (drawing O (with_map N xy')).unit
  unfolding drawing planned
  unit_doubles = unit_of O N.station N.kv ks N.xy search F xy' D

  none_crossed : (M : Network) → length (drawing O M).crossings ≡ 0
  unfolding drawing
  none_crossed M = none_many (routed_of O M (planned O M)) (meshless M (planned O M)) O.route_iterations

  ill_same : ill_sized (drawing O (with_map N xy')).boxes (occupied (drawing O (with_map N xy')).counts) ≡ ill_sized (drawing O N).boxes (occupied (drawing O N).counts)
  unfolding drawing planned
  ill_same = ill_sized_lem O N.station N.kv ks N.xy search F xy' D

  fits_same : (drawing O (with_map N xy')).mesh_fits ≡ (drawing O N).mesh_fits
  unfolding drawing planned
  fits_same = refl

  late_is : (R : ListLengths) → late (drawing O (with_map N xy')) R ≡ late (drawing O N) R
  unfolding late
  late_is R =
      let d = drawing O N in
      let d' = drawing O (with_map N xy') in
      ap (λ (b : Bool). late_by (routed_by b d'.mesh_fits (length d'.crossings) (crossing_room R)) (length d'.pieces) R.pieces R.branches) ill_same
      ∙ ap (λ (b : Bool). late_by (routed_by (ill_sized d.boxes (occupied d.counts)) b (length d'.crossings) (crossing_room R)) (length d'.pieces) R.pieces R.branches) fits_same
      ∙ ap (λ (n : ℕ). late_by (routed_by (ill_sized d.boxes (occupied d.counts)) d.mesh_fits n (crossing_room R)) (length d'.pieces) R.pieces R.branches) (none_crossed (with_map N xy') ∙ sym (none_crossed N))
      ∙ ap (λ (n : ℕ). late_by (routed_by (ill_sized d.boxes (occupied d.counts)) d.mesh_fits (length d.crossings) (crossing_room R)) n R.pieces R.branches) (paired_length DoublesPiece d.pieces d'.pieces pieces_paired)

  bounds_twice : TwiceBox (drawing O N).bounds (drawing O (with_map N xy')).bounds
  unfolding drawing planned
  bounds_twice = bounds_of_lem O N.station N.kv ks N.xy search F xy' D (some A.i (length (occupied (bus_counts N.station))) A.first)
    where
      some : (i n : ℕ) → i < n → 0 < n
      some i n h = omega arith

  scales_same : (drawing O (with_map N xy')).scales ≡ (drawing O N).scales
  unfolding drawing planned
  scales_same = scales_are O N.station N.kv ks N.xy search F xy' D

  roles_same : (drawing O (with_map N xy')).roles ≡ (drawing O N).roles
  unfolding drawing
  roles_same = refl

  -- one doubling
  pub doubling : Twice (drawing O N) (drawing O (with_map N xy'))
  unfolding lists_of
  doubling = record {
    late_same = late_is;
    unit = unit_doubles.is;
    bounds = bounds_twice;
    piece_count = paired_length DoublesPiece (drawing O N).pieces (drawing O (with_map N xy')).pieces pieces_paired;
    positions = flat_paired (DoublesBar 63 (2 ^ 1220)) (λ b. point_numbers (position b)) (λ b b' h. point_numbers_lem (position b) (position b') (position_doubles b b' h)) (drawing O N).bars (drawing O (with_map N xy')).bars bars_paired;
    bars = flat_paired (DoublesBar 63 (2 ^ 1220)) bar_numbers bar_numbers_lem (drawing O N).bars (drawing O (with_map N xy')).bars bars_paired;
    boxes = flat_paired (DoublesBox 116 (2 ^ 1180 + 80 * 2 ^ 1200 + 2 ^ 1200)) box_numbers box_numbers_lem (drawing O N).boxes (drawing O (with_map N xy')).boxes boxes_paired;
    scales = scales_same;
    roles = roles_same;
    pieces = flat_paired DoublesPiece piece_numbers piece_numbers_lem (drawing O N).pieces (drawing O (with_map N xy')).pieces pieces_paired;
    branches = branches_same (drawing O N).pieces (drawing O (with_map N xy')).pieces pieces_paired;
  }
