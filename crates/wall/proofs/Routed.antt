-- The points of a line's run, by the lists after a call that draws: its row ends, its exits, its crossings and its detour's points. Assumes nothing.
use Prim.Native.Nat.{ℕ, zero, suc, ◌+◌, ◌*◌, ◌<◌}
use mathlib.Core.Path.{◌≡◌, refl, sym, ap, subst, ◌∙◌}
use mathlib.Core.Bool.{cond}
use mathlib.Core.List.{List, [], ◌∷◌, ◌++◌}
use Rattle.std.specs.Prelude.{Option, Some, None}
use native.Mathlib.Nat.{not-suc-le-zero, le_of_suc-le-suc}
use native.Mathlib.Omega.{arith}
use lib.Dec.{ltb}
use lib.ListN.{length, get_or, length-set}
use lib.Ieee.{Float, le, nan}
use Rattle.numbers.specs.Ops.{f1}
use Rattle.numbers.specs.Order.{pick}
use Rattle.numbers.specs.Table.{table}
use Rattle.numbers.proofs.order.Tables.{length_table, get_d_table, table_ext}
use Rattle.numbers.proofs.order.Strides.{is_table}
use Rattle.plane.specs.declared.geometry.Point.{Point}
use Rattle.plane.specs.declared.geometry.Box.{Box}
use Rattle.plane.specs.Plane.{point, origin, point_at, box_at, no_box}
use Rattle.network.specs.declared.options.Options.{Options}
use Rattle.network.specs.declared.words.Kind.{Kind}
use Rattle.network.specs.declared.words.Kind.TheVariants.{Undrawn, Open, Internal, Line}
use Rattle.network.specs.Words.{station_of, station_count, kind_at, Safe}
use Rattle.network.specs.Seed.{place_at}
use Rattle.network.proofs.Stations.{station_below}
use Rattle.network.proofs.Branches.{kind_safe}
use Rattle.stations.specs.Row.{from_row, to_row, to_rows}
use Rattle.stations.specs.Unit.{coordinates}
use Rattle.offsets.specs.declared.offset.Offset.{Offset}
use Rattle.placement.specs.Place.{places_to, places}
use Rattle.placement.specs.Search.{HalfSides}
use Rattle.stations.specs.Exit as Exit
use Rattle.stations.specs.Exit.{exit_x}
use Rattle.boxes.specs.Detour.{detour}
use Rattle.runs.specs.Run.{row_end_at}
use Rattle.routing.specs.Route as Route
use Rattle.routing.specs.Clearance.{clearance_of}
use Rattle.routing.specs.Routes.{mesh_used, crossings_of}
use Rattle.drawing.specs.declared.answer.Plot.{Plot}
use Rattle.std.specs.Prelude.{Ok}
use Rattle.drawing.specs.Network.{Network, Lists, Work, Crossings}
use Rattle.drawing.specs.Drawing as Drawing
use Rattle.drawing.specs.Drawing.{drawing, planned, straight_scene, routed_of, routed_scene}
use Rattle.drawing.specs.Answer.{layout_of}
use Rattle.wall.specs.Wall.{kind, all_kinds, row_number, order, end_in, exit_in, exit_at, line_of, box_list, stations, if_used, routed_in, crossing_points, detoured}
use Rattle.wall.proofs.Crossed.{way_is}
use Rattle.wall.proofs.Opened.{seeds, unit, scales, fs, os, end, row_end_point, routed, via, via_is, led_way, kinds_length, kind_at_lem, from_row_lem, to_row_lem}
use Rattle.wall.proofs.Parts.{counts_length, seeds_length, unit_of, boxes_length, held_box, scales_length, held_scale, held_end}

places_length : (fs : List HalfSides) (os : List Offset) (seeds : List Point) (order : List ℕ) (i : ℕ) → length (places_to fs os seeds order i) ≡ length seeds
unfolding places_to
places_length fs os seeds order zero = refl
places_length fs os seeds order (suc i) = length-set (places_to fs os seeds order i) (get_or order i 0) _ ∙ places_length fs os seeds order i

module _ (o : Options) (N : Network) (L : Lists) (W : Work) (X : Crossings) (p : Plot) (drawn : (layout_of o N L W X).answer ≡ Ok p) where
  abbrev exit : Lists
  exit = (layout_of o N L W X).lists

  abbrev k : ℕ
  k = station_count N.station

  abbrev at : ℕ → Point
  at s = place_at (end o N) s

  -- ---- the lists as tables
  ends_length : length (end o N) ≡ k
  unfolding places
  ends_length = places_length (fs o N) (os o N) (seeds o N) (order N) (length (order N)) ∙ sym (seeds_length N) ∙ counts_length N

  places_are : end o N ≡ table at k
  places_are = is_table at k (end o N) origin ends_length (λ i h. refl)

  boxes_are : (drawing o N).boxes ≡ box_list N exit
  boxes_are = is_table (box_at exit.boxes) k (drawing o N).boxes no_box (boxes_length o N L W X p drawn) (λ s h. sym (held_box o N L W X p drawn s h))

  scales_are : scales o N ≡ table (λ s. get_or exit.scales s nan) k
  scales_are = is_table (λ s. get_or exit.scales s nan) k (scales o N) f1 (scales_length o N L W X p drawn) (λ s h. sym (held_scale o N L W X p drawn s h))

  -- ---- exits
  exit_is : (s t : ℕ) (y : Float) → s < k → Exit.exit (drawing o N).boxes (end o N) s t y ≡ exit_in exit at s t y
  unfolding Exit.exit exit_x
  exit_is s t y h = ap (λ (b : Box). point (pick (le (at s).x (at t).x) b.right b.left) y) (sym (held_box o N L W X p drawn s h))

  exit_of : (e i j : ℕ) → i < length N.station
      → Exit.exit (drawing o N).boxes (end o N) (station_of N.station i) (station_of N.station j) (row_end_point o N i (row_number N (station_of N.station i) e)).y ≡ exit_at o N p exit at e i j
  exit_of e i j h =
      let s = station_of N.station i in
      let t = station_of N.station j in
      ap (λ (q : Point). Exit.exit (drawing o N).boxes (end o N) s t q.y) (sym (held_end o N L W X p drawn i (row_number N s e) h))
      ∙ exit_is s t (end_in o N p exit e i).y (station_below N.station i h)

  -- ---- what lines are routed through
  abbrev straight : Rattle.runs.specs.Run.RunScene
  straight = (planned o N).scene

  line_by : (e : ℕ) (c : Kind) → Safe N.station c
      → Drawing.line_for straight (from_row N.station (seeds o N) (all_kinds N) e c) (to_row N.station (seeds o N) (all_kinds N) e c) c ≡ line_of o N p exit at e c
  unfolding Drawing.line_for line_of from_row to_row Safe planned straight_scene row_end_at drawing
  line_by e Undrawn s = refl
  line_by e (Open a b) s = refl
  line_by e (Internal a b) s = refl
  line_by e (Line a b) s =
      ap (λ (q : Point). Some (line q (Exit.exit (drawing o N).boxes (end o N) (station_of N.station b) (station_of N.station a) (row_end_point o N b (row_number N (station_of N.station b) e)).y))) (exit_of e a b s.0)
      ∙ ap (λ (q : Point). Some (line (exit_at o N p exit at e a b) q)) (exit_of e b a s.1)
    where
      line : Point → Point → Route.RoutedLine
      line u w = record { sa = station_of N.station a; sb = station_of N.station b; exit0 = u; exit1 = w }

  line_at : (e : ℕ) → e < length N.from → Drawing.line_of straight e ≡ line_of o N p exit at e (kind N e)
  unfolding Drawing.line_of planned straight_scene
  line_at e h =
      let ks = all_kinds N in
      let F = from_row N.station (seeds o N) ks e in
      let G = to_row N.station (seeds o N) ks e in
      ap (λ (r : ℕ). Drawing.line_for straight r (get_or (to_rows N.station (seeds o N) ks) e 0) (kind_at ks e)) (from_row_lem o N e h)
      ∙ ap (λ (r : ℕ). Drawing.line_for straight (F (kind_at ks e)) r (kind_at ks e)) (to_row_lem o N e h)
      ∙ ap (λ (c : Kind). Drawing.line_for straight (F c) (G c) c) (kind_at_lem o N e h)
      ∙ line_by e (kind N e) (kind_safe N.station N.from N.to N.service e)

  lines_are : table (Drawing.line_of straight) (length (all_kinds N)) ≡ table (λ e. line_of o N p exit at e (kind N e)) (length N.from)
  lines_are =
      ap (table (Drawing.line_of straight)) (kinds_length o N) ∙ table_ext (Drawing.line_of straight) (λ e. line_of o N p exit at e (kind N e)) (length N.from) line_at

  scene : List Float → List Box → List Float → Float → List (Option Route.RoutedLine) → Route.MeshScene
  scene centres boxes scales clearance lines =
      record {
        occupied = stations N;
        centres = centres;
        boxes = boxes;
        scales = scales;
        clearance = clearance;
        corners = if_used o N N.corners;
        twins = if_used o N N.twins;
        lines = lines;
      }

  routed_is : routed o N ≡ routed_in o N p exit at
  unfolding routed_of routed_scene planned straight_scene routed_in scene drawing mesh_used
  routed_is =
      let ss = stations N in
      let lines = table (Drawing.line_of straight) (length (all_kinds N)) in
      ap (λ (l : List Point). scene (coordinates l ss) (drawing o N).boxes (scales o N) (clearance_of (unit o N)) lines) places_are
      ∙ ap (λ (l : List Box). scene (coordinates (table at k) ss) l (scales o N) (clearance_of (unit o N)) lines) boxes_are
      ∙ ap (λ (l : List Float). scene (coordinates (table at k) ss) (box_list N exit) l (clearance_of (unit o N)) lines) scales_are
      ∙ ap (λ (u : Float). scene (coordinates (table at k) ss) (box_list N exit) (table (λ s. get_or exit.scales s nan) k) (clearance_of u) lines) (sym (unit_of o N L W X p drawn))
      ∙ ap (scene (coordinates (table at k) ss) (box_list N exit) (table (λ s. get_or exit.scales s nan) k) (clearance_of p.unit)) lines_are

  -- ---- crossings
  module _ (e a b : ℕ) (h : e < length N.from) (K : kind N e ≡ Line a b) where
    abbrev R : Route.MeshScene
    R = routed_in o N p exit at

    abbrev line : Route.RoutedLine
    line = record { sa = station_of N.station a; sb = station_of N.station b; exit0 = exit_at o N p exit at e a b; exit1 = exit_at o N p exit at e b a }

    in_lines : e < length R.lines
    unfolding routed_in
    in_lines = subst (λ (n : ℕ). e < n) (sym (length_table (λ i. line_of o N p exit at i (kind N i)) (length N.from))) h

    the_line : get_or R.lines e None ≡ Some line
    unfolding routed_in line_of
    the_line = get_d_table (λ i. line_of o N p exit at i (kind N i)) (length N.from) e None h ∙ ap (line_of o N p exit at e) K

    crossings_are : via o N e ≡ crossing_points R o.route_iterations e (station_of N.station a) (station_of N.station b)
    unfolding crossing_points
    crossings_are =
        via_is o N e h ∙ ap (λ (Q : Route.MeshScene). Route.waypoints Q (Route.routing Q) (crossings_of Q o.route_iterations) e) routed_is
        ∙ way_is R e line in_lines the_line (crossings_of R o.route_iterations)

  -- ---- the mesh's corners
  at_corner : (ps : List Point) (ss : List ℕ) (v : ℕ) → v < length ss → point_at (coordinates ps ss) v ≡ place_at ps (get_or ss v 0)
  unfolding coordinates
  at_corner ps [] v l = absurd (not-suc-le-zero l)
  at_corner ps (s ∷ ss) zero l = refl
  at_corner ps (s ∷ ss) (suc v) l =
      let x : 2 * suc v ≡ suc (suc (2 * v)) = omega arith in
      let y : 2 * suc v + 1 ≡ suc (suc (2 * v + 1)) = omega arith in
      let r = (place_at ps s).x ∷ (place_at ps s).y ∷ coordinates ps ss in
      ap (λ (i : ℕ). point (get_or r i nan) (get_or r (2 * suc v + 1) nan)) x ∙ ap (λ (i : ℕ). point (get_or (coordinates ps ss) (2 * v) nan) (get_or r i nan)) y
      ∙ at_corner ps ss v (le_of_suc-le-suc l)

  pub corners_are : (v : ℕ) → v < length (stations N) → point_at (routed_in o N p exit at).centres v ≡ at (get_or (stations N) v 0)
  unfolding routed_in
  corners_are v l = at_corner (table at k) (stations N) v l ∙ ap (λ (ps : List Point). place_at ps (get_or (stations N) v 0)) (sym places_are)

  -- ---- the path
  led_is : (s t : ℕ) (path : List Point) → led_way o N s t path ≡ detoured o N p exit s t path
  led_is s t path =
      ap (λ (l : List Box). cond (ltb 0 o.route_iterations) (detour l (stations N) (clearance_of (unit o N)) s t path) path) boxes_are
      ∙ ap (λ (u : Float). cond (ltb 0 o.route_iterations) (detour (box_list N exit) (stations N) (clearance_of u) s t path) path) (sym (unit_of o N L W X p drawn))

  module _ (e a b : ℕ) (h : e < length N.from) (K : kind N e ≡ Line a b) (f : a < length N.station) (g : b < length N.station) where
    abbrev s : ℕ
    s = station_of N.station a

    abbrev t : ℕ
    t = station_of N.station b

    abbrev u : Point
    u = row_end_point o N a (row_number N s e)

    abbrev w : Point
    w = row_end_point o N b (row_number N t e)

    abbrev E : Point
    E = Exit.exit (drawing o N).boxes (end o N) s t u.y

    abbrev F : Point
    F = Exit.exit (drawing o N).boxes (end o N) t s w.y

    abbrev way : List Point
    way = crossing_points (routed_in o N p exit at) o.route_iterations e s t

    pub line_points : u ∷ (led_way o N s t (E ∷ (via o N e ++ (F ∷ []))) ++ (w ∷ []))
        ≡ end_in o N p exit e a ∷ (detoured o N p exit s t (exit_at o N p exit at e a b ∷ (way ++ (exit_at o N p exit at e b a ∷ []))) ++ (end_in o N p exit e b ∷ []))
    line_points =
        ap (λ (q : Point). u ∷ (led_way o N s t (q ∷ (via o N e ++ (F ∷ []))) ++ (w ∷ []))) (exit_of e a b f)
        ∙ ap (λ (q : Point). u ∷ (led_way o N s t (exit_at o N p exit at e a b ∷ (via o N e ++ (q ∷ []))) ++ (w ∷ []))) (exit_of e b a g)
        ∙ ap (λ (v : List Point). u ∷ (led_way o N s t (exit_at o N p exit at e a b ∷ (v ++ (exit_at o N p exit at e b a ∷ []))) ++ (w ∷ []))) (crossings_are e a b h K)
        ∙ ap (λ (v : List Point). u ∷ (v ++ (w ∷ []))) (led_is s t (exit_at o N p exit at e a b ∷ (way ++ (exit_at o N p exit at e b a ∷ []))))
        ∙ ap (λ (q : Point). q ∷ (detoured o N p exit s t (exit_at o N p exit at e a b ∷ (way ++ (exit_at o N p exit at e b a ∷ []))) ++ (w ∷ []))) (sym (held_end o N L W X p drawn a (row_number N s e) f))
        ∙ ap (λ (q : Point). end_in o N p exit e a ∷ (detoured o N p exit s t (exit_at o N p exit at e a b ∷ (way ++ (exit_at o N p exit at e b a ∷ []))) ++ (q ∷ []))) (sym (held_end o N L W X p drawn b (row_number N t e) g))
