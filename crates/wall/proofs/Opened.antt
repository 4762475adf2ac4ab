-- The parts of a drawing, each by the definition of its step. Assumes nothing.
--     run_points    the points of each branch's run
--     points_fit    every point of a run is of the format
use Prim.Native.Nat.{ℕ, ◌<◌}
use mathlib.Core.Path.{◌≡◌, refl, sym, ap, subst, ◌∙◌}
use mathlib.Core.Bool.{Bool, true, false, cond}
use mathlib.Core.List.{List, [], ◌∷◌, ◌++◌, map}
use lib.Dec.{T, ltb}
use lib.ListN.{length, get_or, length-map, get_or-map}
use lib.Ieee.{Float, binary64, fits, lt, le}
use lib.Ieee.Fits.{add-fits, sub-fits, div-fits}
use lib.Ieee.Bits.{of_bits-fits}
use Rattle.numbers.specs.Ops.{f0, f2, ◌⊕◌, ◌⊖◌, ◌⊗◌, ◌⊘◌}
use Rattle.numbers.specs.Order.{pick, up_from}
use Rattle.numbers.proofs.order.Tables.{length_table, get_d_table}
use Rattle.plane.specs.declared.geometry.Point.{Point}
use Rattle.plane.specs.declared.geometry.Box.{Box}
use Rattle.network.specs.declared.options.BlockOptions.{BlockOptions}
use Rattle.network.specs.declared.options.Options.{Options}
use Rattle.network.specs.Options.{search_of}
use Rattle.network.specs.declared.words.Kind.{Kind}
use Rattle.network.specs.declared.words.Kind.TheVariants.{Undrawn, Open, Internal, Line}
use Rattle.network.specs.Words.{station_of, bus_counts, is_occupied, occupied, kinds, kind_at}
use Rattle.network.specs.Seed as Seed
use Rattle.network.specs.Seed.{place_at}
use Rattle.stations.specs.Column as Column
use Rattle.stations.specs.Row.{from_row, to_row, from_rows, to_rows}
use Rattle.stations.specs.Size as Sizes
use Rattle.stations.specs.Size.{Size}
use Rattle.stations.specs.Unit.{spacing, typical, unit_for}
use Rattle.stations.specs.Scale as Scale
use Rattle.offsets.specs.declared.offset.Offset.{Offset}
use Rattle.offsets.specs.Offset as Offset
use Rattle.plane.specs.Plane.{box_in, no_box}
use Rattle.placement.specs.Place.{places, boxes, box_of}
use Rattle.placement.specs.Search.{HalfSides, half_sides, box_on}
use Rattle.stations.specs.declared.bars.Bar.{Bar}
use Rattle.stations.specs.Bar as Bars
use Rattle.stations.specs.Bar.{Span, bare, rows, bar_ends, lengthened, bar_for, bar_at, position, row_end, bar_middle}
use Rattle.stations.specs.Exit.{exit_x, exit}
use Rattle.runs.specs.Run as Run
use Rattle.boxes.specs.Detour.{detour}
use Rattle.routing.specs.Route as Route
use Rattle.runs.specs.Run.{RunScene, row_end_at, led_path, line_points, run_for, run_of, all_pieces, role}
use Rattle.drawing.specs.Network.{Network}
use Rattle.routing.specs.Clearance.{clearance_of}
use Rattle.routing.specs.Routes.{crossings_of}
use Rattle.drawing.specs.Drawing.{measures_of, drawing, planned, straight_scene, led_scene, scene_of, routed_of, routed_scene, waypoints_of}
use Rattle.wall.specs.Wall.{kind, all_kinds, row_number, order}
use Rattle.wall.proofs.Every.{Every, every_at, every_table, every_append, every_map}
use Rattle.wall.proofs.Detours.{FitsPoint, detour_fits}

-- ---- floats of the format

abbrev FitsBox : Box → Type 0
FitsBox b = T (fits binary64 b.left) × T (fits binary64 b.right)

abbrev FitsBar : Bar → Type 0
FitsBar b = T (fits binary64 b.x)

f0_fits : T (fits binary64 f0)
f0_fits = of_bits-fits binary64 0

bar_ends_fit : (G : BlockOptions) (box : Box) (f x : Float) (s : Span) → T (fits binary64 x) → FitsBar (bar_ends G box f x s)
unfolding bar_ends
bar_ends_fit G box f x bare h = h
bar_ends_fit G box f x (rows a b) h = h

pick_bar : (u : Bool) (a b : Bar) → FitsBar a → FitsBar b → FitsBar (pick u a b)
pick_bar true a b h k = h
pick_bar false a b h k = k

lengthened_fits : (G : BlockOptions) (f : Float) (b : Bar) → FitsBar b → FitsBar (lengthened G f b)
unfolding lengthened
lengthened_fits G f b h =
    pick_bar (lt (b.y1 ⊖ b.y0) (G.min_bar ⊗ f)) (record { x = b.x; y0 = bar_middle b ⊖ G.min_bar ⊗ f ⊘ f2; y1 = bar_middle b ⊕ G.min_bar ⊗ f ⊘ f2 }) b h h

bars_fit : (G : BlockOptions) (sub columns : List ℕ) (spans : List Span) (fs : List Float) (bs : List Box) (i : ℕ) → FitsBar (bar_at (Bars.bars G sub columns spans fs bs) i)
unfolding Bars.bars bar_for Bars.bar_x
bars_fit G sub columns spans fs bs i =
    every_at FitsBar _ _ i (every_table FitsBar _ 0 (length sub) (λ j. lengthened_fits _ _ _ (bar_ends_fit _ _ _ _ _ (add-fits binary64 _ _)))) f0_fits

boxes_fit : (fs : List HalfSides) (counts : List ℕ) (ps : List Point) (s : ℕ) → FitsBox (box_in (boxes fs counts ps) s)
unfolding boxes box_of box_on
boxes_fit fs counts ps s =
    every_at FitsBox _ _ s (every_table FitsBox (λ s. pick (is_occupied counts s) (box_of fs ps s) no_box) 0 (length counts) (λ s. go s (is_occupied counts s))) (f0_fits, f0_fits)
  where
    go : (s : ℕ) (b : Bool) → FitsBox (pick b (box_of fs ps s) no_box)
    go s true = (sub-fits binary64 _ _, add-fits binary64 _ _)
    go s false = (f0_fits, f0_fits)

pick_fits : (u : Bool) (a b : Float) → T (fits binary64 a) → T (fits binary64 b) → T (fits binary64 (pick u a b))
pick_fits true a b h k = h
pick_fits false a b h k = k

module _ (S : RunScene) (B : (i : ℕ) → FitsBar (bar_at S.bars i)) (X : (s : ℕ) → FitsBox (box_in S.boxes s)) where
  row_end_fits : (i r : ℕ) → FitsPoint (row_end_at S i r)
  unfolding row_end_at row_end Bars.row_y
  row_end_fits i r = (B i, add-fits binary64 _ _)

  exit_fits : (s t : ℕ) (y : Float) → T (fits binary64 y) → FitsPoint (exit S.boxes S.places s t y)
  unfolding exit exit_x
  exit_fits s t y h = (pick_fits (le (place_at S.places s).x (place_at S.places t).x) (box_in S.boxes s).right (box_in S.boxes s).left (X s).1 (X s).0, h)

  position_fits : (i : ℕ) → FitsPoint (position (bar_at S.bars i))
  unfolding position
  position_fits i = (B i, div-fits binary64 _ _)

  led_path_fits : (s t : ℕ) (path : List Point) → Every FitsPoint path → Every FitsPoint (led_path S s t path)
  unfolding led_path
  led_path_fits s t path h = go S.led
    where
      go : (u : Bool) → Every FitsPoint (cond u (detour S.boxes S.occupied S.clearance s t path) path)
      go true = detour_fits S.boxes S.occupied S.clearance s t path h
      go false = h

  run_fits : (ra rb : ℕ) (via : List Point) (k : Kind) → Every FitsPoint via → Every FitsPoint (run_for S ra rb via k)
  unfolding run_for line_points Every
  run_fits ra rb via Undrawn v = tt
  run_fits ra rb via (Open a b) v = (position_fits a, (position_fits b, tt))
  run_fits ra rb via (Internal a b) v = (row_end_fits a ra, (row_end_fits b rb, tt))
  run_fits ra rb via (Line a b) v =
      let s = station_of S.sub a in
      let t = station_of S.sub b in
      let p = row_end_at S a ra in
      let q = row_end_at S b rb in
      let e = exit S.boxes S.places s t p.y in
      let f = exit S.boxes S.places t s q.y in (
        row_end_fits a ra,
        every_append FitsPoint (led_path S s t (e ∷ (via ++ (f ∷ [])))) (q ∷ [])
            (led_path_fits s t (e ∷ (via ++ (f ∷ [])))
            (exit_fits s t p.y (row_end_fits a ra).1, every_append FitsPoint via (f ∷ []) v (exit_fits t s q.y (row_end_fits b rb).1, tt)))
            (row_end_fits b rb, tt),
      )

-- every waypoint is of the format
point_fits : (R : Route.MeshScene) (ps : List Float) (x : ℕ) → FitsPoint (Route.point_of R (Route.routing R) ps x)
unfolding Route.point_of Route.point_on
point_fits R ps x = (add-fits binary64 _ _, add-fits binary64 _ _)

way_fits : (R : Route.MeshScene) (ps : List Float) (e : ℕ) → Every FitsPoint (Route.waypoints R (Route.routing R) ps e)
unfolding Route.waypoints
way_fits R ps e =
    let w = Route.kept_crossings_at R (Route.routing R) e in
    every_map FitsPoint (Route.point_of R (Route.routing R) ps) (up_from w.first w.count) (point_fits R ps)

ways_fit : (R : Route.MeshScene) (ps : List Float) (e : ℕ) → Every FitsPoint (get_or (waypoints_of R ps) e [])
unfolding waypoints_of
ways_fit R ps e =
    every_at (Every FitsPoint) (waypoints_of R ps) [] e
    (every_table (Every FitsPoint) (Route.waypoints R (Route.routing R) ps) 0 (length R.lines) (way_fits R ps))
    (unfold Every in tt)

-- ---- the drawing's parts

module _ (o : Options) (N : Network) where
  abbrev pub counts : List ℕ
  counts = bus_counts N.station

  abbrev pub seeds : List Point
  seeds = Seed.seeds N.station N.xy

  abbrev pub sizes : List Size
  sizes = Sizes.sizes o.block_options N.station (all_kinds N) counts

  abbrev pub median_spacing : Float
  median_spacing = spacing seeds counts

  abbrev pub unit : Float
  unit = unit_for o.fill median_spacing (typical sizes counts)

  abbrev pub scales : List Float
  scales = Scale.scales o seeds counts median_spacing

  abbrev pub fs : List HalfSides
  fs = half_sides (measures_of o unit) scales sizes

  abbrev pub os : List Offset
  os = Offset.offsets (search_of o.search)

  abbrev pub end : List Point
  end = places fs os seeds (order N)

  abbrev pub blocks : List Float
  blocks = map (λ (r : HalfSides). r.f) fs

  pub unit_is : (drawing o N).unit ≡ unit
  unfolding drawing planned
  unit_is = refl

  pub scales_is : (drawing o N).scales ≡ scales
  unfolding drawing planned
  scales_is = refl

  pub boxes_is : (drawing o N).boxes ≡ boxes fs counts end
  unfolding drawing planned
  boxes_is = refl

  pub pieces_is : (drawing o N).pieces ≡ all_pieces (all_kinds N) (drawing o N).runs
  unfolding drawing
  pieces_is = refl

  pub bars_length : length (drawing o N).bars ≡ length N.station
  unfolding drawing planned Bars.bars
  bars_length = length_table _ (length N.station)

  -- the row end of bus i
  abbrev pub row_end_point : ℕ → ℕ → Point
  row_end_point i r = row_end o.block_options N.station blocks (drawing o N).boxes (drawing o N).bars i r

  abbrev pub station_list : List ℕ
  station_list = occupied counts

  -- what the lines are routed through, and branch e's waypoints
  abbrev pub routed : Route.MeshScene
  routed = routed_of o N (planned o N)

  abbrev pub via : ℕ → List Point
  via e = get_or (waypoints_of routed (crossings_of routed o.route_iterations)) e []

  -- a path from station s to station t, led round boxes where there are iterations
  abbrev pub led_way : ℕ → ℕ → List Point → List Point
  led_way s t path =
      cond (ltb 0 o.route_iterations) (detour (drawing o N).boxes station_list (clearance_of unit) s t path) path

  -- the points of branch e's run, and what they are by its kind
  abbrev pub drawn_points : ℕ → List Point
  drawn_points e = get_or (drawing o N).runs e []

  unfoldable pub Ended : ℕ → List Point → Kind → Type 0
  Ended e points Undrawn = points ≡ []
  Ended e points (Open a b) = points ≡ position (bar_at (drawing o N).bars a) ∷ position (bar_at (drawing o N).bars b) ∷ []
  Ended e points (Internal a b) =
      points ≡ row_end_point a (row_number N (station_of N.station a) e) ∷ row_end_point b (row_number N (station_of N.station b) e) ∷ []
  Ended e points (Line a b) =
      let s = station_of N.station a in
      let t = station_of N.station b in
      let u = row_end_point a (row_number N s e) in
      let w = row_end_point b (row_number N t e) in
      points ≡ u ∷ (led_way s t (exit (drawing o N).boxes end s t u.y ∷ (via e ++ (exit (drawing o N).boxes end t s w.y ∷ []))) ++ (w ∷ []))

  scene : RunScene
  scene = scene_of o N (planned o N)

  runs_are : (drawing o N).runs ≡ Run.runs scene
  unfolding drawing scene
  runs_are = refl

  pub kinds_length : length (all_kinds N) ≡ length N.from
  unfolding kinds
  kinds_length = length_table _ (length N.from)

  pub kind_at_lem : (e : ℕ) → e < length N.from → kind_at (all_kinds N) e ≡ kind N e
  unfolding kinds
  kind_at_lem e h = get_d_table _ (length N.from) e Undrawn h

  roles_are : (drawing o N).roles ≡ map role (all_kinds N)
  unfolding drawing
  roles_are = refl

  pub roles_length : length (drawing o N).roles ≡ length N.from
  roles_length = ap (λ (l : List ℕ). length l) roles_are ∙ length-map (all_kinds N) role ∙ kinds_length

  pub role_at : (e : ℕ) → e < length N.from → get_or (drawing o N).roles e (role Undrawn) ≡ role (kind N e)
  role_at e h = ap (λ (l : List ℕ). get_or l e (role Undrawn)) roles_are ∙ get_or-map role (all_kinds N) e Undrawn ∙ ap role (kind_at_lem e h)

  run_at : (e : ℕ) → e < length N.from → drawn_points e ≡ run_of scene e
  unfolding Run.runs scene scene_of led_scene planned straight_scene
  run_at e h = ap (λ (l : List (List Point)). get_or l e []) runs_are ∙ get_d_table (run_of scene) _ e [] (subst (λ (n : ℕ). e < n) (sym kinds_length) h)

  pub from_row_lem : (e : ℕ) → e < length N.from → get_or (from_rows N.station seeds (all_kinds N)) e 0 ≡ from_row N.station seeds (all_kinds N) e (kind_at (all_kinds N) e)
  unfolding from_rows
  from_row_lem e h = get_d_table _ _ e 0 (subst (λ (n : ℕ). e < n) (sym kinds_length) h)

  pub to_row_lem : (e : ℕ) → e < length N.from → get_or (to_rows N.station seeds (all_kinds N)) e 0 ≡ to_row N.station seeds (all_kinds N) e (kind_at (all_kinds N) e)
  unfolding to_rows
  to_row_lem e h = get_d_table _ _ e 0 (subst (λ (n : ℕ). e < n) (sym kinds_length) h)

  by_kind : (e : ℕ) (k : Kind)
      → Ended e (run_for scene (from_row N.station seeds (all_kinds N) e k) (to_row N.station seeds (all_kinds N) e k) (get_or scene.ways e []) k) k
  unfolding Ended run_for line_points led_path row_end_at from_row to_row scene scene_of led_scene drawing planned straight_scene
  by_kind e Undrawn = refl
  by_kind e (Open a b) = refl
  by_kind e (Internal a b) = refl
  by_kind e (Line a b) = refl

  pub run_points : (e : ℕ) → e < length N.from → Ended e (drawn_points e) (kind N e)
  unfolding run_of scene scene_of led_scene planned straight_scene
  run_points e h =
      let ways = get_or scene.ways e [] in
      subst (λ (l : List Point). Ended e l (kind N e)) (sym (run_at e h))
      (subst (λ (r : ℕ). Ended e (run_for scene r (get_or (to_rows N.station seeds (all_kinds N)) e 0) ways (kind_at (all_kinds N) e)) (kind N e)) (sym (from_row_lem e h))
      (subst (λ (r : ℕ). Ended e (run_for scene (from_row N.station seeds (all_kinds N) e (kind_at (all_kinds N) e)) r ways (kind_at (all_kinds N) e)) (kind N e)) (sym (to_row_lem e h))
      (subst (λ (k : Kind). Ended e (run_for scene (from_row N.station seeds (all_kinds N) e k) (to_row N.station seeds (all_kinds N) e k) ways k) (kind N e)) (sym (kind_at_lem e h))
      (by_kind e (kind N e)))))

  -- its waypoints are those of its path
  pub via_is : (e : ℕ) → e < length N.from → via e ≡ Route.waypoints routed (Route.routing routed) (crossings_of routed o.route_iterations) e
  unfolding waypoints_of routed_of routed_scene planned straight_scene
  via_is e h =
      get_d_table _ _ e [] (subst (λ (n : ℕ). e < n) (sym (length_table _ (length (all_kinds N)) ∙ kinds_length)) h)

  bars_good : (i : ℕ) → FitsBar (bar_at (drawing o N).bars i)
  unfolding drawing planned
  bars_good i = bars_fit o.block_options N.station _ _ _ _ i

  boxes_good : (s : ℕ) → FitsBox (box_in (drawing o N).boxes s)
  unfolding drawing planned
  boxes_good s = boxes_fit _ counts _ s

  pub points_fit : (e : ℕ) → e < length N.from → Every FitsPoint (drawn_points e)
  unfolding run_of scene scene_of led_scene planned straight_scene drawing
  points_fit e h =
      subst (Every FitsPoint) (sym (run_at e h))
      (run_fits scene bars_good boxes_good (get_or scene.from_rows e 0) (get_or scene.to_rows e 0) (get_or scene.ways e []) (kind_at scene.kinds e)
      (ways_fit (routed_of o N (planned o N)) _ e))
