-- The bars, runs and drawing that the lent lists hold are those of the definitions.
-- Assumes nothing.
use Prim.Native.Nat.{ℕ, zero, suc, ◌+◌, ◌*◌, ◌<◌}
use mathlib.Core.Path.{◌≡◌, refl, sym, ap, ◌∙◌}
use mathlib.Core.Bool.{Bool}
use mathlib.Core.List.{List, [], ◌∷◌, ◌++◌, map}
use lib.IntN.{ℤ}
use lib.ListN.{length, get_or}
use lib.Ieee.{Float, nan}
use Rattle.numbers.specs.Ops.{f0, f1, ◌⊗◌}
use Rattle.numbers.specs.Table.{table_from, table}
use Rattle.numbers.proofs.order.Tables.{length_table, get_d_table, table_ext}
use Rattle.numbers.proofs.order.Strides.{get_d_first, get_d_strided}
use Rattle.plane.specs.declared.geometry.Point.{Point}
use Rattle.plane.specs.declared.geometry.Box.{Box}
use Rattle.plane.specs.Plane.{origin, no_box, box_in}
use Rattle.network.specs.declared.options.BlockOptions.{BlockOptions}
use Rattle.network.specs.declared.options.Options.{Options}
use Rattle.network.specs.Options.{search_of}
use Rattle.network.specs.declared.words.Kind.{Kind}
use Rattle.network.specs.declared.words.Kind.TheVariants.{Undrawn, Open, Internal, Line}
use Rattle.network.specs.Words.{station_of, bus_counts, kind_of, kinds, Safe, occupied}
use Rattle.network.specs.Seed as Seed
use Rattle.network.specs.Views.{counts_in, columns_in, from_rows_in, to_rows_in, points_in, boxes_in}
use Rattle.network.proofs.Views.{get_d_points, get_d_boxes}
use Rattle.network.proofs.Branches.{kind_safe}
use Rattle.stations.specs.Column as Column
use Rattle.stations.specs.Row as Row
use Rattle.stations.specs.declared.measures.Measures.{Measures}
use Rattle.stations.specs.Size as Sizes
use Rattle.stations.specs.Size.{Size, size_at}
use Rattle.stations.specs.Unit as Unit
use Rattle.stations.specs.Unit.{spacing, typical, unit_for}
use Rattle.stations.specs.declared.measures.Typical.{Typical}
use Rattle.stations.specs.Scale as Scale
use Rattle.stations.specs.Stages.Views.{size_in, sizes_in, scales_in}
use Rattle.offsets.specs.Offset.{offsets}
use Rattle.placement.specs.Turns.{placement_order}
use Rattle.placement.specs.Place as Place
use Rattle.placement.specs.Search as PlaceSearch
use Rattle.placement.specs.Search.{HalfSides, half_sides_for}
use Rattle.placement.specs.Stages.Views.{half_sides_listed}
use Rattle.stations.specs.declared.bars.Bar.{Bar}
use Rattle.stations.specs.Bar as Bars
use Rattle.stations.specs.Bar.{Span, bare, bar_for, block_at, bar_at, row_end}
use Rattle.stations.specs.Stages.Span.{span_at, spans_in}
use Rattle.stations.specs.Exit.{exit}
use Rattle.runs.specs.Run as Run
use Rattle.runs.specs.Run.{RunScene, row_end_at, led_path, line_points, run_for, run_of}
use Rattle.boxes.specs.Stages.Paths.{path_in}
use Rattle.runs.specs.Stages.Views.{RunLists, held, lead, block_of, bar_of, row_end_of, exit_of, first_exit, second_exit, open_from, internal_from, led_in, led_run, line_from, run_from, first_waypoint, waypoint_count, run_in}
use Rattle.routing.specs.Stages.Views as Routing
use Rattle.routing.specs.Stages.Views.{grid, exit_at, line_between, line_in, lines_in}
use Rattle.routing.specs.Stages.Exits.{exits_of, exits_in, Exited}
use Rattle.results.specs.Stages.Runs.{runs_in}
use Rattle.results.specs.Stages.Bars.{bars_in}
use Rattle.placement.specs.Stages.Plan.{Settled}
use Rattle.drawing.specs.Network.{Network}
use Rattle.drawing.specs.Drawing.{measures_of, straight_scene, led_scene, line_for, line_of, planned, all_free}
use Rattle.chart.specs.Stages.LaidOut.{Holds, Prepared}

map_table : {A B : Type 0} (g : A → B) (f : ℕ → A) (a n : ℕ) → map g (table_from f a n) ≡ table_from (λ i. g (f i)) a n
unfolding table_from
map_table g f a zero = refl
map_table {A} {B} g f a (suc n) = ap (λ (l : List B). g (f a) ∷ l) (map_table g f (suc a) n)

-- the stations' blocks, by their half sides
abbrev pub blocks_by : List HalfSides → List Float
blocks_by fs = map (λ (r : HalfSides). r.f) fs

length_sizes : (k : ℕ) (l : List Float) → length (sizes_in k l) ≡ k
unfolding sizes_in
length_sizes k l = length_table (size_in l) k

pub block_held : (measures : Measures) (k s : ℕ) (l : List Float) → s < k → block_at (blocks_by (half_sides_listed measures k l)) s ≡ block_of measures.unit l s
unfolding PlaceSearch.half_sides half_sides_for block_of
block_held measures k s l h =
    let n : s < length (sizes_in k l) = rw (length_sizes k l) h in
    ap (λ (z : List Float). get_or z s f0)
    (map_table (λ (r : HalfSides). r.f) (λ (j : ℕ). half_sides_for measures (get_or (scales_in k l) j f1) (size_at (sizes_in k l) j)) 0 (length (sizes_in k l)))
    ∙ get_d_table (λ (j : ℕ). measures.unit ⊗ get_or (scales_in k l) j f1) (length (sizes_in k l)) s f0 n
    ∙ ap (λ (x : Float). measures.unit ⊗ x) (get_d_strided 3 2 nan k s l f1 h)

bar_cong : (G : BlockOptions) (b b' : Box) (f f' : Float) (c c' : ℕ) (s s' : Span) → b ≡ b' → f ≡ f' → c ≡ c' → s ≡ s' → bar_for G b f c s ≡ bar_for G b' f' c' s'
bar_cong G b b' f f' c c' s s' p q r t = cc

module _ (sub : List ℕ) (measures : Measures) (buses : List ℕ) (blocks frames : List Float) (k : ℕ) (below : (i : ℕ) → i < length sub → station_of sub i < k) where
  -- the bars of the lists by their columns, rows, blocks and boxes
  abbrev pub bars_by : List Bar
  bars_by = Bars.bars measures.block_options sub (columns_in (length sub) buses) (spans_in (length sub) buses) (blocks_by (half_sides_listed measures k blocks)) (boxes_in k frames)

  bar_held : (i : ℕ) → i < length sub
      → bar_for measures.block_options (box_in (boxes_in k frames) (station_of sub i)) (block_at (blocks_by (half_sides_listed measures k blocks)) (station_of sub i))
      (get_or (columns_in (length sub) buses) i 0) (get_or (spans_in (length sub) buses) i bare)
      ≡ bar_of measures buses blocks frames (station_of sub i) i
  unfolding bar_of spans_in
  bar_held i h =
      bar_cong _ _ _ _ _ _ _ _ _ (get_d_boxes k (station_of sub i) frames no_box (below i h)) (block_held measures k (station_of sub i) blocks (below i h))
      (get_d_first 3 0 (length sub) i buses 0 h) (get_d_table (span_at buses) (length sub) i bare h)

  pub bars_held : bars_in sub measures buses blocks frames ≡ bars_by
  unfolding bars_in Bars.bars
  bars_held = table_ext _ _ (length sub) (λ i h. sym (bar_held i h))

  pub bar_at_lem : (i : ℕ) → i < length sub → bar_at bars_by i ≡ bar_of measures buses blocks frames (station_of sub i) i
  unfolding Bars.bars
  bar_at_lem i h = get_d_table _ (length sub) i _ h ∙ bar_held i h

  pub row_end_held : (i row : ℕ) → i < length sub
      → row_end measures.block_options sub (blocks_by (half_sides_listed measures k blocks)) (boxes_in k frames) bars_by i row ≡ row_end_of measures buses blocks frames (station_of sub i) i row
  unfolding row_end row_end_of
  row_end_held i row h =
      cc (bar_at_lem i h, get_d_boxes k (station_of sub i) frames no_box (below i h), block_held measures k (station_of sub i) blocks (below i h))

  module _ (ends : List ℕ) (places : List Float) where
    exit_held : (s t : ℕ) (y : Float) → s < k → t < k → exit (boxes_in k frames) (points_in k places) s t y ≡ exit_of places frames s t y
    unfolding exit exit_of
    exit_held s t y g h = cc (get_d_boxes k s frames no_box g, get_d_points k s places origin g, get_d_points k t places origin h)

    -- the scene by its branches, its lines straight
    abbrev pub scene_by : List ℤ → List ℤ → List ℕ → RunScene
    scene_by from to service =
        straight_scene
        sub
        (kinds sub from to service)
        (from_rows_in (length from) ends)
        (to_rows_in (length from) ends)
        measures.block_options
        (blocks_by (half_sides_listed measures k blocks))
        (boxes_in k frames)
        (points_in k places)
        bars_by

    line_cong : (p q p' q' : Point) (r r' : List Point) → p ≡ p' → q ≡ q' → r ≡ r'
        → ◌≡◌ {A = List Point} (p ∷ (r ++ (q ∷ []))) (p' ∷ (r' ++ (q' ∷ [])))
    line_cong p q p' q' r r' e f g = cc

    via_cong : (a b a' b' : Point) (via : List Point) → a ≡ a' → b ≡ b' → ◌≡◌ {A = List Point} (a ∷ (via ++ (b ∷ []))) (a' ∷ (via ++ (b' ∷ [])))
    via_cong a b a' b' via e f = cc

    module _ (from to : List ℤ) (service : List ℕ) where
      -- what branches are to routing
      way_held : (ra rb : ℕ) (K : Kind) → Safe sub K
          → Routing.line_for (grid sub from to service measures ends blocks places frames) ra rb K ≡ line_for (scene_by from to service) ra rb K
      unfolding Safe Routing.line_for line_for line_between exit_at straight_scene row_end_at row_end_of
      way_held ra rb Undrawn h = refl
      way_held ra rb (Open a b) h = refl
      way_held ra rb (Internal a b) h = refl
      way_held ra rb (Line a b) h =
          cc (
            exit_held (station_of sub a) (station_of sub b) (row_end_of measures buses blocks frames (station_of sub a) a ra).y (below a h.0) (below b h.1),
            exit_held (station_of sub b) (station_of sub a) (row_end_of measures buses blocks frames (station_of sub b) b rb).y (below b h.1) (below a h.0),
            row_end_held a ra h.0,
            row_end_held b rb h.1,
          )

      way_at : (e : ℕ) → e < length from → line_in (grid sub from to service measures ends blocks places frames) e ≡ line_of (scene_by from to service) e
      unfolding line_in line_of kinds straight_scene
      way_at e h =
          way_held (get_or ends (4 * e) 0) (get_or ends (4 * e + 1) 0) (kind_of sub from to service e) (kind_safe sub from to service e)
          ∙ cc (get_d_first 4 0 (length from) e ends 0 h, get_d_strided 4 1 0 (length from) e ends 0 h, get_d_table (kind_of sub from to service) (length from) e Undrawn h)

      pub lines_held : lines_in (grid sub from to service measures ends blocks places frames) ≡ table (line_of (scene_by from to service)) (length (kinds sub from to service))
      unfolding lines_in kinds
      lines_held =
          table_ext _ _ (length from) way_at
          ∙ ap (λ (n : ℕ). table (line_of (scene_by from to service)) n) (sym (length_table (kind_of sub from to service) (length from)))

      -- ---- runs over waypoints that a list holds

      module _ (led : Bool) (clearance : Float) (stations : List ℕ) (ways : List Float) (occ : List ℕ) (W : List (List Point))
          (oc : occ ≡ occupied (counts_in k stations)) where
        abbrev held_by : RunLists
        held_by = held sub measures buses ends blocks places frames (lead led clearance k stations ways)

        abbrev led_by : RunScene
        led_by = led_scene (scene_by from to service) led occ clearance W

        led_held : (s t : ℕ) (path : List Point) → led_in led clearance k stations frames s t path ≡ led_path led_by s t path
        unfolding led_in led_path led_scene straight_scene
        led_held s t path = cc

        run_held : (e ra rb w n : ℕ) (K : Kind) → Safe sub K → first_exit (length sub) places e ≡ (exits_of (Routing.line_for (grid sub from to service measures ends blocks places frames) ra rb K)).first
            → second_exit (length sub) places e ≡ (exits_of (Routing.line_for (grid sub from to service measures ends blocks places frames) ra rb K)).second → run_from held_by e ra rb w n K ≡ run_for led_by ra rb (path_in w n ways) K
        unfolding Safe run_from run_for row_end_at line_points open_from internal_from line_from led_run led_scene straight_scene exits_of Routing.line_for line_between exit_at row_end_of
        run_held e ra rb w n Undrawn h f g = refl
        run_held e ra rb w n (Open a b) h f g = cc (bar_at_lem a h.0, bar_at_lem b h.1)
        run_held e ra rb w n (Internal a b) h f g = cc (row_end_held a ra h.0, row_end_held b rb h.1)
        run_held e ra rb w n (Line a b) h f g =
            let s = station_of sub a in
            let t = station_of sub b in
            let p = row_end_of measures buses blocks frames s a ra in
            let q = row_end_of measures buses blocks frames t b rb in
            let pe = sym (row_end_held a ra h.0) in
            let qe = sym (row_end_held b rb h.1) in
            let x = f ∙ sym (exit_held s t p.y (below a h.0) (below b h.1)) ∙ ap (λ (z : Point). exit (boxes_in k frames) (points_in k places) s t z.y) pe in
            let y = g ∙ sym (exit_held t s q.y (below b h.1) (below a h.0)) ∙ ap (λ (z : Point). exit (boxes_in k frames) (points_in k places) t s z.y) qe in
            line_cong _ _ _ _ _ _ pe qe (led_held s t _ ∙ ap (led_path led_by s t) (via_cong _ _ _ _ (path_in w n ways) x y))

        run_at : Exited (grid sub from to service measures ends blocks places frames) → ((e : ℕ) → e < length from → path_in (first_waypoint ends e) (waypoint_count ends e) ways ≡ get_or W e [])
            → (e : ℕ) → e < length from → run_in held_by e (kind_of sub from to service e) ≡ run_of led_by e
        unfolding run_in run_of kinds led_scene straight_scene exits_in line_in
        run_at E v e h =
            run_held e (get_or ends (4 * e) 0) (get_or ends (4 * e + 1) 0) (first_waypoint ends e) (waypoint_count ends e) (kind_of sub from to service e) (kind_safe sub from to service e) (E.first e h) (E.second e h)
            ∙ cc (v e h, get_d_first 4 0 (length from) e ends 0 h, get_d_strided 4 1 0 (length from) e ends 0 h, get_d_table (kind_of sub from to service) (length from) e Undrawn h)

        pub runs_held : Exited (grid sub from to service measures ends blocks places frames) → ((e : ℕ) → e < length from → path_in (first_waypoint ends e) (waypoint_count ends e) ways ≡ get_or W e []) → runs_in held_by from to service ≡ Run.runs led_by
        unfolding runs_in Run.runs kinds led_scene straight_scene
        runs_held E v =
            table_ext _ _ (length from) (run_at E v)
            ∙ ap (λ (n : ℕ). table (run_of led_by) n) (sym (length_table (kind_of sub from to service) (length from)))

-- ---- the whole drawing

half_sides_cong : (G : BlockOptions) (u v : Float) (sc sc' : List Float) (z z' : List Size) → u ≡ v → sc ≡ sc' → z ≡ z' → PlaceSearch.half_sides (record { unit = u; block_options = G }) sc z ≡ PlaceSearch.half_sides (record { unit = v; block_options = G }) sc' z'
half_sides_cong G u v sc sc' z z' p q r = cc

spans_cong : (sub : List ℕ) (ks : List Kind) (a a' b b' : List ℕ) → a ≡ a' → b ≡ b' → Bars.spans sub ks a b ≡ Bars.spans sub ks a' b'
spans_cong sub ks a a' b b' p q = cc

bars_cong : (G : BlockOptions) (sub c c' : List ℕ) (s s' : List Span) (f f' : List Float) (b b' : List Box) → c ≡ c' → s ≡ s' → f ≡ f' → b ≡ b'
    → Bars.bars G sub c s f b ≡ Bars.bars G sub c' s' f' b'
bars_cong G sub c c' s s' f f' b b' p q r t = cc

scene_cong : (G : BlockOptions) (sub : List ℕ) (ks : List Kind) (a a' b b' : List ℕ) (f f' : List Float) (x x' : List Box) (p p' : List Point) (r r' : List Bar)
    → a ≡ a' → b ≡ b' → f ≡ f' → x ≡ x' → p ≡ p' → r ≡ r' → straight_scene sub ks a b G f x p r ≡ straight_scene sub ks a' b' G f' x' p' r'
scene_cong G sub ks a a' b b' f f' x x' p p' r r' h i j l m n = cc

module _ (o : Options) (N : Network) (k : ℕ) (unit : Float) (search : ℕ) (buses ends : List ℕ) (blocks places frames : List Float) where
  pub drawing_held : ((i : ℕ) → i < length N.station → station_of N.station i < k)
      → columns_in (length N.station) buses ≡ Column.columns N.station N.kv
      → spans_in (length N.station) buses
      ≡ Bars.spans N.station (kinds N.station N.from N.to N.service) (from_rows_in (length N.from) ends) (to_rows_in (length N.from) ends)
      → from_rows_in (length N.from) ends
      ≡ Row.from_rows N.station (Seed.seeds N.station N.xy) (kinds N.station N.from N.to N.service)
      → to_rows_in (length N.from) ends
      ≡ Row.to_rows N.station (Seed.seeds N.station N.xy) (kinds N.station N.from N.to N.service)
      → sizes_in k blocks ≡ Sizes.sizes o.block_options N.station (kinds N.station N.from N.to N.service) (bus_counts N.station)
      → scales_in k blocks
      ≡ Scale.scales o (Seed.seeds N.station N.xy) (bus_counts N.station) (spacing (Seed.seeds N.station N.xy) (bus_counts N.station))
      → unit
      ≡ unit_for o.fill (spacing (Seed.seeds N.station N.xy) (bus_counts N.station))
      (typical (Sizes.sizes o.block_options N.station (kinds N.station N.from N.to N.service) (bus_counts N.station)) (bus_counts N.station))
      → search ≡ search_of o.search
      → points_in k places
      ≡ Place.places (half_sides_listed (measures_of o unit) k blocks) (offsets search) (Seed.seeds N.station N.xy) (placement_order N.station N.kv (bus_counts N.station))
      → boxes_in k frames ≡ Place.boxes (half_sides_listed (measures_of o unit) k blocks) (bus_counts N.station) (points_in k places)
      → Holds o N k unit buses ends blocks places frames
  unfolding planned
  drawing_held below cl sp fr tw sz sc un se pl bx =
      record {
        counts = refl;
        unit_is = un;
        scales = sc;
        boxes = boxes;
        bars = bars;
        scene = scene_cong o.block_options sub ks _ _ _ _ _ _ _ _ _ _ _ _ fr tw (ap blocks_by at) boxes placed bars;
      }
    where
      sub : List ℕ
      sub = N.station

      ks : List Kind
      ks = kinds sub N.from N.to N.service

      counts : List ℕ
      counts = bus_counts sub

      seeds : List Point
      seeds = Seed.seeds sub N.xy

      order : List ℕ
      order = placement_order sub N.kv counts

      fs : List HalfSides
      fs = PlaceSearch.half_sides
          (measures_of o (unit_for o.fill (spacing seeds counts) (typical (Sizes.sizes o.block_options sub ks counts) counts)))
          (Scale.scales o seeds counts (spacing seeds counts)) (Sizes.sizes o.block_options sub ks counts)

      at : half_sides_listed (measures_of o unit) k blocks ≡ fs
      at = half_sides_cong o.block_options _ _ _ _ _ _ un sc sz

      ps : List Point
      ps = Place.places fs (offsets (search_of o.search)) seeds order

      placed : points_in k places ≡ ps
      placed = pl ∙ ap (λ (z : ℕ). Place.places (half_sides_listed (measures_of o unit) k blocks) (offsets z) seeds order) se
          ∙ ap (λ (z : List HalfSides). Place.places z (offsets (search_of o.search)) seeds order) at

      boxes : boxes_in k frames ≡ Place.boxes fs counts ps
      boxes = bx ∙ ap (λ (z : List HalfSides). Place.boxes z counts (points_in k places)) at ∙ ap (λ (z : List Point). Place.boxes fs counts z) placed

      columns : List ℕ
      columns = Column.columns sub N.kv

      spans : List Span
      spans = Bars.spans sub ks (Row.from_rows sub seeds ks) (Row.to_rows sub seeds ks)

      by_parts : bars_by sub (measures_of o unit) buses blocks frames k below ≡ Bars.bars o.block_options sub columns spans (blocks_by fs) (Place.boxes fs counts ps)
      by_parts = bars_cong o.block_options sub _ _ _ _ _ _ _ _ cl (sp ∙ spans_cong sub ks _ _ _ _ fr tw) (ap blocks_by at) boxes

      bars : bars_in sub (measures_of o unit) buses blocks frames ≡ Bars.bars o.block_options sub columns spans (blocks_by fs) (Place.boxes fs counts ps)
      bars = bars_held sub (measures_of o unit) buses blocks frames k below ∙ by_parts

-- the unit at a fill, from what it follows from
unit_held : (o : Options) (N : Network) (k : ℕ) (typical : Typical) (unit : Float) (stations buses ends : List ℕ) (blocks : List Float)
    → Prepared o N k typical stations buses ends blocks → unit ≡ unit_for o.fill typical.spacing typical.side
    → unit ≡ unit_for o.fill (spacing (Seed.seeds N.station N.xy) (bus_counts N.station))
    (Unit.typical (Sizes.sizes o.block_options N.station (kinds N.station N.from N.to N.service) (bus_counts N.station)) (bus_counts N.station))
unit_held o N k typical unit stations buses ends blocks P u =
    let a = P.interiors.spacing in let b = P.interiors.side in u ∙ cc (a, b)

-- the same, from what the stages leave
pub settled_held : (o : Options) (N : Network) (k : ℕ) (typical : Typical) (unit : Float) (search : ℕ) (stations₁ stations buses ends : List ℕ)
    (places₁ blocks places frames : List Float)
    → ((i : ℕ) → i < length N.station → station_of N.station i < k)
    → Prepared o N k typical stations₁ buses ends blocks
    → points_in k places₁ ≡ Seed.seeds N.station N.xy
    → unit ≡ unit_for o.fill typical.spacing typical.side
    → search ≡ search_of o.search
    → Settled N.station N.kv k (measures_of o unit) search blocks (points_in k places₁) stations places frames
    → Holds o N k unit buses ends blocks places frames
settled_held o N k typical unit search stations₁ stations buses ends places₁ blocks places frames below P sd u se S =
    let I = P.interiors in
    drawing_held o N k unit search buses ends blocks places frames below I.columns P.spans I.from_rows I.to_rows I.sizes I.scales
    (unit_held o N k typical unit stations₁ buses ends blocks P u) se
    (S.placed
    ∙ ap
    (λ (z : List Point). Place.places (half_sides_listed (measures_of o unit) k blocks) (offsets search) z (placement_order N.station N.kv (bus_counts N.station)))
    sd)
    S.boxes

-- whether each station's search finds a free place
pub free_held : (o : Options) (N : Network) (k : ℕ) (typical : Typical) (unit : Float) (search : ℕ) (stations₁ buses ends : List ℕ) (places₁ blocks : List Float)
    → Prepared o N k typical stations₁ buses ends blocks
    → points_in k places₁ ≡ Seed.seeds N.station N.xy
    → unit ≡ unit_for o.fill typical.spacing typical.side
    → search ≡ search_of o.search
    → Place.all_find_free (half_sides_listed (measures_of o unit) k blocks) (offsets search) (points_in k places₁) (placement_order N.station N.kv (bus_counts N.station))
    ≡ all_free o N
unfolding planned all_free
free_held o N k typical unit search stations₁ buses ends places₁ blocks P sd u se =
    let un = unit_held o N k typical unit stations₁ buses ends blocks P u in
    let at = half_sides_cong o.block_options _ _ _ _ _ _ un P.interiors.scales P.interiors.sizes in
    let order = placement_order N.station N.kv (bus_counts N.station) in
    ap (λ (z : ℕ). Place.all_find_free (half_sides_listed (measures_of o unit) k blocks) (offsets z) (points_in k places₁) order) se
    ∙ ap (λ (z : List Point). Place.all_find_free (half_sides_listed (measures_of o unit) k blocks) (offsets (search_of o.search)) z order) sd
    ∙ ap (λ (z : List HalfSides). Place.all_find_free z (offsets (search_of o.search)) (Seed.seeds N.station N.xy) order) at
