-- A drawing: what each step gives, handed on to the next. Definitions only.
-- The steps stand in docs/RULES.md, from 'Branches and stations' to 'Runs, pieces, roles and bounds'.
use Rattle.std.specs.Prelude.{ℕ, Bool, false, List, [], map, ltb, length, get_or, Float}
use Rattle.std.specs.Prelude.{Option, Some, None}
use Rattle.numbers.specs.Ops.{f0}
use Rattle.numbers.specs.Order.{pick}
use Rattle.numbers.specs.Table.{table}
use Rattle.plane.specs.declared.geometry.Point.{Point}
use Rattle.plane.specs.declared.geometry.Box.{Box}
use Rattle.network.specs.declared.options.BlockOptions.{BlockOptions}
use Rattle.network.specs.declared.options.Options.{Options}
use Rattle.network.specs.Options.{search_of}
use Rattle.network.specs.declared.words.Kind.{Kind}
use Rattle.network.specs.declared.words.Kind.TheVariants.{Undrawn, Open, Internal, Line}
use Rattle.network.specs.Words.{bus_counts, kinds, kind_at, station_of, occupied}
use Rattle.network.specs.Seed as Seed
use Rattle.stations.specs.Column as Column
use Rattle.stations.specs.Row as Row
use Rattle.stations.specs.declared.measures.Measures.{Measures}
use Rattle.stations.specs.Size as Sizes
use Rattle.stations.specs.Unit.{coordinates, spacing, typical, unit_for}
use Rattle.stations.specs.Scale as Scale
use Rattle.offsets.specs.Offset as Offset
use Rattle.placement.specs.Turns.{placement_order}
use Rattle.placement.specs.Place as Place
use Rattle.placement.specs.Search as PlaceSearch
use Rattle.stations.specs.declared.bars.Bar.{Bar}
use Rattle.stations.specs.Bar as Bars
use Rattle.stations.specs.Exit.{exit}
use Rattle.routing.specs.Route as Route
use Rattle.routing.specs.Clearance.{clearance_of}
use Rattle.routing.specs.Routes.{mesh_used, mesh_fits, crossings_of}
use Rattle.drawing.specs.Network.{Network}
use Rattle.runs.specs.Run as Run
use Rattle.results.specs.Bounds.{bounds_of}
use Rattle.runs.specs.Run.{RunScene, Piece, row_end_at, all_pieces, role}

-- What the steps up to the bars give, and the scene that runs are drawn from, its lines straight.
pub record Plan : Type 0 where
  pub counts : List ℕ
  pub seeds : List Point
  pub unit : Float
  pub scales : List Float
  pub places : List Point
  pub found : List Bool
  pub boxes : List Box
  pub bars : List Bar
  pub scene : RunScene

-- what interiors are measured by: a unit, and the block options
abbrev pub measures_of : Options → Float → Measures
measures_of O unit = record { unit = unit; block_options = O.block_options }

-- a scene whose lines run straight
unfoldable pub straight_scene :
    List ℕ → List Kind → List ℕ → List ℕ → BlockOptions → List Float → List Box → List Point → List Bar → RunScene
straight_scene sub ks fromRows toRows block_options blocks boxes places bars =
    record {
      sub = sub;
      kinds = ks;
      from_rows = fromRows;
      to_rows = toRows;
      block_options = block_options;
      blocks = blocks;
      boxes = boxes;
      places = places;
      bars = bars;
      led = false;
      occupied = [];
      clearance = f0;
      ways = [];
    }

unfoldable pub planned : Options → Network → Plan
planned O N =
    let sub = N.station in
    let counts = bus_counts sub in
    let ks = kinds sub N.from N.to N.service in
    let seeds = Seed.seeds sub N.xy in
    let columns = Column.columns sub N.kv in
    let fromRows = Row.from_rows sub seeds ks in
    let toRows = Row.to_rows sub seeds ks in
    let sizes = Sizes.sizes O.block_options sub ks counts in
    let median_spacing = spacing seeds counts in
    let unit = unit_for O.fill median_spacing (typical sizes counts) in
    let scales = Scale.scales O seeds counts median_spacing in
    let half_sides = PlaceSearch.half_sides (measures_of O unit) scales sizes in
    let order = placement_order sub N.kv counts in
    let offsets = Offset.offsets (search_of O.search) in
    let places = Place.places half_sides offsets seeds order in
    let found = table (Place.found_free half_sides offsets seeds order) (length order) in
    let boxes = Place.boxes half_sides counts places in
    let blocks = map (λ (r : PlaceSearch.HalfSides). r.f) half_sides in
    let bars = Bars.bars O.block_options sub columns (Bars.spans sub ks fromRows toRows) blocks boxes in
    record {
      counts = counts;
      seeds = seeds;
      unit = unit;
      scales = scales;
      places = places;
      found = found;
      boxes = boxes;
      bars = bars;
      scene = straight_scene sub ks fromRows toRows O.block_options blocks boxes places bars;
    }

-- Each station's search finds a free place.
unfoldable pub all_free : Options → Network → Bool
all_free O N =
    let P = planned O N in
    let sizes = Sizes.sizes O.block_options N.station (kinds N.station N.from N.to N.service) P.counts in
    let half_sides = PlaceSearch.half_sides (measures_of O P.unit) P.scales sizes in
    Place.all_find_free half_sides (Offset.offsets (search_of O.search)) P.seeds
    (placement_order N.station N.kv P.counts)

-- ---- lines through the mesh

-- the same with lines led over these waypoints, and round the occupied stations' boxes where there are iterations
unfoldable pub led_scene : RunScene → Bool → List ℕ → Float → List (List Point) → RunScene
led_scene S led occ clearance ways =
    record {
      sub = S.sub;
      kinds = S.kinds;
      from_rows = S.from_rows;
      to_rows = S.to_rows;
      block_options = S.block_options;
      blocks = S.blocks;
      boxes = S.boxes;
      places = S.places;
      bars = S.bars;
      led = led;
      occupied = occ;
      clearance = clearance;
      ways = ways;
    }

-- what a branch is to routing: a line with its stations and exits, or none
unfoldable pub line_for : RunScene → ℕ → ℕ → Kind → Option Route.RoutedLine
line_for S ra rb Undrawn = None
line_for S ra rb (Open a b) = None
line_for S ra rb (Internal a b) = None
line_for S ra rb (Line a b) =
    let s = station_of S.sub a in
    let t = station_of S.sub b in
    Some
    (record {
      sa = s;
      sb = t;
      exit0 = exit S.boxes S.places s t (row_end_at S a ra).y;
      exit1 = exit S.boxes S.places t s (row_end_at S b rb).y;
    })

unfoldable pub line_of : RunScene → ℕ → Option Route.RoutedLine
line_of S e = line_for S (get_or S.from_rows e 0) (get_or S.to_rows e 0) (kind_at S.kinds e)

-- what lines are routed through: vertex v of the mesh is the occupied station number v
unfoldable pub routed_scene : RunScene → List ℕ → List Float → Float → List ℕ → List ℕ → Route.MeshScene
routed_scene S occ scales clearance corners twins =
    record {
      occupied = occ;
      centres = coordinates S.places occ;
      boxes = S.boxes;
      scales = scales;
      clearance = clearance;
      corners = corners;
      twins = twins;
      lines = table (line_of S) (length S.kinds);
    }

-- ---- the whole drawing

pub record Drawing : Type 0 where
  pub counts : List ℕ
  pub seeds : List Point
  pub unit : Float
  pub scales : List Float
  pub places : List Point
  pub found : List Bool
  pub boxes : List Box
  pub bars : List Bar
  pub mesh_fits : Bool
  pub crossings : List Float
  pub runs : List (List Point)
  pub pieces : List Piece
  pub roles : List ℕ
  pub bounds : Box

-- what the lines of a plan are routed through
unfoldable pub routed_of : Options → Network → Plan → Route.MeshScene
routed_of O N P =
    let occ = occupied P.counts in
    let used = mesh_used (length occ) O.route_iterations in
    routed_scene P.scene occ P.scales (clearance_of P.unit) (pick used N.corners []) (pick used N.twins [])

-- the waypoints of every branch
unfoldable pub waypoints_of : Route.MeshScene → List Float → List (List Point)
waypoints_of R places = table (Route.waypoints R (Route.routing R) places) (length R.lines)

-- the scene with its lines led
unfoldable pub scene_of : Options → Network → Plan → RunScene
scene_of O N P =
    let R = routed_of O N P in
    led_scene P.scene (ltb 0 O.route_iterations) (occupied P.counts) (clearance_of P.unit)
    (waypoints_of R (crossings_of R O.route_iterations))

unfoldable pub drawing : Options → Network → Drawing
drawing O N =
    let P = planned O N in
    let ks = kinds N.station N.from N.to N.service in
    let runs = Run.runs (scene_of O N P) in
    record {
      counts = P.counts;
      seeds = P.seeds;
      unit = P.unit;
      scales = P.scales;
      places = P.places;
      found = P.found;
      boxes = P.boxes;
      bars = P.bars;
      mesh_fits = mesh_fits N.corners N.twins (length (occupied P.counts)) O.route_iterations;
      crossings = crossings_of (routed_of O N P) O.route_iterations;
      runs = runs;
      pieces = all_pieces ks runs;
      roles = map role ks;
      bounds = bounds_of P.boxes (occupied P.counts);
    }
