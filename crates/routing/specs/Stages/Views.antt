-- How the lent lists hold what lines are routed through, and their routing. Definitions only.
use Rattle.std.specs.Prelude.{ℕ, ◌+◌, ◌*◌, ◌<◌, ◌≡◌, List, map, ℤ, length, get_or, take, Float}
use Rattle.std.specs.Prelude.{Option, Some, None}
use Rattle.numbers.specs.Table.{table, strided}
use Rattle.plane.specs.declared.geometry.Point.{Point}
use Rattle.plane.specs.Plane.{box_at}
use Rattle.network.specs.Mesh.{low_at, high_at}
use Rattle.network.specs.declared.words.Kind.{Kind}
use Rattle.network.specs.declared.words.Kind.TheVariants.{Undrawn, Open, Internal, Line}
use Rattle.network.specs.Words.{station_of, kind_of}
use Rattle.network.specs.Views.{order_in, boxes_in}
use Rattle.stations.specs.declared.measures.Measures.{Measures}
use Rattle.stations.specs.Stages.Views.{scales_in}
use Rattle.stations.specs.Bar.{row_y}
use Rattle.runs.specs.Stages.Views.{block_of, exit_of}
use Rattle.routing.specs.Route as Route
use Rattle.routing.specs.Route.{MeshScene, Routing, Keyed, Crossing, KeptCrossings, no_channel}
use Rattle.routing.specs.Clearance.{clearance_of}

-- The network's lists, the unit with the block options, and the work lists that a line's exits are read from.
pub record TracedLists : Type 0 where
  pub sub : List ℕ
  pub from : List ℤ
  pub to : List ℤ
  pub service : List ℕ
  pub measures : Measures
  pub ends : List ℕ
  pub blocks : List Float
  pub places : List Float
  pub frames : List Float

abbrev pub grid : List ℕ → List ℤ → List ℤ → List ℕ → Measures → List ℕ → List Float → List Float → List Float
    → TracedLists
grid a b c d e f g h i =
    record { sub = a; from = b; to = c; service = d; measures = e; ends = f; blocks = g; places = h; frames = i }

-- the exit of station s towards t, at the height of a row
unfoldable pub exit_at : TracedLists → ℕ → ℕ → ℕ → Point
exit_at G s t row =
    exit_of G.places G.frames s t (row_y G.measures.block_options (box_at G.frames s)
    (block_of G.measures.unit G.blocks s) row)

-- a line between the buses a and b, whose ends have the rows ra and rb
unfoldable pub line_between : TracedLists → ℕ → ℕ → ℕ → ℕ → Route.RoutedLine
line_between G a b ra rb =
    let s = station_of G.sub a in
    let t = station_of G.sub b in
    record { sa = s; sb = t; exit0 = exit_at G s t ra; exit1 = exit_at G t s rb }

unfoldable pub line_for : TracedLists → ℕ → ℕ → Kind → Option Route.RoutedLine
line_for G ra rb Undrawn = None
line_for G ra rb (Open a b) = None
line_for G ra rb (Internal a b) = None
line_for G ra rb (Line a b) = Some (line_between G a b ra rb)

-- what branch e is to routing, and every branch
unfoldable pub line_in : TracedLists → ℕ → Option Route.RoutedLine
line_in G e = line_for G (get_or G.ends (4 * e) 0) (get_or G.ends (4 * e + 1) 0) (kind_of G.sub G.from G.to G.service e)

unfoldable pub lines_in : TracedLists → List (Option Route.RoutedLine)
lines_in G = table (line_in G) (length G.from)

-- The scene of k stations, c of them occupied: a list of two numbers for each station has the occupied ones second,
-- and `centres` begins with their places.
unfoldable pub scene_in : TracedLists → ℕ → ℕ → List ℕ → List Float → List ℕ → List ℕ → MeshScene
scene_in G k c stations centres corners twins =
    record {
      occupied = order_in c stations;
      centres = take (2 * c) centres;
      boxes = boxes_in k G.frames;
      scales = scales_in k G.blocks;
      clearance = clearance_of G.measures.unit;
      corners = corners;
      twins = twins;
      lines = lines_in G;
    }

-- a half-edge of the mesh for each channel, so that its vertices are found
pub record HalfEdged (corners : List ℕ) (k : Keyed) (h : ℕ) : Type 0 where
  pub inside : h < length corners
  pub low : low_at corners h ≡ k.low
  pub high : high_at corners h ≡ k.high

-- A routing stands in the lists: three numbers for each crossing, its channel, its branch and one more; its place;
-- four numbers for each branch, of which the last two are its path's first crossing and their count; and behind the
-- branches, at the third of four numbers, a half-edge for each channel.
pub record Stored (m : ℕ) (corners : List ℕ) (r : Routing) (ends numbers : List ℕ) (places : List Float) : Type 0 where
  pub channels : strided 3 0 0 (length r.crossings) numbers ≡ map (λ (x : Crossing). x.channel) r.crossings
  pub branches : strided 3 1 0 (length r.crossings) numbers ≡ map (λ (x : Crossing). x.branch) r.crossings
  pub placed : take (length r.crossings) places ≡ map (λ (x : Crossing). x.fraction) r.crossings
  pub firsts : strided 4 2 0 m ends ≡ map (λ (p : KeptCrossings). p.first) r.kept_crossings
  pub counts : strided 4 3 0 m ends ≡ map (λ (p : KeptCrossings). p.count) r.kept_crossings
  pub half_edges : (c : ℕ) → c < length r.channels
      → HalfEdged corners (get_or r.channels c no_channel) (get_or ends (4 * (m + c) + 2) 0)
