-- How the lent work lists hold what runs are drawn from. Definitions only.
use Rattle.std.specs.Prelude.{ℕ, ◌+◌, ◌*◌, ◌^◌, ◌≤◌, ◌<◌, ◌≡◌, Bool, cond, List, [], ◌∷◌, ◌++◌, length, get_or, Float}
use Rattle.std.specs.Prelude.{Option, is_some, unwrap_or}
use Rattle.std.specs.Float.{nan}
use Rattle.numbers.specs.Ops.{◌⊗◌}
use Rattle.plane.specs.declared.geometry.Point.{Point}
use Rattle.plane.specs.Plane.{point, point_at, box_at}
use Rattle.network.specs.declared.words.Kind.{Kind}
use Rattle.network.specs.declared.words.Kind.TheVariants.{Undrawn, Open, Internal, Line}
use Rattle.network.specs.Words.{station_of, occupied}
use Rattle.network.specs.Views.{counts_in, points_in, boxes_in}
use Rattle.boxes.specs.Detour.{detour}
use Rattle.boxes.specs.Stages.Paths.{path_in}
use Rattle.stations.specs.declared.measures.Measures.{Measures}
use Rattle.stations.specs.declared.bars.Bar.{Bar}
use Rattle.stations.specs.Bar.{row_y, bar_for, span_of, position}
use Rattle.stations.specs.Exit.{exit_x}

-- what leads lines round boxes: whether there are iterations, the clearance, the number of stations, the work list of
-- stations, and that of waypoints
pub record Lead : Type 0 where
  pub led : Bool
  pub clearance : Float
  pub k : ℕ
  pub stations : List ℕ
  pub ways : List Float

abbrev pub lead : Bool → Float → ℕ → List ℕ → List Float → Lead
lead a b c d e = record { led = a; clearance = b; k = c; stations = d; ways = e }

-- that by the clearance which lines keep where they are led, none where they aren't
abbrev pub lead_by : Option Float → ℕ → List ℕ → List Float → Lead
lead_by clearance k stations ways = lead (is_some clearance) (unwrap_or clearance nan) k stations ways

-- the station numbers, the unit with the block options, and the work lists of buses, branches' ends, blocks, places and
-- boxes; what leads lines
pub record RunLists : Type 0 where
  pub sub : List ℕ
  pub measures : Measures
  pub buses : List ℕ
  pub ends : List ℕ
  pub blocks : List Float
  pub places : List Float
  pub frames : List Float
  pub lead : Lead

abbrev pub held : List ℕ → Measures → List ℕ → List ℕ → List Float → List Float → List Float → Lead → RunLists
held a b c d e f g h =
    record { sub = a; measures = b; buses = c; ends = d; blocks = e; places = f; frames = g; lead = h }

-- the block of station s, unit × scale
unfoldable pub block_of : Float → List Float → ℕ → Float
block_of unit blocks s = unit ⊗ get_or blocks (3 * s + 2) nan

-- the bar of bus i of station s
unfoldable pub bar_of : Measures → List ℕ → List Float → List Float → ℕ → ℕ → Bar
bar_of measures buses blocks frames s i =
    bar_for
    measures.block_options
    (box_at frames s)
    (block_of measures.unit blocks s)
    (get_or buses (3 * i) 0)
    (span_of (get_or buses (3 * i + 1) 0) (get_or buses (3 * i + 2) 0))

-- the row end of bus i of station s
unfoldable pub row_end_of : Measures → List ℕ → List Float → List Float → ℕ → ℕ → ℕ → Point
row_end_of measures buses blocks frames s i row =
    point
    (bar_of measures buses blocks frames s i).x
    (row_y measures.block_options (box_at frames s) (block_of measures.unit blocks s) row)

-- the exit of station s towards t, at the height y
unfoldable pub exit_of : List Float → List Float → ℕ → ℕ → Float → Point
exit_of places frames s t y = point (exit_x (box_at frames s) (point_at places s) (point_at places t)) y

-- the exits of branch e, the first and the second: two points for each branch, behind n points of a list
abbrev pub first_exit : ℕ → List Float → ℕ → Point
first_exit n places e = point_at places (n + 2 * e)

abbrev pub second_exit : ℕ → List Float → ℕ → Point
second_exit n places e = point_at places (n + 2 * e + 1)

-- the points of a run between the buses a and b: of an open branch, and of an internal one, whose ends have the rows
-- ra and rb
unfoldable pub open_from : List ℕ → Measures → List ℕ → List Float → List Float → ℕ → ℕ → List Point
open_from sub measures buses blocks frames a b =
    position (bar_of measures buses blocks frames (station_of sub a) a)
    ∷ position (bar_of measures buses blocks frames (station_of sub b) b)
    ∷ []

unfoldable pub internal_from : List ℕ → Measures → List ℕ → List Float → List Float → ℕ → ℕ → ℕ → ℕ → List Point
internal_from sub measures buses blocks frames a b ra rb =
    row_end_of measures buses blocks frames (station_of sub a) a ra
    ∷ row_end_of measures buses blocks frames (station_of sub b) b rb
    ∷ []

-- the path between the row ends of a line from station s to station t, led round boxes where there are iterations
unfoldable pub led_in : Bool → Float → ℕ → List ℕ → List Float → ℕ → ℕ → List Point → List Point
led_in led clearance k stations frames s t path =
    cond led (detour (boxes_in k frames) (occupied (counts_in k stations)) clearance s t path) path

-- the points of a line from station s to station t between its row ends p and q, whose exits are x and y, by n
-- waypoints, the first of them w
unfoldable pub led_run : Lead → List Float → ℕ → ℕ → Point → Point → Point → Point → ℕ → ℕ → List Point
led_run L frames s t p q x y w n =
    p ∷ (led_in L.led L.clearance L.k L.stations frames s t (x ∷ (path_in w n L.ways ++ (y ∷ []))) ++ (q ∷ []))

-- that of line e between the buses a and b, whose ends have the rows ra and rb; its exits stand behind the places of as
-- many stations as there are buses
unfoldable pub line_from :
    List ℕ → Measures → List ℕ → List Float → List Float → List Float → Lead
    → ℕ → ℕ → ℕ → ℕ → ℕ → ℕ → ℕ → List Point
line_from sub measures buses blocks places frames L e a b ra rb w n =
    let s = station_of sub a in
    let t = station_of sub b in
    let p = row_end_of measures buses blocks frames s a ra in
    let q = row_end_of measures buses blocks frames t b rb in
    led_run L frames s t p q (first_exit (length sub) places e) (second_exit (length sub) places e) w n

unfoldable pub run_from : RunLists → ℕ → ℕ → ℕ → ℕ → ℕ → Kind → List Point
run_from H e ra rb w n Undrawn = []
run_from H e ra rb w n (Open a b) = open_from H.sub H.measures H.buses H.blocks H.frames a b
run_from H e ra rb w n (Internal a b) = internal_from H.sub H.measures H.buses H.blocks H.frames a b ra rb
run_from H e ra rb w n (Line a b) = line_from H.sub H.measures H.buses H.blocks H.places H.frames H.lead e a b ra rb w n

-- the first waypoint of branch e, and how many it has
abbrev pub first_waypoint : List ℕ → ℕ → ℕ
first_waypoint ends e = get_or ends (4 * e + 2) 0

abbrev pub waypoint_count : List ℕ → ℕ → ℕ
waypoint_count ends e = get_or ends (4 * e + 3) 0

unfoldable pub run_in : RunLists → ℕ → Kind → List Point
run_in H e kind =
    run_from
    H e (get_or H.ends (4 * e) 0) (get_or H.ends (4 * e + 1) 0) (first_waypoint H.ends e) (waypoint_count H.ends e) kind

-- the run of branch e where it is no line, else no points
unfoldable pub other_run : List ℕ → Measures → List ℕ → List ℕ → List Float → List Float → ℕ → Kind → List Point
other_run sub measures buses ends blocks frames e Undrawn = []
other_run sub measures buses ends blocks frames e (Open a b) = open_from sub measures buses blocks frames a b
other_run sub measures buses ends blocks frames e (Internal a b) =
    internal_from sub measures buses blocks frames a b (get_or ends (4 * e) 0) (get_or ends (4 * e + 1) 0)
other_run sub measures buses ends blocks frames e (Line a b) = []

-- a list has room for a run by n waypoints, with two row ends, two exits and four points more; for that of branch e,
-- whose waypoints have small numbers
abbrev pub HasRoom : ℕ → List Float → Type 0
HasRoom n path = 2 * (n + 8) ≤ length path

abbrev pub Fits : List ℕ → List Float → ℕ → Type 0
Fits ends path e = HasRoom (waypoint_count ends e) path × (first_waypoint ends e + waypoint_count ends e < 2 ^ 31)

-- a list holds these points and no more than so many are asked for
pub record Ran (r : ℕ) (path : List Float) (points : List Point) : Type 0 where
  pub count : r ≡ length points
  pub holds : points_in r path ≡ points
