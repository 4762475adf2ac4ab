-- Answers of a call: what layout returns, and what each lent list holds after it. Definitions only.
use Rattle.std.specs.Prelude.{ℕ, ◌+◌, ◌*◌, ◌/◌, min, Bool, not, ◌&&◌, ◌||◌, List, map, ltb, length, replicate, Float}
use Rattle.std.specs.Prelude.{Option, Some, None, Result, Err}
use Rattle.std.specs.Option.{option_or}
use Rattle.numbers.specs.Small.{is_finite}
use Rattle.numbers.specs.Ops.{f0}
use Rattle.network.specs.declared.options.Options.{Options}
use Rattle.network.specs.Options.{in_range}
use Rattle.network.specs.Words.{station_count, occupied}
use Rattle.network.specs.declared.refusals.Refusal.{Refusal}
use Rattle.network.specs.declared.refusals.Refusal.TheVariants as Refusals
use Rattle.network.specs.Refusal.{refuse, unless, shape_refusal, too_far}
use Rattle.placement.specs.Sized.{ill_sized}
use Rattle.boxes.specs.Length.{index_length}
use Rattle.stations.specs.Bar.{position}
use Rattle.drawing.specs.declared.lengths.ListLengths.{ListLengths}
use Rattle.drawing.specs.declared.answer.Plot.{Plot}
use Rattle.drawing.specs.Network.{Network, Lists, Work, Crossings, crossings}
use Rattle.routing.specs.Routes.{route_refusal}
use Rattle.runs.specs.Run.{Piece}
use Rattle.runs.specs.Finite.{all_of, finite_point, finite_box, finite_bar}
use Rattle.runs.specs.Lists.{flat, point_numbers, box_numbers, bar_numbers, piece_numbers, after}
use Rattle.drawing.specs.Drawing.{Drawing, drawing}

-- the lengths of the lent lists
abbrev pub room_of : Lists → Work → Crossings → ListLengths
room_of L W X =
    record {
      positions = length L.positions;
      bars = length L.bars;
      boxes = length L.boxes;
      scales = length L.scales;
      roles = length L.roles;
      pieces = length L.pieces;
      branches = length L.branches;
      stations = length W.stations;
      buses = length W.buses;
      ends = length W.ends;
      sorted = length W.sorted;
      spare = length W.spare;
      keys = length W.keys;
      places = length W.places;
      blocks = length W.blocks;
      frames = length W.frames;
      path = length W.path;
      numbers = length X.numbers;
      crossings = length X.places;
      ways = length X.ways;
    }

-- The mesh length is that of the corner list, counted as at most 24,576.
abbrev pub mesh_length : Network → ℕ
mesh_length N = min (length N.corners) 24576

-- 7: a result or work list of fixed length is too short, for n buses, m branches, k stations and the mesh length
-- (docs/WORK.md)
unfoldable pub short_results : ℕ → ℕ → ℕ → ListLengths → Bool
short_results n m k R =
    ltb R.positions (2 * n) || (ltb R.bars (4 * n) || (ltb R.boxes (4 * k) || (ltb R.scales k || ltb R.roles m)))

-- the length of the three lists that sorts use; `sorted` also holds the grid of boxes
abbrev pub sorting : ℕ → ℕ → ℕ → ℕ
sorting n m mesh = n + 2 * m + mesh

unfoldable pub short_work : ℕ → ℕ → ℕ → ListLengths → Bool
short_work n m mesh R =
    ltb R.stations (2 * n) || (ltb R.buses (3 * n) || (ltb R.ends (4 * m + 4 * mesh + 4)
    || (ltb R.sorted (sorting n m mesh) || (ltb R.spare (sorting n m mesh) || (ltb R.keys (sorting n m mesh)
    || (ltb R.places (2 * n + 4 * m) || (ltb R.blocks (3 * n) || (ltb R.frames (4 * n)
    || (ltb R.path (2 * n + 3 * mesh + 16) || ltb R.sorted (index_length n))))))))))

-- 1 to 7 and 15, none where none applies
unfoldable pub early : Options → Network → ListLengths → Option Refusal
early O N R =
    option_or (shape_refusal N.station N.kv N.from N.to)
    (refuse (not (in_range O)) (Some Refusals.OptionRange)
    (refuse (too_far (length N.station) N.xy) (Some Refusals.TooFar)
    (refuse (short_results (length N.station) (length N.from) (station_count N.station) R) (Some Refusals.ListTooShort)
    (refuse (short_work (length N.station) (length N.from) (mesh_length N) R) (Some Refusals.ListTooShort) None))))

-- 11: pieces outnumber the lent piece lists: only whole pieces that both lists hold count
unfoldable pub piece_room : ℕ → ℕ → ℕ
piece_room numbers names = min (numbers / 4) names

-- 10: crossings, those of cleared walks included, outnumber the lent crossing list, which holds as many as each of its
-- six lists
unfoldable pub crossing_room : ListLengths → ℕ
crossing_room R =
    min (R.numbers / 3) (min R.crossings (min (R.ways / 2) (min R.sorted (min R.spare R.keys))))

-- Each number of a drawing is finite: each seed, the unit, each edge of a box, each number of a bar, each fraction of a
-- crossing after the rounds, and each point of a run. Of every drawing that 1 to 7, 15 and 9 let pass
-- `drawing::laws::no_lost_numbers` promises it.
unfoldable pub all_finite : Drawing → Bool
all_finite d =
    all_of finite_point d.seeds && (is_finite d.unit && (all_of finite_box d.boxes && (all_of finite_bar d.bars
    && (all_of is_finite d.crossings && all_of (all_of finite_point) d.runs))))

-- 8, 9 and 10: by whether sizes are ill, the mesh fits, the crossings and how many the crossing list holds
unfoldable pub routed_by : Bool → Bool → ℕ → ℕ → Option Refusal
routed_by ill fits crossings room = refuse ill (Some Refusals.IllSized) (route_refusal fits crossings room)

-- 11, where none of these applies: by the pieces and the lengths of the lent piece lists
unfoldable pub late_by : Option Refusal → ℕ → ℕ → ℕ → Option Refusal
late_by earlier pieces numbers names =
    option_or earlier (refuse (ltb (piece_room numbers names) pieces) (Some Refusals.Pieces) None)

unfoldable pub late : Drawing → ListLengths → Option Refusal
late d R =
    late_by (routed_by (ill_sized d.boxes (occupied d.counts)) d.mesh_fits (length d.crossings) (crossing_room R))
    (length d.pieces)
    R.pieces
    R.branches

-- the drawing as lists of numbers
unfoldable pub lists_of : Drawing → Lists
lists_of d =
    record {
      positions = flat (λ b. point_numbers (position b)) d.bars;
      bars = flat bar_numbers d.bars;
      boxes = flat box_numbers d.boxes;
      scales = d.scales;
      roles = d.roles;
      pieces = flat piece_numbers d.pieces;
      branches = map (λ (p : Piece). p.branch) d.pieces;
    }

-- the lists after a call: a refusal changes no result list
unfoldable pub lists_after : Option Refusal → Lists → Lists → Lists
lists_after r D L =
    record {
      positions = after r D.positions L.positions;
      bars = after r D.bars L.bars;
      boxes = after r D.boxes L.boxes;
      scales = after r D.scales L.scales;
      roles = after r D.roles L.roles;
      pieces = after r D.pieces L.pieces;
      branches = after r D.branches L.branches;
    }

-- After a call that isn't refused by 1 to 7 or 15 all work lists hold zeros.
abbrev pub zero_numbers : List ℕ → List ℕ
zero_numbers l = replicate (length l) 0

abbrev pub zeros : List Float → List Float
zeros l = replicate (length l) f0

unfoldable pub zeroed_work : Work → Work
zeroed_work W =
    record {
      stations = zero_numbers W.stations;
      buses = zero_numbers W.buses;
      ends = zero_numbers W.ends;
      sorted = zero_numbers W.sorted;
      spare = zero_numbers W.spare;
      keys = zero_numbers W.keys;
      places = zeros W.places;
      blocks = zeros W.blocks;
      frames = zeros W.frames;
      path = zeros W.path;
    }

unfoldable pub zeroed_crossings : Crossings → Crossings
zeroed_crossings X =
    crossings (zero_numbers X.numbers) (zeros X.places) (zeros X.ways)

-- ---- the whole of a call: its answer, and the lists after it

pub record Call : Type 0 where
  pub answer : Result Plot Refusal
  pub lists : Lists
  pub work : Work
  pub crossings : Crossings

abbrev pub call : Result Plot Refusal → Lists → Work → Crossings → Call
call a l w x = record { answer = a; lists = l; work = w; crossings = x }

-- the unit, the bounds and the number of pieces
abbrev pub plot_of : Drawing → Plot
plot_of d = record { unit = d.unit; bounds = d.bounds; pieces = length d.pieces }

unfoldable pub answer_for : Option Refusal → Drawing → Result Plot Refusal
answer_for r d = unless r (plot_of d)

-- where the input has passed, by the late refusal
unfoldable pub call_late : Option Refusal → Drawing → Lists → Work → Crossings → Call
call_late r d L W X = call (answer_for r d) (lists_after r (lists_of d) L) (zeroed_work W) (zeroed_crossings X)

-- by the early refusal: 1 to 7 and 15 leave every list unchanged
unfoldable pub call_early : Option Refusal → Options → Network → Lists → Work → Crossings → Call
call_early None O N L W X = let d = drawing O N in call_late (late d (room_of L W X)) d L W X
call_early (Some r) O N L W X = call (Err r) L W X

-- Layout returns the first refusal of the table that applies (docs/RULES.md, 'Order of refusals').
unfoldable pub layout_of : Options → Network → Lists → Work → Crossings → Call
layout_of O N L W X = call_early (early O N (room_of L W X)) O N L W X
