-- A charted drawing written. Definitions only.
use Rattle.std.specs.Prelude.{ℕ, ◌≡◌, ◌*◌, ◌≤◌, ltb, cond, List, length, Float, Option, Some, None, Result, Ok}
use Rattle.network.specs.declared.options.Options.{Options}
use Rattle.network.specs.declared.refusals.Refusal.{Refusal}
use Rattle.network.specs.declared.lists.Placed.{Placed}
use Rattle.runs.specs.declared.laid.Laid.{Laid}
use Rattle.runs.specs.declared.laid.Obstacles.{Obstacles}
use Rattle.routing.specs.Clearance.{clearance_of}
use Rattle.drawing.specs.declared.answer.Plot.{Plot}
use Rattle.drawing.specs.declared.lengths.ListLengths.{ListLengths}
use Rattle.drawing.specs.Network.{Network, Lists}
use Rattle.drawing.specs.Drawing.{drawing}
use Rattle.drawing.specs.Answer.{crossing_room, late, answer_for, lists_of, lists_after}
use Rattle.chart.specs.Stages.Charted.{Charted}

-- The answer of a call whose input has passed, and its result lists, by its late refusal.
pub record Drew (o : Options) (N : Network) (l : Option Refusal) (L : Lists) (a : Result Plot Refusal) (L' : Lists) :
    Type 0 where
  pub answer_is : a ≡ answer_for l (drawing o N)
  pub lists_are : L' ≡ lists_after l (lists_of (drawing o N)) L

-- The same where the late refusal is that of the drawing, in lists of these lengths.
abbrev pub DrewIn : Options → Network → ListLengths → Lists → Result Plot Refusal → Lists → Type 0
DrewIn o N R = Drew o N (late (drawing o N) R)

-- The result lists have room for the buses, the branches and k stations, and the piece lists are as long as that.
abbrev pub ResultRoom : Network → ℕ → ListLengths → Lists → Type 0
ResultRoom N k R L =
    (2 * length N.station ≤ length L.positions)
    × (4 * length N.station ≤ length L.bars)
    × (4 * k ≤ length L.boxes)
    × (k ≤ length L.scales)
    × (length N.from ≤ length L.roles)
    × (R.pieces ≡ length L.pieces)
    × (R.branches ≡ length L.branches)

-- The clearance that lines keep where they are led: where there are iterations.
abbrev pub clearance_led : Options → Float → Option Float
clearance_led o unit = cond (ltb 0 o.route_iterations) (Some (clearance_of unit)) None

-- The lists hold a charted drawing that nothing refuses so far, with lists of these lengths.
abbrev pub ChartedOver : Options → Network → ListLengths → Laid → Placed → List Float → List Float → Type 0
ChartedOver o N R L P path ways =
    Charted
    o
    N
    P.k
    (crossing_room R)
    (Ok L.measures.unit)
    P.stations.now
    L.buses.now
    L.ends.now
    L.blocks.now
    L.places.now
    P.frames.now
    path
    ways

abbrev pub ChartedBy : Options → Network → ListLengths → Laid → Obstacles → List Float → Type 0
ChartedBy o N R L G path = ChartedOver o N R L G.index.placed path G.ways.now
