-- The exits of branches (docs/RULES.md, 'Exits'), and that a list holds them. Definitions only.
use Rattle.std.specs.Prelude.{ℕ, ◌<◌, ◌≡◌, List, length, Float}
use Rattle.std.specs.Prelude.{Option, Some, None}
use Rattle.std.specs.Float.{nan}
use Rattle.plane.specs.declared.geometry.Point.{Point}
use Rattle.plane.specs.Plane.{point, box_at}
use Rattle.network.specs.Words.{station_of}
use Rattle.stations.specs.declared.measures.Measures.{Measures}
use Rattle.stations.specs.Bar.{row_y}
use Rattle.runs.specs.Stages.Views.{block_of, exit_of, first_exit, second_exit}
use Rattle.routing.specs.Route as Route
use Rattle.routing.specs.Stages.Views.{TracedLists, line_in}
use Rattle.routing.specs.declared.exits.Exits.{Exits}

-- a branch that is no line has none
abbrev pub no_exits : Exits
no_exits = record { first = point nan nan; second = point nan nan }

-- the exits of what a branch is to routing
unfoldable pub exits_of : Option Route.RoutedLine → Exits
exits_of None = no_exits
exits_of (Some l) = record { first = l.exit0; second = l.exit1 }

-- those of branch e
unfoldable pub exits_in : TracedLists → ℕ → Exits
exits_in G e = exits_of (line_in G e)

-- A list holds every branch's exits, behind the places of as many stations as there are buses.
pub record Exited (G : TracedLists) : Type 0 where
  pub first : (e : ℕ) → e < length G.from → first_exit (length G.sub) G.places e ≡ (exits_in G e).first
  pub second : (e : ℕ) → e < length G.from → second_exit (length G.sub) G.places e ≡ (exits_in G e).second

-- ---- the steps of the code to that

-- the exit of station s towards t, at the height of a row
unfoldable pub exit_from : Measures → List Float → List Float → List Float → ℕ → ℕ → ℕ → Point
exit_from measures blocks places frames s t row =
    exit_of places frames s t (row_y measures.block_options (box_at frames s) (block_of measures.unit blocks s) row)

-- the exits of a line between the buses a and b, whose ends have the rows ra and rb
unfoldable pub line_exits : List ℕ → Measures → List Float → List Float → List Float → ℕ → ℕ → ℕ → ℕ → Exits
line_exits sub measures blocks places frames a b ra rb =
    let s = station_of sub a in
    let t = station_of sub b in
    record {
      first = exit_from measures blocks places frames s t ra;
      second = exit_from measures blocks places frames t s rb;
    }
