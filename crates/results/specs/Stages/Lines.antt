-- What a list of line requests gets. Definitions only.
use Rattle.std.specs.Prelude.{ℕ, ◌^◌, ◌<◌, ◌≢◌, List, [], eqb, length, get_or, Float}
use Rattle.numbers.specs.Order.{pick}
use Rattle.numbers.specs.Table.{joined}
use Rattle.plane.specs.declared.geometry.Point.{Point}
use Rattle.runs.specs.Run.{Piece, pieces}
use Rattle.runs.specs.Stages.Views.{Lead, led_run, first_waypoint, waypoint_count, Fits}
use Rattle.runs.specs.declared.requests.LineRequest.{LineRequest}
use Rattle.runs.specs.Stages.Requests.{nothing_at}

-- the points that a request's line runs through, none where it asks for nothing; and its pieces
unfoldable pub request_run : Lead → List Float → List ℕ → LineRequest → List Point
request_run L frames ends r =
    pick
    (eqb r.sa r.sb)
    []
    (led_run L frames r.sa r.sb r.row_end_a r.row_end_b r.exit_a r.exit_b (first_waypoint ends r.e)
    (waypoint_count ends r.e))

unfoldable pub request_pieces : Lead → List Float → List ℕ → LineRequest → List Piece
request_pieces L frames ends r = pieces r.e (request_run L frames ends r)

-- the pieces of a list of requests
unfoldable pub list_pieces : Lead → List Float → List ℕ → List LineRequest → List Piece
list_pieces L frames ends list = joined (λ i. request_pieces L frames ends (get_or list i (nothing_at 0))) (length list)

-- a list has room for the run that a request asks for; that every request of a list asks for
abbrev pub Asks : List ℕ → List Float → LineRequest → Type 0
Asks ends path r = r.sa ≢ r.sb → Fits ends path r.e × (r.e < 2 ^ 31)

abbrev pub AskAll : List ℕ → List Float → List LineRequest → Type 0
AskAll ends path list = (i : ℕ) → i < length list → Asks ends path (get_or list i (nothing_at 0))
