-- Line requests: what a line asks for. Definitions only.
use Rattle.std.specs.Prelude.{ℕ, ◌+◌, ◌*◌, ◌<◌, ◌≡◌, List, ℤ, length, get_or, Float}
use Rattle.plane.specs.Plane.{origin}
use Rattle.network.specs.declared.words.Kind.{Kind}
use Rattle.network.specs.declared.words.Kind.TheVariants.{Undrawn, Open, Internal, Line}
use Rattle.network.specs.Words.{station_of, kind_of}
use Rattle.stations.specs.declared.measures.Measures.{Measures}
use Rattle.runs.specs.Stages.Views.{row_end_of, first_exit, second_exit}
use Rattle.runs.specs.declared.requests.LineRequest.{LineRequest}

-- ---- requests

-- a branch that is no line asks for nothing
unfoldable pub nothing_at : ℕ → LineRequest
nothing_at b = record {
  e = b;
  sa = 0;
  sb = 0;
  row_end_a = origin;
  row_end_b = origin;
  exit_a = origin;
  exit_b = origin;
}

-- what line b between the buses i and j asks for, whose ends have the rows ra and rb: its row ends, and its exits,
-- which a list holds
unfoldable pub line_request :
    List ℕ → Measures → List ℕ → List Float → List Float → List Float → ℕ → ℕ → ℕ → ℕ → ℕ → LineRequest
line_request sub measures buses blocks places frames b i j ra rb =
    let s = station_of sub i in
    let t = station_of sub j in
    let p = row_end_of measures buses blocks frames s i ra in
    let q = row_end_of measures buses blocks frames t j rb in
    record {
      e = b;
      sa = s;
      sb = t;
      row_end_a = p;
      row_end_b = q;
      exit_a = first_exit (length sub) places b;
      exit_b = second_exit (length sub) places b;
    }

-- the lists that requests are made of
pub record Lists : Type 0 where
  pub sub : List ℕ
  pub measures : Measures
  pub buses : List ℕ
  pub ends : List ℕ
  pub blocks : List Float
  pub places : List Float
  pub frames : List Float

abbrev pub lists : List ℕ → Measures → List ℕ → List ℕ → List Float → List Float → List Float → Lists
lists a b c d e f g = record { sub = a; measures = b; buses = c; ends = d; blocks = e; places = f; frames = g }

-- the request of branch e
unfoldable pub request_of : Lists → ℕ → Kind → LineRequest
request_of X e Undrawn = nothing_at e
request_of X e (Open a b) = nothing_at e
request_of X e (Internal a b) = nothing_at e
request_of X e (Line a b) =
    line_request
    X.sub X.measures X.buses X.blocks X.places X.frames e a b (get_or X.ends (4 * e) 0) (get_or X.ends (4 * e + 1) 0)

-- the first m of a list are the requests of the branches from `start` on
abbrev pub FilledTo : Lists → List ℤ → List ℤ → List ℕ → ℕ → ℕ → List LineRequest → Type 0
FilledTo X from to service start m list =
    (i : ℕ) → i < m
    → get_or list i (nothing_at 0) ≡ request_of X (start + i) (kind_of X.sub from to service (start + i))
