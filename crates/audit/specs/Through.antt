-- The audit's lines through boxes: the pieces of lines that hit a box of a station that isn't one of the line's own
-- (docs/RULES.md, 'Lines through boxes'). Definitions only.
use Rattle.std.specs.Prelude.{ℕ, Bool, ◌&&◌, List, ℤ, length, get_or, Float, is_some, Option, Some, None}
use Rattle.numbers.specs.Table.{how_many}
use Rattle.plane.specs.declared.geometry.Box.{Box}
use Rattle.network.specs.Words.{station_of}
use Rattle.boxes.specs.First.{first_hit}
use Rattle.audit.specs.Fit.{is_line, end_at}
use Rattle.audit.specs.Relative.{piece_start, piece_end}

-- the station of a bus, and no station's number for an unknown one
unfoldable pub station_at : List ℕ → Option ℕ → ℕ
station_at sub (Some i) = station_of sub i
station_at sub None = length sub

-- piece j, as one of branch e, hits a box other than those of the branch's two stations
unfoldable pub crosses : List Box → List ℕ → List ℕ → List ℤ → List ℤ → List Float → ℕ → ℕ → Bool
crosses bs ss sub from to pieces e j =
    is_some
    (first_hit
    bs
    ss
    (piece_start pieces j)
    (piece_end pieces j)
    (station_at sub (end_at (length sub) from e))
    (station_at sub (end_at (length sub) to e)))

-- piece j is a line's and does
unfoldable pub runs_through : List Box → List ℕ → List ℕ → List ℤ → List ℤ → List ℕ → List Float → List ℕ → ℕ → Bool
runs_through bs ss sub from to roles pieces branches j =
    is_line roles (get_or branches j 0) && crosses bs ss sub from to pieces (get_or branches j 0) j

unfoldable pub through : List Box → List ℕ → List ℕ → List ℤ → List ℤ → List ℕ → List Float → List ℕ → ℕ
through bs ss sub from to roles pieces branches =
    how_many (runs_through bs ss sub from to roles pieces branches) (length branches)
