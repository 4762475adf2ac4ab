-- The runs that the lent lists hold, and their pieces, those of lines and those of the others. Definitions only.
use Rattle.std.specs.Prelude.{ℕ, ◌+◌, ◌*◌, ◌≤◌, ◌<◌, ◌≡◌, Bool, true, not, List, [], ℤ, length, Float}
use Rattle.numbers.specs.Order.{pick}
use Rattle.numbers.specs.Table.{table, joined}
use Rattle.plane.specs.declared.geometry.Point.{Point}
use Rattle.network.specs.Words.{kind_of}
use Rattle.stations.specs.declared.measures.Measures.{Measures}
use Rattle.runs.specs.Run.{Piece, pieces, is_line}
use Rattle.runs.specs.Stages.Views.{RunLists, run_in, other_run, Fits}

-- the run of branch e, and of every branch
abbrev pub run_at : RunLists → List ℤ → List ℤ → List ℕ → ℕ → List Point
run_at H from to service e = run_in H e (kind_of H.sub from to service e)

unfoldable pub runs_in : RunLists → List ℤ → List ℤ → List ℕ → List (List Point)
runs_in H from to service = table (run_at H from to service) (length from)

-- the run of branch e where it is a line or where it is none, else no points; its pieces
unfoldable pub pass_run : Bool → RunLists → List ℤ → List ℤ → List ℕ → ℕ → List Point
pass_run lines H from to service e =
    pick (pick (is_line (kind_of H.sub from to service e)) lines (not lines)) (run_at H from to service e) []

abbrev pub pass_at : Bool → RunLists → List ℤ → List ℤ → List ℕ → ℕ → List Piece
pass_at lines H from to service e = pieces e (pass_run lines H from to service e)

-- those of all branches, each by branch number
unfoldable pub pass_in : Bool → RunLists → List ℤ → List ℤ → List ℕ → List Piece
pass_in lines H from to service = joined (pass_at lines H from to service) (length from)

-- those of the branches that are no lines, by the lists that they are drawn from
unfoldable pub others_in :
    List ℕ → Measures → List ℕ → List ℕ → List Float → List Float → List ℤ → List ℤ → List ℕ → List Piece
others_in sub measures buses ends blocks frames from to service =
    joined
    (λ e. pieces e (other_run sub measures buses ends blocks frames e (kind_of sub from to service e)))
    (length from)

-- those of the lines among 16 branches from `start` on
unfoldable pub batch_in : RunLists → List ℤ → List ℤ → List ℕ → ℕ → List Piece
batch_in H from to service start = joined (λ i. pass_at true H from to service (start + i)) 16

-- a list has room for the run of every branch
abbrev pub FitAll : List ℤ → List ℕ → List Float → Type 0
FitAll from ends path = (e : ℕ) → e < length from → Fits ends path e

-- the two lists have room for these pieces
abbrev pub HasRoom : List Piece → List Float → List ℕ → Type 0
HasRoom ps numbers branches = (4 * length ps ≤ length numbers) × (length ps ≤ length branches)
