-- Runs and pieces (docs/RULES.md, 'Runs, pieces, roles and bounds'): open branches run between the buses' positions,
-- internal branches and lines between their row ends, from bus first. Definitions only.
use Rattle.std.specs.Prelude.{ℕ, Bool, true, false, cond, List, [], ◌∷◌, ◌++◌, length, get_or, Float}
use Rattle.std.specs.Float.Ieee.{lt}
use Rattle.numbers.specs.Small.{abs_of}
use Rattle.numbers.specs.Ops.{f0, ◌⊕◌, ◌⊖◌}
use Rattle.numbers.specs.Order.{pick}
use Rattle.numbers.specs.Table.{table, joined}
use Rattle.plane.specs.declared.geometry.Point.{Point}
use Rattle.plane.specs.declared.geometry.Box.{Box}
use Rattle.network.specs.declared.options.BlockOptions.{BlockOptions}
use Rattle.network.specs.declared.words.Kind.{Kind}
use Rattle.network.specs.declared.words.Kind.TheVariants.{Undrawn, Open, Internal, Line}
use Rattle.network.specs.Words.{kind_at, station_of}
use Rattle.boxes.specs.Detour.{detour}
use Rattle.stations.specs.declared.bars.Bar.{Bar}
use Rattle.stations.specs.Bar.{bar_at, position, row_end}
use Rattle.stations.specs.Exit.{exit}

-- What runs are drawn from: the buses' stations, the branches with the rows of their ends, the block options, the
-- stations' blocks, boxes and places, the buses' bars; whether there are iterations, the occupied stations, the
-- clearance to keep from boxes, and each branch's waypoints.
pub record RunScene : Type 0 where
  pub sub : List ℕ
  pub kinds : List Kind
  pub from_rows : List ℕ
  pub to_rows : List ℕ
  pub block_options : BlockOptions
  pub blocks : List Float
  pub boxes : List Box
  pub places : List Point
  pub bars : List Bar
  pub led : Bool
  pub occupied : List ℕ
  pub clearance : Float
  pub ways : List (List Point)

-- the row end of bus i
unfoldable pub row_end_at : RunScene → ℕ → ℕ → Point
row_end_at S i row = row_end S.block_options S.sub S.blocks S.boxes S.bars i row

-- the path between the row ends of a line from station s to station t, led round boxes where there are iterations
unfoldable pub led_path : RunScene → ℕ → ℕ → List Point → List Point
led_path S s t path =
    cond S.led (detour S.boxes S.occupied S.clearance s t path) path

-- the points of a line between its two row ends p and q, from station s to station t: from exit to exit by its
-- waypoints
unfoldable pub line_points : RunScene → ℕ → ℕ → List Point → Point → Point → List Point
line_points S s t via p q =
    p ∷ (led_path S s t (exit S.boxes S.places s t p.y ∷ (via ++ (exit S.boxes S.places t s q.y ∷ []))) ++ (q ∷ []))

-- the points of a branch's run, whose ends have the rows ra and rb, by these waypoints where it is a line
unfoldable pub run_for : RunScene → ℕ → ℕ → List Point → Kind → List Point
run_for S ra rb via Undrawn = []
run_for S ra rb via (Open a b) = position (bar_at S.bars a) ∷ position (bar_at S.bars b) ∷ []
run_for S ra rb via (Internal a b) = row_end_at S a ra ∷ row_end_at S b rb ∷ []
run_for S ra rb via (Line a b) =
    line_points S (station_of S.sub a) (station_of S.sub b) via (row_end_at S a ra) (row_end_at S b rb)

-- the run of branch e
unfoldable pub run_of : RunScene → ℕ → List Point
run_of S e = run_for S (get_or S.from_rows e 0) (get_or S.to_rows e 0) (get_or S.ways e []) (kind_at S.kinds e)

unfoldable pub runs : RunScene → List (List Point)
runs S = table (run_of S) (length S.kinds)

-- a piece of a branch's run, from one point to the next
pub record Piece : Type 0 where
  pub branch : ℕ
  pub start : Point
  pub end : Point

-- two points differ: a piece between points that coincide is dropped
unfoldable pub apart : Point → Point → Bool
apart p q = lt f0 (abs_of (p.x ⊖ q.x) ⊕ abs_of (p.y ⊖ q.y))

-- the pieces of branch e through these points
unfoldable pub pieces : ℕ → List Point → List Piece
pieces e [] = []
pieces e (p ∷ []) = []
pieces e (p ∷ (q ∷ ps)) =
    let rest = pieces e (q ∷ ps) in
    pick (apart p q) (record { branch = e; start = p; end = q } ∷ rest) rest

unfoldable pub is_line : Kind → Bool
is_line Undrawn = false
is_line (Open a b) = false
is_line (Internal a b) = false
is_line (Line a b) = true

-- the list of all pieces: open and internal branches first, then lines, each by branch number
unfoldable pub all_pieces : List Kind → List (List Point) → List Piece
all_pieces ks rs =
    joined (λ e. pick (is_line (kind_at ks e)) [] (pieces e (get_or rs e []))) (length ks)
    ++ joined (λ e. pick (is_line (kind_at ks e)) (pieces e (get_or rs e [])) []) (length ks)

-- Roles: 0 line, 1 internal, 2 open or undrawn.
unfoldable pub role : Kind → ℕ
role Undrawn = 2
role (Open a b) = 2
role (Internal a b) = 1
role (Line a b) = 0
