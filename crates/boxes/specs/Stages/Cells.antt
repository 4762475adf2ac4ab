-- The cells that boxes are entered in by their left-top corners, and the list that holds them. Definitions only.
use Rattle.std.specs.Prelude.{ℕ, suc, ◌+◌, ◌-◌, ◌*◌, ◌^◌, ◌≤◌, ◌<◌, min, ◌≡◌, true, cond, ◌||◌, List, ◌∷◌, T, ltb}
use Rattle.std.specs.Prelude.{length, get_or, set, Float}
use Rattle.numbers.specs.Small.{is_finite}
use Rattle.numbers.specs.Ops.{◌⊖◌, ◌⊘◌, num}
use Rattle.plane.specs.declared.geometry.Box.{Box}
use Rattle.plane.specs.Stages.Cells.{cell_key}
use Rattle.plane.specs.Plane.{box_in}
use Rattle.boxes.specs.declared.grid.Grid.{Grid}
use Rattle.plane.specs.Stages.Window.{finite_box}

-- ---- cells
-- the column or row, of so many, of a coordinate: the cell of its distance from the lowest, held to 0 to the last
unfoldable pub cell_at : Float → Float → ℕ → Float → ℕ
cell_at unit low most x = min (cell_key unit (x ⊖ low) - 2 ^ 52) (most - 1)

unfoldable pub column_of : Grid → Float → ℕ
column_of g x = cell_at g.width g.left g.columns x

unfoldable pub row_of : Grid → Float → ℕ
row_of g y = cell_at g.height g.top g.rows y

-- chain 0 is that of the boxes that span more than two columns or rows; the chains of the cells follow, row by row
unfoldable pub chain_of : Grid → Box → ℕ
chain_of g b =
    cond (ltb (column_of g b.left + 1) (column_of g b.right) || ltb (row_of g b.top + 1) (row_of g b.bottom))
    0
    (1 + row_of g b.top * g.columns + column_of g b.left)

-- a grid with columns and rows, at most 16,384 of each
abbrev pub HasCells : Grid → Type 0
HasCells g = (1 ≤ g.columns) × (1 ≤ g.rows) × (g.columns ≤ 16384) × (g.rows ≤ 16384)

-- a box that reaches the window w has a chain of this window: a box may begin one column or row before it
pub data InWindow (g : Grid) (w : Box) : ℕ → Type 0 where
  wide : InWindow g w 0
  cell : (r c : ℕ)
      → row_of g w.top - 1 ≤ r → r ≤ row_of g w.bottom
      → column_of g w.left - 1 ≤ c → c ≤ column_of g w.right
      → InWindow g w (1 + r * g.columns + c)

-- ---- the list
-- Its first number is 0 where no box is entered. The next four are stations: those whose left and whose top sides are
-- the least and the greatest; then come the numbers of columns and rows, and from place 7 on the chains: 0 for none,
-- else one more than the chain's first station. For k stations place 4 k + s has the station behind station s, in the
-- same way.
unfoldable pub grid_in : List Box → List ℕ → Grid
grid_in boxes l =
    record {
      left = (box_in boxes (get_or l 1 0)).left;
      top = (box_in boxes (get_or l 3 0)).top;
      width = ((box_in boxes (get_or l 2 0)).left ⊖ (box_in boxes (get_or l 1 0)).left) ⊘ num (get_or l 5 0);
      height = ((box_in boxes (get_or l 4 0)).top ⊖ (box_in boxes (get_or l 3 0)).top) ⊘ num (get_or l 6 0);
      columns = get_or l 5 0;
      rows = get_or l 6 0;
    }

unfoldable pub chain_at : List ℕ → ℕ → ℕ
chain_at l c = get_or l (7 + c) 0

unfoldable pub next_at : ℕ → List ℕ → ℕ → ℕ
next_at k l s = get_or l (4 * k + s) 0

-- station s put at the front of chain c
unfoldable pub linked : ℕ → ℕ → ℕ → List ℕ → List ℕ
linked k c s l = set (set l (4 * k + s) (chain_at l c)) (7 + c) (suc s)

-- station s stands in the chain that begins so
pub data On (k : ℕ) (l : List ℕ) (s : ℕ) : ℕ → Type 0 where
  here : On k l s (suc s)
  behind : (r : ℕ) → On k l s (next_at k l r) → On k l s (suc r)

-- a station of a list
pub data In (x : ℕ) : List ℕ → Type 0 where
  front : (ys : List ℕ) → In x (x ∷ ys)
  later : (y : ℕ) (ys : List ℕ) → In x ys → In x (y ∷ ys)

-- a grid with its numbers of columns and rows, for so many chains of cells
pub record Sized (g : Grid) (n : ℕ) : Type 0 where
  pub columns : 1 ≤ g.columns
  pub rows : 1 ≤ g.rows
  pub cells : g.columns * g.rows ≤ n
  pub left : T (is_finite g.left)
  pub top : T (is_finite g.top)

-- the chains hold these stations, each in its own
pub record Chained (g : Grid) (boxes : List Box) (stations : List ℕ) (k : ℕ) (l : List ℕ) : Type 0 where
  pub heads : (c : ℕ) → c ≤ g.columns * g.rows → (s : ℕ) → chain_at l c ≡ suc s → In s stations
  pub nexts : (s : ℕ) → In s stations → (r : ℕ) → next_at k l s ≡ suc r → (r < s) × In r stations
  pub each : (s : ℕ) → In s stations → On k l s (chain_at l (chain_of g (box_in boxes s)))

pub record Entered (boxes : List Box) (stations : List ℕ) (l : List ℕ) : Type 0 where
  pub sized : Sized (grid_in boxes l) (4 * length boxes)
  pub finite : (s : ℕ) → In s stations → finite_box (box_in boxes s) ≡ true
  pub chained : Chained (grid_in boxes l) boxes stations (length boxes) l

-- The list enters these stations' boxes, or none.
pub record Indexed (boxes : List Box) (stations : List ℕ) (l : List ℕ) : Type 0 where
  pub entered : 0 < get_or l 0 0 → Entered boxes stations l
