-- Cells and chains lie within their numbers. Assumes nothing.
use mathlib.Core.Path.{◌≡◌}
use mathlib.Core.Bool.{Bool, true, false, cond, ◌||◌}
use Prim.Native.Nat.{ℕ, suc, ◌+◌, ◌*◌, ◌≤◌, ◌<◌}
use native.Mathlib.Nat.{mul-le-mul_right}
use native.Mathlib.Omega.{arith}
use lib.Dec.{ltb}
use lib.Ieee.{Float}
use Rattle.plane.specs.declared.geometry.Box.{Box}
use Rattle.boxes.specs.declared.grid.Grid.{Grid}
use Rattle.boxes.specs.Stages.Cells.{cell_at, column_of, row_of, chain_of}

pub cell_few : (unit low x : Float) (most : ℕ) → 1 ≤ most → cell_at unit low most x < most
unfolding cell_at
cell_few unit low x most h = omega arith

-- the last chain is that of the last cell
pub cell_within : (columns rows r c : ℕ) → r < rows → c < columns → 1 + r * columns + c ≤ columns * rows
cell_within columns rows r c h k = let p : suc r * columns ≤ rows * columns = mul-le-mul_right columns h in omega arith

-- ---- the chain of a box
module _ (g : Grid) (b : Box) where
  pub chain_by : (t u : Bool) → ltb (column_of g b.left + 1) (column_of g b.right) ≡ t → ltb (row_of g b.top + 1) (row_of g b.bottom) ≡ u → chain_of g b ≡ cond (t || u) 0 (1 + row_of g b.top * g.columns + column_of g b.left)
  unfolding chain_of
  chain_by t u h k = rw (h, k)

pub chain_few : (g : Grid) (b : Box) → 1 ≤ g.columns → 1 ≤ g.rows → chain_of g b ≤ g.columns * g.rows
unfolding chain_of column_of row_of
chain_few g b h k = go (ltb (column_of g b.left + 1) (column_of g b.right) || ltb (row_of g b.top + 1) (row_of g b.bottom))
  where
    go : (t : Bool) → cond t 0 (1 + row_of g b.top * g.columns + column_of g b.left) ≤ g.columns * g.rows
    go true = omega arith
    go false = cell_within g.columns g.rows (row_of g b.top) (column_of g b.left) (cell_few g.height g.top b.top g.rows k) (cell_few g.width g.left b.left g.columns h)
