-- A box that reaches a window has a chain of it: cells rise with the coordinate. Assumes nothing.
use mathlib.Core.Path.{◌≡◌, refl, sym, subst}
use mathlib.Core.Bool.{Bool, true, false, cond, ◌||◌}
use Prim.Native.Nat.{ℕ, ◌+◌, ◌-◌, ◌*◌, ◌^◌, ◌≤◌, min}
use native.Mathlib.Omega.{arith}
use lib.Dec.{T, ltb}
use lib.Ieee.{Float, le}
use borrow.Author.Tests.{ltb-false}
use Rattle.numbers.specs.Small.{is_finite}
use Rattle.numbers.specs.Ops.{◌⊖◌}
use Rattle.plane.specs.declared.geometry.Box.{Box}
use Rattle.plane.specs.Stages.Cells.{cell_key}
use Rattle.plane.proofs.cells.CellLaws.{cell_mono}
use Rattle.plane.specs.Stages.Window.{Reaches}
use Rattle.plane.proofs.windows.Monotone.{sub_rises}
use Rattle.boxes.specs.declared.grid.Grid.{Grid}
use Rattle.boxes.specs.Stages.Cells.{cell_at, column_of, row_of, chain_of, InWindow, Sized}
use Rattle.boxes.specs.Stages.Cells.InWindow.{wide, cell}
use Rattle.boxes.proofs.grid.CellCode.{chain_by}

pub cell_rises : (unit low : Float) (most : ℕ) (x y : Float) → T (is_finite low) → T (le x y) → cell_at unit low most x ≤ cell_at unit low most y
unfolding cell_at
cell_rises unit low most x y f h = held (cell_key unit (x ⊖ low)) (cell_key unit (y ⊖ low)) (cell_mono unit (x ⊖ low) (y ⊖ low) (sub_rises x y low f h))
  where
    held : (a b : ℕ) → a ≤ b → min (a - 2 ^ 52) (most - 1) ≤ min (b - 2 ^ 52) (most - 1)
    held a b h = omega arith

module _ (g : Grid) (n : ℕ) (s : Sized g n) where
  pub column_rises : (x y : Float) → T (le x y) → column_of g x ≤ column_of g y
  unfolding column_of
  column_rises x y h = cell_rises g.width g.left g.columns x y s.left h

  pub row_rises : (x y : Float) → T (le x y) → row_of g x ≤ row_of g y
  unfolding row_of
  row_rises x y h = cell_rises g.height g.top g.rows x y s.top h

pub reach_cells : (g : Grid) (n : ℕ) (w b : Box) → Sized g n → Reaches w b → InWindow g w (chain_of g b)
reach_cells g n w b s h = go (ltb (column_of g b.left + 1) (column_of g b.right)) (ltb (row_of g b.top + 1) (row_of g b.bottom)) refl refl
  where
    before : (a b c : ℕ) → a ≤ b → b ≤ c + 1 → a - 1 ≤ c
    before a b c h k = omega arith

    within : (t u : Bool) → ltb (column_of g b.left + 1) (column_of g b.right) ≡ t → ltb (row_of g b.top + 1) (row_of g b.bottom) ≡ u → InWindow g w (cond (t || u) 0 (1 + row_of g b.top * g.columns + column_of g b.left))
    within true u p q = wide
    within false true p q = wide
    within false false p q =
        cell (row_of g b.top) (column_of g b.left)
        (before (row_of g w.top) (row_of g b.bottom) (row_of g b.top) (row_rises g n s w.top b.bottom h.bottom) (ltb-false _ _ q))
        (row_rises g n s b.top w.bottom h.top)
        (before (column_of g w.left) (column_of g b.right) (column_of g b.left) (column_rises g n s w.left b.right h.right) (ltb-false _ _ p))
        (column_rises g n s b.left w.right h.left)

    go : (t u : Bool) → ltb (column_of g b.left + 1) (column_of g b.right) ≡ t → ltb (row_of g b.top + 1) (row_of g b.bottom) ≡ u → InWindow g w (chain_of g b)
    go t u p q = subst (InWindow g w) (sym (chain_by g b t u p q)) (within t u p q)
