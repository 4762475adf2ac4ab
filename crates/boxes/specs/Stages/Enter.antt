-- The list before and after boxes are entered: empty chains, and a grid that stays. Definitions only.
use Rattle.std.specs.Prelude.{ℕ, ◌≤◌, ◌<◌, ◌≡◌, List, get_or}
use Rattle.boxes.specs.declared.box_cells.extent.Extent.{Extent}
use Rattle.boxes.specs.Stages.Cells.{chain_at}

-- the first n chains are empty
pub record Empty (n : ℕ) (l : List ℕ) : Type 0 where
  pub none : (c : ℕ) → c < n → chain_at l c ≡ 0

-- two lists with the same first seven places, the grid's
pub record SameGrid (l m : List ℕ) : Type 0 where
  pub same : (i : ℕ) → i < 7 → get_or m i 0 ≡ get_or l i 0

-- the stations that give an extent are at most n
abbrev pub StationsTo : ℕ → Extent → Type 0
StationsTo n E = (E.left ≤ n) × (E.right ≤ n) × (E.top ≤ n) × (E.bottom ≤ n)
