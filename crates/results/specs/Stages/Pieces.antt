-- Pieces counted, and result lists with pieces written into them. Definitions only.
use Rattle.std.specs.Prelude.{ℕ, ◌+◌, ◌*◌, ◌≤◌, ◌≡◌, List, ◌++◌, map, length, take, drop, Float}
use Rattle.plane.specs.declared.geometry.Point.{Point}
use Rattle.runs.specs.Run.{Piece, pieces}
use Rattle.runs.specs.Lists.{flat, piece_numbers}

abbrev pub piece : ℕ → Point → Point → Piece
piece e p q = record { branch = e; start = p; end = q }

abbrev pub branch_of : Piece → ℕ
branch_of p = p.branch

-- so many pieces run through these points, of whichever branch
abbrev pub Counted : ℕ → List Point → Type 0
Counted r points = (e : ℕ) → r ≡ length (pieces e points)

-- pieces from number `at` on fit the two lists
abbrev pub PieceRoom : ℕ → List Piece → List Float → List ℕ → Type 0
PieceRoom at ps numbers branches = (4 * (at + length ps) ≤ length numbers) × (at + length ps ≤ length branches)

-- The pieces ps have the numbers at, .., r - 1: four numbers of each stand in one list, its branch in another, and the
-- rest is as before.
pub record Put (at r : ℕ) (ps : List Piece) (numbers numbers' : List Float) (branches branches' : List ℕ) : Type 0 where
  pub count : r ≡ at + length ps
  pub four : numbers' ≡ take (4 * at) numbers ++ (flat piece_numbers ps ++ drop (4 * r) numbers)
  pub one : branches' ≡ take at branches ++ (map branch_of ps ++ drop r branches)
