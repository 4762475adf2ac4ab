-- What a pass over runs has done. Definitions only.
use Rattle.std.specs.Prelude.{ℕ, ◌+◌, ◌^◌, ◌<◌, ◌≡◌, Bool, true, false, List, length, Float}
use Rattle.runs.specs.Run.{Piece}
use Rattle.results.specs.Stages.Pieces.{PieceRoom, Put}

-- pieces from number `at` on can be counted, and fit the two lists where they are written
abbrev pub RoomFor : Bool → ℕ → List Piece → List Float → List ℕ → Type 0
RoomFor write at ps numbers branches = (at + length ps < 2 ^ 64) × (write ≡ true → PieceRoom at ps numbers branches)

-- A pass over runs gives the pieces ps the numbers at, .., r - 1, and writes them where it is asked to.
pub record Passed (write : Bool) (at r : ℕ) (ps : List Piece)
    (numbers numbers' : List Float) (branches branches' : List ℕ) : Type 0 where
  pub count : r ≡ at + length ps
  pub written : write ≡ true → Put at r ps numbers numbers' branches branches'
  pub kept : write ≡ false → (numbers' ≡ numbers) × (branches' ≡ branches)
