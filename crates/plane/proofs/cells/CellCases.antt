-- Cells that antt computes: floors, unit 0, cells held at 2^52 either way, an infinite quotient. Floats stand by their bits.
use mathlib.Core.Path.{◌≡◌, refl}
use Prim.Native.Nat.{ℕ}
use mathlib.Core.List.{[], ◌∷◌}
use lib.Ieee.{binary64, of_bits, lt, div}
use lib.IntN.{ℤ, pos, negsuc}
use Rattle.numbers.specs.Floor.{size_down, size_up, floor_int}
use Rattle.plane.specs.Stages.Cells.{held, cell_number, cell_of}

abbrev cell : ℕ → ℕ → ℤ
cell unit edge = cell_of (of_bits binary64 unit) (of_bits binary64 edge)

-- unit 1: −0.5, 2.5, 2^53, −2^53; unit 2: 3; unit 0: 5; unit 2^-1074: 2.5
pub cells :
    cell 0x3FF0_0000_0000_0000 0xBFE0_0000_0000_0000 ∷ cell 0x3FF0_0000_0000_0000 0x4004_0000_0000_0000
    ∷ cell 0x3FF0_0000_0000_0000 0x4340_0000_0000_0000 ∷ cell 0x3FF0_0000_0000_0000 0xC340_0000_0000_0000
    ∷ cell 0x4000_0000_0000_0000 0x4008_0000_0000_0000 ∷ cell 0 0x4014_0000_0000_0000 ∷ cell 1 0x4004_0000_0000_0000 ∷ []
    ≡ negsuc 0 ∷ pos 2 ∷ pos 4503599627370496 ∷ negsuc 4503599627370495 ∷ pos 1 ∷ pos 0 ∷ pos 4503599627370496 ∷ []
unfolding cell_of cell_number held floor_int size_down size_up of_bits lt div
cells = refl
