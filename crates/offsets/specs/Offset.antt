-- Offsets (a, b), both from −search to search, run by a² + b², a, b (docs/RULES.md, 'Offsets'). Definitions only.
use Rattle.std.specs.Prelude.{ℕ, suc, ◌+◌, ◌-◌, ◌*◌, ◌/◌, ◌%◌, List, map}
use Rattle.std.specs.Float.Ieee.{minus}
use Rattle.numbers.specs.Order.{sort_by, up_from}
use Rattle.offsets.specs.declared.offset.Offset.{Offset}

-- the square of u - 20
abbrev pub square : ℕ → ℕ
square u = (u - 20) * (u - 20) + (20 - u) * (20 - u)

-- The offset (u - 20, v - 20) as one number. Offsets run by a² + b², a, b: so do these numbers, for u and v up to 40.
unfoldable pub offset_number : ℕ → ℕ → ℕ
offset_number u v = ((square u + square v) * 41 + u) * 41 + v

unfoldable pub offset_of : ℕ → Offset
offset_of c = record { a = minus (c / 41 % 41) 20; b = minus (c % 41) 20 }

-- the number of the i-th pair of the grid from -search to search, row by row; all of them
unfoldable pub grid_number : ℕ → ℕ → ℕ
grid_number search i =
    let side = suc (2 * search) in offset_number (i / side + (20 - search)) (i % side + (20 - search))

unfoldable pub offset_grid : ℕ → List ℕ
offset_grid search = let side = suc (2 * search) in map (grid_number search) (up_from 0 (side * side))

-- the offsets (a, b), both from -search to search, in this order
unfoldable pub offsets : ℕ → List Offset
offsets search = map offset_of (sort_by (λ c. c) (offset_grid search))
