-- The cell of an edge rises with the edge, so a box that overlaps lies in the tested part: for every box and unit, held cells, infinite quotients and unit 0 included. Assumes nothing.
use mathlib.Core.Path.{◌≡◌, refl, sym, ◌∙◌, subst}
use mathlib.Core.Bool.{Bool, true, false, ◌&&◌, cond, true≢false}
use Prim.Native.Nat.{ℕ, zero, suc, ◌+◌, ◌-◌, ◌^◌, ◌≤◌, min}
use native.Mathlib.Nat.{le_refl, le_of_eq}
use native.Mathlib.Omega.{arith}
use lib.IntN.{ℤ, pos, negsuc, suc_ℤ}
use lib.Dec.{T, leb, le→leb}
use lib.Ieee.{Float, nan, inf, fin, le, eq, lt, div}
use lib.Ieee.Fits.{and_l, and_r, and_i}
use lib.Ieee.Positive.{positive}
use Rattle.numbers.specs.Small.{is_finite}
use Rattle.numbers.specs.Floor.{floor_int, size_down, size_up}
use Rattle.numbers.specs.Ops.{f0, ◌⊘◌}
use Rattle.numbers.proofs.float.Signs.{zero_bits}
use Rattle.numbers.proofs.float.Keys.{le_of_lt_float}
use Rattle.numbers.proofs.float.Quotients.{div_mono, above_positive}
use Rattle.numbers.proofs.float.FloorLaws.{floor_rises}
use Rattle.plane.specs.declared.geometry.Box.{Box}
use Rattle.plane.specs.Overlap.{meet, overlap}
use Rattle.plane.specs.Stages.Cells.{held, cell_number, cell_of, shifted, cell_key, span_of, near}

-- ---- held numbers, as stored, rise and lie in 0 .. 2^53
held_rises : (z : ℤ) → shifted (held z) ≤ shifted (held (suc_ℤ z))
unfolding shifted held
held_rises (pos n) = at n
  where
    at : (n : ℕ) → min n (2 ^ 52) + 2 ^ 52 ≤ min (suc n) (2 ^ 52) + 2 ^ 52
    at n = omega arith
held_rises (negsuc zero) = omega arith
held_rises (negsuc (suc n)) = at n
  where
    at : (n : ℕ) → 2 ^ 52 - suc (min (suc n) (2 ^ 52 - 1)) ≤ 2 ^ 52 - suc (min n (2 ^ 52 - 1))
    at n = omega arith

least : (z : ℤ) → shifted (negsuc (2 ^ 52 - 1)) ≤ shifted z
unfolding shifted
least (pos n) = omega arith
least (negsuc n) = omega arith

most : (z : ℤ) → shifted (held z) ≤ shifted (pos (2 ^ 52))
unfolding shifted held
most (pos n) = omega arith
most (negsuc n) = omega arith

pub number_mono : (x y : Float) → T (le x y) → shifted (cell_number x) ≤ shifted (cell_number y)
unfolding le lt eq cell_number is_finite
number_mono nan y h = absurd h
number_mono (inf s) nan h = absurd h
number_mono (inf true) (inf true) h = le_refl (shifted (negsuc (2 ^ 52 - 1)))
number_mono (inf true) (inf false) h = least (pos (2 ^ 52))
number_mono (inf false) (inf true) h = absurd h
number_mono (inf false) (inf false) h = le_refl (shifted (pos (2 ^ 52)))
number_mono (inf true) (fin t n d) h = least (held (floor_int (fin t n d)))
number_mono (inf false) (fin t n d) h = absurd h
number_mono (fin s m e) nan h = absurd h
number_mono (fin s m e) (inf true) h = absurd h
number_mono (fin s m e) (inf false) h = most (floor_int (fin s m e))
number_mono (fin s m e) (fin t n d) h = floor_rises (λ z. shifted (held z)) held_rises (fin s m e) (fin t n d) tt tt h

low_number : (x : Float) → shifted (cell_number (inf true)) ≤ shifted (cell_number x)
unfolding cell_number
low_number x = least (cell_number x)

high_number : (x : Float) → shifted (cell_number x) ≤ shifted (cell_number (inf false))
unfolding cell_number
high_number nan = most (pos 0)
high_number (inf true) = least (pos (2 ^ 52))
high_number (inf false) = le_refl (shifted (pos (2 ^ 52)))
high_number (fin s m e) = most (floor_int (fin s m e))

-- ---- quotients, infinite ones and those of infinite edges included
quotient_mono : (x y d : Float) → T (positive d) → T (le x y) → shifted (cell_number (x ⊘ d)) ≤ shifted (cell_number (y ⊘ d))
unfolding le lt eq div is_finite
quotient_mono x y nan p h = absurd p
quotient_mono x y (inf s) p h = absurd p
quotient_mono x y (fin true n g) p h = absurd p
quotient_mono nan y (fin false n g) p h = absurd h
quotient_mono (inf true) y (fin false n g) p h = low_number (y ⊘ fin false n g)
quotient_mono (inf false) nan (fin false n g) p h = absurd h
quotient_mono (inf false) (inf true) (fin false n g) p h = absurd h
quotient_mono (inf false) (inf false) (fin false n g) p h = le_refl (shifted (cell_number (inf false)))
quotient_mono (inf false) (fin t i j) (fin false n g) p h = absurd h
quotient_mono (fin s m e) nan (fin false n g) p h = absurd h
quotient_mono (fin s m e) (inf true) (fin false n g) p h = absurd h
quotient_mono (fin s m e) (inf false) (fin false n g) p h = high_number (fin s m e ⊘ fin false n g)
quotient_mono (fin s m e) (fin t i j) (fin false n g) p h = number_mono (fin s m e ⊘ fin false n g) (fin t i j ⊘ fin false n g) (div_mono (fin s m e) (fin t i j) (fin false n g) tt tt p h)

-- an infinite unit has one cell
one_cell : (s : Bool) (x : Float) → shifted (cell_number (x ⊘ inf s)) ≡ 2 ^ 52
unfolding div cell_number shifted held floor_int size_down size_up
one_cell s nan = refl
one_cell s (inf t) = refl
one_cell true (fin true m e) = refl
one_cell true (fin false m e) = refl
one_cell false (fin true m e) = refl
one_cell false (fin false m e) = refl

above_mono : (x y unit : Float) → lt f0 unit ≡ true → T (le x y) → shifted (cell_number (x ⊘ unit)) ≤ shifted (cell_number (y ⊘ unit))
unfolding is_finite lt
above_mono x y nan p h = absurd (true≢false (sym (subst (λ (z : Float). lt z nan ≡ true) zero_bits p)))
above_mono x y (inf s) p h = le_of_eq (one_cell s x ∙ sym (one_cell s y))
above_mono x y (fin s n g) p h = quotient_mono x y (fin s n g) (above_positive (fin s n g) tt (subst (λ (z : Float). lt z (fin s n g) ≡ true) zero_bits p)) h

-- the cell rises with the edge
pub cell_mono : (unit x y : Float) → T (le x y) → cell_key unit x ≤ cell_key unit y
unfolding cell_key cell_of
cell_mono unit x y h = go (lt f0 unit) refl
  where
    go : (t : Bool) → lt f0 unit ≡ t → shifted (cond t (cell_number (x ⊘ unit)) (pos 0)) ≤ shifted (cond t (cell_number (y ⊘ unit)) (pos 0))
    go true e = above_mono x y unit e h
    go false e = le_refl (shifted (pos 0))

module _ (unit : Float) where
  cell_lt : (x y : Float) → T (lt x y) → cell_key unit x ≤ cell_key unit y
  cell_lt x y h = cell_mono unit x y (le_of_lt_float x y h)

  -- what overlaps is in the tested part
  pub overlap_near : (most : ℕ) (p q : Box) → span_of unit q ≤ most → T (overlap p q) → T (near unit most p q)
  unfolding overlap meet near span_of
  overlap_near most p q s h =
      let across : T (lt p.left q.right && lt q.left p.right) = and_l (meet p.left p.right q.left q.right) (meet p.top p.bottom q.top q.bottom) h in
      let one : cell_key unit p.left ≤ cell_key unit q.right = cell_lt p.left q.right (and_l (lt p.left q.right) (lt q.left p.right) across) in
      let two : cell_key unit q.left ≤ cell_key unit p.right = cell_lt q.left p.right (and_r (lt p.left q.right) (lt q.left p.right) across) in
      and_i (leb (cell_key unit p.left) (cell_key unit q.left + most)) (leb (cell_key unit q.left) (cell_key unit p.right))
      (le→leb (cell_key unit p.left) (cell_key unit q.left + most) (add (cell_key unit p.left) (cell_key unit q.left) (cell_key unit q.right) one s))
      (le→leb (cell_key unit q.left) (cell_key unit p.right) two)
    where
      add : (a b c : ℕ) → a ≤ c → c - b ≤ most → a ≤ b + most
      add a b c h k = omega arith
