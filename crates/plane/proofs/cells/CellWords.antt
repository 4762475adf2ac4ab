-- The tested part over cells as whole numbers with a sign is the one over the numbers stored. Assumes nothing.
use mathlib.Core.Path.{◌≡◌, sym, ap, ◌∙◌, subst}
use mathlib.Core.Logic.{◌⊎◌, inl, inr}
use mathlib.Core.Bool.{Bool, true, false, cond, ◌&&◌}
use Prim.Native.Nat.{ℕ, zero, suc, ◌+◌, ◌-◌, ◌^◌, ◌≤◌, ◌<◌, min}
use native.Mathlib.Omega.{arith}
use lib.Dec.{T, leb, le→leb}
use lib.IntN.{ℤ, pos, negsuc, sub_ℕ, ◌-ℤ◌}
use lib.Signed.{le_z}
use lib.Ieee.{Float, nan, inf, fin, lt, le}
use borrow.Author.Tests.{le-leb, lt-leb, lt-ltb, le-ltb}
use Rattle.numbers.specs.Floor.{floor_int}
use Rattle.numbers.specs.Ops.{f0, ◌⊘◌}
use Rattle.numbers.proofs.order.Merging.{le_or_lt}
use Rattle.plane.specs.declared.geometry.Box.{Box}
use Rattle.plane.specs.Stages.Cells.{held, cell_number, cell_of, shifted, cell_key, in_tested_part, near}
use Rattle.plane.proofs.cells.CellLaws.{cell_mono}

-- not below -2^52, and not above 2^52
Low : ℤ → Type 0
Low (pos n) = n ≤ 2 ^ 52
Low (negsuc n) = suc n ≤ 2 ^ 52

low_held : (z : ℤ) → Low (held z)
unfolding Low held
low_held (pos n) = at n
  where
    at : (n : ℕ) → min n (2 ^ 52) ≤ 2 ^ 52
    at n = omega arith
low_held (negsuc n) = at n
  where
    at : (n : ℕ) → suc (min n (2 ^ 52 - 1)) ≤ 2 ^ 52
    at n = omega arith

low_number : (x : Float) → Low (cell_number x)
unfolding Low cell_number
low_number nan = omega arith
low_number (inf true) = omega arith
low_number (inf false) = omega arith
low_number (fin s m e) = low_held (floor_int (fin s m e))

low_cell : (unit x : Float) → Low (cell_of unit x)
unfolding Low cell_of
low_cell unit x = go (lt f0 unit)
  where
    go : (t : Bool) → Low (cond t (cell_number (x ⊘ unit)) (pos 0))
    go true = low_number (x ⊘ unit)
    go false = omega arith

-- two tests that pass together
same_test : (a b c d : ℕ) → (a ≤ b → c ≤ d) → (b < a → d < c) → leb a b ≡ leb c d
same_test a b c d f g = go (le_or_lt a b)
  where
    go : (a ≤ b) ⊎ (b < a) → leb a b ≡ leb c d
    go (inl h) = le-leb a b h ∙ sym (le-leb c d (f h))
    go (inr h) = lt-leb a b h ∙ sym (lt-leb c d (g h))

sub_pos : (m j n : ℕ) → le_z (sub_ℕ m j) (pos n) ≡ leb m (n + j)
sub_pos m j n = go (le_or_lt j m)
  where
    go : (j ≤ m) ⊎ (m < j) → le_z (sub_ℕ m j) (pos n) ≡ leb m (n + j)
    go (inl h) = ap (λ (t : Bool). le_z (cond t (negsuc (j - suc m)) (pos (m - j))) (pos n)) (le-ltb m j h) ∙ same_test (m - j) n m (n + j) (λ k. omega arith) (λ k. omega arith)
    go (inr h) = ap (λ (t : Bool). le_z (cond t (negsuc (j - suc m)) (pos (m - j))) (pos n)) (lt-ltb m j h) ∙ sym (le-leb m (n + j) (omega arith))

sub_neg : (m j n : ℕ) → le_z (sub_ℕ m j) (negsuc n) ≡ leb (m + suc n) j
sub_neg m j n = go (le_or_lt j m)
  where
    go : (j ≤ m) ⊎ (m < j) → le_z (sub_ℕ m j) (negsuc n) ≡ leb (m + suc n) j
    go (inl h) = ap (λ (t : Bool). le_z (cond t (negsuc (j - suc m)) (pos (m - j))) (negsuc n)) (le-ltb m j h) ∙ sym (lt-leb (m + suc n) j (omega arith))
    go (inr h) = ap (λ (t : Bool). le_z (cond t (negsuc (j - suc m)) (pos (m - j))) (negsuc n)) (lt-ltb m j h) ∙ same_test n (j - suc m) (m + suc n) j (λ k. omega arith) (λ k. omega arith)

-- a − k ≤ b, over what is stored
less_cells : (a b : ℤ) (k : ℕ) → Low a → Low b → le_z (a -ℤ pos k) b ≡ leb (shifted a) (shifted b + k)
unfolding Low shifted
less_cells (pos m) (pos n) zero h l = same_test (m + 0) n (m + 2 ^ 52) (n + 2 ^ 52 + 0) (λ k. omega arith) (λ k. omega arith)
less_cells (pos m) (negsuc n) zero h l = sym (lt-leb (m + 2 ^ 52) (2 ^ 52 - suc n + 0) (omega arith))
less_cells (pos m) (pos n) (suc j) h l = sub_pos m (suc j) n ∙ same_test m (n + suc j) (m + 2 ^ 52) (n + 2 ^ 52 + suc j) (λ k. omega arith) (λ k. omega arith)
less_cells (pos m) (negsuc n) (suc j) h l = sub_neg m (suc j) n ∙ same_test (m + suc n) (suc j) (m + 2 ^ 52) (2 ^ 52 - suc n + suc j) (λ k. omega arith) (λ k. omega arith)
less_cells (negsuc m) (pos n) zero h l = sub_pos 0 (suc m) n ∙ same_test 0 (n + suc m) (2 ^ 52 - suc m) (n + 2 ^ 52 + 0) (λ k. omega arith) (λ k. omega arith)
less_cells (negsuc m) (negsuc n) zero h l = sub_neg 0 (suc m) n ∙ same_test (0 + suc n) (suc m) (2 ^ 52 - suc m) (2 ^ 52 - suc n + 0) (λ k. omega arith) (λ k. omega arith)
less_cells (negsuc m) (pos n) (suc j) h l = sym (le-leb (2 ^ 52 - suc m) (n + 2 ^ 52 + suc j) (omega arith))
less_cells (negsuc m) (negsuc n) (suc j) h l = same_test n (suc (m + j)) (2 ^ 52 - suc m) (2 ^ 52 - suc n + suc j) (λ k. omega arith) (λ k. omega arith)

-- a ≤ b, over what is stored
le_cells : (a b : ℤ) → Low a → Low b → le_z a b ≡ leb (shifted a) (shifted b)
unfolding Low shifted
le_cells (pos m) (pos n) h l = same_test m n (m + 2 ^ 52) (n + 2 ^ 52) (λ k. omega arith) (λ k. omega arith)
le_cells (pos m) (negsuc n) h l = sym (lt-leb (m + 2 ^ 52) (2 ^ 52 - suc n) (omega arith))
le_cells (negsuc m) (pos n) h l = sym (le-leb (2 ^ 52 - suc m) (n + 2 ^ 52) (omega arith))
le_cells (negsuc m) (negsuc n) h l = same_test n m (2 ^ 52 - suc m) (2 ^ 52 - suc n) (λ k. omega arith) (λ k. omega arith)

-- what is stored is at most 2^53
pub key_most : (unit x : Float) → cell_key unit x ≤ 2 ^ 53
unfolding cell_key Low
key_most unit x = at (cell_of unit x) (low_cell unit x)
  where
    plus : (n : ℕ) → n ≤ 2 ^ 52 → n + 2 ^ 52 ≤ 2 ^ 53
    plus n h = omega arith

    minus : (n : ℕ) → 2 ^ 52 - suc n ≤ 2 ^ 53
    minus n = omega arith

    at : (z : ℤ) → Low z → shifted z ≤ 2 ^ 53
    at (pos n) h = plus n h
    at (negsuc n) h = minus n

-- in signs: the cell rises with the edge
pub cell_rises : (unit x y : Float) → T (le x y) → T (le_z (cell_of unit x) (cell_of unit y))
unfolding cell_key
cell_rises unit x y h =
    subst T (sym (le_cells (cell_of unit x) (cell_of unit y) (low_cell unit x) (low_cell unit y)))
    (le→leb (cell_key unit x) (cell_key unit y) (cell_mono unit x y h))

-- the tested part over signed cells is the one over what is stored
pub tested_part_words : (unit : Float) (most : ℕ) (p q : Box) → in_tested_part unit most p q ≡ near unit most p q
unfolding in_tested_part near cell_key
tested_part_words unit most p q =
    ap (λ (t : Bool). t && le_z (cell_of unit q.left) (cell_of unit p.right)) (less_cells (cell_of unit p.left) (cell_of unit q.left) most (low_cell unit p.left) (low_cell unit q.left))
    ∙ ap (λ (t : Bool). leb (shifted (cell_of unit p.left)) (shifted (cell_of unit q.left) + most) && t) (le_cells (cell_of unit q.left) (cell_of unit p.right) (low_cell unit q.left) (low_cell unit p.right))
