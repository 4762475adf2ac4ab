-- The tests over the whole table that its rule is proved by: strictly rising, each the number of a pair, each pair
-- there. Definitions only.
use Rattle.std.specs.Prelude.{ℕ, zero, suc, ◌/◌, ◌%◌, Bool, true, false, ◌&&◌, ◌||◌, List, [], ◌∷◌, eqb, ltb}
use Rattle.offsets.specs.Offset.{offset_number}

-- each is below the next
unfoldable pub rising : List ℕ → Bool
rising [] = true
rising (x ∷ []) = true
rising (x ∷ (y ∷ l)) = ltb x y && rising (y ∷ l)

-- each is the number of a pair with both parts from −20 to 20
unfoldable pub formed : List ℕ → Bool
formed [] = true
formed (x ∷ l) = eqb x (offset_number (x / 41 % 41) (x % 41)) && formed l

-- c is among them
unfoldable pub has : ℕ → List ℕ → Bool
has c [] = false
has c (x ∷ l) = eqb c x || has c l

-- the numbers of the pairs (u − 20, v − 20) are there, for each v below n; and for each u below m
unfoldable pub has_row : List ℕ → ℕ → ℕ → Bool
has_row l u zero = true
has_row l u (suc n) = has (offset_number u n) l && has_row l u n

unfoldable pub has_rows : List ℕ → ℕ → ℕ → Bool
has_rows l n zero = true
has_rows l n (suc m) = has_row l m n && has_rows l n m
