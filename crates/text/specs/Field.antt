-- The fields of drawlist's input (docs/RULES.md, 'Text of drawlist'). Whole numbers are decimal, without leading zeros,
-- a bus number with a minus where negative; floats are 16 capital hexadecimal digits of their bits. Each reader takes
-- what stands at the front of a text. Definitions only.
use Rattle.std.specs.Prelude.{ℕ, zero, suc, ◌+◌, ◌-◌, ◌*◌, ◌^◌, true, false, cond, ◌&&◌, List, [], ◌∷◌, eqb, ltb, leb}
use Rattle.std.specs.Prelude.{ℤ, pos, neg_ℤ}

-- a value and the bytes after it, or nothing well-formed
pub data Read (A : Type 0) : Type 0 where
  got : A → List ℕ → Read A
  wrong : Read A

-- what a digit stands for: `0` to `9` and the capitals `A` to `F`; 16 for any other byte
unfoldable pub digit : ℕ → ℕ
digit c = cond (ltb c 48) 16 (cond (ltb c 58) (c - 48) (cond (ltb c 65) 16 (cond (ltb c 71) (c - 55) 16)))

-- a value that the byte `stop` closes
unfoldable pub closed : ℕ → ℕ → List ℕ → Read ℕ
closed stop v [] = wrong
closed stop v (c ∷ l) = elim (eqb c stop) [ true ↦ got v l | false ↦ wrong ]

-- decimal digits up to the byte `stop`, after digits that stand for v
unfoldable pub digits_to : ℕ → ℕ → List ℕ → Read ℕ
unfolding digit
digits_to stop v [] = wrong
digits_to stop v (c ∷ l) =
    elim (eqb c stop) [
      | true ↦ got v l
      | false ↦ elim (ltb (digit c) 10) [ true ↦ digits_to stop (v * 10 + digit c) l | false ↦ wrong ]
    ]

-- a value outside is malformed
unfoldable pub limited : ℕ → Read ℕ → Read ℕ
limited most (got v l) = elim (leb v most) [ true ↦ got v l | false ↦ wrong ]
limited most wrong = wrong

-- a number above 0: its first digit isn't 0
unfoldable pub positive : ℕ → ℕ → List ℕ → Read ℕ
unfolding digit digits_to limited
positive stop most [] = wrong
positive stop most (c ∷ l) =
    elim (ltb 0 (digit c) && ltb (digit c) 10) [ true ↦ limited most (digits_to stop (digit c) l) | false ↦ wrong ]

-- a whole number: `0` alone is zero
unfoldable pub whole : ℕ → ℕ → List ℕ → Read ℕ
unfolding closed positive
whole stop most [] = wrong
whole stop most (c ∷ l) = elim (eqb c 48) [ true ↦ closed stop 0 l | false ↦ positive stop most (c ∷ l) ]

-- k hexadecimal digits, after digits that stand for v, and the byte `stop`
unfoldable pub hexadecimal : ℕ → ℕ → ℕ → List ℕ → Read ℕ
unfolding digit closed
hexadecimal stop zero v l = closed stop v l
hexadecimal stop (suc k) v [] = wrong
hexadecimal stop (suc k) v (c ∷ l) =
    elim (ltb (digit c) 16) [ true ↦ hexadecimal stop k (v * 16 + digit c) l | false ↦ wrong ]

-- the bits of a float: 16 capital hexadecimal digits
unfoldable pub pattern : ℕ → List ℕ → Read ℕ
unfolding hexadecimal
pattern stop l = hexadecimal stop 16 0 l

-- a number with its sign
unfoldable pub minus : Read ℕ → Read ℤ
minus (got v l) = got (neg_ℤ (pos v)) l
minus wrong = wrong

unfoldable pub plus : Read ℕ → Read ℤ
plus (got v l) = got (pos v) l
plus wrong = wrong

-- a bus number, an i64: a minus stands before a number above 0 only
unfoldable pub bus_number : ℕ → List ℕ → Read ℤ
unfolding minus plus positive whole
bus_number stop [] = wrong
bus_number stop (c ∷ l) =
    elim (eqb c 45) [ true ↦ minus (positive stop (2 ^ 63) l) | false ↦ plus (whole stop (2 ^ 63 - 1) (c ∷ l)) ]
