-- The fields of drawlist's output and of the table of offsets (docs/RULES.md, 'Text of drawlist' and 'Text of the
-- table'). Definitions only.
use Rattle.std.specs.Prelude.{ℕ, zero, suc, ◌+◌, ◌/◌, ◌%◌, true, false, cond, List, [], ◌∷◌, ◌++◌, ltb, ℤ, pos, negsuc}
use Rattle.std.specs.Prelude.{Float}
use Rattle.std.proofs.lemmas.List.Edits.{sets}
use Rattle.std.specs.Float.Ieee.{eq, of_bits, to_bits}
use Rattle.std.specs.Float.{binary64}

-- the byte of a digit: `0` to `9`, then the capitals `A` to `F`
unfoldable pub glyph : ℕ → ℕ
glyph d = cond (ltb d 10) (48 + d) (55 + d)

-- the last k digits of n in a base, the most significant first
unfoldable pub digits : ℕ → ℕ → ℕ → List ℕ
unfolding glyph
digits base zero n = []
digits base (suc k) n = digits base k (n / base) ++ (glyph (n % base) ∷ [])

-- how many decimal digits n has, for an n of at most f
unfoldable pub places_in : ℕ → ℕ → ℕ
places_in zero n = 1
places_in (suc f) n = elim (ltb n 10) [ true ↦ 1 | false ↦ suc (places_in f (n / 10)) ]

-- a whole number, in decimal, and the byte that closes it
unfoldable pub number_field : ℕ → ℕ → List ℕ
unfolding digits places_in
number_field stop n = digits 10 (places_in n n) n ++ (stop ∷ [])

-- a signed number, with a minus where it is negative, and the byte that closes it
unfoldable pub signed_field : ℕ → ℤ → List ℕ
unfolding number_field
signed_field stop (pos n) = number_field stop n
signed_field stop (negsuc n) = 45 ∷ number_field stop (suc n)

-- the bits of a float, those of +0 for every zero
unfoldable pub shown : Float → ℕ
unfolding eq of_bits to_bits
shown x = cond (eq x (of_bits binary64 0)) 0 (to_bits binary64 x)

-- a float, as 16 capital hexadecimal digits of its bits, and the byte that closes it
unfoldable pub float_field : ℕ → Float → List ℕ
unfolding digits shown
float_field stop x = digits 16 16 (shown x) ++ (stop ∷ [])

-- a list with the bytes s from place i on
unfoldable pub put_at : List ℕ → ℕ → List ℕ → List ℕ
put_at l i s = sets l i s
