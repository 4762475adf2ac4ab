-- The text that drawlist writes (docs/RULES.md, 'Text of drawlist'). Definitions only.
use Rattle.std.specs.Prelude.{ℕ, ◌+◌, ◌*◌, List, [], ◌∷◌, ◌++◌, get_or, Float}
use Rattle.std.specs.Float.{nan}
use Rattle.numbers.specs.Table.{joined}
use Rattle.text.specs.Spell.{float_field, number_field}

-- the header line, `branch role x0 y0 x1 y1`
unfoldable pub piece_names : List ℕ
piece_names =
    98 ∷ 114 ∷ 97 ∷ 110 ∷ 99 ∷ 104 ∷ 32 ∷ 114 ∷ 111 ∷ 108 ∷ 101 ∷ 32 ∷ 120 ∷ 48 ∷ 32 ∷ 121 ∷ 48 ∷ 32 ∷ 120 ∷ 49 ∷ 32
    ∷ 121 ∷ 49 ∷ 10 ∷ []

-- a point, x at place j of a list and y after it, and the byte that closes it
unfoldable pub point_fields : ℕ → List Float → ℕ → List ℕ
unfolding float_field
point_fields stop pieces j = float_field 32 (get_or pieces j nan) ++ float_field stop (get_or pieces (j + 1) nan)

-- the line of piece i: branch number, role, start, end
unfoldable pub piece_line : List ℕ → List Float → List ℕ → ℕ → List ℕ
unfolding number_field point_fields
piece_line roles pieces branches i =
    number_field 32 (get_or branches i 0)
    ++ (number_field 32 (get_or roles (get_or branches i 0) 0)
    ++ (point_fields 32 pieces (4 * i)
    ++ point_fields 10 pieces (4 * i + 2)))

-- a drawing: the header line, then one line a piece
unfoldable pub listing : List ℕ → List Float → List ℕ → ℕ → List ℕ
unfolding piece_names piece_line joined
listing roles pieces branches count = piece_names ++ joined (piece_line roles pieces branches) count

-- a refusal: `refused` and its number
unfoldable pub refusal : ℕ → List ℕ
unfolding number_field
refusal n = (114 ∷ 101 ∷ 102 ∷ 117 ∷ 115 ∷ 101 ∷ 100 ∷ 32 ∷ []) ++ number_field 10 n
