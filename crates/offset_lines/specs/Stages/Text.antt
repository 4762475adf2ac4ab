-- The text of a list of offsets, spaced as in `drawlist` (docs/RULES.md, 'Text of the table'). Definitions only.
use Rattle.std.specs.Prelude.{ℕ, List, [], ◌∷◌, ◌++◌}
use Rattle.offsets.specs.declared.offset.Offset.{Offset}
use Rattle.text.specs.Spell.{signed_field}

-- the header line, `a b`
unfoldable pub offset_names : List ℕ
offset_names = 97 ∷ 32 ∷ 98 ∷ 10 ∷ []

-- the line of an offset: a and b, one space between, a minus where negative
unfoldable pub offset_line : Offset → List ℕ
unfolding signed_field
offset_line o = signed_field 32 o.a ++ signed_field 10 o.b

-- one pair a line, in order
unfoldable pub offset_lines : List Offset → List ℕ
unfolding offset_line
offset_lines [] = []
offset_lines (o ∷ l) = offset_line o ++ offset_lines l

-- the header line, then the pairs
unfoldable pub offset_text : List Offset → List ℕ
unfolding offset_names offset_lines
offset_text l = offset_names ++ offset_lines l
