-- The lines of offsets, written one after the other, are those of their list. Assumes nothing.
use mathlib.Core.Path.{◌≡◌, refl, sym, ap, subst, ◌∙◌}
use mathlib.Core.List.{List, [], ◌∷◌, ◌++◌, append_assoc, append-nil}
use Prim.Native.Nat.{ℕ, ◌+◌}
use native.Mathlib.Numerals.{add-one}
use mir.ValLaws.{to_z-of_z}
use lib.IntN.{ℤ}
use Rattle.numbers.specs.Table.{table_from, table}
use Rattle.numbers.proofs.order.Tables.{table_suc}
use Rattle.text.specs.Spell.{signed_field}
use Rattle.text.proofs.fields.Spelling.{put_over}
use Rattle.text.proofs.listing.Writing.{Wrote, wrote_two, put_none, write_laws}
use Rattle.offsets.specs.declared.offset.Offset.{Offset}
use Rattle.offsets.specs.Stages.OffsetList.{offset_at, offsets_in}
use Rattle.offsets.proofs.Grids.{side_square}
use Rattle.offset_lines.specs.Stages.Text.{offset_names, offset_line, offset_lines, offset_text}

pub line_parts : (o : Offset) → offset_line o ≡ signed_field 32 o.a ++ signed_field 10 o.b
unfolding offset_line
line_parts o = refl

-- a line, from its two numbers
pub wrote_offset : (l l' l'' : List ℕ) (at r r' : ℕ) (o : Offset) (x y : ℤ) → x ≡ o.a → y ≡ o.b → Wrote l at (signed_field 32 x) l' r → Wrote l' r (signed_field 10 y) l'' r'
    → Wrote l at (offset_line o) l'' r'
unfolding offset_line
wrote_offset l l' l'' at r r' o x y e f h k = subst (λ (s : List ℕ). Wrote l at s l'' r') (cc (e, f)) (wrote_two l l' l'' (signed_field 32 x) (signed_field 10 y) at r r' h k)

pub text_parts : (l : List Offset) → offset_text l ≡ offset_names ++ offset_lines l
unfolding offset_text
text_parts l = refl

lines_append : (a b : List Offset) → offset_lines (a ++ b) ≡ offset_lines a ++ offset_lines b
unfolding offset_lines
lines_append [] b = refl
lines_append (o ∷ a) b = ap (λ (l : List ℕ). offset_line o ++ l) (lines_append a b) ∙ sym (append_assoc (offset_line o) (offset_lines a) (offset_lines b))

pub lines_none : (keys sorted : List ℕ) → offset_lines (offsets_in 0 keys sorted) ≡ []
unfolding offset_lines offsets_in table_from
lines_none keys sorted = refl

pub lines_more : (keys sorted : List ℕ) (i : ℕ)
    → offset_lines (offsets_in (i + 1) keys sorted) ≡ offset_lines (offsets_in i keys sorted) ++ offset_line (offset_at keys sorted i)
unfolding offset_lines offsets_in
lines_more keys sorted i =
    let o = offset_at keys sorted i in
    ap (λ (n : ℕ). offset_lines (table (offset_at keys sorted) n)) (add-one i)
    ∙ ap offset_lines (table_suc (offset_at keys sorted) i)
    ∙ lines_append (table (offset_at keys sorted) i) (o ∷ [])
    ∙ ap (λ (l : List ℕ). offset_lines (table (offset_at keys sorted) i) ++ l) (append-nil (offset_line o))

pub ruleset line_laws = (write_laws, line_parts, to_z-of_z)

pub ruleset lines_laws = (write_laws, put_none, lines_none, lines_more)

pub ruleset text_laws = (write_laws, put_over, text_parts, side_square)
