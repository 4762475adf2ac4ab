-- What the code's answers, which hold places of a text, say of that text. Definitions only.
use Rattle.std.specs.Prelude.{ℕ, List, drop, Option, Some, None}
use Rattle.text.specs.declared.fields.field.Parsed.{Parsed}
use Rattle.text.specs.Field.{Read, got, wrong}

-- a value and the place after it, as the value and the bytes after it
unfoldable pub field_of : {A : Type 0} → List ℕ → Option (Parsed A) → Read A
field_of t (Some f) = got f.value (drop f.next t)
field_of t None = wrong
