-- What the loops of `text::fields::field::digits_to` keep.
use mathlib.Core.Path.{◌≡◌}
use Prim.Native.Nat.{◌≤◌, ◌-◌}
use lib.ListN.{drop}
use Rattle.text.specs.Field.{digits_to}
use Rattle.text.proofs.fields.field.digits_to.Given as goal

abbrev pub invariant-loop-i : goal.invariant-loop-i
invariant-loop-i l = (l.v ≤ l.most) × (digits_to l.stop l.first (drop l.at l.text) ≡ digits_to l.stop l.v (drop l.i l.text))
