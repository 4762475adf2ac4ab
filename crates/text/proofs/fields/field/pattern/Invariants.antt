-- What the loops of `text::fields::field::pattern` keep.
use Rattle.std.proofs.Common.{◌≡◌, ◌<◌, ◌-◌, ◌^◌, drop}
use Rattle.text.specs.Field.{pattern, hexadecimal}
use Rattle.text.proofs.fields.field.pattern.Given as goal

abbrev pub invariant-loop-c : goal.invariant-loop-c
invariant-loop-c l = (l.v < 16 ^ l.c-index) × (pattern l.stop (drop l.at l.text) ≡ hexadecimal l.stop (16 - l.c-index) l.v (drop l.c-index (drop l.at l.text)))
