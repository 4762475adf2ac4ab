-- What the loops of `text::fields::spell::spell` keep: the digits that are left, put before those there, make the number.
use Rattle.std.proofs.Common.{◌≡◌}
use Rattle.text.specs.Spell.{digits, put_at}
use Rattle.text.proofs.fields.spell.spell.Given as goal

abbrev pub invariant-loop-i : goal.invariant-loop-i
invariant-loop-i l = put_at l.out l.at (digits l.base l.i l.rest) ≡ put_at l.initial.out l.at (digits l.base l.count l.number)
