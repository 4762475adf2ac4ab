-- What the loops of `numbers::hypot::digits` keep.
use Rattle.numbers.proofs.hypot.Digit.{Inv}
use Rattle.numbers.proofs.hypot.digits.Given as goal

abbrev pub invariant-loop-i : goal.invariant-loop-i
invariant-loop-i l = Inv l.word l.count l.initial.root l.initial.rest l.root l.rest l.i
