-- Answers for `numbers::hypot::shifted`.
use Rattle.numbers.proofs.hypot.Words.{shift_fits, shift_is}
use Rattle.numbers.proofs.hypot.shifted.Goals as goal

pub overflow_add-result : goal.overflow_add-result
overflow_add-result c = record { fits = shift_fits c.args.wide.hi c.args.wide.lo c.args.shift c.requires.small c.args.wide.low c.requires.within_word }

pub invariant_of-result : goal.invariant_of-result
invariant_of-result c = record { low = (shift_is c.args.wide.hi c.args.wide.lo c.args.shift c.requires.small c.args.wide.low c.requires.within_word).small }

pub returns : goal.returns
returns c = shift_is c.args.wide.hi c.args.wide.lo c.args.shift c.requires.small c.args.wide.low c.requires.within_word
