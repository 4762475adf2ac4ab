-- Answers for `fit::fit::moderate`.
use lib.Ieee.{nan_bits}
use borrow.Author.Rules.{rules}
use Rattle.audit.proofs.fit.fit.moderate.Goals as goal

pub float_from_bits-result : goal.float_from_bits-result
unfolding nan_bits
float_from_bits-result c = search rules
