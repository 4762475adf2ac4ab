-- Answers for `numbers::float::bits::of_bits`.
use Rattle.std.proofs.Common.{sym, ◌∙◌, arith}
use Rattle.numbers.proofs.float.Patterns.{nan_above, number_below, nan_pattern}
use Rattle.numbers.proofs.float.bits.of_bits.Goals as goal

pub returns-then-pattern-gt9218868437227405312 : goal.returns-then-pattern-gt9218868437227405312
returns-then-pattern-gt9218868437227405312 c = nan_pattern ∙ sym (nan_above c.args.pattern (omega arith))

pub float_from_bits-result : goal.float_from_bits-result
float_from_bits-result c = number_below c.args.pattern (omega arith)
