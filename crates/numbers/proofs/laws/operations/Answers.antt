-- Answers for `numbers::laws::operations`.
use Rattle.numbers.proofs.float.OperationLaws.{add_rounded, sub_rounded, mul_rounded, div_rounded, int_rounded}
use Rattle.numbers.proofs.laws.operations.Goals as goal

pub returns-clause-sum : goal.returns-clause-sum
returns-clause-sum c = add_rounded

pub returns-clause-difference : goal.returns-clause-difference
returns-clause-difference c = sub_rounded

pub returns-clause-product : goal.returns-clause-product
returns-clause-product c = mul_rounded

pub returns-clause-quotient : goal.returns-clause-quotient
returns-clause-quotient c = div_rounded

pub returns-clause-conversion : goal.returns-clause-conversion
returns-clause-conversion c = int_rounded
