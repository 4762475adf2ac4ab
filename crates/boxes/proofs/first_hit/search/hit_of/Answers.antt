-- Answers for `boxes::first_hit::search::hit_of`.
use Rattle.std.proofs.Common.{arith}
use Rattle.numbers.proofs.order.Choices.{some_if}
use Rattle.boxes.specs.Stages.Looks.{hit_of}
use Rattle.boxes.proofs.first_hit.search.hit_of.Goals as goal

pub returns : goal.returns
unfolding hit_of
returns c = grind (arith, some_if)
