-- Answers for `numbers::hypot::rounded`.
use Rattle.numbers.proofs.hypot.Packing.{nearest_halved}
use Rattle.numbers.proofs.hypot.rounded.Goals as goal

pub returns-then-root-ge18014398509481984 : goal.returns-then-root-ge18014398509481984
returns-then-root-ge18014398509481984 c =
    nearest_halved c.packed.result c.args.root c.args.rest c.args.exponent c.packed.ensures
