-- Answers for `numbers::hypot::packed`.
use Rattle.numbers.proofs.hypot.Packing.{packed_held}
use Rattle.numbers.proofs.hypot.packed.Goals as goal

pub returns : goal.returns
returns c =
    packed_held c.args.root c.args.rest c.args.exponent c.up.result c.requires.digits c.requires.normal c.up.ensures _ c.min.ensures
