-- Answers for `numbers::float::floor::size_up`.
use Rattle.numbers.proofs.float.Floors.{in_float_lem, size_up_more, size_up_same}
use Rattle.numbers.proofs.float.floor.size_up.Goals as goal

pub returns-then-n-value : goal.returns-then-n-value
returns-then-n-value c =
    let both = size_up_more c.args.value c.size_down-n.result c.requires.above_zero c.requires.below_2_52
    (c.size_down-n.ensures.whole_part, c.size_down-n.ensures.at_most_2_52) c.if-n-value.true in
    record { rounded_up = both.0; at_most_2_52 = both.1 }

pub returns : goal.returns
returns c =
    let both = size_up_same c.args.value c.size_down-n.result c.requires.above_zero c.requires.below_2_52
    (c.size_down-n.ensures.whole_part, c.size_down-n.ensures.at_most_2_52) c.if-n-value.false in
    record { rounded_up = both.0; at_most_2_52 = both.1 }
