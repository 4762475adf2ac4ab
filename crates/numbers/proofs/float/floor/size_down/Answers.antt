-- Answers for `numbers::float::floor::size_down`.
use Rattle.numbers.proofs.float.Floors.{trunc_low, size_down_is}
use Rattle.numbers.proofs.float.floor.size_down.Goals as goal

pub truncating_f64_to_u64-requires : goal.truncating_f64_to_u64-requires
truncating_f64_to_u64-requires c =
    let both = trunc_low c.args.value c.requires.above_zero c.requires.below_2_52 in record { lower_bound = both.0; upper_bound = both.1 }

pub returns : goal.returns
returns c =
    let both = size_down_is c.args.value c.truncating_f64_to_u64.result c.requires.above_zero c.requires.below_2_52 c.truncating_f64_to_u64.ensures in
    record { whole_part = both.0; at_most_2_52 = both.1 }
