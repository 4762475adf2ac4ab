-- Answers for `numbers::float::floor::floor_to_i64`.
use Rattle.std.proofs.Common.{T, sym, subst}
use Rattle.numbers.proofs.float.Floors.{positive_at, negative_at, down_int, up_fits, up_int, int_zero}
use Rattle.numbers.proofs.float.floor.floor_to_i64.Goals as goal

pub returns-then-value : goal.returns-then-value
returns-then-value c = down_int c.args.value c.size_down.result (positive_at c.args.value c.if-value.true) c.requires.below_2_52 (c.size_down.ensures.whole_part, c.size_down.ensures.at_most_2_52)

pub size_up-requires : goal.size_up-requires
size_up-requires c =
    let both = negative_at c.args.value c.if-value-2.true c.requires.above_minus_2_52 in record { above_zero = both.0; below_2_52 = both.1 }

pub returns-then-value-2 : goal.returns-then-value-2
returns-then-value-2 c = up_int c.args.value c.size_up.result (negative_at c.args.value c.if-value-2.true c.requires.above_minus_2_52) (c.size_up.ensures.rounded_up, c.size_up.ensures.at_most_2_52)

pub returns : goal.returns
returns c = int_zero c.args.value (subst T (sym c.well_formed.0.1) tt) c.if-value.false c.if-value-2.false
