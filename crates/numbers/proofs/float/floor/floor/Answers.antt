-- Answers for `numbers::float::floor::floor`.
use Rattle.std.proofs.Common.{T, sym, subst}
use Rattle.numbers.proofs.float.Floors.{floor_high, floor_low, down_requires, up_requires, in_float_lem, floor_down, floor_up, floor_zero}
use Rattle.numbers.proofs.float.floor.floor.Goals as goal

pub returns-then-value : goal.returns-then-value
returns-then-value c = floor_high c.args.value ((subst T (sym c.well_formed.0.1) tt)) c.if-value.true

pub returns-then-value-2 : goal.returns-then-value-2
returns-then-value-2 c = floor_low c.args.value ((subst T (sym c.well_formed.0.1) tt)) c.if-value-2.true

pub size_down-requires : goal.size_down-requires
size_down-requires c =
    let both = down_requires c.args.value c.if-value-3.true c.if-value.false in record { above_zero = both.0; below_2_52 = both.1 }

pub returns-then-value-3 : goal.returns-then-value-3
returns-then-value-3 c =
    floor_down c.args.value c.size_down.result (down_requires c.args.value c.if-value-3.true c.if-value.false) c.size_down.ensures.whole_part

pub size_up-requires : goal.size_up-requires
size_up-requires c =
    let both = up_requires c.args.value c.if-value-4.true c.if-value-2.false in record { above_zero = both.0; below_2_52 = both.1 }

pub returns-then-value-4 : goal.returns-then-value-4
returns-then-value-4 c =
    floor_up c.args.value c.size_up.result (up_requires c.args.value c.if-value-4.true c.if-value-2.false) c.size_up.ensures.rounded_up

pub returns : goal.returns
returns c = floor_zero c.args.value ((subst T (sym c.well_formed.0.1) tt)) c.if-value-3.false c.if-value-4.false
