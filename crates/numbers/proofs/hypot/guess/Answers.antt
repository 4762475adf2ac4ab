-- Answers for `numbers::hypot::guess`.
use native.Mathlib.Omega.{arith}
use Rattle.numbers.proofs.float.Floors.{in_float_lem, down_requires}
use Rattle.numbers.proofs.hypot.guess.Goals as goal

pub size_down-requires : goal.size_down-requires
size_down-requires c =
    let both = down_requires _ c.if-s.true c.if-s-2.false in record { above_zero = both.0; below_2_52 = both.1 }
