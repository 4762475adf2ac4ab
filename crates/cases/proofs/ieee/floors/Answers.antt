-- Answers for `cases::ieee::floors`.
use Rattle.std.proofs.Common.{T, sym, subst}
use lib.Ieee.{of_bits, neg}
use Rattle.cases.proofs.ieee.floors.Goals as goal

pub floor_to_i64-requires-clause-above_minus_2_52 : goal.floor_to_i64-requires-clause-above_minus_2_52
unfolding of_bits neg
floor_to_i64-requires-clause-above_minus_2_52 c = subst T (sym c.if-x.true) tt

pub floor_to_i64-requires-clause-below_2_52 : goal.floor_to_i64-requires-clause-below_2_52
unfolding of_bits neg
floor_to_i64-requires-clause-below_2_52 c = subst T (sym c.if-x-2.true) tt
