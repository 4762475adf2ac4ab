-- Answers for `plane::cells::number_key`.
use mathlib.Core.Path.{sym, subst}
use lib.Dec.{T}
use lib.Ieee.{of_bits, neg}
use Rattle.plane.proofs.cells.CellCode.{key_between, key_above, key_under, key_neither, floor_requires, floor_back}
use Rattle.plane.proofs.cells.number_key.Goals as goal

pub floor_to_i64-requires-clause-above_minus_2_52 : goal.floor_to_i64-requires-clause-above_minus_2_52
unfolding of_bits neg
floor_to_i64-requires-clause-above_minus_2_52 c = subst T (sym c.if-number.true) tt

pub floor_to_i64-requires-clause-below_2_52 : goal.floor_to_i64-requires-clause-below_2_52
unfolding of_bits neg
floor_to_i64-requires-clause-below_2_52 c = subst T (sym c.if-number-2.true) tt

pub shifted-requires : goal.shifted-requires
shifted-requires c = floor_requires _ _ (floor_back _ _ c.floor_to_i64.ensures c.if-number.true c.if-number-2.true) c.if-number.true c.if-number-2.true

pub returns-then-number-2 : goal.returns-then-number-2
returns-then-number-2 c = key_between _ c.if-number.true c.if-number-2.true _ _ c.shifted.ensures (floor_back _ _ c.floor_to_i64.ensures c.if-number.true c.if-number-2.true)

pub returns-then-number : goal.returns-then-number
returns-then-number c = key_above _ c.if-number.true c.if-number-2.false

pub returns-then-number-3 : goal.returns-then-number-3
returns-then-number-3 c = key_under _ c.if-number.false c.if-number-3.true

pub returns : goal.returns
returns c = key_neither _ c.if-number.false c.if-number-3.false
