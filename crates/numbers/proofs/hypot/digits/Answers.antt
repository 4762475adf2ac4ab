-- Answers for `numbers::hypot::digits`.
use Prim.Native.Nat.{◌^◌, ◌<◌, ◌≤◌}
use native.Mathlib.Nat.{lt_of_le_of_lt}
use native.Mathlib.Omega.{arith}
use Rattle.numbers.proofs.hypot.Digit.{at_start, in_range, turn, again}
use Rattle.numbers.proofs.hypot.digits.Goals as goal

pub loop-i-init : goal.loop-i-init
loop-i-init c = at_start _ _ _ _ c.requires.root_before c.requires.room c.requires.digits_of_word

pub overflow_add-r : goal.overflow_add-r
overflow_add-r c = let g : c.loop-i.root < 2 ^ 56 = in_range _ _ _ _ _ _ _ c.loop-i.invariant in omega arith

pub overflow_add-b : goal.overflow_add-b
overflow_add-b c = let g : c.loop-i.root < 2 ^ 56 = in_range _ _ _ _ _ _ _ c.loop-i.invariant in omega arith

pub overflow_mul-rest : goal.overflow_mul-rest
overflow_mul-rest c = record { fits = lt_of_le_of_lt (turn _ _ _ _ _ _ _ c.loop-i.invariant c.loop-i-test.true).fits (overflow_add-r c).fits }

pub overflow_sub-rest : goal.overflow_sub-rest
overflow_sub-rest c = (turn _ _ _ _ _ _ _ c.loop-i.invariant c.loop-i-test.true).fits

pub overflow_add-root : goal.overflow_add-root
overflow_add-root c =
    let g : c.loop-i.root < 2 ^ 56 = in_range _ _ _ _ _ _ _ c.loop-i.invariant in
    omega (arith, (turn _ _ _ _ _ _ _ c.loop-i.invariant c.loop-i-test.true).one)

pub loop-i-preserved : goal.loop-i-preserved
loop-i-preserved c = again _ _ _ _ _ _ _ c.loop-i.invariant c.loop-i-test.true
