-- Answers for `numbers::hypot::extended`.
use native.Mathlib.Omega.{arith}
use Rattle.numbers.proofs.hypot.Extend.{known, at_once, one_less, has_room}
use Rattle.numbers.proofs.hypot.extended.Goals as goal

pub overflow_mul-q : goal.overflow_mul-q
overflow_mul-q c = let h = (known c.args.was.root c.args.was.rest c.args.first c.args.second c.args.base c.requires) in omega (arith, h.square, h.base, h.shifted)

pub returns-then-q-t : goal.returns-then-q-t
returns-then-q-t c = at_once c.args.was.root c.args.was.rest c.args.first c.args.second c.args.base _ _ ((known c.args.was.root c.args.was.rest c.args.first c.args.second c.args.base c.requires)) c.if-q-t.true

pub overflow_mul-result-3 : goal.overflow_mul-result-3
overflow_mul-result-3 c = let h = (known c.args.was.root c.args.was.rest c.args.first c.args.second c.args.base c.requires) in omega (arith, h.square, h.base, h.shifted)

pub overflow_sub-result-4 : goal.overflow_sub-result-4
overflow_sub-result-4 c = let g = (has_room c.args.was.root c.args.was.rest c.args.first c.args.second c.args.base _ _ ((known c.args.was.root c.args.was.rest c.args.first c.args.second c.args.base c.requires)) c.if-q-t.false) in omega arith

pub returns : goal.returns
returns c = one_less c.args.was.root c.args.was.rest c.args.first c.args.second c.args.base _ _ ((known c.args.was.root c.args.was.rest c.args.first c.args.second c.args.base c.requires)) c.if-q-t.false
