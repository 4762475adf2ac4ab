-- Answers for `text::fields::field::pattern`.
use Rattle.std.proofs.Common.{arith, ◌∙◌}
use Rattle.text.specs.Stages.Places.{field_of}
use Rattle.text.proofs.fields.Fields.{hex_grows, hex_room, pattern_short, pattern_other, pattern_more}
use Rattle.text.proofs.fields.field.pattern.Goals as goal

pub returns-in_err-digits : goal.returns-in_err-digits
unfolding field_of
returns-in_err-digits c = rw c.from_residual-in_err-digits.ensures (pattern_short c.args.stop c.args.at c.args.text.now (omega (arith, c.in_ok-get.ensures.lookup.0, c.in_err-digits.ensures.lookup.0)))

pub returns-then-d-gt15 : goal.returns-then-d-gt15
unfolding field_of
returns-then-d-gt15 c =
    let x = c.in_ok-get.ensures.lookup.0 in
    let s = c.in_ok-digits.ensures.lookup.0 in
    c.loop-c.invariant.1 ∙ pattern_other c.args.text.now _ _ c.args.at _ _ _ _ x.2 s.1 s.2 (omega arith) c.digit-d.ensures c.if-d-gt15.true

pub overflow_mul-v : goal.overflow_mul-v
overflow_mul-v c = omega (arith, hex_room _ _ c.loop-c.invariant.0 (omega (arith, c.in_ok-digits.ensures.lookup.0)))

pub overflow_add-v : goal.overflow_add-v
overflow_add-v c = omega (arith, hex_room _ _ c.loop-c.invariant.0 (omega (arith, c.in_ok-digits.ensures.lookup.0)))

pub loop-c-preserved : goal.loop-c-preserved
loop-c-preserved c =
    let x = c.in_ok-get.ensures.lookup.0 in
    let s = c.in_ok-digits.ensures.lookup.0 in (
      hex_grows _ _ _ c.loop-c.invariant.0 c.if-d-gt15.false,
      c.loop-c.invariant.1 ∙ pattern_more c.args.text.now _ _ c.args.at _ _ _ _ x.2 s.1 s.2 (omega arith) c.digit-d.ensures c.if-d-gt15.false,
    )
