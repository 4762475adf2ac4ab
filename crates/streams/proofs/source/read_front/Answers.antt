-- Answers for `streams::source::read_front`.
use Rattle.std.proofs.Common.{rules, arith}
use Rattle.streams.proofs.Fronts.{front_grown, front_at_end, front_full}
use Rattle.streams.proofs.source.read_front.Goals as goal

pub returns-then-n-eq0-clause-bytes : goal.returns-then-n-eq0-clause-bytes
returns-then-n-eq0-clause-bytes g c =
    front_at_end _ _ _ _ _ _ _ _ c.if-n-eq0.true (omega (arith, c.in_ok-n.ensures.fits)) (omega (arith, c.loop-at.invariant.0, c.loop-at.invariant.1))
    c.read_at.ensures.front c.loop-at.invariant.2 c.in_ok-n.ensures.bytes (c.in_ok-n.ensures.end c.if-n-eq0.true)

pub loop-at-preserved : goal.loop-at-preserved
loop-at-preserved g c = (
  search rules,
  c.in_ok-n.ensures.fits,
  front_grown _ _ _ _ _ _ _ c.read_at.ensures.front c.loop-at.invariant.2 c.in_ok-n.ensures.bytes,
  λ gives. c.read_at.ensures.gives_on (c.loop-at.invariant.3 gives),
)

pub returns-clause-bytes : goal.returns-clause-bytes
returns-clause-bytes g c =
    front_full _ _ _ _ _ c.loop-at.invariant.1 (omega (arith, c.loop-at.invariant.0, c.loop-at.invariant.1, c.loop-at-test.false)) c.loop-at.invariant.2
