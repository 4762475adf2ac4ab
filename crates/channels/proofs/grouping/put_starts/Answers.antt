-- Answers for `channels::grouping::put_starts`.
use native.Mathlib.Omega.{arith}
use Rattle.channels.proofs.grouping.Grouping.{start_none, start_put, start_within, first_rises}
use Rattle.channels.proofs.grouping.put_starts.Goals as goal

pub overflow_cast-ends : goal.overflow_cast-ends
overflow_cast-ends c = omega (arith, start_within _ _ c.requires.by_channel c.loop-c.c, c.requires.fits_u32)

pub loop-c-preserved : goal.loop-c-preserved
loop-c-preserved c = (
  start_put _ _ _ _ _ _ (omega (arith, c.requires.ends_room)) c.start_from-first.ensures c.loop-c.invariant.0,
  omega (arith, c.start_from-first.ensures, first_rises c.args.keys.now c.loop-c.c),
)
