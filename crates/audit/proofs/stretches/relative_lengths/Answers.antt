-- Answers for `audit::stretches::relative_lengths`.
use Rattle.std.proofs.Common.{rules, ◌<◌, length}
use native.Mathlib.Omega.{arith}
use Rattle.audit.proofs.figures.Front.{front_same}
use Rattle.audit.proofs.stretches.Stretches.{ended_short, left_longer, left_next, left_last}
use Rattle.audit.proofs.stretches.relative_lengths.Goals as goal
use Rattle.audit.proofs.stretches.relative_lengths.Goals.{then-f-t, else-f-t}

pub loop-j-preserved : goal.loop-j-preserved
loop-j-preserved c =
    elim c.if-f-t.branch [
      | then-f-t w ↦ rw (w.t-is, w.c-is, w.relative-is) (omega arith, front_same _ _ _ _ _ _ (left_longer _ _ _ _ _ _ _ c.loop-j-test.true c.branch_of-f.ensures w.if-f-t.true w.longer-t.ensures) c.loop-j.invariant.1)
      | else-f-t w ↦ rw (w.t-is, w.c-is, w.relative-is) (omega (arith, w.put_ended-c.ensures.counted, ended_short c.args.roles.now c.loop-j.t), left_next _ _ _ _ _ _ _ _ _ _ _ _ c.loop-j-test.true (omega (arith, c.requires.relative_room)) c.branch_of-f.ensures w.if-f-t.false w.begun-t-else-f-t.ensures w.put_ended-c.ensures.relative_after w.put_ended-c.ensures.counted c.loop-j.invariant.1)
    ]

pub returns : goal.returns
returns c =
    let some : 0 < length c.args.branches.now = search rules in
    let both = left_last _ _ _ _ _ _ _ _ _ _ c.loop-j-test.false (omega (arith, c.requires.relative_room, some)) c.put_ended.ensures.relative_after c.put_ended.ensures.counted c.loop-j.invariant.1 in record { relative_after = both.0; counted = both.1 }
