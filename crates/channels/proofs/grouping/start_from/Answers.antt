-- Answers for `channels::grouping::start_from`.
use native.Mathlib.Omega.{arith}
use Rattle.channels.proofs.half_edges.Rounds.{before_first}
use Rattle.channels.proofs.grouping.Grouping.{found_here, found_none}
use Rattle.channels.proofs.grouping.start_from.Goals as goal

pub loop-j-init : goal.loop-j-init
loop-j-init c i h = before_first c.args.keys.now c.args.channel i (omega (arith, c.requires.not_past))

pub returns-then-channel-key_at : goal.returns-then-channel-key_at
returns-then-channel-key_at c =
    found_here _ _ c.requires.by_channel _ _ _ c.key_at.ensures (omega (arith, c.loop-j.auto)) (omega (arith, c.if-channel-key_at.true)) c.loop-j.invariant

pub returns : goal.returns
returns c = found_none _ _ c.requires.by_channel _ _ (omega (arith, c.loop-j.auto)) c.loop-j.invariant
