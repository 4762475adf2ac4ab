-- What the loop of `channels::spacing::backward_pass` keeps.
use Rattle.channels.proofs.spacing.Passes.{Back}
use Rattle.channels.proofs.spacing.backward_pass.Given as goal

abbrev pub invariant-loop-i : goal.invariant-loop-i
invariant-loop-i l = Back l.channel l.initial.t l.initial.rest l.rest l.i l.t
