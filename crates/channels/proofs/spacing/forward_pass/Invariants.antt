-- What the loop of `channels::spacing::forward_pass` keeps.
use Rattle.channels.proofs.spacing.Passes.{Forth}
use Rattle.channels.proofs.spacing.forward_pass.Given as goal

abbrev pub invariant-loop-x : goal.invariant-loop-x
invariant-loop-x l = Forth l.channel l.initial.t l.initial.x-items l.x-items l.x-index l.t
