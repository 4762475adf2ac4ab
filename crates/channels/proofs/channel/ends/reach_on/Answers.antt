-- Answers for `channels::channel::ends::reach_on`.
use lib.Ieee.{of_bits}
use Rattle.channels.specs.Channel.{reach_on}
use Rattle.channels.proofs.channel.ends.reach_on.Goals as goal

pub returns-else-a : goal.returns-else-a
unfolding reach_on of_bits
returns-else-a c = simp (← c.abs-a.ensures, c.if-a.false)
