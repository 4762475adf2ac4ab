-- Answers for `channels::laws::ends`.
use Rattle.channels.proofs.channel.Ordered.{ends_ordered}
use Rattle.channels.proofs.laws.ends.Goals as goal

pub returns : goal.returns
returns c = ends_ordered
