-- Answers for `channels::half_edges::round_all`.
use Rattle.channels.proofs.half_edges.Rounds.{round_made}
use mathlib.Core.Path.{ap, ◌∙◌}
use lib.ListN.{replicate}
use Prim.Native.Nat.{ℕ}
use Rattle.channels.proofs.half_edges.round_all.Goals as goal

pub returns-clause-around_after : goal.returns-clause-around_after
returns-clause-around_after c = round_made _ _ _ _ _ c.widen.ensures c.number.ensures c.requires.around_length c.sort_by_key.ensures.order_after
