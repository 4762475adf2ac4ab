-- Answers for `channels::grouping::group_all`.
use mathlib.Core.Path.{refl}
use native.Mathlib.Omega.{arith}
use Rattle.channels.proofs.half_edges.Rounds.{round_made}
use Rattle.channels.proofs.grouping.Grouping.{grouped}
use Rattle.channels.proofs.grouping.group_all.Goals as goal

pub put_starts-requires-clause-by_channel : goal.put_starts-requires-clause-by_channel
put_starts-requires-clause-by_channel c = round_made _ _ _ _ _ refl c.number.ensures (omega (arith, c.requires.sorted_length, c.channel_keys.auto.keys)) c.sort_by_key.ensures.order_after

pub returns : goal.returns
returns c = grouped _ _ _ _ _ _ _ _ _ c.channel_keys.ensures (round_made _ _ _ _ _ refl c.number.ensures (omega (arith, c.requires.sorted_length, c.channel_keys.auto.keys)) c.sort_by_key.ensures.order_after) c.copy_order.ensures c.put_starts.ensures
