-- What the loop of `channels::grouping::start_from` keeps.
use Prim.Native.Nat.{ℕ, ◌<◌}
use Rattle.channels.proofs.half_edges.Rounds.{vertex_at}
use Rattle.channels.proofs.grouping.start_from.Given as goal

abbrev pub invariant-loop-j : goal.invariant-loop-j
invariant-loop-j l = (i : ℕ) → i < l.j → vertex_at l.keys i < l.channel
