-- What the loop of `channels::grouping::put_starts` keeps.
use Prim.Native.Nat.{◌≤◌}
use Rattle.channels.specs.Round.{first_at}
use Rattle.channels.specs.Stages.Grouped.{Started}
use Rattle.channels.proofs.grouping.put_starts.Given as goal

abbrev pub invariant-loop-c : goal.invariant-loop-c
invariant-loop-c l = Started l.branches l.c l.keys l.initial.ends l.ends × (l.first ≤ first_at l.keys l.c)
