-- What the loop of `network::words::station_count` keeps.
use Prim.Native.Nat.{◌≤◌}
use mathlib.Core.Path.{◌≡◌}
use Rattle.network.specs.Words.{past_to}
use Rattle.network.proofs.words.station_count.Given as goal

abbrev pub invariant-loop-s : goal.invariant-loop-s
invariant-loop-s l = (l.count ≡ past_to l.sub l.s-index) × (l.count ≤ 4294967296)
