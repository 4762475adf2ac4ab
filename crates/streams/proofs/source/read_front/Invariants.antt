-- What fills the front was consumed, and a source whose reads don't fail stays one.
use Rattle.std.proofs.Common.{◌≡◌, ◌-◌, ◌≤◌, length, take}
use Rattle.std.specs.Io.KnownBytes.{Consumes}
use Rattle.streams.proofs.source.read_front.Given as goal

abbrev pub invariant-loop-at : goal.invariant-loop-at
invariant-loop-at g l =
    (length l.room ≡ length l.initial.room) × (l.at ≤ length l.room)
    × Consumes (g.S.Source.left l.initial.source) (g.S.Source.left l.source) (take l.at l.room)
    × (g.S.Source.gives l.initial.source → g.S.Source.gives l.source)

abbrev pub decreases-loop-at : goal.decreases-loop-at
decreases-loop-at g l = length l.room - l.at
