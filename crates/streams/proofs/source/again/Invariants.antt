-- The room keeps its length, a failed read consumes nothing, and the error is one that a read may fail with.
use Rattle.std.proofs.Common.{◌≡◌, length}
use Rattle.std.specs.Io.KnownBytes.{Keeps}
use Rattle.std.specs.IoError.{error_kind}
use Rattle.streams.proofs.source.again.Given as goal

abbrev pub invariant-loop : goal.invariant-loop
invariant-loop g l = (length l.room ≡ length l.initial.room) × Keeps (g.S.Source.left l.initial.source) (g.S.Source.left l.source)
    × g.S.Source.fails (error_kind l.error)
