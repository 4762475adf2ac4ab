-- What the loops of `routing::tracing::lines::clear_marks` keep.
use Prim.Native.Nat.{◌≤◌}
use Rattle.routing.proofs.tracing.Filling.{Cleared}
use Rattle.routing.proofs.tracing.lines.clear_marks.Given as goal

abbrev pub invariant-loop-h : goal.invariant-loop-h
invariant-loop-h l = (l.h ≤ l.edge_count) × Cleared l.branch_count l.initial.ends l.h l.ends
