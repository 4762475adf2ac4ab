-- What the loops of `audit::stretches::relative_lengths` keep.
use Prim.Native.Nat.{◌<◌}
use Rattle.audit.specs.Relative.{relatives}
use Rattle.audit.proofs.figures.Front.{Front}
use Rattle.audit.proofs.stretches.Stretches.{left}
use Rattle.audit.proofs.stretches.relative_lengths.Given as goal

abbrev pub invariant-loop-j : goal.invariant-loop-j
invariant-loop-j l = (l.c < l.j) × Front (relatives l.roles l.pieces l.branches) (left l.roles l.pieces l.branches l.t l.j) l.initial.relative l.relative l.c
