-- What the loops of `results::lists::write_roles` keep.
use mathlib.Core.List.{map}
use Rattle.numbers.specs.Table.{table}
use Rattle.network.specs.Words.{kind_of}
use Rattle.runs.specs.Run.{role}
use Rattle.results.proofs.Writes.{Written}
use Rattle.results.proofs.lists.write_roles.Given as goal

abbrev pub invariant-loop-e : goal.invariant-loop-e
invariant-loop-e l = Written (map role (table (kind_of l.network.sub.now l.network.from.now l.network.to.now l.network.service.now) l.e)) l.e l.initial.roles l.roles
