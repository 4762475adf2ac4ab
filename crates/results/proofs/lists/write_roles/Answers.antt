-- Answers for `results::lists::write_roles`.
use mathlib.Core.Path.{◌≡◌, ap, ◌∙◌}
use mathlib.Core.List.{map}
use native.Mathlib.Omega.{arith}
use lib.ListN.{length}
use Rattle.numbers.specs.Table.{table}
use Rattle.network.specs.Words.{kind_of, kinds}
use Rattle.runs.specs.Run.{role}
use Rattle.results.proofs.Writes.{written_none, written_one, map_none, map_more, all_written}
use Rattle.results.proofs.lists.write_roles.Goals as goal

pub loop-e-init : goal.loop-e-init
loop-e-init c = written_none _ _ (map_none _ _)

pub loop-e-preserved : goal.loop-e-preserved
loop-e-preserved c = written_one _ _ _ _ _ _ (omega arith) (map_more _ _ _ _ (c.role_of.ensures ∙ ap role c.kind_of.ensures.is_kind)) c.loop-e.invariant

pub returns : goal.returns
unfolding kinds
returns c = let e : c.loop-e.e ≡ length c.args.network.now.from.now = omega arith in all_written _ _ _ _ _ (ap (λ n. map role (table (kind_of c.args.network.now.sub.now c.args.network.now.from.now c.args.network.now.to.now c.args.network.now.service.now) n)) e) c.loop-e.invariant
