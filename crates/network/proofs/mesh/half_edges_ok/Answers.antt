-- Answers for `network::mesh::half_edges_ok`.
use Rattle.std.proofs.Common.{rules, refl}
use Rattle.numbers.proofs.order.AllTo.{all_to_ran}
use Rattle.network.specs.Mesh.{half_edges_ok, half_edge_ok}
use Rattle.network.proofs.mesh.half_edges_ok.Goals as goal

pub returns : goal.returns
unfolding half_edges_ok
returns c = all_to_ran (half_edge_ok c.args.mesh.now.corners.now c.args.mesh.now.twins.now c.args.occupied) c.all.ensures.ran refl (λ x b q k. search rules)
