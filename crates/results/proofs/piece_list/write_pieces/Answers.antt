-- Answers for `results::piece_list::write_pieces`.
use Rattle.runs.specs.Stages.Lent.{run_lists}
use Rattle.results.proofs.piece_list.Passes.{both_written, whole_four, whole_one}
use Rattle.results.proofs.piece_list.write_pieces.Goals as goal

pub returns-clause-numbers_after : goal.returns-clause-numbers_after
returns-clause-numbers_after c = let w = both_written (run_lists c.args.network.now.lists c.args.laid.now c.args.obstacles.now) c.args.network.now.lists.from.now c.args.network.now.lists.to.now c.args.network.now.lists.service.now c.args.path.now c.requires.runs_fit c.args.network.now.few_branches c.args.numbers.now c.args.branches.now c.requires.has_room c.pass_others-next.ensures c.lead_lines.ensures in whole_four w

pub returns-clause-branches_after : goal.returns-clause-branches_after
returns-clause-branches_after c = let w = both_written (run_lists c.args.network.now.lists c.args.laid.now c.args.obstacles.now) c.args.network.now.lists.from.now c.args.network.now.lists.to.now c.args.network.now.lists.service.now c.args.path.now c.requires.runs_fit c.args.network.now.few_branches c.args.numbers.now c.args.branches.now c.requires.has_room c.pass_others-next.ensures c.lead_lines.ensures in whole_one w
