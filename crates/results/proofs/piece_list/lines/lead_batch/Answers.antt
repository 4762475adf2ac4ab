-- Answers for `results::piece_list::lines::lead_batch`.
use Rattle.runs.specs.Stages.Lent.{run_lists}
use Rattle.results.proofs.piece_list.Adding.{passed_of}
use Rattle.results.proofs.piece_list.Passes.{batch_asks, batch_pieces, batch_room}
use Rattle.results.proofs.piece_list.lines.lead_batch.Goals as goal

pub lead_list-requires : goal.lead_list-requires
lead_list-requires c =
    let H = (run_lists c.args.network.now.lists c.args.laid.now c.args.obstacles.now) in
    record {
      runs_fit = batch_asks H c.args.network.now.lists.from.now c.args.network.now.lists.to.now c.args.network.now.lists.service.now c.args.start c.requests_from-list.result c.requests_from-list.ensures.filled c.requests_from-list.ensures.sixteen c.args.path.now c.requires.runs_fit c.args.network.now.few_branches;
      room_for = batch_room H c.args.network.now.lists.from.now c.args.network.now.lists.to.now c.args.network.now.lists.service.now c.args.start c.requests_from-list.result c.requests_from-list.ensures.filled c.requests_from-list.ensures.sixteen _ _ c.args.numbers.now c.args.branches.now c.requires.room_for;
    }

pub returns : goal.returns
returns c = let H = (run_lists c.args.network.now.lists c.args.laid.now c.args.obstacles.now) in passed_of c.lead_list.ensures (batch_pieces H c.args.network.now.lists.from.now c.args.network.now.lists.to.now c.args.network.now.lists.service.now c.args.start c.requests_from-list.result c.requests_from-list.ensures.filled c.requests_from-list.ensures.sixteen)
