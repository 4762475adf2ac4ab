-- What the loops of `results::piece_list::lines::lead_requests` keep.
use Rattle.runs.specs.Stages.Lent.{lead_of}
use Rattle.results.proofs.piece_list.Leading.{Along}
use Rattle.results.proofs.piece_list.lines.lead_requests.Given as goal

abbrev pub invariant-loop-i : goal.invariant-loop-i
invariant-loop-i l =
    Along (lead_of l.obstacles) l.obstacles.index.placed.frames.now l.ends l.list l.write l.initial.next l.initial.path l.initial.numbers l.initial.branches l.i l.next l.path l.numbers l.branches
