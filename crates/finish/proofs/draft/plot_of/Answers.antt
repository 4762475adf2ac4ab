-- Answers for `finish::draft::plot_of`.
use Rattle.std.proofs.lemmas.Result.{err_from_is_err_and}
use Rattle.finish.proofs.Drafts.{judged_full, judged}
use Rattle.finish.proofs.draft.plot_of.Goals as goal

pub returns-in_err-check_pieces : goal.returns-in_err-check_pieces
returns-in_err-check_pieces c =
    let p = err_from_is_err_and c.from_residual.result c.from_residual.ensures.1 in
    rw (p.1, p.2)
    (judged_full _ _ _ _ _ _ _ _ _ _ _ _ _ c.requires.measured c.requires.charted _ c.requires.guided _ _
    c.piece_count-pieces.ensures.counted c.bounds_of-bounds.ensures _ c.in_err-check_pieces.ensures)

pub returns : goal.returns
returns c =
    judged _ _ _ _ _ _ _ _ _ _ _ _ _ c.requires.measured c.requires.charted _ c.requires.guided _ _
    c.piece_count-pieces.ensures.counted c.bounds_of-bounds.ensures c.in_ok-check_pieces.ensures
