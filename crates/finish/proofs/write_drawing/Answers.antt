-- Answers for `finish::write_drawing`.
use Rattle.std.proofs.lemmas.Result.{err_from_is_err_and}
use Rattle.finish.proofs.Drafts.{refused_before}
use Rattle.finish.proofs.write_drawing.Goals as goal

pub returns-in_err-unit-clause-drew : goal.returns-in_err-unit-clause-drew
returns-in_err-unit-clause-drew c =
    let p = err_from_is_err_and c.from_residual.result c.from_residual.ensures.1 in
    rw (p.1, p.2) (refused_before _ _ _ _ _ _ _ _ _ _ _ _ _ _ (rw c.in_err-unit.was at c.requires.charted))
