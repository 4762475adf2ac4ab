-- Answers for `wall::check::draw_and_audit`.
use Rattle.std.proofs.Common.{rules}
use Rattle.std.proofs.lemmas.Result.{err_from_is_err_and}
use Rattle.lent.specs.Held.{held_network, held_lists, held_work, held_crossings}
use Rattle.wall.proofs.Claiming.{claim_refused, claim_drawn, pieces_room}
use Rattle.wall.proofs.check.draw_and_audit.Goals as goal

pub audit_drawing-audit-requires-clause-pieces_room : goal.audit_drawing-audit-requires-clause-pieces_room
audit_drawing-audit-requires-clause-pieces_room c = (pieces_room _ _ _ _ _ _ _ _ _ c.in_ok-plot.ensures.is).0

pub audit_drawing-audit-requires-clause-branches_room : goal.audit_drawing-audit-requires-clause-branches_room
audit_drawing-audit-requires-clause-branches_room c = (pieces_room _ _ _ _ _ _ _ _ _ c.in_ok-plot.ensures.is).1

pub returns-in_err-plot-clause-is : goal.returns-in_err-plot-clause-is
returns-in_err-plot-clause-is c =
    let p = err_from_is_err_and c.from_residual.result c.from_residual.ensures.1 in
    rw (p.1, p.2)
    (claim_refused c.args.options (held_network c.args.network.now) (held_lists c.args.lists.now) (held_work c.args.work.now) (held_crossings c.args.crossings.now) c.patterned.ensures c.in_err-plot.field-0.0 _ _ _ _ _ _ c.in_err-plot.ensures.is (search rules) (search rules) (search rules))

pub returns-clause-is : goal.returns-clause-is
returns-clause-is c =
    claim_drawn c.args.options (held_network c.args.network.now) (held_lists c.args.lists.now) (held_work c.args.work.now) (held_crossings c.args.crossings.now) c.patterned.ensures c.in_ok-plot.plot _ _ _ _ _ _ _ _ _ c.in_ok-plot.ensures.is c.audit_drawing-audit.ensures (search rules) (search rules) (search rules)
