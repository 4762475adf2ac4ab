-- Answers for `audit::quality::tx_layout_quality`.
use Rattle.std.proofs.lemmas.Result.{err_from_is_err_and}
use Rattle.audit.proofs.findings.Early.{passed_of}
use Rattle.audit.proofs.Whole.{call_refused, call_judged}
use Rattle.audit.proofs.quality.tx_layout_quality.Goals as goal

pub returns-in_err-check_input-clause-is : goal.returns-in_err-check_input-clause-is
returns-in_err-check_input-clause-is c = let p = err_from_is_err_and c.from_residual.result c.from_residual.ensures.1 in rw (p.1, p.2) (call_refused _ _ _ _ c.in_err-check_input.ensures)

pub invariant_of-drawing : goal.invariant_of-drawing
invariant_of-drawing c = record { few_buses = (passed_of _ _ c.in_ok-check_input.ensures).few }

pub audited-a-requires-clause-few_stations : goal.audited-a-requires-clause-few_stations
audited-a-requires-clause-few_stations c = (passed_of _ _ c.in_ok-check_input.ensures).below

pub audited-a-requires-clause-count_room : goal.audited-a-requires-clause-count_room
audited-a-requires-clause-count_room c = (passed_of _ _ c.in_ok-check_input.ensures).stations

pub audited-a-requires-clause-figure_room : goal.audited-a-requires-clause-figure_room
audited-a-requires-clause-figure_room c =
    let z = passed_of _ _ c.in_ok-check_input.ensures in (z.displacement, z.spacing, z.relative)

pub audited-a-requires-clause-point_room : goal.audited-a-requires-clause-point_room
audited-a-requires-clause-point_room c = (passed_of _ _ c.in_ok-check_input.ensures).points

pub audited-a-requires-clause-path_room : goal.audited-a-requires-clause-path_room
audited-a-requires-clause-path_room c = (passed_of _ _ c.in_ok-check_input.ensures).path

pub audited-a-requires-clause-sort_room : goal.audited-a-requires-clause-sort_room
audited-a-requires-clause-sort_room c =
    let z = passed_of _ _ c.in_ok-check_input.ensures in (z.index, z.spare, z.keys)

pub returns-clause-is : goal.returns-clause-is
returns-clause-is c =
    let l = c.audited-a.ensures.long in
    call_judged _ _ _ _ _ _ _ c.in_ok-check_input.ensures c.audited-a.ensures.is c.zero_work.ensures.is l.0 l.1 l.2 l.3
    l.4 l.5
