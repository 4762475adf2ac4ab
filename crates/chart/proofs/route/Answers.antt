-- Answers for `chart::route`.
use mathlib.Core.Path.{refl}
use native.Mathlib.Omega.{arith}
use Rattle.std.proofs.lemmas.Result.{err_from_is_err_and}
use Rattle.chart.proofs.Laying.{below_of}
use Rattle.chart.proofs.Charts.{charted, charted_ill}
use Rattle.chart.proofs.route.Goals as goal

pub returns-then-ill_sized-clause-charted : goal.returns-then-ill_sized-clause-charted
returns-then-ill_sized-clause-charted c =
    charted_ill _ _ _ _ _ _ _ _ _ _ (below_of _ _ c.requires.counted) c.requires.laid _ _ _ _ c.ill_sized.ensures
    c.if-ill_sized.true

pub returns-in_err-route_lines-clause-kept : goal.returns-in_err-route_lines-clause-kept
returns-in_err-route_lines-clause-kept c =
    let r = c.in_err-route_lines.ensures in (r.counts, r.from_rows, r.to_rows, refl, refl)

pub returns-clause-kept : goal.returns-clause-kept
returns-clause-kept c = let r = c.in_ok-route_lines.ensures in (r.counts, r.from_rows, r.to_rows, refl, refl)

pub returns-in_err-route_lines-clause-charted : goal.returns-in_err-route_lines-clause-charted
returns-in_err-route_lines-clause-charted c =
    let p = err_from_is_err_and c.from_residual.result c.from_residual.ensures.1 in
    rw (p.1, p.2)
    (charted _ _ _ _ _ _ _ _ _ _ (below_of _ _ c.requires.counted) c.requires.laid _ _ _ _ _ _
    c.in_err-route_lines.ensures _ c.ill_sized.ensures c.if-ill_sized.false
    (omega (arith, c.requires.mesh_room.4, c.route_lines.auto.path)))

pub returns-clause-charted : goal.returns-clause-charted
returns-clause-charted c =
    charted _ _ _ _ _ _ _ _ _ _ (below_of _ _ c.requires.counted) c.requires.laid _ _ _ _ _ _
    c.in_ok-route_lines.ensures _ c.ill_sized.ensures c.if-ill_sized.false
    (omega (arith, c.requires.mesh_room.4, c.route_lines.auto.path))
