-- Answers for `audit::limits::check_input`.
use mathlib.Core.Path.{sym, ◌∙◌}
use native.Mathlib.Omega.{arith}
use Rattle.std.proofs.lemmas.Result.{err_from_is_err_and}
use Rattle.network.proofs.refusals.Shapes.{shape_fits}
use Rattle.audit.proofs.findings.Early.{by_shape, by_distance, by_room, by_none}
use Rattle.audit.proofs.limits.check_input.Goals as goal

pub returns-in_err-check_shape : goal.returns-in_err-check_shape
returns-in_err-check_shape c = let p = err_from_is_err_and c.from_residual.result c.from_residual.ensures.1 in rw (p.1, p.2) (by_shape _ _ _ c.in_err-check_shape.ensures)

pub too_far-requires : goal.too_far-requires
too_far-requires c = omega (arith, (shape_fits _ _ _ _ c.in_ok-check_shape.ensures).few)

pub returns-then-too_far : goal.returns-then-too_far
returns-then-too_far c = by_distance _ _ c.in_ok-check_shape.ensures (sym c.if-too_far.true ∙ c.too_far.ensures)

pub too_short-requires : goal.too_short-requires
too_short-requires c = (shape_fits _ _ _ _ c.in_ok-check_shape.ensures).few

pub returns-then-too_short : goal.returns-then-too_short
returns-then-too_short c = by_room _ _ c.in_ok-check_shape.ensures (sym c.if-too_far.false ∙ c.too_far.ensures) _ c.station_count.ensures.is_count (sym c.if-too_short.true ∙ c.too_short.ensures)

pub returns : goal.returns
returns c = by_none _ _ c.in_ok-check_shape.ensures (sym c.if-too_far.false ∙ c.too_far.ensures) _ c.station_count.ensures.is_count (sym c.if-too_short.false ∙ c.too_short.ensures)
