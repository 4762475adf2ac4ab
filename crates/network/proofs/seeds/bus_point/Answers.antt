-- Answers for `network::seeds::bus_point`.
use mathlib.Core.Path.{sym, ◌∙◌}
use Rattle.network.proofs.seeds.Seeding.{bus_at}
use Rattle.network.proofs.seeds.bus_point.Goals as goal
use Rattle.network.proofs.seeds.bus_point.Goals.{else-is_finite-via-then-is_finite+else-is_finite-2, else-is_finite-via-else-is_finite}

pub returns-then-is_finite-2 : goal.returns-then-is_finite-2
returns-then-is_finite-2 c = bus_at _ _ _ _ c.point_at-p.ensures (rw (sym c.is_finite.ensures ∙ c.if-is_finite.true, sym c.is_finite-then-is_finite.ensures ∙ c.if-is_finite-2.true))

pub returns-else-is_finite : goal.returns-else-is_finite
returns-else-is_finite c =
    bus_at _ _ _ _ c.point_at-p.ensures
    (elim c.else-is_finite.branch [ else-is_finite-via-then-is_finite+else-is_finite-2 w ↦ rw (sym c.is_finite.ensures ∙ w.if-is_finite.true, sym w.is_finite-then-is_finite.ensures ∙ w.if-is_finite-2.false) | else-is_finite-via-else-is_finite w ↦ rw (sym c.is_finite.ensures ∙ w.if-is_finite.false) ])
