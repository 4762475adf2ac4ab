-- What the lists behind an audit's structs hold, and that they are still the lists that were lent. Definitions only.
use Rattle.std.specs.Prelude.{◌≡◌, length}
use Rattle.audit.specs.declared.fit.drawn.Drawn as Lent
use Rattle.audit.specs.Drawn.{Drawn, drawn}
use Rattle.audit.specs.Drawn as Held
use Rattle.audit.specs.declared.lists.FigureLists.{FigureLists}
use Rattle.audit.specs.declared.lists.Work.{Work}

abbrev pub held_drawing : Lent.Drawn → Drawn
held_drawing D =
    drawn D.sub.now D.kv.now D.from.now D.to.now D.xy.now D.boxes.now D.roles.now D.pieces.now D.branches.now

abbrev pub held_lists : FigureLists → Held.Lists
held_lists L = record { displacement = L.displacement.now; spacing = L.spacing.now; relative = L.relative.now }

abbrev pub held_work : Work → Held.Work
held_work W =
    record {
      stations = W.stations.now;
      index = W.index.now;
      spare = W.spare.now;
      keys = W.keys.now;
      points = W.points.now;
      path = W.path.now;
    }

-- Each list is still the one that was lent.
abbrev pub SameLists : FigureLists → FigureLists → Type 0
SameLists L M =
    (L.displacement.ghost_name ≡ M.displacement.ghost_name)
    × (L.spacing.ghost_name ≡ M.spacing.ghost_name)
    × (L.relative.ghost_name ≡ M.relative.ghost_name)

abbrev pub SameWork : Work → Work → Type 0
SameWork W V =
    (W.stations.ghost_name ≡ V.stations.ghost_name)
    × (W.index.ghost_name ≡ V.index.ghost_name)
    × (W.spare.ghost_name ≡ V.spare.ghost_name)
    × (W.keys.ghost_name ≡ V.keys.ghost_name)
    × (W.points.ghost_name ≡ V.points.ghost_name)
    × (W.path.ghost_name ≡ V.path.ghost_name)

-- Each work list is as long as it was.
abbrev pub LongWork : Work → Work → Type 0
LongWork W V =
    (length W.stations.now ≡ length V.stations.now)
    × (length W.index.now ≡ length V.index.now)
    × (length W.spare.now ≡ length V.spare.now)
    × (length W.keys.now ≡ length V.keys.now)
    × (length W.points.now ≡ length V.points.now)
    × (length W.path.now ≡ length V.path.now)
