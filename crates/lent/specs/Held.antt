-- What the lists behind the structs hold, and that they are still the lists that were lent. Definitions only.
use Rattle.std.specs.Prelude.{◌≡◌, length}
use Rattle.network.specs.declared.lists.Network as Read
use Rattle.drawing.specs.Network as Held
use Rattle.lent.specs.declared.Lists.{Lists}
use Rattle.lent.specs.declared.Work.{Work}
use Rattle.lent.specs.declared.Crossings.{Crossings}

abbrev pub held_network : Read.Network → Held.Network
held_network = Held.network_of

abbrev pub held_lists : Lists → Held.Lists
held_lists L =
    record {
      positions = L.positions.now;
      bars = L.bars.now;
      boxes = L.boxes.now;
      scales = L.scales.now;
      roles = L.roles.now;
      pieces = L.pieces.now;
      branches = L.branches.now;
    }

abbrev pub held_work : Work → Held.Work
held_work W =
    record {
      stations = W.stations.now;
      buses = W.buses.now;
      ends = W.ends.now;
      sorted = W.sorted.now;
      spare = W.spare.now;
      keys = W.keys.now;
      places = W.places.now;
      blocks = W.blocks.now;
      frames = W.frames.now;
      path = W.path.now;
    }

abbrev pub held_crossings : Crossings → Held.Crossings
held_crossings X = Held.crossings X.numbers.now X.places.now X.ways.now

-- Each list is still the one that was lent.
abbrev pub SameLists : Lists → Lists → Type 0
SameLists A B =
    (A.positions.ghost_name ≡ B.positions.ghost_name)
    × (A.bars.ghost_name ≡ B.bars.ghost_name)
    × (A.boxes.ghost_name ≡ B.boxes.ghost_name)
    × (A.scales.ghost_name ≡ B.scales.ghost_name)
    × (A.roles.ghost_name ≡ B.roles.ghost_name)
    × (A.pieces.ghost_name ≡ B.pieces.ghost_name)
    × (A.branches.ghost_name ≡ B.branches.ghost_name)

abbrev pub SameWork : Work → Work → Type 0
SameWork A B =
    (A.stations.ghost_name ≡ B.stations.ghost_name)
    × (A.buses.ghost_name ≡ B.buses.ghost_name)
    × (A.ends.ghost_name ≡ B.ends.ghost_name)
    × (A.sorted.ghost_name ≡ B.sorted.ghost_name)
    × (A.spare.ghost_name ≡ B.spare.ghost_name)
    × (A.keys.ghost_name ≡ B.keys.ghost_name)
    × (A.places.ghost_name ≡ B.places.ghost_name)
    × (A.blocks.ghost_name ≡ B.blocks.ghost_name)
    × (A.frames.ghost_name ≡ B.frames.ghost_name)
    × (A.path.ghost_name ≡ B.path.ghost_name)

abbrev pub SameCrossings : Crossings → Crossings → Type 0
SameCrossings A B =
    (A.numbers.ghost_name ≡ B.numbers.ghost_name)
    × (A.places.ghost_name ≡ B.places.ghost_name)
    × (A.ways.ghost_name ≡ B.ways.ghost_name)

-- Each list is as long as it was.
abbrev pub LongWork : Work → Work → Type 0
LongWork A B =
    (length A.stations.now ≡ length B.stations.now)
    × (length A.buses.now ≡ length B.buses.now)
    × (length A.ends.now ≡ length B.ends.now)
    × (length A.sorted.now ≡ length B.sorted.now)
    × (length A.spare.now ≡ length B.spare.now)
    × (length A.keys.now ≡ length B.keys.now)
    × (length A.places.now ≡ length B.places.now)
    × (length A.blocks.now ≡ length B.blocks.now)
    × (length A.frames.now ≡ length B.frames.now)
    × (length A.path.now ≡ length B.path.now)

abbrev pub LongCrossings : Crossings → Crossings → Type 0
LongCrossings A B =
    (length A.numbers.now ≡ length B.numbers.now)
    × (length A.places.now ≡ length B.places.now)
    × (length A.ways.now ≡ length B.ways.now)

-- Each work list but the path holds what it did.
abbrev pub KeptWork : Work → Work → Type 0
KeptWork A B =
    (A.stations.now ≡ B.stations.now)
    × (A.buses.now ≡ B.buses.now)
    × (A.ends.now ≡ B.ends.now)
    × (A.sorted.now ≡ B.sorted.now)
    × (A.spare.now ≡ B.spare.now)
    × (A.keys.now ≡ B.keys.now)
    × (A.places.now ≡ B.places.now)
    × (A.blocks.now ≡ B.blocks.now)
    × (A.frames.now ≡ B.frames.now)
