-- The lengths that a stage asks of the lent lists (docs/WORK.md). Definitions only.
use Rattle.std.specs.Prelude.{ℕ, ◌+◌, ◌*◌, ◌≤◌, length}
use Rattle.drawing.specs.Network.{Network, Work, Crossings}
use Rattle.drawing.specs.Answer.{mesh_length}

-- Room for the rows, sizes, places and boxes of a network, and for its lines' exits.
abbrev pub StationRoom : Network → Work → Type 0
StationRoom N W =
    (2 * length N.station ≤ length W.stations)
    × (3 * length N.station ≤ length W.buses)
    × (4 * length N.from ≤ length W.ends)
    × (2 * length N.station + 4 * length N.from ≤ length W.places)
    × (3 * length N.station ≤ length W.blocks)
    × (4 * length N.station ≤ length W.frames)
    × (2 * length N.station ≤ length W.path)

-- Room to sort its stations and its branches' ends.
abbrev pub SortRoom : Network → Work → Type 0
SortRoom N W =
    (length N.station + 2 * length N.from ≤ length W.sorted)
    × (length N.station + 2 * length N.from ≤ length W.spare)
    × (length N.station + 2 * length N.from ≤ length W.keys)

-- Room for as many crossings.
abbrev pub CrossingRoom : ℕ → Work → Crossings → Type 0
CrossingRoom room W X =
    (3 * room ≤ length X.numbers)
    × (room ≤ length X.places)
    × (2 * room ≤ length X.ways)
    × (room ≤ length W.sorted)
    × (room ≤ length W.spare)
    × (room ≤ length W.keys)

-- Room for a network's mesh, with as many points in the path.
abbrev pub MeshRoom : ℕ → Network → Work → Type 0
MeshRoom points N W =
    (4 * length N.from + 4 * mesh_length N + 4 ≤ length W.ends)
    × (mesh_length N ≤ length W.sorted)
    × (mesh_length N ≤ length W.spare)
    × (mesh_length N ≤ length W.keys)
    × (2 * points + 3 * mesh_length N + 16 ≤ length W.path)

-- Room for k stations and their boxes.
abbrev pub BoxRoom : ℕ → Work → Type 0
BoxRoom k W =
    (2 * k ≤ length W.stations)
    × (2 * k ≤ length W.places)
    × (4 * k ≤ length W.frames)
    × (2 * k ≤ length W.path)

-- Room for k stations, their blocks and their boxes.
abbrev pub DrawnRoom : ℕ → Work → Type 0
DrawnRoom k W =
    (2 * k ≤ length W.stations)
    × (3 * k ≤ length W.blocks)
    × (4 * k ≤ length W.frames)
