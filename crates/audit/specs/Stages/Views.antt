-- What the lists that an audit reads together hold, and the lengths that it asks of those that it writes
-- (docs/WORK.md). Definitions only.
use Rattle.std.specs.Prelude.{ℕ, ◌≤◌, List, length, Float}
use Rattle.plane.specs.declared.geometry.Box.{Box}
use Rattle.network.specs.declared.lists.Placed.{Placed}
use Rattle.network.specs.Words.{occupied}
use Rattle.network.specs.Views.{counts_in, boxes_in}
use Rattle.audit.specs.Drawn.{Lists}

-- the box of each station
abbrev pub placed_boxes : Placed → List Box
placed_boxes placed = boxes_in placed.k placed.frames.now

-- the occupied stations
abbrev pub placed_stations : Placed → List ℕ
placed_stations placed = occupied (counts_in placed.k placed.stations.now)

-- the result lists, one by one
abbrev pub figure_lists : List Float → List Float → List Float → Lists
figure_lists displacement spacing relative =
    record { displacement = displacement; spacing = spacing; relative = relative }

-- Room for a figure of each station and of each piece.
abbrev pub FigureRoom : ℕ → ℕ → Lists → Type 0
FigureRoom stations pieces L =
    (stations ≤ length L.displacement)
    × (stations ≤ length L.spacing)
    × (pieces ≤ length L.relative)

-- Room to sort that many.
abbrev pub SortRoom : ℕ → List ℕ → List ℕ → List ℕ → Type 0
SortRoom n index spare keys =
    (n ≤ length index)
    × (n ≤ length spare)
    × (n ≤ length keys)
