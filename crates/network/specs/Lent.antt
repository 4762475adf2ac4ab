-- What lent lists say, one word each. Definitions only.
use Rattle.std.specs.Prelude.{ℕ, List, length}
use Rattle.plane.specs.declared.geometry.Box.{Box}
use Rattle.network.specs.declared.words.Kind.{Kind}
use Rattle.network.specs.declared.lists.Network.{Network}
use Rattle.network.specs.declared.lists.Stations.{Stations}
use Rattle.network.specs.declared.lists.Placed.{Placed}
use Rattle.network.specs.Words.{kind_of, kinds}
use Rattle.network.specs.Views.{counts_in, boxes_in}

-- how many buses and how many branches a network has
abbrev pub bus_total : Network → ℕ
bus_total net = length net.sub.now

abbrev pub branch_total : Network → ℕ
branch_total net = length net.from.now

-- what a branch is; what each is
abbrev pub kind_in : Network → ℕ → Kind
kind_in net branch = kind_of net.sub.now net.from.now net.to.now net.service.now branch

abbrev pub kinds_in : Network → List Kind
kinds_in net = kinds net.sub.now net.from.now net.to.now net.service.now

-- how many buses each station has
abbrev pub station_counts : Stations → List ℕ
station_counts stations = counts_in stations.k stations.counts.now

abbrev pub placed_counts : Placed → List ℕ
placed_counts placed = counts_in placed.k placed.stations.now

-- the box of each station
abbrev pub placed_boxes : Placed → List Box
placed_boxes placed = boxes_in placed.k placed.frames.now
