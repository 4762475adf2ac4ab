-- What the structs that lend what runs are drawn from hold. Definitions only.
use Rattle.std.specs.Prelude.{ℕ, List, Float}
use Rattle.network.specs.declared.lists.Network.{Network}
use Rattle.network.specs.declared.words.Kind.{Kind}
use Rattle.network.specs.Words.{kind_of}
use Rattle.runs.specs.declared.laid.Laid.{Laid}
use Rattle.runs.specs.declared.laid.Obstacles.{Obstacles}
use Rattle.runs.specs.Stages.Views.{Lead, lead_by, RunLists, held}
use Rattle.runs.specs.Stages.Requests.{Lists, lists}

-- what branch e of a network is
abbrev pub kind_in : Network → ℕ → Kind
kind_in N e = kind_of N.sub.now N.from.now N.to.now N.service.now e

-- what leads lines
abbrev pub lead_of : Obstacles → Lead
lead_of G = lead_by G.clearance G.index.placed.k G.index.placed.stations.now G.ways.now

-- the lists that runs are drawn from
abbrev pub run_lists : Network → Laid → Obstacles → RunLists
run_lists N L G =
    held N.sub.now L.measures L.buses.now L.ends.now L.blocks.now L.places.now G.index.placed.frames.now (lead_of G)

-- the lists that requests are made of, with these boxes
abbrev pub request_lists : Network → Laid → List Float → Lists
request_lists N L frames = lists N.sub.now L.measures L.buses.now L.ends.now L.blocks.now L.places.now frames
