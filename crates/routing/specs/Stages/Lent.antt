-- What the structs that lend what lines are routed through hold, and that lists have room. Definitions only.
use Rattle.std.specs.Prelude.{ℕ, ◌+◌, ◌*◌, ◌≤◌, ◌≡◌, min, List, length, Float}
use Rattle.plane.specs.declared.geometry.Point.{Point}
use Rattle.network.specs.declared.lists.Network.{Network}
use Rattle.network.specs.Views.{order_in, from_rows_in, to_rows_in}
use Rattle.numbers.specs.Table.{strided, table}
use Rattle.stations.specs.declared.measures.Measures.{Measures}
use Rattle.routing.specs.declared.surroundings.Surroundings.{Surroundings}
use Rattle.routing.specs.declared.crossings.vertices.Vertices.{Vertices}
use Rattle.routing.specs.declared.crossings.line_vertices.LineVertices.{LineVertices}
use Rattle.routing.specs.declared.wishes.fixed.Crossed.{Crossed}
use Rattle.routing.specs.declared.wishes.fixed.Fixed.{Fixed}
use Rattle.routing.specs.Route.{MeshScene, point_of, routing, rounds_to}
use Rattle.routing.specs.Stages.Views.{TracedLists, grid, scene_in}
use Rattle.routing.specs.Stages.Store.{line_vertices}
use Rattle.routing.specs.Stages.Traced.{lined}
use Rattle.routing.specs.Stages.RoundLists.{RoundLists, held, point_in}

-- ---- the grid and the scene

-- a network's lists, with these measures and work lists
abbrev pub grid_of : Network → Measures → List ℕ → List Float → List Float → List Float → TracedLists
grid_of N measures ends blocks places frames =
    grid N.sub.now N.from.now N.to.now N.service.now measures ends blocks places frames

-- those of a network's lines among these surroundings, with this list of ends
abbrev pub grid_among : Network → Surroundings → List ℕ → TracedLists
grid_among N S ends = grid_of N S.measures ends S.blocks.now S.places.now S.frames.now

-- the scene of c occupied stations among them
abbrev pub scene_among : Network → Surroundings → ℕ → List ℕ → List ℕ → List Float → MeshScene
scene_among N S c stations ends centres =
    scene_in
    (grid_among N S ends)
    S.station_count
    c
    stations
    centres
    N.mesh.corners.now
    N.mesh.twins.now

-- the scene of a network's lines over these vertices, whatever the other lists are
abbrev pub scene_over : Network → Vertices → List Float → ℕ → TracedLists → MeshScene
scene_over N V points k G =
    scene_in
    (lined N.sub.now N.from.now N.to.now N.service.now G)
    k
    V.c
    V.stations.now
    points
    N.mesh.corners.now
    N.mesh.twins.now

-- the vertices of a network's branch over these vertices
abbrev pub line_vertices_over : Network → Vertices → ℕ → LineVertices
line_vertices_over N V = line_vertices N.sub.now N.from.now N.to.now N.service.now (order_in V.c V.stations.now)

-- the points of the first n crossings of a scene after so many rounds
abbrev pub spaced_points : MeshScene → ℕ → ℕ → List Point
spaced_points S rounds n = table (point_of S (routing S) (rounds_to S (routing S) rounds)) n

-- ---- what stands still while crossings are spaced

abbrev pub fixed_lists : Fixed → RoundLists
fixed_lists F =
    held
    F.crossed.m
    F.base
    F.crossed.ends.now
    F.places.now
    F.crossed.centres.now
    F.crossed.corners.now
    F.crossed.numbers.now

-- where crossing x is, at these places
abbrev pub crossing_point : Crossed → List Float → ℕ → Point
crossing_point X along = point_in X.m X.ends.now X.centres.now X.corners.now X.numbers.now along

-- the rows and paths of m branches are as before
abbrev pub SameEnds : ℕ → List ℕ → List ℕ → Type 0
SameEnds m before behind =
    (from_rows_in m behind ≡ from_rows_in m before)
    × (to_rows_in m behind ≡ to_rows_in m before)
    × (strided 4 2 0 m behind ≡ strided 4 2 0 m before)
    × (strided 4 3 0 m behind ≡ strided 4 3 0 m before)

-- ---- lists with room

-- as many half-edges as a mesh may have at most
abbrev pub half_edges : Network → ℕ
half_edges N = min (length N.mesh.corners.now) 24576

-- room for so many crossings: three numbers, a place and a point of each, and three work lists
abbrev pub HoldsCrossings : ℕ → List ℕ → List Float → List Float → List ℕ → List ℕ → List ℕ → Type 0
HoldsCrossings room numbers along ways sorted spare keys =
    (3 * room ≤ length numbers)
    × (room ≤ length along)
    × (2 * room ≤ length ways)
    × (room ≤ length sorted)
    × (room ≤ length spare)
    × (room ≤ length keys)

-- room for a network's half-edges: four numbers of each behind those of the branches, and three work lists
abbrev pub HoldsHalfEdges : Network → List ℕ → List ℕ → List ℕ → List ℕ → Type 0
HoldsHalfEdges N ends sorted spare keys =
    (4 * length N.from.now + 4 * half_edges N + 4 ≤ length ends)
    × (half_edges N ≤ length sorted)
    × (half_edges N ≤ length spare)
    × (half_edges N ≤ length keys)
