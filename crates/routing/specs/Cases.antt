-- Lines traced through small meshes, as a table and one theorem: a channel is keyed by its vertices, and a cleared
-- path's crossings stay in theirs; then one line with its fractions and its waypoint. Floats stand by their bits.
use Rattle.std.specs.Prelude.{◌≡◌, refl, ℕ, List, [], ◌∷◌, map, Float}
use Rattle.std.specs.Prelude.{Option, Some, None}
use Rattle.std.specs.Float.{nan, binary64}
use Rattle.std.specs.Float.Ieee.{of_bits, to_bits, round, lt, eq, neg, add, sub, mul, div, of_int, is_nan}
use Rattle.numbers.specs.Ops.{f0, f1, f2}
use Rattle.numbers.specs.Key.{key_of}
use Rattle.numbers.specs.Small.{abs_of, max_of, min_of, clamp_of}
use Rattle.numbers.specs.Hypot.{grains, root_in, nearest_root, hypot_of}
use Rattle.numbers.specs.Order.{insert_by, sort_by, up_from, keep}
use Rattle.plane.specs.declared.geometry.Point.{Point}
use Rattle.plane.specs.Plane.{point}
use Rattle.plane.specs.Cross.{orient, crosses, parallel, param, fraction_or}
use Rattle.network.specs.Mesh.{no_twin, next, end_at, low_at, high_at}
use Rattle.channels.specs.Channel.{reach_on, reach, held, channel_of}
use Rattle.channels.specs.Space.{wish_key, wish_order, in_order, even_at, forward, forward_all, backward, crowded}
use Rattle.channels.specs.Space.{spaced, put_all}
use Rattle.channels.specs.Trace.{crosses_half_edge, leave, out_by, pass_on, traced}
use Rattle.routing.specs.Route.{RoutedLine, MeshScene, Keyed, Crossing, KeptCrossings, Routing, vertex_of, number_of}
use Rattle.routing.specs.Route.{make_channel}
use Rattle.routing.specs.Route.{with_channel, crossing_of, cross, cross_all, add_walk, add_branch, traced_to, routing}
use Rattle.routing.specs.Route.{point_on, point_of, members, exit_of, wish, space_one, spaced_to, rounds_to, waypoints}

-- (0, 0), (1, 1), (1, -1), (2, 0) and (4, 0)
abbrev points : List Float
points =
    map (of_bits binary64)
    (0 ∷ 0 ∷ 0x3FF0_0000_0000_0000 ∷ 0x3FF0_0000_0000_0000 ∷ 0x3FF0_0000_0000_0000 ∷ 0xBFF0_0000_0000_0000
    ∷ 0x4000_0000_0000_0000 ∷ 0 ∷ 0x4010_0000_0000_0000 ∷ 0 ∷ [])

abbrev line : ℕ → ℕ → Option RoutedLine
line a b = Some (record { sa = a; sb = b; exit0 = point nan nan; exit1 = point nan nan })

-- The stations 0, 2, 5, 7 and 9 are occupied; two triangles have an edge from vertex 1 to vertex 2 in common. Lines:
-- from 0 to 7, none, back from 7 to 0, from 0 through vertex 3 to 9, and along that edge.
abbrev scene_with : List ℕ → MeshScene
scene_with twins =
    record {
      occupied = 0 ∷ 2 ∷ 5 ∷ 7 ∷ 9 ∷ [];
      centres = points;
      boxes = [];
      scales = [];
      clearance = nan;
      corners = 0 ∷ 1 ∷ 2 ∷ 2 ∷ 1 ∷ 3 ∷ [];
      twins = twins;
      lines = line 0 7 ∷ None ∷ line 7 0 ∷ line 0 9 ∷ line 2 5 ∷ [];
    }

abbrev crossings_of : Routing → List (ℕ × ℕ × ℕ)
crossings_of r = map (λ (x : Crossing). (x.channel, x.branch, x.on_line)) r.crossings

abbrev channels_of : Routing → List (ℕ × ℕ)
channels_of r = map (λ (k : Keyed). (k.low, k.high)) r.channels

abbrev paths_of : Routing → List (ℕ × ℕ)
paths_of r = map (λ (p : KeptCrossings). (p.first, p.count)) r.kept_crossings

abbrev answers : List ℕ → List (List (ℕ × ℕ × ℕ)) × List (List (ℕ × ℕ))
answers twins = let r = routing (scene_with twins) in (crossings_of r ∷ [], channels_of r ∷ paths_of r ∷ [])

abbrev absent : ℕ
absent = no_twin

-- with the two half-edges as twins, and without: one channel either way; without, the fourth line leaves the mesh and
-- keeps its path
pub worked :
    map answers
    ((absent ∷ 3 ∷ absent ∷ 1 ∷ absent ∷ absent ∷ [])
    ∷ (absent ∷ absent ∷ absent ∷ absent ∷ absent ∷ absent ∷ [])
    ∷ [])
    ≡ (
      ((0, 0, 0) ∷ (0, 2, 0) ∷ (0, 3, 0) ∷ []) ∷ [],
      ((1, 2) ∷ []) ∷ ((0, 1) ∷ (0, 0) ∷ (1, 1) ∷ (2, 0) ∷ (3, 0) ∷ []) ∷ [],
    )
    ∷ (
      ((0, 0, 0) ∷ (0, 2, 0) ∷ (0, 3, 0) ∷ []) ∷ [],
      ((1, 2) ∷ []) ∷ ((0, 1) ∷ (0, 0) ∷ (1, 1) ∷ (2, 1) ∷ (3, 0) ∷ []) ∷ [],
    )
    ∷ []
unfolding routing traced_to add_branch add_walk cross_all cross crossing_of with_channel make_channel number_of
    vertex_of traced leave out_by pass_on crosses_half_edge crosses orient next end_at low_at high_at of_bits lt sub mul
worked = refl

-- ---- fractions, wishes and waypoints (docs/RULES.md, 'Crossings', 'Wishes', 'Rounds and waypoints'):
-- `routing::laws::cases` promises the answers

abbrev bits : ℕ → Float
bits n = of_bits binary64 n

-- The two triangles with vertices at (0, 0), (1, 1), (1, −1) and (2, 1), boxes without sides, and one line from vertex
-- 0 to vertex 3, with the exits (0, −1) and (2, 0). It crosses the channel from (1, 1) to (1, −1).
abbrev crossed : MeshScene
crossed =
    record {
      occupied = 0 ∷ 1 ∷ 2 ∷ 3 ∷ [];
      centres = f0 ∷ f0 ∷ f1 ∷ f1 ∷ f1 ∷ bits 0xBFF0_0000_0000_0000 ∷ f2 ∷ f1 ∷ [];
      boxes = [];
      scales = f1 ∷ f1 ∷ f1 ∷ f1 ∷ [];
      clearance = f0;
      corners = 0 ∷ 1 ∷ 2 ∷ 2 ∷ 1 ∷ 3 ∷ [];
      twins = absent ∷ 3 ∷ absent ∷ 1 ∷ absent ∷ absent ∷ [];
      lines = Some (record { sa = 0; sb = 3; exit0 = point f0 (bits 0xBFF0_0000_0000_0000); exit1 = point f2 f0 }) ∷ [];
    }

abbrev fractions : ℕ → List Float
fractions rounds = rounds_to crossed (routing crossed) rounds

unfoldable pub crossings_given : List (List ℕ)
unfolding routing traced_to add_branch add_walk cross_all cross crossing_of with_channel make_channel number_of
    vertex_of traced leave out_by pass_on crosses_half_edge crosses orient next end_at low_at high_at parallel param
    fraction_or
    reach_on reach held channel_of wish_key wish_order in_order even_at forward forward_all backward crowded spaced
    put_all point_on point_of members exit_of wish space_one spaced_to rounds_to waypoints keep insert_by sort_by
    up_from of_bits to_bits round lt eq neg add sub mul div of_int is_nan key_of abs_of max_of min_of clamp_of grains
    root_in nearest_root hypot_of
crossings_given =
    -- its fraction as it is made, and after one round
    map (to_bits binary64) (fractions 0)
    ∷ map (to_bits binary64) (fractions 1)
    -- its waypoint after one round
    ∷ map (λ (p : Point). to_bits binary64 p.x) (waypoints crossed (routing crossed) (fractions 1) 0)
    ∷ map (λ (p : Point). to_bits binary64 p.y) (waypoints crossed (routing crossed) (fractions 1) 0)
    ∷ []

-- 0.25, 0.75 and (1, −0.5)
abbrev pub crossings_said : List (List ℕ)
crossings_said =
    (0x3FD0_0000_0000_0000 ∷ []) ∷ (0x3FE8_0000_0000_0000 ∷ []) ∷ (0x3FF0_0000_0000_0000 ∷ [])
    ∷ (0xBFE0_0000_0000_0000 ∷ []) ∷ []
