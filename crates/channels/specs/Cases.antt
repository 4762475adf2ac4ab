-- Walks of single lines through small meshes, as a table and one theorem; a channel, and wishes on one. Floats stand
-- by their bits.
use Rattle.std.specs.Prelude.{◌≡◌, refl, ℕ, true, false, List, [], ◌∷◌, map, Float}
use Rattle.std.specs.Float.{binary64}
use Rattle.std.specs.Float.Ieee.{of_bits, to_bits, round as rounded, lt, eq, neg, add, sub, mul, div, of_int, is_nan}
use Rattle.numbers.specs.Ops.{f0, f½, f1, f2}
use Rattle.numbers.specs.Key.{key_of}
use Rattle.numbers.specs.Small.{abs_of, max_of, min_of, clamp_of}
use Rattle.numbers.specs.Hypot.{grains, root_in, nearest_root, hypot_of}
use Rattle.numbers.specs.Order.{insert_by, sort_by, up_from}
use Rattle.plane.specs.Plane.{point, point_at}
use Rattle.plane.specs.Cross.{orient, crosses}
use Rattle.network.specs.Mesh.{no_twin, next, end_at}
use Rattle.channels.specs.Round.{round_of}
use Rattle.channels.specs.declared.channel.Channel.{Channel}
use Rattle.channels.specs.Channel.{reach_on, reach, held, channel_of}
use Rattle.channels.specs.Space.{wish_key, wish_order, in_order, even_at, forward, forward_all, backward, crowded}
use Rattle.channels.specs.Space.{spaced, put_all, placed}
use Rattle.channels.specs.Trace.{Walk, crosses_half_edge, leave, out_by, pass_on, traced}

-- (0, 0), (1, 1), (1, -1), (2, 0) and (4, 0)
abbrev points : List Float
points =
    map (of_bits binary64)
    (0 ∷ 0 ∷ 0x3FF0_0000_0000_0000 ∷ 0x3FF0_0000_0000_0000 ∷ 0x3FF0_0000_0000_0000 ∷ 0xBFF0_0000_0000_0000
    ∷ 0x4000_0000_0000_0000 ∷ 0 ∷ 0x4010_0000_0000_0000 ∷ 0 ∷ [])

abbrev none : ℕ
none = no_twin

-- two triangles with a common edge, from 1 to 2
abbrev kite : List ℕ
kite = 0 ∷ 1 ∷ 2 ∷ 2 ∷ 1 ∷ 3 ∷ []

abbrev walk_of : ℕ → ℕ → Walk
walk_of va vb = traced kite (none ∷ 3 ∷ none ∷ 1 ∷ none ∷ none ∷ []) (point_at points) va vb

abbrev walks : List Walk
walks =
    -- across the common edge, from either side
    walk_of 0 3 ∷ walk_of 3 0
    -- to a neighbour; the first triangle that has it ends the search
    ∷ walk_of 1 2
    -- through vertex 3: cleared
    ∷ walk_of 0 4
    -- without the other triangle: out of the mesh
    ∷ traced (0 ∷ 1 ∷ 2 ∷ []) (none ∷ none ∷ none ∷ []) (point_at points) 0 3
    ∷ []

pub worked : walks
    ≡ record { half_edges = 1 ∷ []; kept = true } ∷ record { half_edges = 3 ∷ []; kept = true }
    ∷ record { half_edges = []; kept = true } ∷ record { half_edges = 1 ∷ []; kept = false }
    ∷ record { half_edges = 1 ∷ []; kept = true } ∷ []
unfolding traced leave out_by pass_on crosses_half_edge crosses orient next end_at of_bits lt sub mul
worked = refl

-- the half-edges by vertex
pub round : round_of kite ≡ 0 ∷ 1 ∷ 4 ∷ 2 ∷ 3 ∷ 5 ∷ []
unfolding round_of
round = refl

-- ---- a channel, and wishes on one (docs/RULES.md, 'Channels', 'Spacing on a channel'): `channels::laws::cases`
-- promises the answers

abbrev bits : ℕ → Float
bits n = of_bits binary64 n

-- between (0, 0) and (16, 0), boxes −1, −2, 1, 2 and 14, −2, 18, 2, scales 1 and 1/2, clearance 1
abbrev between : Channel
between =
    channel_of
    (point f0 f0)
    (point (bits 0x4030_0000_0000_0000) f0)
    (record { left = bits 0xBFF0_0000_0000_0000; top = bits 0xC000_0000_0000_0000; right = f1; bottom = f2 })
    (record {
      left = bits 0x402C_0000_0000_0000;
      top = bits 0xC000_0000_0000_0000;
      right = bits 0x4032_0000_0000_0000;
      bottom = f2;
    })
    f1
    f½
    f1

-- the fractions that wishes get on a channel from 0 to 1 with a least step of 1/8
abbrev fractions : List ℕ → List ℕ
fractions ws =
    map (to_bits binary64) (placed (record { lo = f0; hi = f1; least_step = bits 0x3FC0_0000_0000_0000 }) (map bits ws))

unfoldable pub spacings : List (List ℕ)
unfolding of_bits to_bits rounded lt eq neg add sub mul div of_int is_nan key_of abs_of max_of min_of clamp_of grains
    root_in nearest_root hypot_of insert_by sort_by up_from reach_on reach held channel_of wish_key wish_order in_order
    even_at forward forward_all backward crowded spaced put_all placed
spacings =
    -- its low end, its high end and its least step
    (to_bits binary64 between.lo ∷ to_bits binary64 between.hi ∷ to_bits binary64 between.least_step ∷ [])
    -- the wishes 0.75, 0.25 and 0.5, and the wishes 0.5, 0.25 and 0.5
    ∷ fractions (0x3FE8_0000_0000_0000 ∷ 0x3FD0_0000_0000_0000 ∷ 0x3FE0_0000_0000_0000 ∷ [])
    ∷ fractions (0x3FE0_0000_0000_0000 ∷ 0x3FD0_0000_0000_0000 ∷ 0x3FE0_0000_0000_0000 ∷ [])
    ∷ []

-- 0.09375, 0.84375 and 0.03125; each its wish; 0.5, 0.25 and 0.625
abbrev pub spacings_said : List (List ℕ)
spacings_said =
    (0x3FB8_0000_0000_0000 ∷ 0x3FEB_0000_0000_0000 ∷ 0x3FA0_0000_0000_0000 ∷ [])
    ∷ (0x3FE8_0000_0000_0000 ∷ 0x3FD0_0000_0000_0000 ∷ 0x3FE0_0000_0000_0000 ∷ [])
    ∷ (0x3FE0_0000_0000_0000 ∷ 0x3FD0_0000_0000_0000 ∷ 0x3FE4_0000_0000_0000 ∷ [])
    ∷ []
