-- Worked cases of placement (docs/RULES.md, 'Worked cases'): how the offsets begin, and two stations on one seed. Floats stand by their bits. Assumes nothing.
use mathlib.Core.Path.{◌≡◌, refl}
use Prim.Native.Nat.{ℕ}
use mathlib.Core.List.{List, [], ◌∷◌, map}
use lib.Count.{count_trailing_zeros}
use lib.IntN.{ℤ, pos, negsuc}
use lib.ListN.{take}
use lib.Ieee.{binary64, of_bits, of_fields, to_bits, odd, units, round, size, span, climb, sum, neg, lt, add, sub, mul, div, of_int}
use Rattle.numbers.specs.Ops.{f1, f2, f4}
use Rattle.numbers.specs.Small.{max_of}
use Rattle.numbers.specs.Order.{insert_by, sort_by, up_from}
use Rattle.numbers.specs.Table.{table_from}
use Rattle.plane.specs.declared.geometry.Point.{Point}
use Rattle.plane.specs.Plane.{origin}
use Rattle.plane.specs.Overlap.{meet, overlap}
use Rattle.network.specs.Options.{default_block_options}
use Rattle.offsets.specs.declared.offset.Offset.{Offset}
use Rattle.offsets.specs.Offset.{offset_number, offset_of, grid_number, offset_grid, offsets}
use Rattle.placement.specs.Place.{box_of, next_place, places_to, places}
use Rattle.placement.specs.Search.{half_sides_for, half_sides, box_on, buffered, free, place, first_free, place_for}

abbrev offset : ℤ → ℤ → Offset
offset x y = record { a = x; b = y }

-- (0,0), (−1,0), (0,−1), (0,1), (1,0), (−1,−1)
abbrev begin : List Offset
begin =
    offset (pos 0) (pos 0) ∷ offset (negsuc 0) (pos 0) ∷ offset (pos 0) (negsuc 0) ∷ offset (pos 0) (pos 1) ∷ offset (pos 1) (pos 0)
    ∷ offset (negsuc 0) (negsuc 0) ∷ []

pub offsets_begin : map (λ s. take 6 (offsets s)) (1 ∷ 2 ∷ 5 ∷ []) ≡ begin ∷ begin ∷ begin ∷ []
unfolding offsets offset_grid grid_number offset_number offset_of sort_by insert_by up_from
offsets_begin = refl

-- Two stations of one bus each on the seed (0, 0), with the unit 1/8 of fill 1/2: 2 blocks wide and 4 high.
abbrev two : ℕ → List Point
two search =
    places (half_sides (record { unit = of_bits binary64 0x3FC0_0000_0000_0000; block_options = default_block_options }) (f1 ∷ f1 ∷ []) (record { w = f2; h = f4 } ∷ record { w = f2; h = f4 } ∷ []))
    (offsets search) (origin ∷ origin ∷ []) (0 ∷ 1 ∷ [])

abbrev bits : List Point → List (ℕ × ℕ)
bits ps = map (λ p. (to_bits binary64 p.x, to_bits binary64 p.y)) ps

-- search 0 leaves both there; search 1 puts the second at (−0.5, 0)
pub two_stations : map (λ s. bits (two s)) (0 ∷ 1 ∷ []) ≡ ((0, 0) ∷ (0, 0) ∷ []) ∷ ((0, 0) ∷ (0xBFE0_0000_0000_0000, 0) ∷ []) ∷ []
unfolding offsets offset_grid grid_number offset_number offset_of sort_by insert_by up_from table_from half_sides_for half_sides box_on buffered free place first_free place_for box_of next_place places_to places meet overlap max_of of_bits of_fields to_bits odd units round size span climb sum neg lt add sub mul div of_int count_trailing_zeros
two_stations = refl
