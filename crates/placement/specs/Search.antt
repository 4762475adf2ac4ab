-- The first free place of one station (docs/RULES.md, 'Free places'). Definitions only.
use Rattle.std.specs.Prelude.{ℕ, ◌<◌, ◌≡◌, ◌⊎◌, Bool, true, false, not, ◌&&◌, Float, Option, Some, None, unwrap_or}
use Rattle.std.specs.Prelude.{List, [], ◌∷◌, ◌++◌, map, length, get_or}
use Rattle.std.specs.Option.{option_or}
use Rattle.numbers.specs.Ops.{int, f0, f1, f2, f4, ◌⊕◌, ◌⊖◌, ◌⊗◌, ◌⊘◌}
use Rattle.numbers.specs.Order.{pick}
use Rattle.numbers.specs.Table.{table}
use Rattle.plane.specs.declared.geometry.Point.{Point}
use Rattle.plane.specs.declared.geometry.Box.{Box}
use Rattle.plane.specs.Plane.{point}
use Rattle.plane.specs.Overlap.{overlap}
use Rattle.stations.specs.declared.measures.Measures.{Measures}
use Rattle.stations.specs.Size.{Size, size_at, larger}
use Rattle.offsets.specs.declared.offset.Offset.{Offset}

-- What a station's interior is drawn in: its half sides, its block f, unit × scale, and its buffer in blocks.
pub record HalfSides : Type 0 where
  pub half : Size
  pub f : Float
  pub buffer : Float

-- the sides of a box of this size in blocks of f, halved
unfoldable pub half_sides_for : Measures → Float → Size → HalfSides
half_sides_for M scale z =
    let f = M.unit ⊗ scale in
    record { half = record { w = z.w ⊗ f ⊘ f2; h = z.h ⊗ f ⊘ f2 }; f = f; buffer = M.block_options.buffer }

unfoldable pub half_sides : Measures → List Float → List Size → List HalfSides
half_sides M scales zs = table (λ s. half_sides_for M (get_or scales s f1) (size_at zs s)) (length zs)

abbrev pub half_sides_at : List HalfSides → ℕ → HalfSides
half_sides_at fs s = get_or fs s (record { half = record { w = f0; h = f0 }; f = f0; buffer = f0 })

-- A box stands at a place when it is centred there.
unfoldable pub box_on : Point → Size → Box
box_on c z = record { left = c.x ⊖ z.w; top = c.y ⊖ z.h; right = c.x ⊕ z.w; bottom = c.y ⊕ z.h }

-- that box with its buffer, unit × scale × buffer, on each side
unfoldable pub buffered : Point → HalfSides → Box
buffered c r =
    let g = r.f ⊗ r.buffer in
    record {
      left = c.x ⊖ r.half.w ⊖ g;
      top = c.y ⊖ r.half.h ⊖ g;
      right = c.x ⊕ r.half.w ⊕ g;
      bottom = c.y ⊕ r.half.h ⊕ g;
    }

-- It is free if the box with its buffer strictly overlaps no earlier box.
unfoldable pub free : Box → List Box → Bool
free p [] = true
free p (q ∷ earlier) = not (overlap p q) && free p earlier

-- The place is seed + offset × larger half side × widening.
unfoldable pub place : Point → Size → Float → Offset → Point
place seed z widening o =
    point (seed.x ⊕ int o.a ⊗ larger z ⊗ widening) (seed.y ⊕ int o.b ⊗ larger z ⊗ widening)

-- the first free place among these offsets at one widening
unfoldable pub first_free : Point → HalfSides → List Box → Float → List Offset → Option Point
first_free seed r earlier widening [] = None
first_free seed r earlier widening (o ∷ os) =
    let later = first_free seed r earlier widening os in
    let c = place seed r.half widening o in
    pick (free (buffered c r) earlier) (Some c) later

-- For widening 1, 2, 4 the first free one in this order, and if none is free the seed.
unfoldable pub place_for : Point → HalfSides → List Box → List Offset → Point
place_for seed r earlier os =
    let at4 = unwrap_or (first_free seed r earlier f4 os) seed in
    let at2 = unwrap_or (first_free seed r earlier f2 os) at4 in
    unwrap_or (first_free seed r earlier f1 os) at2

-- the place that the search finds: the first free one for widening 1, 2, 4, none if none is free
unfoldable pub found_place : Point → HalfSides → List Box → List Offset → Option Point
found_place seed r earlier os =
    option_or (first_free seed r earlier f1 os)
    (option_or (first_free seed r earlier f2 os) (first_free seed r earlier f4 os))

-- the places of the search, in their order: for widening 1, 2, 4 all offsets
abbrev pub tries : Point → Size → List Offset → List Point
tries seed z os = map (place seed z f1) os ++ (map (place seed z f2) os ++ map (place seed z f4) os)

-- c is the first of the list l that passes the test, or none passes and c is d
abbrev pub FirstOf : (Point → Bool) → List Point → Point → Point → Type 0
FirstOf test l d c =
    ((i : ℕ) × (i < length l) × (get_or l i d ≡ c) × (test c ≡ true) × ((j : ℕ) → j < i → test (get_or l j d) ≡ false))
    ⊎ ((c ≡ d) × ((j : ℕ) → j < length l → test (get_or l j d) ≡ false))
