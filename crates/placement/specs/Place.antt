-- Each station stands at the first free place, one after the other (docs/RULES.md, 'Free places'). Definitions only.
use Rattle.std.specs.Prelude.{ℕ, zero, suc, Bool, true, ◌&&◌, List, map, length, get_or, take, set, is_some}
use Rattle.numbers.specs.Order.{pick}
use Rattle.numbers.specs.Table.{table}
use Rattle.plane.specs.declared.geometry.Point.{Point}
use Rattle.plane.specs.declared.geometry.Box.{Box}
use Rattle.network.specs.Words.{is_occupied}
use Rattle.network.specs.Seed.{place_at}
use Rattle.offsets.specs.declared.offset.Offset.{Offset}
use Rattle.placement.specs.Search.{HalfSides, box_on, buffered, half_sides_at, free, place_for, found_place}
use Rattle.plane.specs.Plane.{no_box}

-- station s's box, at these places
unfoldable pub box_of : List HalfSides → List Point → ℕ → Box
box_of fs places s = box_on (place_at places s) (half_sides_at fs s).half

-- the place of station s, where the boxes of the stations `done` stand
unfoldable pub next_place : List HalfSides → List Offset → List Point → List ℕ → ℕ → Point
next_place fs os places done s = place_for (place_at places s) (half_sides_at fs s) (map (box_of fs places) done) os

-- the stations' places once the first i of the order are placed; the others' are their seeds
unfoldable pub places_to : List HalfSides → List Offset → List Point → List ℕ → ℕ → List Point
places_to fs os seeds order zero = seeds
places_to fs os seeds order (suc i) =
    let places = places_to fs os seeds order i in
    let s = get_or order i 0 in
    set places s (next_place fs os places (take i order) s)

unfoldable pub places : List HalfSides → List Offset → List Point → List ℕ → List Point
places fs os seeds order = places_to fs os seeds order (length order)

-- the i-th station of the order found a free place: there its box with its buffer overlaps no earlier box
unfoldable pub found_free : List HalfSides → List Offset → List Point → List ℕ → ℕ → Bool
found_free fs os seeds order i =
    free
    (buffered (place_at (places fs os seeds order) (get_or order i 0)) (half_sides_at fs (get_or order i 0)))
    (map (box_of fs (places_to fs os seeds order i)) (take i order))

-- the i-th station of the order, where the first i are placed: its search finds a free place
unfoldable pub finds_free : List HalfSides → List Offset → List Point → List ℕ → ℕ → Bool
finds_free fs os seeds order i =
    let before = places_to fs os seeds order i in
    let s = get_or order i 0 in
    is_some (found_place (place_at before s) (half_sides_at fs s) (map (box_of fs before) (take i order)) os)

-- each of the first i does
unfoldable pub find_free_to : List HalfSides → List Offset → List Point → List ℕ → ℕ → Bool
find_free_to fs os seeds order zero = true
find_free_to fs os seeds order (suc i) = find_free_to fs os seeds order i && finds_free fs os seeds order i

-- each station of the order does
abbrev pub all_find_free : List HalfSides → List Offset → List Point → List ℕ → Bool
all_find_free fs os seeds order = find_free_to fs os seeds order (length order)

-- the box list: zeros where a station isn't occupied
unfoldable pub boxes : List HalfSides → List ℕ → List Point → List Box
boxes fs counts ps = table (λ s. let b = box_of fs ps s in pick (is_occupied counts s) b no_box) (length counts)
