-- A mesh and the test of it (refusal 9; docs/RULES.md, 'Mesh'). Definitions only.
use Rattle.std.specs.Prelude.{ℕ, ◌+◌, ◌-◌, ◌%◌, min, max, Bool, not, cond, ◌&&◌, ◌||◌, leb, ltb, eqb}
use Rattle.std.specs.Prelude.{List, length, get_or}
use Rattle.numbers.specs.Order.{all_to}

-- A half-edge is a place h of the mesh. Three in a row are a triangle, and the next of the last is the first.
unfoldable pub next : ℕ → ℕ
next h = cond (eqb (h % 3) 2) (h - 2) (h + 1)

-- what stands at a place: a half-edge's first vertex in `corners`, its twin in `twins`
abbrev pub at : List ℕ → ℕ → ℕ
at l h = get_or l h 0

-- the vertex that a half-edge runs to
unfoldable pub end_at : List ℕ → ℕ → ℕ
unfolding next
end_at corners h = at corners (next h)

-- its two vertices without direction, the lower and the higher
unfoldable pub low_at : List ℕ → ℕ → ℕ
unfolding end_at
low_at corners h = min (at corners h) (end_at corners h)

unfoldable pub high_at : List ℕ → ℕ → ℕ
unfolding end_at
high_at corners h = max (at corners h) (end_at corners h)

-- the twin of a half-edge that has none
abbrev pub no_twin : ℕ
no_twin = 4294967295

-- vertices are below the occupied count n and distinct in each triangle: each is another than the next
unfoldable pub corner_ok : List ℕ → ℕ → ℕ → Bool
unfolding end_at
corner_ok corners n h = ltb (at corners h) n && not (eqb (at corners h) (end_at corners h))

-- the ends of g are those of h, reversed
unfoldable pub reversed : List ℕ → ℕ → ℕ → Bool
unfolding end_at
reversed corners h g = eqb (at corners g) (end_at corners h) && eqb (end_at corners g) (at corners h)

-- g is a place whose twin points back to h and whose ends are reversed
unfoldable pub pairs : List ℕ → List ℕ → ℕ → ℕ → Bool
unfolding reversed
pairs corners twins h g = ltb g (length corners) && (eqb (at twins g) h && reversed corners h g)

-- a twin is none or such a place
unfoldable pub twin_ok : List ℕ → List ℕ → ℕ → Bool
unfolding pairs
twin_ok corners twins h = eqb (at twins h) no_twin || pairs corners twins h (at twins h)

-- a half-edge's vertex and twin are in order
abbrev pub half_edge_ok : List ℕ → List ℕ → ℕ → ℕ → Bool
half_edge_ok corners twins n h = corner_ok corners n h && twin_ok corners twins h

-- every vertex and every twin is in order
unfoldable pub half_edges_ok : List ℕ → List ℕ → ℕ → Bool
unfolding all_to corner_ok twin_ok
half_edges_ok corners twins n = all_to (half_edge_ok corners twins n) (length corners)

-- a mesh over n occupied stations is two lists of one length, a multiple of 3 and at most 24,576, of such vertices and
-- twins
unfoldable pub mesh_ok : List ℕ → List ℕ → ℕ → Bool
unfolding half_edges_ok
mesh_ok corners twins n =
    eqb (length twins) (length corners)
    && (eqb (length corners % 3) 0 && (leb (length corners) 24576 && half_edges_ok corners twins n))
