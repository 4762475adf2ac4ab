-- The half-edges of a mesh by the vertex that they start at. Definitions only.
use Rattle.std.specs.Prelude.{ℕ, List, eqb, ltb, length}
use Rattle.numbers.specs.Order.{insert_by, sort_by, up_from, count, keep}
use Rattle.numbers.specs.Table.{how_many, which}
use Rattle.network.specs.Mesh.{at}

-- All half-edges by the vertex that they start at, those of one vertex by number.
unfoldable pub round_of : List ℕ → List ℕ
unfolding sort_by insert_by up_from
round_of corners = sort_by (at corners) (up_from 0 (length corners))

-- how many start at a vertex below v: v's half-edges begin there in that list
unfoldable pub first_at : List ℕ → ℕ → ℕ
unfolding count up_from
first_at corners v = how_many (λ h. ltb (at corners h) v) (length corners)

-- The half-edges that start at v, by number. Vertices are distinct in a triangle, so each triangle that has
-- v has one.
unfoldable pub around : List ℕ → ℕ → List ℕ
unfolding keep up_from
around corners v = which (λ h. eqb (at corners h) v) (length corners)
