-- Small meshes and what the test of refusal 9 answers, as a table and one theorem.
use Rattle.std.specs.Prelude.{◌≡◌, refl, ℕ, Bool, true, false, List, [], ◌∷◌, map}
use Rattle.network.specs.Mesh.{no_twin, mesh_ok}

record Case : Type 0 where
  corners : List ℕ
  twins : List ℕ
  stations : ℕ

abbrev passes : Case → Bool
passes c = mesh_ok c.corners c.twins c.stations

abbrev none : ℕ
none = no_twin

-- two triangles with a common edge, from 1 to 2
abbrev kite : List ℕ
kite = 0 ∷ 1 ∷ 2 ∷ 2 ∷ 1 ∷ 3 ∷ []

abbrev kite_twins : List ℕ
kite_twins = none ∷ 3 ∷ none ∷ 1 ∷ none ∷ none ∷ []

abbrev cases : List Case
cases =
    record { corners = []; twins = []; stations = 3 }
    ∷ record { corners = kite; twins = kite_twins; stations = 4 }
    -- both sides of one triangle, odd but accepted
    ∷ record { corners = 0 ∷ 1 ∷ 2 ∷ 1 ∷ 0 ∷ 2 ∷ []; twins = 3 ∷ 5 ∷ 4 ∷ 0 ∷ 2 ∷ 1 ∷ []; stations = 3 }
    -- a vertex past the stations
    ∷ record { corners = kite; twins = kite_twins; stations = 3 }
    -- lists of two lengths
    ∷ record { corners = kite; twins = none ∷ none ∷ none ∷ []; stations = 4 }
    -- no multiple of 3
    ∷ record { corners = 0 ∷ 1 ∷ []; twins = none ∷ none ∷ []; stations = 4 }
    -- two vertices of a triangle are one
    ∷ record { corners = 0 ∷ 1 ∷ 0 ∷ []; twins = none ∷ none ∷ none ∷ []; stations = 4 }
    -- a twin that does not point back, one with other ends, one past the mesh
    ∷ record { corners = kite; twins = none ∷ 3 ∷ none ∷ none ∷ none ∷ none ∷ []; stations = 4 }
    ∷ record { corners = kite; twins = none ∷ 4 ∷ none ∷ none ∷ 1 ∷ none ∷ []; stations = 4 }
    ∷ record { corners = kite; twins = none ∷ 9 ∷ none ∷ none ∷ none ∷ none ∷ []; stations = 4 }
    ∷ []

pub worked : map passes cases ≡ true ∷ true ∷ true ∷ false ∷ false ∷ false ∷ false ∷ false ∷ false ∷ false ∷ []
unfolding mesh_ok
worked = refl
