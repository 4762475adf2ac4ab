-- The rounds' end: what the steps of the code give together. Assumes nothing.
use mathlib.Core.Path.{◌≡◌, ap, ◌∙◌, subst}
use mathlib.Core.List.{List}
use Prim.Native.Nat.{ℕ, ◌<◌}
use native.Mathlib.Omega.{arith}
use lib.IntN.{ℤ}
use lib.ListN.{length, take}
use lib.Ieee.{Float}
use Rattle.numbers.specs.Table.{table}
use Rattle.numbers.proofs.order.Tables.{table_ext}
use Rattle.network.specs.Views.{points_in}
use Rattle.stations.specs.declared.measures.Measures.{Measures}
use Rattle.routing.specs.Route.{MeshScene, Routing, point_of, rounds_to, routing}
use Rattle.routing.specs.Stages.Views.{grid, scene_in}
use Rattle.routing.specs.Stages.RoundLists.{RoundLists, held, half_edge_in, point_held, rounds_in, Cornered, Ranged, Entered}
use Rattle.channels.specs.Stages.Grouped.{Grouped}
use Rattle.routing.proofs.rounds.Meaning.{Means, point_is, rounds_are}
use Rattle.routing.proofs.rounds.Holding.{cornered, means}

module _ (sub : List ℕ) (from to : List ℤ) (service : List ℕ) (measures : Measures) (ends : List ℕ) (blocks places frames : List Float) (k c : ℕ) (stations : List ℕ) (centres : List Float)
    (corners twins numbers : List ℕ) (along : List Float) (channels crossings : ℕ)
    (entered : Entered (grid sub from to service measures ends blocks places frames) k c stations centres corners twins numbers along channels crossings)
    (ends' numbers' : List ℕ) (centres' : List Float) (grouped : Grouped (length from) channels crossings ends numbers ends' numbers') where
  abbrev S' : MeshScene
  S' = scene_in (grid sub from to service measures ends blocks places frames) k c stations centres corners twins

  abbrev R' : Routing
  R' = routing S'

  abbrev H' : RoundLists
  H' = held (length from) (length sub) ends' places centres' corners numbers'

  grouped_all : Grouped (length from) (length R'.channels) (length R'.crossings) ends numbers ends' numbers'
  grouped_all =
      subst (λ (t : ℕ). Grouped (length from) t (length R'.crossings) ends numbers ends' numbers') entered.channels_are
      (subst (λ (t : ℕ). Grouped (length from) channels t ends numbers ends' numbers') entered.crossings_are grouped)

  pub cornered_all : (d : ℕ) → d < channels → Cornered frames stations corners c (half_edge_in (length from) ends' d)
  cornered_all d h =
      cornered sub from to service measures ends blocks places frames k c stations centres corners twins numbers along ends' numbers' centres' entered.mesh entered.exits entered.boxes entered.occupied entered.stored grouped_all d
      (subst (λ (t : ℕ). d < t) entered.channels_are h)

  started : take (length R'.crossings) along ≡ rounds_to S' R' 0
  unfolding rounds_to
  started = entered.stored.placed

  module _ (ranged : Ranged measures.unit blocks frames stations corners (length from) ends' c channels centres centres') (n : ℕ) (l : List Float) (h : l ≡ rounds_in c H' channels n along) where
    meaning : Means S' R' c H'
    meaning =
        means sub from to service measures ends blocks places frames k c stations centres corners twins numbers along ends' numbers' centres' entered.mesh entered.exits entered.boxes entered.occupied entered.stored grouped_all
        (subst (λ (t : ℕ). Ranged measures.unit blocks frames stations corners (length from) ends' c t centres centres') entered.channels_are ranged)

    places_are : take (length R'.crossings) l ≡ rounds_to S' R' n
    places_are = ap (take (length R'.crossings)) (h ∙ ap (λ (t : ℕ). rounds_in c H' t n along) entered.channels_are) ∙ rounds_are S' R' c H' meaning n along started

    pub points_are : (ways : List Float) → points_in crossings ways ≡ table (point_held H' l) crossings → points_in crossings ways ≡ table (point_of S' R' (rounds_to S' R' n)) crossings
    points_are ways e =
        e
        ∙ table_ext (point_held H' l) (point_of S' R' (rounds_to S' R' n)) crossings
        (λ x g. point_is S' R' c H' meaning l x (omega (arith, entered.crossings_are)) ∙ ap (λ (t : List Float). point_of S' R' t x) places_are)
