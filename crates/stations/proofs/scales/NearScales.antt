-- Scales depend only on the points that they are said to be of, the first n of a list. Assumes nothing.
use mathlib.Core.Path.{◌≡◌, refl, sym, ap, ◌∙◌}
use mathlib.Core.Bool.{Bool, true, false, not, ◌&&◌}
use mathlib.Core.List.{List}
use Prim.Native.Nat.{ℕ, suc, ◌*◌, ◌≤◌, ◌<◌}
use lib.Dec.{eqb}
use lib.ListN.{length, take}
use lib.Ieee.{Float, lt, le}
use Rattle.numbers.specs.Ops.{f0, f1, ◌⊗◌}
use Rattle.numbers.specs.Order.{pick}
use Rattle.numbers.specs.Table.{how_many}
use Rattle.numbers.proofs.order.Tables.{table_ext, how_many_ext, how_many_yes, how_many_mono, length_which}
use Rattle.plane.specs.declared.geometry.Point.{Point}
use Rattle.plane.specs.Plane.{point_at}
use Rattle.plane.specs.Near.{distance, near, within, neighbours}
use Rattle.network.specs.declared.options.Options.{Options}
use Rattle.network.specs.Words.{is_occupied, occupied}
use Rattle.stations.specs.Unit.{coordinates}
use Rattle.stations.specs.Scale.{tier, occupied_below, scale_at, scales_of, scales}
use Rattle.stations.proofs.units.Near.{distance_take}

-- whether a point is near depends on its distance only
near_by : (ps qs : List Float) (tier_distance : Float) (i j : ℕ) → distance (point_at qs i) (point_at qs j) ≡ distance (point_at ps i) (point_at ps j)
    → near qs tier_distance i j ≡ near ps tier_distance i j
unfolding near
near_by ps qs tier_distance i j e = ap (λ (d : Float). not (eqb j i) && le d tier_distance) e

-- an occupied station has fewer occupied ones below it than there are
pub occupied_below_lem : (counts : List ℕ) (s : ℕ) → s < length counts → is_occupied counts s ≡ true → occupied_below counts s < length (occupied counts)
unfolding occupied occupied_below
occupied_below_lem counts s h t =
    let p : how_many (is_occupied counts) (suc s) ≤ how_many (is_occupied counts) (length counts) = how_many_mono (is_occupied counts) (suc s) (length counts) h in
    rw length_which (rw (how_many_yes (is_occupied counts) s t) at p)

module _ (ps : List Float) (n : ℕ) where
  abbrev qs : List Float
  qs = take (2 * n) ps

  neighbours_take : (tier_distance : Float) (i : ℕ) → i < n → neighbours qs n tier_distance i ≡ neighbours ps n tier_distance i
  unfolding neighbours within
  neighbours_take tier_distance i h = ap (λ (c : ℕ). pick (lt f0 tier_distance) c 0) (how_many_ext (near qs tier_distance i) (near ps tier_distance i) n same)
    where
      same : (j : ℕ) → j < n → near qs tier_distance i j ≡ near ps tier_distance i j
      same j k = near_by ps qs tier_distance i j (distance_take ps n i j h k)

  -- and the scales by them, where they are those of the occupied stations
  module _ (O : Options) (counts : List ℕ) (e : n ≡ length (occupied counts)) where
    scale_take : (tier_distance : Float) (s : ℕ) → s < length counts → scale_at O qs n tier_distance counts s ≡ scale_at O ps n tier_distance counts s
    unfolding scale_at
    scale_take tier_distance s h = go (is_occupied counts s) refl
      where
        go : (b : Bool) → is_occupied counts s ≡ b
            → pick b (tier O (neighbours qs n tier_distance (occupied_below counts s))) f1 ≡ pick b (tier O (neighbours ps n tier_distance (occupied_below counts s))) f1
        go true t = ap (tier O) (neighbours_take tier_distance (occupied_below counts s) (rw e (occupied_below_lem counts s h t)))
        go false t = refl

    pub scales_take : (sp : Float) → scales_of O qs n sp counts ≡ scales_of O ps n sp counts
    unfolding scales_of
    scales_take sp = table_ext (scale_at O qs n tier_distance counts) (scale_at O ps n tier_distance counts) (length counts) (scale_take tier_distance)
      where
        tier_distance : Float
        tier_distance = O.tier_radius ⊗ sp

-- ---- with the points of the occupied stations at the front of the list
module _ (ps : List Float) (n : ℕ) (seeds : List Point) (counts : List ℕ) (e : n ≡ length (occupied counts)) (t : take (2 * n) ps ≡ coordinates seeds (occupied counts)) where
  pub scales_is : (O : Options) (sp : Float) → scales_of O ps n sp counts ≡ scales O seeds counts sp
  unfolding scales
  scales_is O sp =
      sym (scales_take ps n O counts e sp) ∙ ap (λ (l : List Float). scales_of O l n sp counts) t
      ∙ ap (λ (m : ℕ). scales_of O (coordinates seeds (occupied counts)) m sp counts) e
