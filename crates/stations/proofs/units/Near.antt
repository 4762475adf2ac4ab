-- Spacing depends only on the points that it is said to be of, the first n of a list. Assumes nothing.
use Rattle.std.specs.Prelude.{unwrap_or}
use mathlib.Core.Path.{◌≡◌, refl, sym, ap, ◌∙◌}
use mathlib.Core.List.{List, ◌++◌}
use Prim.Native.Nat.{ℕ, zero, suc, ◌+◌, ◌*◌, ◌≤◌, ◌<◌}
use native.Mathlib.Omega.{arith}
use lib.Dec.{eqb}
use lib.ListN.{length, get_or, take, drop}
use lib.Seq.{get_or-take, take_at}
use lib.Ieee.{Float, nan}
use Rattle.numbers.specs.Ops.{f1}
use Rattle.numbers.specs.Order.{pick}
use Rattle.numbers.specs.Table.{table}
use Rattle.numbers.specs.Median.{median_of}
use Rattle.numbers.proofs.order.Tables.{length_table, table_ext}
use Rattle.plane.specs.declared.geometry.Point.{Point}
use Rattle.plane.specs.Plane.{point, point_at}
use Rattle.plane.specs.Near.{distance, nearer, nearest_to, nearest}
use Rattle.network.specs.Words.{occupied}
use Rattle.stations.specs.Unit.{coordinates, spacing_of, spacing}

-- the first n points of a list stand in its first 2 n numbers
point_take : (n j : ℕ) (ps : List Float) → j < n → point_at (take (2 * n) ps) j ≡ point_at ps j
point_take n j ps h =
    ap (λ (a : Float). point a (get_or (take (2 * n) ps) (2 * j + 1) nan)) (get_or-take (2 * n) ps (2 * j) nan (omega arith))
    ∙ ap (λ (b : Float). point (get_or ps (2 * j) nan) b) (get_or-take (2 * n) ps (2 * j + 1) nan (omega arith))

module _ (ps : List Float) (n : ℕ) where
  abbrev qs : List Float
  qs = take (2 * n) ps

  pub distance_take : (i j : ℕ) → i < n → j < n → distance (point_at qs i) (point_at qs j) ≡ distance (point_at ps i) (point_at ps j)
  distance_take i j h k = ap (λ (p : Point). distance p (point_at qs j)) (point_take n i ps h) ∙ ap (distance (point_at ps i)) (point_take n j ps k)

  nearest_to_take : (i j : ℕ) → i < n → j ≤ n → nearest_to qs i j ≡ nearest_to ps i j
  unfolding nearest_to
  nearest_to_take i zero h k = refl
  nearest_to_take i (suc j) h k =
      let g : j < n = omega arith in
      let f : j ≤ n = omega arith in
      ap (λ (b : Float). pick (eqb j i) b (nearer b (distance (point_at qs i) (point_at qs j)))) (nearest_to_take i j h f)
      ∙ ap (λ (d : Float). pick (eqb j i) (nearest_to ps i j) (nearer (nearest_to ps i j) d)) (distance_take i j h g)

  pub nearest_take : (i : ℕ) → i < n → nearest qs n i ≡ nearest ps n i
  unfolding nearest
  nearest_take i h = nearest_to_take i n h (omega arith)

  -- the spacing of the first n points
  pub spacing_take : spacing_of qs n ≡ spacing_of ps n
  unfolding spacing_of
  spacing_take = ap (λ (l : List Float). unwrap_or (median_of l) f1) (table_ext (nearest qs n) (nearest ps n) n nearest_take)

-- the spacing by a list that has the distances at its front
pub spacing_of_lem : (ps l out : List Float) (n : ℕ) (r : Float) → out ≡ table (nearest ps n) n ++ drop n l → r ≡ unwrap_or (median_of (take n out)) f1 → r ≡ spacing_of ps n
unfolding spacing_of
spacing_of_lem ps l out n r e f =
    let t : take n out ≡ table (nearest ps n) n = ap (take n) e ∙ take_at (table (nearest ps n) n) (drop n l) n (length_table (nearest ps n) n) in
    f ∙ ap (λ (q : List Float). unwrap_or (median_of q) f1) t

-- ---- with the points of the occupied stations at the front of the list
module _ (ps : List Float) (n : ℕ) (seeds : List Point) (counts : List ℕ) (e : n ≡ length (occupied counts)) (t : take (2 * n) ps ≡ coordinates seeds (occupied counts)) where
  pub spacing_is : spacing_of ps n ≡ spacing seeds counts
  unfolding spacing
  spacing_is = sym (spacing_take ps n) ∙ ap (λ (l : List Float). spacing_of l n) t ∙ ap (spacing_of (coordinates seeds (occupied counts))) e
