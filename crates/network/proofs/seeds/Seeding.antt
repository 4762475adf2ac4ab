-- Seeds on the list that holds them: set to (0, 0), summed one bus at a time, divided by their counts one station at a time.
-- Assumes nothing.
use Prim.Native.Nat.{ℕ, zero, suc, ◌+◌, ◌*◌, ◌<◌, ◌≤◌}
use mathlib.Core.Path.{◌≡◌, refl, sym, ap, ◌∙◌}
use mathlib.Core.Logic.{◌≢◌}
use mathlib.Core.Bool.{◌&&◌}
use mathlib.Core.List.{List, ◌++◌}
use native.Mathlib.Numerals.{add-one}
use native.Mathlib.Omega.{arith}
use borrow.Author.Count.{below_more}
use borrow.Author.Tests.{eq-eqb, ne_eqb}
use lib.ListN.{length, get_or, set, replicate, length-replicate, get_or-replicate, get_or-append}
use lib.Ieee.{Float, nan}
use Rattle.numbers.specs.Ops.{f0, num, ◌⊕◌, ◌⊘◌}
use Rattle.numbers.specs.Small.{is_finite}
use Rattle.numbers.specs.Order.{pick}
use Rattle.numbers.specs.Table.{table}
use Rattle.numbers.proofs.order.Tables.{get_d_table, table_ext}
use Rattle.numbers.proofs.order.Strides.{table_set, get_d_first}
use Rattle.plane.specs.declared.geometry.Point.{Point}
use Rattle.plane.specs.Plane.{point, origin, point_at}
use Rattle.network.specs.Words.{station_of, station_count, buses_in, bus_counts}
use Rattle.network.specs.Views.{counts_in, points_in}
use Rattle.network.specs.Seed.{point_of, bus_point, plus, sum_to, mean, seed_of, seeds}
use Rattle.network.proofs.Views.{put_point, point_same, point_other, get_d_points, points_set}

-- ---- the first k of them at (0, 0)
pub zeroed : (k m : ℕ) (ys rest : List Float) → ys ≡ replicate m f0 → m ≡ 2 * k → points_in k (ys ++ rest) ≡ table (λ s. origin) k
unfolding points_in
zeroed k m ys rest e q = table_ext (point_at (ys ++ rest)) (λ s. origin) k (λ s h. ap (λ (x : Float). point x (get_or (ys ++ rest) (2 * s + 1) nan)) (at (2 * s) (omega arith)) ∙ ap (λ (y : Float). point f0 y) (at (2 * s + 1) (omega arith)))
  where
    at : (i : ℕ) → i < 2 * k → get_or (ys ++ rest) i nan ≡ f0
    at i h =
        ap (λ (z : List Float). get_or (z ++ rest) i nan) (e ∙ ap (λ (n : ℕ). replicate n f0) q) ∙ get_or-append (replicate (2 * k) f0) rest nan i (simp length-replicate h)
        ∙ get_or-replicate (2 * k) i f0 nan h

-- ---- the sums of the first i buses
module _ (sub : List ℕ) (xy : List Float) where
  abbrev sum_by : ℕ → ℕ → Point
  sum_by i s = sum_to sub xy s i

  pub record Summed (k i : ℕ) (l : List Float) : Type 0 where
    pub points : points_in k l ≡ table (sum_by i) k

  sum_own : (i s : ℕ) → s ≡ station_of sub i → sum_by (i + 1) s ≡ plus (sum_by i s) (bus_point xy i)
  unfolding sum_to
  sum_own i s e = rw (add-one i, eq-eqb (station_of sub i) s (sym e))

  sum_other : (i s : ℕ) → station_of sub i ≢ s → sum_by (i + 1) s ≡ sum_by i s
  unfolding sum_to
  sum_other i s n = rw (add-one i, ne_eqb (station_of sub i) s n)

  sum_none : (s : ℕ) → sum_by 0 s ≡ origin
  unfolding sum_to
  sum_none s = refl

  pub summed_none : (k : ℕ) (l : List Float) → points_in k l ≡ table (λ s. origin) k → Summed k 0 l
  summed_none k l e = record { points = e ∙ table_ext (λ s. origin) (sum_by 0) k (λ s h. sym (sum_none s)) }

  pub summed_more : (k i s : ℕ) (p q : Point) (l m : List Float) → 2 * k ≤ length l → s ≡ station_of sub i → s < k → p ≡ point_at l s → q ≡ bus_point xy i
      → m ≡ put_point l s (p.x ⊕ q.x) (p.y ⊕ q.y) → Summed k i l → Summed k (i + 1) m
  summed_more k i s p q l m r e h u v w c =
      let z : 2 * s + 1 < length l = omega arith in
      let t : p ≡ sum_by i s = u ∙ sym (get_d_points k s l origin h) ∙ ap (λ (t : List Point). get_or t s origin) c.points ∙ get_d_table (sum_by i) k s origin h in
      let y : sum_by (i + 1) s ≡ plus p q = sum_own i s e ∙ ap (λ (a : Point). plus a (bus_point xy i)) (sym t) ∙ ap (plus p) (sym v) in
      record {
        points = ap (points_in k) w ∙ points_set k s l (p.x ⊕ q.x) (p.y ⊕ q.y) h z ∙ ap (λ (t : List Point). set t s (plus p q)) c.points
            ∙ sym (table_set (sum_by i) (sum_by (i + 1)) k s (plus p q) h y (λ j g n. sum_other i j (λ a. n (sym a ∙ sym e))));
      }

-- ---- the sums of the first s stations divided
pub record Divided (counts : List ℕ) (l₀ : List Float) (s : ℕ) (l : List Float) : Type 0 where
  pub done : (j : ℕ) → j < s → point_at l j ≡ mean (get_or counts (2 * j) 0) (point_at l₀ j)
  pub rest : (j : ℕ) → s ≤ j → point_at l j ≡ point_at l₀ j

pub divided_none : (counts : List ℕ) (l : List Float) → Divided counts l 0 l
divided_none counts l = record { done = λ j h. absurd (omega arith); rest = λ j h. refl }

pub divided_more : (counts : List ℕ) (l₀ l m : List Float) (s c : ℕ) (p v : Point) → 2 * s + 1 < length l → c ≡ get_or counts (2 * s) 0 → p ≡ point_at l s → v ≡ mean c p
    → m ≡ put_point l s v.x v.y → Divided counts l₀ s l → Divided counts l₀ (s + 1) m
divided_more counts l₀ l m s c p v h u q w z d =
    let own : point_at m s ≡ v = ap (λ (t : List Float). point_at t s) z ∙ point_same l s v.x v.y h in
    let now : v ≡ mean (get_or counts (2 * s) 0) (point_at l₀ s) = w ∙ ap (λ (t : ℕ). mean t p) u ∙ ap (mean (get_or counts (2 * s) 0)) (q ∙ d.rest s (omega arith)) in
    record {
      done = below_more (λ j. point_at m j ≡ mean (get_or counts (2 * j) 0) (point_at l₀ j)) s
          (λ j g. ap (λ (t : List Float). point_at t j) z ∙ point_other l s j v.x v.y (λ e. omega arith) ∙ d.done j g) (own ∙ now);
      rest = λ j g. ap (λ (t : List Float). point_at t j) z ∙ point_other l s j v.x v.y (λ e. omega arith) ∙ d.rest j (omega arith);
    }

pub divided_all : (counts : List ℕ) (l₀ l : List Float) (k : ℕ) → Divided counts l₀ k l → points_in k l ≡ table (λ s. mean (get_or counts (2 * s) 0) (point_at l₀ s)) k
unfolding points_in
divided_all counts l₀ l k d = table_ext (point_at l) (λ s. mean (get_or counts (2 * s) 0) (point_at l₀ s)) k d.done

-- ---- together
pub seeds_are : (sub : List ℕ) (xy : List Float) (k : ℕ) (stations : List ℕ) (l₁ l : List Float) → k ≡ station_count sub → counts_in k stations ≡ bus_counts sub
    → points_in k l₁ ≡ table (λ s. sum_to sub xy s (length sub)) k → points_in k l ≡ table (λ s. mean (get_or stations (2 * s) 0) (point_at l₁ s)) k → points_in k l ≡ seeds sub xy
unfolding seeds seed_of bus_counts
seeds_are sub xy k stations l₁ l e c p q =
    q ∙ table_ext (λ s. mean (get_or stations (2 * s) 0) (point_at l₁ s)) (seed_of sub xy) k (λ s h. ap (λ (t : ℕ). mean t (point_at l₁ s)) (count s h) ∙ ap (mean (buses_in sub s)) (sum s h))
    ∙ ap (table (seed_of sub xy)) e
  where
    count : (s : ℕ) → s < k → get_or stations (2 * s) 0 ≡ buses_in sub s
    count s h =
        let g : s < station_count sub = omega arith in
        sym (get_d_first 2 0 k s stations 0 h) ∙ ap (λ (t : List ℕ). get_or t s 0) c ∙ get_d_table (buses_in sub) (station_count sub) s 0 g

    sum : (s : ℕ) → s < k → point_at l₁ s ≡ sum_to sub xy s (length sub)
    sum s h = sym (get_d_points k s l₁ origin h) ∙ ap (λ (t : List Point). get_or t s origin) p ∙ get_d_table (λ s. sum_to sub xy s (length sub)) k s origin h

-- ---- a bus's point by the two coordinates that are there
pub bus_at : (xy : List Float) (i : ℕ) (p r : Point) → p ≡ point_at xy i → r ≡ pick (is_finite p.x && is_finite p.y) p origin → r ≡ bus_point xy i
unfolding bus_point point_of
bus_at xy i p r e q = q ∙ ap (λ (t : Point). pick (is_finite t.x && is_finite t.y) t origin) e

pub mean_zero : (c : ℕ) (p : Point) → c ≡ 0 → p ≡ mean c p
unfolding mean
mean_zero c p e = rw e

pub mean_more : (c : ℕ) (p : Point) → (c ≡ 0 → ⊥) → point (p.x ⊘ num c) (p.y ⊘ num c) ≡ mean c p
unfolding mean
mean_more zero p n = absurd (n refl)
mean_more (suc c) p n = refl
