-- A drawing sees of the map only the points of its buses: two maps with the same points have the same drawing. Maps scaled bus by bus. Assumes nothing.
use mathlib.Core.Path.{◌≡◌, refl, sym, ap, ◌∙◌, subst}
use mathlib.Core.Bool.{Bool, true, false, ◌&&◌}
use mathlib.Core.List.{List}
use Prim.Native.Nat.{ℕ, zero, suc, ◌+◌, ◌*◌, ◌<◌}
use native.Mathlib.Nat.{le_refl}
use native.Mathlib.Omega.{arith}
use lib.Dec.{T, eqb}
use lib.ListN.{length, get_or}
use lib.Ieee.{Float, nan, binary64, fits}
use lib.Ieee.Fits.{mul-fits}
use Rattle.numbers.specs.Small.{is_finite}
use Rattle.numbers.specs.Ops.{f2}
use Rattle.numbers.specs.Double.{scaled}
use Rattle.numbers.proofs.float.DoubleLaws.{finite_twice}
use Rattle.numbers.specs.Order.{pick}
use Rattle.numbers.proofs.order.Tables.{table_ext}
use Rattle.plane.specs.declared.geometry.Point.{Point}
use Rattle.plane.specs.Plane.{point, origin}
use Rattle.network.specs.declared.options.Options.{Options}
use Rattle.network.specs.Words.{station_count, station_of, buses_in}
use Rattle.network.specs.Seed.{point_of, bus_point, plus, sum_to, mean, seed_of, seeds}
use Rattle.drawing.specs.Network.{Network}
use Rattle.drawing.specs.Drawing.{planned, routed_of, scene_of, drawing}
use Rattle.doubling.specs.Doubling.{HasPoint, Allowed, ScaledBus, with_map}
use Rattle.doubling.proofs.Powers.{at_times, scaled_front, both_true, had, absent_next, times_number, allowed_next}
use Rattle.doubling.specs.Example.{times2, times}

-- ---- maps with the same points
sum_ext : (sub : List ℕ) (xy xy' : List Float) (s n : ℕ) → ((i : ℕ) → i < n → bus_point xy' i ≡ bus_point xy i) → sum_to sub xy' s n ≡ sum_to sub xy s n
unfolding sum_to
sum_ext sub xy xy' s zero h = refl
sum_ext sub xy xy' s (suc n) h =
    let e : sum_to sub xy' s n ≡ sum_to sub xy s n = sum_ext sub xy xy' s n (λ i l. h i (omega arith)) in
    ap (λ (p : Point). pick (eqb (station_of sub n) s) (plus p (bus_point xy' n)) p) e
    ∙ ap (λ (q : Point). pick (eqb (station_of sub n) s) (plus (sum_to sub xy s n) q) (sum_to sub xy s n)) (h n (le_refl (suc n)))

pub seeds_ext : (sub : List ℕ) (xy xy' : List Float) → ((i : ℕ) → i < length sub → bus_point xy' i ≡ bus_point xy i) → seeds sub xy' ≡ seeds sub xy
unfolding seeds seed_of
seeds_ext sub xy xy' h = table_ext (seed_of sub xy') (seed_of sub xy) (station_count sub) (λ s l. ap (mean (buses_in sub s)) (sum_ext sub xy xy' s (length sub) h))

pub drawing_ext : (O : Options) (N : Network) (xy xy' : List Float) → seeds N.station xy' ≡ seeds N.station xy → drawing O (with_map N xy') ≡ drawing O (with_map N xy)
unfolding drawing planned scene_of routed_of
drawing_ext O N xy xy' e = rw e

-- ---- one bus of scaled maps
pub same_bus : (k : ℕ) (xy xy₁ xy₂ : List Float) (i : ℕ) → ScaledBus k xy xy₁ i → ScaledBus k xy xy₂ i → bus_point xy₂ i ≡ bus_point xy₁ i
unfolding bus_point point_of
same_bus k xy xy₁ xy₂ i a b = go (is_finite (get_or xy (2 * i) nan) && is_finite (get_or xy (2 * i + 1) nan)) refl
  where
    none : (l : List Float) → is_finite (get_or l (2 * i) nan) && is_finite (get_or l (2 * i + 1) nan) ≡ false → pick (is_finite (get_or l (2 * i) nan) && is_finite (get_or l (2 * i + 1) nan)) (point (get_or l (2 * i) nan) (get_or l (2 * i + 1) nan)) origin ≡ origin
    none l e = ap (λ (t : Bool). pick t (point (get_or l (2 * i) nan) (get_or l (2 * i + 1) nan)) origin) e

    go : (t : Bool) → is_finite (get_or xy (2 * i) nan) && is_finite (get_or xy (2 * i + 1) nan) ≡ t
        → pick (is_finite (get_or xy₂ (2 * i) nan) && is_finite (get_or xy₂ (2 * i + 1) nan)) (point (get_or xy₂ (2 * i) nan) (get_or xy₂ (2 * i + 1) nan)) origin
        ≡ pick (is_finite (get_or xy₁ (2 * i) nan) && is_finite (get_or xy₁ (2 * i + 1) nan)) (point (get_or xy₁ (2 * i) nan) (get_or xy₁ (2 * i + 1) nan)) origin
    go true e =
        let h = both_true _ _ e in
        ap (λ (x : Float). pick (is_finite x && is_finite (get_or xy₂ (2 * i + 1) nan)) (point x (get_or xy₂ (2 * i + 1) nan)) origin) (b.first h ∙ sym (a.first h))
        ∙ ap (λ (y : Float). pick (is_finite (get_or xy₁ (2 * i) nan) && is_finite y) (point (get_or xy₁ (2 * i) nan) y) origin) (b.second h ∙ sym (a.second h))
    go false e = none xy₂ (b.absent e) ∙ sym (none xy₁ (a.absent e))

-- the same bus in another list
pub bus_moved : (k : ℕ) (xy xy₁ l : List Float) (i : ℕ) → get_or xy₁ (2 * i) nan ≡ get_or xy (2 * i) nan → get_or xy₁ (2 * i + 1) nan ≡ get_or xy (2 * i + 1) nan → ScaledBus k xy l i → ScaledBus k xy₁ l i
bus_moved k xy xy₁ l i e f b = record {
  first = λ h. b.first (back h) ∙ ap (scaled k) (sym e);
  second = λ h. b.second (back h) ∙ ap (scaled k) (sym f);
  absent = λ h. b.absent (ap (λ (x : Float). is_finite x && is_finite (get_or xy (2 * i + 1) nan)) (sym e) ∙ ap (λ (y : Float). is_finite (get_or xy₁ (2 * i) nan) && is_finite y) (sym f) ∙ h);
}
  where
    back : HasPoint xy₁ i → HasPoint xy i
    back h = (ap is_finite (sym e) ∙ h.0, ap is_finite (sym f) ∙ h.1)

-- a list whose numbers for the bus are the same
pub bus_kept : (xy xy₁ : List Float) (i : ℕ) → get_or xy₁ (2 * i) nan ≡ get_or xy (2 * i) nan → get_or xy₁ (2 * i + 1) nan ≡ get_or xy (2 * i + 1) nan → ScaledBus 0 xy xy₁ i
unfolding scaled
bus_kept xy xy₁ i e f = record {
  first = λ h. e;
  second = λ h. f;
  absent = λ h. ap (λ (x : Float). is_finite x && is_finite (get_or xy₁ (2 * i + 1) nan)) e ∙ ap (λ (y : Float). is_finite (get_or xy (2 * i) nan) && is_finite y) f ∙ h;
}

-- ---- a map made by the format's own product with 2, k times, is such a map
pub bus_times : (k : ℕ) (xy : List Float) (i : ℕ) → T (fits binary64 (get_or xy (2 * i) nan)) → T (fits binary64 (get_or xy (2 * i + 1) nan))
    → (HasPoint xy i → Allowed k (get_or xy (2 * i) nan) × Allowed k (get_or xy (2 * i + 1) nan)) → ScaledBus k xy (times k xy) i
bus_times zero xy i f g a = bus_kept xy xy i refl refl
bus_times (suc k) xy i f g a =
    let b = bus_times k (times2 xy) i (product-held (2 * i)) (product-held (2 * i + 1)) (λ h. let p = had xy i h in (allowed_next k (2 * i) xy f p.0 (a p).0, allowed_next k (2 * i + 1) xy g p.1 (a p).1)) in
    record {
      first = λ h. b.first (has h) ∙ ap (scaled k) (times_number k (2 * i) xy f h.0 (a h).0) ∙ scaled_front k (get_or xy (2 * i) nan);
      second = λ h. b.second (has h) ∙ ap (scaled k) (times_number k (2 * i + 1) xy g h.1 (a h).1) ∙ scaled_front k (get_or xy (2 * i + 1) nan);
      absent = λ h. b.absent (absent_next xy i h);
    }
  where
    product-held : (j : ℕ) → T (fits binary64 (get_or (times2 xy) j nan))
    product-held j = subst (λ (z : Float). T (fits binary64 z)) (sym (at_times xy j)) (mul-fits binary64 f2 (get_or xy j nan))

    has : HasPoint xy i → HasPoint (times2 xy) i
    has h = (
      ap is_finite (times_number k (2 * i) xy f h.0 (a h).0) ∙ finite_twice (get_or xy (2 * i) nan) ∙ h.0,
      ap is_finite (times_number k (2 * i + 1) xy g h.1 (a h).1) ∙ finite_twice (get_or xy (2 * i + 1) nan) ∙ h.1,
    )
