-- The scales, the half sides and the boxes of two drawings, the second one's seeds doubled, with the ranges that the limits of seeds and options give. Assumes nothing.
use mathlib.Core.Path.{◌≡◌, refl, sym, ap, ◌∙◌, subst}
use mathlib.Core.Bool.{Bool, true, false}
use mathlib.Core.List.{List, [], ◌∷◌}
use Prim.Native.Nat.{ℕ, zero, suc, ◌+◌, ◌*◌, ◌^◌, ◌≤◌, ◌<◌}
use native.Mathlib.Nat.{le_refl, le_of_suc-le-suc, not-suc-le-zero, mul-le-mul_right, pow-succ'}
use native.Mathlib.Omega.{arith}
use lib.ListN.{length, get_or}
use lib.Ieee.{Float, nan}
use Rattle.numbers.specs.Ops.{f1, f2, ◌⊗◌, ◌⊘◌}
use Rattle.numbers.specs.Double.{Stepped, Limit, Doubles}
use Rattle.numbers.proofs.float.DoublePairs.{widen_doubles, mul_doubles, mul_doubles_2, div_doubles}
use Rattle.numbers.specs.Order.{pick}
use Rattle.numbers.specs.Table.{table_from}
use Rattle.plane.specs.declared.geometry.Point.{Point}
use Rattle.plane.specs.Plane.{point, point_at}
use Rattle.plane.specs.Near.{neighbours}
use Rattle.network.specs.declared.options.BlockOptions.{BlockOptions}
use Rattle.network.specs.declared.options.Options.{Options}
use Rattle.network.specs.Words.{is_occupied, occupied}
use Rattle.network.specs.Seed.{place_at}
use Rattle.stations.specs.Size.{Size}
use Rattle.stations.specs.Unit.{coordinates}
use Rattle.stations.specs.Scale.{tier, occupied_below, scale_at, scales_of, scales}
use Rattle.stations.proofs.scales.NearScales.{occupied_below_lem}
use Rattle.placement.specs.Search.{half_sides_for}
use Rattle.stations.specs.Doubles.{DoublesPoint}
use Rattle.placement.specs.Doubles.{DoublesHalfSides}
use Rattle.doubling.proofs.Sizes.{BlockOption, two, two_positive}
use Rattle.stations.proofs.units.SpacingDoubles.{neighbours_of_doubles}

-- ---- the seeds of some stations, as numbers side by side
coordinate_even : (a b : Float) (l : List Float) (k : ℕ) → get_or (a ∷ b ∷ l) (2 * suc k) nan ≡ get_or l (2 * k) nan
coordinate_even a b l k = ap (λ (n : ℕ). get_or (a ∷ b ∷ l) n nan) (at k)
  where
    at : (k : ℕ) → 2 * suc k ≡ suc (suc (2 * k))
    at k = omega arith

coordinate_odd : (a b : Float) (l : List Float) (k : ℕ) → get_or (a ∷ b ∷ l) (2 * suc k + 1) nan ≡ get_or l (2 * k + 1) nan
coordinate_odd a b l k = ap (λ (n : ℕ). get_or (a ∷ b ∷ l) n nan) (at k)
  where
    at : (k : ℕ) → 2 * suc k + 1 ≡ suc (suc (2 * k + 1))
    at k = omega arith

pub coordinates_at : (qs : List Point) (ss : List ℕ) (k : ℕ) → k < length ss → point_at (coordinates qs ss) k ≡ place_at qs (get_or ss k 0)
unfolding coordinates
coordinates_at qs [] k h = absurd (not-suc-le-zero h)
coordinates_at qs (s ∷ ss) zero h = refl
coordinates_at qs (s ∷ ss) (suc k) h =
    let a = place_at qs s in
    ap (λ (x : Float). point x (get_or (a.x ∷ a.y ∷ coordinates qs ss) (2 * suc k + 1) nan)) (coordinate_even a.x a.y (coordinates qs ss) k)
    ∙ ap (λ (y : Float). point (get_or (coordinates qs ss) (2 * k) nan) y) (coordinate_odd a.x a.y (coordinates qs ss) k)
    ∙ coordinates_at qs ss k (le_of_suc-le-suc h)

pub coordinates_doubles : {lo top : ℕ} (qs qs' : List Point) → ((s : ℕ) → DoublesPoint lo top (place_at qs s) (place_at qs' s)) → (ss : List ℕ) (k : ℕ) → k < length ss → DoublesPoint lo top (point_at (coordinates qs ss) k) (point_at (coordinates qs' ss) k)
coordinates_doubles {lo} {top} qs qs' P ss k h =
    subst (λ (p : Point). DoublesPoint lo top p (point_at (coordinates qs' ss) k)) (sym (coordinates_at qs ss k h))
    (subst (λ (p : Point). DoublesPoint lo top (place_at qs (get_or ss k 0)) p) (sym (coordinates_at qs' ss k h)) (P (get_or ss k 0)))

-- ---- the scales are the same
table_same : {A : Type 0} (f g : ℕ → A) (a n : ℕ) → ((i : ℕ) → i < a + n → f i ≡ g i) → table_from f a n ≡ table_from g a n
unfolding table_from
table_same f g a zero h = refl
table_same f g a (suc n) h = ap (λ (x : _). x ∷ table_from f (suc a) n) (h a (here a n)) ∙ ap (λ (l : List _). g a ∷ l) (table_same f g (suc a) n (λ i k. h i (later a n i k)))
  where
    here : (a n : ℕ) → a < a + suc n
    here a n = omega arith

    later : (a n i : ℕ) → i < suc a + n → i < a + suc n
    later a n i k = omega arith

pub scales_same : {i t j u : ℕ} (lo top : ℕ) → i ≡ 52 + lo → lo ≤ 2045 → (t + t) * (t + t) + (t + t) * (t + t) ≤ top * top → Limit (t + t) → Limit top
    → (O : Options) (qs qs' : List Point) (counts : List ℕ) (median_spacing median_spacing' : Float) → ((s : ℕ) → DoublesPoint i t (place_at qs s) (place_at qs' s)) → Doubles j u (O.tier_radius ⊗ median_spacing) (O.tier_radius ⊗ median_spacing')
    → scales O qs' counts median_spacing' ≡ scales O qs counts median_spacing
unfolding scales scales_of scale_at
scales_same lo top e r h d l O qs qs' counts median_spacing median_spacing' P f = table_same (at qs' median_spacing') (at qs median_spacing) 0 (length counts) same
  where
    ss : List ℕ
    ss = occupied counts

    at : List Point → Float → ℕ → Float
    at ps g s = pick (is_occupied counts s) (tier O (neighbours (coordinates ps ss) (length ss) (O.tier_radius ⊗ g) (occupied_below counts s))) f1

    go : (s : ℕ) → s < length counts → (b : Bool) → is_occupied counts s ≡ b
        → pick b (tier O (neighbours (coordinates qs' ss) (length ss) (O.tier_radius ⊗ median_spacing') (occupied_below counts s))) f1
        ≡ pick b (tier O (neighbours (coordinates qs ss) (length ss) (O.tier_radius ⊗ median_spacing) (occupied_below counts s))) f1
    go s k true o =
        ap (tier O) (neighbours_of_doubles lo top e r h d l (coordinates qs ss) (coordinates qs' ss) (length ss) (coordinates_doubles qs qs' P ss) (O.tier_radius ⊗ median_spacing) (O.tier_radius ⊗ median_spacing') f (occupied_below counts s) (occupied_below_lem counts s k o))
    go s k false o = refl

    zero-plus : (s n : ℕ) → s < 0 + n → s < n
    zero-plus s n h = omega arith

    same : (s : ℕ) → s < 0 + length counts → at qs' median_spacing' s ≡ at qs median_spacing s
    same s k = go s (zero-plus s (length counts) k) (is_occupied counts s) refl

-- ---- half sides
-- A unit of multiples of 2 ^ i grains and up to t, scales from 1/64 to 1, sides up to w blocks: blocks of multiples of 2 ^ (i - 58), half sides of 2 ^ (i - 164).
pub half_sides_doubles : {t w : ℕ} (lo : ℕ) (G : BlockOptions) (unit unit' scale : Float) (z : Size) → Doubles (lo + 164) t unit unit' → Stepped 1016 (2 ^ 1074) scale → Stepped 1021 (w * 2 ^ 1074) z.w → Stepped 1021 (w * 2 ^ 1074) z.h
    → BlockOption G.buffer → lo ≤ 1900 → 1 ≤ w → Limit t → Limit (t * w)
    → DoublesHalfSides lo (t * w) (half_sides_for (record { unit = unit; block_options = G }) scale z) (half_sides_for (record { unit = unit'; block_options = G }) scale z)
unfolding half_sides_for
half_sides_doubles {t} {w} lo G unit unit' scale z u s a b g r o l m =
    let f : Doubles (lo + 106) t (unit ⊗ scale) (unit' ⊗ scale) = mul_doubles (lo + 106) t u s (same lo) (least-2 lo) (le_refl (t * 2 ^ 1074)) l in
    record {
      half = record { w = side f a; h = side f b };
      f = widen_doubles (lo + 106) (t * w) (le_refl (lo + 106)) (more w o) f;
      same = refl;
      kept_free = g;
    }
  where
    same : (lo : ℕ) → lo + 106 + 1074 ≡ lo + 164 + 1016
    same lo = omega arith

    least : (lo : ℕ) → 52 ≤ lo + 53
    least lo = omega arith

    least-2 : (lo : ℕ) → 52 ≤ lo + 106
    least-2 lo = omega arith

    sized : (lo : ℕ) → lo + 53 + 1074 ≡ lo + 106 + 1021
    sized lo = omega arith

    more : (w : ℕ) → 1 ≤ w → t ≤ t * w
    more w o = let h : 1 * t ≤ w * t = mul-le-mul_right t o in omega arith

    reach : (lo : ℕ) → lo ≤ 1900 → lo ≤ 2045
    reach lo h = omega arith

    product : (w p : ℕ) → t * (w * p) ≤ t * w * p
    product w p = omega arith

    low : 2 ^ (52 + lo) * (2 * 2 ^ 1074) ≤ 2 ^ (lo + 53) * 2 ^ 1074
    low = at (2 ^ (52 + lo)) (2 ^ (lo + 53)) (2 ^ 1074) (ap (λ (k : ℕ). 2 ^ k) (turn lo) ∙ pow-succ' 2 (52 + lo))
      where
        turn : (lo : ℕ) → lo + 53 ≡ suc (52 + lo)
        turn lo = omega arith

        at : (p q x : ℕ) → q ≡ 2 * p → p * (2 * x) ≤ q * x
        at p q x e = let h : q * x ≡ 2 * p * x = ap (λ (k : ℕ). k * x) e in omega arith

    side : {x : Float} → Doubles (lo + 106) t (unit ⊗ scale) (unit' ⊗ scale) → Stepped 1021 (w * 2 ^ 1074) x → Doubles lo (t * w) (x ⊗ (unit ⊗ scale) ⊘ f2) (x ⊗ (unit' ⊗ scale) ⊘ f2)
    side {x} f a =
        let p : Doubles (lo + 53) (t * w) (x ⊗ (unit ⊗ scale)) (x ⊗ (unit' ⊗ scale)) = mul_doubles_2 (lo + 53) (t * w) a f (sized lo) (least lo) (product w (2 ^ 1074)) m in
        div_doubles lo (t * w) p two two_positive (reach lo r) low (le_refl (t * w * 2 ^ 1074)) m
