-- The coordinates doubled by the format's own product with 2, and again: 2, 4, 8 and each further power of two, as long as the points stay within 10 ^ 12. Assumes nothing.
use mathlib.Core.Path.{◌≡◌, refl, sym, ap, ◌∙◌, subst}
use mathlib.Core.Logic.{◌⊎◌, inl, inr}
use mathlib.Core.Bool.{Bool, true, false, ◌&&◌, true≢false}
use mathlib.Core.List.{List, [], ◌∷◌, map}
use Prim.Native.Nat.{ℕ, zero, suc, ◌+◌, ◌*◌, ◌^◌, ◌≤◌, ◌<◌}
use native.Mathlib.Nat.{le_trans}
use native.Mathlib.Omega.{arith}
use lib.Dec.{T, lit<, lt→ltb, ltb→lt}
use lib.ListN.{length, get_or, get_or-map}
use lib.Ieee.{Float, nan, inf, fin, up, down, binary64, fits, lt, eq, mul, of_bits}
use lib.Ieee.Fits.{mul-fits}
use borrow.Author.Tests.{le-ltb}
use Rattle.numbers.specs.Small.{abs_of, is_finite}
use Rattle.numbers.specs.Hypot.{grains}
use Rattle.numbers.specs.Ops.{f0, f2, ◌⊗◌}
use Rattle.numbers.specs.Double.{twice, scaled, Doublable}
use Rattle.numbers.proofs.float.Bounds.{mul_finite}
use Rattle.numbers.proofs.float.DoubleLaws.{eq_twice}
use Rattle.numbers.proofs.float.DoubleOps.{grains_twice, twice_finite}
use Rattle.numbers.proofs.float.DoubleKeys.{lt_abs, twice_mul}
use Rattle.numbers.proofs.float.DoubleRange.{stepped_doublable}
use Rattle.numbers.proofs.float.DoublePairs.{eq_of_doubles}
use Rattle.plane.specs.Plane.{point_at}
use Rattle.network.specs.declared.options.Options.{Options}
use Rattle.network.specs.declared.words.Kind.{Kind}
use Rattle.network.specs.Words.{bus_counts, occupied, kinds}
use Rattle.network.specs.Seed.{seeds}
use Rattle.network.specs.Refusal.{above}
use Rattle.stations.specs.Unit.{coordinates}
use Rattle.drawing.specs.Network.{Network}
use Rattle.drawing.specs.declared.lengths.ListLengths.{ListLengths}
use Rattle.drawing.specs.Drawing.{Drawing, drawing}
use Rattle.drawing.specs.Answer.{late, lists_of}
use Rattle.stations.specs.Doubles.{DoublesPoint}
use Rattle.doubling.specs.Twice.{DoubledMap, Twice}
use Rattle.doubling.specs.Example.{times, times2}
use Rattle.doubling.specs.Doubling.{least, HasPoint, Allowed, ScaledBox, with_map}
use Rattle.doubling.proofs.Passed.{Passed}
use Rattle.doubling.proofs.Sizes.{power}
use Rattle.doubling.proofs.Seeds.{bus_doubles, seeds_doubles}
use Rattle.doubling.proofs.HalfSidesDoubled.{coordinates_doubles}
use Rattle.doubling.proofs.Stage.{sum_limit, buses_le}
use Rattle.doubling.proofs.Premises.{coordinate_stepped, mapped, least_number, least_plus, at_least, farthest, farthest_number, farthest_plus, above_twice}
use Rattle.doubling.proofs.Drawn.{doubling}

nan_twice : f2 ⊗ nan ≡ nan
unfolding mul of_bits
nan_twice = refl

pub at_times : (xy : List Float) (k : ℕ) → get_or (times2 xy) k nan ≡ f2 ⊗ get_or xy k nan
at_times xy k = ap (λ (d : Float). get_or (times2 xy) k d) (sym nan_twice) ∙ get_or-map (λ x. f2 ⊗ x) xy k nan

-- a product is finite only where the number is
product_finite : (x : Float) → is_finite (f2 ⊗ x) ≡ true → is_finite x ≡ true
product_finite x e = go (is_finite x) refl
  where
    go : (b : Bool) → is_finite x ≡ b → is_finite x ≡ true
    go true h = h
    go false h = absurd (subst T h (mul_finite f2 x (subst T (sym e) tt)).1)

pub both_true : (p q : Bool) → p && q ≡ true → (p ≡ true) × (q ≡ true)
both_true true true e = (refl, refl)
both_true true false e = absurd (true≢false (sym e))
both_true false q e = absurd (true≢false (sym e))

-- a bus has a map point after doubling only if it had one
pub had : (xy : List Float) (i : ℕ) → HasPoint (times2 xy) i → HasPoint xy i
had xy i h = (product_finite (get_or xy (2 * i) nan) (ap is_finite (sym (at_times xy (2 * i))) ∙ h.0), product_finite (get_or xy (2 * i + 1) nan) (ap is_finite (sym (at_times xy (2 * i + 1))) ∙ h.1))

pub absent_next : (xy : List Float) (i : ℕ) → is_finite (get_or xy (2 * i) nan) && is_finite (get_or xy (2 * i + 1) nan) ≡ false → is_finite (get_or (times2 xy) (2 * i) nan) && is_finite (get_or (times2 xy) (2 * i + 1) nan) ≡ false
absent_next xy i h = go (is_finite (get_or (times2 xy) (2 * i) nan) && is_finite (get_or (times2 xy) (2 * i + 1) nan)) refl
  where
    go : (t : Bool) → is_finite (get_or (times2 xy) (2 * i) nan) && is_finite (get_or (times2 xy) (2 * i + 1) nan) ≡ t → is_finite (get_or (times2 xy) (2 * i) nan) && is_finite (get_or (times2 xy) (2 * i + 1) nan) ≡ false
    go false e = e
    go true e = let p = had xy i (both_true _ _ e) in absurd (true≢false (sym (ap (λ (b : Bool). b && is_finite (get_or xy (2 * i + 1) nan)) p.0 ∙ p.1) ∙ h))

-- ---- the premises carry over, with one doubling less
zero_is : f0 ≡ twice f0
unfolding twice of_bits
zero_is = refl

-- a number that is 0 or at least 2 ^ -500, doubled
still_large : (x : Float) → Doublable x → (eq x f0 ≡ false → lt (abs_of x) least ≡ false) → eq (twice x) f0 ≡ false → lt (abs_of (twice x)) least ≡ false
still_large x r h e =
    let g = at_least x least farthest r.number least_number farthest_number least_plus farthest_plus (h (sym (ap (λ (z : Float). eq (twice x) z) zero_is ∙ eq_twice x f0) ∙ e)) in
    ap (λ (z : Float). lt (abs_of (twice x)) z) (sym least_plus)
    ∙ lt_abs (twice x) least (twice_finite x r) least_number
    ∙ le-ltb (grains (twice x)) (grains least) (le_trans g (more (grains x) (grains (twice x)) (grains_twice x r.number)))
  where
    more : (a b : ℕ) → b ≡ 2 * a → a ≤ b
    more a b e = omega arith

-- doubled first or last
pub scaled_front : (k : ℕ) (x : Float) → scaled k (twice x) ≡ scaled (suc k) x
unfolding scaled
scaled_front zero x = refl
scaled_front (suc k) x = ap twice (scaled_front k x)

-- what is within 10 ^ 12 doubled is within it as it is
over : (x : Float) → T (lt (of_bits binary64 0x426D_1A94_A200_0000) (abs_of x)) → T (lt farthest (abs_of x))
unfolding lt abs_of of_bits
over nan h = h
over (inf s) h = h
over (fin s m e) h = lt→ltb _ _ (at (m * up e) (down e) (ltb→lt _ _ h))
  where
    at : (a d : ℕ) → 1_000_000_000_000 * d < a * 1 → 500_000_000_000 * d < a * 1
    at a d h = omega arith

pub above_down : (x : Float) → above (twice x) ≡ false → above x ≡ false
unfolding above
above_down x e = go (above x) refl
  where
    go : (b : Bool) → above x ≡ b → above x ≡ false
    go false h = h
    go true h = absurd (subst T (sym (above_twice x) ∙ e) (over x (subst T (sym h) tt)))

pub allowed_once : (k : ℕ) (x : Float) → Allowed (suc k) x → Allowed 1 x
unfolding scaled
allowed_once zero x a = a
allowed_once (suc k) x a = allowed_once k x (record { large = a.large; near = above_down (scaled (suc k) x) a.near })

-- ---- one number of a map
module _ (k j : ℕ) (xy : List Float) (f : T (fits binary64 (get_or xy j nan))) (e : is_finite (get_or xy j nan) ≡ true) (a : Allowed (suc k) (get_or xy j nan)) where
  doublable : Doublable (get_or xy j nan)
  doublable = stepped_doublable (coordinate_stepped (get_or xy j nan) f (subst T (sym e) tt) (allowed_once k (get_or xy j nan) a)) (lit< tt)

  -- the product with 2 is its double
  pub times_number : get_or (times2 xy) j nan ≡ twice (get_or xy j nan)
  times_number = at_times xy j ∙ twice_mul (get_or xy j nan) doublable

  pub allowed_next : Allowed k (get_or (times2 xy) j nan)
  allowed_next = record {
    large = subst (λ (z : Float). eq z f0 ≡ false → lt (abs_of z) least ≡ false) (sym times_number) (still_large (get_or xy j nan) doublable a.large);
    near = ap (λ (z : Float). above (scaled k z)) times_number ∙ ap above (scaled_front k (get_or xy j nan)) ∙ a.near;
  }

module _ (k : ℕ) (O : Options) (sub : List ℕ) (ks : List Kind) (xy : List Float) (P : Passed (suc k) O sub ks xy) where
  pub passed_once : Passed 1 O sub ks xy
  passed_once = record {
    buses = P.buses;
    branches = P.branches;
    held = P.held;
    allowed = λ i e f. (allowed_once k (get_or xy (2 * i) nan) (P.allowed i e f).0, allowed_once k (get_or xy (2 * i + 1) nan) (P.allowed i e f).1);
    fill = P.fill;
    radius = P.radius;
    scale_1 = P.scale_1;
    block_options = P.block_options;
    scale_2 = P.scale_2;
    i = P.i;
    j = P.j;
    first = P.first;
    second = P.second;
    different = P.different;
  }

  A : Passed 1 O sub ks xy
  A = passed_once

  pub times_doubled : DoubledMap xy (times2 xy)
  times_doubled i = record {
    first = λ e f. times_number k (2 * i) xy (P.held (2 * i)) e (P.allowed i e f).0;
    second = λ e f. times_number k (2 * i + 1) xy (P.held (2 * i + 1)) f (P.allowed i e f).1;
    absent = absent_next xy i;
  }

  seed : (j : ℕ) → j < length (occupied (bus_counts sub)) → DoublesPoint 458 (2 ^ 1125) (point_at (coordinates (seeds sub xy) (occupied (bus_counts sub))) j) (point_at (coordinates (seeds sub (times2 xy)) (occupied (bus_counts sub))) j)
  seed =
      coordinates_doubles (seeds sub xy) (seeds sub (times2 xy))
      (seeds_doubles sub xy (times2 xy) (bus_doubles xy (times2 xy) times_doubled (mapped xy A.held A.allowed)) 4095 A.buses sum_limit (power 1125 (lit< tt)) (buses_le sub A.buses)) (occupied (bus_counts sub))

  allowed_at : (i : ℕ) → is_finite (get_or (times2 xy) (2 * i) nan) ≡ true → is_finite (get_or (times2 xy) (2 * i + 1) nan) ≡ true → Allowed k (get_or (times2 xy) (2 * i) nan) × Allowed k (get_or (times2 xy) (2 * i + 1) nan)
  allowed_at i g h =
      let p = had xy i (g, h) in
      let a = P.allowed i p.0 p.1 in
      (allowed_next k (2 * i) xy (P.held (2 * i)) p.0 a.0, allowed_next k (2 * i + 1) xy (P.held (2 * i + 1)) p.1 a.1)

  different_at : (i m : ℕ) → i < length (occupied (bus_counts sub)) → m < length (occupied (bus_counts sub))
      → (eq (point_at (coordinates (seeds sub xy) (occupied (bus_counts sub))) m).x (point_at (coordinates (seeds sub xy) (occupied (bus_counts sub))) i).x ≡ false)
      ⊎ (eq (point_at (coordinates (seeds sub xy) (occupied (bus_counts sub))) m).y (point_at (coordinates (seeds sub xy) (occupied (bus_counts sub))) i).y ≡ false)
      → (eq (point_at (coordinates (seeds sub (times2 xy)) (occupied (bus_counts sub))) m).x (point_at (coordinates (seeds sub (times2 xy)) (occupied (bus_counts sub))) i).x ≡ false)
      ⊎ (eq (point_at (coordinates (seeds sub (times2 xy)) (occupied (bus_counts sub))) m).y (point_at (coordinates (seeds sub (times2 xy)) (occupied (bus_counts sub))) i).y ≡ false)
  different_at i m a b (inl e) = inl (eq_of_doubles (seed m b).x (seed i a).x ∙ e)
  different_at i m a b (inr e) = inr (eq_of_doubles (seed m b).y (seed i a).y ∙ e)

  pub passed_next : Passed k O sub ks (times2 xy)
  passed_next = record {
    buses = P.buses;
    branches = P.branches;
    held = λ j. subst (λ (x : Float). T (fits binary64 x)) (sym (at_times xy j)) (mul-fits binary64 f2 (get_or xy j nan));
    allowed = allowed_at;
    fill = P.fill;
    radius = P.radius;
    scale_1 = P.scale_1;
    block_options = P.block_options;
    scale_2 = P.scale_2;
    i = P.i;
    j = P.j;
    first = P.first;
    second = P.second;
    different = different_at P.i P.j P.first P.second P.different;
  }

-- what is the same in two drawings, and what is scaled
pub record Times (k : ℕ) (d d' : Drawing) : Type 0 where
  pub late_same : (R : ListLengths) → late d' R ≡ late d R
  pub unit : d'.unit ≡ scaled k d.unit
  pub bounds : ScaledBox k d.bounds d'.bounds
  pub piece_count : length d'.pieces ≡ length d.pieces
  pub positions : (lists_of d').positions ≡ map (scaled k) (lists_of d).positions
  pub bars : (lists_of d').bars ≡ map (scaled k) (lists_of d).bars
  pub boxes : (lists_of d').boxes ≡ map (scaled k) (lists_of d).boxes
  pub scales : (lists_of d').scales ≡ (lists_of d).scales
  pub roles : (lists_of d').roles ≡ (lists_of d).roles
  pub pieces : (lists_of d').pieces ≡ map (scaled k) (lists_of d).pieces
  pub branches : (lists_of d').branches ≡ (lists_of d).branches

scaled_none : (l : List Float) → l ≡ map (scaled 0) l
unfolding scaled
scaled_none [] = refl
scaled_none (x ∷ l) = ap (λ (m : List Float). x ∷ m) (scaled_none l)

scaled_more : (k : ℕ) (l : List Float) → map (scaled k) (map twice l) ≡ map (scaled (suc k)) l
scaled_more k [] = refl
scaled_more k (x ∷ l) = ap (λ (y : Float). y ∷ map (scaled k) (map twice l)) (scaled_front k x) ∙ ap (λ (m : List Float). scaled (suc k) x ∷ m) (scaled_more k l)

times_none : (d : Drawing) → Times 0 d d
unfolding scaled
times_none d = record {
  late_same = λ R. refl;
  unit = refl;
  bounds = record { left = refl; top = refl; right = refl; bottom = refl };
  piece_count = refl;
  positions = scaled_none (lists_of d).positions;
  bars = scaled_none (lists_of d).bars;
  boxes = scaled_none (lists_of d).boxes;
  scales = refl;
  roles = refl;
  pieces = scaled_none (lists_of d).pieces;
  branches = refl;
}

-- a number doubled once and then scaled
number_more : (k : ℕ) (x x' x'' : Float) → x' ≡ twice x → x'' ≡ scaled k x' → x'' ≡ scaled (suc k) x
number_more k x x' x'' e f = f ∙ ap (scaled k) e ∙ scaled_front k x

list_more : (k : ℕ) (l l' l'' : List Float) → l' ≡ map twice l → l'' ≡ map (scaled k) l' → l'' ≡ map (scaled (suc k)) l
list_more k l l' l'' e f = f ∙ ap (map (scaled k)) e ∙ scaled_more k l

times_more : (k : ℕ) (d d' d'' : Drawing) → Twice d d' → Times k d' d'' → Times (suc k) d d''
times_more k d d' d'' t s = record {
  late_same = λ R. s.late_same R ∙ t.late_same R;
  unit = number_more k d.unit d'.unit d''.unit t.unit s.unit;
  bounds = record {
    left = number_more k d.bounds.left d'.bounds.left d''.bounds.left t.bounds.left s.bounds.left;
    top = number_more k d.bounds.top d'.bounds.top d''.bounds.top t.bounds.top s.bounds.top;
    right = number_more k d.bounds.right d'.bounds.right d''.bounds.right t.bounds.right s.bounds.right;
    bottom = number_more k d.bounds.bottom d'.bounds.bottom d''.bounds.bottom t.bounds.bottom s.bounds.bottom;
  };
  piece_count = s.piece_count ∙ t.piece_count;
  positions = list_more k (lists_of d).positions (lists_of d').positions (lists_of d'').positions t.positions s.positions;
  bars = list_more k (lists_of d).bars (lists_of d').bars (lists_of d'').bars t.bars s.bars;
  boxes = list_more k (lists_of d).boxes (lists_of d').boxes (lists_of d'').boxes t.boxes s.boxes;
  scales = s.scales ∙ t.scales;
  roles = s.roles ∙ t.roles;
  pieces = list_more k (lists_of d).pieces (lists_of d').pieces (lists_of d'').pieces t.pieces s.pieces;
  branches = s.branches ∙ t.branches;
}

module _ (O : Options) (N : Network) (it : O.route_iterations ≡ 0) where
  -- the drawing of a map scaled by 2 ^ k is the drawing scaled by it
  pub times_of : (k : ℕ) (xy : List Float) → Passed k O N.station (kinds N.station N.from N.to N.service) xy → Times k (drawing O (with_map N xy)) (drawing O (with_map N (times k xy)))
  times_of zero xy P = times_none (drawing O (with_map N xy))
  times_of (suc k) xy P =
      let ks = kinds N.station N.from N.to N.service in
      let Q = passed_once k O N.station ks xy P in
      times_more k (drawing O (with_map N xy)) (drawing O (with_map N (times2 xy))) (drawing O (with_map N (times k (times2 xy))))
      (doubling O (with_map N xy) it Q (times2 xy) (times_doubled k O N.station ks xy P))
      (times_of k (times2 xy) (passed_next k O N.station ks xy P))
