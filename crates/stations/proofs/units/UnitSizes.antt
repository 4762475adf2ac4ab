-- Seeds within 2 ^ (m - 1074) give a spacing within four times that, and a unit within 16 times the spacing. A median is one of the finite numbers of its list. Assumes nothing.
use Rattle.std.specs.Prelude.{unwrap_or}
use mathlib.Core.Path.{◌≡◌, refl, sym, subst}
use mathlib.Core.Logic.{◌⊎◌, inl, inr}
use Prim.Native.Nat.{ℕ, zero, suc, ◌+◌, ◌*◌, ◌/◌, ◌≤◌, ◌<◌}
use native.Mathlib.Nat.{le_refl, one-mul}
use native.Mathlib.Omega.{arith}
use mathlib.Core.Bool.{Bool, true, false, cond, true≢false}
use mathlib.Core.List.{List, [], ◌∷◌}
use lib.Dec.{T, leb, eqb, lt→ltb}
use lib.ListN.{length}
use lib.Ieee.{Float, nan, inf, fin, lt, le, up, down, binary64, of_bits, of_fields, odd}
use lib.Ieee.Fits.{down_pos}
use lib.Ieee.Positive.{positive}
use Rattle.numbers.specs.Ops.{f0, f1, ◌⊖◌, ◌⊗◌, ◌⊘◌, order_key}
use Rattle.numbers.specs.Small.{min_of, max_of, is_finite}
use Rattle.numbers.specs.Size.{AtMost, AtLeast, most_test, least_test}
use Rattle.numbers.proofs.float.Keys.{plus, le_of_lt_float}
use Rattle.numbers.proofs.float.SizeLaws.{most_weaken, most_lit, least_lit, sub_most, mul_most, div_most, hypot_most, max_least, between_most, either_min, f0_most, f1_most}
use Rattle.numbers.proofs.float.Quotients.{div_plus, mul_plus, min_plus, least_positive}
use Rattle.numbers.proofs.float.Bounds.{hypot_plus}
use Rattle.numbers.proofs.float.Each.{Each, each_at}
use Rattle.numbers.specs.Order.{pick}
use Rattle.numbers.specs.Table.{table_from, table}
use Rattle.numbers.specs.Median.{finite_of, insert_float, sort_floats, middle, median_of}
use Rattle.plane.specs.declared.geometry.Point.{Point}
use Rattle.plane.specs.Plane.{point_at}
use Rattle.plane.proofs.geometry.PointSizes.{Near}
use Rattle.plane.specs.Near.{distance, nearer, nearest_to, nearest}
use Rattle.network.specs.Seed.{place_at}
use Rattle.network.specs.Words.{occupied}
use Rattle.stations.specs.Size.{Size, sides}
use Rattle.stations.specs.Unit.{coordinates, spacing_of, spacing, typical, unit_for}

-- ---- a median has what every finite number of its list has
module _ (Q : Float → Type 0) where
  finite_each : (xs : List Float) → Each (λ x. T (is_finite x) → Q x) xs → Each Q (finite_of xs)
  unfolding finite_of
  finite_each [] h = tt
  finite_each (x ∷ xs) h = go (is_finite x) refl (finite_each xs h.1)
    where
      go : (b : Bool) → is_finite x ≡ b → Each Q (finite_of xs) → Each Q (pick b (x ∷ finite_of xs) (finite_of xs))
      go true e k = (h.0 (subst T (sym e) tt), k)
      go false e k = k

  insert_each : (x : Float) (l : List Float) → Q x → Each Q l → Each Q (insert_float x l)
  unfolding insert_float
  insert_each x [] q h = (q, tt)
  insert_each x (y ∷ ys) q h = go (leb (order_key x) (order_key y)) (insert_each x ys q h.1)
    where
      go : (b : Bool) → Each Q (insert_float x ys) → Each Q (pick b (x ∷ y ∷ ys) (y ∷ insert_float x ys))
      go true k = (q, h)
      go false k = (h.0, k)

  sort_each : (l : List Float) → Each Q l → Each Q (sort_floats l)
  unfolding sort_floats
  sort_each [] h = tt
  sort_each (x ∷ xs) h = insert_each x (sort_floats xs) h.0 (sort_each xs h.1)

  middle_each : (l : List Float) (d : Float) → Q d → Each Q l → Q (unwrap_or (middle l) d)
  unfolding middle
  middle_each [] d q h = q
  middle_each (x ∷ xs) d q h = each_at Q (x ∷ xs) (length (x ∷ xs) / 2) x (omega arith) h

  pub median_each : (xs : List Float) (d : Float) → Q d → Each (λ x. T (is_finite x) → Q x) xs → Q (unwrap_or (median_of xs) d)
  unfolding median_of
  median_each xs d q h = middle_each (sort_floats (finite_of xs)) d q (sort_each (finite_of xs) (finite_each xs h))

pub table_each : (P : Float → Type 0) (f : ℕ → Float) (a n : ℕ) → ((i : ℕ) → i < a + n → P (f i)) → Each P (table_from f a n)
unfolding table_from
table_each P f a zero h = tt
table_each P f a (suc n) h = (h a (omega arith), table_each P f (suc a) n (λ i l. h i (omega arith)))

one_plus : T (plus f1)
unfolding plus of_bits of_fields odd
one_plus = tt

-- ---- distances
module _ (m : ℕ) (M : m + 2 ≤ 2097) where
  distance_most : (p q : Point) → Near m p → Near m q → AtMost (m + 2) (distance p q)
  unfolding distance
  distance_most p q P Q =
      hypot_most (m + 1) (m + 1) (m + 2) (q.x ⊖ p.x) (q.y ⊖ p.y) (omega arith) (omega arith) M (sub_most m q.x p.x (omega arith) Q.x P.x) (sub_most m q.y p.y (omega arith) Q.y P.y)

  module _ (ps : List Float) (n : ℕ) (L : 2 * n ≤ length ps) (E : Each (AtMost m) ps) where
    pub point_near : (i : ℕ) → i < n → Near m (point_at ps i)
    point_near i l = record { x = each_at (AtMost m) ps (2 * i) nan (omega arith) E; y = each_at (AtMost m) ps (2 * i + 1) nan (omega arith) E }

    nearest_either : (i j : ℕ) → i < n → j ≤ n → AtMost (m + 2) (nearest_to ps i j) ⊎ (nearest_to ps i j ≡ inf false)
    unfolding nearest_to nearer
    nearest_either i zero l k = inr refl
    nearest_either i (suc j) l k = go (eqb j i) (lt f0 (distance (point_at ps i) (point_at ps j))) (nearest_either i j l (omega arith))
      where
        b : Float
        b = nearest_to ps i j

        d : Float
        d = distance (point_at ps i) (point_at ps j)

        go : (s t : Bool) → AtMost (m + 2) b ⊎ (b ≡ inf false) → AtMost (m + 2) (pick s b (pick t (min_of b d) b)) ⊎ (pick s b (pick t (min_of b d) b) ≡ inf false)
        go true t h = h
        go false true h = inl (either_min (m + 2) b d h (distance_most (point_at ps i) (point_at ps j) (point_near i l) (point_near j k)))
        go false false h = h

    no_inf : T (is_finite (inf false)) → ⊥
    unfolding is_finite
    no_inf h = h

    distance_plus : (p q : Point) → Near m p → Near m q → T (plus (distance p q))
    unfolding distance
    distance_plus p q P Q = hypot_plus (q.x ⊖ p.x) (q.y ⊖ p.y) (sub_most m q.x p.x (omega arith) Q.x P.x).finite (sub_most m q.y p.y (omega arith) Q.y P.y).finite

    nearest_plus : (i j : ℕ) → i < n → j ≤ n → T (plus (nearest_to ps i j))
    unfolding nearest_to nearer plus
    nearest_plus i zero l k = tt
    nearest_plus i (suc j) l k = go (eqb j i) (lt f0 (distance (point_at ps i) (point_at ps j))) (nearest_plus i j l (omega arith))
      where
        b : Float
        b = nearest_to ps i j

        d : Float
        d = distance (point_at ps i) (point_at ps j)

        go : (s t : Bool) → T (plus b) → T (plus (pick s b (pick t (min_of b d) b)))
        go true t h = h
        go false true h = min_plus b d h (distance_plus (point_at ps i) (point_at ps j) (point_near i l) (point_near j k))
        go false false h = h

    pub spacing_of_plus : T (plus (spacing_of ps n))
    unfolding spacing_of nearest
    spacing_of_plus =
        median_each (λ x. T (plus x)) (table (λ i. nearest_to ps i n) n) f1 one_plus
        (table_each (λ x. T (is_finite x) → T (plus x)) (λ i. nearest_to ps i n) 0 n (λ i l f. nearest_plus i n (omega arith) (le_refl n)))

    pub spacing_of_lem : 1074 ≤ m → AtMost (m + 2) (spacing_of ps n)
    unfolding spacing_of nearest
    spacing_of_lem k =
        median_each (AtMost (m + 2)) (table (λ i. nearest_to ps i n) n) f1 (most_weaken 1074 (m + 2) f1 (omega arith) f1_most)
        (table_each (λ x. T (is_finite x) → AtMost (m + 2) x) (λ i. nearest_to ps i n) 0 n (λ i l. at (nearest_to ps i n) (nearest_either i n (omega arith) (le_refl n))))
      where
        at : (x : Float) → AtMost (m + 2) x ⊎ (x ≡ inf false) → T (is_finite x) → AtMost (m + 2) x
        at x (inl h) f = h
        at x (inr e) f = absurd (no_inf (subst (λ (v : Float). T (is_finite v)) e f))

  pub coordinates_each : (seeds : List Point) (ss : List ℕ) → ((s : ℕ) → Near m (place_at seeds s)) → Each (AtMost m) (coordinates seeds ss)
  unfolding coordinates
  coordinates_each seeds [] h = tt
  coordinates_each seeds (s ∷ ss) h = ((h s).x, ((h s).y, coordinates_each seeds ss h))

  pub coordinates_length : (seeds : List Point) (ss : List ℕ) → 2 * length ss ≤ length (coordinates seeds ss)
  unfolding coordinates
  coordinates_length seeds [] = omega arith
  coordinates_length seeds (s ∷ ss) = let h : 2 * length ss ≤ length (coordinates seeds ss) = coordinates_length seeds ss in omega arith

  pub spacing_most : (seeds : List Point) (counts : List ℕ) → 1074 ≤ m → ((s : ℕ) → Near m (place_at seeds s)) → AtMost (m + 2) (spacing seeds counts)
  unfolding spacing
  spacing_most seeds counts k h =
      spacing_of_lem (coordinates seeds (occupied counts)) (length (occupied counts)) (coordinates_length seeds (occupied counts)) (coordinates_each seeds (occupied counts) h) k

  pub spacing_plus : (seeds : List Point) (counts : List ℕ) → ((s : ℕ) → Near m (place_at seeds s)) → T (plus (spacing seeds counts))
  unfolding spacing
  spacing_plus seeds counts h =
      spacing_of_plus (coordinates seeds (occupied counts)) (length (occupied counts)) (coordinates_length seeds (occupied counts)) (coordinates_each seeds (occupied counts) h)

-- ---- the typical side is at least 1, and finite
finite_any : (xs : List Float) → Each (λ x. T (is_finite x) → T (is_finite x)) xs
finite_any [] = tt
finite_any (x ∷ xs) = ((λ f. f), finite_any xs)

one_least : AtLeast 1074 f1
unfolding least_test is_finite of_bits of_fields odd
one_least = least_lit 1074 f1 tt

pub typical_least : (zs : List Size) (counts : List ℕ) → AtLeast 1074 (typical zs counts)
unfolding typical
typical_least zs counts =
    max_least 1074 (unwrap_or (median_of (sides zs (occupied counts))) f1) f1
    (median_each (λ x. T (is_finite x)) (sides zs (occupied counts)) f1 f1_most.finite (finite_any (sides zs (occupied counts)))) one_plus one_least

-- a maximum with 1 has its sign clear
not_below_plus : (x : Float) → T (is_finite x) → lt x f1 ≡ false → T (plus x)
unfolding is_finite plus lt of_bits of_fields odd
not_below_plus nan f h = absurd f
not_below_plus (inf s) f h = absurd f
not_below_plus (fin true m e) f h = absurd (subst T h (lt→ltb 0 (m * up e * 1 + 1 * 1 * down e) (part (m * up e * 1) (down e) (down_pos e))))
  where
    part : (p d : ℕ) → 0 < d → 0 < p + 1 * 1 * d
    part p d D = let e : 1 * 1 * d ≡ d = one-mul d in omega arith
not_below_plus (fin false m e) f h = tt

one_or_plus : (x : Float) → T (is_finite x) → T (plus (max_of x f1))
unfolding max_of
one_or_plus x f = go (lt x f1) refl
  where
    go : (b : Bool) → lt x f1 ≡ b → T (plus (cond b f1 x))
    go true e = one_plus
    go false e = not_below_plus x f e

pub typical_positive : (zs : List Size) (counts : List ℕ) → T (positive (typical zs counts))
typical_positive zs counts = least_positive 1074 (typical zs counts) (typical_least zs counts) (at zs counts)
  where
    at : (zs : List Size) (counts : List ℕ) → T (plus (typical zs counts))
    at zs counts = unfold typical in one_or_plus (unwrap_or (median_of (sides zs (occupied counts))) f1) (median_each (λ x. T (is_finite x)) (sides zs (occupied counts)) f1 f1_most.finite (finite_any (sides zs (occupied counts))))

-- ---- the unit
sixteen : AtMost (1074 + 4) (of_bits binary64 0x4030_0000_0000_0000)
unfolding most_test is_finite of_bits of_fields odd
sixteen = most_lit (1074 + 4) (of_bits binary64 0x4030_0000_0000_0000) tt

pub unit_most : (g : ℕ) (fill sp side : Float) → g + 4 ≤ 2097 → lt f0 fill ≡ true → le fill (of_bits binary64 0x4030_0000_0000_0000) ≡ true → AtMost g sp → AtLeast 1074 side → AtMost (g + 4) (unit_for fill sp side)
unfolding unit_for
unit_most g fill sp side G a b h s =
    let f : AtMost (1074 + 4) fill = between_most (1074 + 4) fill f0 (of_bits binary64 0x4030_0000_0000_0000) (le_of_lt_float f0 fill (subst T (sym a) tt)) (subst T (sym b) tt) (f0_most (1074 + 4)) sixteen in
    div_most (g + 4) 1074 (g + 4) (fill ⊗ sp) side (omega arith) G (mul_most (1074 + 4) g (g + 4) fill sp (omega arith) G f h) s

fill_plus : (x : Float) → lt f0 x ≡ true → T (plus x)
unfolding plus lt of_bits of_fields odd
fill_plus nan h = absurd (true≢false (sym h))
fill_plus (inf true) h = absurd (true≢false (sym h))
fill_plus (inf false) h = tt
fill_plus (fin true m e) h = absurd (true≢false (sym h))
fill_plus (fin false m e) h = tt

-- its sign is clear
pub unit_plus : (g : ℕ) (fill sp side : Float) → g + 4 ≤ 2097 → lt f0 fill ≡ true → le fill (of_bits binary64 0x4030_0000_0000_0000) ≡ true → AtMost g sp → T (plus sp) → T (positive side) → T (plus (unit_for fill sp side))
unfolding unit_for
unit_plus g fill sp side G a b h p s =
    let f : AtMost (1074 + 4) fill = between_most (1074 + 4) fill f0 (of_bits binary64 0x4030_0000_0000_0000) (le_of_lt_float f0 fill (subst T (sym a) tt)) (subst T (sym b) tt) (f0_most (1074 + 4)) sixteen in
    let m : AtMost (g + 4) (fill ⊗ sp) = mul_most (1074 + 4) g (g + 4) fill sp (omega arith) G f h in
    div_plus (fill ⊗ sp) side m.finite (mul_plus fill sp (fill_plus fill a) p m.finite) s
