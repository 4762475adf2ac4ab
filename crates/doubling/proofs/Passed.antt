-- The premises of doubling as tests of floats, and the ranges that they give (`in_ranges`). Assumes nothing.
use mathlib.Core.Path.{◌≡◌, refl, sym, ap, ◌∙◌, subst}
use mathlib.Core.Logic.{◌⊎◌, inl, inr}
use mathlib.Core.Bool.{Bool, true, false, ◌&&◌, ◌||◌, beq, true≢false}
use mathlib.Core.List.{List, map}
use Prim.Native.Nat.{ℕ, zero, suc, ◌+◌, ◌*◌, ◌^◌, ◌≤◌, ◌<◌}
use native.Mathlib.Nat.{le_of_eq, lt_of_lt_of_le}
use native.Mathlib.Omega.{arith}
use lib.IntN.{pos}
use lib.Dec.{T, ltb, eqb, lit≤, lit<}
use lib.ListN.{length, get_or}
use lib.Ieee.{Float, nan, inf, fin, up, down, binary64, fits, lt, le, eq, sub, of_bits}
use borrow.Author.Tests.{lt-ltb, ltb-false, eq-eqb}
use Rattle.numbers.specs.Small.{abs_of, is_finite}
use Rattle.numbers.specs.Hypot.{grains, hypot_of}
use Rattle.numbers.specs.Ops.{f0, f1, ◌⊖◌}
use Rattle.numbers.specs.Double.{twice, Finite, Stepped}
use Rattle.numbers.proofs.float.Keys.{plus, not_both}
use Rattle.numbers.proofs.float.Sums.{sub_zero}
use Rattle.numbers.proofs.float.Hypots.{hypot_above, hypot_comm}
use Rattle.numbers.proofs.float.Bounds.{hypot_plus}
use Rattle.numbers.proofs.float.DoubleKeys.{lt_abs}
use Rattle.numbers.proofs.float.DoubleRange.{sub_stepped, hypot_stepped}
use Rattle.plane.specs.declared.geometry.Point.{Point}
use Rattle.plane.specs.Plane.{point_at}
use Rattle.plane.specs.Near.{distance}
use Rattle.network.specs.declared.options.Options.{Options}
use Rattle.network.specs.declared.words.Kind.{Kind}
use Rattle.network.specs.Words.{bus_counts, occupied}
use Rattle.network.specs.Seed.{seeds}
use Rattle.stations.specs.Unit.{coordinates}
use Rattle.stations.specs.Doubles.{DoublesPoint}
use Rattle.doubling.specs.Doubling.{sixty_fourth, Allowed, EachBlockOption}
use Rattle.doubling.proofs.Sizes.{BlockOption, power, sizeless}
use Rattle.doubling.proofs.Seeds.{bus_doubles, seeds_doubles}
use Rattle.doubling.proofs.HalfSidesDoubled.{coordinates_doubles}
use Rattle.doubling.proofs.Distinct.{median_some}
use Rattle.doubling.proofs.Stage.{InRanges, sum_limit, buses_le}
use Rattle.doubling.proofs.Premises.{mapped, map_doubled, between_stepped}

-- ---- what is known of an input that 1 to 7 let pass: options in range, and coordinates for k doublings
abbrev pub sixteen : Float
sixteen = of_bits binary64 0x4030_0000_0000_0000

abbrev pub thousand : Float
thousand = of_bits binary64 0x408F_4000_0000_0000

-- 0.5 and 8
abbrev pub least_option : Float
least_option = of_bits binary64 0x3FE0_0000_0000_0000

abbrev pub most_option : Float
most_option = of_bits binary64 0x4020_0000_0000_0000

-- a size from one limit to another, or 0
pub record Ranged (low x high : Float) : Type 0 where
  pub number : Finite x
  pub fine : eq x f0 ≡ false → lt (abs_of x) low ≡ false
  pub most : lt high (abs_of x) ≡ false

pub record Passed (k : ℕ) (O : Options) (sub : List ℕ) (ks : List Kind) (xy : List Float) : Type 0 where
  pub buses : length sub ≤ 2 ^ 12
  pub branches : length ks ≤ 2 ^ 13
  pub held : (i : ℕ) → T (fits binary64 (get_or xy i nan))
  pub allowed : (i : ℕ) → is_finite (get_or xy (2 * i) nan) ≡ true → is_finite (get_or xy (2 * i + 1) nan) ≡ true → Allowed k (get_or xy (2 * i) nan) × Allowed k (get_or xy (2 * i + 1) nan)
  pub fill : Ranged sixty_fourth O.fill sixteen
  pub radius : Ranged sixty_fourth O.tier_radius thousand
  pub scale_1 : Ranged sixty_fourth O.tier_scale_1 f1
  pub scale_2 : Ranged sixty_fourth O.tier_scale_2 f1
  pub block_options : EachBlockOption (λ x. Ranged least_option x most_option) O.block_options
  -- two occupied stations, the i-th and the j-th, on different seeds
  pub i : ℕ
  pub j : ℕ
  pub first : i < length (occupied (bus_counts sub))
  pub second : j < length (occupied (bus_counts sub))
  pub different :
      (eq (point_at (coordinates (seeds sub xy) (occupied (bus_counts sub))) j).x (point_at (coordinates (seeds sub xy) (occupied (bus_counts sub))) i).x ≡ false)
      ⊎ (eq (point_at (coordinates (seeds sub xy) (occupied (bus_counts sub))) j).y (point_at (coordinates (seeds sub xy) (occupied (bus_counts sub))) i).y ≡ false)

-- ---- a distance of different points is positive
zero_equal : (s : Bool) → eq (fin s 0 (pos 0)) (fin false 0 (pos 0)) ≡ true
unfolding eq
zero_equal true = refl
zero_equal false = refl

sizeless_equal : (x : Float) → Finite x → grains x ≡ 0 → eq x (fin false 0 (pos 0)) ≡ true
sizeless_equal x f e = let z = sizeless x f e in ap (λ (y : Float). eq y (fin false 0 (pos 0))) z.1 ∙ zero_equal z.0

-- the difference of different numbers has a size
apart_size : (x y : Float) → Finite x → Finite y → Finite (x ⊖ y) → eq x y ≡ false → 0 < grains (x ⊖ y)
apart_size x y f g d e = go (grains (x ⊖ y)) refl
  where
    go : (n : ℕ) → grains (x ⊖ y) ≡ n → 0 < n
    go zero h = absurd (true≢false (sym (sizeless_equal (x ⊖ y) d h) ∙ sub_zero x y f.held g.held f.finite g.finite ∙ e))
    go (suc n) h = omega arith

plus_abs : (x : Float) → T (plus x) → abs_of x ≡ x
unfolding plus abs_of
plus_abs nan h = absurd h
plus_abs (inf true) h = absurd h
plus_abs (inf false) h = refl
plus_abs (fin true m e) h = absurd h
plus_abs (fin false m e) h = refl

pub lt_no : (x y : Float) → T (le y x) → lt x y ≡ false
lt_no x y h = go (lt x y) refl
  where
    go : (b : Bool) → lt x y ≡ b → lt x y ≡ false
    go true e = absurd (not_both x y (subst T (sym e) tt) h)
    go false e = e

zero_number : Finite f0
unfolding fits is_finite of_bits
zero_number = record { held = tt; finite = tt }

zero_plus : abs_of f0 ≡ f0
unfolding abs_of of_bits
zero_plus = refl

zero_grains : grains f0 ≡ 0
unfolding grains of_bits
zero_grains = refl

-- a hypotenuse is no smaller than its first side
hypot_size : (x y : Float) → Finite x → Finite y → Finite (hypot_of x y) → grains x ≤ grains (hypot_of x y)
hypot_size x y f g h =
    let p = plus_abs (hypot_of x y) (hypot_plus x y f.finite g.finite) in
    ltb-false (grains (hypot_of x y)) (grains x) (sym (lt_abs (hypot_of x y) x h f) ∙ ap (λ (z : Float). lt z (abs_of x)) p ∙ lt_no (hypot_of x y) (abs_of x) (hypot_above x y f.held f.finite g.finite))

hypot_positive : (x y : Float) → Finite x → Finite y → Finite (hypot_of x y) → 0 < grains x → lt f0 (hypot_of x y) ≡ true
hypot_positive x y f g h k =
    let p = plus_abs (hypot_of x y) (hypot_plus x y f.finite g.finite) in
    ap (λ (z : Float). lt z (hypot_of x y)) (sym zero_plus)
    ∙ ap (λ (z : Float). lt (abs_of f0) z) (sym p)
    ∙ lt_abs f0 (hypot_of x y) zero_number h
    ∙ ap (λ (n : ℕ). ltb n (grains (hypot_of x y))) zero_grains
    ∙ lt-ltb 0 (grains (hypot_of x y)) (lt_of_lt_of_le k (hypot_size x y f g h))

module _ (p q : Point) (a : Stepped 458 (2 ^ 1125) p.x) (b : Stepped 458 (2 ^ 1125) p.y) (c : Stepped 458 (2 ^ 1125) q.x) (d : Stepped 458 (2 ^ 1125) q.y) where
  dx : Stepped 458 (2 ^ 1126) (q.x ⊖ p.x)
  dx = sub_stepped c a (power 1126 (lit< tt))

  dy : Stepped 458 (2 ^ 1126) (q.y ⊖ p.y)
  dy = sub_stepped d b (power 1126 (lit< tt))

  away : Stepped 406 (2 ^ 1127) (hypot_of (q.x ⊖ p.x) (q.y ⊖ p.y))
  away = hypot_stepped 406 (2 ^ 1127) dx dy refl (lit≤ tt) (lit≤ tt) (power 1127 (lit< tt))

  distance_finite : T (is_finite (distance p q))
  unfolding distance
  distance_finite = away.number.finite

  distance_positive : (eq q.x p.x ≡ false) ⊎ (eq q.y p.y ≡ false) → lt f0 (distance p q) ≡ true
  unfolding distance
  distance_positive (inl e) = hypot_positive (q.x ⊖ p.x) (q.y ⊖ p.y) dx.number dy.number away.number (apart_size q.x p.x c.number a.number dx.number e)
  distance_positive (inr e) =
      ap (λ (z : Float). lt f0 z) (hypot_comm (q.x ⊖ p.x) (q.y ⊖ p.y))
      ∙ hypot_positive (q.y ⊖ p.y) (q.x ⊖ p.x) dy.number dx.number (subst Finite (hypot_comm (q.x ⊖ p.x) (q.y ⊖ p.y)) away.number) (apart_size q.y p.y d.number b.number dy.number e)

low_number : Finite sixty_fourth
unfolding fits is_finite of_bits
low_number = record { held = tt; finite = tt }

low_plus : abs_of sixty_fourth ≡ sixty_fourth
unfolding abs_of of_bits
low_plus = refl

low_grains : grains sixty_fourth ≡ 2 ^ 1068
unfolding grains of_bits
low_grains = refl

ranged_stepped : (x high : Float) (top : ℕ) → Finite high → abs_of high ≡ high → grains high ≤ top → Ranged sixty_fourth x high → Stepped 1016 top x
ranged_stepped x high top h p q r = between_stepped x sixty_fourth high r.number low_number h low_plus p 1016 top r.fine r.most (le_of_eq (sym low_grains)) q

option_numbers : Finite least_option × Finite most_option
unfolding fits is_finite of_bits
option_numbers = (record { held = tt; finite = tt }, record { held = tt; finite = tt })

option_plus : (abs_of least_option ≡ least_option) × (abs_of most_option ≡ most_option)
unfolding abs_of of_bits
option_plus = (refl, refl)

least_grains : grains least_option ≡ 2 ^ 1073
unfolding grains of_bits
least_grains = refl

most_grains : grains most_option ≤ 8 * 2 ^ 1074
unfolding grains of_bits
most_grains = lit≤ tt

option_stepped : (x : Float) → Ranged least_option x most_option → BlockOption x
option_stepped x r = between_stepped x least_option most_option r.number option_numbers.0 option_numbers.1 option_plus.0 option_plus.1 1021 (8 * 2 ^ 1074) r.fine r.most (le_of_eq (sym least_grains)) most_grains

one_number : Finite f1
unfolding fits is_finite of_bits
one_number = record { held = tt; finite = tt }

one_plus : abs_of f1 ≡ f1
unfolding abs_of of_bits
one_plus = refl

one_grains : grains f1 ≤ 2 ^ 1074
unfolding grains of_bits
one_grains = lit≤ tt

sixteen_number : Finite sixteen
unfolding fits is_finite of_bits
sixteen_number = record { held = tt; finite = tt }

sixteen_plus : abs_of sixteen ≡ sixteen
unfolding abs_of of_bits
sixteen_plus = refl

sixteen_grains : grains sixteen ≤ 16 * 2 ^ 1074
unfolding grains of_bits
sixteen_grains = lit≤ tt

thousand_number : Finite thousand
unfolding fits is_finite of_bits
thousand_number = record { held = tt; finite = tt }

thousand_plus : abs_of thousand ≡ thousand
unfolding abs_of of_bits
thousand_plus = refl

thousand_grains : grains thousand ≤ 1024 * 2 ^ 1074
unfolding grains of_bits
thousand_grains = lit≤ tt

beq_self : (s : Bool) → beq s s ≡ true
beq_self true = refl
beq_self false = refl

self : (z : Float) → T (is_finite z) → eq z z ≡ true
unfolding is_finite eq
self nan h = absurd h
self (inf s) h = absurd h
self (fin s m e) h = ap (λ (b : Bool). b && (beq s s || eqb (m * up e * down e) 0)) (eq-eqb (m * up e * down e) (m * up e * down e) refl) ∙ ap (λ (b : Bool). b || eqb (m * up e * down e) 0) (beq_self s)

-- a number is equal to itself
eq_self : (x : Float) → Finite x → eq x x ≡ true
eq_self x f = self x f.finite

pub in_ranges : (O : Options) (sub : List ℕ) (ks : List Kind) (xy : List Float) → Passed 1 O sub ks xy → InRanges O sub ks xy
in_ranges O sub ks xy A = record {
  buses = A.buses;
  branches = A.branches;
  mapped = mapped xy A.held A.allowed;
  fill = ranged_stepped O.fill sixteen (16 * 2 ^ 1074) sixteen_number sixteen_plus sixteen_grains A.fill;
  radius = ranged_stepped O.tier_radius thousand (1024 * 2 ^ 1074) thousand_number thousand_plus thousand_grains A.radius;
  scale_1 = ranged_stepped O.tier_scale_1 f1 (2 ^ 1074) one_number one_plus one_grains A.scale_1;
  scale_2 = ranged_stepped O.tier_scale_2 f1 (2 ^ 1074) one_number one_plus one_grains A.scale_2;
  block_options = record { bar_gap = option_stepped O.block_options.bar_gap A.block_options.bar_gap; pad = option_stepped O.block_options.pad A.block_options.pad; min_bar = option_stepped O.block_options.min_bar A.block_options.min_bar; buffer = option_stepped O.block_options.buffer A.block_options.buffer };
  some = median_some ps (length ss) A.i A.j A.first A.second other (distance_finite p q P.x.stepped P.y.stepped Q.x.stepped Q.y.stepped) (distance_positive p q P.x.stepped P.y.stepped Q.x.stepped Q.y.stepped A.different);
}
  where
    ss : List ℕ
    ss = occupied (bus_counts sub)

    ps : List Float
    ps = coordinates (seeds sub xy) (occupied (bus_counts sub))

    seed : (k : ℕ) → k < length (occupied (bus_counts sub)) → DoublesPoint 458 (2 ^ 1125) (point_at (coordinates (seeds sub xy) (occupied (bus_counts sub))) k) (point_at (coordinates (seeds sub (map twice xy)) (occupied (bus_counts sub))) k)
    seed = coordinates_doubles (seeds sub xy) (seeds sub (map twice xy)) (seeds_doubles sub xy (map twice xy) (bus_doubles xy (map twice xy) (map_doubled xy) (mapped xy A.held A.allowed)) 4095 A.buses sum_limit (power 1125 (lit< tt)) (buses_le sub A.buses)) (occupied (bus_counts sub))

    p : Point
    p = point_at (coordinates (seeds sub xy) (occupied (bus_counts sub))) A.i

    q : Point
    q = point_at (coordinates (seeds sub xy) (occupied (bus_counts sub))) A.j

    P : DoublesPoint 458 (2 ^ 1125) (point_at (coordinates (seeds sub xy) (occupied (bus_counts sub))) A.i) (point_at (coordinates (seeds sub (map twice xy)) (occupied (bus_counts sub))) A.i)
    P = seed A.i A.first

    Q : DoublesPoint 458 (2 ^ 1125) (point_at (coordinates (seeds sub xy) (occupied (bus_counts sub))) A.j) (point_at (coordinates (seeds sub (map twice xy)) (occupied (bus_counts sub))) A.j)
    Q = seed A.j A.second

    -- points that are one don't differ
    other : A.j ≡ A.i → ⊥
    other e = go A.different
      where
        go : (eq (point_at (coordinates (seeds sub xy) (occupied (bus_counts sub))) A.j).x (point_at (coordinates (seeds sub xy) (occupied (bus_counts sub))) A.i).x ≡ false)
            ⊎ (eq (point_at (coordinates (seeds sub xy) (occupied (bus_counts sub))) A.j).y (point_at (coordinates (seeds sub xy) (occupied (bus_counts sub))) A.i).y ≡ false) → ⊥
        go (inl h) = true≢false (sym (eq_self (point_at (coordinates (seeds sub xy) (occupied (bus_counts sub))) A.i).x P.x.stepped.number) ∙ ap (λ (k : ℕ). eq (point_at (coordinates (seeds sub xy) (occupied (bus_counts sub))) k).x (point_at (coordinates (seeds sub xy) (occupied (bus_counts sub))) A.i).x) (sym e) ∙ h)
        go (inr h) = true≢false (sym (eq_self (point_at (coordinates (seeds sub xy) (occupied (bus_counts sub))) A.i).y P.y.stepped.number) ∙ ap (λ (k : ℕ). eq (point_at (coordinates (seeds sub xy) (occupied (bus_counts sub))) k).y (point_at (coordinates (seeds sub xy) (occupied (bus_counts sub))) A.i).y) (sym e) ∙ h)
