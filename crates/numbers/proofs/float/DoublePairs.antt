-- Two calculations side by side, the second with every length doubled: what an operation makes of pairs that double are such pairs, with the range that it has. Each law of `Doubles` asks only for closed facts of numbers.
-- Assumes nothing.
use Rattle.std.proofs.Common.{◌≡◌, ℕ, suc, ◌+◌, ◌*◌, ◌^◌, ◌<◌, ◌≤◌, Bool, true, false, leb, ◌⊎◌, ℤ, pos, negsuc, nat_abs, sym, refl, ap, ◌∙◌, subst, inl, inr, zero-le, le_trans, le_of_eq, le_refl, mul-le-mul_right, mul-le-mul, zero-mul, arith, pow_mono, pow-add}
use lib.Ieee.{Float, neg, lt, le, eq, nan, inf, fin, up, down, round, fits, of_bits, of_int, binary64}
use lib.Ieee.Exact.{HasValue}
use lib.Ieee.Fits.{round-fits}
use lib.Ieee.Back.{round_whole}
use Rattle.numbers.specs.Small.{abs_of, max_of, min_of, clamp_of, is_finite}
use Rattle.numbers.specs.Hypot.{grains, hypot_of}
use Rattle.numbers.specs.Ops.{◌⊕◌, ◌⊖◌, ◌⊗◌, ◌⊘◌, order_key, f0, num, int}
use Rattle.numbers.specs.Double.{twice, Doublable, Stepped, Limit, Doubles, Finite}
use Rattle.numbers.proofs.float.Pack.{grains_of}
use Rattle.numbers.proofs.float.RoundLaws.{finite_of}
use Rattle.numbers.proofs.float.DoubleLaws.{neg_twice, abs_twice, lt_twice, le_twice, eq_twice, max_twice, min_twice, clamp_twice}
use Rattle.numbers.proofs.float.DoubleRound.{add_twice, sub_twice}
use Rattle.numbers.proofs.float.DoubleOps.{mul_twice_large, mul_twice_zero, mul_commutes, div_both, div_twice_large, div_twice_zero, hypot_twice_large, hypot_twice_zero}
use Rattle.numbers.proofs.float.DoubleKeys.{key_leb_twice}
use Rattle.numbers.proofs.float.DoubleRange.{widen_to, limit_doublable, stepped_doublable, stepped_cases, neg_stepped, abs_stepped, max_stepped, min_stepped, add_stepped, sub_stepped, mul_stepped, div_stepped, hypot_stepped, clamp_stepped}

-- ---- tests
pub lt_of_doubles : {i j t u : ℕ} {x x' y y' : Float} → Doubles i t x x' → Doubles j u y y' → lt x' y' ≡ lt x y
lt_of_doubles {x = x} {x' = x'} {y = y} {y' = y'} f g = ap (λ (z : Float). lt z y') f.is ∙ ap (λ (z : Float). lt (twice x) z) g.is ∙ lt_twice x y

pub le_of_doubles : {i j t u : ℕ} {x x' y y' : Float} → Doubles i t x x' → Doubles j u y y' → le x' y' ≡ le x y
le_of_doubles {x = x} {x' = x'} {y = y} {y' = y'} f g = ap (λ (z : Float). le z y') f.is ∙ ap (λ (z : Float). le (twice x) z) g.is ∙ le_twice x y

pub eq_of_doubles : {i j t u : ℕ} {x x' y y' : Float} → Doubles i t x x' → Doubles j u y y' → eq x' y' ≡ eq x y
eq_of_doubles {x = x} {x' = x'} {y = y} {y' = y'} f g = ap (λ (z : Float). eq z y') f.is ∙ ap (λ (z : Float). eq (twice x) z) g.is ∙ eq_twice x y

pub key_of_doubles : {i j t u : ℕ} {x x' y y' : Float} → t < 2 ^ 2097 → u < 2 ^ 2097 → Doubles i t x x' → Doubles j u y y' → leb (order_key x') (order_key y') ≡ leb (order_key x) (order_key y)
key_of_doubles {x = x} {x' = x'} {y = y} {y' = y'} h k f g =
    ap (λ (z : Float). leb (order_key z) (order_key y')) f.is ∙ ap (λ (z : Float). leb (order_key (twice x)) (order_key z)) g.is ∙ key_leb_twice x y (stepped_doublable f.stepped h) (stepped_doublable g.stepped k)

-- a quotient of two doubled numbers is one number
pub div_of_doubles : {i j t u : ℕ} {x x' y y' : Float} → Doubles i t x x' → Doubles j u y y' → x' ⊘ y' ≡ x ⊘ y
div_of_doubles {x = x} {x' = x'} {y = y} {y' = y'} f g = ap (λ (z : Float). z ⊘ y') f.is ∙ ap (λ (z : Float). twice x ⊘ z) g.is ∙ div_both x y

-- ---- numbers
pub widen_doubles : {lo top : ℕ} {x x' : Float} (lo' top' : ℕ) → lo' ≤ lo → top ≤ top' → Doubles lo top x x' → Doubles lo' top' x x'
widen_doubles lo' top' h k f = record { is = f.is; stepped = widen_to lo' top' h k f.stepped }

pub neg_doubles : {lo top : ℕ} {x x' : Float} → Doubles lo top x x' → Doubles lo top (neg x) (neg x')
neg_doubles {x = x} f = record { is = ap neg f.is ∙ neg_twice x; stepped = neg_stepped f.stepped }

pub abs_doubles : {lo top : ℕ} {x x' : Float} → Doubles lo top x x' → Doubles lo top (abs_of x) (abs_of x')
abs_doubles {x = x} f = record { is = ap abs_of f.is ∙ abs_twice x; stepped = abs_stepped f.stepped }

pub max_doubles : {lo top : ℕ} {x x' y y' : Float} → Doubles lo top x x' → Doubles lo top y y' → Doubles lo top (max_of x y) (max_of x' y')
max_doubles {x = x} {x' = x'} {y = y} {y' = y'} f g = record {
  is = ap (λ (z : Float). max_of z y') f.is ∙ ap (λ (z : Float). max_of (twice x) z) g.is ∙ max_twice x y;
  stepped = max_stepped f.stepped g.stepped;
}

pub min_doubles : {lo top : ℕ} {x x' y y' : Float} → Doubles lo top x x' → Doubles lo top y y' → Doubles lo top (min_of x y) (min_of x' y')
min_doubles {x = x} {x' = x'} {y = y} {y' = y'} f g = record {
  is = ap (λ (z : Float). min_of z y') f.is ∙ ap (λ (z : Float). min_of (twice x) z) g.is ∙ min_twice x y;
  stepped = min_stepped f.stepped g.stepped;
}

pub add_doubles : {lo t u : ℕ} {x x' y y' : Float} → Doubles lo t x x' → Doubles lo u y y' → Limit (t + u) → Doubles lo (t + u) (x ⊕ y) (x' ⊕ y')
add_doubles {x = x} {x' = x'} {y = y} {y' = y'} f g l =
    let w = add_stepped f.stepped g.stepped l in
    record {
      is = ap (λ (z : Float). z ⊕ y') f.is ∙ ap (λ (z : Float). twice x ⊕ z) g.is ∙ add_twice x y f.stepped.number g.stepped.number (limit_doublable w l);
      stepped = w;
    }

pub sub_doubles : {lo t u : ℕ} {x x' y y' : Float} → Doubles lo t x x' → Doubles lo u y y' → Limit (t + u) → Doubles lo (t + u) (x ⊖ y) (x' ⊖ y')
sub_doubles {x = x} {x' = x'} {y = y} {y' = y'} f g l =
    let w = sub_stepped f.stepped g.stepped l in
    record {
      is = ap (λ (z : Float). z ⊖ y') f.is ∙ ap (λ (z : Float). twice x ⊖ z) g.is ∙ sub_twice x y f.stepped.number g.stepped.number (limit_doublable w l);
      stepped = w;
    }

-- a length times a number that both calculations have. With 52 ≤ lo the product is 0 exactly, or 2 ^ -1022 at least
product_cases : {i j t u : ℕ} {x y : Float} (lo : ℕ) → Stepped i t x → Stepped j u y → lo + 1074 ≡ i + j → 52 ≤ lo → Doublable (x ⊗ y) → twice x ⊗ y ≡ twice (x ⊗ y)
product_cases {i} {j} {t} {u} {x} {y} lo f g e h r = go (stepped_cases f) (stepped_cases g)
  where
    room : 52 ≤ lo → lo + 1074 ≡ i + j → 1126 ≤ i + j
    room h e = omega arith

    go : (grains x ≡ 0) ⊎ (2 ^ i ≤ grains x) → (grains y ≡ 0) ⊎ (2 ^ j ≤ grains y) → twice x ⊗ y ≡ twice (x ⊗ y)
    go (inl a) b = mul_twice_zero x y f.number g.number (inl a)
    go (inr a) (inl b) = mul_twice_zero x y f.number g.number (inr b)
    go (inr a) (inr b) = mul_twice_large x y f.number g.number (le_trans (pow_mono (room h e)) (le_trans (le_of_eq (pow-add 2 i j)) (mul-le-mul a b))) r

pub mul_doubles : {i j t u : ℕ} {x x' y : Float} (lo top : ℕ) → Doubles i t x x' → Stepped j u y → lo + 1074 ≡ i + j → 52 ≤ lo → t * u ≤ top * 2 ^ 1074 → Limit top → Doubles lo top (x ⊗ y) (x' ⊗ y)
mul_doubles {x = x} {x' = x'} {y = y} lo top f g e h k l =
    let w = mul_stepped lo top f.stepped g e k l in
    record { is = ap (λ (z : Float). z ⊗ y) f.is ∙ product_cases lo f.stepped g e h (limit_doublable w l); stepped = w }

pub mul_doubles_2 : {i j t u : ℕ} {x y y' : Float} (lo top : ℕ) → Stepped i t x → Doubles j u y y' → lo + 1074 ≡ j + i → 52 ≤ lo → u * t ≤ top * 2 ^ 1074 → Limit top → Doubles lo top (x ⊗ y) (x ⊗ y')
mul_doubles_2 {x = x} {y = y} {y' = y'} lo top f g e h k l =
    let w = mul_doubles lo top g f e h k l in
    record { is = mul_commutes x y' ∙ w.is ∙ ap twice (mul_commutes y x); stepped = subst (Stepped lo top) (mul_commutes y x) w.stepped }

-- a length divided by such a number
pub div_doubles : {i j t u : ℕ} {x x' y : Float} (lo top : ℕ) → Doubles i t x x' → Stepped j u y → 0 < grains y → lo ≤ 2045 → 2 ^ (52 + lo) * u ≤ 2 ^ i * 2 ^ 1074 → t * 2 ^ 1074 ≤ top * 2 ^ j → Limit top → Doubles lo top (x ⊘ y) (x' ⊘ y)
div_doubles {i} {j} {t} {u} {x} {x'} {y} lo top f g p r h k l =
    let w = div_stepped lo top f.stepped g p r h k l in
    record { is = ap (λ (z : Float). z ⊘ y) f.is ∙ go (stepped_cases f.stepped) (limit_doublable w l); stepped = w }
  where
    least : (lo : ℕ) → 52 ≤ 52 + lo
    least lo = omega arith

    go : (grains x ≡ 0) ⊎ (2 ^ i ≤ grains x) → Doublable (x ⊘ y) → twice x ⊘ y ≡ twice (x ⊘ y)
    go (inl a) m = div_twice_zero x y f.stepped.number g.number p a
    go (inr a) m =
        div_twice_large x y f.stepped.number g.number p
        (le_trans (mul-le-mul (pow_mono (least lo)) g.size) (le_trans h (mul-le-mul_right (2 ^ 1074) a))) m

-- the length of two sides
pub hypot_doubles : {i t u : ℕ} {x x' y y' : Float} (lo top : ℕ) → Doubles i t x x' → Doubles i u y y' → i ≡ 52 + lo → lo ≤ 2045 → t * t + u * u ≤ top * top → t < 2 ^ 2097 → u < 2 ^ 2097 → Limit top → Doubles lo top (hypot_of x y) (hypot_of x' y')
hypot_doubles {i} {t} {u} {x} {x'} {y} {y'} lo top f g e r h small small-2 l =
    let w = hypot_stepped lo top f.stepped g.stepped e r h l in
    record { is = ap (λ (z : Float). hypot_of z y') f.is ∙ ap (λ (z : Float). hypot_of (twice x) z) g.is ∙ go (stepped_cases f.stepped) (stepped_cases g.stepped) (limit_doublable w l); stepped = w }
  where
    least : (i lo : ℕ) → i ≡ 52 + lo → 52 ≤ i
    least i lo e = omega arith

    big : 2 ^ 104 ≤ 2 ^ i * 2 ^ i
    big =
        let k : 2 ^ 52 ≤ 2 ^ i = pow_mono (least i lo e) in
        let z : 2 ^ 52 * 2 ^ 52 ≤ 2 ^ i * 2 ^ i = mul-le-mul k k in
        z

    first : (p q k : ℕ) → k ≤ p → k ≤ p + q
    first p q k h = omega arith

    second : (p q k : ℕ) → k ≤ q → k ≤ p + q
    second p q k h = omega arith

    go : (grains x ≡ 0) ⊎ (2 ^ i ≤ grains x) → (grains y ≡ 0) ⊎ (2 ^ i ≤ grains y) → Doublable (hypot_of x y) → hypot_of (twice x) (twice y) ≡ twice (hypot_of x y)
    go (inr p) q m = hypot_twice_large x y f.stepped.number g.stepped.number (first (grains x * grains x) (grains y * grains y) (2 ^ 104) (le_trans big (mul-le-mul p p))) m
    go (inl p) (inr q) m = hypot_twice_large x y f.stepped.number g.stepped.number (second (grains x * grains x) (grains y * grains y) (2 ^ 104) (le_trans big (mul-le-mul q q))) m
    go (inl p) (inl q) m = hypot_twice_zero x y (stepped_doublable f.stepped small) (stepped_doublable g.stepped small-2) q

pub clamp_doubles : {lo top : ℕ} {x x' y y' z z' : Float} → Doubles lo top x x' → Doubles lo top y y' → Doubles lo top z z' → Doubles lo top (clamp_of x y z) (clamp_of x' y' z')
clamp_doubles {x = x} {x' = x'} {y = y} {y' = y'} {z = z} {z' = z'} f g h = record {
  is = ap (λ (a : Float). clamp_of a y' z') f.is ∙ ap (λ (a : Float). clamp_of (twice x) a z') g.is ∙ ap (λ (a : Float). clamp_of (twice x) (twice y) a) h.is ∙ clamp_twice x y z;
  stepped = clamp_stepped f.stepped g.stepped h.stepped;
}

-- ---- numbers that both calculations have
zero_is : twice f0 ≡ f0
unfolding twice of_bits
zero_is = refl

zero_number : Finite f0
unfolding fits is_finite of_bits
zero_number = record { held = tt; finite = tt }

zero_grains : grains f0 ≡ 0
unfolding grains of_bits
zero_grains = refl

-- 0 is its own double
pub zero_doubles : (lo top : ℕ) → Doubles lo top f0 f0
zero_doubles lo top = record {
  is = sym zero_is;
  stepped = record { number = zero_number; count = 0; grid = zero_grains ∙ sym (zero-mul (2 ^ lo)); size = le_trans (le_of_eq zero_grains) zero-le };
}

in_grains : (x : Float) (s : Bool) (n : ℕ) → HasValue x s n 1 → HasValue x s (n * 2 ^ 1074) (2 ^ 1074)
in_grains nan s n h = h
in_grains (inf t) s n h = h
in_grains (fin t m e) s n h = (h.0, at (m * up e) (down e) (2 ^ 1074) h.1)
  where
    at : (p d w : ℕ) → p * 1 ≡ n * d → p * w ≡ n * w * d
    at p d w h = let z : p * 1 * w ≡ n * d * w = ap (λ (k : ℕ). k * w) h in omega arith

whole_grains : (s : Bool) (n : ℕ) → n ≤ 2 ^ 53 → grains (round binary64 s n 1) ≡ n * 2 ^ 1074
whole_grains s n h = grains_of (round binary64 s n 1) s (n * 2 ^ 1074) (in_grains (round binary64 s n 1) s n (round_whole binary64 s n h))

whole_number : (s : Bool) (n : ℕ) → n ≤ 2 ^ 53 → Stepped 1074 (n * 2 ^ 1074) (round binary64 s n 1)
whole_number s n h = record {
  number = record { held = round-fits binary64 s n 1; finite = finite_of (round binary64 s n 1) s n 1 (round_whole binary64 s n h) };
  count = n;
  grid = whole_grains s n h;
  size = le_of_eq (whole_grains s n h);
}

pub num_grains : (n : ℕ) → n ≤ 2 ^ 53 → grains (num n) ≡ n * 2 ^ 1074
unfolding of_int
num_grains n h = whole_grains false n h

-- a whole number of up to 2 ^ 53
pub num_stepped : (n : ℕ) → n ≤ 2 ^ 53 → Stepped 1074 (n * 2 ^ 1074) (num n)
unfolding of_int
num_stepped n h = whole_number false n h

pub int_stepped : (z : ℤ) (n : ℕ) → nat_abs z ≤ n → n ≤ 2 ^ 53 → Stepped 1074 (n * 2 ^ 1074) (int z)
unfolding of_int
int_stepped (pos k) n h l = widen_to 1074 (n * 2 ^ 1074) (le_refl 1074) (mul-le-mul_right (2 ^ 1074) h) (whole_number false k (le_trans h l))
int_stepped (negsuc k) n h l = widen_to 1074 (n * 2 ^ 1074) (le_refl 1074) (mul-le-mul_right (2 ^ 1074) h) (whole_number true (suc k) (le_trans h l))
