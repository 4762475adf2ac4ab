-- A bit pattern below infinity's is e * 2 ^ 52 + m, where the float is m * 2 ^ e grains: of a finite f64 that is not negative (`of_packed`), and of the result of `units` (`units_bits`).
-- Assumes nothing.
use Rattle.std.proofs.Common.{◌≡◌, ℕ, zero, suc, ◌+◌, ◌-◌, ◌*◌, ◌/◌, ◌^◌, ◌<◌, ◌≤◌, Bool, false, cond, T, ◌⊎◌, sym, refl, ap, ◌∙◌, subst, inl, inr, lt_of_lt_of_le, lt_of_le_of_lt, le_of_lt, mul-le-mul_right, zero-lt-suc, mul_assoc, mul-le-mul, le_antisymm, eq-or-lt_of_le, lt_of_not-le, zero-add, mul-one, not-le_of_lt, div-one, mul-div_cancel, arith, lit<, lit≤, pow_pos, pow_mono, pow-add, shl_lt, le-ltb, lt-ltb}
use native.Mathlib.Nat.{pow-succ'}
use native.Mathlib.Decide.{dec_le}
use lib.Ieee.{Float, nan, inf, fin, up, down, size, units, odd, to_bits, of_bits, fits, binary64}
use lib.Ieee.Digits.{size-lt, size-le}
use lib.Ieee.Exact.{HasValue, units_val}
use lib.Ieee.Fits.{odd-fits, down_pos}
use lib.Ieee.Bits.{of_bits-to_bits}
use Rattle.numbers.specs.Hypot.{grains}
use Rattle.numbers.proofs.float.Signs.{inf_bits}

pub size_exact : (a n : ℕ) → 2 ^ a ≤ n → n < 2 ^ suc a → size n ≡ suc a
size_exact a n lo hi = le_antisymm (size-le n (suc a) hi) (lt_of_not-le (λ (h : size n ≤ a). not-le_of_lt (lt_of_lt_of_le (size-lt n) (pow_mono h)) lo))

-- what `to_bits` writes, from the number of grains
bits_of_value : (x : Float) (s : Bool) (n : ℕ) → HasValue x s n (2 ^ 1074) → to_bits binary64 x ≡ cond s (2 ^ 63) 0 + (size n - 53) * 2 ^ 52 + n / 2 ^ (size n - 53)
unfolding to_bits
bits_of_value nan s n h = absurd h
bits_of_value (inf t) s n h = absurd h
bits_of_value (fin t m e) s n h =
    ap (λ (b : Bool). cond b (2 ^ 63) 0 + (size (m * up e * 2 ^ 1074 / down e) - 53) * 2 ^ 52 + m * up e * 2 ^ 1074 / down e / 2 ^ (size (m * up e * 2 ^ 1074 / down e) - 53)) h.0
    ∙ ap (λ (a : ℕ). cond s (2 ^ 63) 0 + (size a - 53) * 2 ^ 52 + a / 2 ^ (size a - 53)) (ap (λ (x : ℕ). x / down e) h.1 ∙ mul-div_cancel n (down_pos e))

to_bits_of : (x : Float) (n : ℕ) → HasValue x false n (2 ^ 1074) → to_bits binary64 x ≡ (size n - 53) * 2 ^ 52 + n / 2 ^ (size n - 53)
to_bits_of x n h = bits_of_value x false n h ∙ ap (λ (a : ℕ). a + n / 2 ^ (size n - 53)) (zero-add ((size n - 53) * 2 ^ 52))

-- a float that fits is told by its sign and its grains
pub same_value : (x y : Float) (s : Bool) (n : ℕ) → T (fits binary64 x) → T (fits binary64 y) → HasValue x s n (2 ^ 1074) → HasValue y s n (2 ^ 1074) → x ≡ y
same_value x y s n f g h k =
    sym (of_bits-to_bits binary64 x f)
    ∙ ap (of_bits binary64) (bits_of_value x s n h ∙ sym (bits_of_value y s n k))
    ∙ of_bits-to_bits binary64 y g

-- the grains of such a float
pub grains_of : (x : Float) (s : Bool) (n : ℕ) → HasValue x s n (2 ^ 1074) → grains x ≡ n
unfolding grains
grains_of nan s n h = absurd h
grains_of (inf t) s n h = absurd h
grains_of (fin t m e) s n h = ap (λ (x : ℕ). x / down e) h.1 ∙ mul-div_cancel n (down_pos e)

-- ---- how `to_bits` splits q * 2 ^ k
abbrev bits_at : ℕ → ℕ
bits_at n = (size n - 53) * 2 ^ 52 + n / 2 ^ (size n - 53)

few : (z : ℕ) → z ≤ 53 → z - 53 ≡ 0
few z h = omega arith

-- fewer than 53 digits, or 53: nothing is dropped
split_low : (q : ℕ) → q < 2 ^ 53 → bits_at q ≡ q
split_low q h =
    ap (λ (k : ℕ). k * 2 ^ 52 + q / 2 ^ k) (few (size q) (size-le q 53 h))
    ∙ zero-add (q / 2 ^ 0) ∙ div-one q

at_exp : (n k q : ℕ) → size n - 53 ≡ k → n ≡ q * 2 ^ k → bits_at n ≡ k * 2 ^ 52 + q
at_exp n k q z e =
    ap (λ (j : ℕ). j * 2 ^ 52 + n / 2 ^ j) z
    ∙ ap (λ (a : ℕ). k * 2 ^ 52 + a / 2 ^ k) e
    ∙ ap (λ (a : ℕ). k * 2 ^ 52 + a) (mul-div_cancel q (pow_pos k))

top_digits : (k : ℕ) → suc (52 + k) - 53 ≡ k
top_digits k = omega arith

split_high : (q k : ℕ) → 2 ^ 52 ≤ q → q < 2 ^ 53 → bits_at (q * 2 ^ k) ≡ k * 2 ^ 52 + q
split_high q k lo hi =
    let n = q * 2 ^ k in
    let a : 2 ^ (52 + k) ≤ n = subst (λ (y : ℕ). y ≤ n) (sym (pow-add 2 52 k)) (mul-le-mul_right (2 ^ k) lo) in
    let b : n < 2 ^ suc (52 + k) = subst (λ (y : ℕ). n < 2 ^ y) (shape k) (shl_lt 53 k hi) in
    at_exp n k q (ap (λ (z : ℕ). z - 53) (size_exact (52 + k) n a b) ∙ top_digits k) refl
  where
    shape : (k : ℕ) → 53 + k ≡ suc (52 + k)
    shape k = omega arith

-- a carry out of the 53 digits: 2 ^ 53 * 2 ^ k is 2 ^ 52 * 2 ^ (k + 1)
pub carried : (k : ℕ) → 2 ^ 53 * 2 ^ k ≡ 2 ^ 52 * 2 ^ suc k
carried k = mul_assoc (2 ^ 52) 2 (2 ^ k) ∙ ap (λ (a : ℕ). 2 ^ 52 * a) (sym (pow-succ' 2 k))

split_carry : (k : ℕ) → bits_at (2 ^ 53 * 2 ^ k) ≡ k * 2 ^ 52 + 2 ^ 53
split_carry k = ap bits_at (carried k) ∙ split_high (2 ^ 52) (suc k) (lit≤ tt) (lit< tt) ∙ regroup k
  where
    regroup : (k : ℕ) → suc k * 2 ^ 52 + 2 ^ 52 ≡ k * 2 ^ 52 + 2 ^ 53
    regroup k = omega arith

split : (q k : ℕ) → q ≤ 2 ^ 53 → (0 < k → 2 ^ 52 ≤ q) → bits_at (q * 2 ^ k) ≡ k * 2 ^ 52 + q
split q zero h n = go (eq-or-lt_of_le h)
  where
    go : (q ≡ 2 ^ 53) ⊎ (q < 2 ^ 53) → bits_at (q * 2 ^ 0) ≡ 0 * 2 ^ 52 + q
    go (inl e) = subst (λ (a : ℕ). bits_at (a * 2 ^ 0) ≡ 0 * 2 ^ 52 + a) (sym e) (split_carry 0)
    go (inr l) = ap bits_at (mul-one q) ∙ split_low q l ∙ sym (zero-add q)
split q (suc k) h n = go (eq-or-lt_of_le h)
  where
    go : (q ≡ 2 ^ 53) ⊎ (q < 2 ^ 53) → bits_at (q * 2 ^ suc k) ≡ suc k * 2 ^ 52 + q
    go (inl e) = subst (λ (a : ℕ). bits_at (a * 2 ^ suc k) ≡ suc k * 2 ^ 52 + a) (sym e) (split_carry (suc k))
    go (inr l) = split_high q (suc k) (n (zero-lt-suc k)) l

-- ---- the result of `units`
pub units_value : (q k : ℕ) → q * 2 ^ k < 2 ^ 2098 → HasValue (units binary64 false q k) false (q * 2 ^ k) (2 ^ 1074)
units_value q k h = units_val binary64 false q k h

units_is_odd : (q k : ℕ) → q * 2 ^ k < 2 ^ 2098 → units binary64 false q k ≡ odd 54 false q k 1074
unfolding units
units_is_odd q k h = ap (λ (b : Bool). cond b (odd 54 false q k 1074) (inf false)) (lt-ltb (q * 2 ^ k) (2 ^ 2098) h)

pub units_over : (s : Bool) (q k : ℕ) → 2 ^ 2098 ≤ q * 2 ^ k → units binary64 s q k ≡ inf s
unfolding units
units_over s q k h = ap (λ (b : Bool). cond b (odd 54 s q k 1074) (inf s)) (le-ltb (q * 2 ^ k) (2 ^ 2098) h)

units_fits : (q k : ℕ) → q ≤ 2 ^ 53 → q * 2 ^ k < 2 ^ 2098 → T (fits binary64 (units binary64 false q k))
units_fits q k a h = subst (λ (x : Float). T (fits binary64 x)) (sym (units_is_odd q k h)) (odd-fits binary64 54 false q k (lt_of_le_of_lt a (lit< tt)) a h)

-- the bits k * 2 ^ 52 + q are those of q * 2 ^ k grains
pub units_bits : (q k : ℕ) → q ≤ 2 ^ 53 → (0 < k → 2 ^ 52 ≤ q) → q * 2 ^ k < 2 ^ 2098 → of_bits binary64 (k * 2 ^ 52 + q) ≡ units binary64 false q k
units_bits q k a n h =
    ap (of_bits binary64) (sym (to_bits_of (units binary64 false q k) (q * 2 ^ k) (units_value q k h) ∙ split q k a n))
    ∙ of_bits-to_bits binary64 (units binary64 false q k) (units_fits q k a h)

-- ---- below infinity's bits there is no overflow, and from there on there is
abbrev INF : ℕ
INF = 0x7ff0_0000_0000_0000

under : (q k : ℕ) → q ≤ 2 ^ 53 → (0 < k → 2 ^ 52 ≤ q) → k * 2 ^ 52 + q < INF → q * 2 ^ k < 2 ^ 2098
under q k a n h = either (dec_le k 2044)
  where
    small : q ≤ 2 ^ 53 → q < 2 ^ 54
    small a = omega arith

    is-45 : (2 ^ 52 ≤ q) → (k ≤ 2044 → ⊥) → k * 2 ^ 52 + q < INF → (k ≡ 2045) × (q < 2 ^ 53)
    is-45 a b c = (omega arith, omega arith)

    pos-k : (k ≤ 2044 → ⊥) → 0 < k
    pos-k b = omega arith

    either : Dec (k ≤ 2044) → q * 2 ^ k < 2 ^ 2098
    either (yes l) = lt_of_lt_of_le (shl_lt 54 k (small a)) (pow_mono (bound k l))
      where
        bound : (k : ℕ) → k ≤ 2044 → 54 + k ≤ 2098
        bound k l = omega arith
    either (no f) =
        let z = is-45 (n (pos-k f)) f h in
        subst (λ (j : ℕ). q * 2 ^ j < 2 ^ 2098) (sym z.0) (shl_lt 53 2045 z.1)

over : (q k : ℕ) → q ≤ 2 ^ 53 → (0 < k → 2 ^ 52 ≤ q) → INF ≤ k * 2 ^ 52 + q → 2 ^ 2098 ≤ q * 2 ^ k
over q k a n h = either (dec_le 2046 k)
  where
    is-45 : q ≤ 2 ^ 53 → (2046 ≤ k → ⊥) → INF ≤ k * 2 ^ 52 + q → (2045 ≡ k) × (2 ^ 53 ≡ q)
    is-45 a b c = (omega arith, omega arith)

    pos-k : 2046 ≤ k → 0 < k
    pos-k b = omega arith

    either : Dec (2046 ≤ k) → 2 ^ 2098 ≤ q * 2 ^ k
    either (yes l) = mul-le-mul {n₁ = 2 ^ 52} {m₁ = 2 ^ 2046} {n₂ = q} {m₂ = 2 ^ k} (n (pos-k l)) (pow_mono l)
    either (no f) =
        let z = is-45 a f h in
        subst (λ (j : ℕ). 2 ^ 2098 ≤ q * 2 ^ j) z.0 (subst (λ (p : ℕ). 2 ^ 2098 ≤ p * 2 ^ 2045) z.1 (lit≤ tt))

pub bits_under : (q k : ℕ) → q ≤ 2 ^ 53 → (0 < k → 2 ^ 52 ≤ q) → k * 2 ^ 52 + q < INF → of_bits binary64 (k * 2 ^ 52 + q) ≡ units binary64 false q k
bits_under q k a n h = units_bits q k a n (under q k a n h)

pub bits_over : (q k : ℕ) → q ≤ 2 ^ 53 → (0 < k → 2 ^ 52 ≤ q) → INF ≤ k * 2 ^ 52 + q → of_bits binary64 INF ≡ units binary64 false q k
bits_over q k a n h = inf_bits ∙ sym (units_over false q k (over q k a n h))

-- reading: a pattern below infinity's
pub of_packed : (m e : ℕ) → m < 2 ^ 53 → (0 < e → 2 ^ 52 ≤ m) → e * 2 ^ 52 + m < INF → grains (of_bits binary64 (e * 2 ^ 52 + m)) ≡ m * 2 ^ e
of_packed m e a n h =
    ap grains (bits_under m e (le_of_lt a) n h)
    ∙ grains_of (units binary64 false m e) false (m * 2 ^ e) (units_value m e (under m e (le_of_lt a) n h))

pub packed_value : (m e : ℕ) → m < 2 ^ 53 → (0 < e → 2 ^ 52 ≤ m) → e * 2 ^ 52 + m < INF → HasValue (of_bits binary64 (e * 2 ^ 52 + m)) false (m * 2 ^ e) (2 ^ 1074)
packed_value m e a n h = subst (λ (x : Float). HasValue x false (m * 2 ^ e) (2 ^ 1074)) (sym (bits_under m e (le_of_lt a) n h)) (units_value m e (under m e (le_of_lt a) n h))
