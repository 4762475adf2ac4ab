-- The order of the keys is that of the floats, -0 below +0. Assumes nothing.
use Rattle.std.proofs.Common.{◌≡◌, ℕ, zero, suc, ◌+◌, ◌-◌, ◌*◌, ◌/◌, ◌%◌, ◌^◌, ◌<◌, ◌≤◌, Bool, true, false, cond, not, ◌&&◌, ◌||◌, T, eqb, ltb, ◌⊎◌, ℤ, pos, sym, refl, ap, ◌∙◌, subst, inl, inr, true≢false, le_trans, le_of_eq, lt_of_lt_of_le, mul-le-mul_right, mul-le-mul, add_comm, eq-or-lt_of_le, mul-lt-mul_of_pos_right, mul-pos, lt_of_not-le, zero-mul, arith, eqb→eq, ltb→lt, lt→ltb, nltb→le, pow_pos, pow_mono, pow-add, shl_lt, eq-eqb, ne_eqb, le-leb}
use native.Mathlib.Decide.{dec_le, ℕ_discrete}
use mathlib.Core.Bool.{beq}
use lib.Dec.{eqb_refl}
use lib.Ieee.{Float, nan, inf, fin, up, down, lt, eq, le, neg, below, level, odd, of_fields, nan_bits, is_nan, fits, of_bits, to_bits, binary64}
use lib.Ieee.Fits.{and_l, and_r, and_i, down_pos}
use lib.Ieee.Exact.{HasValue}
use lib.Ieee.Bits.{nan_bits_above, nan_bits_is, of_bits-to_bits, to_bits-lt}
use borrow.Author.Tests.{lt-leb}
use Rattle.numbers.specs.Key.{key_of}
use Rattle.numbers.specs.Ops.{order_key}
use Rattle.numbers.specs.Small.{is_finite}
use Rattle.numbers.specs.Stages.Steps.{Packed}
use Rattle.numbers.proofs.float.Signs.{zero_bits, inf_bits, odd_neg}
use Rattle.numbers.proofs.float.Pack.{packed_value}

abbrev INF : ℕ
INF = 0x7ff0_0000_0000_0000

-- ---- the parts of a pattern
pub parts : (p : ℕ) → (m : ℕ) × (e : ℕ) × Packed p m e
parts p = go (dec_le (2 ^ 52) p)
  where
    some : 2 ^ 52 ≤ p → Packed p (p % 2 ^ 52 + 2 ^ 52) (p / 2 ^ 52 - 1)
    some h = record { sum = omega arith; small = omega arith; normal = λ k. omega arith }

    none : (2 ^ 52 ≤ p → ⊥) → Packed p p 0
    none h = record { sum = omega arith; small = omega arith; normal = λ k. omega arith }

    go : Dec (2 ^ 52 ≤ p) → (m : ℕ) × (e : ℕ) × Packed p m e
    go (yes h) = (p % 2 ^ 52 + 2 ^ 52, p / 2 ^ 52 - 1, some h)
    go (no f) = (p, 0, none f)

-- ---- the larger pattern has the larger value
value_lt : (p m e q n d : ℕ) → Packed p m e → Packed q n d → p < q → m * 2 ^ e < n * 2 ^ d
value_lt p m e q n d P Q h = go (dec_le d e)
  where
    same : d ≤ e → (0 < e → 2 ^ 52 ≤ m) → (d ≡ e) × (m < n)
    same k g = at (dec_le e d)
      where
        at : Dec (e ≤ d) → (d ≡ e) × (m < n)
        at (yes l) = let z : d ≡ e = omega arith in (z, omega (arith, P.sum, Q.sum, z))
        at (no f) = let z : 2 ^ 52 ≤ m = g (omega arith) in absurd (never z f)
          where
            never : 2 ^ 52 ≤ m → (e ≤ d → ⊥) → ⊥
            never z f = omega (arith, P.sum, Q.sum, Q.small)

    go : Dec (d ≤ e) → m * 2 ^ e < n * 2 ^ d
    go (yes k) = let z = same k P.normal in subst (λ (j : ℕ). m * 2 ^ e < n * 2 ^ j) (sym z.0) (mul-lt-mul_of_pos_right z.1 (pow_pos e))
    go (no f) =
        let more : 1 + e ≤ d = omega arith in
        lt_of_lt_of_le (shl_lt 53 e P.small)
        (le_trans (le_of_eq (ap (λ (j : ℕ). 2 ^ j) (shape e) ∙ pow-add 2 52 (1 + e)))
        (mul-le-mul {n₁ = 2 ^ 52} {m₁ = 2 ^ (1 + e)} {n₂ = n} {m₂ = 2 ^ d} (Q.normal (big more)) (pow_mono more)))
      where
        shape : (e : ℕ) → 53 + e ≡ 52 + (1 + e)
        shape e = omega arith

        big : 1 + e ≤ d → 0 < d
        big h = omega arith

value_of : (p m e : ℕ) → Packed p m e → p < INF → HasValue (of_bits binary64 p) false (m * 2 ^ e) (2 ^ 1074)
value_of p m e P h =
    subst (λ (a : ℕ). HasValue (of_bits binary64 a) false (m * 2 ^ e) (2 ^ 1074)) (sym P.sum)
    (packed_value m e P.small P.normal (subst (λ (a : ℕ). a < INF) P.sum h))

-- ---- patterns that are not negative
below_inf : (x : Float) (a c : ℕ) → HasValue x false a c → T (lt x (inf false))
unfolding lt
below_inf nan a c h = absurd h
below_inf (inf s) a c h = absurd h
below_inf (fin s m e) a c h = tt

cross : (x y de dd a b c : ℕ) → 0 < de → 0 < dd → x * c ≡ a * de → y * c ≡ b * dd → a < b → x * dd < y * de
cross x y de dd a b c P Q e f h =
    lt_of_not-le (λ (k : y * de ≤ x * dd).
    let k' : y * de * c ≤ x * dd * c = mul-le-mul_right c k in
    let e' : x * c * dd ≡ a * de * dd = ap (λ (t : ℕ). t * dd) e in
    let f' : y * c * de ≡ b * dd * de = ap (λ (t : ℕ). t * de) f in
    let h' : suc a * (de * dd) ≤ b * (de * dd) = mul-le-mul_right (de * dd) h in
    let z : 0 < de * dd = mul-pos P Q in
    omega arith)

lt_of_values : (x y : Float) (a b c : ℕ) → HasValue x false a c → HasValue y false b c → a < b → T (lt x y)
unfolding lt
lt_of_values nan y a b c p q h = absurd p
lt_of_values (inf s) y a b c p q h = absurd p
lt_of_values (fin true m e) y a b c p q h = absurd (true≢false p.0)
lt_of_values (fin false m e) nan a b c p q h = absurd q
lt_of_values (fin false m e) (inf t) a b c p q h = absurd q
lt_of_values (fin false m e) (fin true n d) a b c p q h = absurd (true≢false q.0)
lt_of_values (fin false m e) (fin false n d) a b c p q h =
    lt→ltb (m * up e * down d) (n * up d * down e) (cross (m * up e) (n * up d) (down e) (down d) a b c (down_pos e) (down_pos d) p.1 q.1 h)

lt_positive : (p q : ℕ) → p < q → q ≤ INF → T (lt (of_bits binary64 p) (of_bits binary64 q))
lt_positive p q h k = go (eq-or-lt_of_le k)
  where
    z : (m : ℕ) × (e : ℕ) × Packed p m e
    z = parts p

    low : HasValue (of_bits binary64 p) false (z.0 * 2 ^ z.1) (2 ^ 1074)
    low = value_of p z.0 z.1 z.2 (lt_of_lt_of_le h k)

    go : (q ≡ INF) ⊎ (q < INF) → T (lt (of_bits binary64 p) (of_bits binary64 q))
    go (inl e) =
        subst (λ (x : Float). T (lt (of_bits binary64 p) x)) (sym (ap (of_bits binary64) e ∙ inf_bits)) (below_inf (of_bits binary64 p) (z.0 * 2 ^ z.1) (2 ^ 1074) low)
    go (inr l) =
        let w = parts q in
        lt_of_values (of_bits binary64 p) (of_bits binary64 q) (z.0 * 2 ^ z.1) (w.0 * 2 ^ w.1) (2 ^ 1074) low (value_of q w.0 w.1 w.2 l)
        (value_lt p z.0 z.1 q w.0 w.1 z.2 w.2 h)

-- ---- the sign's bit
fields_neg : (x t : ℕ) → of_fields binary64 true x t ≡ neg (of_fields binary64 false x t)
unfolding of_fields neg
fields_neg zero t = odd_neg 53 t 0 1074
fields_neg (suc x) t = at (eqb (suc x) 2047) (eqb t 0)
  where
    at : (a b : Bool) → cond a (cond b (inf true) nan) (odd 53 true (2 ^ 52 + t) x 1074) ≡ neg (cond a (cond b (inf false) nan) (odd 53 false (2 ^ 52 + t) x 1074))
    at true true = refl
    at true false = refl
    at false b = odd_neg 53 (2 ^ 52 + t) x 1074

neg_bits : (p : ℕ) → p < 2 ^ 63 → of_bits binary64 (p + 2 ^ 63) ≡ neg (of_bits binary64 p)
unfolding of_bits
neg_bits p h =
    ap (λ (b : Bool). of_fields binary64 b ((p + 2 ^ 63) % 2 ^ 63 / 2 ^ 52) ((p + 2 ^ 63) % 2 ^ 52)) (le-leb (2 ^ 63) (p + 2 ^ 63) (above p))
    ∙ ap (λ (x : ℕ). of_fields binary64 true (x / 2 ^ 52) ((p + 2 ^ 63) % 2 ^ 52)) (same-63 p)
    ∙ ap (λ (x : ℕ). of_fields binary64 true (p % 2 ^ 63 / 2 ^ 52) x) (same-52 p)
    ∙ fields_neg (p % 2 ^ 63 / 2 ^ 52) (p % 2 ^ 52)
    ∙ ap (λ (b : Bool). neg (of_fields binary64 b (p % 2 ^ 63 / 2 ^ 52) (p % 2 ^ 52))) (sym (lt-leb (2 ^ 63) p h))
  where
    above : (p : ℕ) → 2 ^ 63 ≤ p + 2 ^ 63
    above p = omega arith

    same-63 : (p : ℕ) → (p + 2 ^ 63) % 2 ^ 63 ≡ p % 2 ^ 63
    same-63 p = omega arith

    same-52 : (p : ℕ) → (p + 2 ^ 63) % 2 ^ 52 ≡ p % 2 ^ 52
    same-52 p = omega arith

-- ---- the order and the sign
or_left : (a b : Bool) → T a → T (a || b)
or_left true b h = tt
or_left false b h = absurd h

or_right : (a b : Bool) → T b → T (a || b)
or_right true b h = tt
or_right false b h = h

-- no float is below one that it is not above
below_neg : (s t : Bool) (a b : ℕ) → T (below s a t b) → T (below (not t) b (not s) a)
below_neg false false a b h = h
below_neg false true a b h = h
below_neg true false a b h = subst (λ (c : ℕ). T (ltb 0 c)) (add_comm a b) h
below_neg true true a b h = h

level_neg : (s t : Bool) (a b : ℕ) → T (level s a t b) → T (level (not t) b (not s) a)
level_neg s t a b h =
    let e : a ≡ b = eqb→eq a b (and_l (eqb a b) (beq s t || eqb a 0) h) in
    subst (λ (c : ℕ). T (level (not t) c (not s) a)) e (and_i (eqb a a) (beq (not t) (not s) || eqb a 0) (eqb_refl a) (signs s t (eqb a 0) (and_r (eqb a b) (beq s t || eqb a 0) h)))
  where
    signs : (s t z : Bool) → T (beq s t || z) → T (beq (not t) (not s) || z)
    signs false false z h = tt
    signs false true z h = h
    signs true false z h = h
    signs true true z h = tt

or_map : (a b c d : Bool) → (T a → T c) → (T b → T d) → T (a || b) → T (c || d)
or_map true b c d f g h = or_left c d (f tt)
or_map false b c d f g h = or_right c d (g h)

pub le_neg : (x y : Float) → T (le x y) → T (le (neg y) (neg x))
unfolding le neg
le_neg nan y h = absurd h
le_neg (inf s) nan h = absurd h
le_neg (inf true) (inf true) h = tt
le_neg (inf true) (inf false) h = tt
le_neg (inf false) (inf true) h = absurd h
le_neg (inf false) (inf false) h = tt
le_neg (inf true) (fin t n d) h = tt
le_neg (inf false) (fin t n d) h = absurd h
le_neg (fin s m e) nan h = absurd h
le_neg (fin s m e) (inf true) h = absurd h
le_neg (fin s m e) (inf false) h = tt
le_neg (fin s m e) (fin t n d) h =
    let a = m * up e * down d in
    let b = n * up d * down e in
    or_map (below s a t b) (level s a t b) (below (not t) b (not s) a) (level (not t) b (not s) a) (below_neg s t a b) (level_neg s t a b) h

lt_neg : (x y : Float) → T (lt x y) → T (lt (neg y) (neg x))
unfolding lt neg
lt_neg nan y h = absurd h
lt_neg (inf s) nan h = absurd h
lt_neg (inf true) (inf true) h = absurd h
lt_neg (inf true) (inf false) h = tt
lt_neg (inf false) (inf t) h = absurd h
lt_neg (inf true) (fin t n d) h = tt
lt_neg (inf false) (fin t n d) h = absurd h
lt_neg (fin s m e) nan h = absurd h
lt_neg (fin s m e) (inf true) h = absurd h
lt_neg (fin s m e) (inf false) h = tt
lt_neg (fin s m e) (fin t n d) h = below_neg s t (m * up e * down d) (n * up d * down e) h

-- not negative, and no NaN
unfoldable pub plus : Float → Bool
plus nan = false
plus (inf s) = not s
plus (fin s m e) = not s

pub le_cross : (x y : Float) → T (plus x) → T (plus y) → T (le (neg x) y)
unfolding le neg plus
le_cross nan y h k = absurd h
le_cross (inf true) y h k = absurd h
le_cross (inf false) nan h k = absurd k
le_cross (inf false) (inf true) h k = absurd k
le_cross (inf false) (inf false) h k = tt
le_cross (inf false) (fin t n d) h k = tt
le_cross (fin true m e) y h k = absurd h
le_cross (fin false m e) nan h k = absurd k
le_cross (fin false m e) (inf true) h k = absurd k
le_cross (fin false m e) (inf false) h k = tt
le_cross (fin false m e) (fin true n d) h k = absurd k
le_cross (fin false m e) (fin false n d) h k = at (m * up e * down d) (n * up d * down e)
  where
    at : (a b : ℕ) → T (ltb 0 (a + b) || (eqb a b && (false || eqb a 0)))
    at zero zero = tt
    at zero (suc b) = or_left (ltb 0 (0 + suc b)) _ (lt→ltb 0 (0 + suc b) (omega arith))
    at (suc a) b = or_left (ltb 0 (suc a + b)) _ (lt→ltb 0 (suc a + b) (omega arith))

-- a number above zero
abbrev Above : Float → Type 0
Above x = T (lt (fin false 0 (pos 0)) x)

above_fin : (m : ℕ) (e d : ℤ) → Above (fin false m e) → 0 < m * up e * down d
unfolding lt
above_fin m e d h = mul-pos (go (m * up e) (ltb→lt (0 * down e) (m * up e * 1) h)) (down_pos d)
  where
    go : (n : ℕ) → 0 * down e < n * 1 → 0 < n
    go n k = omega (arith, zero-mul (down e))

lt_cross : (x y : Float) → T (plus x) → T (plus y) → Above x ⊎ Above y → T (lt (neg x) y)
unfolding lt neg plus
lt_cross nan y h k o = absurd h
lt_cross (inf true) y h k o = absurd h
lt_cross (inf false) nan h k o = absurd k
lt_cross (inf false) (inf true) h k o = absurd k
lt_cross (inf false) (inf false) h k o = tt
lt_cross (inf false) (fin t n d) h k o = tt
lt_cross (fin true m e) y h k o = absurd h
lt_cross (fin false m e) nan h k o = absurd k
lt_cross (fin false m e) (inf true) h k o = absurd k
lt_cross (fin false m e) (inf false) h k o = tt
lt_cross (fin false m e) (fin true n d) h k o = absurd k
lt_cross (fin false m e) (fin false n d) h k o = lt→ltb 0 (m * up e * down d + n * up d * down e) (go o)
  where
    go : Above (fin false m e) ⊎ Above (fin false n d) → 0 < m * up e * down d + n * up d * down e
    go (inl a) = let z : 0 < m * up e * down d = above_fin m e d a in omega arith
    go (inr a) = let z : 0 < n * up d * down e = above_fin n d e a in omega arith

pub plus_value : (x : Float) (a c : ℕ) → HasValue x false a c → T (plus x)
unfolding plus
plus_value nan a c h = absurd h
plus_value (inf s) a c h = absurd h
plus_value (fin true m e) a c h = absurd (true≢false h.0)
plus_value (fin false m e) a c h = tt

pub plus_inf : T (plus (inf false))
unfolding plus
plus_inf = tt

plus_bits : (p : ℕ) → p ≤ INF → T (plus (of_bits binary64 p))
plus_bits p h = go (eq-or-lt_of_le h)
  where
    go : (p ≡ INF) ⊎ (p < INF) → T (plus (of_bits binary64 p))
    go (inl e) = subst (λ (a : ℕ). T (plus (of_bits binary64 a))) (sym e) (subst (λ (x : Float). T (plus x)) (sym inf_bits) plus_inf)
    go (inr l) = let z = parts p in plus_value (of_bits binary64 p) (z.0 * 2 ^ z.1) (2 ^ 1074) (value_of p z.0 z.1 z.2 l)

above_bits : (p : ℕ) → 0 < p → p ≤ INF → Above (of_bits binary64 p)
above_bits p h k = subst (λ (x : Float). T (lt x (of_bits binary64 p))) zero_bits (lt_positive 0 p h k)

-- ---- what is below is not at or above
eqb_sym : (a b : ℕ) → eqb a b ≡ eqb b a
eqb_sym a b = go (ℕ_discrete a b)
  where
    go : Dec (a ≡ b) → eqb a b ≡ eqb b a
    go (yes e) = eq-eqb a b e ∙ sym (eq-eqb b a (sym e))
    go (no f) = ne_eqb a b f ∙ sym (ne_eqb b a (λ e. f (sym e)))

pub or_elim : (a b : Bool) → T (a || b) → T a ⊎ T b
or_elim true b h = inl tt
or_elim false b h = inr h

less_both : (a b : ℕ) (z : Bool) → T (ltb a b) → T (ltb b a || (eqb b a && z)) → ⊥
less_both a b z h k = go (or_elim (ltb b a) (eqb b a && z) k)
  where
    no_less : a < b → b < a → ⊥
    no_less p q = omega arith

    no_same : a < b → b ≡ a → ⊥
    no_same p q = omega arith

    go : T (ltb b a) ⊎ T (eqb b a && z) → ⊥
    go (inl l) = no_less (ltb→lt a b h) (ltb→lt b a l)
    go (inr l) = no_same (ltb→lt a b h) (eqb→eq b a (and_l (eqb b a) z l))

not_both_at : (s t : Bool) (a b : ℕ) → T (below s a t b) → T (below t b s a || level t b s a) → ⊥
not_both_at false false a b h k = less_both a b true h k
not_both_at false true a b h k = h
not_both_at true false a b h k = no-sum (ltb→lt 0 (a + b) h) (eqb→eq b a (and_l (eqb b a) (eqb b 0) k)) (eqb→eq b 0 (and_r (eqb b a) (eqb b 0) k))
  where
    no-sum : 0 < a + b → b ≡ a → b ≡ 0 → ⊥
    no-sum p q r = omega arith
not_both_at true true a b h k = less_both b a true h (subst (λ (t : Bool). T (ltb a b || (t && true))) (eqb_sym b a) k)

pub not_both : (x y : Float) → T (lt x y) → T (le y x) → ⊥
unfolding lt le eq
not_both nan y h k = h
not_both (inf s) nan h k = h
not_both (inf true) (inf true) h k = h
not_both (inf true) (inf false) h k = k
not_both (inf false) (inf t) h k = h
not_both (inf true) (fin t n d) h k = k
not_both (inf false) (fin t n d) h k = h
not_both (fin s m e) nan h k = h
not_both (fin s m e) (inf true) h k = h
not_both (fin s m e) (inf false) h k = k
not_both (fin s m e) (fin t n d) h k = not_both_at s t (m * up e * down d) (n * up d * down e) h k

pub le_of_lt_float : (x y : Float) → T (lt x y) → T (le x y)
unfolding le
le_of_lt_float x y h = or_left (lt x y) (eq x y) h

pub le_self : (x : Float) → T (not (is_nan x)) → T (le x x)
unfolding le lt eq is_nan
le_self nan h = absurd h
le_self (inf true) h = tt
le_self (inf false) h = tt
le_self (fin s m e) h =
    or_right (below s (m * up e * down e) s (m * up e * down e)) (level s (m * up e * down e) s (m * up e * down e))
    (and_i (eqb (m * up e * down e) (m * up e * down e)) (beq s s || eqb (m * up e * down e) 0) (eqb_refl (m * up e * down e)) (own s))
  where
    own : (s : Bool) → T (beq s s || eqb (m * up e * down e) 0)
    own true = tt
    own false = tt

-- ---- the law
pub key_low : (b : ℕ) → b < 2 ^ 63 → key_of b ≡ b + 2 ^ 63
unfolding key_of
key_low b h = ap (λ (t : Bool). cond t (2 ^ 64 - 1 - b) (b + 2 ^ 63)) (lt-leb (2 ^ 63) b h)

pub key_high : (b : ℕ) → 2 ^ 63 ≤ b → key_of b ≡ 2 ^ 64 - 1 - b
unfolding key_of
key_high b h = ap (λ (t : Bool). cond t (2 ^ 64 - 1 - b) (b + 2 ^ 63)) (le-leb (2 ^ 63) b h)

no_nan : (b : ℕ) → T (not (nan_bits binary64 b)) → b % 2 ^ 63 ≤ INF
no_nan b h = nltb→le INF (b % 2 ^ 63) (subst (λ (t : Bool). T (not t)) (nan_bits_above binary64 b) h)

-- keys differ where patterns do
pub key_injective : (a b : ℕ) → a < 2 ^ 64 → b < 2 ^ 64 → key_of a ≡ key_of b → a ≡ b
key_injective a b A B e = go (dec_le (2 ^ 63) a) (dec_le (2 ^ 63) b)
  where
    low : (n : ℕ) → (2 ^ 63 ≤ n → ⊥) → n < 2 ^ 63
    low n f = omega arith

    go : Dec (2 ^ 63 ≤ a) → Dec (2 ^ 63 ≤ b) → a ≡ b
    go (yes p) (yes q) = omega (arith, key_high a p, key_high b q)
    go (yes p) (no g) = absurd (omega (arith, key_high a p, key_low b (low b g)))
    go (no f) (yes q) = absurd (omega (arith, key_low a (low a f), key_high b q))
    go (no f) (no g) = omega (arith, key_low a (low a f), key_low b (low b g))

-- for bit patterns of no NaN: the lower key is that of the lower number, or of -0 beside +0
pub key_cases : (a b : ℕ) → a < 2 ^ 64 → b < 2 ^ 64 → T (not (nan_bits binary64 a)) → T (not (nan_bits binary64 b)) → key_of a < key_of b
    → T (lt (of_bits binary64 a) (of_bits binary64 b)) ⊎ ((a ≡ 2 ^ 63) × (b ≡ 0))
key_cases a b A B NA NB h = go (dec_le (2 ^ 63) a) (dec_le (2 ^ 63) b)
  where
    low : (n : ℕ) → (2 ^ 63 ≤ n → ⊥) → n < 2 ^ 63
    low n f = omega arith

    plain : (n : ℕ) → n < 2 ^ 63 → n % 2 ^ 63 ≤ INF → n ≤ INF
    plain n l k = omega arith

    size : (n : ℕ) → 2 ^ 63 ≤ n → n < 2 ^ 64 → n % 2 ^ 63 ≤ INF → (n - 2 ^ 63 ≤ INF) × (n ≡ n - 2 ^ 63 + 2 ^ 63)
    size n l u k = (omega arith, omega arith)

    under : (n : ℕ) → n ≤ INF → n < 2 ^ 63
    under n h = omega arith

    signed : (n : ℕ) → (n - 2 ^ 63 ≤ INF) × (n ≡ n - 2 ^ 63 + 2 ^ 63) → of_bits binary64 n ≡ neg (of_bits binary64 (n - 2 ^ 63))
    signed n z = ap (of_bits binary64) z.1 ∙ neg_bits (n - 2 ^ 63) (under (n - 2 ^ 63) z.0)

    opposite : (n : ℕ) → 2 ^ 63 ≤ a → a - 2 ^ 63 ≡ n → b < 2 ^ 63 → T (lt (of_bits binary64 a) (of_bits binary64 b)) ⊎ ((a ≡ 2 ^ 63) × (b ≡ 0))
    opposite n p e q = at (ℕ_discrete n 0) (ℕ_discrete b 0)
      where
        x : (a - 2 ^ 63 ≤ INF) × (a ≡ a - 2 ^ 63 + 2 ^ 63)
        x = size a p A (no_nan a NA)

        y : b ≤ INF
        y = plain b q (no_nan b NB)

        across : Above (of_bits binary64 (a - 2 ^ 63)) ⊎ Above (of_bits binary64 b) → T (lt (of_bits binary64 a) (of_bits binary64 b)) ⊎ ((a ≡ 2 ^ 63) × (b ≡ 0))
        across o =
            inl (subst (λ (v : Float). T (lt v (of_bits binary64 b))) (sym (signed a x))
            (lt_cross (of_bits binary64 (a - 2 ^ 63)) (of_bits binary64 b) (plus_bits (a - 2 ^ 63) x.0) (plus_bits b y) o))

        at : Dec (n ≡ 0) → Dec (b ≡ 0) → T (lt (of_bits binary64 a) (of_bits binary64 b)) ⊎ ((a ≡ 2 ^ 63) × (b ≡ 0))
        at (yes z) (yes w) = inr (omega arith, w)
        at (no f) w = across (inl (above_bits (a - 2 ^ 63) (lt_of_not-le (λ k. f (omega arith))) x.0))
        at (yes z) (no g) = across (inr (above_bits b (lt_of_not-le (λ k. g (omega arith))) y))

    go : Dec (2 ^ 63 ≤ a) → Dec (2 ^ 63 ≤ b) → T (lt (of_bits binary64 a) (of_bits binary64 b)) ⊎ ((a ≡ 2 ^ 63) × (b ≡ 0))
    go (yes p) (yes q) =
        let x = size a p A (no_nan a NA) in
        let y = size b q B (no_nan b NB) in
        let o : b - 2 ^ 63 < a - 2 ^ 63 = omega (arith, key_high a p, key_high b q) in
        inl (subst (λ (v : Float). T (lt v (of_bits binary64 b))) (sym (signed a x))
        (subst (λ (v : Float). T (lt (neg (of_bits binary64 (a - 2 ^ 63))) v)) (sym (signed b y))
        (lt_neg (of_bits binary64 (b - 2 ^ 63)) (of_bits binary64 (a - 2 ^ 63)) (lt_positive (b - 2 ^ 63) (a - 2 ^ 63) o x.0))))
    go (yes p) (no g) = opposite (a - 2 ^ 63) p refl (low b g)
    go (no f) (yes q) = absurd (omega (arith, key_low a (low a f), key_high b q))
    go (no f) (no g) =
        let o : a < b = omega (arith, key_low a (low a f), key_low b (low b g)) in
        inl (lt_positive a b o (plain b (low b g) (no_nan b NB)))

zeros : T (le (of_bits binary64 (2 ^ 63)) (of_bits binary64 0))
unfolding of_bits of_fields odd le lt eq
zeros = tt

-- the floats are in the order of their keys
pub key_le : (a b : ℕ) → a < 2 ^ 64 → b < 2 ^ 64 → T (not (nan_bits binary64 a)) → T (not (nan_bits binary64 b)) → key_of a ≤ key_of b → T (le (of_bits binary64 a) (of_bits binary64 b))
key_le a b A B NA NB h = go (eq-or-lt_of_le h)
  where
    at : T (lt (of_bits binary64 a) (of_bits binary64 b)) ⊎ ((a ≡ 2 ^ 63) × (b ≡ 0)) → T (le (of_bits binary64 a) (of_bits binary64 b))
    at (inl l) = le_of_lt_float (of_bits binary64 a) (of_bits binary64 b) l
    at (inr z) =
        subst (λ (n : ℕ). T (le (of_bits binary64 n) (of_bits binary64 b))) (sym z.0)
        (subst (λ (n : ℕ). T (le (of_bits binary64 (2 ^ 63)) (of_bits binary64 n))) (sym z.1) zeros)

    go : (key_of a ≡ key_of b) ⊎ (key_of a < key_of b) → T (le (of_bits binary64 a) (of_bits binary64 b))
    go (inl e) =
        subst (λ (n : ℕ). T (le (of_bits binary64 a) (of_bits binary64 n))) (key_injective a b A B e)
        (le_self (of_bits binary64 a) (subst (λ (t : Bool). T (not t)) (nan_bits_is binary64 a) NA))
    go (inr l) = at (key_cases a b A B NA NB l)

-- a float below another has the smaller key
pub key_lt : (a b : ℕ) → a < 2 ^ 64 → b < 2 ^ 64 → T (not (nan_bits binary64 a)) → T (not (nan_bits binary64 b)) → T (lt (of_bits binary64 a) (of_bits binary64 b)) → key_of a < key_of b
key_lt a b A B NA NB h = lt_of_not-le (λ (k : key_of b ≤ key_of a). not_both (of_bits binary64 a) (of_bits binary64 b) h (key_le b a B A NB NA k))

-- ---- the same of floats
module _ (x y : Float) (xf : T (fits binary64 x)) (yf : T (fits binary64 y)) (xn : T (not (is_nan x))) (yn : T (not (is_nan y))) where
  pattern_no_nan : (v : Float) → T (fits binary64 v) → T (not (is_nan v)) → T (not (nan_bits binary64 (to_bits binary64 v)))
  pattern_no_nan v f n = subst (λ (t : Bool). T (not t)) (sym (nan_bits_is binary64 (to_bits binary64 v) ∙ ap is_nan (of_bits-to_bits binary64 v f))) n

  pub order_key_le : order_key x ≤ order_key y → T (le x y)
  order_key_le h =
      subst (λ (v : Float). T (le v y)) (of_bits-to_bits binary64 x xf)
      (subst (λ (v : Float). T (le (of_bits binary64 (to_bits binary64 x)) v)) (of_bits-to_bits binary64 y yf)
      (key_le (to_bits binary64 x) (to_bits binary64 y) (to_bits-lt binary64 x xf) (to_bits-lt binary64 y yf) (pattern_no_nan x xf xn) (pattern_no_nan y yf yn) h))

  pub order_key_injective : order_key x ≡ order_key y → x ≡ y
  order_key_injective e =
      sym (of_bits-to_bits binary64 x xf)
      ∙ ap (of_bits binary64) (key_injective (to_bits binary64 x) (to_bits binary64 y) (to_bits-lt binary64 x xf) (to_bits-lt binary64 y yf) e)
      ∙ of_bits-to_bits binary64 y yf

pub order_key_lt : (x y : Float) → T (fits binary64 x) → T (fits binary64 y) → T (not (is_nan x)) → T (not (is_nan y)) → T (lt x y) → order_key x < order_key y
order_key_lt x y xf yf xn yn h = lt_of_not-le (λ (k : order_key y ≤ order_key x). not_both x y h (order_key_le y x yf xf yn xn k))

-- a finite float is no NaN, so that it has an order key
pub finite_no_nan : (x : Float) → is_finite x ≡ true → T (not (is_nan x))
unfolding is_finite is_nan
finite_no_nan nan h = absurd (true≢false (sym h))
finite_no_nan (inf s) h = tt
finite_no_nan (fin s m e) h = tt
