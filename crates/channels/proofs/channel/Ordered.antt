-- Channels: the lower end of a channel is never above its upper end, whatever the numbers. Assumes nothing.
use mathlib.Core.Path.{◌≡◌, refl, sym, subst}
use mathlib.Core.Bool.{Bool, true, false, cond}
use Prim.Native.Nat.{ℕ, zero, suc, ◌+◌, ◌*◌, ◌≤◌, ◌<◌}
use native.Mathlib.Nat.{lt_of_not-le, mul-le-mul_right, mul-lt-mul_of_pos_right, zero-mul}
use native.Mathlib.Omega.{arith}
use lib.Dec.{T, ltb, ltb→lt, lt→ltb}
use lib.Ieee.{Float, nan, inf, fin, up, down, lt, below, of_bits, of_fields, odd}
use lib.Ieee.Fits.{down_pos}
use Rattle.numbers.specs.Ops.{◌⊕◌, ◌⊘◌, f0, f1, f2}
use Rattle.numbers.specs.Small.{clamp_of}
use Rattle.channels.specs.Channel.{held}

-- ---- fractions x / p, y / q, z / r
chain : (x y z p q r : ℕ) → 0 < p → 0 < q → 0 < r → x * q < y * p → y * r < z * q → x * r < z * p
chain x y z p q r hp hq hr a b =
    let c : x * q * r < y * p * r = mul-lt-mul_of_pos_right a hr in
    let d : y * r * p < z * q * p = mul-lt-mul_of_pos_right b hp in
    lt_of_not-le (λ (h : z * p ≤ x * r). let e : z * p * q ≤ x * r * q = mul-le-mul_right q h in omega arith)

some : (x q y : ℕ) → y < x * q → 0 < x
some zero q y h = absurd (let e : 0 * q ≡ 0 = zero-mul q in omega arith)
some (suc x) q y h = omega arith

many : (x r y : ℕ) → 0 < x → 0 < r → 0 < x * r + y
many x r y h k = let z : 0 * r < x * r = mul-lt-mul_of_pos_right h k in omega (arith, zero-mul r)

below_chain : (s t u : Bool) (x y z p q r : ℕ) → 0 < p → 0 < q → 0 < r → T (below s (x * q) t (y * p)) → T (below t (y * r) u (z * q)) → T (below s (x * r) u (z * p))
below_chain false false false x y z p q r hp hq hr a b = lt→ltb (x * r) (z * p) (chain x y z p q r hp hq hr (ltb→lt (x * q) (y * p) a) (ltb→lt (y * r) (z * q) b))
below_chain false false true x y z p q r hp hq hr a b = absurd b
below_chain false true u x y z p q r hp hq hr a b = absurd a
below_chain true false false x y z p q r hp hq hr a b =
    let h : 0 < z * p + x * r = many z p (x * r) (some z q (y * r) (ltb→lt (y * r) (z * q) b)) hp in
    lt→ltb 0 (x * r + z * p) (omega arith)
below_chain true false true x y z p q r hp hq hr a b = absurd b
below_chain true true false x y z p q r hp hq hr a b = lt→ltb 0 (x * r + z * p) (many x r (z * p) (some x q (y * p) (ltb→lt (y * p) (x * q) a)) hr)
below_chain true true true x y z p q r hp hq hr a b = lt→ltb (z * p) (x * r) (chain z y x r q p hr hq hp (ltb→lt (z * q) (y * r) b) (ltb→lt (y * p) (x * q) a))

-- ---- floats in order
lt_through : (x y z : Float) → T (lt x y) → T (lt y z) → T (lt x z)
unfolding lt
lt_through nan y z a b = absurd a
lt_through (inf s) nan z a b = absurd a
lt_through (inf true) (inf false) nan a b = absurd b
lt_through (inf true) (inf false) (inf u) a b = absurd b
lt_through (inf true) (inf false) (fin u k g) a b = absurd b
lt_through (inf true) (inf true) z a b = absurd a
lt_through (inf false) (inf t) z a b = absurd a
lt_through (inf s) (fin t n d) nan a b = absurd b
lt_through (inf true) (fin t n d) (inf u) a b = b
lt_through (inf false) (fin t n d) (inf u) a b = absurd a
lt_through (inf s) (fin t n d) (fin u k g) a b = a
lt_through (fin s m e) nan z a b = absurd a
lt_through (fin s m e) (inf true) z a b = absurd a
lt_through (fin s m e) (inf false) nan a b = absurd b
lt_through (fin s m e) (inf false) (inf u) a b = absurd b
lt_through (fin s m e) (inf false) (fin u k g) a b = absurd b
lt_through (fin s m e) (fin t n d) nan a b = absurd b
lt_through (fin s m e) (fin t n d) (inf u) a b = b
lt_through (fin s m e) (fin t n d) (fin u k g) a b = below_chain s t u (m * up e) (n * up d) (k * up g) (down e) (down d) (down g) (down_pos e) (down_pos d) (down_pos g) a b

not_true : (b : Bool) → (T b → ⊥) → b ≡ false
not_true true h = absurd (h tt)
not_true false h = refl

no_self : (n : ℕ) → T (ltb n n) → ⊥
no_self n h = let z : n < n = ltb→lt n n h in omega arith

lt_self : (x : Float) → lt x x ≡ false
unfolding lt
lt_self nan = refl
lt_self (inf true) = refl
lt_self (inf false) = refl
lt_self (fin true m e) = not_true (ltb (m * up e * down e) (m * up e * down e)) (no_self (m * up e * down e))
lt_self (fin false m e) = not_true (ltb (m * up e * down e) (m * up e * down e)) (no_self (m * up e * down e))

-- ---- both held to 0 to 1
one_above : lt f0 f1 ≡ true
unfolding lt of_bits of_fields odd
one_above = refl

zero_under : lt f1 f0 ≡ false
unfolding lt of_bits of_fields odd
zero_under = refl

module _ (a z : Float) (h : lt z a ≡ false) where
  no_between : (m : Float) → lt z m ≡ true → lt m a ≡ true → ⊥
  no_between m p q = subst T h (lt_through z m a (subst T (sym p) tt) (subst T (sym q) tt))

  is_true : (b : Bool) → T b → b ≡ true
  is_true true t = refl
  is_true false t = absurd t

  held_order : lt (clamp_of z f0 f1) (clamp_of a f0 f1) ≡ false
  unfolding clamp_of
  held_order = go (lt z f0) (lt f1 z) (lt a f0) (lt f1 a) refl refl refl refl
    where
      go : (p q r s : Bool) → lt z f0 ≡ p → lt f1 z ≡ q → lt a f0 ≡ r → lt f1 a ≡ s → lt (cond p f0 (cond q f1 z)) (cond r f0 (cond s f1 a)) ≡ false
      go true q true s zp zq ar ak = lt_self f0
      go false true true s zp zq ar ak = zero_under
      go false false true s zp zq ar ak = zp
      go true q false true zp zq ar ak = absurd (no_between f1 (is_true (lt z f1) (lt_through z f0 f1 (subst T (sym zp) tt) (subst T (sym one_above) tt))) ak)
      go false true false true zp zq ar ak = lt_self f1
      go false false false true zp zq ar ak = not_true (lt z f1) (λ t. no_between f1 (is_true (lt z f1) t) ak)
      go true q false false zp zq ar ak = not_true (lt f0 a) (λ t. no_between f0 zp (is_true (lt f0 a) t))
      go false true false false zp zq ar ak = ak
      go false false false false zp zq ar ak = h

-- Ends that have passed one another become one number, and ends in order stay so.
pub ends_ordered : (lo hi least_step : Float) → lt (held lo hi least_step).hi (held lo hi least_step).lo ≡ false
unfolding held
ends_ordered lo hi least_step = go (lt hi lo) refl
  where
    go : (b : Bool) → lt hi lo ≡ b → lt (clamp_of (cond b ((lo ⊕ hi) ⊘ f2) hi) f0 f1) (clamp_of (cond b ((lo ⊕ hi) ⊘ f2) lo) f0 f1) ≡ false
    go true e = lt_self (clamp_of ((lo ⊕ hi) ⊘ f2) f0 f1)
    go false e = held_order lo hi e
