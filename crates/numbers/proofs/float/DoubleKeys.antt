-- Doubling keeps the order of `total_cmp` among numbers with room, -0 below +0 included; and a double is the product with 2. Assumes nothing.
use Rattle.std.proofs.Common.{◌≡◌, ℕ, ◌+◌, ◌*◌, ◌^◌, ◌<◌, ◌≤◌, Bool, true, false, not, ◌&&◌, T, eqb, ltb, leb, pos, sym, refl, ap, ◌∙◌, subst, le_refl, lt_of_lt_of_le, mul_comm, le_antisymm, mul-pos, lt_of_not-le, mul-one, arith, lit<, pow_pos, pow_mono, shl_lt, ltb-false, le-ltb, lt-ltb, eq-eqb, ne_eqb, le-leb}
use native.Mathlib.Decide.{dec_le}
use lib.Ieee.{Float, nan, inf, fin, up, down, unlike, lt, below, mul, round, is_nan, fits, of_bits, binary64}
use lib.Ieee.Bits.{is_true}
use lib.Ieee.Exact.{HasValue, round_exact}
use lib.Ieee.Fits.{down_pos, round-fits}
use borrow.Author.Tests.{lt-leb}
use Rattle.numbers.specs.Small.{abs_of, is_finite}
use Rattle.numbers.specs.Hypot.{grains}
use Rattle.numbers.specs.Ops.{order_key, f2}
use Rattle.numbers.specs.Double.{twice, Finite, Doublable}
use Rattle.numbers.proofs.float.Pack.{same_value}
use Rattle.numbers.proofs.float.Keys.{order_key_lt, finite_no_nan}
use Rattle.numbers.proofs.float.RoundLaws.{value_of}
use Rattle.numbers.proofs.float.DoubleLaws.{lt_twice, below_scale}
use Rattle.numbers.proofs.float.DoubleRound.{round_whole}
use Rattle.numbers.proofs.float.OperationLaws.{widen, widen_2, mul_is}
use Rattle.numbers.proofs.float.DoubleOps.{twice_finite}

-- ---- the order of a / w with the sign s and b / w with the sign t
lt_is : (x y : Float) (s t : Bool) (a b w : ℕ) → 0 < w → HasValue x s a w → HasValue y t b w → lt x y ≡ below s a t b
unfolding lt
lt_is nan y s t a b w W h k = absurd h
lt_is (inf u) y s t a b w W h k = absurd h
lt_is (fin u m e) nan s t a b w W h k = absurd k
lt_is (fin u m e) (inf v) s t a b w W h k = absurd k
lt_is (fin u m e) (fin v n d) s t a b w W h k =
    below_scale u a v b (m * up e * down d) (n * up d * down e) w (down e * down d) W (mul-pos (down_pos e) (down_pos d)) (widen (m * up e) w a (down e) (down d) h.1) (widen_2 (n * up d) w b (down e) (down d) k.1)
    ∙ ap (λ (i : Bool). below i a v b) h.0
    ∙ ap (λ (j : Bool). below s a j b) k.0

-- ---- sizes compare as grains do
abs_value : (x : Float) (s : Bool) (a c : ℕ) → HasValue x s a c → HasValue (abs_of x) false a c
unfolding abs_of
abs_value nan s a c h = h
abs_value (inf t) s a c h = h
abs_value (fin t m e) s a c h = (refl, h.1)

pub lt_abs : (x y : Float) → Finite x → Finite y → lt (abs_of x) (abs_of y) ≡ ltb (grains x) (grains y)
lt_abs x y f g =
    let X = value_of x f.held f.finite in
    let Y = value_of y g.held g.finite in
    lt_is (abs_of x) (abs_of y) false false (grains x) (grains y) (2 ^ 1074) (pow_pos 1074) (abs_value x X.0 (grains x) (2 ^ 1074) X.3) (abs_value y Y.0 (grains y) (2 ^ 1074) Y.3)

zero_fits : (s : Bool) → T (fits binary64 (fin s 0 (pos 0)))
unfolding fits
zero_fits s = tt

twice_zero : (x : Float) (s : Bool) (a : ℕ) → T (fits binary64 x) → HasValue x s a (2 ^ 1074) → a ≡ 0 → twice x ≡ x
twice_zero x s a f h z = ap twice e ∙ at s ∙ sym e
  where
    e : x ≡ fin s 0 (pos 0)
    e = same_value x (fin s 0 (pos 0)) s 0 f (zero_fits s) (subst (λ (v : ℕ). HasValue x s v (2 ^ 1074)) z h) (refl, refl)

    at : (s : Bool) → twice (fin s 0 (pos 0)) ≡ fin s 0 (pos 0)
    at s = unfold twice in refl

no_nan : (x : Float) → Finite x → T (not (is_nan x))
no_nan x f = finite_no_nan x (is_true (is_finite x) f.finite)

-- ---- the order of the keys
key_less : (x y : Float) → Finite x → Finite y → lt x y ≡ true → order_key x < order_key y
key_less x y f g h = order_key_lt x y f.held g.held (no_nan x f) (no_nan y g) (subst T (sym h) tt)

module _ (x y : Float) (f : Doublable x) (g : Doublable y) where
  before : lt x y ≡ true → leb (order_key (twice x)) (order_key (twice y)) ≡ leb (order_key x) (order_key y)
  before h =
      le-leb (order_key (twice x)) (order_key (twice y)) (less (key_less (twice x) (twice y) (twice_finite x f) (twice_finite y g) (lt_twice x y ∙ h)))
      ∙ sym (le-leb (order_key x) (order_key y) (less (key_less x y f.number g.number h)))
    where
      less : {a b : ℕ} → a < b → a ≤ b
      less {a} {b} l = omega arith

  after : lt y x ≡ true → leb (order_key (twice x)) (order_key (twice y)) ≡ leb (order_key x) (order_key y)
  after h =
      lt-leb (order_key (twice x)) (order_key (twice y)) (key_less (twice y) (twice x) (twice_finite y g) (twice_finite x f) (lt_twice y x ∙ h))
      ∙ sym (lt-leb (order_key x) (order_key y) (key_less y x g.number f.number h))

  same : (s : Bool) (a b : ℕ) → a ≡ b → HasValue x s a (2 ^ 1074) → HasValue y s b (2 ^ 1074) → leb (order_key (twice x)) (order_key (twice y)) ≡ leb (order_key x) (order_key y)
  same s a b e h k =
      let i : x ≡ y = same_value x y s b f.number.held g.number.held (subst (λ (v : ℕ). HasValue x s v (2 ^ 1074)) e h) k in
      le-leb (order_key (twice x)) (order_key (twice y)) (subst (λ (z : Float). order_key (twice x) ≤ order_key (twice z)) i (le_refl (order_key (twice x))))
      ∙ sym (le-leb (order_key x) (order_key y) (subst (λ (z : Float). order_key x ≤ order_key z) i (le_refl (order_key x))))

  zeros : (s t : Bool) (a b : ℕ) → HasValue x s a (2 ^ 1074) → HasValue y t b (2 ^ 1074) → a + b ≤ 0 → leb (order_key (twice x)) (order_key (twice y)) ≡ leb (order_key x) (order_key y)
  zeros s t a b h k z =
      ap (λ (v : Float). leb (order_key v) (order_key (twice y))) (twice_zero x s a f.number.held h (omega arith))
      ∙ ap (λ (v : Float). leb (order_key x) (order_key v)) (twice_zero y t b g.number.held k (omega arith))

  -- neither is below the other: they are the same, or both are zeros
  level : (s t : Bool) (a b : ℕ) → HasValue x s a (2 ^ 1074) → HasValue y t b (2 ^ 1074) → below s a t b ≡ false → below t b s a ≡ false → leb (order_key (twice x)) (order_key (twice y)) ≡ leb (order_key x) (order_key y)
  level false false a b h k p q = same false a b (le_antisymm (ltb-false b a q) (ltb-false a b p)) h k
  level true true a b h k p q = same true a b (le_antisymm (ltb-false b a p) (ltb-false a b q)) h k
  level true false a b h k p q = zeros true false a b h k (ltb-false 0 (a + b) p)
  level false true a b h k p q = zeros false true a b h k (swap (ltb-false 0 (b + a) q))
    where
      swap : b + a ≤ 0 → a + b ≤ 0
      swap z = omega arith

  -- not above, in the order of `total_cmp`
  pub key_leb_twice : leb (order_key (twice x)) (order_key (twice y)) ≡ leb (order_key x) (order_key y)
  key_leb_twice =
      let X = value_of x f.number.held f.number.finite in
      let Y = value_of y g.number.held g.number.finite in
      let w = 2 ^ 1074 in
      go (lt x y) (lt y x) refl refl (λ p q. level X.0 Y.0 (grains x) (grains y) X.3 Y.3 (sym (lt_is x y X.0 Y.0 (grains x) (grains y) w (pow_pos 1074) X.3 Y.3) ∙ p) (sym (lt_is y x Y.0 X.0 (grains y) (grains x) w (pow_pos 1074) Y.3 X.3) ∙ q))
    where
      go : (p q : Bool) → lt x y ≡ p → lt y x ≡ q → (lt x y ≡ false → lt y x ≡ false → leb (order_key (twice x)) (order_key (twice y)) ≡ leb (order_key x) (order_key y))
          → leb (order_key (twice x)) (order_key (twice y)) ≡ leb (order_key x) (order_key y)
      go true q h k z = before h
      go false true h k z = after k
      go false false h k z = z h k

ltb_not : (a b : ℕ) → ltb a b ≡ not (leb b a)
ltb_not a b = go (dec_le b a)
  where
    go : Dec (b ≤ a) → ltb a b ≡ not (leb b a)
    go (yes h) = le-ltb a b h ∙ ap not (sym (le-leb b a h))
    go (no f) = lt-ltb a b (lt_of_not-le f) ∙ ap not (sym (lt-leb b a (lt_of_not-le f)))

eqb_both : (a b : ℕ) → eqb a b ≡ leb a b && leb b a
eqb_both a b = go (dec_le a b) (dec_le b a)
  where
    go : Dec (a ≤ b) → Dec (b ≤ a) → eqb a b ≡ leb a b && leb b a
    go (yes h) (yes k) = eq-eqb a b (le_antisymm h k) ∙ sym (ap (λ (z : Bool). z && leb b a) (le-leb a b h) ∙ le-leb b a k)
    go (yes h) (no f) = ne_eqb a b (λ (e : a ≡ b). f (subst (λ (z : ℕ). z ≤ a) e (le_refl a))) ∙ sym (ap (λ (z : Bool). z && leb b a) (le-leb a b h) ∙ lt-leb b a (lt_of_not-le f))
    go (no f) d = ne_eqb a b (λ (e : a ≡ b). f (subst (λ (z : ℕ). a ≤ z) e (le_refl a))) ∙ sym (ap (λ (z : Bool). z && leb b a) (lt-leb a b (lt_of_not-le f)))

pub key_ltb_twice : (x y : Float) → Doublable x → Doublable y → ltb (order_key (twice x)) (order_key (twice y)) ≡ ltb (order_key x) (order_key y)
key_ltb_twice x y f g = ltb_not (order_key (twice x)) (order_key (twice y)) ∙ ap not (key_leb_twice y x g f) ∙ sym (ltb_not (order_key x) (order_key y))

pub key_eqb_twice : (x y : Float) → Doublable x → Doublable y → eqb (order_key (twice x)) (order_key (twice y)) ≡ eqb (order_key x) (order_key y)
key_eqb_twice x y f g =
    eqb_both (order_key (twice x)) (order_key (twice y))
    ∙ ap (λ (z : Bool). z && leb (order_key (twice y)) (order_key (twice x))) (key_leb_twice x y f g)
    ∙ ap (λ (z : Bool). leb (order_key x) (order_key y) && z) (key_leb_twice y x g f)
    ∙ sym (eqb_both (order_key x) (order_key y))

-- ---- the double is 2 times the number, by the format's own product
two_is : f2 ≡ fin false 1 (pos 1)
unfolding of_bits
two_is = refl

own_round : (x : Float) (s : Bool) → Finite x → HasValue x s (grains x) (2 ^ 1074) → round binary64 s (grains x) (2 ^ 1074) ≡ x
own_round x s f h =
    let X = value_of x f.held f.finite in
    let v = X.4 in
    same_value (round binary64 s (grains x) (2 ^ 1074)) x s (grains x) (round-fits binary64 s (grains x) (2 ^ 1074)) f.held
    (round_exact binary64 s (grains x) (2 ^ 1074) X.1 X.2 (pow_pos 1074) v.digits (lt_of_lt_of_le (shl_lt 53 X.2 v.digits) (pow_mono (room X.2 v.range))) (ap (λ (a : ℕ). a * 2 ^ 1074) v.is)) h
  where
    room : (k : ℕ) → k ≤ 2045 → 53 + k ≤ 2098
    room k h = omega arith

pub twice_mul : (x : Float) → Doublable x → mul binary64 f2 x ≡ twice x
twice_mul x r =
    let f = r.number in
    let X = value_of x f.held f.finite in
    let w = 2 ^ 1074 in
    let e : round binary64 X.0 (grains x) w ≡ x = own_round x X.0 f X.3 in
    ap (λ (z : Float). mul binary64 z x) two_is
    ∙ mul_is (fin false 1 (pos 1)) x false X.0 2 1 (grains x) w (lit< tt) (pow_pos 1074) (refl, refl) X.3
    ∙ ap (λ (s : Bool). round binary64 s (2 * grains x) (1 * w)) (plain X.0)
    ∙ ap (λ (z : ℕ). round binary64 X.0 (2 * grains x) z) (mul_comm 1 w ∙ mul-one w)
    ∙ round_whole X.0 (grains x) (subst Doublable (sym e) r)
    ∙ ap twice e
  where
    plain : (s : Bool) → unlike false s ≡ s
    plain true = refl
    plain false = refl
