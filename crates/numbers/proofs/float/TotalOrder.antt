-- The order of the keys is IEEE 754's totalOrder, on all patterns: `total_order_lem`, `before_key`, `key_before`.
-- Assumes nothing.
use Rattle.std.proofs.Common.{◌≡◌, ℕ, ◌/◌, ◌%◌, ◌^◌, ◌<◌, ◌≤◌, Bool, true, false, cond, not, ◌&&◌, T, eqb, leb, ◌⊎◌, sym, refl, ap, ◌∙◌, subst, inl, inr, true≢false, le_of_lt, eq-or-lt_of_le, lt_of_not-le, arith, eqb-true, le-leb, leb-false, leb-true}
use native.Mathlib.Decide.{dec_le}
use lib.Ieee.{nan_bits, binary64}
use borrow.Author.Tests.{lt-leb, eqb-false}
use Rattle.numbers.specs.Key.{key_of}
use Rattle.numbers.specs.TotalOrder.{negative, exponent, fraction, is_nan, payload, less, numbers, positive_nans, nans, total_order, before}
use Rattle.numbers.proofs.float.Keys.{key_low, key_high, key_cases, key_lt, key_injective}

-- a test says whether m is at most n
abbrev Tells : Bool → ℕ → ℕ → Type 0
Tells true m n = m ≤ n
Tells false m n = n < m

tells_leb : (t : Bool) (m n : ℕ) → Tells t m n → leb m n ≡ t
tells_leb true m n h = le-leb m n h
tells_leb false m n h = lt-leb m n h

on : (t u v : Bool) (m n : ℕ) → (t ≡ true → Tells u m n) → (t ≡ false → Tells v m n) → Tells (cond t u v) m n
on true u v m n f g = f refl
on false u v m n f g = g refl

on_leb : (a b : ℕ) (u v : Bool) (m n : ℕ) → (a ≤ b → Tells u m n) → (b < a → Tells v m n) → Tells (cond (leb a b) u v) m n
on_leb a b u v m n f g = on (leb a b) u v m n (λ e. f (leb-true a b e)) (λ e. g (leb-false a b e))

by_leb : (a b m n : ℕ) → (a ≤ b → m ≤ n) → (b < a → n < m) → Tells (leb a b) m n
by_leb a b m n f g = go (leb a b) refl
  where
    go : (t : Bool) → leb a b ≡ t → Tells t m n
    go true e = f (leb-true a b e)
    go false e = g (leb-false a b e)

-- ---- NaNs by the whole number of the bits after the sign
abbrev INF : ℕ
INF = 0x7ff0_0000_0000_0000

above : (x : ℕ) → is_nan x ≡ true → INF < x % 2 ^ 63
above x h = go (eqb (exponent x) 2047) refl (eqb (fraction x) 0) refl h
  where
    go : (s : Bool) → eqb (exponent x) 2047 ≡ s → (t : Bool) → eqb (fraction x) 0 ≡ t → s && not t ≡ true → INF < x % 2 ^ 63
    go true e true f k = absurd (true≢false (sym k))
    go false e t f k = absurd (true≢false (sym k))
    go true e false f k =
        let a : exponent x ≡ 2047 = eqb-true (exponent x) 2047 e in
        let b : fraction x ≡ 0 → ⊥ = eqb-false (fraction x) 0 f in
        omega arith

no_nan : (x : ℕ) → is_nan x ≡ false → T (not (nan_bits binary64 x))
unfolding nan_bits
no_nan x h =
    let e : x % 2 ^ 63 / 2 ^ 52 ≡ exponent x = omega arith in
    subst (λ (n : ℕ). T (not (eqb n 2047 && not (eqb (fraction x) 0)))) (sym e) (subst (λ (t : Bool). T (not t)) (sym h) tt)

under : (x : ℕ) → is_nan x ≡ false → x % 2 ^ 63 ≤ INF
under x h = go (eqb (exponent x) 2047) refl (eqb (fraction x) 0) refl h
  where
    go : (s : Bool) → eqb (exponent x) 2047 ≡ s → (t : Bool) → eqb (fraction x) 0 ≡ t → s && not t ≡ false → x % 2 ^ 63 ≤ INF
    go true e false f k = absurd (true≢false k)
    go true e true f k =
        let a : exponent x ≡ 2047 = eqb-true (exponent x) 2047 e in
        let b : fraction x ≡ 0 = eqb-true (fraction x) 0 f in
        omega arith
    go false e t f k =
        let a : exponent x ≡ 2047 → ⊥ = eqb-false (exponent x) 2047 e in
        omega arith

module _ (x y m n : ℕ) (X : INF < x % 2 ^ 63) (Y : INF < y % 2 ^ 63) where
  positive_nans_lem : (x % 2 ^ 63 ≤ y % 2 ^ 63 → m ≤ n) → (y % 2 ^ 63 < x % 2 ^ 63 → n < m) → Tells (positive_nans x y) m n
  positive_nans_lem f g =
      on_leb (2 ^ 51) (fraction x) _ _ m n
      (λ p. on_leb (2 ^ 51) (fraction y) _ _ m n
      (λ q. by_leb (payload x) (payload y) m n (λ l. f (omega arith)) (λ l. g (omega arith)))
      (λ q. g (omega arith)))
      (λ p. on_leb (2 ^ 51) (fraction y) _ _ m n
      (λ q. f (omega arith))
      (λ q. by_leb (payload x) (payload y) m n (λ l. f (omega arith)) (λ l. g (omega arith))))

module _ (x y : ℕ) (A : x < 2 ^ 64) (B : y < 2 ^ 64) where
  -- ---- two NaNs
  both_nans : INF < x % 2 ^ 63 → INF < y % 2 ^ 63 → Tells (nans x y) (key_of x) (key_of y)
  both_nans X Y =
      on_leb (2 ^ 63) x _ _ (key_of x) (key_of y)
      (λ p. on_leb (2 ^ 63) y _ _ (key_of x) (key_of y)
      (λ q. positive_nans_lem y x (key_of x) (key_of y) Y X (λ l. omega (arith, key_high x p, key_high y q)) (λ l. omega (arith, key_high x p, key_high y q)))
      (λ q. omega (arith, key_high x p, key_low y q)))
      (λ p. on_leb (2 ^ 63) y _ _ (key_of x) (key_of y)
      (λ q. omega (arith, key_low x p, key_high y q))
      (λ q. positive_nans_lem x y (key_of x) (key_of y) X Y (λ l. omega (arith, key_low x p, key_low y q)) (λ l. omega (arith, key_low x p, key_low y q))))

  -- ---- a NaN and a number
  nan_first : INF < x % 2 ^ 63 → y % 2 ^ 63 ≤ INF → Tells (negative x) (key_of x) (key_of y)
  nan_first X Y = by_leb (2 ^ 63) x (key_of x) (key_of y) (λ p. go p (dec_le (2 ^ 63) y)) (λ p. at p (dec_le (2 ^ 63) y))
    where
      go : 2 ^ 63 ≤ x → Dec (2 ^ 63 ≤ y) → key_of x ≤ key_of y
      go p (yes q) = omega (arith, key_high x p, key_high y q)
      go p (no f) = omega (arith, key_high x p, key_low y (lt_of_not-le f))

      at : x < 2 ^ 63 → Dec (2 ^ 63 ≤ y) → key_of y < key_of x
      at p (yes q) = omega (arith, key_low x p, key_high y q)
      at p (no f) = omega (arith, key_low x p, key_low y (lt_of_not-le f))

  nan_second : x % 2 ^ 63 ≤ INF → INF < y % 2 ^ 63 → Tells (not (negative y)) (key_of x) (key_of y)
  nan_second X Y = go (negative y) refl
    where
      high : 2 ^ 63 ≤ y → Dec (2 ^ 63 ≤ x) → key_of y < key_of x
      high q (yes p) = omega (arith, key_high x p, key_high y q)
      high q (no f) = omega (arith, key_low x (lt_of_not-le f), key_high y q)

      low : y < 2 ^ 63 → Dec (2 ^ 63 ≤ x) → key_of x ≤ key_of y
      low q (yes p) = omega (arith, key_high x p, key_low y q)
      low q (no f) = omega (arith, key_low x (lt_of_not-le f), key_low y q)

      go : (t : Bool) → negative y ≡ t → Tells (not t) (key_of x) (key_of y)
      go true e = high (leb-true (2 ^ 63) y e) (dec_le (2 ^ 63) x)
      go false e = low (leb-false (2 ^ 63) y e) (dec_le (2 ^ 63) x)

  -- ---- two numbers
  both_numbers : T (not (nan_bits binary64 x)) → T (not (nan_bits binary64 y)) → Tells (numbers x y) (key_of x) (key_of y)
  both_numbers X Y =
      on (less x y) _ _ (key_of x) (key_of y)
      (λ e. le_of_lt (key_lt x y A B X Y (subst T (sym e) tt)))
      (λ e. on (less y x) _ _ (key_of x) (key_of y)
      (λ f. key_lt y x B A Y X (subst T (sym f) tt))
      (λ f. equal e f (dec_le (key_of x) (key_of y))))
    where
      zeros : less x y ≡ false → T (less x y) ⊎ ((x ≡ 2 ^ 63) × (y ≡ 0)) → cond (negative y) (negative x) true ≡ true
      zeros e (inl l) = absurd (subst T e l)
      zeros e (inr z) = ap (λ (n : ℕ). cond (negative n) (negative x) true) z.1

      back : less y x ≡ false → T (less y x) ⊎ ((y ≡ 2 ^ 63) × (x ≡ 0)) → cond (negative y) (negative x) true ≡ false
      back e (inl l) = absurd (subst T e l)
      back e (inr z) = ap (λ (n : ℕ). cond (negative n) (negative x) true) z.0 ∙ ap negative z.1

      same : (n : ℕ) → cond (negative n) (negative n) true ≡ true
      same n = go (negative n)
        where
          go : (t : Bool) → cond t t true ≡ true
          go true = refl
          go false = refl

      equal : less x y ≡ false → less y x ≡ false → Dec (key_of x ≤ key_of y) → Tells (cond (negative y) (negative x) true) (key_of x) (key_of y)
      equal e f (yes h) = subst (λ (t : Bool). Tells t (key_of x) (key_of y)) (sym (go (eq-or-lt_of_le h))) h
        where
          go : (key_of x ≡ key_of y) ⊎ (key_of x < key_of y) → cond (negative y) (negative x) true ≡ true
          go (inl k) = subst (λ (n : ℕ). cond (negative n) (negative x) true ≡ true) (key_injective x y A B k) (same x)
          go (inr k) = zeros e (key_cases x y A B X Y k)
      equal e f (no g) =
          let k : key_of y < key_of x = lt_of_not-le g in
          subst (λ (t : Bool). Tells t (key_of x) (key_of y)) (sym (back f (key_cases y x B A Y X k))) k

  tells : Tells (total_order x y) (key_of x) (key_of y)
  unfolding total_order
  tells =
      on (is_nan x) _ _ (key_of x) (key_of y)
      (λ p. on (is_nan y) _ _ (key_of x) (key_of y) (λ q. both_nans (above x p) (above y q)) (λ q. nan_first (above x p) (under y q)))
      (λ p. on (is_nan y) _ _ (key_of x) (key_of y) (λ q. nan_second (under x p) (above y q)) (λ q. both_numbers (no_nan x p) (no_nan y q)))

  -- total_order is the order of the keys
  pub total_order_lem : total_order x y ≡ leb (key_of x) (key_of y)
  total_order_lem = sym (tells_leb (total_order x y) (key_of x) (key_of y) tells)

-- and the strict order that of lower keys
pub key_before : (x y : ℕ) → x < 2 ^ 64 → y < 2 ^ 64 → key_of x < key_of y → T (before x y)
unfolding before
key_before x y A B h = subst (λ (t : Bool). T (not t)) (sym (total_order_lem y x B A ∙ lt-leb (key_of y) (key_of x) h)) tt

pub before_key : (x y : ℕ) → x < 2 ^ 64 → y < 2 ^ 64 → T (before x y) → key_of x < key_of y
unfolding before
before_key x y A B h = go (leb (key_of y) (key_of x)) refl
  where
    go : (t : Bool) → leb (key_of y) (key_of x) ≡ t → key_of x < key_of y
    go true e = absurd (subst (λ (t : Bool). T (not t)) (total_order_lem y x B A ∙ e) h)
    go false e = leb-false (key_of y) (key_of x) e
