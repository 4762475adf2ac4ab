-- A square root, one digit at a time. Assumes nothing.
use mathlib.Core.Path.{◌≡◌, sym, ap, ◌∙◌, subst}
use Prim.Native.Nat.{ℕ, ◌+◌, ◌-◌, ◌*◌, ◌/◌, ◌%◌, ◌^◌, ◌≤◌, ◌<◌}
use native.Mathlib.Nat.{le_trans, le_of_eq, lt_of_lt_of_le, mul-le-mul_right, le-mul_of_pos_right, le_refl, div-eq_of_lt, sub_self}
use native.Mathlib.Omega.{arith}
use native.Mathlib.Decide.{dec_le}
use lib.Pow.{pow_pos, pow-add, shr-shr}

-- 1 where 4 * root + 1 is at most 4 * rest + d
abbrev pub bit : ℕ → ℕ → ℕ → ℕ
bit root rest d = (2 ^ 63 + (4 * rest + d) - (4 * root + 1)) / 2 ^ 63

pub record Step (root rest d b : ℕ) : Type 0 where
  pub one : b ≤ 1
  pub fits : b * (4 * root + 1) ≤ 4 * rest + d
  pub sum : (2 * root + b) * (2 * root + b) + (4 * rest + d - b * (4 * root + 1)) ≡ 4 * (root * root + rest) + d
  pub left : 4 * rest + d - b * (4 * root + 1) ≤ 2 * (2 * root + b)

pub step : (root rest d : ℕ) → d < 4 → rest ≤ 2 * root → root < 2 ^ 58 → Step root rest d (bit root rest d)
step root rest d D L R = go (dec_le (4 * root + 1) (4 * rest + d))
  where
    at_one : 4 * root + 1 ≤ 4 * rest + d → Step root rest d 1
    at_one h = record { one = omega arith; fits = omega arith; sum = omega arith; left = omega arith }

    at_zero : 4 * rest + d < 4 * root + 1 → Step root rest d 0
    at_zero h = record { one = omega arith; fits = omega arith; sum = omega arith; left = omega arith }

    is_one : 4 * root + 1 ≤ 4 * rest + d → bit root rest d ≡ 1
    is_one h = omega arith

    is_zero : 4 * rest + d < 4 * root + 1 → bit root rest d ≡ 0
    is_zero h = omega arith

    go : Dec (4 * root + 1 ≤ 4 * rest + d) → Step root rest d (bit root rest d)
    go (yes h) = subst (Step root rest d) (sym (is_one h)) (at_one h)
    go (no f) =
        let h : 4 * rest + d < 4 * root + 1 = omega arith in
        subst (Step root rest d) (sym (is_zero h)) (at_zero h)

-- what holds with i digits of w still to come
pub record Inv (w n root₀ rest₀ root rest i : ℕ) : Type 0 where
  pub few : i ≤ n
  pub left : rest ≤ 2 * root
  pub room : (root + 1) * 2 ^ i ≤ 2 ^ 56
  pub sum : root * root + rest ≡ (root₀ * root₀ + rest₀) * 2 ^ (2 * (n - i)) + w / 2 ^ (2 * i)

pub at_start : (w n root₀ rest₀ : ℕ) → rest₀ ≤ 2 * root₀ → (root₀ + 1) * 2 ^ n ≤ 2 ^ 56 → w < 2 ^ (2 * n) → Inv w n root₀ rest₀ root₀ rest₀ n
at_start w n root₀ rest₀ L R W = record {
  few = le_refl n;
  left = L;
  room = R;
  sum = sym (ap (λ (k : ℕ). (root₀ * root₀ + rest₀) * 2 ^ (2 * k) + w / 2 ^ (2 * n)) (sub_self n) ∙ ap (λ (k : ℕ). (root₀ * root₀ + rest₀) * 1 + k) (div-eq_of_lt W) ∙ plain (root₀ * root₀ + rest₀));
}
  where
    plain : (a : ℕ) → a * 1 + 0 ≡ a
    plain a = omega arith

pub in_range : (w n root₀ rest₀ root rest i : ℕ) → Inv w n root₀ rest₀ root rest i → root < 2 ^ 56
in_range w n root₀ rest₀ root rest i v = less (le_trans (le-mul_of_pos_right (root + 1) (pow_pos i)) v.room)
  where
    less : root + 1 ≤ 2 ^ 56 → root < 2 ^ 56
    less h = omega arith

-- the digit at i
abbrev pub digit_at : ℕ → ℕ → ℕ
digit_at w i = w / 2 ^ (2 * (i - 1)) % 4

module _ (w n root₀ rest₀ root rest i : ℕ) (v : Inv w n root₀ rest₀ root rest i) (P : 0 < i) where
  pub turn : Step root rest (digit_at w i) (bit root rest (digit_at w i))
  turn = step root rest (digit_at w i) (below (w / 2 ^ (2 * (i - 1)))) v.left (lt_of_lt_of_le (in_range w n root₀ rest₀ root rest i v) wide)
    where
      below : (a : ℕ) → a % 4 < 4
      below a = omega arith

      wide : 2 ^ 56 ≤ 2 ^ 58
      wide = omega arith

  -- w without its last i digits is w without the last i - 1, cut by one more
  cut : w / 2 ^ (2 * i) ≡ w / 2 ^ (2 * (i - 1)) / 4
  cut = ap (λ (k : ℕ). w / 2 ^ k) (twice i P) ∙ sym (shr-shr w (2 * (i - 1)) 2)
    where
      twice : (i : ℕ) → 0 < i → 2 * i ≡ 2 * (i - 1) + 2
      twice i h = omega arith

  grown : 2 ^ (2 * (n - (i - 1))) ≡ 2 ^ (2 * (n - i)) * 4
  grown = ap (λ (k : ℕ). 2 ^ k) (twice i n P v.few) ∙ pow-add 2 (2 * (n - i)) 2
    where
      twice : (i n : ℕ) → 0 < i → i ≤ n → 2 * (n - (i - 1)) ≡ 2 * (n - i) + 2
      twice i n h k = omega arith

  doubled : 2 ^ i ≡ 2 * 2 ^ (i - 1)
  doubled = ap (λ (k : ℕ). 2 ^ k) (one_more i P) ∙ pow-add 2 1 (i - 1)
    where
      one_more : (i : ℕ) → 0 < i → i ≡ 1 + (i - 1)
      one_more i h = omega arith

  pub again : Inv w n root₀ rest₀ (2 * root + bit root rest (digit_at w i)) (4 * rest + digit_at w i - bit root rest (digit_at w i) * (4 * root + 1)) (i - 1)
  again = record {
    few = fewer i n v.few;
    left = turn.left;
    room = le_trans (mul-le-mul_right (2 ^ (i - 1)) (at_most root (bit root rest (digit_at w i)) turn.one)) (le_trans (le_of_eq (shift (root + 1) (2 ^ (i - 1)) (2 ^ i) doubled)) v.room);
    sum = turn.sum ∙ join (root * root + rest) (root₀ * root₀ + rest₀) (2 ^ (2 * (n - i))) (2 ^ (2 * (n - (i - 1)))) (w / 2 ^ (2 * i)) (w / 2 ^ (2 * (i - 1))) v.sum grown cut;
  }
    where
      fewer : (i n : ℕ) → i ≤ n → i - 1 ≤ n
      fewer i n h = omega arith

      at_most : (r b : ℕ) → b ≤ 1 → 2 * r + b + 1 ≤ 2 * (r + 1)
      at_most r b h = omega arith

      shift : (a p q : ℕ) → q ≡ 2 * p → 2 * a * p ≡ a * q
      shift a p q e = subst (λ (q : ℕ). 2 * a * p ≡ a * q) (sym e) (flat a p)
        where
          flat : (a p : ℕ) → 2 * a * p ≡ a * (2 * p)
          flat a p = omega arith

      join : (v a p p' u u' : ℕ) → v ≡ a * p + u → p' ≡ p * 4 → u ≡ u' / 4 → 4 * v + u' % 4 ≡ a * p' + u'
      join v a p p' u u' h e f = subst (λ (p' : ℕ). 4 * v + u' % 4 ≡ a * p' + u') (sym e) (flat v a p u u' h f)
        where
          flat : (v a p u u' : ℕ) → v ≡ a * p + u → u ≡ u' / 4 → 4 * v + u' % 4 ≡ a * (p * 4) + u'
          flat v a p u u' h f = omega arith
