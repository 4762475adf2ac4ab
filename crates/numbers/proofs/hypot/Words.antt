-- Numbers of two words of 54 bits. Assumes nothing.
use mathlib.Core.Path.{◌≡◌, sym, ap, ◌∙◌, subst}
use Prim.Native.Nat.{ℕ, suc, ◌+◌, ◌-◌, ◌*◌, ◌/◌, ◌%◌, ◌^◌, ◌≤◌, ◌<◌, zero-le}
use native.Mathlib.Nat.{le_trans, le_of_eq, le_of_lt, lt_of_le_of_lt, lt_of_lt_of_le, mul-le-mul_left, mul-le-mul_right, mul-lt-mul_of_pos_right, div-add-mod', mod-eq_of_lt, mod-eq-sub-div-mul, mod-lt, div-mul-le_self, mul-add-div, div-lt_iff_lt-mul, mul_assoc, mul_comm, div-le_self, mul-add-mod_self_right}
use native.Mathlib.Omega.{arith}
use lib.Dec.{lit≤}
use lib.Pow.{pow_pos, pow-add}
use Rattle.numbers.specs.Stages.Steps.{IsWide}
use Rattle.numbers.proofs.float.Rounding.{sq_lt_back}

-- ---- a square

square_parts : (a b : ℕ) → IsWide
    (a * a + 2 * (a * b) / 2 ^ 27 + (2 * (a * b) % 2 ^ 27 * 2 ^ 27 + b * b) / 2 ^ 54)
    ((2 * (a * b) % 2 ^ 27 * 2 ^ 27 + b * b) % 2 ^ 54)
    ((a * 2 ^ 27 + b) * (a * 2 ^ 27 + b))
square_parts a b = record { sum = omega arith; small = omega arith }

pub square_is : (v : ℕ) → IsWide
    (v / 2 ^ 27 * (v / 2 ^ 27) + 2 * (v / 2 ^ 27 * (v % 2 ^ 27)) / 2 ^ 27 + (2 * (v / 2 ^ 27 * (v % 2 ^ 27)) % 2 ^ 27 * 2 ^ 27 + v % 2 ^ 27 * (v % 2 ^ 27)) / 2 ^ 54)
    ((2 * (v / 2 ^ 27 * (v % 2 ^ 27)) % 2 ^ 27 * 2 ^ 27 + v % 2 ^ 27 * (v % 2 ^ 27)) % 2 ^ 54)
    (v * v)
square_is v =
    let w = square_parts (v / 2 ^ 27) (v % 2 ^ 27) in
    record { sum = w.sum ∙ ap (λ (z : ℕ). z * z) (div-add-mod' v (2 ^ 27)); small = w.small }

-- ---- a shift
module _ (hi lo s : ℕ) (H : hi < 2 ^ 54) (L : lo < 2 ^ 54) (S : s ≤ 54) where
  whole : 2 ^ s * 2 ^ (54 - s) ≡ 2 ^ 54
  whole = sym (pow-add 2 s (54 - s)) ∙ ap (λ (k : ℕ). 2 ^ k) (back s S)
    where
      back : (s : ℕ) → s ≤ 54 → s + (54 - s) ≡ 54
      back s h = omega arith

  pub top_back : hi / 2 ^ s * 2 ^ s % 2 ^ 64 ≡ hi / 2 ^ s * 2 ^ s
  top_back = mod-eq_of_lt (lt_of_le_of_lt (div-mul-le_self hi (2 ^ s)) (lt_of_lt_of_le H (lit≤ tt)))

  distance_between : (a b p q m : ℕ) → a < p → p * q ≡ m → b < q → a * q + b < m
  distance_between a b p q m h e k = lt_of_lt_of_le (near a b q k) (le_trans (mul-le-mul_right q h) (le_of_eq e))
    where
      near : (a b q : ℕ) → b < q → a * q + b < suc a * q
      near a b q k = omega arith

  under : hi % 2 ^ s * 2 ^ (54 - s) + lo / 2 ^ s < 2 ^ 54
  under =
      distance_between (hi % 2 ^ s) (lo / 2 ^ s) (2 ^ s) (2 ^ (54 - s)) (2 ^ 54) (mod-lt hi (pow_pos s)) whole
      ((div-lt_iff_lt-mul {k = 2 ^ s} {x = lo} {y = 2 ^ (54 - s)} (pow_pos s)).1 (subst (λ (m : ℕ). lo < m) (sym whole ∙ mul_comm (2 ^ s) (2 ^ (54 - s))) L))

  pub low_is : (hi - hi / 2 ^ s * 2 ^ s % 2 ^ 64) * 2 ^ (54 - s) % 2 ^ 64 ≡ hi % 2 ^ s * 2 ^ (54 - s)
  low_is =
      ap (λ (a : ℕ). (hi - a) * 2 ^ (54 - s) % 2 ^ 64) top_back
      ∙ ap (λ (a : ℕ). a * 2 ^ (54 - s) % 2 ^ 64) (sym (mod-eq-sub-div-mul hi (2 ^ s)))
      ∙ mod-eq_of_lt (wide (hi % 2 ^ s * 2 ^ (54 - s)) (lo / 2 ^ s) under)
    where
      wide : (a b : ℕ) → a + b < 2 ^ 54 → a < 2 ^ 64
      wide a b h = omega arith

  shift_sum : hi / 2 ^ s * 2 ^ 54 + (hi % 2 ^ s * 2 ^ (54 - s) + lo / 2 ^ s) ≡ (hi * 2 ^ 54 + lo) / 2 ^ s
  shift_sum =
      let p = 2 ^ s in
      let q = 2 ^ (54 - s) in
      regroup (hi / p * 2 ^ 54) (hi % p * q) (lo / p)
      ∙ sym (mul-add-div (pow_pos s) (hi / p * 2 ^ 54 + hi % p * q) lo)
      ∙ ap (λ (a : ℕ). (a + lo) / p)
      (spread (hi / p) (hi % p) p q (2 ^ 54) whole ∙ ap (λ (a : ℕ). a * 2 ^ 54) (div-add-mod' hi p))
    where
      regroup : (a b c : ℕ) → a + (b + c) ≡ a + b + c
      regroup a b c = omega arith

      spread : (h g p q m : ℕ) → p * q ≡ m → p * (h * m + g * q) ≡ (h * p + g) * m
      spread h g p q m e = subst (λ (m : ℕ). p * (h * m + g * q) ≡ (h * p + g) * m) e (at h g p q)
        where
          at : (h g p q : ℕ) → p * (h * (p * q) + g * q) ≡ (h * p + g) * (p * q)
          at h g p q = omega arith

  pub shift_is : IsWide (hi / 2 ^ s) ((hi - hi / 2 ^ s * 2 ^ s % 2 ^ 64) * 2 ^ (54 - s) % 2 ^ 64 + lo / 2 ^ s) ((hi * 2 ^ 54 + lo) / 2 ^ s)
  shift_is = subst (λ (a : ℕ). IsWide (hi / 2 ^ s) (a + lo / 2 ^ s) ((hi * 2 ^ 54 + lo) / 2 ^ s)) (sym low_is) (record { sum = shift_sum; small = under })

  pub shift_fits : (hi - hi / 2 ^ s * 2 ^ s % 2 ^ 64) * 2 ^ (54 - s) % 2 ^ 64 + lo / 2 ^ s < 2 ^ 64
  shift_fits = lt_of_lt_of_le shift_is.small (lit≤ tt)

-- ---- sums of squares
pub square_lt : (k v : ℕ) → v < k → v * v < k * k
square_lt k v h = lt_of_le_of_lt (mul-le-mul_left v (le_of_lt h)) (mul-lt-mul_of_pos_right h (lt_of_le_of_lt zero-le h))

pub cut_le : (y p : ℕ) → y < 2 ^ 54 → y * y / p < 2 ^ 108
cut_le y p h = lt_of_le_of_lt (div-le_self (y * y) p) (square_lt (2 ^ 54) y h)

-- the part of n below 2 ^ s is that of its lower word
pub cut_is : (hi lo n s : ℕ) → IsWide hi lo n → s ≤ 54 → lo - lo / 2 ^ s * 2 ^ s % 2 ^ 64 ≡ n % 2 ^ s
cut_is hi lo n s w S =
    ap (λ (a : ℕ). lo - a) (top_back lo lo s w.small w.small S)
    ∙ sym (mod-eq-sub-div-mul lo (2 ^ s))
    ∙ sym (mul-add-mod_self_right (hi * 2 ^ (54 - s)) (2 ^ s) lo)
    ∙ ap (λ (a : ℕ). (a + lo) % 2 ^ s) (mul_assoc hi (2 ^ (54 - s)) (2 ^ s) ∙ ap (λ (a : ℕ). hi * a) (mul_comm (2 ^ (54 - s)) (2 ^ s) ∙ whole lo lo s w.small w.small S))
    ∙ ap (λ (a : ℕ). a % 2 ^ s) w.sum

pub root_lt : (k root rest n : ℕ) → root * root + rest ≡ n → n < k * k → root < k
root_lt k root rest n e h = sq_lt_back root k (lt_of_le_of_lt (under (root * root) rest e) h)
  where
    under : (a b : ℕ) → a + b ≡ n → a ≤ n
    under a b e = omega arith
