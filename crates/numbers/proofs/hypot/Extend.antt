-- A square root's next digit by a division, in a large base. Assumes nothing.
use mathlib.Core.Path.{◌≡◌, sym, ap, subst}
use Prim.Native.Nat.{ℕ, zero, suc, ◌+◌, ◌-◌, ◌*◌, ◌/◌, ◌%◌, ◌^◌, ◌≤◌, ◌<◌}
use native.Mathlib.Nat.{le_trans, le_of_eq, le_of_lt, mul-le-mul, mul-le-mul_right, div-add-mod', mod-lt, div-lt_iff_lt-mul}
use native.Mathlib.Omega.{arith}
use lib.Dec.{lit≤}
use Rattle.numbers.specs.Stages.Steps.{IsRoot, Extends}
use Rattle.numbers.proofs.float.Rounding.{sq_lt_back}

-- ---- q is the quotient, m the remainder, t what m and k make
-- the next root is s * b + q, or one less
pub record Known (s r l k b q m : ℕ) : Type 0 where
  pub quotient : q ≤ b
  pub product : r * b ≤ 2 ^ 56
  pub shifted : s * b ≤ 2 ^ 55
  pub part : m * b + k < 2 * (s * b)
  pub square : q * q ≤ b * b
  pub base : b * b ≤ 2 * (s * b)
  pub whole : (s * b + q) * (s * b + q) + (m * b + k) ≡ (s * s + r) * (b * b) + (l * b + k) + q * q

pub known : (s r l k b : ℕ) → Extends s r l k b → Known s r l k b ((r * b + l) / (2 * s)) ((r * b + l) % (2 * s))
known s r l k b x = record {
  quotient = quotient_le;
  product = le_trans (mul-le-mul {n₁ = r} {m₁ = b} {n₂ = 2 ^ 29} {m₂ = 2 ^ 27} (rest_le x.left x.small) x.base) (lit≤ tt);
  shifted = le_trans (mul-le-mul {n₁ = s} {m₁ = b} {n₂ = 2 ^ 28} {m₂ = 2 ^ 27} (le_of_lt x.small) x.base) (lit≤ tt);
  part = part-lt m (mod-lt n positive);
  square = mul-le-mul quotient_le quotient_le;
  base = le_trans (mul-le-mul_right b x.enough) (le_of_eq (flat s b));
  whole = join q m (div-add-mod' n (2 * s));
}
  where
    n : ℕ
    n = r * b + l

    q : ℕ
    q = n / (2 * s)

    m : ℕ
    m = n % (2 * s)

    flat : (s b : ℕ) → 2 * s * b ≡ 2 * (s * b)
    flat s b = omega arith

    positive : 0 < 2 * s
    positive = let f : l < b = x.first in let e : b ≤ 2 * s = x.enough in omega arith

    rest_le : r ≤ 2 * s → s < 2 ^ 28 → r ≤ 2 ^ 29
    rest_le h k = omega arith

    -- n is below (b + 1) * 2 * s
    quotient_le : q ≤ b
    quotient_le = down ((div-lt_iff_lt-mul {k = 2 * s} {x = n} {y = b + 1} positive).1 (below (mul-le-mul_right b x.left) x.first x.enough))
      where
        below : r * b ≤ 2 * s * b → l < b → b ≤ 2 * s → r * b + l < (b + 1) * (2 * s)
        below h f e = omega arith

        down : q < b + 1 → q ≤ b
        down h = omega arith

    part-lt : (m : ℕ) → m < 2 * s → m * b + k < 2 * (s * b)
    part-lt m h = let g : suc m * b ≤ 2 * s * b = mul-le-mul_right b h in let f : k < b = x.second in omega arith

    join : (q m : ℕ) → q * (2 * s) + m ≡ r * b + l → (s * b + q) * (s * b + q) + (m * b + k) ≡ (s * s + r) * (b * b) + (l * b + k) + q * q
    join q m h = let g : (q * (2 * s) + m) * b ≡ (r * b + l) * b = ap (λ (a : ℕ). a * b) h in omega arith

-- ---- the two ways
pub at_once : (s r l k b q m : ℕ) → Known s r l k b q m → q * q ≤ m * b + k → IsRoot (s * b + q) (m * b + k - q * q) ((s * s + r) * (b * b) + (l * b + k))
at_once s r l k b q m x h = record {
  sum = take ((s * b + q) * (s * b + q)) (m * b + k) (q * q) ((s * s + r) * (b * b) + (l * b + k)) h x.whole;
  left = let p : m * b + k < 2 * (s * b) = x.part in omega arith;
}
  where
    take : (a t c v : ℕ) → c ≤ t → a + t ≡ v + c → a + (t - c) ≡ v
    take a t c v h e = omega arith

-- one less: g is s * b + q
pub one_less : (s r l k b q m : ℕ) → Known s r l k b q m → m * b + k < q * q → IsRoot (s * b + q - 1) (m * b + k + 2 * (s * b + q) - 1 - q * q) ((s * s + r) * (b * b) + (l * b + k))
one_less s r l k b q m x h = record {
  sum = take (s * b + q) (m * b + k) (q * q) ((s * s + r) * (b * b) + (l * b + k)) h room x.whole;
  left = less (s * b + q) (m * b + k) (q * q) h room;
}
  where
    some : (q : ℕ) → m * b + k < q * q → 0 < q
    some zero h = absurd (never h)
      where
        never : m * b + k < 0 * 0 → ⊥
        never h = omega arith
    some (suc q) h = omega arith

    room : q * q + 1 ≤ m * b + k + 2 * (s * b + q)
    room = let a : q * q ≤ b * b = x.square in let c : b * b ≤ 2 * (s * b) = x.base in let p : 0 < q = some q h in omega arith

    less : (g t c : ℕ) → t < c → c + 1 ≤ t + 2 * g → t + 2 * g - 1 - c ≤ 2 * (g - 1)
    less g t c h r = omega arith

    take : (g t c v : ℕ) → t < c → c + 1 ≤ t + 2 * g → g * g + t ≡ v + c → (g - 1) * (g - 1) + (t + 2 * g - 1 - c) ≡ v
    take zero t c v l r e = absurd (never l r)
      where
        never : t < c → c + 1 ≤ t + 2 * 0 → ⊥
        never l r = omega arith
    take (suc g) t c v l r e = subst (λ (a : ℕ). a * a + (t + 2 * suc g - 1 - c) ≡ v) (sym (back g)) (at g r e)
      where
        back : (g : ℕ) → suc g - 1 ≡ g
        back g = omega arith

        at : (g : ℕ) → c + 1 ≤ t + 2 * suc g → suc g * suc g + t ≡ v + c → g * g + (t + 2 * suc g - 1 - c) ≡ v
        at g r e = omega arith

-- ---- what the functions ask
pub has_room : (s r l k b q m : ℕ) → Known s r l k b q m → m * b + k < q * q → (q * q + 1 ≤ m * b + k + 2 * (s * b + q)) × (1 ≤ s * b + q)
has_room s r l k b q m x h =
    let p : 0 < q = some q h in
    let a : q * q ≤ b * b = x.square in
    let c : b * b ≤ 2 * (s * b) = x.base in
    (omega arith, omega arith)
  where
    some : (q : ℕ) → m * b + k < q * q → 0 < q
    some zero h = absurd (never h)
      where
        never : m * b + k < 0 * 0 → ⊥
        never h = omega arith
    some (suc q) h = omega arith
