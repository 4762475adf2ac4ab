-- The nearest f64 to a root, from the root's digits. Assumes nothing.
use Rattle.std.proofs.Common.{◌≡◌, ℕ, zero, suc, ◌+◌, ◌-◌, ◌*◌, ◌/◌, ◌%◌, ◌^◌, ◌<◌, ◌≤◌, Bool, false, cond, not, T, eqb, leb, sym, refl, ap, ◌∙◌, subst, le_trans, le_of_eq, lt_of_lt_of_le, lt_of_le_of_lt, add-zero, le_of_lt, mul-le-mul_right, mod-lt, zero-lt-suc, div-lt_iff_lt-mul, mul-le-mul, le_antisymm, mul-pos, lt_of_not-le, div-add-mod', le-div_iff_mul-le, not-le_of_lt, div-mul-le_self, add-one, arith, lit≤, eqb→eq, leb→le, pow_pos, pow_mono, pow-add, eq-eqb, ne_eqb, le-leb}
use Prim.Native.Nat.{compare, Ordering}
use native.Mathlib.Nat.{pow-succ', pow-le-pow_left, div-eq_of_lt-le}
use native.Mathlib.Decide.{dec_le, ℕ_discrete}
use lib.Dec.{is_le, compare_is_eq, nleb→lt, eqb_refl}
use lib.Arith.{lt_of_le-ne}
use lib.Ieee.{Float, size, nearest, units, binary64}
use lib.Ieee.Digits.{size-lt, size-le, size_reaches}
use borrow.Author.Tests.{lt-leb}
use Rattle.numbers.specs.Hypot.{root_in, nearest_root}
use Rattle.numbers.specs.Stages.Steps.{Close, up_by}
use Rattle.numbers.proofs.float.Pack.{size_exact}

-- ---- the whole part of the square root
unfoldable pub root : ℕ → ℕ
root n = root_in (size n) n

quarter : (n p : ℕ) → n < 4 * p → n / 4 < p
quarter n p h = omega arith

-- one more digit
abbrev next : ℕ → ℕ → ℕ
next s n = s + cond (leb ((s + 1) * (s + 1)) n) 1 0

step_digit : (s n : ℕ) → s * s ≤ n → n < (s + 2) * (s + 2) → (next s n * next s n ≤ n) × (n < (next s n + 1) * (next s n + 1))
step_digit s n lo hi = go (dec_le ((s + 1) * (s + 1)) n)
  where
    Goal : ℕ → Type 0
    Goal b = ((s + b) * (s + b) ≤ n) × (n < (s + b + 1) * (s + b + 1))

    one : (s + 1) * (s + 1) ≤ n → Goal 1
    one h = (h, omega arith)

    none : n < (s + 1) * (s + 1) → Goal 0
    none h = (omega arith, omega arith)

    go : Dec ((s + 1) * (s + 1) ≤ n) → Goal (cond (leb ((s + 1) * (s + 1)) n) 1 0)
    go (yes h) = subst (λ (b : Bool). Goal (cond b 1 0)) (sym (le-leb _ _ h)) (one h)
    go (no f) = subst (λ (b : Bool). Goal (cond b 1 0)) (sym (lt-leb _ _ (lt_of_not-le f))) (none (lt_of_not-le f))

root_in_is : (d n : ℕ) → n < 4 ^ d → (root_in d n * root_in d n ≤ n) × (n < (root_in d n + 1) * (root_in d n + 1))
unfolding root_in
root_in_is zero n h = (omega arith, omega arith)
root_in_is (suc d) n h =
    let ih = root_in_is d (n / 4) (quarter n (4 ^ d) (subst (λ (p : ℕ). n < p) (pow-succ' 4 d) h)) in
    step_digit (2 * root_in d (n / 4)) n (double_low (root_in d (n / 4)) n ih.0) (double_high (root_in d (n / 4)) n ih.1)
  where
    double_low : (r n : ℕ) → r * r ≤ n / 4 → 2 * r * (2 * r) ≤ n
    double_low r n h = omega arith

    double_high : (r n : ℕ) → n / 4 < (r + 1) * (r + 1) → n < (2 * r + 2) * (2 * r + 2)
    double_high r n h = omega arith

pub root_is : (n : ℕ) → (root n * root n ≤ n) × (n < (root n + 1) * (root n + 1))
unfolding root
root_is n = root_in_is (size n) n (lt_of_lt_of_le (size-lt n) (pow-le-pow_left (lit≤ {m = 2} {n = 4} tt) (size n)))

-- ---- squares keep the order
pub sq_le : {a b : ℕ} → a ≤ b → a * a ≤ b * b
sq_le h = mul-le-mul h h

pub sq_lt_back : (a b : ℕ) → a * a < b * b → a < b
sq_lt_back a b p = lt_of_not-le (λ (h : b ≤ a). not-le_of_lt p (sq_le h))

pub root_unique : (s r n : ℕ) → s * s ≤ n → n < (s + 1) * (s + 1) → r * r ≤ n → n < (r + 1) * (r + 1) → s ≡ r
root_unique s r n a b c d = le_antisymm (at_most s r (sq_lt_back s (r + 1) (lt_of_le_of_lt a d))) (at_most r s (sq_lt_back r (s + 1) (lt_of_le_of_lt c b)))
  where
    at_most : (x y : ℕ) → x < y + 1 → x ≤ y
    at_most x y h = omega arith

-- ---- the leading digits of the root of n: it has half as many digits as n, and without its last k it is the root of n / 4 ^ k
root_size : (n : ℕ) → (size n + 1) / 2 ≡ size (root n)
root_size n = go (size (root n)) refl
  where
    r : ℕ
    r = root n

    most : size n ≤ size r + size r
    most = size-le n (size r + size r) (lt_of_lt_of_le (root_is n).1 (le_trans (sq_le (next_le r (2 ^ size r) (size-lt r))) (le_of_eq (sym (pow-add 2 (size r) (size r))))))
      where
        next_le : (a b : ℕ) → a < b → a + 1 ≤ b
        next_le a b h = omega arith

    least : (t : ℕ) → t < size r → t + t < size n
    least t h =
        let lo : 2 ^ (t + t) ≤ n = le_trans (le_of_eq (pow-add 2 t t)) (le_trans (sq_le (size_reaches r t h)) (root_is n).0) in
        lt_of_not-le (λ (g : size n ≤ t + t). not-le_of_lt (lt_of_lt_of_le (size-lt n) (pow_mono g)) lo)

    none : (z : ℕ) → z ≤ 0 + 0 → (z + 1) / 2 ≡ 0
    none z h = omega arith

    some : (z t : ℕ) → z ≤ suc t + suc t → t + t < z → (z + 1) / 2 ≡ suc t
    some z t h k = omega arith

    go : (s : ℕ) → size r ≡ s → (size n + 1) / 2 ≡ size r
    go zero e = none (size n) (subst (λ (s : ℕ). size n ≤ s + s) e most) ∙ sym e
    go (suc t) e = some (size n) t (subst (λ (s : ℕ). size n ≤ s + s) e most) (least t (subst (λ (s : ℕ). t < s) (sym e) (lt-suc t))) ∙ sym e
      where
        lt-suc : (t : ℕ) → t < suc t
        lt-suc t = omega arith

four_pow : (k : ℕ) → 4 ^ k ≡ 2 ^ k * 2 ^ k
four_pow zero = refl
four_pow (suc k) = pow-succ' 4 k ∙ ap (λ (a : ℕ). 4 * a) (four_pow k) ∙ flat (2 ^ k) ∙ ap (λ (a : ℕ). a * a) (sym (pow-succ' 2 k))
  where
    flat : (a : ℕ) → 4 * (a * a) ≡ 2 * a * (2 * a)
    flat a = omega arith

root_cut : (n d k : ℕ) → size n ≤ 2 * (d + k) → root_in d (n / 4 ^ k) ≡ root n / 2 ^ k
root_cut n d k h =
    let z = root_in_is d (n / 4 ^ k) ((div-lt_iff_lt-mul {k = 4 ^ k} {x = n} {y = 4 ^ d} four).1 below) in
    root_unique (root_in d (n / 4 ^ k)) q (n / 4 ^ k) z.0 z.1
    ((le-div_iff_mul-le {k = 4 ^ k} {x = q * q} {y = n} four).1 (subst (λ (a : ℕ). q * q * a ≤ n) (sym (four_pow k)) (le_trans (le_of_eq (square q p)) (le_trans (sq_le (div-mul-le_self (root n) p)) (root_is n).0))))
    ((div-lt_iff_lt-mul {k = 4 ^ k} {x = n} {y = (q + 1) * (q + 1)} four).1
    (subst (λ (a : ℕ). n < (q + 1) * (q + 1) * a) (sym (four_pow k)) (lt_of_lt_of_le (root_is n).1 (le_trans (sq_le over) (le_of_eq (sym (square (q + 1) p)))))))
  where
    p : ℕ
    p = 2 ^ k

    q : ℕ
    q = root n / p

    four : 0 < 4 ^ k
    four = subst (λ (a : ℕ). 0 < a) (sym (four_pow k)) (mul-pos (pow_pos k) (pow_pos k))

    square : (a p : ℕ) → a * a * (p * p) ≡ a * p * (a * p)
    square a p = omega arith

    over : root n + 1 ≤ (q + 1) * p
    over = next (root n) ((q + 1) * p) (lt-div (root n) p (pow_pos k))
      where
        next : (a b : ℕ) → a < b → a + 1 ≤ b
        next a b h = omega arith

        lt-div : (a p : ℕ) → 0 < p → a < (a / p + 1) * p
        lt-div a p h = at (a / p) (a % p) (div-add-mod' a p) (mod-lt a h)
          where
            at : (b c : ℕ) → b * p + c ≡ a → c < p → a < (b + 1) * p
            at b c e l = omega arith

    below : n < 4 ^ d * 4 ^ k
    below = lt_of_lt_of_le (size-lt n) (le_trans (pow_mono h) (le_of_eq (ap (λ (a : ℕ). 2 ^ a) (twice (d + k)) ∙ pow-add 2 (d + k) (d + k) ∙ sym (four_pow (d + k)) ∙ pow-add 4 d k)))
      where
        twice : (a : ℕ) → 2 * a ≡ a + a
        twice a = omega arith

-- the nearest f64 from the digits of the whole root
abbrev pub from_root : ℕ → ℕ → ℕ → Float
from_root n k q = units binary64 false (nearest q (compare (4 * n) ((2 * q + 1) * 2 ^ k * ((2 * q + 1) * 2 ^ k)))) k

pub from_digits : (n : ℕ) → nearest_root n ≡ from_root n (size (root n) - 53) (root n / 2 ^ (size (root n) - 53))
unfolding nearest_root
from_digits n =
    ap (from_root n ((size n + 1) / 2 - 53)) (root_cut n 53 ((size n + 1) / 2 - 53) (room (size n)))
    ∙ ap (λ (z : ℕ). from_root n (z - 53) (root n / 2 ^ (z - 53))) (root_size n)
  where
    room : (z : ℕ) → z ≤ 2 * (53 + ((z + 1) / 2 - 53))
    room z = omega arith

-- ---- `nearest` by how two numbers compare
Cmp : Ordering → ℕ → ℕ → Type 0
Cmp Ordering.lt a b = a < b
Cmp Ordering.eq a b = a ≡ b
Cmp Ordering.gt a b = b < a

cmp : (a b : ℕ) → Cmp (compare a b) a b
unfolding Cmp
cmp a b = go (compare a b) (leb→le a b) (nleb→lt a b) (eqb→eq a b) (λ (e : a ≡ b). subst (λ (x : ℕ). T (eqb a x)) e (eqb_refl a))
  where
    go : (o : Ordering) → (T (is_le o) → a ≤ b) → (T (not (is_le o)) → b < a) → (T (compare_is_eq o) → a ≡ b) → (a ≡ b → T (compare_is_eq o)) → Cmp o a b
    go Ordering.lt h k e n = lt_of_le-ne (h tt) n
    go Ordering.eq h k e n = e tt
    go Ordering.gt h k e n = k tt

pub nearest_lt : (q a b : ℕ) → a < b → nearest q (compare a b) ≡ q
unfolding Cmp
nearest_lt q a b h = go (compare a b) (cmp a b)
  where
    no : a < b → b ≤ a → ⊥
    no h k = omega arith

    go : (o : Ordering) → Cmp o a b → nearest q o ≡ q
    go Ordering.lt k = refl
    go Ordering.eq k = absurd (no h (le_of_eq (sym k)))
    go Ordering.gt k = absurd (no h (le_of_lt k))

pub nearest_eq : (q a b : ℕ) → a ≡ b → nearest q (compare a b) ≡ q + q % 2
unfolding Cmp
nearest_eq q a b h = go (compare a b) (cmp a b)
  where
    no : a ≡ b → a < b → ⊥
    no h k = omega arith

    no' : a ≡ b → b < a → ⊥
    no' h k = omega arith

    go : (o : Ordering) → Cmp o a b → nearest q o ≡ q + q % 2
    go Ordering.lt k = absurd (no h k)
    go Ordering.eq k = refl
    go Ordering.gt k = absurd (no' h k)

pub nearest_gt : (q a b : ℕ) → b < a → nearest q (compare a b) ≡ q + 1
unfolding Cmp
nearest_gt q a b h = go (compare a b) (cmp a b)
  where
    no : b < a → a ≤ b → ⊥
    no h k = omega arith

    go : (o : Ordering) → Cmp o a b → nearest q o ≡ q + 1
    go Ordering.lt k = absurd (no h (le_of_lt k))
    go Ordering.eq k = absurd (no h (le_of_eq k))
    go Ordering.gt k = sym (add-one q)

-- ---- what `nearest_root` takes the root apart to: d stands for 2 ^ e, s for the root, q for r / 2
twice : (r : ℕ) → 2 * (r / 2) ≤ r
twice r = omega arith

next_twice : (r : ℕ) → r + 1 ≤ 2 * (r / 2 + 1)
next_twice r = omega arith

kept_low : (r d n s : ℕ) → r * d * (r * d) ≤ 4 * n → n < (s + 1) * (s + 1) → r / 2 * d ≤ s
kept_low r d n s lo hi = close (r / 2 * d) (sq_lt_back (r / 2 * d) (s + 1) (lt_of_le_of_lt (quarters (r / 2) (r * d * (r * d)) (sq_le (mul-le-mul_right d (twice r))) lo) hi))
  where
    quarters : (q b : ℕ) → 2 * q * d * (2 * q * d) ≤ b → b ≤ 4 * n → q * d * (q * d) ≤ n
    quarters q b h k = omega arith

    close : (a : ℕ) → a < s + 1 → a ≤ s
    close a h = omega arith

kept_high : (r d n s : ℕ) → 4 * n < (r + 1) * d * ((r + 1) * d) → s * s ≤ n → s < (r / 2 + 1) * d
kept_high r d n s hi lo = sq_lt_back s ((r / 2 + 1) * d) (lt_of_le_of_lt lo (quarters (r / 2 + 1) ((r + 1) * d * ((r + 1) * d)) (sq_le (mul-le-mul_right d (next_twice r))) hi))
  where
    quarters : (q b : ℕ) → b ≤ 2 * q * d * (2 * q * d) → 4 * n < b → n < q * d * (q * d)
    quarters q b h k = omega arith

kept : (n r x e : ℕ) → Close n r x e → root n / 2 ^ e ≡ r / 2
kept n r x e c = div-eq_of_lt-le (2 ^ e) (kept_low r (2 ^ e) n (root n) c.low (root_is n).1) (kept_high r (2 ^ e) n (root n) c.high (root_is n).0)

dropped : (n r x e : ℕ) → Close n r x e → r < 2 ^ 54 → (0 < e → 2 ^ 53 ≤ r) → size (root n) - 53 ≡ e
dropped n r x e c small normal = go e refl
  where
    lo : r / 2 * 2 ^ e ≤ root n
    lo = kept_low r (2 ^ e) n (root n) c.low (root_is n).1

    half_lt : r < 2 ^ 54 → r / 2 + 1 ≤ 2 ^ 53
    half_lt h = omega arith

    hi : root n < 2 ^ (53 + e)
    hi = lt_of_lt_of_le (kept_high r (2 ^ e) n (root n) c.high (root_is n).0) (subst (λ (p : ℕ). (r / 2 + 1) * 2 ^ e ≤ p) (sym (pow-add 2 53 e)) (mul-le-mul_right (2 ^ e) (half_lt small)))

    none : (z : ℕ) → z ≤ 53 + 0 → z - 53 ≡ 0
    none z h = omega arith

    shape : (k : ℕ) → 53 + k ≡ suc (52 + k)
    shape k = omega arith

    back : (k : ℕ) → suc (52 + k) - 53 ≡ k
    back k = omega arith

    half-ge : 2 ^ 53 ≤ r → 2 ^ 52 ≤ r / 2
    half-ge h = omega arith

    go : (k : ℕ) → e ≡ k → size (root n) - 53 ≡ e
    go zero z = subst (λ (j : ℕ). size (root n) - 53 ≡ j) (sym z) (none (size (root n)) (size-le (root n) (53 + 0) (subst (λ (j : ℕ). root n < 2 ^ (53 + j)) z hi)))
    go (suc k) z =
        let big : 2 ^ 52 ≤ r / 2 = half-ge (normal (subst (λ (j : ℕ). 0 < j) (sym z) (zero-lt-suc k))) in
        let low' : 2 ^ (52 + e) ≤ root n = le_trans (le_of_eq (pow-add 2 52 e)) (le_trans (mul-le-mul_right (2 ^ e) big) lo) in
        ap (λ (j : ℕ). j - 53) (size_exact (52 + e) (root n) low' (subst (λ (j : ℕ). root n < 2 ^ j) (shape e) hi)) ∙ back e

-- ---- the half way point
-- h * h with h the double of the half way point, by the last digit of r
even_below : (r d n : ℕ) → r % 2 ≡ 0 → 4 * n < (r + 1) * d * ((r + 1) * d) → 4 * n < (2 * (r / 2) + 1) * d * ((2 * (r / 2) + 1) * d)
even_below r d n z h = subst (λ (a : ℕ). 4 * n < (a + 1) * d * ((a + 1) * d)) (split r z) h
  where
    split : (r : ℕ) → r % 2 ≡ 0 → r ≡ 2 * (r / 2)
    split r z = omega arith

odd_is : (r : ℕ) → (r % 2 ≡ 0 → ⊥) → r ≡ 2 * (r / 2) + 1
odd_is r z = omega arith

above : (a b : ℕ) → a ≤ b → (b ≡ a → ⊥) → a < b
above a b h k = lt_of_le-ne h (λ e. k (sym e))

nearest_up : (n r x e : ℕ) → Close n r x e → nearest (r / 2) (compare (4 * n) ((2 * (r / 2) + 1) * 2 ^ e * ((2 * (r / 2) + 1) * 2 ^ e))) ≡ r / 2 + up_by (r / 2) (r % 2) x
nearest_up n r x e c = go (ℕ_discrete (r % 2) 0) (ℕ_discrete x 0)
  where
    go : Dec (r % 2 ≡ 0) → Dec (x ≡ 0) → nearest (r / 2) (compare (4 * n) ((2 * (r / 2) + 1) * 2 ^ e * ((2 * (r / 2) + 1) * 2 ^ e))) ≡ r / 2 + up_by (r / 2) (r % 2) x
    go (yes z) y =
        nearest_lt (r / 2) (4 * n) _ (even_below r (2 ^ e) n z c.high)
        ∙ sym (add-zero (r / 2))
        ∙ sym (ap (λ (b : Bool). r / 2 + cond b 0 (cond (eqb x 0) (r / 2 % 2) 1)) (eq-eqb (r % 2) 0 z))
    go (no f) (yes y) =
        nearest_eq (r / 2) (4 * n) _ (subst (λ (a : ℕ). 4 * n ≡ a * 2 ^ e * (a * 2 ^ e)) (odd_is r f) (c.exact y))
        ∙ sym (ap (λ (b : Bool). r / 2 + cond b 0 (cond (eqb x 0) (r / 2 % 2) 1)) (ne_eqb (r % 2) 0 f) ∙ ap (λ (b : Bool). r / 2 + cond b (r / 2 % 2) 1) (eq-eqb x 0 y))
    go (no f) (no g) =
        nearest_gt (r / 2) (4 * n) _ (subst (λ (a : ℕ). a * 2 ^ e * (a * 2 ^ e) < 4 * n) (odd_is r f) (above _ _ c.low (λ k. g (c.only k))))
        ∙ sym (ap (λ (b : Bool). r / 2 + cond b 0 (cond (eqb x 0) (r / 2 % 2) 1)) (ne_eqb (r % 2) 0 f) ∙ ap (λ (b : Bool). r / 2 + cond b (r / 2 % 2) 1) (ne_eqb x 0 g))

pub nearest_is : (n r x e : ℕ) → Close n r x e → r < 2 ^ 54 → (0 < e → 2 ^ 53 ≤ r) → nearest_root n ≡ units binary64 false (r / 2 + up_by (r / 2) (r % 2) x) e
nearest_is n r x e c small normal =
    from_digits n
    ∙ ap (λ (k : ℕ). from_root n k (root n / 2 ^ k)) (dropped n r x e c small normal)
    ∙ ap (from_root n e) (kept n r x e c)
    ∙ ap (λ (a : ℕ). units binary64 false a e) (nearest_up n r x e c)

-- ---- one digit fewer
double_low : (r d : ℕ) → r / 2 * (d * 2) ≤ r * d
double_low r d = le_trans (le_of_eq (regroup (r / 2))) (mul-le-mul_right d (twice r))
  where
    regroup : (q : ℕ) → q * (d * 2) ≡ 2 * q * d
    regroup q = omega arith

double_high : (r d : ℕ) → (r + 1) * d ≤ (r / 2 + 1) * (d * 2)
double_high r d = le_trans (mul-le-mul_right d (next_twice r)) (le_of_eq (regroup (r / 2)))
  where
    regroup : (q : ℕ) → 2 * (q + 1) * d ≡ (q + 1) * (d * 2)
    regroup q = omega arith

even_is : (r : ℕ) → r % 2 ≡ 0 → r ≡ 2 * (r / 2)
even_is r z = omega arith

same_square : (q d : ℕ) → 2 * q * d * (2 * q * d) ≡ q * (d * 2) * (q * (d * 2))
same_square q d = omega arith

even_square : (r d : ℕ) → r % 2 ≡ 0 → r * d * (r * d) ≡ r / 2 * (d * 2) * (r / 2 * (d * 2))
even_square r d z = ap (λ (a : ℕ). a * d * (a * d)) (even_is r z) ∙ same_square (r / 2) d

odd_no : (r d n : ℕ) → 0 < d * d → r * d * (r * d) ≤ 4 * n → 4 * n ≡ r / 2 * (d * 2) * (r / 2 * (d * 2)) → (r % 2 ≡ 0 → ⊥) → ⊥
odd_no r d n p lo eq f = clash (r / 2) (subst (λ (a : ℕ). a * d * (a * d) ≤ 4 * n) (odd_is r f) lo) eq
  where
    clash : (q : ℕ) → (2 * q + 1) * d * ((2 * q + 1) * d) ≤ 4 * n → 4 * n ≡ q * (d * 2) * (q * (d * 2)) → ⊥
    clash q h k = omega arith

no_sum : (a b : ℕ) → a + b ≡ 0 → (a ≡ 0) × (b ≡ 0)
no_sum a b h = (omega arith, omega arith)

pub halved : (n r x e : ℕ) → Close n r x e → Close n (r / 2) (x + r % 2) (e + 1)
halved n r x e c =
    let d = 2 ^ e in
    let only' : 4 * n ≡ r / 2 * (d * 2) * (r / 2 * (d * 2)) → x + r % 2 ≡ 0 = (λ h. go h (ℕ_discrete (r % 2) 0)) in
    record {
      low = rw (pow-add 2 e 1) (le_trans (sq_le (double_low r d)) c.low);
      high = rw (pow-add 2 e 1) (lt_of_lt_of_le c.high (sq_le (double_high r d)));
      exact = λ h. rw (pow-add 2 e 1) (c.exact (no_sum x (r % 2) h).0 ∙ even_square r d (no_sum x (r % 2) h).1);
      only = rw (pow-add 2 e 1) only';
    }
  where
    go : 4 * n ≡ r / 2 * (2 ^ e * 2) * (r / 2 * (2 ^ e * 2)) → Dec (r % 2 ≡ 0) → x + r % 2 ≡ 0
    go h (yes z) = ap (λ (a : ℕ). x + a) z ∙ add-zero x ∙ c.only (h ∙ sym (even_square r (2 ^ e) z))
    go h (no f) = absurd (odd_no r (2 ^ e) n (mul-pos (pow_pos e) (pow_pos e)) c.low h f)
