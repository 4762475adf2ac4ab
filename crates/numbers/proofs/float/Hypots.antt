-- Laws of hypot: the nearest root is a `round`, so it grows with the number; hypot is symmetric, does not see its arguments' signs, and is not below either of its arguments. Assumes nothing.
use Rattle.std.proofs.Common.{◌≡◌, ℕ, suc, ◌+◌, ◌-◌, ◌*◌, ◌/◌, ◌%◌, ◌^◌, ◌<◌, ◌≤◌, Bool, true, false, cond, T, eqb, ◌⊎◌, sym, refl, ap, ◌∙◌, subst, inl, inr, zero-le, le_trans, le_of_eq, lt_of_lt_of_le, le-add_right, lt_of_le_of_lt, add-zero, le_of_lt, lt_irrefl, mul-le-mul_right, mod-lt, add_comm, eq-or-lt_of_le, mul-lt-mul_of_pos_right, mul-pos, lt_of_not-le, div-add-mod', mul_right_comm, arith, lit<, pow_pos, eq-eqb, ne_eqb}
use Prim.Native.Nat.{compare}
use native.Mathlib.Nat.{div-div-eq-div-mul, mul-div-mul_right}
use native.Mathlib.Decide.{dec_le, ℕ_discrete}
use lib.Arith.{digits_mod}
use lib.Ieee.{Float, nan, inf, fin, size, nearest, le, neg, fits, units, round, to_bits, of_bits, binary64}
use lib.Ieee.Fits.{core, round_is}
use lib.Ieee.Order.{round_mono}
use lib.Ieee.Bits.{of_bits-to_bits}
use Rattle.numbers.specs.Small.{abs_of, is_finite}
use Rattle.numbers.specs.Hypot.{grains, nearest_root, hypot_of}
use Rattle.numbers.specs.Stages.Steps.{Close, up_by}
use Rattle.numbers.proofs.float.Pack.{bits_under}
use Rattle.numbers.proofs.float.Rounding.{root, root_unique, root_is, from_digits, sq_lt_back, sq_le, nearest_lt, nearest_eq, nearest_gt, nearest_is}
use Rattle.numbers.proofs.float.Keys.{parts}
use Rattle.numbers.proofs.float.Whole.{finite_bits, both_finite, abs_fits, abs_grains, grains_at}

-- ---- twice the root, its whole part r, and 1 where that is not all of it
unfoldable pub left : ℕ → ℕ → ℕ
left r n = cond (eqb (r * r) n) 0 1

-- the whole part in quarters, with a last digit that says whether anything follows
unfoldable pub quarters : ℕ → ℕ
quarters n = 2 * root (4 * n) + left (root (4 * n)) (4 * n)

-- the root of n is half of the root of 4 * n
half_root : (n : ℕ) → root (4 * n) / 2 ≡ root n
half_root n = root_unique (root (4 * n) / 2) (root n) n (low (root (4 * n)) (root_is (4 * n)).0) (high (root (4 * n)) (root_is (4 * n)).1) (root_is n).0 (root_is n).1
  where
    twice : (r : ℕ) → 2 * (r / 2) ≤ r
    twice r = omega arith

    next : (r : ℕ) → r + 1 ≤ 2 * (r / 2 + 1)
    next r = omega arith

    low : (r : ℕ) → r * r ≤ 4 * n → r / 2 * (r / 2) ≤ n
    low r h = at (r / 2) (le_trans (sq_le (twice r)) h)
      where
        at : (q : ℕ) → 2 * q * (2 * q) ≤ 4 * n → q * q ≤ n
        at q h = omega arith

    high : (r : ℕ) → 4 * n < (r + 1) * (r + 1) → n < (r / 2 + 1) * (r / 2 + 1)
    high r h = at (r / 2 + 1) (lt_of_lt_of_le h (sq_le (next r)))
      where
        at : (q : ℕ) → 4 * n < 2 * q * (2 * q) → n < q * q
        at q h = omega arith

left_le : (r n : ℕ) → left r n ≤ 1
unfolding left
left_le r n = go (eqb (r * r) n)
  where
    go : (b : Bool) → cond b 0 1 ≤ 1
    go true = omega arith
    go false = omega arith

quarter : (n : ℕ) → quarters n / 4 ≡ root n
unfolding quarters
quarter n = at (root (4 * n)) (left (root (4 * n)) (4 * n)) (left_le (root (4 * n)) (4 * n)) ∙ half_root n
  where
    at : (r l : ℕ) → l ≤ 1 → (2 * r + l) / 4 ≡ r / 2
    at r l h = omega arith

left_zero : (r n : ℕ) → r * r ≡ n → left r n ≡ 0
unfolding left
left_zero r n h = ap (λ (b : Bool). cond b 0 1) (eq-eqb (r * r) n h)

left_one : (r n : ℕ) → (r * r ≡ n → ⊥) → left r n ≡ 1
unfolding left
left_one r n h = ap (λ (b : Bool). cond b 0 1) (ne_eqb (r * r) n h)

-- ---- how the quarters compare with 2 * h is how 4 * n compares with h * h
sq_lt : (a b : ℕ) → a < b → a * a < b * b
sq_lt a b h = lt_of_lt_of_le (near a) (sq_le h)
  where
    near : (a : ℕ) → a * a < suc a * suc a
    near a = omega arith

pub quarters_lt : (n h : ℕ) → 4 * n < h * h → quarters n < 2 * h
unfolding quarters
quarters_lt n h k = at (root (4 * n)) (left (root (4 * n)) (4 * n)) (sq_lt_back (root (4 * n)) h (lt_of_le_of_lt (root_is (4 * n)).0 k)) (left_le (root (4 * n)) (4 * n))
  where
    at : (r l : ℕ) → r < h → l ≤ 1 → 2 * r + l < 2 * h
    at r l k o = omega arith

pub quarters_eq : (n h : ℕ) → 4 * n ≡ h * h → quarters n ≡ 2 * h
unfolding quarters
quarters_eq n h k = ap (λ (r : ℕ). 2 * r + left r (4 * n)) is ∙ ap (λ (l : ℕ). 2 * h + l) (left_zero h (4 * n) (sym k)) ∙ add-zero (2 * h)
  where
    is : root (4 * n) ≡ h
    is = root_unique (root (4 * n)) h (4 * n) (root_is (4 * n)).0 (root_is (4 * n)).1 (le_of_eq (sym k)) (lt_of_le_of_lt (le_of_eq k) (sq_lt h (h + 1) (next h)))
      where
        next : (h : ℕ) → h < h + 1
        next h = omega arith

pub quarters_gt : (n h : ℕ) → h * h < 4 * n → 2 * h < quarters n
unfolding quarters
quarters_gt n h k = go (eq-or-lt_of_le (at_most h (root (4 * n)) (sq_lt_back h (root (4 * n) + 1) (lt_of_le_of_lt (le_of_lt k) (root_is (4 * n)).1))))
  where
    at_most : (x y : ℕ) → x < y + 1 → x ≤ y
    at_most x y h = omega arith

    more : (r l : ℕ) → h < r → 2 * h < 2 * r + l
    more r l k = omega arith

    one : (r l : ℕ) → h ≡ r → l ≡ 1 → 2 * h < 2 * r + l
    one r l k e = omega arith

    go : (h ≡ root (4 * n)) ⊎ (h < root (4 * n)) → 2 * h < 2 * root (4 * n) + left (root (4 * n)) (4 * n)
    go (inl e) = one (root (4 * n)) (left (root (4 * n)) (4 * n)) e (left_one (root (4 * n)) (4 * n) (λ z. lt_irrefl (4 * n) (lt_of_le_of_lt (le_of_eq (sym z ∙ ap (λ (x : ℕ). x * x) (sym e))) k)))
    go (inr l) = more (root (4 * n)) (left (root (4 * n)) (4 * n)) l

pick : (q n h a b : ℕ) → (quarters n < 2 * h → a < b) → (quarters n ≡ 2 * h → a ≡ b) → (2 * h < quarters n → b < a) → nearest q (compare (4 * n) (h * h)) ≡ nearest q (compare a b)
pick q n h a b lt' eq' gt' = go (dec_le (h * h) (4 * n))
  where
    over : (h * h ≡ 4 * n) ⊎ (h * h < 4 * n) → nearest q (compare (4 * n) (h * h)) ≡ nearest q (compare a b)
    over (inl e) = nearest_eq q (4 * n) (h * h) (sym e) ∙ sym (nearest_eq q a b (eq' (quarters_eq n h (sym e))))
    over (inr k) = nearest_gt q (4 * n) (h * h) k ∙ sym (nearest_gt q a b (gt' (quarters_gt n h k)))

    go : Dec (h * h ≤ 4 * n) → nearest q (compare (4 * n) (h * h)) ≡ nearest q (compare a b)
    go (yes k) = over (eq-or-lt_of_le k)
    go (no f) = nearest_lt q (4 * n) (h * h) (lt_of_not-le f) ∙ sym (nearest_lt q a b (lt' (quarters_lt n h (lt_of_not-le f))))

-- ---- the nearest root is the quarters, rounded. u is 4 * 2 ^ k, and w is 2 ^ 1074
at_unit : (z q u w h : ℕ) → 0 < u → 0 < w → z / u ≡ q → 2 * u * q + u ≡ 4 * h → (z < 2 * h → z * w % (u * w) * 2 < u * w) × (z ≡ 2 * h → z * w % (u * w) * 2 ≡ u * w) × (2 * h < z → u * w < z * w % (u * w) * 2)
at_unit z q u w h U W e g =
    let s : q * u + z % u ≡ z = ap (λ (x : ℕ). x * u + z % u) (sym e) ∙ div-add-mod' z u in
    let m : z * w % (u * w) ≡ z % u * w = mod-of z u w (mod-lt z U) W in (
      (λ k. subst (λ (x : ℕ). x * 2 < u * w) (sym m) (less (z % u) (small (z % u) s k))),
      (λ k. ap (λ (x : ℕ). x * 2) m ∙ equal (z % u) (even (z % u) s k)),
      (λ k. subst (λ (x : ℕ). u * w < x * 2) (sym m) (more (z % u) (big (z % u) s k))),
    )
  where
    small : (r : ℕ) → q * u + r ≡ z → z < 2 * h → r * 2 < u
    small r s k = omega arith

    even : (r : ℕ) → q * u + r ≡ z → z ≡ 2 * h → r * 2 ≡ u
    even r s k = omega arith

    big : (r : ℕ) → q * u + r ≡ z → 2 * h < z → u < r * 2
    big r s k = omega arith

    less : (r : ℕ) → r * 2 < u → r * w * 2 < u * w
    less r k = let x : r * 2 * w < u * w = mul-lt-mul_of_pos_right k W in omega arith

    equal : (r : ℕ) → r * 2 ≡ u → r * w * 2 ≡ u * w
    equal r k = let x : r * 2 * w ≡ u * w = ap (λ (y : ℕ). y * w) k in omega arith

    more : (r : ℕ) → u < r * 2 → u * w < r * w * 2
    more r k = let x : u * w < r * 2 * w = mul-lt-mul_of_pos_right k W in omega arith

    mod-of : (z u w : ℕ) → z % u < u → 0 < w → z * w % (u * w) ≡ z % u * w
    mod-of z u w k W =
        ap (λ (x : ℕ). x * w % (u * w)) (sym (div-add-mod' z u))
        ∙ ap (λ (x : ℕ). x % (u * w)) (flat (z / u) (z % u))
        ∙ digits_mod (z / u) (mul-lt-mul_of_pos_right k W)
      where
        flat : (a r : ℕ) → (a * u + r) * w ≡ a * (u * w) + r * w
        flat a r = omega arith

pub nearest_round : (n : ℕ) → nearest_root n ≡ round binary64 false (quarters n) (2 ^ 1076)
nearest_round n =
    let z = quarters n in
    let k = size (root n) - 53 in
    let p = 2 ^ k in
    let q = root n / p in
    let w = 2 ^ 1074 in
    let h = (2 * q + 1) * p in
    let whole : z / (4 * p) ≡ q = sym (div-div-eq-div-mul z 4 p) ∙ ap (λ (x : ℕ). x / p) (quarter n) in
    let t = at_unit z q (4 * p) w h (mul-pos (lit< {m = 0} {n = 4} tt) (pow_pos k)) (pow_pos 1074) whole (twice q p) in
    from_digits n
    ∙ ap (λ (x : ℕ). units binary64 false x k) (pick q n h (z * w % (4 * p * w) * 2) (4 * p * w) t.0 t.1 t.2)
    ∙ ap (λ (x : ℕ). units binary64 false (nearest x (compare (z * w % (4 * p * w) * 2) (4 * p * w))) k) (sym (mul-div-mul_right z (4 * p) (pow_pos 1074) ∙ whole))
    ∙ ap (λ (v : ℕ). units binary64 false (nearest (z * w / v) (compare (z * w % v * 2) v)) k) (mul_right_comm 4 p w)
    ∙ ap (λ (x : ℕ). core binary64 false (z * w) (2 ^ 1076) (size x - 53)) (sym (mul-div-mul_right z 4 (pow_pos 1074) ∙ quarter n))
    ∙ sym (round_is binary64 false z (2 ^ 1076))
  where
    twice : (q p : ℕ) → 2 * (4 * p) * q + 4 * p ≡ 4 * ((2 * q + 1) * p)
    twice q p = omega arith

-- ---- the order
quarters_le : (n m : ℕ) → n ≤ m → quarters n ≤ quarters m
unfolding quarters
quarters_le n m h = go (eq-or-lt_of_le roots)
  where
    roots : root (4 * n) ≤ root (4 * m)
    roots = at_most (root (4 * n)) (root (4 * m)) (sq_lt_back (root (4 * n)) (root (4 * m) + 1) (lt_of_le_of_lt (root_is (4 * n)).0 (lt_of_le_of_lt (four h) (root_is (4 * m)).1)))
      where
        at_most : (x y : ℕ) → x < y + 1 → x ≤ y
        at_most x y h = omega arith

        four : n ≤ m → 4 * n ≤ 4 * m
        four h = omega arith

    lefts : root (4 * n) ≡ root (4 * m) → Dec (root (4 * m) * root (4 * m) ≡ 4 * m) → left (root (4 * n)) (4 * n) ≤ left (root (4 * m)) (4 * m)
    lefts e (no f) = subst (λ (x : ℕ). left (root (4 * n)) (4 * n) ≤ x) (sym (left_one (root (4 * m)) (4 * m) f)) (left_le (root (4 * n)) (4 * n))
    lefts e (yes z) =
        subst (λ (x : ℕ). x ≤ left (root (4 * m)) (4 * m)) (sym (left_zero (root (4 * n)) (4 * n) (same (root (4 * n) * root (4 * n)) (root_is (4 * n)).0 (ap (λ (x : ℕ). x * x) e ∙ z) h))) zero-le
      where
        same : (a : ℕ) → a ≤ 4 * n → a ≡ 4 * m → n ≤ m → a ≡ 4 * n
        same a p q h = omega arith

    go : (root (4 * n) ≡ root (4 * m)) ⊎ (root (4 * n) < root (4 * m)) → 2 * root (4 * n) + left (root (4 * n)) (4 * n) ≤ 2 * root (4 * m) + left (root (4 * m)) (4 * m)
    go (inl e) = sum (root (4 * n)) (root (4 * m)) (left (root (4 * n)) (4 * n)) (left (root (4 * m)) (4 * m)) e (lefts e (ℕ_discrete (root (4 * m) * root (4 * m)) (4 * m)))
      where
        sum : (a b c d : ℕ) → a ≡ b → c ≤ d → 2 * a + c ≤ 2 * b + d
        sum a b c d h k = omega arith
    go (inr l) = sum (root (4 * n)) (root (4 * m)) (left (root (4 * n)) (4 * n)) (left (root (4 * m)) (4 * m)) l (left_le (root (4 * n)) (4 * n))
      where
        sum : (a b c d : ℕ) → a < b → c ≤ 1 → 2 * a + c ≤ 2 * b + d
        sum a b c d h k = omega arith

-- a larger number has a root that is no smaller
pub nearest_mono : (n m : ℕ) → n ≤ m → T (le (nearest_root n) (nearest_root m))
nearest_mono n m h =
    subst (λ (v : Float). T (le v (nearest_root m))) (sym (nearest_round n)) (subst (λ (v : Float). T (le (round binary64 false (quarters n) (2 ^ 1076)) v)) (sym (nearest_round m))
    (round_mono binary64 (quarters n) (2 ^ 1076) (quarters m) (2 ^ 1076) (pow_pos 1076) (pow_pos 1076) (mul-le-mul_right (2 ^ 1076) (quarters_le n m h))))

-- ---- a square's root is exact
square_close : (m e : ℕ) → Close (m * 2 ^ e * (m * 2 ^ e)) (2 * m) 0 e
square_close m e = record {
  low = le_of_eq (same m (2 ^ e));
  high = lt_of_le_of_lt (le_of_eq (sym (same m (2 ^ e)))) (sq_lt (2 * m * 2 ^ e) ((2 * m + 1) * 2 ^ e) (mul-lt-mul_of_pos_right (next (2 * m)) (pow_pos e)));
  exact = λ _. sym (same m (2 ^ e));
  only = λ _. refl;
}
  where
    same : (m d : ℕ) → 2 * m * d * (2 * m * d) ≡ 4 * (m * d * (m * d))
    same m d = omega arith

    next : (a : ℕ) → a < a + 1
    next a = omega arith

root_square : (m e : ℕ) → m < 2 ^ 53 → (0 < e → 2 ^ 52 ≤ m) → nearest_root (m * 2 ^ e * (m * 2 ^ e)) ≡ units binary64 false m e
root_square m e h n =
    nearest_is (m * 2 ^ e * (m * 2 ^ e)) (2 * m) 0 e (square_close m e) (twice m h) (λ k. twice-ge m (n k))
    ∙ ap (λ (x : ℕ). units binary64 false (x + up_by x (2 * m % 2) 0) e) (half m)
    ∙ ap (λ (x : ℕ). units binary64 false (m + up_by m x 0) e) (even m)
    ∙ ap (λ (x : ℕ). units binary64 false x e) (plain m)
  where
    twice : (m : ℕ) → m < 2 ^ 53 → 2 * m < 2 ^ 54
    twice m h = omega arith

    twice-ge : (m : ℕ) → 2 ^ 52 ≤ m → 2 ^ 53 ≤ 2 * m
    twice-ge m h = omega arith

    half : (m : ℕ) → 2 * m / 2 ≡ m
    half m = omega arith

    even : (m : ℕ) → 2 * m % 2 ≡ 0
    even m = omega arith

    plain : (m : ℕ) → m + 0 ≡ m
    plain m = omega arith

-- the root of a finite float's own square is its absolute value
pub root_own : (x : Float) → T (fits binary64 x) → T (is_finite x) → nearest_root (grains x * grains x) ≡ abs_of x
root_own x f h =
    let p = to_bits binary64 (abs_of x) in
    let l : p < 0x7ff0_0000_0000_0000 = finite_bits x f h in
    let z = parts p in
    let P = z.2 in
    let back : of_bits binary64 p ≡ abs_of x = of_bits-to_bits binary64 (abs_of x) (abs_fits x f) in
    let g : grains x ≡ z.0 * 2 ^ z.1 = sym (abs_grains x) ∙ ap grains (sym back) ∙ grains_at p z.0 z.1 P l in
    ap (λ (a : ℕ). nearest_root (a * a)) g
    ∙ root_square z.0 z.1 P.small P.normal
    ∙ sym (bits_under z.0 z.1 (le_of_lt P.small) P.normal (subst (λ (a : ℕ). a < 0x7ff0_0000_0000_0000) P.sum l))
    ∙ ap (of_bits binary64) (sym P.sum)
    ∙ back

-- ---- hypot
pub hypot_above : (x y : Float) → T (fits binary64 x) → T (is_finite x) → T (is_finite y) → T (le (abs_of x) (hypot_of x y))
hypot_above x y f h k =
    subst (λ (v : Float). T (le v (hypot_of x y))) (root_own x f h)
    (subst (λ (v : Float). T (le (nearest_root (grains x * grains x)) v)) (both_finite x y h k)
    (nearest_mono (grains x * grains x) (grains x * grains x + grains y * grains y) (le-add_right (grains x * grains x) (grains y * grains y))))

pub hypot_comm : (x y : Float) → hypot_of x y ≡ hypot_of y x
unfolding hypot_of
hypot_comm nan nan = refl
hypot_comm nan (inf t) = refl
hypot_comm nan (fin t n d) = refl
hypot_comm (inf s) nan = refl
hypot_comm (inf s) (inf t) = refl
hypot_comm (inf s) (fin t n d) = refl
hypot_comm (fin s m e) nan = refl
hypot_comm (fin s m e) (inf t) = refl
hypot_comm (fin s m e) (fin t n d) = ap nearest_root (add_comm (grains (fin s m e) * grains (fin s m e)) (grains (fin t n d) * grains (fin t n d)))

pub hypot_neg : (x y : Float) → hypot_of (neg x) y ≡ hypot_of x y
unfolding hypot_of neg
hypot_neg nan nan = refl
hypot_neg nan (inf t) = refl
hypot_neg nan (fin t n d) = refl
hypot_neg (inf s) y = refl
hypot_neg (fin s m e) nan = refl
hypot_neg (fin s m e) (inf t) = refl
hypot_neg (fin s m e) (fin t n d) = refl
