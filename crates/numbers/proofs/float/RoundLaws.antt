-- `round` at binary64 is roundTiesToEven, as specs/Rounding.antt says it (`rounded`), and no other float is (`round_only`). hypot of two finite floats is the root so rounded (`hypot_rounded`).
-- The format's values are the sizes of the finite floats (`value_of`, `float_of`). Assumes nothing.
use Rattle.std.proofs.Common.{◌≡◌, ℕ, zero, suc, ◌+◌, ◌-◌, ◌*◌, ◌/◌, ◌%◌, ◌^◌, ◌<◌, ◌≤◌, Bool, false, T, ◌⊎◌, sym, refl, ap, ◌∙◌, subst, inl, inr, le_trans, le_of_eq, le_refl, lt_of_lt_of_le, lt_of_le_of_lt, le_of_lt, lt_irrefl, mul-le-mul_right, mod-lt, zero-lt-suc, mul_assoc, le_antisymm, eq-or-lt_of_le, mul-lt-mul_of_pos_right, mul-pos, lt_of_not-le, div-add-mod', le-div_iff_mul-le, mul-one, mul_right_comm, not-le_of_lt, le_of_mul-le-mul_right, arith, lit<, lit≤, pow_pos, pow_mono, pow-add, shl_lt}
use Prim.Native.Nat.{compare}
use native.Mathlib.Nat.{eq_of_mul-eq-mul_right, div-div-eq-div-mul}
use native.Mathlib.Decide.{dec_le}
use lib.Arith.{lt_of_le-ne}
use lib.Ieee.{Float, nan, inf, fin, size, nearest, round, le, fits, to_bits, of_bits, binary64}
use lib.Ieee.Digits.{back, size_reaches}
use lib.Ieee.Exact.{HasValue, units_val, round_exact}
use lib.Ieee.Fits.{kept-lt, nearest-le, round_is, round-fits}
use lib.Ieee.Nearest.{nearest-ge}
use lib.Ieee.Order.{drop, kept, round_mono}
use lib.Ieee.Bits.{of_bits-to_bits}
use Rattle.numbers.specs.Small.{abs_of, is_finite}
use Rattle.numbers.specs.Hypot.{grains, nearest_root, hypot_of}
use Rattle.numbers.specs.Rounding.{Value, distance_between, Nearest, Rounded, RootNearest, RootRounded}
use Rattle.numbers.proofs.float.Pack.{carried, units_over, packed_value, grains_of, same_value}
use Rattle.numbers.proofs.float.Keys.{parts}
use Rattle.numbers.proofs.float.Whole.{finite_bits, abs_fits, abs_grains, grains_at, sides, both_finite}
use Rattle.numbers.proofs.float.Rounding.{nearest_lt, nearest_eq, nearest_gt}
use Rattle.numbers.proofs.float.Hypots.{quarters, quarters_lt, quarters_eq, quarters_gt, nearest_round}

-- ---- next to each other: no value lies between q * 2 ^ k and (q + 1) * 2 ^ k
-- p * 2 ^ j with p of 53 digits at most, the exponent unbounded
pub record Unbounded (w p j : ℕ) : Type 0 where
  pub is : w ≡ p * 2 ^ j
  pub digits : p < 2 ^ 53

pub unbounded : (w p j : ℕ) → Value w p j → Unbounded w p j
unbounded w p j h = record { is = h.is; digits = h.digits }

apart : (q k w p j : ℕ) → (0 < k → 2 ^ 52 ≤ q) → Unbounded w p j → (w ≤ q * 2 ^ k) ⊎ ((q + 1) * 2 ^ k ≤ w)
apart q k w p j n h = go (dec_le k j)
  where
    m : ℕ
    m = p * 2 ^ (j - k)

    next : (a b : ℕ) → (a ≤ b → ⊥) → b + 1 ≤ a
    next a b f = omega arith

    whole : k ≤ j → w ≡ m * 2 ^ k
    whole l = h.is ∙ ap (λ (x : ℕ). p * 2 ^ x) (sym (back j k l)) ∙ ap (λ (x : ℕ). p * x) (pow-add 2 (j - k) k) ∙ sym (mul_assoc p (2 ^ (j - k)) (2 ^ k))

    at : w ≡ m * 2 ^ k → Dec (m ≤ q) → (w ≤ q * 2 ^ k) ⊎ ((q + 1) * 2 ^ k ≤ w)
    at e (yes l) = inl (le_trans (le_of_eq e) (mul-le-mul_right (2 ^ k) l))
    at e (no f) = inr (le_trans (mul-le-mul_right (2 ^ k) (next m q f)) (le_of_eq (sym e)))

    room : (k ≤ j → ⊥) → 53 + j ≤ 52 + k
    room f = omega arith

    some : (k ≤ j → ⊥) → 0 < k
    some f = omega arith

    go : Dec (k ≤ j) → (w ≤ q * 2 ^ k) ⊎ ((q + 1) * 2 ^ k ≤ w)
    go (yes l) = at (whole l) (dec_le m q)
    go (no f) =
        inl (le_trans (le_of_eq h.is)
        (le_trans (le_of_lt (shl_lt 53 j h.digits))
        (le_trans (pow_mono (room f))
        (le_trans (le_of_eq (pow-add 2 52 k)) (mul-le-mul_right (2 ^ k) (n (some f)))))))

-- ---- n / d, in grains, lies r / d above a and u - r below the next multiple; b and the others are times d
module _ (n a u r b : ℕ) (e : a + r ≡ n) (l : r < u) (o : (b ≤ a) ⊎ (a + u ≤ b)) where
  low_best : r * 2 ≤ u → distance_between n a ≤ distance_between n b
  low_best h = elim o [ inl x ↦ omega arith | inr x ↦ omega arith ]

  high_best : u ≤ r * 2 → distance_between n (a + u) ≤ distance_between n b
  high_best h = elim o [ inl x ↦ omega arith | inr x ↦ omega arith ]

  low_only : r * 2 < u → distance_between n b ≡ distance_between n a → b ≡ a
  low_only h k = elim o [ inl x ↦ omega arith | inr x ↦ omega arith ]

  high_only : u < r * 2 → distance_between n b ≡ distance_between n (a + u) → b ≡ a + u
  high_only h k = elim o [ inl x ↦ omega arith | inr x ↦ omega arith ]

-- ---- the multiple c of 2 ^ k that `round` picks for n / d grains: no value lies nearer, and of two equally near ones c is even
pub record Picked (n d c k : ℕ) : Type 0 where
  pub best : (w p j : ℕ) → Unbounded w p j → distance_between n (c * 2 ^ k * d) ≤ distance_between n (w * d)
  pub tie : (w p j : ℕ) → Unbounded w p j → (w ≡ c * 2 ^ k → ⊥) → distance_between n (w * d) ≡ distance_between n (c * 2 ^ k * d) → c % 2 ≡ 0

module _ (n d k q r : ℕ) (D : 0 < d) (N : 0 < k → 2 ^ 52 ≤ q) (E : q * (d * 2 ^ k) + r ≡ n) (L : r < d * 2 ^ k) where
  -- the distances are times d
  from_low : q * 2 ^ k * d + r ≡ n
  from_low = flat (2 ^ k) E
    where
      flat : (x : ℕ) → q * (d * x) + r ≡ n → q * x * d + r ≡ n
      flat x h = omega arith

  next_is : q * 2 ^ k * d + d * 2 ^ k ≡ (q + 1) * 2 ^ k * d
  next_is = flat (2 ^ k)
    where
      flat : (x : ℕ) → q * x * d + d * x ≡ (q + 1) * x * d
      flat x = omega arith

  around : (w p j : ℕ) → Unbounded w p j → (w * d ≤ q * 2 ^ k * d) ⊎ (q * 2 ^ k * d + d * 2 ^ k ≤ w * d)
  around w p j h = elim (apart q k w p j N h) [ inl l ↦ inl (mul-le-mul_right d l) | inr l ↦ inr (le_trans (le_of_eq next_is) (mul-le-mul_right d l)) ]

  pick_low : r * 2 < d * 2 ^ k → Picked n d q k
  pick_low h = record {
    best = λ w p j z. low_best n (q * 2 ^ k * d) (d * 2 ^ k) r (w * d) from_low L (around w p j z) (le_of_lt h);
    tie = λ w p j z f g. absurd (f (eq_of_mul-eq-mul_right d D w (q * 2 ^ k) (low_only n (q * 2 ^ k * d) (d * 2 ^ k) r (w * d) from_low L (around w p j z) h g)));
  }

  pick_high : d * 2 ^ k < r * 2 → Picked n d (q + 1) k
  pick_high h = record {
    best = λ w p j z. subst (λ (b : ℕ). distance_between n b ≤ distance_between n (w * d)) next_is (high_best n (q * 2 ^ k * d) (d * 2 ^ k) r (w * d) from_low L (around w p j z) (le_of_lt h));
    tie = λ w p j z f g.
        absurd (f (eq_of_mul-eq-mul_right d D w ((q + 1) * 2 ^ k) (high_only n (q * 2 ^ k * d) (d * 2 ^ k) r (w * d) from_low L (around w p j z) h (g ∙ ap (distance_between n) (sym next_is)) ∙ next_is)));
  }

  pick_tie : r * 2 ≡ d * 2 ^ k → Picked n d (q + q % 2) k
  pick_tie h = record {
    best = λ w p j z. go w (around w p j z) (parity q);
    tie = λ w p j z f g. even q;
  }
    where
      even : (a : ℕ) → (a + a % 2) % 2 ≡ 0
      even a = omega arith

      parity : (a : ℕ) → (a + a % 2 ≡ a) ⊎ (a + a % 2 ≡ a + 1)
      parity a = at (dec_le (a % 2) 0)
        where
          at : Dec (a % 2 ≤ 0) → (a + a % 2 ≡ a) ⊎ (a + a % 2 ≡ a + 1)
          at (yes l) = inl (omega arith)
          at (no f) = inr (omega arith)

      go : (w : ℕ) → (w * d ≤ q * 2 ^ k * d) ⊎ (q * 2 ^ k * d + d * 2 ^ k ≤ w * d) → (q + q % 2 ≡ q) ⊎ (q + q % 2 ≡ q + 1) → distance_between n ((q + q % 2) * 2 ^ k * d) ≤ distance_between n (w * d)
      go w o (inl e) = subst (λ (c : ℕ). distance_between n (c * 2 ^ k * d) ≤ distance_between n (w * d)) (sym e) (low_best n (q * 2 ^ k * d) (d * 2 ^ k) r (w * d) from_low L o (le_of_eq h))
      go w o (inr e) =
          subst (λ (c : ℕ). distance_between n (c * 2 ^ k * d) ≤ distance_between n (w * d)) (sym e)
          (subst (λ (b : ℕ). distance_between n b ≤ distance_between n (w * d)) next_is (high_best n (q * 2 ^ k * d) (d * 2 ^ k) r (w * d) from_low L o (le_of_eq (sym h))))

  picked_at : Picked n d (nearest q (compare (r * 2) (d * 2 ^ k))) k
  picked_at = go (dec_le (d * 2 ^ k) (r * 2))
    where
      C : ℕ → Type 0
      C c = Picked n d c k

      over : (d * 2 ^ k ≡ r * 2) ⊎ (d * 2 ^ k < r * 2) → C (nearest q (compare (r * 2) (d * 2 ^ k)))
      over (inl e) = subst C (sym (nearest_eq q (r * 2) (d * 2 ^ k) (sym e))) (pick_tie (sym e))
      over (inr l) = subst C (sym (nearest_gt q (r * 2) (d * 2 ^ k) l)) (pick_high l)

      go : Dec (d * 2 ^ k ≤ r * 2) → C (nearest q (compare (r * 2) (d * 2 ^ k)))
      go (yes l) = over (eq-or-lt_of_le l)
      go (no f) = subst C (sym (nearest_lt q (r * 2) (d * 2 ^ k) (lt_of_not-le f))) (pick_low (lt_of_not-le f))

-- ---- what `round` keeps of n / d grains: kept 53 n d, a multiple of 2 ^ drop 53 n d
whole_ge : (n d : ℕ) → 0 < drop 53 n d → 2 ^ 52 ≤ n / (d * 2 ^ drop 53 n d)
whole_ge n d h =
    let k = drop 53 n d in
    subst (λ (x : ℕ). 2 ^ 52 ≤ x) (div-div-eq-div-mul n d (2 ^ k))
    ((le-div_iff_mul-le {k = 2 ^ k} {x = 2 ^ 52} {y = n / d} (pow_pos k)).1 (le_trans (le_of_eq (sym (pow-add 2 52 k))) (size_reaches (n / d) (52 + k) (room (size (n / d)) h))))
  where
    room : (z : ℕ) → 0 < z - 53 → 52 + (z - 53) < z
    room z h = omega arith

kept_ge : (n d : ℕ) → 0 < drop 53 n d → 2 ^ 52 ≤ kept 53 n d
kept_ge n d h = let u = d * 2 ^ drop 53 n d in le_trans (whole_ge n d h) (nearest-ge (n / u) (compare (n % u * 2) u))

kept_le : (n d : ℕ) → kept 53 n d ≤ 2 ^ 53
kept_le n d =
    let u = d * 2 ^ drop 53 n d in
    le_trans (nearest-le (n / u) (compare (n % u * 2) u)) (subst (λ (x : ℕ). x < 2 ^ 53) (div-div-eq-div-mul n d (2 ^ drop 53 n d)) (kept-lt 53 (n / d)))

picked : (n d : ℕ) → 0 < d → Picked n d (kept 53 n d) (drop 53 n d)
picked n d D =
    let k = drop 53 n d in
    let u = d * 2 ^ k in
    picked_at n d k (n / u) (n % u) D (whole_ge n d) (div-add-mod' n u) (mod-lt n (mul-pos D (pow_pos k)))

-- ---- below 2 ^ 2098 grains it is a value of the format, and its last digit is even where kept is
exponent : (a b c k : ℕ) → 2 ^ a ≤ c → c * 2 ^ k < 2 ^ (a + b) → k < b
exponent a b c k lo h = lt_of_not-le (λ (g : b ≤ k). not-le_of_lt h (le_trans (pow_mono (room g)) (le_trans (le_of_eq (pow-add 2 a k)) (mul-le-mul_right (2 ^ k) lo))))
  where
    room : b ≤ k → a + b ≤ a + k
    room g = omega arith

record Held (c k : ℕ) : Type 0 where
  pub q : ℕ
  pub j : ℕ
  pub value : Value (c * 2 ^ k) q j
  pub even : c % 2 ≡ 0 → q % 2 ≡ 0

held : (c k : ℕ) → c ≤ 2 ^ 53 → (0 < k → 2 ^ 52 ≤ c) → c * 2 ^ k < 2 ^ 2098 → Held c k
held c k h n l = go (eq-or-lt_of_le h)
  where
    at : (k : ℕ) → k < 2046 → k ≤ 2045
    at k h = omega arith

    low-range : (k : ℕ) → (0 < k → 2 ^ 52 ≤ c) → c * 2 ^ k < 2 ^ 2098 → k ≤ 2045
    low-range zero n l = lit≤ tt
    low-range (suc k) n l = at (suc k) (exponent 52 2046 c (suc k) (n (zero-lt-suc k)) l)

    go : (c ≡ 2 ^ 53) ⊎ (c < 2 ^ 53) → Held c k
    go (inl e) = record {
      q = 2 ^ 52;
      j = suc k;
      value = record {
        is = ap (λ (a : ℕ). a * 2 ^ k) e ∙ carried k;
        digits = lit< tt;
        normal = λ _. lit≤ tt;
        range = exponent 53 2045 c k (le_of_eq (sym e)) l;
      };
      even = λ _. refl;
    }
    go (inr s) = record {
      q = c;
      j = k;
      value = record { is = refl; digits = s; normal = n; range = low-range k n l };
      even = λ g. g;
    }

-- ---- the overflow: m is the largest value, z the next one if the exponent had no bound, and b half way
under : (n d c k m b z : ℕ) → 0 < d → Picked n d c k → Unbounded m (2 ^ 53 - 1) 2045 → m < z → m + z ≡ 2 * b → n < b * d → c * 2 ^ k < z
under n d c k m b z D P M l e h = lt_of_not-le (λ (g : z ≤ c * 2 ^ k). clash (c * 2 ^ k * d) (m * d) (z * d) (b * d) (mul-le-mul_right d g) (mul-lt-mul_of_pos_right l D) twice (P.best m (2 ^ 53 - 1) 2045 M) h)
  where
    clash : (x y z e : ℕ) → z ≤ x → y < z → y + z ≡ 2 * e → distance_between n x ≤ distance_between n y → n < e → ⊥
    clash x y z e a b c g h = omega arith

    twice : m * d + z * d ≡ 2 * (b * d)
    twice = let q : (m + z) * d ≡ 2 * b * d = ap (λ (x : ℕ). x * d) e in omega arith

-- from half way on `round` gives infinity, as it does at half way
half_way : round binary64 false (2 ^ 1024 - 2 ^ 970) 1 ≡ inf false
unfolding round
half_way = refl

inf_most : (x : Float) (v c : ℕ) → HasValue x false v c → T (le (inf false) x) → ⊥
unfolding le
inf_most nan v c h k = h
inf_most (inf s) v c h k = h
inf_most (fin s m e) v c h k = k

over : (num den : ℕ) → 0 < den → (2 ^ 1024 - 2 ^ 970) * den ≤ num → 2 ^ 2098 ≤ kept 53 (num * 2 ^ 1074) den * 2 ^ drop 53 (num * 2 ^ 1074) den
over num den D h = go (dec_le (2 ^ 2098) v)
  where
    v : ℕ
    v = kept 53 (num * 2 ^ 1074) den * 2 ^ drop 53 (num * 2 ^ 1074) den

    value : v < 2 ^ 2098 → HasValue (round binary64 false num den) false v (2 ^ 1074)
    value l =
        subst (λ (x : Float). HasValue x false v (2 ^ 1074)) (sym (round_is binary64 false num den))
        (units_val binary64 false (kept 53 (num * 2 ^ 1074) den) (drop 53 (num * 2 ^ 1074) den) l)

    least : T (le (inf false) (round binary64 false num den))
    least = subst (λ (x : Float). T (le x (round binary64 false num den))) half_way (round_mono binary64 (2 ^ 1024 - 2 ^ 970) 1 num den (lit< tt) D (le_trans h (le_of_eq (sym (mul-one num)))))

    go : Dec (2 ^ 2098 ≤ v) → 2 ^ 2098 ≤ v
    go (yes l) = l
    go (no f) = absurd (inf_most (round binary64 false num den) v (2 ^ 1074) (value (lt_of_not-le f)) least)

-- ---- `round`
pub rounded : (s : Bool) (num den : ℕ) → 0 < den → Rounded s num den (round binary64 s num den)
rounded s num den D = record {
  finite = finite;
  infinite = λ h. round_is binary64 s num den ∙ units_over s (kept 53 n den) (drop 53 n den) (over num den D h);
}
  where
    n : ℕ
    n = num * 2 ^ 1074

    -- times 2 ^ 1074
    scaled : (a b w : ℕ) → 0 < w → a < b * den → a * w < b * w * den
    scaled a b w W h = lt_of_lt_of_le (mul-lt-mul_of_pos_right h W) (le_of_eq (mul_right_comm b den w))

    finite : num < (2 ^ 1024 - 2 ^ 970) * den → Nearest s num den (round binary64 s num den)
    finite h =
        let c = kept 53 n den in
        let k = drop 53 n den in
        let P = picked n den D in
        let l : c * 2 ^ k < 2 ^ 2098 = under n den c k ((2 ^ 53 - 1) * 2 ^ 2045) ((2 ^ 1024 - 2 ^ 970) * 2 ^ 1074) (2 ^ 2098) D P (record { is = refl; digits = lit< tt }) (lit< tt) refl (scaled num (2 ^ 1024 - 2 ^ 970) (2 ^ 1074) (pow_pos 1074) h) in
        let H = held c k (kept_le n den) (kept_ge n den) l in
        record {
          v = c * 2 ^ k;
          q = H.q;
          k = H.j;
          size = subst (λ (x : Float). HasValue x s (c * 2 ^ k) (2 ^ 1074)) (sym (round_is binary64 s num den)) (units_val binary64 s c k l);
          value = H.value;
          nearest = λ w p j z. P.best w p j (unbounded w p j z);
          even = λ w p j z f g. H.even (P.tie w p j (unbounded w p j z) f g);
        }

-- ---- the values of the format are the sizes of the finite floats
signed : (x : Float) (v : ℕ) → HasValue (abs_of x) false v (2 ^ 1074) → (s : Bool) × HasValue x s v (2 ^ 1074)
unfolding abs_of
signed nan v h = absurd h
signed (inf s) v h = absurd h
signed (fin s m e) v h = (s, (refl, h.1))

pub value_of : (x : Float) → T (fits binary64 x) → T (is_finite x) → (s : Bool) × (q : ℕ) × (k : ℕ) × HasValue x s (grains x) (2 ^ 1074) × Value (grains x) q k
value_of x f h =
    let p = to_bits binary64 (abs_of x) in
    let l : p < 0x7ff0_0000_0000_0000 = finite_bits x f h in
    let z = parts p in
    let P = z.2 in
    let b : of_bits binary64 p ≡ abs_of x = of_bits-to_bits binary64 (abs_of x) (abs_fits x f) in
    let g : grains x ≡ z.0 * 2 ^ z.1 = sym (abs_grains x) ∙ ap grains (sym b) ∙ grains_at p z.0 z.1 P l in
    let H : HasValue (abs_of x) false (grains x) (2 ^ 1074) = subst (λ (y : Float). HasValue y false (grains x) (2 ^ 1074)) (ap (of_bits binary64) (sym P.sum) ∙ b) (subst (λ (v : ℕ). HasValue (of_bits binary64 (z.1 * 2 ^ 52 + z.0)) false v (2 ^ 1074)) (sym g) (packed_value z.0 z.1 P.small P.normal (subst (λ (a : ℕ). a < 0x7ff0_0000_0000_0000) P.sum l))) in
    let S = signed x (grains x) H in
    (S.0, z.0, z.1, S.1, record { is = g; digits = P.small; normal = P.normal; range = (sides p z.0 z.1 p z.0 z.1 P P (le_refl p) l).finite })

pub float_of : (s : Bool) (v q k : ℕ) → Value v q k → (x : Float) × T (fits binary64 x) × HasValue x s v (2 ^ 1074)
float_of s v q k h = (
  round binary64 s v (2 ^ 1074),
  round-fits binary64 s v (2 ^ 1074),
  round_exact binary64 s v (2 ^ 1074) q k (pow_pos 1074) h.digits (lt_of_lt_of_le (shl_lt 53 k h.digits) (pow_mono (room k h.range))) (ap (λ (a : ℕ). a * 2 ^ 1074) h.is),
)
  where
    room : (k : ℕ) → k ≤ 2045 → 53 + k ≤ 2098
    room k h = omega arith

not_lt : (a b : ℕ) → (b < a → ⊥) → a ≤ b
not_lt a b f = omega arith

-- ---- no other float is so rounded
-- a value has one significand
one_way : (v q k p j : ℕ) → Value v q k → Value v p j → q ≡ p
one_way v q k p j a b = go (dec_le k j) (dec_le j k)
  where
    less : (q k p j : ℕ) → Value v q k → Value v p j → k < j → ⊥
    less q k p j a b l =
        not-le_of_lt (shl_lt 53 k a.digits)
        (le_trans (pow_mono (room k j l)) (le_trans (le_of_eq (pow-add 2 52 j)) (le_trans (mul-le-mul_right (2 ^ j) (b.normal (some k j l))) (le_of_eq (sym b.is ∙ a.is)))))
      where
        room : (k j : ℕ) → k < j → 53 + k ≤ 52 + j
        room k j h = omega arith

        some : (k j : ℕ) → k < j → 0 < j
        some k j h = omega arith

    go : Dec (k ≤ j) → Dec (j ≤ k) → q ≡ p
    go (no f) e = absurd (less p j q k b a (lt_of_not-le f))
    go (yes l) (no f) = absurd (less q k p j a b (lt_of_not-le f))
    go (yes l) (yes m) = eq_of_mul-eq-mul_right (2 ^ k) (pow_pos k) q p (sym a.is ∙ b.is ∙ ap (λ (x : ℕ). p * 2 ^ x) (le_antisymm m l))

module _ (s : Bool) (num den : ℕ) (D : 0 < den) (x y : Float) where
  not_above : (a : Nearest s num den x) (b : Nearest s num den y) → a.v < b.v → ⊥
  not_above a b l =
      let n = num * 2 ^ 1074 in
      let e : distance_between n (b.v * den) ≡ distance_between n (a.v * den) = le_antisymm (b.nearest a.v a.q a.k a.value) (a.nearest b.v b.q b.k b.value) in
      let p : a.q % 2 ≡ 0 = a.even b.v b.q b.k b.value (λ h. lt_irrefl b.v (lt_of_le_of_lt (le_of_eq h) l)) e in
      let r : b.q % 2 ≡ 0 = b.even a.v a.q a.k a.value (λ h. lt_irrefl b.v (lt_of_le_of_lt (le_of_eq (sym h)) l)) (sym e) in
      let u = (a.q + 1) * 2 ^ a.k in
      let next : Value u (a.q + 1) a.k = record {
        is = refl;
        digits = room a.q p a.value.digits;
        normal = λ h. up a.q (a.value.normal h);
        range = a.value.range;
      } in
      let above : a.v < u = lt_of_le_of_lt (le_of_eq a.value.is) (mul-lt-mul_of_pos_right (step a.q) (pow_pos a.k)) in
      let below : u < b.v = lt_of_le-ne (over next) (λ h. odd a.q b.q p r (one_way u (a.q + 1) a.k b.q b.k next (subst (λ (w : ℕ). Value w b.q b.k) (sym h) b.value))) in
      clash n (a.v * den) (u * den) (b.v * den) (mul-lt-mul_of_pos_right above D) (mul-lt-mul_of_pos_right below D) e (a.nearest u (a.q + 1) a.k next)
    where
      room : (q : ℕ) → q % 2 ≡ 0 → q < 2 ^ 53 → q + 1 < 2 ^ 53
      room q p h = omega arith

      up : (q : ℕ) → 2 ^ 52 ≤ q → 2 ^ 52 ≤ q + 1
      up q h = omega arith

      step : (q : ℕ) → q < q + 1
      step q = omega arith

      odd : (q p : ℕ) → q % 2 ≡ 0 → p % 2 ≡ 0 → q + 1 ≡ p → ⊥
      odd q p a b e = omega arith

      over : Value ((a.q + 1) * 2 ^ a.k) (a.q + 1) a.k → (a.q + 1) * 2 ^ a.k ≤ b.v
      over z = elim (apart a.q a.k b.v b.q b.k a.value.normal (unbounded b.v b.q b.k b.value)) [
        | inl h ↦ absurd (not-le_of_lt l (le_trans h (le_of_eq (sym a.value.is))))
        | inr h ↦ h
      ]

      clash : (n x y z : ℕ) → x < y → y < z → distance_between n z ≡ distance_between n x → distance_between n x ≤ distance_between n y → ⊥
      clash n x y z a b e h = omega arith

pub round_only : (s : Bool) (num den : ℕ) → 0 < den → (x : Float) → T (fits binary64 x) → Rounded s num den x → x ≡ round binary64 s num den
round_only s num den D x f R = go (dec_le ((2 ^ 1024 - 2 ^ 970) * den) num)
  where
    y : Float
    y = round binary64 s num den

    same : (a : Nearest s num den x) (b : Nearest s num den y) → a.v ≡ b.v
    same a b = le_antisymm (not_lt a.v b.v (not_above s num den D y x b a)) (not_lt b.v a.v (not_above s num den D x y a b))

    go : Dec ((2 ^ 1024 - 2 ^ 970) * den ≤ num) → x ≡ y
    go (yes l) = R.infinite l ∙ sym ((rounded s num den D).infinite l)
    go (no g) =
        let a = R.finite (lt_of_not-le g) in
        let b = (rounded s num den D).finite (lt_of_not-le g) in
        same_value x y s b.v f (round-fits binary64 s num den) (subst (λ (v : ℕ). HasValue x s v (2 ^ 1074)) (same a b) a.size) b.size

-- ---- the root: z / 4 stands for it in grains, and w for 2 ^ 1074
module _ (z v u w : ℕ) (W : 0 < w) where
  total : v * (4 * w) + u * (4 * w) ≡ 2 * (2 * (v + u) * w)
  total = omega arith

  under_root : distance_between (z * w) (v * (4 * w)) ≤ distance_between (z * w) (u * (4 * w)) → u < v → 2 * (v + u) ≤ z
  under_root g l = le_of_mul-le-mul_right (at (z * w) (v * (4 * w)) (u * (4 * w)) (2 * (v + u) * w) g (mul-lt-mul_of_pos_right l (mul-pos (lit< {m = 0} {n = 4} tt) W)) total) W
    where
      at : (n x y s : ℕ) → distance_between n x ≤ distance_between n y → y < x → x + y ≡ 2 * s → s ≤ n
      at n x y s g l e = omega arith

  over_root : distance_between (z * w) (v * (4 * w)) ≤ distance_between (z * w) (u * (4 * w)) → v < u → z ≤ 2 * (v + u)
  over_root g l = le_of_mul-le-mul_right (at (z * w) (v * (4 * w)) (u * (4 * w)) (2 * (v + u) * w) g (mul-lt-mul_of_pos_right l (mul-pos (lit< {m = 0} {n = 4} tt) W)) total) W
    where
      at : (n x y s : ℕ) → distance_between n x ≤ distance_between n y → x < y → x + y ≡ 2 * s → n ≤ s
      at n x y s g l e = omega arith

  level : z ≡ 2 * (v + u) → distance_between (z * w) (u * (4 * w)) ≡ distance_between (z * w) (v * (4 * w))
  level e = at (z * w) (v * (4 * w)) (u * (4 * w)) (2 * (v + u) * w) (ap (λ (a : ℕ). a * w) e) total
    where
      at : (n x y s : ℕ) → n ≡ s → x + y ≡ 2 * s → distance_between n y ≡ distance_between n x
      at n x y s g e = omega arith

square_le : (n h : ℕ) → 2 * h ≤ quarters n → h * h ≤ 4 * n
square_le n h l = not_lt (h * h) (4 * n) (λ k. not-le_of_lt (quarters_lt n h k) l)

square_ge : (n h : ℕ) → quarters n ≤ 2 * h → 4 * n ≤ h * h
square_ge n h l = not_lt (4 * n) (h * h) (λ k. not-le_of_lt (quarters_gt n h k) l)

pub quarters_ge : (n h : ℕ) → h * h ≤ 4 * n → 2 * h ≤ quarters n
quarters_ge n h l = elim (eq-or-lt_of_le l) [ inl e ↦ le_of_eq (sym (quarters_eq n h (sym e))) | inr k ↦ le_of_lt (quarters_gt n h k) ]

pub root_rounded : (n : ℕ) → RootRounded n (nearest_root n)
root_rounded n = record {
  finite = λ h. nearer (R.finite (quarters_lt n (2 * b) (four-lt b h)));
  infinite = λ h. R.infinite (quarters_ge n (2 * b) (four-le b h));
}
  where
    b : ℕ
    b = 2 ^ 2098 - 2 ^ 2044

    four-lt : (b : ℕ) → n < b * b → 4 * n < 2 * b * (2 * b)
    four-lt b h = omega arith

    four-le : (b : ℕ) → b * b ≤ n → 2 * b * (2 * b) ≤ 4 * n
    four-le b h = omega arith

    R : Rounded false (quarters n) (2 ^ 1076) (nearest_root n)
    R = subst (Rounded false (quarters n) (2 ^ 1076)) (sym (nearest_round n)) (rounded false (quarters n) (2 ^ 1076) (pow_pos 1076))

    nearer : Nearest false (quarters n) (2 ^ 1076) (nearest_root n) → RootNearest n (nearest_root n)
    nearer N = record {
      v = N.v;
      q = N.q;
      k = N.k;
      size = N.size;
      value = N.value;
      below = λ w p j z l. square_le n (N.v + w) (under_root (quarters n) N.v w (2 ^ 1074) (pow_pos 1074) (N.nearest w p j z) l);
      above = λ w p j z l. square_ge n (N.v + w) (over_root (quarters n) N.v w (2 ^ 1074) (pow_pos 1074) (N.nearest w p j z) l);
      even = λ w p j z f e. N.even w p j z f (level (quarters n) N.v w (2 ^ 1074) (pow_pos 1074) (quarters_eq n (N.v + w) e));
    }

-- hypot of two finite floats, of a and b grains
pub finite_of : (x : Float) (s : Bool) (a c : ℕ) → HasValue x s a c → T (is_finite x)
unfolding is_finite
finite_of nan s a c h = absurd h
finite_of (inf t) s a c h = absurd h
finite_of (fin t m e) s a c h = tt

pub hypot_rounded : (x y : Float) (s t : Bool) (a b : ℕ) → HasValue x s a (2 ^ 1074) → HasValue y t b (2 ^ 1074) → RootRounded (a * a + b * b) (hypot_of x y)
hypot_rounded x y s t a b h k =
    subst (RootRounded (a * a + b * b))
    (ap (λ (z : ℕ). nearest_root (z * z + b * b)) (sym (grains_of x s a h))
    ∙ ap (λ (z : ℕ). nearest_root (grains x * grains x + z * z)) (sym (grains_of y t b k))
    ∙ both_finite x y (finite_of x s a (2 ^ 1074) h) (finite_of y t b (2 ^ 1074) k))
    (root_rounded (a * a + b * b))

-- no other float is the root so rounded
module _ (n : ℕ) (x y : Float) where
  root_not_above : (a : RootNearest n x) (b : RootNearest n y) → a.v < b.v → ⊥
  root_not_above a b l =
      let e : 4 * n ≡ (a.v + b.v) * (a.v + b.v) = le_antisymm (a.above b.v b.q b.k b.value l) (le_trans (le_of_eq (turn a.v b.v)) (b.below a.v a.q a.k a.value l)) in
      let p : a.q % 2 ≡ 0 = a.even b.v b.q b.k b.value (λ h. lt_irrefl b.v (lt_of_le_of_lt (le_of_eq h) l)) e in
      let r : b.q % 2 ≡ 0 = b.even a.v a.q a.k a.value (λ h. lt_irrefl b.v (lt_of_le_of_lt (le_of_eq (sym h)) l)) (e ∙ turn a.v b.v) in
      let u = (a.q + 1) * 2 ^ a.k in
      let next : Value u (a.q + 1) a.k = record {
        is = refl;
        digits = room a.q p a.value.digits;
        normal = λ h. up a.q (a.value.normal h);
        range = a.value.range;
      } in
      let above : a.v < u = lt_of_le_of_lt (le_of_eq a.value.is) (mul-lt-mul_of_pos_right (step a.q) (pow_pos a.k)) in
      let below : u < b.v = lt_of_le-ne (over next) (λ h. odd a.q b.q p r (one_way u (a.q + 1) a.k b.q b.k next (subst (λ (w : ℕ). Value w b.q b.k) (sym h) b.value))) in
      clash a.v u b.v above (le_trans (b.below u (a.q + 1) a.k next below) (le_of_eq e))
    where
      turn : (i j : ℕ) → (i + j) * (i + j) ≡ (j + i) * (j + i)
      turn i j = omega arith

      room : (q : ℕ) → q % 2 ≡ 0 → q < 2 ^ 53 → q + 1 < 2 ^ 53
      room q p h = omega arith

      up : (q : ℕ) → 2 ^ 52 ≤ q → 2 ^ 52 ≤ q + 1
      up q h = omega arith

      step : (q : ℕ) → q < q + 1
      step q = omega arith

      odd : (q p : ℕ) → q % 2 ≡ 0 → p % 2 ≡ 0 → q + 1 ≡ p → ⊥
      odd q p a b e = omega arith

      over : Value ((a.q + 1) * 2 ^ a.k) (a.q + 1) a.k → (a.q + 1) * 2 ^ a.k ≤ b.v
      over z = elim (apart a.q a.k b.v b.q b.k a.value.normal (unbounded b.v b.q b.k b.value)) [
        | inl h ↦ absurd (not-le_of_lt l (le_trans h (le_of_eq (sym a.value.is))))
        | inr h ↦ h
      ]

      clash : (i j m : ℕ) → i < j → (m + j) * (m + j) ≤ (i + m) * (i + m) → ⊥
      clash i j m h k = not-le_of_lt (less (i + m) (m + j) (sum i j m h)) k
        where
          sum : (i j m : ℕ) → i < j → i + m + 1 ≤ m + j
          sum i j m h = omega arith

          less : (c d : ℕ) → c + 1 ≤ d → c * c < d * d
          less c d h = lt_of_lt_of_le (near c) (le_trans (mul-le-mul_right (c + 1) h) (le_trans (le_of_eq (swap d (c + 1))) (mul-le-mul_right d h)))
            where
              near : (c : ℕ) → c * c < (c + 1) * (c + 1)
              near c = omega arith

              swap : (i j : ℕ) → i * j ≡ j * i
              swap i j = omega arith

pub root_only : (n : ℕ) (x : Float) → T (fits binary64 x) → RootRounded n x → x ≡ nearest_root n
root_only n x f R = go (dec_le (b * b) n)
  where
    b : ℕ
    b = 2 ^ 2098 - 2 ^ 2044

    y : Float
    y = nearest_root n

    fits-y : T (fits binary64 (nearest_root n))
    fits-y = subst (λ (z : Float). T (fits binary64 z)) (sym (nearest_round n)) (round-fits binary64 false (quarters n) (2 ^ 1076))

    same : (i : RootNearest n x) (j : RootNearest n (nearest_root n)) → i.v ≡ j.v
    same i j = le_antisymm (not_lt i.v j.v (root_not_above n (nearest_root n) x j i)) (not_lt j.v i.v (root_not_above n x (nearest_root n) i j))

    go : Dec ((2 ^ 2098 - 2 ^ 2044) * (2 ^ 2098 - 2 ^ 2044) ≤ n) → x ≡ nearest_root n
    go (yes l) = R.infinite l ∙ sym ((root_rounded n).infinite l)
    go (no g) =
        let i = R.finite (lt_of_not-le g) in
        let j = (root_rounded n).finite (lt_of_not-le g) in
        same_value x (nearest_root n) false j.v f fits-y (subst (λ (v : ℕ). HasValue x false v (2 ^ 1074)) (same i j) i.size) j.size

abbrev Number : Float → Type 0
Number nan = ⊥
Number (inf s) = Unit
Number (fin s m e) = Unit

-- the other cases of hypot: an infinite side, and else a NaN
hypot_first : (s : Bool) (y : Float) → hypot_of (inf s) y ≡ inf false
unfolding hypot_of
hypot_first s y = refl

hypot_second : (x : Float) (s : Bool) → hypot_of x (inf s) ≡ inf false
unfolding hypot_of
hypot_second nan s = refl
hypot_second (inf t) s = refl
hypot_second (fin t m e) s = refl

pub hypot_inf : (x y : Float) (s : Bool) → (x ≡ inf s) ⊎ (y ≡ inf s) → hypot_of x y ≡ inf false
hypot_inf x y s (inl e) = ap (λ (z : Float). hypot_of z y) e ∙ hypot_first s y
hypot_inf x y s (inr e) = ap (λ (z : Float). hypot_of x z) e ∙ hypot_second x s

pub hypot_nan : (x y : Float) → ((s : Bool) → x ≡ inf s → ⊥) → ((s : Bool) → y ≡ inf s → ⊥) → (x ≡ nan) ⊎ (y ≡ nan) → hypot_of x y ≡ nan
unfolding hypot_of
hypot_nan nan nan f g h = refl
hypot_nan nan (inf t) f g h = absurd (g t refl)
hypot_nan nan (fin t n d) f g h = refl
hypot_nan (inf s) y f g h = absurd (f s refl)
hypot_nan (fin s m e) nan f g h = refl
hypot_nan (fin s m e) (inf t) f g h = absurd (g t refl)
hypot_nan (fin s m e) (fin t n d) f g (inl p) = absurd (subst Number p tt)
hypot_nan (fin s m e) (fin t n d) f g (inr p) = absurd (subst Number p tt)
