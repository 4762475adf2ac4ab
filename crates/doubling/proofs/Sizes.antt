-- The ranges of what both drawings have: the scales, the sizes in blocks and the typical side. Assumes nothing.
use Rattle.std.specs.Prelude.{unwrap_or}
use mathlib.Core.Path.{◌≡◌, refl, sym, ap, ◌∙◌, subst}
use mathlib.Core.Logic.{◌⊎◌, inl, inr}
use mathlib.Core.Bool.{Bool, true, false, true≢false}
use mathlib.Core.List.{List, [], ◌∷◌}
use Prim.Native.Nat.{ℕ, zero, suc, ◌-◌, ◌*◌, ◌/◌, ◌^◌, ◌≤◌, ◌<◌, zero-le}
use native.Mathlib.Nat.{le_refl, le_trans, lt_of_lt_of_le, lt_of_not-le, mul-le-mul_right}
use native.Mathlib.Omega.{arith}
use native.Mathlib.Decide.{dec_le}
use lib.IntN.{pos}
use lib.Dec.{T, leb, lit≤, lit<}
use lib.Pow.{pow_pos, pow-lt}
use lib.ListN.{length, get_or, get_or-eq_default}
use lib.Ieee.{Float, fin, binary64, fits, lt, of_bits}
use lib.Ieee.Exact.{HasValue}
use Rattle.numbers.specs.Small.{is_finite, max_of}
use Rattle.numbers.specs.Hypot.{grains}
use Rattle.numbers.specs.Ops.{num, f0, f1, f2, order_key, ◌⊗◌}
use Rattle.numbers.specs.Double.{Finite, Stepped, Limit}
use Rattle.numbers.proofs.float.Pack.{same_value}
use Rattle.numbers.proofs.float.RoundLaws.{value_of}
use Rattle.numbers.proofs.float.Extremes.{max_first, max_second}
use Rattle.numbers.proofs.float.DoubleRange.{widen_to, stepped_cases, max_stepped, add_stepped, mul_stepped}
use Rattle.numbers.proofs.float.DoublePairs.{num_stepped, zero_doubles}
use Rattle.numbers.specs.Order.{pick}
use Rattle.numbers.specs.Table.{table}
use Rattle.numbers.proofs.order.Tables.{get_d_table, length_table, how_many_le}
use Rattle.numbers.specs.Median.{finite_of, insert_float, sort_floats, middle, median_of}
use Rattle.plane.specs.declared.geometry.Point.{Point}
use Rattle.network.specs.declared.options.BlockOptions.{BlockOptions}
use Rattle.network.specs.declared.options.Options.{Options}
use Rattle.network.specs.declared.words.Kind.{Kind}
use Rattle.network.specs.Words.{buses_in, bus_counts, is_occupied, occupied}
use Rattle.stations.specs.Row.{rows_in}
use Rattle.stations.specs.Size.{Size, width_for, height_for, size_for, sizes, size_at, sides}
use Rattle.stations.specs.Unit.{typical}
use Rattle.stations.specs.Scale.{tier, scale_at, scales_of, scales}
use Rattle.doubling.specs.Doubling.{EachBlockOption}

-- ---- constants
pub one : Stepped 1074 (2 ^ 1074) f1
unfolding fits is_finite grains of_bits
one = record { number = record { held = tt; finite = tt }; count = 1; grid = refl; size = le_refl (2 ^ 1074) }

pub two : Stepped 1074 (2 * 2 ^ 1074) f2
unfolding fits is_finite grains of_bits
two = record { number = record { held = tt; finite = tt }; count = 2; grid = refl; size = le_refl (2 * 2 ^ 1074) }

pub two_positive : 0 < grains f2
unfolding grains of_bits
two_positive = lit< tt

pub power : (k : ℕ) → k < 2097 → Limit (2 ^ k)
power k h = record { q = 1; k = k; is = at (2 ^ k); digits = lit< tt; room = pow-lt h }
  where
    at : (p : ℕ) → p ≡ 1 * p
    at p = omega arith

-- ---- a block option from 0.5 to 8: 1021 is 1074 - 1 - 52
abbrev pub BlockOption : Float → Type 0
BlockOption x = Stepped 1021 (8 * 2 ^ 1074) x

twice_stepped : (x : Float) → BlockOption x → Stepped 1021 (2 ^ 15 * 2 ^ 1074) (f2 ⊗ x)
twice_stepped x g = mul_stepped 1021 (2 ^ 15 * 2 ^ 1074) two g refl (lit≤ tt) (power 1089 (lit< tt))

-- ---- sizes: at most 2 ^ 16 blocks
-- the width of up to 2 ^ 12 buses, the height of up to 2 ^ 13 rows
width_stepped : (G : BlockOptions) → EachBlockOption BlockOption G → (n : ℕ) → n ≤ 2 ^ 12 → Stepped 1021 (2 ^ 16 * 2 ^ 1074) (width_for G n)
unfolding width_for
width_stepped G E n h =
    let a : Stepped 1074 (2 ^ 12 * 2 ^ 1074) (num (n - 1)) = widen_to 1074 (2 ^ 12 * 2 ^ 1074) (le_refl 1074) (mul-le-mul_right (2 ^ 1074) (less n h)) (num_stepped (n - 1) (le_trans (less n h) (lit≤ tt))) in
    let b : Stepped 1021 (2 ^ 15 * 2 ^ 1074) (G.bar_gap ⊗ num (n - 1)) = mul_stepped 1021 (2 ^ 15 * 2 ^ 1074) E.bar_gap a refl (lit≤ tt) (power 1089 (lit< tt)) in
    add_stepped b (twice_stepped G.pad E.pad) (power 1090 (lit< tt))
  where
    less : (n : ℕ) → n ≤ 2 ^ 12 → n - 1 ≤ 2 ^ 12
    less n h = omega arith

height_stepped : (G : BlockOptions) → EachBlockOption BlockOption G → (n : ℕ) → n ≤ 2 ^ 13 → Stepped 1021 (2 ^ 16 * 2 ^ 1074) (height_for G n)
unfolding height_for
height_stepped G E n h =
    let a : Stepped 1021 (2 ^ 15 * 2 ^ 1074) (num n) = widen_to 1021 (2 ^ 15 * 2 ^ 1074) (lit≤ tt) (le_trans (mul-le-mul_right (2 ^ 1074) h) (lit≤ tt)) (num_stepped n (le_trans h (lit≤ tt))) in
    let b : Stepped 1021 (2 ^ 15 * 2 ^ 1074) G.min_bar = widen_to 1021 (2 ^ 15 * 2 ^ 1074) (le_refl 1021) (lit≤ tt) E.min_bar in
    add_stepped (max_stepped a b) (twice_stepped G.pad E.pad) (power 1090 (lit< tt))

pub record Blocks (z : Size) : Type 0 where
  pub w : Stepped 1021 (2 ^ 16 * 2 ^ 1074) z.w
  pub h : Stepped 1021 (2 ^ 16 * 2 ^ 1074) z.h

table_in : {A : Type 0} (P : A → Type 0) (f : ℕ → A) (n : ℕ) (d : A) → ((s : ℕ) → P (f s)) → P d → (s : ℕ) → P (get_or (table f n) s d)
table_in P f n d h k s = go (dec_le n s)
  where
    go : Dec (n ≤ s) → P (get_or (table f n) s d)
    go (yes l) = subst P (sym (get_or-eq_default (table f n) d (subst (λ (z : ℕ). z ≤ s) (sym (length_table f n)) l))) k
    go (no l) = subst P (sym (get_d_table f n s d (lt_of_not-le l))) (h s)

counts_le : (sub : List ℕ) (s : ℕ) → length sub ≤ 2 ^ 12 → get_or (bus_counts sub) s 0 ≤ 2 ^ 12
unfolding bus_counts buses_in
counts_le sub s h = table_in (λ n. n ≤ 2 ^ 12) (buses_in sub) _ 0 (λ i. le_trans (how_many_le _ (length sub)) h) zero-le s

rows_le : (sub : List ℕ) (ks : List Kind) (s : ℕ) → length ks ≤ 2 ^ 13 → rows_in sub ks s ≤ 2 ^ 13
unfolding rows_in
rows_le sub ks s h = le_trans (how_many_le _ (length ks)) h

pub sizes_stepped : (G : BlockOptions) → EachBlockOption BlockOption G → (sub : List ℕ) (ks : List Kind) → length sub ≤ 2 ^ 12 → length ks ≤ 2 ^ 13 → (s : ℕ) → Blocks (size_at (sizes G sub ks (bus_counts sub)) s)
unfolding sizes size_for
sizes_stepped G E sub ks h k =
    table_in Blocks (λ s. size_for G (get_or (bus_counts sub) s 0) (rows_in sub ks s)) (length (bus_counts sub)) (record { w = f0; h = f0 })
    (λ s. record { w = width_stepped G E (get_or (bus_counts sub) s 0) (counts_le sub s h); h = height_stepped G E (rows_in sub ks s) (rows_le sub ks s k) })
    (record { w = (zero_doubles 1021 (2 ^ 16 * 2 ^ 1074)).stepped; h = (zero_doubles 1021 (2 ^ 16 * 2 ^ 1074)).stepped })

-- ---- the typical side
abbrev In : (Float → Type 0) → List Float → Type 0
In P [] = Unit
In P (x ∷ xs) = P x × In P xs

pick_in : (P : Float → Type 0) (b : Bool) (l m : List Float) → In P l → In P m → In P (pick b l m)
pick_in P true l m h k = h
pick_in P false l m h k = k

module _ (P : Float → Type 0) where
  finite_in : (l : List Float) → In P l → In P (finite_of l)
  unfolding finite_of
  finite_in [] h = tt
  finite_in (x ∷ xs) h = pick_in P (is_finite x) (x ∷ finite_of xs) (finite_of xs) (h.0, finite_in xs h.1) (finite_in xs h.1)

  insert_in : (x : Float) (l : List Float) → P x → In P l → In P (insert_float x l)
  unfolding insert_float
  insert_in x [] p h = (p, tt)
  insert_in x (y ∷ ys) p h = pick_in P (leb (order_key x) (order_key y)) (x ∷ y ∷ ys) (y ∷ insert_float x ys) (p, h) (h.0, insert_in x ys p h.1)

  sort_in : (l : List Float) → In P l → In P (sort_floats l)
  unfolding sort_floats
  sort_in [] h = tt
  sort_in (x ∷ xs) h = insert_in x (sort_floats xs) h.0 (sort_in xs h.1)

  at_in : (l : List Float) (d : Float) → In P l → P d → (i : ℕ) → P (get_or l i d)
  at_in [] d h k i = k
  at_in (x ∷ xs) d h k zero = h.0
  at_in (x ∷ xs) d h k (suc i) = at_in xs d h.1 k i

  middle_in : (l : List Float) (d : Float) → In P l → P d → P (unwrap_or (middle l) d)
  unfolding middle
  middle_in [] d h k = k
  middle_in (x ∷ xs) d h k = at_in (x ∷ xs) x h h.0 (length (x ∷ xs) / 2)

  median_in : (l : List Float) (d : Float) → In P l → P d → P (unwrap_or (median_of l) d)
  unfolding median_of
  median_in l d h k = middle_in (sort_floats (finite_of l)) d (sort_in (finite_of l) (finite_in l h)) k

sides_in : (zs : List Size) → ((s : ℕ) → Blocks (size_at zs s)) → (ss : List ℕ) → In (Stepped 1021 (2 ^ 16 * 2 ^ 1074)) (sides zs ss)
unfolding sides
sides_in zs h [] = tt
sides_in zs h (s ∷ ss) = (max_stepped (h s).w (h s).h, sides_in zs h ss)

one_wide : Stepped 1021 (2 ^ 16 * 2 ^ 1074) f1
one_wide = widen_to 1021 (2 ^ 16 * 2 ^ 1074) (lit≤ tt) (lit≤ tt) one

zero_fits : (s : Bool) → T (fits binary64 (fin s 0 (pos 0)))
unfolding fits
zero_fits s = tt

-- a number without size is a zero
pub sizeless : (x : Float) → Finite x → grains x ≡ 0 → (s : Bool) × (x ≡ fin s 0 (pos 0))
sizeless x f e =
    let X = value_of x f.held f.finite in
    (X.0, same_value x (fin X.0 0 (pos 0)) X.0 0 f.held (zero_fits X.0) (subst (λ (v : ℕ). HasValue x X.0 v (2 ^ 1074)) e X.3) (refl, refl))

zero_below : (s : Bool) → lt (fin s 0 (pos 0)) f1 ≡ true
unfolding lt of_bits
zero_below true = refl
zero_below false = refl

sizeless_below : (x : Float) → Finite x → grains x ≡ 0 → lt x f1 ≡ true
sizeless_below x f e = let z = sizeless x f e in ap (λ (y : Float). lt y f1) z.1 ∙ zero_below z.0

one_positive : 0 < grains f1
unfolding grains of_bits
one_positive = lit< tt

-- at least 1 is more than 0
max_positive : {top : ℕ} (x : Float) → Stepped 1021 top x → 0 < grains (max_of x f1)
max_positive x w = go (lt x f1) refl (stepped_cases w)
  where
    go : (b : Bool) → lt x f1 ≡ b → (grains x ≡ 0) ⊎ (2 ^ 1021 ≤ grains x) → 0 < grains (max_of x f1)
    go true e h = subst (λ (y : Float). 0 < grains y) (sym (max_second x f1 e)) one_positive
    go false e (inl z) = absurd (true≢false (sym (sizeless_below x w.number z) ∙ e))
    go false e (inr z) = subst (λ (y : Float). 0 < grains y) (sym (max_first x f1 e)) (lt_of_lt_of_le (pow_pos 1021) z)

module _ (zs : List Size) (h : (s : ℕ) → Blocks (size_at zs s)) (counts : List ℕ) where
  middle_stepped : Stepped 1021 (2 ^ 16 * 2 ^ 1074) (unwrap_or (median_of (sides zs (occupied counts))) f1)
  middle_stepped = median_in (Stepped 1021 (2 ^ 16 * 2 ^ 1074)) (sides zs (occupied counts)) f1 (sides_in zs h (occupied counts)) one_wide

  pub typical_stepped : Stepped 1021 (2 ^ 16 * 2 ^ 1074) (typical zs counts)
  unfolding typical
  typical_stepped = max_stepped middle_stepped one_wide

  pub typical_positive : 0 < grains (typical zs counts)
  unfolding typical
  typical_positive = max_positive (unwrap_or (median_of (sides zs (occupied counts))) f1) middle_stepped

-- ---- scales from 1/64 to 1
one_fine : Stepped 1016 (2 ^ 1074) f1
one_fine = widen_to 1016 (2 ^ 1074) (lit≤ tt) (le_refl (2 ^ 1074)) one

pick_stepped : {lo top : ℕ} {x y : Float} (b : Bool) → Stepped lo top x → Stepped lo top y → Stepped lo top (pick b x y)
pick_stepped true f g = f
pick_stepped false f g = g

pub scales_stepped : (O : Options) (qs : List Point) (counts : List ℕ) (median_spacing : Float) → Stepped 1016 (2 ^ 1074) O.tier_scale_1 → Stepped 1016 (2 ^ 1074) O.tier_scale_2 → (s : ℕ) → Stepped 1016 (2 ^ 1074) (get_or (scales O qs counts median_spacing) s f1)
unfolding scales scales_of scale_at tier
scales_stepped O qs counts median_spacing a b = table_in (Stepped 1016 (2 ^ 1074)) _ (length counts) f1 (λ s. pick_stepped (is_occupied counts s) (pick_stepped (leb O.tier_count_2 _) b (pick_stepped (leb O.tier_count_1 _) a one_fine)) one_fine) one_fine
