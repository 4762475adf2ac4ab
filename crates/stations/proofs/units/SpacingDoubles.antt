-- Spacing, unit and scales in two drawings, the second one's seeds doubled: spacing and unit are doubled, the scales are the same. Assumes nothing.
use Rattle.std.specs.Prelude.{Option, Some, None, IsSome, unwrap_or}
use mathlib.Core.Path.{◌≡◌, refl, sym, ap, ◌∙◌, subst}
use mathlib.Core.Bool.{Bool, true, false, true≢false, not, ◌&&◌, cond}
use mathlib.Core.List.{List, [], ◌∷◌}
use Prim.Native.Nat.{ℕ, zero, suc, ◌+◌, ◌*◌, ◌/◌, ◌^◌, ◌≤◌, ◌<◌}
use native.Mathlib.Nat.{le_refl, le_of_lt, le_of_eq, zero-add}
use native.Mathlib.Omega.{arith}
use lib.Dec.{T, leb, eqb}
use lib.ListN.{length, get_or}
use lib.Ieee.{Float, inf, lt}
use Rattle.numbers.specs.Small.{is_finite, min_of}
use Rattle.numbers.specs.Hypot.{grains}
use Rattle.numbers.specs.Ops.{f0, f1, order_key}
use Rattle.numbers.specs.Double.{twice, Stepped, Limit, Doubles}
use Rattle.numbers.proofs.float.DoubleLaws.{lt_twice, finite_twice}
use Rattle.numbers.proofs.float.DoublePairs.{lt_of_doubles, le_of_doubles, key_of_doubles, sub_doubles, mul_doubles_2, div_doubles, hypot_doubles, zero_doubles}
use Rattle.numbers.specs.Order.{pick}
use Rattle.numbers.specs.Table.{table_from, table, how_many}
use Rattle.numbers.proofs.order.Tables.{how_many_ext}
use Rattle.numbers.specs.Median.{finite_of, insert_float, sort_floats, middle, median_of}
use Rattle.plane.specs.declared.geometry.Point.{Point}
use Rattle.plane.specs.Plane.{point_at}
use Rattle.plane.specs.Near.{distance, nearer, nearest_to, nearest, near, within, neighbours}
use Rattle.stations.specs.Unit.{spacing_of, unit_for}
use Rattle.stations.specs.Doubles.{DoublesPoint, Paired}

-- ---- a number that may be infinite: the other is its double, and where it is finite it has the range
pub record Reached (lo top : ℕ) (x x' : Float) : Type 0 where
  pub is : x' ≡ twice x
  pub range : T (is_finite x) → Stepped lo top x

reached : {lo top : ℕ} {x x' : Float} → Doubles lo top x x' → Reached lo top x x'
reached h = record { is = h.is; range = λ _. h.stepped }

inf_twice : inf false ≡ twice (inf false)
unfolding twice
inf_twice = refl

no_finite : T (is_finite (inf false)) → ⊥
unfolding is_finite
no_finite h = h

far : (lo top : ℕ) → Reached lo top (inf false) (inf false)
far lo top = record { is = inf_twice; range = λ h. absurd (no_finite h) }

pick_reached : {lo top : ℕ} {x x' y y' : Float} (b : Bool) → Reached lo top x x' → Reached lo top y y' → Reached lo top (pick b x y) (pick b x' y')
pick_reached true f g = f
pick_reached false f g = g

cond_reached : {lo top : ℕ} {x x' y y' : Float} (b : Bool) → Reached lo top x x' → Reached lo top y y' → Reached lo top (cond b x y) (cond b x' y')
cond_reached true f g = f
cond_reached false f g = g

nearer_reached : {lo top : ℕ} (b b' x x' : Float) → Reached lo top b b' → Doubles lo top x x' → Reached lo top (nearer b x) (nearer b' x')
unfolding nearer min_of
nearer_reached {lo} {top} b b' x x' f g =
    subst (λ (c : Bool). Reached lo top (pick (lt f0 x) (cond (lt x b) x b) b) (pick c (cond (lt x' b') x' b') b')) (sym (lt_of_doubles (zero_doubles lo top) g))
    (pick_reached (lt f0 x)
    (subst (λ (c : Bool). Reached lo top (cond (lt x b) x b) (cond c x' b')) (sym (ap (λ (z : Float). lt z b') g.is ∙ ap (λ (z : Float). lt (twice x) z) f.is ∙ lt_twice x b))
    (cond_reached (lt x b) (reached g) f)) f)

-- ---- distances
module _ {i t : ℕ} (lo top : ℕ) (e : i ≡ 52 + lo) (r : lo ≤ 2045) (h : (t + t) * (t + t) + (t + t) * (t + t) ≤ top * top) (d : Limit (t + t)) (l : Limit top) where
  pub distance_doubles : (p p' q q' : Point) → DoublesPoint i t p p' → DoublesPoint i t q q' → Doubles lo top (distance p q) (distance p' q')
  unfolding distance
  distance_doubles p p' q q' f g = hypot_doubles lo top (sub_doubles g.x f.x d) (sub_doubles g.y f.y d) e r h d.room d.room l

  -- of the first n points
  module _ (ps ps' : List Float) (n : ℕ) (P : (s : ℕ) → s < n → DoublesPoint i t (point_at ps s) (point_at ps' s)) where
    nearest_reached : (s : ℕ) → s < n → (j : ℕ) → j ≤ n → Reached lo top (nearest_to ps s j) (nearest_to ps' s j)
    unfolding nearest_to
    nearest_reached s a zero b = far lo top
    nearest_reached s a (suc j) b =
        pick_reached (eqb j s) (nearest_reached s a j (le_of_lt b))
        (nearer_reached (nearest_to ps s j) (nearest_to ps' s j) _ _ (nearest_reached s a j (le_of_lt b)) (distance_doubles (point_at ps s) (point_at ps' s) (point_at ps j) (point_at ps' j) (P s a) (P j b)))

    near_of_doubles : {k u : ℕ} (tier_distance tier_distance' : Float) → Doubles k u tier_distance tier_distance' → (s : ℕ) → s < n → (j : ℕ) → j < n → near ps' tier_distance' s j ≡ near ps tier_distance s j
    unfolding near
    near_of_doubles tier_distance tier_distance' f s a j b = ap (λ (c : Bool). not (eqb j s) && c) (le_of_doubles (distance_doubles (point_at ps s) (point_at ps' s) (point_at ps j) (point_at ps' j) (P s a) (P j b)) f)

    -- how many others are near: the same in both drawings
    pub neighbours_of_doubles : {k u : ℕ} (tier_distance tier_distance' : Float) → Doubles k u tier_distance tier_distance' → (s : ℕ) → s < n → neighbours ps' n tier_distance' s ≡ neighbours ps n tier_distance s
    unfolding neighbours within
    neighbours_of_doubles {k} {u} tier_distance tier_distance' f s a =
        ap (λ (c : Bool). pick c (how_many (near ps' tier_distance' s) n) 0) (lt_of_doubles (zero_doubles k u) f)
        ∙ ap (λ (c : ℕ). pick (lt f0 tier_distance) c 0) (how_many_ext (near ps' tier_distance' s) (near ps tier_distance s) n (near_of_doubles tier_distance tier_distance' f s a))

    table_paired : (a m : ℕ) → a + m ≤ n → Paired (Reached lo top) (table_from (nearest ps n) a m) (table_from (nearest ps' n) a m)
    unfolding table_from nearest
    table_paired a zero h = tt
    table_paired a (suc m) h = (nearest_reached a (first a m h) n (le_refl n), table_paired (suc a) m (next a m h))
      where
        first : (a m : ℕ) → a + suc m ≤ n → a < n
        first a m h = omega arith

        next : (a m : ℕ) → a + suc m ≤ n → suc a + m ≤ n
        next a m h = omega arith

-- ---- the median
finite_step : (lo top : ℕ) (x x' : Float) (l l' : List Float) → Reached lo top x x' → Paired (Doubles lo top) l l' → (b : Bool) → (b ≡ true → Stepped lo top x) → Paired (Doubles lo top) (pick b (x ∷ l) l) (pick b (x' ∷ l') l')
finite_step lo top x x' l l' h k true y = (record { is = h.is; stepped = y refl }, k)
finite_step lo top x x' l l' h k false y = k

finite_paired : (lo top : ℕ) (xs xs' : List Float) → Paired (Reached lo top) xs xs' → Paired (Doubles lo top) (finite_of xs) (finite_of xs')
unfolding finite_of
finite_paired lo top [] [] h = tt
finite_paired lo top [] (x' ∷ xs') h = absurd h
finite_paired lo top (x ∷ xs) [] h = absurd h
finite_paired lo top (x ∷ xs) (x' ∷ xs') h =
    subst (λ (b : Bool). Paired (Doubles lo top) (pick (is_finite x) (x ∷ finite_of xs) (finite_of xs)) (pick b (x' ∷ finite_of xs') (finite_of xs'))) (sym (ap is_finite h.0.is ∙ finite_twice x))
    (finite_step lo top x x' (finite_of xs) (finite_of xs') h.0 (finite_paired lo top xs xs' h.1) (is_finite x) (λ y. h.0.range (subst T (sym y) tt)))

pick_paired : (lo top : ℕ) (b : Bool) (l l' m m' : List Float) → Paired (Doubles lo top) l l' → Paired (Doubles lo top) m m' → Paired (Doubles lo top) (pick b l m) (pick b l' m')
pick_paired lo top true l l' m m' h k = h
pick_paired lo top false l l' m m' h k = k

insert_paired : (lo top : ℕ) → top < 2 ^ 2097 → (x x' : Float) (ys ys' : List Float) → Doubles lo top x x' → Paired (Doubles lo top) ys ys' → Paired (Doubles lo top) (insert_float x ys) (insert_float x' ys')
unfolding insert_float
insert_paired lo top r x x' [] [] f h = (f, tt)
insert_paired lo top r x x' [] (y' ∷ ys') f h = absurd h
insert_paired lo top r x x' (y ∷ ys) [] f h = absurd h
insert_paired lo top r x x' (y ∷ ys) (y' ∷ ys') f h =
    subst (λ (b : Bool). Paired (Doubles lo top) (pick (leb (order_key x) (order_key y)) (x ∷ y ∷ ys) (y ∷ insert_float x ys)) (pick b (x' ∷ y' ∷ ys') (y' ∷ insert_float x' ys'))) (sym (key_of_doubles r r f h.0))
    (pick_paired lo top (leb (order_key x) (order_key y)) (x ∷ y ∷ ys) (x' ∷ y' ∷ ys') (y ∷ insert_float x ys) (y' ∷ insert_float x' ys') (f, h) (h.0, insert_paired lo top r x x' ys ys' f h.1))

sort_paired : (lo top : ℕ) → top < 2 ^ 2097 → (xs xs' : List Float) → Paired (Doubles lo top) xs xs' → Paired (Doubles lo top) (sort_floats xs) (sort_floats xs')
unfolding sort_floats
sort_paired lo top r [] [] h = tt
sort_paired lo top r [] (x' ∷ xs') h = absurd h
sort_paired lo top r (x ∷ xs) [] h = absurd h
sort_paired lo top r (x ∷ xs) (x' ∷ xs') h = insert_paired lo top r x x' (sort_floats xs) (sort_floats xs') h.0 (sort_paired lo top r xs xs' h.1)

paired_length : (lo top : ℕ) (xs xs' : List Float) → Paired (Doubles lo top) xs xs' → length xs' ≡ length xs
paired_length lo top [] [] h = refl
paired_length lo top [] (x' ∷ xs') h = absurd h
paired_length lo top (x ∷ xs) [] h = absurd h
paired_length lo top (x ∷ xs) (x' ∷ xs') h = ap suc (paired_length lo top xs xs' h.1)

paired_at : (lo top : ℕ) (xs xs' : List Float) (d d' : Float) → Paired (Doubles lo top) xs xs' → Doubles lo top d d' → (i : ℕ) → Doubles lo top (get_or xs i d) (get_or xs' i d')
paired_at lo top [] [] d d' h k i = k
paired_at lo top [] (x' ∷ xs') d d' h k i = absurd h
paired_at lo top (x ∷ xs) [] d d' h k i = absurd h
paired_at lo top (x ∷ xs) (x' ∷ xs') d d' h k zero = h.0
paired_at lo top (x ∷ xs) (x' ∷ xs') d d' h k (suc i) = paired_at lo top xs xs' d d' h.1 k i

abbrev pub DoublesMiddle : ℕ → ℕ → Option Float → Option Float → Type 0
DoublesMiddle lo top (Some x) (Some x') = Doubles lo top x x'
DoublesMiddle lo top (Some x) None = ⊥
DoublesMiddle lo top None (Some x') = ⊥
DoublesMiddle lo top None None = Unit

middle_doubles : (lo top : ℕ) (xs xs' : List Float) → Paired (Doubles lo top) xs xs' → DoublesMiddle lo top (middle xs) (middle xs')
unfolding middle
middle_doubles lo top [] [] h = tt
middle_doubles lo top [] (x' ∷ xs') h = absurd h
middle_doubles lo top (x ∷ xs) [] h = absurd h
middle_doubles lo top (x ∷ xs) (x' ∷ xs') h =
    subst (λ (n : ℕ). Doubles lo top (get_or (x ∷ xs) (length (x ∷ xs) / 2) x) (get_or (x' ∷ xs') (n / 2) x')) (sym (paired_length lo top (x ∷ xs) (x' ∷ xs') h))
    (paired_at lo top (x ∷ xs) (x' ∷ xs') x x' h h.0 (length (x ∷ xs) / 2))

pub median_doubles : (lo top : ℕ) → top < 2 ^ 2097 → (xs xs' : List Float) → Paired (Reached lo top) xs xs' → DoublesMiddle lo top (median_of xs) (median_of xs')
unfolding median_of
median_doubles lo top r xs xs' h = middle_doubles lo top (sort_floats (finite_of xs)) (sort_floats (finite_of xs')) (sort_paired lo top r (finite_of xs) (finite_of xs') (finite_paired lo top xs xs' h))

or_doubles : (lo top : ℕ) (m m' : Option Float) → IsSome m → DoublesMiddle lo top m m' → Doubles lo top (unwrap_or m f1) (unwrap_or m' f1)
or_doubles lo top (Some x) (Some x') e h = h
or_doubles lo top (Some x) None e h = absurd h
or_doubles lo top None m' e h = absurd (true≢false (sym e))

-- ---- spacing and unit
pub spacing_doubles : {i t : ℕ} (lo top : ℕ) → i ≡ 52 + lo → lo ≤ 2045 → (t + t) * (t + t) + (t + t) * (t + t) ≤ top * top → Limit (t + t) → Limit top
    → (ps ps' : List Float) (n : ℕ) → ((s : ℕ) → s < n → DoublesPoint i t (point_at ps s) (point_at ps' s)) → IsSome (median_of (table (nearest ps n) n)) → Doubles lo top (spacing_of ps n) (spacing_of ps' n)
unfolding spacing_of
spacing_doubles lo top e r h d l ps ps' n P some = or_doubles lo top _ _ some (median_doubles lo top l.room _ _ (table_paired lo top e r h d l ps ps' n P 0 n (le_of_eq (zero-add n))))

-- fill × spacing / typical
pub unit_doubles : {i j k t u v : ℕ} {sp sp' fill side : Float} (lo₁ top₁ lo top : ℕ) → Stepped i t fill → Doubles j u sp sp' → Stepped k v side → 0 < grains side
    → lo₁ + 1074 ≡ j + i → 52 ≤ lo₁ → u * t ≤ top₁ * 2 ^ 1074 → Limit top₁
    → lo ≤ 2045 → 2 ^ (52 + lo) * v ≤ 2 ^ lo₁ * 2 ^ 1074 → top₁ * 2 ^ 1074 ≤ top * 2 ^ k → Limit top
    → Doubles lo top (unit_for fill sp side) (unit_for fill sp' side)
unfolding unit_for
unit_doubles lo₁ top₁ lo top f g z p a b c d e h k l = div_doubles lo top (mul_doubles_2 lo₁ top₁ f g a b c d) z p e h k l
