-- The seeds of two networks, the second one's coordinates doubled, and the order of the rows by them. Assumes nothing.
use mathlib.Core.Path.{◌≡◌, refl, sym, ap, ◌∙◌, subst}
use mathlib.Core.Bool.{Bool, true, false, ◌&&◌}
use mathlib.Core.List.{List, [], ◌∷◌}
use Prim.Native.Nat.{ℕ, zero, suc, ◌+◌, ◌*◌, ◌^◌, ◌≤◌, ◌<◌, zero-le}
use native.Mathlib.Nat.{le_refl, le_trans, lt_of_not-le, mul-le-mul_right, mul-pos, zero-lt-suc}
use native.Mathlib.Omega.{arith}
use native.Mathlib.Decide.{dec_le}
use lib.Dec.{ltb, eqb, lit≤, eqb-suc-suc, eqb-zero-suc, eqb-suc-zero, leb-suc-suc}
use lib.ListN.{length, get_or, get_or-eq_default}
use lib.Pow.{pow_pos}
use lib.Ieee.{Float, nan}
use borrow.Author.Tests.{lt-ltb, le-ltb}
use Rattle.numbers.specs.Small.{is_finite}
use Rattle.numbers.specs.Hypot.{grains}
use Rattle.numbers.specs.Ops.{num, order_key, ◌⊘◌}
use Rattle.numbers.specs.Double.{twice, Doublable, Stepped, Limit, Doubles}
use Rattle.numbers.proofs.float.DoubleLaws.{finite_twice}
use Rattle.numbers.proofs.float.DoubleKeys.{key_ltb_twice, key_eqb_twice}
use Rattle.numbers.proofs.float.DoubleRange.{widen_to, stepped_doublable}
use Rattle.numbers.proofs.float.DoublePairs.{widen_doubles, add_doubles, div_doubles, zero_doubles, num_stepped, num_grains}
use Rattle.numbers.specs.Order.{pick, count, up_from, before}
use Rattle.numbers.specs.Table.{table_from, table}
use Rattle.numbers.proofs.order.Tables.{get_d_table, length_table}
use Rattle.plane.specs.declared.geometry.Point.{Point}
use Rattle.plane.specs.Plane.{point, origin}
use Rattle.network.specs.declared.words.Kind.{Kind}
use Rattle.network.specs.declared.words.Kind.TheVariants.{Undrawn, Open, Internal, Line}
use Rattle.network.specs.Words.{station_count, station_of, buses_in, kind_at}
use Rattle.network.specs.Seed.{point_of, bus_point, plus, sum_to, mean, seed_of, seeds, place_at}
use Rattle.stations.specs.Row.{has_row, row_key, row, from_row, to_row, from_rows, to_rows}
use Rattle.stations.specs.Doubles.{DoublesPoint}
use Rattle.doubling.specs.Twice.{DoubledMap}

-- ---- the points of the buses
-- where a bus has two finite coordinates, both are in range
abbrev pub Mapped : ℕ → ℕ → List Float → Type 0
Mapped lo top xy = (i : ℕ) → is_finite (get_or xy (2 * i) nan) ≡ true → is_finite (get_or xy (2 * i + 1) nan) ≡ true → Stepped lo top (get_or xy (2 * i) nan) × Stepped lo top (get_or xy (2 * i + 1) nan)

origin_doubles : (lo top : ℕ) → DoublesPoint lo top origin origin
origin_doubles lo top = record { x = zero_doubles lo top; y = zero_doubles lo top }

-- both coordinates finite: doubled; else not both finite in the other list
pub bus_doubles : {lo top : ℕ} (xy xy' : List Float) → DoubledMap xy xy' → Mapped lo top xy → (i : ℕ) → DoublesPoint lo top (bus_point xy i) (bus_point xy' i)
unfolding bus_point point_of
bus_doubles {lo} {top} xy xy' D m i = go (is_finite a) (is_finite b) refl refl
  where
    a : Float
    a = get_or xy (2 * i) nan

    b : Float
    b = get_or xy (2 * i + 1) nan

    a' : Float
    a' = get_or xy' (2 * i) nan

    b' : Float
    b' = get_or xy' (2 * i + 1) nan

    none : is_finite a && is_finite b ≡ false → DoublesPoint lo top (pick (is_finite a && is_finite b) (point a b) origin) (pick (is_finite a' && is_finite b') (point a' b') origin)
    none e =
        subst (λ (t : Bool). DoublesPoint lo top (pick t (point a b) origin) (pick (is_finite a' && is_finite b') (point a' b') origin)) (sym e)
        (subst (λ (t : Bool). DoublesPoint lo top origin (pick t (point a' b') origin)) (sym ((D i).absent e)) (origin_doubles lo top))

    go : (p q : Bool) → is_finite a ≡ p → is_finite b ≡ q → DoublesPoint lo top (pick (is_finite a && is_finite b) (point a b) origin) (pick (is_finite a' && is_finite b') (point a' b') origin)
    go true true e f =
        let w = m i e f in
        subst (λ (t : Bool). DoublesPoint lo top (pick t (point a b) origin) (pick (is_finite a' && is_finite b') (point a' b') origin)) (sym (ap (λ (t : Bool). t && is_finite b) e ∙ f))
        (subst (λ (t : Bool). DoublesPoint lo top (point a b) (pick t (point a' b') origin))
        (sym (ap (λ (t : Bool). t && is_finite b') (ap is_finite ((D i).first e f) ∙ finite_twice a ∙ e) ∙ ap is_finite ((D i).second e f) ∙ finite_twice b ∙ f))
        (record { x = record { is = (D i).first e f; stepped = w.0 }; y = record { is = (D i).second e f; stepped = w.1 } }))
    go false q e f = none (ap (λ (t : Bool). t && is_finite b) e)
    go true false e f = none (ap (λ (t : Bool). t && is_finite b) e ∙ f)

-- ---- sums of up to n points, each of up to `top` grains
top_doubles : {lo t : ℕ} {p p' : Point} (u : ℕ) → t ≤ u → DoublesPoint lo t p p' → DoublesPoint lo u p p'
top_doubles {lo} u h p = record { x = widen_doubles lo u (le_refl lo) h p.x; y = widen_doubles lo u (le_refl lo) h p.y }

pick_point : {lo top : ℕ} {p p' q q' : Point} (b : Bool) → DoublesPoint lo top p p' → DoublesPoint lo top q q' → DoublesPoint lo top (pick b p q) (pick b p' q')
pick_point true f g = f
pick_point false f g = g

module _ {lo top : ℕ} (sub : List ℕ) (xy xy' : List Float) (B : (i : ℕ) → DoublesPoint lo top (bus_point xy i) (bus_point xy' i)) (n : ℕ) (l : (i : ℕ) → i ≤ n → Limit (i * top + top)) where
  sum_doubles : (s i : ℕ) → i ≤ suc n → DoublesPoint lo (i * top) (sum_to sub xy s i) (sum_to sub xy' s i)
  unfolding sum_to
  sum_doubles s zero h = origin_doubles lo (0 * top)
  sum_doubles s (suc i) h =
      let p = sum_doubles s i (before-le i h) in
      let b = B i in
      let k = l i (within i h) in
      let q : DoublesPoint lo (i * top + top) (plus (sum_to sub xy s i) (bus_point xy i)) (plus (sum_to sub xy' s i) (bus_point xy' i)) = record { x = add_doubles p.x b.x k; y = add_doubles p.y b.y k } in
      pick_point (eqb (station_of sub i) s) (top_doubles (suc i * top) (more i) q) (top_doubles (suc i * top) (less i) p)
    where
      before-le : (i : ℕ) → suc i ≤ suc n → i ≤ suc n
      before-le i h = omega arith

      within : (i : ℕ) → suc i ≤ suc n → i ≤ n
      within i h = omega arith

      more : (i : ℕ) → i * top + top ≤ suc i * top
      more i = omega arith

      less : (i : ℕ) → i * top ≤ suc i * top
      less i = omega arith

-- ---- a whole number above 0 is above 0
num_positive : (c : ℕ) → suc c ≤ 2 ^ 53 → 0 < grains (num (suc c))
num_positive c h = subst (λ (z : ℕ). 0 < z) (sym (num_grains (suc c) h)) (mul-pos (zero-lt-suc c) (pow_pos 1074))

-- ---- their mean: 458 is 522 - 12 - 52, for coordinates that are multiples of 2 ^ 522 grains, and up to 2 ^ 12 buses
mean_doubles : {t : ℕ} (c : ℕ) (p p' : Point) → c ≤ 2 ^ 12 → Limit t → DoublesPoint 522 t p p' → DoublesPoint 458 t (mean c p) (mean c p')
unfolding mean
mean_doubles {t} zero p p' h l q = record { x = widen_doubles 458 t (lit≤ tt) (le_refl t) q.x; y = widen_doubles 458 t (lit≤ tt) (le_refl t) q.y }
mean_doubles {t} (suc c) p p' h l q = record { x = divided q.x; y = divided q.y }
  where
    divisor : Stepped 1074 (2 ^ 12 * 2 ^ 1074) (num (suc c))
    divisor = widen_to 1074 (2 ^ 12 * 2 ^ 1074) (le_refl 1074) (mul-le-mul_right (2 ^ 1074) h) (num_stepped (suc c) (le_trans h (lit≤ tt)))

    some : 0 < grains (num (suc c))
    some = num_positive c (le_trans h (lit≤ tt))

    divided : {x x' : Float} → Doubles 522 t x x' → Doubles 458 t (x ⊘ num (suc c)) (x' ⊘ num (suc c))
    divided f = div_doubles 458 t f divisor some (lit≤ tt) (lit≤ tt) (le_refl (t * 2 ^ 1074)) l

-- ---- the seeds
seed_doubles : {top : ℕ} (sub : List ℕ) (xy xy' : List Float) → ((i : ℕ) → DoublesPoint 522 top (bus_point xy i) (bus_point xy' i)) → (n : ℕ) → length sub ≤ suc n → ((i : ℕ) → i ≤ n → Limit (i * top + top)) → Limit (suc n * top) → ((s : ℕ) → buses_in sub s ≤ 2 ^ 12)
    → (s : ℕ) → DoublesPoint 458 (suc n * top) (seed_of sub xy s) (seed_of sub xy' s)
unfolding seed_of
seed_doubles {top} sub xy xy' B n h l k b s =
    mean_doubles (buses_in sub s) (sum_to sub xy s (length sub)) (sum_to sub xy' s (length sub)) (b s) k
    (top_doubles (suc n * top) (mul-le-mul_right top h) (sum_doubles sub xy xy' B n l s (length sub) h))

table_point : {lo top : ℕ} (f f' : ℕ → Point) (n : ℕ) → ((s : ℕ) → DoublesPoint lo top (f s) (f' s)) → (s : ℕ) → DoublesPoint lo top (place_at (table f n) s) (place_at (table f' n) s)
table_point {lo} {top} f f' n P s = go (dec_le n s)
  where
    past : (g : ℕ → Point) → n ≤ s → get_or (table g n) s origin ≡ origin
    past g h = get_or-eq_default (table g n) origin (subst (λ (z : ℕ). z ≤ s) (sym (length_table g n)) h)

    go : Dec (n ≤ s) → DoublesPoint lo top (place_at (table f n) s) (place_at (table f' n) s)
    go (yes h) = subst (λ (p : Point). DoublesPoint lo top p (place_at (table f' n) s)) (sym (past f h)) (subst (λ (p : Point). DoublesPoint lo top origin p) (sym (past f' h)) (origin_doubles lo top))
    go (no k) =
        let h : s < n = lt_of_not-le k in
        subst (λ (p : Point). DoublesPoint lo top p (place_at (table f' n) s)) (sym (get_d_table f n s origin h)) (subst (λ (p : Point). DoublesPoint lo top (f s) p) (sym (get_d_table f' n s origin h)) (P s))

pub seeds_doubles : {top : ℕ} (sub : List ℕ) (xy xy' : List Float) → ((i : ℕ) → DoublesPoint 522 top (bus_point xy i) (bus_point xy' i)) → (n : ℕ) → length sub ≤ suc n → ((i : ℕ) → i ≤ n → Limit (i * top + top)) → Limit (suc n * top) → ((s : ℕ) → buses_in sub s ≤ 2 ^ 12)
    → (s : ℕ) → DoublesPoint 458 (suc n * top) (place_at (seeds sub xy) s) (place_at (seeds sub xy') s)
unfolding seeds
seeds_doubles sub xy xy' B n h l k b = table_point (seed_of sub xy) (seed_of sub xy') (station_count sub) (seed_doubles sub xy xy' B n h l k b)

-- two tables of the same things
pub table_same : {A : Type 0} (f g : ℕ → A) → ((i : ℕ) → f i ≡ g i) → (a n : ℕ) → table_from f a n ≡ table_from g a n
unfolding table_from
table_same f g h a zero = refl
table_same f g h a (suc n) = ap (λ (x : _). x ∷ table_from f (suc a) n) (h a) ∙ ap (λ (l : List _). g a ∷ l) (table_same f g h (suc a) n)

-- ---- rows
module _ {lo top : ℕ} (r : top < 2 ^ 2097) (sub : List ℕ) (qs qs' : List Point) (P : (s : ℕ) → DoublesPoint lo top (place_at qs s) (place_at qs' s)) where
  key_is : (s : ℕ) → order_key (place_at qs' s).y ≡ order_key (twice (place_at qs s).y)
  key_is s = ap order_key (P s).y.is

  doublable : (s : ℕ) → Doublable (place_at qs s).y
  doublable s = stepped_doublable (P s).y.stepped r

  y_ltb : (a b : ℕ) → ltb (order_key (place_at qs' a).y) (order_key (place_at qs' b).y) ≡ ltb (order_key (place_at qs a).y) (order_key (place_at qs b).y)
  y_ltb a b = ap (λ (k : ℕ). ltb k (order_key (place_at qs' b).y)) (key_is a) ∙ ap (λ (k : ℕ). ltb (order_key (twice (place_at qs a).y)) k) (key_is b) ∙ key_ltb_twice (place_at qs a).y (place_at qs b).y (doublable a) (doublable b)

  y_eqb : (a b : ℕ) → eqb (order_key (place_at qs' a).y) (order_key (place_at qs' b).y) ≡ eqb (order_key (place_at qs a).y) (order_key (place_at qs b).y)
  y_eqb a b = ap (λ (k : ℕ). eqb k (order_key (place_at qs' b).y)) (key_is a) ∙ ap (λ (k : ℕ). eqb (order_key (twice (place_at qs a).y)) k) (key_is b) ∙ key_eqb_twice (place_at qs a).y (place_at qs b).y (doublable a) (doublable b)

  -- a row's key: 0, or more than 0 by the seed of a station
  data Keyed : ℕ → ℕ → Type 0 where
    inside : Keyed 0 0
    towards : (s : ℕ) → Keyed (suc (order_key (place_at qs s).y)) (suc (order_key (place_at qs' s).y))

  keyed : (s : ℕ) (k : Kind) → Keyed (row_key sub qs s k) (row_key sub qs' s k)
  unfolding row_key
  keyed s Undrawn = inside
  keyed s (Open a b) = inside
  keyed s (Internal a b) = inside
  keyed s (Line a b) = towards (station_of sub (pick (eqb (station_of sub a) s) b a))

  keyed_ltb : (a a' b b' : ℕ) → Keyed a a' → Keyed b b' → ltb a' b' ≡ ltb a b
  keyed_ltb a a' b b' inside inside = refl
  keyed_ltb a a' b b' inside (towards t) = lt-ltb 0 (suc (order_key (place_at qs' t).y)) (zero-lt-suc (order_key (place_at qs' t).y)) ∙ sym (lt-ltb 0 (suc (order_key (place_at qs t).y)) (zero-lt-suc (order_key (place_at qs t).y)))
  keyed_ltb a a' b b' (towards s) inside = le-ltb (suc (order_key (place_at qs' s).y)) 0 zero-le ∙ sym (le-ltb (suc (order_key (place_at qs s).y)) 0 zero-le)
  keyed_ltb a a' b b' (towards s) (towards t) = leb-suc-suc (suc (order_key (place_at qs' s).y)) (order_key (place_at qs' t).y) ∙ y_ltb s t ∙ sym (leb-suc-suc (suc (order_key (place_at qs s).y)) (order_key (place_at qs t).y))

  keyed_eqb : (a a' b b' : ℕ) → Keyed a a' → Keyed b b' → eqb a' b' ≡ eqb a b
  keyed_eqb a a' b b' inside inside = refl
  keyed_eqb a a' b b' inside (towards t) = eqb-zero-suc (order_key (place_at qs' t).y) ∙ sym (eqb-zero-suc (order_key (place_at qs t).y))
  keyed_eqb a a' b b' (towards s) inside = eqb-suc-zero (order_key (place_at qs' s).y) ∙ sym (eqb-suc-zero (order_key (place_at qs s).y))
  keyed_eqb a a' b b' (towards s) (towards t) = eqb-suc-suc (order_key (place_at qs' s).y) (order_key (place_at qs' t).y) ∙ y_eqb s t ∙ sym (eqb-suc-suc (order_key (place_at qs s).y) (order_key (place_at qs t).y))

  count_same : (p q : ℕ → Bool) → ((n : ℕ) → q n ≡ p n) → (ns : List ℕ) → count q ns ≡ count p ns
  unfolding count
  count_same p q h [] = refl
  count_same p q h (n ∷ ns) = ap (λ (c : ℕ). pick (q n) (suc c) c) (count_same p q h ns) ∙ ap (λ (b : Bool). pick b (suc (count p ns)) (count p ns)) (h n)

  row_of_doubles : (ks : List Kind) (s e : ℕ) → row sub qs' ks s e ≡ row sub qs ks s e
  unfolding row
  row_of_doubles ks s e = count_same (test qs) (test qs') same (up_from 0 (length ks))
    where
      test : List Point → ℕ → Bool
      test l i = pick (has_row sub s (kind_at ks i)) (before (λ j. row_key sub l s (kind_at ks j)) ltb i e) false

      same : (i : ℕ) → test qs' i ≡ test qs i
      same i =
          let a = keyed_ltb (row_key sub qs s (kind_at ks i)) (row_key sub qs' s (kind_at ks i)) (row_key sub qs s (kind_at ks e)) (row_key sub qs' s (kind_at ks e)) (keyed s (kind_at ks i)) (keyed s (kind_at ks e)) in
          let b = keyed_eqb (row_key sub qs s (kind_at ks i)) (row_key sub qs' s (kind_at ks i)) (row_key sub qs s (kind_at ks e)) (row_key sub qs' s (kind_at ks e)) (keyed s (kind_at ks i)) (keyed s (kind_at ks e)) in
          ap (λ (z : Bool). pick (has_row sub s (kind_at ks i)) (pick z true (pick (eqb (row_key sub qs' s (kind_at ks i)) (row_key sub qs' s (kind_at ks e))) (ltb i e) false)) false) a
          ∙ ap (λ (z : Bool). pick (has_row sub s (kind_at ks i)) (pick (ltb (row_key sub qs s (kind_at ks i)) (row_key sub qs s (kind_at ks e))) true (pick z (ltb i e) false)) false) b

  from_row_lem : (ks : List Kind) (e : ℕ) (k : Kind) → from_row sub qs' ks e k ≡ from_row sub qs ks e k
  unfolding from_row
  from_row_lem ks e Undrawn = refl
  from_row_lem ks e (Open a b) = refl
  from_row_lem ks e (Internal a b) = row_of_doubles ks (station_of sub a) e
  from_row_lem ks e (Line a b) = row_of_doubles ks (station_of sub a) e

  to_row_lem : (ks : List Kind) (e : ℕ) (k : Kind) → to_row sub qs' ks e k ≡ to_row sub qs ks e k
  unfolding to_row
  to_row_lem ks e Undrawn = refl
  to_row_lem ks e (Open a b) = refl
  to_row_lem ks e (Internal a b) = row_of_doubles ks (station_of sub b) e
  to_row_lem ks e (Line a b) = row_of_doubles ks (station_of sub b) e

  pub from_rows_lem : (ks : List Kind) → from_rows sub qs' ks ≡ from_rows sub qs ks
  unfolding from_rows
  from_rows_lem ks = table_same (λ e. from_row sub qs' ks e (kind_at ks e)) (λ e. from_row sub qs ks e (kind_at ks e)) (λ e. from_row_lem ks e (kind_at ks e)) 0 (length ks)

  pub to_rows_lem : (ks : List Kind) → to_rows sub qs' ks ≡ to_rows sub qs ks
  unfolding to_rows
  to_rows_lem ks = table_same (λ e. to_row sub qs' ks e (kind_at ks e)) (λ e. to_row sub qs ks e (kind_at ks e)) (λ e. to_row_lem ks e (kind_at ks e)) 0 (length ks)
