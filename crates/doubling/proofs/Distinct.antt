-- Two points at a positive, finite distance: the least positive distances have a median. Assumes nothing.
use Rattle.std.specs.Prelude.{IsSome}
use mathlib.Core.Path.{◌≡◌, refl, sym, subst}
use mathlib.Core.Logic.{◌⊎◌, inl, inr}
use mathlib.Core.Bool.{Bool, true, false, cond}
use mathlib.Core.List.{List, [], ◌∷◌}
use Prim.Native.Nat.{ℕ, zero, suc, ◌+◌, ◌≤◌, ◌<◌, zero-le}
use native.Mathlib.Nat.{le_of_suc-le-suc, not-suc-le-zero, eq-or-lt_of_le}
use native.Mathlib.Omega.{arith}
use lib.Dec.{T, leb, eqb}
use lib.Ieee.{Float, nan, inf, fin, lt, of_bits}
use lib.Ieee.Bits.{is_true}
use borrow.Author.Tests.{ne_eqb}
use Rattle.numbers.specs.Small.{is_finite, min_of}
use Rattle.numbers.specs.Ops.{f0, order_key}
use Rattle.numbers.specs.Order.{pick}
use Rattle.numbers.specs.Table.{table_from, table}
use Rattle.numbers.specs.Median.{finite_of, insert_float, sort_floats, middle, median_of}
use Rattle.plane.specs.Plane.{point_at}
use Rattle.plane.specs.Near.{distance, nearer, nearest_to, nearest}

-- ---- the least positive distance so far: infinite, or finite
abbrev Least : Float → Type 0
Least nan = ⊥
Least (inf true) = ⊥
Least (inf false) = Unit
Least (fin s m e) = Unit

-- nearer than b, which may be infinite, by a finite positive d
nearer_found : (b d : Float) → Least b → T (is_finite d) → lt f0 d ≡ true → T (is_finite (nearer b d))
unfolding nearer min_of is_finite lt of_bits
nearer_found nan d l f h = absurd l
nearer_found (inf true) d l f h = absurd l
nearer_found (inf false) nan l f h = absurd f
nearer_found (inf false) (inf s) l f h = absurd f
nearer_found (inf false) (fin s m e) l f h = subst (λ (t : Bool). T (is_finite (pick t (fin s m e) (inf false)))) (sym h) tt
nearer_found (fin u k g) nan l f h = absurd f
nearer_found (fin u k g) (inf s) l f h = absurd f
nearer_found (fin u k g) (fin s m e) l f h = subst (λ (t : Bool). T (is_finite (pick t (cond (lt (fin s m e) (fin u k g)) (fin s m e) (fin u k g)) (fin u k g)))) (sym h) (either (lt (fin s m e) (fin u k g)))
  where
    either : (t : Bool) → T (is_finite (cond t (fin s m e) (fin u k g)))
    either true = tt
    either false = tt

pick_finite : (t : Bool) (x y : Float) → T (is_finite x) → T (is_finite y) → T (is_finite (pick t x y))
pick_finite true x y h k = h
pick_finite false x y h k = k

cond_finite : (t : Bool) (x y : Float) → T (is_finite x) → T (is_finite y) → T (is_finite (cond t x y))
cond_finite true x y h k = h
cond_finite false x y h k = k

-- a finite least distance stays finite
nearer_kept : (b d : Float) → T (is_finite b) → T (is_finite (nearer b d))
unfolding nearer min_of is_finite lt of_bits
nearer_kept nan d h = absurd h
nearer_kept (inf s) d h = absurd h
nearer_kept (fin u k g) nan h = h
nearer_kept (fin u k g) (inf true) h = h
nearer_kept (fin u k g) (inf false) h = h
nearer_kept (fin u k g) (fin s m e) h = pick_finite (lt f0 (fin s m e)) (cond (lt (fin s m e) (fin u k g)) (fin s m e) (fin u k g)) (fin u k g) (cond_finite (lt (fin s m e) (fin u k g)) (fin s m e) (fin u k g) tt tt) tt

pick_least : (t : Bool) (x y : Float) → Least x → Least y → Least (pick t x y)
pick_least true x y h k = h
pick_least false x y h k = k

cond_least : (t : Bool) (x y : Float) → Least x → Least y → Least (cond t x y)
cond_least true x y h k = h
cond_least false x y h k = k

nearer_least : (b d : Float) → Least b → Least (nearer b d)
unfolding nearer min_of lt of_bits
nearer_least nan d h = absurd h
nearer_least (inf true) d h = absurd h
nearer_least (inf false) nan h = tt
nearer_least (inf false) (inf true) h = tt
nearer_least (inf false) (inf false) h = tt
nearer_least (inf false) (fin s m e) h = pick_least (lt f0 (fin s m e)) (fin s m e) (inf false) tt tt
nearer_least (fin u k g) nan h = tt
nearer_least (fin u k g) (inf true) h = tt
nearer_least (fin u k g) (inf false) h = tt
nearer_least (fin u k g) (fin s m e) h = pick_least (lt f0 (fin s m e)) (cond (lt (fin s m e) (fin u k g)) (fin s m e) (fin u k g)) (fin u k g) (cond_least (lt (fin s m e) (fin u k g)) (fin s m e) (fin u k g) tt tt) tt

module _ (ps : List Float) (i j : ℕ) (apart : j ≡ i → ⊥) (near : T (is_finite (distance (point_at ps i) (point_at ps j)))) (more : lt f0 (distance (point_at ps i) (point_at ps j)) ≡ true) where
  least_to : (m : ℕ) → Least (nearest_to ps i m)
  unfolding nearest_to
  least_to zero = tt
  least_to (suc m) = pick_least (eqb m i) (nearest_to ps i m) (nearer (nearest_to ps i m) (distance (point_at ps i) (point_at ps m))) (least_to m) (nearer_least (nearest_to ps i m) (distance (point_at ps i) (point_at ps m)) (least_to m))

  finite_to : (m : ℕ) → j < m → T (is_finite (nearest_to ps i m))
  unfolding nearest_to
  finite_to zero h = absurd (not-suc-le-zero h)
  finite_to (suc m) h = go (eq-or-lt_of_le (le_of_suc-le-suc h)) (finite_to m)
    where
      go : (j ≡ m) ⊎ (j < m) → (j < m → T (is_finite (nearest_to ps i m))) → T (is_finite (pick (eqb m i) (nearest_to ps i m) (nearer (nearest_to ps i m) (distance (point_at ps i) (point_at ps m)))))
      go (inl e) k =
          subst (λ (n : ℕ). T (is_finite (pick (eqb n i) (nearest_to ps i n) (nearer (nearest_to ps i n) (distance (point_at ps i) (point_at ps n)))))) e
          (subst (λ (t : Bool). T (is_finite (pick t (nearest_to ps i j) (nearer (nearest_to ps i j) (distance (point_at ps i) (point_at ps j)))))) (sym (ne_eqb j i apart))
          (nearer_found (nearest_to ps i j) (distance (point_at ps i) (point_at ps j)) (least_to j) near more))
      go (inr l) k = pick_finite (eqb m i) (nearest_to ps i m) (nearer (nearest_to ps i m) (distance (point_at ps i) (point_at ps m))) (k l) (nearer_kept (nearest_to ps i m) (distance (point_at ps i) (point_at ps m)) (k l))

-- ---- a finite number in a list: its median
abbrev Has : List Float → Type 0
Has [] = ⊥
Has (x ∷ xs) = T (is_finite x) ⊎ Has xs

abbrev Full : List Float → Type 0
Full [] = ⊥
Full (x ∷ xs) = Unit

pick_full : (t : Bool) (l m : List Float) → Full l → Full m → Full (pick t l m)
pick_full true l m h k = h
pick_full false l m h k = k

finite_full : (l : List Float) → Has l → Full (finite_of l)
unfolding finite_of
finite_full [] h = absurd h
finite_full (x ∷ xs) (inl h) = subst (λ (t : Bool). Full (pick t (x ∷ finite_of xs) (finite_of xs))) (sym (is_true (is_finite x) h)) tt
finite_full (x ∷ xs) (inr h) = pick_full (is_finite x) (x ∷ finite_of xs) (finite_of xs) tt (finite_full xs h)

insert_full : (x : Float) (l : List Float) → Full (insert_float x l)
unfolding insert_float
insert_full x [] = tt
insert_full x (y ∷ ys) = pick_full (leb (order_key x) (order_key y)) (x ∷ y ∷ ys) (y ∷ insert_float x ys) tt tt

sort_full : (l : List Float) → Full l → Full (sort_floats l)
unfolding sort_floats
sort_full [] h = absurd h
sort_full (x ∷ xs) h = insert_full x (sort_floats xs)

middle_some : (l : List Float) → Full l → IsSome (middle l)
unfolding middle
middle_some [] h = absurd h
middle_some (x ∷ xs) h = refl

table_has : (f : ℕ → Float) (i : ℕ) → T (is_finite (f i)) → (a n : ℕ) → a ≤ i → i < a + n → Has (table_from f a n)
unfolding table_from
table_has f i h a zero k l = absurd (never a i k l)
  where
    never : (a i : ℕ) → a ≤ i → i < a + 0 → ⊥
    never a i k l = omega arith
table_has f i h a (suc n) k l = go (eq-or-lt_of_le k) (λ z. table_has f i h (suc a) n z (later a n l))
  where
    later : (a n : ℕ) → i < a + suc n → i < suc a + n
    later a n l = omega arith

    go : (a ≡ i) ⊎ (a < i) → (a < i → Has (table_from f (suc a) n)) → T (is_finite (f a)) ⊎ Has (table_from f (suc a) n)
    go (inl e) r = inl (subst (λ (z : ℕ). T (is_finite (f z))) (sym e) h)
    go (inr z) r = inr (r z)

pub median_some : (ps : List Float) (n i j : ℕ) → i < n → j < n → (j ≡ i → ⊥) → T (is_finite (distance (point_at ps i) (point_at ps j))) → lt f0 (distance (point_at ps i) (point_at ps j)) ≡ true → IsSome (median_of (table (nearest ps n) n))
unfolding median_of nearest
median_some ps n i j a b c h k =
    middle_some (sort_floats (finite_of (table (nearest ps n) n)))
    (sort_full (finite_of (table (nearest ps n) n)) (finite_full (table (nearest ps n) n) (table_has (nearest ps n) i (finite_to ps i j c h k n b) 0 n zero-le (plus i n a))))
  where
    plus : (i n : ℕ) → i < n → i < 0 + n
    plus i n h = omega arith
