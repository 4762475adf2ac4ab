-- The table's rule: strictly rising by a² + b², a, b, each pair within 20, every one there, by one test each over the whole table. Assumes nothing.
--     table_offsets                        its pairs within a search, in their order, are its offsets
--     table_whole                          all of them are the offsets of search 20
--     table_complete                       what this says of its entries, in words (`Complete`)
use mathlib.Core.Path.{◌≡◌, refl, sym, ap, subst, ◌∙◌}
use mathlib.Core.Logic.{◌⊎◌, inl, inr, ⊎_elim}
use mathlib.Core.Bool.{Bool, true, false, ◌&&◌, ◌||◌}
use mathlib.Core.List.{List, [], ◌∷◌, map}
use Prim.Native.Nat.{ℕ, zero, suc, ◌+◌, ◌-◌, ◌*◌, ◌/◌, ◌%◌, ◌≤◌, ◌<◌}
use native.Mathlib.Omega.{arith}
use native.Mathlib.Nat.{le_of_suc-le-suc, not-suc-le-zero, eq-or-lt_of_le, mod-lt}
use lib.Dec.{T, eqb, ltb, leb, ltb→lt, eqb→eq, leb→le, le→leb}
use lib.IntN.{ℤ, nat_abs}
use lib.Ieee.{minus}
use lib.ListN.{length, get_or}
use Rattle.numbers.specs.Order.{pick, insert_by, sort_by, up_from, keep}
use Rattle.numbers.proofs.order.Laws.{All, all_map, all_sort, all_keep}
use Rattle.numbers.proofs.order.Merging.{le_or_lt}
use Rattle.offsets.specs.declared.offset.Offset.{Offset}
use Rattle.offsets.specs.Offset.{offset_number, offset_of, grid_number, offset_grid, offsets}
use Rattle.offsets.proofs.Grids.{minus_high, minus_low}
use Rattle.offsets.specs.Complete.{Complete}
use Rattle.offsets.proofs.OffsetLaw.{pair, stands, number_in, grid_has, numbers_rise, offsets_complete}
use Rattle.offset_table.specs.Table.{codes, table_pairs, inside, skipped}
use Rattle.offset_table.specs.Tests.{rising, formed, has, has_row, has_rows}

-- ---- lists of numbers

-- c stands in l
abbrev pub In : ℕ → List ℕ → Type 0
In c [] = ⊥
In c (x ∷ l) = (c ≡ x) ⊎ In c l

-- each is below all after it
abbrev pub Up : List ℕ → Type 0
Up [] = Unit {0}
Up (x ∷ l) = All (λ y. x < y) l × Up l

in_all : (P : ℕ → Type 0) (l : List ℕ) (c : ℕ) → In c l → All P l → P c
in_all P [] c i a = absurd i
in_all P (x ∷ l) c (inl e) a = subst P (sym e) a.0
in_all P (x ∷ l) c (inr i) a = in_all P l c i a.1

all_of : (P : ℕ → Type 0) (l : List ℕ) → ((j : ℕ) → j < length l → P (get_or l j 0)) → All P l
all_of P [] f = tt
all_of P (x ∷ l) f = (f 0 (omega arith), all_of P l (λ j h. f (suc j) (omega (arith, h))))

up_of : (l : List ℕ) → ((i j : ℕ) → i < j → j < length l → get_or l i 0 < get_or l j 0) → Up l
up_of [] f = tt
up_of (x ∷ l) f = (
  all_of (λ y. x < y) l (λ j h. f 0 (suc j) (omega arith) (omega (arith, h))),
  up_of l (λ i j h k. f (suc i) (suc j) (omega (arith, h)) (omega (arith, k))),
)

heads : (x y : ℕ) (l m : List ℕ) → All (λ z. x < z) l → All (λ z. y < z) m → (x ≡ y) ⊎ In x m → (y ≡ x) ⊎ In y l → x ≡ y
heads x y l m a b (inl e) k = e
heads x y l m a b (inr i) (inl e) = sym e
heads x y l m a b (inr i) (inr k) =
    let g : y < x = in_all (λ z. y < z) m x i b in
    let h : x < y = in_all (λ z. x < z) l y k a in
    absurd (omega arith)

past : (x c : ℕ) (l m : List ℕ) → All (λ z. x < z) l → In c l → (c ≡ x) ⊎ In c m → In c m
past x c l m a i (inl e) = let h : x < c = in_all (λ z. x < z) l c i a in absurd (omega arith)
past x c l m a i (inr k) = k

-- two rising lists of the same numbers are one
up_same : (l m : List ℕ) → Up l → Up m → ((c : ℕ) → In c l → In c m) → ((c : ℕ) → In c m → In c l) → l ≡ m
up_same [] [] u v f g = refl
up_same [] (y ∷ m) u v f g = absurd (g y (inl refl))
up_same (x ∷ l) [] u v f g = absurd (f x (inl refl))
up_same (x ∷ l) (y ∷ m) u v f g =
    let e : x ≡ y = heads x y l m u.0 v.0 (f x (inl refl)) (g y (inl refl)) in
    ap (λ (h : ℕ). h ∷ l) e
    ∙ ap (λ (t : List ℕ). y ∷ t)
    (up_same l m u.1 v.1
    (λ c i. past y c l m (subst (λ (h : ℕ). All (λ z. h < z) l) e u.0) i (f c (inr i)))
    (λ c i. past x c m l (subst (λ (h : ℕ). All (λ z. h < z) m) (sym e) v.0) i (g c (inr i))))

-- ---- those that pass a test
module _ (p : ℕ → Bool) where
  in_keep : (c : ℕ) (l : List ℕ) → In c (keep p l) → In c l × (p c ≡ true)
  unfolding keep
  in_keep c [] i = absurd i
  in_keep c (x ∷ l) i = go (p x) refl i (in_keep c l)
    where
      go : (b : Bool) → p x ≡ b → In c (pick b (x ∷ keep p l) (keep p l)) → (In c (keep p l) → In c l × (p c ≡ true)) → In c (x ∷ l) × (p c ≡ true)
      go true e (inl d) r = (inl d, ap p d ∙ e)
      go true e (inr k) r = (inr (r k).0, (r k).1)
      go false e k r = (inr (r k).0, (r k).1)

  keep_in : (c : ℕ) (l : List ℕ) → p c ≡ true → In c l → In c (keep p l)
  unfolding keep
  keep_in c [] t i = absurd i
  keep_in c (x ∷ l) t i = go (p x) refl i (keep_in c l t)
    where
      go : (b : Bool) → p x ≡ b → (c ≡ x) ⊎ In c l → (In c l → In c (keep p l)) → In c (pick b (x ∷ keep p l) (keep p l))
      go true e (inl d) r = inl d
      go true e (inr k) r = inr (r k)
      go false e (inl d) r = let z : true ≡ false = sym t ∙ ap p d ∙ e in absurd (subst T z tt)
      go false e (inr k) r = r k

  up_keep : (l : List ℕ) → Up l → Up (keep p l)
  unfolding keep
  up_keep [] u = tt
  up_keep (x ∷ l) u = go (p x) (all_keep (λ y. x < y) p l u.0) (up_keep l u.1)
    where
      go : (b : Bool) → All (λ y. x < y) (keep p l) → Up (keep p l) → Up (pick b (x ∷ keep p l) (keep p l))
      go true a r = (a, r)
      go false a r = r

-- ---- a sorted list has the same numbers
insert_in : (key : ℕ → ℕ) (c x : ℕ) (l : List ℕ) → (c ≡ x) ⊎ In c l → In c (insert_by key x l)
unfolding insert_by
insert_in key c x [] i = i
insert_in key c x (y ∷ l) i = go (leb (key x) (key y)) i (insert_in key c x l)
  where
    go : (b : Bool) → (c ≡ x) ⊎ In c (y ∷ l) → ((c ≡ x) ⊎ In c l → In c (insert_by key x l)) → In c (pick b (x ∷ y ∷ l) (y ∷ insert_by key x l))
    go true k r = k
    go false (inl e) r = inr (r (inl e))
    go false (inr (inl e)) r = inl e
    go false (inr (inr k)) r = inr (r (inr k))

sort_in : (key : ℕ → ℕ) (c : ℕ) (l : List ℕ) → In c l → In c (sort_by key l)
unfolding sort_by
sort_in key c [] i = absurd i
sort_in key c (x ∷ l) (inl e) = insert_in key c x (sort_by key l) (inl e)
sort_in key c (x ∷ l) (inr i) = insert_in key c x (sort_by key l) (inr (sort_in key c l i))

all_in : (l : List ℕ) → All (λ x. In x l) l
all_in [] = tt
all_in (x ∷ l) = (inl refl, all_map (λ y. In y l) (λ y. In y (x ∷ l)) (λ y i. inr i) l (all_in l))

in_sort : (key : ℕ → ℕ) (c : ℕ) (l : List ℕ) → In c (sort_by key l) → In c l
in_sort key c l i = in_all (λ x. In x l) (sort_by key l) c i (all_sort key (λ x. In x l) l (all_in l))

-- ---- the numbers of a function's values
in_map : (f : ℕ → ℕ) (c : ℕ) (l : List ℕ) → In c (map f l) → (i : ℕ) × In i l × (c ≡ f i)
in_map f c [] i = absurd i
in_map f c (x ∷ l) (inl e) = (x, inl refl, e)
in_map f c (x ∷ l) (inr i) = let r = in_map f c l i in (r.0, inr r.1, r.2)

map_in : (f : ℕ → ℕ) (i : ℕ) (l : List ℕ) → In i l → In (f i) (map f l)
map_in f i [] k = absurd k
map_in f i (x ∷ l) (inl e) = inl (ap f e)
map_in f i (x ∷ l) (inr k) = inr (map_in f i l k)

in_up : (i a n : ℕ) → In i (up_from a n) → i < a + n
unfolding up_from
in_up i a zero k = absurd k
in_up i a (suc n) (inl e) = omega arith
in_up i a (suc n) (inr k) = let h : i < suc a + n = in_up i (suc a) n k in omega arith

up_in : (i a n : ℕ) → a ≤ i → i < a + n → In i (up_from a n)
unfolding up_from
up_in i a zero h k = absurd (omega arith)
up_in i a (suc n) h k = ⊎_elim (λ (e : a ≡ i). inl (sym e)) (λ (l : a < i). inr (up_in i (suc a) n l (omega arith))) (eq-or-lt_of_le h)

below_in : (i n : ℕ) → In i (up_from 0 n) → i < n
below_in i n k = let h : i < 0 + n = in_up i 0 n k in omega arith

in_below : (i n : ℕ) → i < n → In i (up_from 0 n)
in_below i n h = up_in i 0 n (omega arith) (omega arith)

-- ---- the tests over the whole table, and what they say at each entry
left : (a b : Bool) → T (a && b) → T a
left true b t = tt
left false b t = absurd t

right : (a b : Bool) → T (a && b) → T b
right true b t = t
right false b t = absurd t

is_rising : T (rising codes)
unfolding codes rising
is_rising = tt

is_formed : T (formed codes)
unfolding codes formed offset_number
is_formed = tt

is_complete : T (has_rows codes 41 41)
unfolding codes has_rows has_row has offset_number
is_complete = tt

rising_up : (l : List ℕ) → T (rising l) → Up l
unfolding rising
rising_up [] t = tt
rising_up (x ∷ []) t = (tt, tt)
rising_up (x ∷ (y ∷ l)) t =
    let h : x < y = ltb→lt x y (left (ltb x y) (rising (y ∷ l)) t) in
    let r = rising_up (y ∷ l) (right (ltb x y) (rising (y ∷ l)) t) in
    ((h, all_map (λ z. y < z) (λ z. x < z) (λ z k. omega (arith, h, k)) l r.0), r)

formed_all : (l : List ℕ) → T (formed l) → All (λ x. x ≡ offset_number (x / 41 % 41) (x % 41)) l
unfolding formed
formed_all [] t = tt
formed_all (x ∷ l) t = (
  eqb→eq x (offset_number (x / 41 % 41) (x % 41)) (left (eqb x (offset_number (x / 41 % 41) (x % 41))) (formed l) t),
  formed_all l (right (eqb x (offset_number (x / 41 % 41) (x % 41))) (formed l) t),
)

has_in : (c : ℕ) (l : List ℕ) → T (has c l) → In c l
unfolding has
has_in c [] t = absurd t
has_in c (x ∷ l) t = go (eqb c x) refl t (has_in c l)
  where
    go : (b : Bool) → eqb c x ≡ b → T (b || has c l) → (T (has c l) → In c l) → In c (x ∷ l)
    go true e s r = inl (eqb→eq c x (subst T (sym e) tt))
    go false e s r = inr (r s)

in_row : (l : List ℕ) (u n : ℕ) → T (has_row l u n) → (v : ℕ) → v < n → T (has (offset_number u v) l)
unfolding has_row
in_row l u zero t v h = absurd (not-suc-le-zero h)
in_row l u (suc n) t v h = ⊎_elim
    (λ (e : v ≡ n). subst (λ (w : ℕ). T (has (offset_number u w) l)) (sym e) (left (has (offset_number u n) l) (has_row l u n) t))
    (λ (g : v < n). in_row l u n (right (has (offset_number u n) l) (has_row l u n) t) v g)
    (eq-or-lt_of_le (le_of_suc-le-suc h))

in_rows : (l : List ℕ) (n m : ℕ) → T (has_rows l n m) → (u : ℕ) → u < m → T (has_row l u n)
unfolding has_rows
in_rows l n zero t u h = absurd (not-suc-le-zero h)
in_rows l n (suc m) t u h = ⊎_elim
    (λ (e : u ≡ m). subst (λ (w : ℕ). T (has_row l w n)) (sym e) (left (has_row l m n) (has_rows l n m) t))
    (λ (g : u < m). in_rows l n m (right (has_row l m n) (has_rows l n m) t) u g)
    (eq-or-lt_of_le (le_of_suc-le-suc h))

pub codes_up : Up codes
codes_up = rising_up codes is_rising

pub codes_formed : (c : ℕ) → In c codes → c ≡ offset_number (c / 41 % 41) (c % 41)
codes_formed c i = in_all (λ x. x ≡ offset_number (x / 41 % 41) (x % 41)) codes c i (formed_all codes is_formed)

pub codes_complete : (u v : ℕ) → u < 41 → v < 41 → In (offset_number u v) codes
codes_complete u v h k = has_in (offset_number u v) codes (in_row codes u 41 (in_rows codes 41 41 is_complete u h) v k)

-- ---- the pairs within a search
and_left : (a b : Bool) → a && b ≡ true → a ≡ true
and_left true b e = refl
and_left false b e = e

and_right : (a b : Bool) → a && b ≡ true → b ≡ true
and_right true b e = e
and_right false b e = let z : T false = subst T (sym e) tt in absurd z

is_true : (b : Bool) → T b → b ≡ true
is_true true t = refl
is_true false t = absurd t

module _ (search : ℕ) (S : search ≤ 20) where
  abbrev test : ℕ → Bool
  test c = inside search (offset_of c)

  -- a number of the table that passes is one of the grid, and one of the grid is in the table and passes
  to_grid : (c : ℕ) → In c codes → test c ≡ true → In c (offset_grid search)
  unfolding inside offset_grid
  to_grid c i t =
      let u = c / 41 % 41 in
      let v = c % 41 in
      let e = codes_formed c i in
      let hu : u < 41 = mod-lt (c / 41) {m = 41} (omega arith) in
      let hv : v < 41 = mod-lt c {m = 41} (omega arith) in
      let s : offset_of c ≡ pair u v = ap offset_of e ∙ stands u v hu hv in
      let w : inside search (pair u v) ≡ true = subst (λ (o : Offset). inside search o ≡ true) s t in
      let g = grid_has search S u v hu hv
      (leb→le (nat_abs (minus u 20)) search (subst T (sym (and_left (leb (nat_abs (minus u 20)) search) (leb (nat_abs (minus v 20)) search) w)) tt))
      (leb→le (nat_abs (minus v 20)) search (subst T (sym (and_right (leb (nat_abs (minus u 20)) search) (leb (nat_abs (minus v 20)) search) w)) tt)) in
      subst (λ (n : ℕ). In n (offset_grid search)) (g.2 ∙ sym e)
      (map_in (grid_number search) g.0 (up_from 0 (suc (2 * search) * suc (2 * search))) (in_below g.0 (suc (2 * search) * suc (2 * search)) g.1))

  from_grid : (c : ℕ) → In c (offset_grid search) → In c codes × (test c ≡ true)
  unfolding inside offset_grid
  from_grid c i =
      let r = in_map (grid_number search) c (up_from 0 (suc (2 * search) * suc (2 * search))) i in
      let n = number_in search S r.0 (below_in r.0 (suc (2 * search) * suc (2 * search)) r.1) in
      let u = n.0 in
      let v = n.1 in
      let e : c ≡ offset_number u v = r.2 ∙ n.2 in
      let s : offset_of c ≡ pair u v = ap offset_of e ∙ stands u v n.3 n.4 in (
        subst (λ (x : ℕ). In x codes) (sym e) (codes_complete u v n.3 n.4),
        subst (λ (o : Offset). inside search o ≡ true) (sym s)
            (ap (λ (b : Bool). b && leb (nat_abs (minus v 20)) search) (is_true (leb (nat_abs (minus u 20)) search) (le→leb (nat_abs (minus u 20)) search n.5))
            ∙ is_true (leb (nat_abs (minus v 20)) search) (le→leb (nat_abs (minus v 20)) search n.6)),
      )

  abbrev numbers : List ℕ
  numbers = sort_by (λ c. c) (offset_grid search)

  kept_is : keep test codes ≡ numbers
  kept_is =
      up_same (keep test codes) numbers (up_keep test codes codes_up) (up_of numbers (numbers_rise search S))
      (λ c i. let k = in_keep test c codes i in sort_in (λ x. x) c (offset_grid search) (to_grid c k.0 k.1))
      (λ c i. let k = from_grid c (in_sort (λ x. x) c (offset_grid search) i) in keep_in test c codes k.1 k.0)

  skip_map : (l : List ℕ) → skipped search (map offset_of l) ≡ map offset_of (keep test l)
  unfolding skipped keep
  skip_map [] = refl
  skip_map (x ∷ l) = go (test x) (skip_map l)
    where
      go : (b : Bool) → skipped search (map offset_of l) ≡ map offset_of (keep test l)
          → pick b (offset_of x ∷ skipped search (map offset_of l)) (skipped search (map offset_of l)) ≡ map offset_of (pick b (x ∷ keep test l) (keep test l))
      go true e = ap (λ (r : List Offset). offset_of x ∷ r) e
      go false e = e

  -- the table's pairs within the search, in their order, are its offsets
  pub table_offsets : skipped search table_pairs ≡ offsets search
  unfolding table_pairs offsets
  table_offsets = skip_map codes ∙ ap (map offset_of) kept_is

-- ---- the whole table
near : (u : ℕ) → u < 41 → nat_abs (minus u 20) ≤ 20
near u h = ⊎_elim
    (λ (l : 20 ≤ u). subst (λ (z : ℤ). nat_abs z ≤ 20) (sym (minus_high u l)) (omega arith))
    (λ (l : u < 20). subst (λ (z : ℤ). nat_abs z ≤ 20) (sym (minus_low u l)) (omega arith))
    (le_or_lt 20 u)

all_near : (c : ℕ) → In c codes → inside 20 (offset_of c) ≡ true
unfolding inside
all_near c i =
    let u = c / 41 % 41 in
    let v = c % 41 in
    let hu : u < 41 = mod-lt (c / 41) {m = 41} (omega arith) in
    let hv : v < 41 = mod-lt c {m = 41} (omega arith) in
    let s : offset_of c ≡ pair u v = ap offset_of (codes_formed c i) ∙ stands u v hu hv in
    ap (inside 20) s
    ∙ ap (λ (b : Bool). b && leb (nat_abs (minus v 20)) 20) (is_true (leb (nat_abs (minus u 20)) 20) (le→leb (nat_abs (minus u 20)) 20 (near u hu)))
    ∙ is_true (leb (nat_abs (minus v 20)) 20) (le→leb (nat_abs (minus v 20)) 20 (near v hv))

within : 20 ≤ 20
within = omega arith

pub table_whole : table_pairs ≡ offsets 20
unfolding table_pairs offsets
table_whole =
    ap (map offset_of)
    (up_same codes (numbers 20 within) codes_up (up_of (numbers 20 within) (numbers_rise 20 within))
    (λ c i. sort_in (λ x. x) c (offset_grid 20) (to_grid 20 within c i (all_near c i)))
    (λ c i. (from_grid 20 within c (in_sort (λ x. x) c (offset_grid 20) i)).0))

pub table_complete : Complete 20 table_pairs
table_complete = subst (Complete 20) (sym table_whole) (offsets_complete 20 within)
