-- Offsets (a, b), both from −search to search, run by a² + b², a, b. Each of them stands in the list, and none twice. Assumes nothing.
--     offsets_within, offsets_all     an offset stands in the list exactly if both its numbers are within the search
--     offsets_rise, offsets_once      the list is strictly rising in this order, so none stands there twice
--     offsets_complete                all four in one
use mathlib.Core.Path.{◌≡◌, refl, sym, ap, subst, ◌∙◌}
use mathlib.Core.Logic.{◌⊎◌, inl, inr, ⊎_elim}
use mathlib.Core.List.{List, map, map-map}
use Prim.Native.Nat.{ℕ, suc, ◌+◌, ◌-◌, ◌*◌, ◌/◌, ◌%◌, ◌≤◌, ◌<◌}
use native.Mathlib.Omega.{arith}
use native.Mathlib.Nat.{mod-lt, div-add-mod', mul-le-mul_right}
use lib.Dec.{lt→ltb}
use lib.IntN.{ℤ, pos, negsuc, nat_abs}
use lib.Signed.{◌<ℤ◌, lt_z_yes, <ℤ_irrefl}
use lib.Ieee.{minus}
use lib.ListN.{length, get_or, length-map}
use Rattle.numbers.specs.Order.{sort_by, up_from, rank}
use Rattle.numbers.proofs.order.Merging.{le_or_lt, length_sort}
use Rattle.numbers.proofs.order.Laws.{sorted, length_up, below_sort, rank_found, place_law, get_d_map}
use Rattle.numbers.proofs.order.Strides.{place_element, place_offset}
use Rattle.offsets.specs.declared.offset.Offset.{Offset}
use Rattle.offsets.specs.Complete.{Within, distance, Precedes, Complete}
use Rattle.offsets.specs.Offset.{square, offset_number, offset_of, grid_number, offset_grid, offsets}
use Rattle.offsets.proofs.Grids.{square_low, square_high, row_below, minus_high, minus_low}
use Rattle.numbers.proofs.order.Sorting.{sort_map}

-- ---- u stands for u - 20
abbrev pub offset : ℤ → ℤ → Offset
offset x y = record { a = x; b = y }

abbrev pub pair : ℕ → ℕ → Offset
pair u v = offset (minus u 20) (minus v 20)

number_high : (u v : ℕ) → u < 41 → v < 41 → offset_number u v / 41 % 41 ≡ u
unfolding offset_number
number_high u v h k = go (square u + square v)
  where
    go : (d : ℕ) → ((d * 41 + u) * 41 + v) / 41 % 41 ≡ u
    go d = omega arith

number_low : (u v : ℕ) → u < 41 → v < 41 → offset_number u v % 41 ≡ v
unfolding offset_number
number_low u v h k = go (square u + square v)
  where
    go : (d : ℕ) → ((d * 41 + u) * 41 + v) % 41 ≡ v
    go d = omega arith

pub stands : (u v : ℕ) → u < 41 → v < 41 → offset_of (offset_number u v) ≡ pair u v
unfolding offset_of
stands u v h k =
    ap (λ (n : ℕ). offset (minus n 20) (minus (offset_number u v % 41) 20)) (number_high u v h k)
    ∙ ap (λ (n : ℕ). offset (minus u 20) (minus n 20)) (number_low u v h k)

size : (u : ℕ) → nat_abs (minus u 20) * nat_abs (minus u 20) ≡ square u
size u = ⊎_elim
    (λ (l : 20 ≤ u). ap (λ (z : ℤ). nat_abs z * nat_abs z) (minus_high u l) ∙ square_high u l)
    (λ (l : u < 20).
    let e : suc (20 - suc u) ≡ 20 - u = omega arith in
    ap (λ (z : ℤ). nat_abs z * nat_abs z) (minus_low u l) ∙ ap (λ (n : ℕ). n * n) e ∙ square_low u l)
    (le_or_lt 20 u)

far : (u v : ℕ) → distance (pair u v) ≡ square u + square v
far u v = ap (λ (n : ℕ). n + nat_abs (minus v 20) * nat_abs (minus v 20)) (size u) ∙ ap (λ (n : ℕ). square u + n) (size v)

rises : (u v : ℕ) → u < v → minus u 20 <ℤ minus v 20
rises u v h = go (le_or_lt 20 u) (le_or_lt 20 v)
  where
    go : (20 ≤ u) ⊎ (u < 20) → (20 ≤ v) ⊎ (v < 20) → minus u 20 <ℤ minus v 20
    go (inl k) (inl l) = rw (minus_high u k, minus_high v l) (lt_z_yes (lt→ltb (u - 20) (v - 20) (omega arith)))
    go (inl k) (inr l) = absurd (omega arith)
    go (inr k) (inl l) = rw (minus_low u k, minus_high v l) (lt_z_yes tt)
    go (inr k) (inr l) = rw (minus_low u k, minus_low v l) (lt_z_yes (lt→ltb (20 - suc v) (20 - suc u) (omega arith)))

-- a lower number is that of an earlier offset
apart : (d u v e x y : ℕ) → u < 41 → v < 41 → x < 41 → y < 41 → (d * 41 + u) * 41 + v < (e * 41 + x) * 41 + y → (d < e) ⊎ ((d ≡ e) × ((u < x) ⊎ ((u ≡ x) × (v < y))))
apart d u v e x y a b f g h = go (le_or_lt e d) (le_or_lt x u)
  where
    go : (e ≤ d) ⊎ (d < e) → (x ≤ u) ⊎ (u < x) → (d < e) ⊎ ((d ≡ e) × ((u < x) ⊎ ((u ≡ x) × (v < y))))
    go (inr k) l = inl k
    go (inl k) (inr l) = inr (omega arith, inl l)
    go (inl k) (inl l) = inr (omega arith, inr (omega arith, omega arith))

earlier : (u v x y : ℕ) → u < 41 → v < 41 → x < 41 → y < 41 → offset_number u v < offset_number x y → Precedes (pair u v) (pair x y)
unfolding offset_number
earlier u v x y a b f g h = ⊎_elim
    (λ (k : square u + square v < square x + square y). inl (rw (far u v, far x y) k))
    (λ (k : (square u + square v ≡ square x + square y) × ((u < x) ⊎ ((u ≡ x) × (v < y)))). inr (far u v ∙ k.0 ∙ sym (far x y), then k.1))
    (apart (square u + square v) u v (square x + square y) x y a b f g h)
  where
    then : (u < x) ⊎ ((u ≡ x) × (v < y)) → (minus u 20 <ℤ minus x 20) ⊎ ((minus u 20 ≡ minus x 20) × (minus v 20 <ℤ minus y 20))
    then (inl k) = inl (rises u x k)
    then (inr k) = inr (ap (λ (n : ℕ). minus n 20) k.0, rises v y k.1)

-- ---- the grid
module _ (search : ℕ) (S : search ≤ 20) where
  abbrev side : ℕ
  side = suc (2 * search)

  abbrev c : ℕ
  c = side * side

  abbrev first : ℕ
  first = 20 - search

  abbrev row : ℕ → ℕ
  row i = i / side + first

  abbrev col : ℕ → ℕ
  col i = i % side + first

  number : (i : ℕ) → grid_number search i ≡ offset_number (row i) (col i)
  unfolding grid_number
  number i = refl

  row_in : (i : ℕ) → i < c → i / side < side
  row_in i h = row_below i side (omega arith) h

  col_in : (i : ℕ) → i % side < side
  col_in i = mod-lt i {m = side} (omega arith)

  row_41 : (i : ℕ) → i < c → row i < 41
  row_41 i h = omega (arith, row_in i h)

  col_41 : (i : ℕ) → col i < 41
  col_41 i = omega (arith, col_in i)

  at_is : (i : ℕ) → i < c → offset_of (grid_number search i) ≡ pair (row i) (col i)
  at_is i h = ap offset_of (number i) ∙ stands (row i) (col i) (row_41 i h) (col_41 i)

  -- two places of the grid with one number are one
  one_place : (i j : ℕ) → i < c → j < c → grid_number search i ≡ grid_number search j → i ≡ j
  one_place i j h k e =
      let n : offset_number (row i) (col i) ≡ offset_number (row j) (col j) = sym (number i) ∙ e ∙ number j in
      let r : row i ≡ row j =
      sym (number_high (row i) (col i) (row_41 i h) (col_41 i)) ∙ ap (λ (x : ℕ). x / 41 % 41) n ∙ number_high (row j) (col j) (row_41 j k) (col_41 j) in
      let s : col i ≡ col j = sym (number_low (row i) (col i) (row_41 i h) (col_41 i)) ∙ ap (λ (x : ℕ). x % 41) n ∙ number_low (row j) (col j) (row_41 j k) (col_41 j) in
      let a : i / side ≡ j / side = omega arith in
      let b : i % side ≡ j % side = omega arith in
      sym (div-add-mod' i side) ∙ ap (λ (x : ℕ). x * side + i % side) a ∙ ap (λ (x : ℕ). j / side * side + x) b ∙ div-add-mod' j side

  -- ---- the sorted grid
  abbrev turns : List ℕ
  turns = sort_by (grid_number search) (up_from 0 c)

  by_turns : offsets search ≡ map (λ i. offset_of (grid_number search i)) turns
  unfolding offsets offset_grid
  by_turns = ap (map offset_of) (sort_map (grid_number search) (up_from 0 c)) ∙ map-map offset_of (grid_number search) turns

  length_turns : length turns ≡ c
  length_turns = length_sort (grid_number search) (up_from 0 c) ∙ length_up 0 c

  pub length_offsets : length (offsets search) ≡ suc (2 * search) * suc (2 * search)
  length_offsets = ap length by_turns ∙ length-map turns (λ i. offset_of (grid_number search i)) ∙ length_turns

  turn_in : (j : ℕ) → j < c → get_or turns j 0 < c
  turn_in j h = below_sort (grid_number search) c j h

  read : (j : ℕ) (d : Offset) → j < c → get_or (offsets search) j d ≡ pair (row (get_or turns j 0)) (col (get_or turns j 0))
  read j d h =
      ap (λ (l : List Offset). get_or l j d) by_turns
      ∙ get_d_map (λ i. offset_of (grid_number search i)) turns j d (rw length_turns h)
      ∙ at_is (get_or turns j 0) (turn_in j h)

  number_rises : (i j : ℕ) → i < j → j < c → grid_number search (get_or turns i 0) < grid_number search (get_or turns j 0)
  number_rises i j h k =
      let x = get_or turns i 0 in
      let y = get_or turns j 0 in
      let le : grid_number search x ≤ grid_number search y = sorted (grid_number search) (up_from 0 c) i j (omega arith) (rw (length_up 0 c) k) in
      let ne : grid_number search x ≡ grid_number search y → ⊥ = λ e.
      let z : x ≡ y = one_place x y (turn_in i (omega arith)) (turn_in j k) e in
      let w : i ≡ j = sym (place_law (grid_number search) c i (omega arith)) ∙ ap (rank (grid_number search) c) z ∙ place_law (grid_number search) c j k in
      omega arith in
      ⊎_elim (λ (e : grid_number search y ≤ grid_number search x). absurd (ne (omega arith))) (λ (e : grid_number search x < grid_number search y). e)
      (le_or_lt (grid_number search y) (grid_number search x))

  pub offsets_rise : (i j : ℕ) (d : Offset) → i < j → j < length (offsets search) → Precedes (get_or (offsets search) i d) (get_or (offsets search) j d)
  offsets_rise i j d h l =
      let k : j < c = subst (λ (n : ℕ). j < n) length_offsets l in
      let m : i < c = omega arith in
      let x = get_or turns i 0 in
      let y = get_or turns j 0 in
      rw (read i d m, read j d k)
      (earlier (row x) (col x) (row y) (col y) (row_41 x (turn_in i m)) (col_41 x) (row_41 y (turn_in j k)) (col_41 y)
      (subst (λ (n : ℕ). n < offset_number (row y) (col y)) (number x) (subst (λ (n : ℕ). grid_number search x < n) (number y) (number_rises i j h k))))

  inside : (u : ℕ) → u < side → nat_abs (minus (u + first) 20) ≤ search
  inside u h = ⊎_elim
      (λ (l : 20 ≤ u + first). subst (λ (z : ℤ). nat_abs z ≤ search) (sym (minus_high (u + first) l)) (omega arith))
      (λ (l : u + first < 20). subst (λ (z : ℤ). nat_abs z ≤ search) (sym (minus_low (u + first) l)) (omega arith))
      (le_or_lt 20 (u + first))

  pub offsets_within : (j : ℕ) (d : Offset) → j < length (offsets search) → Within search (get_or (offsets search) j d)
  offsets_within j d l =
      let k : j < c = subst (λ (n : ℕ). j < n) length_offsets l in
      let x = get_or turns j 0 in
      rw (read j d k) (inside (x / side) (row_in x (turn_in j k)), inside (x % side) (col_in x))

  -- ---- every offset within the search stands there
  up : ℤ → ℕ
  up (pos n) = 20 + n
  up (negsuc n) = 19 - n

  up_back : (z : ℤ) → nat_abs z ≤ search → minus (up z) 20 ≡ z
  unfolding up
  up_back (pos n) h = let e : 20 + n - 20 ≡ n = omega arith in minus_high (20 + n) (omega arith) ∙ ap pos e
  up_back (negsuc n) h = let e : 20 - suc (19 - n) ≡ n = omega arith in minus_low (19 - n) (omega arith) ∙ ap negsuc e

  up_in : (z : ℤ) → nat_abs z ≤ search → (first ≤ up z) × (up z - first < side)
  unfolding up
  up_in (pos n) h = (omega arith, omega arith)
  up_in (negsuc n) h = (omega arith, omega arith)

  module _ (q r : ℕ) (Q : q < side) (R : r < side) where
    abbrev place : ℕ
    place = q * side + r

    rank_in : place < c
    rank_in = let m : (q + 1) * side ≤ side * side = mul-le-mul_right side (omega arith) in omega arith

    split : side * (place / side) + place % side ≡ side * q + r
    split = omega (arith, div-add-mod' place side)

    quotient : place / side ≡ q
    quotient = place_element side (place / side) q (place % side) r (col_in place) R split

    remainder : place % side ≡ r
    remainder = place_offset side (place / side) q (place % side) r (col_in place) R split

  pub offsets_all : (o d : Offset) → Within search o → (j : ℕ) × (j < length (offsets search)) × (get_or (offsets search) j d ≡ o)
  offsets_all o d w =
      let u = up o.a in
      let v = up o.b in
      let hu = up_in o.a w.0 in
      let hv = up_in o.b w.1 in
      let i = (u - first) * side + (v - first) in
      let f = rank_found (grid_number search) c i (rank_in (u - first) (v - first) hu.1 hv.1) in
      let j = rank (grid_number search) c i in
      let a : row i ≡ u = back u (i / side) hu.0 (quotient (u - first) (v - first) hu.1 hv.1) in
      let b : col i ≡ v = back v (i % side) hv.0 (remainder (u - first) (v - first) hu.1 hv.1) in (
        j,
        rw length_offsets f.0,
        read j d f.0 ∙ ap (λ (n : ℕ). pair (row n) (col n)) f.1 ∙ ap (λ (n : ℕ). pair n (col i)) a ∙ ap (pair u) b
            ∙ ap (λ (z : ℤ). offset z (minus v 20)) (up_back o.a w.0) ∙ ap (offset o.a) (up_back o.b w.1),
      )
    where
      back : (u n : ℕ) → first ≤ u → n ≡ u - first → n + first ≡ u
      back u n h e = omega arith

  never : (o q : Offset) → o ≡ q → Precedes o q → ⊥
  never o q e p = ⊎_elim
      (λ (h : distance o < distance q). let f : distance o ≡ distance q = ap distance e in omega arith)
      (λ (h : (distance o ≡ distance q) × ((o.a <ℤ q.a) ⊎ ((o.a ≡ q.a) × (o.b <ℤ q.b)))). ⊎_elim
      (λ (k : o.a <ℤ q.a). <ℤ_irrefl (subst (λ (x : Offset). o.a <ℤ x.a) (sym e) k))
      (λ (k : (o.a ≡ q.a) × (o.b <ℤ q.b)). <ℤ_irrefl (subst (λ (x : Offset). o.b <ℤ x.b) (sym e) k.1))
      h.1)
      p

  pub offsets_once : (i j : ℕ) (d : Offset) → i < length (offsets search) → j < length (offsets search) → get_or (offsets search) i d ≡ get_or (offsets search) j d → i ≡ j
  offsets_once i j d h k e = go (le_or_lt i j) (le_or_lt j i)
    where
      go : (i ≤ j) ⊎ (j < i) → (j ≤ i) ⊎ (i < j) → i ≡ j
      go (inr l) m = absurd (never (get_or (offsets search) j d) (get_or (offsets search) i d) (sym e) (offsets_rise j i d l h))
      go (inl l) (inr m) = absurd (never (get_or (offsets search) i d) (get_or (offsets search) j d) e (offsets_rise i j d m k))
      go (inl l) (inl m) = omega arith

  pub offsets_complete : Complete search (offsets search)
  offsets_complete = record {
    within = λ j d l. offsets_within j d l;
    all = λ o d w. offsets_all o d w;
    rise = λ i j d h l. offsets_rise i j d h l;
    once = λ i j d h k e. offsets_once i j d h k e;
  }

  -- ---- the numbers of the grid
  side_in : (u : ℕ) → u < 41 → nat_abs (minus u 20) ≤ search → (first ≤ u) × (u - first < side)
  side_in u h k = ⊎_elim
      (λ (l : 20 ≤ u). let n : nat_abs (minus u 20) ≡ u - 20 = ap nat_abs (minus_high u l) in (omega arith, omega arith))
      (λ (l : u < 20). let n : nat_abs (minus u 20) ≡ suc (20 - suc u) = ap nat_abs (minus_low u l) in (omega arith, omega arith))
      (le_or_lt 20 u)

  -- the number of a pair within the search is one of the grid
  pub grid_has : (u v : ℕ) → u < 41 → v < 41 → nat_abs (minus u 20) ≤ search → nat_abs (minus v 20) ≤ search → (i : ℕ) × (i < suc (2 * search) * suc (2 * search)) × (grid_number search i ≡ offset_number u v)
  grid_has u v h k a b =
      let hu = side_in u h a in
      let hv = side_in v k b in
      let i = (u - first) * side + (v - first) in
      let q : i / side ≡ u - first = quotient (u - first) (v - first) hu.1 hv.1 in
      let r : i % side ≡ v - first = remainder (u - first) (v - first) hu.1 hv.1 in
      let x : row i ≡ u = omega (arith, hu.0) in
      let y : col i ≡ v = omega (arith, hv.0) in
      (i, rank_in (u - first) (v - first) hu.1 hv.1, number i ∙ ap (λ (n : ℕ). offset_number n (col i)) x ∙ ap (offset_number u) y)

  -- a number of the grid is that of a pair within the search
  pub number_in : (i : ℕ) → i < suc (2 * search) * suc (2 * search)
      → (u : ℕ) × (v : ℕ) × (grid_number search i ≡ offset_number u v) × (u < 41) × (v < 41) × (nat_abs (minus u 20) ≤ search) × (nat_abs (minus v 20) ≤ search)
  number_in i h = (row i, col i, number i, row_41 i h, col_41 i, inside (i / side) (row_in i h), inside (i % side) (col_in i))

  -- sorted they rise strictly
  pub numbers_rise : (i j : ℕ) → i < j → j < length (sort_by (λ n. n) (offset_grid search)) → get_or (sort_by (λ n. n) (offset_grid search)) i 0 < get_or (sort_by (λ n. n) (offset_grid search)) j 0
  unfolding offset_grid
  numbers_rise i j h l =
      let e : sort_by (λ n. n) (offset_grid search) ≡ map (grid_number search) turns = sort_map (grid_number search) (up_from 0 c) in
      let n : length (map (grid_number search) turns) ≡ c = length-map turns (grid_number search) ∙ length_turns in
      let k : j < c = subst (λ (m : ℕ). j < m) (ap length e ∙ n) l in
      let m : i < c = omega arith in
      rw (e, get_d_map (grid_number search) turns i 0 (rw length_turns m), get_d_map (grid_number search) turns j 0 (rw length_turns k)) (number_rises i j h k)
