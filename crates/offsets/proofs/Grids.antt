-- The offsets by the sorted numbers of the grid's pairs: `grid_offsets`, and bounds of what is computed on the way. Assumes nothing.
use mathlib.Core.Path.{◌≡◌, sym, ap, ◌∙◌, subst}
use mathlib.Core.Logic.{⊎_elim}
use mathlib.Core.Bool.{Bool, cond}
use mathlib.Core.List.{List, ◌++◌, map, map-map}
use Prim.Native.Nat.{ℕ, suc, ◌+◌, ◌-◌, ◌*◌, ◌/◌, ◌%◌, ◌≤◌, ◌<◌}
use native.Mathlib.Omega.{arith}
use native.Mathlib.Nat.{div-lt_iff_lt-mul, mul-le-mul_right}
use mir.Syntax.{w32}
use mir.Val.{SFits, to_z, of_z}
use mir.ValLaws.{to_z_pos, to_z-of_z}
use borrow.Author.Tests.{lt-ltb, le-ltb, le-leb, lt-leb}
use lib.IntN.{ℤ, pos, negsuc, ◌-ℤ◌}
use lib.Ieee.{minus}
use lib.ListN.{length, get_or, set, take, drop, get_or-append}
use lib.Seq.{take_at, get_or-take}
use Rattle.numbers.specs.Order.{sort_by, up_from, key_at}
use Rattle.numbers.specs.Table.{table}
use Rattle.numbers.proofs.order.Merging.{le_or_lt, length_sort}
use Rattle.numbers.proofs.order.Laws.{all_map, all_below, length_up}
use Rattle.numbers.proofs.order.Tables.{length_table, get_d_table, table_ext}
use Rattle.plane.proofs.neighbours.Fills.{fill_more}
use Rattle.offsets.specs.declared.offset.Offset.{Offset}
use Rattle.offsets.specs.Offset.{square, offset_number, offset_of, grid_number, offset_grid, offsets}
use Rattle.offsets.specs.Stages.OffsetList.{offset_at, offsets_in}
use Rattle.numbers.proofs.order.Sorting.{map_agree, table_map, sort_map, sort_front}

-- ---- squares and their bounds
pub small_square : (d : ℕ) → d ≤ 20 → d * d ≤ 400
small_square d h = let p : d * d ≤ 20 * d = mul-le-mul_right d h in omega arith

pub side_square : (d : ℕ) → d ≤ 41 → d * d ≤ 1681
side_square d h = let p : d * d ≤ 41 * d = mul-le-mul_right d h in omega arith

pub square_low : (u : ℕ) → u < 20 → (20 - u) * (20 - u) ≡ square u
square_low u h = let z : u - 20 ≡ 0 = omega arith in rw z (omega arith)

pub square_high : (u : ℕ) → 20 ≤ u → (u - 20) * (u - 20) ≡ square u
square_high u h = let z : 20 - u ≡ 0 = omega arith in rw z (omega arith)

pub square_small : (u : ℕ) → u ≤ 40 → square u ≤ 400
square_small u h = ⊎_elim
    (λ (l : 20 ≤ u). rw (← square_high u l) (small_square (u - 20) (omega arith)))
    (λ (l : u < 20). rw (← square_low u l) (small_square (20 - u) (omega arith)))
    (le_or_lt 20 u)

-- quotient and remainder by a side
pub row_below : (i side : ℕ) → 0 < side → i < side * side → i / side < side
row_below i side h l = (div-lt_iff_lt-mul {k = side} {x = i} {y = side} h).1 l

-- one pair more has its number
pub grid_more : (search side i n : ℕ) (ks ks₀ : List ℕ) → side ≡ suc (2 * search) → i < length ks₀ → ks ≡ table (grid_number search) i ++ drop i ks₀
    → n ≡ offset_number (i / side + (20 - search)) (i % side + (20 - search)) → set ks i n ≡ table (grid_number search) (i + 1) ++ drop (i + 1) ks₀
unfolding grid_number
grid_more search side i n ks ks₀ e h k f =
    let g : n ≡ grid_number search i = f ∙ ap (λ (d : ℕ). offset_number (i / d + (20 - search)) (i % d + (20 - search))) e in
    ap (λ (l : List ℕ). set l i n) k ∙ ap (set (table (grid_number search) i ++ drop i ks₀) i) g ∙ fill_more (grid_number search) ks₀ i h

-- ---- a number less 20, as a signed number
pub minus_high : (u : ℕ) → 20 ≤ u → minus u 20 ≡ pos (u - 20)
minus_high u l = ap (λ (b : Bool). cond b (pos (u - 20)) (negsuc (20 - suc u))) (le-leb 20 u l)

pub minus_low : (u : ℕ) → u < 20 → minus u 20 ≡ negsuc (20 - suc u)
minus_low u l = ap (λ (b : Bool). cond b (pos (u - 20)) (negsuc (20 - suc u))) (lt-leb 20 u l)

less_high : (u : ℕ) → 20 ≤ u → u < 41 → to_z w32 u -ℤ to_z w32 20 ≡ pos (u - 20)
less_high u l h =
    ap (λ (z : ℤ). z -ℤ pos 20) (to_z_pos w32 u (omega arith)) ∙ ap (λ (b : Bool). cond b (negsuc (20 - suc u)) (pos (u - 20))) (le-ltb u 20 l)

less_low : (u : ℕ) → u < 20 → to_z w32 u -ℤ to_z w32 20 ≡ negsuc (20 - suc u)
less_low u l =
    ap (λ (z : ℤ). z -ℤ pos 20) (to_z_pos w32 u (omega arith)) ∙ ap (λ (b : Bool). cond b (negsuc (20 - suc u)) (pos (u - 20))) (lt-ltb u 20 l)

less : (u : ℕ) → u < 41 → to_z w32 u -ℤ to_z w32 20 ≡ minus u 20
less u h = ⊎_elim
    (λ (l : 20 ≤ u). less_high u l h ∙ sym (minus_high u l))
    (λ (l : u < 20). less_low u l ∙ sym (minus_low u l))
    (le_or_lt 20 u)

pub less_fits : (u : ℕ) → u < 41 → SFits w32 (to_z w32 u -ℤ to_z w32 20)
less_fits u h = ⊎_elim
    (λ (l : 20 ≤ u). subst (SFits w32) (sym (less_high u l h)) (record { sfits = omega arith }))
    (λ (l : u < 20). subst (SFits w32) (sym (less_low u l)) (record { sfits = omega arith }))
    (le_or_lt 20 u)

abbrev offset : ℤ → ℤ → Offset
offset x y = record { a = x; b = y }

abbrev pub kept : ℕ → ℤ
kept u = to_z w32 (of_z w32 (to_z w32 u -ℤ to_z w32 20))

kept_less : (u : ℕ) → u < 41 → kept u ≡ minus u 20
kept_less u h = to_z-of_z w32 (to_z w32 u -ℤ to_z w32 20) (less_fits u h) ∙ less u h

pub offset_made : (n x : ℕ) → n ≡ x → ◌≡◌ {A = Offset} (record { a = kept (n / 41 % 41); b = kept (n % 41) }) (offset_of x)
unfolding offset_of
offset_made n x e =
    ap (λ (z : ℤ). offset z (kept (n % 41))) (kept_less (n / 41 % 41) (omega arith))
    ∙ ap (λ (z : ℤ). offset (minus (n / 41 % 41) 20) z) (kept_less (n % 41) (omega arith)) ∙ ap offset_of e

-- ---- the sorted numbers
module _ (search c : ℕ) (ks o p kr or : List ℕ) (C : c ≡ suc (2 * search) * suc (2 * search)) (K : ks ≡ table (grid_number search) c ++ kr)
    (O : o ≡ up_from 0 c ++ or) (P : p ≡ take 0 o ++ (sort_by (key_at ks) (take (c - 0) (drop 0 o)) ++ drop c o)) where
  abbrev sorted : List ℕ
  sorted = sort_by (key_at ks) (up_from 0 c)

  key_grid : (i : ℕ) → i < c → key_at ks i ≡ grid_number search i
  key_grid i h =
      let l : i < length (table (grid_number search) c) = rw (length_table (grid_number search) c) h in
      ap (λ (l : List ℕ). get_or l i 0) K ∙ get_or-append (table (grid_number search) c) kr 0 i l ∙ get_d_table (grid_number search) c i 0 h

  front : take c o ≡ up_from 0 c
  front = ap (take c) O ∙ take_at (up_from 0 c) or c (length_up 0 c)

  front_sorted : take c p ≡ sorted
  front_sorted = sort_front (key_at ks) o p c (ap length front ∙ length_up 0 c) P ∙ ap (sort_by (key_at ks)) front

  read : (j : ℕ) → j < c → get_or p j 0 ≡ get_or sorted j 0
  read j h = sym (get_or-take c p j 0 h) ∙ ap (λ (l : List ℕ). get_or l j 0) front_sorted

  length_sorted : length sorted ≡ c
  length_sorted = length_sort (key_at ks) (up_from 0 c) ∙ length_up 0 c

  pub grid_offsets : offsets_in c ks p ≡ offsets search
  unfolding offsets_in offset_at offsets offset_grid
  grid_offsets =
      table_ext (λ j. offset_of (key_at ks (get_or p j 0))) (λ j. offset_of (key_at ks (get_or sorted j 0))) c (λ j h. ap (λ (x : ℕ). offset_of (key_at ks x)) (read j h))
      ∙ ap (table (λ j. offset_of (key_at ks (get_or sorted j 0)))) (sym length_sorted)
      ∙ sym (table_map (λ x. offset_of (key_at ks x)) sorted)
      ∙ sym (map-map offset_of (key_at ks) sorted)
      ∙ ap (map offset_of) (sym (sort_map (key_at ks) (up_from 0 c)))
      ∙ ap (λ (l : List ℕ). map offset_of (sort_by (λ x. x) l))
      (map_agree (key_at ks) (grid_number search) (up_from 0 c) (all_map (λ i. i < c) (λ i. key_at ks i ≡ grid_number search i) key_grid (up_from 0 c) (all_below 0 c c (omega arith))))
      ∙ ap (λ (n : ℕ). map offset_of (sort_by (λ x. x) (map (grid_number search) (up_from 0 n)))) C
