-- Laws of the list of blocks: its sizes after a store, and the sizes that the loop over all stations leaves.
-- Assumes nothing.
use mathlib.Core.Path.{◌≡◌, refl, sym, ap, ◌∙◌}
use mathlib.Core.Logic.{◌≢◌}
use mathlib.Core.List.{List, [], ◌∷◌, ◌++◌}
use Prim.Native.Nat.{ℕ, suc, ◌+◌, ◌*◌, ◌≤◌, ◌<◌}
use native.Mathlib.Omega.{arith}
use native.Mathlib.Numerals.{add-one}
use lib.ListN.{length, get_or, set, length-set}
use lib.Seq.{get_or-set_same, get_or-set_other}
use lib.Ieee.{Float, nan}
use Rattle.numbers.specs.Table.{table_from, table}
use Rattle.numbers.proofs.order.Tables.{length_table, get_d_table, table_suc, table_ext}
use Rattle.numbers.proofs.order.Strides.{table_push, length_strided, get_d_strided}
use Rattle.network.specs.Views.{counts_in}
use Rattle.network.specs.declared.options.BlockOptions.{BlockOptions}
use Rattle.network.specs.declared.words.Kind.{Kind}
use Rattle.stations.specs.Row.{rows_in}
use Rattle.stations.specs.Size.{Size, width_for, height_for, size_for, sizes_for, sizes}
use Rattle.stations.specs.Stages.Views.{size_in, sizes_in, row_counts_in}
use Rattle.network.proofs.Occupied.{count_at}

abbrev pub size : Float → Float → Size
size a b = record { w = a; h = b }

abbrev pub put_size : List Float → ℕ → Float → Float → List Float
put_size l i a b = set (set l (3 * i) a) (3 * i + 1) b

size_cong : (a b c d : Float) → a ≡ c → b ≡ d → size a b ≡ size c d
size_cong a b c d e f = cc

-- ---- one size: where it was stored, and beside it
size_same : (l : List Float) (i : ℕ) (a b : Float) → 3 * i + 1 < length l → size_in (put_size l i a b) i ≡ size a b
size_same l i a b h =
    let p : 3 * i < length l = omega arith in
    let q : 3 * i + 1 < length (set l (3 * i) a) = simp length-set h in
    size_cong _ _ _ _
    (get_or-set_other (set l (3 * i) a) (3 * i + 1) (3 * i) b nan (λ e. omega arith) ∙ get_or-set_same l (3 * i) a nan p)
    (get_or-set_same (set l (3 * i) a) (3 * i + 1) b nan q)

size_kept : (l : List Float) (i j : ℕ) (a b : Float) → j ≢ 3 * i → j ≢ 3 * i + 1 → get_or (put_size l i a b) j nan ≡ get_or l j nan
size_kept l i j a b m n = get_or-set_other (set l (3 * i) a) (3 * i + 1) j b nan n ∙ get_or-set_other l (3 * i) j a nan m

size_other : (l : List Float) (i j : ℕ) (a b : Float) → j ≢ i → size_in (put_size l i a b) j ≡ size_in l j
size_other l i j a b n =
    size_cong _ _ _ _
    (size_kept l i (3 * j) a b (λ e. n (omega arith)) (λ e. n (omega arith)))
    (size_kept l i (3 * j + 1) a b (λ e. n (omega arith)) (λ e. n (omega arith)))

-- ---- the first k
pub sizes_push : (k : ℕ) (l : List Float) (a b : Float) → 3 * k + 1 < length l → sizes_in (suc k) (put_size l k a b) ≡ sizes_in k l ++ (size a b ∷ [])
unfolding sizes_in
sizes_push k l a b h =
    table_push (size_in l) (size_in (put_size l k a b)) k (size a b) (size_same l k a b h) (λ j q. size_other l k j a b (λ e. omega arith))

-- a scale that is stored changes no size
pub sizes_beside : (k i : ℕ) (l : List Float) (v : Float) → sizes_in k (set l (3 * i + 2) v) ≡ sizes_in k l
unfolding sizes_in
sizes_beside k i l v =
    table_ext (size_in (set l (3 * i + 2) v)) (size_in l) k
    (λ j q. size_cong _ _ _ _
    (get_or-set_other l (3 * i + 2) (3 * j) v nan (λ e. omega arith))
    (get_or-set_other l (3 * i + 2) (3 * j + 1) v nan (λ e. omega arith)))

pub length_sizes : (k : ℕ) (l : List Float) → length (sizes_in k l) ≡ k
unfolding sizes_in
length_sizes k l = length_table (size_in l) k

pub get_d_sizes : (k i : ℕ) (l : List Float) (d : Size) → i < k → get_or (sizes_in k l) i d ≡ size_in l i
unfolding sizes_in
get_d_sizes k i l d h = get_d_table (size_in l) k i d h

-- ---- the bus count and the row count of a station
rows_at : (k s : ℕ) (st : List ℕ) → s < k → get_or (row_counts_in k st) s 0 ≡ get_or st (2 * s + 1) 0
rows_at k s st h = get_d_strided 2 1 0 k s st 0 h

-- ---- the loop that fills in the sizes
module _ (G : BlockOptions) (k : ℕ) (st : List ℕ) where
  abbrev pub sized : ℕ → List Size
  sized s = table (λ i. size_for G (get_or (counts_in k st) i 0) (get_or (row_counts_in k st) i 0)) s

  pub sizes_start : (l : List Float) → sizes_in 0 l ≡ sized 0
  unfolding sizes_in table_from
  sizes_start l = refl

  pub sizes_step : (s : ℕ) (l : List Float) (a b : Float) → s < k → 3 * k ≤ length l → sizes_in s l ≡ sized s
      → a ≡ width_for G (get_or st (2 * s) 0) → b ≡ height_for G (get_or st (2 * s + 1) 0) → sizes_in (s + 1) (put_size l s a b) ≡ sized (s + 1)
  unfolding size_for
  sizes_step s l a b h r e f g =
      let f' : a ≡ width_for G (get_or (counts_in k st) s 0) = f ∙ ap (width_for G) (sym (count_at k s st h)) in
      let g' : b ≡ height_for G (get_or (row_counts_in k st) s 0) = g ∙ ap (height_for G) (sym (rows_at k s st h)) in
      rw add-one
      (sizes_push s l a b (omega arith)
      ∙ ap (λ (t : List Size). t ++ (size a b ∷ [])) e
      ∙ ap (λ (z : Size). sized s ++ (z ∷ [])) (size_cong _ _ _ _ f' g')
      ∙ sym (table_suc (λ i. size_for G (get_or (counts_in k st) i 0) (get_or (row_counts_in k st) i 0)) s))

  pub sizes_end : sized k ≡ sizes_for G (counts_in k st) (row_counts_in k st)
  unfolding sizes_for
  sizes_end = ap sized (sym (length_strided 2 0 0 k st))

-- the sizes of the network, where these are the counts of its stations and their rows
pub sizes_are : (G : BlockOptions) (sub : List ℕ) (ks : List Kind) (counts rows : List ℕ) → rows ≡ table (rows_in sub ks) (length counts)
    → sizes_for G counts rows ≡ sizes G sub ks counts
unfolding sizes_for sizes
sizes_are G sub ks counts rows e =
    table_ext (λ s. size_for G (get_or counts s 0) (get_or rows s 0)) (λ s. size_for G (get_or counts s 0) (rows_in sub ks s)) (length counts)
    (λ s h. ap (size_for G (get_or counts s 0)) (ap (λ (t : List ℕ). get_or t s 0) e ∙ get_d_table (rows_in sub ks) (length counts) s 0 h))

pub sizes_view : (G : BlockOptions) (k : ℕ) (st sub : List ℕ) (ks : List Kind) (counts : List ℕ) → counts_in k st ≡ counts → row_counts_in k st ≡ table (rows_in sub ks) k
    → sizes_for G (counts_in k st) (row_counts_in k st) ≡ sizes G sub ks counts
sizes_view G k st sub ks counts e f =
    let n : k ≡ length (counts_in k st) = sym (length_strided 2 0 0 k st) in
    sizes_are G sub ks (counts_in k st) (row_counts_in k st) (f ∙ ap (table (rows_in sub ks)) n) ∙ ap (sizes G sub ks) e
