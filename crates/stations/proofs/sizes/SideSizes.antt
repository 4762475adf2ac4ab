-- Sides in blocks have a bound of 2 ^ 16, for at most 4,096 buses and 8,192 rows and block options of at most 8. Assumes nothing.
use mathlib.Core.Path.{◌≡◌, refl, sym, subst}
use mathlib.Core.Logic.{⊎_elim}
use Prim.Native.Nat.{ℕ, ◌+◌, ◌-◌, ◌^◌, ◌≤◌, ◌<◌}
use native.Mathlib.Nat.{le_trans, le_of_eq}
use native.Mathlib.Omega.{arith}
use mathlib.Core.Bool.{Bool, true, false, ◌&&◌, true≢false}
use mathlib.Core.List.{List}
use lib.Dec.{T, lit≤}
use lib.ListN.{length, get_or, get_or-eq_default}
use lib.Ieee.{Float, le, binary64, of_bits, of_fields, odd}
use Rattle.numbers.specs.Ops.{num, f0, f2, ◌⊗◌}
use Rattle.numbers.specs.Small.{max_of, is_finite}
use Rattle.numbers.specs.Size.{AtMost, most_test}
use Rattle.numbers.proofs.float.SizeLaws.{most_weaken, most_lit, add_under, mul_most, max_most, between_most, whole_most, f0_most, f2_most}
use Rattle.numbers.specs.Table.{table}
use Rattle.numbers.proofs.order.Merging.{le_or_lt}
use Rattle.numbers.proofs.order.Tables.{length_table, get_d_table, how_many_le}
use Rattle.network.specs.declared.words.Kind.{Kind}
use Rattle.network.specs.declared.options.BlockOptions.{BlockOptions}
use Rattle.network.specs.Options.{between, block_option_fits, block_options_fit}
use Rattle.network.specs.Words.{kind_at}
use Rattle.stations.specs.Row.{has_row, rows_in}
use Rattle.stations.specs.Size.{Size, width_for, height_for, size_for, sizes, size_at}

-- what every element of a table has, and what stands past its end
pub table_at : {A : Type 0} (P : A → Type 0) (f : ℕ → A) (n i : ℕ) (d : A) → ((j : ℕ) → j < n → P (f j)) → P d → P (get_or (table f n) i d)
table_at P f n i d h p =
    ⊎_elim
    (λ (k : n ≤ i). let l : length (table f n) ≤ i = le_trans (le_of_eq (length_table f n)) k in subst P (sym (get_or-eq_default (table f n) d {n = i} l)) p)
    (λ (k : i < n). subst P (sym (get_d_table f n i d k)) (h i k))
    (le_or_lt n i)

-- both sides are at most 2 ^ (k - 1074)
pub record Sides (k : ℕ) (z : Size) : Type 0 where
  pub w : AtMost k z.w
  pub h : AtMost k z.h

-- ---- block options: each at most 8
pub record Narrow (G : BlockOptions) : Type 0 where
  pub bar_gap : AtMost (1074 + 3) G.bar_gap
  pub pad : AtMost (1074 + 3) G.pad
  pub min_bar : AtMost (1074 + 3) G.min_bar

pub both : (a b : Bool) → (a && b) ≡ true → T a × T b
both true true h = (tt, tt)
both true false h = absurd (true≢false (sym h))
both false b h = absurd (true≢false (sym h))

lit_half : AtMost (1074 + 3) (of_bits binary64 0x3FE0_0000_0000_0000)
unfolding most_test is_finite of_bits of_fields odd
lit_half = most_lit (1074 + 3) (of_bits binary64 0x3FE0_0000_0000_0000) tt

lit_eight : AtMost (1074 + 3) (of_bits binary64 0x4020_0000_0000_0000)
unfolding most_test is_finite of_bits of_fields odd
lit_eight = most_lit (1074 + 3) (of_bits binary64 0x4020_0000_0000_0000) tt

option_narrow : (x : Float) → block_option_fits x ≡ true → AtMost (1074 + 3) x
unfolding block_option_fits between
option_narrow x h =
    let k = both (le (of_bits binary64 0x3FE0_0000_0000_0000) x) (le x (of_bits binary64 0x4020_0000_0000_0000)) h in
    between_most (1074 + 3) x (of_bits binary64 0x3FE0_0000_0000_0000) (of_bits binary64 0x4020_0000_0000_0000) k.0 k.1 lit_half lit_eight

first_of : (a b : Bool) → (a && b) ≡ true → (a ≡ true) × (b ≡ true)
first_of true b h = (refl, h)
first_of false b h = absurd (true≢false (sym h))

pub block_options_narrow : (G : BlockOptions) → block_options_fit G ≡ true → Narrow G
unfolding block_options_fit
block_options_narrow G h =
    let p = first_of (block_option_fits G.bar_gap) (block_option_fits G.pad && (block_option_fits G.min_bar && block_option_fits G.buffer)) h in
    let q = first_of (block_option_fits G.pad) (block_option_fits G.min_bar && block_option_fits G.buffer) p.1 in
    let r = first_of (block_option_fits G.min_bar) (block_option_fits G.buffer) q.1 in
    record { bar_gap = option_narrow G.bar_gap p.0; pad = option_narrow G.pad q.0; min_bar = option_narrow G.min_bar r.0 }

-- ---- sides in blocks
module _ (G : BlockOptions) (B : Narrow G) where
  pads : AtMost (1074 + 4) (f2 ⊗ G.pad)
  pads = mul_most (1074 + 1) (1074 + 3) (1074 + 4) f2 G.pad (lit≤ tt) (lit≤ tt) f2_most B.pad

  pub size_most : (buses rows : ℕ) → buses ≤ 2 ^ 12 → rows ≤ 2 ^ 13 → Sides (1074 + 16) (size_for G buses rows)
  unfolding size_for width_for height_for
  size_most buses rows b r = record {
    w =
        add_under (1074 + 15) (1074 + 4) (1074 + 16) (G.bar_gap ⊗ num (buses - 1)) (f2 ⊗ G.pad) (lit≤ tt) (lit≤ tt) (lit≤ tt)
        (mul_most (1074 + 3) (1074 + 12) (1074 + 15) G.bar_gap (num (buses - 1)) (lit≤ tt) (lit≤ tt) B.bar_gap (whole_most (buses - 1) 12 (1074 + 12) (omega arith) (lit≤ tt) (lit≤ tt))) pads;
    h =
        add_under (1074 + 13) (1074 + 4) (1074 + 16) (max_of (num rows) G.min_bar) (f2 ⊗ G.pad) (lit≤ tt) (lit≤ tt) (lit≤ tt)
        (max_most (1074 + 13) (num rows) G.min_bar (whole_most rows 13 (1074 + 13) r (lit≤ tt) (lit≤ tt)) (most_weaken (1074 + 3) (1074 + 13) G.min_bar (lit≤ tt) B.min_bar)) pads;
  }

  pub sizes_most : (sub : List ℕ) (ks : List Kind) (counts : List ℕ) → ((s : ℕ) → get_or counts s 0 ≤ 2 ^ 12) → length ks ≤ 2 ^ 13 → (s : ℕ) → Sides (1074 + 16) (size_at (sizes G sub ks counts) s)
  unfolding sizes rows_in
  sizes_most sub ks counts few many s =
      table_at (Sides (1074 + 16)) (λ i. size_for G (get_or counts i 0) (rows_in sub ks i)) (length counts) s (record { w = f0; h = f0 })
      (λ i l. size_most (get_or counts i 0) (rows_in sub ks i) (few i) (le_trans (how_many_le (λ e. has_row sub i (kind_at ks e)) (length ks)) many))
      (record { w = f0_most (1074 + 16); h = f0_most (1074 + 16) })
