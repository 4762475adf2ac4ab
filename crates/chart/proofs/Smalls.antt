-- Rows are small numbers: no more than there are branches.
-- Assumes nothing.
use mathlib.Core.Path.{◌≡◌, sym, ap, ◌∙◌, subst}
use mathlib.Core.List.{List}
use Prim.Native.Nat.{ℕ, ◌+◌, ◌*◌, ◌-◌, ◌^◌, ◌≤◌, ◌<◌, zero-le}
use native.Mathlib.Omega.{arith}
use lib.IntN.{ℤ}
use lib.ListN.{length, get_or}
use Rattle.numbers.proofs.order.Tables.{get_d_table, length_table, how_many_le}
use Rattle.numbers.proofs.order.Strides.{get_d_first, get_d_strided}
use Rattle.plane.specs.declared.geometry.Point.{Point}
use Rattle.network.specs.declared.words.Kind.{Kind}
use Rattle.network.specs.declared.words.Kind.TheVariants.{Undrawn, Open, Internal, Line}
use Rattle.network.specs.Words.{kinds, kind_at}
use Rattle.network.specs.Views.{from_rows_in, to_rows_in}
use Rattle.stations.specs.Row.{row, from_row, to_row, from_rows, to_rows}

module _ (sub : List ℕ) (seeds : List Point) (ks : List Kind) where
  row_le : (s e : ℕ) → row sub seeds ks s e ≤ length ks
  unfolding row
  row_le s e = how_many_le _ (length ks)

  from_le : (e : ℕ) (K : Kind) → from_row sub seeds ks e K ≤ length ks
  unfolding from_row
  from_le e Undrawn = zero-le
  from_le e (Open a b) = zero-le
  from_le e (Internal a b) = row_le _ e
  from_le e (Line a b) = row_le _ e

  to_le : (e : ℕ) (K : Kind) → to_row sub seeds ks e K ≤ length ks
  unfolding to_row
  to_le e Undrawn = zero-le
  to_le e (Open a b) = zero-le
  to_le e (Internal a b) = row_le _ e
  to_le e (Line a b) = row_le _ e

  pub ends_small : (m : ℕ) (ends : List ℕ) → m ≤ 8192 → length ks ≡ m → from_rows_in m ends ≡ from_rows sub seeds ks → to_rows_in m ends ≡ to_rows sub seeds ks
      → (e : ℕ) → e < m → (get_or ends (4 * e) 0 < 2 ^ 32 - 1) × (get_or ends (4 * e + 1) 0 < 2 ^ 32 - 1)
  unfolding from_rows to_rows
  ends_small m ends h l f t e b =
      let d : e < length ks = subst (λ (z : ℕ). e < z) (sym l) b in
      let x : get_or ends (4 * e) 0 ≡ from_row sub seeds ks e (kind_at ks e) =
      sym (get_d_first 4 0 m e ends 0 b) ∙ ap (λ (z : List ℕ). get_or z e 0) f ∙ get_d_table (λ i. from_row sub seeds ks i (kind_at ks i)) (length ks) e 0 d in
      let y : get_or ends (4 * e + 1) 0 ≡ to_row sub seeds ks e (kind_at ks e) =
      sym (get_d_strided 4 1 0 m e ends 0 b) ∙ ap (λ (z : List ℕ). get_or z e 0) t ∙ get_d_table (λ i. to_row sub seeds ks i (kind_at ks i)) (length ks) e 0 d in
      let p : from_row sub seeds ks e (kind_at ks e) ≤ length ks = from_le e (kind_at ks e) in
      let q : to_row sub seeds ks e (kind_at ks e) ≤ length ks = to_le e (kind_at ks e) in
      (omega arith, omega arith)

pub length_kinds : (sub : List ℕ) (from to : List ℤ) (service : List ℕ) → length (kinds sub from to service) ≡ length from
unfolding kinds
length_kinds sub from to service = length_table _ (length from)
