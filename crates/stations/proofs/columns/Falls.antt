-- Keys that fall where the voltage rises, by IEEE 754's totalOrder of the voltages' patterns. Assumes nothing.
use mathlib.Core.Path.{◌≡◌, refl, sym, ap, ◌∙◌}
use mathlib.Core.Logic.{◌⊎◌, ⊎_elim}
use mathlib.Core.Bool.{Bool, true, false, not, ◌&&◌, ◌||◌}
use mathlib.Core.List.{List}
use Prim.Native.Nat.{ℕ, ◌≤◌, ◌<◌, ◌^◌}
use native.Mathlib.Omega.{arith}
use borrow.Author.Tests.{lt-ltb, le-ltb, le-leb, lt-leb, eq-eqb, ne_eqb, eqb-true, eqb-false}
use lib.Dec.{T, eqb, ltb}
use lib.ListN.{length, get_or}
use Rattle.numbers.specs.Key.{key_of}
use Rattle.numbers.specs.TotalOrder as Total
use Rattle.numbers.proofs.float.Keys.{key_low, key_high, key_injective}
use Rattle.numbers.proofs.float.TotalOrder.{total_order_lem, key_before, before_key}
use Rattle.numbers.specs.Order.{pick, before}
use Rattle.numbers.specs.Table.{how_many}
use Rattle.numbers.proofs.order.Merging.{le_or_lt}
use Rattle.numbers.proofs.order.Tables.{how_many_ext}
use Rattle.network.specs.Words.{station_of}
use Rattle.stations.specs.Column.{voltage, falling, column}

pub key_below : (v : ℕ) → v < 2 ^ 64 → key_of v < 2 ^ 64
key_below v h = ⊎_elim
    (λ (k : 2 ^ 63 ≤ v). omega (arith, key_high v k))
    (λ (k : v < 2 ^ 63). omega (arith, key_low v k))
    (le_or_lt (2 ^ 63) v)

pub falls : (a b : ℕ) → a < 2 ^ 64 → b < 2 ^ 64 → (falling a < falling b → b < a) × (b < a → falling a < falling b)
unfolding falling
falls a b h k = (λ l. omega arith, λ l. omega arith)

pub falls_same : (a b : ℕ) → a < 2 ^ 64 → b < 2 ^ 64 → falling a ≡ falling b → a ≡ b
unfolding falling
falls_same a b h k e = omega arith

-- of two patterns
module _ (v w : ℕ) (h : v < 2 ^ 64) (k : w < 2 ^ 64) where
  pub voltage_falls : (falling (key_of v) < falling (key_of w) → T (Total.before w v)) × (T (Total.before w v) → falling (key_of v) < falling (key_of w))
  voltage_falls =
      let f = falls (key_of v) (key_of w) (key_below v h) (key_below w k) in
      (λ l. key_before w v k h (f.0 l), λ t. f.1 (before_key w v k h t))

  pub voltage_same : falling (key_of v) ≡ falling (key_of w) → v ≡ w
  voltage_same e = key_injective v w h k (falls_same (key_of v) (key_of w) (key_below v h) (key_below w k) e)

  falls_test : ltb (falling (key_of v)) (falling (key_of w)) ≡ Total.before w v
  unfolding Total.before
  falls_test =
      let f = falls (key_of v) (key_of w) (key_below v h) (key_below w k) in
      ⊎_elim
      (λ (l : key_of v ≤ key_of w).
      le-ltb (falling (key_of v)) (falling (key_of w)) (no-fall l) ∙ sym (ap not (total_order_lem v w h k ∙ le-leb (key_of v) (key_of w) l)))
      (λ (l : key_of w < key_of v).
      lt-ltb (falling (key_of v)) (falling (key_of w)) (f.1 l) ∙ sym (ap not (total_order_lem v w h k ∙ lt-leb (key_of v) (key_of w) l)))
      (le_or_lt (key_of v) (key_of w))
    where
      no-fall : key_of v ≤ key_of w → falling (key_of w) ≤ falling (key_of v)
      no-fall l = unfold falling in omega arith

  same_test : eqb (falling (key_of v)) (falling (key_of w)) ≡ eqb v w
  same_test = go (eqb v w) refl
    where
      go : (b : Bool) → eqb v w ≡ b → eqb (falling (key_of v)) (falling (key_of w)) ≡ b
      go true e = eq-eqb (falling (key_of v)) (falling (key_of w)) (ap (λ (x : ℕ). falling (key_of x)) (eqb-true v w e))
      go false e = ne_eqb (falling (key_of v)) (falling (key_of w)) (λ q. eqb-false v w e (voltage_same q))

-- A bus's column is how many buses of its station stand before it: their voltage is above its own in totalOrder, or the same and their number lower.
pub column_count : (sub kv : List ℕ) → ((j : ℕ) → get_or kv j 0 < 2 ^ 64) → (i : ℕ)
    → column sub kv i
    ≡ how_many (λ j. eqb (station_of sub j) (station_of sub i) && (Total.before (get_or kv i 0) (get_or kv j 0) || (eqb (get_or kv j 0) (get_or kv i 0) && ltb j i))) (length sub)
unfolding column
column_count sub kv P i = how_many_ext _ _ (length sub) (λ j h.
    ap (λ (u : Bool). pick (eqb (station_of sub j) (station_of sub i)) (pick u true (pick (eqb (falling (voltage kv j)) (falling (voltage kv i))) (ltb j i) false)) false)
    (falls_test (get_or kv j 0) (get_or kv i 0) (P j) (P i))
    ∙ ap (λ (u : Bool). pick (eqb (station_of sub j) (station_of sub i)) (pick (Total.before (get_or kv i 0) (get_or kv j 0)) true (pick u (ltb j i) false)) false)
    (same_test (get_or kv j 0) (get_or kv i 0) (P j) (P i))
    ∙ tests (eqb (station_of sub j) (station_of sub i)) (Total.before (get_or kv i 0) (get_or kv j 0)) (eqb (get_or kv j 0) (get_or kv i 0)) (ltb j i))
  where
    tests : (a u v w : Bool) → pick a (pick u true (pick v w false)) false ≡ a && (u || (v && w))
    tests false u v w = refl
    tests true true v w = refl
    tests true false true w = refl
    tests true false false w = refl
