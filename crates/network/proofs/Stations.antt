-- The number of stations, one bus at a time, and that every station's number is below it.
-- Assumes nothing.
use Prim.Native.Nat.{ℕ, zero, suc, ◌+◌, ◌<◌, max}
use mathlib.Core.Path.{◌≡◌, refl, ap}
use mathlib.Core.Bool.{Bool, true, false}
use mathlib.Core.List.{List}
use native.Mathlib.Numerals.{add-one}
use native.Mathlib.Omega.{arith}
use borrow.Author.Tests.{ltb-true, ltb-false}
use lib.Dec.{ltb}
use lib.ListN.{length, get_or}
use Rattle.network.specs.Words.{past_to, station_count}

pub past_none : (l : List ℕ) → 0 ≡ past_to l 0
unfolding past_to
past_none l = refl

past_suc : (l : List ℕ) (i : ℕ) → past_to l (suc i) ≡ max (past_to l i) (suc (get_or l i 0))
unfolding past_to
past_suc l i = refl

pub past_next : (l : List ℕ) (i : ℕ) → past_to l (i + 1) ≡ max (past_to l i) (get_or l i 0 + 1)
past_next l i = rw (add-one, add-one) (past_suc l i)

past_above : (l : List ℕ) (i n : ℕ) → i < n → get_or l i 0 < past_to l n
past_above l i zero h = absurd (omega arith)
past_above l i (suc n) h = go (ltb i n) refl (λ k. past_above l i n k) (past_suc l n)
  where
    go : (b : Bool) → ltb i n ≡ b → (i < n → get_or l i 0 < past_to l n) → past_to l (suc n) ≡ max (past_to l n) (suc (get_or l n 0)) → get_or l i 0 < past_to l (suc n)
    go true q f e = let k : get_or l i 0 < past_to l n = f (ltb-true i n q) in omega arith
    go false q f e =
        let z : i ≡ n = omega (arith, ltb-false i n q) in
        let y : get_or l i 0 ≡ get_or l n 0 = ap (λ (t : ℕ). get_or l t 0) z in
        omega arith

pub station_below : (sub : List ℕ) (i : ℕ) → i < length sub → get_or sub i 0 < station_count sub
unfolding station_count
station_below sub i h = past_above sub i (length sub) h
