-- Places in stations: with and without a station, and by lists that agree.
-- Assumes nothing.
use mathlib.Core.Path.{◌≡◌, refl, ap, ◌∙◌}
use mathlib.Core.Bool.{Bool, true, false}
use Prim.Native.Nat.{ℕ, ◌≤◌, ◌<◌}
use lib.Dec.{eqb, ltb}
use borrow.Author.Tests.{lt-ltb, le-ltb}
use Rattle.numbers.specs.Order.{pick, before}
use Rattle.numbers.specs.Table.{how_many}
use Rattle.numbers.proofs.order.Tables.{how_many_ext}
use Rattle.stations.specs.Stages.Ranking.{in_station, rank_in}

module _ (of key : ℕ → ℕ) (k c x : ℕ) where
  pub place_none : k ≤ of x → rank_in of key k c x ≡ 0
  unfolding rank_in
  place_none h = ap (λ (b : Bool). pick b (how_many (λ j. pick (eqb (of j) (of x)) (before key ltb j x) false) c) 0) (le-ltb (of x) k h)

  pub place_some : of x < k → rank_in of key k c x ≡ how_many (λ j. pick (eqb (of j) (of x)) (before key ltb j x) false) c
  unfolding rank_in
  place_some h = ap (λ (b : Bool). pick b (how_many (λ j. pick (eqb (of j) (of x)) (before key ltb j x) false) c) 0) (lt-ltb (of x) k h)

pub before_ext : (key new : ℕ → ℕ) (R S : ℕ → ℕ → Bool) (j i u v : ℕ) → key j ≡ new u → key i ≡ new v → R j i ≡ S u v → before key R j i ≡ before new S u v
before_ext key new R S j i u v e f g =
    ap (λ (a : ℕ). pick (ltb a (key i)) true (pick (eqb a (key i)) (R j i) false)) e
    ∙ ap (λ (b : ℕ). pick (ltb (new u) b) true (pick (eqb (new u) b) (R j i) false)) f
    ∙ ap (λ (b : Bool). pick (ltb (new u) (new v)) true (pick (eqb (new u) (new v)) b false)) g

module _ (of on : ℕ → ℕ) (c : ℕ) (same : (j : ℕ) → j < c → of j ≡ on j) where
  pub station_ext : (s : ℕ) → in_station of c s ≡ in_station on c s
  unfolding in_station
  station_ext s = how_many_ext (λ j. eqb (of j) s) (λ j. eqb (on j) s) c (λ j h. ap (λ (n : ℕ). eqb n s) (same j h))

  pub place_ext : (key new : ℕ → ℕ) → ((j : ℕ) → j < c → key j ≡ new j) → (k x : ℕ) → x < c → rank_in of key k c x ≡ rank_in on new k c x
  unfolding rank_in
  place_ext key new keyed k x h =
      ap (λ (s : ℕ). pick (ltb s k) (how_many (λ j. pick (eqb (of j) s) (before key ltb j x) false) c) 0) (same x h)
      ∙ ap (λ (n : ℕ). pick (ltb (on x) k) n 0)
      (how_many_ext (λ j. pick (eqb (of j) (on x)) (before key ltb j x) false) (λ j. pick (eqb (on j) (on x)) (before new ltb j x) false) c
      (λ j l.
      ap (λ (n : ℕ). pick (eqb n (on x)) (before key ltb j x) false) (same j l)
      ∙ ap (λ (b : Bool). pick (eqb (on j) (on x)) b false) (before_ext key new ltb ltb j x j x (keyed j l) (keyed x h) refl)))
