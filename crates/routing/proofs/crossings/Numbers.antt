-- Numbers of channels: what one channel more does to them. Assumes nothing.
use mathlib.Core.Path.{◌≡◌, refl, ap}
use mathlib.Core.Bool.{Bool, true, false, cond, ◌&&◌}
use mathlib.Core.List.{List, [], ◌∷◌, ◌++◌}
use Prim.Native.Nat.{ℕ, suc, ◌+◌, ◌≤◌, ◌<◌, zero-le, suc-le-suc}
use native.Mathlib.Omega.{arith}
use native.Mathlib.Nat.{le_of_suc-le-suc}
use lib.Dec.{eqb}
use lib.ListN.{length, get_or}
use borrow.Author.Tests.{lt-ltb, le-ltb, eq-eqb, eqb-true}
use Rattle.network.proofs.mesh.Tests.{both}
use Rattle.routing.specs.Route.{MeshScene, Keyed, no_channel, number_of, make_channel, with_channel}

-- whether a channel is between a and b
abbrev pub keyed : ℕ → ℕ → Keyed → Bool
keyed a b k = eqb k.low a && eqb k.high b

pub same_key : (a b : ℕ) (k : Keyed) → k.low ≡ a → k.high ≡ b → keyed a b k ≡ true
same_key a b k p q = simp (eq-eqb k.low a p, eq-eqb k.high b q)

pub other_key : (a b : ℕ) (k : Keyed) → (k.low ≡ a → k.high ≡ b → ⊥) → keyed a b k ≡ false
other_key a b k n = go (keyed a b k) refl
  where
    go : (t : Bool) → keyed a b k ≡ t → t ≡ false
    go false e = refl
    go true e = let w = both (eqb k.low a) (eqb k.high b) e in absurd (n (eqb-true _ _ w.0) (eqb-true _ _ w.1))

pub number_le : (a b : ℕ) (ks : List Keyed) → number_of a b ks ≤ length ks
unfolding number_of
number_le a b [] = zero-le
number_le a b (k ∷ ks) = go (keyed a b k) (number_le a b ks)
  where
    go : (t : Bool) → number_of a b ks ≤ length ks → cond t 0 (suc (number_of a b ks)) ≤ suc (length ks)
    go true h = zero-le
    go false h = suc-le-suc h

-- a channel that has a number keeps it
pub number_front : (a b : ℕ) (ks l : List Keyed) → number_of a b ks < length ks → number_of a b (ks ++ l) ≡ number_of a b ks
unfolding number_of
number_front a b [] l h = absurd (omega arith)
number_front a b (k ∷ ks) l h = go (keyed a b k) (number_front a b ks l) h
  where
    go : (t : Bool) → (number_of a b ks < length ks → number_of a b (ks ++ l) ≡ number_of a b ks) → cond t 0 (suc (number_of a b ks)) < suc (length ks)
        → cond t 0 (suc (number_of a b (ks ++ l))) ≡ cond t 0 (suc (number_of a b ks))
    go true f g = refl
    go false f g = ap suc (f (omega arith))

-- one that has none yet is number length ks of a list that goes on
pub number_past : (a b : ℕ) (ks l : List Keyed) → number_of a b ks ≡ length ks → number_of a b (ks ++ l) ≡ length ks + number_of a b l
unfolding number_of
number_past a b [] l e = omega arith
number_past a b (k ∷ ks) l e = go (keyed a b k) (number_past a b ks l) e
  where
    go : (t : Bool) → (number_of a b ks ≡ length ks → number_of a b (ks ++ l) ≡ length ks + number_of a b l) → cond t 0 (suc (number_of a b ks)) ≡ suc (length ks)
        → cond t 0 (suc (number_of a b (ks ++ l))) ≡ suc (length ks) + number_of a b l
    go true f g = absurd (omega (arith, g))
    go false f g = omega (arith, f (omega (arith, g)))

one_yes : (a b : ℕ) (k : Keyed) → keyed a b k ≡ true → number_of a b (k ∷ []) ≡ 0
unfolding number_of
one_yes a b k e = ap (λ (t : Bool). cond t 0 1) e

one_no : (a b : ℕ) (k : Keyed) → keyed a b k ≡ false → number_of a b (k ∷ []) ≡ 1
unfolding number_of
one_no a b k e = ap (λ (t : Bool). cond t 0 1) e

pub number_new : (a b : ℕ) (ks : List Keyed) (k : Keyed) → number_of a b ks ≡ length ks → keyed a b k ≡ true → number_of a b (ks ++ (k ∷ [])) ≡ length ks
number_new a b ks k e h = omega (arith, number_past a b ks (k ∷ []) e, one_yes a b k h)

pub number_other : (a b : ℕ) (ks : List Keyed) (k : Keyed) → number_of a b ks ≡ length ks → keyed a b k ≡ false → number_of a b (ks ++ (k ∷ [])) ≡ suc (length ks)
number_other a b ks k e h = omega (arith, number_past a b ks (k ∷ []) e, one_no a b k h)

-- the channel that has a number is between its vertices
pub number_keyed : (a b : ℕ) (ks : List Keyed) → number_of a b ks < length ks
    → ((get_or ks (number_of a b ks) no_channel).low ≡ a) × ((get_or ks (number_of a b ks) no_channel).high ≡ b)
unfolding number_of
number_keyed a b [] h = absurd (omega arith)
number_keyed a b (k ∷ ks) h = go (keyed a b k) refl (number_keyed a b ks) h
  where
    go : (t : Bool) → keyed a b k ≡ t
        → (number_of a b ks < length ks → ((get_or ks (number_of a b ks) no_channel).low ≡ a) × ((get_or ks (number_of a b ks) no_channel).high ≡ b))
        → cond t 0 (suc (number_of a b ks)) < suc (length ks)
        → ((get_or (k ∷ ks) (cond t 0 (suc (number_of a b ks))) no_channel).low ≡ a) × ((get_or (k ∷ ks) (cond t 0 (suc (number_of a b ks))) no_channel).high ≡ b)
    go true e f g = let w = both (eqb k.low a) (eqb k.high b) e in (eqb-true _ _ w.0, eqb-true _ _ w.1)
    go false e f g = f (le_of_suc-le-suc g)

-- the channels with one between a and b: either it was there, or it is the last
module _ (S : MeshScene) (a b : ℕ) (ks : List Keyed) where
  pub with_old : number_of a b ks < length ks → with_channel S a b ks ≡ ks
  unfolding with_channel
  with_old h = ap (λ (t : Bool). cond t ks (ks ++ (make_channel S a b ∷ []))) (lt-ltb (number_of a b ks) (length ks) h)

  pub with_new : number_of a b ks ≡ length ks → with_channel S a b ks ≡ ks ++ (make_channel S a b ∷ [])
  unfolding with_channel
  with_new e = ap (λ (t : Bool). cond t ks (ks ++ (make_channel S a b ∷ []))) (le-ltb (number_of a b ks) (length ks) (omega arith))

  pub made_low : (make_channel S a b).low ≡ a
  unfolding make_channel
  made_low = refl

  pub made_high : (make_channel S a b).high ≡ b
  unfolding make_channel
  made_high = refl
