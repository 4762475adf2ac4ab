-- Lists that are written over others, whole or in front. Assumes nothing.
use mathlib.Core.Path.{◌≡◌, ap, ◌∙◌}
use mathlib.Core.List.{List, ◌++◌, append-nil}
use Prim.Native.Nat.{ℕ, ◌≤◌}
use native.Mathlib.Omega.{arith}
use lib.ListN.{length, take, drop}
use lib.Seq.{take_at}
use Rattle.std.proofs.lemmas.List.{drop_all}
use Rattle.numbers.specs.Over.{over}

pub whole : {A : Type 0} (n : ℕ) (new before : List A) → length new ≡ n → length before ≡ n → over new before ≡ new
unfolding over
whole n new before e f = ap (λ l. new ++ l) (drop_all (length new) before (same (length before) (length new) n f e)) ∙ append-nil new
  where
    same : (a b n : ℕ) → a ≡ n → b ≡ n → a ≤ b
    same a b n e f = omega arith

pub front : {A : Type 0} (n : ℕ) (new before : List A) → length new ≡ n → take n (over new before) ≡ new
unfolding over
front n new before e = take_at new (drop (length new) before) n e
