-- A loop that puts numbers where a list says. Assumes nothing.
use mathlib.Core.Path.{◌≡◌, sym, ap, ◌∙◌}
use mathlib.Core.List.{List, ◌∷◌, map}
use Prim.Native.Nat.{ℕ, suc, ◌+◌, ◌≤◌, ◌<◌}
use native.Mathlib.Omega.{arith}
use native.Mathlib.Numerals.{add-one}
use lib.ListN.{length, get_or, drop, set, drop_of_length-le}
use lib.Seq.{set_out, drop-cons}
use lib.Ieee.{Float, nan}
use Rattle.channels.specs.Space.{put_all}

-- what is left to put makes the whole
pub record Putting (f : ℕ → ℕ) (order : List ℕ) (ts before now : List Float) (i : ℕ) : Type 0 where
  pub rest : put_all (map f (drop i order)) (drop i ts) now ≡ put_all (map f order) ts before

module _ (f : ℕ → ℕ) (order : List ℕ) (ts before : List Float) (ht : length order ≤ length ts) where
  module _ (now : List Float) (i : ℕ) (h : i < length order) (r : Putting f order ts before now i) where
    step : put_all (map f (drop i order)) (drop i ts) now ≡ put_all (map f (drop (i + 1) order)) (drop (i + 1) ts) (set now (f (get_or order i 0)) (get_or ts i nan))
    unfolding put_all
    step =
        let a : drop i order ≡ get_or order i 0 ∷ drop (suc i) order = drop-cons order i 0 h in
        let b : drop i ts ≡ get_or ts i nan ∷ drop (suc i) ts = drop-cons ts i nan (omega arith) in
        rw (a, b, add-one i)

    pub put_step : (x : ℕ) → x ≡ f (get_or order i 0) → Putting f order ts before (set now x (get_or ts i nan)) (i + 1)
    put_step x p = record { rest = rw p (sym step ∙ r.rest) }

    pub put_past : (x : ℕ) → x ≡ f (get_or order i 0) → length now ≤ x → Putting f order ts before now (i + 1)
    put_past x p o =
        record { rest = ap (λ (l : List Float). put_all (map f (drop (i + 1) order)) (drop (i + 1) ts) l) (sym (ap (λ (k : ℕ). set now k (get_or ts i nan)) (sym p) ∙ set_out now x (get_or ts i nan) o)) ∙ sym step ∙ r.rest }

  pub put_end : (now : List Float) (i : ℕ) → length order ≤ i → Putting f order ts before now i → now ≡ put_all (map f order) ts before
  unfolding put_all
  put_end now i h r = sym (ap (λ (l : List ℕ). put_all (map f l) (drop i ts) now) (drop_of_length-le order h)) ∙ r.rest

pub ruleset putting = (put_step, put_past, put_end)
