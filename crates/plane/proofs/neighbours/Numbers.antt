-- The points' numbers and order keys, one point after the other, and the numbers sorted by them. Assumes nothing.
use mathlib.Core.Path.{◌≡◌, refl, sym, ap, ◌∙◌, subst}
use mathlib.Core.Bool.{true}
use mathlib.Core.List.{List, [], ◌∷◌, ◌++◌}
use Prim.Native.Nat.{ℕ, zero, suc, ◌+◌, ◌-◌, ◌*◌, ◌≤◌, ◌<◌}
use native.Mathlib.Omega.{arith}
use native.Mathlib.Nat.{zero-add}
use native.Mathlib.Numerals.{add-one}
use lib.Dec.{T}
use lib.ListN.{length, get_or, set, take, drop}
use lib.Seq.{take-suc-set, take_at, get_or-set_same, get_or-set_other}
use lib.Ieee.{Float, fits, binary64}
use borrow.Author.Count.{below_more}
use Rattle.numbers.specs.Small.{is_finite}
use Rattle.numbers.specs.Ops.{order_key}
use Rattle.numbers.proofs.float.Keys.{order_key_le, finite_no_nan}
use Rattle.numbers.specs.Order.{key_at, sort_by, up_from}
use Rattle.numbers.proofs.order.Merging.{length_sort}
use Rattle.numbers.proofs.order.Laws.{All, length_up, up_more}
use Rattle.numbers.proofs.order.Sorting.{sort_agree}
use Rattle.plane.specs.Stages.Sweep.{x_at, x_key, Numbered, Swept}

pub numbered_none : (ps : List Float) (ks o : List ℕ) → Numbered ps 0 ks o
unfolding up_from
numbered_none ps ks o = record { listed = refl; finite = λ j h. absurd (omega arith); formed = λ j h. absurd (omega arith); keyed = λ j h. absurd (omega arith) }

pub numbered_more : (ps : List Float) (i : ℕ) (ks o : List ℕ) → Numbered ps i ks o → is_finite (x_at ps i) ≡ true → T (fits binary64 (x_at ps i)) → i < length ks → i < length o
    → Numbered ps (i + 1) (set ks i (order_key (x_at ps i))) (set o i i)
numbered_more ps i ks o k e f l m = record {
  listed = ap (λ (t : ℕ). take t (set o i i)) (add-one i) ∙ take-suc-set o i i m ∙ ap (λ (t : List ℕ). t ++ (i ∷ [])) k.listed
      ∙ sym (ap (up_from 0) (add-one i) ∙ up_more 0 i ∙ ap (λ (t : ℕ). up_from 0 i ++ (t ∷ [])) (zero-add i));
  finite = below_more (λ j. is_finite (x_at ps j) ≡ true) i k.finite e;
  formed = below_more (λ j. T (fits binary64 (x_at ps j))) i k.formed f;
  keyed = below_more (λ j. key_at (set ks i (order_key (x_at ps i))) j ≡ order_key (x_at ps j)) i
      (λ j h. get_or-set_other ks i j (order_key (x_at ps i)) 0 (λ q. omega arith) ∙ k.keyed j h)
      (get_or-set_same ks i (order_key (x_at ps i)) 0 l);
}

all_up : (P : ℕ → Type 0) (a n : ℕ) → ((j : ℕ) → j < a + n → P j) → All P (up_from a n)
unfolding up_from
all_up P a zero f = tt
all_up P a (suc n) f = (f a (omega arith), all_up P (suc a) n (λ j h. f j (omega arith)))

-- sorted by their keys the numbers stand by rising x
pub numbered_sort : (ps : List Float) (n : ℕ) (ks o p : List ℕ) → Numbered ps n ks o
    → p ≡ take 0 o ++ (sort_by (key_at ks) (take (n - 0) (drop 0 o)) ++ drop n o) → Swept ps n p
numbered_sort ps n ks o p k e = record {
  listed = ap (take n) front ∙ take_at (sort_by (key_at ks) (up_from 0 n)) (drop n o) n (length_sort (key_at ks) (up_from 0 n) ∙ length_up 0 n)
      ∙ sort_agree (key_at ks) (x_key ps) (up_from 0 n) (all_up (λ j. key_at ks j ≡ x_key ps j) 0 n (λ j h. k.keyed j (omega arith)));
  finite = k.finite;
  rising = λ i j h l m.
      order_key_le (x_at ps i) (x_at ps j) (k.formed i h) (k.formed j l) (finite_no_nan (x_at ps i) (k.finite i h)) (finite_no_nan (x_at ps j) (k.finite j l)) m;
}
  where
    front : p ≡ sort_by (key_at ks) (up_from 0 n) ++ drop n o
    front =
        let z : n - 0 ≡ n = omega arith in
        e ∙ ap (λ (t : ℕ). sort_by (key_at ks) (take t o) ++ drop n o) z ∙ ap (λ (t : List ℕ). sort_by (key_at ks) t ++ drop n o) k.listed
