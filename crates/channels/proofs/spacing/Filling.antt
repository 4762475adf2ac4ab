-- Loops that write a list from the front, each number a function of another list's. Assumes nothing.
use mathlib.Core.Path.{◌≡◌, refl, sym, ap, ◌∙◌}
use mathlib.Core.List.{List, [], ◌∷◌, ◌++◌, map, map-append, append_assoc, append-nil}
use Prim.Native.Nat.{ℕ, suc, ◌+◌, ◌≤◌, ◌<◌, zero-le}
use native.Mathlib.Omega.{arith}
use native.Mathlib.Numerals.{add-one}
use lib.ListN.{length, get_or, drop, take, set, length-map, length-set, drop_of_length-le}
use lib.Seq.{drop-cons, set_at, take-suc, take_all, length-take-le}

-- the first i numbers of `now` are f of those of `src`, the others are as in d
pub record Filled {A B : Type 0} (f : A → B) (src : List A) (d now : List B) (i : ℕ) : Type 0 where
  pub upto : i ≤ length src
  pub long : length now ≡ length src
  pub list : now ≡ map f (take i src) ++ drop i d

module _ {A B : Type 0} (f : A → B) (src : List A) (d : List B) (same : length d ≡ length src) where
  pub fill_start : Filled f src d d 0
  fill_start = record { upto = zero-le; long = same; list = refl }

  pub fill_step : (now : List B) (i : ℕ) (v : B) (z : A) → i < length src → v ≡ f (get_or src i z) → Filled f src d now i → Filled f src d (set now i v) (i + 1)
  fill_step now i v z h e r =
      let inside : i < length d = omega arith in
      let size : length (map f (take i src)) ≡ i = length-map (take i src) f ∙ length-take-le i src r.upto in
      let y : B = f (get_or src i z) in
      let cons : drop i d ≡ get_or d i y ∷ drop (suc i) d = drop-cons d i y inside in
      let front : map f (take (suc i) src) ≡ map f (take i src) ++ (v ∷ []) = ap (map f) (take-suc src i z h) ∙ map-append f (take i src) (get_or src i z ∷ []) ∙ ap (λ (t : B). map f (take i src) ++ (t ∷ [])) (sym e) in
      record {
        upto = omega arith;
        long = length-set now i v ∙ r.long;
        list =
            ap (λ (l : List B). set l i v) (r.list ∙ ap (λ (l : List B). map f (take i src) ++ l) cons)
            ∙ set_at (map f (take i src)) (get_or d i y) (drop (suc i) d) v i size
            ∙ sym (append_assoc (map f (take i src)) (v ∷ []) (drop (suc i) d))
            ∙ ap (λ (l : List B). l ++ drop (suc i) d) (sym front)
            ∙ ap (λ (n : ℕ). map f (take n src) ++ drop n d) (sym (add-one i));
      }

  pub fill_end : (now : List B) (i : ℕ) → length src ≤ i → Filled f src d now i → now ≡ map f src
  fill_end now i h r =
      let short : length d ≤ i = omega arith in
      r.list
      ∙ ap (λ (l : List A). map f l ++ drop i d) (take_all i src h)
      ∙ ap (λ (l : List B). map f src ++ l) (drop_of_length-le d short)
      ∙ append-nil (map f src)
