-- A result list that is written from the front, some numbers or none a turn: what is written and what is left make the whole. Assumes nothing.
use mathlib.Core.Path.{◌≡◌, refl, sym, ap, ◌∙◌}
use mathlib.Core.List.{List, [], ◌∷◌, ◌++◌, append-nil, append_assoc}
use Prim.Native.Nat.{ℕ, ◌+◌, ◌≤◌, ◌<◌}
use native.Mathlib.Omega.{arith}
use native.Mathlib.Nat.{add-zero}
use lib.ListN.{length, get_or, set, drop}
use lib.Seq.{sets, get_or-append-add, get_or-drop}
use Rattle.results.proofs.Writes.{Written, written_none, written_more, written_all}
use Rattle.numbers.specs.Over.{over}

module _ {A : Type 0} where
  pub record Front (whole left old l : List A) (c : ℕ) : Type 0 where
    pub done : List A
    pub written : Written done c old l
    pub joined : done ++ left ≡ whole

  pub front_start : (whole left old : List A) → left ≡ whole → Front whole left old old 0
  front_start whole left old e = record { done = []; written = written_none [] old refl; joined = e }

  pub front_same : (whole left left' old l : List A) (c : ℕ) → left ≡ left' → Front whole left old l c → Front whole left' old l c
  front_same whole left left' old l c e f = rw e at f

  pub front_more : (whole left left' old l m vs : List A) (c d : ℕ) → left ≡ vs ++ left' → c + length vs ≤ length old → m ≡ sets l c vs → d ≡ c + length vs
      → Front whole left old l c → Front whole left' old m d
  front_more whole left left' old l m vs c d e h s q f =
      record {
        done = f.done ++ vs;
        written = written_more f.done (f.done ++ vs) old l m vs c d h s refl q f.written;
        joined = append_assoc f.done vs left' ∙ ap (λ (x : List A). f.done ++ x) (sym e) ∙ f.joined;
      }

  pub front_put : (whole left left' old l : List A) (v : A) (c : ℕ) → left ≡ v ∷ left' → c < length old
      → Front whole left old l c → Front whole left' old (set l c v) (c + 1)
  front_put whole left left' old l v c e h f = front_more whole left left' old l (set l c v) (v ∷ []) c (c + 1) e (omega arith) refl refl f

  -- nothing is left
  pub front_end : (whole left old l : List A) (c : ℕ) → left ≡ [] → Front whole left old l c → l ≡ over whole old
  front_end whole left old l c e f =
      let q : f.done ≡ whole = sym (append-nil f.done) ∙ ap (λ (x : List A). f.done ++ x) (sym e) ∙ f.joined in
      written_all f.done old l c f.written ∙ ap (λ (x : List A). over x old) q

  pub front_size : (whole left old l : List A) (c : ℕ) → left ≡ [] → Front whole left old l c → c ≡ length whole
  front_size whole left old l c e f =
      let q : f.done ≡ whole = sym (append-nil f.done) ∙ ap (λ (x : List A). f.done ++ x) (sym e) ∙ f.joined in
      sym f.written.size ∙ ap length q

  -- what is read next is as it was before
  pub front_next : (whole left old l : List A) (c : ℕ) (d : A) → Front whole left old l c → get_or l c d ≡ get_or old c d
  front_next whole left old l c d f =
      let e : c ≡ length f.done + 0 = omega (arith, f.written.size) in
      ap (λ (x : List A). get_or x c d) f.written.is
      ∙ ap (λ (i : ℕ). get_or (f.done ++ drop c old) i d) e
      ∙ get_or-append-add f.done (drop c old) 0 d ∙ get_or-drop c old 0 d ∙ ap (λ (i : ℕ). get_or old i d) (add-zero c)
