-- Relative lengths piece by piece. Assumes nothing.
use mathlib.Core.Path.{◌≡◌, refl, sym, ap, ◌∙◌}
use mathlib.Core.Bool.{Bool, true, false}
use mathlib.Core.List.{List, [], ◌∷◌, ◌++◌, append-nil}
use Prim.Native.Nat.{ℕ, suc, ◌+◌, ◌≤◌, ◌<◌}
use native.Mathlib.Omega.{arith}
use native.Mathlib.Numerals.{add-one}
use lib.ListN.{length, get_or, drop, drop_of_length-le}
use lib.Seq.{sets, drop-cons}
use lib.Ieee.{Float}
use borrow.Author.Tests.{eq-eqb, ne_eqb}
use Rattle.numbers.specs.Order.{pick}
use Rattle.audit.specs.declared.stretches.Stretch.{Stretch}
use Rattle.audit.specs.Fit.{is_line}
use Rattle.audit.specs.Relative.{longer, begun, ratio, ended, relative_on, relatives}
use Rattle.numbers.specs.Over.{over}
use Rattle.audit.proofs.figures.Front.{Front, front_more, front_end, front_size}

pub ended_short : (roles : List ℕ) (t : Stretch) → length (ended roles t) ≤ 1
unfolding ended
ended_short roles t = short (is_line roles t.branch)
  where
    short : (b : Bool) → length (pick b (ratio t ∷ []) []) ≤ 1
    short true = omega arith
    short false = omega arith

module _ (roles : List ℕ) (pieces : List Float) (branches : List ℕ) where
  -- what is left at piece j, of the stretch t and those after it
  abbrev pub left : Stretch → ℕ → List Float
  left t j = relative_on roles pieces t j (drop j branches)

  left_at : (t : Stretch) (j : ℕ) → j < length branches → left t j ≡ relative_on roles pieces t j (get_or branches j 0 ∷ drop (j + 1) branches)
  left_at t j h = rw (add-one, drop-cons branches j 0)

  pub left_longer : (t u : Stretch) (j f : ℕ) → j < length branches → f ≡ get_or branches j 0 → f ≡ t.branch → u ≡ longer pieces t j → left t j ≡ left u (j + 1)
  unfolding relative_on
  left_longer t u j f h e q d =
      left_at t j h
      ∙ ap (λ (x : Bool). elim x [ true ↦ relative_on roles pieces (longer pieces t j) (suc j) (drop (j + 1) branches) | false ↦ ended roles t ++ relative_on roles pieces (begun pieces (get_or branches j 0) j) (suc j) (drop (j + 1) branches) ])
      (eq-eqb (get_or branches j 0) t.branch (sym e ∙ q))
      ∙ ap (λ (x : Stretch). relative_on roles pieces x (suc j) (drop (j + 1) branches)) (sym d)
      ∙ ap (λ (x : ℕ). relative_on roles pieces u x (drop (j + 1) branches)) (sym (add-one j))

  left_begun : (t u : Stretch) (j f : ℕ) → j < length branches → f ≡ get_or branches j 0 → (f ≡ t.branch → ⊥) → u ≡ begun pieces f j → left t j ≡ ended roles t ++ left u (j + 1)
  unfolding relative_on
  left_begun t u j f h e q d =
      left_at t j h
      ∙ ap (λ (x : Bool). elim x [ true ↦ relative_on roles pieces (longer pieces t j) (suc j) (drop (j + 1) branches) | false ↦ ended roles t ++ relative_on roles pieces (begun pieces (get_or branches j 0) j) (suc j) (drop (j + 1) branches) ])
      (ne_eqb (get_or branches j 0) t.branch (λ z. q (e ∙ z)))
      ∙ ap (λ (x : ℕ). ended roles t ++ relative_on roles pieces (begun pieces x j) (suc j) (drop (j + 1) branches)) (sym e)
      ∙ ap (λ (x : Stretch). ended roles t ++ relative_on roles pieces x (suc j) (drop (j + 1) branches)) (sym d)
      ∙ ap (λ (x : ℕ). ended roles t ++ relative_on roles pieces u x (drop (j + 1) branches)) (sym (add-one j))

  left_end : (t : Stretch) (j : ℕ) → length branches ≤ j → left t j ≡ ended roles t ++ []
  unfolding relative_on
  left_end t j h = ap (relative_on roles pieces t j) (drop_of_length-le branches h) ∙ sym (append-nil (ended roles t))

  -- a stretch ends and the next begins
  pub left_next : (old l m : List Float) (t u : Stretch) (j f c d : ℕ) → j < length branches → c < length old → f ≡ get_or branches j 0 → (f ≡ t.branch → ⊥) → u ≡ begun pieces f j
      → m ≡ sets l c (ended roles t) → d ≡ c + length (ended roles t)
      → Front (relatives roles pieces branches) (left t j) old l c → Front (relatives roles pieces branches) (left u (j + 1)) old m d
  left_next old l m t u j f c d h k e n b q r w =
      front_more (relatives roles pieces branches) (left t j) (left u (j + 1)) old l m (ended roles t) c d (left_begun t u j f h e n b) (omega (arith, ended_short roles t)) q r w

  -- a drawing without pieces
  -- the last stretch
  pub left_last : (old l m : List Float) (t : Stretch) (j c d : ℕ) → length branches ≤ j → c < length old → m ≡ sets l c (ended roles t) → d ≡ c + length (ended roles t)
      → Front (relatives roles pieces branches) (left t j) old l c → (m ≡ over (relatives roles pieces branches) old) × (d ≡ length (relatives roles pieces branches))
  left_last old l m t j c d h k e q f =
      let all = relatives roles pieces branches in
      let g : Front all [] old m d = front_more all (left t j) [] old l m (ended roles t) c d (left_end t j h) (omega (arith, ended_short roles t)) e q f in
      (front_end all [] old m d refl g, front_size all [] old m d refl g)
