-- A box whose left side isn't left of another's right side doesn't overlap it, whichever of the two is shrunk. Assumes nothing.
use mathlib.Core.Path.{◌≡◌, refl, sym, ◌∙◌, subst}
use mathlib.Core.Bool.{Bool, true, false, ◌&&◌, ◌||◌}
use Prim.Native.Nat.{ℕ, ◌≤◌, ◌<◌}
use native.Mathlib.Omega.{arith}
use native.Mathlib.Decide.{dec_le}
use lib.Dec.{T, ltb}
use lib.Count.{count_trailing_zeros}
use lib.Ieee.{Float, binary64, lt, le, of_bits, of_fields, odd}
use lib.Ieee.Fits.{add-fits, sub-fits}
use borrow.Author.Tests.{lt-ltb, le-ltb}
use Rattle.numbers.specs.Small.{is_finite}
use Rattle.numbers.specs.Ops.{◌⊕◌, ◌⊖◌}
use Rattle.numbers.proofs.float.Keys.{not_both}
use Rattle.plane.specs.declared.geometry.Box.{Box}
use Rattle.plane.specs.Plane.{shrinking}
use Rattle.plane.specs.Overlap.{meet, overlap}
use Rattle.placement.proofs.Rank.{rank, Plus, lt_rank, add_up, sub_down, add_number, sub_number, finite_number}
use Rattle.placement.proofs.Clear.{Good}
use Rattle.audit.specs.Stages.Sweep.{paired}

shrinking_plus : Plus shrinking
unfolding of_bits of_fields odd count_trailing_zeros
shrinking_plus = tt

shrinking_finite : T (is_finite shrinking)
unfolding of_bits of_fields odd count_trailing_zeros is_finite
shrinking_finite = tt

-- what is at most another has at most its rank
at_most : (x y : Float) → Good x → Good y → T (le x y) → rank x ≤ rank y
at_most x y F G h = go (dec_le (rank x) (rank y))
  where
    below : (a b : ℕ) → (a ≤ b → ⊥) → b < a
    below a b n = omega arith

    go : Dec (rank x ≤ rank y) → rank x ≤ rank y
    go (yes l) = l
    go (no n) =
        absurd (not_both y x (subst T (sym (lt_rank y x G.0 F.0 (finite_number y G.1) (finite_number x F.1) ∙ lt-ltb (rank y) (rank x) (below (rank x) (rank y) n))) tt) h)

-- a right side r at most a left side l
module _ (r l : Float) (R : Good r) (L : Good l) (h : rank r ≤ rank l) where
  own : lt l (r ⊖ shrinking) ≡ false
  own =
      let u : rank (r ⊖ shrinking) ≤ rank r = sub_down r shrinking R.0 R.1 shrinking_plus in
      lt_rank l (r ⊖ shrinking) L.0 (sub-fits binary64 r shrinking) (finite_number l L.1) (sub_number r shrinking R.1 shrinking_finite) ∙ le-ltb (rank l) (rank (r ⊖ shrinking)) (omega arith)

  other : lt (l ⊕ shrinking) r ≡ false
  other =
      let u : rank l ≤ rank (l ⊕ shrinking) = add_up l shrinking L.0 L.1 shrinking_plus in
      lt_rank (l ⊕ shrinking) r (add-fits binary64 l shrinking) R.0 (add_number l shrinking L.1 shrinking_finite) (finite_number r R.1) ∙ le-ltb (rank (l ⊕ shrinking)) (rank r) (omega arith)

pub stop : (p q : Box) (x : Float) (s t : ℕ) → Good p.right → Good x → Good q.left → T (le p.right x) → T (le x q.left) → paired p q s t ≡ false
unfolding paired overlap meet
stop p q x s t P X Q h k =
    let a : rank p.right ≤ rank x = at_most p.right x P X h in
    let b : rank x ≤ rank q.left = at_most x q.left X Q k in
    let d : rank p.right ≤ rank q.left = omega arith in
    shut (ltb t s) (ltb s t) (lt (p.left ⊕ shrinking) q.right) (lt q.left (p.right ⊖ shrinking)) (lt (q.left ⊕ shrinking) p.right) (lt p.left (q.right ⊖ shrinking))
    (lt (p.top ⊕ shrinking) q.bottom && lt q.top (p.bottom ⊖ shrinking)) (lt (q.top ⊕ shrinking) p.bottom && lt p.top (q.bottom ⊖ shrinking))
    (own p.right q.left P Q d) (other p.right q.left P Q d)
  where
    none : (i a : Bool) (e : Bool) → (i && ((a && false) && e)) ≡ false
    none true true e = refl
    none true false e = refl
    none false a e = refl

    shut : (i j a b c d e f : Bool) → b ≡ false → c ≡ false → (i && ((a && b) && e)) || (j && ((c && d) && f)) ≡ false
    shut i j a b c d e f g h = rw (g, h, none i a e) (last j)
      where
        last : (j : Bool) → (j && false) ≡ false
        last true = refl
        last false = refl
