-- A box whose buffered box strictly overlaps no other doesn't overlap it in the audit's sense, whichever of the two is shrunk. Assumes nothing.
use Prim.Native.Nat.{◌≤◌, ◌<◌}
use mathlib.Core.Path.{◌≡◌, refl, sym, subst}
use mathlib.Core.Logic.{◌⊎◌, inl, inr}
use mathlib.Core.Bool.{Bool, true, false, not, ◌&&◌}
use native.Mathlib.Omega.{arith}
use lib.Dec.{T, ltb→lt, lt→ltb}
use lib.Count.{count_trailing_zeros}
use lib.Ieee.{Float, nan, inf, fin, binary64, add, sub, neg, lt, fits, of_bits, of_fields, odd}
use lib.Ieee.Fits.{add-fits, sub-fits, and_l, and_r, and_i}
use Rattle.numbers.specs.Small.{is_finite}
use Rattle.numbers.specs.Ops.{◌⊕◌, ◌⊖◌, ◌⊗◌}
use Rattle.plane.specs.declared.geometry.Point.{Point}
use Rattle.plane.specs.declared.geometry.Box.{Box}
use Rattle.plane.specs.Plane.{shrinking, shrunk}
use Rattle.plane.specs.Overlap.{meet, overlap}
use Rattle.placement.specs.Search.{HalfSides, box_on, buffered}
use Rattle.placement.proofs.Rank.{rank, Number, Plus, lt_rank, add_up, sub_down, add_number, sub_number, finite_number}

-- a finite float of the format
abbrev pub Good : Float → Type 0
Good x = T (fits binary64 x) × T (is_finite x)

shrinking_plus : Plus shrinking
unfolding of_bits of_fields odd count_trailing_zeros
shrinking_plus = tt

shrinking_finite : T (is_finite shrinking)
unfolding of_bits of_fields odd count_trailing_zeros is_finite
shrinking_finite = tt

plus_finite : (x : Float) → Plus x → T (is_finite x)
unfolding is_finite
plus_finite nan p = absurd p
plus_finite (inf s) p = absurd p
plus_finite (fin s m e) p = tt

step : (x x' y y' : Float) → T (fits binary64 x) → T (fits binary64 x') → T (fits binary64 y) → T (fits binary64 y') → Number x → Number x' → Number y → Number y'
    → rank x ≤ rank x' → rank y' ≤ rank y → T (lt x' y') → T (lt x y)
step x x' y y' f f' g g' p p' q q' h k t =
    let l : rank x' < rank y' = ltb→lt (rank x') (rank y') (subst T (lt_rank x' y' f' g' p' q') t) in
    subst T (sym (lt_rank x y f g p q)) (lt→ltb (rank x) (rank y) (omega arith))

-- a side b of the one box, a side q of the other; the one is moved out by g, one of them in by 1e-9
module _ (b q g : Float) (B : Good b) (Q : Good q) (G : Plus g) where
  low : T (lt (b ⊕ shrinking) q) → T (lt (b ⊖ g) q)
  low =
      let u : rank (b ⊖ g) ≤ rank b = sub_down b g B.0 B.1 G in
      let v : rank b ≤ rank (b ⊕ shrinking) = add_up b shrinking B.0 B.1 shrinking_plus in
      step (b ⊖ g) (b ⊕ shrinking) q q (sub-fits binary64 b g) (add-fits binary64 b shrinking) Q.0 Q.0
      (sub_number b g B.1 (plus_finite g G)) (add_number b shrinking B.1 shrinking_finite) (finite_number q Q.1) (finite_number q Q.1) (omega arith) (omega arith)

  high : T (lt q (b ⊖ shrinking)) → T (lt q (b ⊕ g))
  high =
      let u : rank b ≤ rank (b ⊕ g) = add_up b g B.0 B.1 G in
      let v : rank (b ⊖ shrinking) ≤ rank b = sub_down b shrinking B.0 B.1 shrinking_plus in
      step q q (b ⊕ g) (b ⊖ shrinking) Q.0 Q.0 (add-fits binary64 b g) (sub-fits binary64 b shrinking)
      (finite_number q Q.1) (finite_number q Q.1) (add_number b g B.1 (plus_finite g G)) (sub_number b shrinking B.1 shrinking_finite) (omega arith) (omega arith)

  low_other : T (lt b (q ⊖ shrinking)) → T (lt (b ⊖ g) q)
  low_other =
      let u : rank (b ⊖ g) ≤ rank b = sub_down b g B.0 B.1 G in
      let v : rank (q ⊖ shrinking) ≤ rank q = sub_down q shrinking Q.0 Q.1 shrinking_plus in
      step (b ⊖ g) b q (q ⊖ shrinking) (sub-fits binary64 b g) B.0 Q.0 (sub-fits binary64 q shrinking)
      (sub_number b g B.1 (plus_finite g G)) (finite_number b B.1) (finite_number q Q.1) (sub_number q shrinking Q.1 shrinking_finite) u v

  high_other : T (lt (q ⊕ shrinking) b) → T (lt q (b ⊕ g))
  high_other =
      let u : rank b ≤ rank (b ⊕ g) = add_up b g B.0 B.1 G in
      let v : rank q ≤ rank (q ⊕ shrinking) = add_up q shrinking Q.0 Q.1 shrinking_plus in
      step q (q ⊕ shrinking) (b ⊕ g) b Q.0 (add-fits binary64 q shrinking) (add-fits binary64 b g) B.0
      (finite_number q Q.1) (add_number q shrinking Q.1 shrinking_finite) (add_number b g B.1 (plus_finite g G)) (finite_number b B.1) v u

-- a number that isn't negative, infinity among them
abbrev pub Outward : Float → Type 0
Outward nan = ⊥
Outward (inf s) = T (not s)
Outward (fin s m e) = T (not s)

outward_cases : (x : Float) → Outward x → Plus x ⊎ (x ≡ inf false)
outward_cases nan h = absurd h
outward_cases (inf true) h = absurd h
outward_cases (inf false) h = inr refl
outward_cases (fin true m e) h = absurd h
outward_cases (fin false m e) h = inl tt

-- a side moved out without end lies past every finite one
far_low : (b q : Float) → Good b → Good q → T (lt (b ⊖ inf false) q)
unfolding sub neg add lt is_finite
far_low nan q B Q = absurd B.1
far_low (inf s) q B Q = absurd B.1
far_low (fin s m e) nan B Q = absurd Q.1
far_low (fin s m e) (inf t) B Q = absurd Q.1
far_low (fin s m e) (fin t n d) B Q = tt

far_high : (b q : Float) → Good b → Good q → T (lt q (b ⊕ inf false))
unfolding add lt is_finite
far_high nan q B Q = absurd B.1
far_high (inf s) q B Q = absurd B.1
far_high (fin s m e) nan B Q = absurd Q.1
far_high (fin s m e) (inf t) B Q = absurd Q.1
far_high (fin s m e) (fin t n d) B Q = tt

module _ (b q g : Float) (B : Good b) (Q : Good q) (G : Outward g) where
  out_low : {A : Type 0} → (Plus g → A → T (lt (b ⊖ g) q)) → A → T (lt (b ⊖ g) q)
  out_low {A} f a = go (outward_cases g G)
    where
      go : Plus g ⊎ (g ≡ inf false) → T (lt (b ⊖ g) q)
      go (inl p) = f p a
      go (inr e) = subst (λ (x : Float). T (lt (b ⊖ x) q)) (sym e) (far_low b q B Q)

  out_high : {A : Type 0} → (Plus g → A → T (lt q (b ⊕ g))) → A → T (lt q (b ⊕ g))
  out_high {A} f a = go (outward_cases g G)
    where
      go : Plus g ⊎ (g ≡ inf false) → T (lt q (b ⊕ g))
      go (inl p) = f p a
      go (inr e) = subst (λ (x : Float). T (lt q (b ⊕ x))) (sym e) (far_high b q B Q)

  low_out : T (lt (b ⊕ shrinking) q) → T (lt (b ⊖ g) q)
  low_out = out_low (λ p. low b q g B Q p)

  high_out : T (lt q (b ⊖ shrinking)) → T (lt q (b ⊕ g))
  high_out = out_high (λ p. high b q g B Q p)

  low_other_out : T (lt b (q ⊖ shrinking)) → T (lt (b ⊖ g) q)
  low_other_out = out_low (λ p. low_other b q g B Q p)

  high_other_out : T (lt (q ⊕ shrinking) b) → T (lt q (b ⊕ g))
  high_other_out = out_high (λ p. high_other b q g B Q p)

-- four finite sides
pub record Whole (b : Box) : Type 0 where
  pub left : Good b.left
  pub top : Good b.top
  pub right : Good b.right
  pub bottom : Good b.bottom

four : (a b c d a' b' c' d' : Bool) → (T a → T a') → (T b → T b') → (T c → T c') → (T d → T d') → T ((a && b) && (c && d)) → T ((a' && b') && (c' && d'))
four a b c d a' b' c' d' f g h k t =
    let x = and_l (a && b) (c && d) t in
    let y = and_r (a && b) (c && d) t in
    and_i (a' && b') (c' && d') (and_i a' b' (f (and_l a b x)) (g (and_r a b x))) (and_i c' d' (h (and_l c d y)) (k (and_r c d y)))

turned : (a b c d a' b' c' d' : Bool) → (T b → T a') → (T a → T b') → (T d → T c') → (T c → T d') → T ((a && b) && (c && d)) → T ((a' && b') && (c' && d'))
turned a b c d a' b' c' d' f g h k t =
    let x = and_l (a && b) (c && d) t in
    let y = and_r (a && b) (c && d) t in
    and_i (a' && b') (c' && d') (and_i a' b' (f (and_r a b x)) (g (and_l a b x))) (and_i c' d' (h (and_r c d y)) (k (and_l c d y)))

module _ (c : Point) (r : HalfSides) (G : Outward (r.f ⊗ r.buffer)) (W : Whole (box_on c r.half)) (q : Box) (Q : Whole q) where
  abbrev b : Box
  b = box_on c r.half

  abbrev g : Float
  g = r.f ⊗ r.buffer

  -- the box itself is shrunk
  pub over_own : T (overlap (shrunk (box_on c r.half)) q) → T (overlap (buffered c r) q)
  unfolding overlap meet buffered box_on
  over_own =
      four (lt (b.left ⊕ shrinking) q.right) (lt q.left (b.right ⊖ shrinking)) (lt (b.top ⊕ shrinking) q.bottom) (lt q.top (b.bottom ⊖ shrinking))
      (lt (b.left ⊖ g) q.right) (lt q.left (b.right ⊕ g)) (lt (b.top ⊖ g) q.bottom) (lt q.top (b.bottom ⊕ g))
      (low_out b.left q.right g W.left Q.right G) (high_out b.right q.left g W.right Q.left G)
      (low_out b.top q.bottom g W.top Q.bottom G) (high_out b.bottom q.top g W.bottom Q.top G)

  -- the other is
  pub over_other : T (overlap (shrunk q) (box_on c r.half)) → T (overlap (buffered c r) q)
  unfolding overlap meet buffered box_on
  over_other =
      turned (lt (q.left ⊕ shrinking) b.right) (lt b.left (q.right ⊖ shrinking)) (lt (q.top ⊕ shrinking) b.bottom) (lt b.top (q.bottom ⊖ shrinking))
      (lt (b.left ⊖ g) q.right) (lt q.left (b.right ⊕ g)) (lt (b.top ⊖ g) q.bottom) (lt q.top (b.bottom ⊕ g))
      (low_other_out b.left q.right g W.left Q.right G) (high_other_out b.right q.left g W.right Q.left G)
      (low_other_out b.top q.bottom g W.top Q.bottom G) (high_other_out b.bottom q.top g W.bottom Q.top G)
