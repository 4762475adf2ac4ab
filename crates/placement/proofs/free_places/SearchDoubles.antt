-- The search for a free place in two drawings, the second one's lengths doubled: the same places are free, and the place found is the doubled place. Assumes nothing.
use mathlib.Core.Path.{◌≡◌, refl, sym, ap, ◌∙◌, subst}
use mathlib.Core.Bool.{Bool, true, false, not, ◌&&◌}
use mathlib.Core.List.{List, [], ◌∷◌}
use Prim.Native.Nat.{ℕ, ◌+◌, ◌*◌, ◌^◌, ◌≤◌}
use native.Mathlib.Nat.{le_refl, le_of_eq}
use native.Mathlib.Omega.{arith}
use lib.IntN.{ℤ, nat_abs}
use lib.Dec.{lit≤}
use lib.Ieee.{Float, of_bits, fits}
use Rattle.numbers.specs.Small.{is_finite}
use Rattle.numbers.specs.Hypot.{grains}
use Rattle.numbers.specs.Ops.{int, f1, f2, f4, ◌⊕◌, ◌⊗◌}
use Rattle.numbers.specs.Double.{Stepped, Limit, Doubles}
use Rattle.numbers.proofs.float.DoublePairs.{lt_of_doubles, widen_doubles, max_doubles, add_doubles, sub_doubles, mul_doubles, mul_doubles_2, int_stepped}
use Rattle.numbers.proofs.float.DoubleRange.{widen_to}
use Rattle.numbers.specs.Order.{pick}
use Rattle.plane.specs.declared.geometry.Point.{Point}
use Rattle.plane.specs.declared.geometry.Box.{Box}
use Rattle.plane.specs.Overlap.{overlap}
use Rattle.stations.specs.Size.{Size}
use Rattle.stations.specs.Doubles.{DoublesPoint, DoublesSize, Paired}
use Rattle.offsets.specs.declared.offset.Offset.{Offset}
use Rattle.std.specs.Prelude.{Option, Some, None, unwrap_or}
use Rattle.placement.specs.Search.{HalfSides, box_on, buffered, free, place, first_free, place_for}
use Rattle.placement.specs.Doubles.{DoublesBox, DoublesHalfSides, DoublesFound, Small, SearchLimits}

-- ---- 1, 2 and 4
one : Stepped 1074 (2 ^ 1074) f1
unfolding fits is_finite grains of_bits
one = record { number = record { held = tt; finite = tt }; count = 1; grid = refl; size = le_refl (2 ^ 1074) }

two : Stepped 1074 (4 * 2 ^ 1074) f2
unfolding fits is_finite grains of_bits
two = record { number = record { held = tt; finite = tt }; count = 2; grid = refl; size = lit≤ tt }

four : Stepped 1074 (4 * 2 ^ 1074) f4
unfolding fits is_finite grains of_bits
four = record { number = record { held = tt; finite = tt }; count = 4; grid = refl; size = lit≤ tt }

one_wide : Stepped 1074 (4 * 2 ^ 1074) f1
one_wide = widen_to 1074 (4 * 2 ^ 1074) (le_refl 1074) (lit≤ tt) one

more : (t a : ℕ) → t ≤ t + a
more t a = omega arith

-- ---- boxes
pub box_doubles : {lo t u : ℕ} (c c' : Point) (z z' : Size) → DoublesPoint lo t c c' → DoublesSize lo u z z' → Limit (t + u) → DoublesBox lo (t + u) (box_on c z) (box_on c' z')
unfolding box_on
box_doubles c c' z z' p q l = record { left = sub_doubles p.x q.w l; top_side = sub_doubles p.y q.h l; right = add_doubles p.x q.w l; bottom = add_doubles p.y q.h l }

pub buffered_doubles : {lo t u : ℕ} (c c' : Point) (r r' : HalfSides) → DoublesPoint lo t c c' → DoublesHalfSides lo u r r' → Limit (8 * u) → Limit (t + u) → Limit (t + u + 8 * u) → DoublesBox lo (t + u + 8 * u) (buffered c r) (buffered c' r')
unfolding buffered
buffered_doubles {lo} {t} {u} c c' r r' p q i l m =
    let fine : Doubles (lo + 53) (8 * u) (r.f ⊗ r.buffer) (r'.f ⊗ r.buffer) = mul_doubles (lo + 53) (8 * u) q.f q.kept_free (digits lo) (enough lo) (le_of_eq (flat u (2 ^ 1074))) i in
    let g : Doubles lo (8 * u) (r.f ⊗ r.buffer) (r'.f ⊗ r'.buffer) = subst (λ (b : Float). Doubles lo (8 * u) (r.f ⊗ r.buffer) (r'.f ⊗ b)) (sym q.same) (widen_doubles lo (8 * u) (more lo 53) (le_refl (8 * u)) fine) in
    record {
      left = sub_doubles (sub_doubles p.x q.half.w l) g m;
      top_side = sub_doubles (sub_doubles p.y q.half.h l) g m;
      right = add_doubles (add_doubles p.x q.half.w l) g m;
      bottom = add_doubles (add_doubles p.y q.half.h l) g m;
    }
  where
    digits : (lo : ℕ) → lo + 53 + 1074 ≡ lo + 106 + 1021
    digits lo = omega arith

    enough : (lo : ℕ) → 52 ≤ lo + 53
    enough lo = omega arith

    flat : (u w : ℕ) → u * (8 * w) ≡ 8 * u * w
    flat u w = omega arith

pub overlap_of_doubles : {i j t u : ℕ} (p p' q q' : Box) → DoublesBox i t p p' → DoublesBox j u q q' → overlap p' q' ≡ overlap p q
unfolding overlap
overlap_of_doubles p p' q q' f g =
    let a = lt_of_doubles f.left g.right in
    let b = lt_of_doubles g.left f.right in
    let c = lt_of_doubles f.top_side g.bottom in
    let d = lt_of_doubles g.top_side f.bottom in
    cc (a, b, c, d)

pub free_of_doubles : {i t : ℕ} (j u : ℕ) (p p' : Box) (earlier earlier' : List Box) → DoublesBox i t p p' → Paired (DoublesBox j u) earlier earlier' → free p' earlier' ≡ free p earlier
unfolding free
free_of_doubles j u p p' [] [] f h = refl
free_of_doubles j u p p' [] (q' ∷ qs') f h = absurd h
free_of_doubles j u p p' (q ∷ qs) [] f h = absurd h
free_of_doubles j u p p' (q ∷ qs) (q' ∷ qs') f h =
    ap (λ (b : Bool). not b && free p' qs') (overlap_of_doubles p p' q q' f h.0) ∙ ap (λ (b : Bool). not (overlap p q) && b) (free_of_doubles j u p p' qs qs' f h.1)

-- ---- the place of an offset
offset_doubles : {lo t u : ℕ} {x x' y y' widening : Float} (a : ℤ) → nat_abs a ≤ 20 → Doubles lo t x x' → Doubles lo u y y' → Stepped 1074 (4 * 2 ^ 1074) widening → SearchLimits lo t u
    → Doubles lo (t + 80 * u) (x ⊕ int a ⊗ y ⊗ widening) (x' ⊕ int a ⊗ y' ⊗ widening)
offset_doubles {lo} {t} {u} {x} {x'} {y} {y'} a h f g w r =
    let p : Doubles lo (20 * u) (int a ⊗ y) (int a ⊗ y') = mul_doubles_2 lo (20 * u) (int_stepped a 20 h (lit≤ tt)) g refl r.fine (le_of_eq (flat u (2 ^ 1074))) r.offset in
    let q = mul_doubles lo (80 * u) p w refl r.fine (le_of_eq (flat-2 u (2 ^ 1074))) r.widened in
    add_doubles f q r.place
  where
    flat : (u w : ℕ) → u * (20 * w) ≡ 20 * u * w
    flat u w = omega arith

    flat-2 : (u w : ℕ) → 20 * u * (4 * w) ≡ 80 * u * w
    flat-2 u w = omega arith

pub place_doubles : {lo t u : ℕ} (seed seed' : Point) (z z' : Size) (widening : Float) (o : Offset) → nat_abs o.a ≤ 20 → nat_abs o.b ≤ 20 → DoublesPoint lo t seed seed' → DoublesSize lo u z z'
    → Stepped 1074 (4 * 2 ^ 1074) widening → SearchLimits lo t u → DoublesPoint lo (t + 80 * u) (place seed z widening o) (place seed' z' widening o)
unfolding place
place_doubles seed seed' z z' widening o a b p q w r =
    let m = max_doubles q.w q.h in
    record { x = offset_doubles o.a a p.x m w r; y = offset_doubles o.b b p.y m w r }

-- ---- the search
pick_found : (lo top : ℕ) (b : Bool) (f f' g g' : Option Point) → DoublesFound lo top f f' → DoublesFound lo top g g' → DoublesFound lo top (pick b f g) (pick b f' g')
pick_found lo top true f f' g g' h k = h
pick_found lo top false f f' g g' h k = k

next_doubles : (lo top : ℕ) (f f' : Option Point) (d d' : Point) → DoublesFound lo top f f' → DoublesPoint lo top d d' → DoublesPoint lo top (unwrap_or f d) (unwrap_or f' d')
next_doubles lo top (Some c) (Some c') d d' h k = h
next_doubles lo top (Some c) None d d' h k = absurd h
next_doubles lo top None (Some c') d d' h k = absurd h
next_doubles lo top None None d d' h k = k

module _ {lo t u : ℕ} (j v : ℕ) (seed seed' : Point) (r r' : HalfSides) (earlier earlier' : List Box) (p : DoublesPoint lo t seed seed') (q : DoublesHalfSides lo u r r') (e : Paired (DoublesBox j v) earlier earlier') (R : SearchLimits lo t u) where
  pub found_doubles : (widening : Float) → Stepped 1074 (4 * 2 ^ 1074) widening → (os : List Offset) → Small os → DoublesFound lo (t + 80 * u) (first_free seed r earlier widening os) (first_free seed' r' earlier' widening os)
  unfolding first_free
  found_doubles widening w [] h = tt
  found_doubles widening w (o ∷ os) h =
      let c = place seed r.half widening o in
      let c' = place seed' r'.half widening o in
      let l = first_free seed r earlier widening os in
      let l' = first_free seed' r' earlier' widening os in
      let k : DoublesPoint lo (t + 80 * u) c c' = place_doubles seed seed' r.half r'.half widening o h.0 h.1 p q.half w R in
      subst (λ (b : Bool). DoublesFound lo (t + 80 * u) (pick (free (buffered c r) earlier) (Some c) l) (pick b (Some c') l'))
      (sym (free_of_doubles j v (buffered c r) (buffered c' r') earlier earlier' (buffered_doubles c c' r r' k q R.kept_free R.box R.buffer) e))
      (pick_found lo (t + 80 * u) (free (buffered c r) earlier) (Some c) (Some c') l l' k (found_doubles widening w os h.2))

  pub search_doubles : (os : List Offset) → Small os → DoublesPoint lo (t + 80 * u) (place_for seed r earlier os) (place_for seed' r' earlier' os)
  unfolding place_for
  search_doubles os h =
      next_doubles lo (t + 80 * u) (first_free seed r earlier f1 os) (first_free seed' r' earlier' f1 os) _ _ (found_doubles f1 one_wide os h)
      (next_doubles lo (t + 80 * u) (first_free seed r earlier f2 os) (first_free seed' r' earlier' f2 os) _ _ (found_doubles f2 two os h)
      (next_doubles lo (t + 80 * u) (first_free seed r earlier f4 os) (first_free seed' r' earlier' f4 os) _ _ (found_doubles f4 four os h)
      (record { x = widen_doubles lo (t + 80 * u) (le_refl lo) (more t (80 * u)) p.x; y = widen_doubles lo (t + 80 * u) (le_refl lo) (more t (80 * u)) p.y })))
