-- The tested parts of the columns of offsets: all places of one column have the same left and right edges, so the same tested part. Assumes nothing.
use mathlib.Core.Path.{◌≡◌, refl, sym, ap, subst, ◌∙◌}
use mathlib.Core.Bool.{Bool, true, false, ◌&&◌}
use mathlib.Core.List.{List}
use Prim.Native.Nat.{ℕ, ◌+◌, ◌-◌, ◌≤◌, ◌<◌}
use native.Mathlib.Omega.{arith}
use lib.Dec.{leb, eqb}
use lib.IntN.{ℤ, pos, negsuc, nat_abs}
use lib.ListN.{length, get_or, set, replicate, get_or-replicate}
use lib.Seq.{get_or-set_same, get_or-set_other}
use lib.Ieee.{Float}
use borrow.Author.Tests.{leb-true, eqb-true, eqb-false}
use Rattle.plane.specs.declared.geometry.Point.{Point}
use Rattle.plane.specs.declared.geometry.Box.{Box}
use Rattle.plane.specs.declared.box_order.TestedPart.{TestedPart}
use Rattle.plane.specs.Stages.Cells.{shifted, cell_key, from}
use Rattle.plane.specs.Stages.Kept.{Bounds}
use Rattle.offsets.specs.declared.offset.Offset.{Offset}
use Rattle.offset_table.specs.Table.{inside}
use Rattle.placement.specs.Search.{HalfSides, place, buffered}
use Rattle.placement.specs.Stages.Among.{column_of}

-- an offset within the search has its first number within it
pub column_within : (search : ℕ) (o : Offset) (t : Bool) → search ≤ 20 → t ≡ inside search o → t ≡ true → nat_abs o.a ≤ 20
unfolding inside
column_within search o t h e f = let l = leb-true (nat_abs o.a) search (left (leb (nat_abs o.a) search) (leb (nat_abs o.b) search) (sym e ∙ f)) in omega (arith, l, h)
  where
    left : (x y : Bool) → x && y ≡ true → x ≡ true
    left true y g = refl
    left false y g = g

-- ---- two columns have two numbers
shifted_apart : (z y : ℤ) → nat_abs z ≤ 20 → nat_abs y ≤ 20 → column_of z ≡ column_of y → z ≡ y
unfolding column_of
shifted_apart (pos n) (pos m) h k e = let f : n ≡ m = omega arith in ap pos f
shifted_apart (pos n) (negsuc m) h k e = absurd (omega arith)
shifted_apart (negsuc n) (pos m) h k e = absurd (omega arith)
shifted_apart (negsuc n) (negsuc m) h k e = let f : n ≡ m = omega arith in ap negsuc f

pub column_small : (z : ℤ) → nat_abs z ≤ 20 → column_of z < 41
unfolding column_of
column_small (pos n) h = omega arith
column_small (negsuc n) h = omega arith

pub column_code : (z z' : ℤ) (x : ℕ) → nat_abs z ≤ 20 → z' ≡ z → x ≡ shifted z' → (4503599627370476 ≤ x) × (x - 4503599627370476 ≡ column_of z) × (x - 4503599627370476 < 41)
unfolding column_of
column_code z z' x h e f = go (f ∙ ap shifted e) (least z h) (column_small z h)
  where
    least : (y : ℤ) → nat_abs y ≤ 20 → 4503599627370476 ≤ shifted y
    least (pos n) k = omega arith
    least (negsuc n) k = omega arith

    go : x ≡ shifted z → 4503599627370476 ≤ shifted z → shifted z - 4503599627370476 < 41 → (4503599627370476 ≤ x) × (x - 4503599627370476 ≡ shifted z - 4503599627370476) × (x - 4503599627370476 < 41)
    go g k l = (omega arith, omega arith, omega arith)

module _ (unit : Float) (seed : Point) (r : HalfSides) (widening : Float) (most : ℕ) (keys : List ℕ) where
  -- the box with its buffer at the place of a column's middle offset
  abbrev box_in : ℤ → Box
  box_in z = buffered (place seed r.half widening (record { a = z; b = pos 0 })) r

  -- where a column's end isn't 0, its two numbers are the tested part of its places
  abbrev pub Columns : List ℕ → List ℕ → Type 0
  Columns firsts ends = (z : ℤ) → nat_abs z ≤ 20 → 0 < get_or ends (column_of z) 0
      → Bounds unit (box_in z).left (box_in z).right most keys (record { first = get_or firsts (column_of z) 0; end = get_or ends (column_of z) 0 })

  pub columns_none : Columns (replicate 41 0) (replicate 41 0)
  columns_none z h k = absurd (omega (arith, k, get_or-replicate {A = ℕ} 41 (column_of z) 0 0 (column_small z h)))

  -- ---- the column of an offset within the search
  module _ (firsts ends : List ℕ) (C : Columns firsts ends) (o : Offset) (w : nat_abs o.a ≤ 20) (i : ℕ) (I : i ≡ column_of o.a) (c : Point) (P : c ≡ place seed r.half widening o)
      (p : Box) (Q : p ≡ buffered c r) where
    left_is : (box_in o.a).left ≡ p.left
    unfolding buffered place
    left_is = sym (ap (λ (q : Box). q.left) (Q ∙ ap (λ (x : Point). buffered x r) P))

    right_is : (box_in o.a).right ≡ p.right
    unfolding buffered place
    right_is = sym (ap (λ (q : Box). q.right) (Q ∙ ap (λ (x : Point). buffered x r) P))

    pub column_known : 0 < get_or ends i 0 → Bounds unit p.left p.right most keys (record { first = get_or firsts i 0; end = get_or ends i 0 })
    column_known k =
        subst (λ (x : Float). Bounds unit x p.right most keys (record { first = get_or firsts i 0; end = get_or ends i 0 })) left_is
        (subst (λ (x : Float). Bounds unit (box_in o.a).left x most keys (record { first = get_or firsts i 0; end = get_or ends i 0 })) right_is
        (subst (λ (j : ℕ). Bounds unit (box_in o.a).left (box_in o.a).right most keys (record { first = get_or firsts j 0; end = get_or ends j 0 })) (sym I)
        (C o.a w (subst (λ (j : ℕ). 0 < get_or ends j 0) I k))))

    pub column_more : (t : TestedPart) → Bounds unit p.left p.right most keys t → i < length firsts → i < length ends → Columns (set firsts i t.first) (set ends i t.end)
    column_more t B f e z h k = go (eqb (column_of z) i) refl
      where
        same : column_of z ≡ i → Bounds unit (box_in z).left (box_in z).right most keys (record { first = get_or (set firsts i t.first) (column_of z) 0; end = get_or (set ends i t.end) (column_of z) 0 })
        same s =
            let y : o.a ≡ z = sym (shifted_apart z o.a h w (s ∙ I)) in
            let x : get_or (set firsts i t.first) (column_of z) 0 ≡ t.first = ap (λ (j : ℕ). get_or (set firsts i t.first) j 0) s ∙ get_or-set_same firsts i t.first 0 f in
            let v : get_or (set ends i t.end) (column_of z) 0 ≡ t.end = ap (λ (j : ℕ). get_or (set ends i t.end) j 0) s ∙ get_or-set_same ends i t.end 0 e in
            subst (λ (q : ℤ). Bounds unit (box_in q).left (box_in q).right most keys (record { first = get_or (set firsts i t.first) (column_of z) 0; end = get_or (set ends i t.end) (column_of z) 0 })) y
            (record { begins = x ∙ B.begins ∙ ap (λ (q : Float). from (λ a. a) (cell_key unit q - most) keys) (sym left_is); ends = v ∙ B.ends ∙ ap (λ (q : Float). from (λ a. a) (cell_key unit q + 1) keys) (sym right_is) })

        other : (column_of z ≡ i → ⊥) → Bounds unit (box_in z).left (box_in z).right most keys (record { first = get_or (set firsts i t.first) (column_of z) 0; end = get_or (set ends i t.end) (column_of z) 0 })
        other s =
            let x : get_or (set firsts i t.first) (column_of z) 0 ≡ get_or firsts (column_of z) 0 = get_or-set_other firsts i (column_of z) t.first 0 s in
            let v : get_or (set ends i t.end) (column_of z) 0 ≡ get_or ends (column_of z) 0 = get_or-set_other ends i (column_of z) t.end 0 s in
            let b = C z h (subst (λ (m : ℕ). 0 < m) v k) in
            record { begins = x ∙ b.begins; ends = v ∙ b.ends }

        go : (b : Bool) → eqb (column_of z) i ≡ b → Bounds unit (box_in z).left (box_in z).right most keys (record { first = get_or (set firsts i t.first) (column_of z) 0; end = get_or (set ends i t.end) (column_of z) 0 })
        go true s = same (eqb-true (column_of z) i s)
        go false s = other (eqb-false (column_of z) i s)
