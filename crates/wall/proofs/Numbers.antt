-- Finite floats as numbers: equality as numbers is one of places, and two points are apart exactly where they don't coincide. Assumes nothing.
use Prim.Native.Nat.{ℕ, zero, suc, ◌+◌, ◌*◌, ◌≤◌, ◌<◌}
use mathlib.Core.Path.{◌≡◌, refl, sym, ap, subst, ◌∙◌}
use mathlib.Core.Bool.{Bool, true, false, not, ◌&&◌, ◌||◌, beq, true≢false}
use native.Mathlib.Omega.{arith}
use native.Mathlib.Nat.{mul-pos}
use lib.Dec.{T, ltb, eqb}
use lib.IntN.{ℤ, pos}
use lib.Ieee.{Float, nan, inf, fin, binary64, up, down, lt, eq, below, level, fits, add, sum, round}
use lib.Ieee.Fits.{add-fits, sub-fits, down_pos}
use borrow.Author.Tests.{lt-ltb, le-ltb, ltb-true, ltb-false, eq-eqb, eqb-true, eqb-false}
use Rattle.numbers.specs.Small.{abs_of, is_finite}
use Rattle.numbers.specs.Ops.{◌⊕◌, ◌⊖◌}
use Rattle.numbers.proofs.float.Signs.{zero_bits, no_magnitude}
use Rattle.numbers.proofs.float.Sums.{sub_zero, zero_round, add_commutes}
use Rattle.plane.specs.declared.geometry.Point.{Point}
use Rattle.placement.proofs.Rank.{rank, Number, lt_rank, add_up, sub_number, finite_number}
use Rattle.placement.proofs.Clear.{Good}
use Rattle.runs.specs.Run.{apart}
use Rattle.wall.specs.Wall.{coincide}

-- ---- equal as numbers: neither is below the other

flat_tri : (a b : ℕ) → (eqb a b && true) ≡ not (ltb a b || ltb b a)
flat_tri a b = go (eqb a b) refl
  where
    less : (u : Bool) → (a ≡ b → ⊥) → ltb a b ≡ u → true ≡ (u || ltb b a)
    less true n e = refl
    less false n e = let l : b ≤ a = ltb-false a b e in sym (lt-ltb b a (omega (arith, l, n)))

    go : (u : Bool) → eqb a b ≡ u → (u && true) ≡ not (ltb a b || ltb b a)
    go true e = let q : a ≡ b = eqb-true a b e in rw (le-ltb a b (omega (arith, q)), le-ltb b a (omega (arith, q))) refl
    go false e = ap not (less (ltb a b) (eqb-false a b e) refl)

cross_tri : (a b c : ℕ) → c ≡ a + b → (eqb a b && eqb a 0) ≡ not (ltb 0 c)
cross_tri a b c h = go (eqb a 0) refl
  where
    zero-case : (u : Bool) → a ≡ 0 → eqb a b ≡ u → (u && true) ≡ not (ltb 0 c)
    zero-case true z e = let q : a ≡ b = eqb-true a b e in rw (le-ltb 0 c (omega (arith, q, z, h))) refl
    zero-case false z e = let n : a ≡ b → ⊥ = eqb-false a b e in rw (lt-ltb 0 c (omega (arith, n, z, h))) refl

    none : (u : Bool) → false ≡ (u && false)
    none true = refl
    none false = refl

    go : (u : Bool) → eqb a 0 ≡ u → (eqb a b && u) ≡ not (ltb 0 c)
    go true e = zero-case (eqb a b) (eqb-true a 0 e) refl
    go false e = let n : a ≡ 0 → ⊥ = eqb-false a 0 e in sym (none (eqb a b)) ∙ ap not (sym (lt-ltb 0 c (omega (arith, n, h))))

level_tri : (s t : Bool) (a b : ℕ) → level s a t b ≡ not (below s a t b || below t b s a)
level_tri false false a b = flat_tri a b
level_tri false true a b = cross_tri a b (b + a) (omega arith)
level_tri true false a b = cross_tri a b (a + b) (omega arith) ∙ go (ltb 0 (a + b))
  where
    go : (u : Bool) → not u ≡ not (u || false)
    go true = refl
    go false = refl
level_tri true true a b = flat_tri a b ∙ go (ltb a b) (ltb b a)
  where
    go : (u v : Bool) → not (u || v) ≡ not (v || u)
    go true true = refl
    go true false = refl
    go false true = refl
    go false false = refl

eq_tri : (x y : Float) → T (is_finite x) → T (is_finite y) → eq x y ≡ not (lt x y || lt y x)
unfolding eq lt is_finite
eq_tri nan y p q = absurd p
eq_tri (inf s) y p q = absurd p
eq_tri (fin s m e) nan p q = absurd q
eq_tri (fin s m e) (inf t) p q = absurd q
eq_tri (fin s m e) (fin t n d) p q = level_tri s t (m * up e * down d) (n * up d * down e)

eq_place : (x y : Float) → Good x → Good y → eq x y ≡ not (ltb (rank x) (rank y) || ltb (rank y) (rank x))
eq_place x y g h =
    let a : lt x y ≡ ltb (rank x) (rank y) = lt_rank x y g.0 h.0 (finite_number x g.1) (finite_number y h.1) in
    let b : lt y x ≡ ltb (rank y) (rank x) = lt_rank y x h.0 g.0 (finite_number y h.1) (finite_number x g.1) in
    eq_tri x y g.1 h.1 ∙ ap (λ (u : Bool). not (u || lt y x)) a ∙ ap (λ (u : Bool). not (ltb (rank x) (rank y) || u)) b

pub place_eq : (x y : Float) → Good x → Good y → rank x ≡ rank y → T (eq x y)
place_eq x y g h e =
    let p : ltb (rank x) (rank y) ≡ false = le-ltb (rank x) (rank y) (omega (arith, e)) in
    let q : ltb (rank y) (rank x) ≡ false = le-ltb (rank y) (rank x) (omega (arith, e)) in
    subst T (sym (eq_place x y g h ∙ ap (λ (u : Bool). not (u || ltb (rank y) (rank x))) p ∙ ap (λ (u : Bool). not (false || u)) q)) tt

pub eq_same : (x y : Float) → Good x → Good y → T (eq x y) → rank x ≡ rank y
eq_same x y g h t = go (ltb (rank x) (rank y)) (ltb (rank y) (rank x)) refl refl (subst T (eq_place x y g h) t)
  where
    go : (u v : Bool) → ltb (rank x) (rank y) ≡ u → ltb (rank y) (rank x) ≡ v → T (not (u || v)) → rank x ≡ rank y
    go true v p q k = absurd k
    go false true p q k = absurd k
    go false false p q k = omega (arith, ltb-false (rank x) (rank y) p, ltb-false (rank y) (rank x) q)

-- ---- points

abbrev pub GoodPoint : Point → Type 0
GoodPoint p = Good p.x × Good p.y

abbrev pub At : Point → Point → Type 0
At p q = (rank p.x ≡ rank q.x) × (rank p.y ≡ rank q.y)

both : (a b : Bool) → T a → T b → T (a && b)
both true b p q = q
both false b p q = absurd p

left : (a b : Bool) → T (a && b) → T a
left true b p = tt
left false b p = absurd p

right : (a b : Bool) → T (a && b) → T b
right true b p = p
right false b p = absurd p

pub at_coincide : (p q : Point) → GoodPoint p → GoodPoint q → At p q → T (coincide p q)
unfolding coincide
at_coincide p q g h e =
    both (eq p.x q.x) (eq p.y q.y) (place_eq p.x q.x g.0 h.0 e.0) (place_eq p.y q.y g.1 h.1 e.1)

pub coincide_at : (p q : Point) → GoodPoint p → GoodPoint q → T (coincide p q) → At p q
unfolding coincide
coincide_at p q g h t = (
  eq_same p.x q.x g.0 h.0 (left (eq p.x q.x) (eq p.y q.y) t),
  eq_same p.y q.y g.1 h.1 (right (eq p.x q.x) (eq p.y q.y) t),
)

-- ---- the sum of two sizes is above zero unless both are zero

abs_fits : (x : Float) → T (fits binary64 x) → T (fits binary64 (abs_of x))
unfolding abs_of fits
abs_fits nan p = tt
abs_fits (inf s) p = tt
abs_fits (fin s zero e) p = p
abs_fits (fin s (suc m) e) p = p

nil_fits : T (fits binary64 (fin false 0 (pos 0)))
unfolding fits
nil_fits = tt

-- a size that isn't zero is above it
above_nil : (s : Bool) (m : ℕ) (e : ℤ) → eq (fin s m e) (fin false 0 (pos 0)) ≡ false → lt (fin false 0 (pos 0)) (fin false m e) ≡ true
unfolding eq lt
above_nil s m e h = go (eqb (m * up e * 1) (0 * 1 * down e)) refl h
  where
    z : 0 * 1 * down e ≡ 0
    z = omega arith

    flag : (u : Bool) → (u || true) ≡ true
    flag true = refl
    flag false = refl

    go : (u : Bool) → eqb (m * up e * 1) (0 * 1 * down e) ≡ u → (u && (beq s false || eqb (m * up e * 1) 0)) ≡ false
        → ltb (0 * 1 * down e) (m * up e * 1) ≡ true
    go true q k =
        let r : m * up e * 1 ≡ 0 = eqb-true _ _ q ∙ z in
        absurd (true≢false (sym (ap (λ (b : Bool). beq s false || b) (eq-eqb (m * up e * 1) 0 r) ∙ flag (beq s false)) ∙ k))
    go false q k =
        let n : m * up e * 1 ≡ 0 * 1 * down e → ⊥ = eqb-false _ _ q in
        lt-ltb (0 * 1 * down e) (m * up e * 1) (omega (arith, n, z))

-- a size that is zero has no magnitude
no_size : (s : Bool) (m : ℕ) (e : ℤ) → eq (fin s m e) (fin false 0 (pos 0)) ≡ true → m ≡ 0
unfolding eq
no_size s m e h =
    let t : eqb (m * up e * 1) (0 * 1 * down e) ≡ true = front (eqb (m * up e * 1) (0 * 1 * down e)) (beq s false || eqb (m * up e * 1) 0) h in
    let z : 0 * 1 * down e ≡ 0 = omega arith in
    no_magnitude m (up e) (up_pos e) (eqb-true _ _ t ∙ z)
  where
    front : (a b : Bool) → (a && b) ≡ true → a ≡ true
    front true b h = refl
    front false b h = h

    up_pos : (e : ℤ) → 0 < up e
    up_pos e = lib.Ieee.Fits.up_pos e

-- the sum of two such is above zero where the first is
module _ (m : ℕ) (e : ℤ) (n : ℕ) (d : ℤ) (f : T (fits binary64 (fin false m e))) where
  grows : lt (fin false 0 (pos 0)) (fin false m e) ≡ true → Number (add binary64 (fin false m e) (fin false n d)) → lt (fin false 0 (pos 0)) (add binary64 (fin false m e) (fin false n d)) ≡ true
  grows h k =
      let u : rank (fin false m e) ≤ rank (add binary64 (fin false m e) (fin false n d)) = add_up (fin false m e) (fin false n d) f (unfold is_finite in tt) tt in
      let v : ltb (rank (fin false 0 (pos 0))) (rank (fin false m e)) ≡ true = sym (lt_rank (fin false 0 (pos 0)) (fin false m e) nil_fits f tt tt) ∙ h in
      lt_rank (fin false 0 (pos 0)) (add binary64 (fin false m e) (fin false n d)) nil_fits (add-fits binary64 (fin false m e) (fin false n d)) tt k
      ∙ lt-ltb (rank (fin false 0 (pos 0))) (rank (add binary64 (fin false m e) (fin false n d)))
      (omega (arith, u, ltb-true (rank (fin false 0 (pos 0))) (rank (fin false m e)) v))

sum_number : (m : ℕ) (e : ℤ) (n : ℕ) (d : ℤ) → Number (add binary64 (fin false m e) (fin false n d))
sum_number m e n d = Rattle.placement.proofs.Rank.add_number (fin false m e) (fin false n d) (unfold is_finite in tt) (unfold is_finite in tt)

nothing : (s t : Bool) (e d : ℤ) → lt (fin false 0 (pos 0)) (add binary64 (fin false 0 e) (fin false 0 d)) ≡ false
unfolding add sum lt
nothing s t e d =
    let z : 0 * up e * down d + 0 * up d * down e ≡ 0 = omega arith in
    ap (λ (k : ℕ). lt (fin false 0 (pos 0)) (round binary64 false k (down e * down d))) z
    ∙ ap (lt (fin false 0 (pos 0))) (zero_round false (down e * down d) (mul-pos (down_pos e) (down_pos d)))

pub sizes : (u v : Float) → T (fits binary64 u) → T (fits binary64 v) → Number u → Number v
    → lt (fin false 0 (pos 0)) (add binary64 (abs_of u) (abs_of v)) ≡ not (eq u (fin false 0 (pos 0)) && eq v (fin false 0 (pos 0)))
unfolding abs_of
sizes nan v f g p q = absurd p
sizes (inf s) nan f g p q = absurd q
sizes (inf s) (inf t) f g p q = unfold add lt eq in refl
sizes (inf s) (fin t n d) f g p q = unfold add lt eq in refl
sizes (fin s m e) nan f g p q = absurd q
sizes (fin s m e) (inf t) f g p q = unfold add lt eq in go (level s (m * up e * 1) false (0 * 1 * down e))
  where
    go : (b : Bool) → true ≡ not (b && false)
    go true = refl
    go false = refl
sizes (fin s m e) (fin t n d) f g p q = go (eq (fin s m e) (fin false 0 (pos 0))) (eq (fin t n d) (fin false 0 (pos 0))) refl refl
  where
    go : (a b : Bool) → eq (fin s m e) (fin false 0 (pos 0)) ≡ a → eq (fin t n d) (fin false 0 (pos 0)) ≡ b
        → lt (fin false 0 (pos 0)) (add binary64 (fin false m e) (fin false n d)) ≡ not (a && b)
    go false b h k = grows m e n d (abs_fits (fin s m e) f) (above_nil s m e h) (sum_number m e n d)
    go true false h k =
        ap (lt (fin false 0 (pos 0))) (add_commutes (fin false m e) (fin false n d))
        ∙ grows n d m e (abs_fits (fin t n d) g) (above_nil t n d k) (sum_number n d m e)
    go true true h k =
        ap (λ (i : ℕ). lt (fin false 0 (pos 0)) (add binary64 (fin false i e) (fin false n d))) (no_size s m e h)
        ∙ ap (λ (i : ℕ). lt (fin false 0 (pos 0)) (add binary64 (fin false 0 e) (fin false i d))) (no_size t n d k)
        ∙ nothing s t e d

-- Two finite points are apart exactly where they don't coincide.
pub apart_is : (p q : Point) → GoodPoint p → GoodPoint q → apart p q ≡ not (coincide p q)
unfolding apart coincide
apart_is p q g h =
    ap (λ (z : Float). lt z (abs_of (p.x ⊖ q.x) ⊕ abs_of (p.y ⊖ q.y))) zero_bits
    ∙ sizes (p.x ⊖ q.x) (p.y ⊖ q.y) (sub-fits binary64 p.x q.x) (sub-fits binary64 p.y q.y)
    (sub_number p.x q.x g.0.1 h.0.1) (sub_number p.y q.y g.1.1 h.1.1)
    ∙ ap (λ (b : Bool). not (b && eq (p.y ⊖ q.y) (fin false 0 (pos 0)))) (sub_zero p.x q.x g.0.0 h.0.0 g.0.1 h.0.1)
    ∙ ap (λ (b : Bool). not (eq p.x q.x && b)) (sub_zero p.y q.y g.1.0 h.1.0 g.1.1 h.1.1)
