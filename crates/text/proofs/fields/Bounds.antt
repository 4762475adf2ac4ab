-- The bounds of what the readers of fields give. Assumes nothing.
use mathlib.Core.Path.{◌≡◌}
use mathlib.Core.List.{List, [], ◌∷◌}
use Prim.Native.Nat.{ℕ, ◌+◌, ◌*◌, ◌≤◌}
use native.Mathlib.Omega.{arith}
use lib.Dec.{eqb, ltb, leb}
use borrow.Author.Tests.{leb-true, ltb-true}
use Rattle.text.specs.Field.{Read, got, wrong, digit, closed, digits_to, limited, positive, whole}
use Rattle.std.proofs.lemmas.Int.{ints}
use Rattle.text.proofs.fields.Fields.{on_test, bus_number_end, bus_number_minus, bus_number_plus}

pub not_got : {A P : Type 0} {v : A} {l : List ℕ} → wrong ≡ got v l → P
not_got e = let z : ◌≡◌ {A = ℕ} 0 1 = cc in absurd (omega arith)

pub limited_got : (most : ℕ) (x : Read ℕ) (v : ℕ) (l : List ℕ) → limited most x ≡ got v l → (x ≡ got v l) × (v ≤ most)
unfolding limited
limited_got most wrong v l e = not_got e
limited_got most (got w k) v l e =
    on_test (leb w most)
    (λ f. let g : got w k ≡ got v l = rw (limited, f) at e in
    let q : w ≡ v = cc in
    (g, omega (arith, leb-true w most f)))
    (λ f. not_got (rw (limited, f) at e))

pub digits_least : (stop v : ℕ) (x : List ℕ) (w : ℕ) (l : List ℕ) → digits_to stop v x ≡ got w l → v ≤ w
unfolding digits_to
digits_least stop v [] w l e = not_got e
digits_least stop v (c ∷ x) w l e =
    on_test (eqb c stop)
    (λ f. let g : got v x ≡ got w l = rw (digits_to, f) at e in
    let q : v ≡ w = cc in
    omega arith)
    (λ f. on_test (ltb (digit c) 10)
    (λ g. omega (arith, digits_least stop (v * 10 + digit c) x w l (rw (digits_to, f, g) at e)))
    (λ g. not_got (rw (digits_to, f, g) at e)))

pub positive_bounds : (stop most : ℕ) (x : List ℕ) (v : ℕ) (l : List ℕ) → positive stop most x ≡ got v l → (1 ≤ v) × (v ≤ most)
unfolding positive
positive_bounds stop most [] v l e = not_got e
positive_bounds stop most (c ∷ x) v l e =
    on_test (ltb 0 (digit c))
    (λ f. on_test (ltb (digit c) 10)
    (λ g. let h : (digits_to stop (digit c) x ≡ got v l) × (v ≤ most) = limited_got most (digits_to stop (digit c) x) v l (rw (positive, f, g) at e) in
    (omega (arith, digits_least stop (digit c) x v l h.0, ltb-true 0 (digit c) f), h.1))
    (λ g. not_got (rw (positive, f, g) at e)))
    (λ f. not_got (rw (positive, f) at e))

pub closed_got : (stop w : ℕ) (x : List ℕ) (v : ℕ) (l : List ℕ) → closed stop w x ≡ got v l → v ≡ w
unfolding closed
closed_got stop w [] v l e = not_got e
closed_got stop w (c ∷ x) v l e =
    on_test (eqb c stop)
    (λ f. let g : got w x ≡ got v l = rw (closed, f) at e in cc)
    (λ f. not_got (rw (closed, f) at e))

pub whole_most : (stop most : ℕ) (x : List ℕ) (v : ℕ) (l : List ℕ) → whole stop most x ≡ got v l → v ≤ most
unfolding whole
whole_most stop most [] v l e = not_got e
whole_most stop most (c ∷ x) v l e =
    on_test (eqb c 48)
    (λ f. omega (arith, closed_got stop 0 x v l (rw (whole, f) at e)))
    (λ f. (positive_bounds stop most (c ∷ x) v l (rw (whole, f) at e)).1)

pub ruleset bus_number_laws = (bus_number_end, bus_number_minus, bus_number_plus, positive_bounds, whole_most, ints)
