-- The elements of an array that `from_fn` made, by a closure that keeps what it holds. Assumes nothing.
use Rattle.std.proofs.Common.{◌≡◌, ℕ, zero, suc, ◌+◌, ◌<◌, List, get_or, ◌∙◌, subst, arith}
use native.Mathlib.Nat.{not-suc-le-zero, zero-add}
use denote.Param.Members.{Mut, Called}
use Rattle.std.specs.Array.{IsFromFnResultFrom}

module _ {F B : Type 0} (g : Mut F (ℕ × Unit {0}) B) (h : ℕ → B) (ys : List B) where
  made : (f : F) (n a : ℕ) → IsFromFnResultFrom g f ys a n → ((i : ℕ) (y : B) (q : F) → Called g f (i, tt) y q → (q ≡ f) × (y ≡ h i)) → (i : ℕ) (d : B) → i < n → get_or ys (a + i) d ≡ h (a + i)
  made f zero a r k i d l = absurd (not-suc-le-zero l)
  made f (suc n) a r k zero d l = subst (λ (j : ℕ). get_or ys j d ≡ h j) (omega arith) (r.2.1 d ∙ (k a r.1 r.0 r.3).1)
  made f (suc n) a r k (suc i) d l =
      let rest : IsFromFnResultFrom g f ys (a + 1) n = subst (λ (p : F). IsFromFnResultFrom g p ys (a + 1) n) (k a r.1 r.0 r.3).0 r.4 in
      subst (λ (j : ℕ). get_or ys j d ≡ h j) (omega arith) (made f n (a + 1) rest k i d (omega arith))

  pub all_made : (f : F) (n : ℕ) → IsFromFnResultFrom g f ys 0 n → ((i : ℕ) (y : B) (q : F) → Called g f (i, tt) y q → (q ≡ f) × (y ≡ h i)) → (i : ℕ) (d : B) → i < n → get_or ys i d ≡ h i
  all_made f n r k i d l = subst (λ (j : ℕ). get_or ys j d ≡ h j) (zero-add i) (made f n 0 r k i d l)
