-- A signed number of 32 bits as the machine reads it from its bits, and the test that both numbers of a pair are at most so much in size. Assumes nothing.
use mathlib.Core.Path.{◌≡◌, sym, ap, ◌∙◌, subst}
use mathlib.Core.Bool.{Bool, false, ◌&&◌}
use Prim.Native.Nat.{ℕ, ◌≤◌, ◌<◌}
use native.Mathlib.Omega.{arith}
use borrow.Author.Tests.{le-leb, lt-leb}
use lib.Dec.{leb}
use lib.IntN.{ℤ, nat_abs}
use mir.Syntax.{w32, w64}
use mir.Val.{SFits, to_z, of_z}
use mir.Facts.{to_z-of_z}
use Rattle.offsets.specs.declared.offset.Offset.{Offset}
use Rattle.offset_table.specs.Table.{inside}

module _ (z : ℤ) (F : SFits w32 z) where
  pub widened : SFits w64 (to_z w32 (of_z w32 z))
  widened = subst (SFits w64) (sym (to_z-of_z F)) (record { sfits = omega (arith, F.sfits) })

  pub read : to_z w64 (of_z w64 (to_z w32 (of_z w32 z))) ≡ z
  read = to_z-of_z widened ∙ to_z-of_z F

-- ---- both numbers of a pair
pub inside_both : (search x y : ℕ) (o : Offset) → x ≡ nat_abs o.a → x ≤ search → y ≡ nat_abs o.b → leb y search ≡ inside search o
unfolding inside
inside_both search x y o X h Y =
    ap (λ (n : ℕ). leb n search) Y
    ∙ sym (ap (λ (t : Bool). t && leb (nat_abs o.b) search) (sym (ap (λ (n : ℕ). leb n search) X) ∙ le-leb x search h))

pub inside_not : (search x : ℕ) (o : Offset) → x ≡ nat_abs o.a → search < x → leb x search ≡ inside search o
unfolding inside
inside_not search x o X h =
    let f : leb x search ≡ false = lt-leb x search h in
    f ∙ sym (ap (λ (t : Bool). t && leb (nat_abs o.b) search) (sym (ap (λ (n : ℕ). leb n search) X) ∙ f))
