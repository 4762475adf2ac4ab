-- A list of boxes' numbers, four side by side, holds these boxes, whatever follows it. Assumes nothing.
use mathlib.Core.Path.{◌≡◌, refl, ap, ◌∙◌}
use mathlib.Core.List.{List, [], ◌∷◌, ◌++◌}
use Prim.Native.Nat.{ℕ, zero, suc, ◌+◌, ◌*◌}
use native.Mathlib.Omega.{arith}
use lib.ListN.{length}
use lib.Ieee.{Float}
use Rattle.numbers.specs.Table.{table_from}
use Rattle.numbers.proofs.order.Tables.{table_ext}
use Rattle.plane.specs.declared.geometry.Box.{Box}
use Rattle.plane.specs.Plane.{box_at}
use Rattle.network.specs.Views.{boxes_in}
use Rattle.runs.specs.Lists.{flat, box_numbers}

shift : {A : Type 0} (f : ℕ → A) (a n : ℕ) → table_from f (suc a) n ≡ table_from (λ s. f (suc s)) a n
unfolding table_from
shift f a zero = refl
shift {A} f a (suc n) = ap (λ (l : List A). f (suc a) ∷ l) (shift f (suc a) n)

-- past the first box
next : (b : Box) (l : List Float) (s : ℕ) → box_at (box_numbers b ++ l) (suc s) ≡ box_at l s
next b l s =
    let e : 4 * suc s ≡ suc (suc (suc (suc (4 * s)))) = omega arith in
    let f : suc (suc (suc (suc (4 * s)))) + 1 ≡ suc (suc (suc (suc (4 * s + 1)))) = omega arith in
    let g : suc (suc (suc (suc (4 * s)))) + 2 ≡ suc (suc (suc (suc (4 * s + 2)))) = omega arith in
    let h : suc (suc (suc (suc (4 * s)))) + 3 ≡ suc (suc (suc (suc (4 * s + 3)))) = omega arith in
    rw (e, f, g, h) refl

pub boxes_read : (bs : List Box) (l : List Float) → boxes_in (length bs) (flat box_numbers bs ++ l) ≡ bs
unfolding boxes_in flat table_from
boxes_read [] l = refl
boxes_read (b ∷ bs) l =
    ap (λ (t : List Box). b ∷ t)
    (shift (box_at (flat box_numbers (b ∷ bs) ++ l)) 0 (length bs)
    ∙ table_ext (λ s. box_at (flat box_numbers (b ∷ bs) ++ l) (suc s)) (box_at (flat box_numbers bs ++ l)) (length bs) (λ s h. next b (flat box_numbers bs ++ l) s)
    ∙ boxes_read bs l)
