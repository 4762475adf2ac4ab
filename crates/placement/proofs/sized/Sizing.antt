-- Refusal 8 station by station: the largest side, the corners, and whether a station is occupied. Assumes nothing.
use mathlib.Core.Path.{◌≡◌, refl, sym, ap, ◌∙◌}
use mathlib.Core.Bool.{Bool, true, false, not, ◌||◌}
use mathlib.Core.List.{List, [], ◌∷◌}
use Prim.Native.Nat.{ℕ}
use native.Mathlib.Omega.{arith}
use lib.Dec.{ltb}
use lib.ListN.{length}
use lib.Ieee.{Float, eq}
use borrow.Author.Tests.{ltb-true, ltb-false}
use Rattle.numbers.specs.Ops.{f0}
use Rattle.plane.specs.declared.geometry.Box.{Box}
use Rattle.network.specs.Words.{occupied}
use Rattle.network.specs.Views.{counts_in, boxes_in}
use Rattle.network.proofs.Views.{get_d_boxes}
use Rattle.placement.specs.Sized.{largest, all_sized, ill_sized}
use Rattle.network.proofs.Rest.{onward, onward_start, onward_yes, onward_no, onward_end}

-- the corners' test over the stations from s on is the whole one
abbrev pub Same : ℕ → List ℕ → List Float → Float → ℕ → Type 0
Same k st fs l s = all_sized (boxes_in k fs) l (onward k st s) ≡ all_sized (boxes_in k fs) l (occupied (counts_in k st))

-- one of the stations from s on is occupied exactly if one of all is
abbrev pub Any : ℕ → List ℕ → ℕ → Type 0
Any k st s = ltb 0 (length (onward k st s)) ≡ ltb 0 (length (occupied (counts_in k st)))

-- the occupied stations from s on, and a station's box in the list of boxes
pub ruleset onward_laws = (onward_start, onward_yes, onward_no, onward_end, get_d_boxes)

-- ---- the refusal
pub ill_none : (bs : List Box) (ss : List ℕ) (b : Bool) → b ≡ ltb 0 (length ss) → b ≡ false → false ≡ ill_sized bs ss
unfolding ill_sized
ill_none bs [] b e f = refl
ill_none bs (s ∷ ss) b e f = absurd (omega (arith, ltb-false 0 (length (s ∷ ss)) (sym e ∙ f)))

ill_some : (bs : List Box) (ss : List ℕ) (b : Bool) (l : Float) → b ≡ ltb 0 (length ss) → b ≡ true → l ≡ largest bs f0 ss → ill_sized bs ss ≡ eq l f0 || not (all_sized bs l ss)
unfolding ill_sized
ill_some bs [] b l e f q = absurd (omega (arith, ltb-true 0 0 (sym e ∙ f)))
ill_some bs (s ∷ ss) b l e f q = ap (λ (x : Float). eq x f0 || not (all_sized bs x (s ∷ ss))) (sym q)

pub ill_empty : (bs : List Box) (ss : List ℕ) (b : Bool) (l : Float) → b ≡ ltb 0 (length ss) → b ≡ true → l ≡ largest bs f0 ss → eq l f0 ≡ true → true ≡ ill_sized bs ss
ill_empty bs ss b l e f q z = sym (ill_some bs ss b l e f q ∙ ap (λ (x : Bool). x || not (all_sized bs l ss)) z)

pub ill_far : (bs : List Box) (ss : List ℕ) (b : Bool) (l : Float) (m : Bool) → b ≡ ltb 0 (length ss) → b ≡ true → l ≡ largest bs f0 ss → eq l f0 ≡ false
    → m ≡ all_sized bs l ss → not m ≡ ill_sized bs ss
ill_far bs ss b l m e f q z n = ap not n ∙ sym (ill_some bs ss b l e f q ∙ ap (λ (x : Bool). x || not (all_sized bs l ss)) z)

pub ruleset ill_laws = (ill_none, ill_empty, ill_far)
