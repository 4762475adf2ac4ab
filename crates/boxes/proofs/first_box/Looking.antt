-- The box entered first station by station, and the box of one station. Assumes nothing.
use mathlib.Core.Path.{◌≡◌, sym, ap, ◌∙◌}
use mathlib.Core.List.{List}
use Prim.Native.Nat.{ℕ, ◌+◌, ◌-◌, ◌*◌, ◌≤◌, ◌<◌}
use native.Mathlib.Omega.{arith}
use borrow.Author.Tests.{ne_eqb}
use lib.ListN.{length, get_or, take, drop, get_or-eq_default}
use lib.Ieee.{Float, nan}
use Rattle.std.proofs.lemmas.List.{get_or-take, get_or-drop}
use Rattle.plane.specs.declared.geometry.Point.{Point}
use Rattle.plane.specs.declared.geometry.Box.{Box}
use Rattle.network.specs.Words.{occupied}
use Rattle.network.specs.Views.{counts_in, boxes_in}
use Rattle.network.proofs.Views.{length_boxes, get_d_boxes}
use Rattle.plane.specs.Plane.{no_box, box_at, box_in}
use Rattle.plane.specs.Entry.{enters}
use Rattle.network.proofs.Rest.{onward, onward_start, onward_yes, onward_no, onward_end}
use Rattle.std.specs.Prelude.{Option, None}
use Rattle.boxes.specs.First.{entry_at, sooner, look}

pub box_past : (k s : ℕ) (fs : List Float) → k ≤ s → box_in (boxes_in k fs) s ≡ no_box
box_past k s fs h = let l : length (boxes_in k fs) ≤ s = omega (arith, length_boxes k fs) in get_or-eq_default (boxes_in k fs) no_box {n = s} l

-- the part of the list that holds four numbers of station s
abbrev part : ℕ → List Float → List Float
part s fs = take (4 * s + 4 - 4 * s) (drop (4 * s) fs)

part_at : (s i j : ℕ) (fs : List Float) → i < 4 → j ≡ 4 * s + i → get_or (part s fs) i nan ≡ get_or fs j nan
part_at s i j fs h e = get_or-take (4 * s + 4 - 4 * s) (drop (4 * s) fs) i nan (omega arith) ∙ get_or-drop (4 * s) fs i nan ∙ ap (λ n. get_or fs n nan) (sym e)

abbrev sides : Float → Float → Float → Float → Box
sides l t r b = record { left = l; top = t; right = r; bottom = b }

pub box_part : (k s : ℕ) (fs : List Float) → s < k → box_at (part s fs) 0 ≡ box_in (boxes_in k fs) s
box_part k s fs h =
    let x = get_or fs (4 * s) nan in
    let y = get_or fs (4 * s + 1) nan in
    let z = get_or fs (4 * s + 2) nan in
    let at = (λ (i : ℕ). get_or (part s fs) i nan) in
    ap (λ (l : Float). sides l (at 1) (at 2) (at 3)) (part_at s 0 (4 * s) fs (omega arith) (omega arith))
    ∙ (ap (λ (t : Float). sides x t (at 2) (at 3)) (part_at s 1 (4 * s + 1) fs (omega arith) (omega arith))
    ∙ (ap (λ (r : Float). sides x y r (at 3)) (part_at s 2 (4 * s + 2) fs (omega arith) (omega arith))
    ∙ (ap (sides x y z) (part_at s 3 (4 * s + 3) fs (omega arith) (omega arith))
    ∙ sym (get_d_boxes k s fs no_box h))))

pub entered : (bs : List Box) (p q : Point) (a b s : ℕ) (e : Option Float) (x : Box) → (s ≡ a → ⊥) → (s ≡ b → ⊥) → e ≡ enters p q x → x ≡ box_in bs s → e ≡ entry_at bs p q a b s
unfolding entry_at
entered bs p q a b s e x A B E X = rw (ne_eqb s a A, ne_eqb s b B) (E ∙ ap (enters p q) X)

-- a look at every station in turn: what the rest gives is what all give
module _ (k : ℕ) (st : List ℕ) (fs : List Float) (p q : Point) (a b : ℕ) where
  abbrev bs : List Box
  bs = boxes_in k fs

  abbrev pub Scanned : ℕ → Option (Float × ℕ) → Type 0
  Scanned s best = look bs p q a b (onward k st s) best ≡ look bs p q a b (occupied (counts_in k st)) None

  pub scanned_start : Scanned 0 None
  scanned_start = ap (λ (l : List ℕ). look bs p q a b l None) (onward_start k st)

  pub scanned_yes : (s : ℕ) (best next : Option (Float × ℕ)) → s < k → 0 < get_or st (2 * s) 0 → next ≡ sooner s (entry_at bs p q a b s) best → Scanned s best → Scanned (s + 1) next
  unfolding look
  scanned_yes s best next h o e i = ap (look bs p q a b (onward k st (s + 1))) e ∙ sym (ap (λ (l : List ℕ). look bs p q a b l best) (onward_yes k st s h o)) ∙ i

  pub scanned_no : (s : ℕ) (best : Option (Float × ℕ)) → s < k → get_or st (2 * s) 0 ≤ 0 → Scanned s best → Scanned (s + 1) best
  scanned_no s best h o i = sym (ap (λ (l : List ℕ). look bs p q a b l best) (onward_no k st s h o)) ∙ i

  pub scanned_end : (s : ℕ) (best : Option (Float × ℕ)) → k ≤ s → Scanned s best → best ≡ look bs p q a b (occupied (counts_in k st)) None
  unfolding look
  scanned_end s best h i = sym (ap (λ (l : List ℕ). look bs p q a b l best) (onward_end k st s h)) ∙ i

pub ruleset scanned = (scanned_start, scanned_yes, scanned_no, scanned_end)

pub ruleset box_laws = (get_d_boxes, box_past)
