-- The bounds of a drawing station by station, and bars bus by bus: what is left of a scan. Assumes nothing.
use mathlib.Core.Path.{◌≡◌, sym, ap, ◌∙◌}
use mathlib.Core.List.{List}
use Prim.Native.Nat.{ℕ, ◌+◌, ◌*◌, ◌≤◌, ◌<◌}
use lib.ListN.{get_or}
use lib.Ieee.{Float}
use Rattle.plane.specs.declared.geometry.Box.{Box}
use Rattle.plane.specs.Plane.{box_at, no_box}
use Rattle.network.specs.Words.{occupied}
use Rattle.network.specs.Views.{counts_in, boxes_in}
use Rattle.network.proofs.Views.{get_d_boxes}
use Rattle.network.proofs.Rest.{onward, onward_start, onward_yes, onward_no, onward_end}
use Rattle.results.specs.Bounds.{around, around_all, nowhere}

-- ---- the box around the occupied stations' boxes
module _ (k : ℕ) (st : List ℕ) (fs : List Float) where
  -- what the stations from s on add to b makes the whole
  abbrev pub Around : ℕ → Box → Type 0
  Around s b = around_all (boxes_in k fs) b (onward k st s) ≡ around_all (boxes_in k fs) nowhere (occupied (counts_in k st))

  pub around_start : (b : Box) → b ≡ nowhere → Around 0 b
  around_start b e = ap (λ (x : Box). around_all (boxes_in k fs) x (onward k st 0)) e ∙ ap (around_all (boxes_in k fs) nowhere) (onward_start k st)

  pub around_yes : (s : ℕ) (b c d : Box) → s < k → 0 < get_or st (2 * s) 0 → c ≡ box_at fs s → d ≡ around b c → Around s b → Around (s + 1) d
  unfolding around_all
  around_yes s b c d h p q e i =
      ap (λ (x : Box). around_all (boxes_in k fs) x (onward k st (s + 1))) (e ∙ ap (around b) (q ∙ sym (get_d_boxes k s fs no_box h)))
      ∙ sym (ap (around_all (boxes_in k fs) b) (onward_yes k st s h p)) ∙ i

  pub around_no : (s : ℕ) (b : Box) → s < k → get_or st (2 * s) 0 ≤ 0 → Around s b → Around (s + 1) b
  around_no s b h p i = sym (ap (around_all (boxes_in k fs) b) (onward_no k st s h p)) ∙ i

  pub around_end : (s : ℕ) (b : Box) → k ≤ s → Around s b → b ≡ around_all (boxes_in k fs) nowhere (occupied (counts_in k st))
  unfolding around_all
  around_end s b h i = sym (ap (around_all (boxes_in k fs) b) (onward_end k st s h)) ∙ i
