-- The larger sides of the occupied stations passed so far, in a loop over all: what a list holds of them at its front.
-- Assumes nothing.
use mathlib.Core.Path.{◌≡◌, sym, ap, ◌∙◌}
use mathlib.Core.List.{List, [], ◌∷◌, ◌++◌, map-append}
use Prim.Native.Nat.{ℕ, suc, ◌+◌, ◌*◌, ◌≤◌, ◌<◌}
use native.Mathlib.Numerals.{add-one}
use lib.ListN.{length, get_or, set, take}
use lib.Seq.{take-suc-set}
use lib.Ieee.{Float}
use Rattle.numbers.specs.Table.{which}
use Rattle.numbers.proofs.order.Tables.{which_zero}
use Rattle.network.specs.Words.{is_occupied}
use Rattle.network.specs.Views.{counts_in}
use Rattle.stations.specs.Size.{Size, size_at, larger, sides}
use Rattle.stations.specs.Stages.Views.{size_in, sizes_in}
use Rattle.network.proofs.Occupied.{passed, passed_yes}
use Rattle.stations.proofs.sizes.Blocks.{get_d_sizes}

pub sides_none : (k : ℕ) (st : List ℕ) (zs : List Size) → [] ≡ sides zs (passed k st 0)
unfolding sides
sides_none k st zs = ap (sides zs) (sym (which_zero (is_occupied (counts_in k st))))

module _ (k : ℕ) (st : List ℕ) (s : ℕ) (h : s < k) (g : 0 < get_or st (2 * s) 0) where
  pub sides_more : (bl frames : List Float) (r : ℕ) (v : Float) → r < length frames → v ≡ larger (size_in bl s) → take r frames ≡ sides (sizes_in k bl) (passed k st s)
      → take (r + 1) (set frames r v) ≡ sides (sizes_in k bl) (passed k st (s + 1))
  unfolding sides
  sides_more bl frames r v l d e =
      let w : v ≡ larger (size_at (sizes_in k bl) s) = d ∙ ap larger (sym (get_d_sizes k s bl _ h)) in
      rw (add-one r, passed_yes k st s h g)
      (take-suc-set frames r v l
      ∙ ap (λ (t : List Float). t ++ (v ∷ [])) e
      ∙ ap (λ (t : Float). sides (sizes_in k bl) (passed k st s) ++ (t ∷ [])) w
      ∙ sym (map-append (λ i. larger (size_at (sizes_in k bl) i)) (passed k st s) (s ∷ [])))
