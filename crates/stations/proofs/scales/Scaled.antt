-- One turn of the loop over all stations that gives each its scale. Assumes nothing.
use mathlib.Core.Path.{◌≡◌, refl, sym, ap, ◌∙◌}
use mathlib.Core.Bool.{Bool}
use mathlib.Core.List.{List, [], ◌∷◌, ◌++◌}
use Prim.Native.Nat.{ℕ, suc, ◌+◌, ◌*◌, ◌≤◌, ◌<◌}
use native.Mathlib.Omega.{arith}
use native.Mathlib.Numerals.{add-one}
use lib.ListN.{length, get_or, set, take}
use lib.Seq.{take_at, get_or-take}
use lib.Ieee.{Float, nan}
use Rattle.numbers.specs.Ops.{f1, ◌⊗◌}
use Rattle.numbers.specs.Order.{pick}
use Rattle.numbers.specs.Table.{table_from, table, strided}
use Rattle.numbers.proofs.order.Tables.{length_table, get_d_table, table_suc}
use Rattle.numbers.proofs.order.Strides.{strided_push, length_strided}
use Rattle.plane.specs.Near.{neighbours}
use Rattle.network.specs.declared.options.Options.{Options}
use Rattle.network.specs.Words.{occupied}
use Rattle.network.specs.Views.{counts_in}
use Rattle.stations.specs.Scale.{tier, occupied_below, scale_at, scales_of}
use Rattle.stations.specs.Stages.Views.{scales_in}
use Rattle.stations.proofs.scales.NearScales.{occupied_below_lem}
use Rattle.network.proofs.Occupied.{passed_count, is_occupied_lem, not_occupied}

-- an occupied station that the loop comes to: fewer were passed than there are
pub passed_below : (k : ℕ) (st : List ℕ) (s j n : ℕ) → s < k → 0 < get_or st (2 * s) 0 → j ≡ passed_count k st s → n ≡ length (occupied (counts_in k st)) → j < n
unfolding occupied_below
passed_below k st s j n h g e f =
    let l : s < length (counts_in k st) = rw (length_strided 2 0 0 k st) h in
    rw (e, f) (occupied_below_lem (counts_in k st) s l (is_occupied_lem k s st h g))

-- the numbers of neighbours at the front of a list
pub counts_front : (f : ℕ → ℕ) (n : ℕ) (l d : List ℕ) → l ≡ table f n ++ d → take n l ≡ table f n
counts_front f n l d e = ap (take n) e ∙ take_at (table f n) d n (length_table f n)

pub count_at : (f : ℕ → ℕ) (n : ℕ) (l : List ℕ) (j : ℕ) → take n l ≡ table f n → j < n → get_or l j 0 ≡ f j
count_at f n l j e h = sym (get_or-take n l j 0 h) ∙ ap (λ (t : List ℕ). get_or t j 0) e ∙ get_d_table f n j 0 h

module _ (O : Options) (ps : List Float) (n : ℕ) (tier_distance : Float) (k : ℕ) (st : List ℕ) where
  -- the scale of station s, and those of the first s
  abbrev pub scaled : ℕ → List Float
  scaled s = table (scale_at O ps n tier_distance (counts_in k st)) s

  pub scales_start : (l : List Float) → scales_in 0 l ≡ scaled 0
  unfolding strided table_from
  scales_start l = refl

  module _ (s : ℕ) (h : s < k) where
    pub scale_yes : (j c : ℕ) (v : Float) → 0 < get_or st (2 * s) 0 → j ≡ passed_count k st s → c ≡ neighbours ps n tier_distance j → v ≡ tier O c
        → v ≡ scale_at O ps n tier_distance (counts_in k st) s
    unfolding scale_at occupied_below
    scale_yes j c v g e f d =
        d ∙ ap (tier O) (f ∙ ap (neighbours ps n tier_distance) e)
        ∙ sym (ap (λ (b : Bool). pick b (tier O (neighbours ps n tier_distance (passed_count k st s))) f1) (is_occupied_lem k s st h g))

    pub scale_no : get_or st (2 * s) 0 ≤ 0 → f1 ≡ scale_at O ps n tier_distance (counts_in k st) s
    unfolding scale_at
    scale_no g =
        sym (ap (λ (b : Bool). pick b (tier O (neighbours ps n tier_distance (occupied_below (counts_in k st) s))) f1) (not_occupied k s st h g))

    pub scales_step : (l : List Float) (v : Float) → 3 * k ≤ length l → scales_in s l ≡ scaled s → v ≡ scale_at O ps n tier_distance (counts_in k st) s
        → scales_in (s + 1) (set l (3 * s + 2) v) ≡ scaled (s + 1)
    scales_step l v r e f =
        let m : s + 1 ≡ suc s = add-one s in
        let p : 3 * s + 2 < length l = omega arith in
        rw m
        (strided_push 3 2 nan s l v (omega arith) p ∙ ap (λ (t : List Float). t ++ (v ∷ [])) e
        ∙ ap (λ (x : Float). scaled s ++ (x ∷ [])) f ∙ sym (table_suc (scale_at O ps n tier_distance (counts_in k st)) s))

pub scales_end : (O : Options) (ps : List Float) (n : ℕ) (sp : Float) (k : ℕ) (st : List ℕ)
    → scaled O ps n (O.tier_radius ⊗ sp) k st k ≡ scales_of O ps n sp (counts_in k st)
unfolding scales_of
scales_end O ps n sp k st = ap (scaled O ps n (O.tier_radius ⊗ sp) k st) (sym (length_strided 2 0 0 k st))
