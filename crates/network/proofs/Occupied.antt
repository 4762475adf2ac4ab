-- The occupied stations passed so far, in a loop over all: which they are, and how many.
-- Assumes nothing.
use mathlib.Core.Path.{◌≡◌, sym, ap, ◌∙◌}
use mathlib.Core.Bool.{Bool, true, false}
use mathlib.Core.List.{List, [], ◌∷◌, ◌++◌}
use Prim.Native.Nat.{ℕ, suc, ◌+◌, ◌*◌, ◌≤◌, ◌<◌}
use native.Mathlib.Nat.{add-zero}
use native.Mathlib.Numerals.{add-one}
use borrow.Author.Tests.{ltb-true, ltb-false, lt-ltb, le-ltb}
use lib.Dec.{ltb}
use lib.ListN.{length, get_or}
use Rattle.numbers.specs.Table.{how_many, which}
use Rattle.numbers.proofs.order.Tables.{how_many_yes, how_many_no, which_yes, which_no, length_which}
use Rattle.numbers.proofs.order.Strides.{length_strided, get_d_strided}
use Rattle.network.specs.Words.{is_occupied, occupied}
use Rattle.network.specs.Views.{counts_in}

pub count_at : (k s : ℕ) (st : List ℕ) → s < k → get_or (counts_in k st) s 0 ≡ get_or st (2 * s) 0
count_at k s st h = get_d_strided 2 0 0 k s st 0 h ∙ ap (λ (j : ℕ). get_or st j 0) (add-zero (2 * s))

-- those of the first s that are occupied, and how many
abbrev pub passed : ℕ → List ℕ → ℕ → List ℕ
passed k st s = which (is_occupied (counts_in k st)) s

abbrev pub passed_count : ℕ → List ℕ → ℕ → ℕ
passed_count k st s = how_many (is_occupied (counts_in k st)) s

-- what `is_occupied` says of a station with n buses
module _ (n : ℕ) (b : Bool) (e : b ≡ ltb 0 n) where
  pub has_buses : b ≡ true → 0 < n
  has_buses t = ltb-true 0 n (sym e ∙ t)

  pub has_none : b ≡ false → n ≤ 0
  has_none t = ltb-false 0 n (sym e ∙ t)

pub is_occupied_lem : (k s : ℕ) (st : List ℕ) → s < k → 0 < get_or st (2 * s) 0 → is_occupied (counts_in k st) s ≡ true
is_occupied_lem k s st h g = lt-ltb 0 (get_or (counts_in k st) s 0) (rw (count_at k s st h) g)

pub not_occupied : (k s : ℕ) (st : List ℕ) → s < k → get_or st (2 * s) 0 ≤ 0 → is_occupied (counts_in k st) s ≡ false
not_occupied k s st h g = le-ltb 0 (get_or (counts_in k st) s 0) (rw (count_at k s st h) g)

pub passed_all : (k : ℕ) (st : List ℕ) → passed k st k ≡ occupied (counts_in k st)
unfolding occupied
passed_all k st = ap (passed k st) (sym (length_strided 2 0 0 k st))

pub count_all : (k : ℕ) (st : List ℕ) → passed_count k st k ≡ length (occupied (counts_in k st))
count_all k st = sym (length_which (is_occupied (counts_in k st)) k) ∙ ap length (passed_all k st)

-- ---- one turn of a loop over all stations
module _ (k : ℕ) (st : List ℕ) (s : ℕ) (h : s < k) where
  pub count_no : (r : ℕ) → get_or st (2 * s) 0 ≤ 0 → r ≡ passed_count k st s → r ≡ passed_count k st (s + 1)
  count_no r g e = rw add-one (e ∙ sym (how_many_no (is_occupied (counts_in k st)) s (not_occupied k s st h g)))

  pub passed_no : get_or st (2 * s) 0 ≤ 0 → passed k st s ≡ passed k st (s + 1)
  passed_no g = rw add-one (sym (which_no (is_occupied (counts_in k st)) s (not_occupied k s st h g)))

  module _ (g : 0 < get_or st (2 * s) 0) where
    pub count_yes : (r : ℕ) → r ≡ passed_count k st s → r + 1 ≡ passed_count k st (s + 1)
    count_yes r e = rw (add-one r, add-one s) (ap suc e ∙ sym (how_many_yes (is_occupied (counts_in k st)) s (is_occupied_lem k s st h g)))

    pub passed_yes : passed k st (s + 1) ≡ passed k st s ++ (s ∷ [])
    passed_yes = rw add-one (which_yes (is_occupied (counts_in k st)) s (is_occupied_lem k s st h g))
