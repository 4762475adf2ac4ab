-- Where no two occupied stations' boxes overlap, the audit's overlaps are 0. Assumes nothing.
use mathlib.Core.Path.{◌≡◌, refl, ap, ◌∙◌}
use mathlib.Core.Logic.{⊎_elim, ◌≢◌}
use mathlib.Core.Bool.{Bool, true, false, ◌&&◌}
use mathlib.Core.List.{List, [], ◌∷◌}
use Prim.Native.Nat.{ℕ, ◌≤◌, ◌<◌}
use native.Mathlib.Omega.{arith}
use lib.ListN.{length}
use borrow.Author.Tests.{lt-ltb, le-ltb}
use Rattle.numbers.specs.Order.{count}
use Rattle.numbers.specs.Table.{which}
use Rattle.numbers.proofs.order.Merging.{le_or_lt}
use Rattle.numbers.proofs.order.Laws.{All, count_none}
use Rattle.numbers.proofs.order.Tables.{all_which}
use Rattle.plane.specs.declared.geometry.Box.{Box}
use Rattle.plane.specs.Plane.{shrunk, box_in}
use Rattle.plane.specs.Overlap.{overlap}
use Rattle.network.specs.Words.{is_occupied, occupied}
use Rattle.audit.specs.Overlaps.{overlapping, overlapping_pairs, overlaps}

none_overlapping : (bs : List Box) (ss higher : List ℕ) → All (λ s. All (λ t. overlapping bs s t ≡ false) ss) higher → overlapping_pairs bs ss higher ≡ 0
unfolding overlapping_pairs
none_overlapping bs ss [] a = refl
none_overlapping bs ss (s ∷ higher) a =
    let p : count (overlapping bs s) ss ≡ 0 = count_none (overlapping bs s) ss a.0 in
    let q : overlapping_pairs bs ss higher ≡ 0 = none_overlapping bs ss higher a.1 in
    omega (arith, p, q)

module _ (counts : List ℕ) (bs : List Box)
    (free : (s t : ℕ) → s ≢ t → is_occupied counts s ≡ true → is_occupied counts t ≡ true → overlap (shrunk (box_in bs t)) (box_in bs s) ≡ false) where
  apart : (s t : ℕ) → is_occupied counts s ≡ true → is_occupied counts t ≡ true → overlapping bs s t ≡ false
  unfolding overlapping
  apart s t o p = ⊎_elim
      (λ (h : s ≤ t). ap (λ (b : Bool). b && overlap (shrunk (box_in bs s)) (box_in bs t)) (le-ltb t s h))
      (λ (h : t < s).
      ap (λ (b : Bool). b && overlap (shrunk (box_in bs s)) (box_in bs t)) (lt-ltb t s h) ∙ free t s (λ e. omega (arith, e, h)) p o)
      (le_or_lt s t)

  pub no_overlapping : overlaps bs (occupied counts) ≡ 0
  unfolding overlaps occupied
  no_overlapping =
      none_overlapping bs (which (is_occupied counts) (length counts)) (which (is_occupied counts) (length counts))
      (all_which (is_occupied counts) (λ s. All (λ t. overlapping bs s t ≡ false) (which (is_occupied counts) (length counts))) (length counts)
      (λ s i o. all_which (is_occupied counts) (λ t. overlapping bs s t ≡ false) (length counts) (λ t j p. apart s t o p)))
