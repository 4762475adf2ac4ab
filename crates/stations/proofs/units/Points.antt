-- The points of the occupied stations passed so far, in a loop over all, at the front of a list. Assumes nothing.
use mathlib.Core.Path.{◌≡◌, refl, sym, ap, ◌∙◌}
use mathlib.Core.List.{List, [], ◌∷◌, ◌++◌, append_assoc}
use Prim.Native.Nat.{ℕ, suc, ◌+◌, ◌*◌, ◌<◌}
use native.Mathlib.Omega.{arith}
use lib.ListN.{length, get_or, set, take, length-set}
use lib.Seq.{take-suc-set}
use lib.Ieee.{Float, nan}
use Rattle.numbers.proofs.order.Tables.{which_zero}
use Rattle.plane.specs.declared.geometry.Point.{Point}
use Rattle.network.specs.Words.{is_occupied}
use Rattle.network.specs.Seed.{place_at}
use Rattle.network.specs.Views.{counts_in, points_in}
use Rattle.network.proofs.Views.{put_point, get_d_points}
use Rattle.stations.specs.Unit.{coordinates}
use Rattle.network.proofs.Occupied.{passed, passed_yes}

coordinates_append : (ps : List Point) (l m : List ℕ) → coordinates ps (l ++ m) ≡ coordinates ps l ++ coordinates ps m
unfolding coordinates
coordinates_append ps [] m = refl
coordinates_append ps (s ∷ ss) m = ap (λ (t : List Float). (place_at ps s).x ∷ (place_at ps s).y ∷ t) (coordinates_append ps ss m)

pub coordinates_none : (k : ℕ) (st : List ℕ) (ps : List Point) → [] ≡ coordinates ps (passed k st 0)
unfolding coordinates
coordinates_none k st ps = ap (coordinates ps) (sym (which_zero (is_occupied (counts_in k st))))

one_point : (k s : ℕ) (pl : List Float) → s < k → coordinates (points_in k pl) (s ∷ []) ≡ get_or pl (2 * s) nan ∷ get_or pl (2 * s + 1) nan ∷ []
unfolding coordinates
one_point k s pl h = ap (λ (p : Point). p.x ∷ p.y ∷ []) (get_d_points k s pl _ h)

-- two numbers stored after the first i
take_two : {A : Type 0} (l : List A) (i : ℕ) (a b : A) → i + 1 < length l → take (i + 2) (set (set l i a) (i + 1) b) ≡ take i l ++ (a ∷ b ∷ [])
take_two {A} l i a b h =
    let p : i < length l = omega arith in
    let q : suc i < length (set l i a) = simp length-set (omega arith) in
    let e : i + 2 ≡ suc (suc i) = omega arith in
    let f : i + 1 ≡ suc i = omega arith in
    rw (e, f)
    (take-suc-set (set l i a) (suc i) b q
    ∙ ap (λ (t : List A). t ++ (b ∷ [])) (take-suc-set l i a p)
    ∙ append_assoc (take i l) (a ∷ []) (b ∷ []))

-- ---- one turn of the loop, at an occupied station
module _ (k : ℕ) (st : List ℕ) (s : ℕ) (h : s < k) (g : 0 < get_or st (2 * s) 0) where
  pub coordinates_more : (pl path : List Float) (r : ℕ) → 2 * r + 1 < length path → take (2 * r) path ≡ coordinates (points_in k pl) (passed k st s)
      → take (2 * (r + 1)) (put_point path r (get_or pl (2 * s) nan) (get_or pl (2 * s + 1) nan)) ≡ coordinates (points_in k pl) (passed k st (s + 1))
  coordinates_more pl path r l e =
      let n : 2 * (r + 1) ≡ 2 * r + 2 = omega arith in
      rw (n, passed_yes k st s h g)
      (take_two path (2 * r) (get_or pl (2 * s) nan) (get_or pl (2 * s + 1) nan) l
      ∙ ap (λ (t : List Float). t ++ (get_or pl (2 * s) nan ∷ get_or pl (2 * s + 1) nan ∷ [])) e
      ∙ ap (λ (t : List Float). coordinates (points_in k pl) (passed k st s) ++ t) (sym (one_point k s pl h))
      ∙ sym (coordinates_append (points_in k pl) (passed k st s) (s ∷ [])))
