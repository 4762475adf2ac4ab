-- A detour's points: what holds of a path's points and of the points off a box's corners holds of all of them, so they are of the format where the path's are.
-- Assumes nothing.
use Prim.Native.Nat.{ℕ, zero, suc}
use mathlib.Core.Bool.{Bool, true, false, cond}
use mathlib.Core.List.{List, [], ◌∷◌}
use lib.Dec.{T, ltb}
use lib.Ieee.{Float, binary64, fits}
use lib.Ieee.Fits.{add-fits, sub-fits}
use Rattle.numbers.specs.Ops.{f½, ◌⊗◌}
use Rattle.plane.specs.declared.geometry.Point.{Point}
use Rattle.plane.specs.declared.geometry.Box.{Box}
use Rattle.plane.specs.Plane.{box_in}
use Rattle.std.specs.Prelude.{Option, Some, None, unwrap_or}
use Rattle.boxes.specs.First.{first_hit}
use Rattle.boxes.specs.Corner.{corners_of, cost_key, avoids, avoiding, cheaper, cheapest, corner}
use Rattle.boxes.specs.Detour.{detour_on, detour_to, detour}
use Rattle.wall.proofs.Every.{Every}

-- a point of two floats of the format
abbrev pub FitsPoint : Point → Type 0
FitsPoint p = T (fits binary64 p.x) × T (fits binary64 p.y)

module _ (P : Point → Type 0) where
  abbrev Chosen : Option Point → Type 0
  Chosen None = Unit {0}
  Chosen (Some c) = P c

  avoiding_every : (p q : Point) (b : Box) (cs : List Point) → Every P cs → Every P (avoiding p q b cs)
  unfolding avoiding Every
  avoiding_every p q b [] h = tt
  avoiding_every p q b (c ∷ cs) h = go (avoids p q b c) (avoiding_every p q b cs h.1)
    where
      go : (u : Bool) → Every P (avoiding p q b cs) → Every P (cond u (c ∷ avoiding p q b cs) (avoiding p q b cs))
      go true k = (h.0, k)
      go false k = k

  cheaper_chosen : (p q : Point) (best : Option Point) (c : Point) → Chosen best → P c → Chosen (cheaper p q best c)
  unfolding cheaper
  cheaper_chosen p q None c h k = k
  cheaper_chosen p q (Some d) c h k = go (ltb (cost_key p q c) (cost_key p q d))
    where
      go : (u : Bool) → Chosen (cond u (Some c) (Some d))
      go true = k
      go false = h

  cheapest_chosen : (p q : Point) (best : Option Point) (cs : List Point) → Chosen best → Every P cs → Chosen (cheapest p q best cs)
  unfolding cheapest Every
  cheapest_chosen p q best [] h k = h
  cheapest_chosen p q best (c ∷ cs) h k = cheapest_chosen p q (cheaper p q best c) cs (cheaper_chosen p q best c h k.0) k.1

  chosen_or : (c : Option Point) (other : Point) → Chosen c → P other → P (unwrap_or c other)
  chosen_or None other h k = k
  chosen_or (Some c) other h k = h

  corner_every : (p q : Point) (b : Box) (clearance : Float) → Every P (corners_of b (clearance ⊗ f½)) → P p → P (corner p q b clearance)
  unfolding corner
  corner_every p q b clearance h k =
      let cs = corners_of b (clearance ⊗ f½) in
      chosen_or (cheapest p q None (avoiding p q b cs)) (unwrap_or (cheapest p q None cs) p)
      (cheapest_chosen p q None (avoiding p q b cs) tt (avoiding_every p q b cs h))
      (chosen_or (cheapest p q None cs) p (cheapest_chosen p q None cs tt h) k)

  module _ (boxes : List Box) (occupied : List ℕ) (clearance : Float) (a b : ℕ) (corners : (s : ℕ) → Every P (corners_of (box_in boxes s) (clearance ⊗ f½))) where
    on_every : (again : List Point → List Point) → ((l : List Point) → Every P l → Every P (again l)) → (p : Point) (rest : List Point) → P p → Every P rest
        → Every P (detour_on boxes occupied clearance a b again p rest)
    unfolding detour_on Every
    on_every again f p [] h k = (h, tt)
    on_every again f p (q ∷ rest) h k = go (first_hit boxes occupied p q a b) (on_every again f q rest k.0 k.1)
      where
        go : (hit : Option ℕ) → Every P (detour_on boxes occupied clearance a b again q rest)
            → Every P (elim hit [ None ↦ p ∷ detour_on boxes occupied clearance a b again q rest | Some s ↦ again (p ∷ corner p q (box_in boxes s) clearance ∷ q ∷ rest) ])
        go None m = (h, m)
        go (Some s) m = f (p ∷ corner p q (box_in boxes s) clearance ∷ q ∷ rest) (h, (corner_every p q (box_in boxes s) clearance (corners s) h, k))

    to_every : (n : ℕ) (path : List Point) → Every P path → Every P (detour_to boxes occupied clearance a b n path)
    unfolding detour_to Every
    to_every zero path h = h
    to_every (suc n) [] h = tt
    to_every (suc n) (p ∷ rest) h = on_every (detour_to boxes occupied clearance a b n) (to_every n) p rest h.0 h.1

    pub detour_every : (path : List Point) → Every P path → Every P (detour boxes occupied clearance a b path)
    unfolding detour
    detour_every path h = to_every 4 path h

pub detour_fits : (boxes : List Box) (occupied : List ℕ) (clearance : Float) (a b : ℕ) (path : List Point) → Every FitsPoint path
    → Every FitsPoint (detour boxes occupied clearance a b path)
detour_fits boxes occupied clearance a b path h = detour_every FitsPoint boxes occupied clearance a b (λ s. corners-fit (box_in boxes s)) path h
  where
    corners-fit : (b : Box) → Every FitsPoint (corners_of b (clearance ⊗ f½))
    corners-fit b =
        unfold corners_of Every in
        ((sub-fits binary64 _ _, sub-fits binary64 _ _), ((add-fits binary64 _ _, sub-fits binary64 _ _), ((add-fits binary64 _ _, add-fits binary64 _ _), ((sub-fits binary64 _ _, add-fits binary64 _ _), tt))))
