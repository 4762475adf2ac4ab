-- A path led round boxes keeps its bound: each point put in lies half a clearance off a corner of a box. Assumes nothing.
use Prim.Native.Nat.{ℕ, zero, suc, ◌+◌, ◌-◌, ◌≤◌}
use native.Mathlib.Omega.{arith}
use mathlib.Core.Bool.{Bool, true, false, cond}
use mathlib.Core.List.{List, [], ◌∷◌, ◌++◌}
use lib.Dec.{ltb, lit≤}
use lib.Ieee.{Float}
use Rattle.numbers.specs.Ops.{f½, ◌⊕◌, ◌⊖◌, ◌⊗◌}
use Rattle.numbers.specs.Size.{AtMost}
use Rattle.numbers.proofs.float.SizeLaws.{add_under, sub_under, mul_most, f½_most}
use Rattle.plane.specs.declared.geometry.Point.{Point}
use Rattle.plane.specs.declared.geometry.Box.{Box}
use Rattle.plane.proofs.geometry.PointSizes.{Near, Edges}
use Rattle.plane.specs.Plane.{box_in}
use Rattle.std.specs.Prelude.{Option, Some, None, unwrap_or}
use Rattle.boxes.specs.First.{first_hit}
use Rattle.boxes.specs.Corner.{corners_of, cost_key, avoids, avoiding, cheaper, cheapest, corner}
use Rattle.boxes.specs.Detour.{detour_on, detour_to, detour}
use Rattle.boxes.specs.Laws.{PointsAtMost, DetourIsFinite}

-- every point of a list lies within 2 ^ (k - 1074)
abbrev pub Points : ℕ → List Point → Type 0
Points k [] = Unit {0}
Points k (p ∷ ps) = Near k p × Points k ps

pub points_append : (k : ℕ) (l m : List Point) → Points k l → Points k m → Points k (l ++ m)
points_append k [] m h i = i
points_append k (p ∷ ps) m h i = (h.0, points_append k ps m h.1 i)

module _ (k : ℕ) (K : 1074 + 71 ≤ k) (L : k ≤ 2097) where
  corners_near : (b : Box) (g : Float) → Edges (1074 + 70) b → AtMost (1074 + 46) g → Points k (corners_of b g)
  unfolding corners_of
  corners_near b g B G =
      let less : (a : Float) → AtMost (1074 + 70) a → AtMost k (a ⊖ g) = (λ a h. sub_under (1074 + 70) (1074 + 46) k a g (omega arith) (omega arith) L h G) in
      let more : (a : Float) → AtMost (1074 + 70) a → AtMost k (a ⊕ g) = (λ a h. add_under (1074 + 70) (1074 + 46) k a g (omega arith) (omega arith) L h G) in (
        record { x = less b.left B.0; y = less b.top B.1 },
        (
          record { x = more b.right B.2; y = less b.top B.1 },
          (record { x = more b.right B.2; y = more b.bottom B.3 }, (record { x = less b.left B.0; y = more b.bottom B.3 }, tt)),
        ),
      )

  avoiding_near : (p q : Point) (b : Box) (cs : List Point) → Points k cs → Points k (avoiding p q b cs)
  unfolding avoiding
  avoiding_near p q b [] h = tt
  avoiding_near p q b (c ∷ cs) h = go (avoids p q b c) (avoiding_near p q b cs h.1)
    where
      go : (t : Bool) → Points k (avoiding p q b cs) → Points k (cond t (c ∷ avoiding p q b cs) (avoiding p q b cs))
      go true r = (h.0, r)
      go false r = r

  abbrev Chosen : Option Point → Type 0
  Chosen None = Unit {0}
  Chosen (Some c) = Near k c

  cheaper_near : (p q : Point) (best : Option Point) (c : Point) → Chosen best → Near k c → Chosen (cheaper p q best c)
  unfolding cheaper
  cheaper_near p q None c h i = i
  cheaper_near p q (Some d) c h i = go (ltb (cost_key p q c) (cost_key p q d))
    where
      go : (t : Bool) → Chosen (cond t (Some c) (Some d))
      go true = i
      go false = h

  cheapest_near : (p q : Point) (best : Option Point) (cs : List Point) → Chosen best → Points k cs → Chosen (cheapest p q best cs)
  unfolding cheapest
  cheapest_near p q best [] h i = h
  cheapest_near p q best (c ∷ cs) h i = cheapest_near p q (cheaper p q best c) cs (cheaper_near p q best c h i.0) i.1

  else_near : (c : Option Point) (other : Point) → Chosen c → Near k other → Near k (unwrap_or c other)
  else_near None other h i = i
  else_near (Some c) other h i = h

  corner_near : (p q : Point) (b : Box) (clearance : Float) → Near k p → Edges (1074 + 70) b → AtMost (1074 + 46) clearance → Near k (corner p q b clearance)
  unfolding corner
  corner_near p q b clearance P B G =
      let cs = corners_of b (clearance ⊗ f½) in
      let C : Points k cs = corners_near b (clearance ⊗ f½) B (mul_most (1074 + 46) (1074 - 1) (1074 + 46) clearance f½ (lit≤ tt) (lit≤ tt) G f½_most) in
      else_near (cheapest p q None (avoiding p q b cs)) (unwrap_or (cheapest p q None cs) p) (cheapest_near p q None (avoiding p q b cs) tt (avoiding_near p q b cs C))
      (else_near (cheapest p q None cs) p (cheapest_near p q None cs tt C) P)

  module _ (boxes : List Box) (occupied : List ℕ) (clearance : Float) (a b : ℕ) (B : (s : ℕ) → Edges (1074 + 70) (box_in boxes s)) (G : AtMost (1074 + 46) clearance) where
    on_near : (again : List Point → List Point) → ((l : List Point) → Points k l → Points k (again l)) → (p : Point) (rest : List Point) → Near k p → Points k rest
        → Points k (detour_on boxes occupied clearance a b again p rest)
    unfolding detour_on
    on_near again f p [] P R = (P, tt)
    on_near again f p (q ∷ rest) P R = go (first_hit boxes occupied p q a b) (on_near again f q rest R.0 R.1)
      where
        go : (x : Option ℕ) → Points k (detour_on boxes occupied clearance a b again q rest)
            → Points k (elim x [ None ↦ p ∷ detour_on boxes occupied clearance a b again q rest | Some s ↦ again (p ∷ corner p q (box_in boxes s) clearance ∷ q ∷ rest) ])
        go None r = (P, r)
        go (Some s) r = f (p ∷ corner p q (box_in boxes s) clearance ∷ q ∷ rest) (P, (corner_near p q (box_in boxes s) clearance P (B s) G, (R.0, R.1)))

    to_near : (n : ℕ) (l : List Point) → Points k l → Points k (detour_to boxes occupied clearance a b n l)
    unfolding detour_to
    to_near zero l h = h
    to_near (suc n) [] h = tt
    to_near (suc n) (p ∷ rest) h = on_near (detour_to boxes occupied clearance a b n) (to_near n) p rest h.0 h.1

    pub detour_near : (l : List Point) → Points k l → Points k (detour boxes occupied clearance a b l)
    unfolding detour
    detour_near l h = to_near 4 l h

-- ---- in the words of specs/Laws
points_of : (k : ℕ) (l : List Point) → PointsAtMost k l → Points k l
points_of k [] h = tt
points_of k (p ∷ ps) h = let q = h.0 in (record { x = q.0; y = q.1 }, points_of k ps h.1)

of_points : (k : ℕ) (l : List Point) → Points k l → PointsAtMost k l
of_points k [] h = tt
of_points k (p ∷ ps) h = let q = h.0 in ((q.x, q.y), of_points k ps h.1)

pub detour_is_finite : DetourIsFinite
detour_is_finite k K L boxes occupied clearance a b B G path h =
    of_points k (detour boxes occupied clearance a b path) (detour_near k K L boxes occupied clearance a b B G path (points_of k path h))
