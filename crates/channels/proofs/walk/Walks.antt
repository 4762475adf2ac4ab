-- The walk of a line: it crosses at most as many half-edges as the mesh is long, and all of them are of the mesh. Assumes nothing.
use mathlib.Core.Path.{◌≡◌, refl, ap, ◌∙◌}
use mathlib.Core.Bool.{Bool, true, false, cond, ◌||◌}
use mathlib.Core.List.{List, [], ◌∷◌}
use Prim.Native.Nat.{ℕ, zero, suc, ◌≤◌, ◌<◌, zero-le, suc-le-suc}
use native.Mathlib.Omega.{arith}
use lib.Dec.{eqb}
use lib.ListN.{length, get_or, drop, get_or-append}
use borrow.Author.Tests.{eqb-false}
use Rattle.numbers.proofs.order.Laws.{All, all_at}
use Rattle.numbers.proofs.order.Tables.{all_which}
use Rattle.plane.specs.declared.geometry.Point.{Point}
use Rattle.network.specs.Mesh.{next, no_twin, at}
use Rattle.network.proofs.mesh.Meshes.{Sound, next_in}
use Rattle.channels.specs.declared.walk.Step.{Step}
use Rattle.channels.specs.declared.walk.Step.TheVariants.{Out, Home, Lost}
use Rattle.channels.specs.Round.{around}
use Rattle.channels.specs.Trace.{Walk, crosses_half_edge, leave, sought, started, out_by, pass_on, after, walk, traced, WalkWritten}

module _ (corners twins : List ℕ) (centre : ℕ → Point) (va vb : ℕ) where
  walk_short : (n : ℕ) (x : Step) → length (walk corners twins centre va vb n x).half_edges ≤ n
  unfolding walk
  walk_short zero x = zero-le
  walk_short (suc n) (Out h) = suc-le-suc (walk_short n (after corners twins centre va vb h))
  walk_short (suc n) Home = zero-le
  walk_short (suc n) Lost = zero-le

  -- a line has at most as many crossings as the mesh is long
  pub traced_short : length (traced corners twins centre va vb).half_edges ≤ length corners
  unfolding traced
  traced_short = walk_short (length corners) (started corners centre va vb)

  module _ (n : ℕ) (sound : Sound corners twins n) where
    -- where the walk goes on, it goes to a half-edge of the mesh
    abbrev InMesh : Step → Type 0
    InMesh (Out h) = h < length corners
    InMesh Home = Unit {0}
    InMesh Lost = Unit {0}

    pick_in : (b : Bool) (x y : Step) → InMesh x → InMesh y → InMesh (cond b x y)
    pick_in true x y hx hy = hx
    pick_in false x y hx hy = hy

    inside : (h : ℕ) → h < length corners → next h < length corners
    inside h l = next_in corners twins n sound h l

    pass_in : (g : ℕ) → g < length corners → InMesh (pass_on corners centre va vb g)
    unfolding pass_on out_by
    pass_in g l =
        pick_in (eqb (at corners (next (next g))) vb) Home _ tt
        (pick_in (crosses_half_edge corners centre va vb (next g)) (Out (next g)) _ (inside g l)
        (pick_in (crosses_half_edge corners centre va vb (next (next g))) (Out (next (next g))) Lost (inside _ (inside g l)) tt))

    after_in : (h : ℕ) → h < length corners → InMesh (after corners twins centre va vb h)
    unfolding after
    after_in h l = go (eqb (at twins h) no_twin) refl
      where
        go : (b : Bool) → eqb (at twins h) no_twin ≡ b → InMesh (cond b Home (pass_on corners centre va vb (at twins h)))
        go true e = tt
        go false e = pass_in (at twins h) (sound.twin h l (eqb-false _ _ e)).inside

    leave_in : (h : ℕ) → h < length corners → InMesh (leave corners centre va vb h)
    unfolding leave
    leave_in h l =
        pick_in (eqb (at corners (next h)) vb || eqb (at corners (next (next h))) vb) Home _ tt
        (pick_in (crosses_half_edge corners centre va vb (next h)) (Out (next h)) Lost (inside h l) tt)

    sought_in : (hs : List ℕ) → All (λ h. h < length corners) hs → InMesh (sought corners centre va vb hs)
    unfolding sought
    sought_in [] a = tt
    sought_in (h ∷ hs) a = go (leave corners centre va vb h) (leave_in h a.0) (sought_in hs a.1)
      where
        go : (x : Step) → InMesh x → InMesh (sought corners centre va vb hs) → InMesh (elim x [ Out e ↦ Out e | Home ↦ Home | Lost ↦ sought corners centre va vb hs ])
        go (Out e) i j = i
        go Home i j = tt
        go Lost i j = j

    started_in : InMesh (started corners centre va vb)
    unfolding started around
    started_in = sought_in (around corners va) (all_which (λ h. eqb (at corners h) va) (λ h. h < length corners) (length corners) (λ h l e. l))

    walk_in : (k : ℕ) (x : Step) → InMesh x → All (λ h. h < length corners) (walk corners twins centre va vb k x).half_edges
    unfolding walk
    walk_in zero x i = tt
    walk_in (suc k) (Out h) i = (i, walk_in k (after corners twins centre va vb h) (after_in h i))
    walk_in (suc k) Home i = tt
    walk_in (suc k) Lost i = tt

    -- every half-edge that a line crosses is one of the mesh
    pub traced_in : All (λ h. h < length corners) (traced corners twins centre va vb).half_edges
    unfolding traced
    traced_in = walk_in (length corners) (started corners centre va vb) started_in

-- ---- the list that `trace` leaves

module _ (w : Walk) (before behind : List ℕ) (count : ℕ) (kept : Bool) (t : WalkWritten w before behind count kept) where
  -- what stands at i is the walk's crossing i
  pub walked_at : (i : ℕ) → i < count → get_or behind i 0 ≡ get_or w.half_edges i 0
  walked_at i h = ap (λ (l : List ℕ). get_or l i 0) t.written ∙ get_or-append w.half_edges (drop count before) 0 i (omega (arith, t.counted))

module _ (corners twins : List ℕ) (centre : ℕ → Point) (va vb : ℕ) (before behind : List ℕ) (count : ℕ) (kept : Bool) (t : WalkWritten (traced corners twins centre va vb) before behind count kept) where
  pub walked_short : count ≤ length corners
  walked_short = omega (arith, t.counted, traced_short corners twins centre va vb)

  pub walked_in : (n : ℕ) → Sound corners twins n → (i : ℕ) → i < count → get_or behind i 0 < length corners
  walked_in n sound i h =
      let w = traced corners twins centre va vb in
      omega (arith, walked_at w before behind count kept t i h, all_at (λ e. e < length corners) w.half_edges i (omega (arith, t.counted)) (traced_in corners twins centre va vb n sound))
