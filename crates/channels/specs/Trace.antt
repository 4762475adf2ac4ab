-- The walk of one line through the mesh (docs/RULES.md, 'Walk'): which half-edges it crosses, in order, and
-- whether its path keeps them. Definitions only.
use Prim.Native.Nat.{ℕ, zero, suc}
use Rattle.std.specs.Prelude.{◌≡◌, Bool, ◌||◌, eqb, length, drop}
use Rattle.std.proofs.Math.Bool.{true, false, cond}
use mathlib.Core.List.{List, [], ◌∷◌, ◌++◌}
use Rattle.plane.specs.declared.geometry.Point.{Point}
use Rattle.plane.specs.Cross.{crosses}
use Rattle.network.specs.Mesh.{next, no_twin, at, end_at}
use Rattle.channels.specs.Round.{around}
use Rattle.channels.specs.declared.walk.Step.{Step}
use Rattle.channels.specs.declared.walk.Step.TheVariants.{Out, Home, Lost}

-- The half-edges crossed, in order; and whether the path keeps them, or is cleared while they stay in their channels.
pub record Walk : Type 0 where
  pub half_edges : List ℕ
  pub kept : Bool

-- a walk that makes no further crossing keeps its path where it is home
unfoldable pub home_of : Step → Bool
home_of (Out h) = false
home_of Home = true
home_of Lost = false

-- the vertices of the mesh, and the place of each vertex
module _ (corners : List ℕ) (centre : ℕ → Point) where
  -- the piece from vertex va to vertex vb crosses half-edge h
  unfoldable pub crosses_half_edge : ℕ → ℕ → ℕ → Bool
  crosses_half_edge va vb h = crosses (centre va) (centre vb) (centre (at corners h)) (centre (end_at corners h))

  -- In the triangle of half-edge h, which starts at va: home where it has vb, and then nothing is crossed; else out by
  -- the half-edge opposite va, if the line crosses that. Lost: it leaves va by another triangle.
  unfoldable pub leave : ℕ → ℕ → ℕ → Step
  leave va vb h =
      cond (eqb (at corners (next h)) vb || eqb (at corners (next (next h))) vb)
      Home
      (cond (crosses_half_edge va vb (next h)) (Out (next h)) Lost)

  -- the first of some triangles that the line doesn't leave va past
  unfoldable pub sought : ℕ → ℕ → List ℕ → Step
  unfolding leave
  sought va vb [] = Lost
  sought va vb (h ∷ hs) = elim (leave va vb h) [ Out e ↦ Out e | Home ↦ Home | Lost ↦ sought va vb hs ]

  -- How the line leaves va: the triangles around va are tried by number. Home or lost, it has no crossings and is drawn
  -- straight.
  unfoldable pub started : ℕ → ℕ → Step
  unfolding sought around
  started va vb = sought va vb (around corners va)

  -- out by the first of two half-edges that the line crosses; neither: the line runs through a vertex
  unfoldable pub out_by : ℕ → ℕ → ℕ → ℕ → Step
  out_by va vb e f = cond (crosses_half_edge va vb e) (Out e) (cond (crosses_half_edge va vb f) (Out f) Lost)

  -- In the triangle of half-edge g, which the line comes in through: home where its third vertex is vb, that at which
  -- half-edge next (next g) starts; else out by its other two half-edges.
  unfoldable pub pass_on : ℕ → ℕ → ℕ → Step
  unfolding out_by
  pass_on va vb g = cond (eqb (at corners (next (next g))) vb) Home (out_by va vb (next g) (next (next g)))

-- the mesh, and the place of each vertex
module _ (corners twins : List ℕ) (centre : ℕ → Point) where
  -- after half-edge h is crossed: home where it has no twin, else on from its twin
  unfoldable pub after : ℕ → ℕ → ℕ → Step
  unfolding pass_on
  after va vb h = cond (eqb (at twins h) no_twin) Home (pass_on corners centre va vb (at twins h))

  -- the walk on from x with n crossings left; one more clears it
  unfoldable pub walk : ℕ → ℕ → ℕ → Step → Walk
  unfolding after home_of
  walk va vb zero x = record { half_edges = []; kept = home_of x }
  walk va vb (suc n) (Out h) = let r = walk va vb n (after va vb h) in
      record { half_edges = h ∷ r.half_edges; kept = r.kept }
  walk va vb (suc n) Home = record { half_edges = []; kept = true }
  walk va vb (suc n) Lost = record { half_edges = []; kept = false }

  -- The whole walk from vertex va to vertex vb, another one: at most as many crossings as the mesh is long.
  unfoldable pub traced : ℕ → ℕ → Walk
  unfolding started walk
  traced va vb = walk va vb (length corners) (started corners centre va vb)

-- The code's answer to a walk: its half-edges stand first in the lent list, which is otherwise as before; their number;
-- whether the path keeps them.
pub record WalkWritten (w : Walk) (before behind : List ℕ) (count : ℕ) (kept : Bool) : Type 0 where
  pub written : behind ≡ w.half_edges ++ drop count before
  pub counted : count ≡ length w.half_edges
  pub flag : kept ≡ w.kept
