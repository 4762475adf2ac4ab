-- What tracing all branches answers and leaves in the lent lists. Definitions only.
use Rattle.std.specs.Prelude.{ℕ, ◌≡◌, List, ltb, ℤ, length, Float, Result, Ok, Err}
use Rattle.std.specs.Result.{is_err}
use Rattle.numbers.specs.Table.{table, strided}
use Rattle.routing.specs.Route.{MeshScene, routing}
use Rattle.routing.specs.Stages.Views.{TracedLists, grid, Stored}
use Rattle.routing.specs.declared.tracing.lines.TraceCounts.{TraceCounts}
use Rattle.routing.specs.Stages.Store.{Filled, SameRows, crossings_to, stock}

-- ---- the answer

-- the crossings counted, stored or not
unfoldable pub crossings_in : Result TraceCounts ℕ → ℕ
crossings_in (Ok c) = c.crossings
crossings_in (Err x) = x

-- What `store_routes` answers: the crossings, whether they outnumber the room for them, and, where not, what it stored.
pub record Settled (m : ℕ) (corners twins : List ℕ) (points : List Float) (room : ℕ)
    (ways : List ℕ) (r : Result TraceCounts ℕ) (ends numbers : List ℕ) (places : List Float) : Type 0 where
  pub crossings : crossings_in r ≡ crossings_to corners twins points ways m
  pub full : is_err r ≡ ltb room (crossings_in r)
  pub rows : SameRows m ways ends
  pub filled : (c : TraceCounts) → r ≡ Ok c
      → Filled m corners twins points ways m (stock c.channels c.crossings ends numbers places)

-- work lists with this network
abbrev pub lined : List ℕ → List ℤ → List ℤ → List ℕ → TracedLists → TracedLists
lined sub from to service G = grid sub from to service G.measures G.ends G.blocks G.places G.frames

-- What tracing answers, whatever k, the unit and the exits of a scene are: the number of its crossings; refusal 10,
-- where they outnumber the room for them; and, where not, its routing in the lists and the number of its channels.
-- The rows are as before.
pub record Traced (scene : ℕ → TracedLists → MeshScene) (m : ℕ) (corners : List ℕ) (room : ℕ)
    (before : List ℕ) (r : Result TraceCounts ℕ) (ends numbers : List ℕ) (places : List Float) : Type 0 where
  pub crossings : (k : ℕ) (G : TracedLists) → crossings_in r ≡ length (routing (scene k G)).crossings
  pub full : is_err r ≡ ltb room (crossings_in r)
  pub rows : SameRows m before ends
  pub stored : (c : TraceCounts) → r ≡ Ok c → (k : ℕ) (G : TracedLists)
      → Stored m corners (routing (scene k G)) ends numbers places
  pub channels : (c : TraceCounts) → r ≡ Ok c → (k : ℕ) (G : TracedLists)
      → c.channels ≡ length (routing (scene k G)).channels

-- no branch has a path
pub record Pathless (m : ℕ) (before behind : List ℕ) : Type 0 where
  pub rows : SameRows m before behind
  pub firsts : strided 4 2 0 m behind ≡ table (λ e. 0) m
  pub counts : strided 4 3 0 m behind ≡ table (λ e. 0) m
