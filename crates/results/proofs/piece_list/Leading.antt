-- Lists of requests: leading them one after the other, and the requests of branches.
-- Assumes nothing.
use mathlib.Core.Path.{◌≡◌, refl, sym, ap, ◌∙◌}
use mathlib.Core.Bool.{Bool}
use mathlib.Core.List.{List, []}
use Prim.Native.Nat.{ℕ, ◌+◌, ◌<◌}
use native.Mathlib.Omega.{arith}
use borrow.Author.Tests.{eq-eqb, ne_eqb}
use lib.ListN.{length, get_or}
use lib.Ieee.{Float}
use Rattle.numbers.specs.Order.{pick}
use Rattle.numbers.specs.Table.{joined}
use Rattle.runs.specs.Run.{pieces}
use Rattle.runs.specs.Stages.Views.{Lead, led_run, first_waypoint, waypoint_count}
use Rattle.runs.specs.declared.requests.LineRequest.{LineRequest}
use Rattle.runs.specs.Stages.Requests.{nothing_at}
use Rattle.results.specs.Stages.Passes.{RoomFor, Passed}
use Rattle.results.specs.Stages.Lines.{request_run, request_pieces, list_pieces, Asks, AskAll}
use Rattle.runs.proofs.Paths.{line_few}
use Rattle.results.proofs.pieces.Laws.{pieces_none}
use Rattle.results.proofs.piece_list.Adding.{Going, go_none, go_room, go_more, passed_of, passed_none}

-- a request asks as much of any list that is as long
pub asks_same : (ends : List ℕ) (path path' : List Float) (r : LineRequest) → length path' ≡ length path → Asks ends path r → Asks ends path' r
asks_same ends path path' r e h d = let z = h d in ((omega (arith, z.0.0), z.0.1), z.1)

-- ---- leading a list of requests: after i of them
module _ (L : Lead) (frames : List Float) (ends : List ℕ) (list : List LineRequest) (w : Bool) (at : ℕ) (path n : List Float) (b : List ℕ) where
  unfoldable pub Along : ℕ → ℕ → List Float → List Float → List ℕ → Type 0
  Along i s path' n' b' = Going w (λ (j : ℕ). request_pieces L frames ends (get_or list j (nothing_at 0))) (length list) at n b i s n' b' × (length path' ≡ length path)

  pub along_none : RoomFor w at (list_pieces L frames ends list) n b → Along 0 at path n b
  unfolding Along list_pieces
  along_none h = (go_none w _ (length list) at n b h, refl)

  module _ (i s : ℕ) (path' n' : List Float) (b' : List ℕ) (I : Along i s path' n' b') where
    pub along_asks : AskAll ends path list → i < length list → Asks ends path' (get_or list i (nothing_at 0))
    unfolding Along
    along_asks h l = asks_same ends path path' (get_or list i (nothing_at 0)) I.1 (h i l)

    pub along_room : i < length list → RoomFor w s (request_pieces L frames ends (get_or list i (nothing_at 0))) n' b'
    unfolding Along
    along_room l = go_room w _ (length list) at n b I.0 l

    pub along_more : (r : ℕ) (path'' n'' : List Float) (b'' : List ℕ) → i < length list
        → Passed w s r (request_pieces L frames ends (get_or list i (nothing_at 0))) n' n'' b' b''
        → length path'' ≡ length path' → length n'' ≡ length n' → length b'' ≡ length b' → Along (i + 1) r path'' n'' b''
    unfolding Along
    along_more r path'' n'' b'' l P d e f = (go_more w _ (length list) at n b I.0 l P e f, d ∙ I.1)

  pub along_all : (i s : ℕ) (path' n' : List Float) (b' : List ℕ) → i ≡ length list → Along i s path' n' b' → Passed w at s (list_pieces L frames ends list) n n' b b'
  unfolding Along list_pieces
  along_all i s path' n' b' e I = passed_of I.0.passed (ap (joined (λ (j : ℕ). request_pieces L frames ends (get_or list j (nothing_at 0)))) e)

pub ruleset along_laws = (along_none, along_asks, along_room, along_more)

-- ---- what a request gets
module _ (L : Lead) (frames : List Float) (ends : List ℕ) (r : LineRequest) where
  request_none : r.sa ≡ r.sb → request_run L frames ends r ≡ []
  unfolding request_run
  request_none e = ap (λ (b : Bool). pick b [] (led_run L frames r.sa r.sb r.row_end_a r.row_end_b r.exit_a r.exit_b (first_waypoint ends r.e) (waypoint_count ends r.e))) (eq-eqb r.sa r.sb e)

  pub nothing_asked : (w : Bool) (at : ℕ) (n : List Float) (b : List ℕ) → r.sa ≡ r.sb → Passed w at at (request_pieces L frames ends r) n n b b
  unfolding request_pieces
  nothing_asked w at n b e = passed_of (passed_none w at n b) (sym (ap (pieces r.e) (request_none e) ∙ pieces_none r.e))

  pub request_some : (r.sa ≡ r.sb → ⊥) → request_pieces L frames ends r ≡ pieces r.e (led_run L frames r.sa r.sb r.row_end_a r.row_end_b r.exit_a r.exit_b (first_waypoint ends r.e) (waypoint_count ends r.e))
  unfolding request_pieces request_run
  request_some h = ap (λ (b : Bool). pieces r.e (pick b [] (led_run L frames r.sa r.sb r.row_end_a r.row_end_b r.exit_a r.exit_b (first_waypoint ends r.e) (waypoint_count ends r.e)))) (ne_eqb r.sa r.sb h)

pub ruleset line_laws = (line_few, request_some)
