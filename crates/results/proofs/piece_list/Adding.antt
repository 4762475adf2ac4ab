-- Passes over runs, one after the other: none, one more, room for the next, and a loop over runs.
-- Assumes nothing.
use mathlib.Core.Path.{◌≡◌, refl, sym, ap, ◌∙◌, subst}
use mathlib.Core.Bool.{Bool}
use mathlib.Core.List.{List, [], ◌++◌}
use Prim.Native.Nat.{ℕ, ◌+◌, ◌≤◌, ◌<◌}
use native.Mathlib.Omega.{arith}
use native.Mathlib.Numerals.{add-one}
use lib.ListN.{length, length-append}
use lib.Ieee.{Float}
use Rattle.numbers.specs.Table.{joined}
use Rattle.numbers.proofs.order.Tables.{joined_zero, joined_suc}
use Rattle.plane.specs.declared.geometry.Point.{Point}
use Rattle.network.specs.Views.{points_in}
use Rattle.runs.specs.Run.{Piece, pieces}
use Rattle.runs.specs.Stages.Views.{Ran}
use Rattle.results.specs.Stages.Passes.{RoomFor, Passed}
use Rattle.results.proofs.pieces.Laws.{joined_before}
use Rattle.results.proofs.pieces.Puts.{put_none, put_more}

pub passed_none : (w : Bool) (at : ℕ) (n : List Float) (b : List ℕ) → Passed w at at [] n n b b
passed_none w at n b = record { count = omega arith; written = λ h. put_none at n b; kept = λ h. (refl, refl) }

pub passed_of : {w : Bool} {at r : ℕ} {ps qs : List Piece} {n n' : List Float} {b b' : List ℕ} → Passed w at r ps n n' b b' → ps ≡ qs → Passed w at r qs n n' b b'
passed_of {w} {at} {r} {ps} {qs} {n} {n'} {b} {b'} P e = subst (λ (z : List Piece). Passed w at r z n n' b b') e P

pub passed_more : {w : Bool} {at s r : ℕ} {ps qs : List Piece} {n n' n'' : List Float} {b b' b'' : List ℕ} → Passed w at s ps n n' b b' → Passed w s r qs n' n'' b' b''
    → RoomFor w at (ps ++ qs) n b → Passed w at r (ps ++ qs) n n'' b b''
passed_more {w} {at} {s} {r} {ps} {qs} P Q room =
    let c : r ≡ at + length (ps ++ qs) = omega (arith, P.count, Q.count, length-append ps qs) in
    record {
      count = c;
      written = λ h. put_more (P.written h) (Q.written h) (omega (arith, (room.1 h).0)) (omega (arith, (room.1 h).1));
      kept = λ h. ((Q.kept h).0 ∙ (P.kept h).0, (Q.kept h).1 ∙ (P.kept h).1);
    }

-- ---- a loop over m runs, whose pieces are F 0, F 1, ..: after j of them
pub record Going (w : Bool) (F : ℕ → List Piece) (m at : ℕ) (n : List Float) (b : List ℕ) (j s : ℕ) (n' : List Float) (b' : List ℕ) : Type 0 where
  pub within : j ≤ m
  pub passed : Passed w at s (joined F j) n n' b b'
  pub room : RoomFor w at (joined F m) n b
  pub sized4 : length n' ≡ length n
  pub sized1 : length b' ≡ length b

module _ (w : Bool) (F : ℕ → List Piece) (m at : ℕ) (n : List Float) (b : List ℕ) where
  pub go_none : RoomFor w at (joined F m) n b → Going w F m at n b 0 at n b
  go_none h =
      record {
        within = omega arith;
        passed = passed_of (passed_none w at n b) (sym (joined_zero F));
        room = h;
        sized4 = refl;
        sized1 = refl;
      }

  module _ {j s : ℕ} {n' : List Float} {b' : List ℕ} (I : Going w F m at n b j s n' b') where
    pub go_room : j < m → RoomFor w s (F j) n' b'
    go_room h =
        let z : length (joined F j) + length (F j) ≤ length (joined F m) = joined_before F j m h in
        let e : s ≡ at + length (joined F j) = I.passed.count in
        (omega (arith, I.room.0), λ k. (omega (arith, (I.room.1 k).0, I.sized4), omega (arith, (I.room.1 k).1, I.sized1)))

    pub go_more : {r : ℕ} {n'' : List Float} {b'' : List ℕ} → j < m → Passed w s r (F j) n' n'' b' b'' → length n'' ≡ length n' → length b'' ≡ length b'
        → Going w F m at n b (j + 1) r n'' b''
    go_more {r} {n''} {b''} h P l k =
        let z : length (joined F j) + length (F j) ≤ length (joined F m) = joined_before F j m h in
        let y : length (joined F j ++ F j) ≡ length (joined F j) + length (F j) = length-append (joined F j) (F j) in
        let space : RoomFor w at (joined F j ++ F j) n b =
        (omega (arith, I.room.0), λ k. (omega (arith, (I.room.1 k).0), omega (arith, (I.room.1 k).1))) in
        record {
          within = omega arith;
          passed = passed_of (passed_more I.passed P space) (sym (ap (joined F) (add-one j) ∙ joined_suc F j));
          room = I.room;
          sized4 = l ∙ I.sized4;
          sized1 = k ∙ I.sized1;
        }

-- ---- a run at the front of a list, of a branch e
module _ {c : ℕ} {path : List Float} {points : List Point} (R : Ran c path points) (w : Bool) (e : ℕ) where
  pub ran_room : (at : ℕ) (n : List Float) (b : List ℕ) → RoomFor w at (pieces e points) n b → RoomFor w at (pieces e (points_in c path)) n b
  ran_room at n b h = subst (λ (z : List Point). RoomFor w at (pieces e z) n b) (sym R.holds) h

  pub ran_passed : {at r : ℕ} {n n' : List Float} {b b' : List ℕ} → Passed w at r (pieces e (points_in c path)) n n' b b' → Passed w at r (pieces e points) n n' b b'
  ran_passed P = passed_of P (ap (pieces e) R.holds)
