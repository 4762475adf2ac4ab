-- Marking the half-edges between two vertices, as the loop of `mark_from` takes them in one part of the half-edges by vertex. Assumes nothing.
use mathlib.Core.Path.{◌≡◌, refl, sym, ap, ◌∙◌}
use mathlib.Core.Bool.{Bool}
use mathlib.Core.List.{List, [], ◌∷◌}
use Prim.Native.Nat.{ℕ, suc, ◌+◌, ◌*◌, ◌≤◌, ◌<◌}
use native.Mathlib.Omega.{arith}
use native.Mathlib.Numerals.{add-one}
use lib.Dec.{eqb}
use lib.ListN.{length, get_or, take, drop, set}
use lib.Seq.{drop-cons}
use borrow.Author.Tests.{eq-eqb, ne_eqb}
use Rattle.numbers.specs.Order.{keep}
use Rattle.numbers.proofs.order.Laws.{keep_yes, keep_no}
use Rattle.network.specs.Mesh.{at, end_at}
use Rattle.channels.specs.Round.{round_of, first_at}
use Rattle.channels.proofs.half_edges.Rounds.{own, length_round, around_first, around_over, round_out, round_read}
use Rattle.routing.specs.Stages.Store.{half_edges_from, stamp}

keep_nil : (p : ℕ → Bool) → keep p [] ≡ []
unfolding keep
keep_nil p = refl

module _ (corners : List ℕ) (m v w mark : ℕ) where
  abbrev ends_there : ℕ → Bool
  ends_there h = eqb (end_at corners h) w

  -- v's half-edges from place p on that end at w
  abbrev rest : ℕ → List ℕ
  rest p = keep ends_there (keep (own corners v) (drop p (round_of corners)))

  abbrev whole : List ℕ → List ℕ
  whole l = stamp m mark (half_edges_from corners v w) l

  -- the loop has come to place p
  unfoldable pub Marking : List ℕ → List ℕ → ℕ → Type 0
  Marking before now p = (first_at corners v ≤ p) × (whole before ≡ stamp m mark (rest p) now)

  pub mark_start : (l : List ℕ) (p : ℕ) → p ≡ first_at corners v → Marking l l p
  unfolding Marking half_edges_from
  mark_start l p e =
      (omega arith, ap (λ (hs : List ℕ). stamp m mark (keep ends_there hs) l) (around_first corners v) ∙ ap (λ (n : ℕ). stamp m mark (rest n) l) (sym e))

  module _ (before now : List ℕ) (p : ℕ) (s : Marking before now p) where
    mark_none : keep (own corners v) (drop p (round_of corners)) ≡ [] → now ≡ whole before
    unfolding Marking stamp
    mark_none e = sym (s.1 ∙ ap (λ (hs : List ℕ). stamp m mark (keep ends_there hs) now) e ∙ ap (λ (hs : List ℕ). stamp m mark hs now) (keep_nil ends_there))

    pub mark_end : length corners ≤ p → now ≡ whole before
    mark_end l = mark_none (round_out corners v p l)

    -- the half-edge at place p of a list that begins with the half-edges by vertex
    module _ (l : List ℕ) (e : take (length corners) l ≡ round_of corners) (inside : p < length corners) where
      abbrev h : ℕ
      h = get_or l p 0

      here : h ≡ get_or (round_of corners) p 0
      here = round_read corners l e p inside

      pub mark_other : (at corners h ≡ v → ⊥) → now ≡ whole before
      unfolding Marking
      mark_other n = mark_none (around_over corners v p inside s.0 (λ c. n (ap (at corners) here ∙ c)))

      module _ (t : at corners h ≡ v) where
        one_more : keep (own corners v) (drop p (round_of corners)) ≡ h ∷ keep (own corners v) (drop (suc p) (round_of corners))
        one_more =
            ap (keep (own corners v)) (drop-cons (round_of corners) p 0 (omega (arith, length_round corners)) ∙ ap (λ (x : ℕ). x ∷ drop (suc p) (round_of corners)) (sym here))
            ∙ keep_yes (own corners v) h (drop (suc p) (round_of corners)) (eq-eqb (at corners h) v t)

        pub mark_yes : end_at corners h ≡ w → Marking before (set now (4 * (m + h) + 1) mark) (p + 1)
        unfolding Marking stamp
        mark_yes z = (
          omega (arith, s.0),
          s.1
              ∙ ap (λ (hs : List ℕ). stamp m mark hs now)
              (ap (keep ends_there) one_more ∙ keep_yes ends_there h (keep (own corners v) (drop (suc p) (round_of corners))) (eq-eqb (end_at corners h) w z))
              ∙ ap (λ (n : ℕ). stamp m mark (rest n) (set now (4 * (m + h) + 1) mark)) (sym (add-one p)),
        )

        pub mark_no : (end_at corners h ≡ w → ⊥) → Marking before now (p + 1)
        unfolding Marking
        mark_no n = (
          omega (arith, s.0),
          s.1
              ∙ ap (λ (hs : List ℕ). stamp m mark hs now)
              (ap (keep ends_there) one_more ∙ keep_no ends_there h (keep (own corners v) (drop (suc p) (round_of corners))) (ne_eqb (end_at corners h) w n))
              ∙ ap (λ (n : ℕ). stamp m mark (rest n) now) (sym (add-one p)),
        )

pub ruleset marking = (mark_start, mark_end, mark_other, mark_yes, mark_no)
