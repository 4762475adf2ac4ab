-- The search round the first vertex, as the loop of `start` takes it over one part of the half-edges by vertex. Assumes nothing.
use mathlib.Core.Path.{◌≡◌, refl, sym, ap, ◌∙◌}
use mathlib.Core.List.{List, [], ◌∷◌}
use Prim.Native.Nat.{ℕ, suc, ◌+◌, ◌≤◌, ◌<◌}
use native.Mathlib.Omega.{arith}
use native.Mathlib.Numerals.{add-one}
use lib.ListN.{length, get_or, take, drop}
use lib.Seq.{drop-cons}
use borrow.Author.Tests.{eq-eqb}
use Rattle.numbers.specs.Order.{keep}
use Rattle.numbers.proofs.order.Laws.{keep_yes}
use Rattle.plane.specs.declared.geometry.Point.{Point}
use Rattle.network.specs.Mesh.{at}
use Rattle.channels.specs.declared.walk.Step.{Step}
use Rattle.channels.specs.declared.walk.Step.TheVariants.{Out, Home, Lost}
use Rattle.channels.specs.Round.{round_of, first_at}
use Rattle.channels.specs.Trace.{leave, sought, started}
use Rattle.channels.proofs.half_edges.Rounds.{own, length_round, around_first, around_over, round_out, round_read, round_below}

-- what is read there is a half-edge of the mesh
pub place_fits : (corners l : List ℕ) → take (length corners) l ≡ round_of corners → length corners ≤ 24576 → (p h : ℕ) → p < length corners → h ≡ get_or l p 0 → h < 24576
place_fits corners l e m p h i q = omega (arith, round_read corners l e p i, round_below corners p i)

module _ (corners : List ℕ) (centre : ℕ → Point) (va vb : ℕ) where
  sought_at : (h : ℕ) (hs : List ℕ) (x : Step) → leave corners centre va vb h ≡ x
      → sought corners centre va vb (h ∷ hs) ≡ elim x as (λ _. Step) [ Out e ↦ Out e | Home ↦ Home | Lost ↦ sought corners centre va vb hs ]
  unfolding sought
  sought_at h hs x q = ap (λ (o : Step). elim o as (λ _. Step) [ Out e ↦ Out e | Home ↦ Home | Lost ↦ sought corners centre va vb hs ]) q

  sought_found : (h : ℕ) (hs : List ℕ) (x : Step) → leave corners centre va vb h ≡ x → (x ≡ Lost → ⊥) → sought corners centre va vb (h ∷ hs) ≡ x
  sought_found h hs (Out e) q n = sought_at h hs (Out e) q
  sought_found h hs Home q n = sought_at h hs Home q
  sought_found h hs Lost q n = absurd (n refl)

  -- va's half-edges from place p on
  abbrev rest : ℕ → List ℕ
  rest p = keep (own corners va) (drop p (round_of corners))

  -- the search has come to place p
  pub record Seeking (p : ℕ) : Type 0 where
    pub past : first_at corners va ≤ p
    pub same : started corners centre va vb ≡ sought corners centre va vb (rest p)

  pub seek_start : (p : ℕ) → p ≡ first_at corners va → Seeking p
  unfolding started
  seek_start p e = record { past = omega arith; same = ap (sought corners centre va vb) (around_first corners va ∙ ap rest (sym e)) }

  -- nothing is left
  seek_none : (p : ℕ) → rest p ≡ [] → Seeking p → Lost ≡ started corners centre va vb
  unfolding sought
  seek_none p e s = sym (s.same ∙ ap (sought corners centre va vb) e)

  pub seek_end : (p : ℕ) → length corners ≤ p → Seeking p → Lost ≡ started corners centre va vb
  seek_end p l s = seek_none p (round_out corners va p l) s

  -- by what the code read at place p of a list that begins with the half-edges by vertex: h, and its vertex k
  module _ (l : List ℕ) (e : take (length corners) l ≡ round_of corners) (p h k : ℕ) (inside : p < length corners) (q : h ≡ get_or l p 0) (r : k ≡ at corners h) (s : Seeking p) where
    here : h ≡ get_or (round_of corners) p 0
    here = q ∙ round_read corners l e p inside

    pub seek_other : (k ≡ va → ⊥) → Lost ≡ started corners centre va vb
    seek_other n = seek_none p (around_over corners va p inside s.past (λ c. n (r ∙ ap (at corners) here ∙ c))) s

    module _ (t : k ≡ va) where
      one_more : rest p ≡ h ∷ rest (suc p)
      one_more =
          ap (keep (own corners va)) (drop-cons (round_of corners) p 0 (omega (arith, length_round corners)) ∙ ap (λ (x : ℕ). x ∷ drop (suc p) (round_of corners)) (sym here))
          ∙ keep_yes (own corners va) h (drop (suc p) (round_of corners)) (eq-eqb (at corners h) va (sym r ∙ t))

      -- and its answer x
      module _ (x : Step) (w : x ≡ leave corners centre va vb h) where
        answer : started corners centre va vb ≡ sought corners centre va vb (h ∷ rest (suc p))
        answer = s.same ∙ ap (sought corners centre va vb) one_more

        pub seek_found : (x ≡ Lost → ⊥) → x ≡ started corners centre va vb
        seek_found n = sym (answer ∙ sought_found h (rest (suc p)) x (sym w) n)

        pub seek_on : x ≡ Lost → Seeking (p + 1)
        seek_on z =
            record {
              past = omega (arith, s.past);
              same = answer ∙ sought_at h (rest (suc p)) Lost (sym w ∙ z) ∙ ap (λ (n : ℕ). sought corners centre va vb (rest n)) (sym (add-one p));
            }

-- what the search for the vertex to start at knows
pub ruleset seek_laws = (seek_start, seek_end, seek_other, seek_found, seek_on, place_fits)
