-- The text that comes of a call, from what the call, the parser and the printer promise.
-- Assumes nothing.
use mathlib.Core.Path.{◌≡◌, refl, sym, ap, ◌∙◌, subst}
use mathlib.Core.Bool.{Bool, true, false, cond}
use mathlib.Core.List.{List, []}
use mathlib.Core.Logic.{◌⊎◌, inl, inr}
use Prim.Native.Nat.{ℕ, ◌*◌, ◌≤◌, ◌<◌}
use native.Mathlib.Omega.{arith}
use lib.IntN.{ℤ}
use lib.ListN.{length, take}
use lib.Seq.{length-take-le, take_all}
use lib.Ieee.{Float}
use Rattle.network.specs.declared.options.Options.{Options}
use Rattle.drawing.specs.declared.answer.Plot.{Plot}
use Rattle.std.specs.Prelude.{Result, Ok, Err}
use Rattle.network.specs.declared.refusals.Refusal.{Refusal}
use Rattle.network.specs.Refusal.{number}
use Rattle.drawing.specs.Network.{Network, network, Lists}
use Rattle.layout.proofs.Drawn.{pieces_fit}
use Rattle.small.specs.Small.{work_lists, crossing_lists, held_call, SmallCall}
use Rattle.text.specs.declared.listing.input.InputCounts.{InputCounts}
use Rattle.std.specs.Prelude.{Option, Some, None, IfSome, OnOk}
use Rattle.text.specs.Input.{parsed}
use Rattle.numbers.specs.Over.{over}
use Rattle.numbers.proofs.order.Merging.{le_or_lt}
use Rattle.text.specs.LinePlaces.{answer, number_of}
use Rattle.text.proofs.listing.Writing.{take_over}
use Rattle.text.proofs.listing.Laws.{parsed_shape, answered, longest}
use Rattle.text.specs.Output.{listing, refusal}
use Rattle.small.specs.Output.{list_options, result_lists, plotted, Shown, text_by, text_of, network_of, output_of}

pub shown_by : (N : Network) (L : Lists) (a : Result Plot Refusal) (L' : Lists) (o : Options) (roles : List ℕ) (pieces : List Float) (branches : List ℕ)
    → o ≡ list_options → SmallCall o N L 128 0 a L' → roles ≡ L'.roles → pieces ≡ L'.pieces → branches ≡ L'.branches → Shown N L a roles pieces branches
unfolding plotted
shown_by N L a L' o roles pieces branches e H f g h =
    let P : SmallCall list_options N L 128 0 a L' = subst (λ (p : Options). SmallCall p N L 128 0 a L') e H in
    record {
      answer_is = P.answer_is;
      roles_are = f ∙ ap (λ (l : Lists). l.roles) P.lists_are;
      pieces_are = g ∙ ap (λ (l : Lists). l.pieces) P.lists_are;
      branches_are = h ∙ ap (λ (l : Lists). l.branches) P.lists_are;
    }

module _ (N : Network) (a : Result Plot Refusal) (r : List ℕ) (n : List Float) (b : List ℕ) (S : Shown N result_lists a r n b) where
  pub text_drawn : (p : Plot) → a ≡ Ok p → listing r n b p.pieces ≡ text_of N
  unfolding text_of text_by
  text_drawn p e = let k : (plotted N result_lists).answer ≡ Ok p = sym S.answer_is ∙ e in rw (k, S.roles_are, S.pieces_are, S.branches_are)

  pub text_refused : (k : Refusal) → a ≡ Err k → refusal (number k) ≡ text_of N
  unfolding text_of text_by
  text_refused k e = let h : (plotted N result_lists).answer ≡ Err k = sym S.answer_is ∙ e in rw h

  pub few_pieces : (p : Plot) → a ≡ Ok p → p.pieces ≤ 192
  unfolding plotted held_call
  few_pieces p e = (pieces_fit list_options N result_lists (work_lists 128) (crossing_lists 0) p (sym S.answer_is ∙ e)).1

-- ---- from the parser

same_network : {a a' b b' : List ℕ} {c c' d d' : List ℤ} {e e' : List ℕ} {f f' : List Float}
    → a ≡ a' → b ≡ b' → c ≡ c' → d ≡ d' → e ≡ e' → f ≡ f' → network a b c d e f [] [] ≡ network a' b' c' d' e' f' [] []
same_network p q r s t u = rw (p, q, r, s, t, u)

-- the front of a list that a text's part was written over
pub front : {A : Type 0} (n : ℕ) (new old list : List A) → n ≡ length new → list ≡ over new old → take n list ≡ new
front n new old list e h = ap (λ (l : List _). take n l) h ∙ ap (λ (k : ℕ). take k (over new old)) e ∙ take_over new old

pub output_drawn : (t : List ℕ) (n : InputCounts) (a a' b b' : List ℕ) (c c' d d' : List ℤ) (e e' : List ℕ) (f f' : List Float)
    → answer (parsed t) ≡ Some n
    → a ≡ over (parsed t).buses.sub a'
    → b ≡ over (parsed t).buses.kv b'
    → c ≡ over (parsed t).branches.from c'
    → d ≡ over (parsed t).branches.to d'
    → e ≡ over (parsed t).branches.live e'
    → f ≡ over (parsed t).buses.xy f'
    → text_of (network (take n.buses a) (take n.buses b) (take n.branches c) (take n.branches d) (take n.branches e) (take (2 * n.buses) f) [] [])
    ≡ output_of t
unfolding output_of network_of
output_drawn t n a a' b b' c c' d d' e e' f f' h ha hb hc hd he hf =
    let w = answered (parsed t) n h in
    let s = parsed_shape t in
    let k =
    same_network
    (front n.buses _ _ a w.1 ha)
    (front n.buses _ _ b (w.1 ∙ sym s.0.kvs) hb)
    (front n.branches _ _ c (w.2 ∙ sym s.1.froms) hc)
    (front n.branches _ _ d (w.2 ∙ sym s.1.tos) hd)
    (front n.branches _ _ e w.2 he)
    (front (2 * n.buses) _ _ f (ap (λ (x : ℕ). 2 * x) w.1 ∙ sym s.0.xys) hf)
    in
    ap text_of k ∙ rw w.0

pub output_malformed : (t : List ℕ) → answer (parsed t) ≡ None → refusal 14 ≡ output_of t
unfolding output_of answer number_of
output_malformed t h = malformed (parsed t).well_formed refl h
  where
    malformed : (b : Bool) → (parsed t).well_formed ≡ b → ◌≡◌ {A = Option InputCounts} (cond b (Some (record { buses = length (parsed t).buses.sub; branches = length (parsed t).branches.live })) None) None
        → refusal 14 ≡ cond (parsed t).well_formed (text_of (network_of (parsed t))) (refusal (number_of (answer (parsed t))))
    malformed true e k = let z : ◌≡◌ {A = ℕ} 0 1 = cc in absurd (omega arith)
    malformed false e k = rw e

-- ---- the front of a longer text
past_most : (t : List ℕ) (b : Bool) → (parsed t).well_formed ≡ b → 6936 < length t → answer (parsed t) ≡ None
unfolding answer
past_most t true e h = absurd (omega (arith, h, longest t e))
past_most t false e h = rw e

long_malformed : (t : List ℕ) → 6936 < length t → refusal 14 ≡ output_of t
long_malformed t h = output_malformed t (past_most t (parsed t).well_formed refl h)

-- the first 6,937 bytes are enough
pub enough : (t : List ℕ) → output_of (take 6937 t) ≡ output_of t
enough t = by_length (le_or_lt (length t) 6937)
  where
    by_length : (length t ≤ 6937) ⊎ (6937 < length t) → output_of (take 6937 t) ≡ output_of t
    by_length (inl h) = ap output_of (take_all 6937 t h)
    by_length (inr h) =
        let few : 6937 ≤ length t = omega arith in
        let long : length (take 6937 t) ≡ 6937 = length-take-le 6937 t few in
        sym (long_malformed (take 6937 t) (omega (arith, long))) ∙ long_malformed t (omega (arith, h))

-- what holds of the front that was read holds of the text, where it is known
pub known_text : (known : Option (List ℕ)) (got : List ℕ) (k : ℕ) (P : List ℕ → Type 0) → k ≡ 6937 → IfSome known (λ bytes. got ≡ take k bytes)
    → P (output_of got) → IfSome known (λ bytes. P (output_of bytes))
known_text None got k P e h p = tt
known_text (Some bytes) got k P e h p = subst P (ap output_of (h ∙ ap (λ (n : ℕ). take n bytes) e) ∙ enough bytes) p

pub text_written : {A E : Type 0} (r : Result A E) (known : Option (List ℕ)) (got : List ℕ) (k : ℕ) (P : List ℕ → Type 0) → k ≡ 6937
    → IfSome known (λ bytes. got ≡ take k bytes) → OnOk r (P (output_of got)) → OnOk r (IfSome known (λ bytes. P (output_of bytes)))
text_written (Ok v) known got k P e h p = known_text known got k P e h p
text_written (Err v) known got k P e h p = tt

-- as many buses and branches as the lists hold
few_read : (t : List ℕ) (n : InputCounts) → answer (parsed t) ≡ Some n → (n.buses ≤ 64) × (n.branches ≤ 64)
few_read t n h =
    let w = answered (parsed t) n h in
    let s = parsed_shape t in
    (omega (arith, w.1, s.0.few), omega (arith, w.2, s.1.few))

pub few_buses : (t : List ℕ) (n : InputCounts) → Some n ≡ answer (parsed t) → n.buses ≤ 64
few_buses t n h = (few_read t n (sym h)).0

pub few_branches : (t : List ℕ) (n : InputCounts) → Some n ≡ answer (parsed t) → n.branches ≤ 64
few_branches t n h = (few_read t n (sym h)).1

pub ruleset read_laws = (few_buses, few_branches, length-take-le)
