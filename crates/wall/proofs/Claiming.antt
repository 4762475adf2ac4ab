-- The claim about a drawing and its audit, from what the two calls give. Assumes nothing.
use Prim.Native.Nat.{ℕ, zero, suc, ◌*◌, ◌-◌, ◌≤◌, min}
use mathlib.Core.Path.{◌≡◌, refl, sym, ap, subst, ◌∙◌}
use mathlib.Core.List.{List, [], ◌∷◌}
use native.Mathlib.Nat.{zero-min, min-zero, suc-min-suc, sub-zero}
use native.Mathlib.Omega.{arith}
use lib.IntN.{ℤ}
use lib.ListN.{length, take, drop}
use lib.Ieee.{Float}
use Rattle.std.proofs.Common.{length-append, length-drop}
use Rattle.network.specs.declared.options.Options.{Options}
use Rattle.network.specs.Words.{station_count}
use Rattle.drawing.specs.declared.answer.Plot.{Plot}
use Rattle.std.specs.Prelude.{Option, Some, None, Result, Ok, Err}
use Rattle.network.specs.declared.refusals.Refusal.{Refusal}
use Rattle.network.specs.Refusal.{number_of}
use Rattle.drawing.specs.Network.{Network, Lists, Work, Crossings, crossings}
use Rattle.drawing.proofs.Lent.{work}
use Rattle.drawing.specs.Drawing.{Drawing, drawing}
use Rattle.drawing.specs.Answer.{room_of, early, late, lists_of, lists_after, answer_for, Call, call, call_late, call_early, layout_of}
use Rattle.numbers.specs.Over.{over}
use Rattle.runs.specs.Lists.{after}
use Rattle.drawing.specs.Number.{Answered}
use Rattle.drawing.proofs.Number.{layout_number_lem}
use Rattle.layout.proofs.Drawn.{pieces_fit}
use Rattle.audit.specs.declared.findings.answer.Figures.{Figures}
use Rattle.audit.specs.Drawn as Lent
use Rattle.audit.proofs.findings.Lent as Placed
use Rattle.audit.specs.Answer as Audited
use Rattle.wall.specs.Wall.{audit_parts, audited, Patterns}
use Rattle.wall.specs.Claim.{both, Check, check, check_by, check_after, both_after, draw_and_audit, Claim}
use Rattle.wall.proofs.Whole.{wall}

-- A list that another is written over gets no shorter.
after_long : {A R : Type 0} (r : Option R) (new old : List A) → length old ≤ length (after r new old)
unfolding after over
after_long None new old = grind (arith, length-append, length-drop)
after_long (Some r) new old = omega arith

lists_long : (e : Option Refusal) (o : Options) (N : Network) (L : Lists) (W : Work) (X : Crossings)
    → (length L.pieces ≤ length (call_early e o N L W X).lists.pieces) × (length L.branches ≤ length (call_early e o N L W X).lists.branches)
unfolding call_early call_late lists_after
lists_long None o N L W X = (after_long _ _ _, after_long _ _ _)
lists_long (Some r) o N L W X = (omega arith, omega arith)

layout_long : (o : Options) (N : Network) (L : Lists) (W : Work) (X : Crossings)
    → (length L.pieces ≤ length (layout_of o N L W X).lists.pieces) × (length L.branches ≤ length (layout_of o N L W X).lists.branches)
unfolding layout_of
layout_long o N L W X = lists_long (early o N (room_of L W X)) o N L W X

-- layout's lists hold the pieces that are audited
pub pieces_room : (o : Options) (N : Network) (L : Lists) (W : Work) (X : Crossings) (p : Plot) (l : Lists) (w : Work) (x : Crossings)
    → Answered o N L W X (call (Ok p) l w x) → (4 * p.pieces ≤ length l.pieces) × (p.pieces ≤ length l.branches)
pieces_room o N L W X p l w x A =
    let h = pieces_fit o N L W X p (sym (ap (λ (c : Call). c.answer) A.is)) in
    let f = layout_long o N L W X in
    let u = ap (λ (c : Call). length c.lists.pieces) A.is in
    let v = ap (λ (c : Call). length c.lists.branches) A.is in
    (omega (arith, h.0, f.0, u), omega (arith, h.1, f.1, v))

same_ok : {A : Type 0} {a b : A} → ◌≡◌ {A = Result A Refusal} (Ok a) (Ok b) → a ≡ b
same_ok e = cc

module _ (parts : ℕ → Lent.Drawn) (F : Lent.Lists) (U : Lent.Work) where
  -- the two cases of layout's answer
  check_drawn : (p : Plot) (q : Result Figures Refusal) (l : Lent.Lists) (w : Lent.Work)
      → Audited.call q l w ≡ Audited.audit_of (parts p.pieces) F U → check (Ok (p, q)) l w ≡ check_by (Ok p) parts F U
  unfolding check_by
  check_drawn p q l w e = ap (λ (A : Audited.Call). check (Ok (p, A.answer)) A.lists A.work) e

  check_refused : (r : Refusal) → check (Err r) F U ≡ check_by (Err r) parts F U
  unfolding check_by
  check_refused r = refl

  -- what an answer of both says of the two answers
  drawn : (a : Result Plot Refusal) (p : Plot) (q : Result Figures Refusal) → (check_by a parts F U).answer ≡ Ok (p, q) → a ≡ Ok p
  unfolding check_by
  drawn (Ok o) p q h = ap (λ (x : Plot × Result Figures Refusal). Ok x.0) (same_ok h)
  drawn (Err r) p q h = cc

  figured : (a : Result Plot Refusal) (p : Plot) (q : Result Figures Refusal) → (check_by a parts F U).answer ≡ Ok (p, q) → (Audited.audit_of (parts p.pieces) F U).answer ≡ q
  unfolding check_by
  figured (Ok o) p q h =
      let e = same_ok h in
      subst (λ (x : Plot). (Audited.audit_of (parts x.pieces) F U).answer ≡ q) (ap (λ (x : Plot × Result Figures Refusal). x.0) e) (ap (λ (x : Plot × Result Figures Refusal). x.1) e)
  figured (Err r) p q h = cc

  number_is : (a : Result Plot Refusal) → number_of (check_by a parts F U).answer ≡ number_of a
  unfolding check_by number_of
  number_is (Ok p) = refl
  number_is (Err r) = refl

  refused_is : (a : Result Plot Refusal) (r : Refusal) → (check_by a parts F U).answer ≡ Err r → a ≡ Err r
  unfolding check_by
  refused_is (Ok p) r h = cc
  refused_is (Err s) r h = cc

-- a refusal of layout changes no result list
late_kept : (l : Option Refusal) (d : Drawing) (L : Lists) (r : Refusal) → answer_for l d ≡ Err r → lists_after l (lists_of d) L ≡ L
unfolding answer_for lists_after after
late_kept None d L r h = cc
late_kept (Some l) d L r h = refl

module _ (o : Options) (N : Network) (L : Lists) (W : Work) (X : Crossings) where
  kept_by : (e : Option Refusal) (r : Refusal) → (call_early e o N L W X).answer ≡ Err r → (call_early e o N L W X).lists ≡ L
  unfolding call_early call_late
  kept_by None r h = late_kept (late (drawing o N) (room_of L W X)) (drawing o N) L r h
  kept_by (Some e) r h = refl

  kept : (r : Refusal) → (layout_of o N L W X).answer ≡ Err r → (layout_of o N L W X).lists ≡ L
  unfolding layout_of
  kept r h = kept_by (early o N (room_of L W X)) r h

  claimed : Patterns N → Claim o N L W X (draw_and_audit o N L W X)
  unfolding draw_and_audit both_after check_after
  claimed P =
      let a = (layout_of o N L W X).answer in
      record {
        is = refl;
        number = number_is _ _ _ a ∙ layout_number_lem o N L W X;
        refused = λ r h. kept r (refused_is _ _ _ a r h);
        patterns = P;
        wall = λ p q d. wall o N L W X p (drawn _ _ _ a p q d);
        clean = λ p f d free. (wall o N L W X p (drawn _ _ _ a p (Ok f) d)).audit free _ _ f (figured _ _ _ a p (Ok f) d);
      }

  -- by what the two calls give
  claim_both : Patterns N → (a : Result Plot Refusal) (l : Lists) (w : Work) (x : Crossings) → Answered o N L W X (call a l w x)
      → (A : Check)
      → A ≡ check_by a (audit_parts N.station N.kv N.from N.to N.xy l.boxes l.roles l.pieces l.branches)
      (Placed.lists w.blocks w.frames x.ways) (Placed.work w.stations w.sorted w.spare w.keys w.places w.path)
      → Claim o N L W X
      (both A.answer l
      (work A.work.stations w.buses w.ends A.work.index A.work.spare A.work.keys A.work.points A.lists.displacement A.lists.spacing A.work.path)
      (crossings x.numbers x.places A.lists.relative))
  unfolding draw_and_audit both_after check_after audited
  claim_both P a l w x e A f =
      subst (Claim o N L W X)
      (sym (ap (both_after (call a l w x)) f ∙ ap (λ (D : Call). both_after D (check_after N D)) e.is))
      (claimed P)

  -- The same by the lists after both, where layout refused and where the drawing is audited.
  pub claim_refused : Patterns N → (r : Refusal) (l l' : Lists) (w w' : Work) (x x' : Crossings) → Answered o N L W X (call (Err r) l w x)
      → l' ≡ l → w' ≡ w → x' ≡ x → Claim o N L W X (both (Err r) l' w' x')
  claim_refused P r l l' w w' x x' e f g h = rw (f, g, h) (claim_both P (Err r) l w x e (check (Err r) _ _) (check_refused _ _ _ r))

  pub claim_drawn : Patterns N → (p : Plot) (q : Result Figures Refusal) (l l' : Lists) (w w' : Work) (x x' : Crossings) (F : Lent.Lists) (U : Lent.Work)
      → Answered o N L W X (call (Ok p) l w x)
      → Audited.call q F U
      ≡ Audited.audit_of (audit_parts N.station N.kv N.from N.to N.xy l.boxes l.roles l.pieces l.branches p.pieces)
      (Placed.lists w.blocks w.frames x.ways) (Placed.work w.stations w.sorted w.spare w.keys w.places w.path)
      → l' ≡ l → w' ≡ work U.stations w.buses w.ends U.index U.spare U.keys U.points F.displacement F.spacing U.path
      → x' ≡ crossings x.numbers x.places F.relative → Claim o N L W X (both (Ok (p, q)) l' w' x')
  claim_drawn P p q l l' w w' x x' F U e a f g h =
      rw (f, g, h)
      (claim_both P (Ok p) l w x e (check (Ok (p, q)) F U) (check_drawn (audit_parts N.station N.kv N.from N.to N.xy l.boxes l.roles l.pieces l.branches) _ _ p q F U a))

-- a part up to the end of a list or past it
pub take_min : {A : Type 0} (n : ℕ) (l : List A) → take (min n (length l)) l ≡ take n l
take_min zero l = ap (λ (k : ℕ). take k l) (zero-min (length l))
take_min (suc n) [] = ap (λ (k : ℕ). take k []) (min-zero (suc n))
take_min {A} (suc n) (x ∷ xs) = ap (λ (k : ℕ). take k (x ∷ xs)) (suc-min-suc n (length xs)) ∙ ap (λ (l : List A). x ∷ l) (take_min n xs)

-- what an audit of parts gives, the parts by what they are to hold
parts_audited : (sub kv : List ℕ) (from to : List ℤ) (xy boxes : List Float) (roles : List ℕ) (pieces : List Float) (branches : List ℕ) (k b m count : ℕ) (A : Lent.Lists) (Y : Lent.Work) (c : Audited.Call)
    → k ≡ station_count sub → b ≡ min (4 * k) (length boxes) → m ≡ min (length from) (length roles)
    → Audited.Answered (Lent.drawn sub kv from to xy (take (b - 0) (drop 0 boxes)) (take (m - 0) (drop 0 roles)) (take (4 * count - 0) (drop 0 pieces)) (take (count - 0) (drop 0 branches))) A Y c
    → c ≡ Audited.audit_of (audit_parts sub kv from to xy boxes roles pieces branches count) A Y
unfolding audit_parts
parts_audited sub kv from to xy boxes roles pieces branches k b m count A Y c e f g h =
    let u : take (b - 0) (drop 0 boxes) ≡ take (4 * station_count sub) boxes =
    ap (λ (n : ℕ). take n boxes) (sub-zero b ∙ f ∙ ap (λ (j : ℕ). min (4 * j) (length boxes)) e) ∙ take_min (4 * station_count sub) boxes in
    let v : take (m - 0) (drop 0 roles) ≡ take (length from) roles = ap (λ (n : ℕ). take n roles) (sub-zero m ∙ g) ∙ take_min (length from) roles in
    let w : take (4 * count - 0) (drop 0 pieces) ≡ take (4 * count) pieces = ap (λ (n : ℕ). take n pieces) (sub-zero (4 * count)) in
    let x : take (count - 0) (drop 0 branches) ≡ take count branches = ap (λ (n : ℕ). take n branches) (sub-zero count) in
    h.is ∙ ap (λ (l : List Float). Audited.audit_of (Lent.drawn sub kv from to xy l (take (m - 0) (drop 0 roles)) (take (4 * count - 0) (drop 0 pieces)) (take (count - 0) (drop 0 branches))) A Y) u
    ∙ ap (λ (l : List ℕ). Audited.audit_of (Lent.drawn sub kv from to xy (take (4 * station_count sub) boxes) l (take (4 * count - 0) (drop 0 pieces)) (take (count - 0) (drop 0 branches))) A Y) v
    ∙ ap (λ (l : List Float). Audited.audit_of (Lent.drawn sub kv from to xy (take (4 * station_count sub) boxes) (take (length from) roles) l (take (count - 0) (drop 0 branches))) A Y) w
    ∙ ap (λ (l : List ℕ). Audited.audit_of (Lent.drawn sub kv from to xy (take (4 * station_count sub) boxes) (take (length from) roles) (take (4 * count) pieces) l) A Y) x

-- the same by the lists after it, which a struct's lists ended as
pub parts_lent : (sub kv : List ℕ) (from to : List ℤ) (xy boxes : List Float) (roles : List ℕ) (pieces : List Float) (branches : List ℕ) (k b m count : ℕ) (A : Lent.Lists) (Y : Lent.Work) (a : Result Figures Refusal) (F F' : Lent.Lists) (U U' : Lent.Work)
    → k ≡ station_count sub → b ≡ min (4 * k) (length boxes) → m ≡ min (length from) (length roles)
    → Audited.Answered (Lent.drawn sub kv from to xy (take (b - 0) (drop 0 boxes)) (take (m - 0) (drop 0 roles)) (take (4 * count - 0) (drop 0 pieces)) (take (count - 0) (drop 0 branches))) A Y (Audited.call a F U)
    → F' ≡ F → U' ≡ U → Audited.call a F' U' ≡ Audited.audit_of (audit_parts sub kv from to xy boxes roles pieces branches count) A Y
parts_lent sub kv from to xy boxes roles pieces branches k b m count A Y a F F' U U' e f g h p q =
    rw (p, q) (parts_audited sub kv from to xy boxes roles pieces branches k b m count A Y (Audited.call a F U) e f g h)
