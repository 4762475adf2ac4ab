-- The loops of `bus_lines` and `branch_lines`: the lines read so far, and the lists with them written over their front. Assumes nothing.
use mathlib.Core.Path.{◌≡◌, refl, sym, ap, subst, ◌∙◌}
use mathlib.Core.Bool.{Bool, true, false}
use mathlib.Core.List.{List, [], ◌∷◌, ◌++◌}
use Prim.Native.Nat.{ℕ, zero, suc, ◌+◌, ◌-◌, ◌*◌, ◌≤◌, ◌<◌}
use native.Mathlib.Omega.{arith}
use native.Mathlib.Nat.{add-zero}
use lib.Dec.{T, eqb}
use lib.IntN.{ℤ}
use lib.Ieee.{Float, of_bits, binary64}
use lib.ListN.{length, drop, set, length-append, length-drop, drop_of_length-le}
use lib.Seq.{drop-cons, drop-drop, set_at, append_snoc}
use Rattle.text.specs.Field.{Read, got, wrong}
use Rattle.text.specs.declared.listing.line.Bus.{Bus}
use Rattle.text.specs.declared.listing.line.Branch.{Branch}
use Rattle.text.specs.Line.{begins, branch_names, bus_line, branch_line}
use Rattle.text.specs.Input.{lines, broken, lines_to, Buses, Branches, no_buses, no_branches, add_bus, add_branch, bus_lines, branch_lines, at_end}
use Rattle.numbers.specs.Over.{over}
use Rattle.text.proofs.fields.Fields.{on_test, at_cons}

-- one more element over the front of a list
pub over_more : {A : Type 0} (s l : List A) (n : ℕ) (d x : A) → length s ≡ n → n < length l → set (over s l) n x ≡ over (s ++ (x ∷ [])) l
unfolding over
over_more s l n d x e h =
    let k : length s < length l = omega arith in
    let j : length (s ++ (x ∷ [])) ≡ suc (length s) = length-append s (x ∷ []) ∙ omega arith in
    ap (λ t. set (s ++ t) n x) (drop-cons l (length s) d k) ∙ set_at s _ _ x n e ∙ sym (append_snoc s x (drop (suc (length s)) l))
    ∙ ap (λ m. (s ++ (x ∷ [])) ++ drop m l) (sym j)

pub length_over : {A : Type 0} (s l : List A) → length s ≤ length l → length (over s l) ≡ length l
unfolding over
length_over s l h = simp (length-append, length-drop) (omega arith)

-- a text that begins with some bytes has as many
pub begins_length : (w l : List ℕ) → begins w l ≡ true → length w ≤ length l
unfolding begins
begins_length [] l e = omega arith
begins_length (w ∷ ws) [] e = absurd (subst T (sym e) tt)
begins_length (w ∷ ws) (c ∷ l) e = on_test (eqb w c) (λ f. omega (arith, begins_length ws l (rw (begins, f) at e))) (λ f. absurd (subst T (sym (rw (begins, f) at e)) tt))

pub names_room : (t : List ℕ) (i : ℕ) → begins branch_names (drop i t) ≡ true → i + 13 ≤ length t
unfolding branch_names
names_room t i e = omega (arith, begins_length branch_names (drop i t) e, length-drop i t)

-- lines of one kind, at a place of a text with n read
module _ {A B : Type 0} (ends : List ℕ → Bool) (past : ℕ) (line : List ℕ → Read B) (add : A → B → A) (b : A) (t : List ℕ) (i n : ℕ) where
  end_now : (k : ℕ) → ends (drop i t) ≡ true → lines_to ends past line add k b (drop i t) ≡ lines b (drop (i + past) t)
  unfolding lines_to
  end_now zero e = simp (lines_to, e, drop-drop)
  end_now (suc k) e = simp (lines_to, e, drop-drop)

  pub lines_end : ends (drop i t) ≡ true → lines_to ends past line add (64 - n) b (drop i t) ≡ lines b (drop (i + past) t)
  lines_end e = end_now (64 - n) e

  module _ (e : ends (drop i t) ≡ false) where
    pub lines_over : 64 ≤ n → lines_to ends past line add (64 - n) b (drop i t) ≡ broken b
    unfolding lines_to
    lines_over h = let k : 64 - n ≡ 0 = omega arith in simp (k, lines_to, e)

    module _ (h : n < 64) where
      left : 64 - n ≡ suc (64 - (n + 1))
      left = omega arith

      pub lines_wrong : line (drop i t) ≡ wrong → lines_to ends past line add (64 - n) b (drop i t) ≡ broken b
      unfolding lines_to
      lines_wrong g = simp (left, lines_to, e, g)

      pub lines_more : (v : B) (j : ℕ) → line (drop i t) ≡ got v (drop j t)
          → lines_to ends past line add (64 - n) b (drop i t) ≡ lines_to ends past line add (64 - (n + 1)) (add b v) (drop j t)
      unfolding lines_to
      lines_more v j g = simp (left, lines_to, e, g)

-- the end of a text
module _ (t : List ℕ) (i : ℕ) where
  pub end_here : length t ≤ i → at_end (drop i t) ≡ true
  unfolding at_end
  end_here h = simp (drop_of_length-le t h)

  pub end_not : i < length t → at_end (drop i t) ≡ false
  unfolding at_end
  end_not h = simp (at_cons t i h)

-- a lent list with s, n elements, written over its front
pub record Held {A : Type 0} (s l₀ l : List A) (n : ℕ) : Type 0 where
  pub is : l ≡ over s l₀
  pub len : length s ≡ n

held_none : {A : Type 0} (l : List A) → Held [] l l 0
unfolding over
held_none l = record { is = refl; len = refl }

held_more : {A : Type 0} (s l₀ l k : List A) (n : ℕ) (x : A) → Held s l₀ l n → n < length l₀ → k ≡ set l n x → Held (s ++ (x ∷ [])) l₀ k (n + 1)
held_more s l₀ l k n x h r e = record {
  is = e ∙ ap (λ t. set t n x) h.is ∙ over_more s l₀ n x x h.len r;
  len = length-append s (x ∷ []) ∙ (omega (arith, h.len));
}

held_two : {A : Type 0} (s l₀ l k : List A) (n : ℕ) (x y : A) → Held s l₀ l (2 * n) → 2 * n + 1 < length l₀
    → k ≡ set (set l (2 * n) x) (2 * n + 1) y → Held (s ++ (x ∷ y ∷ [])) l₀ k (2 * (n + 1))
held_two s l₀ l k n x y h r e =
    let m = held_more (s ++ (x ∷ [])) l₀ (set l (2 * n) x) k (2 * n + 1) y (held_more s l₀ l (set l (2 * n) x) (2 * n) x h (omega arith) refl) r e in
    record {
      is = m.is ∙ ap (λ t. over t l₀) (append_snoc s x (y ∷ []));
      len = ap length (sym (append_snoc s x (y ∷ []))) ∙ m.len ∙ (omega arith);
    }

pub record BusesRead (t : List ℕ) (at : ℕ) (S₀ K₀ : List ℕ) (X₀ : List Float) (S K : List ℕ) (X : List Float) (i n : ℕ) : Type 0 where
  pub sofar : Buses
  pub subs : Held sofar.sub S₀ S n
  pub kvs : Held sofar.kv K₀ K n
  pub xys : Held sofar.xy X₀ X (2 * n)
  pub rest : bus_lines (drop at t) ≡ lines_to (begins branch_names) 13 bus_line add_bus (64 - n) sofar (drop i t)

pub record BranchesRead (t : List ℕ) (at : ℕ) (F₀ O₀ : List ℤ) (L₀ : List ℕ) (F O : List ℤ) (L : List ℕ) (i n : ℕ) : Type 0 where
  pub sofar : Branches
  pub froms : Held sofar.from F₀ F n
  pub tos : Held sofar.to O₀ O n
  pub lives : Held sofar.live L₀ L n
  pub rest : branch_lines (drop at t) ≡ lines_to at_end 0 branch_line add_branch (64 - n) sofar (drop i t)

pub no_bus : (t : List ℕ) (at : ℕ) (S₀ K₀ : List ℕ) (X₀ : List Float) → BusesRead t at S₀ K₀ X₀ S₀ K₀ X₀ at 0
unfolding bus_lines no_buses
no_bus t at S₀ K₀ X₀ = record { sofar = no_buses; subs = held_none S₀; kvs = held_none K₀; xys = held_none X₀; rest = refl }

pub one_bus : {t : List ℕ} {at : ℕ} {S₀ K₀ : List ℕ} {X₀ : List Float} {S K S' K' : List ℕ} {X X' : List Float} {i n : ℕ} → BusesRead t at S₀ K₀ X₀ S K X i n
    → (64 ≤ length S₀) × (64 ≤ length K₀) × (128 ≤ length X₀) → n < 64 → begins branch_names (drop i t) ≡ false
    → (v : Bus) (j : ℕ) → bus_line (drop i t) ≡ got v (drop j t) → S' ≡ set S n v.sub → K' ≡ set K n v.kv
    → X' ≡ set (set X (2 * n) (of_bits binary64 v.x)) (2 * n + 1) (of_bits binary64 v.y) → BusesRead t at S₀ K₀ X₀ S' K' X' j (n + 1)
unfolding add_bus
one_bus {t} {i = i} {n = n} m r h e v j g p q s = record {
  sofar = add_bus m.sofar v;
  subs = held_more _ _ _ _ n v.sub m.subs (omega arith) p;
  kvs = held_more _ _ _ _ n v.kv m.kvs (omega arith) q;
  xys = held_two _ _ _ _ n (of_bits binary64 v.x) (of_bits binary64 v.y) m.xys (omega arith) s;
  rest = m.rest ∙ lines_more (begins branch_names) 13 bus_line add_bus m.sofar t i n e h v j g;
}

pub no_branch : (t : List ℕ) (at : ℕ) (F₀ O₀ : List ℤ) (L₀ : List ℕ) → BranchesRead t at F₀ O₀ L₀ F₀ O₀ L₀ at 0
unfolding branch_lines no_branches
no_branch t at F₀ O₀ L₀ = record { sofar = no_branches; froms = held_none F₀; tos = held_none O₀; lives = held_none L₀; rest = refl }

pub one_branch : {t : List ℕ} {at : ℕ} {F₀ O₀ : List ℤ} {L₀ : List ℕ} {F O F' O' : List ℤ} {L L' : List ℕ} {i n : ℕ} → BranchesRead t at F₀ O₀ L₀ F O L i n
    → (64 ≤ length F₀) × (64 ≤ length O₀) × (64 ≤ length L₀) → n < 64 → i < length t
    → (v : Branch) (j : ℕ) → branch_line (drop i t) ≡ got v (drop j t) → F' ≡ set F n v.from → O' ≡ set O n v.to → L' ≡ set L n v.live
    → BranchesRead t at F₀ O₀ L₀ F' O' L' j (n + 1)
unfolding add_branch
one_branch {t} {i = i} {n = n} m r h e v j g p q s = record {
  sofar = add_branch m.sofar v;
  froms = held_more _ _ _ _ n v.from m.froms (omega arith) p;
  tos = held_more _ _ _ _ n v.to m.tos (omega arith) q;
  lives = held_more _ _ _ _ n v.live m.lives (omega arith) s;
  rest = m.rest ∙ lines_more at_end 0 branch_line add_branch m.sofar t i n (end_not t i e) h v j g;
}

pub ruleset bus_laws = (names_room, lines_end, lines_over, lines_wrong, lines_more, no_bus)

pub ruleset branch_laws = (end_here, end_not, add-zero, lines_end, lines_over, lines_wrong, lines_more, no_branch)
