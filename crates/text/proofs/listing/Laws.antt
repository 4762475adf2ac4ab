-- What callers of `parse` know of a parsed text: the lists' lengths, and the longest well-formed text. Assumes nothing.
use mathlib.Core.Path.{◌≡◌, refl, sym, ap, subst, ◌∙◌}
use mathlib.Core.Bool.{Bool, true}
use mathlib.Core.Logic.{◌⊎◌, inl, inr}
use mathlib.Core.List.{List, [], ◌∷◌}
use Prim.Native.Nat.{ℕ, zero, suc, ◌+◌, ◌-◌, ◌*◌, ◌^◌, ◌≤◌, ◌<◌}
use native.Mathlib.Omega.{arith}
use native.Mathlib.Nat.{pow-suc, mul-suc, mul-le-mul_right}
use lib.Dec.{T, eqb, ltb, lit<}
use lib.IntN.{ℤ}
use lib.ListN.{length, drop, length-append, length-drop}
use borrow.Author.Tests.{ltb-true}
use Rattle.text.specs.declared.listing.input.InputCounts.{InputCounts}
use Rattle.std.specs.Prelude.{Some}
use Rattle.std.proofs.lemmas.Option.{cond_some}
use Rattle.text.specs.declared.listing.line.Bus.{Bus}
use Rattle.text.specs.declared.listing.line.Branch.{Branch}
use Rattle.text.specs.Field.{Read, got, wrong, digit, closed, digits_to, positive, whole, hexadecimal, pattern, minus, plus, bus_number}
use Rattle.text.specs.Line.{begins, bus_names, branch_names, and_then, bus_line, branch_line}
use Rattle.text.specs.Input.{Lines, lines, broken, lines_to, Buses, Branches, no_buses, no_branches, add_bus, add_branch, bus_lines, branch_lines, at_end, Input, with_buses, with_branches, parsed, read}
use Rattle.text.specs.LinePlaces.{answer}
use Rattle.text.proofs.fields.Fields.{on_test}
use Rattle.text.proofs.fields.Bounds.{not_got, limited_got, digits_least}

-- by what a reader found
on_read : {B P : Type 0} (r : Read B) → ((v : B) (l : List ℕ) → r ≡ got v l → P) → (r ≡ wrong → P) → P
on_read (got v l) f g = f v l refl
on_read wrong f g = g refl

-- ---- lists: what each line keeps, and a number that each line raises by one at most
module _ {A B : Type 0} (ends : List ℕ → Bool) (past : ℕ) (line : List ℕ → Read B) (add : A → B → A) where
  pub lines_keep : (P : A → Type 0) → ((a : A) (v : B) → P a → P (add a v)) → (k : ℕ) (a : A) (l : List ℕ) → P a → P (read (lines_to ends past line add k a l))
  unfolding lines_to read
  lines_keep P step zero a l p = on_test (ends l) (λ e. simp (lines_to, e) p) (λ e. simp (lines_to, e) p)
  lines_keep P step (suc k) a l p =
      on_test (ends l) (λ e. simp (lines_to, e) p)
      (λ e. on_read (line l) (λ v m f. simp (lines_to, e, f) (lines_keep P step k (add a v) m (step a v p))) (λ f. simp (lines_to, e, f) p))

  pub lines_most : (f : A → ℕ) → ((a : A) (v : B) → f (add a v) ≤ f a + 1) → (k : ℕ) (a : A) (l : List ℕ) → f (read (lines_to ends past line add k a l)) ≤ f a + k
  unfolding lines_to read
  lines_most f step zero a l = on_test (ends l) (λ e. simp (lines_to, e) (omega arith)) (λ e. simp (lines_to, e) (omega arith))
  lines_most f step (suc k) a l =
      on_test (ends l) (λ e. simp (lines_to, e) (omega arith))
      (λ e. on_read (line l)
      (λ v m g. simp (lines_to, e, g) (omega (arith, lines_most f step k (add a v) m, step a v)))
      (λ g. simp (lines_to, e, g) (omega arith)))

-- as many kv as substations, twice as many coordinates, at most 64
pub record BusesShape (b : Buses) : Type 0 where
  pub kvs : length b.kv ≡ length b.sub
  pub xys : length b.xy ≡ 2 * length b.sub
  pub few : length b.sub ≤ 64

-- as many ends as service flags, at most 64
pub record BranchesShape (b : Branches) : Type 0 where
  pub froms : length b.from ≡ length b.live
  pub tos : length b.to ≡ length b.live
  pub few : length b.live ≤ 64

even_buses : (b : Buses) (v : Bus) → (length b.kv ≡ length b.sub) × (length b.xy ≡ 2 * length b.sub)
    → (length (add_bus b v).kv ≡ length (add_bus b v).sub) × (length (add_bus b v).xy ≡ 2 * length (add_bus b v).sub)
unfolding add_bus
even_buses b v h = (simp length-append (omega arith), simp length-append (omega arith))

even_branches : (b : Branches) (v : Branch) → (length b.from ≡ length b.live) × (length b.to ≡ length b.live)
    → (length (add_branch b v).from ≡ length (add_branch b v).live) × (length (add_branch b v).to ≡ length (add_branch b v).live)
unfolding add_branch
even_branches b v h = (simp length-append (omega arith), simp length-append (omega arith))

pub buses_shape : (l : List ℕ) → BusesShape (read (bus_lines l))
unfolding bus_lines no_buses add_bus
buses_shape l =
    let e = lines_keep (begins branch_names) 13 bus_line add_bus (λ (b : Buses). (length b.kv ≡ length b.sub) × (length b.xy ≡ 2 * length b.sub)) even_buses 64 no_buses l (refl, refl) in
    record { kvs = e.0; xys = e.1; few = lines_most (begins branch_names) 13 bus_line add_bus (λ (b : Buses). length b.sub) (λ b v. simp length-append (omega arith)) 64 no_buses l }

pub branches_shape : (l : List ℕ) → BranchesShape (read (branch_lines l))
unfolding branch_lines no_branches add_branch
branches_shape l =
    let e = lines_keep at_end 0 branch_line add_branch (λ (b : Branches). (length b.from ≡ length b.live) × (length b.to ≡ length b.live)) even_branches 64 no_branches l (refl, refl) in
    record { froms = e.0; tos = e.1; few = lines_most at_end 0 branch_line add_branch (λ (b : Branches). length b.live) (λ b v. simp length-append (omega arith)) 64 no_branches l }

with_branches_lem : (b : Buses) (k : Lines Branches) → BusesShape b → BranchesShape (read k) → BusesShape (with_branches b k).buses × BranchesShape (with_branches b k).branches
unfolding with_branches read
with_branches_lem b (lines r l) h g = (h, g)
with_branches_lem b (broken r) h g = (h, g)

no_branches_lem : BranchesShape no_branches
unfolding no_branches
no_branches_lem = record { froms = refl; tos = refl; few = omega arith }

with_buses_lem : (k : Lines Buses) → BusesShape (read k) → BusesShape (with_buses k).buses × BranchesShape (with_buses k).branches
unfolding with_buses read
with_buses_lem (lines b l) h = with_branches_lem b (branch_lines l) h (branches_shape l)
with_buses_lem (broken b) h = (h, no_branches_lem)

-- the lists that `parse` fills, whether or not the text is malformed
pub parsed_shape : (t : List ℕ) → BusesShape (parsed t).buses × BranchesShape (parsed t).branches
unfolding parsed no_buses
parsed_shape t =
    on_test (begins bus_names t) (λ e. simp (parsed, e) (with_buses_lem (bus_lines (drop 11 t)) (buses_shape (drop 11 t))))
    (λ e. simp (parsed, e) (record { kvs = refl; xys = refl; few = omega arith }, no_branches_lem))

-- what the counts say
pub answered : (p : Input) (c : InputCounts) → answer p ≡ Some c
    → (p.well_formed ≡ true) × (c.buses ≡ length p.buses.sub) × (c.branches ≡ length p.branches.live)
unfolding answer
answered p c e =
    let k = cond_some p.well_formed (record { buses = length p.buses.sub; branches = length p.branches.live }) c e in
    (k.0, ap (λ (q : InputCounts). q.buses) (sym k.1), ap (λ (q : InputCounts). q.branches) (sym k.1))

-- ---- how many bytes a field takes
closed_bytes : (stop w : ℕ) (x : List ℕ) (v : ℕ) (l : List ℕ) → closed stop w x ≡ got v l → length x ≡ length l + 1
unfolding closed
closed_bytes stop w [] v l e = not_got e
closed_bytes stop w (c ∷ x) v l e =
    on_test (eqb c stop)
    (λ f. let g : got w x ≡ got v l = rw (closed, f) at e in
    let h : x ≡ l = cc in
    omega (arith, ap length h))
    (λ f. not_got (rw (closed, f) at e))

-- digits after v, up to a number below v * 10 ^ d
digits_bytes : (stop v : ℕ) (x : List ℕ) (w : ℕ) (l : List ℕ) (d : ℕ) → digits_to stop v x ≡ got w l → w < v * 10 ^ d → length x ≤ length l + d
unfolding digits_to
digits_bytes stop v [] w l d e h = not_got e
digits_bytes stop v (c ∷ x) w l zero e h = absurd (omega (arith, digits_least stop v (c ∷ x) w l e))
digits_bytes stop v (c ∷ x) w l (suc d) e h =
    on_test (eqb c stop)
    (λ f. let g : got v x ≡ got w l = rw (digits_to, f) at e in
    let q : x ≡ l = cc in
    omega (arith, ap length q))
    (λ f. on_test (ltb (digit c) 10)
    (λ g. let p : 10 ^ suc d ≡ 10 ^ d * 10 = pow-suc 10 d in
    let q : v * 10 ^ suc d ≡ v * (10 ^ d * 10) = ap (λ (n : ℕ). v * n) p in
    let m : v * 10 * 10 ^ d ≤ (v * 10 + digit c) * 10 ^ d = mul-le-mul_right (10 ^ d) (omega arith) in
    let b : w < (v * 10 + digit c) * 10 ^ d = omega arith in
    omega (arith, digits_bytes stop (v * 10 + digit c) x w l d (rw (digits_to, f, g) at e) b))
    (λ g. not_got (rw (digits_to, f, g) at e)))

positive_bytes : (stop most : ℕ) (x : List ℕ) (v : ℕ) (l : List ℕ) (d : ℕ) → positive stop most x ≡ got v l → most < 10 ^ d → length x ≤ length l + d + 1
unfolding positive
positive_bytes stop most [] v l d e h = not_got e
positive_bytes stop most (c ∷ x) v l d e h =
    on_test (ltb 0 (digit c))
    (λ f. on_test (ltb (digit c) 10)
    (λ g. let k : (digits_to stop (digit c) x ≡ got v l) × (v ≤ most) = limited_got most (digits_to stop (digit c) x) v l (rw (positive, f, g) at e) in
    let m : 1 * 10 ^ d ≤ digit c * 10 ^ d = mul-le-mul_right (10 ^ d) (ltb-true 0 (digit c) f) in
    omega (arith, digits_bytes stop (digit c) x v l d k.0 (omega (arith, k.1))))
    (λ g. not_got (rw (positive, f, g) at e)))
    (λ f. not_got (rw (positive, f) at e))

whole_bytes : (stop most : ℕ) (x : List ℕ) (v : ℕ) (l : List ℕ) (d : ℕ) → whole stop most x ≡ got v l → most < 10 ^ d → 1 ≤ d → length x ≤ length l + d + 1
unfolding whole
whole_bytes stop most [] v l d e h k = not_got e
whole_bytes stop most (c ∷ x) v l d e h k =
    on_test (eqb c 48)
    (λ f. omega (arith, closed_bytes stop 0 x v l (rw (whole, f) at e)))
    (λ f. positive_bytes stop most (c ∷ x) v l d (rw (whole, f) at e) h)

hex_bytes : (stop k v : ℕ) (x : List ℕ) (w : ℕ) (l : List ℕ) → hexadecimal stop k v x ≡ got w l → length x ≡ length l + k + 1
unfolding hexadecimal
hex_bytes stop zero v x w l e = omega (arith, closed_bytes stop v x w l e)
hex_bytes stop (suc k) v [] w l e = not_got e
hex_bytes stop (suc k) v (c ∷ x) w l e =
    on_test (ltb (digit c) 16) (λ f. omega (arith, hex_bytes stop k (v * 16 + digit c) x w l (rw (hexadecimal, f) at e))) (λ f. not_got (rw (hexadecimal, f) at e))

sign_bytes : (r : Read ℕ) (z : ℤ) (l x : List ℕ) (n : ℕ) → ((v : ℕ) → r ≡ got v l → length x ≤ n) → (minus r ≡ got z l) ⊎ (plus r ≡ got z l) → length x ≤ n
unfolding minus plus
sign_bytes wrong z l x n h (inl e) = not_got e
sign_bytes wrong z l x n h (inr e) = not_got e
sign_bytes (got v m) z l x n h (inl e) = let q : m ≡ l = cc in h v (ap (got v) q)
sign_bytes (got v m) z l x n h (inr e) = let q : m ≡ l = cc in h v (ap (got v) q)

number_bytes : (stop : ℕ) (x : List ℕ) (z : ℤ) (l : List ℕ) → bus_number stop x ≡ got z l → length x ≤ length l + 21
unfolding bus_number
number_bytes stop [] z l e = not_got e
number_bytes stop (c ∷ x) z l e =
    on_test (eqb c 45)
    (λ f. sign_bytes (positive stop (2 ^ 63) x) z l (c ∷ x) (length l + 21)
    (λ v g. omega (arith, positive_bytes stop (2 ^ 63) x v l 19 g (lit< tt))) (inl (rw (bus_number, f) at e)))
    (λ f. sign_bytes (whole stop (2 ^ 63 - 1) (c ∷ x)) z l (c ∷ x) (length l + 21)
    (λ v g. omega (arith, whole_bytes stop (2 ^ 63 - 1) (c ∷ x) v l 19 g (lit< tt) (omega arith))) (inr (rw (bus_number, f) at e)))

-- one value, then what follows it: as many bytes as both take
then_bytes : {A B : Type 0} (r : Read A) (f : A → List ℕ → Read B) (x l : List ℕ) (v : B) (m n : ℕ)
    → ((a : A) (k : List ℕ) → r ≡ got a k → length x ≤ length k + m) → ((a : A) (k : List ℕ) → f a k ≡ got v l → length k ≤ length l + n)
    → and_then r f ≡ got v l → length x ≤ length l + (m + n)
unfolding and_then
then_bytes wrong f x l v m n h g e = not_got e
then_bytes (got a k) f x l v m n h g e = omega (arith, h a k refl, g a k e)

pattern_bytes : (stop : ℕ) (x : List ℕ) (v : ℕ) (l : List ℕ) → pattern stop x ≡ got v l → length x ≤ length l + 17
unfolding pattern
pattern_bytes stop x v l e = omega (arith, hex_bytes stop 16 0 x v l e)

same_rest : {B : Type 0} (a b : B) (k l : List ℕ) → got a k ≡ got b l → length k ≤ length l + 0
same_rest a b k l e = let q : k ≡ l = cc in omega (arith, ap length q)

bus_bytes : (x : List ℕ) (v : Bus) (l : List ℕ) → bus_line x ≡ got v l → length x ≤ length l + 62
unfolding bus_line
bus_bytes x v l e =
    then_bytes (whole 32 (2 ^ 32 - 1) x) _ x l v 11 51 (λ s k g. omega (arith, whole_bytes 32 (2 ^ 32 - 1) x s k 10 g (lit< tt) (omega arith)))
    (λ s x₁. then_bytes (pattern 32 x₁) _ x₁ l v 17 34 (λ k m. pattern_bytes 32 x₁ k m)
    (λ k x₂. then_bytes (pattern 32 x₂) _ x₂ l v 17 17 (λ a m. pattern_bytes 32 x₂ a m)
    (λ a x₃. then_bytes (pattern 10 x₃) _ x₃ l v 17 0 (λ b m. pattern_bytes 10 x₃ b m) (λ b x₄. same_rest _ v x₄ l))))
    e

branch_bytes : (x : List ℕ) (v : Branch) (l : List ℕ) → branch_line x ≡ got v l → length x ≤ length l + 46
unfolding branch_line
branch_bytes x v l e =
    then_bytes (bus_number 32 x) _ x l v 21 25 (λ f k. number_bytes 32 x f k)
    (λ f x₁. then_bytes (bus_number 32 x₁) _ x₁ l v 21 4 (λ o k. number_bytes 32 x₁ o k)
    (λ o x₂. then_bytes (whole 10 (2 ^ 8 - 1) x₂) _ x₂ l v 4 0 (λ n k g. omega (arith, whole_bytes 10 (2 ^ 8 - 1) x₂ n k 3 g (lit< tt) (omega arith))) (λ n x₃. same_rest _ v x₃ l)))
    e

not_lines : {A P : Type 0} {a b : A} {l : List ℕ} → broken a ≡ lines b l → P
not_lines e = let z : ◌≡◌ {A = ℕ} 0 1 = cc in absurd (omega arith)

-- ---- how many bytes lines of one kind take, where each takes at most w
module _ {A B : Type 0} (ends : List ℕ → Bool) (past : ℕ) (line : List ℕ → Read B) (add : A → B → A) (w : ℕ)
    (short : (x : List ℕ) (v : B) (l : List ℕ) → line x ≡ got v l → length x ≤ length l + w) where
  -- the end of the lines, and how far it is
  record Ends (k : ℕ) (x l : List ℕ) : Type 0 where
    from : List ℕ
    ended : ends from ≡ true
    is : l ≡ drop past from
    far : length x ≤ length from + w * k

  lines_bytes : (k : ℕ) (a b : A) (x l : List ℕ) → lines_to ends past line add k a x ≡ lines b l → Ends k x l
  unfolding lines_to
  lines_bytes zero a b x l e =
      on_test (ends x)
      (λ f. let g : lines a (drop past x) ≡ lines b l = rw (lines_to, f) at e in
      record { from = x; ended = f; is = cc; far = omega arith })
      (λ f. not_lines (rw (lines_to, f) at e))
  lines_bytes (suc k) a b x l e =
      on_test (ends x)
      (λ f. let g : lines a (drop past x) ≡ lines b l = rw (lines_to, f) at e in
      record { from = x; ended = f; is = cc; far = omega arith })
      (λ f. on_read (line x)
      (λ v m g. let r : Ends k m l = lines_bytes k (add a v) b m l (rw (lines_to, f, g) at e) in
      let s : w * suc k ≡ w * k + w = mul-suc w k in
      record { from = r.from; ended = r.ended; is = r.is; far = omega (arith, r.far, short x v m g) })
      (λ g. not_lines (rw (lines_to, f, g) at e)))

no_bytes : (l : List ℕ) → at_end l ≡ true → length l ≡ 0
unfolding at_end
no_bytes [] e = refl
no_bytes (c ∷ l) e = absurd (subst T (sym e) tt)

branches_bytes : (b : Buses) (l : List ℕ) (k : Lines Branches) → branch_lines l ≡ k → (with_branches b k).well_formed ≡ true → length l ≤ 2944
unfolding with_branches branch_lines
branches_bytes b l (lines r m) e h =
    let n : Ends at_end 0 branch_line add_branch 46 branch_bytes 64 l m = lines_bytes at_end 0 branch_line add_branch 46 branch_bytes 64 no_branches r l m e in
    omega (arith, n.far, no_bytes n.from n.ended)
branches_bytes b l (broken r) e h = absurd (subst T (sym h) tt)

buses_bytes : (x : List ℕ) (k : Lines Buses) → bus_lines x ≡ k → (with_buses k).well_formed ≡ true → length x ≤ 6925
unfolding with_buses bus_lines
buses_bytes x (lines b l) e h =
    let n : Ends (begins branch_names) 13 bus_line add_bus 62 bus_bytes 64 x l = lines_bytes (begins branch_names) 13 bus_line add_bus 62 bus_bytes 64 no_buses b x l e in
    let d : length l ≡ length n.from - 13 = ap length n.is ∙ length-drop 13 n.from in
    omega (arith, n.far, branches_bytes b l (branch_lines l) refl h)
buses_bytes x (broken b) e h = absurd (subst T (sym h) tt)

-- a longer text is malformed: 11 + 64 * 62 + 13 + 64 * 46 bytes
pub longest : (t : List ℕ) → (parsed t).well_formed ≡ true → length t ≤ 6936
unfolding parsed
longest t h =
    on_test (begins bus_names t)
    (λ e. omega (arith, buses_bytes (drop 11 t) (bus_lines (drop 11 t)) refl (rw (parsed, e) at h), length-drop 11 t))
    (λ e. absurd (subst T (sym (rw (parsed, e) at h)) tt))
