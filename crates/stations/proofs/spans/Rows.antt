-- The rows of buses on the list that holds them: none at first, then one branch's rows more. Assumes nothing.
use mathlib.Core.Path.{◌≡◌, refl, sym, ap, ◌∙◌, subst}
use mathlib.Core.Logic.{◌≢◌}
use mathlib.Core.Bool.{Bool, true, false}
use mathlib.Core.List.{List}
use Prim.Native.Nat.{ℕ, zero, suc, ◌+◌, ◌*◌, ◌<◌, max}
use native.Mathlib.Omega.{arith}
use native.Mathlib.Nat.{add-zero}
use native.Mathlib.Numerals.{add-one}
use borrow.Author.Count.{below_more}
use borrow.Author.Tests.{eqb-true, eqb-false}
use lib.Dec.{eqb}
use lib.IntN.{ℤ, negsuc}
use lib.ListN.{length, get_or, set, length-set}
use lib.Seq.{get_or-set_same, get_or-set_other}
use Rattle.numbers.specs.Order.{pick}
use Rattle.numbers.specs.Table.{table}
use Rattle.numbers.proofs.order.Tables.{length_table, get_d_table, table_ext}
use Rattle.numbers.proofs.order.Strides.{get_d_strided, get_d_first, strided_ext}
use Rattle.std.specs.Prelude.{Option, Some, None}
use Rattle.network.specs.declared.words.Kind.{Kind}
use Rattle.network.specs.declared.words.Kind.TheVariants.{Undrawn, Open, Internal, Line}
use Rattle.network.specs.Words.{Safe, station_of, kind_by, kind_for, known, live, kind_of, kinds, kind_at}
use Rattle.network.specs.Views.{columns_in, from_rows_in, to_rows_in}
use Rattle.stations.specs.Bar.{Span, bare, span_of, include, include_end, include_branch, span_to, spans}
use Rattle.stations.specs.Stages.Span.{span_at, spans_in, first_with, Included}

-- ---- the two numbers of a bus's rows with one more row

span_with : (f p r : ℕ) → span_of (first_with f p r) (max p (r + 1)) ≡ include r (span_of f p)
unfolding span_of first_with include
span_with f zero r = let e : max 0 (r + 1) ≡ suc r = omega arith in rw e refl
span_with f (suc q) r = let e : max (suc q) (r + 1) ≡ suc (max q r) = omega arith in rw e refl

abbrev pub put : List ℕ → ℕ → ℕ → List ℕ
put l i r = set (set l (3 * i + 1) (first_with (get_or l (3 * i + 1) 0) (get_or l (3 * i + 2) 0) r)) (3 * i + 2) (max (get_or l (3 * i + 2) 0) (r + 1))

module _ (l : List ℕ) (i r : ℕ) (h : 3 * i + 2 < length l) where
  abbrev first : ℕ
  first = first_with (get_or l (3 * i + 1) 0) (get_or l (3 * i + 2) 0) r

  abbrev past : ℕ
  past = max (get_or l (3 * i + 2) 0) (r + 1)

  put_kept : (k : ℕ) → k ≢ 3 * i + 1 → k ≢ 3 * i + 2 → get_or (put l i r) k 0 ≡ get_or l k 0
  put_kept k m n = get_or-set_other (set l (3 * i + 1) first) (3 * i + 2) k past 0 n ∙ get_or-set_other l (3 * i + 1) k first 0 m

  put_own : span_at (put l i r) i ≡ include r (span_at l i)
  put_own =
      let p : 3 * i + 1 < length l = omega arith in
      let q : 3 * i + 2 < length (set l (3 * i + 1) first) = simp length-set h in
      let a : get_or (put l i r) (3 * i + 1) 0 ≡ first = get_or-set_other (set l (3 * i + 1) first) (3 * i + 2) (3 * i + 1) past 0 (λ e. omega arith) ∙ get_or-set_same l (3 * i + 1) first 0 p in
      let b : get_or (put l i r) (3 * i + 2) 0 ≡ past = get_or-set_same (set l (3 * i + 1) first) (3 * i + 2) past 0 q in
      ap (λ (x : ℕ). span_of x (get_or (put l i r) (3 * i + 2) 0)) a ∙ ap (span_of first) b ∙ span_with (get_or l (3 * i + 1) 0) (get_or l (3 * i + 2) 0) r

  put_other : (j : ℕ) → j ≢ i → span_at (put l i r) j ≡ span_at l j
  put_other j n =
      ap (λ (x : ℕ). span_of x (get_or (put l i r) (3 * j + 2) 0)) (put_kept (3 * j + 1) (λ e. n (omega arith)) (λ e. omega arith))
      ∙ ap (span_of (get_or l (3 * j + 1) 0)) (put_kept (3 * j + 2) (λ e. omega arith) (λ e. n (omega arith)))

  put_column : (j : ℕ) → get_or (put l i r) (3 * j) 0 ≡ get_or l (3 * j) 0
  put_column j = put_kept (3 * j) (λ e. omega arith) (λ e. omega arith)

-- ---- the two ends of a branch
pub ends_included : (l l' m : List ℕ) (a b ra rb : ℕ) → 3 * a + 2 < length l → 3 * b + 2 < length l → a ≢ b → l' ≡ put l a ra → m ≡ put l' b rb
    → Included (λ i. include_end i a b ra rb) l m
unfolding include_end
ends_included l l' m a b ra rb h k n u v =
    rw (v, u)
    (record {
      spans = λ i. at i (eqb a i) refl (eqb b i) refl;
      columns = λ i. put_column (put l a ra) b rb k' i ∙ put_column l a ra h i;
    })
  where
    k' : 3 * b + 2 < length (put l a ra)
    k' = simp length-set k

    at : (i : ℕ) (t : Bool) → eqb a i ≡ t → (s : Bool) → eqb b i ≡ s → span_at (put (put l a ra) b rb) i ≡ pick t (include ra (span_at l i)) (pick s (include rb (span_at l i)) (span_at l i))
    at i true p s q =
        let e : a ≡ i = eqb-true a i p in
        rw (← e) (put_other (put l a ra) b rb k' a n ∙ put_own l a ra h)
    at i false p true q =
        let e : b ≡ i = eqb-true b i q in
        rw (← e) (put_own (put l a ra) b rb k' ∙ ap (include rb) (put_other l a ra h b (λ z. n (sym z))))
    at i false p false q = put_other (put l a ra) b rb k' i (λ z. eqb-false b i q (sym z)) ∙ put_other l a ra h i (λ z. eqb-false a i p (sym z))

-- ---- one branch, by what it is
module _ (ra rb : ℕ) (K : Kind) (l m : List ℕ) where
  abbrev pub Branch : Kind → Type 0
  Branch z = Included (λ i. include_branch i ra rb z) l m

  same : l ≡ m → Included (λ i s. s) l m
  same e = rw e (record { spans = λ i. refl; columns = λ i. refl })

  pub undrawn_included : K ≡ Undrawn → l ≡ m → Branch K
  unfolding include_branch
  undrawn_included e q = subst Branch (sym e) (same q)

  pub open_included : (a b : ℕ) → K ≡ Open a b → l ≡ m → Branch K
  unfolding include_branch
  open_included a b e q = subst Branch (sym e) (same q)

  pub internal_included : (a b xa xb : ℕ) → K ≡ Internal a b → xa ≡ ra → xb ≡ rb → Included (λ i. include_end i a b xa xb) l m → Branch K
  unfolding include_branch
  internal_included a b xa xb e p q h = subst Branch (sym e) (rw (← p, ← q) h)

  pub line_included : (a b xa xb : ℕ) → K ≡ Line a b → xa ≡ ra → xb ≡ rb → Included (λ i. include_end i a b xa xb) l m → Branch K
  unfolding include_branch
  line_included a b xa xb e p q h = subst Branch (sym e) (rw (← p, ← q) h)

-- a branch's buses differ
abbrev Apart : Kind → Type 0
Apart Undrawn = Unit {0}
Apart (Open a b) = a ≢ b
Apart (Internal a b) = a ≢ b
Apart (Line a b) = a ≢ b

apart_by : (a b : ℕ) (one isLive both : Bool) → eqb a b ≡ one → Apart (kind_by one isLive both a b)
unfolding kind_by
apart_by a b true isLive both e = tt
apart_by a b false false both e = eqb-false a b e
apart_by a b false true true e = eqb-false a b e
apart_by a b false true false e = eqb-false a b e

apart_for : (sub : List ℕ) (isLive : Bool) (s t : Option ℕ) → Apart (kind_for sub isLive s t)
unfolding kind_for
apart_for sub isLive None t = tt
apart_for sub isLive (Some a) None = tt
apart_for sub isLive (Some a) (Some b) = apart_by a b (eqb a b) isLive (eqb (station_of sub a) (station_of sub b)) refl

apart : (sub : List ℕ) (from to : List ℤ) (service : List ℕ) (e : ℕ) (K : Kind) → kind_of sub from to service e ≡ K → Apart K
unfolding kind_of
apart sub from to service e K q = subst Apart q (apart_for sub (live service e) (known (length sub) (get_or from e (negsuc 0))) (known (length sub) (get_or to e (negsuc 0))))

-- the buses of a branch with rows are known, and two
abbrev pub Two : List ℕ → Kind → Type 0
Two sub Undrawn = Unit {0}
Two sub (Open a b) = Unit {0}
Two sub (Internal a b) = (a < length sub) × (b < length sub) × (a ≢ b)
Two sub (Line a b) = (a < length sub) × (b < length sub) × (a ≢ b)

two_of : (sub : List ℕ) (K : Kind) → Safe sub K → Apart K → Two sub K
unfolding Safe
two_of sub Undrawn s a = tt
two_of sub (Open a b) s p = tt
two_of sub (Internal a b) s p = (s.0, s.1, p)
two_of sub (Line a b) s p = (s.0, s.1, p)

pub two : (sub : List ℕ) (from to : List ℤ) (service : List ℕ) (e : ℕ) (K J : Kind) → K ≡ kind_of sub from to service e → Safe sub K → K ≡ J → Two sub J
two sub from to service e K J q s j = subst (Two sub) j (two_of sub K s (apart sub from to service e K (sym q)))

-- ---- no rows
pub record Bare (i : ℕ) (l₀ l : List ℕ) : Type 0 where
  pub spans : (j : ℕ) → j < i → span_at l j ≡ bare
  pub columns : (j : ℕ) → get_or l (3 * j) 0 ≡ get_or l₀ (3 * j) 0

pub bare_more : (i : ℕ) (l₀ l : List ℕ) → 3 * i + 2 < length l → Bare i l₀ l → Bare (i + 1) l₀ (set l (3 * i + 2) 0)
unfolding span_of
bare_more i l₀ l h b =
    record {
      spans = below_more (λ j. span_at (set l (3 * i + 2) 0) j ≡ bare) i other own;
      columns = λ j. get_or-set_other l (3 * i + 2) (3 * j) 0 0 (λ e. omega arith) ∙ b.columns j;
    }
  where
    own : span_at (set l (3 * i + 2) 0) i ≡ bare
    own = ap (span_of (get_or (set l (3 * i + 2) 0) (3 * i + 1) 0)) (get_or-set_same l (3 * i + 2) 0 0 h)

    other : (j : ℕ) → j < i → span_at (set l (3 * i + 2) 0) j ≡ bare
    other j g =
        ap (λ (x : ℕ). span_of x (get_or (set l (3 * i + 2) 0) (3 * j + 2) 0)) (get_or-set_other l (3 * i + 2) (3 * j + 1) 0 0 (λ e. omega arith))
        ∙ ap (span_of (get_or l (3 * j + 1) 0)) (get_or-set_other l (3 * i + 2) (3 * j + 2) 0 0 (λ e. omega arith)) ∙ b.spans j g

columns_are : (n : ℕ) (l₀ l : List ℕ) → ((j : ℕ) → get_or l (3 * j) 0 ≡ get_or l₀ (3 * j) 0) → columns_in n l ≡ columns_in n l₀
columns_are n l₀ l h = strided_ext 3 0 0 n l l₀ (λ i g. rw (add-zero (3 * i)) (h i))

pub bare_all : (n : ℕ) (l₀ l : List ℕ) → Bare n l₀ l → (spans_in n l ≡ table (λ i. bare) n) × (columns_in n l ≡ columns_in n l₀)
unfolding spans_in
bare_all n l₀ l b = (table_ext (span_at l) (λ i. bare) n b.spans, columns_are n l₀ l b.columns)

-- ---- the first e branches
module _ (sub : List ℕ) (from to : List ℤ) (service ends : List ℕ) where
  abbrev ks : List Kind
  ks = kinds sub from to service

  abbrev fr : List ℕ
  fr = from_rows_in (length from) ends

  abbrev tr : List ℕ
  tr = to_rows_in (length from) ends

  pub record Spanned (e : ℕ) (l₀ l : List ℕ) : Type 0 where
    pub spans : (i : ℕ) → i < length sub → span_at l i ≡ span_to ks fr tr i e
    pub columns : (i : ℕ) → get_or l (3 * i) 0 ≡ get_or l₀ (3 * i) 0

  pub spanned_none : (l : List ℕ) → spans_in (length sub) l ≡ table (λ i. bare) (length sub) → Spanned 0 l l
  unfolding spans_in span_to
  spanned_none l h =
      record {
        spans = λ i g. sym (get_d_table (span_at l) (length sub) i bare g) ∙ ap (λ (t : List Span). get_or t i bare) h ∙ get_d_table (λ i. bare) (length sub) i bare g;
        columns = λ i. refl;
      }

  pub spanned_more : (e : ℕ) (l₀ l m : List ℕ) → e < length from
      → Included (λ i. include_branch i (get_or ends (4 * e) 0) (get_or ends (4 * e + 1) 0) (kind_of sub from to service e)) l m → Spanned e l₀ l → Spanned (e + 1) l₀ m
  unfolding span_to kinds
  spanned_more e l₀ l m h c s =
      record {
        spans = λ i g. c.spans i ∙ ap (include_branch i (get_or ends (4 * e) 0) (get_or ends (4 * e + 1) 0) (kind_of sub from to service e)) (s.spans i g) ∙ next i;
        columns = λ i. c.columns i ∙ s.columns i;
      }
    where
      next : (i : ℕ) → include_branch i (get_or ends (4 * e) 0) (get_or ends (4 * e + 1) 0) (kind_of sub from to service e) (span_to ks fr tr i e) ≡ span_to ks fr tr i (e + 1)
      next i =
          let a : get_or fr e 0 ≡ get_or ends (4 * e) 0 = get_d_first 4 0 (length from) e ends 0 h in
          let b : get_or tr e 0 ≡ get_or ends (4 * e + 1) 0 = get_d_strided 4 1 0 (length from) e ends 0 h in
          let k : kind_at ks e ≡ kind_of sub from to service e = get_d_table (kind_of sub from to service) (length from) e Undrawn h in
          rw (add-one e, ← a, ← b, ← k) refl

  pub spanned_all : (l₀ l : List ℕ) → Spanned (length from) l₀ l
      → (spans_in (length sub) l ≡ spans sub ks fr tr) × (columns_in (length sub) l ≡ columns_in (length sub) l₀)
  unfolding spans spans_in kinds
  spanned_all l₀ l s =
      let n : length ks ≡ length from = length_table (kind_of sub from to service) (length from) in (
        table_ext (span_at l) (λ i. span_to ks fr tr i (length ks)) (length sub) (λ i g. s.spans i g ∙ ap (span_to ks fr tr i) (sym n)),
        columns_are (length sub) l₀ l s.columns,
      )
