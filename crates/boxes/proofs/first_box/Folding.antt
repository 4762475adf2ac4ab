-- The box entered first doesn't depend on the order of the stations: it is the least by place, then by number. Assumes nothing.
use mathlib.Core.Path.{◌≡◌, refl, sym, ap, ◌∙◌, subst}
use mathlib.Core.List.{List, [], ◌∷◌, ◌++◌}
use Prim.Native.Nat.{ℕ, zero, suc, ◌+◌, ◌≤◌, ◌<◌}
use native.Mathlib.Omega.{arith}
use mathlib.Core.Bool.{Bool, true, false, not, cond, ◌&&◌, ◌||◌, true≢false}
use lib.Dec.{T, ltb, eqb, leb}
use lib.Ieee.{Float, lt, le, eq, is_nan}
use borrow.Author.Tests.{lt-ltb, ltb-true, ltb-false}
use Rattle.numbers.proofs.float.Keys.{not_both, le_of_lt_float, le_self}
use Rattle.numbers.proofs.float.Bounds.{plus_number}
use Rattle.numbers.specs.Order.{pick, insert_by, sort_by}
use Rattle.numbers.specs.Table.{table_from}
use Rattle.plane.specs.declared.geometry.Point.{Point}
use Rattle.plane.specs.declared.geometry.Box.{Box}
use Rattle.std.specs.Prelude.{Option, Some, None}
use Rattle.plane.specs.Clip.{hits}
use Rattle.plane.specs.Entry.{enters, entry_of}
use Rattle.plane.proofs.geometry.Entries.{enters_entry, place_plus}
use Rattle.plane.specs.Plane.{box_in}
use Rattle.boxes.specs.First.{entry_at, comes_first, sooner, look}
use Rattle.numbers.proofs.float.Ordered.{lift, le_left, le_right, float_trans, not_below, below_through, same_le, le_same}

-- ---- which of two comes first
yes_first : (a b : Bool) → a ≡ true → (a || b) ≡ true
yes_first a b h = ap (λ (x : Bool). x || b) h

yes_second : (a b c : Bool) → b ≡ true → c ≡ true → (a || (b && c)) ≡ true
yes_second true b c h k = refl
yes_second false b c h k = ap (λ (x : Bool). x && c) h ∙ k

pub data Which (t : Float) (s : ℕ) (u : Float) (r : ℕ) : Type 0 where
  nearer : lt t u ≡ true → Which t s u r
  lower : eq t u ≡ true → s < r → Which t s u r

pub which_of : (t : Float) (s : ℕ) (u : Float) (r : ℕ) → comes_first t s u r ≡ true → Which t s u r
unfolding comes_first
which_of t s u r h = go (lt t u) (eq t u) (ltb s r) refl refl refl h
  where
    go : (a b c : Bool) → lt t u ≡ a → eq t u ≡ b → ltb s r ≡ c → (a || (b && c)) ≡ true → Which t s u r
    go true b c p q o h = nearer p
    go false true true p q o h = lower q (ltb-true s r o)
    go false true false p q o h = absurd (true≢false (sym h))
    go false false c p q o h = absurd (true≢false (sym h))

pub first_of : (t : Float) (s : ℕ) (u : Float) (r : ℕ) → Which t s u r → comes_first t s u r ≡ true
unfolding comes_first
first_of t s u r (nearer h) = yes_first (lt t u) (eq t u && ltb s r) h
first_of t s u r (lower h k) = yes_second (lt t u) (eq t u) (ltb s r) h (lt-ltb s r k)

which_trans : (t : Float) (s : ℕ) (u : Float) (r : ℕ) (v : Float) (w : ℕ) → Which t s u r → Which u r v w → Which t s v w
which_trans t s u r v w (nearer h) (nearer k) = nearer (below_through t t u v (own t u h) h (le_of_lt_float u v (lift (lt u v) k)))
  where
    own : (x y : Float) → lt x y ≡ true → T (le x x)
    own x y h = le_self x (le_left x y (le_of_lt_float x y (lift (lt x y) h)))
which_trans t s u r v w (nearer h) (lower k l) = nearer (below_through t t u v (own t u h) h (same_le u v k))
  where
    own : (x y : Float) → lt x y ≡ true → T (le x x)
    own x y h = le_self x (le_left x y (le_of_lt_float x y (lift (lt x y) h)))
which_trans t s u r v w (lower h l) (nearer k) = nearer (below_through t u v v (same_le t u h) k (own u v k))
  where
    own : (x y : Float) → lt x y ≡ true → T (le y y)
    own x y h = le_self y (le_right x y (le_of_lt_float x y (lift (lt x y) h)))
which_trans t s u r v w (lower h l) (lower k m) = go (lt t v) refl
  where
    go : (b : Bool) → lt t v ≡ b → Which t s v w
    go true e = nearer e
    go false e = lower (le_same t v (float_trans t u v (same_le t u h) (same_le u v k)) e) (omega arith)

pub never_both : (t : Float) (s : ℕ) (u : Float) (r : ℕ) → Which t s u r → Which u r t s → ⊥
never_both t s u r (nearer h) (nearer k) = not_both t u (lift (lt t u) h) (le_of_lt_float u t (lift (lt u t) k))
never_both t s u r (nearer h) (lower k l) = not_both t u (lift (lt t u) h) (same_le u t k)
never_both t s u r (lower h l) (nearer k) = not_both u t (lift (lt u t) k) (same_le t u h)
never_both t s u r (lower h l) (lower k m) = omega arith

neither : (t : Float) (s : ℕ) (u : Float) (r : ℕ) → T (not (is_nan t)) → T (not (is_nan u)) → comes_first t s u r ≡ false → comes_first u r t s ≡ false → s ≡ r
neither t s u r n m h k = go (lt t u) refl (lt u t) refl
  where
    no-first : (t : Float) (s : ℕ) (u : Float) (r : ℕ) → comes_first t s u r ≡ false → Which t s u r → ⊥
    no-first t s u r h w = true≢false (sym (first_of t s u r w) ∙ h)

    go : (a : Bool) → lt t u ≡ a → (b : Bool) → lt u t ≡ b → s ≡ r
    go true p b q = absurd (no-first t s u r h (nearer p))
    go false p true q = absurd (no-first u r t s k (nearer q))
    go false p false q = both (ltb s r) refl (ltb r s) refl
      where
        both : (a : Bool) → ltb s r ≡ a → (b : Bool) → ltb r s ≡ b → s ≡ r
        both true e b f = absurd (no-first t s u r h (lower (le_same t u (not_below u t m n q) p) (ltb-true s r e)))
        both false e true f = absurd (no-first u r t s k (lower (le_same u t (not_below t u n m p) q) (ltb-true r s f)))
        both false e false f = omega (arith, ltb-false s r e, ltb-false r s f)

-- ---- two stations in either order
unfoldable pub Proper : Option Float → Type 0
Proper None = Unit {0}
Proper (Some t) = T (not (is_nan t))

module _ (t : Float) (s : ℕ) (u : Float) (r : ℕ) (n : T (not (is_nan t))) (m : T (not (is_nan u))) (same : s ≡ r → t ≡ u) where
  two : cond {A = Option (Float × ℕ)} (comes_first t s u r) (Some (t, s)) (Some (u, r)) ≡ cond (comes_first u r t s) (Some (u, r)) (Some (t, s))
  two = go (comes_first t s u r) (comes_first u r t s) refl refl
    where
      go : (a b : Bool) → comes_first t s u r ≡ a → comes_first u r t s ≡ b → cond {A = Option (Float × ℕ)} a (Some (t, s)) (Some (u, r)) ≡ cond b (Some (u, r)) (Some (t, s))
      go true true h k = absurd (never_both t s u r (which_of t s u r h) (which_of u r t s k))
      go true false h k = refl
      go false true h k = refl
      go false false h k = let e : s ≡ r = neither t s u r n m h k in let f : t ≡ u = same e in cc

  three : (v : Float) (w : ℕ) → sooner s (Some t) (sooner r (Some u) (Some (v, w))) ≡ sooner r (Some u) (sooner s (Some t) (Some (v, w)))
  unfolding sooner
  three v w = go (comes_first t s v w) (comes_first u r v w) refl refl
    where
      go : (a b : Bool) → comes_first t s v w ≡ a → comes_first u r v w ≡ b → sooner s (Some t) (cond b (Some (u, r)) (Some (v, w))) ≡ sooner r (Some u) (cond a (Some (t, s)) (Some (v, w)))
      go true true h k = two
      go true false h k = ap (λ (x : Bool). cond {A = Option (Float × ℕ)} x (Some (t, s)) (Some (v, w))) h ∙ sym (not-this (comes_first u r t s) refl)
        where
          not-this : (x : Bool) → comes_first u r t s ≡ x → cond {A = Option (Float × ℕ)} x (Some (u, r)) (Some (t, s)) ≡ Some (t, s)
          not-this true e = absurd (true≢false (sym (first_of u r v w (which_trans u r t s v w (which_of u r t s e) (which_of t s v w h))) ∙ k))
          not-this false e = refl
      go false true h k = not-this (comes_first t s u r) refl ∙ sym (ap (λ (x : Bool). cond {A = Option (Float × ℕ)} x (Some (u, r)) (Some (v, w))) k)
        where
          not-this : (x : Bool) → comes_first t s u r ≡ x → cond {A = Option (Float × ℕ)} x (Some (t, s)) (Some (u, r)) ≡ Some (u, r)
          not-this true e = absurd (true≢false (sym (first_of t s v w (which_trans t s u r v w (which_of t s u r e) (which_of u r v w k))) ∙ h))
          not-this false e = refl
      go false false h k = ap (λ (x : Bool). cond {A = Option (Float × ℕ)} x (Some (t, s)) (Some (v, w))) h ∙ sym (ap (λ (x : Bool). cond {A = Option (Float × ℕ)} x (Some (u, r)) (Some (v, w))) k)

swap : (s r : ℕ) (e f : Option Float) → Proper e → Proper f → (s ≡ r → e ≡ f) → (best : Option (Float × ℕ)) → sooner s e (sooner r f best) ≡ sooner r f (sooner s e best)
unfolding sooner Proper
swap s r None f h k same best = refl
swap s r (Some t) None h k same best = refl
swap s r (Some t) (Some u) h k same None = two t s u r h k (λ e. placed (same e))
  where
    placed : Some t ≡ Some u → t ≡ u
    placed e = cc
swap s r (Some t) (Some u) h k same (Some (v, w)) = three t s u r h k (λ e. placed (same e)) v w
  where
    placed : Some t ≡ Some u → t ≡ u
    placed e = cc

pub proper_entry : (p q : Point) (b : Box) → Proper (enters p q b)
unfolding Proper
proper_entry p q b = subst Proper (sym (enters_entry p q b)) (by (hits p q b))
  where
    by : (x : Bool) → Proper (cond x (Some (entry_of p q b)) None)
    by true = plus_number (entry_of p q b) (place_plus p q b)
    by false = tt

-- ---- lists of stations
module _ (boxes : List Box) (p q : Point) (a b : ℕ) where
  proper_at : (s : ℕ) → Proper (entry_at boxes p q a b s)
  unfolding entry_at Proper
  proper_at s = go (eqb s a || eqb s b)
    where
      go : (x : Bool) → Proper (cond x None (enters p q (box_in boxes s)))
      go true = tt
      go false = proper_entry p q (box_in boxes s)

  pub swap_at : (s r : ℕ) (best : Option (Float × ℕ)) → sooner s (entry_at boxes p q a b s) (sooner r (entry_at boxes p q a b r) best) ≡ sooner r (entry_at boxes p q a b r) (sooner s (entry_at boxes p q a b s) best)
  swap_at s r best = swap s r (entry_at boxes p q a b s) (entry_at boxes p q a b r) (proper_at s) (proper_at r) (ap (entry_at boxes p q a b)) best

  pub look_append : (xs ys : List ℕ) (best : Option (Float × ℕ)) → look boxes p q a b (xs ++ ys) best ≡ look boxes p q a b ys (look boxes p q a b xs best)
  unfolding look
  look_append [] ys best = refl
  look_append (x ∷ xs) ys best = look_append xs ys (sooner x (entry_at boxes p q a b x) best)

  pub look_past : (s : ℕ) (xs : List ℕ) (best : Option (Float × ℕ)) → look boxes p q a b xs (sooner s (entry_at boxes p q a b s) best) ≡ sooner s (entry_at boxes p q a b s) (look boxes p q a b xs best)
  unfolding look
  look_past s [] best = refl
  look_past s (x ∷ xs) best = ap (look boxes p q a b xs) (swap_at x s best) ∙ look_past s xs (sooner x (entry_at boxes p q a b x) best)

  pub look_swap : (xs ys : List ℕ) (best : Option (Float × ℕ)) → look boxes p q a b ys (look boxes p q a b xs best) ≡ look boxes p q a b xs (look boxes p q a b ys best)
  unfolding look
  look_swap [] ys best = refl
  look_swap (x ∷ xs) ys best = look_swap xs ys (sooner x (entry_at boxes p q a b x) best) ∙ ap (look boxes p q a b xs) (look_past x ys best)

  look_insert : (key : ℕ → ℕ) (x : ℕ) (l : List ℕ) (best : Option (Float × ℕ)) → look boxes p q a b (insert_by key x l) best ≡ look boxes p q a b (x ∷ l) best
  unfolding insert_by look
  look_insert key x [] best = refl
  look_insert key x (y ∷ ys) best = go (leb (key x) (key y)) (look_insert key x ys (sooner y (entry_at boxes p q a b y) best))
    where
      go : (t : Bool) → look boxes p q a b (insert_by key x ys) (sooner y (entry_at boxes p q a b y) best) ≡ look boxes p q a b (x ∷ ys) (sooner y (entry_at boxes p q a b y) best) → look boxes p q a b (pick t (x ∷ y ∷ ys) (y ∷ insert_by key x ys)) best ≡ look boxes p q a b ys (sooner y (entry_at boxes p q a b y) (sooner x (entry_at boxes p q a b x) best))
      go true h = refl
      go false h = h ∙ ap (look boxes p q a b ys) (swap_at x y best)

  -- the stations sorted by any key
  pub look_sort : (key : ℕ → ℕ) (l : List ℕ) (best : Option (Float × ℕ)) → look boxes p q a b (sort_by key l) best ≡ look boxes p q a b l best
  unfolding sort_by look
  look_sort key [] best = refl
  look_sort key (x ∷ xs) best = look_insert key x (sort_by key xs) best ∙ look_sort key xs (sooner x (entry_at boxes p q a b x) best)

  -- stations none of which comes before the best leave it
  pub look_none : (f : ℕ → ℕ) (lo n : ℕ) (best : Option (Float × ℕ)) → ((i : ℕ) → lo ≤ i → i < lo + n → sooner (f i) (entry_at boxes p q a b (f i)) best ≡ best) → look boxes p q a b (table_from f lo n) best ≡ best
  unfolding table_from look
  look_none f lo zero best h = refl
  look_none f lo (suc n) best h = ap (look boxes p q a b (table_from f (suc lo) n)) (h lo (omega arith) (omega arith)) ∙ look_none f (suc lo) n best (λ i x y. h i (omega arith) (omega arith))

-- the places of a range, in two parts
pub table_parts : {A : Type 0} (f : ℕ → A) (lo m n : ℕ) → table_from f lo (m + n) ≡ table_from f lo m ++ table_from f (lo + m) n
unfolding table_from
table_parts f lo zero n = let e : 0 + n ≡ n = omega arith in let g : lo + 0 ≡ lo = omega arith in rw (e, g)
table_parts f lo (suc m) n = let e : suc m + n ≡ suc (m + n) = omega arith in let g : lo + suc m ≡ suc lo + m = omega arith in rw (e, g) (ap (λ (l : List _). f lo ∷ l) (table_parts f (suc lo) m n))
