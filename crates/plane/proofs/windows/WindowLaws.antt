-- A box that a piece enters within a part of it reaches each window of that part; the place of entry is a number from 0 to 1. Assumes nothing.
use mathlib.Core.Path.{◌≡◌, refl, sym, ◌∙◌, subst}
use mathlib.Core.Bool.{Bool, true, false, not, cond, ◌&&◌, true≢false}
use lib.Dec.{T}
use lib.Ieee.{Float, nan, inf, fin, lt, le, eq, neg, add, sub, div, is_nan, of_bits}
use Rattle.numbers.specs.Small.{max_of, min_of, is_finite}
use Rattle.numbers.specs.Ops.{◌⊖◌, ◌⊘◌, f0, f1}
use Rattle.numbers.proofs.float.Keys.{le_self, not_both, finite_no_nan}
use Rattle.plane.specs.declared.geometry.Point.{Point}
use Rattle.plane.specs.declared.geometry.Box.{Box}
use Rattle.std.specs.Prelude.{Option, Some, None, option_map}
use Rattle.plane.specs.Clip.{part, cut, clip_by, clipped}
use Rattle.plane.specs.Entry.{enters}
use Rattle.plane.proofs.geometry.Clips.{Straight, clipped_straight, right_test, top_test}
use Rattle.plane.specs.Stages.Window.{plain_piece, finite_box, range_holds, window_holds, is_apart, Reaches}
use Rattle.numbers.proofs.float.Ordered.{lift, le_left, le_right, float_trans, not_below, below_through, le_same, below_le, not_above}
use Rattle.plane.proofs.windows.Monotone.{neg_finite, above_turned, under_turned, level_turned, level_not_below, level_not_above, sub_number, sub_number_2, sub_rises, sub_falls, quotient_rises, quotient_falls}

abbrev Number : Float → Type 0
Number x = T (not (is_nan x))

-- ---- what holds of the places where a piece comes in and goes out, as far as something of it is left
Of : (Float → Float → Type 0) → Option (Float × Float) → Type 0
Of P None = Unit {0}
Of P (Some (t, u)) = P t u

of_map : (P Q : Float → Float → Type 0) → ((t u : Float) → P t u → Q t u) → (c : Option (Float × Float)) → Of P c → Of Q c
unfolding Of
of_map P Q f None h = tt
of_map P Q f (Some (t, u)) h = f t u h

-- no wider than from t to u
abbrev Within : Float → Float → Float → Float → Type 0
Within t u t' u' = T (le t t') × T (le u' u)

-- a side that the piece nears at the rate p, from q off: it comes in there by t, or goes out there no sooner than u, or lies on the right side of it
record Passed (p q t u : Float) : Type 0 where
  coming : lt p f0 ≡ true → T (le (q ⊘ p) t)
  going : lt f0 p ≡ true → T (le u (q ⊘ p))
  still : eq p f0 ≡ true → lt q f0 ≡ false

-- ---- one test narrows what is left
max_left : (t r : Float) → Number t → T (le t (max_of t r))
unfolding max_of
max_left t r n = go (lt t r) refl
  where
    go : (b : Bool) → lt t r ≡ b → T (le t (cond b r t))
    go true e = below_le t r e
    go false e = le_self t n

max_right : (t r : Float) → Number t → Number r → T (le r (max_of t r))
unfolding max_of
max_right t r n m = go (lt t r) refl
  where
    go : (b : Bool) → lt t r ≡ b → T (le r (cond b r t))
    go true e = le_self r m
    go false e = not_below t r n m e

min_left : (u r : Float) → Number u → T (le (min_of u r) u)
unfolding min_of
min_left u r n = go (lt r u) refl
  where
    go : (b : Bool) → lt r u ≡ b → T (le (cond b r u) u)
    go true e = below_le r u e
    go false e = le_self u n

min_right : (u r : Float) → Number u → Number r → T (le (min_of u r) r)
unfolding min_of
min_right u r n m = go (lt r u) refl
  where
    go : (b : Bool) → lt r u ≡ b → T (le (cond b r u) r)
    go true e = le_self r m
    go false e = not_below r u m n e

part_of : (P : Float → Float → Type 0) (t u : Float) → P t u → Of P (part t u)
unfolding part Of
part_of P t u h = go (lt u t)
  where
    go : (b : Bool) → Of P (cond b None (Some (t, u)))
    go true = tt
    go false = h

clip_within : (p q t u : Float) → Number t → Number u → Of (Within t u) (clip_by p q (Some (t, u)))
unfolding clip_by cut Of
clip_within p q t u n m = go (eq p f0) (lt q f0) (lt p f0)
  where
    go : (a b c : Bool) → Of (Within t u) (cond a (cond b None (Some (t, u))) (cut c (q ⊘ p) t u))
    go true true c = tt
    go true false c = (le_self t n, le_self u m)
    go false b true = part_of (Within t u) (max_of t (q ⊘ p)) u (max_left t (q ⊘ p) n, le_self u m)
    go false b false = part_of (Within t u) t (min_of u (q ⊘ p)) (le_self t n, min_left u (q ⊘ p) m)

-- what narrowing keeps is kept by a test
abbrev Narrows : (Float → Float → Type 0) → Type 0
Narrows P = (t u t' u' : Float) → Within t u t' u' → P t u → P t' u'

test_keeps : (P : Float → Float → Type 0) → Narrows P → (p q : Float) (c : Option (Float × Float)) → Of (Within f0 f1) c → Of P c → Of P (clip_by p q c)
unfolding Of
test_keeps P f p q None n h = unfold clip_by in tt
test_keeps P f p q (Some (t, u)) n h = of_map (Within t u) P (λ t' u' w. f t u t' u' w h) (clip_by p q (Some (t, u))) (clip_within p q t u (le_right f0 t n.0) (le_left u f1 n.1))

within_narrows : (a z : Float) → Narrows (Within a z)
within_narrows a z t u t' u' w h = (float_trans a t t' h.0 w.0, float_trans u' u z w.1 h.1)

within_kept : (p q : Float) (c : Option (Float × Float)) → Of (Within f0 f1) c → Of (Within f0 f1) (clip_by p q c)
within_kept p q c h = test_keeps (Within f0 f1) (within_narrows f0 f1) p q c h h

passed_narrows : (p q : Float) → Narrows (Passed p q)
passed_narrows p q t u t' u' w k =
    record {
      coming = λ h. float_trans (q ⊘ p) t t' (k.coming h) w.0;
      going = λ h. float_trans u' u (q ⊘ p) w.1 (k.going h);
      still = k.still;
    }

-- ---- what a test says of its side
test_passes : (p q : Float) → T (is_finite p) → Number q → (c : Option (Float × Float)) → Of (Within f0 f1) c → Of (Passed p q) (clip_by p q c)
unfolding clip_by cut Of
test_passes p q f n None h = tt
test_passes p q f n (Some (t, u)) h = go (eq p f0) (lt q f0) (lt p f0) refl refl refl
  where
    go : (a b c : Bool) → eq p f0 ≡ a → lt q f0 ≡ b → lt p f0 ≡ c → Of (Passed p q) (cond a (cond b None (Some (t, u))) (cut c (q ⊘ p) t u))
    go true true c x y z = tt
    go true false c x y z =
        record {
          coming = λ k. absurd (level_not_below p x k);
          going = λ k. absurd (level_not_above p x k);
          still = λ k. y;
        }
    go false b true x y z =
        part_of (Passed p q) (max_of t (q ⊘ p)) u
        record {
          coming = λ k. max_right t (q ⊘ p) (le_right f0 t h.0) (le_left (q ⊘ p) (q ⊘ p) (quotient_falls p q q f k (le_self q n)));
          going = λ k. absurd (not_both f0 p (lift (lt f0 p) k) (below_le p f0 z));
          still = λ k. absurd (true≢false (sym k ∙ x));
        }
    go false b false x y z =
        part_of (Passed p q) t (min_of u (q ⊘ p))
        record {
          coming = λ k. absurd (true≢false (sym k ∙ z));
          going = λ k. min_right u (q ⊘ p) (le_left u f1 h.1) (le_left (q ⊘ p) (q ⊘ p) (quotient_rises p q q f k (le_self q n)));
          still = λ k. absurd (true≢false (sym k ∙ x));
        }

-- in one direction: the side at low, then the side at high
abbrev Crossed : Float → Float → Float → Float → Float → Float → Type 0
Crossed low high start d t u = Passed (neg d) (start ⊖ low) t u × Passed d (high ⊖ start) t u

crossed_narrows : (low high start d : Float) → Narrows (Crossed low high start d)
crossed_narrows low high start d t u t' u' w k = (passed_narrows (neg d) (start ⊖ low) t u t' u' w k.0, passed_narrows d (high ⊖ start) t u t' u' w k.1)

of_both : (P Q : Float → Float → Type 0) (c : Option (Float × Float)) → Of P c → Of Q c → Of (λ t u. P t u × Q t u) c
unfolding Of
of_both P Q None h k = tt
of_both P Q (Some (t, u)) h k = (h, k)

tests_cross : (low high start d : Float) → T (is_finite start) → T (is_finite d) → Number low → Number high → (c : Option (Float × Float)) → Of (Within f0 f1) c
    → Of (Crossed low high start d) (clip_by d (high ⊖ start) (clip_by (neg d) (start ⊖ low) c))
tests_cross low high start d f g n m c h =
    let i : Of (Within f0 f1) (clip_by (neg d) (start ⊖ low) c) = within_kept (neg d) (start ⊖ low) c h in
    of_both (Passed (neg d) (start ⊖ low)) (Passed d (high ⊖ start)) _
    (test_keeps (Passed (neg d) (start ⊖ low)) (passed_narrows (neg d) (start ⊖ low)) d (high ⊖ start) _ i
    (test_passes (neg d) (start ⊖ low) (neg_finite d g) (sub_number_2 start low f n) c h))
    (test_passes d (high ⊖ start) g (sub_number high start f m) _ i)

-- ---- the whole test
start_within : Of (Within f0 f1) (Some (f0, f1))
unfolding Of le lt eq of_bits
start_within = (tt, tt)

right_within : (p q : Point) (b : Box) → Of (Within f0 f1) (right_test p q b)
right_within p q b = within_kept (q.x ⊖ p.x) (b.right ⊖ p.x) _ (within_kept (neg (q.x ⊖ p.x)) (p.x ⊖ b.left) (Some (f0, f1)) start_within)

top_within : (p q : Point) (b : Box) → Of (Within f0 f1) (top_test p q b)
top_within p q b = within_kept (neg (q.y ⊖ p.y)) (p.y ⊖ b.top) _ (right_within p q b)

-- from 0 to 1, and not turned round
abbrev Held : Float → Float → Type 0
Held t u = Within f0 f1 t u × T (le t u)

clipped_held : (p q : Point) (b : Box) → Of Held (clipped p q b)
clipped_held p q b = go (clipped p q b) (unfold clipped in within_kept (q.y ⊖ p.y) (b.bottom ⊖ p.y) _ (top_within p q b)) (clipped_straight p q b)
  where
    go : (c : Option (Float × Float)) → Of (Within f0 f1) c → Straight c → Of Held c
    go None h k = unfold Of in tt
    go (Some (t, u)) h k = unfold Of Straight in (h, not_below u t (le_left u f1 h.1) (le_right f0 t h.0) k)

four : (a b c d : Bool) → (a && (b && (c && d))) ≡ true → (a ≡ true) × (b ≡ true) × (c ≡ true) × (d ≡ true)
four true true true d h = (refl, refl, refl, h)
four true true false d h = absurd (true≢false (sym h))
four true false c d h = absurd (true≢false (sym h))
four false b c d h = absurd (true≢false (sym h))

abbrev BothCrossed : Point → Point → Box → Float → Float → Type 0
BothCrossed p q b t u = Crossed b.left b.right p.x (q.x ⊖ p.x) t u × Crossed b.top b.bottom p.y (q.y ⊖ p.y) t u

clipped_crossed : (p q : Point) (b : Box) → plain_piece p q ≡ true → finite_box b ≡ true → Of (BothCrossed p q b) (clipped p q b)
unfolding plain_piece finite_box clipped
clipped_crossed p q b h k =
    let f = four (is_finite p.x) (is_finite p.y) (is_finite (q.x ⊖ p.x)) (is_finite (q.y ⊖ p.y)) h in
    let g = four (is_finite b.left) (is_finite b.top) (is_finite b.right) (is_finite b.bottom) k in
    of_both (Crossed b.left b.right p.x (q.x ⊖ p.x)) (Crossed b.top b.bottom p.y (q.y ⊖ p.y)) _
    (along-x (tests_cross b.left b.right p.x (q.x ⊖ p.x) (lift _ f.0) (lift _ f.2) (finite_no_nan b.left g.0) (finite_no_nan b.right g.2) (Some (f0, f1)) start_within))
    (tests_cross b.top b.bottom p.y (q.y ⊖ p.y) (lift _ f.1) (lift _ f.3) (finite_no_nan b.top g.1) (finite_no_nan b.bottom g.3) (right_test p q b) (right_within p q b))
  where
    along : Float → Float → Type 0
    along = Crossed b.left b.right p.x (q.x ⊖ p.x)

    along-x : Of along (right_test p q b) → Of along (clip_by (q.y ⊖ p.y) (b.bottom ⊖ p.y) (top_test p q b))
    along-x c =
        test_keeps along (crossed_narrows b.left b.right p.x (q.x ⊖ p.x)) (q.y ⊖ p.y) (b.bottom ⊖ p.y) _ (top_within p q b)
        (test_keeps along (crossed_narrows b.left b.right p.x (q.x ⊖ p.x)) (neg (q.y ⊖ p.y)) (p.y ⊖ b.top) _ (right_within p q b) c)

-- what holds of all that can be left holds from the place of entry on
entered_at : (P : Float → Float → Type 0) (c : Option (Float × Float)) (v : Float) → Of P c → option_map (λ part. part.0) c ≡ Some v → (u : Float) × P v u
unfolding Of
entered_at P None v h e = absurd (cc)
entered_at P (Some (t, u)) v h e = let z : t ≡ v = cc in (u, subst (λ (x : Float). P x u) z h)

-- ---- the place of entry
held_at : (p q : Point) (b : Box) (v : Float) → enters p q b ≡ Some v → (u : Float) × Held v u
unfolding enters
held_at p q b v e = entered_at Held (clipped p q b) v (clipped_held p q b) e

pub place_low : (p q : Point) (b : Box) (v : Float) → enters p q b ≡ Some v → lt v f0 ≡ false
place_low p q b v e = not_above f0 v (held_at p q b v e).1.0.0

pub place_high : (p q : Point) (b : Box) (v : Float) → enters p q b ≡ Some v → T (le v f1)
place_high p q b v e = let h = held_at p q b v e in float_trans v h.0 f1 h.1.1 h.1.0.1

-- ---- a window's side, neared at the rate p from q off: the piece comes in there after u, or goes out there before t, or stays off it
data Beyond (p q t u : Float) : Type 0 where
  later : lt p f0 ≡ true → lt u (q ⊘ p) ≡ true → Beyond p q t u
  earlier : lt f0 p ≡ true → lt (q ⊘ p) t ≡ true → Beyond p q t u
  aside : eq p f0 ≡ true → lt q f0 ≡ true → Beyond p q t u

beyond_number : (p q t u : Float) → Beyond p q t u → Number q
beyond_number p q t u b = go b
  where
    numerator : (q : Float) → Number (q ⊘ p) → Number q
    numerator nan n = unfold div is_nan in n
    numerator (inf s) n = unfold is_nan in tt
    numerator (fin s m e) n = unfold is_nan in tt

    go : Beyond p q t u → Number q
    go (later h k) = numerator q (le_right u (q ⊘ p) (below_le u (q ⊘ p) k))
    go (earlier h k) = numerator q (le_left (q ⊘ p) t (below_le (q ⊘ p) t k))
    go (aside h k) = le_left q f0 (below_le q f0 k)

-- a side so far beyond the window's isn't passed at a place of the part
beyond_not_passed : (p q q' t u v z : Float) → T (is_finite p) → T (le q q') → Beyond p q' t u → Passed p q v z → T (le v z) → lt v t ≡ false → lt u v ≡ false → ⊥
beyond_not_passed p q q' t u v z f l b k o x y = go b
  where
    go : Beyond p q' t u → ⊥
    go (later h e) =
        let w : T (le (q' ⊘ p) v) = float_trans (q' ⊘ p) (q ⊘ p) v (quotient_falls p q q' f h l) (k.coming h) in
        true≢false (sym (below_through u u (q' ⊘ p) v (le_self u (le_left u (q' ⊘ p) (below_le u (q' ⊘ p) e))) e w) ∙ y)
    go (earlier h e) =
        let w : T (le v (q' ⊘ p)) = float_trans v (q ⊘ p) (q' ⊘ p) (float_trans v z (q ⊘ p) o (k.going h)) (quotient_rises p q q' f h l) in
        true≢false (sym (below_through v (q' ⊘ p) t t w e (le_self t (le_right (q' ⊘ p) t (below_le (q' ⊘ p) t e)))) ∙ x)
    go (aside h e) = not_both q' f0 (lift (lt q' f0) e) (float_trans f0 q q' (not_below q f0 (le_left q q' l) (le_right q' f0 (below_le q' f0 e)) (k.still h)) l)

both : (a b : Bool) → (a && b) ≡ true → (a ≡ true) × (b ≡ true)
both true b h = (refl, h)
both false b h = absurd (true≢false (sym h))

range_beyond : (start d t u low high : Float) → is_finite d ≡ true → range_holds start d t u low high ≡ true
    → Beyond (neg d) (start ⊖ high) t u × Beyond d (low ⊖ start) t u
unfolding range_holds
range_beyond start d t u low high f h = go (lt f0 d) (lt d f0) refl refl h
  where
    high-at : Float
    high-at = (start ⊖ high) ⊘ neg d

    low-at : Float
    low-at = (low ⊖ start) ⊘ d

    level : lt f0 d ≡ false → lt d f0 ≡ false → eq d f0 ≡ true
    level x y = le_same d f0 (not_below f0 d (unfold is_nan of_bits in tt) (finite_no_nan d f) x) y

    go : (a b : Bool) → lt f0 d ≡ a → lt d f0 ≡ b
        → cond a (lt low-at t && lt u high-at) (cond b (lt high-at t && lt u low-at) (lt (low ⊖ start) f0 && lt (start ⊖ high) f0)) ≡ true
        → Beyond (neg d) (start ⊖ high) t u × Beyond d (low ⊖ start) t u
    go true b x y h = let k = both (lt low-at t) (lt u high-at) h in (later (above_turned d x) k.1, earlier x k.0)
    go false true x y h = let k = both (lt high-at t) (lt u low-at) h in (earlier (under_turned d y) k.0, later y k.1)
    go false false x y h = let k = both (lt (low ⊖ start) f0) (lt (start ⊖ high) f0) h in (aside (level_turned d (level x y)) k.1, aside (level x y) k.0)

-- where a difference is a number, so are its operands
second_number : (x y : Float) → Number (x ⊖ y) → Number y
unfolding is_nan sub add neg
second_number nan y h = absurd h
second_number (inf s) nan h = h
second_number (inf s) (inf t) h = tt
second_number (inf s) (fin t n d) h = tt
second_number (fin s m e) nan h = h
second_number (fin s m e) (inf t) h = tt
second_number (fin s m e) (fin t n d) h = tt

first_number : (x y : Float) → Number (x ⊖ y) → Number x
unfolding is_nan sub add
first_number nan y h = h
first_number (inf s) y h = tt
first_number (fin s m e) y h = tt

-- in one direction, a box from side to side' that is crossed at a place of the part reaches the window
module _ (start d t u low high side side' v z : Float) (f : is_finite start ≡ true) (g : is_finite d ≡ true) (n : is_finite side ≡ true) (m : is_finite side' ≡ true)
    (h : range_holds start d t u low high ≡ true) (c : Crossed side side' start d v z) (o : T (le v z)) (x : lt v t ≡ false) (y : lt u v ≡ false) where
  window : Beyond (neg d) (start ⊖ high) t u × Beyond d (low ⊖ start) t u
  window = range_beyond start d t u low high g h

  to_high : (b : Bool) → lt high side ≡ b → T (le side high)
  to_high false e = not_below high side (second_number start high (beyond_number (neg d) (start ⊖ high) t u window.0)) (finite_no_nan side n) e
  to_high true e =
      absurd
      (beyond_not_passed (neg d) (start ⊖ side) (start ⊖ high) t u v z (neg_finite d (lift _ g)) (sub_falls high side start (lift _ f) (below_le high side e))
      window.0 c.0 o x y)

  from_low : (b : Bool) → lt side' low ≡ b → T (le low side')
  from_low false e = not_below side' low (finite_no_nan side' m) (first_number low start (beyond_number d (low ⊖ start) t u window.1)) e
  from_low true e =
      absurd
      (beyond_not_passed d (side' ⊖ start) (low ⊖ start) t u v z (lift _ g) (sub_rises side' low start (lift _ f) (below_le side' low e))
      window.1 c.1 o x y)

  along : T (le side high) × T (le low side')
  along = (to_high (lt high side) refl, from_low (lt side' low) refl)

-- ---- the law
pub window_law : (p q : Point) (t u v : Float) (w b : Box) → plain_piece p q ≡ true → finite_box b ≡ true → window_holds p q t u w ≡ true
    → enters p q b ≡ Some v → lt v t ≡ false → lt u v ≡ false → Reaches w b
unfolding enters window_holds plain_piece finite_box
window_law p q t u v w b plain finite holds e x y =
    let f = four (is_finite p.x) (is_finite p.y) (is_finite (q.x ⊖ p.x)) (is_finite (q.y ⊖ p.y)) plain in
    let g = four (is_finite b.left) (is_finite b.top) (is_finite b.right) (is_finite b.bottom) finite in
    let h = both (range_holds p.x (q.x ⊖ p.x) t u w.left w.right) (range_holds p.y (q.y ⊖ p.y) t u w.top w.bottom) holds in
    let a = entered_at (λ t u. BothCrossed p q b t u × Held t u) (clipped p q b) v (of_both (BothCrossed p q b) Held (clipped p q b) (clipped_crossed p q b plain finite) (clipped_held p q b)) e in
    let c = a.1.0 in
    let o = a.1.1.1 in
    let i = along p.x (q.x ⊖ p.x) t u w.left w.right b.left b.right v a.0 f.0 f.2 g.0 g.2 h.0 c.0 o x y in
    let j = along p.y (q.y ⊖ p.y) t u w.top w.bottom b.top b.bottom v a.0 f.1 f.3 g.1 g.3 h.1 c.1 o x y in
    record {
      left = i.0;
      right = i.1;
      top = j.0;
      bottom = j.1;
    }

pub reaches_not_apart : (w b : Box) → Reaches w b → is_apart w b ≡ false
unfolding is_apart
reaches_not_apart w b r =
    rw (not_above b.left w.right r.left, not_above w.left b.right r.right, not_above b.top w.bottom r.top, not_above w.top b.bottom r.bottom)
