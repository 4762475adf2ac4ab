-- The walk as the loop of `trace` takes it, crossing by crossing. Assumes nothing.
use mathlib.Core.Path.{◌≡◌, refl, sym, ap, ◌∙◌, subst}
use mathlib.Core.Bool.{Bool, true, false}
use mathlib.Core.List.{List, [], ◌∷◌, ◌++◌, append_assoc, append-nil}
use Prim.Native.Nat.{ℕ, zero, suc, ◌+◌, ◌≤◌, ◌<◌}
use native.Mathlib.Omega.{arith}
use native.Mathlib.Numerals.{add-one}
use lib.ListN.{length, get_or, drop, set, length-append, length-set}
use lib.Seq.{drop-cons, set_at}
use Rattle.plane.specs.declared.geometry.Point.{Point}
use Rattle.network.specs.Mesh.{next}
use Rattle.network.proofs.mesh.Meshes.{next_below}
use Rattle.channels.specs.declared.walk.Step.{Step}
use Rattle.channels.specs.declared.walk.Step.TheVariants.{Out, Home, Lost}
use Rattle.channels.specs.Trace.{Walk, home_of, started, after, walk, traced, WalkWritten}

-- the half-edge after one below 2^32 - 1, a multiple of 3, is below it too
pub in_u32 : (h : ℕ) → h < 4294967295 → next h < 4294967295
in_u32 h l = next_below 4294967295 h (omega arith) l

module _ (corners twins : List ℕ) (centre : ℕ → Point) (va vb : ℕ) where
  abbrev whole : Walk
  whole = traced corners twins centre va vb

  abbrev rest : ℕ → Step → Walk
  rest n x = walk corners twins centre va vb n x

  -- n half-edges are written, and the walk goes on with x
  pub record Going (before now : List ℕ) (n : ℕ) (x : Step) : Type 0 where
    pub done : List ℕ
    pub count : length done ≡ n
    pub left : ℕ
    pub steps : n + left ≡ length corners
    pub list : now ≡ done ++ drop n before
    pub half_edges : whole.half_edges ≡ done ++ (rest left x).half_edges
    pub kept : whole.kept ≡ (rest left x).kept

  pub begin : (before : List ℕ) (x : Step) → x ≡ started corners centre va vb → Going before before 0 x
  unfolding traced
  begin before x e =
      record {
        done = [];
        count = refl;
        left = length corners;
        steps = omega arith;
        list = refl;
        half_edges = ap (λ y. (rest (length corners) y).half_edges) (sym e);
        kept = ap (λ y. (rest (length corners) y).kept) (sym e);
      }

  module _ (before now : List ℕ) (n : ℕ) where
    cross : (h : ℕ) → n < length corners → length corners ≤ length before → Going before now n (Out h) → Going before (set now n h) (n + 1) (after corners twins centre va vb h)
    unfolding walk
    cross h l s g = on g.left refl
      where
        on : (k : ℕ) → g.left ≡ k → Going before (set now n h) (n + 1) (after corners twins centre va vb h)
        on zero e = absurd (omega (arith, e, g.steps))
        on (suc k) e =
            record {
              done = g.done ++ (h ∷ []);
              count = length-append g.done (h ∷ []) ∙ ap (λ z. z + 1) g.count;
              left = k;
              steps = omega (arith, e, g.steps);
              list =
                  ap (λ z. set z n h) (g.list ∙ ap (λ z. g.done ++ z) (drop-cons before n 0 (omega arith)))
                  ∙ set_at g.done (get_or before n 0) (drop (suc n) before) h n g.count
                  ∙ simp (append_assoc, add-one);
              half_edges = g.half_edges ∙ ap (λ z. g.done ++ (rest z (Out h)).half_edges) e ∙ sym (append_assoc g.done (h ∷ []) _);
              kept = g.kept ∙ ap (λ z. (rest z (Out h)).kept) e;
            }

    -- no crossing is left to make, or none is wanted
    abbrev Over : ℕ → Step → Type 0
    Over k x = ((rest k x).half_edges ≡ []) × (home_of x ≡ (rest k x).kept)

    spent : (k : ℕ) (x : Step) → k ≡ 0 → Over k x
    unfolding walk
    spent zero x e = (refl, refl)
    spent (suc k) x e = absurd (omega arith)

    still : (k : ℕ) (x : Step) → ((h : ℕ) → x ≡ Out h → ⊥) → Over k x
    unfolding walk home_of
    still zero x f = (refl, refl)
    still (suc k) (Out h) f = absurd (f h refl)
    still (suc k) Home f = (refl, refl)
    still (suc k) Lost f = (refl, refl)

    finish : (x : Step) (k : Bool) → k ≡ home_of x → (g : Going before now n x) → Over g.left x → WalkWritten whole before now n k
    finish x k e g o =
        let all : whole.half_edges ≡ g.done = g.half_edges ∙ ap (λ z. g.done ++ z) o.0 ∙ append-nil g.done in
        record {
          written = g.list ∙ ap (λ z. z ++ drop n before) (sym all);
          counted = sym g.count ∙ ap length (sym all);
          flag = e ∙ o.1 ∙ sym g.kept;
        }

    -- by what the code read: x is the half-edge h, y what comes after it, and k whether x is home
    pub going : (h : ℕ) (x y : Step) → n < length corners → length corners ≤ length before → x ≡ Out h → y ≡ after corners twins centre va vb h → Going before now n x
        → Going before (set now n h) (n + 1) y
    going h x y l s e f g = subst (Going before (set now n h) (n + 1)) (sym f) (cross h l s (subst (Going before now n) e g))

    pub ended : (x : Step) (k : Bool) → length corners ≤ n → k ≡ home_of x → Going before now n x → WalkWritten whole before now (length corners) k
    ended x k l e g =
        let over : n ≡ length corners = omega (arith, g.steps) in
        subst (λ m. WalkWritten whole before now m k) over (finish x k e g (spent g.left x (omega (arith, g.steps))))

    pub stopped : (x : Step) (k : Bool) → ((h : ℕ) → x ≡ Out h → ⊥) → k ≡ home_of x → Going before now n x → WalkWritten whole before now n k
    stopped x k f e g = finish x k e g (still g.left x f)
