-- The pieces through finite points join them unbroken, and there are none only where all points coincide. Assumes nothing.
use Prim.Native.Nat.{ℕ}
use mathlib.Core.Path.{◌≡◌, refl, sym, ap, subst, ◌∙◌}
use mathlib.Core.Bool.{Bool, true, false, not}
use mathlib.Core.List.{List, [], ◌∷◌}
use lib.Dec.{T}
use Rattle.numbers.specs.Order.{pick}
use Rattle.plane.specs.declared.geometry.Point.{Point}
use Rattle.runs.specs.Run.{Piece, apart, pieces}
use Rattle.wall.specs.Wall.{coincide, joining, Leads, last_of, Unbroken, AllAt, OnePoint}
use Rattle.wall.proofs.Numbers.{GoodPoint, At, at_coincide, coincide_at, apart_is}

abbrev pub AllGood : List Point → Type 0
AllGood [] = Unit {0}
AllGood (p ∷ ps) = GoodPoint p × AllGood ps

abbrev piece : ℕ → Point → Point → Piece
piece e p q = record { branch = e; start = p; end = q }

pub joins : (e : ℕ) (ps : List Point) → AllGood ps → pieces e ps ≡ joining e ps
unfolding pieces joining
joins e [] g = refl
joins e (p ∷ []) g = refl
joins e (p ∷ (q ∷ ps)) g =
    ap (λ (rest : List Piece). pick (apart p q) (piece e p q ∷ rest) rest) (joins e (q ∷ ps) g.1)
    ∙ ap (λ (b : Bool). pick b (piece e p q ∷ joining e (q ∷ ps)) (joining e (q ∷ ps))) (apart_is p q g.0 g.1.0) ∙ turn (coincide p q)
  where
    turn : (b : Bool) → pick (not b) (piece e p q ∷ joining e (q ∷ ps)) (joining e (q ∷ ps)) ≡ pick b (joining e (q ∷ ps)) (piece e p q ∷ joining e (q ∷ ps))
    turn true = refl
    turn false = refl

-- ---- by places

abbrev Chained : Point → List Piece → Point → Type 0
Chained a [] b = At a b
Chained a (p ∷ ps) b = At a p.start × Chained p.end ps b

through : (a b c : Point) → At a b → At b c → At a c
through a b c p q = (p.0 ∙ q.0, p.1 ∙ q.1)

from_same : (a b c : Point) (l : List Piece) → At a b → Chained b l c → Chained a l c
from_same a b c [] h k = through a b c h k
from_same a b c (p ∷ ps) h k = (through a b p.start h k.0, k.1)

chained : (e : ℕ) (p : Point) (ps : List Point) → GoodPoint p → AllGood ps → Chained p (joining e (p ∷ ps)) (last_of p ps)
unfolding joining last_of
chained e p [] g h = (refl, refl)
chained e p (q ∷ qs) g h = go (coincide p q) refl (chained e q qs h.0 h.1)
  where
    go : (b : Bool) → coincide p q ≡ b → Chained q (joining e (q ∷ qs)) (last_of q qs)
        → Chained p (pick b (joining e (q ∷ qs)) (piece e p q ∷ joining e (q ∷ qs))) (last_of q qs)
    go true t c = from_same p q (last_of q qs) (joining e (q ∷ qs)) (coincide_at p q g h.0 (subst T (sym t) tt)) c
    go false t c = ((refl, refl), c)

-- ---- as numbers

abbrev EndsGood : List Piece → Type 0
EndsGood [] = Unit {0}
EndsGood (p ∷ ps) = GoodPoint p.start × GoodPoint p.end × EndsGood ps

ends_good : (e : ℕ) (p : Point) (ps : List Point) → GoodPoint p → AllGood ps → EndsGood (joining e (p ∷ ps))
unfolding joining
ends_good e p [] g h = tt
ends_good e p (q ∷ qs) g h = go (coincide p q) (ends_good e q qs h.0 h.1)
  where
    go : (b : Bool) → EndsGood (joining e (q ∷ qs)) → EndsGood (pick b (joining e (q ∷ qs)) (piece e p q ∷ joining e (q ∷ qs)))
    go true c = c
    go false c = (g, h.0, c)

as_numbers : (a b : Point) (l : List Piece) → GoodPoint a → GoodPoint b → EndsGood l → Chained a l b → Leads a l b
unfolding Leads
as_numbers a b [] g h k c = at_coincide a b g h c
as_numbers a b (p ∷ ps) g h k c = (at_coincide a p.start g k.0 c.0, as_numbers p.end b ps k.1 h k.2 c.1)

last_good : (p : Point) (ps : List Point) → GoodPoint p → AllGood ps → GoodPoint (last_of p ps)
unfolding last_of
last_good p [] g h = g
last_good p (q ∷ qs) g h = last_good q qs h.0 h.1

pub unbroken : (e : ℕ) (ps : List Point) → AllGood ps → Unbroken (joining e ps) ps
unfolding Unbroken
unbroken e [] g = unfold joining in refl
unbroken e (p ∷ ps) g =
    as_numbers p (last_of p ps) (joining e (p ∷ ps)) g.0 (last_good p ps g.0 g.1) (ends_good e p ps g.0 g.1) (chained e p ps g.0 g.1)

-- ---- no piece

none_at : (e : ℕ) (a p : Point) (ps : List Point) → GoodPoint a → GoodPoint p → AllGood ps → At a p → joining e (p ∷ ps) ≡ [] → AllAt a ps
unfolding joining AllAt
none_at e a p [] f g h k n = tt
none_at e a p (q ∷ qs) f g h k n = go (coincide p q) refl n (none_at e a q qs f h.0 h.1)
  where
    go : (b : Bool) → coincide p q ≡ b → pick b (joining e (q ∷ qs)) (piece e p q ∷ joining e (q ∷ qs)) ≡ []
        → (At a q → joining e (q ∷ qs) ≡ [] → AllAt a qs) → T (coincide a q) × AllAt a qs
    go true t m rest =
        let r : At a q = through a p q k (coincide_at p q g h.0 (subst T (sym t) tt)) in
        (at_coincide a q f h.0 r, rest r m)
    go false t m rest = absurd (some m)
      where
        some : piece e p q ∷ joining e (q ∷ qs) ≡ [] → ⊥
        some m = let z : ◌≡◌ {A = ℕ} 1 0 = ap (λ (l : List Piece). elim l [ [] ↦ 0 | x ∷ xs ↦ 1 ]) m in mathlib.Core.Bool.true≢false (ap (λ (k : ℕ). lib.Dec.ltb 0 k) z)

pub absent : (e : ℕ) (ps : List Point) → AllGood ps → joining e ps ≡ [] → OnePoint ps
unfolding OnePoint
absent e [] g n = tt
absent e (p ∷ ps) g n = none_at e p p ps g.0 g.0 g.1 (refl, refl) n
