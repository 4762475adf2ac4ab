-- The request of a branch, by what it is, and that of a line, by its parts. Assumes nothing.
use mathlib.Core.Path.{◌≡◌, sym, ap, ◌∙◌}
use mathlib.Core.List.{List}
use Prim.Native.Nat.{ℕ}
use lib.ListN.{length}
use lib.Ieee.{Float}
use Rattle.plane.specs.declared.geometry.Point.{Point}
use Rattle.network.specs.declared.words.Kind.{Kind}
use Rattle.network.specs.declared.words.Kind.TheVariants.{Undrawn, Open, Internal, Line}
use Rattle.network.specs.Words.{station_of}
use Rattle.stations.specs.declared.measures.Measures.{Measures}
use Rattle.runs.specs.Stages.Views.{row_end_of, first_exit, second_exit}
use Rattle.runs.specs.declared.requests.LineRequest.{LineRequest}
use Rattle.runs.specs.Stages.Requests.{Lists, nothing_at, line_request, request_of}

-- a branch that is no line asks for nothing
module _ (X : Lists) (e : ℕ) (K : Kind) where
  pub undrawn_request : (q : LineRequest) → q ≡ nothing_at e → K ≡ Undrawn → q ≡ request_of X e K
  unfolding request_of
  undrawn_request q p h = p ∙ ap (request_of X e) (sym h)

  pub open_request : (q : LineRequest) (a b : ℕ) → q ≡ nothing_at e → K ≡ Open a b → q ≡ request_of X e K
  unfolding request_of
  open_request q a b p h = p ∙ ap (request_of X e) (sym h)

  pub internal_request : (q : LineRequest) (a b : ℕ) → q ≡ nothing_at e → K ≡ Internal a b → q ≡ request_of X e K
  unfolding request_of
  internal_request q a b p h = p ∙ ap (request_of X e) (sym h)

-- what line b asks for, by its parts
pub request_is : (sub : List ℕ) (measures : Measures) (buses : List ℕ) (blocks places frames : List Float) (b i j ra rb s t : ℕ) (p q x y : Point)
    → s ≡ station_of sub i → t ≡ station_of sub j → p ≡ row_end_of measures buses blocks frames s i ra → q ≡ row_end_of measures buses blocks frames t j rb
    → x ≡ first_exit (length sub) places b → y ≡ second_exit (length sub) places b
    → record { e = b; sa = s; sb = t; row_end_a = p; row_end_b = q; exit_a = x; exit_b = y } ≡ line_request sub measures buses blocks places frames b i j ra rb
unfolding line_request
request_is sub measures buses blocks places frames b i j ra rb s t p q x y c d f g h k = cc
