-- The whole call from its parts. Assumes nothing.
use mathlib.Core.Path.{◌≡◌, sym, ap, ◌∙◌}
use lib.ListN.{length}
use Rattle.std.specs.Prelude.{Option, Some, None, Result, Err}
use Rattle.network.specs.declared.refusals.Refusal.{Refusal}
use Rattle.audit.specs.declared.findings.answer.Figures.{Figures}
use Rattle.audit.specs.Drawn.{Drawn, Lists, Work, room_of}
use Rattle.audit.specs.Answer.{early, cleared, call, call_late, call_early, audit_of, Answered, Inner}
use Rattle.audit.proofs.findings.Number.{answered}

module _ (D : Drawn) (L : Lists) (W : Work) where
  pub call_refused : (r : Refusal) → Some r ≡ early D (room_of L W) → Answered D L W (call (Err r) L W)
  unfolding audit_of call_early
  call_refused r e = answered D L W (call (Err r) L W) (rw (sym e))

  judged : (a : Result Figures Refusal) (L' : Lists) (W' : Work) → Inner D L a L' → W' ≡ cleared W → call a L' W' ≡ call_early None D L W
  unfolding call_early call_late
  judged a L' W' i z = rw (i.answer, i.lists, z)

  -- clearing goes by the lengths
  zeroed : (U : Work) → length U.stations ≡ length W.stations → length U.index ≡ length W.index → length U.spare ≡ length W.spare → length U.keys ≡ length W.keys → length U.points ≡ length W.points → length U.path ≡ length W.path
      → cleared U ≡ cleared W
  unfolding cleared
  zeroed U p q t u r s = rw (p, q, t, u, r, s)

  pub call_judged : (a : Result Figures Refusal) (L' : Lists) (U W' : Work) → None ≡ early D (room_of L W) → Inner D L a L' → W' ≡ cleared U
      → length U.stations ≡ length W.stations → length U.index ≡ length W.index → length U.spare ≡ length W.spare → length U.keys ≡ length W.keys → length U.points ≡ length W.points → length U.path ≡ length W.path
      → Answered D L W (call a L' W')
  unfolding audit_of
  call_judged a L' U W' e i c p q t u r s =
      answered D L W (call a L' W') (judged a L' W' i (c ∙ zeroed U p q t u r s) ∙ ap (λ (y : Option Refusal). call_early y D L W) e)
