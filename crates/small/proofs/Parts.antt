-- A call with parts of lists of zeros, by the lists that the parts are. Assumes nothing.
use mathlib.Core.Path.{◌≡◌, refl, ap, ◌∙◌}
use mathlib.Core.List.{List, ◌∷◌}
use Prim.Native.Nat.{ℕ, zero, suc, ◌-◌, ◌≤◌}
use native.Mathlib.Nat.{sub-zero}
use native.Mathlib.Omega.{arith}
use lib.ListN.{take, drop, replicate}
use lib.Ieee.{Float}
use Rattle.numbers.specs.Ops.{f0}
use Rattle.network.specs.declared.options.Options.{Options}
use Rattle.std.specs.Prelude.{Result}
use Rattle.network.specs.declared.refusals.Refusal.{Refusal}
use Rattle.drawing.specs.declared.answer.Plot.{Plot}
use Rattle.drawing.specs.Network.{Network, Lists, Work, Crossings, crossings}
use Rattle.drawing.proofs.Lent.{work}
use Rattle.drawing.specs.Answer.{Call, call, layout_of}
use Rattle.drawing.specs.Number.{Answered}
use Rattle.small.specs.Small.{zero_numbers, zeros, work_lists, crossing_lists, held_call, SmallCall}

take_replicate : {A : Type 0} (s n : ℕ) (x : A) → s ≤ n → take s (replicate n x) ≡ replicate s x
take_replicate zero n x h = refl
take_replicate (suc s) zero x h = absurd (omega arith)
take_replicate {A} (suc s) (suc n) x h = ap (λ (l : List A). x ∷ l) (take_replicate s n x (omega arith))

front : {A : Type 0} (s n : ℕ) (x : A) → s ≤ n → take (s - 0) (drop 0 (replicate n x)) ≡ replicate s x
front s n x h = ap (λ (k : ℕ). take k (replicate n x)) (sub-zero s) ∙ take_replicate s n x h

pub held_by : (o : Options) (N : Network) (L : Lists) (s c : ℕ) (a : Result Plot Refusal) (L' : Lists) (W' : Work) (X' : Crossings)
    → (s ≤ 128) × (c ≤ 128)
    → Answered o N L
    (work (take (s - 0) (drop 0 (zero_numbers 128))) (zero_numbers 192) (zero_numbers 320) (zero_numbers 320) (zero_numbers 192) (zero_numbers 192) (zeros 384) (zeros 192) (zeros 256) (zeros 232))
    (crossings (zero_numbers 384) (take (c - 0) (drop 0 (zeros 128))) (zeros 256))
    (call a L' W' X')
    → SmallCall o N L s c a L'
unfolding held_call
held_by o N L s c a L' W' X' h e =
    let k : call a L' W' X' ≡ layout_of o N L (work_lists s) (crossing_lists c) = e.is ∙ rw (front {A = ℕ} s 128 0 h.0, front {A = Float} c 128 f0 h.1) in
    record { answer_is = ap (λ (d : Call). d.answer) k; lists_are = ap (λ (d : Call). d.lists) k }
