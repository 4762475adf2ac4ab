-- What an answer, or a chain of tests, says of the refusal that decides it. Assumes nothing.
use mathlib.Core.Path.{◌≡◌, refl}
use Rattle.std.specs.Prelude.{Option, Some, None, Ok, Err}
use Rattle.std.specs.Option.{option_or}
use Rattle.network.specs.declared.refusals.Refusal.{Refusal}
use Rattle.network.specs.Refusal.{unless}

-- two tests, one after the other, that refuse nothing
pub neither : (a b : Option Refusal) → None ≡ option_or a b → (None ≡ a) × (None ≡ b)
neither None b e = (refl, e)
neither (Some r) b e = cc

pub accepted : {A : Type 0} (r : Option Refusal) (a b : A) → Ok a ≡ unless r b → (None ≡ r) × (a ≡ b)
accepted None a b e = (refl, cc)
accepted (Some r) a b e = cc

pub refused : {A : Type 0} (r : Option Refusal) (e : Refusal) (b : A) → Err e ≡ unless r b → Some e ≡ r
refused None e b h = cc
refused (Some r) e b h = cc
