-- The number of an answer, part by part. Assumes nothing.
use Prim.Native.Nat.{ℕ}
use mathlib.Core.Path.{◌≡◌, refl}
use Rattle.std.specs.Prelude.{Option, Some, None}
use Rattle.std.specs.Option.{option_or, option_map_or}
use Rattle.network.specs.declared.refusals.Refusal.{Refusal}
use Rattle.network.specs.Refusal.{number, unless, number_of}

-- the number of a refusal, or of what comes after it
abbrev pub number_or : Option Refusal → ℕ → ℕ
number_or = option_map_or number

pub number_later : (a b : Option Refusal) (later : ℕ) → number_or (option_or a b) later ≡ number_or a (number_or b later)
number_later None b later = refl
number_later (Some r) b later = refl

pub number_unless : {A : Type 0} (r : Option Refusal) (a : A) → number_of (unless r a) ≡ number_or r 0
unfolding number_of
number_unless None a = refl
number_unless (Some r) a = refl
