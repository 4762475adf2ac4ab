-- `Holds` has one proof at most, so a struct may keep it as a fact.
use Rattle.std.proofs.Common.{ℕ, Bool, List, [], ◌∷◌}
use Rattle.std.proofs.Props.{props}
use lib.Ieee.{Float}
use Rattle.numbers.specs.Lists.{All, Chain}
use Rattle.placement.specs.Stages.Among.{Holds}

all_prop : (P : ℕ → Type 0) → ((x : ℕ) → IsProp (P x)) → (xs : List ℕ) → IsProp (All P xs)
all_prop P h [] = Prim.hlevel
all_prop P h (x ∷ xs) = Prim.hlevel (h x, all_prop P h xs)

chain_prop : (R : ℕ → ℕ → Bool) (xs : List ℕ) → IsProp (Chain R xs)
chain_prop R [] = Prim.hlevel
chain_prop R (x ∷ xs) = Prim.hlevel (props, all_prop, chain_prop R xs)

pub holds_prop : (unit : Float) (boxes : List Float) (most : ℕ) (keys sorted : List ℕ)
    → IsProp (Holds unit boxes most keys sorted)
holds_prop unit boxes most keys sorted = Prim.hlevel (props, chain_prop, all_prop)
