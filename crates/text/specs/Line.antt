-- The lines of drawlist's input, one space between values, each line closed by LF (docs/RULES.md, 'Text of drawlist').
-- Definitions only.
use Rattle.std.specs.Prelude.{ℕ, ◌-◌, ◌^◌, Bool, true, false, ◌&&◌, List, [], ◌∷◌, eqb}
use Rattle.text.specs.declared.listing.line.Bus.{Bus}
use Rattle.text.specs.declared.listing.line.Branch.{Branch}
use Rattle.text.specs.Field.{Read, got, wrong, whole, pattern, bus_number}

-- whether a text begins with the given bytes
unfoldable pub begins : List ℕ → List ℕ → Bool
begins [] l = true
begins (w ∷ ws) [] = false
begins (w ∷ ws) (c ∷ l) = eqb w c && begins ws l

-- the names above the buses, `sub kv x y`, and above the branches, `from to live`
unfoldable pub bus_names : List ℕ
bus_names = 115 ∷ 117 ∷ 98 ∷ 32 ∷ 107 ∷ 118 ∷ 32 ∷ 120 ∷ 32 ∷ 121 ∷ 10 ∷ []

unfoldable pub branch_names : List ℕ
branch_names = 102 ∷ 114 ∷ 111 ∷ 109 ∷ 32 ∷ 116 ∷ 111 ∷ 32 ∷ 108 ∷ 105 ∷ 118 ∷ 101 ∷ 10 ∷ []

-- one value, then what follows it
unfoldable pub and_then : {A B : Type 0} → Read A → (A → List ℕ → Read B) → Read B
and_then (got a l) f = f a l
and_then wrong f = wrong

-- a bus line: `sub kv x y`
unfoldable pub bus_line : List ℕ → Read Bus
unfolding and_then whole pattern
bus_line l₀ =
    and_then (whole 32 (2 ^ 32 - 1) l₀)
    (λ s l₁. and_then (pattern 32 l₁)
    (λ k l₂. and_then (pattern 32 l₂)
    (λ x l₃. and_then (pattern 10 l₃)
    (λ y l₄. got (record { sub = s; kv = k; x = x; y = y }) l₄))))

-- a branch line: `from to live`
unfoldable pub branch_line : List ℕ → Read Branch
unfolding and_then whole bus_number
branch_line l₀ =
    and_then (bus_number 32 l₀)
    (λ f l₁. and_then (bus_number 32 l₁)
    (λ t l₂. and_then (whole 10 (2 ^ 8 - 1) l₂)
    (λ v l₃. got (record { from = f; to = t; live = v }) l₃)))
