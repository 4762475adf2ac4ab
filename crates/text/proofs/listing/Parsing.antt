-- What `parse` says where it returns, from what its two parts found. Assumes nothing.
use mathlib.Core.Path.{◌≡◌, refl, sym, ap, ◌∙◌}
use mathlib.Core.Bool.{true, false}
use mathlib.Core.List.{List}
use Prim.Native.Nat.{ℕ}
use lib.ListN.{length, drop}
use Rattle.text.specs.Field.{got, wrong}
use Rattle.text.specs.Line.{begins, bus_names}
use Rattle.text.specs.Input.{Lines, lines, broken, Buses, Branches, no_buses, no_branches, bus_lines, branch_lines, with_buses, with_branches, parsed, read, counted}
use Rattle.text.proofs.fields.Bounds.{not_got}

-- lines that were counted
module _ {A B : Type 0} (f : A → List B) where
  was_broken : (k : Lines A) → counted f k ≡ wrong → k ≡ broken (read k)
  unfolding counted read
  was_broken (lines b l) e = not_got (sym e)
  was_broken (broken b) e = refl

  was_lines : (k : Lines A) (n : ℕ) (l : List ℕ) → counted f k ≡ got n l → (k ≡ lines (read k) l) × (length (f (read k)) ≡ n)
  unfolding counted read
  was_lines (lines b m) n l e = let h : m ≡ l = cc in (ap (lines b) h, cc)
  was_lines (broken b) n l e = not_got e

-- a text's network, by what its first line, its bus lines and its branch lines are
module _ (t : List ℕ) where
  pub no_names : begins bus_names t ≡ false → parsed t ≡ record { well_formed = false; buses = no_buses; branches = no_branches }
  unfolding parsed
  no_names e = simp (parsed, e)

  module _ (e : begins bus_names t ≡ true) where
    names : parsed t ≡ with_buses (bus_lines (drop 11 t))
    unfolding parsed
    names = simp (parsed, e)

    pub buses_malformed : counted (λ (b : Buses). b.sub) (bus_lines (drop 11 t)) ≡ wrong
        → parsed t ≡ record { well_formed = false; buses = read (bus_lines (drop 11 t)); branches = no_branches }
    unfolding with_buses
    buses_malformed b = names ∙ ap with_buses (was_broken (λ (b : Buses). b.sub) (bus_lines (drop 11 t)) b)

    -- the bus lines are n, and the branch lines begin with l
    module _ (n : ℕ) (l : List ℕ) (b : counted (λ (b : Buses). b.sub) (bus_lines (drop 11 t)) ≡ got n l) where
      both : parsed t ≡ with_branches (read (bus_lines (drop 11 t))) (branch_lines l)
      unfolding with_buses
      both = names ∙ ap with_buses (was_lines (λ (b : Buses). b.sub) (bus_lines (drop 11 t)) n l b).0

      pub branches_malformed : counted (λ (b : Branches). b.live) (branch_lines l) ≡ wrong
          → parsed t ≡ record { well_formed = false; buses = read (bus_lines (drop 11 t)); branches = read (branch_lines l) }
      unfolding with_branches
      branches_malformed r = both ∙ ap (with_branches (read (bus_lines (drop 11 t)))) (was_broken (λ (b : Branches). b.live) (branch_lines l) r)

      pub well_formed : (m : ℕ) (k : List ℕ) → counted (λ (b : Branches). b.live) (branch_lines l) ≡ got m k
          → (parsed t ≡ record { well_formed = true; buses = read (bus_lines (drop 11 t)); branches = read (branch_lines l) })
          × (length (read (bus_lines (drop 11 t))).sub ≡ n) × (length (read (branch_lines l)).live ≡ m)
      unfolding with_branches
      well_formed m k r =
          let w = was_lines (λ (b : Branches). b.live) (branch_lines l) m k r in
          (both ∙ ap (with_branches (read (bus_lines (drop 11 t)))) w.0, (was_lines (λ (b : Buses). b.sub) (bus_lines (drop 11 t)) n l b).1, w.1)

pub ruleset parse_laws = (no_names, buses_malformed, branches_malformed, well_formed)
