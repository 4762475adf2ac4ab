-- Laws of the largest fill. Functions of `fill::laws` promise them. Definitions only.
use Rattle.std.specs.Prelude.{ℕ, suc, ◌≡◌, ◌<◌, ◌≤◌, Bool, true, false, Option, Some, None, Ok, Err}
use Rattle.network.specs.declared.options.Options.{Options}
use Rattle.network.specs.declared.refusals.Refusal.{Refusal}
use Rattle.network.specs.declared.refusals.Refusal.TheVariants.{NoFill}
use Rattle.drawing.specs.Network.{Network, Lists, Work, Crossings}
use Rattle.drawing.specs.Drawing.{all_free}
use Rattle.drawing.specs.Answer.{room_of, early, layout_of}
use Rattle.fill.specs.declared.answer.Largest.{Largest}
use Rattle.fill.specs.Fill.{at_fill, serves, greatest, FillCall, fill_call, largest_fill_of}

-- k is the greatest of 1 to n with the property p.
pub record Greatest (p : ℕ → Bool) (n k : ℕ) : Type 0 where
  pub above : 0 < k
  pub most : k ≤ n
  pub has : p k ≡ true
  pub none_larger : (j : ℕ) → k < j → j ≤ n → p j ≡ false

-- `greatest` gives it, and gives none just where no number of 1 to n has the property.
pub record GreatestOf (p : ℕ → Bool) (n : ℕ) : Type 0 where
  pub some : (k : ℕ) → greatest p n ≡ Some k → Greatest p n k
  pub none : greatest p n ≡ None → (j : ℕ) → 0 < j → j ≤ n → p j ≡ false

abbrev pub GreatestHolds : Type 0
GreatestHolds = (p : ℕ → Bool) (n : ℕ) → GreatestOf p n

-- The call C gives the drawing at fill a: it is the layout call's, with every box at a free place, and no larger fill serves.
pub record IsLargest (O : Options) (N : Network) (L : Lists) (W : Work) (X : Crossings) (C : FillCall) (a : Largest) : Type 0 where
  pub above : 0 < a.sixty_fourths
  pub most : a.sixty_fourths ≤ 64
  pub answer : (layout_of (at_fill O a.sixty_fourths) N L W X).answer ≡ Ok a.plot
  pub lists : C.lists ≡ (layout_of (at_fill O a.sixty_fourths) N L W X).lists
  pub work : C.work ≡ (layout_of (at_fill O a.sixty_fourths) N L W X).work
  pub crossings : C.crossings ≡ (layout_of (at_fill O a.sixty_fourths) N L W X).crossings
  pub free : all_free (at_fill O a.sixty_fourths) N ≡ true
  pub none_larger : (j : ℕ) → a.sixty_fourths < j → j ≤ 64 → serves O N L W X j ≡ false

pub record LargestFill (O : Options) (N : Network) (L : Lists) (W : Work) (X : Crossings) : Type 0 where
  -- The refusal of the input is the same at each fill of 1/64 to 64/64.
  pub alike : (k : ℕ) → k < 64 → early (at_fill O (suc k)) N (room_of L W X) ≡ early (at_fill O 64) N (room_of L W X)
  -- It ends the call, and leaves every list as it was.
  pub refused : (r : Refusal) → early (at_fill O 64) N (room_of L W X) ≡ Some r
      → largest_fill_of O N L W X ≡ fill_call (Err r) L W X
  -- Where a fill is answered it is the largest that serves.
  pub drawn : (a : Largest) → (largest_fill_of O N L W X).answer ≡ Ok a → IsLargest O N L W X (largest_fill_of O N L W X) a
  -- Where nothing refuses the input, refusal 18 is the answer just where no fill serves.
  pub none : early (at_fill O 64) N (room_of L W X) ≡ None → (largest_fill_of O N L W X).answer ≡ Err NoFill
      → (j : ℕ) → 0 < j → j ≤ 64 → serves O N L W X j ≡ false
  pub eighteen : early (at_fill O 64) N (room_of L W X) ≡ None
      → ((j : ℕ) → 0 < j → j ≤ 64 → serves O N L W X j ≡ false) → (largest_fill_of O N L W X).answer ≡ Err NoFill
  -- Nor is it the answer elsewhere.
  pub other : (r : Refusal) → early (at_fill O 64) N (room_of L W X) ≡ Some r → r ≡ NoFill → ⊥

abbrev pub LargestFillHolds : Type 0
LargestFillHolds = (O : Options) (N : Network) (L : Lists) (W : Work) (X : Crossings) → LargestFill O N L W X
