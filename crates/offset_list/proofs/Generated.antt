-- The generated pairs for search 20 are the constant table, entry for entry; so are the lines that are printed of them. Assumes nothing.
use mathlib.Core.Path.{◌≡◌, ◌∙◌, sym, ap}
use mathlib.Core.List.{List}
use Prim.Native.Nat.{ℕ}
use lib.IntN.{pos}
use lib.ListN.{length, take, get_or}
use Rattle.numbers.specs.Over.{over}
use Rattle.text.proofs.listing.Writing.{take_over}
use Rattle.offsets.specs.declared.offset.Offset.{Offset}
use Rattle.offsets.specs.Offset.{offsets}
use Rattle.offset_table.specs.Table.{table_pairs, table_pair}
use Rattle.offset_table.proofs.Rule.{table_whole}
use Rattle.offset_lines.specs.Stages.Text.{offset_text}

-- as lists
pub generated : offsets 20 ≡ table_pairs
generated = sym table_whole

-- entry for entry: `offset_table::table_pair` answers the j-th
pub generated_entry : (j : ℕ) → get_or (offsets 20) j (record { a = pos 0; b = pos 0 }) ≡ table_pair j
unfolding table_pair
generated_entry j = ap (λ (l : List Offset). get_or l j (record { a = pos 0; b = pos 0 })) generated

-- as text
pub generated_text : offset_text (offsets 20) ≡ offset_text table_pairs
generated_text = ap offset_text generated

-- the front of a list that a text was written over
pub front : {A : Type 0} (n : ℕ) (new old list : List A) → n ≡ length new → list ≡ over new old → take n list ≡ new
front n new old list e h = ap (λ (l : List _). take n l) h ∙ ap (λ (k : ℕ). take k (over new old)) e ∙ take_over new old
