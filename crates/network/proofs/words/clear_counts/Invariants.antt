-- What the loop of `network::words::clear_counts` keeps.
use mathlib.Core.Path.{◌≡◌}
use Rattle.numbers.specs.Table.{table}
use Rattle.network.specs.Views.{counts_in}
use Rattle.network.proofs.words.clear_counts.Given as goal

abbrev pub invariant-loop-s : goal.invariant-loop-s
invariant-loop-s l = counts_in l.s l.stations ≡ table (λ s. 0) l.s
