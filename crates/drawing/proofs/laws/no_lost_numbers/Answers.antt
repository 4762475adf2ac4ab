-- Answers for `drawing::laws::no_lost_numbers`.
use Rattle.drawing.proofs.Finite.{no_lost_numbers, finite_by_seeds}
use Rattle.drawing.proofs.laws.no_lost_numbers.Goals as goal

pub returns-clause-of_input : goal.returns-clause-of_input
returns-clause-of_input c = no_lost_numbers

pub returns-clause-of_seeds : goal.returns-clause-of_seeds
returns-clause-of_seeds c O N range buses branches close fits =
    finite_by_seeds O N range buses branches (λ s l. record { x = (close s l).0; y = (close s l).1 }) fits
