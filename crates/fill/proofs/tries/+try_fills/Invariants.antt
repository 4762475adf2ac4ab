-- What `fill::tries::try_fills` decreases.
use Rattle.fill.proofs.tries.+try_fills.Given as goal

abbrev pub decreases-try_fills : goal.decreases-try_fills
decreases-try_fills l = l.sixty_fourths
