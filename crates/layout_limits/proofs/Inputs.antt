-- What an input's refusals need. Assumes nothing.
use Rattle.std.proofs.lemmas.Result.{err_from_is_err_and}
use Rattle.network.proofs.refusals.Shapes.{shape_fits}

pub ruleset laws = (shape_fits, err_from_is_err_and)
