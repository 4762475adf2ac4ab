-- Answers for `results::pieces::put_piece`.
use Rattle.results.proofs.pieces.Puts.{put_one}
use Rattle.results.proofs.pieces.put_piece.Goals as goal

pub returns : goal.returns
returns c = put_one _ _ _ _ _ _ c.requires.numbers_fit c.requires.branches_fit
