-- The pieces of the runs that the structs of lent lists hold. Definitions only.
use Rattle.std.specs.Prelude.{ℕ, true, List, Float}
use Rattle.network.specs.declared.lists.Network.{Network}
use Rattle.network.specs.declared.words.Kind.{Kind}
use Rattle.network.specs.Words.{kinds}
use Rattle.runs.specs.declared.laid.Laid.{Laid}
use Rattle.runs.specs.declared.laid.Obstacles.{Obstacles}
use Rattle.runs.specs.Run.{Piece, all_pieces}
use Rattle.runs.specs.Stages.Lent.{run_lists}
use Rattle.results.specs.Stages.Runs.{runs_in, others_in, pass_in, batch_in}

-- what each branch of a network is
abbrev pub kinds_in : Network → List Kind
kinds_in N = kinds N.sub.now N.from.now N.to.now N.service.now

-- the pieces of all runs
abbrev pub pieces_of : Network → Laid → Obstacles → List Piece
pieces_of N L G = all_pieces (kinds_in N) (runs_in (run_lists N L G) N.from.now N.to.now N.service.now)

-- those of the branches that are no lines, with these boxes
abbrev pub others_of : Network → Laid → List Float → List Piece
others_of N L frames =
    others_in
    N.sub.now L.measures L.buses.now L.ends.now L.blocks.now frames N.from.now N.to.now N.service.now

-- those of the lines
abbrev pub lines_of : Network → Laid → Obstacles → List Piece
lines_of N L G = pass_in true (run_lists N L G) N.from.now N.to.now N.service.now

-- those of the lines among 16 branches from `start` on
abbrev pub batch_of : Network → Laid → Obstacles → ℕ → List Piece
batch_of N L G start = batch_in (run_lists N L G) N.from.now N.to.now N.service.now start
