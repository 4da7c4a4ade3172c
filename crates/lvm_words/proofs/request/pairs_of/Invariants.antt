use Rattle.std.proofs.Common.{◌≡◌, ◌++◌, drop, map}
use Rattle.clap.specs.Matches.{found_of}
use Rattle.clap.specs.Walk.{rows_of}
use Rattle.lvm_words.specs.Parser.{pairs_of}
use Rattle.lvm_words.proofs.request.pairs_of.Given as goal

abbrev pub invariant-loop-row : goal.invariant-loop-row
invariant-loop-row l = map (λ pair. (pair.0, pair.1.now)) l.pairs.items ++ pairs_of (drop l.row-index l.rows) (rows_of (found_of l.matches))
    ≡ pairs_of l.rows (rows_of (found_of l.matches))
