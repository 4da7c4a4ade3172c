-- Each number is less than the one before.
use Rattle.claim_table.proofs.pieces.Pieces.least_clash.Given as goal

abbrev pub decreases-loop-lower : goal.decreases-loop-lower
decreases-loop-lower l = l.least
