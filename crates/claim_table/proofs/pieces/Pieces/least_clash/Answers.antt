use Rattle.std.specs.Prelude.{Some}
use Rattle.std.proofs.lemmas.Bool.{ltb-true}
use Rattle.claim_table.proofs.Beside.{met_number}
use Rattle.claim_table.proofs.pieces.Pieces.least_clash.Goals as goal

pub loop-lower-smaller : goal.loop-lower-smaller
loop-lower-smaller c =
    ltb-true c.in-Some.lower c.loop-lower.least
    (met_number c.args.self.now.claims c.args.claim.now (Some c.loop-lower.least) c.in-Some.lower c.in-Some.ensures.some).0
