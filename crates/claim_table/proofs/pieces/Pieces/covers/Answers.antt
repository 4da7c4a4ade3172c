use Rattle.std.specs.Prelude.{None}
use Rattle.claim_table.proofs.Beside.{met_number}
use Rattle.claim_table.proofs.pieces.Pieces.covers.Goals as goal

pub place_of-requires : goal.place_of-requires
place_of-requires c = (met_number c.args.self.now.claims c.args.claim.now None c.in-Some.number c.in-Some.ensures.some).1
