use Rattle.std.proofs.Common.{◌==◌}
use Rattle.claim_table.specs.declared.claim.Claim.{Claim}
use Rattle.list_laws.proofs.Positions.{placed}
use Rattle.claim_table.proofs.pieces.Pieces.place_of.Goals as goal

pub returns-clause-place : goal.returns-clause-place
returns-clause-place c =
    (placed (λ (d : Claim). d.number == c.args.number) c.args.self.now.claims c.find.result c.unwrap_or.result c.find.ensures
    c.unwrap_or.ensures c.requires).0
