use Rattle.std.proofs.Common.{nat_eq, ap, ◌∙◌}
use Rattle.std.specs.List.{list_any}
use Rattle.claim_table.specs.declared.claim.Claim.{Claim}
use Rattle.claim_table.specs.declared.placed.Placed.{Placed}
use Rattle.claim_table.specs.Places.{Kept}
use Rattle.claim_table.proofs.Indexed.{any_place}
use Rattle.claim_table.proofs.pieces.Pieces.has_volume.Goals as goal

pub returns : goal.returns
returns c =
    c.is_of_volume.ensures
    ∙ any_place c.self.inside.claims.items c.self.inside.places.items c.self.inside.longest (λ (e : Placed). nat_eq e.volume c.args.volume)
    c.self.invariant.0
    ∙ ap (λ (k : Kept). list_any (λ (d : Claim). nat_eq d.piece.volume c.args.volume) k.claims) c.self.view_is
