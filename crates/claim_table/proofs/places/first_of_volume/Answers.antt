use Rattle.std.proofs.Common.{rules, nat_lt}
use Rattle.std.proofs.lemmas.Fn.{always_returns_same}
use Rattle.claim_table.specs.declared.placed.Placed.{Placed}
use Rattle.claim_table.proofs.PlaceOrder.{volumes_partitioned}
use Rattle.claim_table.proofs.places.first_of_volume.Goals as goal

pub returns-clause-parts : goal.returns-clause-parts
returns-clause-parts c =
    c.partition_point.ensures.partitioned (λ (e : Placed). nat_lt e.volume c.args.volume)
    (always_returns_same _ _ _ (λ a r f k. search rules)) (volumes_partitioned c.args.places.now.items c.args.volume c.requires.ascending)
