use Rattle.std.proofs.Common.{rules, nat_lt, arith}
use Rattle.std.proofs.lemmas.Fn.{always_returns_same}
use Rattle.std.proofs.lemmas.List.Sorted.{IsPartitionedBy-ltb}
use Rattle.claim_table.specs.declared.claim.Claim.{Claim}
use Rattle.claim_table.proofs.ByNumber.{parted_at}
use Rattle.claim_table.proofs.numbers.first_from.Goals as goal

pub returns-clause-parts : goal.returns-clause-parts
returns-clause-parts c =
    c.partition_point.ensures.partitioned (λ (d : Claim). nat_lt d.number c.args.number)
    (always_returns_same _ _ _ (λ a r f k. search rules))
    (IsPartitionedBy-ltb (λ (d : Claim). d.number) c.args.claims.now.items c.args.number c.requires.order)

pub returns-clause-place : goal.returns-clause-place
returns-clause-place c = parted_at c.args.claims.now.items c.args.number c.partition_point.result (omega (arith, c.requires.counted, c.partition_point.ensures.bound))
    (c.partition_point.ensures.partitioned (λ (d : Claim). nat_lt d.number c.args.number)
    (always_returns_same _ _ _ (λ a r f k. search rules))
    (IsPartitionedBy-ltb (λ (d : Claim). d.number) c.args.claims.now.items c.args.number c.requires.order))
