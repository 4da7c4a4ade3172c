use Rattle.std.proofs.Common.{nat_eq, sym, ap, ◌∙◌, arith}
use Rattle.claim_table.specs.declared.placed.Placed.{Placed}
use Rattle.claim_table.proofs.PlaceOrder.{volume_at, volume_nowhere}
use Rattle.claim_table.proofs.places.is_of_volume.Goals as goal

pub returns-then-at-len : goal.returns-then-at-len
returns-then-at-len c =
    ap (λ (e : Placed). nat_eq e.volume c.args.volume) c.index.ensures
    ∙ volume_at c.args.places.now.items c.args.volume c.first_of_volume-at.result c.index.result.now c.requires.ascending
    c.first_of_volume-at.ensures.parts (omega (arith, c.if-at-len.true, c.len.ensures, c.requires.counted))

pub returns-else-at-len : goal.returns-else-at-len
returns-else-at-len c =
    sym (volume_nowhere c.args.places.now.items c.args.volume c.first_of_volume-at.result c.requires.ascending c.first_of_volume-at.ensures.parts
    (λ d lt. absurd (omega (arith, c.if-at-len.false, c.len.ensures, c.requires.counted, lt))))
