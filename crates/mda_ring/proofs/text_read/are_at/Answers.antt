-- A part that is the sectors' is one more, and one that isn't tells the bytes apart.
use Rattle.std.proofs.Common.{sym, ◌∙◌}
use Rattle.mda_ring.proofs.StoredTexts.{more_stored, part_stored}
use Rattle.mda_ring.proofs.text_read.are_at.Goals as goal

pub returns-then-ne : goal.returns-then-ne
returns-then-ne c =
    let bytes = c.args.bytes.now in
    let part = c.part_at-part.result.now in (
      λ no. cc,
      λ are. absurd (part_stored c.args.sectors.now c.args.skip c.loop-done.done bytes part c.loop-done.invariant.1
          c.part_at-part.ensures.most c.part_at-part.ensures.bytes are (sym c.ne.ensures ∙ c.if-ne.true)),
    )

pub loop-done-preserved : goal.loop-done-preserved
loop-done-preserved c =
    more_stored c.args.sectors.now c.args.skip c.loop-done.done c.args.bytes.now c.part_at-part.result.now c.loop-done.invariant.1
    c.part_at-part.ensures.most c.part_at-part.ensures.bytes c.loop-done.invariant.0 (sym c.ne.ensures ∙ c.if-ne.false)
