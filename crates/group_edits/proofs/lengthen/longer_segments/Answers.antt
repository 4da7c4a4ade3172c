use Rattle.std.proofs.Common.{sym, ap, ◌∙◌}
use Rattle.std.specs.Option.{option_copied}
use Rattle.group_edits.proofs.LastSegment.{added_fits, added_is, no_last}
use Rattle.group_edits.proofs.lengthen.longer_segments.Goals as goal
use Rattle.group_edits.proofs.lengthen.longer_segments.Goals.{in-Some+in_ok-add_segments, in_default}

pub add_segments-requires : goal.add_segments-requires
add_segments-requires c =
    added_fits c.args.lv.now c.args.given.now c.requires c.as_slice-2.result.now c.as_slice-2.ensures c.in-Some.last.now
    (sym c.last.ensures.value ∙ ap option_copied c.in-Some.is)

pub returns : goal.returns
returns c =
    elim c.match-last.branch [
      | in-Some+in_ok-add_segments w ↦
          added_is c.args.lv.now c.args.given.now c.requires c.as_slice-2.result.now c.as_slice-2.ensures w.in-Some.last.now
          (sym c.last.ensures.value ∙ ap option_copied w.in-Some.is) c.in_ok-segments.segments.items c.match-last.segments.items
          (c.in_ok-segments.ensures ∙ c.as_slice.ensures) ((λ i. (w.segments-is i).items) ∙ w.in_ok-add_segments.ensures)
      | in_default w ↦ absurd (no_last c.args.lv.now c.args.given.now c.requires c.as_slice-2.result.now c.as_slice-2.ensures
          (sym c.last.ensures.value ∙ ap option_copied w.in_default.is))
    ]
