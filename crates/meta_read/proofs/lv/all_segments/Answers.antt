use Rattle.std.proofs.Common.{Some, None, if◌then◌else◌, ap, sym, ◌∙◌}
use Rattle.conf_text.specs.Items.{items}
use Rattle.meta_model.specs.Standing.{segment_of}
use Rattle.meta_read.specs.Reading.{segment_body}
use Rattle.meta_read.proofs.Each.{each_kept_turn, each_passed_turn}
use Rattle.meta_read.proofs.lv.all_segments.Goals as goal
use Rattle.meta_read.proofs.lv.all_segments.Goals.{then-is_segment+in_ok-read_segment+in_ok-push, else-is_segment}

pub loop-name-preserved : goal.loop-name-preserved
loop-name-preserved c =
    let found = c.loop-name-item.result in
    elim c.if-is_segment.branch [
      | then-is_segment+in_ok-read_segment+in_ok-push w ↦
          each_kept_turn (λ body. segment_of c.args.places.now (items body)) segment_body (λ found. (found.0.now, found.1))
          c.args.sections.now c.loop-name.name-index found found found.1 c.loop-name.segments.items _ _ _ c.loop-name-test.true
          c.loop-name-item.is
          (ap (λ is. if is then Some found.1 else None) (sym c.is_segment.ensures ∙ w.if-is_segment.true))
          w.in_ok-read_segment.ensures (ap (λ segments. segments.items) w.segments-is ∙ w.in_ok-push.ensures.items) c.loop-name.invariant
      | else-is_segment w ↦
          each_passed_turn (λ body. segment_of c.args.places.now (items body)) segment_body (λ found. (found.0.now, found.1))
          c.args.sections.now c.loop-name.name-index found found c.loop-name.segments.items _ _ c.loop-name-test.true
          c.loop-name-item.is
          (ap (λ is. if is then Some found.1 else None) (sym c.is_segment.ensures ∙ w.if-is_segment.false))
          (ap (λ segments. segments.items) w.segments-is) c.loop-name.invariant
    ]
