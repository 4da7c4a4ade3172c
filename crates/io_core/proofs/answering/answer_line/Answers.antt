use Rattle.std.proofs.Common.{◌≡◌, ◌≤◌, ◌<◌, ℕ, true, sym, ap, subst, ◌∙◌}
use Rattle.line_table.specs.Steps.{Lines, after_answer, last_moment, may_enter}
use Rattle.world_acts.specs.declared.open_line.OpenLine.{OpenLine}
use Rattle.world_acts.specs.declared.room.Room.{Room}
use Rattle.world_acts.specs.OpenLines.{answer_of, open_of}
use Rattle.world_acts.specs.Rooms.{Covers, fewer, line_room}
use Rattle.world_acts.specs.Steps.{taken_whole}
use Rattle.io_core.proofs.AnsweredLines.{entry_spare, line_covered, taken_entered, taken_moment, taken_spare}
use Rattle.io_core.proofs.LiveLines.{entered}
use Rattle.io_core.proofs.answering.answer_line.Goals as goal

pub shrink-requires : goal.shrink-requires
shrink-requires g c =
    subst (λ (r : Room). Covers c.args.core.now.owed r) (sym (c.of_line.ensures ∙ ap line_room c.close-open.ensures.opened))
    (line_covered _ c.args.line c.requires.orderly c.requires.opened)

pub take_place-requires : goal.take_place-requires
take_place-requires g c = record {
  entry = entry_spare _ c.args.line c.requires.orderly c.requires.opened;
  line = entered _ c.args.line c.requires.orderly c.requires.opened;
  moment = subst (λ (m : ℕ). last_moment c.args.core.now.lines.journal ≤ m) (sym c.steps.ensures) c.requires.orderly.backed.moments;
}

pub answer-requires : goal.answer-requires
answer-requires g c =
    let lines : c.take_place.new.lines
    ≡ taken_whole c.args.core.now.lines c.args.line (open_of c.args.core.now.opens c.args.line)
    (g.S.Shelf.state c.args.shelf.now).steps =
    c.take_place.ensures
    ∙ (λ i. taken_whole c.args.core.now.lines c.args.line (c.close-open.ensures.opened i) (c.steps.ensures i)) in
    record {
      entry = subst (λ (l : Lines). 0 < l.spare_entries) (sym lines) (taken_spare _ c.args.line c.requires.orderly c.requires.opened);
      line =
          subst (λ (l : Lines). may_enter l c.args.line ≡ true) (sym lines)
          (taken_entered _ c.args.line c.requires.orderly c.requires.opened);
      moment =
          subst (λ (m : ℕ). last_moment c.take_place.new.lines.journal ≤ m) (sym c.steps-2.ensures)
          (subst (λ (l : Lines). last_moment l.journal ≤ (g.S.Shelf.state c.args.shelf.now).steps) (sym lines)
          (taken_moment _ c.args.line c.requires.orderly));
    }

pub returns : goal.returns
returns g c =
    let steps : ℕ = (g.S.Shelf.state c.args.shelf.now).steps in
    let old : OpenLine = open_of c.args.core.now.opens c.args.line in
    let opened : c.close-open.result ≡ old = c.close-open.ensures.opened in
    let room : c.of_line.result ≡ line_room old = c.of_line.ensures ∙ ap line_room opened in
    let owed : c.shrink.new.self ≡ fewer c.args.core.now.owed (line_room old) =
    c.shrink.ensures ∙ ap (λ (r : Room). fewer c.args.core.now.owed r) room in
    let answer : c.into_answer.result ≡ answer_of old = c.into_answer.ensures ∙ ap answer_of opened in
    let taken : taken_whole c.args.core.now.lines c.args.line c.close-open.result c.steps.result
    ≡ taken_whole c.args.core.now.lines c.args.line old steps =
    λ i. taken_whole c.args.core.now.lines c.args.line (opened i) (c.steps.ensures i) in
    let lines : c.take_place.new.lines ≡ taken_whole c.args.core.now.lines c.args.line old steps = c.take_place.ensures ∙ taken in
    let entered : after_answer c.take_place.new.lines c.args.line c.into_answer.result c.steps-2.result
    ≡ after_answer (taken_whole c.args.core.now.lines c.args.line old steps) c.args.line (answer_of old) steps =
    λ i. after_answer (lines i) c.args.line (answer i) (c.steps-2.ensures i) in
    let answered : c.answer.new.self
    ≡ after_answer (taken_whole c.args.core.now.lines c.args.line old steps) c.args.line (answer_of old) steps =
    c.answer.ensures ∙ entered in
    λ i. record c.args.core.now { lines = answered i; opens = c.close-open.ensures.after i; owed = owed i }
