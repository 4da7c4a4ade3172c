-- One step more is marked.
use Rattle.std.proofs.Common.{◌≡◌, ◌<◌, ℕ, ◌+◌, ◌||◌, ◌∷◌, vec_len, Bool, List, [], length, slice_index_or, take, sym, ap, subst, ◌∙◌}
use Rattle.std.proofs.Common.{arith}
use Rattle.std.proofs.Math.ListN.{get_or-map}
use Rattle.disk_model.specs.Steps.{Step}
use Rattle.dev_shelf.specs.declared.mem_shelf.recorded.RecordedWork.{RecordedWork}
use Rattle.dev_shelf.specs.DiskRow.{sizes_of, step_at, steps_onto}
use Rattle.dev_shelf.specs.DiskRowInvariant.{AllWithin, recorded_work}
use Rattle.dev_shelf.specs.RowValues.{IsWrittenWithin, is_touched, is_written}
use Rattle.dev_shelf.proofs.Recorded.{steps_more}
use Rattle.dev_shelf.proofs.RecordMoments.{within_at}
use Rattle.dev_shelf.proofs.Untouched.{step_within, touched_more}
use Rattle.dev_shelf.proofs.mem_shelf.touched.touched_sectors.Goals as goal

pub mark_work-requires : goal.mark_work-requires
mark_work-requires c =
    let row = c.args.row.now in
    let r = c.index-in-loop-i.result.now in
    let pv = c.args.disk in
    let so_far = steps_onto row.written.items [] (take c.loop-i.i row.steps.items) in
    let more = steps_more row.written.items row.steps.items c.loop-i.i r (omega (arith, row.steps.ok.0)) c.index-in-loop-i.ensures in
    let within : AllWithin (sizes_of row) (step_at row.written.items r ∷ so_far) =
    subst (AllWithin (sizes_of row)) more (within_at (sizes_of row) row.written.items row.steps.items (c.loop-i.i + 1)
    c.requires.good.within) in
    let size : slice_index_or (sizes_of row) pv 0 ≡ length (slice_index_or row.opened.items pv []) =
    get_or-map (λ (d : List (List ℕ)). length d) row.opened.items pv [] in
    subst (λ (w : RecordedWork). IsWrittenWithin w pv (vec_len c.loop-i.marks)) (sym c.recorded_work.ensures)
    (subst (λ (n : ℕ). IsWrittenWithin (recorded_work r) pv n) (size ∙ sym c.loop-i.invariant.len)
    (step_within (sizes_of row) row.written.items r so_far pv within))

pub loop-i-preserved : goal.loop-i-preserved
loop-i-preserved c =
    let row = c.args.row.now in
    let r = c.index-in-loop-i.result.now in
    let pv = c.args.disk in
    let so_far = steps_onto row.written.items [] (take c.loop-i.i row.steps.items) in
    let more = steps_more row.written.items row.steps.items c.loop-i.i r (omega (arith, row.steps.ok.0)) c.index-in-loop-i.ensures in
    record {
      len = c.mark_work.ensures.len ∙ c.loop-i.invariant.len;
      each = λ s lt.
          let lt' : s < vec_len c.loop-i.marks = omega (arith, c.mark_work.ensures.len) in
          c.mark_work.ensures.each s lt'
          ∙ ap (λ (b : Bool). is_written c.recorded_work.result pv s || b) (c.loop-i.invariant.each s lt')
          ∙ ap (λ (w : RecordedWork). is_written w pv s || is_touched so_far pv s) c.recorded_work.ensures
          ∙ sym (touched_more row.written.items r so_far pv s)
          ∙ ap (λ (l : List Step). is_touched l pv s) (sym more);
    }
