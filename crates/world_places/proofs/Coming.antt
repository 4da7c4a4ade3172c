-- What steps and the plan make of values that come.
use Rattle.std.proofs.Common.{◌≡◌, ◌≤◌, ◌<◌, ℕ, ◌+◌, nat_eq, Bool, true, false, IsTrue, List, length, max, get_or, inl, inr, ⊎_elim, refl}
use Rattle.std.proofs.Common.{sym, ap, subst, ◌∙◌, arith}
use Rattle.std.proofs.lemmas.Bool.{cases_lt, eqb-true}
use Rattle.std.proofs.lemmas.Bool.Decides.{eqb_tells}
use Rattle.std.proofs.lemmas.List.Elements.{All-push}
use Rattle.list_laws.proofs.Positions.{all_remove, any_within}
use Rattle.sector_base.specs.declared.spans.Span.{Span}
use Rattle.disk_model.proofs.Durable.{flush_completes, flush_submitted, only_leaves_on, or_dropped_on, or_overtaken_on}
use Rattle.disk_model.specs.Brought.{brings}
use Rattle.disk_model.specs.Durability.{OnlyLeaves, OnlyLeavesOrDropped, OnlyLeavesOrOvertaken}
use Rattle.disk_model.specs.Steps.{Completed, Flushing, Record, Step, Submitted, Writing, step_on, value_at}
use Rattle.flush_plan.proofs.Flights.{mark_kept, mark_other, mark_written, passes_at}
use Rattle.flush_plan.proofs.Orderly.{marks_within}
use Rattle.flush_plan.specs.Plans.{IsOrderly, Plan, flush_at, flush_of, is_in_flight, marks_of, no_marks}
use Rattle.flush_plan.specs.Steps.{after_flushed, after_lost, after_submitted, after_wrote}
use Rattle.flush_plan.specs.declared.records.Flush.{Flush}
use Rattle.flush_plan.specs.declared.records.Marks.{Marks}
use Rattle.world_places.specs.Comings.{Comes}

-- values with Q have Q'
pub only_map : (told : Record) (pv sector : ℕ) (Q Q' : List ℕ → Type 0) → ((v : List ℕ) → Q v → Q' v) → OnlyLeaves told pv sector Q
    → OnlyLeaves told pv sector Q'
only_map told pv sector Q Q' up h = record { each = λ write value may. up value (h.each write value may) }

-- ---- marks

-- a noted write leaves what is stable
pub stable_wrote : (plan : Plan) (number disk pv : ℕ) → (marks_of (after_wrote plan number disk) pv).stable ≡ (marks_of plan pv).stable
stable_wrote plan number disk pv =
    mark_kept (λ (x : Marks). x.stable) plan.marks disk (record (marks_of plan disk) { written = plan.held + 1 }) no_marks refl pv

-- and so does a flush that fails
pub stable_lost : (plan : Plan) (tag pv : ℕ) → (marks_of (after_lost plan tag) pv).stable ≡ (marks_of plan pv).stable
stable_lost plan tag pv =
    let f = flush_of plan tag in
    mark_kept (λ (x : Marks). x.stable) plan.marks f.pv
    (record (marks_of plan f.pv) { ended = max (marks_of plan f.pv).ended f.after }) no_marks refl pv

-- the marks of its disk once one has completed well
abbrev pub flushed_marks : Plan → ℕ → Marks
flushed_marks plan tag =
    let f = flush_of plan tag in
    let m = marks_of plan f.pv in
    record m { ended = max m.ended f.after; stable = max m.stable f.after }

pub stable_flushed : (plan : Plan) (tag pv : ℕ) → (flush_of plan tag).pv ≡ pv → (flush_of plan tag).pv < length plan.marks
    → (marks_of (after_flushed plan tag) pv).stable ≡ max (marks_of plan (flush_of plan tag).pv).stable (flush_of plan tag).after
stable_flushed plan tag pv here within =
    ap (λ (d : ℕ). (get_or (after_flushed plan tag).marks d no_marks).stable) (sym here)
    ∙ ap (λ (x : Marks). x.stable) (mark_written plan.marks (flush_of plan tag).pv (flushed_marks plan tag) no_marks within)

-- those of another disk stay
pub stable_elsewhere : (plan : Plan) (tag pv : ℕ) → nat_eq (flush_of plan tag).pv pv ≡ false
    → (marks_of (after_flushed plan tag) pv).stable ≡ (marks_of plan pv).stable
stable_elsewhere plan tag pv other =
    ap (λ (x : Marks). x.stable) (mark_other plan.marks (flush_of plan tag).pv pv (flushed_marks plan tag) no_marks other)

-- ---- values that come

module _ (plan : Plan) (told : Record) (pv sector k : ℕ) (Q : List ℕ → Type 0) where
  -- what a flush in flight drops, where it serves the k-th write
  abbrev DroppedBy : Record → Flush → Type 0
  DroppedBy now f = f.pv ≡ pv → k ≤ f.after → OnlyLeavesOrDropped now f.tag pv sector Q

  pub comes_map : (Q' : List ℕ → Type 0) → ((v : List ℕ) → Q v → Q' v) → Comes plan told pv sector k Q → Comes plan told pv sector k Q'
  comes_map Q' up h = record {
    overtaken = record { each = λ write value may. ⊎_elim (λ a. inl (up value a)) (λ b. inr b) (h.overtaken.each write value may) };
    dropped =
        λ i d lt at le. record {
          each = λ write value may. ⊎_elim (λ a. inl (up value a)) (λ b. inr b) ((h.dropped i d lt at le).each write value may);
        };
    stable = λ le. only_map told pv sector Q Q' up (h.stable le);
  }

  -- a step that brings nothing there
  pub comes_on : (step : Step) → brings step pv sector ≡ false → Comes plan told pv sector k Q
      → Comes plan (step_on step told) pv sector k Q
  comes_on step none h = record {
    overtaken = or_overtaken_on told pv sector Q step none h.overtaken;
    dropped = λ i d lt at le. or_dropped_on told pv sector Q step none (get_or plan.flushes i d).tag (h.dropped i d lt at le);
    stable = λ le. only_leaves_on told pv sector Q step none (h.stable le);
  }

  -- the submission of a write whose value there has Q
  pub comes_write : (tag : ℕ) (span : Span) (sectors : List (List ℕ)) → Q (value_at span sectors sector) → Comes plan told pv sector k Q
      → Comes plan (step_on (Submitted tag (Writing span sectors)) told) pv sector k Q
  comes_write tag span sectors new h = record {
    overtaken =
        record { each = λ write value may. ⊎_elim (λ old. h.overtaken.each write value old) (λ b. inl (subst Q (sym b.2) new)) may };
    dropped =
        λ i d lt at le. record {
          each =
              λ write value may.
              ⊎_elim (λ old. ⊎_elim (λ a. inl a) (λ b. inr (inl b)) ((h.dropped i d lt at le).each write value old))
              (λ b. inl (subst Q (sym b.2) new)) may;
        };
    stable =
        λ le. record { each = λ write value may. ⊎_elim (λ old. (h.stable le).each write value old) (λ b. subst Q (sym b.2) new) may };
  }

  -- another write is noted
  pub comes_wrote : (number disk : ℕ) → Comes plan told pv sector k Q → Comes (after_wrote plan number disk) told pv sector k Q
  comes_wrote number disk h = record {
    overtaken = h.overtaken;
    dropped = h.dropped;
    stable = λ le. h.stable (subst (λ (n : ℕ). k ≤ n) (stable_wrote plan number disk pv) le);
  }

  -- a write of values with Q has completed well, and is noted
  pub comes_new : (number : ℕ) → IsOrderly plan → OnlyLeavesOrOvertaken told pv sector Q → k ≡ plan.held + 1
      → Comes (after_wrote plan number pv) told pv sector k Q
  comes_new number orderly over last =
      let m = marks_within plan orderly pv in
      let same = stable_wrote plan number pv pv in
      record {
        overtaken = over;
        dropped =
            λ i d lt at le. absurd (let early : (get_or plan.flushes i d).after ≤ plan.held = orderly.flushes i d lt in
            omega (arith, early, le, last));
        stable = λ le. absurd (omega (arith, same, m.1, m.2, le, last));
      }

  -- a flush is submitted
  pub comes_asked : (tag disk : ℕ) → Comes plan told pv sector k Q
      → Comes (after_submitted plan disk tag) (step_on (Submitted tag (Flushing disk)) told) pv sector k Q
  comes_asked tag disk h =
      let on = comes_on (Submitted tag (Flushing disk)) refl h in
      record {
        overtaken = on.overtaken;
        dropped =
            All-push (DroppedBy (step_on (Submitted tag (Flushing disk)) told)) plan.flushes
            (record { tag = tag; pv = disk; after = plan.held }) on.dropped
            (λ (here : disk ≡ pv) le. subst (λ (d : ℕ). OnlyLeavesOrDropped (step_on (Submitted tag (Flushing d)) told) tag pv sector Q)
            (sym here) (flush_submitted told pv sector tag Q h.overtaken));
        stable = on.stable;
      }

  -- one that was in flight is among the flushes
  found : (tag : ℕ) → IsTrue (is_in_flight plan tag) → flush_at plan tag < length plan.flushes
  found tag flies = any_within (λ (f : Flush). nat_eq f.tag tag) plan.flushes flies

  own_tag : (tag : ℕ) → IsTrue (is_in_flight plan tag) → (flush_of plan tag).tag ≡ tag
  own_tag tag flies =
      eqb-true (flush_of plan tag).tag tag
      (passes_at (λ (f : Flush). nat_eq f.tag tag) plan.flushes (record { tag = 0; pv = 0; after = 0 }) flies)

  -- it fails
  pub comes_lost : (tag disk : ℕ) (fresh : List Bool) → IsTrue (is_in_flight plan tag) → Comes plan told pv sector k Q
      → Comes (after_lost plan tag) (step_on (Completed tag (Flushing disk) false fresh) told) pv sector k Q
  comes_lost tag disk fresh flies h =
      let on = comes_on (Completed tag (Flushing disk) false fresh) refl h in
      record {
        overtaken = on.overtaken;
        dropped =
            all_remove (DroppedBy (step_on (Completed tag (Flushing disk) false fresh) told)) plan.flushes (flush_at plan tag)
            (found tag flies) on.dropped;
        stable = λ le. on.stable (subst (λ (n : ℕ). k ≤ n) (stable_lost plan tag pv) le);
      }

  -- it completes well
  pub comes_flushed : (tag disk : ℕ) (fresh : List Bool) → IsTrue (is_in_flight plan tag) → (flush_of plan tag).pv ≡ disk
      → disk < length plan.marks → Comes plan told pv sector k Q
      → Comes (after_flushed plan tag) (step_on (Completed tag (Flushing disk) true fresh) told) pv sector k Q
  comes_flushed tag disk fresh flies its within h =
      let on = comes_on (Completed tag (Flushing disk) true fresh) refl h in
      let f = flush_of plan tag in
      record {
        overtaken = on.overtaken;
        dropped =
            all_remove (DroppedBy (step_on (Completed tag (Flushing disk) true fresh) told)) plan.flushes (flush_at plan tag)
            (found tag flies) on.dropped;
        stable =
            λ le. ⊎_elim
            (λ same.
            let here : f.pv ≡ pv = same.1 in
            let mark = stable_flushed plan tag pv here (omega (arith, its, within)) in
            ⊎_elim
            (λ (late : (marks_of plan f.pv).stable < k).
            let serves : k ≤ f.after = omega (arith, le, mark, late) in
            let drops : OnlyLeavesOrDropped told f.tag pv sector Q =
            h.dropped (flush_at plan tag) (record { tag = 0; pv = 0; after = 0 }) (found tag flies) here serves in
            subst (λ (d : ℕ). OnlyLeaves (step_on (Completed tag (Flushing d) true fresh) told) pv sector Q) (sym here ∙ its)
            (flush_completes told pv sector tag fresh Q
            (subst (λ (t : ℕ). OnlyLeavesOrDropped told t pv sector Q) (own_tag tag flies) drops)))
            (λ (early : k ≤ (marks_of plan f.pv).stable). on.stable (subst (λ (d : ℕ). k ≤ (marks_of plan d).stable) here early))
            (cases_lt (marks_of plan f.pv).stable k))
            (λ other. on.stable (subst (λ (n : ℕ). k ≤ n) (stable_elsewhere plan tag pv other.0) le))
            (eqb_tells f.pv pv);
      }
