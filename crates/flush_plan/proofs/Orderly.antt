-- Every call keeps the plan's places those of writes that have completed.
use Rattle.std.proofs.Common.{◌≡◌, ◌≤◌, ◌<◌, ℕ, suc, ◌+◌, max, true, false, cond, List, [], ◌∷◌, length, get_or, nat_lt, ◌==◌, refl, arith}
use Rattle.std.specs.Prelude.{All, IsTrue}
use Rattle.std.proofs.lemmas.Bool.{ltb-true, ltb-false}
use Rattle.std.proofs.lemmas.List.{get_or_past}
use Rattle.std.proofs.lemmas.List.Elements.{All-nil, All-cons, All-push, All-replicate, All-set}
use Rattle.indexmap.specs.IndexMap.{insert_entry}
use Rattle.flush_plan.specs.declared.records.Write.{Write}
use Rattle.flush_plan.specs.declared.records.Flush.{Flush}
use Rattle.flush_plan.specs.Plans.{Plan, IsOrderly, IsWithin, flush_at, flush_of, is_in_flight, marks_of, no_marks, same_write}
use Rattle.flush_plan.specs.Steps.{new_plan, after_wrote, after_submitted, after_flushed, after_lost}
use Rattle.list_laws.proofs.Positions.{any_within, all_remove}

-- a new plan notes no place
pub orderly_new : (disks : ℕ) → IsOrderly (new_plan disks)
orderly_new disks = record {
  last = All-nil (λ (e : Write × ℕ). e.1 ≤ 0);
  marks = All-replicate (IsWithin 0) disks no_marks (omega arith, omega arith, omega arith);
  flushes = All-nil (λ (f : Flush). f.after ≤ 0);
}

-- spare writes and flushes are no matter
pub orderly_by_reserve : (plan : Plan) (spare flushes : ℕ) → IsOrderly plan
    → IsOrderly (record plan { spare = spare; spare_flushes = flushes })
orderly_by_reserve plan spare flushes o = record { last = o.last; marks = o.marks; flushes = o.flushes }

-- the marks of any disk are within
pub marks_within : (plan : Plan) → IsOrderly plan → (pv : ℕ) → IsWithin plan.held (marks_of plan pv)
marks_within plan o pv =
    elim (nat_lt pv (length plan.marks)) as (λ b. nat_lt pv (length plan.marks) ≡ b → IsWithin plan.held (marks_of plan pv)) [
      | true ↦ λ t. o.marks pv no_marks (ltb-true _ _ t)
      | false ↦ λ t. rw (get_or_past plan.marks pv no_marks (ltb-false _ _ t)) (omega arith, omega arith, omega arith)
    ] refl

-- a place that is put in is one of the places
last_within : (es : List (Write × ℕ)) (w : Write) (place held : ℕ) → place ≤ held → All (λ e. e.1 ≤ held) es
    → All (λ e. e.1 ≤ held) (insert_entry same_write es w place)
last_within [] w place held le all = All-cons (λ (e : Write × ℕ). e.1 ≤ held) (w, place) [] le (All-nil (λ (e : Write × ℕ). e.1 ≤ held))
last_within (e ∷ es) w place held le all =
    let head : e.1 ≤ held = all 0 e (omega arith) in
    let tail : All (λ (x : Write × ℕ). x.1 ≤ held) es = λ k d lt. all (suc k) d (omega arith) in
    elim (same_write w e.0) as (λ b. All (λ (x : Write × ℕ). x.1 ≤ held)
    (cond b ((e.0, place) ∷ es) (e ∷ insert_entry same_write es w place))) [
      | true ↦ All-cons (λ (x : Write × ℕ). x.1 ≤ held) (e.0, place) es le tail
      | false ↦ All-cons (λ (x : Write × ℕ). x.1 ≤ held) e (insert_entry same_write es w place) head (last_within es w place held le tail)
    ]

-- a write that completed
pub orderly_by_wrote : (plan : Plan) (number pv : ℕ) → IsOrderly plan → IsOrderly (after_wrote plan number pv)
orderly_by_wrote plan number pv o =
    let m : IsWithin plan.held (marks_of plan pv) = marks_within plan o pv in
    record {
      last =
          last_within plan.last (record { number = number; pv = pv }) (plan.held + 1) (plan.held + 1) (omega arith)
          (λ k d lt. let h : (get_or plan.last k d).1 ≤ plan.held = o.last k d lt in omega arith);
      marks =
          All-set (IsWithin (plan.held + 1)) plan.marks pv (record (marks_of plan pv) { written = plan.held + 1 })
          (omega arith, m.1, omega arith)
          (λ k d lt. let h : IsWithin plan.held (get_or plan.marks k d) = o.marks k d lt in (omega arith, h.1, omega arith));
      flushes = λ k d lt. let h : (get_or plan.flushes k d).after ≤ plan.held = o.flushes k d lt in omega arith;
    }

-- a flush that was submitted
pub orderly_by_submitted : (plan : Plan) (pv tag : ℕ) → IsOrderly plan → IsOrderly (after_submitted plan pv tag)
orderly_by_submitted plan pv tag o = record {
  last = o.last;
  marks = o.marks;
  flushes =
      All-push (λ (f : Flush). f.after ≤ plan.held) plan.flushes (record { tag = tag; pv = pv; after = plan.held }) o.flushes (omega arith);
}

-- a flush that completed well, and one that failed
pub orderly_by_flushed : (plan : Plan) (tag : ℕ) → IsTrue (is_in_flight plan tag) → IsOrderly plan → IsOrderly (after_flushed plan tag)
orderly_by_flushed plan tag flies o =
    let at : flush_at plan tag < length plan.flushes = any_within (λ (f : Flush). f.tag == tag) plan.flushes flies in
    let f : Flush = flush_of plan tag in
    let covered : (flush_of plan tag).after ≤ plan.held = o.flushes (flush_at plan tag) _ at in
    let m : IsWithin plan.held (marks_of plan f.pv) = marks_within plan o f.pv in
    record {
      last = o.last;
      marks =
          All-set (IsWithin plan.held) plan.marks f.pv
          (record (marks_of plan f.pv) {
            ended = max (marks_of plan f.pv).ended f.after;
            stable = max (marks_of plan f.pv).stable f.after;
          }) (m.0, omega arith, omega arith) o.marks;
      flushes = all_remove (λ (g : Flush). g.after ≤ plan.held) plan.flushes (flush_at plan tag) at o.flushes;
    }

pub orderly_by_lost : (plan : Plan) (tag : ℕ) → IsTrue (is_in_flight plan tag) → IsOrderly plan → IsOrderly (after_lost plan tag)
orderly_by_lost plan tag flies o =
    let at : flush_at plan tag < length plan.flushes = any_within (λ (f : Flush). f.tag == tag) plan.flushes flies in
    let f : Flush = flush_of plan tag in
    let covered : (flush_of plan tag).after ≤ plan.held = o.flushes (flush_at plan tag) _ at in
    let m : IsWithin plan.held (marks_of plan f.pv) = marks_within plan o f.pv in
    record {
      last = o.last;
      marks =
          All-set (IsWithin plan.held) plan.marks f.pv (record (marks_of plan f.pv) { ended = max (marks_of plan f.pv).ended f.after })
          (m.0, omega arith, omega arith) o.marks;
      flushes = all_remove (λ (g : Flush). g.after ≤ plan.held) plan.flushes (flush_at plan tag) at o.flushes;
    }
