-- The plan of the flushes: its marks and its flushes are places of writes that have completed.
use Rattle.std.proofs.Common.{◌≡◌, ◌≤◌, ℕ, ◌+◌, true, false, max, nat_eq, nat_lt, length, All, refl, arith}
use Rattle.std.proofs.lemmas.Bool.{ltb-false, ltb-true}
use Rattle.std.proofs.lemmas.List.{get_or_past}
use Rattle.std.proofs.lemmas.List.Elements.{All-set}
use Rattle.list_laws.proofs.Positions.{any_within}
use Rattle.flush_plan.specs.declared.records.Flush.{Flush}
use Rattle.flush_plan.specs.Plans.{IsWithin, Plan, flush_at, flush_of, is_in_flight, marks_of, no_marks}
use Rattle.flush_plan.specs.Steps.{after_flushed, after_lost, after_wrote}

pub marks_reach : (p : Plan) → All (IsWithin p.held) p.marks → (pv : ℕ) → IsWithin p.held (marks_of p pv)
marks_reach p each pv =
    elim (nat_lt pv (length p.marks)) as (λ b. nat_lt pv (length p.marks) ≡ b → IsWithin p.held (marks_of p pv)) [
      | true ↦ λ t. each pv no_marks (ltb-true _ _ t)
      | false ↦ λ t. rw (get_or_past p.marks pv no_marks (ltb-false _ _ t)) (omega arith, omega arith, omega arith)
    ] refl

-- behind a write
pub reached_wrote : (p : Plan) (number pv : ℕ) → All (IsWithin p.held) p.marks
    → All (IsWithin (p.held + 1)) (after_wrote p number pv).marks
reached_wrote p number pv each =
    let m : IsWithin p.held (marks_of p pv) = marks_reach p each pv in
    All-set (IsWithin (p.held + 1)) p.marks pv (record (marks_of p pv) { written = p.held + 1 })
    (omega arith, m.1, omega (arith, m.2))
    (λ k d lt. let h : IsWithin p.held _ = each k d lt in (omega (arith, h.0), h.1, omega (arith, h.2)))

pub after_more : (p : Plan) → All (λ (f : Flush). f.after ≤ p.held) p.flushes → All (λ (f : Flush). f.after ≤ p.held + 1) p.flushes
after_more p each k d lt = omega (arith, each k d lt)

-- behind a flush
module _ (p : Plan) (tag : ℕ) (flies : is_in_flight p tag ≡ true) (each : All (IsWithin p.held) p.marks)
    (after : All (λ (f : Flush). f.after ≤ p.held) p.flushes) where
  served : (flush_of p tag).after ≤ p.held
  served = after (flush_at p tag) _ (any_within (λ (f : Flush). nat_eq f.tag tag) p.flushes flies)

  pub reached_flushed : All (IsWithin p.held) (after_flushed p tag).marks
  reached_flushed =
      let f : Flush = flush_of p tag in
      let m : IsWithin p.held (marks_of p f.pv) = marks_reach p each f.pv in
      let most : f.after ≤ p.held = served in
      All-set (IsWithin p.held) p.marks f.pv
      (record (marks_of p f.pv) { ended = max (marks_of p f.pv).ended f.after; stable = max (marks_of p f.pv).stable f.after })
      (m.0, omega (arith, m.1), omega (arith, m.2, most)) each

  pub reached_lost : All (IsWithin p.held) (after_lost p tag).marks
  reached_lost =
      let f : Flush = flush_of p tag in
      let m : IsWithin p.held (marks_of p f.pv) = marks_reach p each f.pv in
      let most : f.after ≤ p.held = served in
      All-set (IsWithin p.held) p.marks f.pv (record (marks_of p f.pv) { ended = max (marks_of p f.pv).ended f.after })
      (m.0, omega (arith, m.1), omega (arith, m.2, most)) each
