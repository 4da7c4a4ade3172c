-- What a row in memory reads off its record about holds is what the contracts say of the record.
use Rattle.std.proofs.Common.{◌≡◌, ◌≢◌, ◌<◌, ◌↔◌, ℕ, nat_le, nat_lt, IsTrue, Bool, true, false, not, ◌&&◌, ◌||◌, if◌then◌else◌, cond}
use Rattle.std.proofs.Common.{List, [], ◌∷◌, length, map, filter, ⊎_elim, refl, sym, ap, subst, arith, ◌∙◌}
use Rattle.std.specs.List.{list_any}
use Rattle.std.proofs.Math.Bool.{or-false}
use Rattle.std.proofs.Math.Path.{fun_ext}
use Rattle.std.proofs.lemmas.Bool.Decides.{leb_tells}
use Rattle.std.proofs.lemmas.List.{length-map}
use Rattle.std.proofs.lemmas.Simd.{map-map}
use Rattle.disk_model.specs.Brought.{writes}
use Rattle.disk_model.specs.Record.{Operation}
use Rattle.disk_model.specs.State.{tags_of}
use Rattle.disk_model.specs.Steps.{Work, Step}
use Rattle.dev_shelf.specs.declared.plan.Hold.{Hold}
use Rattle.dev_shelf.specs.declared.mem_shelf.disk_row.DiskRow.{DiskRow}
use Rattle.dev_shelf.specs.declared.mem_shelf.holding.Holding.{Holding}
use Rattle.dev_shelf.specs.declared.mem_shelf.recorded.RecordedOp.{RecordedOp}
use Rattle.dev_shelf.specs.declared.mem_shelf.recorded.RecordedWork.{RecordedWork}
use Rattle.dev_shelf.specs.declared.mem_shelf.recorded.RecordedWork.TheVariants.{Reads, Writes, Flushes}
use Rattle.dev_shelf.specs.declared.mem_shelf.recorded.RecordedStep.{RecordedStep}
use Rattle.dev_shelf.specs.declared.mem_shelf.recorded.RecordedStep.TheVariants.{Began, Ended}
use Rattle.dev_shelf.specs.DiskRow.{operation_at, state_of, step_at, steps_of, steps_onto, work_at}
use Rattle.dev_shelf.specs.DiskRowInvariant.{IsGood}
use Rattle.dev_shelf.specs.Plan.{PlanLeft, done_well, flushes, has_come, keeps_back, is_held}
use Rattle.dev_shelf.specs.RowHolds.{has_come_at, is_flush_of, is_flush_after, is_flushed_write, is_kept_at, is_held_at, ready_at}
use Rattle.dev_shelf.specs.RowValues.{is_written}

or_swap : (a b c : Bool) → (a || (b || c)) ≡ ((b || a) || c)
or_swap true true c = refl
or_swap true false c = refl
or_swap false true c = refl
or_swap false false c = refl

-- whether it is a write of the sector, or a flush of the disk
written_same : (written : List (List ℕ)) (work : RecordedWork) (pv sector : ℕ)
    → writes (work_at written work) pv sector ≡ is_written work pv sector
written_same written (Reads span) pv sector = refl
written_same written (Writes span from) pv sector = refl
written_same written (Flushes disk) pv sector = refl

flush_same : (written : List (List ℕ)) (work : RecordedWork) (pv : ℕ) → flushes pv (work_at written work) ≡ is_flush_of pv work
flush_same written (Reads span) pv = refl
flush_same written (Writes span from) pv = refl
flush_same written (Flushes disk) pv = refl

-- a test of those that completed well, step by step
module _ (written : List (List ℕ)) (kind : Work → Bool) (q : ℕ → Bool) (one : RecordedStep → Bool)
    (step : (r : RecordedStep) (earlier : List Step)
    → list_any q (done_well kind (step_at written r ∷ earlier)) ≡ (one r || list_any q (done_well kind earlier))) where
  done_onto : (earlier : List Step) (rs : List RecordedStep)
      → list_any q (done_well kind (steps_onto written earlier rs)) ≡ (list_any one rs || list_any q (done_well kind earlier))
  done_onto earlier [] = refl
  done_onto earlier (r ∷ rs) =
      done_onto (step_at written r ∷ earlier) rs
      ∙ ap (λ (b : Bool). list_any one rs || b) (step r earlier)
      ∙ or_swap (list_any one rs) (one r) (list_any q (done_well kind earlier))

  done_all : (rs : List RecordedStep) → list_any q (done_well kind (steps_onto written [] rs)) ≡ list_any one rs
  done_all rs = done_onto [] rs ∙ or-false (list_any one rs)

any_if : (b : Bool) (q : ℕ → Bool) (tag : ℕ) (tags : List ℕ)
    → list_any q (if b then tag ∷ tags else tags) ≡ ((b && q tag) || list_any q tags)
any_if true q tag tags = refl
any_if false q tag tags = refl

module _ (written : List (List ℕ)) (pv tag : ℕ) where
  abbrev after : ℕ → Bool
  after flush = nat_lt tag flush

  flush_step : (r : RecordedStep) (earlier : List Step)
      → list_any after (done_well (flushes pv) (step_at written r ∷ earlier))
      ≡ (is_flush_after pv tag r || list_any after (done_well (flushes pv) earlier))
  flush_step (Began flush work) earlier = refl
  flush_step (Ended flush work true fresh) earlier =
      any_if (flushes pv (work_at written work)) after flush (done_well (flushes pv) earlier)
      ∙ ap (λ (b : Bool). (b && after flush) || list_any after (done_well (flushes pv) earlier)) (flush_same written work pv)
  flush_step (Ended flush work false fresh) earlier = refl

  flush_all : (rs : List RecordedStep) → list_any after (done_well (flushes pv) (steps_onto written [] rs))
      ≡ list_any (is_flush_after pv tag) rs
  flush_all rs = done_all written (flushes pv) after (is_flush_after pv tag) flush_step rs

module _ (written : List (List ℕ)) (all : List RecordedStep) (hold : Hold) where
  abbrev wrote : Work → Bool
  wrote work = writes work hold.until_pv hold.until

  abbrev flushed : ℕ → Bool
  flushed write = list_any (λ flush. nat_lt write flush) (done_well (flushes hold.until_pv) (steps_onto written [] all))

  write_step : (r : RecordedStep) (earlier : List Step)
      → list_any flushed (done_well wrote (step_at written r ∷ earlier))
      ≡ (is_flushed_write all hold r || list_any flushed (done_well wrote earlier))
  write_step (Began tag work) earlier = refl
  write_step (Ended tag work true fresh) earlier =
      let rest : Bool = list_any flushed (done_well wrote earlier) in
      any_if (wrote (work_at written work)) flushed tag (done_well wrote earlier)
      ∙ ap (λ (b : Bool). (b && flushed tag) || rest) (written_same written work hold.until_pv hold.until)
      ∙ ap (λ (b : Bool). (is_written work hold.until_pv hold.until && b) || rest) (flush_all written hold.until_pv tag all)
  write_step (Ended tag work false fresh) earlier = refl

  come_same : has_come (steps_onto written [] all) hold ≡ has_come_at all hold
  come_same = done_all written wrote flushed (is_flushed_write all hold) write_step all

  kept_same : (op : RecordedOp) → keeps_back (steps_onto written [] all) (operation_at written op) hold ≡ is_kept_at all op.work hold
  kept_same op =
      ap (λ (b : Bool). b && not (has_come (steps_onto written [] all) hold)) (written_same written op.work hold.pv hold.sector)
      ∙ ap (λ (b : Bool). is_written op.work hold.pv hold.sector && not b) come_same

-- whether an operation is held
pub held_same : (plan : PlanLeft) (holding : Holding) (row : DiskRow) → plan.holds ≡ holding.holds.items → plan.let_go ≡ holding.let_go
    → (op : RecordedOp)
    → is_held plan (steps_of row) (operation_at row.written.items op) ≡ is_held_at holding row.steps.items op
held_same plan holding row holds let_go op =
    let kept : keeps_back (steps_of row) (operation_at row.written.items op) ≡ is_kept_at row.steps.items op.work =
    fun_ext (λ (hold : Hold). kept_same row.written.items row.steps.items hold op) in
    ap (λ (n : ℕ). nat_le n op.tag && list_any (keeps_back (steps_of row) (operation_at row.written.items op)) plan.holds) let_go
    ∙ ap (λ (l : List Hold). nat_le holding.let_go op.tag && list_any (keeps_back (steps_of row) (operation_at row.written.items op)) l)
    holds
    ∙ ap (λ (k : Hold → Bool). nat_le holding.let_go op.tag && list_any k holding.holds.items) kept

-- a filter of what a list is made to
filter_made : {X Y : Type 0} (p : Y → Bool) (f : X → Y) (xs : List X) → filter p (map f xs) ≡ map f (filter (λ x. p (f x)) xs)
filter_made p f [] = refl
filter_made p f (x ∷ xs) = made_either (p (f x)) f x (filter p (map f xs)) (filter (λ x. p (f x)) xs) (filter_made p f xs)
  where
    made_either : {X Y : Type 0} (b : Bool) (f : X → Y) (x : X) (ys : List Y) (xs : List X) → ys ≡ map f xs
        → cond b (f x ∷ ys) ys ≡ map f (cond b (x ∷ xs) xs)
    made_either {X} {Y} true f x ys xs h = ap (λ (l : List Y). f x ∷ l) h
    made_either false f x ys xs h = h

-- the operations in flight that are ready
pub ready_same : (plan : PlanLeft) (holding : Holding) (row : DiskRow) → plan.holds ≡ holding.holds.items → plan.let_go ≡ holding.let_go
    → IsGood row
    → tags_of (filter (λ o. not (is_held plan (steps_of row) o)) (state_of row).in_flight)
    ≡ map (λ (op : RecordedOp). op.tag) (ready_at holding row)
ready_same plan holding row holds let_go good =
    let p : Operation → Bool = λ o. not (is_held plan (steps_of row) o) in
    let make : RecordedOp → Operation = operation_at row.written.items in
    let tag : Operation → ℕ = λ o. o.tag in
    let tests : (λ (op : RecordedOp). p (make op)) ≡ (λ (op : RecordedOp). not (is_held_at holding row.steps.items op)) =
    fun_ext (λ (op : RecordedOp). ap (λ (b : Bool). not b) (held_same plan holding row holds let_go op)) in
    ap (λ (l : List Operation). tags_of (filter p l)) (sym good.recorded)
    ∙ ap (λ (l : List Operation). tags_of l) (filter_made p make row.in_flight.items)
    ∙ map-map tag make (filter (λ op. p (make op)) row.in_flight.items)
    ∙ ap (λ (t : RecordedOp → Bool). map (λ (op : RecordedOp). op.tag) (filter t row.in_flight.items)) tests

-- how many are, and whether one is
pub ready_many : (plan : PlanLeft) (holding : Holding) (row : DiskRow) (n : ℕ) → plan.holds ≡ holding.holds.items
    → plan.let_go ≡ holding.let_go → IsGood row → n ≡ length (ready_at holding row)
    → n ≡ length (tags_of (filter (λ o. not (is_held plan (steps_of row) o)) (state_of row).in_flight))
ready_many plan holding row n holds let_go good many =
    many
    ∙ sym (length-map (ready_at holding row) (λ (op : RecordedOp). op.tag))
    ∙ ap (λ (l : List ℕ). length l) (sym (ready_same plan holding row holds let_go good))

pub has_some : (n : ℕ) (tags : List ℕ) → n ≡ length tags → IsTrue (nat_lt 0 n) ↔ (tags ≢ [])
has_some n [] e =
    (λ some. absurd (let none : false ≡ true = subst (λ (m : ℕ). IsTrue (nat_lt 0 m)) e some in cc), λ some. absurd (some refl))
has_some n (tag ∷ tags) e =
    (λ some none. cc, λ some. ⊎_elim (λ is. is.0) (λ isnt. absurd (let lt : n < 1 = isnt.1 in omega (arith, e))) (leb_tells 1 n))

pub positive : (n : ℕ) (tags : List ℕ) → n ≡ length tags → tags ≢ [] → 0 < n
positive n [] e some = absurd (some refl)
positive n (tag ∷ tags) e some = omega (arith, e)

-- and all that are in flight
pub tags_same : (row : DiskRow) → IsGood row → tags_of (state_of row).in_flight ≡ map (λ (op : RecordedOp). op.tag) row.in_flight.items
tags_same row good =
    let tag : Operation → ℕ = λ o. o.tag in
    ap (λ (l : List Operation). tags_of l) (sym good.recorded) ∙ map-map tag (operation_at row.written.items) row.in_flight.items
