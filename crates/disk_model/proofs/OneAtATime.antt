-- What is told after operations that were carried out one at a time.
use Rattle.std.proofs.Common.{◌≡◌, ℕ, Bool, true, IsTrue, List, [], Option, Some, IfSome, option_map, refl, sym, ap, subst, ◌∙◌}
use Rattle.sector_base.specs.declared.spans.Span.{Span}
use Rattle.sector_base.specs.Spans.{covers}
use Rattle.disk_model.specs.declared.ops.Op.{Op}
use Rattle.disk_model.specs.declared.ops.Done.{Done}
use Rattle.disk_model.specs.Steps.{Writing, Flushing, Submitted, Completed, Record, value_at, step_on}
use Rattle.disk_model.specs.Record.{in_flight_after}
use Rattle.disk_model.specs.Operations.{work_of}
use Rattle.disk_model.specs.State.{State, IsLawful}
use Rattle.disk_model.specs.CarriesOut.{CarriesOut, with_operation}
use Rattle.disk_model.specs.Since.{BetweenRecords}
use Rattle.disk_model.specs.Durability.{OnlyLeaves, OnlyLeavesOrCompleted, OnlyLeavesOrOvertaken}
use Rattle.disk_model.proofs.WritesInFlight.{idle_completed}
use Rattle.disk_model.proofs.Durable.{new_write, write_completes, flush_submitted, flush_completes}

-- two steps more are told
pub operation_told : (old : State) (op : Op) (done : Done) (new : State) (t : Record) → CarriesOut old op done new → old.told ≡ Some t
    → (fresh : List Bool) × (new.told ≡ Some (with_operation done.tag (work_of op) done.well fresh t))
operation_told old op done new t ran e =
    (ran.told.0, ran.told.1 ∙ ap (option_map (with_operation done.tag (work_of op) done.well ran.told.0)) e)

-- what holds of every such two steps holds between what is told before and after
pub told_by_operation : (old : State) (op : Op) (done : Done) (new : State) (R : Record → Record → Type 0) → CarriesOut old op done new
    → ((t : Record) (fresh : List Bool) → R t (with_operation done.tag (work_of op) done.well fresh t)) → BetweenRecords R old.told new.told
told_by_operation old op done new R c make t e = let f = operation_told old op done new t c e in (_, f.1, make t f.0)

-- where nothing is in flight, nothing is by what is told
pub idle_told : (state : State) (t : Record) → IsLawful state → state.in_flight ≡ [] → state.told ≡ Some t → in_flight_after t.steps ≡ []
idle_told state t lawful idle e =
    let P : Option Record → Type 0 = λ o. IfSome o (λ told. state.in_flight ≡ in_flight_after told.steps) in
    let h : state.in_flight ≡ in_flight_after t.steps = subst P e lawful.in_flight in
    sym h ∙ idle

-- after a write and a flush of its disk, both well, where nothing else was in flight, each sector has the written value
pub acknowledged : (t : Record) (tag tag' : ℕ) (span : Span) (sectors : List (List ℕ)) (fresh fresh' : List Bool)
    → in_flight_after t.steps ≡ [] → (sector : ℕ) → IsTrue (covers span span.pv sector)
    → OnlyLeaves (with_operation tag' (Flushing span.pv) true fresh' (with_operation tag (Writing span sectors) true fresh t)) span.pv
    sector (λ v. v ≡ value_at span sectors sector)
acknowledged t tag tag' span sectors fresh fresh' idle sector inside =
    let Q : List ℕ → Type 0 = λ v. v ≡ value_at span sectors sector in
    let work = Writing span sectors in
    let t1 = step_on (Submitted tag work) t in
    let done : OnlyLeavesOrCompleted t1 span.pv sector Q =
    new_write t span.pv sector tag span sectors Q (idle_completed t span.pv sector Q idle) refl in
    let overtaken : OnlyLeavesOrOvertaken (step_on (Completed tag work true fresh) t1) span.pv sector Q =
    write_completes t1 span.pv sector tag work fresh Q inside done in
    flush_completes _ span.pv sector tag' fresh' Q (flush_submitted _ span.pv sector tag' Q overtaken)
