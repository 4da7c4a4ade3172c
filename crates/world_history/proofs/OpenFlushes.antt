-- One flush of each disk is in flight at the most, where one is submitted while none is: step by step, and so at each moment.
use Rattle.std.proofs.Common.{◌≡◌, ◌≤◌, ℕ, zero, suc, ◌+◌, ◌-◌, Bool, true, false, cond, nat_eq, List, [], ◌∷◌, ◌++◌, length, take, drop}
use Rattle.std.proofs.Common.{Option, None, Some, option_map, refl, sym, ap, subst, ◌∙◌, arith, true≢false, length-append}
use Rattle.std.proofs.Math.Seq.{take-append_seam}
use Rattle.std.proofs.lemmas.Bool.{eq-eqb, eqb-true}
use Rattle.std.proofs.lemmas.List.{drop-append-le, length-drop}
use Rattle.std.proofs.lemmas.Option.{none-some, same_Some}
use Rattle.list_laws.proofs.Members.{in_list}
use Rattle.disk_model.specs.Calls.{Completes, Submits}
use Rattle.disk_model.specs.Operations.{work_of}
use Rattle.disk_model.specs.Record.{Operation}
use Rattle.disk_model.specs.State.{IsLawful, State}
use Rattle.disk_model.specs.Steps.{Completed, Flushing, Reading, Record, Step, Submitted, Work, Writing, step_on}
use Rattle.disk_model.specs.declared.ops.Done.{Done}
use Rattle.disk_model.specs.declared.ops.Op.{Op}
use Rattle.volume_history.specs.Chronicles.{Origin}
use Rattle.world_acts.specs.Owners.{in_flight_at}
use Rattle.world_acts.proofs.Known.{fresh_unknown, known_last, known_left, known_more}
use Rattle.world_history.specs.Contents.{origin_with}
use Rattle.world_history.specs.Flushing.{FlushesOneByOne, open_flushes}
use Rattle.world_history.proofs.Contents.Tagged.{tagged}

-- ---- one step

-- whether it flushes the disk
abbrev pub flushes : ℕ → Work → Bool
flushes pv (Flushing disk) = nat_eq disk pv
flushes pv work = false

pub flushes_is : (pv : ℕ) (work : Work) → flushes pv work ≡ true → work ≡ Flushing pv
flushes_is pv (Flushing disk) is = ap Flushing (eqb-true disk pv is)
flushes_is pv (Reading span) is = absurd (true≢false (sym is))
flushes_is pv (Writing span sectors) is = absurd (true≢false (sym is))

pub flushes_not : (pv : ℕ) (work : Work) → flushes pv work ≡ false → work ≡ Flushing pv → ⊥
flushes_not pv work not is = true≢false (sym (eq-eqb pv pv refl) ∙ ap (flushes pv) (sym is) ∙ not)

one_more : (pv tag : ℕ) (work : Work) (steps : List Step)
    → open_flushes pv (Submitted tag work ∷ steps) ≡ cond (flushes pv work) (open_flushes pv steps + 1) (open_flushes pv steps)
one_more pv tag (Flushing disk) steps = refl
one_more pv tag (Reading span) steps = refl
one_more pv tag (Writing span sectors) steps = refl

one_less : (pv tag : ℕ) (work : Work) (well : Bool) (fresh : List Bool) (steps : List Step)
    → open_flushes pv (Completed tag work well fresh ∷ steps)
    ≡ cond (flushes pv work) (open_flushes pv steps - 1) (open_flushes pv steps)
one_less pv tag (Flushing disk) well fresh steps = refl
one_less pv tag (Reading span) well fresh steps = refl
one_less pv tag (Writing span sectors) well fresh steps = refl

-- ---- what is kept of a shelf

-- no flush of the disk is in flight
abbrev pub IsUnflushed : State → ℕ → Type 0
IsUnflushed s pv = (tag : ℕ) → in_flight_at s.in_flight tag ≡ Some (Flushing pv) → ⊥

-- of the steps since the origin: they leave none of a disk of which none is in flight, and never left two of one
pub record LeaveOne (o : Origin) (s : State) (told : Record) : Type 0 where
  pub since : List Step
  pub is : told.steps ≡ since ++ o.told.steps
  pub none : (pv : ℕ) → IsUnflushed s pv → open_flushes pv since ≡ 0
  pub each : (k pv : ℕ) → open_flushes pv (drop k since) ≤ 1

abbrev pub ShelfLeavesOne : Origin → State → Type 0
ShelfLeavesOne o s = (told : Record) → s.told ≡ Some told → LeaveOne o s told

-- at the origin
none_left : (k pv : ℕ) → open_flushes pv (drop k []) ≤ 1
none_left zero pv = omega arith
none_left (suc k) pv = omega arith

pub leaves_none : (o : Origin) (s : State) → s.told ≡ Some o.told → ShelfLeavesOne o s
leaves_none o s is told is' = record {
  since = [];
  is = ap (λ (r : Record). r.steps) (same_Some told o.told (sym is' ∙ is));
  none = λ pv unflushed. refl;
  each = none_left;
}

-- where nothing is told, nor comes or goes
pub leaves_same : (o : Origin) (s t : State) → t.told ≡ s.told → t.in_flight ≡ s.in_flight → ShelfLeavesOne o s → ShelfLeavesOne o t
leaves_same o s t told flying h told' is =
    let k = h told' (sym told ∙ is) in
    record {
      since = k.since;
      is = k.is;
      none = λ pv unflushed. k.none pv (λ tag at. unflushed tag (ap (λ (ops : List Operation). in_flight_at ops tag) flying ∙ at));
      each = k.each;
    }

-- where a step is told, which keeps that
told_before : (step : Step) (before : Option Record) (told : Record) → option_map (step_on step) before ≡ Some told
    → (old : Record) × (before ≡ Some old) × (step_on step old ≡ told)
told_before step None told is = absurd (none-some told is)
told_before step (Some old) told is = (old, refl, same_Some (step_on step old) told is)

each_more : (step : Step) (since : List Step) → ((pv : ℕ) → open_flushes pv (step ∷ since) ≤ 1)
    → ((k pv : ℕ) → open_flushes pv (drop k since) ≤ 1) → (k pv : ℕ) → open_flushes pv (drop k (step ∷ since)) ≤ 1
each_more step since now before zero pv = now pv
each_more step since now before (suc k) pv = before k pv

-- of a disk, that the steps left one at the most, and none where none is in flight
abbrev LeavesOf : State → List Step → ℕ → Type 0
LeavesOf s since pv = (open_flushes pv since ≤ 1) × (IsUnflushed s pv → open_flushes pv since ≡ 0)

leaves_step : (o : Origin) (s t : State) (step : Step) → t.told ≡ option_map (step_on step) s.told
    → ((pv : ℕ) (since : List Step) → LeavesOf s since pv → LeavesOf t (step ∷ since) pv) → ShelfLeavesOne o s → ShelfLeavesOne o t
leaves_step o s t step via goes h told is =
    let b = told_before step s.told told (sym via ∙ is) in
    let k = h b.0 b.1 in
    let now : (pv : ℕ) → LeavesOf t (step ∷ k.since) pv = λ pv. goes pv k.since (k.each 0 pv, k.none pv) in
    subst (LeaveOne o t) b.2 (record {
      since = step ∷ k.since;
      is = ap (λ (l : List Step). step ∷ l) k.is;
      none = λ pv. (now pv).1;
      each = each_more step k.since (λ pv. (now pv).0) k.each;
    })

-- ---- an operation is submitted

module _ (o : Origin) (s t : State) (op : Op) (tag : ℕ) (lawful : IsLawful s) (submits : Submits s op tag t) where
  was_none : in_flight_at s.in_flight tag ≡ None
  was_none = fresh_unknown s tag lawful submits.fresh

  is_in : in_flight_at t.in_flight tag ≡ Some (work_of op)
  is_in = ap (λ (ops : List Operation). in_flight_at ops tag) submits.in_flight ∙ known_last s.in_flight tag (work_of op) was_none

  still_in : (q : ℕ) (work : Work) → in_flight_at s.in_flight q ≡ Some work → in_flight_at t.in_flight q ≡ Some work
  still_in q work at =
      elim (nat_eq tag q) as (λ b. nat_eq tag q ≡ b → in_flight_at t.in_flight q ≡ Some work) [
        | true ↦ λ same.
            absurd (none-some work (sym (subst (λ (n : ℕ). in_flight_at s.in_flight n ≡ None) (eqb-true tag q same) was_none) ∙ at))
        | false ↦ λ apart.
            ap (λ (ops : List Operation). in_flight_at ops q) submits.in_flight ∙ known_more s.in_flight tag (work_of op) q apart ∙ at
      ] refl

  -- where it is a flush, none of its disk was in flight
  pub leaves_submitted : ((pv : ℕ) → flushes pv (work_of op) ≡ true → IsUnflushed s pv) → ShelfLeavesOne o s → ShelfLeavesOne o t
  leaves_submitted free =
      leaves_step o s t (Submitted tag (work_of op)) submits.told (λ pv since old. by pv since old (flushes pv (work_of op)) refl)
    where
      by : (pv : ℕ) (since : List Step) → LeavesOf s since pv → (b : Bool) → flushes pv (work_of op) ≡ b
          → LeavesOf t (Submitted tag (work_of op) ∷ since) pv
      by pv since old true is =
          let more : open_flushes pv (Submitted tag (work_of op) ∷ since) ≡ open_flushes pv since + 1 =
          one_more pv tag (work_of op) since ∙ ap (λ (b : Bool). cond b (open_flushes pv since + 1) (open_flushes pv since)) is in
          let none = old.1 (free pv is) in (
            omega (arith, more, none),
            λ unflushed. absurd (unflushed tag (is_in ∙ ap Some (flushes_is pv (work_of op) is))),
          )
      by pv since old false is =
          let same : open_flushes pv (Submitted tag (work_of op) ∷ since) ≡ open_flushes pv since =
          one_more pv tag (work_of op) since ∙ ap (λ (b : Bool). cond b (open_flushes pv since + 1) (open_flushes pv since)) is in
          (omega (arith, same, old.0), λ unflushed. same ∙ old.1 (λ q at. unflushed q (still_in q (Flushing pv) at)))

-- ---- an operation completes

module _ (o : Origin) (s t : State) (done : Done) (lawful : IsLawful s) (completes : Completes s done t) where
  was_in : in_flight_at s.in_flight done.tag ≡ Some (work_of done.op)
  was_in =
      tagged s.in_flight (record { tag = done.tag; work = work_of done.op }) lawful.order (in_list s.in_flight _ completes.was)

  -- another is in flight still
  other_in : (q : ℕ) (work : Work) → (work_of done.op ≡ work → ⊥) → in_flight_at s.in_flight q ≡ Some work
      → in_flight_at t.in_flight q ≡ Some work
  other_in q work other at =
      elim (nat_eq done.tag q) as (λ b. nat_eq done.tag q ≡ b → in_flight_at t.in_flight q ≡ Some work) [
        | true ↦ λ same.
            absurd (other (same_Some (work_of done.op) work
            (sym was_in ∙ ap (in_flight_at s.in_flight) (eqb-true done.tag q same) ∙ at)))
        | false ↦ λ apart.
            ap (λ (ops : List Operation). in_flight_at ops q) completes.in_flight ∙ known_left s.in_flight done.tag q apart ∙ at
      ] refl

  pub leaves_completed : ShelfLeavesOne o s → ShelfLeavesOne o t
  leaves_completed =
      leaves_step o s t (Completed done.tag (work_of done.op) done.well completes.told.0) completes.told.1
      (λ pv since old. by pv since old (flushes pv (work_of done.op)) refl)
    where
      by : (pv : ℕ) (since : List Step) → LeavesOf s since pv → (b : Bool) → flushes pv (work_of done.op) ≡ b
          → LeavesOf t (Completed done.tag (work_of done.op) done.well completes.told.0 ∷ since) pv
      by pv since old true is =
          let less : open_flushes pv (Completed done.tag (work_of done.op) done.well completes.told.0 ∷ since)
          ≡ open_flushes pv since - 1 =
          one_less pv done.tag (work_of done.op) done.well completes.told.0 since
          ∙ ap (λ (b : Bool). cond b (open_flushes pv since - 1) (open_flushes pv since)) is in
          (omega (arith, less, old.0), λ unflushed. omega (arith, less, old.0))
      by pv since old false is =
          let same : open_flushes pv (Completed done.tag (work_of done.op) done.well completes.told.0 ∷ since) ≡ open_flushes pv since =
          one_less pv done.tag (work_of done.op) done.well completes.told.0 since
          ∙ ap (λ (b : Bool). cond b (open_flushes pv since - 1) (open_flushes pv since)) is in (
            omega (arith, same, old.0),
            λ unflushed. same
                ∙ old.1 (λ q at. unflushed q (other_in q (Flushing pv) (flushes_not pv (work_of done.op) is) at)),
          )

-- ---- at each moment

-- the steps from the start to a moment are some of those since
cut : (since old : List Step) (start m : ℕ) → start ≡ length old → start ≤ m → m ≤ length (since ++ old)
    → take (m - start) (drop (length (since ++ old) - m) (since ++ old)) ≡ drop (length (since ++ old) - m) since
cut since old start m starts from until =
    let many : length (since ++ old) ≡ length since + length old = length-append since old in
    let k : ℕ = length (since ++ old) - m in
    let few : k ≤ length since = omega (arith, many, starts, from) in
    let left : length (drop k since) ≡ length since - k = length-drop k since in
    let long : m - start ≡ length (drop k since) = omega (arith, many, starts, from, until, left) in
    ap (take (m - start)) (drop-append-le k since old few)
    ∙ ap (λ (n : ℕ). take n (drop k since ++ old)) long ∙ take-append_seam (drop k since) old

pub leaves_one : (o : Origin) (s : State) (told : Record) → o.start ≡ length o.told.steps → LeaveOne o s told
    → FlushesOneByOne (origin_with o told)
leaves_one o s told starts h pv m from =
    subst (λ (l : List Step). m ≤ length l → open_flushes pv (take (m - o.start) (drop (length l - m) l)) ≤ 1) (sym h.is)
    (λ until. subst (λ (l : List Step). open_flushes pv l ≤ 1) (sym (cut h.since o.told.steps o.start m starts from until))
    (h.each (length (h.since ++ o.told.steps) - m) pv))
