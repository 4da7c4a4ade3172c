-- What a batch uses up of a shelf, and what holds as a record grows.
use Rattle.std.proofs.Common.{◌≡◌, ◌≤◌, ◌<◌, ℕ, ◌+◌, ◌-◌, drop, Bool, cond, List, [], ◌∷◌, ◌++◌, length, map, sum_by, refl, sym, ap}
use Rattle.std.proofs.Common.{subst, ◌∙◌, arith, length-append, ◌*◌}
use Rattle.std.proofs.lemmas.List.{length-map}
use Rattle.std.proofs.lemmas.List.Sums.{sum_by-append}
use Rattle.sector_base.specs.declared.spans.Span.{Span}
use Rattle.disk_model.specs.declared.ops.Done.{Done}
use Rattle.disk_model.specs.Steps.{Work, Flushing, Step, Record, sectors_of_work}
use Rattle.disk_model.specs.Record.{Operation}
use Rattle.disk_model.specs.Calls.{Completes}
use Rattle.disk_model.specs.State.{State}
use Rattle.disk_model.proofs.EveryMoment.{drop_newer}
use Rattle.disk_batch.specs.declared.batching.Batching.{Batching}
use Rattle.disk_batch.specs.declared.batching.BatchStep.{BatchStep}
use Rattle.disk_batch.specs.declared.batching.BatchStep.TheVariants.{Going, Well, Lost}
use Rattle.disk_batch.specs.Views.{View, Turn, Waits, Writes, Flushes, IsWell, IsLost, sectors_to_come, to_come, turn_of}
use Rattle.disk_batch.specs.Writes.{write_work, span_count}
use Rattle.disk_batch.specs.Submits.{put_operation}
use Rattle.disk_batch.specs.Batches.{Starts, StartsWrites, Follows, view_of, after_done}
use Rattle.disk_batch.specs.Alone.{Turns, sectors_ahead, steps_to_come}
use Rattle.disk_batch.proofs.Calling.{IsTurn, is_turn}
use Rattle.disk_batch.proofs.Fitting.{next_uses}
use Rattle.disk_model.specs.Submitting.{works_of}
use Rattle.disk_model.specs.Moments.{Throughout}

-- what a batch has used up so far, with the submissions to come, and how many steps it takes, none of them taken back
pub record WorksOn (old : State) (ops sectors to_submit sectors_to_submit : ℕ) (new : State) : Type 0 where
  pub sizes : new.sizes ≡ old.sizes
  pub spare_ops : old.spare_ops + to_submit ≤ new.spare_ops + ops
  pub spare_sectors : old.spare_sectors + sectors_to_submit ≤ new.spare_sectors + sectors
  pub steps : new.steps + length new.in_flight + 2 * to_submit ≤ old.steps + length old.in_flight + 2 * ops
  pub later : old.steps ≤ new.steps

-- what held throughout a part of a record does so when the record has grown
pub throughout_grown : (told : Record) (newer : List Step) (from until : ℕ) (P : Record → Type 0) → until ≤ length told.steps
    → Throughout from until told P → Throughout from until (record { opened = told.opened; steps = newer ++ told.steps }) P
throughout_grown told newer from until P le so_far moment ge upto =
    let e : length (newer ++ told.steps) - moment ≡ length newer + (length told.steps - moment) =
    omega (arith, length-append newer told.steps) in
    let s : drop (length (newer ++ told.steps) - moment) (newer ++ told.steps) ≡ drop (length told.steps - moment) told.steps =
    ap (λ (k : ℕ). drop k (newer ++ told.steps)) e ∙ drop_newer newer told.steps (length told.steps - moment) in
    subst (λ (l : List Step). P (record { opened = told.opened; steps = l })) (sym s) (so_far moment ge upto)

-- flushes use up no sector
flushes_no_sectors : (os : List Operation) (disks : List ℕ) → works_of os ≡ map Flushing disks
    → sum_by (λ (o : Operation). sectors_of_work o.work) os ≡ 0
flushes_no_sectors [] disks e = refl
flushes_no_sectors (o ∷ os) [] e = cc
flushes_no_sectors (o ∷ os) (d ∷ disks) e =
    let work : o.work ≡ Flushing d = cc in
    let rest : works_of os ≡ map Flushing disks = cc in
    let f : Operation → ℕ = λ p. sectors_of_work p.work in
    let one : sum_by f (o ∷ []) ≡ 0 = let z : f o ≡ 0 = ap sectors_of_work work in omega arith in
    let all : sum_by f ((o ∷ []) ++ os) ≡ sum_by f (o ∷ []) + sum_by f os = sum_by-append f (o ∷ []) os in
    omega (arith, all, one, flushes_no_sectors os disks rest)

-- writes use up theirs
writes_sectors : (os : List Operation) (puts : List (Span × List (List ℕ))) → works_of os ≡ map write_work puts
    → sum_by (λ (o : Operation). sectors_of_work o.work) os ≡ sum_by span_count puts
writes_sectors [] [] e = refl
writes_sectors [] (p ∷ puts) e = cc
writes_sectors (o ∷ os) [] e = cc
writes_sectors (o ∷ os) (p ∷ puts) e =
    let work : o.work ≡ write_work p = cc in
    let rest : works_of os ≡ map write_work puts = cc in
    let f : Operation → ℕ = λ q. sectors_of_work q.work in
    let one : sum_by f (o ∷ []) ≡ sum_by span_count (p ∷ []) = let z : f o ≡ span_count p = ap sectors_of_work work in omega arith in
    let all : sum_by f ((o ∷ []) ++ os) ≡ sum_by f (o ∷ []) + sum_by f os = sum_by-append f (o ∷ []) os in
    let all' : sum_by span_count ((p ∷ []) ++ puts) ≡ sum_by span_count (p ∷ []) + sum_by span_count puts =
    sum_by-append span_count (p ∷ []) puts in
    omega (arith, all, all', one, writes_sectors os puts rest)

-- the start
pub starts_works : (old new : State) (puts : List (Span × List (List ℕ))) (disks : List ℕ) (batching : Batching)
    → StartsWrites old puts disks (view_of batching) new
    → WorksOn old (length puts + length disks) (sum_by span_count puts) (steps_to_come (Going batching)) (sectors_ahead (Going batching))
    new
starts_works old new puts disks batching starts =
    let s = starts.works.submits in
    let os = starts.works.os in
    let rest = (view_of batching).rest in
    let many : length os ≡ length starts.first =
    sym (length-map os (λ (o : Operation). o.work)) ∙ ap (λ (l : List Work). length l) starts.works.works_are
    ∙ length-map starts.first write_work in
    let all : length puts ≡ length starts.first + length rest =
    ap (λ (l : List (Span × List (List ℕ))). length l) starts.parts ∙ length-append starts.first rest in
    let sectors : sum_by span_count puts ≡ sum_by span_count starts.first + sum_by span_count rest =
    ap (λ (l : List (Span × List (List ℕ))). sum_by span_count l) starts.parts ∙ sum_by-append span_count starts.first rest in
    let come : to_come (view_of batching) ≡ length rest + length disks = ap to_come starts.view_is in
    let inflight : length new.in_flight ≡ length old.in_flight + length os =
    ap (λ (l : List Operation). length l) s.in_flight ∙ length-append old.in_flight os in
    record {
      sizes = s.sizes;
      spare_ops = omega (arith, s.spare_ops);
      spare_sectors = omega (arith, s.spare_sectors, writes_sectors os starts.first starts.works.works_are);
      steps = omega (arith, s.steps, inflight);
      later = omega (arith, s.steps);
    }

pub alone_works : (old new : State) (disks : List ℕ) (batching : Batching) (puts : List (Span × List (List ℕ))) → 0 < length puts
    → Starts old puts disks (view_of batching) new
    → WorksOn old (length puts + length disks) (sum_by span_count puts) (steps_to_come (Going batching)) (sectors_ahead (Going batching))
    new
alone_works old new disks batching [] some starts = absurd (omega arith)
alone_works old new disks batching (put ∷ puts) some starts = starts_works old new (put ∷ puts) disks batching starts

-- what a batch does at a completion
follows_works : (mid new : State) (view : View) (turn : Turn) (step : BatchStep) → IsTurn view turn → Follows mid view turn step new
    → WorksOn mid (to_come view) (sectors_to_come view) (steps_to_come step) (sectors_ahead step) new
follows_works mid new view Waits (Going next) is f =
    subst (λ (s : State). WorksOn mid (to_come view) (sectors_to_come view) (to_come (view_of next)) (sectors_to_come (view_of next)) s)
    (sym f.0)
    (let e : to_come (view_of next) ≡ to_come view = ap to_come f.1 in
    let d : sectors_to_come (view_of next) ≡ sectors_to_come view = ap sectors_to_come f.1 in
    record { sizes = refl; spare_ops = omega arith; spare_sectors = omega arith; steps = omega arith; later = omega arith })
follows_works mid new view Writes (Going next) is f =
    let s = f.submits in
    let o : Operation = put_operation f.tag f.put in
    let u = next_uses view (view_of next) f.put f.puts (view.tags ++ f.tag ∷ []) f.next_is f.view_is in
    let inflight : length new.in_flight ≡ length mid.in_flight + 1 =
    ap (λ (l : List Operation). length l) s.in_flight ∙ length-append mid.in_flight (o ∷ []) in
    let one : sum_by (λ (p : Operation). sectors_of_work p.work) (o ∷ []) ≡ span_count f.put =
    let z : sectors_of_work o.work ≡ span_count f.put = refl in omega (arith, z) in
    record {
      sizes = s.sizes;
      spare_ops = omega (arith, s.spare_ops, u.ops);
      spare_sectors = omega (arith, s.spare_sectors, one, u.sectors);
      steps = omega (arith, s.steps, inflight, u.ops);
      later = omega (arith, s.steps);
    }
follows_works mid new view Flushes (Going next) is f =
    let s = f.0.submits in
    let os : length f.0.os ≡ length view.flush =
    sym (length-map f.0.os (λ (o : Operation). o.work)) ∙ ap (λ (l : List Work). length l) f.0.works_are
    ∙ length-map view.flush Flushing in
    let inflight : length new.in_flight ≡ length mid.in_flight + length f.0.os =
    ap (λ (l : List Operation). length l) s.in_flight ∙ length-append mid.in_flight f.0.os in
    let none : length view.rest ≡ 0 = ap (λ (l : List (Span × List (List ℕ))). length l) is.3 in
    let b : to_come (view_of next) ≡ length view.rest = ap to_come f.1 ∙ plus_none (length view.rest) in
    let c : sectors_to_come (view_of next) ≡ sectors_to_come view = ap sectors_to_come f.1 in
    let d : to_come view ≡ length view.rest + length view.flush = ap (λ (w : Bool). length view.rest + cond w 0 (length view.flush)) is.1 in
    record {
      sizes = s.sizes;
      spare_ops = omega (arith, s.spare_ops);
      spare_sectors = omega (arith, s.spare_sectors, flushes_no_sectors f.0.os view.flush f.0.works_are);
      steps = omega (arith, s.steps, inflight);
      later = omega (arith, s.steps);
    }
  where
    plus_none : (n : ℕ) → n + 0 ≡ n
    plus_none n = omega arith
follows_works mid new view IsWell Well is f =
    subst (λ (s : State). WorksOn mid (to_come view) (sectors_to_come view) 0 0 s) (sym f)
    (record { sizes = refl; spare_ops = omega arith; spare_sectors = omega arith; steps = omega arith; later = omega arith })
follows_works mid new view (IsLost pv) (Lost pv') is f =
    subst (λ (s : State). WorksOn mid (to_come view) (sectors_to_come view) 0 0 s) (sym f.0)
    (record { sizes = refl; spare_ops = omega arith; spare_sectors = omega arith; steps = omega arith; later = omega arith })
follows_works mid new view turn step is f = absurd f

pub turns_works : (old before mid new : State) (ops sectors : ℕ) (step next : BatchStep) (done : Done) → Completes before done mid
    → Turns mid step done next new → WorksOn old ops sectors (steps_to_come step) (sectors_ahead step) before
    → WorksOn old ops sectors (steps_to_come next) (sectors_ahead next) new
turns_works old before mid new ops sectors (Going b) next done completes goes works =
    let after : View = after_done (view_of b) done in
    let f = follows_works mid new after (turn_of after) next (is_turn after) goes in
    record {
      sizes = f.sizes ∙ completes.sizes ∙ works.sizes;
      spare_ops = omega (arith, f.spare_ops, completes.spare_ops, works.spare_ops);
      spare_sectors = omega (arith, f.spare_sectors, completes.spare_sectors, works.spare_sectors);
      steps = omega (arith, f.steps, completes.steps, completes.fewer, works.steps);
      later = omega (arith, f.later, completes.steps, works.later);
    }
turns_works old before mid new ops sectors Well next done completes goes works = absurd goes
turns_works old before mid new ops sectors (Lost pv) next done completes goes works = absurd goes
