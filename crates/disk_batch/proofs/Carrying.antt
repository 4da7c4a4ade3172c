-- What a batch that is carried out alone has done to the record, step by step.
use Rattle.disk_batch.specs.declared.batching.Batching.{Batching}
use Rattle.std.proofs.lemmas.List.{append-nil, map-append}
use Rattle.std.proofs.Common.{◌≡◌, ◌≤◌, ◌⊎◌, ℕ, Bool, true, false, ◌==◌, IsTrue, List, [], ◌∷◌, ◌++◌, length, map, filter, All, Option}
use Rattle.std.proofs.Common.{Some, None, option_map, inl, inr, ⊎_elim, refl, sym, ap, subst, ◌∙◌, arith, append_assoc, ◌<◌, not}
use Rattle.std.specs.List.{list_any}
use Rattle.sector_base.specs.declared.spans.Span.{Span}
use Rattle.disk_model.specs.declared.ops.Done.{Done}
use Rattle.disk_model.specs.Steps.{Work, Reading, Writing, Flushing, Step, Submitted, Completed, Record, step_on, steps_on, now_after}
use Rattle.disk_model.specs.Record.{Operation, IsIn, in_flight_after, IsRecord, IsNewTag}
use Rattle.disk_model.specs.Operations.{work_of, disk_of}
use Rattle.disk_model.specs.Calls.{Completes}
use Rattle.disk_model.specs.State.{State, IsLawful, tags_of}
use Rattle.disk_model.specs.Durability.{AllLeave}
use Rattle.disk_model.specs.Moments.{Throughout}
use Rattle.disk_model.specs.InFlight.{IsAmong}
use Rattle.disk_model.specs.Order.{HasFlushed, WritesNothing}
use Rattle.disk_model.specs.Since.{BetweenRecords, writes_submitted, spans_read}
use Rattle.disk_model.specs.Submitting.{BringAt, submitted_on, works_of, writes_at}
use Rattle.disk_model.proofs.Durable.{only_leaves_on}
use Rattle.disk_model.proofs.EachMoment.{leaves_throughout, throughout_now, throughout_step}
use Rattle.disk_model.proofs.InFlight.{found_in, in_flight_older, tags_left}
use Rattle.disk_model.proofs.StepsSince.{steps_joined, writes_submitted-append, spans_read-append}
use Rattle.disk_model.proofs.Ordered.{writes_nothing_append}
use Rattle.disk_model.proofs.WhereTold.{told_at}
use Rattle.disk_batch.specs.declared.batching.BatchStep.{BatchStep}
use Rattle.disk_batch.specs.declared.batching.BatchStep.TheVariants.{Going, Well, Lost}
use Rattle.disk_batch.specs.Views.{View, Turn, Waits, Writes, Flushes, IsWell, IsLost, turn_of, done_on}
use Rattle.disk_batch.specs.Submits.{put_operation}
use Rattle.disk_batch.specs.Writes.{IsWrittenBy, write_work}
use Rattle.disk_batch.specs.Batches.{Starts, Follows, view_of, after_done}
use Rattle.disk_batch.specs.Rounds.{BatchHolds, WriteTargets}
use Rattle.disk_batch.specs.Flushed.{HasFlushedSince, FlushesSince}
use Rattle.disk_batch.specs.WriteAll.{CanLeave, FlushesLast, WritesAll}
use Rattle.disk_batch.specs.Alone.{IsOn, Turns}
use Rattle.disk_batch.proofs.Among.{all_of_each}
use Rattle.disk_batch.proofs.Submissions.{any_among, among_any}
use Rattle.disk_batch.proofs.Progressing.{OnlyFlushes, only_leaves_submitted, flushes_write_nothing}
use Rattle.disk_batch.proofs.Rounding.{batch_started, batch_done, batch_next, batch_flushes, batch_brought}
use Rattle.disk_batch.proofs.Calling.{IsTurn, is_turn, works_parted}
use Rattle.disk_batch.proofs.Works.{bring_left, bring_right}
use Rattle.disk_batch.proofs.Flushing.{flushes_done, flushes_submitted, flushes_well}
use Rattle.disk_batch.proofs.WrittenBy.{bring_written, bring_at_weaker}
use Rattle.disk_batch.proofs.AloneRun.{no_tags}
use Rattle.disk_batch.proofs.AfterIdle.{StepsBring, AllWell, steps_bring_written, one_brings, now_kept_or_brought, now_brought}

-- the steps of these submissions, the newest first
abbrev pub submissions : List Operation → List Step
submissions [] = []
submissions (o ∷ os) = submissions os ++ Submitted o.tag o.work ∷ []

pub submitted_steps : (os : List Operation) (told : Record) → submitted_on os told ≡ steps_on (submissions os) told
submitted_steps [] told = refl
submitted_steps (o ∷ os) told =
    submitted_steps os (step_on (Submitted o.tag o.work) told)
    ∙ ap (λ (l : List Step). record { opened = told.opened; steps = l })
    (sym (append_assoc (submissions os) (Submitted o.tag o.work ∷ []) told.steps))

-- of writes
pub writes_of_submissions : (os : List Operation) (puts : List (Span × List (List ℕ))) → works_of os ≡ map write_work puts
    → writes_submitted (submissions os) ≡ puts
writes_of_submissions [] [] e = refl
writes_of_submissions [] (p ∷ puts) e = cc
writes_of_submissions (o ∷ os) [] e = cc
writes_of_submissions (o ∷ os) (p ∷ puts) e =
    let work : o.work ≡ write_work p = cc in
    let rest : works_of os ≡ map write_work puts = cc in
    writes_submitted-append (submissions os) (Submitted o.tag o.work ∷ [])
    ∙ ap (λ (w : Work). writes_submitted (Submitted o.tag w ∷ []) ++ writes_submitted (submissions os)) work
    ∙ ap (λ (l : List (Span × List (List ℕ))). p ∷ l) (writes_of_submissions os puts rest)

pub reads_of_writes : (os : List Operation) (puts : List (Span × List (List ℕ))) → works_of os ≡ map write_work puts
    → spans_read (submissions os) ≡ []
reads_of_writes [] puts e = refl
reads_of_writes (o ∷ os) [] e = cc
reads_of_writes (o ∷ os) (p ∷ puts) e =
    let work : o.work ≡ write_work p = cc in
    let rest : works_of os ≡ map write_work puts = cc in
    spans_read-append (submissions os) (Submitted o.tag o.work ∷ [])
    ∙ ap (λ (w : Work). spans_read (Submitted o.tag w ∷ []) ++ spans_read (submissions os)) work
    ∙ reads_of_writes os puts rest

-- of flushes
nothing_of_flushes : (os : List Operation) (disks : List ℕ) → OnlyFlushes os disks → WritesNothing (submissions os)
nothing_of_flushes [] disks e = tt
nothing_of_flushes (o ∷ os) [] e = cc
nothing_of_flushes (o ∷ os) (d ∷ disks) e =
    let work : o.work ≡ Flushing d = cc in
    let rest : OnlyFlushes os disks = cc in
    writes_nothing_append (submissions os) (Submitted o.tag o.work ∷ []) (nothing_of_flushes os disks rest)
    (subst (λ (w : Work). WritesNothing (Submitted o.tag w ∷ [])) (sym work) tt)

pub writes_of_nothing : (steps : List Step) → WritesNothing steps → writes_submitted steps ≡ []
writes_of_nothing [] none = refl
writes_of_nothing (Submitted tag (Writing span sectors) ∷ steps) none = absurd none
writes_of_nothing (Submitted tag (Reading span) ∷ steps) none = writes_of_nothing steps none
writes_of_nothing (Submitted tag (Flushing disk) ∷ steps) none = writes_of_nothing steps none
writes_of_nothing (Completed tag work well fresh ∷ steps) none = writes_of_nothing steps none

reads_of_flushes : (os : List Operation) (disks : List ℕ) → OnlyFlushes os disks → spans_read (submissions os) ≡ []
reads_of_flushes [] disks e = refl
reads_of_flushes (o ∷ os) [] e = cc
reads_of_flushes (o ∷ os) (d ∷ disks) e =
    let work : o.work ≡ Flushing d = cc in
    let rest : OnlyFlushes os disks = cc in
    spans_read-append (submissions os) (Submitted o.tag o.work ∷ [])
    ∙ ap (λ (w : Work). spans_read (Submitted o.tag w ∷ []) ++ spans_read (submissions os)) work
    ∙ reads_of_flushes os disks rest

-- none of them failed
well_append : (newer older : List Step) → AllWell newer → AllWell older → AllWell (newer ++ older)
well_append [] older a b = b
well_append (Submitted tag work ∷ newer) older a b = well_append newer older a b
well_append (Completed tag work true fresh ∷ newer) older a b = well_append newer older a b
well_append (Completed tag work false fresh ∷ newer) older a b = absurd a

well_submissions : (os : List Operation) → AllWell (submissions os)
well_submissions [] = tt
well_submissions (o ∷ os) = well_append (submissions os) (Submitted o.tag o.work ∷ []) (well_submissions os) tt

-- a flush that is younger than the older steps completed in the newer ones
record_older : (newer older : List Step) → IsRecord (newer ++ older) → IsRecord older
record_older [] older is = is
record_older (Submitted tag work ∷ newer) older is = record_older newer older is.1
record_older (Completed tag work well fresh ∷ newer) older is = record_older newer older is.1

not_flushed_before : (steps : List Step) (from pv : ℕ) → IsNewTag from steps → IsRecord steps → HasFlushedSince from pv steps → ⊥
not_flushed_before [] from pv new is h = h
not_flushed_before (Submitted tag work ∷ steps) from pv new is h = not_flushed_before steps from pv new.1 is.1 h
not_flushed_before (Completed tag (Reading span) well fresh ∷ steps) from pv new is h = not_flushed_before steps from pv new is.1 h
not_flushed_before (Completed tag (Writing span sectors) well fresh ∷ steps) from pv new is h = not_flushed_before steps from pv new is.1 h
not_flushed_before (Completed tag (Flushing disk) false fresh ∷ steps) from pv new is h = not_flushed_before steps from pv new is.1 h
not_flushed_before (Completed tag (Flushing disk) true fresh ∷ steps) from pv new is h =
    ⊎_elim
    (λ (here : (disk ≡ pv) × (from ≤ tag)).
    let lt : tag < from =
    in_flight_older from steps (record { tag = tag; work = Flushing disk }) new
    (found_in (in_flight_after steps) tag (Flushing disk) is.0) in
    let le : from ≤ tag = here.1 in
    absurd (omega arith))
    (λ before. not_flushed_before steps from pv new is.1 before) h

flushed_newer : (newer older : List Step) (from pv : ℕ) → IsNewTag from older → IsRecord older → HasFlushedSince from pv (newer ++ older)
    → HasFlushed pv newer
flushed_newer [] older from pv new is h = absurd (not_flushed_before older from pv new is h)
flushed_newer (Submitted tag work ∷ newer) older from pv new is h = flushed_newer newer older from pv new is h
flushed_newer (Completed tag (Reading span) well fresh ∷ newer) older from pv new is h = flushed_newer newer older from pv new is h
flushed_newer (Completed tag (Writing span sectors) well fresh ∷ newer) older from pv new is h = flushed_newer newer older from pv new is h
flushed_newer (Completed tag (Flushing disk) false fresh ∷ newer) older from pv new is h = flushed_newer newer older from pv new is h
flushed_newer (Completed tag (Flushing disk) true fresh ∷ newer) older from pv new is h =
    ⊎_elim (λ here. inl here.0) (λ later. inr (flushed_newer newer older from pv new is later)) h

-- every sector
abbrev pub everywhere : ℕ → ℕ → Bool
everywhere pv sector = true

module _ (puts : List (Span × List (List ℕ))) (disks : List ℕ) (old : Record) where
  -- a crash may leave what it could leave before, or what a write brings
  abbrev pub Allowed : ℕ → ℕ → List ℕ → Type 0
  Allowed pv sector value = CanLeave old pv sector value ⊎ IsWrittenBy puts pv sector value

  -- the sectors of the disks that are flushed, and those that are written
  abbrev pub of_disks : ℕ → ℕ → Bool
  of_disks pv sector = list_any (λ (d : ℕ). d == pv) disks

  abbrev pub written : ℕ → ℕ → Bool
  written pv sector = writes_at (map write_work puts) pv sector

  -- all writes have completed, and flushes behind them are submitted
  pub record HasFlushes (since : List Step) (view : View) (told : Record) : Type 0 where
    pub newer : List Step
    pub older : List Step
    pub parts : since ≡ newer ++ older
    pub writes : writes_submitted older ≡ puts
    pub settled : in_flight_after (older ++ old.steps) ≡ []
    pub quiet : WritesNothing newer
    pub from : ℕ
    pub new_tags : IsNewTag from (older ++ old.steps)
    pub each : (pv : ℕ) → IsAmong disks pv → FlushesSince view told from pv

  -- what the batch has done since its start
  pub record Carries (view : View) (told : Record) : Type 0 where
    pub since : List Step
    pub steps : told ≡ steps_on since old
    pub writes : writes_submitted since ++ view.rest ≡ puts
    pub all_submitted : view.flushing ≡ true → view.rest ≡ []
    pub reads : spans_read since ≡ []
    pub flush : view.flush ≡ disks
    pub leaves : AllLeave everywhere Allowed told
    pub so_far : Throughout (length old.steps) (length told.steps) told (AllLeave everywhere Allowed)
    pub holds : BatchHolds of_disks written Allowed (IsWrittenBy puts) view told
    pub well : view.lost ≡ None → AllWell since
    pub flushes : view.lost ≡ None → view.flushing ≡ true → HasFlushes since view told

  -- what its writes bring
  bring_allowed : (pv sector : ℕ) → BringAt (map write_work puts) pv sector (Allowed pv sector)
  bring_allowed pv sector =
      bring_at_weaker puts pv sector (IsWrittenBy puts pv sector) (Allowed pv sector) (λ value h. inr h) (bring_written puts pv sector)

  targets : WriteTargets of_disks written Allowed (IsWrittenBy puts) (map write_work puts)
  targets = record {
    allowed = λ pv sector own. bring_allowed pv sector;
    wanted = λ pv sector own. bring_written puts pv sector;
    targets = λ pv sector own aim. aim;
    others = λ pv sector own none. none;
  }

  leaves_old : AllLeave everywhere Allowed old
  leaves_old pv sector own = record { each = λ write value may. inl (write, may) }

  -- it starts
  pub carries_started : (os : List Operation) (first rest : List (Span × List (List ℕ))) → puts ≡ first ++ rest
      → works_of os ≡ map write_work first → in_flight_after old.steps ≡ []
      → Carries (record { tags = tags_of os; flush = disks; flushing = false; lost = None; rest = rest }) (submitted_on os old)
  carries_started os first rest parts e idle =
      let works : map write_work puts ≡ works_of os ++ map write_work rest = works_parted puts first rest os parts e in
      let bring : (pv sector : ℕ) → BringAt (works_of os) pv sector (Allowed pv sector) =
      λ pv sector. bring_left (works_of os) (map write_work rest) pv sector (Allowed pv sector)
      (subst (λ (ws : List Work). BringAt ws pv sector (Allowed pv sector)) works (bring_allowed pv sector)) in
      record {
        since = submissions os;
        steps = submitted_steps os old;
        writes = ap (λ (l : List (Span × List (List ℕ))). l ++ rest) (writes_of_submissions os first e) ∙ sym parts;
        all_submitted = λ (f : false ≡ true). cc;
        reads = reads_of_writes os first e;
        flush = refl;
        leaves = λ pv sector own. only_leaves_submitted os old pv sector (Allowed pv sector) (bring pv sector) (leaves_old pv sector own);
        so_far =
            leaves_throughout everywhere Allowed os old (length old.steps) (λ pv sector own. bring pv sector) leaves_old
            (throughout_now old (AllLeave everywhere Allowed) leaves_old);
        holds =
            batch_started of_disks written Allowed (IsWrittenBy puts) os disks rest old
            (subst (λ (ws : List Work). WriteTargets of_disks written Allowed (IsWrittenBy puts) ws) works targets)
            (λ pv sector own o a w. absurd (subst (λ (l : List Operation). IsIn l o) idle a)) (λ pv sector own. leaves_old pv sector refl);
        well = λ none. well_submissions os;
        flushes = λ none (f : false ≡ true). cc;
      }

  -- an operation of its own completes
  leaves_done : (told : Record) (tag : ℕ) (work : Work) (well : Bool) (fresh : List Bool) → AllLeave everywhere Allowed told
      → AllLeave everywhere Allowed (step_on (Completed tag work well fresh) told)
  leaves_done told tag work well fresh h pv sector own =
      only_leaves_on told pv sector (Allowed pv sector) (Completed tag work well fresh) refl (h pv sector own)

  pub carries_done : (view : View) (told : Record) (tag disk : ℕ) (work : Work) (well : Bool) (fresh : List Bool)
      → IsRecord (step_on (Completed tag work well fresh) told).steps
      → Carries view told → Carries (done_on tag disk well view) (step_on (Completed tag work well fresh) told)
  carries_done view told tag disk work true fresh is h =
      let step : Step = Completed tag work true fresh in
      record {
        since = step ∷ h.since;
        steps = ap (step_on step) h.steps;
        writes = h.writes;
        all_submitted = h.all_submitted;
        reads = h.reads;
        flush = h.flush;
        leaves = leaves_done told tag work true fresh h.leaves;
        so_far =
            throughout_step step told (length old.steps) (AllLeave everywhere Allowed) (leaves_done told tag work true fresh h.leaves)
            h.so_far;
        holds = batch_done of_disks written Allowed (IsWrittenBy puts) view told tag disk work true fresh is h.holds;
        well = λ none. h.well none;
        flushes = λ none f.
            let s = h.flushes none f in
            record {
              newer = step ∷ s.newer;
              older = s.older;
              parts = ap (λ (l : List Step). step ∷ l) s.parts;
              writes = s.writes;
              settled = s.settled;
              quiet = s.quiet;
              from = s.from;
              new_tags = s.new_tags;
              each = λ pv among. flushes_done view told s.from pv tag disk work true fresh is (s.each pv among);
            };
      }
  carries_done view told tag disk work false fresh is h =
      let step : Step = Completed tag work false fresh in
      record {
        since = step ∷ h.since;
        steps = ap (step_on step) h.steps;
        writes = h.writes;
        all_submitted = h.all_submitted;
        reads = h.reads;
        flush = h.flush;
        leaves = leaves_done told tag work false fresh h.leaves;
        so_far =
            throughout_step step told (length old.steps) (AllLeave everywhere Allowed) (leaves_done told tag work false fresh h.leaves)
            h.so_far;
        holds = batch_done of_disks written Allowed (IsWrittenBy puts) view told tag disk work false fresh is h.holds;
        well = λ (e : Some disk ≡ None). cc;
        flushes = λ (e : Some disk ≡ None) f. cc;
      }

  -- the next of its writes to come is submitted
  pub carries_next : (view : View) (put : Span × List (List ℕ)) (more : List (Span × List (List ℕ))) (tag : ℕ) (told : Record)
      → view.rest ≡ put ∷ more → view.flushing ≡ false → Carries view told
      → Carries (record view { tags = view.tags ++ tag ∷ []; rest = more }) (submitted_on (put_operation tag put ∷ []) told)
  carries_next view put more tag told first writing h =
      let o : Operation = put_operation tag put in
      let so_far : List (Span × List (List ℕ)) = writes_submitted h.since in
      let parts : puts ≡ so_far ++ put ∷ more = sym h.writes ∙ ap (λ (l : List (Span × List (List ℕ))). so_far ++ l) first in
      let bring : (pv sector : ℕ) → BringAt (works_of (o ∷ [])) pv sector (Allowed pv sector) =
      λ pv sector. (
        (bring_right (map write_work so_far) (map write_work (put ∷ more)) pv sector (Allowed pv sector)
            (subst (λ (ws : List Work). BringAt ws pv sector (Allowed pv sector))
            (ap (λ (l : List (Span × List (List ℕ))). map write_work l) parts ∙ map-append write_work so_far (put ∷ more))
            (bring_allowed pv sector))).0,
        tt,
      ) in
      record {
        since = submissions (o ∷ []) ++ h.since;
        steps = steps_joined old told (submitted_on (o ∷ []) told) h.since (submissions (o ∷ [])) h.steps refl;
        writes = append_assoc so_far (put ∷ []) more ∙ sym parts;
        all_submitted = λ f. absurd (let e : false ≡ true = sym writing ∙ f in cc);
        reads = h.reads;
        flush = h.flush;
        leaves =
            λ pv sector own. only_leaves_submitted (o ∷ []) told pv sector (Allowed pv sector) (bring pv sector) (h.leaves pv sector own);
        so_far =
            leaves_throughout everywhere Allowed (o ∷ []) told (length old.steps) (λ pv sector own. bring pv sector) h.leaves h.so_far;
        holds = batch_next of_disks written Allowed (IsWrittenBy puts) view put more o told first writing refl h.holds;
        well = λ e. h.well e;
        flushes = λ e f. absurd (let d : false ≡ true = sym writing ∙ f in cc);
      }

  -- once all are submitted, these are all
  pub all_writes : (view : View) (told : Record) → view.rest ≡ [] → (h : Carries view told) → writes_submitted h.since ≡ puts
  all_writes view told over h =
      sym (append-nil (writes_submitted h.since))
      ∙ ap (λ (l : List (Span × List (List ℕ))). writes_submitted h.since ++ l) (sym over) ∙ h.writes

  -- its flushes are submitted
  pub carries_flushes : (view : View) (os : List Operation) (told : Record) (from : ℕ) → view.tags ≡ [] → view.flushing ≡ false
      → view.lost ≡ None → view.rest ≡ [] → OnlyFlushes os view.flush
      → in_flight_after told.steps ≡ [] → IsNewTag from told.steps → All (λ (o : Operation). from ≤ o.tag) os → Carries view told
      → Carries (record view { tags = tags_of os; flushing = true }) (submitted_on os told)
  carries_flushes view os told from none writing well over only idle new_tags fresh h =
      let quiet = nothing_of_flushes os view.flush only in
      let bring : (pv sector : ℕ) → BringAt (works_of os) pv sector (Allowed pv sector) =
      λ pv sector. (flushes_write_nothing os view.flush pv sector (Allowed pv sector) only).0 in
      record {
        since = submissions os ++ h.since;
        steps = steps_joined old told (submitted_on os told) h.since (submissions os) h.steps (submitted_steps os told);
        writes =
            ap (λ (l : List (Span × List (List ℕ))). l ++ view.rest)
            (writes_submitted-append (submissions os) h.since
            ∙ ap (λ (l : List (Span × List (List ℕ))). writes_submitted h.since ++ l) (writes_of_nothing (submissions os) quiet)
            ∙ append-nil (writes_submitted h.since)) ∙ h.writes;
        all_submitted = λ f. over;
        reads =
            spans_read-append (submissions os) h.since
            ∙ ap (λ (l : List Span). spans_read h.since ++ l) (reads_of_flushes os view.flush only) ∙ append-nil (spans_read h.since)
            ∙ h.reads;
        flush = h.flush;
        leaves = λ pv sector own. only_leaves_submitted os told pv sector (Allowed pv sector) (bring pv sector) (h.leaves pv sector own);
        so_far = leaves_throughout everywhere Allowed os told (length old.steps) (λ pv sector own. bring pv sector) h.leaves h.so_far;
        holds =
            batch_flushes of_disks written Allowed (IsWrittenBy puts) view os told none writing well over only
            (λ pv sector own aim. subst (λ (l : List ℕ). IsAmong l pv) (sym h.flush) (any_among disks pv own)) h.holds;
        well = λ e. well_append (submissions os) h.since (well_submissions os) (h.well e);
        flushes = λ e f. record {
          newer = submissions os;
          older = h.since;
          parts = refl;
          writes = all_writes view told over h;
          settled = subst (λ (t : Record). in_flight_after t.steps ≡ []) h.steps idle;
          quiet = quiet;
          from = from;
          new_tags = subst (λ (t : Record). IsNewTag from t.steps) h.steps new_tags;
          each = λ pv among. flushes_submitted view os told from pv only (subst (λ (l : List ℕ). IsAmong l pv) (sym h.flush) among) fresh;
        };
      }

  -- it is over: what a read gives
  now_of : (view : View) (told : Record) → view.rest ≡ [] → IsRecord told.steps → in_flight_after old.steps ≡ [] → Carries view told
      → (pv sector : ℕ)
      → (now_after told.opened told.steps pv sector ≡ now_after old.opened old.steps pv sector)
      ⊎ IsWrittenBy puts pv sector (now_after told.opened told.steps pv sector)
  now_of view told over is idle h pv sector =
      subst (λ (t : Record). (now_after t.opened t.steps pv sector ≡ now_after old.opened old.steps pv sector)
      ⊎ IsWrittenBy puts pv sector (now_after t.opened t.steps pv sector)) (sym h.steps)
      (now_kept_or_brought old.opened old.steps idle pv sector (IsWrittenBy puts pv sector) h.since
      (subst (λ (t : Record). IsRecord t.steps) h.steps is)
      (subst (λ (ws : List (Span × List (List ℕ))). StepsBring h.since pv sector (IsWrittenBy ws pv sector)) (all_writes view told over h)
      (steps_bring_written h.since pv sector)))

  now_written : (view : View) (told : Record) → view.rest ≡ [] → IsRecord told.steps → in_flight_after old.steps ≡ []
      → in_flight_after told.steps ≡ [] → view.lost ≡ None → Carries view told → (pv sector : ℕ) → IsTrue (written pv sector)
      → IsWrittenBy puts pv sector (now_after told.opened told.steps pv sector)
  now_written view told all is idle over well h pv sector here =
      subst (λ (t : Record). IsWrittenBy puts pv sector (now_after t.opened t.steps pv sector)) (sym h.steps)
      (now_brought old.opened old.steps idle pv sector (IsWrittenBy puts pv sector) h.since
      (subst (λ (t : Record). IsRecord t.steps) h.steps is)
      (subst (λ (t : Record). in_flight_after t.steps ≡ []) h.steps over)
      (subst (λ (ws : List (Span × List (List ℕ))). StepsBring h.since pv sector (IsWrittenBy ws pv sector)) (all_writes view told all h)
      (steps_bring_written h.since pv sector))
      (h.well well)
      (one_brings h.since pv sector (subst (λ (ws : List (Span × List (List ℕ))). IsTrue (writes_at (map write_work ws) pv sector))
      (sym (all_writes view told all h)) here)))

  -- and which disks were flushed
  flushed_last : (view : View) (told : Record) → IsRecord told.steps → IsTurn view IsWell → (h : Carries view told)
      → FlushesLast old puts disks h.since
  flushed_last view told is turn h =
      let s = h.flushes turn.2 turn.1 in
      let is' : IsRecord (s.newer ++ (s.older ++ old.steps)) =
      subst IsRecord (ap (λ (l : List Step). l ++ old.steps) s.parts ∙ append_assoc s.newer s.older old.steps)
      (subst (λ (t : Record). IsRecord t.steps) h.steps is) in
      record {
        newer = s.newer;
        older = s.older;
        parts = s.parts;
        writes = s.writes;
        settled = s.settled;
        quiet = s.quiet;
        flushed = all_of_each (λ pv. HasFlushed pv s.newer) disks (λ pv among.
            flushed_newer s.newer (s.older ++ old.steps) s.from pv s.new_tags (record_older s.newer (s.older ++ old.steps) is')
            (subst (HasFlushedSince s.from pv) (ap (λ (t : Record). t.steps) h.steps ∙ ap (λ (l : List Step). l ++ old.steps) s.parts
            ∙ append_assoc s.newer s.older old.steps)
            (flushes_well view told s.from pv turn.0 turn.1 turn.2 (s.each pv among))));
      }

  pub carried_well : (view : View) (told : Record) → IsRecord told.steps → in_flight_after old.steps ≡ [] → in_flight_after told.steps ≡ []
      → IsTurn view IsWell → Carries view told → WritesAll old puts disks true told
  carried_well view told is idle over turn h = record {
    since = h.since;
    steps = h.steps;
    writes = all_writes view told (h.all_submitted turn.1) h;
    reads = h.reads;
    adds = λ moment from until pv sector. h.so_far moment from until pv sector refl;
    now = now_of view told (h.all_submitted turn.1) is idle h;
    written = λ ok. now_written view told (h.all_submitted turn.1) is idle over turn.2 h;
    lasting =
        λ ok pv sector aim among. batch_brought of_disks written Allowed (IsWrittenBy puts) view told turn.0 turn.1 turn.2 h.holds pv sector
        (among_any disks pv among) aim;
    flushes = λ ok. flushed_last view told is turn h;
  }

  pub carried_lost : (view : View) (told : Record) → view.rest ≡ [] → IsRecord told.steps → in_flight_after old.steps ≡ []
      → Carries view told → WritesAll old puts disks false told
  carried_lost view told over is idle h = record {
    since = h.since;
    steps = h.steps;
    writes = all_writes view told over h;
    reads = h.reads;
    adds = λ moment from until pv sector. h.so_far moment from until pv sector refl;
    now = now_of view told over is idle h;
    written = λ (e : IsTrue false). cc;
    lasting = λ (e : IsTrue false). cc;
    flushes = λ (e : IsTrue false). cc;
  }

  -- what it came to
  abbrev pub CarriesOn : BatchStep → Record → Type 0
  CarriesOn (Going next) told = Carries (view_of next) told
  CarriesOn Well told = (view : View) × IsTurn view IsWell × Carries view told
  CarriesOn (Lost pv) told = (view : View) × (view.rest ≡ []) × Carries view told

  -- none is to come where an operation was lost and nothing is in flight
  lost_over : (view : View) (told : Record) (flushing : Bool) → view.flushing ≡ flushing → (view.flushing ≡ false → view.rest ≡ [])
      → Carries view told → view.rest ≡ []
  lost_over view told true e writing h = h.all_submitted e
  lost_over view told false e writing h = writing e

  follows_carries : (mid new : State) (view : View) (turn : Turn) (step : BatchStep) (told : Record) → IsTurn view turn → IsLawful mid
      → tags_of mid.in_flight ≡ view.tags → Follows mid view turn step new → mid.told ≡ Some told → Carries view told
      → (u : Record) × (new.told ≡ Some u) × CarriesOn step u
  follows_carries mid new view Waits (Going next) told is lawful tags f e h =
      (told, ap (λ (s : State). s.told) f.0 ∙ e, subst (λ (v : View). Carries v told) (sym f.1) h)
  follows_carries mid new view Writes (Going next) told is lawful tags f e h =
      let os : List Operation = put_operation f.tag f.put ∷ [] in (
        submitted_on os told,
        f.submits.told ∙ ap (option_map (submitted_on os)) e,
        subst (λ (v : View). Carries v (submitted_on os told)) (sym f.view_is)
            (carries_next view f.put f.puts f.tag told f.next_is is h),
      )
  follows_carries mid new view Flushes (Going next) told is lawful tags f e h =
      let idle : in_flight_after told.steps ≡ [] =
      sym (told_at (λ t. mid.in_flight ≡ in_flight_after t.steps) mid.told told lawful.in_flight e)
      ∙ no_tags mid.in_flight (tags ∙ is.0) in
      let new_tags : IsNewTag mid.next_tag told.steps = told_at (λ t. IsNewTag mid.next_tag t.steps) mid.told told lawful.new_tags e in (
        submitted_on f.0.os told,
        f.0.submits.told ∙ ap (option_map (submitted_on f.0.os)) e,
        subst (λ (v : View). Carries v (submitted_on f.0.os told)) (sym f.1)
            (subst (λ (tags : List ℕ). Carries (record view { tags = tags; flushing = true }) (submitted_on f.0.os told)) f.0.tags_are
            (carries_flushes view f.0.os told mid.next_tag is.0 is.1 is.2 is.3 f.0.works_are idle new_tags f.0.submits.fresh h)),
      )
  follows_carries mid new view IsWell Well told is lawful tags f e h = (told, ap (λ (s : State). s.told) f ∙ e, (view, is, h))
  follows_carries mid new view (IsLost pv) (Lost pv') told is lawful tags f e h = (
    told,
    ap (λ (s : State). s.told) f.0 ∙ e,
    (view, lost_over view told view.flushing refl is.2 h, h),
  )
  follows_carries mid new view turn step told is lawful tags f e h = absurd f

-- where the shelf tells its record
abbrev pub CarriesTold : List (Span × List (List ℕ)) → List ℕ → BatchStep → Option Record → Option Record → Type 0
CarriesTold puts disks step before after = BetweenRecords (λ old told. CarriesOn puts disks old step told) before after

module _ (puts : List (Span × List (List ℕ))) (disks : List ℕ) where
  -- nothing is in flight in the record where nothing is in flight
  idle_record : (state : State) (told : Record) → IsLawful state → state.in_flight ≡ [] → state.told ≡ Some told
      → in_flight_after told.steps ≡ []
  idle_record state told lawful idle e =
      sym (told_at (λ t. state.in_flight ≡ in_flight_after t.steps) state.told told lawful.in_flight e) ∙ idle

  pub starts_carries : (old new : State) (batching : Batching) → IsLawful old → old.in_flight ≡ [] → 0 < length puts
      → Starts old puts disks (view_of batching) new → CarriesTold puts disks (Going batching) old.told new.told
  starts_carries old new batching lawful idle some starts t e = by_puts puts starts some
    where
      by_puts : (ps : List (Span × List (List ℕ))) → Starts old ps disks (view_of batching) new → 0 < length ps
          → (u : Record) × (new.told ≡ Some u) × CarriesOn ps disks t (Going batching) u
      by_puts [] starts some = absurd (omega arith)
      by_puts (p ∷ ps) starts some =
          let os = starts.works.os in
          let rest = (view_of batching).rest in (
            submitted_on os t,
            starts.works.submits.told ∙ ap (option_map (submitted_on os)) e,
            subst (λ (v : View). Carries (p ∷ ps) disks t v (submitted_on os t)) (sym starts.view_is)
                (subst (λ (tags : List ℕ). Carries (p ∷ ps) disks t
                (record { tags = tags; flush = disks; flushing = false; lost = None; rest = rest }) (submitted_on os t))
                starts.works.tags_are
                (carries_started (p ∷ ps) disks t os starts.first rest starts.parts starts.works.works_are
                (idle_record old t lawful idle e))),
          )

  pub turns_carries : (first before mid new : State) (step next : BatchStep) (done : Done) → IsLawful mid → IsOn step before
      → Completes before done mid → Turns mid step done next new
      → CarriesTold puts disks step first.told before.told → CarriesTold puts disks next first.told new.told
  turns_carries first before mid new (Going b) next done lawful on completes goes h t e =
      let u = h t e in
      let step : Step = Completed done.tag (work_of done.op) done.well completes.told.0 in
      let told : mid.told ≡ Some (step_on step u.0) = completes.told.1 ∙ ap (option_map (step_on step)) u.1 in
      let is : IsRecord (step_on step u.0).steps = told_at (λ s. IsRecord s.steps) mid.told (step_on step u.0) lawful.follows told in
      let after : View = after_done (view_of b) done in
      follows_carries puts disks t mid new after (turn_of after) next (step_on step u.0)
      (is_turn after) lawful
      (ap (λ (l : List Operation). tags_of l) completes.in_flight ∙ tags_left before.in_flight done.tag
      ∙ ap (λ (l : List ℕ). filter (λ (n : ℕ). not (n == done.tag)) l) on.0) goes told
      (carries_done puts disks t (view_of b) u.0 done.tag (disk_of done.op) (work_of done.op) done.well completes.told.0 is u.2)
  turns_carries first before mid new Well next done lawful on completes goes h t e = absurd goes
  turns_carries first before mid new (Lost pv) next done lawful on completes goes h t e = absurd goes

  -- it is over
  pub ends_well : (old new : State) → IsLawful old → IsLawful new → old.in_flight ≡ [] → new.in_flight ≡ []
      → CarriesTold puts disks Well old.told new.told
      → BetweenRecords (λ before after. WritesAll before puts disks true after) old.told new.told
  ends_well old new lawful lawful' idle idle' h t e =
      let u = h t e in
      let is : IsRecord u.0.steps = told_at (λ s. IsRecord s.steps) new.told u.0 lawful'.follows u.1 in (
        u.0,
        u.1,
        carried_well puts disks t u.2.0 u.0 is (idle_record old t lawful idle e) (idle_record new u.0 lawful' idle' u.1) u.2.1
            u.2.2,
      )

  pub ends_lost : (old new : State) (pv : ℕ) → IsLawful old → IsLawful new → old.in_flight ≡ []
      → CarriesTold puts disks (Lost pv) old.told new.told
      → BetweenRecords (λ before after. WritesAll before puts disks false after) old.told new.told
  ends_lost old new pv lawful lawful' idle h t e =
      let u = h t e in
      let is : IsRecord u.0.steps = told_at (λ s. IsRecord s.steps) new.told u.0 lawful'.follows u.1 in
      (u.0, u.1, carried_lost puts disks t u.2.0 u.0 u.2.1 is (idle_record old t lawful idle e) u.2.2)
