-- A run keeps the promise, by what it did to the disks.
use Rattle.std.proofs.Common.{◌≡◌, ◌≤◌, ◌<◌, ℕ, ◌^◌, Bool, true, false, if◌then◌else◌, List, [], ◌∷◌, ◌++◌, length, Option, Some, None}
use Rattle.std.proofs.Common.{⊎_elim, refl, sym, ap, subst, ◌∙◌, arith, true≢false}
use Rattle.std.proofs.lemmas.List.{append-nil}
use Rattle.std.proofs.lemmas.Option.{same_Some}
use Rattle.std.specs.Prelude.{All, IsTrue, MatchResult, Result, Ok, Err, is_some}
use Rattle.command_table.specs.Options.{Word}
use Rattle.command_table.specs.Values.{is_disk_name}
use Rattle.line_answers.specs.declared.answer.Answer.{Answer}
use Rattle.line_answers.specs.declared.answer.Answer.TheVariants as answer
use Rattle.lvm_script.specs.declared.line.Line.{Line}
use Rattle.disk_model.proofs.NowStands.{now_base}
use Rattle.disk_model.proofs.WhereTold.{told_at}
use Rattle.disk_model.specs.Durability.{IsBase}
use Rattle.disk_model.specs.Faults.{HasSameFaults}
use Rattle.disk_model.specs.Order.{WritesNothing}
use Rattle.disk_model.specs.Record.{IsRecord}
use Rattle.disk_model.specs.Since.{BetweenRecords}
use Rattle.disk_model.specs.State.{IsLawful, State}
use Rattle.disk_model.specs.Steps.{Image, Step, Record, now_after, steps_on}
use Rattle.disk_batch.specs.InTurn.{Put, WritesInTurn}
use Rattle.vg_found.specs.Shape.{HasShape}
use Rattle.vg_found.specs.Whole.{IsWhole}
use Rattle.vg_found.specs.declared.found.Found.{Found}
use Rattle.vg_scan.specs.Scans.{HoldsNow, IsScanOf}
use Rattle.group_plan.specs.declared.state.GroupState.{GroupState}
use Rattle.lv_plans.specs.Allocating.{Takes}
use Rattle.group_ops.specs.Laws.{state_in}
use Rattle.group_ops.specs.Planning.{IsBackupOf, IsPlanned, asks_of, change_of, refusal_of}
use Rattle.vg_change.specs.LineBatches.{batches_of, clears_of, zeros_of}
use Rattle.vg_change.specs.CarryingOut.{Carries, ClearsBehind, HasBegun, HasJudged, IsFault, KeepsImages, WritesBehind, WritesBoth, made_at}
use Rattle.vg_change.specs.declared.fault.ChangeFault.{ChangeFault}
use Rattle.vg_change.specs.declared.fault.ChangeFault.TheVariants as fault
use Rattle.vg_repair.specs.Batches.{repair_batches}
use Rattle.vg_repair.specs.Laws.{KeepsImages as RepairKeepsImages, StraysAreOthers}
use Rattle.vg_repair.specs.Repaired.{repaired_of}
use Rattle.vg_repair.specs.Repairing.{HasBegun as HasRepairBegun, IsFault as IsRepairFault, IsRepaired, Repairs}
use Rattle.vg_repair.specs.Stale.{too_large}
use Rattle.vg_repair.specs.declared.fault.RepairFault.{RepairFault}
use Rattle.vg_repair.specs.declared.fault.RepairFault.TheVariants as repair
use Rattle.image_scans.specs.Laws.{none_out}
use Rattle.vg_scan.specs.Versions.{FindsVersion, Version}
use Rattle.repair_scans.proofs.StraysApart.{strays_apart}
use Rattle.line_history.proofs.Looks.{looks}
use Rattle.line_history.specs.EachSet.{DoneSetsAgree, MadeMembersAgree}
use Rattle.line_history.specs.Histories.{ClearsHaveHistories, EndsHaveHistories, HasRunHistory, LinesHaveHistories, LooksAlone, MayAnswer}
use Rattle.line_history.specs.Histories.{MayEnd, journal_of_line, took_of as line_took}
use Rattle.line_history.specs.LineRun.{ClearsLine, Given, IsGiven, RunsLine, Stage, Opened, Repairing, Repaired, Zeroing, Writing, Done}
use Rattle.line_history.specs.LineRun.{batches_if, is_done, is_repaired, is_zeroed, repair_begun, zeros_begun}
use Rattle.lvm_run.specs.Changing.{GoesOn, IsCarriedOut, IsChanged, IsWholeAgain, ending_of, outcome_of, took_of}
use Rattle.lvm_run.specs.CommandSpec.{Inputs, no_inputs}
use Rattle.lvm_run.specs.History.{AreInTime, IsEntered, KeepsPromise, Said, begun_from, journal_by, lines_by}
use Rattle.lvm_run.specs.Scan.{IsOpened, OpensDisks}
use Rattle.lvm_run.specs.declared.outcome.Outcome.{Outcome}
use Rattle.lvm_run.specs.declared.outcome.Outcome.TheVariants.{Ended}
use Rattle.lvm_run.proofs.ChangedDisks.{none_in_turn}
use Rattle.lvm_run.proofs.FlushedAndScanned.{same_image}
use Rattle.lvm_run.proofs.InTime.{LiesBetween, goes_between, lies_whole, planned_writes, run_in_time, run_unbegun}

-- what a shelf's law says of its record
pub record IsTold (state : State) : Type 0 where
  pub record_is : (told : Record) → state.told ≡ Some told → IsRecord told.steps
  pub steps : (told : Record) → state.told ≡ Some told → state.steps ≡ length told.steps

pub told_of : (state : State) → IsLawful state → IsTold state
told_of state law = record {
  record_is = λ told is. told_at (λ (t : Record). IsRecord t.steps) state.told told law.follows is;
  steps = λ told is. told_at (λ (t : Record). state.steps ≡ length t.steps) state.told told law.steps is;
}

-- what reads give is what each sector can have, where that is one value
pub scanned_base : (old : State) (found : Found) → IsTold old → HoldsNow old.told (λ image. IsScanOf image old.sizes found)
    → (handed : Record) → old.told ≡ Some handed → (base : Image) → IsBase handed base
    → IsScanOf base old.sizes found
scanned_base old found told now handed there base base_is =
    subst (λ (i : Image). IsScanOf i old.sizes found)
    (same_image (now_after handed.opened handed.steps) base (now_base handed base (told.record_is handed there) base_is))
    (subst (λ (o : Option Record). HoldsNow o (λ image. IsScanOf image old.sizes found)) there now)

-- the moments of a journal as the shelf counts them
pub counted : (handed : Record) (base : Image) (sizes : List ℕ) (names : List Word) (now : ℕ) (ended : Record) (all : List Said)
    (a b n m : ℕ) (t u : Option ℕ) → n ≡ a → u ≡ t → m ≡ b
    → HasRunHistory handed base sizes names now ended (journal_of_line a t b) all
    → HasRunHistory handed base sizes names now ended (journal_of_line n u m) all
counted handed base sizes names now ended all a b n m t u begun took at_end has =
    subst (λ (k : ℕ). HasRunHistory handed base sizes names now ended (journal_of_line k u m) all) (sym begun)
    (subst (λ (o : Option ℕ). HasRunHistory handed base sizes names now ended (journal_of_line a o m) all) (sym took)
    (subst (λ (k : ℕ). HasRunHistory handed base sizes names now ended (journal_of_line a t k) all) (sym at_end) has))

-- the moment at which a line took place, where all was written and disks cleared
took_done : (commits : Bool) (made ended moment : ℕ) → moment ≡ made_at commits made ended → Some moment ≡ line_took commits true made ended
took_done true made ended moment is = ap (λ (n : ℕ). Some n) is
took_done false made ended moment is = ap (λ (n : ℕ). Some n) is

-- where disks weren't cleared
took_uncleared : (commits : Bool) (made ended moment : ℕ) → commits ≡ true → moment ≡ made
    → Some moment ≡ line_took commits false made ended
took_uncleared true made ended moment commit is = ap (λ (n : ℕ). Some n) is
took_uncleared false made ended moment commit is = absurd (cc)

took_never : (commits : Bool) (made ended : ℕ) → commits ≡ false → None ≡ line_took commits false made ended
took_never true made ended none = absurd (cc)
took_never false made ended none = refl

-- a line takes this, and no refusal of it holds
pub record IsPassed (state : GroupState) (line : Line) (now : ℕ) (inputs : Inputs) : Type 0 where
  pub takes : Takes (asks_of state line) inputs.given
  pub back : IsBackupOf line.command inputs.backup
  pub passes : refusal_of state line now inputs.given ≡ None
  pub keeps : KeepsImages state line now inputs.given

-- ---- where nothing was written

pub same_told : (o : Option Record) (a b : Record) → o ≡ Some a → o ≡ Some b → a ≡ b
same_told o a b is also = same_Some a b (sym is ∙ also)

-- the steps since write nothing
abbrev pub WroteNothing : Record → Record → Type 0
WroteNothing old new = (since : List Step) × (new ≡ steps_on since old) × WritesNothing since

-- a line was begun behind what was looked at, or before it; the steps up to then, and those since
abbrev pub begun_at : Bool → Record → Record → Record
begun_at behind handed ended = if behind then ended else handed

abbrev before_line : Bool → List Step → List Step
before_line behind since = if behind then since else []

abbrev since_line : Bool → List Step → List Step
since_line behind since = if behind then [] else since

pub opening_is : (behind : Bool) (since : List Step) (handed ended : Record) → ended ≡ steps_on since handed
    → begun_at behind handed ended ≡ steps_on (before_line behind since) handed
opening_is true since handed ended is = is
opening_is false since handed ended is = refl

pub since_is : (behind : Bool) (since : List Step) (handed ended : Record) → ended ≡ steps_on since handed
    → ended ≡ steps_on (since_line behind since) (begun_at behind handed ended)
since_is true since handed ended is = refl
since_is false since handed ended is = is

pub nothing_is : (behind : Bool) (since : List Step) → WritesNothing since
    → WritesNothing (since_line behind since ++ before_line behind since)
nothing_is true since none = none
nothing_is false since none = subst WritesNothing (sym (append-nil since)) none

abbrev pub looked_alone : (behind : Bool) (old new : State) → IsTold new → BetweenRecords WroteNothing old.told new.told → (handed : Record)
    → old.told ≡ Some handed → (base : Image) → IsBase handed base → (version : Option Version)
    → FindsVersion old.sizes base none_out version → (ended : Record) → new.told ≡ Some ended
    → LooksAlone handed old.sizes (begun_at behind handed ended) ended
looked_alone behind old new told between handed there base base_is version finds ended at_end =
    let w = between handed there in
    let steps : ended ≡ steps_on w.2.0 handed = same_told new.told ended w.0 at_end w.1 ∙ w.2.1 in
    record {
      base = base;
      base_is = base_is;
      version = version;
      finds = finds;
      first = before_line behind w.2.0;
      opening = opening_is behind w.2.0 handed ended steps;
      since = since_line behind w.2.0;
      steps = since_is behind w.2.0 handed ended steps;
      nothing = nothing_is behind w.2.0 w.2.2;
      record_is = told.record_is ended at_end;
    }

-- and no line was begun
pub kept_unbegun : (names : List Word) (now : ℕ) (old new : State) → old.steps ≤ new.steps → IsTold new
    → BetweenRecords WroteNothing old.told new.told → IsEntered names now old [] [] new
kept_unbegun names now old new later told between = record {
  unbegun = λ none. refl;
  in_time = later;
  promise = λ handed there base base_is version finds ended at_end. (
    looks handed old.sizes names now ended ended
        (looked_alone true old new told between handed there base base_is version finds ended at_end),
    tt,
  );
}

pub kept_undone : (names : List Word) (now : ℕ) (old : State) → IsTold old → IsEntered names now old [] [] old
kept_undone names now old told = kept_unbegun names now old old (omega arith) told (λ handed there. (handed, there, ([], refl, tt)))

opening_wrote : (sizes : List ℕ) (passes : Bool) (old new : Record) → OpensDisks sizes old passes new → WroteNothing old new
opening_wrote sizes passes old new o = (o.since, o.steps, o.nothing)

-- the disks weren't taken
pub kept_unopened : (passes : Bool) (names : List Word) (now : ℕ) (old new : State) → old.steps ≤ new.steps → IsTold new
    → BetweenRecords (λ a b. OpensDisks old.sizes a passes b) old.told new.told → IsEntered names now old [] [] new
kept_unopened passes names now old new later told opens =
    kept_unbegun names now old new later told
    (λ handed there. let o = opens handed there in (o.0, o.1, opening_wrote old.sizes passes handed o.0 o.2))

-- ---- the disks were taken as this was found
module _ (lines : LinesHaveHistories) (cleared : ClearsHaveHistories) (ends : EndsHaveHistories) (agree : DoneSetsAgree)
    (members : MadeMembersAgree) (names : List Word) (now : ℕ) (line : Line) (old : State) (found : Found) (mid : State)
    (opened : IsOpened old found mid) (opens : BetweenRecords (λ a b. OpensDisks old.sizes a true b) old.told mid.told)
    (count : length names ≡ length found.disks) (named : All (λ name. is_disk_name name ≡ true) names)
    (planned : IsPlanned line.id line.command) (time : now < 2 ^ 48) (old_told : IsTold old) where
  -- what the line is judged against, by what it takes, and what it writes
  abbrev state : Inputs → GroupState
  state inputs = state_in (repaired_of found) names inputs.backup

  abbrev zeros : Inputs → List (List Put)
  zeros inputs = zeros_of (state inputs) line now inputs.given

  abbrev batches : Inputs → List (List Put)
  batches inputs = batches_of (state inputs) line now inputs.given

  abbrev clears : Inputs → List (List Put)
  clears inputs = clears_of (state inputs) line now inputs.given

  abbrev commits : Inputs → Bool
  commits inputs = is_some (change_of (state inputs) line now inputs.given).group

  abbrev Passed : Inputs → Type 0
  Passed inputs = IsPassed (state inputs) line now inputs

  module _ (handed : Record) (there : old.told ≡ Some handed) (base : Image) (base_is : IsBase handed base) where
    scan_base : IsScanOf base old.sizes found
    scan_base = scanned_base old found old_told opened.now handed there base base_is

    others : StraysAreOthers found
    others = strays_apart base old.sizes found scan_base

    abbrev look : Record
    look = (opens handed there).0

    look_told : mid.told ≡ Some look
    look_told = (opens handed there).1

    -- the line takes this
    module _ (inputs : Inputs) where
      abbrev given : Given
      given =
          record {
            handed = handed;
            base = base;
            sizes = old.sizes;
            found = found;
            names = names;
            backup = inputs.backup;
            line = line;
            clock = now;
            given = inputs.given;
          }

      is_given : IsGiven given
      is_given = record {
        base = base_is;
        scan = scan_base;
        shape = opened.shape;
        whole = opened.whole;
        named = count;
        names_are = named;
        planned = planned;
        time = time;
      }

      -- as far as it came
      run_at : (stage : Stage) (start ended : Record)
          → WritesInTurn look (batches_if (repair_begun stage) (repair_batches found)) (is_repaired stage) start
          → (IsTrue (repair_begun stage) → (too_large found ≡ None) × RepairKeepsImages found)
          → (IsTrue (is_repaired stage) → HasShape (repaired_of found) × IsWhole (repaired_of found))
          → (zeroed : Record) → (IsTrue (is_repaired stage)
          → WritesInTurn start (batches_if (zeros_begun stage) (zeros inputs)) (is_zeroed stage) zeroed)
          → (is_repaired stage ≡ false → zeroed ≡ start)
          → (IsTrue (is_zeroed stage) → WritesInTurn zeroed (batches inputs) (is_done stage) ended)
          → (is_zeroed stage ≡ false → ended ≡ zeroed)
          → (IsTrue (zeros_begun stage) → Passed inputs) → IsRecord ended.steps → RunsLine given stage start ended
      run_at stage start ended repair repairs repaired zeroed zeros unrepaired written unzeroed passed record_is = record {
        given = is_given;
        opened = look;
        since = (opens handed there).2.since;
        opening = (opens handed there).2.steps;
        nothing = (opens handed there).2.nothing;
        repair = repair;
        fits = λ begun. (repairs begun).0;
        repair_keeps = λ begun. (repairs begun).1;
        repaired_shape = λ e. (repaired e).0;
        repaired_whole = λ e. (repaired e).1;
        zeroed = zeroed;
        zeros = zeros;
        unrepaired = unrepaired;
        written = written;
        unzeroed = unzeroed;
        given_back = λ begun. (passed begun).back;
        takes = λ begun. (passed begun).takes;
        passes = λ begun. (passed begun).passes;
        keeps = λ begun. (passed begun).keeps;
        record_is = record_is;
      }

      -- nothing was written at all
      opened_alone : (ended : Record) → ended ≡ look → IsRecord ended.steps → RunsLine given Opened look ended
      opened_alone ended same record_is =
          run_at Opened look ended (none_in_turn look false) (λ begun. cc) (λ repaired. cc) look (λ repaired. cc) (λ e. refl) (λ e. cc)
          (λ e. same) (λ begun. cc) record_is

      -- the repair failed
      repair_failed : (start ended : Record) → WritesInTurn look (repair_batches found) false start → too_large found ≡ None
          → RepairKeepsImages found → ended ≡ start → IsRecord ended.steps → RunsLine given Repairing start ended
      repair_failed start ended repaired fits keeps same record_is =
          run_at Repairing start ended repaired (λ begun. (fits, keeps)) (λ repaired. cc) start (λ repaired. cc) (λ e. refl) (λ e. cc)
          (λ e. same) (λ begun. cc) record_is

      -- all was repaired
      module _ (start : Record) (repaired : WritesInTurn look (repair_batches found) true start) (fits : too_large found ≡ None)
          (keeps : RepairKeepsImages found)
          (shape : HasShape (repaired_of found)) (whole : IsWhole (repaired_of found)) where
        unwritten : (ended : Record) → IsRecord ended.steps → ended ≡ start → RunsLine given Repaired start ended
        unwritten ended record_is same =
            run_at Repaired start ended repaired (λ begun. (fits, keeps)) (λ e. (shape, whole)) start (λ e. none_in_turn start false)
            (λ e. cc) (λ e. cc) (λ e. same) (λ begun. cc) record_is

        module _ (passed : Passed inputs) (ended : Record) (record_is : IsRecord ended.steps) where
          zeros_failed : WritesInTurn start (zeros inputs) false ended → RunsLine given Zeroing start ended
          zeros_failed zeros =
              run_at Zeroing start ended repaired (λ begun. (fits, keeps)) (λ e. (shape, whole)) ended (λ e. zeros) (λ e. cc) (λ e. cc)
              (λ e. refl) (λ begun. passed) record_is

          failed : WritesBehind (zeros inputs) (batches inputs) false start ended → RunsLine given Writing start ended
          failed w =
              run_at Writing start ended repaired (λ begun. (fits, keeps)) (λ e. (shape, whole)) w.zeroed (λ e. w.first) (λ e. cc)
              (λ e. w.behind) (λ e. cc) (λ begun. passed) record_is

          done : WritesBehind (zeros inputs) (batches inputs) true start ended → RunsLine given Done start ended
          done w =
              run_at Done start ended repaired (λ begun. (fits, keeps)) (λ e. (shape, whole)) w.zeroed (λ e. w.first) (λ e. cc)
              (λ e. w.behind) (λ e. cc) (λ begun. passed) record_is

  -- ---- by what it came to
  module _ (done_at new : State) (told_done : IsTold done_at) (told_new : IsTold new) where
    abbrev Keeps : Outcome → Option ℕ → Type 0
    Keeps outcome took = KeepsPromise names now old (journal_by done_at.steps took new.steps outcome) (lines_by line outcome) new

    -- the run ended before its line
    ended_by : (why : RepairFault) → IsRepairFault found mid done_at why
        → BetweenRecords (Repairs (repair_batches found) (Err why)) mid.told done_at.told
        → (HasRepairBegun (Err why) → StraysAreOthers found → RepairKeepsImages found) → new ≡ done_at → Keeps (Ended (ending_of why)) None
    ended_by repair.NoMemory cause told keeps same handed there base base_is version finds ended at_end =
        let t = told (look handed there base base_is) (look_told handed there base base_is) in
        let is : ended ≡ t.0 = same_told done_at.told ended t.0 (ap (λ (s : State). s.told) (sym same) ∙ at_end) t.1 in (
          ends (given handed there base base_is no_inputs) Opened (look handed there base base_is) ended
              (opened_alone handed there base base_is no_inputs ended (is ∙ t.2) (told_new.record_is ended at_end)) tt,
          tt,
        )
    ended_by (repair.TooLarge pv need room) cause told keeps same handed there base base_is version finds ended at_end =
        let t = told (look handed there base base_is) (look_told handed there base base_is) in
        let is : ended ≡ t.0 = same_told done_at.told ended t.0 (ap (λ (s : State). s.told) (sym same) ∙ at_end) t.1 in (
          ends (given handed there base base_is no_inputs) Opened (look handed there base base_is) ended
              (opened_alone handed there base base_is no_inputs ended (is ∙ t.2) (told_new.record_is ended at_end)) tt,
          tt,
        )
    ended_by (repair.Pv pv) cause told keeps same handed there base base_is version finds ended at_end =
        let t = told (look handed there base base_is) (look_told handed there base base_is) in
        let is : ended ≡ t.0 = same_told done_at.told ended t.0 (ap (λ (s : State). s.told) (sym same) ∙ at_end) t.1 in (
          ends (given handed there base base_is no_inputs) Repairing t.0 ended
              (repair_failed handed there base base_is no_inputs t.0 ended t.2 cause.0 (keeps tt (others handed there base base_is)) is
              (told_new.record_is ended at_end)) tt,
          tt,
        )

    module _ (repaired : IsRepaired found mid done_at (repaired_of found))
        (told : BetweenRecords (λ a b. WritesInTurn a (repair_batches found) true b) mid.told done_at.told)
        (keeps : StraysAreOthers found → RepairKeepsImages found) (shape : HasShape (repaired_of found))
        (whole : IsWhole (repaired_of found)) (inputs : Inputs) where
      module _ (handed : Record) (there : old.told ≡ Some handed) (base : Image) (base_is : IsBase handed base) (ended : Record)
          (at_end : new.told ≡ Some ended) where
        abbrev run : Given
        run = given handed there base base_is inputs

        abbrev start : Record
        start = (told (look handed there base base_is) (look_told handed there base base_is)).0

        start_told : done_at.told ≡ Some start
        start_told = (told (look handed there base base_is) (look_told handed there base base_is)).1

        written : WritesInTurn (look handed there base base_is) (repair_batches found) true start
        written = (told (look handed there base base_is) (look_told handed there base base_is)).2

        repair_keeps : RepairKeepsImages found
        repair_keeps = keeps (others handed there base base_is)

        record_is : IsRecord ended.steps
        record_is = told_new.record_is ended at_end

        -- it has a history with this answer, where it took place at this moment
        abbrev HasHistory : Option ℕ → Answer → Type 0
        HasHistory took said =
            HasRunHistory handed base old.sizes names now ended (journal_of_line done_at.steps took new.steps) ((line, Some said) ∷ [])

        -- it was begun and wasn't done
        answered : (stage : Stage) (said : Answer) → RunsLine run stage start ended → MayAnswer stage said → HasHistory None said
        answered stage said runs may =
            counted handed base old.sizes names now ended ((line, Some said) ∷ []) (length start.steps) (length ended.steps) done_at.steps
            new.steps None None (told_done.steps start start_told) refl (told_new.steps ended at_end)
            (lines run stage start ended said runs may)

        -- nothing of it was written
        run_unwritten : BetweenRecords (λ a b. b ≡ a) done_at.told new.told → RunsLine run Repaired start ended
        run_unwritten carried =
            let e = carried start start_told in
            unwritten handed there base base_is inputs start written repaired.fits repair_keeps shape whole ended record_is
            (same_told new.told ended e.0 at_end e.1 ∙ e.2)

        module _ (passed : Passed inputs) where
          -- its zeros or its other batches failed
          run_failed : (pv : ℕ) → BetweenRecords (WritesBoth (zeros inputs) (batches inputs) false) done_at.told new.told
              → HasHistory None (answer.PvFailed pv)
          run_failed pv carried =
              let e = carried start start_told in
              let is : e.0 ≡ ended = same_told new.told e.0 ended e.1 at_end in
              ⊎_elim
              (λ first. answered Zeroing (answer.PvFailed pv)
              (zeros_failed handed there base base_is inputs start written repaired.fits repair_keeps shape whole passed ended record_is
              first) tt)
              (λ behind. answered Writing (answer.PvFailed pv)
              (failed handed there base base_is inputs start written repaired.fits repair_keeps shape whole passed ended record_is
              behind) tt)
              (subst (λ (u : Record). WritesBoth (zeros inputs) (batches inputs) false start u) is e.2)

          -- these were written until the shelf was in a state, and disks cleared behind them
          module _ (well : Bool) (c : ClearsBehind (zeros inputs) (batches inputs) (clears inputs) well done_at new) where
            abbrev made : Record
            made = (c.first start start_told).0

            made_told : IsTold c.made
            made_told = told_of c.made c.lawful

            made_is : c.made.told ≡ Some made
            made_is = (c.first start start_told).1

            cleared_behind : WritesInTurn made (clears inputs) well ended
            cleared_behind =
                let e = c.behind made made_is in
                subst (λ (u : Record). WritesInTurn made (clears inputs) well u) (same_told new.told e.0 ended e.1 at_end) e.2

            abbrev run_cleared : ClearsLine run well start ended
            run_cleared = record {
              made = made;
              line =
                  done handed there base base_is inputs start written repaired.fits repair_keeps shape whole passed made
                  (made_told.record_is made made_is) (c.first start start_told).2;
              clears = cleared_behind;
              record_is = record_is;
            }

            took_there : line_took (commits inputs) well c.made.steps new.steps
                ≡ line_took (commits inputs) well (length made.steps) (length ended.steps)
            took_there =
                ap (λ (n : ℕ). line_took (commits inputs) well n new.steps) (made_told.steps made made_is)
                ∙ ap (λ (n : ℕ). line_took (commits inputs) well (length made.steps) n) (told_new.steps ended at_end)

            answered_cleared : (said : Answer) (took : Option ℕ) → MayEnd well said
                → took ≡ line_took (commits inputs) well c.made.steps new.steps → HasHistory took said
            answered_cleared said took may is =
                counted handed base old.sizes names now ended ((line, Some said) ∷ []) (length start.steps) (length ended.steps)
                done_at.steps new.steps
                (line_took (commits inputs) well (length made.steps) (length ended.steps)) took (told_done.steps start start_told)
                (is ∙ took_there) (told_new.steps ended at_end)
                (cleared run well start ended said run_cleared may)

      line_by : (result : Result ℕ ChangeFault)
          → (HasJudged result → Takes (asks_of (state inputs) line) inputs.given × IsBackupOf line.command inputs.backup)
          → MatchResult result (λ _. HasSameFaults done_at new × (refusal_of (state inputs) line now inputs.given ≡ None))
          (IsFault (state inputs) line now inputs.given done_at new)
          → (HasBegun result → KeepsImages (state inputs) line now inputs.given)
          → Carries (commits inputs) (zeros inputs) (batches inputs) (clears inputs) result done_at new
          → Keeps (outcome_of result) (took_of result)
      line_by (Ok moment) takes cause images carried handed there base base_is version finds ended at_end =
          let passed : Passed inputs = record { takes = (takes tt).0; back = (takes tt).1; passes = cause.1; keeps = images tt } in (
            answered_cleared handed there base base_is ended at_end passed true carried.0 answer.Fine (Some moment) tt
                (took_done (commits inputs) carried.0.made.steps new.steps moment carried.1),
            agree (run handed there base base_is ended at_end) (start handed there base base_is ended at_end) ended
                (run_cleared handed there base base_is ended at_end passed true carried.0),
          )
      line_by (Err fault.NoMemory) takes cause images carried handed there base base_is version finds ended at_end = (
        ends (run handed there base base_is ended at_end) Repaired (start handed there base base_is ended at_end) ended
            (run_unwritten handed there base base_is ended at_end carried) tt,
        tt,
      )
      line_by (Err (fault.Refused refusal)) takes cause images carried handed there base base_is version finds ended at_end = (
        answered handed there base base_is ended at_end Repaired (answer.Refused refusal)
            (run_unwritten handed there base base_is ended at_end carried) tt,
        tt,
      )
      line_by (Err (fault.Failed pv)) takes cause images carried handed there base base_is version finds ended at_end =
          let passed : Passed inputs = record { takes = (takes tt).0; back = (takes tt).1; passes = cause.0; keeps = images tt } in (
            ⊎_elim
                (λ both. run_failed handed there base base_is ended at_end passed pv both)
                (λ uncleared.
                answered_cleared handed there base base_is ended at_end passed false uncleared.1 (answer.PvFailed pv) None tt
                (took_never (commits inputs) uncleared.1.made.steps new.steps uncleared.0))
                carried,
            λ took. absurd (true≢false (sym took)),
          )
      line_by (Err (fault.Uncleared pv moment)) takes cause images carried handed there base base_is version finds ended at_end =
          let passed : Passed inputs = record { takes = (takes tt).0; back = (takes tt).1; passes = cause.0; keeps = images tt } in (
            answered_cleared handed there base base_is ended at_end passed false carried.0 (answer.PvFailed pv) (Some moment) tt
                (took_uncleared (commits inputs) carried.0.made.steps new.steps moment carried.2 carried.1),
            λ took. members (run handed there base base_is ended at_end) false (start handed there base base_is ended at_end) ended
                (run_cleared handed there base base_is ended at_end passed false carried.0) carried.2,
          )

    by_result : (result : Result Found RepairFault) → IsWholeAgain result
        → MatchResult result (IsRepaired found mid done_at) (IsRepairFault found mid done_at)
        → BetweenRecords (Repairs (repair_batches found) result) mid.told done_at.told
        → (HasRepairBegun result → StraysAreOthers found → RepairKeepsImages found) → (outcome : Outcome) (took : Option ℕ)
        → GoesOn names line now result done_at outcome took new → Keeps outcome took
    by_result (Err why) whole cause told keeps outcome took goes =
        subst (λ (o : Outcome). Keeps o took) (sym goes.0)
        (subst (λ (t : Option ℕ). Keeps (Ended (ending_of why)) t) (sym goes.1) (ended_by why cause told keeps goes.2))
    by_result (Ok r) whole cause told keeps outcome took goes =
        let same : r ≡ repaired_of found = cause.now in
        let carried : IsCarriedOut (repaired_of found) names line now done_at outcome took new =
        subst (λ (f : Found). IsCarriedOut f names line now done_at outcome took new) same goes in
        let w = carried.carried in
        let inputs : Inputs = record { given = w.given; backup = carried.backup } in
        subst (λ (o : Outcome). Keeps o took) (sym carried.is)
        (subst (λ (t : Option ℕ). Keeps (outcome_of carried.result) t) (sym carried.took_is)
        (line_by (subst (IsRepaired found mid done_at) same cause) told (keeps tt) (subst HasShape same whole.0)
        (subst IsWhole same whole.1) inputs carried.result
        (λ judged. (w.takes judged, carried.given_back judged)) w.cause w.images w.told))

  pub kept_changed : old.steps ≤ mid.steps → (new : State) (outcome : Outcome) (begun : ℕ) (took : Option ℕ) → IsTold new
      → IsChanged found names line now mid outcome begun took new
      → IsEntered names now old (journal_by begun took new.steps outcome) (lines_by line outcome) new
  kept_changed opening new outcome begun took told_new c =
      let later : old.steps ≤ c.mid.steps = omega (arith, opening, c.again.later) in
      let between : LiesBetween c.mid.steps took new.steps = goes_between names line now c.result c.mid outcome took new c.goes in
      record {
        unbegun = run_unbegun line outcome old.steps begun took new.steps;
        in_time =
            subst (λ (n : ℕ). AreInTime (begun_from (lines_by line outcome) old.steps new.steps) (journal_by n took new.steps outcome)
            new.steps) (sym c.begun_is)
            (run_in_time line outcome old.steps c.mid.steps took new.steps
            (omega (arith, later, lies_whole c.mid.steps took new.steps between))
            (subst (λ (alone : Bool). (if alone then new.steps else old.steps) ≤ c.mid.steps)
            (sym (planned_writes line.id line.command planned)) later) between);
        promise =
            subst (λ (n : ℕ). KeepsPromise names now old (journal_by n took new.steps outcome) (lines_by line outcome) new) (sym c.begun_is)
            (by_result c.mid new (record { record_is = c.follows; steps = c.steps }) told_new c.result c.whole c.cause c.told c.images
            outcome took c.goes);
      }
