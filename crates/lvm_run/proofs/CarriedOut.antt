-- Each exit of a command that changes something.
use Rattle.std.proofs.Common.{◌≡◌, ◌<◌, ℕ, ◌^◌, Bool, true, false, List, length, take, Option, Some, None, ⊎_elim, refl, sym, ap, subst}
use Rattle.std.proofs.Common.{◌∙◌, arith}
use Rattle.std.specs.FinSet as set
use Rattle.std.specs.Prelude.{All, IsTrue, Result, Ok, Err, MatchResult, is_some}
use Rattle.command_table.specs.Options.{Word}
use Rattle.command_table.specs.Values.{is_disk_name}
use Rattle.command_table.specs.declared.command.Command.{Command}
use Rattle.line_answers.specs.declared.answer.Answer.{Answer}
use Rattle.line_answers.specs.declared.answer.Answer.TheVariants as answer
use Rattle.line_answers.specs.declared.answer.Answer.TheVariants.{Fine, PvFailed}
use Rattle.line_answers.specs.declared.op_refusal.OpRefusal.{OpRefusal}
use Rattle.lvm_script.specs.declared.line.Line.{Line}
use Rattle.disk_model.proofs.IdleAgain.{again_both}
use Rattle.disk_model.specs.Durability.{IsBase}
use Rattle.disk_model.specs.Record.{IsRecord}
use Rattle.disk_model.proofs.NowStands.{now_base}
use Rattle.disk_model.specs.Faults.{HasSameFaults}
use Rattle.disk_model.specs.Idle.{IsIdleAgain}
use Rattle.disk_model.specs.Moments.{EveryImageSince}
use Rattle.disk_model.specs.Since.{BetweenRecords}
use Rattle.disk_model.specs.State.{State}
use Rattle.disk_model.specs.Steps.{Image, Record, now_after}
use Rattle.disk_model.proofs.EveryMoment.{since_weaken}
use Rattle.disk_model.proofs.LastFault.{same_faults_both}
use Rattle.disk_model.proofs.StepsSince.{between_both, between_weaker}
use Rattle.disk_batch.proofs.InTurn.{of_submitted}
use Rattle.disk_batch.specs.InTurn.{HasFirstBatches, Put, WritesInTurn, with_batches}
use Rattle.vg_found.specs.Shape.{HasShape}
use Rattle.vg_found.specs.Whole.{IsWhole}
use Rattle.vg_found.specs.declared.found.Found.{Found}
use Rattle.vg_scan.specs.Scans.{HoldsNow, IsScanOf}
use Rattle.group_plan.specs.declared.state.GroupState.{GroupState}
use Rattle.lv_plans.specs.Allocating.{Takes}
use Rattle.group_ops.specs.Laws.{state_in}
use Rattle.group_ops.specs.Planning.{IsBackupOf, IsPlanned, asks_of, change_of, refusal_of}
use Rattle.group_ops.proofs.WholeState.{whole_is_state}
use Rattle.change_batches.specs.Laws.{ShowsEntries}
use Rattle.vg_change.specs.LineBatches.{batches_of, clears_of, zeros_of}
use Rattle.vg_change.specs.CarryingOut.{Carries, ClearsBehind, HasBegun, HasJudged, IsFault, KeepsImages, WritesBehind}
use Rattle.vg_change.specs.declared.fault.ChangeFault.{ChangeFault}
use Rattle.vg_change.specs.declared.fault.ChangeFault.TheVariants as fault
use Rattle.vg_repair.proofs.RepairedSizes.{repaired_count}
use Rattle.vg_repair.specs.Batches.{repair_batches}
use Rattle.vg_repair.specs.Repaired.{repaired_of}
use Rattle.vg_repair.specs.Laws.{KeepsImages as RepairKeepsImages, StraysAreOthers}
use Rattle.vg_repair.specs.Repairing.{HasBegun as HasRepairBegun, IsFault as IsRepairFault, IsRepaired, Repairs}
use Rattle.vg_repair.specs.Stale.{too_large}
use Rattle.vg_repair.specs.declared.fault.RepairFault.{RepairFault}
use Rattle.vg_repair.specs.declared.fault.RepairFault.TheVariants as repair
use Rattle.vg_repair.proofs.RepairedEntries.{repaired_entries}
use Rattle.image_scans.proofs.CommitLine.{all_written}
use Rattle.image_scans.proofs.Zeroes.{IsPlannedOn, zeroes_show}
use Rattle.repair_scans.proofs.FoundGroup.{found_group}
use Rattle.repair_scans.proofs.StraysApart.{strays_apart}
use Rattle.line_history.proofs.Seen.{record_before}
use Rattle.lvm_run.specs.Changing.{GoesOn, IsCarriedOut, IsChanged, IsWholeAgain, changing, ending_of, line_in, outcome_of}
use Rattle.lvm_run.specs.CommandSpec.{Context, Finds, Inputs, no_inputs}
use Rattle.lvm_run.specs.Meets.{ChangesDisks, IsJudged, IsTaken, Meets, batches_if, is_done, line_begun}
use Rattle.lvm_run.specs.Scan.{FindsWhole, IsOpenCause, IsOpened, OpensDisks}
use Rattle.lvm_run.specs.declared.ending.Ending.{Ending}
use Rattle.lvm_run.specs.declared.ending.Ending.TheVariants.{WordsRefused, NoMemory, SourceFailed, ScriptTooLong, ScriptRefused}
use Rattle.lvm_run.specs.declared.ending.Ending.TheVariants.{OpenFailed, ScanReadFailed, ScanRefused, DiskInUse, RepairFailed}
use Rattle.lvm_run.specs.declared.ending.Ending.TheVariants.{RepairRefused}
use Rattle.lvm_run.specs.declared.outcome.Outcome.{Outcome}
use Rattle.lvm_run.specs.declared.outcome.Outcome.TheVariants.{Ended, Answered}
use Rattle.lvm_run.proofs.ChangedDisks.{looks, none_begun, none_in_turn, unpassed, untrue, unwritten}
use Rattle.lvm_run.proofs.FlushedAndScanned.{same_image}
use Rattle.lvm_run.proofs.ScannedEntries.{scan_names}

module _ (names : List Word) (command : Command) (id : Option (List ℕ)) (time : ℕ) (old : State) where
  abbrev context : Context
  context = record { names = names; sizes = old.sizes; id = id; now = time }

  abbrev here : Line
  here = line_in context command

  abbrev Does : Inputs → Outcome → Record → Record → Type 0
  Does given outcome = ChangesDisks (changing command) context given outcome

  -- the disks weren't taken
  pub meets_unopened : (new : State) (ending : Ending) → IsIdleAgain old new → IsOpenCause old new ending
      → BetweenRecords (λ a b. OpensDisks old.sizes a false b) old.told new.told
      → Meets (changing command) context old (Ended ending) new
  meets_unopened new WordsRefused again cause opens = absurd cause
  meets_unopened new SourceFailed again cause opens = absurd cause
  meets_unopened new ScriptTooLong again cause opens = absurd cause
  meets_unopened new (ScriptRefused line fault place) again cause opens = absurd cause
  meets_unopened new NoMemory again cause opens = record {
    given = no_inputs;
    cause = tt;
    told = between_weaker (λ a b. OpensDisks old.sizes a false b) (Does no_inputs (Ended NoMemory)) old.told new.told
        (λ a b o. looks (changing command) context no_inputs (Ended NoMemory) refl refl refl None a b (λ taken. absurd (cc)) o) opens;
    again = again;
  }
  meets_unopened new (OpenFailed pv) again cause opens = record {
    given = no_inputs;
    cause = (refl, cause);
    told = between_weaker (λ a b. OpensDisks old.sizes a false b) (Does no_inputs (Ended (OpenFailed pv))) old.told new.told
        (λ a b o. looks (changing command) context no_inputs (Ended (OpenFailed pv)) refl refl refl None a b (λ taken. absurd (cc)) o)
        opens;
    again = again;
  }
  meets_unopened new (ScanReadFailed pv) again cause opens = record {
    given = no_inputs;
    cause = (λ judged. absurd (cc), cause);
    told = between_weaker (λ a b. OpensDisks old.sizes a false b) (Does no_inputs (Ended (ScanReadFailed pv))) old.told new.told
        (λ a b o. looks (changing command) context no_inputs (Ended (ScanReadFailed pv)) refl refl refl None a b (λ taken. absurd (cc)) o)
        opens;
    again = again;
  }
  meets_unopened new (ScanRefused refusal whole) again cause opens = record {
    given = no_inputs;
    cause = cause;
    told = between_weaker (λ a b. OpensDisks old.sizes a false b) (Does no_inputs (Ended (ScanRefused refusal whole))) old.told new.told
        (λ a b o. looks (changing command) context no_inputs (Ended (ScanRefused refusal whole)) refl refl refl None a b
        (λ taken. absurd (cc)) o) opens;
    again = again;
  }
  meets_unopened new (DiskInUse pv) again cause opens = absurd cause
  meets_unopened new (RepairFailed pv) again cause opens = absurd cause
  meets_unopened new (RepairRefused pv need room) again cause opens = absurd cause

  -- they were taken as this was found
  module _ (found : Found) (mid : State) (opened : IsOpened old found mid) (idle : IsIdleAgain old mid)
      (opens : BetweenRecords (λ a b. OpensDisks old.sizes a true b) old.told mid.told)
      (follows : (told : Record) → old.told ≡ Some told → IsRecord told.steps) where
    abbrev Held : Image → Type 0
    Held image = FindsWhole image old.sizes set.empty (Finds (Some found))

    scanned : HoldsNow old.told Held
    scanned = go old.told opened.now
      where
        go : (o : Option Record) → HoldsNow o (λ image. IsScanOf image old.sizes found) → HoldsNow o Held
        go None h = tt
        go (Some t) h = (h, opened.whole.read, opened.whole)

    held_now : (told : Record) → old.told ≡ Some told → Held (now_after told.opened told.steps)
    held_now told is = subst (λ (x : Option Record). HoldsNow x Held) is scanned

    taken : (stuck : Option (ℕ × ℕ × ℕ)) → too_large found ≡ stuck → IsTaken (changing command) context old (Some found) stuck
    taken stuck is = record { scanned = scanned; stuck_is = is }

    -- ---- the repair ended the run
    module _ (new : State) (again : IsIdleAgain mid new) where
      meets_fault : (why : RepairFault) → IsRepairFault found mid new why
          → BetweenRecords (Repairs (repair_batches found) (Err why)) mid.told new.told
          → Meets (changing command) context old (Ended (ending_of why)) new
      meets_fault repair.NoMemory cause told = record {
        given = no_inputs;
        cause = tt;
        told =
            between_both (λ a b. OpensDisks old.sizes a true b) (λ a b. b ≡ a) (Does no_inputs (Ended NoMemory)) old.told mid.told new.told
            (λ a m b o e. looks (changing command) context no_inputs (Ended NoMemory) refl refl refl None a b (λ t. absurd (cc))
            (subst (λ (t : Record). OpensDisks old.sizes a false t) (sym e) (unpassed old.sizes a m o)))
            opens told;
        again = again_both old mid new idle again;
      }
      meets_fault (repair.Pv pv) cause told = record {
        given = no_inputs;
        cause = (refl, Some found, taken None cause.0, subst (λ (n : ℕ). n < new.faults pv) (opened.faults pv) cause.1);
        told = λ before is.
            let o = opens before is in
            let w = told o.0 o.1 in (
              w.0,
              w.1,
              unwritten (changing command) context no_inputs (Ended (RepairFailed pv)) refl (Some found) before o.0 w.0 w.0
                  (λ t. held_now before is) o.2 w.2 (λ begun. absurd (cc)) (none_in_turn w.0 false),
            );
        again = again_both old mid new idle again;
      }
      meets_fault (repair.TooLarge pv need room) cause told = record {
        given = no_inputs;
        cause = (refl, same_faults_both old mid new opened.faults cause.0, Some found, taken (Some (pv, need, room)) cause.1);
        told = λ before is.
            let o = opens before is in
            let w = told o.0 o.1 in (
              w.0,
              w.1,
              looks (changing command) context no_inputs (Ended (RepairRefused pv need room)) refl refl refl (Some found) before w.0
                  (λ t. held_now before is)
                  (subst (λ (t : Record). OpensDisks old.sizes before true t) (sym w.2) o.2),
            );
        again = again_both old mid new idle again;
      }

    -- ---- all was repaired
    module _ (planned : IsPlanned id command) (early : time < 2 ^ 48) (count : length names ≡ length found.disks)
        (named : All (λ name. is_disk_name name ≡ true) names) (done new : State) (again : IsIdleAgain mid done)
        (repaired : IsRepaired found mid done (repaired_of found))
        (repairs : BetweenRecords (λ a b. WritesInTurn a (repair_batches found) true b) mid.told done.told)
        (images_kept : StraysAreOthers found → RepairKeepsImages found) (given : Inputs) where
      abbrev state : GroupState
      state = state_in (repaired_of found) names given.backup

      abbrev zeros : List (List Put)
      zeros = zeros_of state here time given.given

      abbrev batches : List (List Put)
      batches = batches_of state here time given.given

      abbrev clears : List (List Put)
      clears = clears_of state here time given.given

      -- it takes this
      abbrev IsTakenBy : Type 0
      IsTakenBy = Takes (asks_of state here) given.given × IsBackupOf command given.backup

      judged : (refusal : Option OpRefusal) → IsTakenBy → refusal_of state here time given.given ≡ refusal
          → IsJudged (changing command) context given old refusal
      judged refusal takes is = (Some found, taken None repaired.fits, takes, is)

      faults_since : HasSameFaults old done
      faults_since = same_faults_both old mid done opened.faults repaired.faults

      -- the entries of the areas stand in every base once all was repaired
      entries_now : (told : Record) → old.told ≡ Some told → ShowsEntries found.areas (now_after told.opened told.steps)
      entries_now told is =
          scan_names (now_after told.opened told.steps) old.sizes found
          (subst (λ (o : Option Record). HoldsNow o (λ image. IsScanOf image old.sizes found)) is opened.now)

      module _ (before : Record) (is : old.told ≡ Some before) where
        abbrev look : Record
        look = (opens before is).0

        abbrev start : Record
        start = (repairs look (opens before is).1).0

        start_told : done.told ≡ Some start
        start_told = (repairs look (opens before is).1).1

        written : WritesInTurn look (repair_batches found) true start
        written = (repairs look (opens before is).1).2

        -- what a read gives at the start
        now_start : now_after start.opened start.steps ≡ with_batches (repair_batches found) (now_after before.opened before.steps)
        now_start =
            same_image (now_after start.opened start.steps) (with_batches (repair_batches found) (now_after look.opened look.steps))
            (written.now refl)
            ∙ ap (λ (image : Image). with_batches (repair_batches found) image)
            (same_image (now_after look.opened look.steps) (now_after before.opened before.steps) (opens before is).2.same)

        entries_start : ShowsEntries (repaired_of found).areas (now_after start.opened start.steps)
        entries_start =
            subst (λ (image : Image). ShowsEntries (repaired_of found).areas image) (sym now_start)
            (repaired_entries found opened.shape (images_kept
            (strays_apart (now_after before.opened before.steps) old.sizes found (held_now before is).0))
            (now_after before.opened before.steps) (entries_now before is))

      module _ (again_line : IsIdleAgain done new) (record_new : (told : Record) → new.told ≡ Some told → IsRecord told.steps) where
        again_all : IsIdleAgain old new
        again_all = again_both old done new (again_both old mid done idle again) again_line

        -- nothing of its own was written
        module _ (said : Answer) (unlined : line_begun (Answered 1 said) ≡ false) (undone : is_done (Answered 1 said) ≡ false) where
          judged_alone : BetweenRecords (λ a b. b ≡ a) done.told new.told → BetweenRecords (Does given (Answered 1 said)) old.told new.told
          judged_alone same before is =
              let l = same (start before is) (start_told before is) in (
                l.0,
                l.1,
                subst (λ (t : Record). Does given (Answered 1 said) before t) (sym l.2)
                    (unwritten (changing command) context given (Answered 1 said) undone (Some found) before (look before is)
                    (start before is) (start before is) (λ t. held_now before is) (opens before is).2 (written before is)
                    (λ begun. absurd (untrue (line_begun (Answered 1 said)) unlined begun))
                    (none_begun (line_begun (Answered 1 said)) false zeros (start before is) unlined)),
              )

        -- its zeros were written, its other batches as far as they came, and disks cleared behind these
        module _ (shape : HasShape (repaired_of found)) (whole : IsWhole (repaired_of found)) (takes : IsTakenBy)
            (passes : refusal_of state here time given.given ≡ None)
            (images : KeepsImages state here time given.given) (before : Record) (is : old.told ≡ Some before) (made : Record)
            (record_made : IsRecord made.steps) (well : Bool) (w : WritesBehind zeros batches well (start before is) made) where
          -- the entries of the areas stand in every base then
          entries_zeroed : ShowsEntries (repaired_of found).areas (now_after w.zeroed.opened w.zeroed.steps)
          entries_zeroed =
              let on : IsPlannedOn (repaired_of found) names given.backup here time given.given = record {
                shape = shape;
                whole = whole;
                state = whole_is_state (repaired_of found) names given.backup shape whole (count ∙ sym (repaired_count found)) named;
                held = found_group (now_after before.opened before.steps) old.sizes found (held_now before is).0;
                planned = planned;
                time = early;
                takes = takes.0;
                passes = passes;
              }
              in
              let base : Image = now_after (start before is).opened (start before is).steps in
              subst (λ (image : Image). ShowsEntries (repaired_of found).areas image)
              (sym (same_image (now_after w.zeroed.opened w.zeroed.steps) (with_batches zeros base) (w.first.now refl)))
              (zeroes_show (repaired_of found) names given.backup here time given.given on base (with_batches zeros base)
              (all_written zeros base) (entries_start before is))

          entries_base : (base : Image) → IsBase w.zeroed base → ShowsEntries (repaired_of found).areas base
          entries_base base base_is =
              let record_is : IsRecord w.zeroed.steps = record_before w.zeroed made w.behind.since w.behind.steps record_made in
              subst (λ (image : Image). ShowsEntries (repaired_of found).areas image)
              (same_image (now_after w.zeroed.opened w.zeroed.steps) base (now_base w.zeroed base record_is base_is)) entries_zeroed

          kept : (base : Image) → IsBase w.zeroed base
              → EveryImageSince (length w.zeroed.steps) made ((changing command).keeps context (Some found) given base)
          kept base base_is =
              since_weaken made (length w.zeroed.steps) (length w.zeroed.steps) (HasFirstBatches (take w.behind.submitted batches) base)
              ((changing command).keeps context (Some found) given base) (omega arith)
              (λ image has. (
                found,
                refl,
                images.kept base image (entries_base base base_is)
                    (of_submitted w.behind.submitted batches base image has),
              ))
              (w.behind.every_image base base_is)

          found_there : well ≡ true → (changing command).finds context (Some found) given (now_after made.opened made.steps)
          found_there went =
              subst (λ (image : Image). (changing command).finds context (Some found) given image)
              (sym (same_image (now_after made.opened made.steps) (with_batches batches (now_after w.zeroed.opened w.zeroed.steps))
              (w.behind.now went)))
              (found, refl, images.found (now_after w.zeroed.opened w.zeroed.steps) entries_zeroed)

          module _ (after : Record) (cleared : Bool) (c : WritesInTurn made clears cleared after) where
            kept_clearing : (base : Image) → IsBase made base
                → EveryImageSince (length made.steps) after ((changing command).clearing context (Some found) given base)
            kept_clearing base base_is =
                since_weaken after (length made.steps) (length made.steps) (HasFirstBatches (take c.submitted clears) base)
                ((changing command).clearing context (Some found) given base) (omega arith)
                (λ image has. (found, refl, images.clears.kept base image (of_submitted c.submitted clears base image has)))
                (c.every_image base base_is)

            cleared_there : cleared ≡ true → (changing command).cleared context (Some found) given (now_after after.opened after.steps)
            cleared_there went =
                subst (λ (image : Image). (changing command).cleared context (Some found) given image)
                (sym (same_image (now_after after.opened after.steps) (with_batches clears (now_after made.opened made.steps))
                (c.now went)))
                (found, refl, images.clears.done (now_after made.opened made.steps))

          -- so the disks were changed, by what it was answered
          written_behind : (said : Answer) → line_begun (Answered 1 said) ≡ true → (after : Record)
              → WritesInTurn made (batches_if well clears) (is_done (Answered 1 said)) after
              → (IsTrue (is_done (Answered 1 said)) → IsTrue well) → Does given (Answered 1 said) before after
          written_behind said begun after c all =
              let clears_if : IsTrue well → WritesInTurn made clears (is_done (Answered 1 said)) after =
              λ went. subst (λ (b : Bool). WritesInTurn made (batches_if b clears) (is_done (Answered 1 said)) after) went c
              in
              record {
                found = Some found;
                scanned = λ t. held_now before is;
                opened = look before is;
                opening = (opens before is).2;
                start = start before is;
                repair = written before is;
                takes = λ b. takes;
                zeroed = w.zeroed;
                ready = true;
                zeros = subst (λ (b : Bool). WritesInTurn (start before is) (batches_if b zeros) true w.zeroed) (sym begun) w.first;
                begun = λ ready. begun;
                made = made;
                written = well;
                line = w.behind;
                ready_then = λ went. refl;
                keeps = λ ready. kept;
                found_after = found_there;
                clears = c;
                all = all;
                clearing = λ went. kept_clearing after (is_done (Answered 1 said)) (clears_if went);
                cleared_after = λ done'. cleared_there after (is_done (Answered 1 said)) (clears_if (all done')) done';
              }

        module _ (shape : HasShape (repaired_of found)) (whole : IsWhole (repaired_of found)) where
          -- all was written, and disks were cleared as far as that came
          cleared_behind : (said : Answer) → line_begun (Answered 1 said) ≡ true → IsTakenBy → refusal_of state here time given.given ≡ None
              → KeepsImages state here time given.given
              → ClearsBehind zeros batches clears (is_done (Answered 1 said)) done new
              → BetweenRecords (Does given (Answered 1 said)) old.told new.told
          cleared_behind said begun takes passes images c before is =
              let m = c.first (start before is) (start_told before is) in
              let l = c.behind m.0 m.1 in (
                l.0,
                l.1,
                written_behind shape whole takes passes images before is m.0
                    (record_before m.0 l.0 l.2.since l.2.steps (record_new l.0 l.1)) true m.2 said begun l.0 l.2 (λ done'. refl),
              )

          meets_by : (result : Result ℕ ChangeFault) → (HasJudged result → IsTakenBy)
              → MatchResult result (λ _. HasSameFaults done new × (refusal_of state here time given.given ≡ None))
              (IsFault state here time given.given done new) → (HasBegun result → KeepsImages state here time given.given)
              → Carries (is_some (change_of state here time given.given).group) zeros batches clears result done new
              → Meets (changing command) context old (outcome_of result) new
          meets_by (Ok moment) takes cause images carried = record {
            given = given;
            cause = (refl, refl, same_faults_both old done new faults_since cause.0, judged None (takes tt) cause.1);
            told = cleared_behind Fine refl (takes tt) cause.1 (images tt) carried.0;
            again = again_all;
          }
          meets_by (Err fault.NoMemory) takes cause images told = record {
            given = given;
            cause = (refl, tt);
            told = judged_alone answer.NoMemory refl refl told;
            again = again_all;
          }
          meets_by (Err (fault.Refused refusal)) takes cause images told = record {
            given = given;
            cause = (refl, same_faults_both old done new faults_since cause.0, judged (Some refusal) (takes tt) cause.1);
            told = judged_alone (answer.Refused refusal) refl refl told;
            again = again_all;
          }
          meets_by (Err (fault.Failed pv)) takes cause images carried = record {
            given = given;
            cause = (refl, refl, judged None (takes tt) cause.0, subst (λ (n : ℕ). n < new.faults pv) (faults_since pv) cause.1);
            told = λ before is.
                ⊎_elim
                (λ told.
                let l = told (start before is) (start_told before is) in (
                  l.0,
                  l.1,
                  ⊎_elim
                      (λ first.
                      unwritten (changing command) context given (Answered 1 (PvFailed pv)) refl (Some found) before (look before is)
                      (start before is) l.0 (λ t. held_now before is) (opens before is).2 (written before is)
                      (λ begun. takes tt) first)
                      (λ behind.
                      written_behind shape whole (takes tt) cause.0 (images tt) before is l.0 (record_new l.0 l.1) false behind
                      (PvFailed pv) refl l.0 (none_in_turn l.0 false) (λ done'. absurd (cc)))
                      l.2,
                ))
                (λ uncleared. cleared_behind (PvFailed pv) refl (takes tt) cause.0 (images tt) uncleared.1 before is)
                carried;
            again = again_all;
          }
          meets_by (Err (fault.Uncleared pv moment)) takes cause images carried = record {
            given = given;
            cause = (refl, refl, judged None (takes tt) cause.0, subst (λ (n : ℕ). n < new.faults pv) (faults_since pv) cause.1);
            told = cleared_behind (PvFailed pv) refl (takes tt) cause.0 (images tt) carried.0;
            again = again_all;
          }

    -- ---- the one or the other
    meets_on : IsPlanned id command → time < 2 ^ 48 → length names ≡ length found.disks → All (λ name. is_disk_name name ≡ true) names
        → (result : Result Found RepairFault) (done new : State) → IsWholeAgain result → IsIdleAgain mid done
        → ((told : Record) → new.told ≡ Some told → IsRecord told.steps)
        → MatchResult result (IsRepaired found mid done) (IsRepairFault found mid done)
        → BetweenRecords (Repairs (repair_batches found) result) mid.told done.told
        → (HasRepairBegun result → StraysAreOthers found → RepairKeepsImages found)
        → (outcome : Outcome) (took : Option ℕ) → GoesOn names here time result done outcome took new
        → Meets (changing command) context old outcome new
    meets_on planned early count named (Err why) done new whole again record_is cause told images outcome took goes =
        subst (λ (o : Outcome). Meets (changing command) context old o new) (sym goes.0)
        (subst (λ (s : State). Meets (changing command) context old (Ended (ending_of why)) s) (sym goes.2)
        (meets_fault done again why cause told))
    meets_on planned early count named (Ok r) done new whole again record_is cause told images outcome took goes =
        let same : r ≡ repaired_of found = cause.now in
        let carried : IsCarriedOut (repaired_of found) names here time done outcome took new =
        subst (λ (f : Found). IsCarriedOut f names here time done outcome took new) same goes in
        let w = carried.carried in
        let given : Inputs = record { given = w.given; backup = carried.backup } in
        subst (λ (o : Outcome). Meets (changing command) context old o new) (sym carried.is)
        (meets_by planned early count named done new again (subst (IsRepaired found mid done) same cause) told (images tt) given
        carried.again record_is (subst HasShape same whole.0) (subst IsWhole same whole.1) carried.result
        (λ judged. (w.takes judged, carried.given_back judged)) w.cause w.images w.told)

    pub meets_changed : IsPlanned id command → time < 2 ^ 48 → length names ≡ length found.disks
        → All (λ name. is_disk_name name ≡ true) names → (outcome : Outcome) (begun : ℕ) (took : Option ℕ) (new : State)
        → ((told : Record) → new.told ≡ Some told → IsRecord told.steps)
        → IsChanged found names here time mid outcome begun took new → Meets (changing command) context old outcome new
    meets_changed planned early count named outcome begun took new record_is changed =
        meets_on planned early count named changed.result changed.mid new changed.whole changed.again record_is changed.cause changed.told
        changed.images outcome took changed.goes
