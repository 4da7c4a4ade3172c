-- A run that only looks at its disks has its history.
use Rattle.std.specs.Prelude.{is_some}
use Rattle.std.proofs.Common.{◌≡◌, ◌≤◌, ℕ, ◌-◌, true, false, List, [], ◌∷◌, ◌++◌, length, take, Some, None, refl, sym, subst, arith}
use Rattle.command_table.specs.Options.{Word}
use Rattle.line_answers.specs.declared.answer.Answer.{Answer}
use Rattle.line_answers.specs.declared.answer.Answer.TheVariants as answer
use Rattle.lvm_script.specs.declared.line.Line.{Line}
use Rattle.data_lines.specs.DataLines.{is_command}
use Rattle.disk_model.proofs.StepsSince.{steps_joined}
use Rattle.disk_model.specs.CrashValues.{IsImage}
use Rattle.disk_model.specs.Durability.{IsBase}
use Rattle.disk_model.specs.Moments.{at_moment}
use Rattle.disk_model.specs.Order.{WritesNothing}
use Rattle.disk_model.specs.Steps.{Image, Step, Record, steps_on}
use Rattle.image_scans.specs.Laws.{none_out}
use Rattle.vg_scan.specs.Versions.{FindsVersion}
use Rattle.volume_history.proofs.SingleLines.{done_line, no_line, undone_line}
use Rattle.volume_history.specs.Chronicles.{ChronicleEntry, Origin, pending}
use Rattle.volume_history.specs.Commands.{commits, is_created_at, is_good, may_say}
use Rattle.volume_history.specs.Placed.{volumes_of}
use Rattle.volume_history.specs.Laws.{Tells}
use Rattle.volume_history.specs.Runs.{journal_of, lines_of}
use Rattle.volume_history.specs.Single.{LeavesDisk, StaysLaw, answered_entries, taken_entries}
use Rattle.line_history.proofs.Finding.{image_of_base}
use Rattle.line_history.proofs.Images.{quiet_base}
use Rattle.line_history.proofs.Origins.{origin, still}
use Rattle.line_history.proofs.Seen.{part, steps_more, told_then}
use Rattle.line_history.proofs.Settled.{none_pending}
use Rattle.line_history.proofs.Stays.{all_stay}
use Rattle.line_history.proofs.Unwritten.{newest, none_written, nothing_first, nothing_newer, nothing_older}
use Rattle.line_history.specs.Histories.{HasRunHistory, IsFineOrBad, LooksAlone, journal_of_line, took_if}

module _ (handed : Record) (sizes : List ℕ) (names : List Word) (clock : ℕ) (start ended : Record) (l : LooksAlone handed sizes start ended)
  where
    all_steps : ended ≡ steps_on (l.since ++ l.first) handed
    all_steps = steps_joined handed start ended l.first l.since l.opening l.steps

    base_at : (m : ℕ) → length handed.steps ≤ m → m ≤ length ended.steps → IsBase (at_moment m ended) l.base
    base_at m ge le =
        let newer : List Step = part handed ended (l.since ++ l.first) all_steps m ge le in
        subst (λ (t : Record). IsBase t l.base) (sym (told_then handed ended (l.since ++ l.first) all_steps m ge le))
        (quiet_base handed (steps_on newer handed) newer refl (nothing_older (length ended.steps - m) (l.since ++ l.first) l.nothing) l.base
        l.base_is)

    more : length handed.steps ≤ length ended.steps
    more = steps_more handed ended (l.since ++ l.first) all_steps

    more_before : length handed.steps ≤ length start.steps
    more_before = steps_more handed start l.first l.opening

    more_behind : length start.steps ≤ length ended.steps
    more_behind = steps_more start ended l.since l.steps

    start_base : IsBase start l.base
    start_base =
        subst (λ (t : Record). IsBase t l.base) (sym l.opening)
        (quiet_base handed (steps_on l.first handed) l.first refl (nothing_first l.since l.first l.nothing) l.base l.base_is)

    finds_at : (m : ℕ) → length handed.steps ≤ m → m ≤ length ended.steps → (image : Image) → IsImage (at_moment m ended) image
        → FindsVersion sizes image none_out l.version
    finds_at m ge le image is =
        subst (λ (i : Image). FindsVersion sizes i none_out l.version)
        (sym (image_of_base (at_moment m ended) l.base image (base_at m ge le) is)) l.finds

    abbrev origin_is : Origin
    origin_is =
        origin handed start ended l.first l.since l.opening l.steps l.record_is l.base l.base l.base_is start_base sizes names clock
        l.version

    stays : StaysLaw origin_is
    stays = record {
      still =
          still handed start ended l.first l.since l.opening l.steps l.record_is l.base l.base l.base_is start_base sizes names clock
          l.version
          (λ m ge le image is. finds_at m ge (omega (arith, le, more_behind)) image is)
          (λ m ge le. all_stay l.base (at_moment m ended) (base_at m ge le) (volumes_of l.version)) l.finds;
      after = λ m ge le. finds_at m (omega (arith, ge, more_before)) le;
    }

    nothing_since : WritesNothing (take (length ended.steps - length start.steps) ended.steps)
    nothing_since = subst WritesNothing (sym (newest start ended l.since l.steps)) (nothing_newer l.since l.first l.nothing)

    leaves : (line : Line) → LeavesDisk origin_is line
    leaves line disk created =
        none_written (is_created_at sizes line.command disk) (take (length ended.steps - length start.steps) ended.steps) nothing_since

    -- what has no pending command at its end
    told_so : (es : List ChronicleEntry) → Tells origin_is es → is_some (pending es) ≡ false
        → HasRunHistory handed l.base sizes names clock ended (journal_of es) (lines_of es es)
    told_so es = none_pending handed l.base sizes names clock ended (length start.steps) l.version es

    pub looks : HasRunHistory handed l.base sizes names clock ended [] []
    looks = told_so [] (no_line origin_is stays) refl

    module _ (line : Line) (plain : is_command line.command ≡ true) (none : commits line.command ≡ false) where
      answered : (said : Answer) → is_good said ≡ false → may_say line.command said ≡ true
          → Tells origin_is (answered_entries origin_is line said)
      answered said bad says = undone_line origin_is line stays plain (leaves line) said (λ removing. nothing_since) bad says

      undone : (said : Answer) → is_good said ≡ false → may_say line.command said ≡ true
          → HasRunHistory handed l.base sizes names clock ended (journal_of_line (length start.steps) None (length ended.steps))
          ((line, Some said) ∷ [])
      undone said bad says = told_so (answered_entries origin_is line said) (answered said bad says) refl

      pub reports : (said : Answer) → IsFineOrBad said → may_say line.command said ≡ true
          → HasRunHistory handed l.base sizes names clock ended
          (journal_of_line (length start.steps) (took_if said (length ended.steps)) (length ended.steps)) ((line, Some said) ∷ [])
      reports answer.Fine may says =
          told_so (taken_entries origin_is line) (done_line origin_is line stays plain (leaves line) none says) refl
      reports (answer.Read sectors) may says = undone (answer.Read sectors) may says
      reports (answer.Listed volumes) may says = undone (answer.Listed volumes) may says
      reports (answer.Refused refusal) may says = undone (answer.Refused refusal) may says
      reports (answer.ReadFailed pv) may says = undone (answer.ReadFailed pv) may says
      reports (answer.PvFailed pv) may says = undone (answer.PvFailed pv) may says
      reports (answer.Fenced pv) may says = undone (answer.Fenced pv) may says
      reports (answer.Stopped pv) may says = undone (answer.Stopped pv) may says
      reports answer.Aborted may says = undone answer.Aborted may says
      reports answer.NoMemory may says = undone answer.NoMemory may says
