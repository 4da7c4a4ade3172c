-- A report on a scan, and the ends of a run whose scan was refused.
use Rattle.std.proofs.Common.{◌≡◌, ℕ, Bool, false, List, [], ◌++◌, Option, Some, refl, sym, subst, inl, arith}
use Rattle.std.proofs.lemmas.List.{append-nil}
use Rattle.std.specs.FinSet as set
use Rattle.std.specs.Ordering.{nat_cmp}
use Rattle.std.specs.Prelude.{◌↔◌, IsTrue}
use Rattle.sector_base.specs.declared.spans.Span.{Span}
use Rattle.command_table.specs.Options.{Word}
use Rattle.command_table.specs.Commands.{changes}
use Rattle.line_answers.specs.declared.answer.Answer.TheVariants as answer
use Rattle.disk_model.proofs.IdleAgain.{again_nothing}
use Rattle.disk_model.specs.Idle.{IsIdleAgain}
use Rattle.disk_model.specs.Since.{BetweenRecords, spans_read}
use Rattle.disk_model.specs.State.{State}
use Rattle.disk_model.specs.Steps.{Image, now_after}
use Rattle.scan_rules.specs.declared.decision.ScanRefusal.{ScanRefusal}
use Rattle.vg_found.specs.declared.found.Found.{Found}
use Rattle.vg_scan.specs.Scans.{AreFewReads, FailedOn, HoldsNow, IsScan, IsScanOf, IsScanRefused, ReadsFew}
use Rattle.lvm_run.specs.declared.commands.scan_report.ScanReport.{ScanReport}
use Rattle.lvm_run.specs.declared.commands.scan_report.ScanReport.TheVariants.{Pvs, Vgs, Lvs, Vgck}
use Rattle.lvm_run.specs.declared.ending.Ending.{Ending}
use Rattle.lvm_run.specs.declared.ending.Ending.TheVariants.{NoMemory, ScanRefused}
use Rattle.lvm_run.specs.declared.outcome.Outcome.{Outcome}
use Rattle.lvm_run.specs.declared.outcome.Outcome.TheVariants.{Answered, Ended, Reported}
use Rattle.lvm_run.specs.declared.disks_refusal.DisksRefusal.TheVariants.{Disks}
use Rattle.lvm_run.specs.CommandSpec.{CommandSpec, Context, no_inputs}
use Rattle.lvm_run.specs.Meets.{DoesToDisks, Meets}
use Rattle.lvm_run.specs.Scan.{IsRefusedFor}
use Rattle.lvm_run.specs.ScanEndings.{IsEndingOf}
use Rattle.lvm_run.specs.ScanReport.{IsReported, command_of, scan_report, text_of}
use Rattle.lvm_run.proofs.ChangedDisks.{holds_now_anyway, holds_now_weaker, reads_disks}
use Rattle.lvm_run.proofs.Refusals.{refused_is}

-- what a scan reads is what the command may read
pub scan_reads : (spec : CommandSpec) (context : Context) (old new : State) → spec.flushes ≡ false
    → ((image : Image) (spans : List Span) → AreFewReads image old.sizes spans → spec.reads context image spans)
    → BetweenRecords (ReadsFew old.sizes) old.told new.told → (outcome : Outcome)
    → BetweenRecords (DoesToDisks spec context no_inputs outcome) old.told new.told
scan_reads spec context old new alone may told outcome before e =
    let r = told before e in (
      r.0,
      r.1,
      reads_disks spec context no_inputs alone outcome before r.0 (spans_read r.2.since) []
          (record { since = r.2.since; steps = r.2.steps; reads = r.2.reads; spans_are = refl })
          (may (now_after before.opened before.steps) (spans_read r.2.since ++ [])
          (subst (λ (l : List Span). AreFewReads (now_after before.opened before.steps) old.sizes l)
          (sym (append-nil (spans_read r.2.since))) r.2.few)),
    )

reads_alone : (report : ScanReport) → changes (command_of report) ≡ false
reads_alone Pvs = refl
reads_alone Vgs = refl
reads_alone Lvs = refl
reads_alone Vgck = refl

module _ (report : ScanReport) (names : List Word) (id : Option (List ℕ)) (time : ℕ) (old new : State) (again : IsIdleAgain old new)
    (told : BetweenRecords (ReadsFew old.sizes) old.told new.told) where
  abbrev context : Context
  context = record { names = names; sizes = old.sizes; id = id; now = time }

  does : (outcome : Outcome) → BetweenRecords (DoesToDisks (scan_report report) context no_inputs outcome) old.told new.told
  does = scan_reads (scan_report report) context old new (reads_alone report) (λ image spans few. few) told

  without_memory : Meets (scan_report report) context old (Ended NoMemory) new
  without_memory = record {
    given = no_inputs;
    cause = tt;
    told = does (Ended NoMemory);
    again = again;
  }

  -- the report on what was found
  pub report_meets : (found : Found) (outcome : Outcome) → IsScan old found new → IsReported report found names outcome
      → Meets (scan_report report) context old outcome new
  report_meets found (Reported text whole) is reported = record {
    given = no_inputs;
    cause = (
      reads_alone report,
      (
        found.unread,
        Some found,
        record { failed = is.faults; all = reported.1 },
        holds_now_weaker old.told (λ image. IsScanOf image old.sizes found)
            (λ image. IsScanOf image old.sizes found × (found.unread ≡ found.unread)) (λ image h. (h, refl)) is.now,
        refl,
        holds_now_anyway old.told (λ image. (f : Found) × (Some found ≡ Some f) × (text ≡ text_of report f names))
            (λ image. (found, refl, reported.0)),
      ),
    );
    told = does (Reported text whole);
    again = again;
  }
  report_meets found (Answered line answer.NoMemory) is reported =
      record { given = no_inputs; cause = (reported, tt); told = does (Answered line answer.NoMemory); again = again }
  report_meets found _ is reported = absurd reported

  refused_meets : (why : ScanRefusal) (unread : set.FinSet nat_cmp) (whole : Bool)
      → HoldsNow old.told (λ image. IsRefusedFor image old.sizes unread why) → FailedOn unread old new
      → IsTrue whole ↔ (unread ≡ set.empty)
      → Meets (scan_report report) context old (Ended (ScanRefused (Disks why) whole)) new
  refused_meets why unread whole now failed all = record {
    given = no_inputs;
    cause = (unread, record { failed = failed; all = all }, now);
    told = does (Ended (ScanRefused (Disks why) whole));
    again = again;
  }

  -- the ending where the scan was refused
  pub ending_meets : (why : ScanRefusal) (unread : set.FinSet nat_cmp) (ending : Ending) → IsScanRefused old why unread new
      → IsEndingOf why unread ending
      → Meets (scan_report report) context old (Ended ending) new
  ending_meets why unread NoMemory is ends = without_memory
  ending_meets why unread (ScanRefused (Disks refusal) whole) is ends =
      let r = refused_is old new why unread ends.1 is in
      subst (λ (w : ScanRefusal). Meets (scan_report report) context old (Ended (ScanRefused (Disks w) whole)) new) (sym ends.0)
      (refused_meets why unread whole r.0 r.1 ends.2)
  ending_meets why unread _ is ends = absurd ends

-- nothing was read yet
pub nothing_read : (state : State) → BetweenRecords (ReadsFew state.sizes) state.told state.told
nothing_read state told e = (told, e, record { since = []; steps = refl; reads = tt; few = λ pv. ([], inl refl, omega arith) })

-- memory was wanting before anything was done
pub report_undone : (report : ScanReport) (names : List Word) (id : Option (List ℕ)) (time : ℕ) (state : State) → state.in_flight ≡ []
    → Meets (scan_report report) (record { names = names; sizes = state.sizes; id = id; now = time }) state (Ended NoMemory) state
report_undone report names id time state idle =
    without_memory report names id time state state (again_nothing state idle) (nothing_read state)
