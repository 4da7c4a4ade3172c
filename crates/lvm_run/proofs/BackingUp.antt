-- vgcfgbackup: a scan, and then the backup of the group or none.
use Rattle.std.proofs.Common.{◌≡◌, ℕ, true, List, [], Option, Some, None, inl, inr, refl, sym, subst}
use Rattle.std.specs.FinSet as set
use Rattle.std.specs.Ordering.{nat_cmp}
use Rattle.command_table.specs.Options.{Word}
use Rattle.line_answers.specs.declared.answer.Answer.TheVariants.{Refused}
use Rattle.line_answers.specs.declared.answer.Answer.TheVariants as answer
use Rattle.line_answers.specs.declared.op_refusal.OpRefusal.TheVariants.{UnknownGroup}
use Rattle.disk_model.proofs.IdleAgain.{again_nothing}
use Rattle.disk_model.specs.Faults.{HasSameFaults}
use Rattle.disk_model.specs.Idle.{IsIdleAgain}
use Rattle.disk_model.specs.Since.{BetweenRecords}
use Rattle.disk_model.specs.State.{State}
use Rattle.conf_text.specs.Printed.{printed}
use Rattle.meta_model.specs.Standing.{HasTree}
use Rattle.meta_model.specs.declared.group.Group.{Group}
use Rattle.meta_print.specs.Layout.{backup_of}
use Rattle.scan_rules.specs.declared.decision.ScanRefusal.{ScanRefusal}
use Rattle.vg_found.specs.declared.found.Found.{Found}
use Rattle.vg_found.specs.declared.whole.NotWhole.{NotWhole}
use Rattle.vg_found.specs.declared.whole.NotWhole.TheVariants.{ReadFailed, Partial as IsPartial}
use Rattle.vg_found.specs.Whole.{IsNotWhole, IsWhole}
use Rattle.vg_scan.specs.Scans.{FailedOn, IsScan, IsScanOf, IsScanRefused, ReadsFew}
use Rattle.lvm_run.specs.declared.ending.Ending.{Ending}
use Rattle.lvm_run.specs.declared.ending.Ending.TheVariants.{NoMemory, ScanReadFailed, ScanRefused}
use Rattle.lvm_run.specs.declared.outcome.Outcome.{Outcome}
use Rattle.lvm_run.specs.declared.outcome.Outcome.TheVariants.{Ended, Answered, Reported}
use Rattle.lvm_run.specs.declared.disks_refusal.DisksRefusal.TheVariants.{Disks, Partial}
use Rattle.lvm_run.specs.Backup.{IsBackedUp, IsGroupBackedUp, IsWholeBackedUp}
use Rattle.lvm_run.specs.CommandSpec.{Context, Finds, Refuses, Lacks, group_in, no_inputs}
use Rattle.lvm_run.specs.Commands.Vgcfgbackup.{vgcfgbackup}
use Rattle.lvm_run.specs.Meets.{DoesToDisks, IsScanned, IsTaken, Meets}
use Rattle.lvm_run.specs.Scan.{FindsWhole}
use Rattle.lvm_run.specs.ScanEndings.{IsEndingOf, partial_ending}
use Rattle.lvm_run.proofs.ChangedDisks.{holds_now_anyway, holds_now_weaker}
use Rattle.lvm_run.proofs.Refusals.{none_failed_on, refused_is}
use Rattle.lvm_run.proofs.Reporting.{nothing_read, scan_reads}

module _ (names : List Word) (id : Option (List ℕ)) (vg : List ℕ) (time : ℕ) (old new : State) (again : IsIdleAgain old new)
    (told : BetweenRecords (ReadsFew old.sizes) old.told new.told) where
  abbrev context : Context
  context = record { names = names; sizes = old.sizes; id = id; now = time }

  does : (outcome : Outcome) → BetweenRecords (DoesToDisks (vgcfgbackup vg) context no_inputs outcome) old.told new.told
  does = scan_reads (vgcfgbackup vg) context old new refl (λ image spans few. few) told

  without_memory : Meets (vgcfgbackup vg) context old (Ended NoMemory) new
  without_memory = record { given = no_inputs; cause = tt; told = does (Ended NoMemory); again = again }

  -- the ending where the scan was refused
  pub backup_ends : (why : ScanRefusal) (unread : set.FinSet nat_cmp) (ending : Ending) → IsScanRefused old why unread new
      → IsEndingOf why unread ending → Meets (vgcfgbackup vg) context old (Ended ending) new
  backup_ends why unread NoMemory is ends = without_memory
  backup_ends why unread (ScanRefused (Disks refusal) whole) is ends =
      let r = refused_is old new why unread ends.1 is in
      let meets : Meets (vgcfgbackup vg) context old (Ended (ScanRefused (Disks why) whole)) new = record {
        given = no_inputs;
        cause = (unread, record { failed = r.1; all = ends.2 }, r.0);
        told = does (Ended (ScanRefused (Disks why) whole));
        again = again;
      } in
      subst (λ (w : ScanRefusal). Meets (vgcfgbackup vg) context old (Ended (ScanRefused (Disks w) whole)) new) (sym ends.0) meets
  backup_ends why unread _ is ends = absurd ends

  module _ (found : Found) (is : IsScan old found new) where
    -- what was found isn't whole
    not_whole : (why : NotWhole) → IsNotWhole found why → Meets (vgcfgbackup vg) context old (Ended (partial_ending found why)) new
    not_whole (ReadFailed pv) unread = record {
      given = no_inputs;
      cause = (
        λ judged. absurd (cc),
        (
          found.unread,
          is.faults,
          holds_now_weaker old.told (λ image. IsScanOf image old.sizes found) (λ image. FindsWhole image old.sizes found.unread (Lacks pv))
              (λ image h. (found, h, refl, unread)) is.now,
        ),
      );
      told = does (Ended (ScanReadFailed pv));
      again = again;
    }
    not_whole IsPartial missing = record {
      given = no_inputs;
      cause = (
        found.unread,
        record { failed = is.faults; all = (λ yes. missing.0, λ none. refl) },
        holds_now_weaker old.told (λ image. IsScanOf image old.sizes found)
            (λ image. FindsWhole image old.sizes found.unread (Refuses (Partial found.missing)))
            (λ image h. (found, h, refl, missing.0, refl, missing.1)) is.now,
      );
      told = does (Ended (ScanRefused (Partial found.missing) true));
      again = again;
    }

    module _ (whole : IsWhole found) where
      scanned : IsScanned (vgcfgbackup vg) context set.empty old (Finds (Some found))
      scanned =
          holds_now_weaker old.told (λ image. IsScanOf image old.sizes found)
          (λ image. IsScanOf image old.sizes found × (found.unread ≡ set.empty) × IsWhole found) (λ image h. (h, whole.read, whole))
          is.now

      taken : IsTaken (vgcfgbackup vg) context old (Some found) None
      taken = record { scanned = scanned; stuck_is = refl }

      no_faults : HasSameFaults old new
      no_faults = none_failed_on found.unread old new whole.read is.faults

      -- the group in force
      of_group : (group : Group) → found.group ≡ Some group → HasTree group → (outcome : Outcome) → IsBackedUp group vg time outcome
          → Meets (vgcfgbackup vg) context old outcome new
      of_group group there stands (Answered line (Refused (UnknownGroup name))) up = record {
        given = no_inputs;
        cause = (up.0, no_faults, (Some found, taken, refl, rw (there, up.2, up.1) refl));
        told = does (Answered line (Refused (UnknownGroup name)));
        again = again;
      }
      of_group group there stands (Reported text all) up = record {
        given = no_inputs;
        cause = (
          refl,
          (
            set.empty,
            Some found,
            record {
              failed = subst (λ (s : set.FinSet nat_cmp). FailedOn s old new) whole.read is.faults;
              all = (λ yes. refl, λ none. up.0);
            },
            scanned,
            rw (there, up.2) refl,
            holds_now_anyway old.told (λ image. (g : Group) × (group_in (Some found) ≡ Some g) × HasTree g
                × (text ≡ printed (backup_of g time))) (λ image. (group, there, stands, up.1)),
          ),
        );
        told = does (Reported text all);
        again = again;
      }
      of_group group there stands (Answered line answer.NoMemory) up =
          record { given = no_inputs; cause = (up, tt); told = does (Answered line answer.NoMemory); again = again }
      of_group group there stands _ up = absurd up

      of_found : (group : Option Group) → found.group ≡ group → (outcome : Outcome) → IsGroupBackedUp group vg time outcome
          → Meets (vgcfgbackup vg) context old outcome new
      of_found (Some group) there outcome up = of_group group there up.0 outcome up.1
      of_found None there outcome up =
          let meets : Meets (vgcfgbackup vg) context old (Answered 1 (Refused (UnknownGroup vg))) new = record {
            given = no_inputs;
            cause = (refl, no_faults, (Some found, taken, refl, rw there refl));
            told = does (Answered 1 (Refused (UnknownGroup vg)));
            again = again;
          } in
          subst (λ (o : Outcome). Meets (vgcfgbackup vg) context old o new) (sym up) meets

    -- the backup of what was found
    pub backup_meets : (outcome : Outcome) → IsWholeBackedUp found vg time outcome → Meets (vgcfgbackup vg) context old outcome new
    backup_meets outcome up =
        elim up [
          | inl w ↦ of_found w.0 found.group refl outcome w.1
          | inr n ↦ subst (λ (o : Outcome). Meets (vgcfgbackup vg) context old o new) (sym n.2) (not_whole n.0 n.1)
        ]

-- memory was wanting before anything was done
pub backup_undone : (names : List Word) (id : Option (List ℕ)) (vg : List ℕ) (time : ℕ) (state : State) → state.in_flight ≡ []
    → Meets (vgcfgbackup vg) (record { names = names; sizes = state.sizes; id = id; now = time }) state (Ended NoMemory) state
backup_undone names id vg time state idle = without_memory names id vg time state state (again_nothing state idle) (nothing_read state)
