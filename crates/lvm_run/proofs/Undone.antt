-- Memory was wanting before a line was begun.
use Rattle.std.proofs.Common.{◌≡◌, ℕ, List, [], Option, refl, inl, inr}
use Rattle.command_table.specs.Options.{Word}
use Rattle.command_table.specs.declared.command.Command.{Command}
use Rattle.command_table.specs.declared.command.Command.TheVariants.{Fill, Flush, List as ListVolumes, Lvs, Pvck, Pvmove, Pvs, Read, Resync}
use Rattle.command_table.specs.declared.command.Command.TheVariants.{Vgcfgbackup, Vgcfgrestore, Vgck, Vgs, Wait, Write}
use Rattle.command_table.specs.declared.request.Request.{Request}
use Rattle.command_table.specs.declared.request.Request.TheVariants.{One}
use Rattle.lvm_words.proofs.LineNames.{names_of_line}
use Rattle.disk_model.proofs.IdleAgain.{again_nothing}
use Rattle.disk_model.specs.State.{State}
use Rattle.lvm_run.specs.Changing.{changing}
use Rattle.lvm_run.specs.declared.commands.scan_report.ScanReport.TheVariants as report
use Rattle.lvm_run.specs.declared.ending.Ending.TheVariants.{NoMemory}
use Rattle.lvm_run.specs.declared.outcome.Outcome.TheVariants.{Ended}
use Rattle.lvm_run.specs.Meets.{Meets}
use Rattle.lvm_run.specs.Disks.{HasDisks}
use Rattle.lvm_run.specs.Runs.{RunsRequest, RunsWords}
use Rattle.lvm_run.specs.Sourced.{SourceState}
use Rattle.lvm_run.proofs.BackingUp.{backup_undone}
use Rattle.lvm_run.proofs.CarriedOut.{meets_unopened}
use Rattle.lvm_run.proofs.Checking.{meets_undone}
use Rattle.lvm_run.proofs.FlushedAndScanned.{unopened}
use Rattle.lvm_run.proofs.Reporting.{report_undone}

-- a command that changes something
change_undone : (names : List Word) (command : Command) (id : Option (List ℕ)) (now : ℕ) (state : State) → state.in_flight ≡ []
    → Meets (changing command) (record { names = names; sizes = state.sizes; id = id; now = now }) state (Ended NoMemory) state
change_undone names command id now state idle =
    meets_unopened names command id now state state NoMemory (again_nothing state idle) tt
    (λ told is. (told, is, unopened state.sizes told))

-- where the source is to be read, that is why it gave no text
pub undone : (names : List Word) (request : Request) (ids : ℕ → List ℕ) (now : ℕ) (text : List ℕ) (from : SourceState) (state : State)
    → state.in_flight ≡ []
    → RunsRequest names request ids now text from from state (Ended NoMemory) state
undone names (One (Pvck pv)) ids now text from state idle =
    inl (record { source = refl; meets = meets_undone names _ pv now state state idle })
undone names (One (Vgcfgbackup vg)) ids now text from state idle =
    inl (record { source = refl; meets = backup_undone names _ vg now state idle })
undone names (One Pvs) ids now text from state idle =
    inl (record { source = refl; meets = report_undone report.Pvs names _ now state idle })
undone names (One Vgs) ids now text from state idle =
    inl (record { source = refl; meets = report_undone report.Vgs names _ now state idle })
undone names (One Lvs) ids now text from state idle =
    inl (record { source = refl; meets = report_undone report.Lvs names _ now state idle })
undone names (One Vgck) ids now text from state idle =
    inl (record { source = refl; meets = report_undone report.Vgck names _ now state idle })
undone names (One (Vgcfgrestore vg own)) ids now text from state idle =
    inr (record { ending = NoMemory; is = refl; why = tt; nothing = refl })
undone names (One (Pvmove moving)) ids now text from state idle = record { refused = (inr refl, refl); unread = refl }
undone names (One (Read path start count)) ids now text from state idle = record { refused = (inr refl, refl); unread = refl }
undone names (One (Fill path start count value through)) ids now text from state idle = record { refused = (inr refl, refl); unread = refl }
undone names (One (Write path start hex through)) ids now text from state idle = record { refused = (inr refl, refl); unread = refl }
undone names (One (Flush path)) ids now text from state idle = record { refused = (inr refl, refl); unread = refl }
undone names (One ListVolumes) ids now text from state idle = record { refused = (inr refl, refl); unread = refl }
undone names (One Wait) ids now text from state idle = record { refused = (inr refl, refl); unread = refl }
undone names (One (Resync path)) ids now text from state idle = record { refused = (inr refl, refl); unread = refl }
undone names (One command) ids now text from state idle =
    inl (record { source = refl; meets = change_undone names command _ now state idle })
undone names _ ids now text from state idle = record { refused = (inr refl, refl); unread = refl }

-- words of which nothing was done
pub undone_words : (words : List Word) (now : ℕ) (text : List ℕ) (from : SourceState) (ids : ℕ → List ℕ) (state : State)
    → HasDisks words state
    → RunsWords words now text from from ids state (Ended NoMemory) ids state
undone_words words now text from ids state disks = record {
  refused = λ none. (record { refused = (inr refl, refl); unread = refl }, refl);
  lines = λ line is. undone line.names line.request ids now text from state (disks line.names (names_of_line words line is)).idle;
  drawn = λ line is. inr (refl, refl, refl);
}
