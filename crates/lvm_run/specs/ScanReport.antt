-- A report on what a scan of the disks finds, whatever is missing or unread.
use Rattle.std.specs.Prelude.{◌≡◌, ◌↔◌, ℕ, IsTrue, List, [], Some, None}
use Rattle.std.specs.FinSet as set
use Rattle.command_table.specs.Commands.{changes}
use Rattle.command_table.specs.Options.{Word}
use Rattle.command_table.specs.declared.command.Command.{Command}
use Rattle.command_table.specs.declared.command.Command.TheVariants as command
use Rattle.line_answers.specs.declared.answer.Answer.TheVariants.{NoMemory}
use Rattle.vg_found.specs.declared.found.Found.{Found}
use Rattle.vg_scan.specs.Scans.{AreFewReads}
use Rattle.lvm_report.specs.Reports.{lvs_text, pvs_text, vgck_text, vgs_text}
use Rattle.lvm_run.specs.declared.commands.scan_report.ScanReport.{ScanReport}
use Rattle.lvm_run.specs.declared.commands.scan_report.ScanReport.TheVariants.{Pvs, Vgs, Lvs, Vgck}
use Rattle.lvm_run.specs.declared.outcome.Outcome.{Outcome}
use Rattle.lvm_run.specs.declared.outcome.Outcome.TheVariants.{Answered, Reported}
use Rattle.lvm_run.specs.CommandSpec.{CommandSpec, AtDisks, no_inputs}
use Rattle.lvm_run.specs.Scan.{FindsAnything}

-- the command of a report
abbrev pub command_of : ScanReport → Command
command_of Pvs = command.Pvs
command_of Vgs = command.Vgs
command_of Lvs = command.Lvs
command_of Vgck = command.Vgck

-- its text on what was found, where the disks have these names
abbrev pub text_of : ScanReport → Found → List Word → List ℕ
text_of Pvs found names = pvs_text found names
text_of Vgs found names = vgs_text found
text_of Lvs found names = lvs_text found
text_of Vgck found names = vgck_text found names

-- the command prints the text of what is found; it is never refused
abbrev pub scan_report : ScanReport → CommandSpec
scan_report report = record {
  flushes = changes (command_of report);
  looks = AtDisks;
  scan = λ context image unread scanned. FindsAnything image context.sizes unread scanned;
  takes = λ context found given. given ≡ no_inputs;
  refusal = λ context found given. None;
  repairs = λ found. [];
  stuck = λ found. None;
  zeros = λ context found given. [];
  batches = λ context found given. [];
  clears = λ context found given. [];
  keeps = λ context found given base image. ⊥;
  reads = λ context image spans. AreFewReads image context.sizes spans;
  finds = λ context found given image. ⊥;
  clearing = λ context found given base image. ⊥;
  cleared = λ context found given image. ⊥;
  reports = λ context scanned image text. (found : Found) × (scanned ≡ Some found) × (text ≡ text_of report found context.names);
}

-- what the report on what was found comes to: only memory can be wanting
abbrev pub IsReported : ScanReport → Found → List Word → Outcome → Type 0
IsReported report found names (Reported text whole) = (text ≡ text_of report found names) × (IsTrue whole ↔ (found.unread ≡ set.empty))
IsReported report found names (Answered line NoMemory) = line ≡ 1
IsReported report found names _ = ⊥
