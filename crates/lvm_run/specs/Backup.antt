-- The backup of a group that was found.
use Rattle.std.specs.Prelude.{◌≡◌, ◌⊎◌, ℕ, true, false, nat_eq, Option, Some, None}
use Rattle.std.specs.Cmp.Lexicographic.{pointwise}
use Rattle.command_table.specs.Options.{Word}
use Rattle.line_answers.specs.declared.answer.Answer.TheVariants.{NoMemory, Refused}
use Rattle.line_answers.specs.declared.op_refusal.OpRefusal.TheVariants.{UnknownGroup}
use Rattle.conf_text.specs.Printed.{printed}
use Rattle.meta_model.specs.Standing.{HasTree}
use Rattle.meta_model.specs.declared.group.Group.{Group}
use Rattle.meta_print.specs.Layout.{backup_of}
use Rattle.vg_found.specs.declared.found.Found.{Found}
use Rattle.vg_found.specs.declared.whole.NotWhole.{NotWhole}
use Rattle.vg_found.specs.Whole.{IsNotWhole, IsWhole}
use Rattle.lvm_run.specs.ScanEndings.{partial_ending}
use Rattle.lvm_run.specs.declared.outcome.Outcome.{Outcome}
use Rattle.lvm_run.specs.declared.outcome.Outcome.TheVariants.{Ended, Answered, Reported}

-- what a line that asks for the backup of this group comes to, at this time: a group of another name isn't known, and only memory can be
-- wanting
abbrev pub IsBackedUp : Group → Word → ℕ → Outcome → Type 0
IsBackedUp group vg now (Answered line (Refused (UnknownGroup name))) = (line ≡ 1) × (name ≡ vg) × (pointwise nat_eq group.name vg ≡ false)
IsBackedUp group vg now (Reported text whole) =
    (whole ≡ true) × (text ≡ printed (backup_of group now)) × (pointwise nat_eq group.name vg ≡ true)
IsBackedUp group vg now (Answered line NoMemory) = line ≡ 1
IsBackedUp group vg now _ = ⊥

-- the same of what a scan found: one without a group has none of the name
abbrev pub IsGroupBackedUp : Option Group → Word → ℕ → Outcome → Type 0
IsGroupBackedUp (Some group) vg now outcome = HasTree group × IsBackedUp group vg now outcome
IsGroupBackedUp None vg now outcome = outcome ≡ Answered 1 (Refused (UnknownGroup vg))

-- and where it isn't whole it is refused
abbrev pub IsWholeBackedUp : Found → Word → ℕ → Outcome → Type 0
IsWholeBackedUp found vg now outcome =
    (IsWhole found × IsGroupBackedUp found.group vg now outcome)
    ⊎ ((why : NotWhole) × IsNotWhole found why × (outcome ≡ Ended (partial_ending found why)))
