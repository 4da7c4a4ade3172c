-- What a restore reads: the line has a backup of its text.
use Rattle.std.proofs.Common.{◌≡◌, ℕ, true, List, Option, Some, None, refl}
use Rattle.std.specs.Prelude.{is_some}
use Rattle.command_table.specs.declared.command.Command.TheVariants.{Vgcfgrestore}
use Rattle.group_plan.specs.declared.backup.Backup.{Backup}
use Rattle.group_ops.specs.Planning.{IsBackupOf}

pub some_backup : (vg text : List ℕ) (b : Option Backup) → IsBackupOf (Vgcfgrestore vg text) b → is_some b ≡ true
some_backup vg text None is = absurd is
some_backup vg text (Some b) is = refl
