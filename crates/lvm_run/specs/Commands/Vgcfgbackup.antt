-- vgcfgbackup(8) of the group in force: its metadata, as a backup.
use Rattle.std.specs.Prelude.{◌≡◌, false, nat_eq, if◌then◌else◌, [], Option, Some, None}
use Rattle.std.specs.Option.{option_map_or}
use Rattle.std.specs.Cmp.Lexicographic.{pointwise}
use Rattle.command_table.specs.Commands.{changes}
use Rattle.command_table.specs.Options.{Word}
use Rattle.command_table.specs.declared.command.Command.TheVariants as command
use Rattle.line_answers.specs.declared.op_refusal.OpRefusal.{OpRefusal}
use Rattle.line_answers.specs.declared.op_refusal.OpRefusal.TheVariants.{UnknownGroup}
use Rattle.conf_text.specs.Printed.{printed}
use Rattle.meta_model.specs.Standing.{HasTree}
use Rattle.meta_model.specs.declared.group.Group.{Group}
use Rattle.meta_print.specs.Layout.{backup_of}
use Rattle.vg_scan.specs.Scans.{AreFewReads}
use Rattle.lvm_run.specs.CommandSpec.{CommandSpec, AtDisks, group_in, no_inputs}
use Rattle.lvm_run.specs.Scan.{FindsWhole}

-- no group is in force that has the name
abbrev pub unknown_group : Option Group → Word → Option OpRefusal
unknown_group group vg =
    if option_map_or (λ (group : Group). pointwise nat_eq group.name vg) group false then None else Some (UnknownGroup vg)

-- it scans the disks, and prints the backup of the group in force, which is whole, at the time of the run
abbrev pub vgcfgbackup : Word → CommandSpec
vgcfgbackup vg = record {
  flushes = changes (command.Vgcfgbackup vg);
  looks = AtDisks;
  scan = λ context image unread scanned. FindsWhole image context.sizes unread scanned;
  takes = λ context found given. given ≡ no_inputs;
  refusal = λ context found given. unknown_group (group_in found) vg;
  repairs = λ found. [];
  stuck = λ found. None;
  zeros = λ context found given. [];
  batches = λ context found given. [];
  clears = λ context found given. [];
  keeps = λ context found given base image. ⊥;
  reads = λ context image spans. AreFewReads image context.sizes spans;
  finds = λ context found given image. ⊥;
  clearing = λ context found given base image. ⊥;
  cleared = λ context found given image. ⊥;
  reports =
      λ context found image text. (group : Group) × (group_in found ≡ Some group) × HasTree group
      × (text ≡ printed (backup_of group context.now));
}
