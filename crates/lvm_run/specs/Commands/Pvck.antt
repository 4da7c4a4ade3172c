-- pvck(8) of one disk: its report.
use Rattle.std.specs.Prelude.{◌≡◌, List, [], ◌∷◌, None}
use Rattle.command_table.specs.Commands.{changes}
use Rattle.command_table.specs.Options.{Word}
use Rattle.command_table.specs.declared.command.Command.TheVariants as command
use Rattle.pv_label.specs.LabelSectors.{label_span}
use Rattle.pv_header.specs.declared.extent_list.Extent.{Extent}
use Rattle.disk_contents.specs.Reads.{AreAreasOf, area_spans}
use Rattle.lvm_report.specs.Report.{IsReport}
use Rattle.lvm_run.specs.CommandSpec.{CommandSpec, AtNothing, Finds, number_in, size_in, unknown_pv, no_inputs}

-- it reads the sectors where the label may be, and then the header sector of each metadata area
abbrev pub pvck : Word → CommandSpec
pvck pv = record {
  flushes = changes (command.Pvck pv);
  looks = AtNothing;
  scan = λ context image unread scanned. scanned ≡ Finds None;
  takes = λ context found given. given ≡ no_inputs;
  refusal = λ context found given. unknown_pv context pv;
  repairs = λ found. [];
  stuck = λ found. None;
  zeros = λ context found given. [];
  batches = λ context found given. [];
  clears = λ context found given. [];
  keeps = λ context found given base image. ⊥;
  reads = λ context image spans. (areas : List Extent) × AreAreasOf (image (number_in context pv)) (size_in context pv) areas
      × (spans ≡ label_span (number_in context pv) ∷ area_spans (number_in context pv) areas);
  finds = λ context found given image. ⊥;
  clearing = λ context found given base image. ⊥;
  cleared = λ context found given image. ⊥;
  reports = λ context found image text. IsReport (image (number_in context pv)) (size_in context pv) text;
}
