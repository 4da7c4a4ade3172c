-- What follows of labels and metadata areas for a line that is carried out in turn.
use Rattle.std.specs.Prelude.{ℕ, List, All}
use Rattle.lvm_script.specs.declared.line.Line.{Line}
use Rattle.disk_model.specs.Steps.{Image}
use Rattle.extent_alloc.specs.declared.part.Part.{Part}
use Rattle.group_plan.specs.declared.state.GroupState.{GroupState}
use Rattle.group_ops.specs.Planning.{change_of}
use Rattle.change_batches.specs.Laws.{AreasKeptBy, HasLabel, HoldsAfter, LabelsKept}

-- what every image on the way keeps of what the disks held before
pub record AreasAreKept (state : GroupState) (line : Line) (now : ℕ) (given : List Part) (base image : Image) : Type 0 where
  pub areas : AreasKeptBy (change_of state line now given).group now (change_of state line now given) state.areas base image
  pub labels : LabelsKept (change_of state line now given).labels base image

-- what a reader finds once the line is done: the labels, and the areas
pub record IsFoundAfter (state : GroupState) (line : Line) (now : ℕ) (given : List Part) (image : Image) : Type 0 where
  pub labels : All (HasLabel image) (change_of state line now given).labels
  pub areas : HoldsAfter (change_of state line now given).group now (change_of state line now given) state.areas image
