-- One operation, carried out where nothing else is in flight.
use Rattle.std.specs.Prelude.{◌≡◌, ◌≤◌, ◌<◌, ℕ, ◌+◌, Bool, not, ◌==◌, ◌&&◌, if◌then◌else◌, List, [], IfSome, option_map}
use Rattle.disk_model.specs.declared.ops.Op.{Op}
use Rattle.disk_model.specs.declared.ops.Done.{Done}
use Rattle.disk_model.specs.Steps.{Work, Submitted, Completed, Record, step_on}
use Rattle.disk_model.specs.Operations.{work_of, disk_of, sectors_of, Lies}
use Rattle.disk_model.specs.Reading.{ReadsAll}
use Rattle.disk_model.specs.State.{State}

-- what is told after an operation was submitted and completed
abbrev pub with_operation : ℕ → Work → Bool → List Bool → Record → Record
with_operation tag work well fresh told = step_on (Completed tag work well fresh) (step_on (Submitted tag work) told)

-- the operation was carried out where nothing else was in flight, and nothing is in flight afterwards
pub record CarriesOut (old : State) (op : Op) (done : Done) (new : State) : Type 0 where
  -- the same operation comes back; a read that went well holds what stands in its sectors
  pub work : work_of done.op ≡ work_of op
  pub lies : Lies old.sizes done.op
  pub reads : IfSome old.told (λ told. ReadsAll told done.op done.well)
  -- two steps more are told
  pub told : (fresh : List Bool) × (new.told ≡ option_map (with_operation done.tag (work_of op) done.well fresh) old.told)
  pub steps : new.steps ≡ old.steps + 2
  pub fresh : old.next_tag ≤ done.tag
  pub next : done.tag < new.next_tag
  pub idle : new.in_flight ≡ []
  pub spare_ops : old.spare_ops ≤ new.spare_ops + 1
  pub spare_sectors : old.spare_sectors ≤ new.spare_sectors + sectors_of op
  pub faults : (pv : ℕ) → new.faults pv ≡ (if not done.well && (disk_of op == pv) then old.faults pv + 1 else old.faults pv)
  pub sizes : new.sizes ≡ old.sizes
