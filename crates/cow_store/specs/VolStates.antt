-- What is known of a row of volumes, what holds of every one, and what its calls do. What volumes tell is a record of disk steps,
-- in which a volume's number stands for a disk's.
use Rattle.std.specs.Prelude.{◌≡◌, ◌≤◌, ◌<◌, ℕ, ◌+◌, Bool, not, ◌==◌, ◌&&◌, IsTrue, if◌then◌else◌, List, [], ◌∷◌, slice_index_or, Option}
use Rattle.std.specs.Prelude.{IfSome, option_map}
use Rattle.sector_base.specs.Sectors.{IsSector}
use Rattle.disk_model.specs.Brought.{BringOnly}
use Rattle.disk_model.specs.CarriesOut.{with_operation}
use Rattle.disk_model.specs.Record.{IsRecord}
use Rattle.disk_model.specs.Steps.{Work, Writing, Step, Submitted, Completed, Record, disk_of_work}

-- everything that is known of a row of volumes
pub record VolState : Type 0 where
  -- how many sectors each volume has
  pub sizes : List ℕ
  -- how many operations can still be made without taking memory
  pub spare : ℕ
  -- how many operations of each volume failed
  pub faults : ℕ → ℕ
  -- what each sector held at first and the record, where the volumes tell them
  pub told : Option Record

-- each operation completes before the next one is submitted
abbrev pub AreOneByOne : List Step → Type 0
AreOneByOne [] = Unit {0}
AreOneByOne (Completed tag work well fresh ∷ Submitted tag' work' ∷ steps) = (tag' ≡ tag) × (work' ≡ work) × AreOneByOne steps
AreOneByOne _ = ⊥

-- what holds of every row of volumes, where its record is told
pub record AreLawful (state : VolState) : Type 0 where
  -- each tag is new, and what completes was in flight
  pub follows : IfSome state.told (λ told. IsRecord told.steps)
  -- each operation is complete in its call
  pub one_by_one : IfSome state.told (λ told. AreOneByOne told.steps)
  -- each sector has 512 bytes: an opened one within its volume, and each that was written
  pub opened : IfSome state.told (λ told. (v sector : ℕ) → sector < slice_index_or state.sizes v 0 → IsSector (told.opened v sector))
  pub written : IfSome state.told (λ told. BringOnly (λ v sector value. IsSector value) told.steps)

-- so many operations are spare, none fewer than before, and nothing else changes
pub record Reserves (old : VolState) (ops : ℕ) (new : VolState) : Type 0 where
  pub spare : ops ≤ new.spare
  pub more : old.spare ≤ new.spare
  pub same : new ≡ record old { spare = new.spare }

-- the operation was submitted and has completed, and the count of its volume has risen where it failed
pub record Operates (old : VolState) (work : Work) (well : Bool) (new : VolState) : Type 0 where
  pub told : (tag : ℕ) × (fresh : List Bool) × (new.told ≡ option_map (with_operation tag work well fresh) old.told)
  pub spare : old.spare ≤ new.spare + 1
  pub faults : (v : ℕ) → new.faults v ≡ (if not well && (disk_of_work work == v) then old.faults v + 1 else old.faults v)
  pub sizes : new.sizes ≡ old.sizes

-- each write in these steps that has completed went well
abbrev pub WritesWell : List Step → Type 0
WritesWell [] = Unit {0}
WritesWell (Completed tag (Writing span sectors) well fresh ∷ steps) = IsTrue well × WritesWell steps
WritesWell (_ ∷ steps) = WritesWell steps
