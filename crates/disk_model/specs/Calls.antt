-- What the calls of a shelf do to its state.
use Rattle.std.specs.Prelude.{◌≡◌, ◌≢◌, ◌≤◌, ◌<◌, ℕ, ◌+◌, Bool, not, ◌==◌, ◌&&◌, if◌then◌else◌, List, [], ◌∷◌, ◌++◌, length, filter}
use Rattle.std.specs.Prelude.{Contains, IfSome, IsNone, MatchOption, Option, option_map, ◌↔◌}
use Rattle.disk_model.specs.declared.ops.Op.{Op}
use Rattle.disk_model.specs.declared.ops.Done.{Done}
use Rattle.disk_model.specs.Steps.{Submitted, Completed, step_on}
use Rattle.disk_model.specs.Operations.{work_of, disk_of, sectors_of, Lies}
use Rattle.disk_model.specs.Reading.{Reads}
use Rattle.disk_model.specs.State.{State}

-- so many operations and sectors are spare, none fewer than before, and nothing else changes
pub record Reserves (old : State) (ops_wanted sectors_wanted : ℕ) (new : State) : Type 0 where
  pub ops : ops_wanted ≤ new.spare_ops
  pub sectors : sectors_wanted ≤ new.spare_sectors
  pub more_ops : old.spare_ops ≤ new.spare_ops
  pub more_sectors : old.spare_sectors ≤ new.spare_sectors
  pub same : new ≡ record old { spare_ops = new.spare_ops; spare_sectors = new.spare_sectors }

-- the operation is in flight with a tag that no earlier one had, and uses up its part of what was spare
pub record Submits (old : State) (op : Op) (tag : ℕ) (new : State) : Type 0 where
  pub fresh : old.next_tag ≤ tag
  pub next : tag < new.next_tag
  pub in_flight : new.in_flight ≡ old.in_flight ++ record { tag = tag; work = work_of op } ∷ []
  pub ready : (t : ℕ) → Contains old.ready t → Contains new.ready t
  pub told : new.told ≡ option_map (step_on (Submitted tag (work_of op))) old.told
  pub spare_ops : new.spare_ops + 1 ≡ old.spare_ops
  pub spare_sectors : new.spare_sectors + sectors_of op ≡ old.spare_sectors
  pub steps : new.steps ≡ old.steps + 1
  pub faults : new.faults ≡ old.faults
  pub sizes : new.sizes ≡ old.sizes

-- more operations may be ready, and nothing else changes
pub record MakesReady (old new : State) : Type 0 where
  pub ready : (t : ℕ) → Contains old.ready t → Contains new.ready t
  pub same : new ≡ record old { ready = new.ready }

-- an operation that was in flight completes; a read brings its buffer back; the others that were ready still are
pub record Completes (old : State) (done : Done) (new : State) : Type 0 where
  pub was : Contains old.in_flight (record { tag = done.tag; work = work_of done.op })
  pub lies : Lies old.sizes done.op
  pub in_flight : new.in_flight ≡ filter (λ o. not (o.tag == done.tag)) old.in_flight
  pub fewer : length new.in_flight + 1 ≡ length old.in_flight
  pub ready : (t : ℕ) → Contains old.ready t → (t ≢ done.tag) → Contains new.ready t
  pub told : (fresh : List Bool) × (new.told ≡ option_map (step_on (Completed done.tag (work_of done.op) done.well fresh)) old.told)
  pub reads : IfSome old.told (λ told. Reads told done.tag done.op done.well)
  pub spare_ops : old.spare_ops ≤ new.spare_ops
  pub spare_sectors : old.spare_sectors ≤ new.spare_sectors
  pub steps : new.steps ≡ old.steps + 1
  pub next : new.next_tag ≡ old.next_tag
  pub faults : (pv : ℕ) → new.faults pv ≡ (if not done.well && (disk_of done.op == pv) then old.faults pv + 1 else old.faults pv)
  pub sizes : new.sizes ≡ old.sizes

-- More operations may have become ready since the last call, and then one that is ready completes. There is no answer exactly where
-- none is ready, and then nothing else changes.
pub record Reaps (old : State) (answer : Option Done) (new : State) : Type 0 where
  pub looked : State
  pub makes : MakesReady old looked
  pub none : IsNone answer ↔ (looked.ready ≡ [])
  pub cases : MatchOption answer (MakesReady looked new) (λ done. Completes looked done new)
  pub ready : IfSome answer (λ done. Contains looked.ready done.tag)
