-- A shelf that tells its content, over a queue that tells none.
use Rattle.std.proofs.Common.{◌≡◌, ◌<◌, ℕ, Bool, List, length, slice_index_or, Some, ap}
use Rattle.sector_base.specs.Sectors.{IsSector}
use Rattle.disk_model.specs.declared.ops.Op.{Op}
use Rattle.disk_model.specs.declared.ops.Done.{Done}
use Rattle.disk_model.specs.Steps.{Submitted, Completed, Record, step_on}
use Rattle.disk_model.specs.Record.{in_flight_after, IsRecord, IsNewTag}
use Rattle.disk_model.specs.Brought.{BringOnly}
use Rattle.disk_model.specs.Operations.{work_of}
use Rattle.disk_model.specs.Reading.{Reads}
use Rattle.disk_model.specs.State.{State, IsLawful}
use Rattle.disk_model.specs.Calls.{Submits, Completes, Reserves}

-- the state, with this told
abbrev pub telling : Record → State → State
telling told state = record state { told = Some told }

-- a submission is told
pub submits_telling : (old new : State) (op : Op) (tag : ℕ) (was now : Record) → Submits old op tag new
    → now ≡ step_on (Submitted tag (work_of op)) was → Submits (telling was old) op tag (telling now new)
submits_telling old new op tag was now submits is = record {
  fresh = submits.fresh;
  next = submits.next;
  in_flight = submits.in_flight;
  ready = submits.ready;
  told = ap (λ (t : Record). Some t) is;
  spare_ops = submits.spare_ops;
  spare_sectors = submits.spare_sectors;
  steps = submits.steps;
  faults = submits.faults;
  sizes = submits.sizes;
}

-- a completion is told
pub completes_telling : (old new : State) (done : Done) (was now : Record) (fresh : List Bool) → Completes old done new
    → now ≡ step_on (Completed done.tag (work_of done.op) done.well fresh) was
    → Reads was done.tag done.op done.well → Completes (telling was old) done (telling now new)
completes_telling old new done was now fresh completes is reads = record {
  was = completes.was;
  lies = completes.lies;
  in_flight = completes.in_flight;
  fewer = completes.fewer;
  ready = completes.ready;
  told = (fresh, ap (λ (t : Record). Some t) is);
  reads = reads;
  spare_ops = completes.spare_ops;
  spare_sectors = completes.spare_sectors;
  steps = completes.steps;
  next = completes.next;
  faults = completes.faults;
  sizes = completes.sizes;
}

-- what is told stays where more is made spare
pub reserves_telling : (old new : State) (ops sectors : ℕ) (told : Record) → Reserves old ops sectors new
    → Reserves (telling told old) ops sectors (telling told new)
reserves_telling old new ops sectors told reserves = record {
  ops = reserves.ops;
  sectors = reserves.sectors;
  more_ops = reserves.more_ops;
  more_sectors = reserves.more_sectors;
  same = ap (telling told) reserves.same;
}

-- a lawful state that tells a record of its own operations is lawful
pub lawful_telling : (state : State) (told : Record) → IsLawful state → IsRecord told.steps → IsNewTag state.next_tag told.steps
    → state.in_flight ≡ in_flight_after told.steps → state.steps ≡ length told.steps
    → ((pv sector : ℕ) → sector < slice_index_or state.sizes pv 0 → IsSector (told.opened pv sector))
    → BringOnly (λ pv sector value. IsSector value) told.steps → IsLawful (telling told state)
lawful_telling state told lawful follows new_tags in_flight steps opened written = record {
  tags = lawful.tags;
  order = lawful.order;
  within = lawful.within;
  ready = lawful.ready;
  faults = lawful.faults;
  life = lawful.life;
  follows = follows;
  new_tags = new_tags;
  in_flight = in_flight;
  steps = steps;
  opened = opened;
  written = written;
}
