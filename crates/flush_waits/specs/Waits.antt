-- What waits on disks until writes last.
use Rattle.std.specs.Prelude.{◌≡◌, ◌≤◌, ◌<◌, All, AllPairs, ℕ, ◌+◌, ◌*◌, ◌^◌, Bool, false, ◌==◌, nat_le, not, ◌&&◌, List, []}
use Rattle.std.specs.Prelude.{length, replicate, Option, is_none, slice_index_or, if◌then◌else◌}
use Rattle.std.specs.Option.{option_map_or}
use Rattle.flush_plan.specs.declared.records.Flush.{Flush}
use Rattle.flush_plan.specs.declared.records.Marks.{Marks}
use Rattle.flush_plan.specs.Plans.{Plan, flight_of, marks_of}
use Rattle.flush_plan.specs.Steps.{new_plan}
use Rattle.flush_waits.specs.declared.ticket.Waiting.{Waiting}
use Rattle.flush_waits.specs.declared.waits.Awaited.{Awaited}
use Rattle.flush_waits.specs.declared.waits.Awaited.TheVariants.{Lost, Served, Stable, Unserved}

-- what the flush of a disk serves that is in flight or has just ended, and what none serves yet, each in the order in which it began
-- to wait
pub record DiskWaits : Type 0 where
  pub served : List Waiting
  pub next : List Waiting

-- the plan of the flushes, what waits on each disk, of each volume and each disk, by key and number, the place of the volume's last
-- write there, and how much more may wait
pub record Waits : Type 0 where
  pub plan : Plan
  pub disks : List DiskWaits
  pub dirty : List ℕ
  pub room : ℕ

-- nothing waits
abbrev pub none_waits : DiskWaits
none_waits = record { served = []; next = [] }

-- nothing was written, over so many disks and for so many volumes
abbrev pub new_waits : ℕ → ℕ → Waits
new_waits disks volumes = record {
  plan = record (new_plan disks) { spare_flushes = disks };
  disks = replicate disks none_waits;
  dirty = replicate (volumes * disks) 0;
  room = 0;
}

-- what waits on this disk
abbrev pub disk_waits : Waits → ℕ → DiskWaits
disk_waits waits pv = slice_index_or waits.disks pv none_waits

-- the place of the last write of the volume with this key on this disk
abbrev pub dirty_at : Waits → ℕ → ℕ → ℕ
dirty_at waits key pv = slice_index_or waits.dirty (key * length waits.disks + pv) 0

-- whether it serves the write at this place
abbrev pub serves : Option Flush → ℕ → Bool
serves flight place = option_map_or (λ f. nat_le place f.after) flight false

-- how it stands with the write at this place of the disk's
abbrev pub awaited : Waits → ℕ → ℕ → Awaited
awaited waits pv place =
    if nat_le place (marks_of waits.plan pv).stable then Stable
    else if nat_le place (marks_of waits.plan pv).ended then Lost
    else if serves (flight_of waits.plan pv) place then Served
    else Unserved

-- whether a flush of the disk is to be submitted
abbrev pub is_wanted : Waits → ℕ → Bool
is_wanted waits pv = not (length (disk_waits waits pv).next == 0) && is_none (flight_of waits.plan pv)

-- the place up to which flushes serve the disk's writes: that in flight, or those that have ended
abbrev pub reach : Plan → ℕ → ℕ
reach plan pv = option_map_or (λ f. f.after) (flight_of plan pv) (marks_of plan pv).ended

-- of a disk with these marks, which flushes serve up to a place, and of which so many writes have completed: what is served waits for
-- writes up to that place, and the rest for later ones
pub record Stands (m : Marks) (to held : ℕ) (d : DiskWaits) : Type 0 where
  pub stable : m.stable ≤ m.ended
  pub ended : m.ended ≤ to
  pub reached : to ≤ held
  pub served : All (λ w. w.place ≤ to) d.served
  pub next : All (λ w. (to < w.place) × (w.place ≤ held)) d.next

-- on each disk what waits stands where it belongs; one flush of it is in flight at the most, and one is spare where none is
pub record AreInOrder (plan : Plan) (disks : List DiskWaits) : Type 0 where
  pub many : length disks ≡ length plan.marks
  pub few : length disks < 2 ^ 32
  pub one : AllPairs (λ f g. (f.pv == g.pv) ≡ false) plan.flushes
  pub within : All (λ f. f.pv < length disks) plan.flushes
  pub spare : length disks ≤ length plan.flushes + plan.spare_flushes
  pub stands : (pv : ℕ) → Stands (marks_of plan pv) (reach plan pv) plan.held (slice_index_or disks pv none_waits)

-- volumes were written at places of writes that have completed
abbrev pub AreCompleted : ℕ → List ℕ → Type 0
AreCompleted held dirty = All (λ place. place ≤ held) dirty

-- no more than so many wait on a disk
abbrev pub AreBelow : ℕ → List DiskWaits → Type 0
AreBelow most disks = All (λ d. length d.served + length d.next ≤ most) disks
