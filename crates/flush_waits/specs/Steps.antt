-- What each call does to what waits.
use Rattle.std.specs.Prelude.{ℕ, ◌+◌, ◌-◌, ◌*◌, Bool, [], ◌∷◌, ◌++◌, drop, if◌then◌else◌, length, max, slice_set}
use Rattle.flush_plan.specs.Steps as plan
use Rattle.flush_waits.specs.declared.ticket.Waiting.{Waiting}
use Rattle.flush_waits.specs.declared.waits.Awaited.{Awaited}
use Rattle.flush_waits.specs.declared.waits.Awaited.TheVariants.{Lost, Served, Stable, Unserved}
use Rattle.flush_waits.specs.Waits.{DiskWaits, Waits, awaited, disk_waits}

-- so many writes are spare, and so much more may wait
abbrev pub after_reserve : Waits → ℕ → ℕ → Waits
after_reserve waits writes more = record waits {
  plan = record waits.plan { spare = max writes waits.plan.spare };
  room = max more waits.room;
}

-- a write completed well
abbrev pub after_wrote : Waits → ℕ → ℕ → Waits
after_wrote waits number pv = record waits { plan = plan.after_wrote waits.plan number pv }

-- a write isn't asked for any more
abbrev pub after_forgot : Waits → ℕ → ℕ → Waits
after_forgot waits number pv = record waits { plan = plan.after_forgot waits.plan number pv }

-- the last write of a volume on a disk stands at this place
abbrev pub after_noted : Waits → ℕ → ℕ → ℕ → Waits
after_noted waits key pv place = record waits { dirty = slice_set waits.dirty (key * length waits.disks + pv) place }

-- one more waits on a disk
abbrev pub with_waiting : DiskWaits → Waiting → Awaited → DiskWaits
with_waiting d w Stable = d
with_waiting d w Lost = d
with_waiting d w Served = record d { served = d.served ++ w ∷ [] }
with_waiting d w Unserved = record d { next = d.next ++ w ∷ [] }

-- it began to wait on this disk
abbrev pub after_wait : Waits → Waiting → ℕ → Waits
after_wait waits w pv = record waits {
  disks = slice_set waits.disks pv (with_waiting (disk_waits waits pv) w (awaited waits pv w.place));
  room = waits.room - 1;
}

-- a flush of the disk was submitted
abbrev pub after_submitted : Waits → ℕ → ℕ → Waits
after_submitted waits pv tag = record waits {
  plan = plan.after_submitted waits.plan pv tag;
  disks = slice_set waits.disks pv (record { served = (disk_waits waits pv).next; next = [] });
}

-- the flush with this tag ended
abbrev pub after_ended : Waits → ℕ → Bool → Waits
after_ended waits tag well =
    record waits { plan = if well then plan.after_flushed waits.plan tag else plan.after_lost waits.plan tag }

-- the first that was served waits no more
abbrev pub after_release : Waits → ℕ → Waits
after_release waits pv = record waits {
  disks = slice_set waits.disks pv (record (disk_waits waits pv) { served = drop 1 (disk_waits waits pv).served });
}
