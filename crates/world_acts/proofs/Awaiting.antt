-- A line that waits on a disk.
use Rattle.std.proofs.Common.{◌≡◌, ◌≤◌, ◌<◌, ℕ, ◌+◌, ◌-◌, ◌*◌, Bool, true, false, cond, nat_le, List, [], ◌∷◌, ◌++◌, length, set, All}
use Rattle.std.proofs.Common.{count_by, refl, sym, ap, subst, ◌∙◌, arith}
use Rattle.std.proofs.lemmas.Bool.{lt-leb}
use Rattle.std.proofs.lemmas.List.{length_push}
use Rattle.std.proofs.lemmas.List.Elements.{All-weaker}
use Rattle.flush_plan.specs.Plans.{IsWithin, flight_of, marks_of}
use Rattle.flush_waits.specs.declared.ticket.Waiter.TheVariants as waiter
use Rattle.flush_waits.specs.declared.ticket.Waiting.{Waiting}
use Rattle.flush_waits.specs.declared.waits.Awaited.{Awaited}
use Rattle.flush_waits.specs.declared.waits.Awaited.TheVariants.{Lost, Served, Stable, Unserved}
use Rattle.flush_waits.specs.Steps.{with_waiting}
use Rattle.flush_waits.specs.Waits.{DiskWaits, Waits, awaited, dirty_at, disk_waits, serves}
use Rattle.world_acts.specs.declared.state.Core.{Core}
use Rattle.world_acts.specs.declared.open_line.OpenLine.{OpenLine}
use Rattle.world_acts.specs.declared.volumes.Volumes.{Volumes}
use Rattle.world_acts.specs.Acts.{Allowed, Awaits, MayAwait, World, after}
use Rattle.world_acts.specs.Counts.{is_line, is_piece}
use Rattle.world_acts.specs.OpenLines.{after_added, open_of}
use Rattle.world_acts.specs.Orderly.{ArePlanned, IsLive, IsOrderly}
use Rattle.world_acts.specs.Rooms.{more}
use Rattle.world_acts.specs.Steps.{await_room}
use Rattle.world_acts.proofs.Entering.{barrier_apart}
use Rattle.world_acts.proofs.LinesKept.{LinesStay, hit, line_added, live_stays, never, open_is, open_stays}
use Rattle.world_acts.proofs.PlanKept.{marks_reach}
use Rattle.world_acts.proofs.RoomsKept.{spare_more}
use Rattle.world_acts.proofs.WaitsKept.{count_push, one_disk, waiting_on}

-- what a flush that has not ended may serve is served, or not yet
pub unended : (waits : Waits) (pv place : ℕ) → All (IsWithin waits.plan.held) waits.plan.marks → (marks_of waits.plan pv).ended < place
    → awaited waits pv place ≡ cond (serves (flight_of waits.plan pv) place) Served Unserved
unended waits pv place reached behind =
    let m : IsWithin waits.plan.held (marks_of waits.plan pv) = marks_reach waits.plan reached pv in
    let rest : Awaited = cond (serves (flight_of waits.plan pv) place) Served Unserved in
    let stable : nat_le place (marks_of waits.plan pv).stable ≡ false =
    lt-leb place (marks_of waits.plan pv).stable (omega (arith, behind, m.1)) in
    let ended : nat_le place (marks_of waits.plan pv).ended ≡ false = lt-leb place (marks_of waits.plan pv).ended behind in
    ap (λ (x : Bool). cond x Stable (cond (nat_le place (marks_of waits.plan pv).ended) Lost rest)) stable
    ∙ ap (λ (x : Bool). cond x Lost rest) ended

-- one that waits where a flush serves it, or where none does yet
pub record WaitsMore (d : DiskWaits) (w : Waiting) (a : Awaited) : Type 0 where
  pub counted : (test : Waiting → Bool) → waiting_on test (with_waiting d w a) ≡ waiting_on test d + hit (test w)
  pub nexts : length (with_waiting d w a).next ≡ length d.next + (await_room a).ops
  pub one : (await_room a).ops ≤ 1
  pub no_sectors : (await_room a).sectors ≡ 0
  pub no_writes : (await_room a).writes ≡ 0
  pub no_waits : (await_room a).waits ≡ 0
  pub no_entries : (await_room a).entries ≡ 0

pub waits_served : (d : DiskWaits) (w : Waiting) → WaitsMore d w Served
waits_served d w = record {
  counted = λ test. let e : count_by test (d.served ++ w ∷ []) ≡ count_by test d.served + hit (test w) =
      count_push test d.served w in omega (arith, e);
  nexts = omega arith;
  one = omega arith;
  no_sectors = refl;
  no_writes = refl;
  no_waits = refl;
  no_entries = refl;
}

pub waits_unserved : (d : DiskWaits) (w : Waiting) → WaitsMore d w Unserved
waits_unserved d w = record {
  counted = λ test. let e : count_by test (d.next ++ w ∷ []) ≡ count_by test d.next + hit (test w) =
      count_push test d.next w in omega (arith, e);
  nexts = length_push d.next w;
  one = omega arith;
  no_sectors = refl;
  no_writes = refl;
  no_waits = refl;
  no_entries = refl;
}

-- other disks' waits leave the plan as it is
pub planned_disks : {volumes : Volumes} {old : Waits} (disks : List DiskWaits) (room : ℕ) → length disks ≡ length old.disks
    → ArePlanned volumes old
    → ArePlanned volumes (record old { disks = disks; room = room })
planned_disks {volumes} {old} disks room long p = record {
  reached = p.reached;
  after = p.after;
  marks = long ∙ p.marks;
  tags = p.tags;
  dirty = λ key lv at. subst (λ (n : ℕ). key * n + n ≤ length old.dirty) (sym long) (p.dirty key lv at);
}

awaits_from : (w : World) (line pv place : ℕ) (a : Awaited) → IsOrderly w → (m : MayAwait w line pv)
    → WaitsMore (disk_waits w.core.waits pv) (record { waiter = waiter.Line line; place = place }) a
    → IsOrderly (record w {
      core = record w.core {
        waits = record w.core.waits {
          disks =
              set w.core.waits.disks pv (with_waiting (disk_waits w.core.waits pv) (record { waiter = waiter.Line line; place = place }) a);
          room = w.core.waits.room - 1;
        };
        opens = after_added w.core.opens line;
        owed = more w.core.owed (await_room a);
      };
    })
awaits_from w line pv place a o m k =
    let c : Core = w.core in
    let it : Waiting = record { waiter = waiter.Line line; place = place } in
    let x : DiskWaits = disk_waits c.waits pv in
    let d : Core = record c {
      waits = record c.waits { disks = set c.waits.disks pv (with_waiting x it a); room = c.waits.room - 1 };
      opens = after_added c.opens line;
      owed = more c.owed (await_room a);
    } in
    let t = o.tidy in
    let b = o.backed in
    let within : pv < length c.waits.disks = let disk = m.disk in omega (arith, disk, b.places.many) in
    let one = one_disk c.waits.disks pv (with_waiting x it a) within in
    let stay : LinesStay line hit never c.opens d.opens = line_added c.opens line m.opened m.is_open in
    record {
      tidy = record {
        lines = open_stays stay (barrier_apart line c.barrier m.other) t.lines;
        pieces = record {
          single = t.pieces.single;
          each =
              All-weaker (IsLive c.lines.begun c.opens c.pieces.next) (IsLive c.lines.begun d.opens c.pieces.next)
              (λ e is. live_stays e stay is) c.pieces.lives t.pieces.each;
        };
        owners = t.owners;
        counts = record {
          left = λ q. omega (arith, stay.left q, one.counted (is_line q), k.counted (is_line q), t.counts.left q);
          awaited = λ q. omega (arith, one.counted (is_piece q), k.counted (is_piece q), t.counts.awaited q);
        };
        room =
            spare_more c d (await_room a) t.room refl
            (record {
              ops = omega (arith, one.nexts, k.nexts);
              sectors = omega (arith, k.no_sectors);
              writes = omega (arith, k.no_writes);
              waits = omega (arith, k.no_waits);
              entries = omega (arith, k.no_entries, stay.entries);
            })
            (record {
              counted = record {
                ops = omega (arith, m.spare.counted.ops, k.one);
                sectors = omega (arith, m.spare.counted.sectors, k.no_sectors);
                writes = omega (arith, m.spare.counted.writes, k.no_writes);
                waits = omega (arith, m.spare.counted.waits, k.no_waits);
                entries = omega (arith, m.spare.counted.entries, k.no_entries);
              };
              writes = omega (arith, t.room.writes, k.no_writes);
              waits = omega (arith, m.room, k.no_waits);
              entries = omega (arith, t.room.entries, k.no_entries);
              owners = omega (arith, m.spare.owners, k.one);
            });
        flushes = planned_disks d.waits.disks d.waits.room one.long t.flushes;
      };
      backed = record {
        lawful = b.lawful;
        known = record { owned = b.known.owned; apart = b.known.apart };
        places = record { laid = b.places.laid; placed = b.places.placed; many = one.long ∙ b.places.many; few = b.places.few };
        spare_ops = omega (arith, m.spare.ops, k.one);
        spare_sectors = omega (arith, b.spare_sectors, k.no_sectors);
        moments = b.moments;
      };
    }

pub after_await : (w : World) (line pv : ℕ) → IsOrderly w → Allowed w (Awaits line pv) → IsOrderly (after w (Awaits line pv))
after_await w line pv o m =
    let c : Core = w.core in
    let place : ℕ = dirty_at c.waits (open_of c.opens line).key pv in
    let x : DiskWaits = disk_waits c.waits pv in
    let it : Waiting = record { waiter = waiter.Line line; place = place } in
    let key : dirty_at c.waits m.opened.key pv ≡ place =
    ap (λ (y : OpenLine). dirty_at c.waits y.key pv) (sym (open_is c.opens line m.opened m.is_open)) in
    let behind : (marks_of c.waits.plan pv).ended < place = let far = m.behind in omega (arith, far, key) in
    let is : awaited c.waits pv place ≡ cond (serves (flight_of c.waits.plan pv) place) Served Unserved =
    unended c.waits pv place o.tidy.flushes.reached behind in
    subst (λ (a : Awaited). IsOrderly (record w {
      core = record c {
        waits = record c.waits { disks = set c.waits.disks pv (with_waiting x it a); room = c.waits.room - 1 };
        opens = after_added c.opens line;
        owed = more c.owed (await_room a);
      };
    })) (sym is)
    (awaits_from w line pv place (cond (serves (flight_of c.waits.plan pv) place) Served Unserved) o m
    (elim (serves (flight_of c.waits.plan pv) place) as (λ b. WaitsMore x it (cond b Served Unserved)) [
      | true ↦ waits_served x it
      | false ↦ waits_unserved x it
    ]))
