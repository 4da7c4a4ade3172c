-- What is owed: that it is counted, and spare, where less or more is owed.
use Rattle.std.proofs.Common.{◌≡◌, ◌≤◌, ◌+◌, ◌-◌, ap, ◌∙◌, arith}
use Rattle.world_acts.specs.declared.state.Core.{Core}
use Rattle.world_acts.specs.declared.room.Room.{Room}
use Rattle.world_acts.specs.Counts.{room_of}
use Rattle.world_acts.specs.Orderly.{IsSpare}
use Rattle.world_acts.specs.Rooms.{IsCounted, fewer, more}

-- the one room and this much are the other
pub record AddsUp (less gone all : Room) : Type 0 where
  pub ops : less.ops + gone.ops ≡ all.ops
  pub sectors : less.sectors + gone.sectors ≡ all.sectors
  pub writes : less.writes + gone.writes ≡ all.writes
  pub waits : less.waits + gone.waits ≡ all.waits
  pub entries : less.entries + gone.entries ≡ all.entries

fewer_is : (a gone less all : Room) → a ≡ all → AddsUp less gone all → fewer a gone ≡ less
fewer_is a gone less all same adds =
    let ops : a.ops - gone.ops ≡ less.ops = let e : a.ops ≡ all.ops = ap (λ (r : Room). r.ops) same in omega (arith, adds.ops) in
    let sectors : a.sectors - gone.sectors ≡ less.sectors =
    let e : a.sectors ≡ all.sectors = ap (λ (r : Room). r.sectors) same in omega (arith, adds.sectors) in
    let writes : a.writes - gone.writes ≡ less.writes =
    let e : a.writes ≡ all.writes = ap (λ (r : Room). r.writes) same in omega (arith, adds.writes) in
    let waits : a.waits - gone.waits ≡ less.waits =
    let e : a.waits ≡ all.waits = ap (λ (r : Room). r.waits) same in omega (arith, adds.waits) in
    let entries : a.entries - gone.entries ≡ less.entries =
    let e : a.entries ≡ all.entries = ap (λ (r : Room). r.entries) same in omega (arith, adds.entries) in
    λ i. record { ops = ops i; sectors = sectors i; writes = writes i; waits = waits i; entries = entries i }

more_is : (a come less all : Room) → a ≡ less → AddsUp less come all → more a come ≡ all
more_is a come less all same adds =
    let ops : a.ops + come.ops ≡ all.ops = let e : a.ops ≡ less.ops = ap (λ (r : Room). r.ops) same in omega (arith, adds.ops) in
    let sectors : a.sectors + come.sectors ≡ all.sectors =
    let e : a.sectors ≡ less.sectors = ap (λ (r : Room). r.sectors) same in omega (arith, adds.sectors) in
    let writes : a.writes + come.writes ≡ all.writes =
    let e : a.writes ≡ less.writes = ap (λ (r : Room). r.writes) same in omega (arith, adds.writes) in
    let waits : a.waits + come.waits ≡ all.waits =
    let e : a.waits ≡ less.waits = ap (λ (r : Room). r.waits) same in omega (arith, adds.waits) in
    let entries : a.entries + come.entries ≡ all.entries =
    let e : a.entries ≡ less.entries = ap (λ (r : Room). r.entries) same in omega (arith, adds.entries) in
    λ i. record { ops = ops i; sectors = sectors i; writes = writes i; waits = waits i; entries = entries i }

-- so much of what was spare may have been used up
pub record Uses (old new : Core) (used : Room) : Type 0 where
  pub writes : old.waits.plan.spare ≤ new.waits.plan.spare + used.writes
  pub waits : old.waits.room ≤ new.waits.room + used.waits
  pub entries : old.lines.spare_entries ≤ new.lines.spare_entries + used.entries
  pub owners : old.pieces.spare_ops ≤ new.pieces.spare_ops + used.ops

-- less is owed, of which no more was used up
pub spare_fewer : (old new : Core) (gone : Room) → IsSpare old → new.owed ≡ fewer old.owed gone → AddsUp (room_of new) gone (room_of old)
    → Uses old new gone
    → IsSpare new
spare_fewer old new gone spare owes adds uses =
    let ops : new.owed.ops ≡ old.owed.ops - gone.ops = ap (λ (r : Room). r.ops) owes in
    let sectors : new.owed.sectors ≡ old.owed.sectors - gone.sectors = ap (λ (r : Room). r.sectors) owes in
    let writes : new.owed.writes ≡ old.owed.writes - gone.writes = ap (λ (r : Room). r.writes) owes in
    let waits : new.owed.waits ≡ old.owed.waits - gone.waits = ap (λ (r : Room). r.waits) owes in
    let entries : new.owed.entries ≡ old.owed.entries - gone.entries = ap (λ (r : Room). r.entries) owes in
    record {
      owed = owes ∙ fewer_is old.owed gone (room_of new) (room_of old) spare.owed adds;
      counted = record {
        ops = omega (arith, ops, spare.counted.ops);
        sectors = omega (arith, sectors, spare.counted.sectors);
        writes = omega (arith, writes, spare.counted.writes);
        waits = omega (arith, waits, spare.counted.waits);
        entries = omega (arith, entries, spare.counted.entries);
      };
      writes = omega (arith, writes, spare.writes, uses.writes);
      waits = omega (arith, waits, spare.waits, uses.waits);
      entries = omega (arith, entries, spare.entries, uses.entries);
      owners = omega (arith, ops, spare.owners, uses.owners);
    }

-- more is owed, which can be counted, and is spare
pub record IsSpareNow (c : Core) : Type 0 where
  pub counted : IsCounted c.owed
  pub writes : c.owed.writes ≤ c.waits.plan.spare
  pub waits : c.owed.waits ≤ c.waits.room
  pub entries : c.owed.entries ≤ c.lines.spare_entries
  pub owners : c.owed.ops ≤ c.pieces.spare_ops

pub spare_more : (old new : Core) (come : Room) → IsSpare old → new.owed ≡ more old.owed come → AddsUp (room_of old) come (room_of new)
    → IsSpareNow new
    → IsSpare new
spare_more old new come spare owes adds now = record {
  owed = owes ∙ more_is old.owed come (room_of old) (room_of new) spare.owed adds;
  counted = now.counted;
  writes = now.writes;
  waits = now.waits;
  entries = now.entries;
  owners = now.owners;
}

-- as much is owed
abbrev pub no_room : Room
no_room = record { ops = 0; sectors = 0; writes = 0; waits = 0; entries = 0 }

pub none_fewer : (r : Room) → r ≡ fewer r no_room
none_fewer r =
    let ops : r.ops ≡ r.ops - 0 = omega arith in
    let sectors : r.sectors ≡ r.sectors - 0 = omega arith in
    let writes : r.writes ≡ r.writes - 0 = omega arith in
    let waits : r.waits ≡ r.waits - 0 = omega arith in
    let entries : r.entries ≡ r.entries - 0 = omega arith in
    λ i. record { ops = ops i; sectors = sectors i; writes = writes i; waits = waits i; entries = entries i }

pub spare_same : (old new : Core) → IsSpare old → new.owed ≡ old.owed → AddsUp (room_of new) no_room (room_of old) → Uses old new no_room
    → IsSpare new
spare_same old new spare owes adds uses = spare_fewer old new no_room spare (owes ∙ none_fewer old.owed) adds uses
