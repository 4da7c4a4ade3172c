-- What may be owed beside what is: sums of rooms, and less of what is borne.
use Rattle.std.proofs.Common.{◌≡◌, ◌≤◌, List, [], ◌∷◌, length, ap, arith}
use Rattle.disk_model.specs.State.{State}
use Rattle.line_table.specs.Steps.{Lines}
use Rattle.flush_waits.specs.Waits.{Waits}
use Rattle.world_acts.specs.declared.room.Room.{Room}
use Rattle.world_acts.specs.Acts.{IsBorne, World}
use Rattle.world_acts.specs.Orderly.{IsOrderly}
use Rattle.world_acts.specs.Rooms.{Covers, more}
use Rattle.line_plans.specs.declared.preparing.NewPiece.{NewPiece}
use Rattle.line_plans.specs.Plans.{no_room, pieces_room}

-- the first two of three, and the last two
pub covers_all : (a b c : Room) → Covers (more a (more b c)) (more (more a b) c)
covers_all a b c =
    record { ops = omega arith; sectors = omega arith; writes = omega arith; waits = omega arith; entries = omega arith }

-- the first of two, beside what is owed
pub covers_first : (a b c : Room) → Covers (more a (more b c)) (more a b)
covers_first a b c =
    record { ops = omega arith; sectors = omega arith; writes = omega arith; waits = omega arith; entries = omega arith }

pub covers_last : (a b c : Room) → Covers (more a (more b c)) (more a c)
covers_last a b c =
    record { ops = omega arith; sectors = omega arith; writes = omega arith; waits = omega arith; entries = omega arith }

-- a world in which as much is spare bears less
pub borne_same : (w v : World) (big small : Room) → Covers big small → v.shelf ≡ w.shelf → v.core.waits ≡ w.core.waits
    → v.core.lines ≡ w.core.lines
    → v.core.pieces.spare_ops ≡ w.core.pieces.spare_ops
    → IsBorne w big
    → IsBorne v small
borne_same w v big small covers shelf waits lines owners b =
    let ops : v.shelf.spare_ops ≡ w.shelf.spare_ops = ap (λ (s : State). s.spare_ops) shelf in
    let sectors : v.shelf.spare_sectors ≡ w.shelf.spare_sectors = ap (λ (s : State). s.spare_sectors) shelf in
    let writes : v.core.waits.plan.spare ≡ w.core.waits.plan.spare = ap (λ (x : Waits). x.plan.spare) waits in
    let room : v.core.waits.room ≡ w.core.waits.room = ap (λ (x : Waits). x.room) waits in
    let entries : v.core.lines.spare_entries ≡ w.core.lines.spare_entries = ap (λ (x : Lines). x.spare_entries) lines in
    record {
      counted = record {
        ops = omega (arith, covers.ops, b.counted.ops);
        sectors = omega (arith, covers.sectors, b.counted.sectors);
        writes = omega (arith, covers.writes, b.counted.writes);
        waits = omega (arith, covers.waits, b.counted.waits);
        entries = omega (arith, covers.entries, b.counted.entries);
      };
      ops = omega (arith, covers.ops, b.ops, ops);
      sectors = omega (arith, covers.sectors, b.sectors, sectors);
      writes = omega (arith, covers.writes, b.writes, writes);
      waits = omega (arith, covers.waits, b.waits, room);
      entries = omega (arith, covers.entries, b.entries, entries);
      owners = omega (arith, covers.ops, b.owners, owners);
    }

pub borne_less : (w : World) (big small : Room) → Covers big small → IsBorne w big → IsBorne w small
borne_less w big small covers b = borne_same w w big small covers (λ i. w.shelf) (λ i. w.core.waits) (λ i. w.core.lines)
    (λ i. w.core.pieces.spare_ops) b

-- what is owed is borne
pub borne_owed : (w : World) → IsOrderly w → IsBorne w (more w.core.owed no_room)
borne_owed w o =
    let r = o.tidy.room in
    record {
      counted = record {
        ops = omega (arith, r.counted.ops);
        sectors = omega (arith, r.counted.sectors);
        writes = omega (arith, r.counted.writes);
        waits = omega (arith, r.counted.waits);
        entries = omega (arith, r.counted.entries);
      };
      ops = omega (arith, o.backed.spare_ops);
      sectors = omega (arith, o.backed.spare_sectors);
      writes = omega (arith, r.writes);
      waits = omega (arith, r.waits);
      entries = omega (arith, r.entries);
      owners = omega (arith, r.owners);
    }

-- each piece needs an operation
pub pieces_ops : (pieces : List NewPiece) → length pieces ≤ (pieces_room pieces).ops
pieces_ops [] = omega arith
pieces_ops (new ∷ pieces) = omega (arith, pieces_ops pieces)
