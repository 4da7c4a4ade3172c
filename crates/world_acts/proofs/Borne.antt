-- What goes on once an operation has completed leaves as much spare beside what is owed.
use Rattle.std.proofs.Common.{arith}
use Rattle.world_acts.specs.declared.room.Room.{Room}
use Rattle.world_acts.specs.Acts.{IsBorne, Reaches, World, after, goes_on}
use Rattle.world_acts.specs.Orderly.{IsOrderly}
use Rattle.world_acts.specs.Rooms.{more}
use Rattle.world_acts.proofs.Orderly.{orderly_after}
use Rattle.world_acts.proofs.Reaching.{reaches_keep}
use Rattle.world_acts.proofs.Spending.{Spends, spends_act}

borne_spent : (w v : World) (r : Room) → Spends w v → IsBorne w (more w.core.owed r) → IsBorne v (more v.core.owed r)
borne_spent w v r s b = record {
  counted = record {
    ops = omega (arith, s.owed.ops, b.counted.ops);
    sectors = omega (arith, s.owed.sectors, b.counted.sectors);
    writes = omega (arith, s.owed.writes, b.counted.writes);
    waits = omega (arith, s.owed.waits, b.counted.waits);
    entries = omega (arith, s.owed.entries, b.counted.entries);
  };
  ops = omega (arith, s.owed.ops, s.ops, b.ops);
  sectors = omega (arith, s.owed.sectors, s.sectors, b.sectors);
  writes = omega (arith, s.owed.writes, s.uses.writes, b.writes);
  waits = omega (arith, s.owed.waits, s.uses.waits, b.waits);
  entries = omega (arith, s.owed.entries, s.uses.entries, b.entries);
  owners = omega (arith, s.owed.ops, s.uses.owners, b.owners);
}

pub borne_reaches : (w v : World) (r : Room) → IsOrderly w → Reaches goes_on w v → IsBorne w (more w.core.owed r)
    → IsBorne v (more v.core.owed r)
borne_reaches w v r o goes b =
    (reaches_keep goes_on (λ (x : World). IsOrderly x × IsBorne x (more x.core.owed r))
    (λ x a is allowed p. (orderly_after x a p.0 allowed, borne_spent x (after x a) r (spends_act x a is p.0 allowed) p.1))
    w v goes (o, b)).1
