use Rattle.std.proofs.Common.{ap, ap₂, ◌∙◌, arith}
use Rattle.std.proofs.lemmas.Bool.{and_parts}
use Rattle.flush_waits.specs.Waits.{Waits}
use Rattle.world_acts.specs.declared.room.Room.{Room}
use Rattle.world_acts.specs.Rooms.{fewer}
use Rattle.world_acts.proofs.Flushing.{wanted_within}
use Rattle.io_core.proofs.WantedFlushes.{fresh_flush, none_is, owed_unserved}
use Rattle.io_core.proofs.flushing.submit_flush.Goals as goal

pub shrink-requires : goal.shrink-requires
shrink-requires g c = record {
  ops = omega (arith, c.unserved.ensures, owed_unserved c.args.core.now c.args.pv c.requires.orderly.tidy.room c.requires.disk);
  sectors = omega arith;
  writes = omega arith;
  waits = omega arith;
  entries = omega arith;
}

pub submit-tag-requires : goal.submit-tag-requires
submit-tag-requires g c = record {
  lies = omega (arith, c.requires.disk, c.requires.orderly.backed.places.many);
  ops =
      omega (
        arith,
        c.requires.orderly.backed.spare_ops,
        owed_unserved c.args.core.now c.args.pv c.requires.orderly.tidy.room c.requires.disk,
        (wanted_within c.args.core.now.waits c.args.pv c.requires.wanted).1,
      );
  sectors = omega arith;
}

pub submitted-requires : goal.submitted-requires
submitted-requires g c = record {
  disk = c.requires.disk;
  fresh =
      fresh_flush (g.S.Shelf.state c.args.shelf.now) c.args.core.now c.submit-tag.result c.requires.orderly.backed.lawful
      c.requires.orderly.backed.known c.requires.orderly.tidy.owners c.submit-tag.ensures.fresh;
  none = none_is _ (and_parts _ _ c.requires.wanted).1;
  released = c.requires.released;
}

pub returns : goal.returns
returns g c =
    let core = c.args.core.now in (
      c.submit-tag.result,
      c.submit-tag.ensures,
      ap₂ (λ (o : Room) (x : Waits). record core { owed = o; waits = x })
          (c.shrink.ensures
          ∙ ap (λ n. fewer core.owed (record { ops = n; sectors = 0; writes = 0; waits = 0; entries = 0 })) c.unserved.ensures)
          c.submitted.ensures,
    )
