-- The batches can be carried out, and every image on the way keeps what the base holds.
use Rattle.std.proofs.Common.{ℕ, List, subst}
use Rattle.std.specs.Prelude.{All}
use Rattle.disk_batch.specs.InTurn.{CanRun}
use Rattle.change_batches.specs.Sound.{sizes_of}
use Rattle.change_batches.proofs.HeldInDisks.{sizes_kept}
use Rattle.vg_repair.proofs.KeptImages.{keeps_images}
use Rattle.vg_repair.proofs.repairing.repair.Goals as goal

pub write_in_turn-requires-clause-can_run : goal.write_in_turn-requires-clause-can_run
write_in_turn-requires-clause-can_run g c =
    subst (λ (sizes : List ℕ). All (CanRun sizes) c.in-Ok.prepared.0.items)
    (sizes_kept _ _ _ _ (sizes_of c.args.whole.disks) c.in_default.ensures.room c.requires.disks) c.in-Ok.ensures.1.run

pub returns-in-Ok-write_in_turn-clause-images : goal.returns-in-Ok-write_in_turn-clause-images
returns-in-Ok-write_in_turn-clause-images g c begun others =
    keeps_images c.args.whole c.in-Ok.prepared.0.items c.in-Ok.ensures.0 others c.in-Ok.ensures.1

pub returns-in-Err-write_in_turn-clause-images : goal.returns-in-Err-write_in_turn-clause-images
returns-in-Err-write_in_turn-clause-images g c begun others =
    keeps_images c.args.whole c.in-Ok.prepared.0.items c.in-Ok.ensures.0 others c.in-Ok.ensures.1
