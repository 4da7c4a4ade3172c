-- What is found then has its shape, and is whole.
use Rattle.std.proofs.Common.{◌≡◌, ℕ, List, length, Some, sym, ap, subst, ◌∙◌, arith}
use Rattle.std.specs.Prelude.{slice_get}
use Rattle.vg_found.specs.Disks.{held_areas}
use Rattle.vg_found.specs.Shape.{HasShape}
use Rattle.vg_found.specs.declared.disk.Disk.{Disk}
use Rattle.vg_repair.specs.Repaired.{repaired_disk, repaired_disks}
use Rattle.vg_repair.specs.Stale.{stale_in, text_of}
use Rattle.vg_repair.proofs.Numbered.{mapped_length}
use Rattle.vg_repair.proofs.RepairedShape.{has_room, never_not_whole, remade, repaired_shape}
use Rattle.vg_repair.proofs.repaired.repaired.Goals as goal

pub repaired_disks-requires-clause-each : goal.repaired_disks-requires-clause-each
repaired_disks-requires-clause-each c pv disk at =
    let there : slice_get c.args.found.disks pv ≡ Some disk =
    subst (λ (l : List Disk). slice_get l pv ≡ Some disk) c.into_vec.ensures at in (
      (c.requires.shape.disks pv disk there).0,
      λ number found is area old. (has_room c.args.found c.requires.shape c.requires.room c.requires.fields pv disk there number found is
          area
          (ap (λ (stale : List (ℕ × ℕ)). stale_in stale pv (number, found)) (sym (c.in_ok-stale_set.ensures ∙ c.as_slice.ensures))
          ∙ old)).1,
    )

pub held_areas-requires : goal.held_areas-requires
held_areas-requires c =
    let made : length c.deref.result.now ≡ length c.into_vec.result.items =
    ap (λ (l : List Disk). length l) (c.deref.ensures.value ∙ c.in_ok-disks.ensures)
    ∙ mapped_length (repaired_disk c.in_ok-stale_set.stale_set c.args.found.strays c.args.found.old (text_of c.args.found))
    c.into_vec.result.items
    in
    let came : length c.into_vec.result.items ≡ length c.args.found.disks = ap (λ (l : List Disk). length l) c.into_vec.ensures in
    record { few = omega (arith, made, came, c.requires.shape.few) }

pub whole-requires : goal.whole-requires
whole-requires c =
    let new = repaired_disks c.args.found.stale c.args.found.strays c.args.found.old (text_of c.args.found) in
    let same : c.in_ok-disks.disks.items ≡ new c.args.found.disks =
    c.in_ok-disks.ensures
    ∙ ap (λ (stale : List (ℕ × ℕ)). repaired_disks stale c.args.found.strays c.args.found.old (text_of c.args.found)
    c.into_vec.result.items)
    (c.in_ok-stale_set.ensures ∙ c.as_slice.ensures)
    ∙ ap new c.into_vec.ensures
    in
    subst HasShape
    (sym (remade c.args.found c.from_vec.result c.in_ok-areas.areas c.from_vec-2.result c.new-2.result c.new-3.result
    (c.from_vec.ensures ∙ same)
    (c.in_ok-areas.ensures ∙ ap (held_areas 0) (c.deref.ensures.value ∙ same)) (c.from_vec-2.ensures ∙ c.new.ensures.items)
    c.new-2.ensures c.new-3.ensures))
    (repaired_shape c.args.found c.requires.shape c.requires.room c.requires.fields)

pub unreachable-requires : goal.unreachable-requires
unreachable-requires c =
    never_not_whole (record c.args.found {
      disks = c.from_vec.result;
      areas = c.in_ok-areas.areas;
      stale = c.from_vec-2.result;
      strays = c.new-2.result;
      old = c.new-3.result;
    }) c.in-Err.field-0.why
    (record { read = c.requires.whole.read; there = c.requires.whole.there }) c.in-Err.ensures.1
