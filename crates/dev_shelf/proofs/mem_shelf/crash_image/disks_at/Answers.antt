use Rattle.std.proofs.Common.{◌≡◌, ◌<◌, ℕ, List, [], length, slice_index_or, drop, arith, sym, subst}
use Rattle.std.proofs.lemmas.List.{length-map}
use Rattle.std.proofs.Math.ListN.{get_or-map}
use Rattle.dev_shelf.specs.DiskRow.{sizes_of}
use Rattle.dev_shelf.specs.RowValues.{TakesSectors, told_after}
use Rattle.dev_shelf.proofs.Choosing.{takes_disk_more}
use Rattle.dev_shelf.proofs.mem_shelf.crash_image.disks_at.Goals as goal

pub loop-disk-preserved : goal.loop-disk-preserved
loop-disk-preserved c =
    let row = c.args.row.now in
    let told = told_after row c.args.moment in
    let before = drop c.loop-disk.taken c.args.choices.now.items in
    let after = drop c.sectors_at.new.taken c.args.choices.now.items in
    let size : slice_index_or (sizes_of row) c.loop-disk.disk 0 ≡ length (slice_index_or row.opened.items c.loop-disk.disk []) =
    get_or-map (λ (d : List (List ℕ)). length d) row.opened.items c.loop-disk.disk [] in
    let lt : c.loop-disk.disk < length (sizes_of row) = simp length-map (omega (arith, row.opened.ok.0)) in
    rw c.in_ok-push.ensures.items
    (takes_disk_more told (sizes_of row) c.loop-disk.disk c.args.choices.now.items c.loop-disk.disks.items before c.in_ok-sectors_at.field-0 after
    c.loop-disk.invariant lt
    (subst (λ (n : ℕ). TakesSectors told c.loop-disk.disk n before c.in_ok-sectors_at.field-0 after) (sym size) c.in_ok-sectors_at.ensures))
