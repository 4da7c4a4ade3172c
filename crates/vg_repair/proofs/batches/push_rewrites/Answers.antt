-- The three batches of a commit are added where there is an area.
use Rattle.std.proofs.Common.{◌≡◌, ◌<◌, List, Option, None, length, sym, subst, arith}
use Rattle.std.specs.Ordering.{nat_cmp}
use Rattle.std.specs.FinSet as set
use Rattle.mda_header.specs.declared.header.Locn.{Locn}
use Rattle.mda_ring.specs.declared.area.Area.{Area}
use Rattle.vg_commit.specs.Preparing.{AreCommitted}
use Rattle.change_batches.specs.Building.{IsTextAdded}
use Rattle.vg_repair.specs.Stale.{too_large_among}
use Rattle.vg_repair.proofs.TextBatches.{all_fit, held_committed, some_rewritten}
use Rattle.vg_repair.proofs.batches.push_rewrites.Goals as goal

pub push_text-requires-clause-committed : goal.push_text-requires-clause-committed
push_text-requires-clause-committed c =
    let some : 0 < length c.args.areas.now = omega (arith, c.if-len-eq0.false, c.len.ensures) in
    subst (λ (disks : set.FinSet nat_cmp). AreCommitted c.args.areas.now disks) (sym c.disks_of.ensures)
    (held_committed c.args.areas.now some c.requires)

pub push_text-requires-clause-room : goal.push_text-requires-clause-room
push_text-requires-clause-room c =
    all_fit c.args.text.now c.args.areas.now
    (subst (λ (l : List (Area × Option Locn)). too_large_among c.args.text.now l ≡ None) c.as_slice.ensures c.in_ok-have_room.ensures)

pub returns : goal.returns
returns c =
    let some : 0 < length c.args.areas.now = omega (arith, c.if-len-eq0.false, c.len.ensures) in
    let fit : too_large_among c.args.text.now c.args.areas.now ≡ None =
    subst (λ (l : List (Area × Option Locn)). too_large_among c.args.text.now l ≡ None) c.as_slice.ensures c.in_ok-have_room.ensures in
    some_rewritten c.args.text.now c.args.areas.now c.args.batches.now.items c.push_text.new.batches.items some fit
    (subst (λ (disks : set.FinSet nat_cmp). IsTextAdded c.args.text.now c.args.areas.now disks c.args.batches.now.items
    c.push_text.new.batches.items) c.disks_of.ensures c.in_ok-push_text.ensures)
