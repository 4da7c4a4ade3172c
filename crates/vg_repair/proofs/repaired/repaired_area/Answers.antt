use Rattle.std.proofs.Common.{◌≡◌, Bool, true, cond, None, sym, ap, ◌∙◌}
use Rattle.vg_found.specs.Disks.{held_area}
use Rattle.vg_repair.specs.Stale.{is_among}
use Rattle.vg_repair.proofs.repaired.repaired_area.Goals as goal

pub new_entry-requires-clause-room : goal.new_entry-requires-clause-room
new_entry-requires-clause-room c =
    let among : is_among c.args.repair.now.stale c.args.pv c.args.number ≡ true = sym c.contains-2.ensures ∙ c.if-contains-2.true in
    c.requires.room (c.in-Some.area, c.in-Some.committed)
    (ap (λ (b : Bool). cond b (held_area c.args.pv c.args.found.now) None) among ∙ sym c.held_area.ensures ∙ c.in-Some.is)
