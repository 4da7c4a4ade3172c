use Rattle.std.proofs.Common.{◌≡◌, sym, subst}
use Rattle.std.specs.Prelude.{IsTrue}
use Rattle.indexmap.specs.IndexMap.{spare as room}
use Rattle.claim_table.specs.Claims.{Claims}
use Rattle.piece_table.specs.Pieces.{Pieces, flying_at, is_among}
use Rattle.piece_table.proofs.Claimed.{is_claimed}
use Rattle.piece_table.proofs.Kept.{Kept, kept_leave}
use Rattle.piece_table.proofs.table.PieceTable.leave.Goals as goal

pub leave-requires : goal.leave-requires
leave-requires c =
    let among = subst (λ (p : Pieces). IsTrue (is_among p c.args.number)) (sym c.self.view_is) c.requires.among in
    is_claimed c.self.inside.claims c.self.inside.lives.entries c.args.number among c.self.invariant.0

pub invariant_of-self : goal.invariant_of-self
invariant_of-self c =
    let among = subst (λ (p : Pieces). IsTrue (is_among p c.args.number)) (sym c.self.view_is) c.requires.among in
    let landed = subst (λ (p : Pieces). flying_at p c.args.number ≡ 0) (sym c.self.view_is) c.requires.landed in
    subst (λ (x : Claims). Kept x c.swap_remove.new.self.entries c.self.inside.owners.entries c.self.inside.next c.self.inside.spare_ops
    (room c.swap_remove.new.self) (room c.self.inside.owners)) (sym c.leave.ensures)
    (kept_leave c.self.inside.claims c.self.inside.lives.entries c.swap_remove.new.self.entries c.self.inside.owners.entries
    c.self.inside.next c.self.inside.spare_ops (room c.self.inside.lives) (room c.swap_remove.new.self) (room c.self.inside.owners)
    c.args.number c.swap_remove.ensures.updates.0 among landed c.swap_remove.ensures.room.0 c.self.invariant)
