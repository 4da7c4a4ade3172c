use Rattle.std.proofs.Common.{◌≡◌, ◌<◌, ◌+◌, ◌-◌, Option, Some, refl, sym, ap, ◌∙◌, subst, rules, arith}
use Rattle.std.specs.Option.{option_map_or}
use Rattle.piece_table.specs.declared.live.LivePiece.{LivePiece}
use Rattle.indexmap.specs.IndexMap.{spare as room}
use Rattle.piece_table.specs.declared.live.Stage.{Stage}
use Rattle.piece_table.specs.Pieces.{AreFlying, flying_in, flying_of, is_waiting_stage, live_at}
use Rattle.piece_table.proofs.Claimed.{Changes}
use Rattle.piece_table.proofs.Flying.{flying_less, one_less, owner_flies}
use Rattle.piece_table.proofs.Kept.{kept_change}
use Rattle.piece_table.proofs.Waiting.{waiting_same, waits_flying}
use Rattle.piece_table.proofs.table.PieceTable.lands.Goals as goal

pub end_op-requires : goal.end_op-requires
end_op-requires c =
    subst (λ (o : Option LivePiece). 0 < option_map_or (λ (l : LivePiece). flying_of l.stage) o 0) (sym c.in-Some.ensures.value)
    (owner_flies c.self.inside.lives.entries c.args.tag c.in_ok-owner.owner c.self.inside.owners.entries (sym c.in_ok-owner.ensures.value)
    c.self.invariant.2)

pub unreachable-requires : goal.unreachable-requires
unreachable-requires c =
    let none : flying_in c.self.inside.lives.entries c.in_ok-owner.owner.piece ≡ 0 =
    ap (λ (o : Option LivePiece). option_map_or (λ (l : LivePiece). flying_of l.stage) o 0) (sym c.in-None.ensures.value) in
    absurd (omega (
      arith,
      none,
      owner_flies c.self.inside.lives.entries c.args.tag c.in_ok-owner.owner c.self.inside.owners.entries (sym c.in_ok-owner.ensures.value)
          c.self.invariant.2,
    ))

pub invariant_of-self-2 : goal.invariant_of-self-2
invariant_of-self-2 c =
    let lives = c.self.inside.lives.entries in
    let owner = c.in_ok-owner.owner in
    let was : LivePiece = c.in-Some.live.now in
    let now : LivePiece = record c.in-Some.live.now { stage = c.end_op.new.stage } in
    let found = sym c.in_ok-owner.ensures.value in
    let is : live_at lives owner.piece ≡ Some was = sym c.in-Some.ensures.value in
    let flies = owner_flies lives c.args.tag owner c.self.inside.owners.entries found c.self.invariant.2 in
    let some : 0 < flying_of was.stage =
    subst (λ (o : Option LivePiece). 0 < option_map_or (λ (l : LivePiece). flying_of l.stage) o 0) is flies in
    let change : Changes lives owner.piece (Some now) (c.get_mut.follows.lender now).entries =
    ((c.get_mut.follows.holds now).3 (search rules)).0 in
    let less : flying_of now.stage + 1 ≡ flying_in lives owner.piece =
    ap (λ (s : Stage). flying_of s + 1) c.end_op.ensures ∙ one_less was.stage some
    ∙ sym (ap (λ (o : Option LivePiece). option_map_or (λ (l : LivePiece). flying_of l.stage) o 0) is) in
    kept_change c.self.inside.claims lives (c.get_mut.follows.lender now).entries c.self.inside.owners.entries
    c.swap_remove.new.self.entries c.self.inside.next c.self.inside.spare_ops c.self.inside.spare_ops (room c.self.inside.lives)
    (room (c.get_mut.follows.lender now)) (room c.self.inside.owners) (room c.swap_remove.new.self) owner.piece was now change is refl
    (subst (λ os. AreFlying (c.get_mut.follows.lender now).entries os) (sym c.swap_remove.ensures.entries)
    (flying_less lives (c.get_mut.follows.lender now).entries c.args.tag owner (Some now) c.self.inside.owners.entries found change less
    c.self.invariant.2)) (omega (arith, c.self.invariant.4, c.swap_remove.ensures.room.0))
    (omega (arith, (c.get_mut.follows.holds now).6))
    (waiting_same c.self.inside.claims.deferred lives (c.get_mut.follows.lender now).entries owner.piece was now change is
    (ap is_waiting_stage c.end_op.ensures ∙ waits_flying was.stage (λ k. k - 1)) c.self.invariant.6) c.self.invariant
