use Rattle.std.proofs.Common.{◌≡◌, subst}
use Rattle.std.specs.Prelude.{MatchOption}
use Rattle.indexmap.specs.IndexMap.{spare as room}
use Rattle.piece_table.specs.Pieces.{Pieces}
use Rattle.piece_table.specs.Steps.{after_ready}
use Rattle.piece_table.proofs.Kept.{kept_ready, ready_pieces}
use Rattle.piece_table.proofs.Waiting.{next_starts}
use Rattle.piece_table.proofs.table.PieceTable.next_ready.Goals as goal

pub invariant_of-self : goal.invariant_of-self
invariant_of-self c =
    kept_ready c.self.inside.claims c.next_ready.new.self c.self.inside.lives.entries c.self.inside.owners.entries c.self.inside.next
    c.self.inside.spare_ops (room c.self.inside.lives) (room c.self.inside.owners) c.next_ready.result c.next_ready.ensures.number
    c.next_ready.ensures.after c.self.invariant

pub returns-clause-after : goal.returns-clause-after
returns-clause-after c =
    let before : Pieces = record {
      claims = c.self.inside.claims;
      lives = c.self.inside.lives.entries;
      owners = c.self.inside.owners.entries;
      next = c.self.inside.next;
      spare_ops = c.self.inside.spare_ops;
    } in
    subst (λ (p : Pieces). MatchOption c.next_ready.result (record before { claims = c.next_ready.new.self } ≡ p)
    (λ n. record before { claims = c.next_ready.new.self } ≡ after_ready p)) c.self.view_is
    (ready_pieces before c.next_ready.new.self c.next_ready.result c.next_ready.ensures.after)

pub returns-clause-starts : goal.returns-clause-starts
returns-clause-starts c =
    let before : Pieces = record {
      claims = c.self.inside.claims;
      lives = c.self.inside.lives.entries;
      owners = c.self.inside.owners.entries;
      next = c.self.inside.next;
      spare_ops = c.self.inside.spare_ops;
    } in
    next_starts before c.next_ready.new.self c.next_ready.result c.next_ready.ensures.number c.next_ready.ensures.after c.self.invariant.0
    c.self.invariant.6
