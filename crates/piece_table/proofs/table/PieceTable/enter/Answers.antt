use Rattle.std.proofs.Common.{ℕ, ◌+◌, List, refl, ap, ap₂, ◌∙◌, arith}
use Rattle.claim_table.specs.Claims.{Claims}
use Rattle.piece_table.specs.declared.live.LivePiece.{LivePiece}
use Rattle.piece_table.specs.Pieces.{Pieces, claim_of}
use Rattle.piece_table.specs.Steps.{after_enter}
use Rattle.piece_table.proofs.Entries.{insert_absent}
use Rattle.piece_table.proofs.Waiting.{enter_starts}
use Rattle.piece_table.proofs.table.PieceTable.enter.Goals as goal

pub returns-clause-after : goal.returns-clause-after
returns-clause-after c =
    ap₂ (λ (x : Claims) (ls : List (ℕ × LivePiece)). record {
      claims = x;
      lives = ls;
      owners = c.self.inside.owners.entries;
      next = c.self.inside.next + 1;
      spare_ops = c.self.inside.spare_ops;
    }) c.enter.ensures.after
    (c.in-Ok.ensures.entries ∙ insert_absent c.self.inside.lives.entries c.self.inside.next _ (c.self.invariant.1 c.self.inside.next
    (omega arith)))
    ∙ ap (λ (p : Pieces). after_enter p c.args.line c.args.piece c.args.region c.args.sectors c.args.ticket c.enter.result) c.self.view_is

pub returns-clause-started : goal.returns-clause-started
returns-clause-started c started =
    enter_starts c.self.inside.claims c.enter.new.self c.self.inside.lives.entries c.insert.new.self.entries
    (claim_of c.self.inside.next c.args.piece c.args.region) _ c.enter.result c.enter.ensures.after c.in-Ok.ensures.updates.0
    (c.self.invariant.1 c.self.inside.next (omega arith)) refl c.self.invariant.6 started
