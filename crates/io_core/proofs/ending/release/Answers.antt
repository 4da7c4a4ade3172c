use Rattle.std.proofs.Common.{◌≡◌, ◌<◌, nat_le, Option, Some, IfSome, is_some, sym, ap, subst, ◌∙◌}
use Rattle.std.specs.Option.{option_map_or}
use Rattle.flush_plan.specs.Plans.{marks_of}
use Rattle.flush_waits.specs.declared.ticket.Waiter.TheVariants.{Line, Piece}
use Rattle.flush_waits.specs.declared.ticket.Waiting.{Waiting}
use Rattle.flush_waits.specs.Waits.{Waits}
use Rattle.piece_table.specs.declared.live.LivePiece.{LivePiece}
use Rattle.piece_table.specs.Pieces.{flying_of}
use Rattle.world_acts.specs.declared.state.Core.{Core}
use Rattle.world_acts.specs.Acts.{core_released}
use Rattle.world_acts.specs.OpenLines.{left_of}
use Rattle.world_acts.specs.Steps.{after_leaves}
use Rattle.io_core.proofs.LiveLines.{left_tidy}
use Rattle.io_core.proofs.PieceAsks.{live_is}
use Rattle.io_core.proofs.FirstReleased.{IsUpTo, released_first}
use Rattle.io_core.proofs.Released.{released_as, released_line, released_piece, unserved_release}
use Rattle.io_core.proofs.ending.release.Goals as goal

pub get-requires : goal.get-requires
get-requires c =
    ap is_some (released_piece c.args.core.now c.args.pv c.in-Piece.number c.in_ok-first.first c.requires.tidy c.requires.disk
    (sym c.in_ok-first.ensures.first) c.in-Piece.is).1.at

pub leave-requires-clause-among : goal.leave-requires-clause-among
leave-requires-clause-among c =
    ap is_some (released_piece c.args.core.now c.args.pv c.in-Piece.number c.in_ok-first.first c.requires.tidy c.requires.disk
    (sym c.in_ok-first.ensures.first) c.in-Piece.is).1.at

pub leave-requires-clause-landed : goal.leave-requires-clause-landed
leave-requires-clause-landed c =
    ap (λ (x : Option LivePiece). option_map_or (λ (l : LivePiece). flying_of l.stage) x 0)
    (released_piece c.args.core.now c.args.pv c.in-Piece.number c.in_ok-first.first c.requires.tidy c.requires.disk
    (sym c.in_ok-first.ensures.first) c.in-Piece.is).1.at

pub leave-requires-clause-left : goal.leave-requires-clause-left
leave-requires-clause-left c =
    let l : LivePiece = c.get.result.now in
    subst (λ (x : LivePiece). 0 < left_of c.args.core.now.opens x.line)
    (sym (live_is c.args.core.now.pieces c.in-Piece.number l c.get.ensures))
    (left_tidy c.args.core.now c.in-Piece.number l c.requires.tidy c.get.ensures)

pub finish-requires : goal.finish-requires
finish-requires c =
    released_line c.args.core.now c.args.pv c.in-Line.line c.in_ok-first.first c.requires.tidy c.requires.disk
    (sym c.in_ok-first.ensures.first) c.in-Line.is

pub returns-in-Piece : goal.returns-in-Piece
returns-in-Piece c =
    let core : Core = c.args.core.now in
    let p = released_as core c.args.pv c.in_ok-first.first (Piece c.in-Piece.number) c.in_ok-first.ensures.first c.in-Piece.is in
    record {
      first =
          ap (λ (l : LivePiece). Some (l.line, c.is_stable-lasts.result))
          (sym (live_is core.pieces c.in-Piece.number c.get.result.now c.get.ensures))
          ∙ released_first core c.args.pv c.in_ok-first.first (Piece c.in-Piece.number) c.is_stable-lasts.result c.in_ok-first.ensures.first
          c.in-Piece.is
          (c.is_stable-lasts.ensures
          ∙ ap (λ (x : Waits). nat_le c.in_ok-first.first.place (marks_of x.plan c.args.pv).stable) c.release.ensures.after);
      behind =
          subst (λ (x : Option Waiting). IfSome x (IsUpTo (marks_of core.waits.plan c.args.pv).ended)) c.in_ok-first.ensures.first
          c.in_ok-first.ensures.behind;
      after =
          c.leave.ensures
          ∙ ap (λ (x : Waits). after_leaves (record core { waits = x }) c.in-Piece.number c.args.pv) c.release.ensures.after ∙ p.0;
    }

pub returns-in-Line : goal.returns-in-Line
returns-in-Line c =
    let core : Core = c.args.core.now in
    let p = released_as core c.args.pv c.in_ok-first.first (Line c.in-Line.line) c.in_ok-first.ensures.first c.in-Line.is in
    record {
      first =
          released_first core c.args.pv c.in_ok-first.first (Line c.in-Line.line) c.is_stable-lasts.result c.in_ok-first.ensures.first
          c.in-Line.is
          (c.is_stable-lasts.ensures
          ∙ ap (λ (x : Waits). nat_le c.in_ok-first.first.place (marks_of x.plan c.args.pv).stable) c.release.ensures.after);
      behind =
          subst (λ (x : Option Waiting). IfSome x (IsUpTo (marks_of core.waits.plan c.args.pv).ended)) c.in_ok-first.ensures.first
          c.in_ok-first.ensures.behind;
      after = (λ i. record core { waits = c.release.ensures.after i; opens = c.finish.ensures i }) ∙ p.0;
    }

pub returns-in_err-first-clause-behind : goal.returns-in_err-first-clause-behind
returns-in_err-first-clause-behind c =
    subst (λ (x : Option Waiting). IfSome x (IsUpTo (marks_of c.args.core.now.waits.plan c.args.pv).ended)) c.in_err-first.ensures.first tt

pub returns-in_err-first-clause-after : goal.returns-in_err-first-clause-after
returns-in_err-first-clause-after c =
    let core : Core = c.args.core.now in
    let same : c.release.new.self ≡ core.waits =
    c.release.ensures.after ∙ unserved_release core.waits c.args.pv c.in_err-first.ensures.first in
    ap (λ (x : Waits). record core { waits = x }) same
    ∙ ap (λ (x : Option Waiting). core_released core c.args.pv x) c.in_err-first.ensures.first
