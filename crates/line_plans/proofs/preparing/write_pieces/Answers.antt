-- Each piece lies within the request, and has what the command brings to it.
use Rattle.std.proofs.Common.{◌≤◌, ℕ, ◌+◌, false, true, Option, get_or, sym, subst, ◌∙◌, arith}
use Rattle.std.specs.Prelude.{IfSome}
use Rattle.std.proofs.lemmas.List.{get_or_default}
use Rattle.sector_base.specs.declared.places.Piece.{Piece}
use Rattle.line_plans.specs.declared.preparing.NewPiece.{NewPiece}
use Rattle.line_plans.specs.Plans.{IsBroughtBy}
use Rattle.line_plans.proofs.NewPieces.{cut_more, each_more}
use Rattle.line_plans.proofs.PlacedPieces.{item_of}
use Rattle.line_plans.proofs.preparing.write_pieces.Goals as goal

abbrev none : Piece
none = record { volume = 0; first = 0; count = 0; write = false }

pub contents_for-requires-clause-within : goal.contents_for-requires-clause-within
contents_for-requires-clause-within c =
    let items = c.as_slice-piece-items.result.now in
    let laws = c.pieces_cover_requests.ensures in
    let is =
    item_of c.args.key c.args.start c.args.count true items c.loop-piece.piece-index none
    laws.cover laws.request laws.cut (c.as_slice-piece-items.ensures ∙ c.in_ok-list.ensures) c.loop-piece-test.true in
    let piece : Piece = get_or items c.loop-piece.piece-index none in
    subst (λ (o : Option (ℕ × ℕ)). IfSome o (λ (r : ℕ × ℕ). (r.0 ≤ piece.first) × (piece.first + piece.count ≤ r.0 + r.1)))
    (sym c.requires.range) (is.from, is.to)

pub contents_for-requires-clause-counted : goal.contents_for-requires-clause-counted
contents_for-requires-clause-counted c =
    let items = c.as_slice-piece-items.result.now in
    let laws = c.pieces_cover_requests.ensures in
    let is =
    item_of c.args.key c.args.start c.args.count true items c.loop-piece.piece-index none
    laws.cover laws.request laws.cut (c.as_slice-piece-items.ensures ∙ c.in_ok-list.ensures) c.loop-piece-test.true in
    omega (arith, is.to, c.requires.fits)

pub loop-piece-preserved : goal.loop-piece-preserved
loop-piece-preserved c =
    let items = c.as_slice-piece-items.result.now in
    let piece : Piece = get_or items c.loop-piece.piece-index none in
    let new : NewPiece = record { piece = piece; sectors = c.in_ok-sectors.sectors; ticket = c.in_ok-ticket.ticket } in
    record {
      cut =
          cut_more c.loop-piece.pieces.items c.push.new.self.items new items c.loop-piece.piece-index c.loop-piece-test.true
          (get_or_default items c.loop-piece.piece-index none piece
          c.loop-piece-test.true)
          c.in_ok-push.ensures.items c.loop-piece.invariant.cut;
      each =
          each_more (IsBroughtBy c.args.command.now) c.loop-piece.pieces.items c.push.new.self.items new c.in_ok-push.ensures.items
          c.loop-piece.invariant.each (c.in_ok-sectors.ensures, c.in_ok-ticket.ensures ∙ c.requires.through);
    }
