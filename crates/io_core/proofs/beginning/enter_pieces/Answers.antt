use Rattle.std.proofs.Common.{◌≡◌, ◌∷◌, [], List, None, Option, length, reverse, sym, ap, subst, ◌∙◌, arith}
use Rattle.std.proofs.lemmas.List.{append-nil, length-map, nil_from_length, reverse-append, reverse-reverse}
use Rattle.sector_base.specs.declared.places.Piece.{Piece}
use Rattle.claim_table.specs.declared.claim.By.{By}
use Rattle.world_acts.specs.Acts.{Prepares, World, world}
use Rattle.line_plans.specs.declared.preparing.NewPiece.{NewPiece}
use Rattle.io_core.proofs.PieceEnters.{MayEnterPiece, PiecesEnter, first_enters, none_entered, one_entered, pieces_in}
use Rattle.io_core.proofs.beginning.enter_pieces.Goals as goal

pub loop-new-init : goal.loop-new-init
loop-new-init g c =
    let w : World = world (g.S.Shelf.state c.args.shelf.now) c.args.core.now in
    subst (λ (l : List NewPiece). PiecesEnter c.args.line None w w c.args.pieces.items l)
    (sym (ap (λ (l : List NewPiece). reverse l) c.reverse.ensures.items ∙ reverse-reverse c.args.pieces.items))
    (none_entered c.args.line w c.args.pieces.items
    (record {
      orderly = c.requires.orderly;
      opened = c.requires.opened;
      each = c.requires.each;
      room = c.requires.room;
      spare = c.requires.spare;
      few = c.requires.few;
    }))

pub enter_piece-by-requires : goal.enter_piece-by-requires
enter_piece-by-requires g c =
    let v : World = world (g.S.Shelf.state c.loop-new.shelf) c.loop-new.core in
    let rest : List NewPiece = c.pop.new.self.items in
    let next : reverse c.loop-new.rest.items ≡ c.in-Some.new ∷ reverse rest =
    ap (λ (l : List NewPiece). reverse l) c.in-Some.ensures.items ∙ reverse-append rest (c.in-Some.new ∷ []) in
    let all = subst (λ (l : List NewPiece). PiecesEnter c.args.line c.loop-new.first
    (world (g.S.Shelf.state c.args.shelf.now) c.args.core.now) v c.args.pieces.items l) next c.loop-new.invariant in
    let is : MayEnterPiece v c.args.line c.in-Some.new = first_enters c.args.line v c.in-Some.new (reverse rest) all.may in
    record { orderly = is.orderly; opened = is.opened; may = is.may; room = is.room; spare = is.spare; few = is.few }

pub loop-new-preserved : goal.loop-new-preserved
loop-new-preserved g c =
    let w : World = world (g.S.Shelf.state c.args.shelf.now) c.args.core.now in
    let v : World = world (g.S.Shelf.state c.loop-new.shelf) c.loop-new.core in
    let u : World = world (g.S.Shelf.state c.enter_piece-by.new.shelf) c.enter_piece-by.new.core in
    let rest : List NewPiece = c.pop.new.self.items in
    let next : reverse c.loop-new.rest.items ≡ c.in-Some.new ∷ reverse rest =
    ap (λ (l : List NewPiece). reverse l) c.in-Some.ensures.items ∙ reverse-append rest (c.in-Some.new ∷ []) in
    let is = c.enter_piece-by.ensures in
    subst (λ (by : Option By). PiecesEnter c.args.line by w u c.args.pieces.items (reverse rest)) (sym c.or-first.ensures)
    (one_entered c.args.line c.loop-new.first c.enter_piece-by.result w v u c.in-Some.new c.args.pieces.items (reverse rest)
    (subst (λ (l : List NewPiece). PiecesEnter c.args.line c.loop-new.first w v c.args.pieces.items l) next c.loop-new.invariant)
    (record {
      prepares = is.prepares;
      room = is.room;
      spare = is.spare;
      calm = is.calm;
      ready = is.ready;
      opens = is.opens;
      barrier = is.barrier;
      waits = is.waits;
      left = is.left;
    }))

pub returns : goal.returns
returns g c =
    let w : World = world (g.S.Shelf.state c.args.shelf.now) c.args.core.now in
    let v : World = world (g.S.Shelf.state c.loop-new.shelf) c.loop-new.core in
    let k : PiecesEnter c.args.line c.loop-new.first w v c.args.pieces.items [] =
    subst (λ (l : List NewPiece). PiecesEnter c.args.line c.loop-new.first w v c.args.pieces.items (reverse l))
    (nil_from_length c.loop-new.rest.items (omega (arith, c.in_default.ensures.cases.0, c.loop-new.rest.ok.0))) c.loop-new.invariant
    in
    let all : k.done ≡ pieces_in c.args.pieces.items = sym (append-nil k.done) ∙ k.some in
    record {
      prepares = subst (λ (ps : List Piece). Prepares c.args.line ps c.loop-new.first w v) all k.has.prepares;
      none =
          λ is. k.has.none (ap (λ (l : List Piece). length l) all ∙ length-map c.args.pieces.items (λ (new : NewPiece). new.piece) ∙ is);
      calm = k.has.calm;
      ready = k.has.ready;
      opens = k.has.opens;
      barrier = k.has.barrier;
      waits = k.has.waits;
    }
