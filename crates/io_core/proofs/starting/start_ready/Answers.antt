use Rattle.std.proofs.Common.{◌≡◌, ◌≢◌, ℕ, List, length, Option, Some, is_some, refl, sym, ap, subst, ◌∙◌, arith}
use Rattle.claim_table.specs.declared.claim.Claim.{Claim}
use Rattle.piece_table.specs.declared.live.LivePiece.{LivePiece}
use Rattle.piece_table.specs.Pieces.{Pieces}
use Rattle.world_acts.specs.declared.state.Core.{Core}
use Rattle.world_acts.specs.Acts.{Reaches, World, follows, world}
use Rattle.world_acts.proofs.Orderly.{orderly_reaches}
use Rattle.world_acts.proofs.Reaching.{reaches_both, reaches_none, starts_follow}
use Rattle.io_core.specs.Rest.{IsCalm, NoneReady, just, no_one}
use Rattle.io_core.proofs.Deferred.{none_found}
use Rattle.io_core.proofs.LiveLines.{live_open, live_other}
use Rattle.io_core.proofs.Waking.{TurnAt, same_opened, turn_at, turn_calm}
use Rattle.io_core.proofs.starting.start_ready.Goals as goal

pub loop-number-init : goal.loop-number-init
loop-number-init g c = record {
  orderly = c.requires.orderly;
  calm = c.requires.calm;
  reaches = reaches_none follows (world (g.S.Shelf.state c.args.shelf.now) c.args.core.now);
  waits = refl;
}

pub start-requires-clause-orderly : goal.start-requires-clause-orderly
start-requires-clause-orderly g c =
    (turn_at (g.S.Shelf.state c.loop-number.shelf) c.loop-number.core c.next_ready.new.self c.in-Some.number
    c.loop-number.invariant.orderly c.in-Some.ensures.number c.in-Some.ensures.after c.loop-number.invariant.calm).orderly

pub close_line-requires-clause-orderly : goal.close_line-requires-clause-orderly
close_line-requires-clause-orderly g c =
    orderly_reaches c.start.ensures.reaches
    (turn_at (g.S.Shelf.state c.loop-number.shelf) c.loop-number.core c.next_ready.new.self c.in-Some.number
    c.loop-number.invariant.orderly c.in-Some.ensures.number c.in-Some.ensures.after c.loop-number.invariant.calm).orderly

pub close_line-requires-clause-opened : goal.close_line-requires-clause-opened
close_line-requires-clause-opened g c =
    let u : Core = record c.loop-number.core { pieces = c.next_ready.new.self } in
    let t : TurnAt (g.S.Shelf.state c.loop-number.shelf) c.loop-number.core c.next_ready.new.self c.in-Some.number =
    turn_at (g.S.Shelf.state c.loop-number.shelf) c.loop-number.core c.next_ready.new.self c.in-Some.number
    c.loop-number.invariant.orderly c.in-Some.ensures.number c.in-Some.ensures.after c.loop-number.invariant.calm in
    same_opened u.opens c.start.new.core.opens c.get.result.now.line c.start.ensures.opens
    (ap is_some (live_open (world (g.S.Shelf.state c.loop-number.shelf) u) c.in-Some.number c.get.result.now t.orderly
    c.get.ensures).is_open)

pub close_line-requires-clause-other : goal.close_line-requires-clause-other
close_line-requires-clause-other g c =
    let u : Core = record c.loop-number.core { pieces = c.next_ready.new.self } in
    let t : TurnAt (g.S.Shelf.state c.loop-number.shelf) c.loop-number.core c.next_ready.new.self c.in-Some.number =
    turn_at (g.S.Shelf.state c.loop-number.shelf) c.loop-number.core c.next_ready.new.self c.in-Some.number
    c.loop-number.invariant.orderly c.in-Some.ensures.number c.in-Some.ensures.after c.loop-number.invariant.calm in
    subst (λ (b : Option ℕ). b ≢ Some c.get.result.now.line) (sym c.start.ensures.barrier)
    (live_other (world (g.S.Shelf.state c.loop-number.shelf) u) c.in-Some.number c.get.result.now t.orderly c.get.ensures)

pub loop-number-preserved : goal.loop-number-preserved
loop-number-preserved g c =
    let first : World = world (g.S.Shelf.state c.args.shelf.now) c.args.core.now in
    let u : Core = record c.loop-number.core { pieces = c.next_ready.new.self } in
    let w : World = world (g.S.Shelf.state c.loop-number.shelf) c.loop-number.core in
    let x : World = world (g.S.Shelf.state c.loop-number.shelf) u in
    let v : World = world (g.S.Shelf.state c.start.new.shelf) c.start.new.core in
    let z : World = world (g.S.Shelf.state c.start.new.shelf) c.close_line.new.core in
    let l : LivePiece = c.get.result.now in
    let t : TurnAt (g.S.Shelf.state c.loop-number.shelf) c.loop-number.core c.next_ready.new.self c.in-Some.number =
    turn_at (g.S.Shelf.state c.loop-number.shelf) c.loop-number.core c.next_ready.new.self c.in-Some.number
    c.loop-number.invariant.orderly c.in-Some.ensures.number c.in-Some.ensures.after c.loop-number.invariant.calm in
    let k = turn_calm u c.in-Some.number l c.get.ensures t.calm in
    record {
      orderly = orderly_reaches c.close_line.ensures.reaches (orderly_reaches c.start.ensures.reaches t.orderly);
      calm = c.close_line.ensures.calm (c.start.ensures.calm (just l.line) k.0 k.1);
      reaches =
          reaches_both follows first w z c.loop-number.invariant.reaches
          (reaches_both follows w x z t.reaches
          (reaches_both follows x v z (starts_follow x v c.start.ensures.reaches) c.close_line.ensures.reaches));
      waits = c.close_line.ensures.waits ∙ c.start.ensures.waits ∙ c.loop-number.invariant.waits;
    }

pub loop-number-smaller : goal.loop-number-smaller
loop-number-smaller g c =
    let t : TurnAt (g.S.Shelf.state c.loop-number.shelf) c.loop-number.core c.next_ready.new.self c.in-Some.number =
    turn_at (g.S.Shelf.state c.loop-number.shelf) c.loop-number.core c.next_ready.new.self c.in-Some.number
    c.loop-number.invariant.orderly c.in-Some.ensures.number c.in-Some.ensures.after c.loop-number.invariant.calm in
    let closed : length c.close_line.new.core.pieces.claims.deferred ≡ length c.start.new.core.pieces.claims.deferred =
    ap (λ (p : Pieces). length p.claims.deferred) c.close_line.ensures.pieces in
    let started : length c.start.new.core.pieces.claims.deferred ≡ length c.next_ready.new.self.claims.deferred =
    ap (λ (d : List Claim). length d) c.start.ensures.deferred in
    omega (arith, closed, started, t.fewer)

pub returns : goal.returns
returns g c =
    let same : record c.loop-number.core { pieces = c.next_ready.new.self } ≡ c.loop-number.core =
    ap (λ (p : Pieces). record c.loop-number.core { pieces = p }) c.in_default.ensures.after in
    let first : World = world (g.S.Shelf.state c.args.shelf.now) c.args.core.now in
    let kept = c.loop-number.invariant in
    record {
      reaches = subst (λ (x : Core). Reaches follows first (world (g.S.Shelf.state c.loop-number.shelf) x)) (sym same) kept.reaches;
      calm = subst (λ (x : Core). IsCalm no_one no_one x) (sym same) kept.calm;
      ready = subst NoneReady (sym same) (none_found c.loop-number.core.pieces.claims c.in_default.ensures.number);
      waits = kept.waits;
    }
