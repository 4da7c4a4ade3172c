use Rattle.std.proofs.Common.{◌≡◌, ℕ, ◌+◌, ◌-◌, true, false, nat_eq, List, Option, Some, None, refl, sym, ap, ap₂, ◌∙◌, subst, rules, arith}
use Rattle.std.specs.Prelude.{unwrap_or}
use Rattle.std.specs.Map.{set_value}
use Rattle.std.specs.Option.{option_map_or}
use Rattle.indexmap.specs.IndexMap.{spare as room}
use Rattle.piece_table.specs.declared.live.LivePiece.{LivePiece}
use Rattle.piece_table.specs.declared.live.Owner.{Owner}
use Rattle.piece_table.specs.declared.live.Stage.{Stage}
use Rattle.piece_table.specs.Pieces.{AreFlying, Pieces, flying_in, flying_of, is_started, is_started_stage, is_waiting_stage, live_at}
use Rattle.piece_table.specs.Pieces.{owner_at}
use Rattle.piece_table.specs.Steps.{after_flies, no_live, with_flying}
use Rattle.piece_table.proofs.Claimed.{Changes}
use Rattle.piece_table.proofs.Entries.{insert_absent}
use Rattle.piece_table.proofs.Flying.{flying_more, one_more}
use Rattle.piece_table.proofs.Kept.{kept_change}
use Rattle.piece_table.proofs.Waiting.{waiting_same, waits_flying}
use Rattle.piece_table.proofs.table.PieceTable.flies.Goals as goal

pub invariant_of-self : goal.invariant_of-self
invariant_of-self c =
    let lives = c.self.inside.lives.entries in
    let n = c.args.number in
    let was : LivePiece = c.in-Some.live.now in
    let now : LivePiece = record c.in-Some.live.now { stage = c.begin_op.new.stage } in
    let is : live_at lives n ≡ Some was = sym c.in-Some.ensures.value in
    let started : is_started_stage was.stage ≡ true =
    subst (λ (o : Option LivePiece). option_map_or (λ (l : LivePiece). is_started_stage l.stage) o false ≡ true) is
    (subst (λ (p : Pieces). is_started p c.args.number ≡ true) (sym c.self.view_is) c.requires.started) in
    let change : Changes lives n (Some now) (c.get_mut.follows.lender now).entries =
    ((c.get_mut.follows.holds now).3 (search rules)).0 in
    let more : flying_of now.stage ≡ flying_in lives n + 1 =
    ap flying_of c.begin_op.ensures ∙ one_more was.stage started
    ∙ sym (ap (λ (o : Option LivePiece). option_map_or (λ (l : LivePiece). flying_of l.stage) o 0 + 1) is) in
    let none = subst (λ (p : Pieces). owner_at p.owners c.args.tag ≡ None) (sym c.self.view_is) c.requires.fresh in
    let owned = c.in-Ok.ensures.entries
    ∙ insert_absent c.self.inside.owners.entries c.args.tag (record { piece = c.args.number; primary = c.args.primary }) none in
    kept_change c.self.inside.claims lives (c.get_mut.follows.lender now).entries c.self.inside.owners.entries c.insert.new.self.entries
    c.self.inside.next c.self.inside.spare_ops (c.self.inside.spare_ops - 1) (room c.self.inside.lives)
    (room (c.get_mut.follows.lender now)) (room c.self.inside.owners) (room c.insert.new.self) n was now change is refl
    (subst (λ os. AreFlying (c.get_mut.follows.lender now).entries os) (sym owned)
    (flying_more lives (c.get_mut.follows.lender now).entries n c.args.tag c.args.primary (Some now) c.self.inside.owners.entries change
    more c.self.invariant.2)) (omega (arith, c.self.invariant.4, c.in-Ok.ensures.spare))
    (omega (arith, (c.get_mut.follows.holds now).6))
    (waiting_same c.self.inside.claims.deferred lives (c.get_mut.follows.lender now).entries n was now change is
    (ap is_waiting_stage c.begin_op.ensures ∙ waits_flying was.stage (λ k. k + 1)) c.self.invariant.6) c.self.invariant

pub returns : goal.returns
returns c =
    let now : LivePiece = record c.in-Some.live.now { stage = c.begin_op.new.stage } in
    let none = subst (λ (p : Pieces). owner_at p.owners c.args.tag ≡ None) (sym c.self.view_is) c.requires.fresh in
    let is = ap (λ (s : Stage). record c.in-Some.live.now { stage = s }) c.begin_op.ensures
    ∙ ap (λ (o : Option LivePiece). record (unwrap_or o no_live) { stage = with_flying (unwrap_or o no_live).stage (λ k. k + 1) })
    c.in-Some.ensures.value in
    ap₂ (λ (ls : List (ℕ × LivePiece)) (os : List (ℕ × Owner)). record {
      claims = c.self.inside.claims;
      lives = ls;
      owners = os;
      next = c.self.inside.next;
      spare_ops = c.self.inside.spare_ops - 1;
    }) ((c.get_mut.follows.holds now).0 ∙ ap (λ (l : LivePiece). set_value (nat_eq c.args.number) c.self.inside.lives.entries l) is)
    (c.in-Ok.ensures.entries
    ∙ insert_absent c.self.inside.owners.entries c.args.tag (record { piece = c.args.number; primary = c.args.primary }) none)
    ∙ ap (λ (p : Pieces). after_flies p c.args.number c.args.tag c.args.primary) c.self.view_is
