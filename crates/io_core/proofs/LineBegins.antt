-- A line that begins, waits for its flushes and enters its pieces.
use Rattle.std.proofs.Common.{◌≡◌, ◌≤◌, ◌<◌, ◌+◌, ℕ, zero, suc, Bool, true, false, List, [], ◌∷◌, ◌++◌, length, get_or, map, All, Option}
use Rattle.std.proofs.Common.{None, Some, filter, inl, inr, is_some, slice_get, unwrap_or, refl, sym, ap, subst, ◌∙◌, arith, true≢false}
use Rattle.std.specs.Option.{option_map_or}
use Rattle.std.proofs.lemmas.Bool.{eq-eqb, eqb-false}
use Rattle.std.proofs.lemmas.List.{get_or_push, length-map, length_push}
use Rattle.std.proofs.lemmas.List.Elements.{All-head, All-nil, filter-append}
use Rattle.std.proofs.lemmas.Option.{none-some, slice_get-get_or}
use Rattle.sector_base.specs.declared.places.Piece.{Piece}
use Rattle.command_table.specs.declared.command.Command.{Command}
use Rattle.command_table.specs.declared.command.Command.TheVariants.{Wait}
use Rattle.line_answers.specs.declared.answer.Answer.{Answer}
use Rattle.line_answers.specs.declared.op_refusal.OpRefusal.{OpRefusal}
use Rattle.lvm_script.specs.declared.line.Line.{Line}
use Rattle.data_lines.specs.DataLines.{is_flush}
use Rattle.line_table.specs.Steps.{is_open}
use Rattle.claim_table.specs.declared.claim.By.{By}
use Rattle.claim_table.specs.Claims.{ready_at}
use Rattle.flush_plan.specs.Plans.{flight_of}
use Rattle.flush_waits.specs.Waits.{Waits, disk_waits}
use Rattle.piece_table.specs.Pieces.{Pieces}
use Rattle.world_acts.specs.declared.state.Core.{Core}
use Rattle.world_acts.specs.declared.open_line.OpenLine.{OpenLine}
use Rattle.world_acts.specs.declared.open_line.Work.{Work}
use Rattle.world_acts.specs.declared.open_line.Work.TheVariants.{Read, Whole, Write}
use Rattle.world_acts.specs.declared.volumes.Volumes.{Volumes}
use Rattle.world_acts.specs.Acts.{Begins, Holds, IsPartOf, MayBegin, Prepares, Reaches, World, after, carries_on, follows, world}
use Rattle.world_acts.specs.OpenLines.{IsBarrier, is_whole, left_of, no_open, open_at, open_of}
use Rattle.world_acts.specs.Orderly.{IsOrderly}
use Rattle.world_acts.specs.Rooms.{more}
use Rattle.world_acts.proofs.Lasting.{begun_reaches, sizes_reach}
use Rattle.world_acts.proofs.Orderly.{orderly_after, orderly_reaches}
use Rattle.world_acts.proofs.Reaching.{prepared_carried, prepares_both, prepares_none, reaches_act, reaches_none}
use Rattle.line_plans.specs.declared.preparing.NewPiece.{NewPiece}
use Rattle.line_plans.specs.declared.preparing.Plan.{Plan}
use Rattle.io_core.specs.Beginning.{AwaitsAll, MayCarryOn}
use Rattle.io_core.specs.declared.beginning.Begun.{Begun}
use Rattle.io_core.specs.declared.beginning.Begun.TheVariants.{Started}
use Rattle.io_core.specs.Events.{BeginsIn, IsPreparedAndGoes, begun_as}
use Rattle.line_plans.specs.Plans.{AreTickets, MayBeBegun, MayBeOf, flushes_room, opened_on, opened_refused, pieces_for, pieces_room}
use Rattle.io_core.specs.Rest.{IsCalm, IsSettled, just, no_one}
use Rattle.io_core.proofs.Calm.{OthersStay, asked_same, unfinished_changed}
use Rattle.io_core.proofs.LineWaits.{HasWaited, MayAwaitFlushes}
use Rattle.io_core.proofs.PieceEnters.{HasEntered, MayEnterPieces, pieces_in}
use Rattle.io_core.proofs.RoomsBorne.{borne_less, borne_owed, covers_first, covers_last, pieces_ops}
use Rattle.io_core.proofs.SameKinds.{KindKept, kept_kind, may_be_still}

-- ---- a line that was begun is carried on

-- whether the line at this place flushes its volume
abbrev is_flush_in : List Line → ℕ → Bool
is_flush_in begun line = option_map_or (λ (l : Line). is_flush l.command) (slice_get begun line) false

abbrev flushes_at : World → ℕ → Bool
flushes_at w line = is_flush_in w.core.lines.begun line

-- what `close_line` leaves
pub record HasClosed (line : ℕ) (w v : World) : Type 0 where
  pub reaches : Reaches follows w v
  pub calm : IsCalm no_one (just line) w.core → IsCalm no_one no_one v.core
  pub pieces : v.core.pieces ≡ w.core.pieces
  pub waits : v.core.waits ≡ w.core.waits

pub first_waits : (w : World) (line : ℕ) (pieces : List NewPiece) (tickets : ℕ) → MayCarryOn w line pieces tickets
    → MayAwaitFlushes w line tickets
first_waits w line pieces tickets m = record {
  orderly = m.orderly;
  opened = m.opened;
  tickets = m.tickets;
  other = m.free;
  room =
      borne_less w (more w.core.owed (more (flushes_room tickets) (pieces_room pieces))) (more w.core.owed (flushes_room tickets))
      (covers_first w.core.owed (flushes_room tickets) (pieces_room pieces)) m.room;
  few = let most = m.room.counted.ops in omega (arith, most, m.none);
  newest = m.newest;
}

-- one that takes place as a whole has no pieces
no_part : (work : Work) (piece : Piece) → IsPartOf work piece → is_whole work ≡ true → ⊥
no_part (Read start buffer) piece part is = true≢false (sym is)
no_part Write piece part is = true≢false (sym is)
no_part (Whole answer) piece part is = part

no_pieces : (volumes : Volumes) (sizes : List ℕ) (o : OpenLine) (line : Option Line) (pieces : List NewPiece) → is_whole o.work ≡ true
    → All (MayBeOf volumes sizes o line) pieces
    → pieces ≡ []
no_pieces volumes sizes o line [] is all = refl
no_pieces volumes sizes o line (new ∷ pieces) is all =
    absurd (no_part o.work new.piece (All-head (MayBeOf volumes sizes o line) new pieces all).part is)

then_by : (w : World) (line : ℕ) (pieces : List NewPiece) (tickets : ℕ) (d : Core) → MayCarryOn w line pieces tickets
    → HasWaited line w (world w.shelf d) tickets tickets
    → AreTickets w.core.volumes w.shelf.sizes (open_of w.core.opens line) (slice_get w.core.lines.begun line) tickets
    → MayEnterPieces (world w.shelf d) line pieces
then_by w line pieces tickets d m s (inl none) =
    subst (λ (x : Core). MayEnterPieces (world w.shelf x) line pieces) (sym (s.none none.none))
    (record {
      orderly = m.orderly;
      opened = m.opened;
      each = m.each;
      room =
          borne_less w (more w.core.owed (more (flushes_room tickets) (pieces_room pieces))) (more w.core.owed (pieces_room pieces))
          (covers_last w.core.owed (flushes_room tickets) (pieces_room pieces)) m.room;
      spare = m.spare;
      few = let most = m.room.counted.ops in omega (arith, most, m.none, pieces_ops pieces);
    })
then_by w line pieces tickets d m s (inr are) =
    let v : World = world w.shelf d in
    let o : IsOrderly v = orderly_reaches (prepared_carried line [] None w v s.prepares) m.orderly in
    let kind : KindKept (open_at w.core.opens line) (open_at v.core.opens line) =
    kept_kind w.core.opens v.core.opens line s.opens m.opened in
    subst (λ (l : List NewPiece). MayEnterPieces v line l)
    (sym (no_pieces w.core.volumes w.shelf.sizes (open_of w.core.opens line) (slice_get w.core.lines.begun line) pieces are.whole m.each))
    (record {
      orderly = o;
      opened = kind.opened;
      each = All-nil (MayBeOf v.core.volumes v.shelf.sizes (open_of v.core.opens line) (slice_get v.core.lines.begun line));
      room = borne_owed v o;
      spare = omega arith;
      few = let most = m.room.counted.ops in omega (arith, most, m.none, s.left);
    })

pub then_enters : (w : World) (line : ℕ) (pieces : List NewPiece) (tickets : ℕ) (d : Core) → MayCarryOn w line pieces tickets
    → HasWaited line w (world w.shelf d) tickets tickets
    → MayEnterPieces (world w.shelf d) line pieces
then_enters w line pieces tickets d m s = then_by w line pieces tickets d m s m.tickets

-- what `close_line` asks
pub record MayClose (w : World) (line : ℕ) : Type 0 where
  pub orderly : IsOrderly w
  pub opened : is_some (open_at w.core.opens line) ≡ true
  pub other : w.core.barrier ≡ Some line → ⊥

pub then_closes : (w v u : World) (line tickets : ℕ) (pieces : List NewPiece) (by : Option By) → MayCarryOn w line pieces tickets
    → HasWaited line w v tickets tickets
    → HasEntered line (pieces_in pieces) by v u
    → MayClose u line
then_closes w v u line tickets pieces by m s t =
    let first : KindKept (open_at w.core.opens line) (open_at v.core.opens line) =
    kept_kind w.core.opens v.core.opens line s.opens m.opened in
    let later : KindKept (open_at v.core.opens line) (open_at u.core.opens line) =
    kept_kind v.core.opens u.core.opens line t.opens first.opened in
    record {
      orderly =
          orderly_reaches (prepared_carried line (pieces_in pieces) by v u t.prepares)
          (orderly_reaches (prepared_carried line [] None w v s.prepares) m.orderly);
      opened = later.opened;
      other = λ e. none-some line (sym (t.barrier ∙ s.barrier) ∙ e);
    }

-- no pieces enter where there are none
pub none_in : (pieces : List NewPiece) → length (pieces_in pieces) ≡ 0 → length pieces ≡ 0
none_in pieces is = sym (length-map pieces (λ (new : NewPiece). new.piece)) ∙ is

-- a line that flushes its volume takes place as a whole
flush_whole : (w : World) (line tickets : ℕ)
    → AreTickets w.core.volumes w.shelf.sizes (open_of w.core.opens line) (slice_get w.core.lines.begun line) tickets
    → flushes_at w line ≡ true
    → is_whole (open_of w.core.opens line).work ≡ true
flush_whole w line tickets (inl none) flush = (none.refused flush).0
flush_whole w line tickets (inr are) flush = are.whole

-- and waits on each disk, once it has waited by all its tickets
all_await : (w v : World) (line tickets : ℕ) → IsOrderly w
    → AreTickets w.core.volumes w.shelf.sizes (open_of w.core.opens line) (slice_get w.core.lines.begun line) tickets
    → HasWaited line w v tickets tickets
    → flushes_at w line ≡ true
    → AwaitsAll v.core line
all_await w v line tickets o (inl none) s flush =
    subst (λ (c : Core). AwaitsAll c line) (sym (s.none none.none)) (λ pv below. inr (inl (none.refused flush).1))
all_await w v line tickets o (inr are) s flush =
    let goes : Reaches carries_on w v = prepared_carried line [] None w v s.prepares in
    let kept : IsOrderly v = orderly_reaches goes o in
    let sizes : length v.shelf.sizes ≡ length w.shelf.sizes = ap (λ (l : List ℕ). length l) (sizes_reach carries_on w v goes) in
    λ pv below. s.awaits pv (omega (arith, below, are.many, sizes, kept.backed.places.many))

pub record IsCarriedOn (line : ℕ) (pieces : List Piece) (first : Option By) (w v : World) : Type 0 where
  pub carried : IsPreparedAndGoes line pieces first w v
  pub settled : IsSettled v.core

pub carried_on : (w v u t : World) (line tickets : ℕ) (pieces : List NewPiece) (by : Option By) → MayCarryOn w line pieces tickets
    → HasWaited line w v tickets tickets
    → HasEntered line (pieces_in pieces) by v u
    → HasClosed line u t
    → IsCarriedOn line (pieces_in pieces) by w t
carried_on w v u t line tickets pieces by m a b c = record {
  carried = record {
    mid = u;
    prepares = prepares;
    awaits =
        λ flush.
        let was : flushes_at w line ≡ true =
        ap (λ (ls : List Line). is_flush_in ls line)
        (sym (begun_reaches w u (prepared_carried line (pieces_in pieces) by w u prepares))) ∙ flush in
        let none : pieces ≡ [] =
        no_pieces w.core.volumes w.shelf.sizes (open_of w.core.opens line) (slice_get w.core.lines.begun line) pieces
        (flush_whole w line tickets m.tickets was) m.each in
        subst (λ (d : Core). AwaitsAll d line) (sym (b.none (ap (λ (l : List NewPiece). length (pieces_in l)) none)))
        (all_await w v line tickets m.orderly m.tickets a was);
    goes = c.reaches;
  };
  settled = record {
    calm = c.calm (b.calm (a.calm m.calm));
    ready =
        subst (λ (p : Pieces). ready_at p.claims ≡ length p.claims.deferred) (sym c.pieces)
        (b.ready (subst (λ (p : Pieces). ready_at p.claims ≡ length p.claims.deferred) (sym a.pieces) m.ready));
    released =
        subst (λ (x : Waits). (pv : ℕ) → flight_of x.plan pv ≡ None → (disk_waits x pv).served ≡ []) (sym (c.waits ∙ b.waits))
        (a.released m.released);
  };
}
  where
    prepares : Prepares line (pieces_in pieces) by w u
    prepares = prepares_both line [] (pieces_in pieces) (pieces_in pieces) None by w v u refl a.prepares b.prepares

-- ---- a line begins

-- what `begin` asks
pub record MayBeginBy (w : World) (line : Line) (plan : Plan) : Type 0 where
  pub orderly : IsOrderly w
  pub settled : IsSettled w.core
  pub free : w.core.barrier ≡ None
  pub may : MayBeBegun w line plan

none_left : (refusal : Option OpRefusal) (key : ℕ) (work : Work)
    → (option_map_or (opened_refused key) refusal (opened_on key work)).left ≡ 0
none_left None key work = refl
none_left (Some refusal) key work = refl

pushed_other : (list : List (Option OpenLine)) (o : OpenLine) (q : ℕ) → (length list ≡ q → ⊥)
    → get_or (list ++ Some o ∷ []) q None ≡ get_or list q None
pushed_other [] o zero apart = absurd (apart refl)
pushed_other [] o (suc q) apart = refl
pushed_other (x ∷ list) o zero apart = refl
pushed_other (x ∷ list) o (suc q) apart = pushed_other list o q (λ e. apart (ap suc e))

module _ (w : World) (line : Line) (plan : Plan) (m : MayBeginBy w line plan) where
  pub may_begin : MayBegin w plan.opened
  may_begin =
      let r = m.may.room in
      record {
        none = ap (λ (o : OpenLine). o.left) m.may.planned.opened ∙ none_left _ _ _;
        lines = r.lines;
        opens = r.opens;
        entry = let most = r.begun in omega (arith, most);
        counted = record {
          ops = let most = r.borne.counted.ops in omega (arith, most);
          sectors = let most = r.borne.counted.sectors in omega (arith, most);
          writes = let most = r.borne.counted.writes in omega (arith, most);
          waits = let most = r.borne.counted.waits in omega (arith, most);
          entries = let most = r.borne.counted.entries in omega (arith, most);
        };
      }

  abbrev begun : World
  begun = after w (Begins line plan.opened)

  abbrev place : ℕ
  place = length w.core.lines.begun

  begun_orderly : IsOrderly begun
  begun_orderly = orderly_after w (Begins line plan.opened) m.orderly may_begin

  places : length w.core.opens.list ≡ place
  places =
      let are = m.orderly.tidy.lines in
      let a : length (map is_some w.core.opens.list) ≡ length w.core.opens.list = length-map w.core.opens.list is_some in
      let b : length (map is_open w.core.lines.answers) ≡ length w.core.lines.answers = length-map w.core.lines.answers is_open in
      let same : length (map is_some w.core.opens.list) ≡ length (map is_open w.core.lines.answers) =
      ap (λ (l : List Bool). length l) are.opened in
      omega (arith, are.many, a, b, same)

  own_open : open_at begun.core.opens place ≡ Some plan.opened
  own_open = get_or_push w.core.opens.list (Some plan.opened) None place places

  own_is : open_of begun.core.opens place ≡ plan.opened
  own_is = ap (λ (o : Option OpenLine). unwrap_or o no_open) own_open

  others_open : OthersStay place w.core.opens begun.core.opens
  others_open q apart =
      pushed_other w.core.opens.list plan.opened q (λ e. eqb-false place q apart (sym places ∙ e))

  -- a line more is open
  one_more_open : length (filter is_open begun.core.lines.answers) ≡ length (filter is_open w.core.lines.answers) + 1
  one_more_open =
      ap (λ (l : List (ℕ × Option Answer)). length l) (filter-append is_open w.core.lines.answers ((line.number, None) ∷ []))
      ∙ length_push (filter is_open w.core.lines.answers) (line.number, None)

  own_line : slice_get begun.core.lines.begun place ≡ Some line
  own_line =
      slice_get-get_or begun.core.lines.begun place line (omega (arith, length_push w.core.lines.begun line))
      ∙ ap Some (get_or_push w.core.lines.begun line line place refl)

  own_left : left_of begun.core.opens place ≡ 0
  own_left = ap (λ (o : Option OpenLine). option_map_or (λ (x : OpenLine). x.left) o 0) own_open ∙ may_begin.none

  carries : MayCarryOn begun place plan.pieces.items (length plan.tickets.items)
  carries =
      let r = m.may.room in
      let b = r.borne in
      record {
        orderly = begun_orderly;
        opened = ap is_some own_open;
        none = own_left;
        free = m.free;
        newest = record { older = w.core.lines.journal; volume = plan.opened.key; moment = w.shelf.steps; is = refl };
        each =
            may_be_still plan.pieces.items
            (record {
              volumes = refl;
              disks = refl;
              key = ap (λ (o : OpenLine). o.key) own_is;
              work = ap (λ (o : OpenLine). o.work) own_is;
              brings = own_line;
            }) m.may.planned.pieces;
        tickets =
            subst (λ (l : Option Line). AreTickets w.core.volumes w.shelf.sizes (open_of begun.core.opens place) l
            (length plan.tickets.items)) (sym own_line)
            (subst (λ (o : OpenLine). AreTickets w.core.volumes w.shelf.sizes o (Some line) (length plan.tickets.items)) (sym own_is)
            m.may.planned.tickets);
        room = record {
          counted = record {
            ops = let most = b.counted.ops in omega (arith, most);
            sectors = let most = b.counted.sectors in omega (arith, most);
            writes = let most = b.counted.writes in omega (arith, most);
            waits = let most = b.counted.waits in omega (arith, most);
            entries = let most = b.counted.entries in omega (arith, most);
          };
          ops = let most = b.ops in omega (arith, most);
          sectors = let most = b.sectors in omega (arith, most);
          writes = let most = b.writes in omega (arith, most);
          waits = let most = b.waits in omega (arith, most);
          entries = let most = r.begun in omega (arith, most);
          owners = let most = b.owners in omega (arith, most);
        };
        spare = r.claims;
        calm = record {
          quiet = record {
            asked = asked_same no_one no_one w.core begun.core refl (λ q apart is. is) (λ q not. not) m.settled.calm.quiet.asked;
            unfinished =
                unfinished_changed no_one (just place) w.core begun.core place others_open (λ q apart is. is) (λ q apart not. refl)
                (λ not. absurd (true≢false (sym (eq-eqb place place refl) ∙ not))) m.settled.calm.quiet.unfinished;
          };
          others = λ q is. absurd (none-some q (sym m.free ∙ is));
        };
        ready = m.settled.ready;
        released = m.settled.released;
      }

  -- the same, of the core and the place that have come back
  pub may_carry : (d : Core) (at : ℕ) → d ≡ begun.core → at ≡ place
      → MayCarryOn (world w.shelf d) at plan.pieces.items (length plan.tickets.items)
  may_carry d at same is =
      subst (λ (x : Core). MayCarryOn (world w.shelf x) at plan.pieces.items (length plan.tickets.items)) (sym same)
      (subst (λ (n : ℕ). MayCarryOn begun n plan.pieces.items (length plan.tickets.items)) (sym is) carries)

  pub begins_so : (d : Core) (v : World) (at : ℕ) (by : Option By) (how : Begun) → d ≡ begun.core → at ≡ place
      → IsCarriedOn at (pieces_in plan.pieces.items) by (world w.shelf d) v
      → how ≡ begun_as by (is_some (open_at v.core.opens at))
      → (line.command ≡ Wait → length (filter is_open d.lines.answers) ≤ 1)
      → BeginsIn w line how v
  begins_so d v at by how same is k so alone = record {
    free = m.free;
    opened = plan.opened;
    is = m.may.planned.opened;
    may = may_begin;
    first = by;
    carried =
        subst (λ (ps : List Piece). IsPreparedAndGoes place ps by begun v) m.may.planned.cut
        (subst (λ (n : ℕ). IsPreparedAndGoes n (pieces_in plan.pieces.items) by begun v) is
        (subst (λ (x : Core). IsPreparedAndGoes at (pieces_in plan.pieces.items) by (world w.shelf x) v) same k.carried));
    how = so ∙ ap (λ (n : ℕ). begun_as by (is_some (open_at v.core.opens n))) is;
    holds = λ waits others.
        let few : length (filter is_open begun.core.lines.answers) ≤ 1 =
        subst (λ (x : Core). length (filter is_open x.lines.answers) ≤ 1) same (alone waits) in
        absurd (omega (arith, few, others, one_more_open));
  }

  -- it waits for all others
  module _ (waits : line.command ≡ Wait) (whole : is_whole plan.opened.work ≡ true)
      (others : 1 < length (filter is_open begun.core.lines.answers)) where
    abbrev held : World
    held = after begun (Holds place)

    held_begins : BeginsIn w line Started held
    held_begins =
        let barrier : IsBarrier begun.core.opens place =
        record { opened = plan.opened; is_open = own_open; whole = whole; alone = may_begin.none } in
        record {
          free = m.free;
          opened = plan.opened;
          is = m.may.planned.opened;
          may = may_begin;
          first = None;
          carried = record {
            mid = begun;
            prepares =
                subst (λ (ps : List Piece). Prepares place ps None begun begun)
                (sym (ap (λ (c : Command). pieces_for w.core.volumes c) waits)) (prepares_none place begun);
            awaits =
                λ flush. absurd (true≢false (sym flush
                ∙ ap (λ (x : Option Line). option_map_or (λ (l : Line). is_flush l.command) x false) own_line ∙ ap is_flush waits));
            goes = reaches_act follows begun (Holds place) refl (m.free, barrier);
          };
          how = ap (λ (o : Option OpenLine). begun_as None (is_some o)) (sym own_open);
          holds = λ waits others. reaches_none follows held;
        }

    held_settled : IsSettled held.core
    held_settled = record {
      calm = record {
        quiet = record {
          asked = asked_same no_one no_one w.core held.core refl (λ q apart is. is) (λ q not. not) m.settled.calm.quiet.asked;
          unfinished =
              unfinished_changed no_one no_one w.core held.core place others_open
              (λ q apart is. absurd (none-some q (sym m.free ∙ is))) (λ q apart not. refl) (λ not. inr (inr refl))
              m.settled.calm.quiet.unfinished;
        };
        others = λ q is. others;
      };
      ready = m.settled.ready;
      released = m.settled.released;
    }

pub record IsHeld (w : World) (line : Line) (v : World) : Type 0 where
  pub begins : BeginsIn w line Started v
  pub settled : IsSettled v.core

pub holds_so : (w : World) (line : Line) (plan : Plan) (d : Core) (at : ℕ) → MayBeginBy w line plan → line.command ≡ Wait
    → is_whole plan.opened.work ≡ true
    → d ≡ (after w (Begins line plan.opened)).core
    → at ≡ length w.core.lines.begun
    → 1 < length (filter is_open d.lines.answers)
    → IsHeld w line (world w.shelf (record d { barrier = Some at }))
holds_so w line plan d at m waits whole same is others =
    let c : Core = (after w (Begins line plan.opened)).core in
    let more : 1 < length (filter is_open c.lines.answers) =
    subst (λ (x : Core). 1 < length (filter is_open x.lines.answers)) same others in
    subst (λ (x : Core). IsHeld w line (world w.shelf (record x { barrier = Some at }))) (sym same)
    (subst (λ (n : ℕ). IsHeld w line (world w.shelf (record c { barrier = Some n }))) (sym is)
    (record {
      begins = held_begins w line plan m waits whole more;
      settled = held_settled w line plan m waits whole more;
    }))
