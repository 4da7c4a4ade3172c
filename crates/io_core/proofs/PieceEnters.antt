-- A piece that enters: it starts, or waits for something that it conflicts with.
use Rattle.std.proofs.Common.{◌≡◌, ◌≤◌, ◌<◌, ◌⊎◌, ℕ, suc, ◌+◌, ◌-◌, ◌^◌, Bool, true, false, cond, not, ◌&&◌, ◌||◌, nat_eq, List, [], ◌∷◌}
use Rattle.std.proofs.Common.{◌++◌, length, map, All}
use Rattle.std.proofs.Common.{Option, None, Some, count_by, inl, inr, is_some, slice_get, unwrap_or, refl, sym, ap, subst, ◌∙◌}
use Rattle.std.proofs.Common.{append_assoc, arith, true≢false}
use Rattle.std.specs.Option.{option_or}
use Rattle.std.specs.Prelude.{remove}
use Rattle.std.specs.List.{list_any, position_or_len}
use Rattle.std.proofs.lemmas.Bool.{eq-eqb}
use Rattle.std.proofs.lemmas.List.{append-nil, length_push}
use Rattle.std.proofs.lemmas.List.Elements.{All-head, All-tail}
use Rattle.std.proofs.lemmas.List.Folds.{list_any-append, list_any_none}
use Rattle.sector_base.specs.declared.places.Piece.{Piece}
use Rattle.claim_table.specs.declared.claim.By.{By}
use Rattle.claim_table.specs.declared.claim.Claim.{Claim}
use Rattle.claim_table.specs.declared.claim.Entry.{Entry}
use Rattle.claim_table.specs.declared.claim.Entry.TheVariants.{Deferred, Started}
use Rattle.claim_table.specs.Conflict.{clash}
use Rattle.claim_table.specs.Claims.{Claims, IsEntry, conflicts, is_free, is_shut_out, is_suspended, ready_after}
use Rattle.claim_table.specs.Laws.{FreeWithoutConflict}
use Rattle.claim_table.specs.Steps as claims
use Rattle.lvm_script.specs.declared.line.Line.{Line}
use Rattle.piece_table.specs.declared.live.LivePiece.{LivePiece}
use Rattle.piece_table.specs.declared.live.Stage.TheVariants.{Waiting}
use Rattle.piece_table.specs.Pieces.{AreClaimed, AreNumbered, claim_of, live_at}
use Rattle.piece_table.specs.Steps.{live_of, no_live}
use Rattle.world_acts.specs.declared.state.Core.{Core}
use Rattle.world_acts.specs.declared.open_line.OpenLine.{OpenLine}
use Rattle.world_acts.specs.declared.room.Room.{Room}
use Rattle.world_acts.specs.Acts.{Allowed, Enters, IsBorne, IsPartOf, MayEnter, Prepares, Reaches, World, after, carries_on, starts, world}
use Rattle.world_acts.specs.OpenLines.{left_of, open_at, open_of}
use Rattle.world_acts.specs.Orderly.{IsOrderly}
use Rattle.world_acts.specs.Rooms.{more, piece_room}
use Rattle.world_acts.proofs.Borne.{borne_reaches}
use Rattle.world_acts.proofs.Lasting.{begun_reaches, sizes_reach, spare_reaches, volumes_reach}
use Rattle.world_acts.proofs.LinesKept.{line_added, open_is}
use Rattle.world_acts.proofs.Orderly.{orderly_after, orderly_reaches}
use Rattle.world_acts.proofs.Reaching.{deferral, prepared_carried, prepares_both, prepares_enter, prepares_none, prepares_starts}
use Rattle.world_acts.proofs.Reaching.{starts_go}
use Rattle.world_acts.proofs.Tables.{Changes, appended, none_counted, own_at, some_of}
use Rattle.line_plans.specs.declared.preparing.NewPiece.{NewPiece}
use Rattle.line_plans.specs.Plans.{MayBeOf, pieces_room}
use Rattle.io_core.specs.Rest.{IsCalm, NoneReady, SameLines, just, no_one}
use Rattle.io_core.proofs.Calm.{asked_changed, others_set, unfinished_but}
use Rattle.io_core.proofs.FewerLeft.{left_falls}
use Rattle.io_core.proofs.LineKinds.{same_added, same_both, same_lines}
use Rattle.io_core.proofs.RoomsBorne.{borne_less, borne_same, covers_all, covers_first}
use Rattle.io_core.proofs.SameKinds.{KindKept, kept_kind, may_be_still}

-- ---- no deferred piece may start

-- what isn't free where this is started isn't where more is
blocked_more : (a more b c d : Bool) → (a ≡ true → more ≡ true) → (not a && b && c && d) ≡ false → (not more && b && c && d) ≡ false
blocked_more true more b c d grows is = ap (λ (x : Bool). not x && b && c && d) (grows refl)
blocked_more false true b c d grows is = refl
blocked_more false false b c d grows is = is

ready_stays : (c d : Claims) → ((earlier : List Claim) (x : Claim) → is_free c earlier x ≡ false → is_free d earlier x ≡ false)
    → (earlier later : List Claim)
    → ready_after c earlier later ≡ length later
    → ready_after d earlier later ≡ length later
ready_stays c d blocked earlier [] all = refl
ready_stays c d blocked earlier (x ∷ later) all =
    let next : ℕ = ready_after d (earlier ++ x ∷ []) later in
    elim (is_free c earlier x) as
    (λ b. is_free c earlier x ≡ b → cond b 0 (suc (ready_after c (earlier ++ x ∷ []) later)) ≡ suc (length later)
    → cond (is_free d earlier x) 0 (suc next) ≡ suc (length later)) [
      | true ↦ λ t h. absurd (omega (arith, h))
      | false ↦ λ t h.
          ap (λ (b : Bool). cond b 0 (suc next)) (blocked earlier x t)
          ∙ ap suc (ready_stays c d blocked (earlier ++ x ∷ []) later (omega (arith, h)))
    ] refl all

-- nor with one more behind them that isn't free
ready_pushed : (c d : Claims) → ((earlier : List Claim) (x : Claim) → is_free d earlier x ≡ is_free c earlier x)
    → (earlier later : List Claim) (x : Claim)
    → is_free c (earlier ++ later) x ≡ false
    → ready_after c earlier later ≡ length later
    → ready_after d earlier (later ++ x ∷ []) ≡ length (later ++ x ∷ [])
ready_pushed c d same earlier [] x blocked all =
    ap (λ (b : Bool). cond b 0 1)
    (same earlier x ∙ subst (λ (l : List Claim). is_free c l x ≡ false) (append-nil earlier) blocked)
ready_pushed c d same earlier (y ∷ later) x blocked all =
    let next : ℕ = ready_after d (earlier ++ y ∷ []) (later ++ x ∷ []) in
    elim (is_free c earlier y) as
    (λ b. is_free c earlier y ≡ b → cond b 0 (suc (ready_after c (earlier ++ y ∷ []) later)) ≡ suc (length later)
    → cond (is_free d earlier y) 0 (suc next) ≡ suc (length (later ++ x ∷ []))) [
      | true ↦ λ t h. absurd (omega (arith, h))
      | false ↦ λ t h.
          ap (λ (b : Bool). cond b 0 (suc next)) (same earlier y ∙ t)
          ∙ ap suc (ready_pushed c d same (earlier ++ y ∷ []) later x
          (subst (λ (l : List Claim). is_free c l x ≡ false) (sym (append_assoc earlier (y ∷ []) later)) blocked) (omega (arith, h)))
    ] refl all

conflict_blocks : (c : Claims) (x : Claim) (by : By) → FreeWithoutConflict → conflicts c c.deferred x by ≡ true
    → is_free c c.deferred x ≡ false
conflict_blocks c x by law is =
    elim (is_free c c.deferred x) as (λ b. is_free c c.deferred x ≡ b → b ≡ false) [
      | true ↦ λ t. absurd (true≢false (sym is ∙ (law c c.deferred x).0 t by))
      | false ↦ λ t. refl
    ] refl

pushed_any : (test : Claim → Bool) (xs : List Claim) (x : Claim) → list_any test xs ≡ true → list_any test (xs ++ x ∷ []) ≡ true
pushed_any test xs x some =
    list_any-append test xs (x ∷ []) ∙ ap (λ (b : Bool). b || list_any test (x ∷ [])) some

pushed_last : (test : Claim → Bool) (xs : List Claim) (x : Claim) → test x ≡ true → list_any test (xs ++ x ∷ []) ≡ true
pushed_last test [] x passes = ap (λ (b : Bool). b || false) passes
pushed_last test (y ∷ xs) x passes =
    elim (test y) as (λ b. (b || list_any test (xs ++ x ∷ [])) ≡ true) [
      | true ↦ refl
      | false ↦ pushed_last test xs x passes
    ]

-- the last, which is taken out by its number
without_last : (xs : List Claim) (x : Claim) → list_any (claims.has_number x.number) xs ≡ false
    → claims.without (xs ++ x ∷ []) x.number ≡ xs
without_last [] x none =
    ap (λ (b : Bool). remove (x ∷ []) (cond (not b) (1 + 0) 0)) (eq-eqb x.number x.number refl)
without_last (y ∷ xs) x none =
    let test : Claim → Bool = claims.has_number x.number in
    let at : ℕ = position_or_len test (xs ++ x ∷ []) in
    elim (nat_eq y.number x.number) as
    (λ b. (b || list_any test xs) ≡ false → remove (y ∷ (xs ++ x ∷ [])) (cond (not b) (1 + at) 0) ≡ y ∷ xs) [
      | true ↦ λ h. absurd (true≢false h)
      | false ↦ λ h. let next : 1 + at ≡ suc at = omega arith in rw (next) (ap (λ (l : List Claim). y ∷ l) (without_last xs x h))
    ] none

-- a new number is none of the started pieces'
new_number : (c : Claims) (lives : List (ℕ × LivePiece)) (next : ℕ) → AreClaimed c lives → AreNumbered next lives
    → list_any (claims.has_number next) c.started ≡ false
new_number c lives next claimed numbered =
    let once : count_by (claims.has_number next) c.started + count_by (claims.has_number next) c.deferred ≡ 0 =
    claimed.once next ∙ ap (λ (o : Option LivePiece). cond (is_some o) 1 0) (numbered next (omega arith)) in
    list_any_none (claims.has_number next) c.started
    (none_counted (claims.has_number next) c.started (omega (arith, once)))

-- what became of the claims of a piece that has started: they stay, or it has left
abbrev pub StaysOrLeaves : ℕ → Claims → Claims → Type 0
StaysOrLeaves number old new = (new ≡ old) ⊎ (new ≡ claims.after_leave old number)

module _ (c : Claims) (x : Claim) (none : list_any (claims.has_number x.number) c.started ≡ false)
    (all : ready_after c [] c.deferred ≡ length c.deferred) where
  abbrev more_claims : Claims
  more_claims = record c { started = c.started ++ x ∷ []; spare = c.spare - 1 }

  ready_more : ready_after more_claims [] c.deferred ≡ length c.deferred
  ready_more =
      ready_stays c more_claims
      (λ earlier y is. blocked_more (list_any (λ d. clash d y) c.started) (list_any (λ d. clash d y) (c.started ++ x ∷ []))
      (not (list_any (λ d. clash d y) earlier)) (not (is_shut_out c y)) (not (is_suspended c y.piece.volume))
      (pushed_any (λ d. clash d y) c.started x) is) [] c.deferred all

  ready_left : ready_after (claims.after_leave more_claims x.number) [] (claims.after_leave more_claims x.number).deferred
      ≡ length (claims.after_leave more_claims x.number).deferred
  ready_left =
      let left : Claims = record more_claims { started = claims.without more_claims.started x.number } in
      let is : claims.after_leave more_claims x.number ≡ left =
      ap (λ (b : Bool). cond b left (record more_claims { deferred = claims.without more_claims.deferred x.number }))
      (pushed_last (claims.has_number x.number) c.started x (eq-eqb x.number x.number refl)) in
      let same : (y : Claim) → list_any (λ d. clash d y) (claims.without (c.started ++ x ∷ []) x.number)
      ≡ list_any (λ d. clash d y) c.started =
      λ y. ap (λ (l : List Claim). list_any (λ d. clash d y) l) (without_last c.started x none) in
      subst (λ (k : Claims). ready_after k [] k.deferred ≡ length k.deferred) (sym is)
      (ready_stays c left
      (λ earlier y free. blocked_more (list_any (λ d. clash d y) c.started)
      (list_any (λ d. clash d y) (claims.without (c.started ++ x ∷ []) x.number)) (not (list_any (λ d. clash d y) earlier))
      (not (is_shut_out c y)) (not (is_suspended c y.piece.volume)) (λ t. same y ∙ t) free) [] c.deferred all)

  ready_started : (k : Claims) → StaysOrLeaves x.number more_claims k → ready_after k [] k.deferred ≡ length k.deferred
  ready_started k (inl same) = subst (λ (k : Claims). ready_after k [] k.deferred ≡ length k.deferred) (sym same) ready_more
  ready_started k (inr left) = subst (λ (k : Claims). ready_after k [] k.deferred ≡ length k.deferred) (sym left) ready_left

-- ---- one piece

-- what `enter_piece` asks
pub record MayEnterPiece (w : World) (line : ℕ) (new : NewPiece) : Type 0 where
  pub orderly : IsOrderly w
  pub opened : is_some (open_at w.core.opens line) ≡ true
  pub may : MayBeOf w.core.volumes w.shelf.sizes (open_of w.core.opens line) (slice_get w.core.lines.begun line) new
  pub room : IsBorne w (more w.core.owed (piece_room new.piece (is_some new.ticket)))
  pub spare : 0 < w.core.pieces.claims.spare
  pub few : left_of w.core.opens line + 1 < 2 ^ 64

-- and what it leaves
pub record PieceEnters (line : ℕ) (new : NewPiece) (first : Option By) (w v : World) : Type 0 where
  pub prepares : Prepares line (new.piece ∷ []) first w v
  pub room : (r : Room) → IsBorne w (more w.core.owed (more (piece_room new.piece (is_some new.ticket)) r)) → IsBorne v (more v.core.owed r)
  pub spare : v.core.pieces.claims.spare + 1 ≡ w.core.pieces.claims.spare
  pub calm : IsCalm no_one (just line) w.core → IsCalm no_one (just line) v.core
  pub ready : NoneReady w.core → NoneReady v.core
  pub opens : SameLines w.core.opens v.core.opens
  pub barrier : v.core.barrier ≡ w.core.barrier
  pub waits : v.core.waits ≡ w.core.waits
  pub left : left_of v.core.opens line ≤ left_of w.core.opens line + 1

-- what `start` leaves
pub record HasStarted (number : ℕ) (w v : World) : Type 0 where
  pub reaches : Reaches starts w v
  pub calm : (lines : ℕ → Bool) → lines (live_of w.core.pieces number).line ≡ true → IsCalm (just number) lines w.core
      → IsCalm no_one lines v.core
  pub opens : SameLines w.core.opens v.core.opens
  pub barrier : v.core.barrier ≡ w.core.barrier
  pub claims : StaysOrLeaves number w.core.pieces.claims v.core.pieces.claims
  pub waits : v.core.waits ≡ w.core.waits

module _ (w : World) (line : ℕ) (new : NewPiece) (m : MayEnterPiece w line new) where
  abbrev act : Entry → World
  act entry = after w (Enters line new.piece new.sectors new.ticket entry)

  abbrev own : LivePiece
  own = record { line = line; piece = new.piece; stage = Waiting new.sectors; ticket = new.ticket }

  abbrev own_claim : Claim
  own_claim = claim_of w.core.pieces.next new.piece None

  found : (x : OpenLine) × (open_at w.core.opens line ≡ Some x)
  found = some_of (open_at w.core.opens line) m.opened

  enter_allowed : (entry : Entry) → IsEntry w.core.pieces.claims own_claim entry
      → Allowed w (Enters line new.piece new.sectors new.ticket entry)
  enter_allowed entry is =
      let same : open_of w.core.opens line ≡ found.0 = open_is w.core.opens line found.0 found.1 in
      let may : MayEnter w line new.piece new.sectors new.ticket = record {
        opened = found.0;
        is_open = found.1;
        key = m.may.key ∙ ap (λ (x : OpenLine). x.key) same;
        part = subst (λ (x : OpenLine). IsPartOf x.work new.piece) same m.may.part;
        placed = m.may.placed;
        many = m.may.many;
        brought = m.may.brought;
        through = m.may.through;
        waits = m.may.waits;
        spare = m.spare;
        room = m.room;
      } in (may, is)

  entered_orderly : (entry : Entry) → IsEntry w.core.pieces.claims own_claim entry → IsOrderly (act entry)
  entered_orderly entry is = orderly_after w (Enters line new.piece new.sectors new.ticket entry) m.orderly (enter_allowed entry is)

  enter_prepares : (entry : Entry) → IsEntry w.core.pieces.claims own_claim entry
      → Prepares line (new.piece ∷ []) (deferral entry) w (act entry)
  enter_prepares entry is =
      prepares_enter w line new.piece new.sectors new.ticket entry (enter_allowed entry is)

  none_yet : AreNumbered w.core.pieces.next w.core.pieces.lives → live_at w.core.pieces.lives w.core.pieces.next ≡ None
  none_yet numbered = numbered w.core.pieces.next (omega arith)

  came : (entry : Entry) → AreNumbered w.core.pieces.next w.core.pieces.lives
      → Changes w.core.pieces.next None (Some own) w.core.pieces.lives (act entry).core.pieces.lives
  came entry numbered =
      appended w.core.pieces.lives w.core.pieces.next own m.orderly.tidy.pieces.single (none_yet numbered)

  enter_room : (entry : Entry) (r : Room) → IsBorne w (more w.core.owed (more (piece_room new.piece (is_some new.ticket)) r))
      → IsBorne (act entry) (more (act entry).core.owed r)
  enter_room entry r b =
      let p : Room = piece_room new.piece (is_some new.ticket) in
      borne_same w (act entry) (more w.core.owed (more p r)) (more (more w.core.owed p) r) (covers_all w.core.owed p r) refl refl refl
      refl b

  enter_left : (entry : Entry) → left_of (act entry).core.opens line ≤ left_of w.core.opens line + 1
  enter_left entry =
      let e = (line_added w.core.opens line found.0 found.1).left line in
      let one : ◌≡◌ {A = ℕ} (cond (nat_eq line line) 1 0) 1 = ap (λ (b : Bool). cond b 1 0) (eq-eqb line line refl) in
      omega (arith, e, one)

  -- it waits
  deferred_enters : (by : By) → FreeWithoutConflict → AreNumbered w.core.pieces.next w.core.pieces.lives
      → IsEntry w.core.pieces.claims own_claim (Deferred by)
      → PieceEnters line new (Some by) w (act (Deferred by))
  deferred_enters by law numbered is =
      let c : Core = w.core in
      let d : Core = (act (Deferred by)).core in
      let table : Claims = c.pieces.claims in
      record {
        prepares = enter_prepares (Deferred by) is;
        room = enter_room (Deferred by);
        spare = let some = m.spare in omega (arith, some);
        calm = λ k. record {
          quiet = record {
            asked =
                asked_changed no_one no_one c d (came (Deferred by) numbered)
                (λ q apart there. pushed_any (claims.has_number q) table.deferred own_claim there) (λ q apart not. not)
                (λ not. record {
                  waits = λ waits. pushed_last (claims.has_number c.pieces.next) table.deferred own_claim
                      (eq-eqb c.pieces.next c.pieces.next refl);
                  flies = λ started. absurd (true≢false (sym started));
                  stays = λ taken. absurd (true≢false (sym taken));
                }) k.quiet.asked;
            unfinished =
                unfinished_but (just line) c d line (eq-eqb line line refl)
                (others_set c.opens line (Some (record (open_of c.opens line) { left = (open_of c.opens line).left + 1 }))) refl
                k.quiet.unfinished;
          };
          others = k.others;
        };
        ready =
            λ all. ready_pushed table d.pieces.claims (λ earlier x. refl) [] table.deferred own_claim
            (conflict_blocks table own_claim by law is) all;
        opens = same_added c.opens line found.0 found.1;
        barrier = refl;
        waits = refl;
        left = enter_left (Deferred by);
      }

  -- it starts
  started_enters : (v : World) → AreClaimed w.core.pieces.claims w.core.pieces.lives → AreNumbered w.core.pieces.next w.core.pieces.lives
      → IsEntry w.core.pieces.claims own_claim Started
      → HasStarted w.core.pieces.next (act Started) v
      → PieceEnters line new None w v
  started_enters v claimed numbered is s =
      let c : Core = w.core in
      let u : World = act Started in
      let next : ℕ = c.pieces.next in
      let mine : live_of u.core.pieces next ≡ own = ap (λ (o : Option LivePiece). unwrap_or o no_live) (own_at (came Started numbered)) in
      let spare : v.core.pieces.claims.spare ≡ u.core.pieces.claims.spare = spare_reaches u v (starts_go u v s.reaches) in
      record {
        prepares =
            prepares_both line (new.piece ∷ []) [] (new.piece ∷ []) None None w u v refl (enter_prepares Started is)
            (prepares_starts line u v s.reaches);
        room = λ r b. borne_reaches u v r (entered_orderly Started is) (starts_go u v s.reaches) (enter_room Started r b);
        spare = let some = m.spare in omega (arith, some, spare);
        calm =
            λ k. s.calm (just line)
            (ap (λ (l : LivePiece). nat_eq l.line line) mine ∙ eq-eqb line line refl)
            (record {
              quiet = record {
                asked =
                    asked_changed no_one (just next) c u.core (came Started numbered) (λ q apart there. there) (λ q apart not. refl)
                    (λ not. absurd (true≢false (sym (eq-eqb next next refl) ∙ not))) k.quiet.asked;
                unfinished =
                    unfinished_but (just line) c u.core line (eq-eqb line line refl)
                    (others_set c.opens line (Some (record (open_of c.opens line) { left = (open_of c.opens line).left + 1 }))) refl
                    k.quiet.unfinished;
              };
              others = k.others;
            });
        ready =
            λ all. ready_started c.pieces.claims own_claim (new_number c.pieces.claims c.pieces.lives next claimed numbered) all
            v.core.pieces.claims s.claims;
        opens = same_both c.opens u.core.opens v.core.opens (same_added c.opens line found.0 found.1) s.opens;
        barrier = s.barrier;
        waits = s.waits;
        left = let fewer = left_falls u v (starts_go u v s.reaches) line in omega (arith, fewer, enter_left Started);
      }

  -- the same, of the core and the number that have come back
  pub orderly_so : (d : Core) (entry : Entry) → IsEntry w.core.pieces.claims own_claim entry → d ≡ (act entry).core
      → IsOrderly (world w.shelf d)
  orderly_so d entry is same = subst (λ (x : Core). IsOrderly (world w.shelf x)) (sym same) (entered_orderly entry is)

  pub deferred_so : (d : Core) (entry : Entry) (by : By) → FreeWithoutConflict → AreNumbered w.core.pieces.next w.core.pieces.lives
      → IsEntry w.core.pieces.claims own_claim entry
      → entry ≡ Deferred by
      → d ≡ (act entry).core
      → PieceEnters line new (Some by) w (world w.shelf d)
  deferred_so d entry by law numbered is waits same =
      subst (λ (x : Core). PieceEnters line new (Some by) w (world w.shelf x)) (sym (same ∙ ap (λ (e : Entry). (act e).core) waits))
      (deferred_enters by law numbered (subst (λ (e : Entry). IsEntry w.core.pieces.claims own_claim e) waits is))

  pub started_so : (d : Core) (number : ℕ) (entry : Entry) (v : World) → AreClaimed w.core.pieces.claims w.core.pieces.lives
      → AreNumbered w.core.pieces.next w.core.pieces.lives
      → number ≡ w.core.pieces.next
      → IsEntry w.core.pieces.claims own_claim entry
      → entry ≡ Started
      → d ≡ (act entry).core
      → HasStarted number (world w.shelf d) v
      → PieceEnters line new None w v
  started_so d number entry v claimed numbered at is starts same s =
      started_enters v claimed numbered (subst (λ (e : Entry). IsEntry w.core.pieces.claims own_claim e) starts is)
      (subst (λ (n : ℕ). HasStarted n (act Started) v) at
      (subst (λ (x : Core). HasStarted number (world w.shelf x) v) (same ∙ ap (λ (e : Entry). (act e).core) starts) s))

-- ---- all pieces

-- what `enter_pieces` asks
pub record MayEnterPieces (w : World) (line : ℕ) (pieces : List NewPiece) : Type 0 where
  pub orderly : IsOrderly w
  pub opened : is_some (open_at w.core.opens line) ≡ true
  pub each : All (MayBeOf w.core.volumes w.shelf.sizes (open_of w.core.opens line) (slice_get w.core.lines.begun line)) pieces
  pub room : IsBorne w (more w.core.owed (pieces_room pieces))
  pub spare : length pieces ≤ w.core.pieces.claims.spare
  pub few : left_of w.core.opens line + length pieces < 2 ^ 64

-- what `enter_pieces` leaves
pub record HasEntered (line : ℕ) (pieces : List Piece) (first : Option By) (w v : World) : Type 0 where
  pub prepares : Prepares line pieces first w v
  pub none : length pieces ≡ 0 → v.core ≡ w.core
  pub calm : IsCalm no_one (just line) w.core → IsCalm no_one (just line) v.core
  pub ready : NoneReady w.core → NoneReady v.core
  pub opens : SameLines w.core.opens v.core.opens
  pub barrier : v.core.barrier ≡ w.core.barrier
  pub waits : v.core.waits ≡ w.core.waits

-- the pieces of these
abbrev pub pieces_in : List NewPiece → List Piece
pieces_in pieces = map (λ (new : NewPiece). new.piece) pieces

-- some of all have entered, of which the first that waits conflicts with this, and these are left
pub record PiecesEnter (line : ℕ) (first : Option By) (w v : World) (all rest : List NewPiece) : Type 0 where
  pub done : List Piece
  pub some : done ++ pieces_in rest ≡ pieces_in all
  pub may : MayEnterPieces v line rest
  pub has : HasEntered line done first w v

pub none_entered : (line : ℕ) (w : World) (pieces : List NewPiece) → MayEnterPieces w line pieces
    → PiecesEnter line None w w pieces pieces
none_entered line w pieces m = record {
  done = [];
  some = refl;
  may = m;
  has = record {
    prepares = prepares_none line w;
    none = λ is. refl;
    calm = λ k. k;
    ready = λ k. k;
    opens = same_lines w.core.opens;
    barrier = refl;
    waits = refl;
  };
}

-- the first of those that are left may enter
pub first_enters : (line : ℕ) (w : World) (new : NewPiece) (rest : List NewPiece) → MayEnterPieces w line (new ∷ rest)
    → MayEnterPiece w line new
first_enters line w new rest m = record {
  orderly = m.orderly;
  opened = m.opened;
  may =
      All-head (MayBeOf w.core.volumes w.shelf.sizes (open_of w.core.opens line) (slice_get w.core.lines.begun line)) new rest m.each;
  room =
      borne_less w (more w.core.owed (pieces_room (new ∷ rest))) (more w.core.owed (piece_room new.piece (is_some new.ticket)))
      (covers_first w.core.owed (piece_room new.piece (is_some new.ticket)) (pieces_room rest)) m.room;
  spare = let some : suc (length rest) ≤ w.core.pieces.claims.spare = m.spare in omega (arith, some);
  few = let most : left_of w.core.opens line + suc (length rest) < 2 ^ 64 = m.few in omega (arith, most);
}

-- and then the others
pub others_enter : (line : ℕ) (first : Option By) (w v : World) (new : NewPiece) (rest : List NewPiece)
    → MayEnterPieces w line (new ∷ rest)
    → PieceEnters line new first w v
    → MayEnterPieces v line rest
others_enter line first w v new rest m s =
    let goes : Reaches carries_on w v = prepared_carried line (new.piece ∷ []) first w v s.prepares in
    let kind : KindKept (open_at w.core.opens line) (open_at v.core.opens line) =
    kept_kind w.core.opens v.core.opens line s.opens m.opened in
    record {
      orderly = orderly_reaches goes m.orderly;
      opened = kind.opened;
      each =
          may_be_still rest
          (record {
            volumes = volumes_reach carries_on w v goes;
            disks = sizes_reach carries_on w v goes;
            key = kind.key;
            work = kind.work;
            brings = ap (λ (l : List Line). slice_get l line) (begun_reaches w v goes);
          })
          (All-tail (MayBeOf w.core.volumes w.shelf.sizes (open_of w.core.opens line) (slice_get w.core.lines.begun line)) new rest m.each);
      room = s.room (pieces_room rest) m.room;
      spare = let some : suc (length rest) ≤ w.core.pieces.claims.spare = m.spare in omega (arith, some, s.spare);
      few = let most : left_of w.core.opens line + suc (length rest) < 2 ^ 64 = m.few in omega (arith, most, s.left);
    }

pub one_entered : (line : ℕ) (first by : Option By) (w v u : World) (new : NewPiece) (all rest : List NewPiece)
    → PiecesEnter line first w v all (new ∷ rest)
    → PieceEnters line new by v u
    → PiecesEnter line (option_or first by) w u all rest
one_entered line first by w v u new all rest k s = record {
  done = k.done ++ new.piece ∷ [];
  some = append_assoc k.done (new.piece ∷ []) (pieces_in rest) ∙ k.some;
  may = others_enter line by v u new rest k.may s;
  has = record {
    prepares = prepares_both line k.done (new.piece ∷ []) (k.done ++ new.piece ∷ []) first by w v u refl k.has.prepares s.prepares;
    none = λ is. absurd (omega (arith, is, length_push k.done new.piece));
    calm = λ z. s.calm (k.has.calm z);
    ready = λ z. s.ready (k.has.ready z);
    opens = same_both w.core.opens v.core.opens u.core.opens k.has.opens s.opens;
    barrier = s.barrier ∙ k.has.barrier;
    waits = s.waits ∙ k.has.waits;
  };
}
