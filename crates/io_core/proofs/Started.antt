-- A piece starts: its operation is submitted, or it fails at once.
use Rattle.std.proofs.Common.{◌≡◌, ◌≤◌, ◌<◌, ◌⊎◌, ℕ, Bool, true, false, List, Option, None, Some, inl, inr, is_some, refl, sym, ap}
use Rattle.std.proofs.Common.{◌∙◌}
use Rattle.std.proofs.Common.{arith, subst}
use Rattle.std.specs.Option.{option_map_or}
use Rattle.line_answers.specs.declared.answer.Answer.{Answer}
use Rattle.line_answers.specs.declared.answer.Answer.TheVariants.{PvFailed}
use Rattle.sector_base.specs.declared.places.At.{At}
use Rattle.sector_base.specs.declared.places.Piece.{Piece}
use Rattle.disk_model.specs.declared.ops.Op.{Op}
use Rattle.disk_model.specs.Calls.{Submits}
use Rattle.disk_model.specs.Operations.{work_of}
use Rattle.disk_model.specs.State.{IsLawful, State}
use Rattle.claim_table.specs.Steps.{after_leave}
use Rattle.piece_table.specs.declared.live.LivePiece.{LivePiece}
use Rattle.piece_table.specs.declared.live.Stage.TheVariants.{Started}
use Rattle.piece_table.specs.Pieces.{AreClaimed, Pieces, flying_at, flying_of, is_started, is_started_stage, is_waiting_stage}
use Rattle.piece_table.specs.Pieces.{live_at, may_start, owner_at}
use Rattle.piece_table.specs.Steps.{after_flies, live_of, with_stage}
use Rattle.world_acts.specs.declared.state.Core.{Core}
use Rattle.world_acts.specs.Acts.{Allowed, Asks, Fails, IsFailure, Reaches, Starts, World, after, starts, world}
use Rattle.world_acts.specs.OpenLines.{Opens, after_failure, open_at}
use Rattle.world_acts.specs.Orderly.{IsOrderly}
use Rattle.world_acts.specs.declared.room.Room.{Room}
use Rattle.world_acts.specs.Owners.{piece_work}
use Rattle.world_acts.specs.Rooms.{fewer, start_room}
use Rattle.world_acts.specs.Steps.{after_asks, after_fails, after_starts}
use Rattle.world_acts.proofs.Known.{fresh_unknown, unknown}
use Rattle.world_acts.proofs.LinesKept.{line_failed}
use Rattle.world_acts.proofs.PiecesKept.{piece_replaced}
use Rattle.world_acts.proofs.Reaching.{reaches_act, reaches_both}
use Rattle.world_acts.proofs.Starting.{after_start}
use Rattle.world_acts.proofs.Tables.{Changes, own_at}
use Rattle.io_core.specs.Rest.{IsCalm, SameLines, just, no_one}
use Rattle.io_core.proofs.CalmActs.{asks_calm, fails_calm, starts_calm}
use Rattle.io_core.proofs.Deferred.{deferred_stays}
use Rattle.io_core.proofs.LineKinds.{same_both, same_failed, same_finished}
use Rattle.io_core.proofs.LiveLines.{live_open}
use Rattle.io_core.proofs.PieceAsks.{MayStart, found, has_room, live_is, op_for, span_from, start_covered}
use Rattle.io_core.proofs.Waking.{MayStartNow, may_start_now}

-- what the start of a piece makes of a world
pub record StartsIn (w : World) (number : ℕ) (v : World) : Type 0 where
  pub reaches : Reaches starts w v
  pub calm :
      (lines : ℕ → Bool) → lines (live_of w.core.pieces number).line ≡ true → IsCalm (just number) lines w.core
      → IsCalm no_one lines v.core
  pub opens : SameLines w.core.opens v.core.opens
  pub barrier : v.core.barrier ≡ w.core.barrier
  pub deferred : v.core.pieces.claims.deferred ≡ w.core.pieces.claims.deferred
  pub claims :
      (v.core.pieces.claims ≡ w.core.pieces.claims) ⊎ (v.core.pieces.claims ≡ after_leave w.core.pieces.claims number)
  pub waits : v.core.waits ≡ w.core.waits

-- it has the stage that it is given
pub record StartedAt (w : World) (number : ℕ) : Type 0 where
  pub live : LivePiece
  pub at : live_at (after w (Starts number)).core.pieces.lives number ≡ Some live
  pub line : live.line ≡ (live_of w.core.pieces number).line
  pub piece : live.piece ≡ (live_of w.core.pieces number).piece
  pub started : is_started (after w (Starts number)).core.pieces number ≡ true
  pub landed : flying_at (after w (Starts number)).core.pieces number ≡ 0
  pub orderly : IsOrderly (after w (Starts number))

pub started_piece : (w : World) (number : ℕ) (l : LivePiece) → IsOrderly w → live_at w.core.pieces.lives number ≡ Some l
    → may_start w.core.pieces number ≡ true
    → StartedAt w number
started_piece w number l o at may =
    let mid : LivePiece = record (live_of w.core.pieces number) { stage = Started 0 None } in
    let u : World = after w (Starts number) in
    let first : Changes number (Some l) (Some mid) w.core.pieces.lives u.core.pieces.lives =
    piece_replaced w.core.pieces.lives number l mid o.tidy.pieces.single at in
    record {
      live = mid;
      at = own_at first;
      line = refl;
      piece = refl;
      started = ap (λ (x : Option LivePiece). option_map_or (λ (y : LivePiece). is_started_stage y.stage) x false) (own_at first);
      landed = ap (λ (x : Option LivePiece). option_map_or (λ (y : LivePiece). flying_of y.stage) x 0) (own_at first);
      orderly = after_start w number o may;
    }

pub starts_failed : (w : World) (number disk : ℕ) (l : LivePiece) → IsOrderly w → live_at w.core.pieces.lives number ≡ Some l
    → may_start w.core.pieces number ≡ true
    → AreClaimed (after w (Starts number)).core.pieces.claims (after w (Starts number)).core.pieces.lives
    → IsFailure w.core l.piece (PvFailed disk)
    → StartsIn w number (after (after w (Starts number)) (Fails number (PvFailed disk)))
starts_failed w number disk l o at may claimed fails =
    let why : Answer = PvFailed disk in
    let m : MayStartNow w.core.pieces number = may_start_now w.core.pieces number may in
    let u : World = after w (Starts number) in
    let v : World = after u (Fails number why) in
    let s : StartedAt w number = started_piece w number l o at may in
    let x : LivePiece = live_of u.core.pieces number in
    let same : x ≡ s.live = live_is u.core.pieces number s.live s.at in
    let line : x.line ≡ (live_of w.core.pieces number).line = ap (λ (y : LivePiece). y.line) same ∙ s.line in
    let piece : x.piece ≡ l.piece =
    ap (λ (y : LivePiece). y.piece) same ∙ s.piece ∙ ap (λ (y : LivePiece). y.piece) (live_is w.core.pieces number l at) in
    let its : x.line ≡ l.line = line ∙ ap (λ (y : LivePiece). y.line) (live_is w.core.pieces number l at) in
    let f = live_open w number l o at in
    let here : open_at w.core.opens x.line ≡ Some f.opened = ap (λ (n : ℕ). open_at w.core.opens n) its ∙ f.is_open in
    let mid : Opens = after_failure w.core.opens x.line why in
    let p = (line_failed w.core.opens x.line f.opened why here).lines x.line f.opened here in
    record {
      reaches =
          reaches_both starts w u v (reaches_act starts w (Starts number) refl may)
          (reaches_act starts u (Fails number why) refl
          (s.started, s.landed, subst (λ (p : Piece). IsFailure u.core p why) (sym piece) fails));
      calm =
          λ lines exempt is. fails_calm u.core number w.shelf.steps why s.live lines s.orderly.tidy.pieces.single s.at
          (ap lines line ∙ exempt) (starts_calm w.core number l lines o.tidy.pieces.single at is);
      opens =
          same_both w.core.opens mid v.core.opens (same_failed w.core.opens x.line f.opened why here)
          (same_finished mid x.line p.0 p.1);
      barrier = refl;
      deferred = deferred_stays u.core.pieces.claims u.core.pieces.lives number claimed (ap is_some s.at) m.free;
      claims = inr refl;
      waits = refl;
    }

pub starts_asked : (w : World) (number : ℕ) (op : Op) (tag : ℕ) (now : State) (l : LivePiece) → IsOrderly w
    → live_at w.core.pieces.lives number ≡ Some l
    → Allowed w (Asks number op tag now)
    → StartsIn w number (after w (Asks number op tag now))
starts_asked w number op tag now l o at allowed = record {
  reaches = reaches_act starts w (Asks number op tag now) refl allowed;
  calm = λ lines exempt is. asks_calm w.core number tag l lines o.tidy.pieces.single at is;
  opens = λ line. refl;
  barrier = refl;
  deferred = refl;
  claims = inl refl;
  waits = refl;
}

-- ---- the code's steps

-- the core of a piece that is started
pub started_core : (c : Core) (number : ℕ) (l : LivePiece) (p : Pieces) (r room : Room) → live_at c.pieces.lives number ≡ Some l
    → p ≡ with_stage c.pieces number (Started 0 None)
    → room ≡ start_room l.piece
    → r ≡ fewer c.owed room
    → record c { pieces = p; owed = r } ≡ after_starts c number
started_core c number l p r room at pieces used owes =
    let its : start_room l.piece ≡ start_room (live_of c.pieces number).piece =
    ap (λ (x : LivePiece). start_room x.piece) (sym (live_is c.pieces number l at)) in
    let owed : r ≡ fewer c.owed (start_room (live_of c.pieces number).piece) = owes ∙ ap (λ (x : Room). fewer c.owed x) (used ∙ its) in
    λ i. record c { pieces = pieces i; owed = owed i }

-- and of one whose operation was submitted
pub asked_core : (c : Core) (number tag : ℕ) (l : LivePiece) (p q : Pieces) (r room : Room) → live_at c.pieces.lives number ≡ Some l
    → p ≡ with_stage c.pieces number (Started 0 None)
    → q ≡ after_flies p number tag true
    → room ≡ start_room l.piece
    → r ≡ fewer c.owed room
    → record c { pieces = q; owed = r } ≡ after_asks c number tag
asked_core c number tag l p q r room at pieces flies used owes =
    let its : start_room l.piece ≡ start_room (live_of c.pieces number).piece =
    ap (λ (x : LivePiece). start_room x.piece) (sym (live_is c.pieces number l at)) in
    let owed : r ≡ fewer c.owed (start_room (live_of c.pieces number).piece) = owes ∙ ap (λ (x : Room). fewer c.owed x) (used ∙ its) in
    let flown : q ≡ after_flies (with_stage c.pieces number (Started 0 None)) number tag true =
    flies ∙ ap (λ (x : Pieces). after_flies x number tag true) pieces in
    λ i. record c { pieces = flown i; owed = owed i }

-- what is asked as it is submitted
pub record MayFly (p : Pieces) (number tag : ℕ) : Type 0 where
  pub spare : 0 < p.spare_ops
  pub started : is_started p number ≡ true
  pub few : flying_at p number < 8
  pub fresh : owner_at p.owners tag ≡ None

pub may_fly : (w : World) (number tag : ℕ) (l : LivePiece) → IsOrderly w → live_at w.core.pieces.lives number ≡ Some l
    → may_start w.core.pieces number ≡ true
    → w.shelf.next_tag ≤ tag
    → MayFly (with_stage w.core.pieces number (Started 0 None)) number tag
may_fly w number tag l o at may fresh =
    let s : StartedAt w number = started_piece w number l o at may in
    let its =
    found (λ (y : LivePiece). is_waiting_stage y.stage) (live_at w.core.pieces.lives number) l at
    (may_start_now w.core.pieces number may).waits in
    let covered = start_covered w.core.owed l its (has_room w number l o at) in
    let free =
    unknown w.shelf w.core tag o.backed.known o.tidy.owners (fresh_unknown w.shelf tag o.backed.lawful fresh) in
    record {
      spare = omega (arith, covered.ops, o.tidy.room.owners);
      started = s.started;
      few = omega (arith, s.landed);
      fresh = free.0;
    }

-- ---- the two exits

pub fails_so : (s : State) (c d : Core) (number : ℕ) (l : LivePiece) (disk : ℕ) (p : Pieces) (r room : Room) → IsOrderly (world s c)
    → live_at c.pieces.lives number ≡ Some l
    → may_start c.pieces number ≡ true
    → p ≡ with_stage c.pieces number (Started 0 None)
    → room ≡ start_room l.piece
    → r ≡ fewer c.owed room
    → AreClaimed p.claims p.lives
    → IsFailure c l.piece (PvFailed disk)
    → d ≡ after_fails (record c { pieces = p; owed = r }) number (PvFailed disk) s.steps
    → StartsIn (world s c) number (world s d)
fails_so s c d number l disk p r room o at may pieces used owes claimed fails after =
    let is : record c { pieces = p; owed = r } ≡ after_starts c number = started_core c number l p r room at pieces used owes in
    subst (λ (x : Core). StartsIn (world s c) number (world s x))
    (sym (after ∙ ap (λ (x : Core). after_fails x number (PvFailed disk) s.steps) is))
    (starts_failed (world s c) number disk l o at may (subst (λ (x : Pieces). AreClaimed x.claims x.lives) pieces claimed) fails)

pub asks_so : (s now : State) (c : Core) (number tag : ℕ) (l : LivePiece) (at : At) (sectors : List (List ℕ)) (op : Op) (p q : Pieces)
    (r room : Room)
    → IsOrderly (world s c)
    → live_at c.pieces.lives number ≡ Some l
    → may_start c.pieces number ≡ true
    → MayStart (world s c) l at sectors
    → op ≡ op_for l.piece.write (span_from at l.piece.count) sectors
    → Submits s op tag now
    → IsLawful now
    → p ≡ with_stage c.pieces number (Started 0 None)
    → q ≡ after_flies p number tag true
    → room ≡ start_room l.piece
    → r ≡ fewer c.owed room
    → StartsIn (world s c) number (world now (record c { pieces = q; owed = r }))
asks_so s now c number tag l at sectors op p q r room o here may m its submits lawful pieces flies used owes =
    let works : work_of op ≡ piece_work c (live_of c.pieces number) =
    ap work_of its ∙ m.work ∙ ap (piece_work c) (sym (live_is c.pieces number l here)) in
    subst (λ (x : Core). StartsIn (world s c) number (world now x)) (sym (asked_core c number tag l p q r room here pieces flies used owes))
    (starts_asked (world s c) number op tag now l o here (submits, lawful, may, works))
