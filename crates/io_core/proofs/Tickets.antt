-- A piece whose room to wait is taken.
use Rattle.std.proofs.Common.{◌≡◌, ℕ, true, false, nat_eq, List, Option, None, Some, is_some, refl, sym, ap, ◌∙◌, true≢false}
use Rattle.std.specs.Option.{option_map_or}
use Rattle.std.proofs.lemmas.Map.Steps.{set_value_same}
use Rattle.piece_table.specs.declared.live.LivePiece.{LivePiece}
use Rattle.piece_table.specs.declared.live.Stage.{Stage}
use Rattle.piece_table.specs.declared.live.Stage.TheVariants.{Started, Taken, Waiting}
use Rattle.piece_table.specs.Pieces.{Pieces, flying_at, flying_of, is_started_stage, is_waiting, is_waiting_stage, live_at}
use Rattle.piece_table.specs.Steps.{live_of, without_ticket}
use Rattle.world_acts.proofs.PiecesKept.{piece_replaced}
use Rattle.world_acts.proofs.Tables.{AreSingle, own_at}
use Rattle.io_core.proofs.PieceAsks.{live_is}

-- the piece has no room to wait then
pub unticketed : (pieces : Pieces) (number : ℕ) (l : LivePiece) → AreSingle pieces.lives → live_at pieces.lives number ≡ Some l
    → live_at (without_ticket pieces number).lives number ≡ Some (record l { ticket = None })
unticketed pieces number l single at =
    own_at (piece_replaced pieces.lives number l (record (live_of pieces number) { ticket = None }) single at)
    ∙ ap (λ (x : LivePiece). Some (record x { ticket = None })) (live_is pieces number l at)

unwaiting : (stage : Stage) → is_started_stage stage ≡ true → is_waiting_stage stage ≡ false
unwaiting (Waiting sectors) is = absurd (true≢false (sym is))
unwaiting (Started flying lost) is = refl
unwaiting (Taken awaited) is = refl

-- it is submitted, and has as many operations in flight
pub record StaysStarted (pieces : Pieces) (number : ℕ) (l : LivePiece) : Type 0 where
  pub among : is_some (live_at (without_ticket pieces number).lives number) ≡ true
  pub submitted : is_waiting (without_ticket pieces number) number ≡ false
  pub flying : flying_at (without_ticket pieces number) number ≡ flying_at pieces number

pub stays_started : (pieces : Pieces) (number : ℕ) (l : LivePiece) → AreSingle pieces.lives → live_at pieces.lives number ≡ Some l
    → is_started_stage l.stage ≡ true
    → StaysStarted pieces number l
stays_started pieces number l single at started =
    let now = unticketed pieces number l single at in
    record {
      among = ap is_some now;
      submitted =
          ap (λ (x : Option LivePiece). option_map_or (λ (y : LivePiece). is_waiting_stage y.stage) x false) now
          ∙ unwaiting l.stage started;
      flying =
          ap (λ (x : Option LivePiece). option_map_or (λ (y : LivePiece). flying_of y.stage) x 0) now
          ∙ sym (ap (λ (x : Option LivePiece). option_map_or (λ (y : LivePiece). flying_of y.stage) x 0) at);
    }

-- nothing changes where it had none
pub unticketed_same : (pieces : Pieces) (number : ℕ) (l : LivePiece) → live_at pieces.lives number ≡ Some l → l.ticket ≡ None
    → without_ticket pieces number ≡ pieces
unticketed_same pieces number l at none =
    let it : LivePiece = record (live_of pieces number) { ticket = None } in
    let bare : record l { ticket = None } ≡ l = λ i. record l { ticket = sym none i } in
    let same : it ≡ l = ap (λ (x : LivePiece). record x { ticket = None }) (live_is pieces number l at) ∙ bare in
    ap (λ (lives : List (ℕ × LivePiece)). record pieces { lives = lives })
    (set_value_same (nat_eq number) pieces.lives it (at ∙ ap Some (sym same)))
