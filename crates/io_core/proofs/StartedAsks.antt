-- What calls on a started piece and its line ask.
use Rattle.std.proofs.Common.{◌≡◌, ◌≤◌, ◌<◌, ℕ, ◌+◌, ◌*◌, true, false, nat_lt, List, length, Option, None, Some, is_some, refl}
use Rattle.std.proofs.Common.{sym, ap, subst}
use Rattle.std.proofs.Common.{arith, true≢false}
use Rattle.std.specs.Option.{option_map_or}
use Rattle.sector_base.specs.declared.places.Piece.{Piece}
use Rattle.line_answers.specs.declared.answer.Answer.{Answer}
use Rattle.line_table.specs.Steps.{last_moment, may_enter}
use Rattle.piece_table.specs.declared.live.LivePiece.{LivePiece}
use Rattle.piece_table.specs.Pieces.{is_started, is_started_stage, live_at}
use Rattle.world_acts.specs.declared.open_line.OpenLine.{OpenLine}
use Rattle.world_acts.specs.declared.open_line.Work.{Work}
use Rattle.world_acts.specs.declared.open_line.Work.TheVariants.{Read, Whole, Write}
use Rattle.meta_model.specs.declared.group.Group.{Group}
use Rattle.seg_place.specs.Sectors.{sectors_of}
use Rattle.world_acts.specs.Acts.{IsPartOf, World}
use Rattle.world_acts.specs.OpenLines.{Opens, after_failure, after_filled, filled as filled_work, fits_read, left_of, open_at, open_of}
use Rattle.world_acts.specs.Orderly.{IsOfLine, IsOrderly}
use Rattle.world_acts.specs.Rooms.{one}
use Rattle.world_acts.specs.Volumes.{IsPlaced, lv_of}
use Rattle.world_acts.proofs.LinesKept.{line_failed, open_is}
use Rattle.world_acts.proofs.Tables.{at_number}
use Rattle.io_core.proofs.LiveLines.{entered, live_left, live_open, set_open}
use Rattle.io_core.proofs.PieceAsks.{HasStarted, found, has_room, started_room}

-- an entry of its line, and what is left of that
pub record IsAtWork (w : World) (l : LivePiece) : Type 0 where
  pub entry : 0 < w.core.lines.spare_entries
  pub line : may_enter w.core.lines l.line ≡ true
  pub moment : last_moment w.core.lines.journal ≤ w.shelf.steps
  pub of_line : IsOfLine w.core.opens l
  pub opened : is_some (open_at w.core.opens l.line) ≡ true
  pub left : 0 < left_of w.core.opens l.line
  pub room : HasStarted w.core.owed l

pub at_work : (w : World) (number : ℕ) (l : LivePiece) → IsOrderly w → live_at w.core.pieces.lives number ≡ Some l
    → is_started w.core.pieces number ≡ true
    → IsAtWork w l
at_work w number l o at started =
    let its = found (λ (y : LivePiece). is_started_stage y.stage) (live_at w.core.pieces.lives number) l at started in
    let room = started_room w.core.owed l its (has_room w number l o at) in
    let f = live_open w number l o at in
    let opened : is_some (open_at w.core.opens l.line) ≡ true = ap is_some f.is_open in
    record {
      entry = omega (arith, room.entries, o.tidy.room.entries);
      line = entered w l.line o opened;
      moment = o.backed.moments;
      of_line = f;
      opened = opened;
      left = live_left w number l o at;
      room = room;
    }

-- what is left of a line that fails
pub left_failing : (opens : Opens) (line : ℕ) (why : Answer) (o : OpenLine) → open_at opens line ≡ Some o → 0 < left_of opens line
    → 0 < left_of (after_failure opens line why) line
left_failing opens line why o at some =
    let same : left_of (after_failure opens line why) line + 0 ≡ left_of opens line + 0 = (line_failed opens line o why at).left line in
    omega (arith, same, some)

-- what comes of a read fits its line's buffer
fits_part : (work : Work) (piece : Piece) (count : ℕ) → IsPartOf work piece → count ≡ piece.count → fits_read work piece.first count
fits_part (Read start buffer) piece count part same = (part.1, omega (arith, part.2, same))
fits_part Write piece count part same = tt
fits_part (Whole answer) piece count part same = tt

pub fits_line : (opens : Opens) (l : LivePiece) (count : ℕ) → IsOfLine opens l → count ≡ l.piece.count
    → fits_read (open_of opens l.line).work l.piece.first count
fits_line opens l count f same =
    subst (λ (o : OpenLine). fits_read o.work l.piece.first count) (sym (open_is opens l.line f.opened f.is_open))
    (fits_part f.opened.work l.piece count f.part same)

pub left_filling : (opens : Opens) (l : LivePiece) (sectors : List (List ℕ)) → IsOfLine opens l → 0 < left_of opens l.line
    → 0 < left_of (after_filled opens l.line l.piece.first sectors) l.line
left_filling opens l sectors f some =
    let x : OpenLine = open_of opens l.line in
    let filled : OpenLine = record x { work = filled_work x.work l.piece.first sectors } in
    let old : left_of opens l.line ≡ f.opened.left =
    ap (λ (y : Option OpenLine). option_map_or (λ (o : OpenLine). o.left) y 0) f.is_open in
    let now : left_of (after_filled opens l.line l.piece.first sectors) l.line ≡ x.left =
    ap (λ (y : Option OpenLine). option_map_or (λ (o : OpenLine). o.left) y 0) (set_open opens l.line f.opened filled f.is_open) in
    let same : x.left ≡ f.opened.left = ap (λ (o : OpenLine). o.left) (open_is opens l.line f.opened f.is_open) in
    omega (arith, old, now, same, some)

-- the volume of a piece stands in the text
has_number : (group : Option Group) (lv : Option ℕ) (x : ℕ)
    → option_map_or (λ (g : Group). option_map_or (λ n. nat_lt x (sectors_of g n)) lv false) group false ≡ true
    → (n : ℕ) × (lv ≡ Some n)
has_number None lv x is = absurd (true≢false (sym is))
has_number (Some g) None x is = absurd (true≢false (sym is))
has_number (Some g) (Some n) x is = (n, refl)

pub noted_within : (w : World) (number pv : ℕ) (l : LivePiece) → IsOrderly w → live_at w.core.pieces.lives number ≡ Some l
    → pv < length w.core.waits.disks
    → l.piece.volume * length w.core.waits.disks + pv < length w.core.waits.dirty
noted_within w number pv l o at within =
    let placed : IsPlaced w.core.volumes w.shelf.sizes l.piece =
    at_number (λ (e : ℕ × LivePiece). IsPlaced w.core.volumes w.shelf.sizes e.1.piece) w.core.pieces.lives number l
    o.backed.places.placed at in
    let p = has_number w.core.volumes.group (lv_of w.core.volumes l.piece.volume) l.piece.first placed.1.inside in
    let all : l.piece.volume * length w.core.waits.disks + length w.core.waits.disks ≤ length w.core.waits.dirty =
    o.tidy.flushes.dirty l.piece.volume p.0 p.1 in
    omega (arith, all, within)

-- a write of it is spare, and, where its flush is awaited, room to wait
pub write_spare : (w : World) (l : LivePiece) → IsOrderly w → IsAtWork w l → l.piece.write ≡ true → 0 < w.core.waits.plan.spare
write_spare w l o at writes =
    let is : one l.piece.write ≡ 1 = ap one writes in omega (arith, is, at.room.writes, o.tidy.room.writes)

pub wait_spare : (w : World) (l : LivePiece) → IsOrderly w → IsAtWork w l → is_some l.ticket ≡ true → 0 < w.core.waits.room
wait_spare w l o at waits =
    let is : one (is_some l.ticket) ≡ 1 = ap one waits in omega (arith, is, at.room.waits, o.tidy.room.waits)
