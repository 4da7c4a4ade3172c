-- Whose an operation was that has completed: its piece, what that does, and its line.
use Rattle.std.proofs.Common.{◌≡◌, ℕ, List, Option, None, Some, option_map, slice_get, refl, sym, ap, ◌∙◌}
use Rattle.std.proofs.lemmas.Option.{none-some, same_Some}
use Rattle.list_laws.proofs.Members.{in_list}
use Rattle.lvm_script.specs.declared.line.Line.{Line}
use Rattle.disk_model.specs.Calls.{Completes}
use Rattle.disk_model.specs.Operations.{work_of}
use Rattle.disk_model.specs.State.{State}
use Rattle.disk_model.specs.Steps.{Work as DiskWork}
use Rattle.disk_model.specs.declared.ops.Done.{Done}
use Rattle.piece_table.specs.declared.live.LivePiece.{LivePiece}
use Rattle.piece_table.specs.declared.live.Owner.{Owner}
use Rattle.piece_table.specs.declared.live.Stage.TheVariants.{Started}
use Rattle.piece_table.specs.Pieces.{live_at, owner_at}
use Rattle.volume_history.specs.Chronicles.{ChronicleEntry, begun_in}
use Rattle.world_acts.specs.declared.open_line.OpenLine.{OpenLine}
use Rattle.world_acts.specs.Acts.{IsPartOf, World}
use Rattle.world_acts.specs.OpenLines.{open_at}
use Rattle.world_acts.specs.Orderly.{IsLive, IsOfLine, IsOrderly}
use Rattle.world_acts.specs.Owners.{flush_at, in_flight_at, owned_work, piece_work}
use Rattle.world_acts.proofs.Known.{owner_flies}
use Rattle.world_acts.proofs.PiecesKept.{flying_started}
use Rattle.world_acts.proofs.Tables.{at_number}
use Rattle.world_history.specs.Told.{IsTold, IsWorkOf}
use Rattle.world_history.proofs.EntryLists.{begun_at}
use Rattle.world_history.proofs.Contents.Tagged.{tagged}

pub record EndedPiece (w : World) (es : List ChronicleEntry) (work : DiskWork) (number : ℕ) : Type 0 where
  pub live : LivePiece
  pub at : live_at w.core.pieces.lives number ≡ Some live
  pub did : work ≡ piece_work w.core live
  pub opened : OpenLine
  pub is_open : open_at w.core.opens live.line ≡ Some opened
  pub own : live.piece.volume ≡ opened.key
  pub part : IsPartOf opened.work live.piece
  pub line : Line
  pub key : Option ℕ
  pub begun : begun_in es live.line ≡ Some (line, key)
  pub listed : slice_get w.core.lines.begun live.line ≡ Some line
  pub does : IsWorkOf line.command key opened.work opened.failure

-- a piece under way, with its line
pub live_piece : {start : ℕ} {coming : ℕ → ℕ → ℕ} {w : World} {es : List ChronicleEntry} → IsOrderly w → IsTold start coming w es
    → (work : DiskWork) (number : ℕ) (live : LivePiece)
    → live_at w.core.pieces.lives number ≡ Some live
    → work ≡ piece_work w.core live
    → EndedPiece w es work number
live_piece {start} {coming} {w} {es} o t work number live at did =
    let kept : IsLive w.core.lines.begun w.core.opens w.core.pieces.next (number, live) =
    at_number (IsLive w.core.lines.begun w.core.opens w.core.pieces.next) w.core.pieces.lives number live o.tidy.pieces.each at in
    let f : IsOfLine w.core.opens live = kept.of_line in
    let told = t.lines live.line f.opened f.is_open in
    record {
      live = live;
      at = at;
      did = did;
      opened = f.opened;
      is_open = f.is_open;
      own = f.key;
      part = f.part;
      line = told.0.0;
      key = told.0.1;
      begun = told.1;
      listed =
          ap (λ (l : List Line). slice_get l live.line) (sym t.begun)
          ∙ sym (begun_at start es live.line t.ordered)
          ∙ ap (λ (l : Option (Line × Option ℕ)). option_map (λ (x : Line × Option ℕ). x.0) l) told.1;
      does = told.2.does;
    }

module _ {start : ℕ} {coming : ℕ → ℕ → ℕ} {w : World} {es : List ChronicleEntry} (o : IsOrderly w) (t : IsTold start coming w es)
    (done : Done)
    (now : State) (completes : Completes w.shelf done now) (number : ℕ) where
  -- what is in flight under its tag
  was : in_flight_at w.shelf.in_flight done.tag ≡ Some (work_of done.op)
  was =
      tagged w.shelf.in_flight (record { tag = done.tag; work = work_of done.op }) o.backed.lawful.order
      (in_list w.shelf.in_flight _ completes.was)

  pub ended_piece : Some number ≡ option_map (λ (x : Owner). x.piece) (owner_at w.core.pieces.owners done.tag)
      → EndedPiece w es (work_of done.op) number
  ended_piece whose = by (owner_at w.core.pieces.owners done.tag) refl whose (sym (o.backed.known.owned done.tag) ∙ was)
    where
      by : (x : Option Owner) → owner_at w.core.pieces.owners done.tag ≡ x → Some number ≡ option_map (λ (y : Owner). y.piece) x
          → owned_work w.core.pieces.lives (piece_work w.core) (flush_at w.core.waits.plan done.tag) x ≡ Some (work_of done.op)
          → EndedPiece w es (work_of done.op) number
      by None is mine does = absurd (none-some number (sym mine))
      by (Some owner) is mine does =
          let same : owner.piece ≡ number = sym (same_Some number owner.piece mine) in
          let p = flying_started w.core.pieces.lives owner.piece (owner_flies done.tag owner o.tidy.owners is) in
          let live : LivePiece = record { line = p.2.line; piece = p.2.piece; stage = Started p.0 p.1; ticket = p.2.ticket } in
          live_piece o t (work_of done.op) number live (ap (live_at w.core.pieces.lives) (sym same) ∙ p.2.at)
          (same_Some (work_of done.op) (piece_work w.core live)
          (sym does ∙ ap (λ (l : Option LivePiece). option_map (piece_work w.core) l) p.2.at))
