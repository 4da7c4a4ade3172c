-- An operation of a piece has completed, and what it came to is settled: each sector is tracked then.
use Rattle.std.proofs.Common.{◌++◌, ◌+◌, ◌∙◌, ◌∷◌, ◌≡◌, ℕ, [], Bool, IfSome, List, Option, Some, ap, false, is_some, length, option_map}
use Rattle.std.proofs.Common.{refl, subst, sym, true}
use Rattle.std.proofs.lemmas.Bool.{cond_both}
use Rattle.std.proofs.lemmas.Option.{same_Some}
use Rattle.sector_base.specs.declared.places.Piece.{Piece}
use Rattle.sector_base.specs.declared.spans.Span.{Span}
use Rattle.line_answers.specs.declared.answer.Answer.{Answer}
use Rattle.line_answers.specs.declared.answer.Answer.TheVariants.{PvFailed, ReadFailed}
use Rattle.disk_model.specs.Operations.{work_of}
use Rattle.disk_model.specs.State.{State}
use Rattle.disk_model.specs.Steps.{Completed, Record, Step, step_on}
use Rattle.disk_model.specs.declared.ops.Done.{Done}
use Rattle.disk_model.specs.declared.ops.Op.{Op}
use Rattle.disk_model.specs.declared.ops.Op.TheVariants.{Flush as FlushOp, Read as ReadOp, Write as WriteOp}
use Rattle.flush_plan.specs.Plans.{marks_of}
use Rattle.flush_plan.specs.Steps.{after_wrote}
use Rattle.piece_table.specs.Pieces.{owner_at}
use Rattle.piece_table.specs.Steps.{live_of}
use Rattle.piece_table.specs.declared.live.LivePiece.{LivePiece}
use Rattle.piece_table.specs.declared.live.Owner.{Owner}
use Rattle.volume_history.specs.Chronicles.{ChronicleEntry, Failed, Origin, Took, origin_on}
use Rattle.volume_history.specs.Laws.{HistoriesGrow}
use Rattle.volume_history.specs.Legal.{AllOrdered, IsOrdered}
use Rattle.world_places.specs.Lives.{Written}
use Rattle.world_acts.specs.Acts.{Act, Allowed, Ends, Fails, Marks, Reads, Runs, World, Writes, after, settling}
use Rattle.world_acts.specs.Orderly.{IsOrderly}
use Rattle.world_acts.specs.Steps.{after_leaves, after_stays, after_written}
use Rattle.world_acts.specs.Volumes.{IsPlaced, span_of}
use Rattle.world_acts.specs.declared.state.Core.{Core}
use Rattle.world_acts.proofs.Orderly.{orderly_after}
use Rattle.world_acts.proofs.Tables.{at_number}
use Rattle.world_history.specs.Contents.{HasContents, origin_with}
use Rattle.world_history.specs.Entries.{entries_by}
use Rattle.world_history.specs.Shown.{Shows, StandsIn}
use Rattle.world_history.specs.Told.{IsTold as HasEntries, none_coming}
use Rattle.world_history.proofs.Contents.EndedWorld.{IsWritten, is_written}
use Rattle.world_history.proofs.Contents.EndedWrite.{PlacesDiffer, write_took}
use Rattle.world_history.proofs.Contents.Keyed.{places_differ}
use Rattle.world_history.proofs.Contents.Standing.{stands_in}
use Rattle.world_tracks.specs.Tracks.{AreTracked, PlaceLaws}
use Rattle.world_tracks.proofs.EndedBadly.{lost_tracked}
use Rattle.world_tracks.proofs.EndedFacts.{EndedBy, ended_by, keeps_fails, keeps_reads, keeps_writes, live_ended, lives_settled, no_flush}
use Rattle.world_tracks.proofs.EndedRead.{read_tracked, unread_tracked}
use Rattle.world_tracks.proofs.EndedWell.{well_tracked}
use Rattle.world_tracks.proofs.NewNote.{note_of}

-- ---- notes

-- what an act adds to the notes, and acts that follow one another
abbrev pub notes_of : World → Act → List Written
notes_of w (Writes number pv) = note_of w number pv (span_of w.core.volumes (live_of w.core.pieces number).piece).first ∷ []
notes_of w _ = []

abbrev pub notes_by : World → List Act → List Written → List Written
notes_by w [] notes = notes
notes_by w (a ∷ acts) notes = notes_by (after w a) acts (notes_of w a ++ notes)

-- ---- all of it

module _ (laws : PlaceLaws) (grow : HistoriesGrow) (b : Origin) {w : World} {es : List ChronicleEntry} (o : IsOrderly w)
    (t : HasEntries b.start none_coming w es) (c : HasContents b w es) (notes : List Written)
    (tracked : AreTracked b c.told w.core es notes) (done : Done) (now : State) (may : Allowed w (Ends done now)) (number : ℕ)
    (whose : Some number ≡ option_map (λ (x : Owner). x.piece) (owner_at w.core.pieces.owners done.tag)) where
  abbrev w1 : World
  w1 = after w (Ends done now)

  abbrev x : EndedBy w es c.told done now number
  x = ended_by b.start o t c.told done now may number whose

  abbrev live : LivePiece
  live = x.piece.live

  abbrev step : Step
  step = Completed done.tag (work_of done.op) done.well may.0.told.0

  abbrev told : Record
  told = step_on step c.told

  told_now : now.told ≡ Some told
  told_now = may.0.told.1 ∙ ap (option_map (step_on step)) c.is

  moment : now.steps ≡ length told.steps
  moment = subst (λ (r : Option Record). IfSome r (λ (q : Record). now.steps ≡ length q.steps)) told_now may.1.steps

  orderly : IsOrderly w1
  orderly = orderly_after w (Ends done now) o may

  -- the entries and notes are of the piece as it stands then
  as_landed : (P : ℕ → Piece → Type 0) → P live.line live.piece
      → P (live_of w1.core.pieces number).line (live_of w1.core.pieces number).piece
  as_landed P h = subst (λ (l : LivePiece). P l.line l.piece) (sym (live_ended o may x)) h

  -- ---- a write

  module _ (span : Span) (sectors : List (List ℕ)) (op : done.op ≡ WriteOp span sectors) where
    written : IsWritten x.piece span sectors
    written = is_written x.piece span sectors (ap work_of op)

    differ : PlacesDiffer b
    differ = places_differ w.core.volumes w.shelf.sizes b.version o.backed.places.laid c.holds.volumes

    stands : StandsIn b.version live.piece span
    stands =
        subst (StandsIn b.version live.piece) (sym written.span_is)
        (stands_in w.core.volumes w.shelf.sizes b.version o.backed.places.laid c.holds.volumes live.piece
        (at_number (λ (e : ℕ × LivePiece). IsPlaced w.core.volumes w.shelf.sizes e.1.piece) w.core.pieces.lives number live
        o.backed.places.placed x.piece.at))

    -- well: the disks show the machine then
    module _ (good : done.well ≡ true) where
      shows : IsOrdered b.start es (Took now.steps live.line live.piece)
          → Shows (origin_with b told) (Took now.steps live.line live.piece ∷ es)
      shows ordered =
          subst (λ (z : Op). Shows (origin_on (Completed done.tag (work_of z) done.well may.0.told.0) (origin_with b c.told))
          (Took now.steps live.line live.piece ∷ es)) (sym op)
          (write_took grow (origin_with b c.told) es done.tag now.steps live.line span sectors done.well may.0.told.0 live.piece
          x.piece.line x.piece.key c.holds.shows stands differ x.piece.begun written.writing written.brings moment good ordered)

      module _ (allowed : Allowed w1 (Writes number span.pv)) where
        abbrev d : Core
        d = (after w1 (Writes number span.pv)).core

        noted : (d.waits.plan.marks ≡ (after_wrote w.core.waits.plan number span.pv).marks)
            × (d.waits.plan.flushes ≡ (after_wrote w.core.waits.plan number span.pv).flushes)
        noted =
            let made : Core = after_written w1.core number span.pv now.steps in
            cond_both (is_some (live_of w1.core.pieces number).ticket)
            (after_stays made number span.pv (marks_of made.waits.plan span.pv).written) (after_leaves made number span.pv)
            (λ (k : Core). (k.waits.plan.marks ≡ (after_wrote w.core.waits.plan number span.pv).marks)
            × (k.waits.plan.flushes ≡ (after_wrote w.core.waits.plan number span.pv).flushes))
            (λ is. (refl, refl)) (λ is. (refl, refl))

        -- the note of a piece on this line
        abbrev note : ℕ → Piece → Written
        note line piece = record {
          line = line;
          number = number;
          piece = piece;
          pv = span.pv;
          first = (span_of w.core.volumes piece).first;
          place = w.core.waits.plan.held + 1;
          begun = length w.core.lines.begun;
          primary = true;
        }

        wrote : IsOrdered b.start es (Took now.steps (live_of w1.core.pieces number).line (live_of w1.core.pieces number).piece)
            → AreTracked b told d
            (Took now.steps (live_of w1.core.pieces number).line (live_of w1.core.pieces number).piece ∷ es)
            (note_of w1 number span.pv (span_of w1.core.volumes (live_of w1.core.pieces number).piece).first ∷ notes)
        wrote =
            as_landed
            (λ line piece. IsOrdered b.start es (Took now.steps line piece)
            → AreTracked b told d (Took now.steps line piece ∷ es) (note line piece ∷ notes))
            (λ ordered. well_tracked laws b o t.count x c.holds.shows notes tracked may.0.told.0 span sectors op good stands differ
            (shows ordered) d (lives_settled o may x d (keeps_writes w1 number span.pv orderly allowed) allowed.1) noted.0 noted.1)

    -- or badly
    module _ (bad : done.well ≡ false) (marks : Allowed w1 (Marks span.pv))
        (fails : Allowed (after w1 (Marks span.pv)) (Fails number (PvFailed span.pv))) where
      abbrev lost : Core
      lost = (after (after w1 (Marks span.pv)) (Fails number (PvFailed span.pv))).core

      failed : AreTracked b told lost
          (Failed now.steps (live_of w1.core.pieces number).line (live_of w1.core.pieces number).piece ∷ es) notes
      failed =
          let k = keeps_fails (after w1 (Marks span.pv)) number (PvFailed span.pv) (orderly_after w1 (Marks span.pv) orderly marks) fails in
          as_landed (λ line piece. AreTracked b told lost (Failed now.steps line piece ∷ es) notes)
          (lost_tracked laws b x c.holds.shows notes tracked may.0.told.0 bad lost
          (lives_settled o may x lost (record { volumes = k.volumes; begun = k.begun; owners = k.owners; lives = k.lives }) fails.1) refl)

  -- ---- a read

  module _ (span : Span) (sectors : List (List ℕ)) (op : done.op ≡ ReadOp span sectors) where
    read : (given : List (List ℕ)) (allowed : Allowed w1 (Reads number given)) → AreTracked b told (after w1 (Reads number given)).core
        (Took now.steps (live_of w1.core.pieces number).line (live_of w1.core.pieces number).piece ∷ es) notes
    read given allowed =
        as_landed (λ line piece. AreTracked b told (after w1 (Reads number given)).core (Took now.steps line piece ∷ es) notes)
        (read_tracked laws b x c.holds.shows notes tracked may.0.told.0 span sectors op (after w1 (Reads number given)).core
        (lives_settled o may x (after w1 (Reads number given)).core (keeps_reads w1 number given orderly allowed) allowed.1) refl)

    unread : (why : Answer) (allowed : Allowed w1 (Fails number why)) → AreTracked b told (after w1 (Fails number why)).core
        (Failed now.steps (live_of w1.core.pieces number).line (live_of w1.core.pieces number).piece ∷ es) notes
    unread why allowed =
        as_landed (λ line piece. AreTracked b told (after w1 (Fails number why)).core (Failed now.steps line piece ∷ es) notes)
        (unread_tracked laws b x c.holds.shows notes tracked may.0.told.0 span sectors op (after w1 (Fails number why)).core
        (lives_settled o may x (after w1 (Fails number why)).core (keeps_fails w1 number why orderly allowed) allowed.1) refl)

  -- ---- whatever it came to

  pub ended_tracked : (mid : World) → Runs (after w (Ends done now)) (settling number done.op done.well) mid
      → AllOrdered b.start (entries_by (after w (Ends done now)) (settling number done.op done.well) es)
      → AreTracked b (step_on (Completed done.tag (work_of done.op) done.well may.0.told.0) c.told) mid.core
      (entries_by (after w (Ends done now)) (settling number done.op done.well) es)
      (notes_by (after w (Ends done now)) (settling number done.op done.well) notes)
  ended_tracked mid = by done.op done.well refl refl
    where
      by : (op : Op) (well : Bool) → done.op ≡ op → done.well ≡ well → Runs w1 (settling number op well) mid
          → AllOrdered b.start (entries_by w1 (settling number op well) es)
          → AreTracked b told mid.core (entries_by w1 (settling number op well) es) (notes_by w1 (settling number op well) notes)
      by (WriteOp span sectors) true is good run ordered =
          subst (λ (v : World). AreTracked b told v.core (entries_by w1 (Writes number span.pv ∷ []) es)
          (notes_by w1 (Writes number span.pv ∷ []) notes)) (sym run.1) (wrote span sectors is good run.0 ordered.0)
      by (WriteOp span sectors) false is bad run ordered =
          subst (λ (v : World). AreTracked b told v.core
          (entries_by w1 (Marks span.pv ∷ Fails number (PvFailed span.pv) ∷ []) es) notes) (sym run.1.1)
          (failed span sectors is bad run.0 run.1.0)
      by (ReadOp span sectors) true is good run ordered =
          subst (λ (v : World). AreTracked b told v.core (entries_by w1 (Reads number sectors ∷ []) es) notes) (sym run.1)
          (read span sectors is sectors run.0)
      by (ReadOp span sectors) false is bad run ordered =
          subst (λ (v : World). AreTracked b told v.core (entries_by w1 (Fails number (ReadFailed span.pv) ∷ []) es) notes) (sym run.1)
          (unread span sectors is (ReadFailed span.pv) run.0)
      by (FlushOp pv) well is done run ordered = absurd (no_flush o may x pv is)

  -- the same of what the shelf has told then
  pub ended_keeps : (mid : World) → Runs (after w (Ends done now)) (settling number done.op done.well) mid
      → AllOrdered b.start (entries_by (after w (Ends done now)) (settling number done.op done.well) es)
      → (then : HasContents b mid (entries_by (after w (Ends done now)) (settling number done.op done.well) es))
      → AreTracked b then.told mid.core (entries_by (after w (Ends done now)) (settling number done.op done.well) es)
      (notes_by (after w (Ends done now)) (settling number done.op done.well) notes)
  ended_keeps mid run ordered then =
      subst (λ (r : Record). AreTracked b r mid.core (entries_by w1 (settling number done.op done.well) es)
      (notes_by w1 (settling number done.op done.well) notes)) same (ended_tracked mid run ordered)
    where
      shelf : (op : Op) (well : Bool) → Runs w1 (settling number op well) mid → mid.shelf ≡ now
      shelf (WriteOp span sectors) true run = ap (λ (v : World). v.shelf) run.1
      shelf (WriteOp span sectors) false run = ap (λ (v : World). v.shelf) run.1.1
      shelf (ReadOp span sectors) true run = ap (λ (v : World). v.shelf) run.1
      shelf (ReadOp span sectors) false run = ap (λ (v : World). v.shelf) run.1
      shelf (FlushOp pv) well run = ap (λ (v : World). v.shelf) run

      same : told ≡ then.told
      same =
          same_Some told then.told
          (sym told_now ∙ ap (λ (s : State). s.told) (sym (shelf done.op done.well run)) ∙ then.is)
