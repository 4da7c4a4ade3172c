-- The acts of a session's lines keep what is tracked, beside the contents.
use Rattle.std.proofs.Common.{◌≡◌, ◌<◌, ℕ, Bool, true, false, All, List, [], ◌∷◌, ◌++◌, length, Option, None, Some}
use Rattle.std.proofs.Common.{option_map, refl, sym, ap, subst, ◌∙◌, arith, true≢false}
use Rattle.std.proofs.lemmas.List.Elements.{All-head, All-tail}
use Rattle.lvm_script.specs.declared.line.Line.{Line}
use Rattle.disk_model.specs.State.{State}
use Rattle.disk_model.specs.Steps.{Record}
use Rattle.disk_model.specs.declared.ops.Done.{Done}
use Rattle.disk_model.specs.declared.ops.Op.{Op}
use Rattle.disk_model.specs.declared.ops.Op.TheVariants.{Flush as FlushOp, Read as ReadOp, Write as WriteOp}
use Rattle.piece_table.specs.declared.live.Owner.{Owner}
use Rattle.piece_table.specs.Pieces.{owner_at}
use Rattle.piece_table.specs.Steps.{live_of}
use Rattle.volume_history.specs.Changing.{HaveOwnNames}
use Rattle.volume_history.specs.Chronicles.{ChronicleEntry, Origin}
use Rattle.volume_history.specs.Laws.{HistoriesGrow}
use Rattle.volume_history.specs.Legal.{AllOrdered}
use Rattle.volume_history.specs.Placed.{volumes_of}
use Rattle.world_places.specs.Lives.{Written}
use Rattle.world_acts.specs.declared.open_line.OpenLine.{OpenLine}
use Rattle.world_acts.specs.Acts.{Act, Allowed, Begins, Ends, EndsFlush, Grows, IsGrown, Marks, Readies, Runs, World, Writes, after}
use Rattle.world_acts.specs.Acts.{flushing, follows, goes_on, prepares, settling, world}
use Rattle.world_acts.specs.Orderly.{IsOrderly}
use Rattle.world_acts.specs.Steps.{after_begins}
use Rattle.world_acts.specs.Volumes.{span_of}
use Rattle.world_acts.proofs.Orderly.{orderly_after}
use Rattle.world_acts.proofs.Reaching.{settling_goes}
use Rattle.line_plans.specs.Plans.{opened_for}
use Rattle.io_core.specs.Beginning.{AwaitsAll}
use Rattle.io_core.specs.Events.{ending, settling_of}
use Rattle.io_core.specs.Rest.{just, no_one}
use Rattle.world_history.specs.Contents.{HasContents}
use Rattle.world_history.specs.Entries.{entries_by, entries_of}
use Rattle.world_history.specs.Told.{IsTold, none_coming}
use Rattle.world_history.proofs.Acts.{KeepsAlso}
use Rattle.world_history.proofs.Contents.Keeps.{keeps_contents}
use Rattle.world_tracks.specs.Kept.{HasTracks, HasTracksBut}
use Rattle.world_tracks.specs.Notes.{AreOnDisks, AreWaited, flushes_at}
use Rattle.world_tracks.specs.Tracks.{AreTracked, PlaceLaws}
use Rattle.world_tracks.proofs.ActWaits.{follows_quiet, prepares_quiet, waited_act}
use Rattle.world_tracks.proofs.ActsTracked.{ended_flush_tracked, follows_tracked, prepares_tracked, told_same}
use Rattle.world_tracks.proofs.AnsweredTracked.{NumbersHold}
use Rattle.world_tracks.proofs.BegunWaits.{lie_act, lie_writes, waited_begun, waited_prepared}
use Rattle.world_tracks.proofs.Ended.{ended_keeps, notes_by, notes_of}
use Rattle.world_tracks.proofs.EntriesTracked.{begins_tracked}
use Rattle.world_tracks.proofs.NewNote.{waited_writes}
use Rattle.world_tracks.proofs.QuietTracked.{grows_tracked, marks_tracked}

-- ---- what lines wait for

-- these notes are waited for, and are of writes on disks
record AreKept (w : World) (notes : List Written) : Type 0 where
  waited : AreWaited w.core no_one notes
  lie : AreOnDisks (length w.shelf.sizes) notes

-- an act that goes on with what was keeps that, with the note of a write
act_keeps : (w : World) (a : Act) (notes : List Written) → goes_on a ≡ true → IsOrderly w → Allowed w a → AreKept w notes
    → AreKept (after w a) (notes_of w a ++ notes)
act_keeps w (Begins line opened) notes is o may k = absurd (true≢false (sym is))
act_keeps w (Writes number pv) notes is o may k = record {
  waited = waited_writes w number pv o may no_one notes k.waited (span_of w.core.volumes (live_of w.core.pieces number).piece).first;
  lie = lie_writes w number pv (span_of w.core.volumes (live_of w.core.pieces number).piece).first notes may k.lie;
}
act_keeps w a notes is o may k = record { waited = waited_act w a o may refl no_one notes k.waited; lie = lie_act w a notes may k.lie }

-- and so do those that follow one another
acts_keep : (acts : List Act) (w v : World) (notes : List Written) → All (λ (a : Act). goes_on a ≡ true) acts → IsOrderly w
    → Runs w acts v
    → AreKept w notes
    → AreKept v (notes_by w acts notes)
acts_keep [] w v notes all o run k = subst (λ (x : World). AreKept x notes) (sym run) k
acts_keep (a ∷ acts) w v notes all o run k =
    acts_keep acts (after w a) v (notes_of w a ++ notes) (All-tail (λ (b : Act). goes_on b ≡ true) a acts all)
    (orderly_after w a o run.0) run.1
    (act_keeps w a notes (All-head (λ (b : Act). goes_on b ≡ true) a acts all) o run.0 k)

module _ (grow : HistoriesGrow) (laws : PlaceLaws) (numbers : NumbersHold) (b : Origin) (names : HaveOwnNames (volumes_of b.version)) where
  -- the contents are kept
  kept : KeepsAlso b.start (λ line. HasContents b) (HasContents b)
  kept = keeps_contents grow b names

  -- ---- what follows, and what prepares a line

  -- an act that follows adds no note, and exempts no line
  goes_tracks : {w : World} {es : List ChronicleEntry} (a : Act) → follows a ≡ true → IsOrderly w → IsTold b.start none_coming w es
      → Allowed w a
      → AllOrdered b.start (entries_of w a ++ es)
      → HasTracks b w es
      → HasTracks b (after w a) (entries_of w a ++ es)
  goes_tracks {w} {es} a passes o t may ordered h =
      let c : HasContents b (after w a) (entries_of w a ++ es) = kept.goes a passes o t may ordered h.contents in
      record {
        contents = c;
        notes = h.notes;
        tracked =
            follows_tracked laws b h.contents.told c.told h.notes o t h.contents.is h.contents.holds h.tracked numbers h.waited a passes
            may ordered c.is;
        waited = waited_act w a o may (follows_quiet a passes) no_one h.notes h.waited;
        lie = lie_act w a h.notes may h.lie;
      }

  -- one that prepares a line leaves that exempt
  prepares_tracks : {coming : ℕ → ℕ → ℕ} {w : World} {es : List ChronicleEntry} (line : ℕ) (a : Act) → prepares line a ≡ true
      → IsOrderly w
      → IsTold b.start coming w es
      → Allowed w a
      → AllOrdered b.start (entries_of w a ++ es)
      → HasTracksBut line b w es
      → HasTracksBut line b (after w a) (entries_of w a ++ es)
  prepares_tracks {coming} {w} {es} line a passes o t may ordered h =
      let c : HasContents b (after w a) (entries_of w a ++ es) = kept.readies_line line a passes o t may ordered h.contents in
      record {
        contents = c;
        notes = h.notes;
        tracked =
            prepares_tracked laws b h.contents.told c.told h.notes o t h.contents.is h.contents.holds h.tracked line a passes may c.is;
        waited = waited_act w a o may (prepares_quiet line a passes) (just line) h.notes h.waited;
        lie = lie_act w a h.notes may h.lie;
      }

  -- ---- a line is begun, and its preparation ends

  -- the line that is begun is exempt
  begins_tracks : {w : World} {es : List ChronicleEntry} (line : Line) (opened : OpenLine) (barrier : Option ℕ)
      → opened ≡ opened_for w.core.volumes line.command
      → IsOrderly w
      → IsTold b.start none_coming w es
      → AllOrdered b.start (entries_of w (Begins line opened) ++ es)
      → HasTracks b w es
      → HasTracksBut (length w.core.lines.begun) b
      (world w.shelf (record (after_begins w.core line opened w.shelf.steps) { barrier = barrier }))
      (entries_of w (Begins line opened) ++ es)
  begins_tracks {w} {es} line opened barrier is o t ordered h =
      let v : World = world w.shelf (record (after_begins w.core line opened w.shelf.steps) { barrier = barrier }) in
      let c : HasContents b v (entries_of w (Begins line opened) ++ es) = kept.begins line opened barrier is o t ordered h.contents in
      record {
        contents = c;
        notes = h.notes;
        tracked =
            told_same b h.contents.told c.told w.shelf.told v.core (entries_of w (Begins line opened) ++ es) h.notes h.contents.is c.is
            (begins_tracked laws b h.contents.told h.notes o t h.tracked line opened barrier);
        waited = waited_begun w line opened barrier o h.notes h.waited;
        lie = h.lie;
      }

  -- and isn't any more, once it waits on each disk where it flushes
  prepared_tracks : {w : World} {es : List ChronicleEntry} (line : ℕ) → IsOrderly w
      → (flushes_at w.core line ≡ true → AwaitsAll w.core line)
      → HasTracksBut line b w es
      → HasTracks b w es
  prepared_tracks {w} {es} line o awaits h = record {
    contents = h.contents;
    notes = h.notes;
    tracked = h.tracked;
    waited = waited_prepared w.core line h.notes lie h.waited awaits;
    lie = h.lie;
  }
    where
      lie : AreOnDisks (length w.core.waits.disks) h.notes
      lie x has = let lt : x.pv < length w.shelf.sizes = h.lie x has in omega (arith, lt, o.backed.places.many)

  -- ---- an operation has completed

  -- a piece's
  piece_ends : {w mid : World} {es : List ChronicleEntry} (number : ℕ) (done : Done) (now : State)
      → Some number ≡ option_map (λ (owner : Owner). owner.piece) (owner_at w.core.pieces.owners done.tag)
      → IsOrderly w
      → IsTold b.start none_coming w es
      → Allowed w (Ends done now)
      → Runs (after w (Ends done now)) (settling number done.op done.well) mid
      → AllOrdered b.start (entries_by (after w (Ends done now)) (settling number done.op done.well) es)
      → HasTracks b w es
      → HasTracks b mid (entries_by (after w (Ends done now)) (settling number done.op done.well) es)
  piece_ends {w} {mid} {es} number done now whose o t may run ordered h =
      let w1 : World = after w (Ends done now) in
      let c : HasContents b mid (entries_by w1 (settling number done.op done.well) es) =
      kept.ends (Some number) done now whose o t may run ordered h.contents in
      let k : AreKept mid (notes_by w1 (settling number done.op done.well) h.notes) =
      acts_keep (settling number done.op done.well) w1 mid h.notes (settling_goes number done.op done.well)
      (orderly_after w (Ends done now) o may) run
      (record {
        waited = waited_act w (Ends done now) o may refl no_one h.notes h.waited;
        lie = lie_act w (Ends done now) h.notes may h.lie;
      }) in
      record {
        contents = c;
        notes = notes_by w1 (settling number done.op done.well) h.notes;
        tracked = ended_keeps laws grow b o t h.contents h.notes h.tracked done now may number whose mid run ordered c;
        waited = k.waited;
        lie = k.lie;
      }

  -- or a flush
  module _ {w : World} {es : List ChronicleEntry} (done : Done) (now : State)
      (whose : None ≡ option_map (λ (owner : Owner). owner.piece) (owner_at w.core.pieces.owners done.tag)) (o : IsOrderly w)
      (t : IsTold b.start none_coming w es) (may : Allowed w (EndsFlush done now)) (h : HasTracks b w es) where
    -- the world as the flush has ended
    abbrev w1 : World
    w1 = after w (EndsFlush done now)

    -- its notes are kept
    ended : AreKept w1 h.notes
    ended = record {
      waited = waited_act w (EndsFlush done now) o may refl no_one h.notes h.waited;
      lie = lie_act w (EndsFlush done now) h.notes may h.lie;
    }

    -- and each sector is tracked, of what the shelf has told then
    flushed : (r : Record) → now.told ≡ Some r → AreTracked b r w1.core es h.notes
    flushed r then =
        ended_flush_tracked laws b h.contents.told r h.notes o t h.contents.is h.contents.holds h.tracked done now may then

    -- where a flush failed, its disk is marked
    settled : (mid : World) (op : Op) (well : Bool) → Runs w1 (flushing op well) mid → (r : Record) → mid.shelf.told ≡ Some r
        → AreTracked b r mid.core (entries_by w1 (flushing op well) es) h.notes × AreKept mid h.notes
    settled mid (FlushOp pv) true run r then = (
      subst (λ (v : World). AreTracked b r v.core es h.notes) (sym run)
          (flushed r (ap (λ (v : World). v.shelf.told) (sym run) ∙ then)),
      subst (λ (v : World). AreKept v h.notes) (sym run) ended,
    )
    settled mid (FlushOp pv) false run r then = (
      subst (λ (v : World). AreTracked b r v.core es h.notes) (sym run.1)
          (marks_tracked b r w1 es h.notes (flushed r (ap (λ (v : World). v.shelf.told) (sym run.1) ∙ then)) pv),
      subst (λ (v : World). AreKept v h.notes) (sym run.1)
          (act_keeps w1 (Marks pv) h.notes refl (orderly_after w (EndsFlush done now) o may) run.0 ended),
    )
    settled mid (WriteOp span sectors) well run r then = (
      subst (λ (v : World). AreTracked b r v.core es h.notes) (sym run)
          (flushed r (ap (λ (v : World). v.shelf.told) (sym run) ∙ then)),
      subst (λ (v : World). AreKept v h.notes) (sym run) ended,
    )
    settled mid (ReadOp span sectors) well run r then = (
      subst (λ (v : World). AreTracked b r v.core es h.notes) (sym run)
          (flushed r (ap (λ (v : World). v.shelf.told) (sym run) ∙ then)),
      subst (λ (v : World). AreKept v h.notes) (sym run) ended,
    )

    -- with what it came to
    flush_ends : (mid : World) → Runs w1 (flushing done.op done.well) mid
        → AllOrdered b.start (entries_by w1 (flushing done.op done.well) es)
        → HasTracks b mid (entries_by w1 (flushing done.op done.well) es)
    flush_ends mid run ordered =
        let c : HasContents b mid (entries_by w1 (flushing done.op done.well) es) =
        kept.ends None done now whose o t may run ordered h.contents in
        let k = settled mid done.op done.well run c.told c.is in
        record { contents = c; notes = h.notes; tracked = k.0; waited = k.1.waited; lie = k.1.lie }

  -- whichever it is
  ends_tracks : {w mid : World} {es : List ChronicleEntry} (piece : Option ℕ) (done : Done) (now : State)
      → piece ≡ option_map (λ (owner : Owner). owner.piece) (owner_at w.core.pieces.owners done.tag)
      → IsOrderly w
      → IsTold b.start none_coming w es
      → Allowed w (ending piece done now)
      → Runs (after w (ending piece done now)) (settling_of piece done) mid
      → AllOrdered b.start (entries_by (after w (ending piece done now)) (settling_of piece done) es)
      → HasTracks b w es
      → HasTracks b mid (entries_by (after w (ending piece done now)) (settling_of piece done) es)
  ends_tracks (Some number) done now whose o t may run ordered h = piece_ends number done now whose o t may run ordered h
  ends_tracks {w} {mid} None done now whose o t may run ordered h = flush_ends done now whose o t may h mid run ordered

  -- ---- more is ready, or spare

  -- what is spare isn't looked at
  grows_tracks : {w v : World} {es : List ChronicleEntry} → IsOrderly w → IsGrown w v → HasTracks b w es → HasTracks b v es
  grows_tracks {w} {v} {es} o grows h =
      let c : HasContents b v es = kept.grows o grows h.contents in
      record {
        contents = c;
        notes = h.notes;
        tracked =
            told_same b h.contents.told c.told v.shelf.told v.core es h.notes (ap (λ (s : State). s.told) grows.shelf ∙ h.contents.is)
            c.is (grows_tracked b h.contents.told w es h.notes h.tracked v grows);
        waited = waited_act w (Grows v) o grows refl no_one h.notes h.waited;
        lie = lie_act w (Grows v) h.notes grows h.lie;
      }

  -- nor what is ready
  readies_tracks : {w : World} {es : List ChronicleEntry} (now : State) → IsOrderly w → Allowed w (Readies now) → HasTracks b w es
      → HasTracks b (after w (Readies now)) es
  readies_tracks {w} {es} now o may h =
      let c : HasContents b (after w (Readies now)) es = kept.readies now o may h.contents in
      record {
        contents = c;
        notes = h.notes;
        tracked =
            told_same b h.contents.told c.told now.told w.core es h.notes (ap (λ (s : State). s.told) may.0.same ∙ h.contents.is) c.is
            h.tracked;
        waited = h.waited;
        lie = lie_act w (Readies now) h.notes may h.lie;
      }

  -- ---- all of it

  -- each act keeps what is tracked, and while a line is prepared it alone is exempt
  pub keeps_tracks : KeepsAlso b.start (λ line. HasTracksBut line b) (HasTracks b)
  keeps_tracks = record {
    goes = goes_tracks;
    readies_line = prepares_tracks;
    begins = begins_tracks;
    prepared = λ line o t awaits h. prepared_tracks line o awaits h;
    ends = ends_tracks;
    grows = λ o grows h. grows_tracks o grows h;
    readies = λ now o may h. readies_tracks now o may h;
  }
