-- Acts keep the moments before now, and the sectors beside all places.
use Rattle.std.proofs.Common.{◌≡◌, ℕ, Bool, true, false, if◌then◌else◌, List, [], ◌∷◌, ◌++◌, length, Option, None, Some, IfSome, is_none}
use Rattle.std.proofs.Common.{option_map, unwrap_or, ◌&&◌, refl, sym, ap, subst, ◌∙◌, true≢false}
use Rattle.std.specs.List.{AllByRecursion as Each}
use Rattle.std.proofs.lemmas.Option.{same_Some}
use Rattle.sector_base.specs.Spans.{covers}
use Rattle.sector_base.specs.declared.spans.Span.{Span}
use Rattle.lvm_script.specs.declared.line.Line.{Line}
use Rattle.data_lines.specs.DataLines.{runs_beside}
use Rattle.disk_model.specs.Calls.{Completes}
use Rattle.disk_model.specs.Durability.{IsBase}
use Rattle.disk_model.specs.Brought.{brings, writes}
use Rattle.disk_model.specs.Operations.{work_of}
use Rattle.disk_model.specs.State.{IsLawful, State}
use Rattle.disk_model.specs.Steps.{Completed, Flushing, Image, Reading, Record, Step, Submitted, Work, Writing, step_on}
use Rattle.disk_model.specs.declared.ops.Done.{Done}
use Rattle.disk_model.specs.declared.ops.Op.{Op}
use Rattle.disk_model.specs.declared.ops.Op.TheVariants.{Flush as FlushOp, Read as ReadOp, Write as WriteOp}
use Rattle.vg_scan.specs.Versions.{Version}
use Rattle.piece_table.specs.declared.live.LivePiece.{LivePiece}
use Rattle.piece_table.specs.declared.live.Stage.TheVariants.{Waiting as Unsubmitted}
use Rattle.piece_table.specs.Steps.{live_of, no_live}
use Rattle.volume_history.proofs.Phases.{AllAt}
use Rattle.volume_history.specs.Candidates.{IsConsistentNow}
use Rattle.volume_history.specs.Chronicles.{AreUpto, ChronicleEntry, Origin, Took}
use Rattle.volume_history.specs.Runs.{zero_piece}
use Rattle.world_acts.specs.declared.open_line.OpenLine.{OpenLine}
use Rattle.world_acts.specs.Acts.{Act, Allowed, Answers, Asks, AsksFlush, Begins, Ends, EndsFlush, Fails, Grows, Passes, Readies, Reads}
use Rattle.world_acts.specs.Acts.{Runs, World, Writes, after, flushing, opens_event, settling}
use Rattle.world_acts.specs.OpenLines.{is_whole, open_of}
use Rattle.world_acts.specs.Orderly.{IsOrderly}
use Rattle.world_acts.specs.Owners.{line_of, piece_work, values_of}
use Rattle.world_acts.specs.Volumes.{IsPlaced, span_of}
use Rattle.world_acts.proofs.PiecesKept.{start_waits, waiting_at}
use Rattle.world_acts.proofs.Tables.{at_number}
use Rattle.io_core.specs.Events.{ending, settling_of}
use Rattle.world_history.specs.Contents.{origin_with}
use Rattle.world_history.specs.Entries.{answered, entries_by, entries_of}
use Rattle.world_history.specs.Shown.{AreOfVersion, StandsIn}
use Rattle.world_history.proofs.Contents.Keeps.{told_steps}
use Rattle.world_history.proofs.Contents.Standing.{stands_in}
use Rattle.world_tracks.specs.Moments.{AreBeside, ArePast, HasMoments, IsBesideAll}
use Rattle.world_tracks.proofs.BesideKept.{beside_step, spans_places}
use Rattle.world_tracks.proofs.PastMoments.{past_entries, past_step}

-- ---- acts that tell nothing

-- whether it is one, and begins no line
abbrev pub is_still : Act → Bool
is_still (Begins line opened) = false
is_still (Asks number op tag now) = false
is_still (AsksFlush pv tag now) = false
is_still (Ends done now) = false
is_still (EndsFlush done now) = false
is_still (Readies now) = false
is_still (Grows v) = false
is_still a = true

pub still_shelf : (w : World) (a : Act) → is_still a ≡ true → (after w a).shelf ≡ w.shelf
still_shelf w (Begins line opened) is = absurd (true≢false (sym is))
still_shelf w (Asks number op tag now) is = absurd (true≢false (sym is))
still_shelf w (AsksFlush pv tag now) is = absurd (true≢false (sym is))
still_shelf w (Ends done now) is = absurd (true≢false (sym is))
still_shelf w (EndsFlush done now) is = absurd (true≢false (sym is))
still_shelf w (Readies now) is = absurd (true≢false (sym is))
still_shelf w (Grows v) is = absurd (true≢false (sym is))
still_shelf w a is = refl

-- an answer is of now, and begins no line
answered_at : (moment line : ℕ) (opened : OpenLine) → AllAt moment (answered moment line opened)
answered_at moment line opened = (refl, by (is_whole opened.work && is_none opened.failure)) where
  by : (b : Bool) → AllAt moment (if b then Took moment line (zero_piece opened.key) ∷ [] else [])
  by true = (refl, tt)
  by false = tt

answered_beside : (moment line : ℕ) (opened : OpenLine) (es : List ChronicleEntry) → AreBeside es
    → AreBeside (answered moment line opened ++ es)
answered_beside moment line opened es are = by (is_whole opened.work && is_none opened.failure) where
  by : (b : Bool) → AreBeside ((if b then Took moment line (zero_piece opened.key) ∷ [] else []) ++ es)
  by true = are
  by false = are

-- what acts add is of now
pub entries_at : (w : World) (a : Act) → AllAt w.shelf.steps (entries_of w a)
entries_at w (Begins line opened) = (refl, tt)
entries_at w (Answers line) = answered_at w.shelf.steps line (open_of w.core.opens line)
entries_at w (Passes line) = answered_at w.shelf.steps line (open_of w.core.opens line)
entries_at w (Fails number why) = (refl, tt)
entries_at w (Writes number pv) = (refl, tt)
entries_at w (Reads number sectors) = (refl, tt)
entries_at w a = tt

pub entries_beside : (w : World) (a : Act) (es : List ChronicleEntry) → is_still a ≡ true → AreBeside es
    → AreBeside (entries_of w a ++ es)
entries_beside w (Begins line opened) es is are = absurd (true≢false (sym is))
entries_beside w (Answers line) es is are = answered_beside w.shelf.steps line (open_of w.core.opens line) es are
entries_beside w (Passes line) es is are = answered_beside w.shelf.steps line (open_of w.core.opens line) es are
entries_beside w (Fails number why) es is are = are
entries_beside w (Writes number pv) es is are = are
entries_beside w (Reads number sectors) es is are = are
entries_beside w a es is are = are

module _ (o : Origin) (base : Image) (told : Record) where
  -- such an act
  pub still_moments : (w : World) (a : Act) (es : List ChronicleEntry) → is_still a ≡ true → w.shelf.steps ≡ length told.steps
      → HasMoments o base told es → HasMoments o base told (entries_of w a ++ es)
  still_moments w a es is steps h = record {
    beside = h.beside;
    past = past_entries o told (entries_of w a) es (subst (λ (n : ℕ). AllAt n (entries_of w a)) steps (entries_at w a)) h.past;
    lines = entries_beside w a es is h.lines;
  }

  -- several
  pub still_all : (acts : List Act) (w : World) (es : List ChronicleEntry) → Each (λ (a : Act). is_still a ≡ true) acts
      → w.shelf.steps ≡ length told.steps → HasMoments o base told es → HasMoments o base told (entries_by w acts es)
  still_all [] w es all steps h = h
  still_all (a ∷ acts) w es all steps h =
      still_all acts (after w a) (entries_of w a ++ es) all.1 (ap (λ (s : State). s.steps) (still_shelf w a all.0) ∙ steps)
      (still_moments w a es all.0 steps h)

  -- a line that runs beside others is begun
  pub begins_moments : (w : World) (line : Line) (opened : OpenLine) (es : List ChronicleEntry) → runs_beside line.command ≡ true
      → w.shelf.steps ≡ length told.steps → HasMoments o base told es → HasMoments o base told (entries_of w (Begins line opened) ++ es)
  begins_moments w line opened es beside steps h = record {
    beside = h.beside;
    past =
        past_entries o told (entries_of w (Begins line opened)) es
        (subst (λ (n : ℕ). AllAt n (entries_of w (Begins line opened))) steps (entries_at w (Begins line opened))) h.past;
    lines = (beside, h.lines);
  }

  -- a step is told that brings nothing beside all places, and before which now was consistent
  pub step_moments : (step : Step) (es : List ChronicleEntry)
      → ((disk sector : ℕ) → IsBesideAll o.version disk sector → brings step disk sector ≡ false) → AreUpto (length told.steps) es
      → IsConsistentNow (record { origin = origin_with o told; entries = es }) → HasMoments o base told es
      → HasMoments o base (step_on step told) es
  step_moments step es none upto now h = record {
    beside = beside_step o.version base told h.beside step none;
    past = past_step o told es upto now h.past step;
    lines = h.lines;
  }

-- at the start
pub opening_moments : (o : Origin) (base : Image) (told : Record) → IsBase told base → ArePast o told [] → HasMoments o base told []
opening_moments o base told is past = record { beside = λ disk sector out. is disk sector; past = past; lines = tt }

-- nothing is told, and no entry is added
pub same_moments : (o : Origin) (base : Image) (w v : World) (es : List ChronicleEntry) (told told' : Record) → w.shelf.told ≡ Some told
    → v.shelf.told ≡ Some told' → v.shelf.told ≡ w.shelf.told → HasMoments o base told es → HasMoments o base told' es
same_moments o base w v es told told' is is' same h =
    subst (λ (r : Record). HasMoments o base r es) (same_Some told told' (sym is ∙ sym same ∙ is')) h

-- several such acts leave the shelf
pub runs_shelf : (acts : List Act) (w v : World) → Each (λ (a : Act). is_still a ≡ true) acts → Runs w acts v → v.shelf ≡ w.shelf
runs_shelf [] w v all run = ap (λ (x : World). x.shelf) run
runs_shelf (a ∷ acts) w v all run = runs_shelf acts (after w a) v all.1 run.1 ∙ still_shelf w a all.0

-- ---- acts that tell a step

-- what is told after it
told_after : (step : Step) (before now : Option Record) (told told' : Record) → before ≡ Some told → now ≡ Some told'
    → now ≡ option_map (step_on step) before → step_on step told ≡ told'
told_after step before now told told' is is' via =
    same_Some (step_on step told) told' (sym (sym is' ∙ via ∙ ap (option_map (step_on step)) is))

-- the operation of a piece writes at places alone
module _ {w : World} (o : IsOrderly w) (version : Option Version) (of : AreOfVersion w.core.volumes version) where
  pub asks_brings : (number : ℕ) (op : Op) (tag : ℕ) (now : State) → Allowed w (Asks number op tag now) → (disk sector : ℕ)
      → IsBesideAll version disk sector → brings (Submitted tag (work_of op)) disk sector ≡ false
  asks_brings number op tag now may disk sector beside =
      let p = waiting_at w.core.pieces.lives number (start_waits w.core.pieces number may.2) in
      let l : LivePiece = record { line = p.1.line; piece = p.1.piece; stage = Unsubmitted p.0; ticket = p.1.ticket } in
      let is : live_of w.core.pieces number ≡ l = ap (λ (x : Option LivePiece). unwrap_or x no_live) p.1.at in
      let stands : StandsIn version l.piece (span_of w.core.volumes l.piece) =
      stands_in w.core.volumes w.shelf.sizes version o.backed.places.laid of l.piece
      (at_number (λ (x : ℕ × LivePiece). IsPlaced w.core.volumes w.shelf.sizes x.1.piece) w.core.pieces.lives number l
      o.backed.places.placed p.1.at) in
      ap (λ (x : Work). writes x disk sector) (may.3 ∙ ap (piece_work w.core) is)
      ∙ by (span_of w.core.volumes l.piece) (values_of (line_of w.core l) l.piece) l.piece.write
      (spans_places version l.piece (span_of w.core.volumes l.piece) disk sector stands beside)
    where
      by : (span : Span) (values : List (List ℕ)) (write : Bool) → covers span disk sector ≡ false
          → writes (if write then Writing span values else Reading span) disk sector ≡ false
      by span values true none = none
      by span values false none = refl

-- what an end comes to tells nothing
settled_still : (number : ℕ) (op : Op) (well : Bool) → Each (λ (a : Act). is_still a ≡ true) (settling number op well)
settled_still number (WriteOp span sectors) true = (refl, tt)
settled_still number (WriteOp span sectors) false = (refl, (refl, tt))
settled_still number (ReadOp span sectors) true = (refl, tt)
settled_still number (ReadOp span sectors) false = (refl, tt)
settled_still number (FlushOp pv) well = tt

flushed_still : (op : Op) (well : Bool) → Each (λ (a : Act). is_still a ≡ true) (flushing op well)
flushed_still (WriteOp span sectors) well = tt
flushed_still (ReadOp span sectors) well = tt
flushed_still (FlushOp pv) true = tt
flushed_still (FlushOp pv) false = (refl, tt)

pub ended_still : (piece : Option ℕ) (done : Done) → Each (λ (a : Act). is_still a ≡ true) (settling_of piece done)
ended_still None done = flushed_still done.op done.well
ended_still (Some number) done = settled_still number done.op done.well

end_shelf : (w : World) (piece : Option ℕ) (done : Done) (next : State) → (after w (ending piece done next)).shelf ≡ next
end_shelf w None done next = refl
end_shelf w (Some number) done next = refl

end_may : (w : World) (piece : Option ℕ) (done : Done) (next : State) → Allowed w (ending piece done next)
    → Completes w.shelf done next × IsLawful next
end_may w None done next may = (may.0, may.1)
end_may w (Some number) done next may = (may.0, may.1)

-- what is told by then, where now was consistent
module _ (o : Origin) (base : Image) (w : World) (es : List ChronicleEntry) (told told' : Record) (is : w.shelf.told ≡ Some told)
    (upto : AreUpto (length told.steps) es) (now : IsConsistentNow (record { origin = origin_with o told; entries = es }))
    (h : HasMoments o base told es) where
  stepped : (step : Step) (next : Option Record) → next ≡ Some told' → next ≡ option_map (step_on step) w.shelf.told
      → ((disk sector : ℕ) → IsBesideAll o.version disk sector → brings step disk sector ≡ false) → HasMoments o base told' es
  stepped step next is' via none =
      subst (λ (r : Record). HasMoments o base r es) (told_after step w.shelf.told next told told' is is' via)
      (step_moments o base told step es none upto now h)

  -- an act that carries on
  pub goes_moments : (a : Act) → opens_event a ≡ false → IsOrderly w → AreOfVersion w.core.volumes o.version → Allowed w a
      → (after w a).shelf.told ≡ Some told' → HasMoments o base told' (entries_of w a ++ es)
  goes_moments a carries orderly of may is' = by a carries may is' where
    steps : w.shelf.steps ≡ length told.steps
    steps = told_steps orderly told is

    still : (a : Act) → is_still a ≡ true → (after w a).shelf.told ≡ Some told' → HasMoments o base told' (entries_of w a ++ es)
    still a quiet is' =
        subst (λ (r : Record). HasMoments o base r (entries_of w a ++ es))
        (same_Some told told' (sym is ∙ sym (ap (λ (s : State). s.told) (still_shelf w a quiet)) ∙ is'))
        (still_moments o base told w a es quiet steps h)

    by : (a : Act) → opens_event a ≡ false → Allowed w a → (after w a).shelf.told ≡ Some told'
        → HasMoments o base told' (entries_of w a ++ es)
    by (Asks number op tag next) carries may is' =
        stepped (Submitted tag (work_of op)) next.told is' may.0.told (asks_brings orderly o.version of number op tag next may)
    by (AsksFlush pv tag next) carries may is' =
        stepped (Submitted tag (Flushing pv)) next.told is' may.0.told (λ disk sector beside. refl)
    by (Begins line opened) carries may is' = absurd (true≢false carries)
    by (Ends done next) carries may is' = absurd (true≢false carries)
    by (EndsFlush done next) carries may is' = absurd (true≢false carries)
    by (Readies next) carries may is' = absurd (true≢false carries)
    by (Grows v) carries may is' = absurd (true≢false carries)
    by a carries may is' = still a refl is'

  -- an operation ends, with what that comes to
  pub ends_moments : (piece : Option ℕ) (done : Done) (next : State) → Allowed w (ending piece done next) → (mid : World)
      → Runs (after w (ending piece done next)) (settling_of piece done) mid
      → mid.shelf.told ≡ Some told' → HasMoments o base told' (entries_by (after w (ending piece done next)) (settling_of piece done) es)
  ends_moments piece done next may mid run is' =
      let both = end_may w piece done next may in
      let shelf : mid.shelf ≡ next =
      runs_shelf (settling_of piece done) (after w (ending piece done next)) mid (ended_still piece done) run
      ∙ end_shelf w piece done next in
      let is_next : next.told ≡ Some told' = sym (ap (λ (s : State). s.told) shelf) ∙ is' in
      let lawful : IsLawful next = both.1 in
      let steps : next.steps ≡ length told'.steps =
      subst (λ (x : Option Record). IfSome x (λ (r : Record). next.steps ≡ length r.steps)) is_next lawful.steps in
      let completes : Completes w.shelf done next = both.0 in
      still_all o base told' (settling_of piece done) (after w (ending piece done next)) es (ended_still piece done)
      (ap (λ (s : State). s.steps) (end_shelf w piece done next) ∙ steps)
      (stepped (Completed done.tag (work_of done.op) done.well completes.told.0) next.told is_next completes.told.1
      (λ disk sector beside. refl))
