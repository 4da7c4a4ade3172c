-- An operation has completed, and what it came to is settled: what is known of causes then.
use Rattle.std.proofs.Common.{◌≡◌, ℕ, Bool, true, false, List, [], ◌∷◌, ◌++◌, Some, option_map, inr, refl, sym, ap, subst, ◌∙◌}
use Rattle.std.proofs.lemmas.Option.{same_Some}
use Rattle.sector_base.specs.declared.places.Piece.{Piece}
use Rattle.sector_base.specs.declared.spans.Span.{Span}
use Rattle.line_answers.specs.declared.answer.Answer.TheVariants as answer
use Rattle.disk_model.specs.Operations.{work_of}
use Rattle.disk_model.specs.State.{State}
use Rattle.disk_model.specs.Steps.{Completed, Reading, Record, Step, Writing, disk_of_work, step_on}
use Rattle.disk_model.specs.declared.ops.Done.{Done}
use Rattle.disk_model.specs.declared.ops.Op.{Op}
use Rattle.disk_model.specs.declared.ops.Op.TheVariants.{Flush as FlushOp, Read as ReadOp, Write as WriteOp}
use Rattle.flush_plan.specs.Plans.{flush_of}
use Rattle.piece_table.specs.declared.live.LivePiece.{LivePiece}
use Rattle.piece_table.specs.declared.live.Owner.{Owner}
use Rattle.piece_table.specs.Pieces.{owner_at}
use Rattle.piece_table.specs.Steps.{live_of}
use Rattle.volume_history.specs.Chronicles.{ChronicleEntry, Origin, has_failed, is_failed_disk}
use Rattle.world_acts.specs.Acts.{Allowed, Ends, EndsFlush, Fails, Marks, Reads, Runs, World, Writes, after, flushing, settling}
use Rattle.world_acts.specs.Orderly.{IsOrderly}
use Rattle.world_acts.specs.Volumes.{span_of}
use Rattle.world_acts.proofs.Orderly.{orderly_after}
use Rattle.world_history.specs.Causes.{IsBadRead}
use Rattle.world_history.specs.Contents.{origin_with}
use Rattle.world_history.specs.Entries.{entries_by, entries_of}
use Rattle.world_history.specs.Told.{IsTold, none_coming}
use Rattle.world_history.proofs.ShortActs.{end_flush_told, end_told, mark_told}
use Rattle.world_history.proofs.Contents.EndedWorld.{is_written, was_read}
use Rattle.world_tracks.proofs.EndedFacts.{EndedBy, ended_by, live_ended, no_flush}
use Rattle.world_tracks.proofs.ActWaits.{HasFree, started}
use Rattle.world_history.proofs.EndedFlush.{WasFlush, was_flush}
use Rattle.world_tracks.proofs.Causes.Acts.{ends_go, reads_go}
use Rattle.world_tracks.proofs.Causes.Ending.{ends_flush_go, flush_failed, marks_go}
use Rattle.world_tracks.proofs.Causes.PieceFailing.{WasBadRead, place_in, span_counts, started_placed}
use Rattle.world_tracks.proofs.Causes.Since.{fails_on, now_in, now_steps, since_now, steps_since, write_fails}
use Rattle.world_tracks.proofs.Causes.Writing.{writes_go}
use Rattle.world_tracks.proofs.Causes.Carried.{HasCauses, acted, fails_causes, moment, now, upto}

module _ (b : Origin) where
  -- ---- an operation of a piece has completed

  module _ {w : World} {es : List ChronicleEntry} (o : IsOrderly w) (t : IsTold b.start none_coming w es) (h : HasCauses b w es)
      (done : Done) (s : State) (may : Allowed w (Ends done s)) (number : ℕ)
      (whose : Some number ≡ option_map (λ (owner : Owner). owner.piece) (owner_at w.core.pieces.owners done.tag)) where
    abbrev w1 : World
    w1 = after w (Ends done s)

    x : EndedBy w es h.told done s number
    x = ended_by b.start o t h.told done s may number whose

    abbrev step : Step
    step = Completed done.tag (work_of done.op) done.well may.0.told.0

    o1 : IsOrderly w1
    o1 = orderly_after w (Ends done s) o may

    t1 : IsTold b.start none_coming w1 es
    t1 = end_told t o done s may

    h1 : HasCauses b w1 es
    h1 =
        acted b o t h (Ends done s) es (step_on step h.told) may (may.0.told.1 ∙ ap (option_map (step_on step)) h.is)
        (ends_go (now b o t h) o t h.knows (origin_with b (step_on step h.told)) done s (inr (step, refl)) may)

    -- what is told then is one step more
    one_more : h1.told ≡ step_on step h.told
    one_more = same_Some h1.told (step_on step h.told) (sym h1.is ∙ may.0.told.1 ∙ ap (option_map (step_on step)) h.is)

    -- its piece is at the same place
    same_piece : (live_of w1.core.pieces number).piece ≡ x.piece.live.piece
    same_piece = ap (λ (l : LivePiece). l.piece) (live_ended o may x)

    write_ends : (span : Span) (sectors : List (List ℕ)) → done.op ≡ WriteOp span sectors → span ≡ span_of w.core.volumes x.piece.live.piece
    write_ends span sectors op = (is_written x.piece span sectors (ap work_of op)).span_is

    written_causes : (span : Span) (sectors : List (List ℕ)) → done.op ≡ WriteOp span sectors
        → (allowed : Allowed w1 (Writes number span.pv))
        → HasCauses b (after w1 (Writes number span.pv)) (entries_of w1 (Writes number span.pv) ++ es)
    written_causes span sectors op allowed =
        acted b o1 t1 h1 (Writes number span.pv) (entries_of w1 (Writes number span.pv) ++ es) h1.told allowed h1.is
        (writes_go (now b o1 t1 h1) w1 es o1 h1.volumes (moment b o1 t1 h1) number span.pv allowed
        (ap (λ (p : Piece). (span_of w.core.volumes p).pv) same_piece ∙ ap (λ (y : Span). y.pv) (sym (write_ends span sectors op))))

    -- its disk has failed, where it ended badly
    write_lost : (span : Span) (sectors : List (List ℕ)) → done.op ≡ WriteOp span sectors → done.well ≡ false
        → is_failed_disk (now b o1 t1 h1) (now_in (now b o1 t1 h1)) span.pv ≡ true
    write_lost span sectors op bad =
        subst (λ (r : Record). is_failed_disk (origin_with b r) (now_in (origin_with b r)) span.pv ≡ true) (sym one_more)
        (since_now (fails_on span.pv) step (now b o t h) b.start (upto b o t h).1
        (subst (λ (z : Op). has_failed (Completed done.tag (work_of z) done.well may.0.told.0 ∷ steps) span.pv ≡ true) (sym op)
        (subst (λ (well : Bool). has_failed (Completed done.tag (Writing span sectors) well may.0.told.0 ∷ steps) span.pv ≡ true) (sym bad)
        (write_fails done.tag span sectors may.0.told.0 steps))))
      where
        steps : List Step
        steps = steps_since (now b o t h) b.start

    lost_causes : (span : Span) (sectors : List (List ℕ)) → done.op ≡ WriteOp span sectors → done.well ≡ false
        → (marks : Allowed w1 (Marks span.pv))
        → (fails : Allowed (after w1 (Marks span.pv)) (Fails number (answer.PvFailed span.pv)))
        → HasCauses b (after (after w1 (Marks span.pv)) (Fails number (answer.PvFailed span.pv)))
        (entries_of (after w1 (Marks span.pv)) (Fails number (answer.PvFailed span.pv)) ++ es)
    lost_causes span sectors op bad marks fails =
        let w2 : World = after w1 (Marks span.pv) in
        let h2 : HasCauses b w2 es =
        acted b o1 t1 h1 (Marks span.pv) es h1.told marks h1.is
        (marks_go (now b o1 t1 h1) w1.core es span.pv (write_lost span sectors op bad)) in
        fails_causes b (orderly_after w1 (Marks span.pv) o1 marks) (mark_told t1 span.pv) h2 number (answer.PvFailed span.pv) fails tt

    read_causes : (sectors : List (List ℕ)) → (allowed : Allowed w1 (Reads number sectors))
        → HasCauses b (after w1 (Reads number sectors)) (entries_of w1 (Reads number sectors) ++ es)
    read_causes sectors allowed =
        acted b o1 t1 h1 (Reads number sectors) (entries_of w1 (Reads number sectors) ++ es) h1.told allowed h1.is
        (reads_go (now b o1 t1 h1) o1 t1 h1.knows number sectors allowed)

    -- the bad end of its read is the newest step
    bad_read : (span : Span) (sectors : List (List ℕ)) → done.op ≡ ReadOp span sectors → done.well ≡ false
        → (allowed : Allowed w1 (Fails number (answer.ReadFailed span.pv)))
        → WasBadRead (now b o1 t1 h1) w1 number (answer.ReadFailed span.pv)
    bad_read span sectors op bad allowed =
        let piece : Piece = (live_of w1.core.pieces number).piece in
        let own : Span = span_of w1.core.volumes piece in
        let f : HasFree w1 number = started w1 number o1 allowed.0 in
        let many : own.count ≡ piece.count = span_counts b w1 o1 h1.volumes piece (started_placed b w1 o1 h1.volumes number f) in
        let is : span ≡ own = (was_read x.piece span (ap work_of op)).span_is ∙ ap (span_of w.core.volumes) (sym same_piece) in
        subst (IsBadRead (place_in own) piece.count) (sym (now_steps (now b o1 t1 h1)))
        (subst (λ (r : Record). IsBadRead (place_in own) piece.count r.steps) (sym one_more)
        (subst (λ (z : Op). IsBadRead (place_in own) piece.count (Completed done.tag (work_of z) done.well may.0.told.0 ∷ h.told.steps))
        (sym op)
        (subst (λ (well : Bool). IsBadRead (place_in own) piece.count (Completed done.tag (Reading span) well may.0.told.0 ∷ h.told.steps))
        (sym bad) (is ∙ ap (λ (k : ℕ). record { pv = own.pv; first = own.first; count = k }) many))))

    pub piece_causes : (mid : World) → Runs w1 (settling number done.op done.well) mid
        → HasCauses b mid (entries_by w1 (settling number done.op done.well) es)
    piece_causes mid = by done.op done.well refl refl
      where
        by : (op : Op) (well : Bool) → done.op ≡ op → done.well ≡ well → Runs w1 (settling number op well) mid
            → HasCauses b mid (entries_by w1 (settling number op well) es)
        by (WriteOp span sectors) true is good run =
            subst (λ (v : World). HasCauses b v (entries_by w1 (Writes number span.pv ∷ []) es)) (sym run.1)
            (written_causes span sectors is run.0)
        by (WriteOp span sectors) false is bad run =
            subst (λ (v : World). HasCauses b v (entries_by w1 (Marks span.pv ∷ Fails number (answer.PvFailed span.pv) ∷ []) es))
            (sym run.1.1) (lost_causes span sectors is bad run.0 run.1.0)
        by (ReadOp span sectors) true is good run =
            subst (λ (v : World). HasCauses b v (entries_by w1 (Reads number sectors ∷ []) es)) (sym run.1) (read_causes sectors run.0)
        by (ReadOp span sectors) false is bad run =
            subst (λ (v : World). HasCauses b v (entries_by w1 (Fails number (answer.ReadFailed span.pv) ∷ []) es)) (sym run.1)
            (fails_causes b o1 t1 h1 number (answer.ReadFailed span.pv) run.0 (bad_read span sectors is bad run.0))
        by (FlushOp pv) well is done run = absurd (no_flush o may x pv is)

  -- ---- a flush has ended

  module _ {w : World} {es : List ChronicleEntry} (o : IsOrderly w) (t : IsTold b.start none_coming w es) (h : HasCauses b w es)
      (done : Done) (s : State) (may : Allowed w (EndsFlush done s)) where
    abbrev v1 : World
    v1 = after w (EndsFlush done s)

    abbrev ended : Record
    ended = step_on (Completed done.tag (work_of done.op) done.well may.0.told.0) h.told

    f : WasFlush w done
    f = was_flush w done s o may

    g1 : HasCauses b v1 es
    g1 =
        acted b o t h (EndsFlush done s) es ended may
        (may.0.told.1 ∙ ap (option_map (step_on (Completed done.tag (work_of done.op) done.well may.0.told.0))) h.is)
        (ends_flush_go (now b o t h) w es o done s may (upto b o t h).1)

    ended_told : g1.told ≡ ended
    ended_told =
        same_Some g1.told ended
        (sym g1.is ∙ may.0.told.1 ∙ ap (option_map (step_on (Completed done.tag (work_of done.op) done.well may.0.told.0))) h.is)

    -- it is of the disk that the operation names
    its_disk : (pv : ℕ) → done.op ≡ FlushOp pv → (flush_of w.core.waits.plan done.tag).pv ≡ pv
    its_disk pv op = f.its ∙ ap disk_of_work (sym f.does ∙ ap work_of op)

    marks_causes : (pv : ℕ) → done.op ≡ FlushOp pv → done.well ≡ false → Allowed v1 (Marks pv) → HasCauses b (after v1 (Marks pv)) es
    marks_causes pv op bad allowed =
        let o1 : IsOrderly v1 = orderly_after w (EndsFlush done s) o may in
        let t1 : IsTold b.start none_coming v1 es = end_flush_told t done s may in
        acted b o1 t1 g1 (Marks pv) es g1.told allowed g1.is
        (marks_go (now b o1 t1 g1) v1.core es pv
        (subst (λ (r : Record). is_failed_disk (origin_with b r) (now_in (origin_with b r)) pv ≡ true) (sym ended_told)
        (subst (λ (q : ℕ). is_failed_disk (origin_with b ended) (now_in (origin_with b ended)) q ≡ true) (its_disk pv op)
        (flush_failed (now b o t h) w es o done s may (upto b o t h).1 bad b.start (upto b o t h).1))))

    pub flush_causes : (mid : World) → Runs v1 (flushing done.op done.well) mid
        → HasCauses b mid (entries_by v1 (flushing done.op done.well) es)
    flush_causes mid = by done.op done.well refl refl
      where
        by : (op : Op) (well : Bool) → done.op ≡ op → done.well ≡ well → Runs v1 (flushing op well) mid
            → HasCauses b mid (entries_by v1 (flushing op well) es)
        by (FlushOp pv) true is good run = subst (λ (v : World). HasCauses b v es) (sym run) g1
        by (FlushOp pv) false is bad run = subst (λ (v : World). HasCauses b v es) (sym run.1) (marks_causes pv is bad run.0)
        by (WriteOp span sectors) well is done run = subst (λ (v : World). HasCauses b v es) (sym run) g1
        by (ReadOp span sectors) well is done run = subst (λ (v : World). HasCauses b v es) (sym run) g1
