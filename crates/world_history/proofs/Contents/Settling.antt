-- An operation of a piece has completed: what is told then, and what each of its ends comes to keeps what holds of the contents.
use Rattle.std.proofs.Common.{◌≡◌, ℕ, ◌-◌, Bool, true, false, List, [], ◌∷◌, length, Option, None, Some, IfSome, is_some}
use Rattle.std.proofs.Common.{option_map, unwrap_or, refl, sym, ap, subst, ◌∙◌}
use Rattle.std.proofs.Common.{true≢false, ◌≤◌, ◌<◌, ◌+◌, nat_le, nat_lt, get_or, IsTrue, arith}
use Rattle.std.proofs.lemmas.Bool.{and_parts, cond_both, leb-true, ltb-true}
use Rattle.std.proofs.lemmas.Option.{none-some, same_Some}
use Rattle.std.specs.Option.{option_map_or}
use Rattle.sector_base.specs.declared.spans.Span.{Span}
use Rattle.line_answers.specs.declared.answer.Answer.{Answer}
use Rattle.line_answers.specs.declared.answer.Answer.TheVariants.{PvFailed, ReadFailed}
use Rattle.disk_model.specs.Operations.{work_of}
use Rattle.disk_model.specs.State.{State}
use Rattle.sector_base.specs.Spans.{covers}
use Rattle.data_lines.specs.DataLines.{in_range}
use Rattle.line_table.specs.Machine.{PlainState, sector_of}
use Rattle.disk_model.specs.Reading.{ReadsAll}
use Rattle.disk_model.specs.Steps.{Flushing, Reading, Work as DiskWork, Writing, Completed, Image, Record, Step, step_on, value_at}
use Rattle.disk_model.specs.declared.ops.Done.{Done}
use Rattle.disk_model.specs.declared.ops.Op.{Op}
use Rattle.disk_model.specs.declared.ops.Op.TheVariants.{Flush as FlushOp, Read as ReadOp, Write as WriteOp}
use Rattle.piece_table.specs.declared.live.LivePiece.{LivePiece}
use Rattle.piece_table.specs.declared.live.Owner.{Owner}
use Rattle.piece_table.specs.Pieces.{live_at, owner_at}
use Rattle.piece_table.specs.Steps.{after_lands, live_of, no_live, with_flying}
use Rattle.volume_history.specs.Chronicles.{ChronicleEntry, Failed, Origin, Took, origin_on}
use Rattle.volume_history.specs.Changing.{HaveOwnNames}
use Rattle.volume_history.specs.Laws.{HistoriesGrow}
use Rattle.volume_history.specs.Legal.{AllOrdered}
use Rattle.volume_history.specs.Placed.{volumes_of}
use Rattle.volume_history.specs.Replay.{plain_state}
use Rattle.world_acts.specs.Acts.{settling, Allowed, Ends, Fails, IsPartOf, Marks, Reads, Runs, World, Writes, after, piece_at}
use Rattle.world_acts.specs.Orderly.{IsOrderly}
use Rattle.world_acts.specs.Owners.{line_of, values_of}
use Rattle.world_acts.specs.Volumes.{IsPlaced, span_of}
use Rattle.world_acts.proofs.Orderly.{orderly_after}
use Rattle.world_acts.proofs.PiecesKept.{piece_replaced, with_piece}
use Rattle.world_acts.proofs.Tables.{at_number, own_at}
use Rattle.world_history.specs.Entries.{entries_by}
use Rattle.world_history.specs.Told.{IsTold, none_coming}
use Rattle.flush_plan.specs.Plans.{marks_of}
use Rattle.world_acts.specs.declared.state.Core.{Core}
use Rattle.world_acts.specs.Steps.{after_leaves, after_stays, after_written}
use Rattle.world_acts.specs.declared.open_line.OpenLine.{OpenLine}
use Rattle.world_acts.specs.declared.open_line.Work.{Work}
use Rattle.world_acts.specs.declared.open_line.Work.TheVariants.{Read, Whole, Write}
use Rattle.world_acts.specs.declared.volumes.Volumes.{Volumes}
use Rattle.world_acts.specs.OpenLines.{Opens, after_failure, after_filled, after_finished, filled, open_at}
use Rattle.world_acts.proofs.Lasting.{lasts_act}
use Rattle.world_acts.proofs.LinesKept.{line_failed}
use Rattle.io_core.specs.Rest.{SameLines}
use Rattle.io_core.proofs.LineKinds.{same_both, same_failed, same_finished, same_lines}
use Rattle.world_history.proofs.Contents.EndedWorld.{IsWritten, WasRead, is_written, was_read}
use Rattle.world_history.proofs.Contents.Lines.{brought_beside, brought_entry, brought_on, brought_same}
use Rattle.world_history.specs.Alone.{AreAlone}
use Rattle.world_history.specs.Apart.{AreApart}
use Rattle.world_history.specs.Contents.{AllBrought, HasBrought, HasContents, origin_with}
use Rattle.world_history.specs.Shown.{AreOfVersion, Shows, StandsIn, now_of, shown_state}
use Rattle.world_history.proofs.Contents.AloneSteps.{alone_ends, read_whole}
use Rattle.world_history.proofs.Contents.Brought.{read_piece}
use Rattle.world_history.proofs.Contents.Put.{is_put}
use Rattle.world_history.proofs.Contents.Entered.{shows_step}
use Rattle.world_history.proofs.Contents.Landing.{shows_read, shows_unread}
use Rattle.world_history.proofs.Contents.Spans.{read_each}
use Rattle.world_history.proofs.OneLine.{LineIs, Standing, elsewhere, here, is_filled, is_finished, lines_both, standing}
use Rattle.world_history.proofs.Contents.ClaimsApart.{apart_act}
use Rattle.world_history.proofs.Contents.EndedPiece.{EndedPiece, ended_piece}
use Rattle.world_history.proofs.Contents.EndedWrite.{PlacesDiffer, write_failed, write_took}
use Rattle.world_history.proofs.Contents.Keyed.{places_differ, places_of_key}
use Rattle.world_history.proofs.Contents.Standing.{stands_in}

-- a line fails, and has one thing less left: it is of the same kind
pub failed_same : (opens : Opens) (n : ℕ) (opened : OpenLine) (why : Answer) → open_at opens n ≡ Some opened
    → SameLines opens (after_finished (after_failure opens n why) n)
failed_same opens n opened why at =
    let p = (line_failed opens n opened why at).lines n opened at in
    same_both opens (after_failure opens n why) (after_finished (after_failure opens n why) n) (same_failed opens n opened why at)
    (same_finished (after_failure opens n why) n p.0 p.1)

module _ (grow : HistoriesGrow) (b : Origin) {w : World} {es : List ChronicleEntry} (o : IsOrderly w) (t : IsTold b.start none_coming w es)
    (c : HasContents b w es) (names : HaveOwnNames (volumes_of b.version)) (done : Done) (now : State) (may : Allowed w (Ends done now))
    (number : ℕ) (whose : Some number ≡ option_map (λ (x : Owner). x.piece) (owner_at w.core.pieces.owners done.tag)) where
  abbrev w1 : World
  w1 = after w (Ends done now)

  abbrev e : EndedPiece w es (work_of done.op) number
  e = ended_piece o t done now may.0 number whose

  abbrev step : Step
  step = Completed done.tag (work_of done.op) done.well may.0.told.0

  abbrev told : Record
  told = step_on step c.told

  told_now : now.told ≡ Some told
  told_now = may.0.told.1 ∙ ap (option_map (step_on step)) c.is

  moment : now.steps ≡ length told.steps
  moment = subst (λ (x : Option Record). IfSome x (λ (r : Record). now.steps ≡ length r.steps)) told_now may.1.steps

  alone_now : AreAlone now told
  alone_now = alone_ends w.shelf now done c.told may.0.told.0 may.0 c.holds.alone

  orderly : IsOrderly w1
  orderly = orderly_after w (Ends done now) o may

  apart_now : AreApart w1.core
  apart_now = apart_act w (Ends done now) o may c.holds.apart

  placed : IsPlaced w.core.volumes w.shelf.sizes e.live.piece
  placed =
      at_number (λ (x : ℕ × LivePiece). IsPlaced w.core.volumes w.shelf.sizes x.1.piece) w.core.pieces.lives number e.live
      o.backed.places.placed e.at

  stands : StandsIn b.version e.live.piece (span_of w.core.volumes e.live.piece)
  stands = stands_in w.core.volumes w.shelf.sizes b.version o.backed.places.laid c.holds.volumes e.live.piece placed

  differ : PlacesDiffer b
  differ = places_differ w.core.volumes w.shelf.sizes b.version o.backed.places.laid c.holds.volumes

  -- the piece, of which nothing is in flight any more
  abbrev landed : LivePiece
  landed = record e.live { stage = with_flying e.live.stage (λ n. n - 1) }

  its_number : piece_at w.core done.tag ≡ number
  its_number = by (owner_at w.core.pieces.owners done.tag) whose
    where
      by : (x : Option Owner) → Some number ≡ option_map (λ (y : Owner). y.piece) x → option_map_or (λ (y : Owner). y.piece) x 0 ≡ number
      by None is = absurd (none-some number (sym is))
      by (Some y) is = sym (same_Some number y.piece is)

  abbrev stepped : LivePiece → LivePiece
  stepped x = record x { stage = with_flying x.stage (λ n. n - 1) }

  live_now : live_of w1.core.pieces number ≡ landed
  live_now =
      ap (λ (k : ℕ). live_of (after_lands w.core.pieces done.tag k) number) its_number
      ∙ ap (λ (x : LivePiece). unwrap_or (live_at (with_piece w.core.pieces.lives number (stepped x)) number) no_live)
      (ap (λ (x : Option LivePiece). unwrap_or x no_live) e.at)
      ∙ ap (λ (x : Option LivePiece). unwrap_or x no_live)
      (own_at (piece_replaced w.core.pieces.lives number e.live landed o.tidy.pieces.single e.at))

  -- ---- a write went well

  module _ (span : Span) (sectors : List (List ℕ)) (op : done.op ≡ WriteOp span sectors) where
    written : IsWritten e span sectors
    written = is_written e span sectors (ap work_of op)

    stands_here : StandsIn b.version e.live.piece span
    stands_here = subst (StandsIn b.version e.live.piece) (sym written.span_is) stands

    abbrev took : List ChronicleEntry
    took = Took now.steps e.live.line e.live.piece ∷ es

    wrote_shows : done.well ≡ true → AllOrdered b.start took → Shows (origin_with b told) took
    wrote_shows good ordered =
        subst (λ (x : Op). Shows (origin_on (Completed done.tag (work_of x) done.well may.0.told.0) (origin_with b c.told)) took) (sym op)
        (write_took grow (origin_with b c.told) es done.tag now.steps e.live.line span sectors done.well may.0.told.0 e.live.piece e.line
        e.key c.holds.shows stands_here differ e.begun written.writing written.brings moment good ordered.0)

    -- what is to be brought by a line that writes
    own_brought : (es' : List ChronicleEntry) (x : OpenLine) → open_at w.core.opens e.live.line ≡ Some x
        → HasBrought (origin_with b told) es' w.core.volumes e.live.line x.key x.work
    own_brought es' x at =
        subst (λ (y : Work). HasBrought (origin_with b told) es' w.core.volumes e.live.line x.key y)
        (sym written.works ∙ ap (λ (y : OpenLine). y.work) (same_Some e.opened x (sym e.is_open ∙ at))) tt

    brought_now : AllBrought (origin_with b told) es w
    brought_now =
        brought_on (origin_with b c.told) es step w c.holds.shows.so_far.first c.holds.shows.so_far.upto c.holds.brought

    pub wrote_holds : done.well ≡ true → (mid : World) → Allowed w1 (Writes number span.pv) → mid ≡ after w1 (Writes number span.pv)
        → AllOrdered b.start took
        → HasContents b mid took
    wrote_holds good mid allowed is ordered = subst (λ (x : World). HasContents b x took) (sym is)
        (record {
          told = told;
          is = told_now;
          holds = record {
            shows = wrote_shows good ordered;
            brought =
                brought_same (origin_with b told) took w (after w1 (Writes number span.pv)) kept same
                (brought_entry (origin_with b told) es (Took now.steps e.live.line e.live.piece) w e.live.line (λ q apart. apart)
                (own_brought took) brought_now);
            alone = alone_now;
            apart = apart_act w1 (Writes number span.pv) orderly allowed apart_now;
            volumes = subst (λ (x : Volumes). AreOfVersion x b.version) (sym kept) c.holds.volumes;
          };
        })
      where
        kept : (after w1 (Writes number span.pv)).core.volumes ≡ w.core.volumes
        kept = (lasts_act w1 (Writes number span.pv) allowed).volumes

        line : (live_of w1.core.pieces number).line ≡ e.live.line
        line = ap (λ (x : LivePiece). x.line) live_now

        written_core : Core
        written_core = after_written w1.core number span.pv now.steps

        same : SameLines w.core.opens (after w1 (Writes number span.pv)).core.opens
        same =
            cond_both (is_some (live_of w1.core.pieces number).ticket)
            (after_stays written_core number span.pv (marks_of written_core.waits.plan span.pv).written)
            (after_leaves written_core number span.pv) (λ (x : Core). SameLines w.core.opens x.opens)
            (λ stays. same_lines w.core.opens)
            (λ leaves. subst (λ (n : ℕ). SameLines w.core.opens (after_finished w.core.opens n)) (sym line)
            (same_finished w.core.opens e.live.line e.opened e.is_open))

    -- ---- or badly

    abbrev lost : List ChronicleEntry
    lost = Failed now.steps e.live.line e.live.piece ∷ es

    failed_shows : AllOrdered b.start lost → Shows (origin_with b told) lost
    failed_shows ordered =
        subst (λ (x : Op). Shows (origin_on (Completed done.tag (work_of x) done.well may.0.told.0) (origin_with b c.told)) lost) (sym op)
        (write_failed grow (origin_with b c.told) es done.tag now.steps e.live.line span sectors done.well may.0.told.0 e.live.piece e.line
        e.key c.holds.shows stands_here differ e.begun written.writing written.brings moment
        (places_of_key b.version (now_of c.told) names e.live.piece.volume stands.key) ordered.0)

    pub lost_holds : (mid : World) → Runs w1 (Marks span.pv ∷ Fails number (PvFailed span.pv) ∷ []) mid
        → AllOrdered b.start lost
        → HasContents b mid lost
    lost_holds mid run ordered = subst (λ (x : World). HasContents b x lost) (sym run.1.1)
        (record {
          told = told;
          is = told_now;
          holds = record {
            shows = failed_shows ordered;
            brought =
                brought_same (origin_with b told) lost w w3 refl fails_same
                (brought_entry (origin_with b told) es (Failed now.steps e.live.line e.live.piece) w e.live.line (λ q apart. tt)
                (own_brought lost) brought_now);
            alone = alone_now;
            apart =
                apart_act w2 (Fails number (PvFailed span.pv)) (orderly_after w1 (Marks span.pv) orderly run.0) run.1.0
                (apart_act w1 (Marks span.pv) orderly run.0 apart_now);
            volumes = c.holds.volumes;
          };
        })
      where
        w2 : World
        w2 = after w1 (Marks span.pv)

        w3 : World
        w3 = after w2 (Fails number (PvFailed span.pv))

        line : (live_of w1.core.pieces number).line ≡ e.live.line
        line = ap (λ (x : LivePiece). x.line) live_now

        fails_same : SameLines w.core.opens w3.core.opens
        fails_same =
            subst (λ (n : ℕ). SameLines w.core.opens (after_finished (after_failure w.core.opens n (PvFailed span.pv)) n)) (sym line)
            (failed_same w.core.opens e.live.line e.opened (PvFailed span.pv) e.is_open)

  -- ---- a read ended

  module _ (span : Span) (sectors : List (List ℕ)) (op : done.op ≡ ReadOp span sectors) where
    read : WasRead e span
    read = was_read e span (ap work_of op)

    reads_here : StandsIn b.version e.live.piece span
    reads_here = subst (StandsIn b.version e.live.piece) (sym read.span_is) stands

    -- it leaves what a read gives
    still : now_of told ≡ now_of c.told
    still = ap (λ (x : Op). now_of (step_on (Completed done.tag (work_of x) done.well may.0.told.0) c.told)) op

    shows_now : Shows (origin_with b told) es
    shows_now = shows_step grow (origin_with b c.told) es step still c.holds.shows

    brought_on_now : AllBrought (origin_with b told) es w
    brought_on_now =
        brought_on (origin_with b c.told) es step w c.holds.shows.so_far.first c.holds.shows.so_far.upto c.holds.brought

    -- badly
    abbrev unread : List ChronicleEntry
    unread = Failed now.steps e.live.line e.live.piece ∷ es

    pub unread_holds : (mid : World) → Runs w1 (Fails number (ReadFailed span.pv) ∷ []) mid
        → AllOrdered b.start unread
        → HasContents b mid unread
    unread_holds mid run ordered = subst (λ (x : World). HasContents b x unread) (sym run.1)
        (record {
          told = told;
          is = told_now;
          holds = record {
            shows =
                shows_unread grow (origin_with b told) es now.steps e.live.line e.line e.key e.live.piece shows_now.so_far e.begun moment
                shows_now.machine read.reading ordered.0;
            brought =
                brought_same (origin_with b told) unread w (after w1 (Fails number (ReadFailed span.pv))) refl same
                (λ n x at. brought_beside (origin_with b told) es (Failed now.steps e.live.line e.live.piece) w.core.volumes n x.key x.work
                tt (brought_on_now n x at));
            alone = alone_now;
            apart = apart_act w1 (Fails number (ReadFailed span.pv)) orderly run.0 apart_now;
            volumes = c.holds.volumes;
          };
        })
      where
        line : (live_of w1.core.pieces number).line ≡ e.live.line
        line = ap (λ (x : LivePiece). x.line) live_now

        same : SameLines w.core.opens (after w1 (Fails number (ReadFailed span.pv))).core.opens
        same =
            subst (λ (n : ℕ). SameLines w.core.opens (after_finished (after_failure w.core.opens n (ReadFailed span.pv)) n)) (sym line)
            (failed_same w.core.opens e.live.line e.opened (ReadFailed span.pv) e.is_open)

    -- well: its sectors are what the machine has
    module _ (good : done.well ≡ true) (many : length sectors ≡ e.live.piece.count) where
      given : (pv sector : ℕ) → IsTrue (covers span pv sector) → value_at span sectors sector ≡ now_of told pv sector
      given pv sector is =
          subst (λ (x : Op). ReadsAll c.told x true) op
          (subst (ReadsAll c.told done.op) good (read_whole w.shelf now done c.told o.backed.lawful c.is may.0 c.holds.alone)) pv sector is
          ∙ ap (λ (i : Image). i pv sector) (sym still)

      has_now : (x : ℕ) → in_range e.live.piece.first e.live.piece.count x ≡ true
          → get_or sectors (x - e.live.piece.first) [] ≡ sector_of (plain_state (origin_with b told) es) e.opened.key x
      has_now x is =
          let p = and_parts (nat_le e.live.piece.first x) (nat_lt x (e.live.piece.first + e.live.piece.count)) is in
          let from : e.live.piece.first ≤ x = leb-true e.live.piece.first x p.0 in
          let below : x < e.live.piece.first + e.live.piece.count =
          ltb-true x (e.live.piece.first + e.live.piece.count) p.1 in
          read_each (volumes_of b.version) e.live.piece reads_here.inside span reads_here.there reads_here.many differ sectors (now_of told)
          many given (x - e.live.piece.first) (omega (arith, from, below))
          ∙ ap (λ (k : ℕ). sector_of (shown_state b.version (now_of told)) e.live.piece.volume k) (omega (arith, from))
          ∙ ap (λ (k : ℕ). sector_of (shown_state b.version (now_of told)) k x) e.own
          ∙ ap (λ (s : PlainState). sector_of s e.opened.key x) (sym shows_now.machine)

      abbrev taken : List ChronicleEntry
      taken = Took now.steps e.live.line e.live.piece ∷ es

      filled_brought : (x : Work) → IsPartOf x e.live.piece
          → HasBrought (origin_with b told) es w.core.volumes e.live.line e.opened.key x
          → HasBrought (origin_with b told) taken w.core.volumes e.live.line e.opened.key (filled x e.live.piece.first sectors)
      filled_brought (Read start buffer) part h =
          read_piece now.steps e.live.piece sectors e.own part.1
          (is_put start e.live.piece sectors buffer many part.1 part.2) has_now h
      filled_brought Write part h = tt
      filled_brought (Whole a) part h = absurd part

      pub read_holds : (mid : World) → Runs w1 (Reads number sectors ∷ []) mid → AllOrdered b.start taken → HasContents b mid taken
      read_holds mid run ordered = subst (λ (x : World). HasContents b x taken) (sym run.1)
          (record {
            told = told;
            is = told_now;
            holds = record {
              shows =
                  shows_read grow (origin_with b told) es now.steps e.live.line e.line e.key e.live.piece shows_now.so_far e.begun moment
                  shows_now.machine read.reading ordered.0;
              brought = λ q x at. by q x (standing lines q x at);
              alone = alone_now;
              apart = apart_act w1 (Reads number sectors) orderly run.0 apart_now;
              volumes = c.holds.volumes;
            };
          })
        where
          full : OpenLine
          full = record e.opened { work = filled e.opened.work e.live.piece.first sectors }

          read_into : LivePiece → Opens
          read_into x = after_finished (after_filled w.core.opens x.line x.piece.first sectors) x.line

          fills : LineIs e.live.line (Some full) w.core.opens (after_filled w.core.opens e.live.line e.live.piece.first sectors)
          fills = is_filled w.core.opens e.live.line e.opened e.is_open e.live.piece.first sectors

          lines : LineIs e.live.line (Some (record full { left = full.left - 1 })) w.core.opens
              (after w1 (Reads number sectors)).core.opens
          lines =
              subst (LineIs e.live.line (Some (record full { left = full.left - 1 })) w.core.opens) (sym (ap read_into live_now))
              (lines_both fills
              (is_finished (after_filled w.core.opens e.live.line e.live.piece.first sectors) e.live.line full fills.own))

          by : (q : ℕ) (x : OpenLine) → Standing e.live.line q (Some (record full { left = full.left - 1 })) w.core.opens x
              → HasBrought (origin_with b told) taken w.core.volumes q x.key x.work
          by q x (here same is) =
              subst (λ (k : ℕ). HasBrought (origin_with b told) taken w.core.volumes k x.key x.work) same
              (subst (λ (y : OpenLine). HasBrought (origin_with b told) taken w.core.volumes e.live.line y.key y.work)
              (same_Some (record full { left = full.left - 1 }) x is)
              (filled_brought e.opened.work e.part (brought_on_now e.live.line e.opened e.is_open)))
          by q x (elsewhere apart at) =
              brought_beside (origin_with b told) es (Took now.steps e.live.line e.live.piece) w.core.volumes q x.key x.work apart
              (brought_on_now q x at)

  -- ---- whatever it came to

  no_flush : (pv : ℕ) → done.op ≡ FlushOp pv → ⊥
  no_flush pv op =
      cond_both e.live.piece.write (Writing (span_of w.core.volumes e.live.piece) (values_of (line_of w.core e.live) e.live.piece))
      (Reading (span_of w.core.volumes e.live.piece)) (λ (x : DiskWork). Flushing pv ≡ x → ⊥)
      (λ writes same. true≢false (ap flushes same)) (λ reads same. true≢false (ap flushes same)) (sym (ap work_of op) ∙ e.did)
    where
      flushes : DiskWork → Bool
      flushes (Flushing x) = true
      flushes x = false

  -- the entry is of the piece as it stands then
  as_landed : (entry : LivePiece → ChronicleEntry) (mid : World)
      → (AllOrdered b.start (entry landed ∷ es) → HasContents b mid (entry landed ∷ es))
      → AllOrdered b.start (entry (live_of w1.core.pieces number) ∷ es)
      → HasContents b mid (entry (live_of w1.core.pieces number) ∷ es)
  as_landed entry mid holds =
      subst (λ (l : LivePiece). AllOrdered b.start (entry l ∷ es) → HasContents b mid (entry l ∷ es)) (sym live_now) holds

  pub ended_holds : (mid : World) → Runs w1 (settling number done.op done.well) mid
      → AllOrdered b.start (entries_by w1 (settling number done.op done.well) es)
      → HasContents b mid (entries_by w1 (settling number done.op done.well) es)
  ended_holds mid = by done.op done.well refl refl
    where
      took_by : LivePiece → ChronicleEntry
      took_by l = Took now.steps l.line l.piece

      failed_by : LivePiece → ChronicleEntry
      failed_by l = Failed now.steps l.line l.piece

      by : (op : Op) (well : Bool) → done.op ≡ op → done.well ≡ well → Runs w1 (settling number op well) mid
          → AllOrdered b.start (entries_by w1 (settling number op well) es)
          → HasContents b mid (entries_by w1 (settling number op well) es)
      by (WriteOp span sectors) true is good run =
          as_landed took_by mid (λ ordered. wrote_holds span sectors is good mid run.0 run.1 ordered)
      by (WriteOp span sectors) false is bad run = as_landed failed_by mid (λ ordered. lost_holds span sectors is mid run ordered)
      by (ReadOp span sectors) true is good run =
          as_landed took_by mid
          (λ ordered. read_holds span sectors is good (run.0.3 ∙ ap (λ (l : LivePiece). l.piece.count) live_now) mid run ordered)
      by (ReadOp span sectors) false is bad run = as_landed failed_by mid (λ ordered. unread_holds span sectors is mid run ordered)
      by (FlushOp pv) well is done run = absurd (no_flush pv is)
