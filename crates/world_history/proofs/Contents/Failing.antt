-- A piece fails as it starts, since its disk has failed: its sectors are as they were.
use Rattle.std.proofs.Common.{◌≡◌, ℕ, Bool, true, false, List, ◌∷◌, length, Option, IfSome, unwrap_or, inl, refl, sym, ap, subst, ◌++◌}
use Rattle.line_answers.specs.declared.answer.Answer.{Answer}
use Rattle.disk_model.specs.Steps.{Record}
use Rattle.piece_table.specs.declared.live.LivePiece.{LivePiece}
use Rattle.piece_table.specs.declared.live.Stage.TheVariants.{Started}
use Rattle.piece_table.specs.Steps.{live_of, no_live}
use Rattle.volume_history.specs.Changing.{HaveOwnNames}
use Rattle.volume_history.specs.Chronicles.{ChronicleEntry, Failed, Origin}
use Rattle.volume_history.specs.Laws.{HistoriesGrow}
use Rattle.volume_history.specs.Legal.{AllOrdered}
use Rattle.volume_history.specs.Placed.{volumes_of}
use Rattle.world_acts.specs.Acts.{Allowed, Fails, World, after}
use Rattle.world_acts.specs.OpenLines.{after_failure, after_finished}
use Rattle.world_acts.specs.Orderly.{IsOrderly}
use Rattle.world_acts.specs.Owners.{piece_work}
use Rattle.world_acts.specs.Volumes.{IsPlaced, span_of}
use Rattle.world_acts.proofs.PiecesKept.{started_at}
use Rattle.world_acts.proofs.Tables.{at_number}
use Rattle.io_core.specs.Rest.{SameLines}
use Rattle.world_history.specs.Entries.{entries_of}
use Rattle.world_history.specs.Told.{IsTold}
use Rattle.world_history.specs.Contents.{HasContents, origin_with}
use Rattle.world_history.specs.Shown.{Shows, StandsIn, now_of}
use Rattle.world_history.proofs.Contents.ClaimsApart.{apart_act}
use Rattle.world_history.proofs.Contents.EndedPiece.{EndedPiece, live_piece}
use Rattle.world_history.proofs.Contents.EndedWorld.{piece_reads, piece_writes}
use Rattle.world_history.proofs.Contents.Keyed.{places_of_key}
use Rattle.world_history.proofs.Contents.Landing.{shows_failed, shows_unread}
use Rattle.world_history.proofs.Contents.Lines.{brought_beside, brought_same}
use Rattle.world_history.proofs.Contents.Settling.{failed_same}
use Rattle.world_history.proofs.Contents.Standing.{stands_in}
use Rattle.world_history.proofs.Contents.Values.{shown_each}

module _ {start : ℕ} {coming : ℕ → ℕ → ℕ} {w : World} {es : List ChronicleEntry} (grow : HistoriesGrow) (b : Origin) (o : IsOrderly w)
    (t : IsTold start coming w es) (c : HasContents b w es) (names : HaveOwnNames (volumes_of b.version)) (number : ℕ) (why : Answer)
    (may : Allowed w (Fails number why)) where
  abbrev its : (l : LivePiece) × (live_of w.core.pieces number ≡ l) × EndedPiece w es (piece_work w.core l) number
  its =
      let p = started_at w.core.pieces.lives number may.0 in
      let l : LivePiece = record { line = p.2.line; piece = p.2.piece; stage = Started p.0 p.1; ticket = p.2.ticket } in
      (l, ap (λ (x : Option LivePiece). unwrap_or x no_live) p.2.at, live_piece o t (piece_work w.core l) number l p.2.at refl)

  abbrev e : EndedPiece w es (piece_work w.core its.0) number
  e = its.2

  abbrev failed : List ChronicleEntry
  failed = Failed w.shelf.steps e.live.line e.live.piece ∷ es

  moment : w.shelf.steps ≡ length c.told.steps
  moment = subst (λ (x : Option Record). IfSome x (λ (r : Record). w.shelf.steps ≡ length r.steps)) c.is o.backed.lawful.steps

  stands : StandsIn b.version e.live.piece (span_of w.core.volumes e.live.piece)
  stands =
      stands_in w.core.volumes w.shelf.sizes b.version o.backed.places.laid c.holds.volumes e.live.piece
      (at_number (λ (x : ℕ × LivePiece). IsPlaced w.core.volumes w.shelf.sizes x.1.piece) w.core.pieces.lives number e.live
      o.backed.places.placed e.at)

  failing_shows : AllOrdered b.start failed → Shows (origin_with b c.told) failed
  failing_shows ordered = by e.live.piece.write refl
    where
      by : (x : Bool) → e.live.piece.write ≡ x → Shows (origin_with b c.told) failed
      by true is =
          shows_failed grow (origin_with b c.told) es w.shelf.steps e.live.line e.line e.key e.live.piece c.holds.shows.so_far e.begun
          moment
          (now_of c.told) c.holds.shows.machine (piece_writes e is) (λ key x p at other. refl) stands.inside
          (places_of_key b.version (now_of c.told) names e.live.piece.volume stands.key) ordered.0
          (λ i lt. inl (shown_each (volumes_of b.version) e.live.piece stands.inside (now_of c.told) i lt))
      by false is =
          shows_unread grow (origin_with b c.told) es w.shelf.steps e.live.line e.line e.key e.live.piece c.holds.shows.so_far e.begun
          moment
          c.holds.shows.machine (piece_reads e is) ordered.0

  pub failing_holds : AllOrdered b.start failed → HasContents b (after w (Fails number why)) failed
  failing_holds ordered = record {
    told = c.told;
    is = c.is;
    holds = record {
      shows = failing_shows ordered;
      brought =
          brought_same (origin_with b c.told) failed w (after w (Fails number why)) refl same
          (λ n x at. brought_beside (origin_with b c.told) es (Failed w.shelf.steps e.live.line e.live.piece) w.core.volumes n x.key x.work
          tt
          (c.holds.brought n x at));
      alone = c.holds.alone;
      apart = apart_act w (Fails number why) o may c.holds.apart;
      volumes = c.holds.volumes;
    };
  }
    where
      same : SameLines w.core.opens (after w (Fails number why)).core.opens
      same =
          subst (λ (l : LivePiece). SameLines w.core.opens (after_finished (after_failure w.core.opens l.line why) l.line))
          (sym (ap (λ (x : Option LivePiece). unwrap_or x no_live) e.at))
          (failed_same w.core.opens e.live.line e.opened why e.is_open)

  pub fails_holds : AllOrdered b.start (entries_of w (Fails number why) ++ es)
      → HasContents b (after w (Fails number why)) (entries_of w (Fails number why) ++ es)
  fails_holds ordered =
      subst (λ (l : LivePiece). AllOrdered b.start (Failed w.shelf.steps l.line l.piece ∷ es)
      → HasContents b (after w (Fails number why)) (Failed w.shelf.steps l.line l.piece ∷ es))
      (sym (ap (λ (x : Option LivePiece). unwrap_or x no_live) e.at)) failing_holds ordered
