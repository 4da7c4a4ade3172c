-- A piece that starts where none that was submitted clashes with it leaves the reads alone.
use Rattle.std.proofs.Common.{◌≡◌, ℕ, true, false, true≢false, IsTrue, ◌||◌, List, All, Option, None, Some, IfSome, slice_get}
use Rattle.std.proofs.Common.{unwrap_or, refl, sym, ap, subst, ◌∙◌, ⊎_elim}
use Rattle.std.specs.Option.{option_map_or}
use Rattle.std.proofs.lemmas.Bool.{or_left, or_right}
use Rattle.std.proofs.lemmas.List.Elements.{All-weaker}
use Rattle.sector_base.specs.declared.spans.Span.{Span}
use Rattle.sector_base.specs.Spans.{covers}
use Rattle.disk_model.specs.declared.ops.Op.{Op}
use Rattle.disk_model.specs.Brought.{writes}
use Rattle.disk_model.specs.Operations.{work_of}
use Rattle.disk_model.specs.Record.{Operation, in_flight_after}
use Rattle.disk_model.specs.State.{State}
use Rattle.disk_model.specs.Steps.{Flushing, Reading, Record, Submitted, Work as DiskWork, step_on}
use Rattle.claim_table.specs.Extents.{overlaps}
use Rattle.piece_table.specs.declared.live.LivePiece.{LivePiece}
use Rattle.piece_table.specs.Pieces.{is_waiting, is_waiting_stage, live_at}
use Rattle.piece_table.specs.Steps.{live_of, no_live}
use Rattle.vg_scan.specs.Versions.{Version}
use Rattle.volume_history.specs.Placed.{Place, volumes_of}
use Rattle.world_acts.specs.Acts.{Allowed, Asks, World}
use Rattle.world_acts.specs.Orderly.{IsOrderly}
use Rattle.world_acts.specs.Owners.{in_flight_at}
use Rattle.world_acts.specs.Volumes.{span_of}
use Rattle.world_history.specs.Alone.{AreAlone}
use Rattle.world_history.specs.Shown.{StandsIn, places_keyed}
use Rattle.world_history.proofs.Contents.AloneSteps.{alone_submits}
use Rattle.world_history.proofs.Contents.Flown.{IsDone, flown, reads_span, writes_none}
use Rattle.world_history.proofs.Contents.Meeting.{both_cover}
use Rattle.world_history.proofs.Contents.Tagged.{each_tagged}

no_flush : (span : Span) (pv : ℕ) → Reading span ≡ Flushing pv → ⊥
no_flush span pv e = cc

module _ (w : World) (number : ℕ) (op : Op) (tag : ℕ) (now : State) (told : Record) (version : Option Version) (o : IsOrderly w)
    (allowed : Allowed w (Asks number op tag now)) (is : w.shelf.told ≡ Some told)
    (stands : (other : ℕ) (m : LivePiece) → live_at w.core.pieces.lives other ≡ Some m
    → StandsIn version m.piece (span_of w.core.volumes m.piece))
    (differ : (key x other y : ℕ) (p : Place) → slice_get (places_keyed (volumes_of version) key) x ≡ Some p
    → slice_get (places_keyed (volumes_of version) other) y ≡ Some p → (key ≡ other) × (x ≡ y))
    (apart : (other : ℕ) (m : LivePiece) → live_at w.core.pieces.lives other ≡ Some m → (number ≡ other → ⊥)
    → is_waiting_stage m.stage ≡ false → ((live_of w.core.pieces number).piece.write || m.piece.write) ≡ true
    → overlaps (live_of w.core.pieces number).piece m.piece ≡ false)
    (waits : is_waiting w.core.pieces number ≡ true) where
  abbrev own : LivePiece
  own = live_of w.core.pieces number

  own_at : live_at w.core.pieces.lives number ≡ Some own
  own_at = by (live_at w.core.pieces.lives number) waits
    where
      by : (l : Option LivePiece) → option_map_or (λ (m : LivePiece). is_waiting_stage m.stage) l false ≡ true
          → l ≡ Some (unwrap_or l no_live)
      by None waits = absurd (true≢false (sym waits))
      by (Some l) waits = refl

  -- what the piece and one that was submitted do share no sector, where one of them writes
  shares_none : (work : DiskWork) (d : IsDone w.core work) (pv sector : ℕ) → (own.piece.write || d.live.piece.write) ≡ true
      → IsTrue (covers (span_of w.core.volumes own.piece) pv sector)
      → IsTrue (covers (span_of w.core.volumes d.live.piece) pv sector)
      → ⊥
  shares_none work d pv sector written own_is other_is =
      let other : number ≡ d.number → ⊥ =
      λ e. true≢false (sym waits ∙ ap (λ (l : Option LivePiece). option_map_or (λ (m : LivePiece). is_waiting_stage m.stage) l false)
      (ap (live_at w.core.pieces.lives) e ∙ d.at) ∙ d.stage) in
      true≢false (sym (both_cover version own.piece d.live.piece (span_of w.core.volumes own.piece) (span_of w.core.volumes d.live.piece) pv
      sector differ (stands number own own_at) (stands d.number d.live d.at) own_is other_is)
      ∙ apart d.number d.live d.at other d.stage written)

  -- where the piece reads, nothing in flight writes a sector of it
  none_written : (span : Span) (pv sector : ℕ) → work_of op ≡ Reading span → IsTrue (covers span pv sector) → (q : ℕ) (work : DiskWork)
      → in_flight_at w.shelf.in_flight q ≡ Some work
      → writes work pv sector ≡ false
  none_written span pv sector reading covered q work at =
      ⊎_elim
      (λ f. ap (λ (x : DiskWork). writes x pv sector) f.1)
      (λ d. ap (λ (x : DiskWork). writes x pv sector) d.does
      ∙ writes_none w.core d.live pv sector (λ t other_is. shares_none work d pv sector (or_right own.piece.write d.live.piece.write t)
      (subst (λ (s : Span). IsTrue (covers s pv sector)) (sym (reads_span w.core own span (sym allowed.3 ∙ reading))) covered) other_is))
      (flown w.shelf w.core q work o.backed.known o.tidy.owners at)

  -- and where one reads that was submitted, the piece writes no sector of it
  writes_apart : (q : ℕ) (span : Span) (pv sector : ℕ) → in_flight_at w.shelf.in_flight q ≡ Some (Reading span)
      → IsTrue (covers span pv sector)
      → writes (work_of op) pv sector ≡ false
  writes_apart q span pv sector at covered =
      ⊎_elim
      (λ f. absurd (no_flush span f.0 f.1))
      (λ d. ap (λ (x : DiskWork). writes x pv sector) allowed.3
      ∙ writes_none w.core own pv sector (λ t own_is. shares_none (Reading span) d pv sector (or_left own.piece.write d.live.piece.write t)
      own_is (subst (λ (s : Span). IsTrue (covers s pv sector)) (sym (reads_span w.core d.live span (sym d.does))) covered)))
      (flown w.shelf w.core q (Reading span) o.backed.known o.tidy.owners at)

  -- those that were in flight are alone still, and the piece is, where it reads
  pub alone_asks : AreAlone w.shelf told → AreAlone now (step_on (Submitted tag (work_of op)) told)
  alone_asks alone =
      let ops : List Operation = w.shelf.in_flight in
      let same : ops ≡ in_flight_after told.steps =
      subst (λ (t : Option Record). IfSome t (λ (r : Record). ops ≡ in_flight_after r.steps)) is o.backed.lawful.in_flight in
      alone_submits w.shelf now op tag told o.backed.lawful allowed.0 alone
      (λ span pv sector reading covered. subst (All (λ (x : Operation). writes x.work pv sector ≡ false)) same
      (All-weaker (λ (x : Operation). in_flight_at ops x.tag ≡ Some x.work) (λ (x : Operation). writes x.work pv sector ≡ false)
      (λ x at. none_written span pv sector reading covered x.tag x.work at) ops (each_tagged ops o.backed.lawful.order)))
      writes_apart
