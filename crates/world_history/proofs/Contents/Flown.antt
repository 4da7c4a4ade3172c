-- Whose what is in flight is: that of a flush, or of a piece that was submitted.
use Rattle.std.proofs.Common.{◌≡◌, ◌⊎◌, ℕ, true, false, IsTrue, Option, None, Some, option_map, inl, inr, refl, sym, ap, ◌∙◌}
use Rattle.std.proofs.lemmas.Bool.{cond_both, false_from_ne_true}
use Rattle.std.proofs.lemmas.Option.{none-some, same_Some}
use Rattle.sector_base.specs.declared.spans.Span.{Span}
use Rattle.sector_base.specs.Spans.{covers}
use Rattle.disk_model.specs.Brought.{writes}
use Rattle.disk_model.specs.State.{State}
use Rattle.disk_model.specs.Steps.{Flushing, Reading, Work as DiskWork, Writing}
use Rattle.flush_plan.specs.declared.records.Flush.{Flush}
use Rattle.piece_table.specs.declared.live.LivePiece.{LivePiece}
use Rattle.piece_table.specs.declared.live.Owner.{Owner}
use Rattle.piece_table.specs.declared.live.Stage.TheVariants.{Started}
use Rattle.piece_table.specs.Pieces.{is_waiting_stage, live_at, owner_at}
use Rattle.world_acts.specs.declared.state.Core.{Core}
use Rattle.world_acts.specs.Orderly.{AreKnown, AreOwned}
use Rattle.world_acts.specs.Owners.{flush_at, in_flight_at, line_of, owned_work, piece_work, values_of}
use Rattle.world_acts.specs.Volumes.{span_of}
use Rattle.world_acts.proofs.Known.{owner_flies}
use Rattle.world_acts.proofs.PiecesKept.{flying_started}

-- a piece that was submitted does it
pub record IsDone (c : Core) (work : DiskWork) : Type 0 where
  pub number : ℕ
  pub live : LivePiece
  pub at : live_at c.pieces.lives number ≡ Some live
  pub stage : is_waiting_stage live.stage ≡ false
  pub does : work ≡ piece_work c live

-- what is in flight under a tag
pub flown : (s : State) (c : Core) (tag : ℕ) (work : DiskWork) → AreKnown s c → AreOwned c.pieces.lives c.pieces.owners
    → in_flight_at s.in_flight tag ≡ Some work
    → ((pv : ℕ) × (work ≡ Flushing pv)) ⊎ IsDone c work
flown s c tag work known owned is = by (owner_at c.pieces.owners tag) refl (sym (known.owned tag) ∙ is)
  where
    flushed : (f : Option Flush) → option_map (λ (x : Flush). Flushing x.pv) f ≡ Some work → (pv : ℕ) × (work ≡ Flushing pv)
    flushed None at = absurd (none-some work at)
    flushed (Some f) at = (f.pv, sym (same_Some (Flushing f.pv) work at))

    by : (o : Option Owner) → owner_at c.pieces.owners tag ≡ o
        → owned_work c.pieces.lives (piece_work c) (flush_at c.waits.plan tag) o ≡ Some work
        → ((pv : ℕ) × (work ≡ Flushing pv)) ⊎ IsDone c work
    by None at does = inl (flushed (flush_at c.waits.plan tag) does)
    by (Some o) at does =
        let p = flying_started c.pieces.lives o.piece (owner_flies tag o owned at) in
        let live : LivePiece = record { line = p.2.line; piece = p.2.piece; stage = Started p.0 p.1; ticket = p.2.ticket } in
        inr (record {
          number = o.piece;
          live = live;
          at = p.2.at;
          stage = refl;
          does =
              same_Some work (piece_work c live) (sym does ∙ ap (λ (l : Option LivePiece). option_map (piece_work c) l) p.2.at);
        })

-- ---- what a piece does

-- a read is of its own span
pub reads_span : (c : Core) (l : LivePiece) (span : Span) → piece_work c l ≡ Reading span → span_of c.volumes l.piece ≡ span
reads_span c l span is =
    cond_both l.piece.write (Writing (span_of c.volumes l.piece) (values_of (line_of c l) l.piece)) (Reading (span_of c.volumes l.piece))
    (λ (x : DiskWork). x ≡ Reading span → span_of c.volumes l.piece ≡ span) (λ t e. absurd (cc)) (λ t e. cc) is

-- it writes no sector, unless it is a write whose span covers that
pub writes_none : (c : Core) (l : LivePiece) (pv sector : ℕ)
    → (l.piece.write ≡ true → IsTrue (covers (span_of c.volumes l.piece) pv sector) → ⊥)
    → writes (piece_work c l) pv sector ≡ false
writes_none c l pv sector none =
    cond_both l.piece.write (Writing (span_of c.volumes l.piece) (values_of (line_of c l) l.piece)) (Reading (span_of c.volumes l.piece))
    (λ (x : DiskWork). writes x pv sector ≡ false)
    (λ t. false_from_ne_true (covers (span_of c.volumes l.piece) pv sector) (λ is. none t is)) (λ t. refl)
