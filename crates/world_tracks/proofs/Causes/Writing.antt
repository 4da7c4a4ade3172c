-- A write takes place: what is known of causes, with it.
use Rattle.std.proofs.Common.{◌≡◌, ◌≤◌, ◌<◌, ◌⊎◌, ℕ, ◌+◌, ◌*◌, List, ◌∷◌, length, get_or, None, is_some, inl, inr, ⊎_elim, refl, sym, ap}
use Rattle.std.proofs.Common.{subst, ◌∙◌, arith}
use Rattle.std.proofs.lemmas.Bool.{cond_both}
use Rattle.std.proofs.lemmas.List.{length-set}
use Rattle.std.proofs.lemmas.List.Elements.{All-contains}
use Rattle.std.proofs.lemmas.Nat.{same_from_place}
use Rattle.std.proofs.lemmas.Option.{same_Some}
use Rattle.sector_base.specs.declared.places.Piece.{Piece}
use Rattle.flush_plan.specs.declared.records.Flush.{Flush}
use Rattle.flush_plan.specs.declared.records.Marks.{Marks}
use Rattle.flush_plan.specs.Plans.{IsWithin, marks_of, no_marks}
use Rattle.flush_waits.specs.declared.ticket.Waiter.TheVariants as waiter
use Rattle.flush_waits.specs.declared.ticket.Waiting.{Waiting}
use Rattle.flush_waits.specs.Steps.{after_noted, with_waiting}
use Rattle.flush_waits.specs.Waits.{Waits, awaited, dirty_at, disk_waits}
use Rattle.piece_table.specs.declared.live.LivePiece.{LivePiece}
use Rattle.piece_table.specs.declared.live.Stage.TheVariants.{Taken}
use Rattle.piece_table.specs.Steps.{live_of, without_ticket}
use Rattle.volume_history.specs.Chronicles.{ChronicleEntry, Origin, Took}
use Rattle.world_acts.specs.declared.state.Core.{Core}
use Rattle.world_acts.specs.Acts.{Allowed, IsLost, World, Writes, after}
use Rattle.world_acts.specs.Orderly.{IsOrderly}
use Rattle.world_acts.specs.Steps.{after_leaves, after_stays}
use Rattle.world_acts.specs.Volumes.{span_of}
use Rattle.world_acts.proofs.PlanKept.{marks_reach}
use Rattle.world_acts.proofs.Tables.{changes_both, own_at, removed}
use Rattle.world_history.specs.Shown.{AreOfVersion}
use Rattle.world_tracks.proofs.ActWaits.{HasFree, stage_change, started, ticket_change}
use Rattle.world_tracks.proofs.NewNote.{its_core, its_place, marked, placed, within}
use Rattle.world_tracks.proofs.WaitSteps.{set_keeps}
use Rattle.world_tracks.proofs.Causes.Growing.{among_first, extends_took}
use Rattle.world_tracks.proofs.Causes.Known.{CausesGo, HasWritten, IsWaitOf, WroteOn}
use Rattle.world_tracks.proofs.Causes.Lines.{before_finished, before_itself}
use Rattle.world_tracks.proofs.Causes.Lives.{lives_changed}
use Rattle.world_tracks.proofs.Causes.PieceFailing.{piece_stands, place_in, started_placed}
use Rattle.world_tracks.proofs.Causes.Since.{now_in}
use Rattle.world_tracks.proofs.Causes.Waiters.{waited_before}

-- a place that is noted is that of this volume on this disk, or was
noted_before : (waits : Waits) (key pv place q r : ℕ) → pv < length waits.disks → r < length waits.disks
    → 0 < dirty_at (after_noted waits key pv place) q r
    → (0 < dirty_at waits q r) ⊎ ((key ≡ q) × (pv ≡ r))
noted_before waits key pv place q r lt lt' some =
    let n : ℕ = length waits.disks in
    set_keeps (λ (x : ℕ). 0 < x → (0 < dirty_at waits q r) ⊎ ((key ≡ q) × (pv ≡ r))) waits.dirty (key * n + pv) (q * n + r) place 0
    (λ h. inl h) (λ e h. inr (same_from_place key pv q r n lt lt' e)) some

module _ (b : Origin) (w : World) (es : List ChronicleEntry) (o : IsOrderly w) (of : AreOfVersion w.core.volumes b.version)
    (moment : w.shelf.steps ≡ now_in b) (number pv : ℕ) (may : Allowed w (Writes number pv))
    (disk : (span_of w.core.volumes (live_of w.core.pieces number).piece).pv ≡ pv) where
  abbrev c : Core
  c = w.core

  abbrev mid : Core
  mid = its_core w number pv o may

  abbrev l : LivePiece
  l = live_of w.core.pieces number

  abbrev fs : List ChronicleEntry
  fs = Took w.shelf.steps l.line l.piece ∷ es

  x : HasFree w number
  x = started w number o may.0

  -- the write
  wrote : WroteOn b fs w.shelf.steps l.line l.piece pv
  wrote = record {
    place = place_in (span_of c.volumes l.piece);
    wrote = may.3;
    stands = piece_stands b w o of l.piece (started_placed b w o of number x);
    disk = disk;
    took = among_first (Took w.shelf.steps l.line l.piece) es;
  }

  -- as much lasts as before, and flushes ended up to the same places
  marks_stay : (q place : ℕ) → place ≤ (marks_of mid.waits.plan q).ended → (marks_of mid.waits.plan q).stable < place
      → (place ≤ (marks_of c.waits.plan q).ended) × ((marks_of c.waits.plan q).stable < place)
  marks_stay q place =
      set_keeps
      (λ (m : Marks). place ≤ m.ended → m.stable < place
      → (place ≤ (marks_of c.waits.plan q).ended) × ((marks_of c.waits.plan q).stable < place)) c.waits.plan.marks pv q
      (record (marks_of c.waits.plan pv) { written = c.waits.plan.held + 1 }) no_marks (λ ended unstable. (ended, unstable))
      (λ e ended unstable.
      subst (λ (n : ℕ). (place ≤ (marks_of c.waits.plan n).ended) × ((marks_of c.waits.plan n).stable < place)) e (ended, unstable))

  lost_stays : (q : ℕ) → IsLost mid q → IsLost c q
  lost_stays q (inl failed) = inl failed
  lost_stays q (inr ended) =
      set_keeps (λ (m : Marks). m.stable < m.ended → IsLost c q) c.waits.plan.marks pv q
      (record (marks_of c.waits.plan pv) { written = c.waits.plan.held + 1 }) no_marks (λ far. inr far)
      (λ e far. inr (subst (λ (n : ℕ). (marks_of c.waits.plan n).stable < (marks_of c.waits.plan n).ended) e far)) ended

  -- what is noted
  dirty_with : (key q : ℕ) → q < length c.waits.disks → 0 < dirty_at mid.waits key q
      → ((q < length c.waits.disks) × (0 < dirty_at c.waits key q)) ⊎ HasWritten b fs key q
  dirty_with key q lt some =
      ⊎_elim (λ old. inl (lt, old))
      (λ (is : (l.piece.volume ≡ key) × (pv ≡ q)).
      inr (record {
        since = w.shelf.steps;
        writer = l.line;
        piece = l.piece;
        volume = is.0;
        write = subst (λ (n : ℕ). WroteOn b fs w.shelf.steps l.line l.piece n) is.1 wrote;
      }))
      (noted_before c.waits l.piece.volume pv (its_place w number pv o may) key q (within w number pv o may) lt some)

  -- ---- the piece stays, and waits

  stays : CausesGo b b c (after_stays mid number pv (its_place w number pv o may)) es fs
  stays =
      let place : ℕ = its_place w number pv o may in
      let d : Core = after_stays mid number pv place in
      let it : Waiting = record { waiter = waiter.Piece number; place = place } in
      let one = ticket_change c.pieces number x.piece.live o.tidy.pieces.single x.piece.at in
      let two =
      stage_change (without_ticket c.pieces number) number (record x.piece.live { ticket = None }) (Taken 1) one.single (own_at one) in
      let change = changes_both one two in
      let long : length d.waits.disks ≡ length c.waits.disks =
      length-set c.waits.disks pv (with_waiting (disk_waits mid.waits pv) it (awaited mid.waits pv place)) in
      let m : IsWithin c.waits.plan.held (marks_of c.waits.plan pv) = marks_reach c.waits.plan o.tidy.flushes.reached pv in
      let ended : (marks_of mid.waits.plan pv).ended ≡ (marks_of c.waits.plan pv).ended =
      ap (λ (z : Marks). z.ended) (marked w number pv o may) in
      let high : place ≡ c.waits.plan.held + 1 = placed w number pv o may in
      let own : IsWaitOf b d fs pv place (waiter.Piece number) =
      λ y at. let same : record x.piece.live { ticket = None; stage = Taken 1 } ≡ y = same_Some _ y (sym (own_at change) ∙ at) in
      let line : l.line ≡ y.line = ap (λ (z : LivePiece). z.line) x.piece.is ∙ ap (λ (z : LivePiece). z.line) same in
      let piece : l.piece ≡ y.piece = ap (λ (z : LivePiece). z.piece) x.piece.is ∙ ap (λ (z : LivePiece). z.piece) same in
      record {
        since = w.shelf.steps;
        write =
            subst (λ (n : ℕ). WroteOn b fs w.shelf.steps n y.piece pv) line
            (subst (λ (p : Piece). WroteOn b fs w.shelf.steps l.line p pv) piece wrote);
        served =
            λ f has disk serves. absurd
            (let few : f.after ≤ c.waits.plan.held =
            All-contains (λ (f : Flush). f.after ≤ c.waits.plan.held) c.waits.plan.flushes f o.tidy.flushes.after has in
            omega (arith, serves, few, high));
        lost = λ most unstable. absurd (omega (arith, most, ended, m.2, high));
      } in
      record {
        later = inl refl;
        more = extends_took w.shelf.steps l.line l.piece es;
        lost = λ q lost. inl (lost_stays q lost);
        failing = λ n p a at fails. inl (before_itself c.opens n p a at fails);
        dirty =
            λ key q lt some. dirty_with key q (omega (arith, lt, long))
            (subst (λ (n : ℕ). 0 < get_or mid.waits.dirty (key * n + q) 0) long some);
        waits =
            λ q who has. ⊎_elim (λ old. inl old)
            (λ (is : (pv ≡ q) × (it ≡ who)).
            inr (subst (λ (n : ℕ). IsWaitOf b d fs n who.place who.waiter) is.0
            (subst (λ (y : Waiting). IsWaitOf b d fs pv y.place y.waiter) is.1 own))) (waited_before mid.waits it pv q who has);
        lives =
            lives_changed c d change
            (λ taken. record { live = x.piece.live; at = x.piece.at; line = refl; piece = refl });
        marks = λ q place ended unstable. inl (marks_stay q place ended unstable);
        flushes = λ f has. inl has;
        answered = λ are. are;
      }

  -- ---- or leaves

  leaves : CausesGo b b c (after_leaves mid number pv) es fs
  leaves =
      let d : Core = after_leaves mid number pv in
      record {
        later = inl refl;
        more = extends_took w.shelf.steps l.line l.piece es;
        lost = λ q lost. inl (lost_stays q lost);
        failing = λ n p a at fails. inl (before_finished c.opens l.line x.piece.opened x.piece.is_open n p a at fails);
        dirty = dirty_with;
        waits = λ q who has. inl has;
        lives = lives_changed c d (removed c.pieces.lives number x.piece.live o.tidy.pieces.single x.piece.at) tt;
        marks = λ q place ended unstable. inl (marks_stay q place ended unstable);
        flushes = λ f has. inl has;
        answered = λ are. are;
      }

  pub writes_go : CausesGo b b c (after w (Writes number pv)).core es fs
  writes_go =
      cond_both (is_some (live_of w.core.pieces number).ticket) (after_stays mid number pv (its_place w number pv o may))
      (after_leaves mid number pv) (λ (d : Core). CausesGo b b c d es fs) (λ is. stays) (λ is. leaves)
