-- What is known of causes between the acts of a session's lines, and how it goes on.
use Rattle.std.proofs.Common.{◌≡◌, ◌≤◌, ◌<◌, ◌⊎◌, ℕ, true, List, length, Contains, Option, Some, is_some, ⊎_elim, refl, sym, ap, subst, ◌∙◌}
use Rattle.std.proofs.Common.{arith}
use Rattle.std.proofs.lemmas.Option.{same_Some}
use Rattle.sector_base.specs.declared.places.Piece.{Piece}
use Rattle.line_answers.specs.declared.answer.Answer.{Answer}
use Rattle.flush_plan.specs.declared.records.Flush.{Flush}
use Rattle.flush_plan.specs.declared.records.Marks.{Marks}
use Rattle.flush_plan.specs.Plans.{Plan, marks_of}
use Rattle.flush_waits.specs.declared.ticket.Waiter.{Waiter}
use Rattle.flush_waits.specs.declared.ticket.Waiter.TheVariants as waiter
use Rattle.flush_waits.specs.declared.ticket.Waiting.{Waiting}
use Rattle.flush_waits.specs.Waits.{dirty_at, disk_waits}
use Rattle.piece_table.specs.declared.live.LivePiece.{LivePiece}
use Rattle.piece_table.specs.declared.live.Stage.TheVariants.{Taken}
use Rattle.piece_table.specs.Pieces.{live_at}
use Rattle.volume_history.specs.Chronicles.{AreUpto, ChronicleEntry, Origin, Took, is_failed_disk}
use Rattle.volume_history.specs.Cuts.{FlushesVolume}
use Rattle.volume_history.specs.Placed.{Place}
use Rattle.vg_scan.specs.Versions.{Version}
use Rattle.world_acts.specs.declared.open_line.OpenLine.{OpenLine}
use Rattle.world_acts.specs.declared.state.Core.{Core}
use Rattle.world_acts.specs.Acts.{IsLost}
use Rattle.world_acts.specs.Counts.{awaited_at, is_piece, is_taken, waiting}
use Rattle.world_acts.specs.OpenLines.{open_at}
use Rattle.world_acts.proofs.PiecesKept.{awaiting_taken}
use Rattle.world_history.specs.Causes.{AreCaused, HasCause, StandsAt, before_line, is_asked}
use Rattle.world_tracks.proofs.QuietWaits.{of_piece, waits_counted}
use Rattle.world_tracks.proofs.WaitSteps.{waiters}
use Rattle.world_tracks.proofs.Causes.Growing.{Extends, cause_extended, cause_later, caused_later, flushes_extended, upto_at}
use Rattle.world_tracks.proofs.Causes.Lines.{WasFailing}
use Rattle.world_tracks.proofs.Causes.Since.{IsLater, asked_lasts, lost_later, loses_lasts, loses_on, now_in, since_later, told_since}
use Rattle.world_tracks.proofs.Causes.Since.{version_later}

-- ---- writes that took place

-- a write took place on this disk
pub record WroteOn (o : Origin) (es : List ChronicleEntry) (since writer : ℕ) (piece : Piece) (pv : ℕ) : Type 0 where
  pub place : Place
  pub wrote : piece.write ≡ true
  pub stands : StandsAt o piece place
  pub disk : place.disk ≡ pv
  pub took : Contains es (Took since writer piece)

-- one to this volume did
pub record HasWritten (o : Origin) (es : List ChronicleEntry) (key pv : ℕ) : Type 0 where
  pub since : ℕ
  pub writer : ℕ
  pub piece : Piece
  pub volume : piece.volume ≡ key
  pub write : WroteOn o es since writer piece pv

-- what a line waits for is one from before it, to the volume that it flushes
pub record WaitsForOlder (o : Origin) (es : List ChronicleEntry) (n pv : ℕ) : Type 0 where
  pub since : ℕ
  pub writer : ℕ
  pub piece : Piece
  pub flushes : FlushesVolume es n piece.volume
  pub write : WroteOn o (before_line es n) since writer piece pv

-- what a piece waits for is its own: a flush that serves it was submitted since, and where one has ended, and none did well, one that
-- was submitted since has failed
pub record WaitsForOwn (o : Origin) (fs : List Flush) (m : Marks) (es : List ChronicleEntry) (pv place : ℕ) (l : LivePiece) : Type 0 where
  pub since : ℕ
  pub write : WroteOn o es since l.line l.piece pv
  pub served :
      (f : Flush) → Contains fs f → f.pv ≡ pv → place ≤ f.after → told_since (is_asked f.tag) o since (now_in o) ≡ true
  pub lost : place ≤ m.ended → m.stable < place → told_since (loses_on pv) o since (now_in o) ≡ true

abbrev pub IsWaitOf : Origin → Core → List ChronicleEntry → ℕ → ℕ → Waiter → Type 0
IsWaitOf o c es pv place (waiter.Line n) = WaitsForOlder o es n pv
IsWaitOf o c es pv place (waiter.Piece number) =
    (l : LivePiece) → live_at c.pieces.lives number ≡ Some l → WaitsForOwn o c.waits.plan.flushes (marks_of c.waits.plan pv) es pv place l

-- all that took place did before this line
abbrev pub ToOlder : List ChronicleEntry → ℕ → Type 0
ToOlder es line =
    (since writer : ℕ) (piece : Piece) → Contains es (Took since writer piece) → Contains (before_line es line) (Took since writer piece)

-- ---- all that is known

-- a lost disk has failed, an open line that has failed has its cause, what was written last to a volume on a disk took place, and so did
-- what is waited for; and each answer has its cause
pub record Knows (o : Origin) (c : Core) (es : List ChronicleEntry) : Type 0 where
  pub lost : (pv : ℕ) → IsLost c pv → is_failed_disk o (now_in o) pv ≡ true
  pub failing :
      (n : ℕ) (p : OpenLine) (why : Answer) → open_at c.opens n ≡ Some p → p.failure ≡ Some why → HasCause o es (now_in o) n why
  pub dirty : (key pv : ℕ) → pv < length c.waits.disks → 0 < dirty_at c.waits key pv → HasWritten o es key pv
  pub waits :
      (pv : ℕ) (it : Waiting) → Contains (waiters (disk_waits c.waits pv)) it → IsWaitOf o c es pv it.place it.waiter
  pub answered : AreCaused o es

-- a piece under way, of this line and these sectors
pub record WasLive (c : Core) (number : ℕ) (l : LivePiece) : Type 0 where
  pub live : LivePiece
  pub at : live_at c.pieces.lives number ≡ Some live
  pub line : live.line ≡ l.line
  pub piece : live.piece ≡ l.piece

-- a flush of the disk, which served the write at this place, ends badly
pub record LosesFlush (o o' : Origin) (plan : Plan) (pv place : ℕ) : Type 0 where
  pub flush : Flush
  pub flew : Contains plan.flushes flush
  pub disk : flush.pv ≡ pv
  pub serves : place ≤ flush.after
  pub lost :
      (since : ℕ) → since ≤ now_in o → told_since (is_asked flush.tag) o since (now_in o) ≡ true
      → told_since (loses_on pv) o' since (now_in o') ≡ true

-- what is new in a later world is known, and the rest was there
pub record CausesGo (o o' : Origin) (c d : Core) (es fs : List ChronicleEntry) : Type 0 where
  pub later : IsLater o o'
  pub more : Extends es fs
  pub lost : (pv : ℕ) → IsLost d pv → IsLost c pv ⊎ (is_failed_disk o' (now_in o') pv ≡ true)
  pub failing :
      (n : ℕ) (p : OpenLine) (why : Answer) → open_at d.opens n ≡ Some p → p.failure ≡ Some why
      → WasFailing c.opens n why ⊎ HasCause o' fs (now_in o') n why
  pub dirty :
      (key pv : ℕ) → pv < length d.waits.disks → 0 < dirty_at d.waits key pv
      → ((pv < length c.waits.disks) × (0 < dirty_at c.waits key pv)) ⊎ HasWritten o' fs key pv
  pub waits :
      (pv : ℕ) (it : Waiting) → Contains (waiters (disk_waits d.waits pv)) it
      → Contains (waiters (disk_waits c.waits pv)) it ⊎ IsWaitOf o' d fs pv it.place it.waiter
  pub lives : (number : ℕ) (l : LivePiece) → live_at d.pieces.lives number ≡ Some l → is_taken l.stage ≡ true → WasLive c number l
  pub marks :
      (pv place : ℕ) → place ≤ (marks_of d.waits.plan pv).ended → (marks_of d.waits.plan pv).stable < place
      → ((place ≤ (marks_of c.waits.plan pv).ended) × ((marks_of c.waits.plan pv).stable < place))
      ⊎ LosesFlush o o' c.waits.plan pv place
  pub flushes :
      (f : Flush) → Contains d.waits.plan.flushes f
      → Contains c.waits.plan.flushes f ⊎ ((since : ℕ) → since ≤ now_in o → told_since (is_asked f.tag) o' since (now_in o') ≡ true)
  pub answered : AreCaused o' es → AreCaused o' fs

-- ---- it goes on

-- a write that took place did
wrote_later : {o o' : Origin} {es fs : List ChronicleEntry} (since writer : ℕ) (piece : Piece) (pv : ℕ) → IsLater o o'
    → (Contains es (Took since writer piece) → Contains fs (Took since writer piece)) → WroteOn o es since writer piece pv
    → WroteOn o' fs since writer piece pv
wrote_later {o} {o'} {es} {fs} since writer piece pv later has w = record {
  place = w.place;
  wrote = w.wrote;
  stands =
      subst (λ (v : Option Version). StandsAt (record o' { version = v }) piece w.place) (sym (version_later later)) w.stands;
  disk = w.disk;
  took = has w.took;
}

module _ {o o' : Origin} {c d : Core} {es fs : List ChronicleEntry}
    (counted : (number : ℕ) → awaited_at d.pieces.lives number ≡ waiting (is_piece number) d.waits.disks)
    (upto : AreUpto (now_in o) es) (from : o.start ≤ now_in o)
    (k : Knows o c es) (g : CausesGo o o' c d es fs) where
  -- what a piece waited for, it does still
  own_goes : (pv place : ℕ) (l m : LivePiece) → l.line ≡ m.line → l.piece ≡ m.piece
      → WaitsForOwn o c.waits.plan.flushes (marks_of c.waits.plan pv) es pv place l
      → WaitsForOwn o' d.waits.plan.flushes (marks_of d.waits.plan pv) fs pv place m
  own_goes pv place l m line piece w = record {
    since = w.since;
    write =
        subst (λ (n : ℕ). WroteOn o' fs w.since n m.piece pv) line
        (subst (λ (p : Piece). WroteOn o' fs w.since l.line p pv) piece
        (wrote_later w.since l.line l.piece pv g.later (g.more.has (Took w.since l.line l.piece)) w.write));
    served =
        λ f has disk serves. ⊎_elim
        (λ (was : Contains c.waits.plan.flushes f).
        since_later (is_asked f.tag) (asked_lasts f.tag) g.later w.since le (w.served f was disk serves)) (λ now. now w.since le)
        (g.flushes f has);
    lost =
        λ ended unstable. ⊎_elim
        (λ (was : (place ≤ (marks_of c.waits.plan pv).ended) × ((marks_of c.waits.plan pv).stable < place)).
        since_later (loses_on pv) (loses_lasts pv) g.later w.since le (w.lost was.0 was.1))
        (λ (now : LosesFlush o o' c.waits.plan pv place). now.lost w.since le (w.served now.flush now.flew now.disk now.serves))
        (g.marks pv place ended unstable);
  }
    where
      le : w.since ≤ now_in o
      le = upto_at (now_in o) es (Took w.since l.line l.piece) upto w.write.took

  wait_goes : (pv : ℕ) (it : Waiting) (who : Waiter) → it.waiter ≡ who → Contains (waiters (disk_waits d.waits pv)) it
      → IsWaitOf o c es pv it.place who
      → IsWaitOf o' d fs pv it.place who
  wait_goes pv it (waiter.Line n) is there w = record {
    since = w.since;
    writer = w.writer;
    piece = w.piece;
    flushes = flushes_extended g.more n w.piece.volume w.flushes;
    write =
        wrote_later w.since w.writer w.piece pv g.later
        (λ has. subst (λ (l : List ChronicleEntry). Contains l (Took w.since w.writer w.piece))
        (sym (g.more.before n (ap is_some w.flushes.begun))) has) w.write;
  }
  wait_goes pv it (waiter.Piece number) is there w =
      λ m at. let some : 0 < waiting (is_piece number) d.waits.disks =
      waits_counted d.waits.disks pv it (is_piece number) there (of_piece it number is) in
      let p = awaiting_taken d.pieces.lives number (omega (arith, some, counted number)) in
      let old : LivePiece = record { line = p.1.line; piece = p.1.piece; stage = Taken p.0; ticket = p.1.ticket } in
      let same : old ≡ m = same_Some old m (sym p.1.at ∙ at) in
      let was : WasLive c number m = g.lives number m at (ap (λ (l : LivePiece). is_taken l.stage) (sym same)) in
      own_goes pv it.place was.live m was.line was.piece (w was.live was.at)

  pub causes_go : Knows o' d fs
  causes_go = record {
    lost = λ pv l. ⊎_elim (λ was. lost_later g.later pv from (k.lost pv was)) (λ now. now) (g.lost pv l);
    failing =
        λ n p why at fails. ⊎_elim
        (λ (was : WasFailing c.opens n why).
        cause_extended g.more o' (now_in o') n why
        (cause_later es g.later upto from n why (k.failing n was.opened why was.is_open was.fails)))
        (λ now. now) (g.failing n p why at fails);
    dirty =
        λ key pv lt some. ⊎_elim
        (λ (was : (pv < length c.waits.disks) × (0 < dirty_at c.waits key pv)).
        let w : HasWritten o es key pv = k.dirty key pv was.0 was.1 in
        record {
          since = w.since;
          writer = w.writer;
          piece = w.piece;
          volume = w.volume;
          write = wrote_later w.since w.writer w.piece pv g.later (g.more.has (Took w.since w.writer w.piece)) w.write;
        }) (λ now. now) (g.dirty key pv lt some);
    waits =
        λ pv it has. ⊎_elim
        (λ (was : Contains (waiters (disk_waits c.waits pv)) it). wait_goes pv it it.waiter refl has (k.waits pv it was))
        (λ now. now) (g.waits pv it has);
    answered = g.answered (caused_later es g.later upto k.answered);
  }
