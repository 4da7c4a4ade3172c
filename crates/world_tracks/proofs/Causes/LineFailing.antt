-- Why a line fails as a whole.
use Rattle.std.proofs.Common.{◌≡◌, ◌≤◌, ◌<◌, ℕ, Bool, true, false, cond, ◌||◌, nat_le, List, [], ◌∷◌, ◌++◌, Contains, Option, None, Some}
use Rattle.std.proofs.Common.{IfSome, is_some, slice_get, option_map, reverse, unwrap_or, inl, inr, ⊎_elim, refl, sym, ap, subst, ◌∙◌}
use Rattle.std.proofs.Common.{arith, true≢false}
use Rattle.std.specs.Option.{option_map_or}
use Rattle.std.proofs.lemmas.Bool.{eq-eqb, leb-false, leb-true}
use Rattle.std.proofs.lemmas.List.{reverse-append}
use Rattle.std.proofs.lemmas.Option.{none-some, same_Some}
use Rattle.sector_base.specs.declared.places.Piece.{Piece}
use Rattle.line_answers.specs.declared.answer.Answer.{Answer}
use Rattle.line_answers.specs.declared.answer.Answer.TheVariants as answer
use Rattle.line_answers.specs.declared.op_refusal.OpRefusal.{OpRefusal}
use Rattle.lvm_script.specs.declared.line.Line.{Line}
use Rattle.data_lines.specs.DataLines.{is_flush, is_through}
use Rattle.line_table.specs.declared.journal.EntryKind.{EntryKind}
use Rattle.line_table.specs.declared.journal.EntryKind.TheVariants as kind
use Rattle.line_table.specs.declared.journal.JournalEntry.{JournalEntry}
use Rattle.line_table.specs.Steps.{no_piece}
use Rattle.flush_plan.specs.Plans.{flight_of, marks_of}
use Rattle.flush_waits.specs.declared.ticket.Waiter.{Waiter}
use Rattle.flush_waits.specs.declared.ticket.Waiter.TheVariants as waiter
use Rattle.flush_waits.specs.declared.ticket.Waiting.{Waiting}
use Rattle.flush_waits.specs.declared.waits.Awaited.{Awaited}
use Rattle.flush_waits.specs.declared.waits.Awaited.TheVariants.{Lost, Served, Stable, Unserved}
use Rattle.flush_waits.specs.Waits.{Waits, awaited, dirty_at, disk_waits, serves}
use Rattle.piece_table.specs.declared.live.LivePiece.{LivePiece}
use Rattle.piece_table.specs.declared.live.Stage.TheVariants.{Taken}
use Rattle.piece_table.specs.Pieces.{live_at}
use Rattle.piece_table.specs.Steps.{no_live}
use Rattle.volume_history.specs.Candidates.{is_through_line}
use Rattle.volume_history.specs.Chronicles.{Answered, Begun, Changed, ChronicleEntry, Failed, GivenUp, Opened, Origin, Took, begun_in}
use Rattle.volume_history.specs.Cuts.{FlushesVolume}
use Rattle.volume_history.specs.Runs.{journal_of, zero_piece}
use Rattle.world_acts.specs.declared.open_line.OpenLine.{OpenLine}
use Rattle.world_acts.specs.declared.open_line.Work.{Work}
use Rattle.world_acts.specs.declared.open_line.Work.TheVariants.{Read, Whole, Write}
use Rattle.world_acts.specs.declared.state.Core.{Core}
use Rattle.world_acts.specs.Acts.{Allowed, FlushMayFail, LineFails, TellsDisk, WaitMayFail, World, line_of_waiter, released_at}
use Rattle.world_acts.specs.OpenLines.{open_at, open_of}
use Rattle.world_acts.specs.Orderly.{IsLive, IsOrderly}
use Rattle.world_acts.proofs.LinesKept.{open_is}
use Rattle.world_acts.proofs.PiecesKept.{PieceAt}
use Rattle.world_acts.proofs.Tables.{at_number, some_of}
use Rattle.world_history.specs.Causes.{HasCause, LosesWrite, before_line}
use Rattle.world_history.specs.Told.{IsOfThrough, IsTold, IsWorkOf}
use Rattle.world_history.proofs.LineActs.{IsServed, line_begun, served_first, taken_piece}
use Rattle.world_tracks.proofs.Causes.Growing.{among_took}
use Rattle.world_tracks.proofs.Causes.Known.{HasWritten, IsWaitOf, Knows, WaitsForOlder, WaitsForOwn}
use Rattle.world_tracks.proofs.Causes.Since.{now_in}

-- ---- a write that is lost

abbrev is_lost : Awaited → Bool
is_lost Lost = true
is_lost _ = false

-- a flush behind it has ended, and none that did well
pub lost_marks : (waits : Waits) (pv place : ℕ) → awaited waits pv place ≡ Lost
    → (place ≤ (marks_of waits.plan pv).ended) × ((marks_of waits.plan pv).stable < place)
lost_marks waits pv place is =
    let p = by (nat_le place (marks_of waits.plan pv).stable) (nat_le place (marks_of waits.plan pv).ended)
    (serves (flight_of waits.plan pv) place) is in (
      leb-true place (marks_of waits.plan pv).ended p.1,
      leb-false place (marks_of waits.plan pv).stable p.0,
    )
  where
    by : (a b s : Bool) → cond a Stable (cond b Lost (cond s Served Unserved)) ≡ Lost → (a ≡ false) × (b ≡ true)
    by true b s is = absurd (true≢false (sym (ap is_lost is)))
    by false true s is = (refl, refl)
    by false false true is = absurd (true≢false (sym (ap is_lost is)))
    by false false false is = absurd (true≢false (sym (ap is_lost is)))

-- ---- a line behind which nothing was entered

-- lists with the same last item
last_is : (xs ys : List JournalEntry) (x y : JournalEntry) → xs ++ x ∷ [] ≡ ys ++ y ∷ [] → x ≡ y
last_is xs ys x y is =
    same_Some x y (sym (last xs x) ∙ ap (λ (l : List JournalEntry). slice_get (reverse l) 0) is ∙ last ys y)
  where
    last : (zs : List JournalEntry) (z : JournalEntry) → slice_get (reverse (zs ++ z ∷ [])) 0 ≡ Some z
    last zs z = ap (λ (l : List JournalEntry). slice_get l 0) (reverse-append zs (z ∷ []))

abbrev is_begun : EntryKind → Bool
is_begun kind.Begun = true
is_begun _ = false

module _ (n : ℕ) (piece : Piece) (moment : ℕ) where
  abbrev its_entry : JournalEntry
  its_entry = record { kind = kind.Begun; line = n; piece = piece; moment = moment }

  -- the newest entry is of another kind
  unlike : (xs older : List JournalEntry) (x : JournalEntry) → xs ++ x ∷ [] ≡ older ++ its_entry ∷ [] → is_begun x.kind ≡ false → ⊥
  unlike xs older x is other =
      true≢false (sym (ap (λ (e : JournalEntry). is_begun e.kind) (last_is xs older x its_entry is)) ∙ other)

  -- a write that took place did before the line
  pub before_newest : (es : List ChronicleEntry) (older : List JournalEntry) → journal_of es ≡ older ++ its_entry ∷ []
      → (since writer : ℕ) (p : Piece)
      → Contains es (Took since writer p)
      → Contains (before_line es n) (Took since writer p)
  before_newest [] older is since writer p has = absurd (let lt = has.1 in omega (arith, lt))
  before_newest (Begun m k line key ∷ es) older is since writer p has =
      let same : k ≡ n =
      ap (λ (e : JournalEntry). e.line)
      (last_is (journal_of es) older (record { kind = kind.Begun; line = k; piece = zero_piece (unwrap_or key 0); moment = m }) its_entry
      is) in
      subst (λ (b : Bool). Contains (cond b es (before_line es n)) (Took since writer p)) (sym (eq-eqb k n same))
      (among_took (Begun m k line key) es since writer p refl has)
  before_newest (Opened m k version ∷ es) older is since writer p has =
      before_newest es older is since writer p
      (among_took (Opened m k version) es since writer p refl has)
  before_newest (GivenUp m k ∷ es) older is since writer p has =
      before_newest es older is since writer p
      (among_took (GivenUp m k) es since writer p refl has)
  before_newest (Took m k q ∷ es) older is since writer p has =
      absurd (unlike (journal_of es) older (record { kind = kind.Took; line = k; piece = q; moment = m }) is refl)
  before_newest (Changed m k version ∷ es) older is since writer p has =
      absurd (unlike (journal_of es) older (record { kind = kind.Took; line = k; piece = zero_piece 0; moment = m }) is refl)
  before_newest (Failed m k q ∷ es) older is since writer p has =
      absurd (unlike (journal_of es) older (record { kind = kind.Failed; line = k; piece = q; moment = m }) is refl)
  before_newest (Answered m k why ∷ es) older is since writer p has =
      absurd (unlike (journal_of es) older (record { kind = kind.Answered; line = k; piece = zero_piece 0; moment = m }) is refl)

-- ---- what a line flushes

module _ {start : ℕ} {coming : ℕ → ℕ → ℕ} {w : World} {es : List ChronicleEntry} (o : IsOrderly w) (t : IsTold start coming w es) where
  -- one that isn't refused has a volume
  has_key : (l : Line × Option ℕ) (work : Work) (failure : Option Answer) → is_flush l.0.command ≡ true
      → ((why : OpRefusal) → failure ≡ Some (answer.Refused why) → ⊥)
      → IsWorkOf l.0.command l.1 work failure
      → is_some l.1 ≡ true
  has_key l (Read from buffer) failure flushes unrefused does = does.1
  has_key l Write failure flushes unrefused does = does.1
  has_key l (Whole a) failure flushes unrefused (inl refused) = absurd (unrefused refused.why refused.is)
  has_key l (Whole a) failure flushes unrefused (inr whole) = whole.stands flushes

  -- which it flushes
  pub flushes_volume : (n : ℕ) (x : OpenLine) → open_at w.core.opens n ≡ Some x
      → option_map_or (λ (l : Line). is_flush l.command) (slice_get w.core.lines.begun n) false ≡ true
      → IfSome x.failure TellsDisk
      → (key : ℕ) → key ≡ x.key
      → FlushesVolume es n key
  flushes_volume n x at flushes well key is =
      let l = t.lines n x at in
      let flush : is_flush l.0.0.command ≡ true =
      sym (ap (λ (y : Option Line). option_map_or (λ (z : Line). is_flush z.command) y false) (line_begun t n l.0 l.1)) ∙ flushes in
      let p = some_of l.0.1 (has_key l.0 x.work x.failure flush (unrefused x.failure well) l.2.does) in
      let own : x.key ≡ p.0 = l.2.keyed ∙ ap (λ (k : Option ℕ). unwrap_or k 0) p.1 in
      record {
        line = l.0.0;
        begun = l.1 ∙ ap (λ (k : Option ℕ). Some (l.0.0, k)) (p.1 ∙ ap Some (sym (is ∙ own)));
        flushes = flush;
      }
    where
      tells_disk : Answer → Bool
      tells_disk (answer.PvFailed pv) = true
      tells_disk _ = false

      unrefused : (failure : Option Answer) → IfSome failure TellsDisk → (why : OpRefusal) → failure ≡ Some (answer.Refused why) → ⊥
      unrefused None well why same = none-some (answer.Refused why) same
      unrefused (Some a) well why same =
          true≢false (sym (ap tells_disk well.1) ∙ ap tells_disk (same_Some a (answer.Refused why) same))

  -- ---- the cause

  -- a line that is through was begun so
  through_told : (n : ℕ) → option_map_or (λ (l : Line). is_through l.command) (slice_get w.core.lines.begun n) false ≡ true
      → is_some (begun_in es n) ≡ true
      → is_through_line (begun_in es n) ≡ true
  through_told n through some =
      let p = some_of (begun_in es n) some in
      ap is_through_line p.1
      ∙ sym (ap (λ (y : Option Line). option_map_or (λ (l : Line). is_through l.command) y false) (line_begun t n p.0 p.1))
      ∙ through

  module _ (b : Origin) (k : Knows b w.core es) where
    abbrev c : Core
    c = w.core

    -- a line that flushes, as it was just begun
    flush_caused : (line pv : ℕ) → is_some (open_at c.opens line) ≡ true → FlushMayFail c line pv
        → LosesWrite b es (now_in b) line pv
    flush_caused line pv opened may =
        let found = some_of (open_at c.opens line) opened in
        let is : open_of c.opens line ≡ found.0 = open_is c.opens line found.0 found.1 in
        let far : (marks_of c.waits.plan pv).stable < dirty_at c.waits (open_of c.opens line).key pv = may.unstable in
        let h : HasWritten b es (open_of c.opens line).key pv = k.dirty (open_of c.opens line).key pv may.disk (omega (arith, far)) in
        record {
          since = h.since;
          writer = h.writer;
          piece = h.piece;
          place = h.write.place;
          wrote = h.write.wrote;
          stands = h.write.stands;
          disk = h.write.disk;
          its = inr (record {
            flushes =
                flushes_volume line found.0 found.1 may.flushes (subst (λ (x : OpenLine). IfSome x.failure TellsDisk) is may.well)
                h.piece.volume (h.volume ∙ ap (λ (x : OpenLine). x.key) is);
            took =
                before_newest line (no_piece may.newest.volume) may.newest.moment es may.newest.older (t.journal ∙ may.newest.is) h.since
                h.writer h.piece h.write.took;
          });
        }

    -- a line that waits, or of which a piece does
    older_caused : (line pv : ℕ) → WaitsForOlder b es line pv → LosesWrite b es (now_in b) line pv
    older_caused line pv h = record {
      since = h.since;
      writer = h.writer;
      piece = h.piece;
      place = h.write.place;
      wrote = h.write.wrote;
      stands = h.write.stands;
      disk = h.write.disk;
      its = inr (record { flushes = h.flushes; took = h.write.took });
    }

    own_caused : (pv number : ℕ) (it : Waiting) (l : LivePiece) → live_at c.pieces.lives number ≡ Some l
        → is_through_line (begun_in es l.line) ≡ true
        → awaited c.waits pv it.place ≡ Lost
        → WaitsForOwn b c.waits.plan.flushes (marks_of c.waits.plan pv) es pv it.place l
        → LosesWrite b es (now_in b) l.line pv
    own_caused pv number it l at through lost h =
        let m = lost_marks c.waits pv it.place lost in
        record {
          since = h.since;
          writer = l.line;
          piece = l.piece;
          place = h.write.place;
          wrote = h.write.wrote;
          stands = h.write.stands;
          disk = h.write.disk;
          its = inl (record { through = through; own = refl; took = h.write.took; lost = h.lost m.0 m.1 });
        }

    wait_caused : (line pv : ℕ) → WaitMayFail c line pv → LosesWrite b es (now_in b) line pv
    wait_caused line pv may = by (served_first t pv (some_first (released_at c pv) may.first))
      where
        some_first : (r : Option Waiting) → option_map (λ (it : Waiting). line_of_waiter c it.waiter) r ≡ Some line → is_some r ≡ true
        some_first None is = absurd (none-some line is)
        some_first (Some it) is = refl

        or_true : (x : Bool) → (x || true) ≡ true
        or_true true = refl
        or_true false = refl

        of : (it : Waiting) → IsServed t pv it → (who : Waiter) → it.waiter ≡ who → line_of_waiter c who ≡ line
            → awaited c.waits pv it.place ≡ Lost
            → IsWaitOf b c es pv it.place who
            → LosesWrite b es (now_in b) line pv
        of it served (waiter.Line n) who same lost h =
            subst (λ (m : ℕ). LosesWrite b es (now_in b) m pv) same (older_caused n pv h)
        of it served (waiter.Piece number) who same lost h = taken (taken_piece t o pv number it served who)
          where
            taken : (many : ℕ) × PieceAt c.pieces.lives number (Taken many) → LosesWrite b es (now_in b) line pv
            taken p =
                let l : LivePiece = record { line = p.1.line; piece = p.1.piece; stage = Taken p.0; ticket = p.1.ticket } in
                let own : l.line ≡ line = sym (ap (λ (y : Option LivePiece). (unwrap_or y no_live).line) p.1.at) ∙ same in
                let live = at_number (IsLive c.lines.begun c.opens c.pieces.next) c.pieces.lives number l o.tidy.pieces.each p.1.at in
                let told = t.lines l.line live.of_line.opened live.of_line.is_open in
                subst (λ (m : ℕ). LosesWrite b es (now_in b) m pv) own
                (own_caused pv number it l p.1.at
                (through_told l.line
                (at_number (IsOfThrough c.lines.begun) c.pieces.lives number l t.through p.1.at (or_true (is_some p.1.ticket)))
                (ap is_some told.1)) lost (h l p.1.at))

        by : (it : Waiting) × IsServed t pv it → LosesWrite b es (now_in b) line pv
        by s =
            of s.0 s.1 s.0.waiter refl
            (same_Some (line_of_waiter c s.0.waiter) line
            (sym (ap (λ (y : Option Waiting). option_map (λ (it : Waiting). line_of_waiter c it.waiter) y) s.1.first) ∙ may.first))
            (subst (λ (r : Option Waiting). IfSome r (λ it. awaited c.waits pv it.place ≡ Lost)) s.1.first may.lost)
            (k.waits pv s.0 (there (disk_waits c.waits pv).served s.1.first))
          where
            there : (l : List Waiting) → slice_get l 0 ≡ Some s.0 → Contains (l ++ (disk_waits c.waits pv).next) s.0
            there [] at = absurd (none-some s.0 at)
            there (x ∷ xs) at = (0, omega arith, same_Some x s.0 at)

    pub line_caused : (line : ℕ) (why : Answer) → Allowed w (LineFails line why) → HasCause b es (now_in b) line why
    line_caused line why may =
        subst (λ (a : Answer). HasCause b es (now_in b) line a) (sym may.1.is) (
          k.lost may.1.pv may.1.lost,
          inr (⊎_elim (λ flush. flush_caused line may.1.pv may.0 flush) (λ waits. wait_caused line may.1.pv waits) may.1.may),
        )
