-- What lasts as acts follow one another: the volumes, the disks' sizes and the entries so far; the lines that were begun, where none
-- is begun; and how many pieces more there is room for, where none enters.
use Rattle.std.proofs.Common.{◌≡◌, ℕ, Bool, true, ◌&&◌, List, [], ◌++◌, Option, None, Some, is_none, is_some}
use Rattle.std.proofs.Common.{refl, sym, ap, ◌∙◌, append_assoc, append-nil, true≢false}
use Rattle.std.specs.List.{list_any}
use Rattle.std.proofs.lemmas.Bool.{cond_both}
use mathlib.Core.List.{IsPrefix, prefix-append}
use Rattle.disk_model.specs.State.{State}
use Rattle.claim_table.specs.Claims.{Claims}
use Rattle.claim_table.specs.Steps as claims
use Rattle.flush_plan.specs.Plans.{marks_of}
use Rattle.flush_waits.specs.declared.ticket.Waiter.{Waiter}
use Rattle.flush_waits.specs.declared.ticket.Waiter.TheVariants as waiter
use Rattle.flush_waits.specs.declared.ticket.Waiting.{Waiting}
use Rattle.line_table.specs.declared.journal.JournalEntry.{JournalEntry}
use Rattle.line_table.specs.Steps as lines
use Rattle.piece_table.specs.Steps.{live_of}
use Rattle.world_acts.specs.declared.state.Core.{Core}
use Rattle.world_acts.specs.declared.open_line.OpenLine.{OpenLine}
use Rattle.world_acts.specs.Acts.{Act, Allowed, Answers, Asks, AsksFlush, Awaits, Begins, Ends, EndsFlush, Enters, Fails, Grows, Holds}
use Rattle.world_acts.specs.Acts.{LineFails, Marks, Passes, Reaches, Readies, Reads, Releases, Starts, Wakes, World, Writes}
use Rattle.world_acts.specs.Acts.{after, carries_on, core_released, goes_on, released_at}
use Rattle.world_acts.specs.OpenLines.{is_whole, open_of}
use Rattle.world_acts.specs.Steps.{after_answers, after_leaves, after_released, after_stays, after_written, taken_whole}
use Rattle.world_acts.proofs.Reaching.{reaches_keep}

-- ---- beginnings of the journal

pub same_begins : (xs ys : List JournalEntry) → ys ≡ xs → IsPrefix xs ys
same_begins xs ys same = ([], append-nil xs ∙ sym same)

pub begins_both : (xs ys zs : List JournalEntry) → IsPrefix xs ys → IsPrefix ys zs → IsPrefix xs zs
begins_both xs ys zs p q =
    (p.0 ++ q.0, sym (append_assoc xs p.0 q.0) ∙ ap (λ (l : List JournalEntry). l ++ q.0) p.1 ∙ q.1)

-- ---- one act

pub record Lasts (a : Act) (w v : World) : Type 0 where
  pub volumes : v.core.volumes ≡ w.core.volumes
  pub sizes : v.shelf.sizes ≡ w.shelf.sizes
  pub journal : IsPrefix w.core.lines.journal v.core.lines.journal
  pub begun : carries_on a ≡ true → v.core.lines.begun ≡ w.core.lines.begun
  pub spare : goes_on a ≡ true → v.core.pieces.claims.spare ≡ w.core.pieces.claims.spare

spare_left : (table : Claims) (number : ℕ) → (claims.after_leave table number).spare ≡ table.spare
spare_left table number =
    cond_both (list_any (claims.has_number number) table.started) (record table { started = claims.without table.started number })
    (record table { deferred = claims.without table.deferred number }) (λ (t : Claims). t.spare ≡ table.spare) (λ is. refl) (λ is. refl)

-- a line is answered: its entry, and before it its own where it took place as a whole
answer_lasts : (a : Act) (w : World) (barrier : Option ℕ) (line : ℕ)
    → Lasts a w (record w { core = after_answers (record w.core { barrier = barrier }) line w.shelf.steps })
answer_lasts a w barrier line =
    let table = w.core.lines in
    let opened : OpenLine = open_of w.core.opens line in
    let took = lines.after_took table line (lines.no_piece opened.key) w.shelf.steps in
    record {
      volumes = refl;
      sizes = refl;
      journal =
          begins_both table.journal (taken_whole table line opened w.shelf.steps).journal _
          (cond_both (is_whole opened.work && is_none opened.failure) took table (λ (t : lines.Lines). IsPrefix table.journal t.journal)
          (λ is. prefix-append table.journal _) (λ is. same_begins table.journal table.journal refl))
          (prefix-append (taken_whole table line opened w.shelf.steps).journal _);
      begun =
          λ is. cond_both (is_whole opened.work && is_none opened.failure) took table (λ (t : lines.Lines). t.begun ≡ table.begun)
          (λ is. refl) (λ is. refl);
      spare = λ is. refl;
    }

write_lasts : (a : Act) (w : World) (number pv : ℕ) → Lasts a w (after w (Writes number pv))
write_lasts a w number pv =
    let c : Core = w.core in
    let written : Core = after_written c number pv w.shelf.steps in
    cond_both (is_some (live_of c.pieces number).ticket) (after_stays written number pv (marks_of written.waits.plan pv).written)
    (after_leaves written number pv) (λ (d : Core). Lasts a w (record w { core = d }))
    (λ is. record {
      volumes = refl;
      sizes = refl;
      journal = prefix-append c.lines.journal _;
      begun = λ is. refl;
      spare = λ is. refl;
    })
    (λ is. record {
      volumes = refl;
      sizes = refl;
      journal = prefix-append c.lines.journal _;
      begun = λ is. refl;
      spare = λ is. spare_left c.pieces.claims number;
    })

-- the first that was served waits no more, if there is one
release_lasts : (a : Act) (w : World) (pv : ℕ) (first : Option Waiting) → Lasts a w (record w { core = core_released w.core pv first })
release_lasts a w pv None = record {
  volumes = refl;
  sizes = refl;
  journal = same_begins w.core.lines.journal w.core.lines.journal refl;
  begun = λ is. refl;
  spare = λ is. refl;
}
release_lasts a w pv (Some it) = of it.waiter
  where
    of : (x : Waiter) → Lasts a w (record w { core = after_released w.core x pv })
    of (waiter.Line line) = record {
      volumes = refl;
      sizes = refl;
      journal = same_begins w.core.lines.journal w.core.lines.journal refl;
      begun = λ is. refl;
      spare = λ is. refl;
    }
    of (waiter.Piece number) = record {
      volumes = refl;
      sizes = refl;
      journal = same_begins w.core.lines.journal w.core.lines.journal refl;
      begun = λ is. refl;
      spare = λ is. spare_left w.core.pieces.claims number;
    }

-- a world of the same volumes, lines and claims
quiet : (a : Act) (w v : World) → v.core.volumes ≡ w.core.volumes → v.shelf.sizes ≡ w.shelf.sizes
    → v.core.lines.journal ≡ w.core.lines.journal
    → v.core.lines.begun ≡ w.core.lines.begun
    → (goes_on a ≡ true → v.core.pieces.claims.spare ≡ w.core.pieces.claims.spare)
    → Lasts a w v
quiet a w v volumes sizes journal begun spare = record {
  volumes = volumes;
  sizes = sizes;
  journal = same_begins w.core.lines.journal v.core.lines.journal journal;
  begun = λ is. begun;
  spare = spare;
}

pub lasts_act : (w : World) (a : Act) → Allowed w a → Lasts a w (after w a)
lasts_act w (Begins line opened) allowed = record {
  volumes = refl;
  sizes = refl;
  journal = prefix-append w.core.lines.journal _;
  begun = λ is. absurd (true≢false (sym is));
  spare = λ is. refl;
}
lasts_act w (Enters line piece sectors ticket entry) allowed =
    quiet (Enters line piece sectors ticket entry) w (after w (Enters line piece sectors ticket entry)) refl refl refl refl
    (λ is. absurd (true≢false (sym is)))
lasts_act w (Awaits line pv) allowed = quiet (Awaits line pv) w (after w (Awaits line pv)) refl refl refl refl (λ is. refl)
lasts_act w (LineFails line why) allowed = quiet (LineFails line why) w (after w (LineFails line why)) refl refl refl refl (λ is. refl)
lasts_act w (Answers line) allowed = answer_lasts (Answers line) w w.core.barrier line
lasts_act w (Holds line) allowed = quiet (Holds line) w (after w (Holds line)) refl refl refl refl (λ is. refl)
lasts_act w (Passes line) allowed = answer_lasts (Passes line) w None line
lasts_act w Wakes allowed = quiet Wakes w (after w Wakes) refl refl refl refl (λ is. refl)
lasts_act w (Starts number) allowed = quiet (Starts number) w (after w (Starts number)) refl refl refl refl (λ is. refl)
lasts_act w (Asks number op tag now) allowed =
    quiet (Asks number op tag now) w (after w (Asks number op tag now)) refl allowed.0.sizes refl refl (λ is. refl)
lasts_act w (Ends done now) allowed = quiet (Ends done now) w (after w (Ends done now)) refl allowed.0.sizes refl refl (λ is. refl)
lasts_act w (Marks pv) allowed = quiet (Marks pv) w (after w (Marks pv)) refl refl refl refl (λ is. refl)
lasts_act w (Fails number why) allowed = record {
  volumes = refl;
  sizes = refl;
  journal = prefix-append w.core.lines.journal _;
  begun = λ is. refl;
  spare = λ is. spare_left w.core.pieces.claims number;
}
lasts_act w (Writes number pv) allowed = write_lasts (Writes number pv) w number pv
lasts_act w (Reads number sectors) allowed = record {
  volumes = refl;
  sizes = refl;
  journal = prefix-append w.core.lines.journal _;
  begun = λ is. refl;
  spare = λ is. spare_left w.core.pieces.claims number;
}
lasts_act w (AsksFlush pv tag now) allowed =
    quiet (AsksFlush pv tag now) w (after w (AsksFlush pv tag now)) refl allowed.0.sizes refl refl (λ is. refl)
lasts_act w (EndsFlush done now) allowed =
    quiet (EndsFlush done now) w (after w (EndsFlush done now)) refl allowed.0.sizes refl refl (λ is. refl)
lasts_act w (Releases pv) allowed = release_lasts (Releases pv) w pv (released_at w.core pv)
lasts_act w (Readies now) allowed =
    quiet (Readies now) w (after w (Readies now)) refl (ap (λ (s : State). s.sizes) allowed.0.same) refl refl (λ is. refl)
lasts_act w (Grows v) allowed =
    quiet (Grows v) w v (ap (λ (c : Core). c.volumes) allowed.core) (ap (λ (s : State). s.sizes) allowed.shelf)
    (ap (λ (c : Core). c.lines.journal) allowed.core) (ap (λ (c : Core). c.lines.begun) allowed.core) (λ is. absurd (true≢false (sym is)))

-- ---- acts that follow one another

pub volumes_reach : (may : Act → Bool) (w v : World) → Reaches may w v → v.core.volumes ≡ w.core.volumes
volumes_reach may w v goes =
    reaches_keep may (λ (x : World). x.core.volumes ≡ w.core.volumes) (λ x a is allowed e. (lasts_act x a allowed).volumes ∙ e)
    w v goes refl

pub sizes_reach : (may : Act → Bool) (w v : World) → Reaches may w v → v.shelf.sizes ≡ w.shelf.sizes
sizes_reach may w v goes =
    reaches_keep may (λ (x : World). x.shelf.sizes ≡ w.shelf.sizes) (λ x a is allowed e. (lasts_act x a allowed).sizes ∙ e)
    w v goes refl

pub journal_reaches : (may : Act → Bool) (w v : World) → Reaches may w v → IsPrefix w.core.lines.journal v.core.lines.journal
journal_reaches may w v goes =
    reaches_keep may (λ (x : World). IsPrefix w.core.lines.journal x.core.lines.journal)
    (λ x a is allowed begins.
    begins_both w.core.lines.journal x.core.lines.journal (after x a).core.lines.journal begins (lasts_act x a allowed).journal) w v goes
    (same_begins w.core.lines.journal w.core.lines.journal refl)

pub begun_reaches : (w v : World) → Reaches carries_on w v → v.core.lines.begun ≡ w.core.lines.begun
begun_reaches w v goes =
    reaches_keep carries_on (λ (x : World). x.core.lines.begun ≡ w.core.lines.begun)
    (λ x a is allowed e. (lasts_act x a allowed).begun is ∙ e) w v goes refl

pub spare_reaches : (w v : World) → Reaches goes_on w v → v.core.pieces.claims.spare ≡ w.core.pieces.claims.spare
spare_reaches w v goes =
    reaches_keep goes_on (λ (x : World). x.core.pieces.claims.spare ≡ w.core.pieces.claims.spare)
    (λ x a is allowed e. (lasts_act x a allowed).spare is ∙ e) w v goes refl
