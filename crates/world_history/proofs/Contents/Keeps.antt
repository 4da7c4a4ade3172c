-- What is kept of a world's contents, beside what its entries say: so runs whose shelf tells have one legal history.
use Rattle.std.proofs.Common.{◌≡◌, ℕ, ◌++◌, Bool, true, false, List, length, map, Option, None, Some, IfSome, is_some, option_map, refl}
use Rattle.std.proofs.Common.{sym, ap, subst, ◌∙◌, arith, true≢false}
use Rattle.std.specs.Option.{option_map_or}
use Rattle.std.proofs.lemmas.List.{length-map}
use Rattle.lvm_script.specs.declared.line.Line.{Line}
use Rattle.line_table.specs.Steps.{is_open}
use Rattle.disk_model.specs.State.{State}
use Rattle.disk_model.specs.Steps.{Record}
use Rattle.disk_model.specs.declared.ops.Done.{Done}
use Rattle.disk_model.specs.declared.ops.Op.{Op}
use Rattle.disk_model.specs.declared.ops.Op.TheVariants.{Flush as FlushOp, Read as ReadOp, Write as WriteOp}
use Rattle.piece_table.specs.declared.live.Owner.{Owner}
use Rattle.piece_table.specs.Pieces.{owner_at}
use Rattle.volume_history.specs.Changing.{HaveOwnNames}
use Rattle.volume_history.specs.Chronicles.{ChronicleEntry, Origin}
use Rattle.volume_history.specs.Laws.{HistoriesGrow}
use Rattle.volume_history.specs.Legal.{AllOrdered}
use Rattle.volume_history.specs.Placed.{volumes_of}
use Rattle.world_acts.specs.declared.open_line.OpenLine.{OpenLine}
use Rattle.world_acts.specs.Acts.{Act, Allowed, Answers, Asks, AsksFlush, Awaits, Begins, EndsFlush, Enters, Fails, Holds}
use Rattle.world_acts.specs.Acts.{LineFails, Passes, Releases, Runs, Starts, Wakes, World, after, flushing, follows, prepares, world}
use Rattle.world_acts.specs.OpenLines.{IsBarrier, after_closed, left_of, open_at, open_of}
use Rattle.world_acts.specs.Orderly.{IsOrderly}
use Rattle.world_acts.specs.Steps.{after_begins}
use Rattle.world_acts.proofs.LinesKept.{open_is}
use Rattle.world_acts.proofs.Orderly.{orderly_after}
use Rattle.world_acts.proofs.Tables.{some_of}
use Rattle.line_plans.specs.Plans.{opened_for}
use Rattle.io_core.specs.Events.{ending, settling_of}
use Rattle.world_history.specs.Entries.{answered, entries_by, entries_of}
use Rattle.world_history.specs.Told.{IsTold, none_coming}
use Rattle.world_history.proofs.Acts.{KeepsAlso}
use Rattle.world_history.proofs.EntryLists.{untaken, untold}
use Rattle.world_history.proofs.LineClosed.{line_ending}
use Rattle.world_history.specs.Contents.{HasContents}
use Rattle.world_history.proofs.Contents.ActsHold.{asks_flush_holds, asks_holds}
use Rattle.world_history.proofs.Contents.Begun.{begun_holds}
use Rattle.world_history.proofs.Contents.Closed.{closed_holds}
use Rattle.world_history.proofs.Contents.Failing.{fails_holds}
use Rattle.world_history.proofs.Contents.Settling.{ended_holds}
use Rattle.world_history.proofs.Contents.ShortActs.{awaits_holds, ends_flush_holds, enters_holds, grows_holds, line_fails_holds}
use Rattle.world_history.proofs.Contents.ShortActs.{line_holds_holds, marks_holds, readies_holds, releases_holds, starts_holds, wakes_holds}

-- what is told was told in so many steps
pub told_steps : {w : World} → IsOrderly w → (told : Record) → w.shelf.told ≡ Some told
    → w.shelf.steps ≡ length told.steps
told_steps {w} o told is =
    subst (λ (x : Option Record). IfSome x (λ (r : Record). w.shelf.steps ≡ length r.steps)) is o.backed.lawful.steps

module _ (grow : HistoriesGrow) (b : Origin) (names : HaveOwnNames (volumes_of b.version)) where
  -- ---- a line is answered

  module _ {w : World} {es : List ChronicleEntry} (o : IsOrderly w) (t : IsTold b.start none_coming w es) (c : HasContents b w es) (n : ℕ)
      (v : World) (shelf : v.shelf ≡ w.shelf) (opens : v.core.opens ≡ after_closed w.core.opens n)
      (volumes : v.core.volumes ≡ w.core.volumes) (pieces : v.core.pieces ≡ w.core.pieces) where
    found_holds : (x : OpenLine) → open_at w.core.opens n ≡ Some x → x.left ≡ 0 → AllOrdered b.start (answered w.shelf.steps n x ++ es)
        → HasContents b v (answered w.shelf.steps n x ++ es)
    found_holds x at nothing ordered =
        let told = t.lines n x at in
        let ends = line_ending t o (λ q y. refl) n x at nothing in
        closed_holds grow b w v es n x told.0.0 told.0.1 at told.1 told.2.does told.2.keyed
        (λ none part y covered. ends.took none y (ends.settled part y covered)) o.backed.places.laid c
        (told_steps o c.told c.is) opens shelf volumes pieces ordered

    answer_holds : is_some (open_at w.core.opens n) ≡ true → left_of w.core.opens n ≡ 0
        → AllOrdered b.start (answered w.shelf.steps n (open_of w.core.opens n) ++ es)
        → HasContents b v (answered w.shelf.steps n (open_of w.core.opens n) ++ es)
    answer_holds some left =
        let found : (x : OpenLine) × (open_at w.core.opens n ≡ Some x) = some_of (open_at w.core.opens n) some in
        let its : left_of w.core.opens n ≡ found.0.left =
        ap (λ (z : Option OpenLine). option_map_or (λ (q : OpenLine). q.left) z 0) found.1 in
        subst (λ (x : OpenLine). AllOrdered b.start (answered w.shelf.steps n x ++ es) → HasContents b v (answered w.shelf.steps n x ++ es))
        (sym (open_is w.core.opens n found.0 found.1)) (found_holds found.0 found.1 (sym its ∙ left))

  -- the line that waits for all others
  barrier_of : {w : World} → IsOrderly w → (n : ℕ) → w.core.barrier ≡ Some n → IsBarrier w.core.opens n
  barrier_of {w} o n is = subst (λ (x : Option ℕ). IfSome x (IsBarrier w.core.opens)) is o.tidy.lines.holds

  -- ---- what follows

  goes_holds : {w : World} {es : List ChronicleEntry} (a : Act) → follows a ≡ true → IsOrderly w → IsTold b.start none_coming w es
      → Allowed w a
      → AllOrdered b.start (entries_of w a ++ es)
      → HasContents b w es
      → HasContents b (after w a) (entries_of w a ++ es)
  goes_holds (LineFails line why) is o t may ordered c = line_fails_holds b o c line why may
  goes_holds {w} {es} (Answers line) is o t may ordered c =
      answer_holds o t c line (after w (Answers line)) refl refl refl refl may.0 may.1 ordered
  goes_holds (Holds line) is o t may ordered c = line_holds_holds b o c line may
  goes_holds {w} {es} (Passes line) is o t may ordered c =
      let alone = barrier_of o line may.0 in
      answer_holds o t c line (after w (Passes line)) refl refl refl refl (ap is_some alone.is_open)
      (ap (λ (z : Option OpenLine). option_map_or (λ (q : OpenLine). q.left) z 0) alone.is_open ∙ alone.alone) ordered
  goes_holds Wakes is o t may ordered c = wakes_holds b o c may
  goes_holds (Starts number) is o t may ordered c = starts_holds b o c number may
  goes_holds (Asks number op tag now) is o t may ordered c = asks_holds grow b o c number op tag now may
  goes_holds (Fails number why) is o t may ordered c = fails_holds grow b o t c names number why may ordered
  goes_holds (AsksFlush pv tag now) is o t may ordered c = asks_flush_holds grow b o c pv tag now may
  goes_holds (Releases pv) is o t may ordered c = releases_holds b o c t pv may
  goes_holds a is o t may ordered c = absurd (true≢false (sym is))

  prepares_holds : {coming : ℕ → ℕ → ℕ} {w : World} {es : List ChronicleEntry} (line : ℕ) (a : Act) → prepares line a ≡ true → IsOrderly w
      → IsTold b.start coming w es
      → Allowed w a
      → AllOrdered b.start (entries_of w a ++ es)
      → HasContents b w es
      → HasContents b (after w a) (entries_of w a ++ es)
  prepares_holds line (Enters n piece sectors ticket entry) is o t may ordered c = enters_holds b o c n piece sectors ticket entry may
  prepares_holds line (Awaits n pv) is o t may ordered c = awaits_holds b o c n pv may
  prepares_holds line (LineFails n why) is o t may ordered c = line_fails_holds b o c n why may
  prepares_holds line (Starts number) is o t may ordered c = starts_holds b o c number may
  prepares_holds line (Asks number op tag now) is o t may ordered c = asks_holds grow b o c number op tag now may
  prepares_holds line (Fails number why) is o t may ordered c = fails_holds grow b o t c names number why may ordered
  prepares_holds line a is o t may ordered c = absurd (true≢false (sym is))

  -- ---- a line is begun

  places : {w : World} → IsOrderly w → length w.core.opens.list ≡ length w.core.lines.begun
  places {w} o =
      let x : length (map is_some w.core.opens.list) ≡ length w.core.opens.list = length-map w.core.opens.list is_some in
      let y : length (map is_open w.core.lines.answers) ≡ length w.core.lines.answers = length-map w.core.lines.answers is_open in
      let same : length (map is_some w.core.opens.list) ≡ length (map is_open w.core.lines.answers) =
      ap (λ (l : List Bool). length l) o.tidy.lines.opened in
      omega (arith, o.tidy.lines.many, x, y, same)

  begins_holds : {w : World} {es : List ChronicleEntry} (line : Line) (opened : OpenLine) (barrier : Option ℕ)
      → opened ≡ opened_for w.core.volumes line.command
      → IsOrderly w
      → IsTold b.start none_coming w es
      → AllOrdered b.start (entries_of w (Begins line opened) ++ es)
      → HasContents b w es
      → HasContents b (world w.shelf (record (after_begins w.core line opened w.shelf.steps) { barrier = barrier }))
      (entries_of w (Begins line opened) ++ es)
  begins_holds {w} {es} line opened barrier is o t ordered c =
      let none = untold b.start es (length w.core.lines.begun) t.ordered (omega (arith, t.count)) in
      let h = begun_holds grow b w es line opened o.backed.places.laid is (places o)
      (λ k x. untaken es (length w.core.lines.begun) k x none.took) ordered.0 (told_steps o) c in
      record {
        told = h.told;
        is = h.is;
        holds = record {
          shows = h.holds.shows;
          brought = h.holds.brought;
          alone = h.holds.alone;
          apart = record {
            claimed = h.holds.apart.claimed;
            waiting = h.holds.apart.waiting;
            apart = h.holds.apart.apart;
          };
          volumes = h.holds.volumes;
        };
      }

  -- ---- an operation has completed

  ends_holds : {w mid : World} {es : List ChronicleEntry} (piece : Option ℕ) (done : Done) (now : State)
      → piece ≡ option_map (λ (owner : Owner). owner.piece) (owner_at w.core.pieces.owners done.tag)
      → IsOrderly w
      → IsTold b.start none_coming w es
      → Allowed w (ending piece done now)
      → Runs (after w (ending piece done now)) (settling_of piece done) mid
      → AllOrdered b.start (entries_by (after w (ending piece done now)) (settling_of piece done) es)
      → HasContents b w es
      → HasContents b mid (entries_by (after w (ending piece done now)) (settling_of piece done) es)
  ends_holds (Some number) done now whose o t may run ordered c =
      ended_holds grow b o t c names done now may number whose _ run ordered
  ends_holds {w} {mid} {es} None done now whose o t may run ordered c = by done.op done.well run
    where
      flushed : HasContents b (after w (EndsFlush done now)) es
      flushed = ends_flush_holds b o c grow done now may

      by : (op : Op) (well : Bool) → Runs (after w (EndsFlush done now)) (flushing op well) mid
          → HasContents b mid (entries_by (after w (EndsFlush done now)) (flushing op well) es)
      by (FlushOp pv) true run = subst (λ (x : World). HasContents b x es) (sym run) flushed
      by (FlushOp pv) false run =
          subst (λ (x : World). HasContents b x es) (sym run.1)
          (marks_holds b (orderly_after w (EndsFlush done now) o may) flushed pv run.0)
      by (WriteOp span sectors) well run = subst (λ (x : World). HasContents b x es) (sym run) flushed
      by (ReadOp span sectors) well run = subst (λ (x : World). HasContents b x es) (sym run) flushed

  -- ---- all of it

  pub keeps_contents : KeepsAlso b.start (λ line. HasContents b) (HasContents b)
  keeps_contents = record {
    goes = goes_holds;
    readies_line = prepares_holds;
    begins = begins_holds;
    prepared = λ line o t awaits c. c;
    ends = ends_holds;
    grows = λ o grows c. grows_holds b o c _ grows;
    readies = λ now o may c. readies_holds b o c now may;
  }
