-- Acts that follow one another: what each of them keeps told, all of them do.
use Rattle.std.proofs.Common.{◌≡◌, All, ℕ, ◌+◌, Bool, true, false, not, cond, ◌&&◌, ◌==◌, option_map, List, [], ◌∷◌, ◌++◌, Option, refl}
use Rattle.std.proofs.Common.{length, slice_get, sym, subst, arith, true≢false}
use Rattle.std.specs.Option.{option_map_or}
use Rattle.std.proofs.lemmas.Bool.{and_parts, eqb-true}
use Rattle.std.proofs.lemmas.List.Elements.{All-head, All-tail}
use Rattle.sector_base.specs.declared.places.Piece.{Piece}
use Rattle.data_lines.specs.DataLines.{in_range, is_flush}
use Rattle.claim_table.specs.declared.claim.By.{By}
use Rattle.disk_model.specs.State.{State}
use Rattle.disk_model.specs.declared.ops.Done.{Done}
use Rattle.lvm_script.specs.declared.line.Line.{Line}
use Rattle.piece_table.specs.declared.live.Owner.{Owner}
use Rattle.piece_table.specs.Pieces.{owner_at}
use Rattle.volume_history.specs.Chronicles.{ChronicleEntry}
use Rattle.volume_history.specs.Legal.{AllOrdered}
use Rattle.world_acts.specs.declared.open_line.OpenLine.{OpenLine}
use Rattle.world_acts.specs.Acts.{Act, Allowed, Answers, Asks, AsksFlush, Awaits, Enters, Fails, Holds, LineFails}
use Rattle.world_acts.specs.Acts.{Marks, Passes, Prepares, Reaches, Reads, Releases, Runs, Starts, Wakes, World, Writes, after, goes_on}
use Rattle.world_acts.specs.Acts.{Begins, IsGrown, Readies, follows, pieces_entered, prepares, settles, world}
use Rattle.world_acts.specs.Steps.{after_begins}
use Rattle.line_plans.specs.Plans.{opened_for}
use Rattle.io_core.specs.Beginning.{AwaitsAll}
use Rattle.io_core.specs.Events.{ending, settling_of}
use Rattle.world_acts.specs.Orderly.{IsOrderly}
use Rattle.world_acts.proofs.LinesKept.{hit}
use Rattle.world_acts.proofs.Orderly.{orderly_after}
use Rattle.world_acts.proofs.Reaching.{reaches_keep}
use Rattle.world_history.specs.Entries.{entries_by, entries_of}
use Rattle.world_history.specs.Told.{IsTold, none_coming}
use Rattle.world_history.proofs.Covering.{coming_of, covering, covering_more}
use Rattle.world_history.proofs.LineActs.{await_told, enter_told, hold_told, line_fail_told, release_told}
use Rattle.world_history.proofs.LineClosed.{answer_told}
use Rattle.world_history.proofs.Passed.{pass_told}
use Rattle.world_history.proofs.PieceActs.{fail_told, read_told, write_told}
use Rattle.world_history.proofs.Quiet.{line_still, quiet_told}
use Rattle.world_history.proofs.ShortActs.{ask_flush_told, ask_told, mark_told, start_told, wake_told}

-- what else is kept of a world and its entries, while these say what it has done: by what follows, by an end with what it came to, and
-- where more is ready or spare. From the begin of a line on, what is kept while this is prepared: at its end a line that flushes waits on
-- each disk.
pub record KeepsAlso (start : ℕ) (Preparing : ℕ → World → List ChronicleEntry → Type 0) (Also : World → List ChronicleEntry → Type 0)
    : Type 0 where
  pub goes :
      {w : World} {es : List ChronicleEntry} (a : Act) → follows a ≡ true → IsOrderly w → IsTold start none_coming w es → Allowed w a
      → AllOrdered start (entries_of w a ++ es)
      → Also w es
      → Also (after w a) (entries_of w a ++ es)
  pub readies_line :
      {coming : ℕ → ℕ → ℕ} {w : World} {es : List ChronicleEntry} (line : ℕ) (a : Act) → prepares line a ≡ true → IsOrderly w
      → IsTold start coming w es
      → Allowed w a
      → AllOrdered start (entries_of w a ++ es)
      → Preparing line w es
      → Preparing line (after w a) (entries_of w a ++ es)
  pub begins :
      {w : World} {es : List ChronicleEntry} (line : Line) (opened : OpenLine) (barrier : Option ℕ)
      → opened ≡ opened_for w.core.volumes line.command
      → IsOrderly w
      → IsTold start none_coming w es
      → AllOrdered start (entries_of w (Begins line opened) ++ es)
      → Also w es
      → Preparing (length w.core.lines.begun)
      (world w.shelf (record (after_begins w.core line opened w.shelf.steps) { barrier = barrier }))
      (entries_of w (Begins line opened) ++ es)
  pub prepared :
      {w : World} {es : List ChronicleEntry} (line : ℕ) → IsOrderly w → IsTold start none_coming w es
      → (option_map_or (λ (l : Line). is_flush l.command) (slice_get w.core.lines.begun line) false ≡ true → AwaitsAll w.core line)
      → Preparing line w es
      → Also w es
  pub ends :
      {w mid : World} {es : List ChronicleEntry} (piece : Option ℕ) (done : Done) (now : State)
      → piece ≡ option_map (λ (owner : Owner). owner.piece) (owner_at w.core.pieces.owners done.tag)
      → IsOrderly w
      → IsTold start none_coming w es
      → Allowed w (ending piece done now)
      → Runs (after w (ending piece done now)) (settling_of piece done) mid
      → AllOrdered start (entries_by (after w (ending piece done now)) (settling_of piece done) es)
      → Also w es
      → Also mid (entries_by (after w (ending piece done now)) (settling_of piece done) es)
  pub grows : {w v : World} {es : List ChronicleEntry} → IsOrderly w → IsGrown w v → Also w es → Also v es
  pub readies : {w : World} {es : List ChronicleEntry} (now : State) → IsOrderly w → Allowed w (Readies now) → Also w es
      → Also (after w (Readies now)) es

-- some entries say what a world has done
pub record HasToldEntries (start : ℕ) (Also : World → List ChronicleEntry → Type 0) (w : World) : Type 0 where
  pub orderly : IsOrderly w
  pub entries : List ChronicleEntry
  pub told : IsTold start none_coming w entries
  pub also : Also w entries

-- the same pieces are still to enter
pub same_coming : {start : ℕ} {coming coming' : ℕ → ℕ → ℕ} {w : World} {es : List ChronicleEntry} → ((q x : ℕ) → coming' q x ≡ coming q x)
    → IsTold start coming w es
    → IsTold start coming' w es
same_coming {start} {coming} {coming'} {w} same t =
    quiet_told t coming' w refl refl refl (omega arith)
    (λ n o at. line_still o (λ x. let s = same n x in omega (arith, s)) (omega arith) (t.lines n o at)) t.through t.waits

-- ---- what goes on

module _ (start : ℕ) (w : World) (o : IsOrderly w) (es : List ChronicleEntry) (t : IsTold start none_coming w es) where
  told_goes_on : (a : Act) → goes_on a ≡ true → Allowed w a → IsTold start none_coming (after w a) (entries_of w a ++ es)
  told_goes_on (LineFails line why) is may = line_fail_told t o line why may
  told_goes_on (Answers line) is may = answer_told t o (λ q x. refl) line may
  told_goes_on (Holds line) is may = hold_told t line may
  told_goes_on (Passes line) is may = pass_told t o (λ q x. refl) line may
  told_goes_on Wakes is may = wake_told t
  told_goes_on (Starts number) is may = start_told t o number may
  told_goes_on (Asks number op tag now) is may = ask_told t o number op tag now may
  told_goes_on (Marks pv) is may = mark_told t pv
  told_goes_on (Fails number why) is may = fail_told t o number why may
  told_goes_on (Writes number pv) is may = write_told t o number pv may
  told_goes_on (Reads number sectors) is may = read_told t o number sectors may
  told_goes_on (AsksFlush pv tag now) is may = ask_flush_told t pv tag now may
  told_goes_on (Releases pv) is may = release_told t o pv may
  told_goes_on a is may = absurd (true≢false (sym is))

pub goes_told : {start : ℕ} {Preparing : ℕ → World → List ChronicleEntry → Type 0} {Also : World → List ChronicleEntry → Type 0}
    {w v : World} → KeepsAlso start Preparing Also → Reaches follows w v
    → HasToldEntries start Also w
    → HasToldEntries start Also v
goes_told {start} {Preparing} {Also} {w} {v} keeps goes h =
    reaches_keep follows (HasToldEntries start Also)
    (λ u a is may k. let told = told_goes_on start u k.orderly k.entries k.told a (and_parts (goes_on a) (not (settles a)) is).0 may in
    record {
      orderly = orderly_after u a k.orderly may;
      entries = entries_of u a ++ k.entries;
      told = told;
      also = keeps.goes a is k.orderly k.told may told.ordered k.also;
    }) w v goes h

-- what an operation came to
pub settled_told : {start : ℕ} (acts : List Act) (w v : World) (es : List ChronicleEntry) → All (λ (a : Act). goes_on a ≡ true) acts
    → IsOrderly w
    → IsTold start none_coming w es
    → Runs w acts v
    → IsOrderly v × IsTold start none_coming v (entries_by w acts es)
settled_told {start} [] w v es all o t run =
    subst (λ (x : World). IsOrderly x × IsTold start none_coming x es) (sym run) (o, t)
settled_told {start} (a ∷ acts) w v es all o t run =
    settled_told acts (after w a) v (entries_of w a ++ es) (All-tail (λ (b : Act). goes_on b ≡ true) a acts all)
    (orderly_after w a o run.0)
    (told_goes_on start w o es t a (All-head (λ (b : Act). goes_on b ≡ true) a acts all) run.0) run.1

-- ---- a line is prepared

module _ (start : ℕ) {Preparing : ℕ → World → List ChronicleEntry → Type 0} {Also : World → List ChronicleEntry → Type 0}
    (keeps : KeepsAlso start Preparing Also) (line : ℕ) where
  -- of these pieces are still to enter
  record IsPreparing (pieces : List Piece) (w : World) : Type 0 where
    orderly : IsOrderly w
    entries : List ChronicleEntry
    told : IsTold start (coming_of line pieces) w entries
    also : Preparing line w entries

  enters_less : (n : ℕ) (piece : Piece) (pieces : List Piece) → (n == line) ≡ true → (q x : ℕ)
      → coming_of line (piece ∷ pieces) q x ≡ coming_of line pieces q x + hit ((n == q) && in_range piece.first piece.count x)
  enters_less n piece pieces own q x =
      subst (λ (k : ℕ). coming_of line (piece ∷ pieces) q x
      ≡ coming_of line pieces q x + hit ((k == q) && in_range piece.first piece.count x)) (sym (eqb-true n line own))
      (by (line == q))
    where
      by : (b : Bool)
          → cond b (covering x (piece ∷ pieces)) 0 ≡ cond b (covering x pieces) 0 + hit (b && in_range piece.first piece.count x)
      by true = let more = covering_more x piece pieces in omega (arith, more)
      by false = refl_zero
        where
          refl_zero : ◌≡◌ {A = ℕ} 0 (0 + 0)
          refl_zero = omega arith

  later : (a : Act) (acts : List Act) → All (λ (b : Act). prepares line b ≡ true) (a ∷ acts)
      → All (λ (b : Act). prepares line b ≡ true) acts
  later a acts all = All-tail (λ (b : Act). prepares line b ≡ true) a acts all

  first : (a : Act) (acts : List Act) → All (λ (b : Act). prepares line b ≡ true) (a ∷ acts) → prepares line a ≡ true
  first a acts all = All-head (λ (b : Act). prepares line b ≡ true) a acts all

  next : (a : Act) (acts : List Act) {pieces : List Piece} (w : World) (k : IsPreparing pieces w) → prepares line a ≡ true → Allowed w a
      → IsTold start (coming_of line (pieces_entered acts)) (after w a) (entries_of w a ++ k.entries)
      → IsPreparing (pieces_entered acts) (after w a)
  next a acts w k is may told = record {
    orderly = orderly_after w a k.orderly may;
    entries = entries_of w a ++ k.entries;
    told = told;
    also = keeps.readies_line line a is k.orderly k.told may told.ordered k.also;
  }

  prepared : (acts : List Act) (w v : World) → All (λ (a : Act). prepares line a ≡ true) acts → Runs w acts v
      → IsPreparing (pieces_entered acts) w
      → IsPreparing [] v
  prepared [] w v all run k = subst (λ (x : World). IsPreparing [] x) (sym run) k
  prepared (Enters n piece sectors ticket entry ∷ acts) w v all run k =
      let own : (n == line) ≡ true = first (Enters n piece sectors ticket entry) acts all in
      prepared acts (after w (Enters n piece sectors ticket entry)) v (later (Enters n piece sectors ticket entry) acts all) run.1
      (next (Enters n piece sectors ticket entry) acts w k (first (Enters n piece sectors ticket entry) acts all) run.0
      (enter_told k.told (coming_of line (pieces_entered acts)) n piece sectors ticket entry
      (enters_less n piece (pieces_entered acts) own) run.0))
  prepared (Awaits n pv ∷ acts) w v all run k =
      prepared acts (after w (Awaits n pv)) v (later (Awaits n pv) acts all) run.1
      (next (Awaits n pv) acts w k (first (Awaits n pv) acts all) run.0
      (await_told k.told k.orderly n pv run.0))
  prepared (LineFails n why ∷ acts) w v all run k =
      prepared acts (after w (LineFails n why)) v (later (LineFails n why) acts all) run.1
      (next (LineFails n why) acts w k (first (LineFails n why) acts all) run.0
      (line_fail_told k.told k.orderly n why run.0))
  prepared (Starts number ∷ acts) w v all run k =
      prepared acts (after w (Starts number)) v (later (Starts number) acts all) run.1
      (next (Starts number) acts w k (first (Starts number) acts all) run.0
      (start_told k.told k.orderly number run.0))
  prepared (Asks number op tag now ∷ acts) w v all run k =
      prepared acts (after w (Asks number op tag now)) v (later (Asks number op tag now) acts all) run.1
      (next (Asks number op tag now) acts w k (first (Asks number op tag now) acts all) run.0
      (ask_told k.told k.orderly number op tag now run.0))
  prepared (Fails number why ∷ acts) w v all run k =
      prepared acts (after w (Fails number why)) v (later (Fails number why) acts all) run.1
      (next (Fails number why) acts w k (first (Fails number why) acts all) run.0
      (fail_told k.told k.orderly number why run.0))
  prepared (a ∷ acts) w v all run k =
      absurd (true≢false (sym (All-head (λ (b : Act). prepares line b ≡ true) a acts all)))

  pub prepares_told : {pieces : List Piece} {by : Option By} {w v : World} → Prepares line pieces by w v → IsOrderly w
      → (es : List ChronicleEntry)
      → IsTold start (coming_of line pieces) w es
      → Preparing line w es
      → HasToldEntries start (Preparing line) v
  prepares_told {pieces} {by} {w} {v} p orderly es t also =
      let k = prepared p.reaches.acts w v p.reaches.all p.reaches.run
      (record {
        orderly = orderly;
        entries = es;
        told = subst (λ (l : List Piece). IsTold start (coming_of line l) w es) (sym p.entered) t;
        also = also;
      }) in
      record {
        orderly = k.orderly;
        entries = k.entries;
        told = same_coming (λ q x. sym (no_more (line == q))) k.told;
        also = k.also;
      }
    where
      no_more : (b : Bool) → ◌≡◌ {A = ℕ} (cond b 0 0) 0
      no_more true = refl
      no_more false = refl

  -- and its preparation ends
  pub prepared_told : {w : World}
      → (option_map_or (λ (l : Line). is_flush l.command) (slice_get w.core.lines.begun line) false ≡ true → AwaitsAll w.core line)
      → HasToldEntries start (Preparing line) w
      → HasToldEntries start Also w
  prepared_told {w} awaits h = record {
    orderly = h.orderly;
    entries = h.entries;
    told = h.told;
    also = keeps.prepared line h.orderly h.told awaits h.also;
  }
