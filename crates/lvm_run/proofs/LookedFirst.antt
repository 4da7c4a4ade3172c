-- A run whose disks are looked at first.
use Rattle.std.proofs.Common.{◌≡◌, ◌≢◌, ◌<◌, ⊎_elim, ℕ, ◌≤◌, ◌^◌, Bool, true, false, true≢false, is_some, List, [], ◌∷◌, length}
use Rattle.std.proofs.Common.{slice_index_or, All, Contains, Option, Some, None, IfOk}
use Rattle.std.proofs.Common.{IfSome}
use Rattle.std.proofs.Common.{Result, Ok, Err, refl, sym, ap, subst, ◌∙◌, arith}
use Rattle.std.specs.Prelude.{MatchOption, MatchResult}
use Rattle.std.specs.Option.{option_and_then}
use Rattle.std.proofs.lemmas.List.Elements.{All-nil}
use Rattle.std.proofs.lemmas.Option.{same_Some}
use Rattle.sector_base.specs.declared.spans.Span.{Span}
use Rattle.command_table.specs.declared.request.Request.{Request}
use Rattle.command_table.specs.declared.request.Request.TheVariants.{One, Session, Demo}
use Rattle.command_table.specs.Options.{Word}
use Rattle.lvm_words.specs.declared.command_line.CommandLine.{CommandLine}
use Rattle.lvm_words.specs.CommandLines.{command_line_of}
use Rattle.lvm_words.proofs.LineNames.{names_of_line}
use Rattle.disk_model.specs.Faults.{HasSameFaults}
use Rattle.disk_model.specs.Since.{ReadsAlone, writes_submitted}
use Rattle.disk_model.specs.State.{State}
use Rattle.disk_model.specs.Steps.{Step, Record, Submitted, Completed, Reading, Writing, Flushing, now_after}
use Rattle.vg_scan.specs.Scans.{HoldsNow}
use Rattle.disk_use.specs.declared.in_use.InUse.{InUse as UsedDisk}
use Rattle.disk_use.specs.declared.use_refusal.UseRefusal.{UseRefusal}
use Rattle.disk_use.specs.Faults.{IsUseFault}
use Rattle.disk_use.specs.LookedAt.{LooksOnly}
use Rattle.disk_use.specs.Taken.{is_new, taken_by}
use Rattle.disk_use.specs.Uses.{IsFree, IsUsedBy}
use Rattle.disk_use.proofs.Looking.{now_weaker}
use Rattle.lvm_run.specs.declared.not_run.NotRun.TheVariants.{InUse, Untold}
use Rattle.lvm_run.specs.Disks.{HasDisks}
use Rattle.lvm_run.specs.Guarded.{AreFree, Asks, IsWhyNotRun, LeavesUsed, LooksAtMost, Takes}
use Rattle.lvm_run.specs.InUse.{LeavesInUse}
use Rattle.lvm_run.specs.Sessions.{asks_session, session_in}

-- ---- what the words ask for

-- words without a meaning ask for nothing, so that none of its disks is in use
pub free_unmeant : (words : List Word) (old : State) → command_line_of words ≡ None → AreFree words old
free_unmeant words old none =
    λ names request asks. absurd (let never : ◌≡◌ {A = Option CommandLine} None (Some asks.line) = sym none ∙ asks.is_line in cc)

module _ (words : List Word) (line : CommandLine) (is : command_line_of words ≡ Some line) where
  -- what words ask for is the request of their line
  its_request : (names : List Word) (request : Request) → Asks words names request → (line.names ≡ names) × (line.request ≡ request)
  its_request names request asks =
      let same : line ≡ asks.line = same_Some line asks.line (sym is ∙ asks.is_line) in
      (ap (λ (l : CommandLine). l.names) same ∙ sym asks.is_names, ap (λ (l : CommandLine). l.request) same ∙ asks.is_request)

  -- where the disks of the line's request are free, those of the words are
  pub free_asked : (old : State)
      → HoldsNow old.told (λ image. All (IsFree (is_new line.request) image old.sizes) (taken_by line.names line.request))
      → AreFree words old
  free_asked old free = λ names request asks.
      let its = its_request names request asks in
      subst (λ (r : Request). HoldsNow old.told (λ image. All (IsFree (is_new r) image old.sizes) (taken_by names r))) its.1
      (subst (λ (l : List Word). HoldsNow old.told (λ image. All (IsFree (is_new line.request) image old.sizes) (taken_by l line.request)))
      its.0 free)

  -- what the disks of the line's request show, those of the words show
  pub asked_cause : (old new : State) (result : Result (Option UsedDisk) UseRefusal)
      → MatchResult result
      (λ found. HasSameFaults old new × HoldsNow old.told
      (λ image. MatchOption found (All (IsFree (is_new line.request) image old.sizes) (taken_by line.names line.request))
      (λ used. Contains (taken_by line.names line.request) used.pv × IsUsedBy (is_new line.request) image old.sizes used.pv used.by)))
      (IsUseFault old new)
      → IfOk result (λ found. IfSome found (λ used. Contains (taken_by line.names line.request) used.pv))
      → MatchResult result (λ found. MatchOption found (AreFree words old) (λ used. IsWhyNotRun words old (InUse used) new))
      (λ refusal. IsWhyNotRun words old (Untold refusal) new)
  asked_cause old new (Ok None) cause taken = free_asked old cause.1
  asked_cause old new (Ok (Some used)) cause taken = record {
    names = line.names;
    request = line.request;
    asks = record { line = line; is_line = is; is_names = refl; is_request = refl };
    taken = taken;
    by =
        now_weaker old.told
        (λ image. Contains (taken_by line.names line.request) used.pv × IsUsedBy (is_new line.request) image old.sizes used.pv used.by)
        (λ image. IsUsedBy (is_new line.request) image old.sizes used.pv used.by) (λ image is_so. is_so.1) cause.1;
    faults = cause.0;
  }
  asked_cause old new (Err refusal) cause taken = cause

-- ---- the disks afterwards

-- they are still those of the words
pub disks_again : (words : List Word) (old new : State) → HasDisks words old → LooksAtMost old new → HasDisks words new
disks_again words old new has looks = ⊎_elim
    (λ (same : new ≡ old). subst (HasDisks words) (sym same) has)
    (λ (looked : LooksOnly old new). λ names named.
    let are = has names named in
    let sizes = looked.again.sizes in
    record {
      many = ap (λ (l : List ℕ). length l) sizes ∙ are.many;
      least = λ pv lt. subst (λ (l : List ℕ). 8 ≤ slice_index_or l pv 0) (sym sizes) (are.least pv lt);
      most = λ pv lt. subst (λ (l : List ℕ). slice_index_or l pv 0 ≤ 2 ^ 40) (sym sizes) (are.most pv lt);
      idle = looked.again.idle;
    })
    looks

-- ---- writes

-- none was found
pub none_found : {A : Type 0} (B : UsedDisk → Type 0) (found : Option UsedDisk) → found ≡ None → MatchOption found A B → A
none_found B None is none = none
none_found B (Some used) is some = absurd cc

reads_write_nothing : (steps : List Step) → ReadsAlone steps → writes_submitted steps ≡ []
reads_write_nothing [] alone = refl
reads_write_nothing (Submitted tag (Reading span) ∷ steps) alone = reads_write_nothing steps alone
reads_write_nothing (Submitted tag (Writing span sectors) ∷ steps) alone = absurd alone
reads_write_nothing (Submitted tag (Flushing pv) ∷ steps) alone = absurd alone
reads_write_nothing (Completed tag (Reading span) well fresh ∷ steps) alone = reads_write_nothing steps alone
reads_write_nothing (Completed tag (Writing span sectors) well fresh ∷ steps) alone = absurd alone
reads_write_nothing (Completed tag (Flushing pv) well fresh ∷ steps) alone = absurd alone

abbrev Write : Type 0
Write = Span × List (List ℕ)

-- where nothing but reads was done, no disk was written
pub left_looked_at : (words : List Word) (old new : State) → LooksAtMost old new → LeavesUsed words old new
left_looked_at words old new looks = λ pv before told takes. ⊎_elim
    (λ (same : new ≡ old). (
      before,
      ap (λ (s : State). s.told) same ∙ told,
      record { since = []; steps = refl; none = All-nil (λ (w : Write). w.0.pv ≢ pv) },
    ))
    (λ (looked : LooksOnly old new).
    let after = looked.told before told in
    let reads = after.2.1 in (
      after.0,
      after.1,
      record {
        since = reads.since;
        steps = reads.steps;
        none =
            subst (All (λ (w : Write). w.0.pv ≢ pv)) (sym (reads_write_nothing reads.since reads.reads))
            (All-nil (λ (w : Write). w.0.pv ≢ pv));
      },
    ))
    looks

-- ---- what is taken

-- by whether they ask for a session
pub either_way : {A : Type 0} (test : Bool) → (test ≡ true → A) → (test ≡ false → A) → A
either_way true a b = a refl
either_way false a b = b refl

-- whether the request is a session
abbrev is_session : Request → Bool
is_session request = is_some (session_in request)

asks_by : (words names : List Word) (request : Request) → Asks words names request → asks_session words ≡ is_session request
asks_by words names request asks =
    ap (λ (o : Option CommandLine). is_some (option_and_then (λ (l : CommandLine). session_in l.request) o)) asks.is_line
    ∙ ap is_session asks.is_request

-- a command takes what its words name
taken_by_words : (names : List Word) (request : Request) (pv : ℕ) → is_session request ≡ false → Takes names request pv
    → Contains (taken_by names request) pv
taken_by_words names (One command) pv other takes = takes
taken_by_words names (Session session) pv other takes = absurd (true≢false other)
taken_by_words names (Demo seed lines workers) pv other takes = takes

-- where none of the disks that are taken is in use, none that is in use was written
pub left_free : (words : List Word) (old new : State) → asks_session words ≡ false → AreFree words old → LeavesUsed words old new
left_free words old new other free = λ pv before told takes.
    let all : HoldsNow old.told (λ image. All (IsFree (is_new takes.request) image old.sizes) (taken_by takes.names takes.request)) =
    free takes.names takes.request takes.asks in
    let now : All (IsFree (is_new takes.request) (now_after before.opened before.steps) old.sizes) (taken_by takes.names takes.request) =
    subst (λ (t : Option Record). HoldsNow t
    (λ image. All (IsFree (is_new takes.request) image old.sizes) (taken_by takes.names takes.request))) told all in
    let taken =
    taken_by_words takes.names takes.request pv (sym (asks_by words takes.names takes.request takes.asks) ∙ other) takes.taken in
    absurd (takes.used (subst (IsFree (is_new takes.request) (now_after before.opened before.steps) old.sizes) taken.2
    (now taken.0 pv taken.1)))

-- ---- sessions

-- a session takes each disk, and makes no physical volume
taken_by_session : (names : List Word) (request : Request) (pv : ℕ) → is_session request ≡ true → Takes names request pv
    → (pv < length names) × (is_new request ≡ false)
taken_by_session names (One command) pv is takes = absurd (true≢false (sym is))
taken_by_session names (Session session) pv is takes = (takes, refl)
taken_by_session names (Demo seed lines workers) pv is takes = absurd (true≢false (sym is))

-- where none in use was written, none that a session takes was
pub left_by_session : (words : List Word) (old new : State) → asks_session words ≡ true → HasDisks words old → LeavesInUse old new
    → LeavesUsed words old new
left_by_session words old new asks has leaves = λ pv before told takes.
    let its =
    taken_by_session takes.names takes.request pv (sym (asks_by words takes.names takes.request takes.asks) ∙ asks) takes.taken in
    let line = takes.asks.line in
    let many : length old.sizes ≡ length takes.names =
    (has line.names (names_of_line words line takes.asks.is_line)).many ∙ ap (λ (l : List Word). length l) (sym takes.asks.is_names) in
    leaves pv before told (omega (arith, its.0, many))
    (λ free. takes.used (subst (λ (new : Bool). IsFree new (now_after before.opened before.steps) old.sizes pv) (sym its.1) free))

-- nothing is looked at of words that ask for a session
pub none_taken : (words : List Word) (line : CommandLine) → command_line_of words ≡ Some line → asks_session words ≡ true
    → taken_by line.names line.request ≡ []
none_taken words line is asks =
    at line.request
    (sym (asks_by words line.names line.request (record { line = line; is_line = is; is_names = refl; is_request = refl })) ∙ asks)
  where
    at : (request : Request) → is_session request ≡ true → taken_by line.names request ≡ []
    at (One command) session = absurd (true≢false (sym session))
    at (Session s) session = refl
    at (Demo seed lines workers) session = absurd (true≢false (sym session))
