-- A session completes.
use Rattle.std.proofs.Common.{◌≡◌, ◌<◌, ◌⊎◌, ℕ, ◌+◌, Bool, true, false, ◌||◌, All, Contains, List, [], ◌∷◌, ◌++◌, length, map}
use Rattle.std.proofs.Common.{if◌then◌else◌, append-nil, Option, None, Some, IfSome, Result, Ok, Err, inl, inr, refl, sym, ap, subst, ◌∙◌}
use Rattle.std.proofs.Common.{arith, find, get_or, true≢false}
use Rattle.std.specs.Cmp.{nat_cmp_total}
use Rattle.std.specs.FinSet as set
use Rattle.std.specs.List.{AllByRecursion, list_any, range_with_len}
use Rattle.std.specs.Ordering.{nat_cmp}
use Rattle.std.proofs.lemmas.List.Elements.{All-contains_itself, All-weaker, recursion_from_All}
use Rattle.std.proofs.lemmas.List.Folds.{list_any-append}
use Rattle.std.proofs.lemmas.Option.{none-some}
use Rattle.byte_streams.specs.Streams.{HasRisen, WritesText}
use Rattle.command_table.specs.declared.command.Command.{Command}
use Rattle.command_table.specs.declared.request.Session.{Session}
use Rattle.command_table.specs.Options.{Word}
use Rattle.line_answers.specs.declared.answer.Answer.{Answer}
use Rattle.line_answers.specs.declared.answer.Answer.TheVariants as answer
use Rattle.lvm_script.specs.declared.line.Line.{Line}
use Rattle.lvm_script.specs.Script.{AreLines}
use Rattle.disk_model.specs.Faults.{HasSameFaults}
use Rattle.disk_model.specs.State.{State}
use Rattle.disk_model.specs.Steps.{Image, Record, now_after}
use Rattle.line_table.specs.declared.journal.JournalEntry.{JournalEntry}
use Rattle.vg_found.specs.declared.found.Found.{Found}
use Rattle.vg_found.specs.Whole.{first_of}
use Rattle.vg_scan.specs.Scans.{FailedOn, HoldsNow, IsScanOf}
use Rattle.vg_repair.specs.Repairing.{IsFault as IsRepairFault}
use Rattle.vg_repair.specs.declared.fault.RepairFault.{RepairFault}
use Rattle.vg_repair.specs.declared.fault.RepairFault.TheVariants as repair
use Rattle.volume_history.specs.Commands.{is_good}
use Rattle.world_history.specs.Faults.{NameFaults, disk_named}
use Rattle.world_history.proofs.PlainAnswers.{is_plain}
use Rattle.session_run.proofs.AllAnswered.{AreAllBegun, IsAnswered, IsWanting, lines_answered, lines_begun}
use Rattle.session_run.specs.SessionScript.{session_commands}
use Rattle.session_run.specs.Status.{is_device, is_refusal, is_wanting, status_of_lines}
use Rattle.lvm_run.specs.Changing.{ending_of}
use Rattle.lvm_run.specs.CommandSpec.{Lacks, Refuses}
use Rattle.lvm_run.specs.Completeness.{AreDone, AreReady, CanBeTaken, Completes, HasScript, NoneRefused, NoneRose}
use Rattle.lvm_run.specs.Endings.{status_of_ending}
use Rattle.lvm_run.specs.Scan.{FindsWhole, IsOpenCause, IsOpened}
use Rattle.lvm_run.specs.Sessions.{EndedBefore, InUse, IsEndedBefore, IsScriptCause, IsSessionCause, IsUnready, NoLines, OpensAndRepairs}
use Rattle.lvm_run.specs.Sessions.{Ran, ReadsLines, RunsScript, SessionEnds, SessionOutcome, Unbegun, Unbuilt, Unknown, Unopened, Unready}
use Rattle.lvm_run.specs.Sessions.{Unrepaired, is_built_session, session_text, status_if}
use Rattle.lvm_run.specs.Sourced.{GivesText, SourceState}
use Rattle.lvm_run.specs.declared.ending.Ending.{Ending}
use Rattle.lvm_run.specs.declared.ending.Ending.TheVariants as ending
use Rattle.lvm_run.proofs.Statuses.{fails, refuses, wants}

-- ---- the script

err_ok : {A E : Type 0} (e : E) (x : A) → Err e ≡ Ok x → ⊥
err_ok e x is = cc

ok_same : {A E : Type 0} (x y : A) → ◌≡◌ {A = Result A E} (Ok x) (Ok y) → x ≡ y
ok_same x y is = cc

module _ (from to : SourceState) (commands : List (ℕ × Command)) (h : HasScript from commands) where
  -- the text that the source gave is the script's
  its_text : (text : List ℕ) → GivesText true text from to → text ≡ h.text
  its_text text gives = subst (λ (left : Option (List ℕ)). IfSome left (λ bytes. text ≡ bytes)) h.told gives.1

  its_commands : (text : List ℕ) → GivesText true text from to → session_commands text ≡ Ok commands
  its_commands text gives = ap session_commands (its_text text gives) ∙ h.meant

  -- so there is none only where memory was wanting
  script_wanting : ¬ HasRisen from.faults to.faults → (why : Ending) → IsScriptCause from to why → why ≡ ending.NoMemory
  script_wanting rose ending.NoMemory is = refl
  script_wanting rose ending.SourceFailed is = absurd (rose is)
  script_wanting rose ending.ScriptTooLong is =
      let long : 16777216 < length h.text =
      subst (λ (left : Option (List ℕ)). IfSome left (λ bytes. 16777216 < length bytes)) h.told is in
      absurd (omega (arith, long, h.fits))
  script_wanting rose (ending.ScriptRefused line fault place) (text, gives, refused) =
      absurd (err_ok (line, fault, place) commands (sym refused ∙ its_commands text gives))
  script_wanting rose why is = absurd is

  -- and its lines have its numbers
  numbers_drawn : (before : ℕ → List ℕ) (own : List (ℕ × Command)) (lines : List Line) (after : ℕ → List ℕ)
      → AreLines before own lines after
      → map (λ (l : Line). l.number) lines ≡ map (λ (c : ℕ × Command). c.0) own
  numbers_drawn before [] [] after are = refl
  numbers_drawn before [] (line ∷ lines) after are = elim are [ ]
  numbers_drawn before (command ∷ own) [] after are = elim are [ ]
  numbers_drawn before ((number, command) ∷ own) (line ∷ lines) after are =
      λ i. (are.0 i).number ∷ numbers_drawn are.1.0 own lines after are.1.2 i

  its_numbers : (ids ids_after : ℕ → List ℕ) (lines : List Line) → ReadsLines from to ids lines ids_after
      → map (λ (l : Line). l.number) lines ≡ map (λ (c : ℕ × Command). c.0) commands
  its_numbers ids ids_after lines r =
      numbers_drawn ids r.commands lines ids_after r.drawn
      ∙ ap (λ (own : List (ℕ × Command)). map (λ (c : ℕ × Command). c.0) own)
      (ok_same r.commands commands (sym r.meant ∙ its_commands r.text r.gives))

-- ---- the disks

-- no disk is the first of none
none_found : (test : ℕ → Bool) (numbers : List ℕ) → ((n : ℕ) → test n ≡ false) → find test numbers ≡ None
none_found test [] none = refl
none_found test (n ∷ numbers) none = rw (none n) (none_found test numbers none)

none_first : first_of set.empty ≡ None
unfolding first_of
none_first = none_found (set.contains set.empty) (range_with_len 0 64) (set.contains-empty nat_cmp)

-- where no count has risen no disk is unread
none_unread : (unread : set.FinSet nat_cmp) (old new : State) → HasSameFaults old new → FailedOn unread old new → unread ≡ set.empty
none_unread unread old new same failed =
    set.same_set nat_cmp_total set.nat_cmp-IsAntisymmetric unread set.empty
    (λ pv. absent pv (set.contains unread pv) refl ∙ sym (set.contains-empty nat_cmp pv))
  where
    absent : (pv : ℕ) (b : Bool) → set.contains unread pv ≡ b → b ≡ false
    absent pv true there = let rose = failed.rose pv there in absurd (omega (arith, rose, same pv))
    absent pv false there = refl

module _ (forced : Bool) (old : State) (ready : AreReady forced old) where
  abbrev image : Image
  image = now_after ready.handed.opened ready.handed.steps

  held : (P : Image → Type 0) → HoldsNow old.told P → P image
  held P h = subst (λ (told : Option Record). HoldsNow told P) ready.told h

  -- what was found can be taken
  can_take : (found : Found) (new : State) → IsOpened old found new → CanBeTaken forced found
  can_take found new is = ready.taken found (held (λ i. IsScanOf i old.sizes found) is.now, is.whole.read, is.whole)

  module _ (new : State) (same : HasSameFaults old new) where
    opens_wanting : (why : Ending) → IsOpenCause old new why → why ≡ ending.NoMemory
    opens_wanting ending.NoMemory is = refl
    opens_wanting (ending.OpenFailed pv) is = absurd (omega (arith, is.one, same pv))
    opens_wanting (ending.ScanReadFailed pv) (unread, failed, finds) =
        let lacks = held (λ i. FindsWhole i old.sizes unread (Lacks pv)) finds in
        absurd (none-some pv (sym none_first ∙ ap first_of (sym (none_unread unread old new same failed)) ∙ lacks.3))
    opens_wanting (ending.ScanRefused refusal whole) (unread, by, finds) =
        absurd (ready.accepted refusal
        (subst (λ (pvs : set.FinSet nat_cmp). FindsWhole image old.sizes pvs (Refuses refusal)) (none_unread unread old new same by.failed)
        (held (λ i. FindsWhole i old.sizes unread (Refuses refusal)) finds)))
    opens_wanting why is = absurd is

    repair_wanting : (fault : RepairFault) → OpensAndRepairs old (Err fault) new → ending_of fault ≡ ending.NoMemory
    repair_wanting fault o = by fault o.repairs.cause
      where
        by : (f : RepairFault) → IsRepairFault o.found o.opened new f → ending_of f ≡ ending.NoMemory
        by repair.NoMemory is = refl
        by (repair.Pv pv) is = let rose = is.1 in absurd (omega (arith, rose, same pv, o.opens.cause.faults pv))
        by (repair.TooLarge pv need room) is =
            absurd (none-some (pv, need, room) (sym (can_take o.found o.opened o.opens.cause).room ∙ is.1))

    unready_wanting : (why : Ending) → IsUnready forced old why new → why ≡ ending.NoMemory
    unready_wanting why (Unopened is) = opens_wanting why is.cause
    unready_wanting why (InUse unforced is) =
        absurd (is.unlisted.1 ((can_take is.found new is.opens.cause).listed unforced is.pv is.unlisted.0))
    unready_wanting why (Unrepaired fault is o) = is ∙ repair_wanting fault o

-- a session that ended before its lines wanted memory
wanting_before : (forced : Bool) (session : Session) (from to : SourceState) (ids ids_after : ℕ → List ℕ) (old new : State)
    (commands : List (ℕ × Command)) (why : Ending) → is_built_session session ≡ true → HasScript from commands → AreReady forced old
    → ¬ HasRisen from.faults to.faults → HasSameFaults old new
    → IsEndedBefore forced session from to ids ids_after old new why
    → why ≡ ending.NoMemory
wanting_before forced session from to ids ids_after old new commands why built script ready rose same (Unbuilt is) =
    absurd (true≢false (sym built ∙ is.unbuilt))
wanting_before forced session from to ids ids_after old new commands why built script ready rose same (Unknown is) = is.wanting
wanting_before forced session from to ids ids_after old new commands why built script ready rose same (NoLines so is nothing) =
    script_wanting from to commands script rose why is.cause
wanting_before forced session from to ids ids_after old new commands why built script ready rose same (Unready so lines reads is) =
    unready_wanting forced old ready new same why is
wanting_before forced session from to ids ids_after old new commands why built script ready rose same (Unbegun so lines reads is) =
    is.wanting

-- ---- the answers

-- the answer of a line that is done
abbrev IsGoodAnswer : Option Answer → Type 0
IsGoodAnswer None = ⊥
IsGoodAnswer (Some said) = is_good said ≡ true

abbrev IsGood : ℕ × Option Answer → Type 0
IsGood line = IsGoodAnswer line.1

-- it names no disk
abbrev NamesNone : ℕ × Option Answer → Type 0
NamesNone line = IfSome line.1 (λ said. disk_named said ≡ None)

-- one that isn't refused, and names no disk
good_said : (said : Answer) → is_plain said ≡ true → is_refusal (Some said) ≡ false → disk_named said ≡ None → is_good said ≡ true
good_said answer.Fine plain unrefused unnamed = refl
good_said (answer.Read sectors) plain unrefused unnamed = refl
good_said (answer.Listed volumes) plain unrefused unnamed = refl
good_said (answer.Refused refusal) plain unrefused unnamed = absurd (true≢false unrefused)
good_said (answer.ReadFailed pv) plain unrefused unnamed = absurd (none-some pv (sym unnamed))
good_said (answer.PvFailed pv) plain unrefused unnamed = absurd (none-some pv (sym unnamed))
good_said said plain unrefused unnamed = absurd (true≢false (sym plain))

good_line : (line : ℕ × Option Answer) → IsAnswered line → is_refusal line.1 ≡ false → NamesNone line → IsGood line
good_line (number, None) answered unrefused unnamed = absurd (none-some answered.0 answered.1)
good_line (number, Some own) (said, is, plain) unrefused unnamed =
    good_said own (subst (λ (o : Option Answer). IfSome o (λ a. is_plain a ≡ true)) (sym is) plain) unrefused unnamed

-- where no count has risen none names a disk
none_named : (old new : State) (answers : List (ℕ × Option Answer)) → NameFaults old new answers → HasSameFaults old new
    → All NamesNone answers
none_named old new answers named same =
    All-weaker (Contains answers) NamesNone (λ line has. by line.0 line.1 has) answers (All-contains_itself answers)
  where
    by : (number : ℕ) (o : Option Answer) → Contains answers (number, o) → NamesNone (number, o)
    by number None has = tt
    by number (Some said) has = go (disk_named said) refl
      where
        go : (disk : Option ℕ) → disk_named said ≡ disk → disk_named said ≡ None
        go None is = is
        go (Some pv) is = let rose = named number pv said has is in absurd (omega (arith, rose, same pv))

cons_same : (x y : ℕ) (xs ys : List ℕ) → x ∷ xs ≡ y ∷ ys → (x ≡ y) × (xs ≡ ys)
cons_same x y xs ys is = (cc, cc)

-- the answers are of the script's lines
are_done : (commands : List (ℕ × Command)) (answers : List (ℕ × Option Answer))
    → map (λ (a : ℕ × Option Answer). a.0) answers ≡ map (λ (c : ℕ × Command). c.0) commands
    → AllByRecursion IsGood answers
    → AreDone commands answers
are_done [] [] numbers good = tt
are_done [] (line ∷ answers) numbers good = absurd cc
are_done (command ∷ commands) [] numbers good = absurd cc
are_done (command ∷ commands) ((number, None) ∷ answers) numbers good = absurd good.0
are_done (command ∷ commands) ((number, Some said) ∷ answers) numbers good =
    let both = cons_same number command.0 _ _ numbers in
    (both.0, good.0, are_done commands answers both.1 good.1)

-- ---- the status

-- lines that are done are none of those that a test of other answers passes
none_passes : (test : Option Answer → Bool) → ((said : Answer) → is_good said ≡ true → test (Some said) ≡ false)
    → (answers : List (ℕ × Option Answer)) → AllByRecursion IsGood answers
    → list_any (λ (l : ℕ × Option Answer). test l.1) answers ≡ false
none_passes test others [] good = refl
none_passes test others ((number, None) ∷ answers) good = absurd good.0
none_passes test others ((number, Some said) ∷ answers) good =
    rw (others said good.0) (none_passes test others answers good.1)

good_wants_none : (said : Answer) → is_good said ≡ true → is_wanting (Some said) ≡ false
good_wants_none answer.NoMemory good = absurd (true≢false (sym good))
good_wants_none said good = refl

good_fails_none : (said : Answer) → is_good said ≡ true → is_device (Some said) ≡ false
good_fails_none (answer.ReadFailed pv) good = absurd (true≢false (sym good))
good_fails_none (answer.PvFailed pv) good = absurd (true≢false (sym good))
good_fails_none (answer.Fenced pv) good = absurd (true≢false (sym good))
good_fails_none (answer.Stopped pv) good = absurd (true≢false (sym good))
good_fails_none said good = refl

good_refuses_none : (said : Answer) → is_good said ≡ true → is_refusal (Some said) ≡ false
good_refuses_none (answer.Refused refusal) good = absurd (true≢false (sym good))
good_refuses_none said good = refl

status_done : (answers : List (ℕ × Option Answer)) → AllByRecursion IsGood answers → status_of_lines answers ≡ 0
status_done answers good =
    let w = none_passes is_wanting good_wants_none answers good in
    let d = none_passes is_device good_fails_none answers good in
    let r = none_passes is_refusal good_refuses_none answers good in
    λ i. if w i then 2 else if d i then 6 else if r i then 5 else 0

or_right : (a b : Bool) → b ≡ true → (a || b) ≡ true
or_right true b is = refl
or_right false b is = is

status_wanting : (answers unbegun : List (ℕ × Option Answer)) → IsWanting unbegun → status_of_lines (answers ++ unbegun) ≡ 2
status_wanting answers unbegun is =
    let any : list_any wants (answers ++ unbegun) ≡ true =
    list_any-append wants answers unbegun ∙ or_right (list_any wants answers) (list_any wants unbegun) is in
    ap (λ (b : Bool).
    if b then 2 else if list_any fails (answers ++ unbegun) then 6 else if list_any refuses (answers ++ unbegun) then 5 else 0) any

wanting_status : (printed : Bool) → status_if printed 2 ≡ 2
wanting_status true = refl
wanting_status false = refl

done_status : (printed : Bool) (status : ℕ) (before : Option (List ℕ)) (faults_before : ℕ) (text : List ℕ) (after : Option (List ℕ))
    (faults_after : ℕ) → status ≡ status_if printed 0 → WritesText before faults_before text printed after faults_after
    → ¬ HasRisen faults_before faults_after
    → status ≡ 0
done_status true status before faults_before text after faults_after is writes rose = is
done_status false status before faults_before text after faults_after is writes rose = absurd (rose writes.1)

-- ---- all of it

module _ {S : Type 0} (state : S → State) (forced : Bool) (session : Session) (names : List Word) (from to : SourceState)
    (ids ids_after : ℕ → List ℕ) (old : State) (status : ℕ) (before : Option (List ℕ)) (faults_before : ℕ) (after : Option (List ℕ))
    (faults_after : ℕ) (journal : List JournalEntry) (answers : List (ℕ × Option Answer)) (shelf : S) (commands : List (ℕ × Command))
    (built : is_built_session session ≡ true) (script : HasScript from commands) (ready : AreReady forced old)
    (rose : NoneRose from to faults_before faults_after old (state shelf)) (unrefused : NoneRefused answers) where
  abbrev Completed : Type 0
  Completed = (status ≡ 2) ⊎ ((status ≡ 0) × AreDone commands answers)

  ended_so : (why : Ending) → IsEndedBefore forced session from to ids ids_after old (state shelf) why
      → SessionEnds names (EndedBefore why) status before faults_before after faults_after
      → Completed
  ended_so why is ends =
      let wanting : why ≡ ending.NoMemory =
      wanting_before forced session from to ids ids_after old (state shelf) commands why built script ready rose.source rose.disks is in
      inl (ends.1 ∙ ap (λ (e : Ending). status_if ends.0 (status_of_ending e)) wanting ∙ wanting_status ends.0)

  module _ (begun unbegun : List (ℕ × Option Answer))
      (r : RunsScript session names state from to ids ids_after old begun unbegun journal answers shelf)
      (ends : SessionEnds names (Ran begun unbegun) status before faults_before after faults_after) where
    -- no count rose while the lines ran
    same_since : HasSameFaults (state r.ready) (state r.ran.shelf)
    same_since pv =
        let opened = r.opened.opens.cause.faults pv in
        let repaired = r.opened.repairs.cause.faults pv in
        let whole = rose.disks pv in
        let last : (state shelf).faults pv ≡ (state r.ran.shelf).faults pv = ap (λ (s : S). (state s).faults pv) r.shelf_is in
        omega (arith, opened, repaired, whole, last)

    good : AllByRecursion IsGood r.ran.answers.items
    good =
        let own = r.ran.answers.items in
        let named : All NamesNone own = none_named (state r.ready) (state r.ran.shelf) own r.runs.faults same_since in
        let said : All IsAnswered own = lines_answered state r.repaired r.ready r.lines r.ran r.runs in
        let none : NoneRefused own = subst NoneRefused r.answers_is unrefused in
        recursion_from_All IsGood own
        (λ k d within. good_line (get_or own k d) (said k d within) (none k d within) (named k d within))

    begun_so : AreAllBegun r.lines r.ran.answers.items r.ran.unbegun.items → Completed
    begun_so all =
        let own = r.ran.answers.items in
        let none : begun ++ unbegun ≡ own =
        ap (λ (l : List (ℕ × Option Answer)). begun ++ l) (r.unbegun_is ∙ all.none) ∙ append-nil begun ∙ r.begun_is in
        let well : status_of_lines (begun ++ unbegun) ≡ 0 = ap status_of_lines none ∙ status_done own good in
        inr (
          done_status ends.0 status before faults_before (session_text names (Ran begun unbegun)) after faults_after
              (ends.1 ∙ ap (status_if ends.0) well) ends.2 rose.sink,
          subst (AreDone commands) (sym r.answers_is)
              (are_done commands own (all.numbers ∙ its_numbers from to commands script ids ids_after r.lines r.reads) good),
        )

    ran_so : IsWanting r.ran.unbegun.items ⊎ AreAllBegun r.lines r.ran.answers.items r.ran.unbegun.items → Completed
    ran_so (inl wanting) =
        let two : status_of_lines (begun ++ unbegun) ≡ 2 = status_wanting begun unbegun (subst IsWanting (sym r.unbegun_is) wanting) in
        inl (ends.1 ∙ ap (status_if ends.0) two ∙ wanting_status ends.0)
    ran_so (inr all) = begun_so all

  completed_by : (outcome : SessionOutcome)
      → IsSessionCause forced session names state from to ids ids_after old outcome journal answers shelf
      → SessionEnds names outcome status before faults_before after faults_after
      → Completed
  completed_by (EndedBefore why) cause ends = ended_so why cause.0 ends
  completed_by (Ran begun unbegun) cause ends =
      ran_so begun unbegun cause ends (lines_begun state cause.repaired cause.ready cause.lines cause.ran cause.runs)

pub completes : {S : Type 0} (state : S → State) → Completes state
completes state forced session names from to ids ids_after old status before faults_before after faults_after journal answers shelf commands
    runs built script ready rose unrefused =
    completed_by state forced session names from to ids ids_after old status before faults_before after faults_after journal answers shelf
    commands built script ready rose unrefused runs.outcome runs.cause runs.ends
