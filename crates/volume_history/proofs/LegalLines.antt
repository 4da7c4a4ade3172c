-- The histories of one line are legal.
use Rattle.std.proofs.Common.{◌≡◌, ◌≤◌, ℕ, ◌-◌, ◌&&◌, ◌||◌, Bool, true, false, not, if◌then◌else◌, List, [], ◌∷◌, length, take, drop}
use Rattle.std.proofs.Common.{Option, Some, None, refl, sym, ap, subst, ◌∙◌, arith, is_some}
use Rattle.std.proofs.lemmas.Bool.{true≢false}
use Rattle.command_table.specs.declared.command.Path.{Path}
use Rattle.line_answers.specs.declared.answer.Answer.{Answer}
use Rattle.line_answers.specs.declared.answer.Answer.TheVariants as answer
use Rattle.lvm_script.specs.declared.line.Line.{Line}
use Rattle.disk_model.specs.Order.{WritesNothing}
use Rattle.vg_scan.specs.Versions.{Version}
use Rattle.list_laws.proofs.Bools.{and_both}
use Rattle.data_lines.specs.DataLines.{is_command, is_data, is_flush}
use Rattle.volume_history.proofs.CommandKinds.{commit_says, plain_command}
use Rattle.volume_history.proofs.Written.{since_seen}
use Rattle.volume_history.specs.Chronicles.{Begun, Changed, ChronicleEntry, GivenUp, Origin, Took, begun_in, origin_at, pending}
use Rattle.volume_history.specs.Commands.{commits, failed_pv, is_good, is_move, is_refused, is_tended}
use Rattle.volume_history.specs.Commands.{is_wait, may_say, removes}
use Rattle.volume_history.specs.Legal.{AllFaithful, AllOrdered, FindsNow, GivesMachine, IsFaithful, IsOrdered, LeavesGroup, Makes}
use Rattle.volume_history.specs.Legal.{is_new_piece, is_pending, keeps_group, key_named, may_answer, may_answer_command, may_answer_data}
use Rattle.volume_history.specs.Legal.{may_answer_flush}
use Rattle.volume_history.specs.Runs.{zero_piece}
use Rattle.volume_history.specs.Single.{LeavesAll, MayEnd, answered_entries, begun_entries, taken_entries, end_of, fenced_entries}
use Rattle.volume_history.specs.Single.{given_up_entries, made_entries, open_entries}

or_true : (b : Bool) → (b || true) ≡ true
or_true true = refl
or_true false = refl

not_or_true : (b : Bool) → (not b || true) ≡ true
not_or_true true = refl
not_or_true false = refl

undone_test : (good refused moves waits : Bool) → good ≡ false
    → ((not good || false) && (not refused || moves || true) && (not waits || true)) ≡ true
undone_test true r m w bad = cc
undone_test false true true true bad = refl
undone_test false true true false bad = refl
undone_test false true false true bad = refl
undone_test false true false false bad = refl
undone_test false false m true bad = refl
undone_test false false m false bad = refl

-- an answer that isn't good gives nothing of the machine
pub gives_nothing : (o : Origin) (es : List ChronicleEntry) (n : ℕ) (a : Answer) → is_good a ≡ false → GivesMachine o es n a
gives_nothing o es n answer.Fine bad = cc
gives_nothing o es n (answer.Read sectors) bad = cc
gives_nothing o es n (answer.Listed volumes) bad = cc
gives_nothing o es n (answer.Refused refusal) bad = tt
gives_nothing o es n (answer.ReadFailed pv) bad = tt
gives_nothing o es n (answer.PvFailed pv) bad = tt
gives_nothing o es n (answer.Fenced pv) bad = tt
gives_nothing o es n (answer.Stopped pv) bad = tt
gives_nothing o es n answer.Aborted bad = tt
gives_nothing o es n answer.NoMemory bad = tt

-- ---- order

-- a line of a command is begun first
begun_first : (o : Origin) (line : Line) → is_command line.command ≡ true → IsOrdered o.start [] (Begun o.start 0 line None)
begun_first o line plain = record { moments = omega arith; order = ap (λ (c : Bool). not c || true) plain; makes = tt }

-- a command is answered so
answer_of : (es : List ChronicleEntry) (line : Line) (a : Answer) → is_command line.command ≡ true → may_say line.command a ≡ true
    → may_answer_command es 0 line a ≡ true
    → (not (is_pending (pending es) 0) || is_some (failed_pv a)) ≡ true → may_answer es 0 (Some (line, None)) a ≡ true
answer_of es line a plain says may free =
    let known = plain_command line.command plain in
    let flushes : Bool = may_answer_flush line.command None a in
    let by_command : Bool = may_answer_command es 0 line a && flushes && (not (is_pending (pending es) 0) || is_some (failed_pv a)) in
    and_both (may_say line.command a) (if is_data line.command then may_answer_data es 0 line None a else by_command) says
    (ap (λ (d : Bool). if d then may_answer_data es 0 line None a else by_command) known.data_is
    ∙ and_both (may_answer_command es 0 line a && flushes) (not (is_pending (pending es) 0) || is_some (failed_pv a))
    (and_both (may_answer_command es 0 line a) flushes may (ap (λ (f : Bool). not f || is_refused a) known.flush_is)) free)

-- a line that has done or begun to remove the group doesn't leave it as it is
kept_not : (o : Origin) (es : List ChronicleEntry) (m : ℕ) (removing done : Bool)
    → (removing && not done) ≡ keeps_group es 0 (begun_in es 0) → done ≡ true → LeavesGroup o es 0 m
kept_not o es m removing done is begun keeps =
    absurd (true≢false (sym (is ∙ keeps) ∙ ap (λ (b : Bool). removing && not b) begun ∙ and_false removing))
  where
    and_false : (b : Bool) → (b && false) ≡ false
    and_false true = refl
    and_false false = refl

-- what is known of the line of a command
module _ (o : Origin) (line : Line) (plain : is_command line.command ≡ true) (until : o.start ≤ end_of o) where
  begun_ordered : AllOrdered o.start (begun_entries o line)
  begun_ordered = (begun_first o line plain, tt)

  begun_faithful : IsFaithful (origin_at o.start o) [] (Begun o.start 0 line None)
  begun_faithful = ap (λ (v : Option Path). key_named (origin_at o.start o) [] v) (sym (plain_command line.command plain).unnamed)

  -- it isn't done
  pub undone_ordered : (a : Answer) → is_good a ≡ false → may_say line.command a ≡ true → AllOrdered o.start (answered_entries o line a)
  undone_ordered a bad says = (
    record {
      moments = until;
      order =
          answer_of (begun_entries o line) line a plain says
          (undone_test (is_good a) (is_refused a) (is_move line.command) (is_wait line.command) bad) refl;
      makes = tt;
    },
    begun_ordered,
  )

  -- where it removes the group, nothing was written
  leaves_group : LeavesAll o line → LeavesGroup (origin_at (end_of o) o) (begun_entries o line) 0 (end_of o)
  leaves_group leaves keeps =
      let e : length o.told.steps - length o.told.steps ≡ 0 = omega arith in
      subst WritesNothing (sym (since_seen o (end_of o) (omega arith) ∙ ap (λ (k : ℕ). take (end_of o - o.start) (drop k o.told.steps)) e))
      (leaves (sym (and_true (removes line.command)) ∙ keeps))
    where
      and_true : (b : Bool) → (b && true) ≡ b
      and_true true = refl
      and_true false = refl

  pub answered_faithful : (a : Answer) → LeavesAll o line → GivesMachine (origin_at (end_of o) o) (begun_entries o line) 0 a
      → AllFaithful o (answered_entries o line a)
  answered_faithful a leaves gives = ((gives, leaves_group leaves), (begun_faithful, tt))

  -- a command that commits nothing takes place
  take_test : (d f c : Bool) (a b : Bool) → d ≡ false → f ≡ false → c ≡ false → b ≡ true
      → (if d then a else ((if f then false else (not c && b)) && true)) ≡ true
  take_test true f c a b is_d is_f is_c t = cc
  take_test false true c a b is_d is_f is_c t = cc
  take_test false false true a b is_d is_f is_c t = cc
  take_test false false false a true is_d is_f is_c t = refl
  take_test false false false a false is_d is_f is_c t = cc

  pub created_ordered : commits line.command ≡ false → may_say line.command answer.Fine ≡ true → AllOrdered o.start (taken_entries o line)
  created_ordered none says = (
    record {
      moments = omega arith;
      order =
          answer_of (Took (end_of o) 0 (zero_piece 0) ∷ begun_entries o line) line answer.Fine plain says
          (not_or_true (is_wait line.command)) refl;
      makes = tt;
    },
    (
      record {
        moments = until;
        order =
            take_test (is_data line.command) (is_flush line.command) (commits line.command)
            (is_new_piece (begun_entries o line) 0 line None (zero_piece 0)) true (plain_command line.command plain).data_is
            (plain_command line.command plain).flush_is none refl;
        makes = tt;
      },
      begun_ordered,
    ),
  )

  pub created_faithful : AllFaithful o (taken_entries o line)
  created_faithful = (
    (
      tt,
      kept_not (origin_at (end_of o) o) (Took (end_of o) 0 (zero_piece 0) ∷ begun_entries o line) (end_of o) (removes line.command) true
          refl refl,
    ),
    (tt, (begun_faithful, tt)),
  )

  -- its commit starts at a moment
  module _ (opened : ℕ) (from : o.start ≤ opened) (to : opened ≤ end_of o) (version : Option Version) where
    opened_ordered : commits line.command ≡ true → AllOrdered o.start (open_entries o line opened version)
    opened_ordered commit =
        (record { moments = from; order = opens (commits line.command) (is_tended line.command) commit; makes = tt }, begun_ordered)
      where
        opens : (c t : Bool) → c ≡ true → ((c && (t || true)) && true) ≡ true
        opens true true e = refl
        opens true false e = refl
        opens false t e = cc

    -- and is made at another
    pub made_ordered : (made : ℕ) → opened ≤ made → made ≤ end_of o → (said : Answer) → MayEnd said → commits line.command ≡ true
        → AllOrdered o.start (made_entries o line opened made version said)
    made_ordered made on ends said may commit = (
      record { moments = ends; order = ended said may; makes = tt },
      (
        record { moments = on; order = refl; makes = refl },
        opened_ordered commit,
      ),
    )
      where
        ended : (said : Answer) → MayEnd said → may_answer (Changed made 0 version ∷ open_entries o line opened version) 0
            (Some (line, None)) said ≡ true
        ended answer.Fine may =
            answer_of (Changed made 0 version ∷ open_entries o line opened version) line answer.Fine plain
            (commit_says line.command 0 commit).0 (not_or_true (is_wait line.command)) refl
        ended (answer.PvFailed pv) may =
            answer_of (Changed made 0 version ∷ open_entries o line opened version) line (answer.PvFailed pv) plain
            (commit_says line.command pv commit).1 (not_or_true (is_wait line.command)) refl
        ended other may = absurd may

    -- or given up
    pub given_up_ordered : (pv : ℕ) → commits line.command ≡ true → removes line.command ≡ false
        → AllOrdered o.start (given_up_entries o line opened version pv)
    given_up_ordered pv commit kept = (
      record {
        moments = omega arith;
        order =
            answer_of (GivenUp (end_of o) 0 ∷ open_entries o line opened version) line (answer.PvFailed pv) plain
            (commit_says line.command pv commit).1 (not_or_true (is_wait line.command)) refl;
        makes = tt;
      },
      (
        record { moments = to; order = ap not kept; makes = tt },
        opened_ordered commit,
      ),
    )

    -- or fences the group
    pub fenced_ordered : (pv : ℕ) → commits line.command ≡ true → AllOrdered o.start (fenced_entries o line opened version pv)
    fenced_ordered pv commit = (
      record {
        moments = to;
        order =
            answer_of (open_entries o line opened version) line (answer.PvFailed pv) plain (commit_says line.command pv commit).1
            (not_or_true (is_wait line.command)) refl;
        makes = tt;
      },
      opened_ordered commit,
    )

    module _ (makes : Makes (origin_at opened o) (begun_entries o line) opened line version) where
      opened_faithful : AllFaithful o (open_entries o line opened version)
      opened_faithful = (makes, (begun_faithful, tt))

      made_leaves : (made : ℕ) → LeavesGroup (origin_at (end_of o) o) (Changed made 0 version ∷ open_entries o line opened version) 0
          (end_of o)
      made_leaves made =
          kept_not (origin_at (end_of o) o) (Changed made 0 version ∷ open_entries o line opened version) (end_of o) (removes line.command)
          true refl refl

      pub made_faithful : (made : ℕ) (said : Answer) → MayEnd said
          → FindsNow (origin_at made o) (open_entries o line opened version) made version
          → AllFaithful o (made_entries o line opened made version said)
      made_faithful made answer.Fine may finds = ((tt, made_leaves made), (finds, opened_faithful))
      made_faithful made (answer.PvFailed pv) may finds = ((tt, made_leaves made), (finds, opened_faithful))
      made_faithful made other may finds = absurd may

      pub given_up_faithful : (pv : ℕ) → removes line.command ≡ false → AllFaithful o (given_up_entries o line opened version pv)
      given_up_faithful pv kept =
          ((tt, λ keeps. absurd (true≢false (sym keeps ∙ ap (λ (b : Bool). b && true) kept))), (tt, opened_faithful))

      pub fenced_faithful : (pv : ℕ) → AllFaithful o (fenced_entries o line opened version pv)
      fenced_faithful pv = (
        (tt, kept_not (origin_at (end_of o) o) (open_entries o line opened version) (end_of o) (removes line.command) true refl refl),
        opened_faithful,
      )
