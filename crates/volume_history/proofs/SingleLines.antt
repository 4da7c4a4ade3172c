-- The histories of single lines.
use Rattle.std.proofs.Common.{◌≡◌, ◌≤◌, ◌<◌, ℕ, ◌+◌, ◌-◌, ◌==◌, ◌&&◌, ◌||◌, Bool, true, false, not, if◌then◌else◌, List, [], ◌∷◌, length}
use Rattle.std.proofs.Common.{take, Option, Some, None, inl, inr, ⊎_elim, refl, sym, ap, subst, ◌∙◌, arith}
use Rattle.std.proofs.lemmas.Bool.{true≢false}
use Rattle.line_answers.specs.declared.answer.Answer.{Answer}
use Rattle.line_answers.specs.declared.answer.Answer.TheVariants as answer
use Rattle.lvm_script.specs.declared.line.Line.{Line}
use Rattle.disk_model.specs.CrashValues.{IsImage}
use Rattle.disk_model.specs.Moments.{at_moment}
use Rattle.disk_model.specs.Steps.{Image, Step, Record}
use Rattle.line_table.specs.Machine.{PlainState, PlainStep, plain_after, sector_of}
use Rattle.vg_scan.specs.Versions.{FindsVersion, Version}
use Rattle.list_laws.proofs.Bools.{eq_of}
use Rattle.data_lines.specs.DataLines.{is_command, is_through}
use Rattle.volume_history.proofs.CommandKinds.{commit_kind, created_plain, created_says, plain_command}
use Rattle.volume_history.proofs.LegalLines.{answered_faithful, created_faithful, created_ordered, fenced_faithful, fenced_ordered}
use Rattle.volume_history.proofs.LegalLines.{gives_nothing, given_up_faithful, given_up_ordered, made_faithful, made_ordered}
use Rattle.volume_history.proofs.LegalLines.{undone_ordered}
use Rattle.volume_history.proofs.EarlierMoments.{now_before}
use Rattle.volume_history.proofs.Phases.{HasPhases, IsPhase, all_moments, each_moment, finds_with, opening_phase, told_at_end}
use Rattle.volume_history.proofs.Phases.{untouched_then}
use Rattle.volume_history.proofs.Quiet.{took_nothing}
use Rattle.volume_history.proofs.Reshaped.{HasNoBase, made_primaries, next_places}
use Rattle.volume_history.proofs.Written.{since_seen, since_seen_now, since_start, unwritten_by}
use Rattle.volume_history.specs.Candidates.{IsConsistentMoment, base, is_born, no_image, pending_step, writes_line}
use Rattle.volume_history.specs.Chronicles.{Answered, Changed, ChronicleEntry, GivenUp, Opened, Origin, Took, has_written, in_force}
use Rattle.volume_history.specs.Chronicles.{left_out, is_number, now_at, origin_at, pending, piece_covers, steps_upto}
use Rattle.volume_history.specs.Commands.{commits, created_disk, is_created_at, is_fine, is_good, may_say, removes}
use Rattle.volume_history.specs.Laws.{DoneCreate, FailedCreate, NoLine, Tells}
use Rattle.volume_history.specs.Legal.{AllFaithful, AllOrdered, FindsNow, last_moment}
use Rattle.volume_history.specs.Parts.{FindsPending, NextPart, NextPlaces, Primaries, ScansPart}
use Rattle.volume_history.specs.Placed.{group_name, volumes_of}
use Rattle.volume_history.specs.Quiet.{AllUntouched}
use Rattle.volume_history.specs.Replay.{command_step, opening_state, plain_state}
use Rattle.volume_history.specs.Runs.{zero_piece}
use Rattle.volume_history.specs.Single.{AllFind, CommitLaw, CreateLaw, DoneLaw, GivenUpLaw, IsStill, MadeLaw, MayEnd, LeavesAll, LeavesDisk}
use Rattle.volume_history.specs.Single.{StaysLaw, answered_entries, begun_entries, taken_entries, done_entries, end_of, fenced_entries}
use Rattle.volume_history.specs.Single.{given_up_entries, made_entries, is_half_made, none_out, open_entries}

-- the run has a history with these entries, where it is legal and each moment is consistent
tells : (o : Origin) (es : List ChronicleEntry) → IsStill o → last_moment o.start es ≤ end_of o → AllOrdered o.start es → AllFaithful o es
    → ((m : ℕ) → o.first ≤ m → m ≤ end_of o → IsConsistentMoment (record { origin = o; entries = es }) m) → Tells o es
tells o es still told ordered faithful moments = record {
  history = record {
    chronicle = record { origin = o; entries = es };
    of_run = record { told = refl; first = refl; sizes = refl; names = refl; clock = refl; journal_is = refl; lines_is = refl };
    legal = record { from = still.from; opening = still.found; told = told; ordered = ordered; faithful = faithful };
    consistent = moments;
  };
  entries_is = refl;
}

-- which disks a scan leaves out, by the disk that the line is to create
module _ (o : Origin) (line : Line) where
  -- with these entries, where the line isn't answered ok
  abbrev leaves : Option ℕ → Bool → ℕ → Bool
  leaves disk written pv = if is_number disk pv && written then true else false

  false_and : (a b : Bool) → (a ≡ true → b ≡ false) → (if a && b then true else false) ≡ false
  false_and true true unless = let e : true ≡ false = unless refl in absurd cc
  false_and true false unless = refl
  false_and false b unless = refl

  names_it : (disk : Option ℕ) (pv : ℕ) → is_number disk pv ≡ true → disk ≡ Some pv
  names_it None pv is = cc
  names_it (Some d) pv is = ap (λ (k : ℕ). Some k) (eq_of d pv is)

  -- one that leaves its disk alone leaves none out
  leaves_none : LeavesDisk o line → (m : ℕ) → o.start ≤ m → m ≤ end_of o → (written : ℕ → Bool)
      → ((pv : ℕ) → written pv ≡ has_written (is_created_at o.sizes line.command pv) (since_start o m)) → (pv : ℕ)
      → none_out pv ≡ leaves (created_disk o.names line.command) (written pv) pv
  leaves_none alone m ge le written same pv =
      sym (false_and (is_number (created_disk o.names line.command) pv) (written pv)
      (λ is. same pv ∙ unwritten_by (is_created_at o.sizes line.command pv) o m ge le
      (alone pv (names_it (created_disk o.names line.command) pv is))))

  out_begun : (m : ℕ) → m ≤ end_of o → (pv : ℕ)
      → left_out (origin_at m o) (begun_entries o line) (length (origin_at m o).told.steps) pv
      ≡ leaves (created_disk o.names line.command) (has_written (is_created_at o.sizes line.command pv) (since_start o m)) pv
  out_begun m le pv =
      ap (λ (l : List Step). leaves (created_disk o.names line.command) (has_written (is_created_at o.sizes line.command pv) l) pv)
      (since_seen_now o m le)

  out_answered : (a : Answer) → is_fine a ≡ false → (pv : ℕ)
      → left_out (origin_at (end_of o) o) (answered_entries o line a) (length (origin_at (end_of o) o).told.steps) pv
      ≡ leaves (created_disk o.names line.command) (has_written (is_created_at o.sizes line.command pv) (since_start o (end_of o))) pv
  out_answered a bad pv =
      ap (λ (b : Bool). if is_number (created_disk o.names line.command) pv
      && has_written (is_created_at o.sizes line.command pv)
      (take (end_of o - o.start) (steps_upto (origin_at (end_of o) o) (end_of o))) then not b else false) bad
      ∙ ap (λ (l : List Step). leaves (created_disk o.names line.command) (has_written (is_created_at o.sizes line.command pv) l) pv)
      (since_seen o (end_of o) (omega arith))

-- ---- no line, and a line that commits nothing and writes nothing

-- an answer that isn't good isn't ok
not_fine : (a : Answer) → is_good a ≡ false → is_fine a ≡ false
not_fine answer.Fine bad = cc
not_fine (answer.Read sectors) bad = cc
not_fine (answer.Listed volumes) bad = cc
not_fine (answer.Refused refusal) bad = refl
not_fine (answer.ReadFailed pv) bad = refl
not_fine (answer.PvFailed pv) bad = refl
not_fine (answer.Fenced pv) bad = refl
not_fine (answer.Stopped pv) bad = refl
not_fine answer.Aborted bad = refl
not_fine answer.NoMemory bad = refl

module _ (o : Origin) (line : Line) (still : IsStill o) (plain : is_command line.command ≡ true) where
  writes_none : writes_line (Some (line, None)) ≡ false
  writes_none = (plain_command line.command plain).writes_is

  no_base : (a w t : Bool) (all rest : List ChronicleEntry) → w ≡ false → rest ≡ [] → (if (a && w) && t then all else rest) ≡ []
  no_base true true t all rest e n = cc
  no_base true false t all rest e n = n
  no_base false w t all rest e n = n

  -- the command took place without a commit, and is answered ok: no disk is left out
  is_taken : AllFind o.sizes none_out o.version o.told → IsPhase o (taken_entries o line) (end_of o)
  is_taken finds =
      opening_phase o still (taken_entries o line) (end_of o) (omega (arith, still.from, still.until)) (omega arith)
      (λ key x. no_base (piece_covers (zero_piece 0) key x) (writes_line (Some (line, None))) (is_through line.command && true)
      (Took (end_of o) 0 (zero_piece 0) ∷ begun_entries o line) [] writes_none refl)
      (ap (λ (s : PlainStep). plain_after (opening_state (origin_at (end_of o) o)) s)
      (took_nothing (Some (line, None)) (zero_piece 0) writes_none)) refl
      (λ image is. inl (finds_with o.sizes image none_out
      (left_out (origin_at (end_of o) o) (taken_entries o line) (length (origin_at (end_of o) o).told.steps)) o.version
      (λ k. none_left _) (finds image (subst (λ (t : Record). IsImage t image) (told_at_end o) is)))) tt
    where
      none_left : (b : Bool) → false ≡ (if b then false else false)
      none_left true = refl
      none_left false = refl

pub no_line : NoLine
no_line o law =
    tells o [] law.still law.still.until tt tt
    (all_moments o law.still [] [] [] (end_of o) law.still.until (omega arith) tt tt tt (λ m ge lt. stays m ge (omega (arith, lt)))
    (λ m ge lt. absurd (omega (arith, ge, lt))) (stays (end_of o) law.still.until (omega arith)))
  where
    stays : (m : ℕ) → o.start ≤ m → m ≤ end_of o → IsPhase o [] m
    stays m ge le =
        opening_phase o law.still [] m (omega (arith, law.still.from, ge)) le (λ key x. refl) refl refl
        (λ image is. inl (finds_with o.sizes image none_out (left_out (origin_at m o) [] (length (origin_at m o).told.steps)) o.version
        (λ pv. refl) (law.after m ge le image is))) tt

module _ (o : Origin) (line : Line) (law : StaysLaw o) (plain : is_command line.command ≡ true) (alone : LeavesDisk o line) where
  is_open_line : (m : ℕ) → o.start ≤ m → m ≤ end_of o → IsPhase o (begun_entries o line) m
  is_open_line m ge le =
      opening_phase o law.still (begun_entries o line) m (omega (arith, law.still.from, ge)) le (λ key x. refl) refl refl
      (λ image is. inl (finds_with o.sizes image none_out
      (left_out (origin_at m o) (begun_entries o line) (length (origin_at m o).told.steps)) o.version
      (λ pv. leaves_none o line alone m ge le (λ k. has_written (is_created_at o.sizes line.command k) (since_start o m)) (λ k. refl) pv
      ∙ sym (out_begun o line m le pv)) (law.after m ge le image is))) tt

  pub undone_line : (a : Answer) → LeavesAll o line → is_good a ≡ false → may_say line.command a ≡ true
      → Tells o (answered_entries o line a)
  undone_line a leaves_all bad says =
      tells o (answered_entries o line a) law.still (omega arith)
      (undone_ordered o line plain law.still.until a bad says)
      (answered_faithful o line plain law.still.until a leaves_all
      (gives_nothing (origin_at (end_of o) o) (begun_entries o line) 0 a bad))
      (all_moments o law.still (Answered (end_of o) 0 a ∷ []) [] (begun_entries o line) (end_of o) law.still.until (omega arith) (refl, tt)
      tt (refl, tt)
      (λ m ge lt. is_open_line m ge (omega (arith, lt))) (λ m ge lt. absurd (omega (arith, ge, lt))) answered)
    where
      answered : IsPhase o (answered_entries o line a) (end_of o)
      answered =
          opening_phase o law.still (answered_entries o line a) (end_of o) (omega (arith, law.still.from, law.still.until)) (omega arith)
          (λ key x. refl) refl refl
          (λ image is. inl (finds_with o.sizes image none_out
          (left_out (origin_at (end_of o) o) (answered_entries o line a) (length (origin_at (end_of o) o).told.steps)) o.version
          (λ pv. leaves_none o line alone (end_of o) law.still.until (omega arith)
          (λ k. has_written (is_created_at o.sizes line.command k) (since_start o (end_of o))) (λ k. refl) pv
          ∙ sym (out_answered o line a (not_fine a bad) pv))
          (law.after (end_of o) law.still.until (omega arith) image is))) tt

  pub done_line : commits line.command ≡ false → may_say line.command answer.Fine ≡ true → Tells o (taken_entries o line)
  done_line none says =
      tells o (taken_entries o line) law.still (omega arith)
      (created_ordered o line plain law.still.until none says) (created_faithful o line plain law.still.until)
      (all_moments o law.still (Answered (end_of o) 0 answer.Fine ∷ Took (end_of o) 0 (zero_piece 0) ∷ []) [] (begun_entries o line)
      (end_of o) law.still.until (omega arith) (refl, (refl, tt)) tt (refl, tt)
      (λ m ge lt. is_open_line m ge (omega (arith, lt))) (λ m ge lt. absurd (omega (arith, ge, lt)))
      (is_taken o line law.still plain (λ image is. law.after (end_of o) law.still.until (omega arith) image
      (subst (λ (t : Record). IsImage t image) (sym (told_at_end o)) is))))

-- ---- commits

module _ (o : Origin) (line : Line) (opened : ℕ) (version : Option Version) (law : CommitLaw o line opened version) where
  kind_of : (is_command line.command ≡ true) × (created_disk o.names line.command ≡ None)
  kind_of = commit_kind o.names line.command law.commits_is

  begins : o.first ≤ opened
  begins = let a : o.first ≤ o.start = law.still.from in let b : o.start ≤ opened = law.from in omega (arith, a, b)

  -- no disk is left out, whatever a line that creates none has written
  out_none : (written fine : Bool) (pv : ℕ)
      → none_out pv ≡ (if is_number (created_disk o.names line.command) pv && written then fine else false)
  out_none written fine pv = ap (λ (d : Option ℕ). if is_number d pv && written then fine else false) (sym kind_of.1)

  -- before its commit starts
  is_begun_line : (m : ℕ) → o.start ≤ m → m < opened → IsPhase o (begun_entries o line) m
  is_begun_line m ge lt =
      let le : m ≤ end_of o = omega (arith, lt, law.until) in
      opening_phase o law.still (begun_entries o line) m (omega (arith, law.still.from, ge)) le (λ key x. refl) refl refl
      (λ image is. inl (finds_with o.sizes image none_out
      (left_out (origin_at m o) (begun_entries o line) (length (origin_at m o).told.steps)) o.version (λ pv. out_none _ _ pv)
      (law.before m ge lt image is))) tt

  -- the version in force or the next one is found at a moment of the commit
  either_found : (m : ℕ) (es : List ChronicleEntry) → pending es ≡ Some (0, version) → in_force (origin_at m o) es ≡ o.version → opened ≤ m
      → m ≤ end_of o
      → ((pv : ℕ) → none_out pv ≡ left_out (origin_at m o) es (length (origin_at m o).told.steps) pv) → ScansPart (origin_at m o) es
  either_found m es waits force ge le none image is =
      ⊎_elim
      (λ old. inl (subst (λ (v : Option Version). FindsVersion o.sizes image
      (left_out (origin_at m o) es (length (origin_at m o).told.steps)) v) (sym force)
      (finds_with o.sizes image none_out (left_out (origin_at m o) es (length (origin_at m o).told.steps)) o.version none old)))
      (λ new. inr (subst (λ (p : Option (ℕ × Option Version)). FindsPending (origin_at m o) es image p) (sym waits)
      (finds_with o.sizes image none_out (left_out (origin_at m o) es (length (origin_at m o).told.steps)) version none new)))
      (law.between m ge le image is)

  -- the places of the pending version
  next_part : (m : ℕ) (es : List ChronicleEntry) → opened ≤ m → m ≤ end_of o → HasNoBase (origin_at m o) es
      → plain_state (origin_at m o) es ≡ opening_state (origin_at m o)
      → pending_step (origin_at m o) es 0 version ≡ command_step line.command o.version version (opening_state (origin_at m o)) no_image
      → NextPart (origin_at m o) es (Some (0, version))
  next_part m es ge le none opening step =
      let at : Origin = origin_at m o in
      let image : Image = now_at at o.first in
      let own : PlainStep = command_step line.command o.version version (opening_state at) no_image in
      subst (λ (s : PlainStep). (group_name version ≡ (plain_after (plain_state at es) s).group)
      × NextPlaces at es s (volumes_of version) (plain_after (plain_state at es) s).volumes) (sym step)
      (subst (λ (s : PlainState). (group_name version ≡ (plain_after s own).group)
      × NextPlaces at es own (volumes_of version) (plain_after s own).volumes) (sym opening) (
        law.keeps.named image no_image,
        next_places at es none opening
            (untouched_then o law.still m (let b = begins in omega (arith, b, ge)) le) line.command version law.keeps
            (law.zeroed m ge le no_image),
      ))

  is_open : (m : ℕ) → opened ≤ m → m ≤ end_of o → IsPhase o (open_entries o line opened version) m
  is_open m ge le =
      opening_phase o law.still (open_entries o line opened version) m (let b = begins in omega (arith, b, ge)) le (λ key x. refl) refl refl
      (either_found m (open_entries o line opened version) refl refl ge le (λ pv. out_none _ _ pv))
      (next_part m (open_entries o line opened version) ge le (λ key x. refl) refl refl)

  -- ---- it was made at a moment

  module _ (made : ℕ) (law_made : MadeLaw o opened made version) where
    abbrev made_so : List ChronicleEntry
    made_so = Changed made 0 version ∷ open_entries o line opened version

    by_birth : (b c : Bool) (all rest : List ChronicleEntry) → b ≡ c → c ≡ true → (if b || false then all else rest) ≡ all
    by_birth true c all rest e is = refl
    by_birth false c all rest e is = absurd (let f : false ≡ true = e ∙ is in cc)

    by_none : (b c : Bool) (all rest : List ChronicleEntry) → b ≡ c → c ≡ false → (if b || false then all else rest) ≡ rest
    by_none true c all rest e is = absurd (let f : true ≡ false = e ∙ is in cc)
    by_none false c all rest e is = refl

    -- a moment from then on
    module _ (m : ℕ) (ge : made ≤ m) (le : m ≤ end_of o) where
      abbrev at : Origin
      at = origin_at m o

      abbrev state : PlainState
      state = opening_state at

      abbrev image : Image
      image = now_at at made

      abbrev step : Image → PlainStep
      step shown = command_step line.command o.version version state shown

      births : (key x : ℕ) → is_born (step no_image) state key x ≡ is_born (step image) state key x
      births key x = sym (law.keeps.births (now_at at o.first) image key x)

      untouched : AllUntouched image (volumes_of version) at.told
      untouched =
          subst (λ (i : Image). AllUntouched i (volumes_of version) at.told) (sym (now_before o made m ge le)) (law_made.untouched m ge le)

      -- with these entries, which leave no disk out and move no base
      made_phase : (es : List ChronicleEntry) → in_force at es ≡ version → plain_state at es ≡ plain_after state (step image)
          → pending es ≡ None → ((pv : ℕ) → none_out pv ≡ left_out at es (length at.told.steps) pv)
          → ((key x : ℕ) → base at es key x ≡ (if is_born (step no_image) state key x || false then made_so else [])) → IsPhase o es m
      made_phase es force plain waits none based =
          let on = law_made.from in
          let began = begins in
          record {
            scans =
                λ shown is. inl (subst (λ (v : Option Version). FindsVersion o.sizes shown (left_out at es (length at.told.steps)) v)
                (sym force)
                (finds_with o.sizes shown none_out (left_out at es (length at.told.steps)) version none (law_made.after m ge le shown is)));
            primaries =
                subst (λ (v : Option Version). Primaries at es (volumes_of v) (plain_state at es).volumes) (sym force)
                (subst (λ (s : PlainState). Primaries at es (volumes_of version) s.volumes) (sym plain)
                (made_primaries at (open_entries o line opened version) (λ key x. refl)
                (untouched_then o law.still m (omega (arith, began, on, ge)) le) es (step image) image
                (λ key x born. ap (λ (b : List ChronicleEntry). sector_of (plain_state at b) key x)
                (based key x ∙ by_birth (is_born (step no_image) state key x) (is_born (step image) state key x) made_so []
                (births key x) born))
                (λ key x old. based key x ∙ by_none (is_born (step no_image) state key x) (is_born (step image) state key x) made_so []
                (births key x) old)
                (volumes_of version) (plain_after state (step image)).volumes (law.keeps.volumes (now_at at o.first) image) untouched
                (law.zeroed m (omega (arith, on, ge)) le image)));
            name =
                ap (λ (v : Option Version). group_name v) force ∙ law.keeps.named (now_at at o.first) image
                ∙ sym (ap (λ (s : PlainState). s.group) plain);
            next = subst (NextPart at es) (sym waits) tt;
          }

    made_found : FindsNow (origin_at made o) (open_entries o line opened version) made version
    made_found =
        subst (λ (i : Image). FindsVersion o.sizes i (left_out (origin_at made o) (open_entries o line opened version) made) version)
        (sym (now_before o made made (omega arith) law_made.until))
        (finds_with o.sizes (now_at o made) (left_out o [] made) (left_out (origin_at made o) (open_entries o line opened version) made)
        version (λ pv. out_none _ _ pv) law_made.found)

    made_moments : (said : Answer) → IsPhase o (made_entries o line opened made version said) (end_of o)
        → HasPhases o (Answered (end_of o) 0 said ∷ []) (Changed made 0 version ∷ []) (Opened opened 0 version ∷ []) (begun_entries o line)
        opened made
    made_moments said after =
        let until = law_made.until in
        record {
          from = law.from;
          on = law_made.from;
          to = until;
          at_end = (refl, tt);
          at_made = (refl, tt);
          at_opened = (refl, tt);
          at_start = (refl, tt);
          begun = is_begun_line;
          running = λ m ge lt. is_open m ge (omega (arith, lt, until));
          kept = λ m ge lt. made_phase m ge (omega (arith, lt)) made_so refl refl refl (λ pv. out_none _ _ pv) (λ key x. refl);
          after = after;
        }

    pub made_commit : (said : Answer) → MayEnd said → Tells o (made_entries o line opened made version said)
    made_commit said may =
        tells o (made_entries o line opened made version said) law.still (omega arith)
        (made_ordered o line kind_of.0 law.still.until opened law.from law.until version made law_made.from law_made.until said may
        law.commits_is)
        (made_faithful o line kind_of.0 law.still.until opened law.from law.until version law.makes made said may made_found)
        (each_moment o law.still (Answered (end_of o) 0 said ∷ []) (Changed made 0 version ∷ []) (Opened opened 0 version ∷ [])
        (begun_entries o line) opened made (made_moments said (ended said may)))
      where
        ended : (said : Answer) → MayEnd said → IsPhase o (made_entries o line opened made version said) (end_of o)
        ended answer.Fine may =
            made_phase (end_of o) law_made.until (omega arith) (made_entries o line opened made version answer.Fine) refl refl refl
            (λ pv. out_none _ _ pv) (λ key x. refl)
        ended (answer.PvFailed pv) may =
            made_phase (end_of o) law_made.until (omega arith) (made_entries o line opened made version (answer.PvFailed pv)) refl refl refl
            (λ k. out_none _ _ k) (λ key x. refl)
        ended other may = absurd may

  -- and the line answered at once
  pub done_commit : DoneLaw o version → Tells o (done_entries o line opened version)
  done_commit done =
      made_commit (end_of o)
      (record {
        from = law.until;
        until = omega arith;
        after = λ m ge le. at_the_end (λ (told : Record). AllFind o.sizes none_out version told) m ge le done.after;
        found = done.found;
        untouched =
            λ m ge le. at_the_end (λ (told : Record). AllUntouched (now_at o (end_of o)) (volumes_of version) told) m ge le done.untouched;
      }) answer.Fine tt
    where
      at_the_end : (P : Record → Type 0) (m : ℕ) → end_of o ≤ m → m ≤ end_of o → P o.told → P (at_moment m o.told)
      at_the_end P m ge le is =
          let e : end_of o ≡ m = omega (arith, ge, le) in
          subst (λ (k : ℕ). P (at_moment k o.told)) e (subst P (sym (told_at_end o)) is)

  pub given_up_commit : (pv : ℕ) → GivenUpLaw o → removes line.command ≡ false → Tells o (given_up_entries o line opened version pv)
  given_up_commit pv given_up kept =
      tells o (given_up_entries o line opened version pv) law.still (omega arith)
      (given_up_ordered o line kind_of.0 law.still.until opened law.from law.until version pv law.commits_is kept)
      (given_up_faithful o line kind_of.0 law.still.until opened law.from law.until version law.makes pv kept)
      (all_moments o law.still (Answered (end_of o) 0 (answer.PvFailed pv) ∷ GivenUp (end_of o) 0 ∷ []) (Opened opened 0 version ∷ [])
      (begun_entries o line) opened law.from law.until (refl, (refl, tt)) (refl, tt) (refl, tt)
      is_begun_line (λ m ge lt. is_open m ge (omega (arith, lt))) is_given_up)
    where
      is_given_up : IsPhase o (given_up_entries o line opened version pv) (end_of o)
      is_given_up =
          opening_phase o law.still (given_up_entries o line opened version pv) (end_of o)
          (let b = begins in let c = law.until in omega (arith, b, c)) (omega arith) (λ key x. refl) refl refl
          (λ image is. inl (finds_with o.sizes image none_out
          (left_out (origin_at (end_of o) o) (given_up_entries o line opened version pv) (length (origin_at (end_of o) o).told.steps))
          o.version
          (λ k. out_none _ _ k) (given_up.after image (subst (λ (t : Record). IsImage t image) (told_at_end o) is)))) tt

  pub fenced_commit : (pv : ℕ) → Tells o (fenced_entries o line opened version pv)
  fenced_commit pv =
      tells o (fenced_entries o line opened version pv) law.still (omega arith)
      (fenced_ordered o line kind_of.0 law.still.until opened law.from law.until version pv law.commits_is)
      (fenced_faithful o line kind_of.0 law.still.until opened law.from law.until version law.makes pv)
      (all_moments o law.still (Answered (end_of o) 0 (answer.PvFailed pv) ∷ []) (Opened opened 0 version ∷ []) (begun_entries o line)
      opened law.from law.until (refl, tt) (refl, tt) (refl, tt)
      is_begun_line (λ m ge lt. is_open m ge (omega (arith, lt))) is_fenced)
    where
      is_fenced : IsPhase o (fenced_entries o line opened version pv) (end_of o)
      is_fenced =
          opening_phase o law.still (fenced_entries o line opened version pv) (end_of o)
          (let b = begins in let c = law.until in omega (arith, b, c)) (omega arith) (λ key x. refl) refl refl
          (either_found (end_of o) (fenced_entries o line opened version pv) refl refl law.until (omega arith) (λ k. out_none _ _ k))
          (next_part (end_of o) (fenced_entries o line opened version pv) law.until (omega arith) (λ key x. refl) refl refl)

-- ---- pvcreate

module _ (o : Origin) (line : Line) (disk before : ℕ) (law : CreateLaw o line disk before) where
  kind : (is_command line.command ≡ true) × (commits line.command ≡ false)
  kind = created_plain o.names disk line.command law.names

  -- the disk is left out once it was written
  half_made : (m : ℕ) → m ≤ end_of o → (pv : ℕ)
      → is_half_made o line disk m pv ≡ leaves o line (created_disk o.names line.command)
      (has_written (is_created_at o.sizes line.command pv) (since_start o m)) pv
  half_made m le pv =
      sym (as_it_is ((disk == pv) && has_written (is_created_at o.sizes line.command pv) (since_start o m)))
      ∙ ap (λ (d : Option ℕ). leaves o line d (has_written (is_created_at o.sizes line.command pv) (since_start o m)) pv) (sym law.names)
    where
      as_it_is : (b : Bool) → (if b then true else false) ≡ b
      as_it_is true = refl
      as_it_is false = refl

  is_begun : (m : ℕ) → o.start ≤ m → m < before → m ≤ end_of o → IsPhase o (begun_entries o line) m
  is_begun m ge lt le =
      opening_phase o law.still (begun_entries o line) m (omega (arith, law.still.from, ge)) le (λ key x. refl) refl refl
      (λ image is. inl (finds_with o.sizes image (is_half_made o line disk m)
      (left_out (origin_at m o) (begun_entries o line) (length (origin_at m o).told.steps)) o.version
      (λ pv. half_made m le pv ∙ sym (out_begun o line m le pv)) (law.between m ge lt image is))) tt

pub done_create : DoneCreate
done_create o line disk law done =
    tells o (taken_entries o line) law.still (omega arith)
    (created_ordered o line (kind o line disk (end_of o) law).0 law.still.until (kind o line disk (end_of o) law).1
    (created_says o.names disk 0 line.command law.names).0)
    (created_faithful o line (kind o line disk (end_of o) law).0 law.still.until)
    (all_moments o law.still (Answered (end_of o) 0 answer.Fine ∷ Took (end_of o) 0 (zero_piece 0) ∷ []) [] (begun_entries o line)
    (end_of o) law.still.until (omega arith) (refl, (refl, tt)) tt (refl, tt)
    (λ m ge lt. is_begun o line disk (end_of o) law m ge lt (omega (arith, lt))) (λ m ge lt. absurd (omega (arith, ge, lt)))
    (is_taken o line law.still (kind o line disk (end_of o) law).0 done.after))

pub failed_create : FailedCreate
failed_create o line disk pv law =
    tells o (answered_entries o line (answer.PvFailed pv)) law.still (omega arith)
    (undone_ordered o line (kind o line disk (end_of o + 1) law).0 law.still.until (answer.PvFailed pv) refl
    (created_says o.names disk pv line.command law.names).1)
    (answered_faithful o line (kind o line disk (end_of o + 1) law).0 law.still.until (answer.PvFailed pv)
    (λ removing. absurd (true≢false (sym removing ∙ (created_says o.names disk pv line.command law.names).2))) tt)
    (all_moments o law.still (Answered (end_of o) 0 (answer.PvFailed pv) ∷ []) [] (begun_entries o line) (end_of o) law.still.until
    (omega arith) (refl, tt) tt (refl, tt)
    (λ m ge lt. is_begun o line disk (end_of o + 1) law m ge (omega (arith, lt)) (omega (arith, lt)))
    (λ m ge lt. absurd (omega (arith, ge, lt))) is_failed)
  where
    is_failed : IsPhase o (answered_entries o line (answer.PvFailed pv)) (end_of o)
    is_failed =
        opening_phase o law.still (answered_entries o line (answer.PvFailed pv)) (end_of o) (omega (arith, law.still.from, law.still.until))
        (omega arith) (λ key x. refl) refl refl
        (λ image is. inl (finds_with o.sizes image (is_half_made o line disk (end_of o))
        (left_out (origin_at (end_of o) o) (answered_entries o line (answer.PvFailed pv)) (length (origin_at (end_of o) o).told.steps))
        o.version
        (λ k. half_made o line disk (end_of o + 1) law (end_of o) (omega arith) k ∙ sym (out_answered o line (answer.PvFailed pv) refl k))
        (law.between (end_of o) law.still.until (omega arith) image is))) tt
