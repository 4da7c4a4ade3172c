-- A run of one line has its history.
use Rattle.std.proofs.Common.{◌≡◌, ℕ, ◌+◌, ◌-◌, Bool, true, false, not, ◌≤◌, ◌<◌, List, [], ◌∷◌, ◌++◌, length, map, take, Option}
use Rattle.std.proofs.Common.{Some, None, ⊎_elim, refl, sym, ap, subst, ◌∙◌, arith}
use Rattle.std.specs.Prelude.{flat_map, is_some}
use Rattle.std.proofs.lemmas.Bool.{cases_lt, true≢false}
use Rattle.sector_base.specs.declared.spans.Span.{Span}
use Rattle.command_table.specs.Options.{Word}
use Rattle.command_table.specs.declared.command.Command.{Command}
use Rattle.command_table.specs.declared.command.Command.TheVariants.{Fill, Flush, Read, Vgreduce, Vgremove, Wait, Write}
use Rattle.command_table.specs.Commands.{CommandKind, NextVersion, VolumeAdded, kind_of as command_kind}
use Rattle.line_answers.specs.declared.answer.Answer.{Answer}
use Rattle.line_answers.specs.declared.answer.Answer.TheVariants as answer
use Rattle.line_answers.specs.declared.op_refusal.OpRefusal.{OpRefusal}
use Rattle.lvm_script.specs.declared.line.Line.{Line}
use Rattle.data_lines.specs.DataLines.{is_command}
use Rattle.disk_model.proofs.StepsSince.{steps_joined}
use Rattle.disk_model.specs.Order.{WritesNothing}
use Rattle.disk_model.specs.Since.{writes_submitted}
use Rattle.disk_model.specs.Steps.{Record, steps_on}
use Rattle.meta_model.specs.declared.group.Group.{Group}
use Rattle.extent_alloc.specs.declared.part.Part.{Part}
use Rattle.disk_batch.specs.InTurn.{Put, WritesInTurn}
use Rattle.group_plan.specs.declared.state.GroupState.{GroupState}
use Rattle.group_ops.proofs.NoClears.{clears}
use Rattle.group_ops.proofs.NextVersions.{by_kind, is_next, kind_is_next}
use Rattle.group_ops.specs.Laws.{state_in}
use Rattle.group_ops.specs.Planning.{IsPlanned, change_of}
use Rattle.change_batches.specs.Batches.{batch_if, zero_put}
use Rattle.vg_repair.proofs.RepairedSizes.{repaired_count}
use Rattle.vg_repair.specs.Repaired.{repaired_of}
use Rattle.vg_scan.specs.Versions.{version_in}
use Rattle.repair_scans.specs.Laws.{RepairedScans}
use Rattle.volume_history.proofs.CommandKinds.{commit_says}
use Rattle.volume_history.proofs.SingleLines.{done_commit, done_create, failed_create, fenced_commit, made_commit, no_line, undone_line}
use Rattle.volume_history.specs.Chronicles.{ChronicleEntry, Origin, pending}
use Rattle.volume_history.specs.Laws.{Tells}
use Rattle.volume_history.specs.Commands.{created_disk, is_created_at, is_good, is_wait, kind_commits, may_say, removes}
use Rattle.volume_history.specs.Runs.{journal_of, lines_of}
use Rattle.volume_history.specs.Single.{LeavesAll, LeavesDisk, MayEnd as MayFollow, answered_entries, done_entries, made_entries}
use Rattle.volume_history.specs.Single.{taken_entries}
use Rattle.line_history.proofs.ClearedLines.{committed_law, made_law}
use Rattle.line_history.proofs.Clearing.{as_written, ended_base, whole_origin}
use Rattle.line_history.proofs.Finding.{scan_repaired}
use Rattle.line_history.proofs.LineKinds.{Kind, commits_group, creates, kind_of, removes_group}
use Rattle.line_history.proofs.Lines.{change, commit_law, next, none_created, origin_handed, origin_repaired, stays_handed, stays_repaired}
use Rattle.line_history.proofs.Lines.{stays_unpublished}
use Rattle.line_history.proofs.NewDisk.{create_law, created_law}
use Rattle.line_history.proofs.Origins.{origin_of}
use Rattle.line_history.proofs.RemovedGroup.{creates_none, removal_law, removal_unbegun, removal_unwritten, removed_law, stays_unremoved}
use Rattle.line_history.proofs.RemovedGroup.{stays_unwritten}
use Rattle.line_history.proofs.Settled.{none_pending}
use Rattle.line_history.proofs.Submitted.{all_submitted, both_begun, submitted}
use Rattle.line_history.proofs.Unwritten.{newest, none_submitted, none_written, nothing_of}
use Rattle.line_history.specs.Histories.{HasHistoryOf, IsBeforeLine, MayAnswer, MayEnd, commits_in, journal_of_line, making, took_of}
use Rattle.line_history.specs.LineRun.{ClearsLine, Given, RunsLine, Stage, Opened, Repairing, Repaired, Zeroing, Writing, Done, batches_if}
use Rattle.line_history.specs.LineRun.{batches_in, clears_in, is_repaired, is_zeroed, zeros_begun, zeros_in}

-- a line that can be planned is a command
plain_line : (id : Option (List ℕ)) (command : Command) → IsPlanned id command → is_command command ≡ true
plain_line id (Read path start count) planned = absurd planned
plain_line id (Fill path start count value through) planned = absurd planned
plain_line id (Write path start hex through) planned = absurd planned
plain_line id (Flush path) planned = absurd planned
plain_line id _ planned = refl

next_commits : (kind : CommandKind) → kind_is_next kind ≡ true → kind_commits kind ≡ true
next_commits (NextVersion difference) is = refl
next_commits (VolumeAdded lv) is = refl
next_commits _ is = cc

waits_not : (command : Command) → is_next command ≡ true → is_wait command ≡ false
waits_not Wait is = cc
waits_not _ is = refl

-- what one may answer: a refusal, or that a disk failed
planned_says : (id : Option (List ℕ)) (command : Command) (pv : ℕ) → IsPlanned id command
    → (is_wait command ≡ false) × (may_say command (answer.PvFailed pv) ≡ true)
planned_says id command pv planned =
    by_kind (λ c. (is_wait c ≡ false) × (may_say c (answer.PvFailed pv) ≡ true))
    (record {
      next = λ c is other. (waits_not c is, (commit_says c pv (next_commits (command_kind c) is)).1);
      new_volume = λ new. (refl, refl);
      new_pv = λ name copies. (refl, refl);
      new_group = λ vg extent_size pvs. (refl, refl);
      joining = λ vg pvs. (refl, refl);
      leaving = λ vg gone. (refl, refl);
      removal = λ vg. (refl, refl);
      restore = λ vg text. (refl, refl);
    }) id command planned

-- one that commits a group removes none
keeps_group : (state : GroupState) (line : Line) (now : ℕ) (given : List Part) (group : Group)
    → (change_of state line now given).group ≡ Some group → removes line.command ≡ false
keeps_group state line now given group made = by line.command refl
  where
    by : (command : Command) → line.command ≡ command → removes command ≡ false
    by (Vgremove vg) is =
        absurd (let e : ◌≡◌ {A = Option Group} None (Some group) = sym
        (ap (λ (c : Command). (change_of state (record { number = line.number; id = line.id; command = c }) now given).group) is)
        ∙ made in cc)
    by command is = refl

-- a line that creates no physical volume
creates_no_disk : (o : Origin) (line : Line) → created_disk o.names line.command ≡ None → LeavesDisk o line
creates_no_disk o line none disk created = absurd (let e : None ≡ Some disk = sym none ∙ created in cc)

module _ (scans : RepairedScans) (g : Given) (start ended : Record) where
  -- no command is pending at its end: its history begins at the hand-in, or at the end of the repair
  handed_so : (es : List ChronicleEntry) → Tells
      (origin_of g.handed (length g.handed.steps) g.sizes g.names g.clock (version_in g.found) ended) es → is_some (pending es) ≡ false
      → HasHistoryOf g ended (journal_of es) (lines_of es es)
  handed_so es = none_pending g.handed g.base g.sizes g.names g.clock ended (length g.handed.steps) (version_in g.found) es

  repaired_so : (es : List ChronicleEntry)
      → Tells (origin_of g.handed (length start.steps) g.sizes g.names g.clock (version_in g.found) ended) es → is_some (pending es) ≡ false
      → HasHistoryOf g ended (journal_of es) (lines_of es es)
  repaired_so es = none_pending g.handed g.base g.sizes g.names g.clock ended (length start.steps) (version_in g.found) es

  -- ---- its line wasn't begun
  pub ends : (stage : Stage) → RunsLine g stage start ended → IsBeforeLine stage → HasHistoryOf g ended [] []
  ends Opened r early =
      handed_so [] (no_line (origin_handed scans g Opened start ended r refl) (stays_handed scans g Opened start ended r refl)) refl
  ends Repairing r early =
      handed_so [] (no_line (origin_handed scans g Repairing start ended r refl) (stays_handed scans g Repairing start ended r refl)) refl
  ends Repaired r early =
      repaired_so [] (no_line (origin_repaired scans g Repaired start ended r refl)
      (stays_repaired scans g Repaired start ended r refl refl)) refl
  ends Zeroing r early = absurd early
  ends Writing r early = absurd early
  ends Done r early = absurd early

  -- ---- it ended before its zeros were written
  module _ (stage : Stage) (r : RunsLine g stage start ended) (repaired : is_repaired stage ≡ true) (unzeroed : is_zeroed stage ≡ false)
    where
      abbrev zeros : WritesInTurn start (batches_if (zeros_begun stage) (zeros_in g)) (is_zeroed stage) r.zeroed
      zeros = r.zeros repaired

      is_end : ended ≡ steps_on zeros.since start
      is_end = r.unzeroed unzeroed ∙ zeros.steps

      -- it has written nothing where it writes no zeros
      nothing_since : writes_submitted zeros.since ≡ [] → WritesNothing (take (length ended.steps - length start.steps) ended.steps)
      nothing_since none = subst WritesNothing (sym (newest start ended zeros.since is_end)) (none_submitted zeros.since none)

      leaves : writes_submitted zeros.since ≡ [] → LeavesDisk (origin_repaired scans g stage start ended r repaired) g.line
      leaves none disk created =
          none_written (is_created_at g.sizes g.line.command disk) (take (length ended.steps - length start.steps) ended.steps)
          (nothing_since none)

      undone : LeavesDisk (origin_repaired scans g stage start ended r repaired) g.line
          → LeavesAll (origin_repaired scans g stage start ended r repaired) g.line → (said : Answer) → is_good said ≡ false
          → may_say g.line.command said ≡ true
          → Tells (origin_repaired scans g stage start ended r repaired)
          (answered_entries (origin_repaired scans g stage start ended r repaired) g.line said)
      undone left all said bad says =
          undone_line (origin_repaired scans g stage start ended r repaired) g.line
          (stays_repaired scans g stage start ended r repaired unzeroed) (plain_line g.line.id g.line.command r.given.planned) left said
          all bad says

  refused : (r : RunsLine g Repaired start ended) (refusal : OpRefusal)
      → HasHistoryOf g ended (journal_of_line (length start.steps) None (length ended.steps)) ((g.line, Some (answer.Refused refusal)) ∷ [])
  refused r refusal =
      let none : writes_submitted (r.zeros refl).since ≡ [] = (r.zeros refl).writes ∙ nothing_of (r.zeros refl).submitted in
      repaired_so (answered_entries (origin_repaired scans g Repaired start ended r refl) g.line (answer.Refused refusal))
      (undone Repaired r refl refl (leaves Repaired r refl refl none) (λ removing. nothing_since Repaired r refl refl none)
      (answer.Refused refusal) refl
      (ap not (planned_says g.line.id g.line.command 0 r.given.planned).0)) refl

  -- ---- its zeros were begun
  kind : (stage : Stage) (r : RunsLine g stage start ended) (repaired : is_repaired stage ≡ true) (begun : zeros_begun stage ≡ true)
      → Kind g.sizes g.names g.line.command (change scans g stage start ended r repaired)
  kind stage r repaired begun =
      kind_of (state_in (repaired_of g.found) g.names g.backup) g.sizes (scan_repaired scans g stage start ended r repaired).are.sizes_is
      (r.given.named ∙ sym (repaired_count g.found))
      (λ k disk there. ((r.repaired_shape repaired).disks k disk there).0) g.line g.clock g.given r.given.planned (r.given_back begun)
      (r.takes begun) (r.passes begun)

  -- one of them failed
  module _ (r : RunsLine g Zeroing start ended) (pv : ℕ) where
    -- a line that creates a physical volume, or removes the group, has none
    none_zeroed : (change scans g Zeroing start ended r refl).zero ≡ [] → writes_submitted (r.zeros refl).since ≡ []
    none_zeroed no_zeros =
        (r.zeros refl).writes ∙ ap (λ (spans : List Span). flat_map (λ (batch : List Put). batch)
        (take (r.zeros refl).submitted (batch_if (map zero_put spans)))) no_zeros ∙ nothing_of (r.zeros refl).submitted

    left : Kind g.sizes g.names g.line.command (change scans g Zeroing start ended r refl)
        → LeavesDisk (origin_repaired scans g Zeroing start ended r refl) g.line
        × LeavesAll (origin_repaired scans g Zeroing start ended r refl) g.line
    left (commits_group group made) = (
      creates_no_disk (origin_repaired scans g Zeroing start ended r refl) g.line
          (none_created scans g Zeroing start ended r refl refl group made),
      λ removing. absurd (true≢false (sym removing
          ∙ keeps_group (state_in (repaired_of g.found) g.names g.backup) g.line g.clock g.given group made)),
    )
    left (creates disk label none created labels on no_zeros places) =
        (leaves Zeroing r refl refl (none_zeroed no_zeros), λ removing. nothing_since Zeroing r refl refl (none_zeroed no_zeros))
    left (removes_group vg command_is none labels no_zeros) = (
      creates_no_disk (origin_repaired scans g Zeroing start ended r refl) g.line (creates_none g.names g.line.command vg command_is),
      λ removing. nothing_since Zeroing r refl refl (none_zeroed no_zeros),
    )

    zeros_failed : HasHistoryOf g ended (journal_of_line (length start.steps) None (length ended.steps))
        ((g.line, Some (answer.PvFailed pv)) ∷ [])
    zeros_failed =
        let left_are = left (kind Zeroing r refl refl) in
        repaired_so (answered_entries (origin_repaired scans g Zeroing start ended r refl) g.line (answer.PvFailed pv))
        (undone Zeroing r refl refl left_are.0 left_are.1 (answer.PvFailed pv) refl
        (planned_says g.line.id g.line.command pv r.given.planned).1) refl

  -- ---- a commit failed
  module _ (r : RunsLine g Writing start ended) (pv : ℕ) (group : Group)
      (made : (change scans g Writing start ended r refl).group ≡ Some group) where
    abbrev own : WritesInTurn r.zeroed (batches_in g) false ended
    own = r.written refl

    abbrev origin : Origin
    origin = origin_repaired scans g Writing start ended r refl

    commit_failed : HasHistoryOf g ended (journal_of_line (length start.steps) None (length ended.steps))
        ((g.line, Some (answer.PvFailed pv)) ∷ [])
    commit_failed =
        ⊎_elim
        (λ (less : own.submitted < length (batches_in g)).
        repaired_so (answered_entries origin g.line (answer.PvFailed pv))
        (undone_line origin g.line (stays_unpublished scans g Writing start ended r refl refl group made less)
        (plain_line g.line.id g.line.command r.given.planned)
        (creates_no_disk origin g.line (none_created scans g Writing start ended r refl refl group made)) (answer.PvFailed pv)
        (λ removing. absurd (true≢false (sym removing
        ∙ keeps_group (state_in (repaired_of g.found) g.names g.backup) g.line g.clock g.given group made))) refl
        (planned_says g.line.id g.line.command pv r.given.planned).1) refl)
        (λ (le : length (batches_in g) ≤ own.submitted). record {
          history =
              (fenced_commit origin g.line (length r.zeroed.steps) (next scans g Writing start ended r refl refl group made)
              (commit_law scans g Writing start ended r refl refl group made) pv).history;
          last =
              λ some. all_submitted g Writing start ended r refl refl ended own.since (batches_in g) 1 own.steps
              (submitted r.zeroed ended (batches_in g) false own le) (omega arith)
              (ap (λ (o : Option Group). making (is_some o) 1 (batches_in g) (clears_in g)) made);
        })
        (cases_lt own.submitted (length (batches_in g)))

  pub failed : (r : RunsLine g Writing start ended) (pv : ℕ)
      → HasHistoryOf g ended (journal_of_line (length start.steps) None (length ended.steps)) ((g.line, Some (answer.PvFailed pv)) ∷ [])
  failed r pv = by (kind Writing r refl refl)
    where
      by : Kind g.sizes g.names g.line.command (change scans g Writing start ended r refl)
          → HasHistoryOf g ended (journal_of_line (length start.steps) None (length ended.steps)) ((g.line, Some (answer.PvFailed pv)) ∷ [])
      by (commits_group group made) = commit_failed r pv group made
      by (creates disk label none created labels on no_zeros places) =
          repaired_so (answered_entries (origin_repaired scans g Writing start ended r refl) g.line (answer.PvFailed pv))
          (failed_create (origin_repaired scans g Writing start ended r refl) g.line disk pv
          (create_law scans g Writing start ended r refl refl disk label none created labels on no_zeros places (length ended.steps + 1)
          (omega arith))) refl
      by (removes_group vg command_is none labels no_zeros) =
          repaired_so (answered_entries (origin_repaired scans g Writing start ended r refl) g.line (answer.PvFailed pv))
          (undone_line (origin_repaired scans g Writing start ended r refl) g.line
          (stays_unwritten scans g Writing start ended r refl refl vg command_is) (plain_line g.line.id g.line.command r.given.planned)
          (creates_no_disk (origin_repaired scans g Writing start ended r refl) g.line (creates_none g.names g.line.command vg command_is))
          (answer.PvFailed pv)
          (λ removing. removal_unwritten scans g Writing start ended r refl refl vg command_is no_zeros) refl
          (planned_says g.line.id g.line.command pv r.given.planned).1) refl

  pub lines : (stage : Stage) (said : Answer) → RunsLine g stage start ended → MayAnswer stage said
      → HasHistoryOf g ended (journal_of_line (length start.steps) None (length ended.steps)) ((g.line, Some said) ∷ [])
  lines Repaired (answer.Refused refusal) r may = refused r refusal
  lines Zeroing (answer.PvFailed pv) r may = zeros_failed r pv
  lines Writing (answer.PvFailed pv) r may = failed r pv
  lines stage said r may = absurd may

-- ---- disks are cleared behind its batches

-- a line that creates a physical volume clears none
created_clears : (names : List Word) (command : Command) (disk : ℕ) → created_disk names command ≡ Some disk → clears command ≡ false
created_clears names (Vgreduce vg pv) disk created = cc
created_clears names (Vgremove vg) disk created = cc
created_clears names command disk created = refl

module _ (scans : RepairedScans) (g : Given) (start ended : Record) where
  -- the history of a line that was answered so, where it took place at this moment
  abbrev TookPlace : Option ℕ → Answer → Type 0
  TookPlace took said = HasHistoryOf g ended (journal_of_line (length start.steps) took (length ended.steps)) ((g.line, Some said) ∷ [])

  kind_cleared : (well : Bool) (c : ClearsLine g well start ended)
      → Kind g.sizes g.names g.line.command (change scans g Done start c.made c.line refl)
  kind_cleared well c = kind scans g start c.made Done c.line refl refl

  took_by : (well : Bool) (said : Answer) (c : ClearsLine g well start ended) (b : Bool) → commits_in g ≡ b
      → TookPlace (took_of b well (length c.made.steps) (length ended.steps)) said
      → TookPlace (took_of (commits_in g) well (length c.made.steps) (length ended.steps)) said
  took_by well said c b is = subst (λ (k : Bool). TookPlace (took_of k well (length c.made.steps) (length ended.steps)) said) (sym is)

  -- one that commits a group took place once its batches were written
  committed : (well : Bool) (c : ClearsLine g well start ended) (group : Group)
      → (change scans g Done start c.made c.line refl).group ≡ Some group → (said : Answer) → MayFollow said
      → TookPlace (took_of (commits_in g) well (length c.made.steps) (length ended.steps)) said
  committed well c group made said may =
      let version = next scans g Done start c.made c.line refl refl group made in
      took_by well said c true (ap (λ (o : Option Group). is_some o) made)
      (repaired_so scans g start ended (made_entries (whole_origin scans g well start ended c) g.line (length c.line.zeroed.steps)
      (length c.made.steps) version said)
      (made_commit (whole_origin scans g well start ended c) g.line (length c.line.zeroed.steps) version
      (committed_law scans g well start ended c group made) (length c.made.steps) (made_law scans g well start ended c group made) said
      may) refl)

  -- all went well
  module _ (c : ClearsLine g true start ended) where
    all_well : Kind g.sizes g.names g.line.command (change scans g Done start c.made c.line refl)
        → TookPlace (took_of (commits_in g) true (length c.made.steps) (length ended.steps)) answer.Fine
    all_well (commits_group group made) = committed true c group made answer.Fine tt
    all_well (creates disk label none created labels on no_zeros places) =
        let other : clears g.line.command ≡ false = created_clears g.names g.line.command disk created in
        let r : RunsLine g Writing start ended = as_written scans g true start ended c other in
        took_by true answer.Fine c false (ap (λ (o : Option Group). is_some o) none)
        (repaired_so scans g start ended (taken_entries (origin_repaired scans g Writing start ended r refl) g.line)
        (done_create (origin_repaired scans g Writing start ended r refl) g.line disk
        (create_law scans g Writing start ended r refl refl disk label none created labels on no_zeros places (length ended.steps)
        (omega arith))
        (created_law scans g Writing start ended r refl refl disk label none created labels on no_zeros places
        (ended_base scans g true start ended c other refl))) refl)
    all_well (removes_group vg command_is none labels no_zeros) =
        took_by true answer.Fine c false (ap (λ (o : Option Group). is_some o) none)
        (repaired_so scans g start ended (done_entries (whole_origin scans g true start ended c) g.line (length c.made.steps) None)
        (done_commit (whole_origin scans g true start ended c) g.line (length c.made.steps) None
        (removal_law scans g true start ended c vg command_is) (removed_law scans g true start ended c vg command_is refl)) refl)

  -- an operation failed
  module _ (c : ClearsLine g false start ended) (pv : ℕ) where
    -- before the clearing of a vgremove was begun, or behind that
    removal_failed : (vg : Word) → g.line.command ≡ Vgremove vg → (change scans g Done start c.made c.line refl).group ≡ None
        → (change scans g Done start c.made c.line refl).zero ≡ [] → TookPlace None (answer.PvFailed pv)
    removal_failed vg command_is none no_zeros =
        let own : WritesInTurn c.line.zeroed (batches_in g) true c.made = c.line.written refl in
        ⊎_elim
        (λ (begun : 0 < c.clears.submitted). record {
          history =
              (fenced_commit (whole_origin scans g false start ended c) g.line (length c.made.steps) None
              (removal_law scans g false start ended c vg command_is) pv).history;
          last = λ some.
              all_submitted g Done start c.made c.line refl refl ended (c.clears.since ++ own.since)
              (batches_in g ++ take c.clears.submitted (clears_in g)) c.clears.submitted
              (steps_joined c.line.zeroed c.made ended own.since c.clears.since own.steps c.clears.steps)
              (both_begun c.line.zeroed c.made ended (batches_in g) (clears_in g) false own c.clears) (omega (arith, begun))
              (ap (λ (o : Option Group). making (is_some o) c.clears.submitted (batches_in g) (clears_in g)) none);
        })
        (λ (none_begun : c.clears.submitted ≤ 0).
        let unbegun : c.clears.submitted ≡ 0 = omega (arith, none_begun) in
        repaired_so scans g start ended (answered_entries (whole_origin scans g false start ended c) g.line (answer.PvFailed pv))
        (undone_line (whole_origin scans g false start ended c) g.line (stays_unremoved scans g false start ended c vg command_is unbegun)
        (plain_line g.line.id g.line.command c.line.given.planned)
        (creates_no_disk (whole_origin scans g false start ended c) g.line (creates_none g.names g.line.command vg command_is))
        (answer.PvFailed pv)
        (λ removing. removal_unbegun scans g false start ended c vg command_is unbegun no_zeros) refl
        (planned_says g.line.id g.line.command pv c.line.given.planned).1) refl)
        (cases_lt 0 c.clears.submitted)

    one_failed : Kind g.sizes g.names g.line.command (change scans g Done start c.made c.line refl)
        → TookPlace (took_of (commits_in g) false (length c.made.steps) (length ended.steps)) (answer.PvFailed pv)
    one_failed (commits_group group made) = committed false c group made (answer.PvFailed pv) tt
    one_failed (creates disk label none created labels on no_zeros places) =
        took_by false (answer.PvFailed pv) c false (ap (λ (o : Option Group). is_some o) none)
        (failed scans g start ended (as_written scans g false start ended c (created_clears g.names g.line.command disk created)) pv)
    one_failed (removes_group vg command_is none labels no_zeros) =
        took_by false (answer.PvFailed pv) c false (ap (λ (o : Option Group). is_some o) none) (removal_failed vg command_is none no_zeros)

  pub cleared : (well : Bool) (said : Answer) (c : ClearsLine g well start ended) → MayEnd well said
      → TookPlace (took_of (commits_in g) well (length c.made.steps) (length ended.steps)) said
  cleared true answer.Fine c may = all_well c (kind_cleared true c)
  cleared false (answer.PvFailed pv) c may = one_failed c pv (kind_cleared false c)
  cleared well said c may = absurd may
