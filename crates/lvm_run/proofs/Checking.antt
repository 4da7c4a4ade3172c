-- pvck: judged, and then a report or none.
use Rattle.std.proofs.Common.{◌≡◌, ℕ, Bool, true, List, [], ◌∷◌, ◌++◌, slice_index_or, Option, Some, None, IfSome, refl, sym, ap, subst}
use Rattle.std.proofs.Common.{inl, inr, append-nil}
use Rattle.std.specs.FinSet as set
use Rattle.std.specs.Prelude.{unwrap_or}
use Rattle.sector_base.specs.declared.spans.Span.{Span}
use Rattle.command_table.specs.Options.{Word, number_named}
use Rattle.line_answers.specs.declared.answer.Answer.TheVariants.{Refused}
use Rattle.line_answers.specs.declared.answer.Answer.TheVariants as answer
use Rattle.line_answers.specs.declared.op_refusal.OpRefusal.TheVariants.{UnknownPv}
use Rattle.disk_model.proofs.IdleAgain.{again_nothing}
use Rattle.disk_model.specs.Faults.{HasSameFaults, IsLastFault}
use Rattle.disk_model.specs.Idle.{IsIdleAgain}
use Rattle.disk_model.specs.Since.{BetweenRecords}
use Rattle.disk_model.specs.State.{State}
use Rattle.disk_model.specs.Steps.{Image, Reading, now_after}
use Rattle.pv_label.specs.LabelSectors.{label_span}
use Rattle.pv_header.specs.declared.extent_list.Extent.{Extent}
use Rattle.disk_contents.specs.declared.contents.PvFound.{PvFound}
use Rattle.disk_contents.specs.declared.contents.PvFound.TheVariants.{NoLabel, NoHeader, Whole}
use Rattle.disk_contents.specs.Contents.{IsFound}
use Rattle.disk_contents.specs.Reads.{AreAreasOf, ReadsAllOf, ReadsFirstOf, area_spans, areas_found}
use Rattle.lvm_report.specs.Report.{IsReport}
use Rattle.lvm_run.specs.declared.ending.Ending.TheVariants.{NoMemory, ScanReadFailed}
use Rattle.lvm_run.specs.declared.outcome.Outcome.{Outcome}
use Rattle.lvm_run.specs.declared.outcome.Outcome.TheVariants.{Ended, Answered, Reported}
use Rattle.lvm_run.specs.CommandSpec.{Context, Finds, no_inputs, number_in}
use Rattle.lvm_run.specs.Commands.Pvck.{pvck}
use Rattle.lvm_run.specs.Meets.{DoesToDisks, IsScanned, IsTaken, Meets}
use Rattle.lvm_run.proofs.ChangedDisks.{between_reading, holds_now_anyway, none_failed, reads_disks}

-- the metadata areas of what was found are those that the header names
areas_of_found : (sector_at : ℕ → List ℕ) (disk : ℕ) (found : PvFound) → IsFound sector_at disk found
    → AreAreasOf sector_at disk (areas_found found)
areas_of_found sector_at disk (NoLabel refusal) is = inl refl
areas_of_found sector_at disk (NoHeader label refusal) is = inl refl
areas_of_found sector_at disk (Whole label header areas) is = inr (label, header, is.0, is.1, refl)

module _ (names : List Word) (id : Option (List ℕ)) (pv : List ℕ) (time : ℕ) (old new : State) where
  abbrev context : Context
  context = record { names = names; sizes = old.sizes; id = id; now = time }

  -- it has no scan
  no_scan : IsScanned (pvck pv) context set.empty old (Finds None)
  no_scan = holds_now_anyway old.told (λ image. Finds None ≡ Finds None) (λ image. refl)

  taken : IsTaken (pvck pv) context old None None
  taken = record { scanned = no_scan; stuck_is = refl }

  -- no disk has the name
  pub meets_unknown : number_named names pv ≡ None → old.in_flight ≡ []
      → Meets (pvck pv) context old (Answered 1 (Refused (UnknownPv pv))) old
  meets_unknown unknown idle = record {
    given = no_inputs;
    cause = (refl, λ disk. refl, (None, taken, refl, rw unknown refl));
    told = λ told e. (
      told,
      e,
      reads_disks (pvck pv) context no_inputs refl (Answered 1 (Refused (UnknownPv pv))) told told []
          (label_span (number_in context pv) ∷ [])
          (record { since = []; steps = refl; reads = tt; spans_are = refl }) ([], inl refl, refl),
    );
    again = again_nothing old idle;
  }

  -- memory was wanting before anything was done
  pub meets_undone : old.in_flight ≡ [] → Meets (pvck pv) context old (Ended NoMemory) old
  meets_undone idle = record {
    given = no_inputs;
    cause = λ disk. refl;
    told = λ told e. (
      told,
      e,
      reads_disks (pvck pv) context no_inputs refl (Ended NoMemory) told told [] (label_span (number_in context pv) ∷ [])
          (record { since = []; steps = refl; reads = tt; spans_are = refl }) ([], inl refl, refl),
    );
    again = again_nothing old idle;
  }

  module _ (disk : ℕ) (known : number_named names pv ≡ Some disk) where
    number_is : number_in context pv ≡ disk
    number_is = ap (λ (o : Option ℕ). unwrap_or o 0) known

    passes : (pvck pv).refusal context None no_inputs ≡ None
    passes = rw known refl

    abbrev ReadsOn : ℕ → Image → List Span → Type 0
    ReadsOn n image spans =
        (areas : List Extent) × AreAreasOf (image n) (slice_index_or old.sizes n 0) areas × (spans ≡ label_span n ∷ area_spans n areas)

    reads_named : (image : Image) (spans : List Span) → ReadsOn disk image spans → (pvck pv).reads context image spans
    reads_named image spans reads = subst (λ (n : ℕ). ReadsOn n image spans) (sym number_is) reads

    told_all : (outcome : Outcome) → ReadsAllOf disk (slice_index_or old.sizes disk 0) old new
        → BetweenRecords (DoesToDisks (pvck pv) context no_inputs outcome) old.told new.told
    told_all outcome r =
        let spans = label_span disk ∷ area_spans disk (areas_found r.found) in
        between_reading (DoesToDisks (pvck pv) context no_inputs outcome) old.told new.told spans disk
        (λ sector_at. IsFound sector_at (slice_index_or old.sizes disk 0) r.found) r.reads r.is
        (λ before after reads is. reads_disks (pvck pv) context no_inputs refl outcome before after spans [] reads
        (reads_named (now_after before.opened before.steps) (spans ++ []) (
          areas_found r.found,
          areas_of_found (now_after before.opened before.steps disk) (slice_index_or old.sizes disk 0) r.found is,
          append-nil spans,
        )))

    told_first : (outcome : Outcome) → ReadsFirstOf disk (slice_index_or old.sizes disk 0) old new
        → BetweenRecords (DoesToDisks (pvck pv) context no_inputs outcome) old.told new.told
    told_first outcome r =
        between_reading (DoesToDisks (pvck pv) context no_inputs outcome) old.told new.told r.read disk
        (λ sector_at. AreAreasOf sector_at (slice_index_or old.sizes disk 0) r.areas) r.reads r.are
        (λ before after reads are. reads_disks (pvck pv) context no_inputs refl outcome before after r.read r.rest reads
        (reads_named (now_after before.opened before.steps) (r.read ++ r.rest) (r.areas, are, r.front)))

    pub meets_reported : (text : List ℕ) (all : Bool) → all ≡ true → HasSameFaults old new → IsIdleAgain old new
        → ReadsAllOf disk (slice_index_or old.sizes disk 0) old new
        → IfSome old.told (λ told. IsReport (now_after told.opened told.steps disk) (slice_index_or old.sizes disk 0) text)
        → Meets (pvck pv) context old (Reported text all) new
    meets_reported text all whole same again reads report = record {
      given = no_inputs;
      cause = (
        refl,
        (
          set.empty,
          None,
          record { failed = none_failed old new same; all = (λ yes. refl, λ none. whole) },
          no_scan,
          passes,
          subst (λ (n : ℕ). IfSome old.told (λ told. IsReport (now_after told.opened told.steps n) (slice_index_or old.sizes n 0) text))
              (sym number_is) report,
        ),
      );
      told = told_all (Reported text all) reads;
      again = again;
    }

    pub meets_read_failed : (pv' : ℕ) (span : Span) → pv' ≡ disk → IsLastFault old new disk (Reading span) → IsIdleAgain old new
        → ReadsFirstOf disk (slice_index_or old.sizes disk 0) old new
        → Meets (pvck pv) context old (Ended (ScanReadFailed pv')) new
    meets_read_failed pv' span is fault again reads = record {
      given = no_inputs;
      cause = (λ e. passes, (span, subst (λ (n : ℕ). IsLastFault old new n (Reading span)) (sym is) fault));
      told = told_first (Ended (ScanReadFailed pv')) reads;
      again = again;
    }

    pub meets_without_memory : HasSameFaults old new → IsIdleAgain old new → ReadsFirstOf disk (slice_index_or old.sizes disk 0) old new
        → Meets (pvck pv) context old (Answered 1 answer.NoMemory) new
    meets_without_memory same again reads = record {
      given = no_inputs;
      cause = (refl, same);
      told = told_first (Answered 1 answer.NoMemory) reads;
      again = again;
    }
