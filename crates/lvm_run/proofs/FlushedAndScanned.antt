-- The disks are flushed and scanned, and nothing is written.
use Rattle.std.proofs.Common.{◌≡◌, ◌<◌, ℕ, Bool, true, false, List, [], ◌∷◌, ◌++◌, length, Option, Some, None, refl, inl, sym, ap, subst}
use Rattle.std.proofs.Common.{◌∙◌, arith}
use Rattle.std.specs.FinSet as set
use Rattle.std.specs.Ordering.{nat_cmp}
use Rattle.std.specs.Prelude.{Result, Ok, Err, MatchResult}
use Rattle.std.proofs.Math.Path.{fun_ext}
use Rattle.sector_base.specs.declared.spans.Span.{Span}
use Rattle.disk_model.specs.Calls.{Reserves}
use Rattle.disk_model.specs.Faults.{HasSameFaults}
use Rattle.disk_model.specs.Idle.{IsIdleAgain}
use Rattle.disk_model.specs.Order.{HasFlushed}
use Rattle.disk_model.specs.Since.{BetweenRecords, spans_read}
use Rattle.disk_model.specs.State.{State}
use Rattle.disk_model.specs.Steps.{Image, IsSame, Reading, Writing, Flushing, Step, Submitted, Completed, Record, now_after}
use Rattle.disk_model.proofs.Ordered.{flushed_later, writes_nothing_append}
use Rattle.disk_model.proofs.ReadingAlone.{now_after-reads, reads_write_nothing}
use Rattle.disk_model.proofs.StepsSince.{between_both, between_weaker, spans_read-append, steps_joined}
use Rattle.scan_rules.specs.declared.decision.ScanRefusal.{ScanRefusal as RefusalOfScan}
use Rattle.disk_batch.specs.Flushing.{FlushesAll}
use Rattle.vg_found.specs.declared.found.Found.{Found}
use Rattle.vg_found.specs.declared.whole.NotWhole.{NotWhole}
use Rattle.vg_found.specs.declared.whole.NotWhole.TheVariants as not_whole
use Rattle.vg_found.specs.Whole.{IsNotWhole}
use Rattle.vg_scan.specs.Scans.{AreFewReads, FailedOn, HoldsNow, IsScan, IsScanOf, IsScanRefused, ReadsFew}
use Rattle.lvm_run.specs.CommandSpec.{Lacks, Refuses}
use Rattle.lvm_run.specs.Scan.{FindsWhole, FlushesBeforeReads, IsOpenCause, IsOpened, IsTakenAsFound, OpensDisks, IsRefusedFor}
use Rattle.lvm_run.specs.ScanEndings.{IsEndingOf, partial_ending}
use Rattle.lvm_run.specs.declared.ending.Ending.{Ending}
use Rattle.lvm_run.specs.declared.ending.Ending.TheVariants.{NoMemory, ScanRefused}
use Rattle.lvm_run.specs.declared.disks_refusal.DisksRefusal.TheVariants.{Disks, Partial}
use Rattle.lvm_run.proofs.Refusals.{none_failed_on, refused_is}

-- ---- steps

-- once the disks were flushed, every read comes after that
reads_later : (disks : ℕ) (newer older : List Step) → ((pv : ℕ) → pv < disks → HasFlushed pv older) → FlushesBeforeReads disks older
    → FlushesBeforeReads disks (newer ++ older)
reads_later disks [] older flushed ordered = ordered
reads_later disks (Submitted tag (Reading span) ∷ newer) older flushed ordered =
    (λ pv lt. flushed_later pv newer older (flushed pv lt), reads_later disks newer older flushed ordered)
reads_later disks (Submitted tag (Writing span sectors) ∷ newer) older flushed ordered = reads_later disks newer older flushed ordered
reads_later disks (Submitted tag (Flushing pv) ∷ newer) older flushed ordered = reads_later disks newer older flushed ordered
reads_later disks (Completed tag work well fresh ∷ newer) older flushed ordered = reads_later disks newer older flushed ordered

-- where nothing was read each read came after whatever
unread_ordered : (disks : ℕ) (steps : List Step) → spans_read steps ≡ [] → FlushesBeforeReads disks steps
unread_ordered disks [] none = tt
unread_ordered disks (Submitted tag (Reading span) ∷ steps) none = absurd (read_some (spans_read steps) none)
  where
    read_some : (spans : List Span) → spans ++ span ∷ [] ≡ [] → ⊥
    read_some [] e = cc
    read_some (first ∷ spans) e = cc
unread_ordered disks (Submitted tag (Writing span sectors) ∷ steps) none = unread_ordered disks steps none
unread_ordered disks (Submitted tag (Flushing pv) ∷ steps) none = unread_ordered disks steps none
unread_ordered disks (Completed tag work well fresh ∷ steps) none = unread_ordered disks steps none

-- ---- what the disks hold

-- images that are the same in each sector are one
pub same_image : (a b : Image) → IsSame a b → a ≡ b
same_image a b same = fun_ext (λ pv. fun_ext (λ sector. same pv sector))

-- no disk is read
few_none : (image : Image) (sizes : List ℕ) → AreFewReads image sizes []
few_none image sizes pv = ([], inl refl, omega arith)

-- what holds of the disks after they were flushed held before
pub holds_unflushed : (disks : ℕ) (well : Bool) (s0 s1 : Option Record) (P : Image → Type 0) → BetweenRecords (FlushesAll disks well) s0 s1
    → HoldsNow s1 P → HoldsNow s0 P
holds_unflushed disks well s0 s1 P flushes h = go s0 refl
  where
    go : (o : Option Record) → s0 ≡ o → HoldsNow o P
    go None e = tt
    go (Some t) e =
        let f = flushes t e in
        subst P (same_image (now_after f.0.opened f.0.steps) (now_after t.opened t.steps) f.2.same)
        (subst (λ (o : Option Record). HoldsNow o P) f.1 h)

-- ---- flushes, and a scan

-- nothing was done yet
pub unopened : (sizes : List ℕ) (t : Record) → OpensDisks sizes t false t
unopened sizes t = record {
  since = [];
  steps = refl;
  nothing = tt;
  same = λ pv sector. refl;
  flushed = λ passes. absurd (cc);
  ordered = tt;
  few = few_none (now_after t.opened t.steps) sizes;
}

module _ (sizes : List ℕ) (old new : Record) (f : FlushesAll (length sizes) false old new) where
  flushes_open : OpensDisks sizes old false new
  flushes_open = record {
    since = f.since;
    steps = f.steps;
    nothing = f.nothing;
    same = f.same;
    flushed = λ passes. absurd (cc);
    ordered = unread_ordered (length sizes) f.since f.unread;
    few =
        subst (λ (l : List Span). AreFewReads (now_after old.opened old.steps) sizes l) (sym f.unread)
        (few_none (now_after old.opened old.steps) sizes);
  }

-- a flush failed
pub opens_flushed : (sizes : List ℕ) (s0 s1 : Option Record) → BetweenRecords (FlushesAll (length sizes) false) s0 s1
    → BetweenRecords (λ old new. OpensDisks sizes old false new) s0 s1
opens_flushed sizes s0 s1 flushes =
    between_weaker (FlushesAll (length sizes) false) (λ old new. OpensDisks sizes old false new) s0 s1 (flushes_open sizes) flushes

module _ (sizes : List ℕ) (passes : Bool) (old mid new : Record) (f : FlushesAll (length sizes) true old mid) (r : ReadsFew sizes mid new)
  where
    read_same : IsSame (now_after new.opened new.steps) (now_after mid.opened mid.steps)
    read_same pv sector =
        subst (λ (t : Record). now_after t.opened t.steps pv sector ≡ now_after mid.opened mid.steps pv sector) (sym r.steps)
        (ap (λ (i : Image). i pv sector) (now_after-reads mid.opened r.since mid.steps r.reads))

    reads_are : spans_read (r.since ++ f.since) ≡ spans_read r.since
    reads_are = spans_read-append r.since f.since ∙ ap (λ (l : List Span). l ++ spans_read r.since) f.unread

    reads_open : OpensDisks sizes old passes new
    reads_open = record {
      since = r.since ++ f.since;
      steps = steps_joined old mid new f.since r.since f.steps r.steps;
      nothing = writes_nothing_append r.since f.since (reads_write_nothing r.since r.reads) f.nothing;
      same = λ pv sector. read_same pv sector ∙ f.same pv sector;
      flushed = λ _ pv within. flushed_later pv r.since f.since (f.flushed refl pv within);
      ordered = reads_later (length sizes) r.since f.since (f.flushed refl) (unread_ordered (length sizes) f.since f.unread);
      few = subst (λ (l : List Span). AreFewReads (now_after old.opened old.steps) sizes l) (sym reads_are)
          (subst (λ (image : Image). AreFewReads image sizes (spans_read r.since))
          (same_image (now_after mid.opened mid.steps) (now_after old.opened old.steps) f.same) r.few);
    }

-- all were flushed, and then scanned
pub opens_scanned : (sizes : List ℕ) (passes : Bool) (s0 s1 s2 : Option Record) → BetweenRecords (FlushesAll (length sizes) true) s0 s1
    → BetweenRecords (ReadsFew sizes) s1 s2
    → BetweenRecords (λ old new. OpensDisks sizes old passes new) s0 s2
opens_scanned sizes passes s0 s1 s2 flushes reads =
    between_both (FlushesAll (length sizes) true) (ReadsFew sizes) (λ old new. OpensDisks sizes old passes new) s0 s1 s2
    (reads_open sizes passes) flushes reads

-- ---- what it comes to

module _ (old mid new : State) (same_sizes : mid.sizes ≡ old.sizes)
    (flushes : BetweenRecords (FlushesAll (length old.sizes) true) old.told mid.told) (none : HasSameFaults old mid) where
  failed_since : (unread : set.FinSet nat_cmp) → FailedOn unread mid new → FailedOn unread old new
  failed_since unread f = record {
    rose = λ pv is. subst (λ (n : ℕ). n < new.faults pv) (none pv) (f.rose pv is);
    same = λ pv is. f.same pv is ∙ none pv;
  }

  held : (P : Image → List ℕ → Type 0) → HoldsNow mid.told (λ image. P image mid.sizes) → HoldsNow old.told (λ image. P image old.sizes)
  held P h =
      holds_unflushed (length old.sizes) true old.told mid.told (λ image. P image old.sizes) flushes
      (subst (λ (sizes : List ℕ). HoldsNow mid.told (λ image. P image sizes)) same_sizes h)

  -- the scan was refused
  pub refused_cause : (why : RefusalOfScan) (unread : set.FinSet nat_cmp) (ending : Ending) → IsScanRefused mid why unread new
      → IsEndingOf why unread ending → IsOpenCause old new ending
  refused_cause why unread NoMemory is ends = tt
  refused_cause why unread (ScanRefused (Disks refusal) whole) is ends =
      let r = refused_is mid new why unread ends.1 is in (
        unread,
        record { failed = failed_since unread r.1; all = ends.2 },
        subst (λ (w : RefusalOfScan). HoldsNow old.told (λ image. IsRefusedFor image old.sizes unread w)) (sym ends.0)
            (held (λ image sizes. IsRefusedFor image sizes unread why) r.0),
      )
  refused_cause why unread _ is ends = absurd ends

  module _ (found : Found) (is : IsScan mid found new) where
    found_now : HoldsNow old.told (λ image. IsScanOf image old.sizes found)
    found_now = held (λ image sizes. IsScanOf image sizes found) is.now

    not_whole_cause : (why : NotWhole) → IsNotWhole found why → IsOpenCause old new (partial_ending found why)
    not_whole_cause (not_whole.ReadFailed pv) unread = (found.unread, failed_since found.unread is.faults, lacks)
      where
        lacks : HoldsNow old.told (λ image. FindsWhole image old.sizes found.unread (Lacks pv))
        lacks = go old.told found_now
          where
            go : (o : Option Record) → HoldsNow o (λ image. IsScanOf image old.sizes found)
                → HoldsNow o (λ image. FindsWhole image old.sizes found.unread (Lacks pv))
            go None h = tt
            go (Some t) h = (found, h, refl, unread)
    not_whole_cause not_whole.Partial missing = (
      found.unread,
      record { failed = failed_since found.unread is.faults; all = (λ yes. missing.0, λ empty. refl) },
      partial,
    )
      where
        partial : HoldsNow old.told (λ image. FindsWhole image old.sizes found.unread (Refuses (Partial found.missing)))
        partial = go old.told found_now
          where
            go : (o : Option Record) → HoldsNow o (λ image. IsScanOf image old.sizes found)
                → HoldsNow o (λ image. FindsWhole image old.sizes found.unread (Refuses (Partial found.missing)))
            go None h = tt
            go (Some t) h = (found, h, refl, missing.0, refl, missing.1)

    -- it is taken where it is whole
    pub taken_cause : (result : Result Found Ending) → IsTakenAsFound found result
        → MatchResult result (λ taken. IsOpened old taken new) (IsOpenCause old new)
    taken_cause (Ok taken) is_taken =
        subst (λ (f : Found). IsOpened old f new) (sym is_taken.0) (record {
          sizes = is.sizes ∙ same_sizes;
          now = found_now;
          faults = none_failed_on found.unread old new is_taken.1.read (failed_since found.unread is.faults);
          shape = is.shape;
          whole = is_taken.1;
        })
    taken_cause (Err ending) is_taken = subst (IsOpenCause old new) (sym is_taken.2) (not_whole_cause is_taken.0 is_taken.1)

-- ---- after room was made for the flushes

module _ (s0 made s1 : State) (ops sectors : ℕ) (room : Reserves s0 ops sectors made) where
  told_same : made.told ≡ s0.told
  told_same = ap (λ (s : State). s.told) room.same

  sizes_same : made.sizes ≡ s0.sizes
  sizes_same = ap (λ (s : State). s.sizes) room.same

  flushes_since : (well : Bool) → BetweenRecords (FlushesAll (length made.sizes) well) made.told s1.told
      → BetweenRecords (FlushesAll (length s0.sizes) well) s0.told s1.told
  flushes_since well flushes =
      subst (λ (o : Option Record). BetweenRecords (FlushesAll (length s0.sizes) well) o s1.told) told_same
      (subst (λ (l : List ℕ). BetweenRecords (FlushesAll (length l) well) made.told s1.told) sizes_same flushes)

  faults_since : HasSameFaults made s1 → HasSameFaults s0 s1
  faults_since same pv = same pv ∙ ap (λ (s : State). s.faults pv) room.same

  pub opens_failed : BetweenRecords (FlushesAll (length made.sizes) false) made.told s1.told
      → BetweenRecords (λ old new. OpensDisks s0.sizes old false new) s0.told s1.told
  opens_failed flushes = opens_flushed s0.sizes s0.told s1.told (flushes_since false flushes)

  module _ (again : IsIdleAgain made s1) (flushes : BetweenRecords (FlushesAll (length made.sizes) true) made.told s1.told) (s2 : State)
    where
      pub opens_all : (passes : Bool) → BetweenRecords (ReadsFew s1.sizes) s1.told s2.told
          → BetweenRecords (λ old new. OpensDisks s0.sizes old passes new) s0.told s2.told
      opens_all passes reads =
          opens_scanned s0.sizes passes s0.told s1.told s2.told (flushes_since true flushes)
          (subst (λ (l : List ℕ). BetweenRecords (ReadsFew l) s1.told s2.told) (again.sizes ∙ sizes_same) reads)

      module _ (same : HasSameFaults made s1) where
        pub refused_after : (why : RefusalOfScan) (unread : set.FinSet nat_cmp) (ending : Ending) → IsScanRefused s1 why unread s2
            → IsEndingOf why unread ending → IsOpenCause s0 s2 ending
        refused_after = refused_cause s0 s1 s2 (again.sizes ∙ sizes_same) (flushes_since true flushes) (faults_since same)

        pub taken_after : (found : Found) → IsScan s1 found s2 → (result : Result Found Ending) → IsTakenAsFound found result
            → MatchResult result (λ taken. IsOpened s0 taken s2) (IsOpenCause s0 s2)
        taken_after found is = taken_cause s0 s1 s2 (again.sizes ∙ sizes_same) (flushes_since true flushes) (faults_since same) found is
