-- What a line does to the disks: nothing but a look, as far as it came, or reads.
use Rattle.std.proofs.Common.{◌≡◌, ℕ, Bool, true, false, List, [], ◌++◌, Option, None, Some, IfSome, refl, inl, sym, subst, ◌∙◌, arith}
use Rattle.std.proofs.lemmas.Bool.{false≢true}
use Rattle.std.specs.Bool.{MatchBool}
use Rattle.std.specs.FinSet as set
use Rattle.std.specs.Ordering.{nat_cmp}
use Rattle.std.specs.Prelude.{IsTrue}
use Rattle.sector_base.specs.declared.spans.Span.{Span}
use Rattle.disk_batch.specs.InTurn.{Put, WritesInTurn}
use Rattle.disk_model.specs.State.{State}
use Rattle.disk_model.specs.Faults.{HasSameFaults}
use Rattle.disk_model.specs.Since.{BetweenRecords, HoldsOfDisk, KeepsSectors, OnlyReads, ReadsTold}
use Rattle.disk_model.specs.Steps.{Image, IsSame, Record, now_after}
use Rattle.disk_model.proofs.KeptSectors.{kept_images}
use Rattle.vg_found.specs.declared.found.Found.{Found}
use Rattle.vg_scan.specs.Scans.{FailedOn, HoldsNow}
use Rattle.lvm_run.specs.declared.outcome.Outcome.{Outcome}
use Rattle.lvm_run.specs.CommandSpec.{CommandSpec, Context, Finds, Inputs}
use Rattle.lvm_run.specs.Meets.{ChangesDisks, DoesToDisks, ReadsDisks, batches_if, is_done, is_repaired, is_taken, line_begun, repair_begun}
use Rattle.lvm_run.specs.Scan.{OpensDisks}

-- what isn't so
pub untrue : (b : Bool) → b ≡ false → IsTrue b → ⊥
untrue b e is = false≢true (sym e ∙ is)

-- ---- nothing is written

nothing_kept : (told : Record) → KeepsSectors told [] told
nothing_kept told = record { since = []; steps = refl; nothing = tt; same = λ pv sector. refl; flushes = λ k d lt. absurd (omega arith) }

-- no batch is written
pub none_in_turn : (told : Record) (well : Bool) → WritesInTurn told [] well told
none_in_turn told well = record {
  since = [];
  steps = refl;
  submitted = 0;
  among = omega arith;
  writes = refl;
  unread = refl;
  whole = λ went. refl;
  every_image = λ base is moment from upto image im.
      let same : IsSame image base = kept_images told told [] (nothing_kept told) base is moment from upto image im in
      record { count = 0; among = omega arith; either = λ pv sector. inl (same pv sector) };
  lasting = λ went base is. is;
  now = λ went pv sector. refl;
}

-- nor are batches that weren't begun
pub none_begun : (begun well : Bool) (batches : List (List Put)) (told : Record) → begun ≡ false
    → WritesInTurn told (batches_if begun batches) well told
none_begun true well batches told e = absurd (cc)
none_begun false well batches told e = none_in_turn told well

-- a look that doesn't pass
pub unpassed : (sizes : List ℕ) (old new : Record) → OpensDisks sizes old true new → OpensDisks sizes old false new
unpassed sizes old new o = record {
  since = o.since;
  steps = o.steps;
  nothing = o.nothing;
  same = o.same;
  flushed = λ passes. absurd (cc);
  ordered = o.ordered;
  few = o.few;
}

-- nothing behind the zeros of a line was written
pub unwritten : (spec : CommandSpec) (context : Context) (given : Inputs) (outcome : Outcome) → is_done outcome ≡ false
    → (found : Option Found) (old opened start zeroed : Record)
    → (IsTrue (is_taken outcome) → spec.scan context (now_after old.opened old.steps) set.empty (Finds found))
    → OpensDisks context.sizes old (is_taken outcome) opened
    → WritesInTurn opened (batches_if (repair_begun outcome) (spec.repairs found)) (is_repaired outcome) start
    → (IsTrue (line_begun outcome) → spec.takes context found given)
    → WritesInTurn start (batches_if (line_begun outcome) (spec.zeros context found given)) false zeroed
    → ChangesDisks spec context given outcome old zeroed
unwritten spec context given outcome undone found old opened start zeroed scanned opening repair takes zeros = record {
  found = found;
  scanned = scanned;
  opened = opened;
  opening = opening;
  start = start;
  repair = repair;
  takes = takes;
  zeroed = zeroed;
  ready = false;
  zeros = zeros;
  begun = λ ready. absurd (cc);
  made = zeroed;
  written = false;
  line = none_in_turn zeroed false;
  ready_then = λ written. absurd (cc);
  keeps = λ ready. absurd (cc);
  found_after = λ written. absurd (cc);
  clears = none_in_turn zeroed (is_done outcome);
  all = λ done. absurd (untrue (is_done outcome) undone done);
  clearing = λ written. absurd (cc);
  cleared_after = λ done. absurd (untrue (is_done outcome) undone done);
}

-- the line ended with its look
pub looks : (spec : CommandSpec) (context : Context) (given : Inputs) (outcome : Outcome) → repair_begun outcome ≡ false
    → line_begun outcome ≡ false → is_done outcome ≡ false
    → (found : Option Found) (old new : Record)
    → (IsTrue (is_taken outcome) → spec.scan context (now_after old.opened old.steps) set.empty (Finds found))
    → OpensDisks context.sizes old (is_taken outcome) new → ChangesDisks spec context given outcome old new
looks spec context given outcome unrepaired unlined undone found old new scanned opens =
    unwritten spec context given outcome undone found old new new new scanned opens
    (none_begun (repair_begun outcome) (is_repaired outcome) (spec.repairs found) new unrepaired)
    (λ begun. absurd (untrue (line_begun outcome) unlined begun))
    (none_begun (line_begun outcome) false (spec.zeros context found given) new unlined)

-- ---- reads alone

-- the line reads, as far as it came
pub reads_disks : (spec : CommandSpec) (context : Context) (given : Inputs) → spec.flushes ≡ false
    → (outcome : Outcome) (old new : Record) (read unread : List Span)
    → OnlyReads old read new → spec.reads context (now_after old.opened old.steps) (read ++ unread)
    → DoesToDisks spec context given outcome old new
reads_disks spec context given alone outcome old new read unread reads spans =
    subst (λ (b : Bool). MatchBool b (ChangesDisks spec context given outcome old new) (ReadsDisks spec context old new)) (sym alone)
    (record { read = read; reads = reads; unread = unread; spans = spans })

-- what holds of the sectors of a disk before a call that reads
pub between_reading : (R : Record → Record → Type 0) (s0 s1 : Option Record) (spans : List Span) (pv : ℕ) (P : (ℕ → List ℕ) → Type 0)
    → ReadsTold s0 spans s1 → HoldsOfDisk s0 pv P
    → ((old new : Record) → OnlyReads old spans new → P (now_after old.opened old.steps pv) → R old new) → BetweenRecords R s0 s1
between_reading R s0 s1 spans pv P reads holds make old e =
    let r = reads old e in
    (r.0, r.1, make old r.0 r.2 (subst (λ (o : Option Record). IfSome o (λ t. P (now_after t.opened t.steps pv))) e holds))

-- what holds of the disks as reads give them
pub holds_now_weaker : (told : Option Record) (P Q : Image → Type 0) → ((image : Image) → P image → Q image) → HoldsNow told P
    → HoldsNow told Q
holds_now_weaker None P Q more h = tt
holds_now_weaker (Some t) P Q more h = more (now_after t.opened t.steps) h

pub holds_now_anyway : (told : Option Record) (P : Image → Type 0) → ((image : Image) → P image) → HoldsNow told P
holds_now_anyway None P all = tt
holds_now_anyway (Some t) P all = all (now_after t.opened t.steps)

-- nothing failed on any disk
pub none_failed : (old new : State) → HasSameFaults old new → FailedOn set.empty old new
none_failed old new same =
    record { rose = λ pv there. absurd (false≢true (sym (set.contains-empty nat_cmp pv) ∙ there)); same = λ pv none. same pv }
