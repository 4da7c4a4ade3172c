-- One part of a call that only reads after another, and what one read does.
use Rattle.std.proofs.Common.{◌≡◌, ◌<◌, ℕ, ◌+◌, ◌-◌, List, [], ◌∷◌, ◌++◌, slice_index_or, IsTrue, Option, Some, None, IfSome, option_map}
use Rattle.std.proofs.Common.{refl, sym, ap, subst, ◌∙◌, arith, append_assoc}
use Rattle.std.proofs.lemmas.Bool.Decides.{nat_tests}
use Rattle.sector_base.specs.declared.spans.Span.{Span}
use Rattle.sector_base.specs.Spans.{covers}
use Rattle.disk_model.specs.declared.fault.DiskFault.{DiskFault}
use Rattle.disk_model.specs.declared.ops.Op.TheVariants.{Read}
use Rattle.disk_model.specs.declared.ops.Done.{Done}
use Rattle.disk_model.specs.Steps.{Reading, Record, now_after, value_at}
use Rattle.disk_model.specs.Calls.{Reserves}
use Rattle.disk_model.specs.CarriesOut.{CarriesOut, with_operation}
use Rattle.disk_model.specs.Faults.{HasSameFaults, IsLastFault}
use Rattle.disk_model.specs.Idle.{SpendsAtMost}
use Rattle.disk_model.specs.Since.{HoldsOfDisk, ReadsTold}
use Rattle.disk_model.specs.State.{State}
use Rattle.disk_model.proofs.IdleAgain.{again_both, again_reserved, again_same, again_spent}
use Rattle.disk_model.proofs.LastFault.{last_fault_after}
use Rattle.disk_model.proofs.ReadingAlone.{reads_told_both, reads_told_nothing}
use Rattle.disk_contents.specs.declared.read_refusal.ReadRefusal.{ReadRefusal}
use Rattle.disk_contents.specs.declared.read_refusal.ReadRefusal.TheVariants.{NoMemory, ReadFailed}
use Rattle.disk_contents.specs.Causes.{IsReadCause}
use Rattle.disk_contents.specs.Parts.{ReadsUntil, ReadsWell}

-- room was made
pub well_reserved : (s0 s1 : State) (ops sectors : ℕ) → Reserves s0 ops sectors s1 → s0.in_flight ≡ [] → ReadsWell s0 [] s1
well_reserved s0 s1 ops sectors r idle = record {
  reads = reads_told_nothing s0.told s1.told (ap (λ (s : State). s.told) r.same);
  silent = λ none. ap (λ (s : State). s.told) r.same ∙ none;
  again = again_reserved s0 s1 ops sectors r idle;
  faults = λ p. ap (λ (s : State). s.faults p) r.same;
}

-- nothing was done
pub well_nothing : (s0 s1 : State) → s1 ≡ s0 → s0.in_flight ≡ [] → ReadsWell s0 [] s1
well_nothing s0 s1 same idle = record {
  reads = reads_told_nothing s0.told s1.told (ap (λ (s : State). s.told) same);
  silent = λ none. ap (λ (s : State). s.told) same ∙ none;
  again = again_same s0 s1 same idle;
  faults = λ p. ap (λ (s : State). s.faults p) same;
}

-- a part that went well, and then another
pub well_both : (s0 s1 s2 : State) (first more : List Span) → ReadsWell s0 first s1 → ReadsWell s1 more s2 → ReadsWell s0 (first ++ more) s2
well_both s0 s1 s2 first more a b = record {
  reads = reads_told_both first more s0.told s1.told s2.told a.reads b.reads;
  silent = λ none. b.silent (a.silent none);
  again = again_both s0 s1 s2 a.again b.again;
  faults = λ p. b.faults p ∙ a.faults p;
}

cause_after : (pv : ℕ) (s0 s1 s2 : State) (refusal : ReadRefusal) → HasSameFaults s0 s1 → IsReadCause pv s1 s2 refusal
    → IsReadCause pv s0 s2 refusal
cause_after pv s0 s1 s2 NoMemory same cause = λ p. cause p ∙ same p
cause_after pv s0 s1 s2 (ReadFailed fault) same cause =
    (cause.0, (cause.1.0, last_fault_after s0 s1 s2 pv (Reading cause.1.0) same cause.1.1))

-- and then one that ended the call
pub until_after : (pv : ℕ) (s0 s1 s2 : State) (first more : List Span) (refusal : ReadRefusal) → ReadsWell s0 first s1
    → ReadsUntil pv s1 more s2 refusal → ReadsUntil pv s0 (first ++ more) s2 refusal
until_after pv s0 s1 s2 first more refusal a b = record {
  read = first ++ b.read;
  rest = b.rest;
  front = append_assoc first b.read b.rest ∙ ap (λ (l : List Span). first ++ l) b.front;
  reads = reads_told_both first b.read s0.told s1.told s2.told a.reads b.reads;
  again = again_both s0 s1 s2 a.again b.again;
  cause = cause_after pv s0 s1 s2 refusal a.faults b.cause;
}

-- a part that ended the call before others
pub until_sooner : (pv : ℕ) (s0 s1 : State) (first more spans : List Span) (refusal : ReadRefusal) → first ++ more ≡ spans
    → ReadsUntil pv s0 first s1 refusal → ReadsUntil pv s0 spans s1 refusal
until_sooner pv s0 s1 first more spans refusal all a = record {
  read = a.read;
  rest = a.rest ++ more;
  front = sym (append_assoc a.read a.rest more) ∙ ap (λ (l : List Span). l ++ more) a.front ∙ all;
  reads = a.reads;
  again = a.again;
  cause = a.cause;
}

-- memory was wanting
pub until_wanting : (pv : ℕ) (s0 s1 : State) (first more spans : List Span) → first ++ more ≡ spans → ReadsWell s0 first s1
    → ReadsUntil pv s0 spans s1 NoMemory
until_wanting pv s0 s1 first more spans all a =
    record { read = first; rest = more; front = all; reads = a.reads; again = a.again; cause = a.faults }

-- a read that went well
pub well_read : (s0 s1 : State) (span : Span) (buffer : List (List ℕ)) (done : Done) → CarriesOut s0 (Read span buffer) done s1
    → ReadsTold s0.told (span ∷ []) s1.told → HasSameFaults s0 s1 → ReadsWell s0 (span ∷ []) s1
well_read s0 s1 span buffer done c reads faults = record {
  reads = reads;
  silent = λ none. c.told.1 ∙ ap (option_map (with_operation done.tag (Reading span) done.well c.told.0)) none;
  again = record { idle = c.idle; sizes = c.sizes; later = omega (arith, c.steps) };
  faults = faults;
}

-- a read that failed
pub until_read : (s0 s1 : State) (span : Span) (fault : DiskFault) → ReadsTold s0.told (span ∷ []) s1.told → SpendsAtMost s0 1 span.count s1
    → IsLastFault s0 s1 fault.pv (Reading span)
    → ReadsUntil span.pv s0 (span ∷ []) s1 (ReadFailed fault)
until_read s0 s1 span fault reads spends last = record {
  read = span ∷ [];
  rest = [];
  front = refl;
  reads = reads;
  again = again_spent s0 s1 1 span.count spends;
  cause = (last.disk, (span, subst (λ (p : ℕ). IsLastFault s0 s1 p (Reading span)) last.disk last));
}

covers_place : (span : Span) (k : ℕ) → k < span.count → IsTrue (covers span span.pv (span.first + k))
covers_place span k lt = grind (arith, nat_tests)

-- what stands in the buffer of a read, by its place there
pub read_holds : (told : Option Record) (span : Span) (sectors : List (List ℕ))
    → IfSome told (λ t. (pv sector : ℕ) → IsTrue (covers span pv sector)
    → value_at span sectors sector ≡ now_after t.opened t.steps pv sector)
    → HoldsOfDisk told span.pv (λ sector_at. (k : ℕ) → k < span.count → slice_index_or sectors k [] ≡ sector_at (span.first + k))
read_holds None span sectors h = tt
read_holds (Some t) span sectors h = λ k lt.
    let place : (span.first + k) - span.first ≡ k = omega arith in
    ap (λ (n : ℕ). slice_index_or sectors n []) (sym place) ∙ h span.pv (span.first + k) (covers_place span k lt)
