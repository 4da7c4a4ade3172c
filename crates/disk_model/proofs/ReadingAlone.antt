-- Steps of reads alone write nothing, and leave what a read gives.
use Rattle.std.proofs.Common.{◌≡◌, ℕ, Bool, List, [], ◌∷◌, ◌++◌, Option, Some, None, refl, sym, ap, subst, ◌∙◌}
use Rattle.std.proofs.lemmas.List.Elements.{All-nil}
use Rattle.sector_base.specs.declared.spans.Span.{Span}
use Rattle.disk_model.specs.Steps.{Image, Reading, Writing, Flushing, Step, Submitted, Completed, Record, now_after}
use Rattle.disk_model.specs.CarriesOut.{with_operation}
use Rattle.disk_model.specs.Order.{HasFlushed, WritesNothing}
use Rattle.disk_model.specs.Since.{HoldsOfDisk, KeepsSectors, KeepsSectorsTold, OnlyReads, ReadsAlone, ReadsTold, spans_read}
use Rattle.disk_model.proofs.StepsSince.{between_both, between_same, between_weaker, spans_read-append, steps_joined}

pub reads_write_nothing : (since : List Step) → ReadsAlone since → WritesNothing since
reads_write_nothing [] r = tt
reads_write_nothing (Submitted tag (Reading span) ∷ since) r = reads_write_nothing since r
reads_write_nothing (Submitted tag (Writing span sectors) ∷ since) r = absurd r
reads_write_nothing (Submitted tag (Flushing disk) ∷ since) r = absurd r
reads_write_nothing (Completed tag (Reading span) well fresh ∷ since) r = reads_write_nothing since r
reads_write_nothing (Completed tag (Writing span sectors) well fresh ∷ since) r = absurd r
reads_write_nothing (Completed tag (Flushing disk) well fresh ∷ since) r = absurd r

-- what a read gives is the same after steps of reads alone
pub now_after-reads : (opened : Image) (since steps : List Step) → ReadsAlone since
    → now_after opened (since ++ steps) ≡ now_after opened steps
now_after-reads opened [] steps r = refl
now_after-reads opened (Submitted tag (Reading span) ∷ since) steps r = now_after-reads opened since steps r
now_after-reads opened (Submitted tag (Writing span sectors) ∷ since) steps r = absurd r
now_after-reads opened (Submitted tag (Flushing disk) ∷ since) steps r = absurd r
now_after-reads opened (Completed tag (Reading span) well fresh ∷ since) steps r = now_after-reads opened since steps r
now_after-reads opened (Completed tag (Writing span sectors) well fresh ∷ since) steps r = absurd r
now_after-reads opened (Completed tag (Flushing disk) well fresh ∷ since) steps r = absurd r

-- steps of reads alone, and then others
reads_alone_append : (newer older : List Step) → ReadsAlone newer → ReadsAlone older → ReadsAlone (newer ++ older)
reads_alone_append [] older r q = q
reads_alone_append (Submitted tag (Reading span) ∷ newer) older r q = reads_alone_append newer older r q
reads_alone_append (Submitted tag (Writing span sectors) ∷ newer) older r q = absurd r
reads_alone_append (Submitted tag (Flushing disk) ∷ newer) older r q = absurd r
reads_alone_append (Completed tag (Reading span) well fresh ∷ newer) older r q = reads_alone_append newer older r q
reads_alone_append (Completed tag (Writing span sectors) well fresh ∷ newer) older r q = absurd r
reads_alone_append (Completed tag (Flushing disk) well fresh ∷ newer) older r q = absurd r

-- what a read gives is the same after a call that reads alone
pub same_now : (old new : Record) (spans : List Span) → OnlyReads old spans new
    → now_after new.opened new.steps ≡ now_after old.opened old.steps
same_now old new spans r = ap (λ (t : Record). now_after t.opened t.steps) r.steps ∙ now_after-reads old.opened r.since old.steps r.reads

reads_both : (first more : List Span) (old mid new : Record) → OnlyReads old first mid → OnlyReads mid more new
    → OnlyReads old (first ++ more) new
reads_both first more old mid new a b = record {
  since = b.since ++ a.since;
  steps = steps_joined old mid new a.since b.since a.steps b.steps;
  reads = reads_alone_append b.since a.since b.reads a.reads;
  spans_are =
      spans_read-append b.since a.since ∙ ap (λ (l : List Span). l ++ spans_read b.since) a.spans_are
      ∙ ap (λ (l : List Span). first ++ l) b.spans_are;
}

-- a call that reads alone, and then another
pub reads_told_both : (first more : List Span) (s0 s1 s2 : Option Record) → ReadsTold s0 first s1 → ReadsTold s1 more s2
    → ReadsTold s0 (first ++ more) s2
reads_told_both first more s0 s1 s2 a b =
    between_both (λ old new. OnlyReads old first new) (λ old new. OnlyReads old more new) (λ old new. OnlyReads old (first ++ more) new) s0
    s1 s2 (reads_both first more) a b

-- nothing was told
pub reads_told_nothing : (s0 s1 : Option Record) → s1 ≡ s0 → ReadsTold s0 [] s1
reads_told_nothing s0 s1 same =
    between_same (λ old new. OnlyReads old [] new) s0 s1 same (λ old. record { since = []; steps = refl; reads = tt; spans_are = refl })

keeps_reading : (spans : List Span) (old new : Record) → OnlyReads old spans new → KeepsSectors old [] new
keeps_reading spans old new r = record {
  since = r.since;
  steps = r.steps;
  nothing = reads_write_nothing r.since r.reads;
  same = λ pv s. ap (λ (image : Image). image pv s) (same_now old new spans r);
  flushes = All-nil (λ pv. HasFlushed pv r.since);
}

-- a call that reads alone keeps the sectors
pub keeps_told_reading : (spans : List Span) (s0 s1 : Option Record) → ReadsTold s0 spans s1 → KeepsSectorsTold s0 [] s1
keeps_told_reading spans s0 s1 r =
    between_weaker (λ old new. OnlyReads old spans new) (λ old new. KeepsSectors old [] new) s0 s1 (keeps_reading spans) r

-- a read that was carried out alone
pub reads_span : (t : Record) (tag : ℕ) (span : Span) (well : Bool) (fresh : List Bool)
    → OnlyReads t (span ∷ []) (with_operation tag (Reading span) well fresh t)
reads_span t tag span well fresh = record {
  since = Completed tag (Reading span) well fresh ∷ Submitted tag (Reading span) ∷ [];
  steps = refl;
  reads = tt;
  spans_are = refl;
}

-- what holds of a disk after a call that reads alone held of it before
pub holds_before : (s0 s1 : Option Record) (spans : List Span) (pv : ℕ) (P : (ℕ → List ℕ) → Type 0) → ReadsTold s0 spans s1
    → HoldsOfDisk s1 pv P → HoldsOfDisk s0 pv P
holds_before None s1 spans pv P r h = tt
holds_before (Some old) s1 spans pv P r h =
    let f = r old refl in
    let after : HoldsOfDisk (Some f.0) pv P = subst (λ (o : Option Record). HoldsOfDisk o pv P) f.1 h in
    subst (λ (image : Image). P (image pv)) (same_now old f.0 spans f.2) after

-- and the other way round
pub holds_after : (s0 s1 : Option Record) (spans : List Span) (pv : ℕ) (P : (ℕ → List ℕ) → Type 0) → ReadsTold s0 spans s1
    → (s0 ≡ None → s1 ≡ None) → HoldsOfDisk s0 pv P → HoldsOfDisk s1 pv P
holds_after None s1 spans pv P r silent h = subst (λ (o : Option Record). HoldsOfDisk o pv P) (sym (silent refl)) tt
holds_after (Some old) s1 spans pv P r silent h =
    let f = r old refl in
    let here : HoldsOfDisk (Some f.0) pv P = subst (λ (image : Image). P (image pv)) (sym (same_now old f.0 spans f.2)) h in
    subst (λ (o : Option Record). HoldsOfDisk o pv P) (sym f.1) here

-- two facts of a disk give a third
pub holds_both : (s : Option Record) (pv : ℕ) (P Q R : (ℕ → List ℕ) → Type 0)
    → ((sector_at : ℕ → List ℕ) → P sector_at → Q sector_at → R sector_at) → HoldsOfDisk s pv P → HoldsOfDisk s pv Q → HoldsOfDisk s pv R
holds_both None pv P Q R make p q = tt
holds_both (Some t) pv P Q R make p q = make (now_after t.opened t.steps pv) p q

pub holds_weaker : (s : Option Record) (pv : ℕ) (P Q : (ℕ → List ℕ) → Type 0) → ((sector_at : ℕ → List ℕ) → P sector_at → Q sector_at)
    → HoldsOfDisk s pv P → HoldsOfDisk s pv Q
holds_weaker None pv P Q make p = tt
holds_weaker (Some t) pv P Q make p = make (now_after t.opened t.steps pv) p

-- what holds of all sectors
pub holds_always : (s : Option Record) (pv : ℕ) (P : (ℕ → List ℕ) → Type 0) → ((sector_at : ℕ → List ℕ) → P sector_at) → HoldsOfDisk s pv P
holds_always None pv P all = tt
holds_always (Some t) pv P all = all (now_after t.opened t.steps pv)
