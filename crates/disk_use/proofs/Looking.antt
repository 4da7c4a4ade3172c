-- Disks are looked at one after another, and what holds afterwards held before.
use Rattle.std.proofs.Common.{◌≡◌, ◌<◌, ℕ, List, [], ◌++◌, Option, Some, None, Result, Ok, Err, refl, sym, ap, subst, ◌∙◌, arith}
use Rattle.std.specs.Prelude.{MatchResult}
use Rattle.std.proofs.lemmas.Option.{same_Some}
use Rattle.sector_base.specs.declared.spans.Span.{Span}
use Rattle.disk_model.specs.Faults.{HasSameFaults}
use Rattle.disk_model.specs.Since.{BetweenRecords, OnlyReads, ReadsTold}
use Rattle.disk_model.specs.State.{State}
use Rattle.disk_model.specs.Steps.{Image, Record, now_after}
use Rattle.disk_model.proofs.IdleAgain.{again_both, again_same}
use Rattle.disk_model.proofs.ReadingAlone.{reads_told_both, same_now}
use Rattle.disk_model.proofs.StepsSince.{between_both, between_same, between_weaker}
use Rattle.disk_contents.specs.declared.read_refusal.ReadRefusal.{ReadRefusal}
use Rattle.disk_contents.specs.declared.read_refusal.ReadRefusal.TheVariants as reading
use Rattle.disk_contents.specs.Causes.{IsReadCause}
use Rattle.disk_contents.specs.Parts.{ReadsUntil, ReadsWell}
use Rattle.vg_scan.specs.Scans.{HoldsNow}
use Rattle.disk_use.specs.declared.use_refusal.UseRefusal.{UseRefusal}
use Rattle.disk_use.specs.declared.use_refusal.UseRefusal.TheVariants.{NoMemory, ReadFailed}
use Rattle.disk_use.specs.Faults.{IsUseFault, refusal_of}
use Rattle.disk_use.specs.LookedAt.{LooksOnly, ReadsSome}

-- ---- what is told

told_reads : (old new : Record) (spans : List Span) → OnlyReads old spans new → ReadsTold (Some old) spans (Some new)
told_reads old new spans reads = λ before is. (new, refl, subst (λ (t : Record). OnlyReads t spans new) (same_Some old before is) reads)

some_both : (old mid new : Record) → ReadsSome old mid → ReadsSome mid new → ReadsSome old new
some_both old mid new a b =
    let told = reads_told_both a.0 b.0 (Some old) (Some mid) (Some new) (told_reads old mid a.0 a.1) (told_reads mid new b.0 b.1) in
    let both = told old refl in
    (a.0 ++ b.0, subst (λ (t : Record). OnlyReads old (a.0 ++ b.0) t) (sym (same_Some new both.0 both.1)) both.2)

-- what holds of the disks after reads alone held of them before
pub now_before : (s0 s1 : Option Record) (P : Image → Type 0) → BetweenRecords ReadsSome s0 s1 → HoldsNow s1 P → HoldsNow s0 P
now_before None s1 P told h = tt
now_before (Some old) s1 P told h =
    let f = told old refl in
    let after : HoldsNow (Some f.0) P = subst (λ (o : Option Record). HoldsNow o P) f.1 h in
    subst P (same_now old f.0 f.2.0 f.2.1) after

-- two facts of the disks give a third
pub now_both : (s : Option Record) (P Q R : Image → Type 0) → ((image : Image) → P image → Q image → R image) → HoldsNow s P → HoldsNow s Q
    → HoldsNow s R
now_both None P Q R make p q = tt
now_both (Some t) P Q R make p q = make (now_after t.opened t.steps) p q

pub now_weaker : (s : Option Record) (P Q : Image → Type 0) → ((image : Image) → P image → Q image) → HoldsNow s P → HoldsNow s Q
now_weaker None P Q make p = tt
now_weaker (Some t) P Q make p = make (now_after t.opened t.steps) p

pub now_always : (s : Option Record) (P : Image → Type 0) → ((image : Image) → P image) → HoldsNow s P
now_always None P all = tt
now_always (Some t) P all = all (now_after t.opened t.steps)

-- ---- looks

pub looks_both : (s0 s1 s2 : State) → LooksOnly s0 s1 → LooksOnly s1 s2 → LooksOnly s0 s2
looks_both s0 s1 s2 a b = record {
  told = between_both ReadsSome ReadsSome ReadsSome s0.told s1.told s2.told some_both a.told b.told;
  again = again_both s0 s1 s2 a.again b.again;
}

pub looks_nothing : (s0 s1 : State) → s1 ≡ s0 → s0.in_flight ≡ [] → LooksOnly s0 s1
looks_nothing s0 s1 same idle = record {
  told = between_same ReadsSome s0.told s1.told (ap (λ (s : State). s.told) same)
      (λ old. ([], record { since = []; steps = refl; reads = tt; spans_are = refl }));
  again = again_same s0 s1 same idle;
}

pub looks_well : (s0 s1 : State) (spans : List Span) → ReadsWell s0 spans s1 → LooksOnly s0 s1
looks_well s0 s1 spans w = record {
  told = between_weaker (λ old new. OnlyReads old spans new) ReadsSome s0.told s1.told (λ old new r. (spans, r)) w.reads;
  again = w.again;
}

pub looks_until : (pv : ℕ) (s0 s1 : State) (spans : List Span) (refusal : ReadRefusal) → ReadsUntil pv s0 spans s1 refusal → LooksOnly s0 s1
looks_until pv s0 s1 spans refusal u = record {
  told = between_weaker (λ old new. OnlyReads old u.read new) ReadsSome s0.told s1.told (λ old new r. (u.read, r)) u.reads;
  again = u.again;
}

-- ---- faults

-- a read that failed
pub fault_handed : (pv : ℕ) (s0 s1 : State) (refusal : ReadRefusal) (handed : UseRefusal) → handed ≡ refusal_of refusal
    → IsReadCause pv s0 s1 refusal → IsUseFault s0 s1 handed
fault_handed pv s0 s1 refusal handed is cause = subst (IsUseFault s0 s1) (sym is) (of refusal cause) where
  of : (r : ReadRefusal) → IsReadCause pv s0 s1 r → IsUseFault s0 s1 (refusal_of r)
  of reading.NoMemory c = tt
  of (reading.ReadFailed fault) c =
      let rose : s0.faults pv < s1.faults pv = omega (arith, c.1.1.one) in
      subst (λ (n : ℕ). s0.faults n < s1.faults n) (sym c.0) rose

-- a fault that came after calls without one
pub fault_after : (s0 s1 s2 : State) (refusal : UseRefusal) → HasSameFaults s0 s1 → IsUseFault s1 s2 refusal → IsUseFault s0 s2 refusal
fault_after s0 s1 s2 NoMemory same f = tt
fault_after s0 s1 s2 (ReadFailed pv) same f = omega (arith, f, same pv)

-- what holds of the disks after looks held before them
pub held_before : (s0 s1 : State) (P : List ℕ → Image → Type 0) → LooksOnly s0 s1 → HoldsNow s1.told (λ image. P s1.sizes image)
    → HoldsNow s0.told (λ image. P s0.sizes image)
held_before s0 s1 P looks is =
    now_before s0.told s1.told (λ image. P s0.sizes image) looks.told
    (subst (λ (sizes : List ℕ). HoldsNow s1.told (λ image. P sizes image)) looks.again.sizes is)

-- an answer of a call after one without a fault, by what held before both
pub looked_again : {A : Type 0} (s0 s1 s2 : State) (P : List ℕ → Image → A → Type 0) (r : Result A UseRefusal) → HasSameFaults s0 s1
    → LooksOnly s0 s1
    → MatchResult r (λ x. HasSameFaults s1 s2 × HoldsNow s1.told (λ image. P s1.sizes image x)) (IsUseFault s1 s2)
    → MatchResult r (λ x. HasSameFaults s0 s2 × HoldsNow s0.told (λ image. P s0.sizes image x)) (IsUseFault s0 s2)
looked_again s0 s1 s2 P (Ok x) same looks is = (λ pv. is.0 pv ∙ same pv, held_before s0 s1 (λ sizes image. P sizes image x) looks is.1)
looked_again s0 s1 s2 P (Err refusal) same looks is = fault_after s0 s1 s2 refusal same is
