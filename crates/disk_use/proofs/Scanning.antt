-- What a scan says of the disks that are marked.
use Rattle.std.proofs.Common.{◌≡◌, ◌≢◌, ℕ, List, All, Contains, Option, Some, None, Result, Ok, Err, [], ◌∷◌, refl, arith, sym, ap}
use Rattle.std.proofs.Common.{subst, ◌∙◌}
use Rattle.std.specs.Prelude.{IfOk, IfSome, MatchOption, MatchResult, slice_get}
use Rattle.std.proofs.lemmas.Option.{same_Some}
use Rattle.std.proofs.lemmas.Result.{MatchResult-weaker}
use Rattle.std.specs.FinSet as set
use Rattle.std.specs.Ordering.{nat_cmp}
use Rattle.disk_model.specs.Faults.{HasSameFaults}
use Rattle.disk_model.specs.Idle.{IsIdleAgain}
use Rattle.disk_model.specs.Since.{BetweenRecords, spans_read}
use Rattle.disk_model.specs.State.{State}
use Rattle.disk_model.specs.Steps.{Image}
use Rattle.disk_model.proofs.StepsSince.{between_weaker}
use Rattle.scan_rules.specs.declared.decision.ScanRefusal.{ScanRefusal}
use Rattle.scan_rules.specs.declared.decision.ScanRefusal.TheVariants as why
use Rattle.vg_found.specs.declared.found.Found.{Found}
use Rattle.vg_scan.specs.Scans.{FailedOn, HoldsNow, IsRefusalOfScan, IsScan, IsScanOf, IsScanRefused, ReadsFew}
use Rattle.disk_use.specs.declared.use_refusal.UseRefusal.{UseRefusal}
use Rattle.disk_use.specs.declared.use_refusal.UseRefusal.TheVariants.{NoMemory, ReadFailed}
use Rattle.disk_use.specs.Faults.{IsUnreadFault, IsUseFault}
use Rattle.disk_use.specs.LookedAt.{LooksOnly, ReadsSome}
use Rattle.disk_use.specs.Uses.{IsAmong, IsOfGroup, IsOfNone, refused, unlisted}
use Rattle.disk_use.proofs.Looking.{now_weaker}

pub looks_scan : (s0 s1 : State) → BetweenRecords (ReadsFew s0.sizes) s0.told s1.told → IsIdleAgain s0 s1 → LooksOnly s0 s1
looks_scan s0 s1 told again = record {
  told = between_weaker (ReadsFew s0.sizes) ReadsSome s0.told s1.told
      (λ old new r. (spans_read r.since, record { since = r.since; steps = r.steps; reads = r.reads; spans_are = refl })) told;
  again = again;
}

-- no disk is unread
same_faults : (unread : set.FinSet nat_cmp) (s0 s1 : State) → FailedOn unread s0 s1 → unread ≡ set.empty → HasSameFaults s0 s1
same_faults unread s0 s1 failed none pv = failed.same pv
    (ap (λ (s : set.FinSet nat_cmp). set.contains s pv) none ∙ set.contains-empty nat_cmp pv)

-- one is
pub unread_fault : (unread : set.FinSet nat_cmp) (s0 s1 : State) (refusal : UseRefusal) → FailedOn unread s0 s1
    → IsUnreadFault unread refusal → IsUseFault s0 s1 refusal
unread_fault unread s0 s1 NoMemory failed is = tt
unread_fault unread s0 s1 (ReadFailed pv) failed is = failed.rose pv is

-- ---- a scan that found something

abbrev IsLeft : Image → List ℕ → List ℕ → Option ℕ → Type 0
IsLeft image sizes marked left = MatchOption left (All (IsOfGroup image sizes) marked) (λ pv. Contains marked pv × IsOfNone image sizes pv)

-- what is left of the marked disks: those of which the scan finds no group
pub found_left : (s0 s1 : State) (found : Found) (marked : List ℕ) (r : Result (Option ℕ) UseRefusal) → IsScan s0 found s1
    → MatchResult r (λ left. (found.unread ≡ set.empty) × MatchOption left (All (IsAmong found) marked) (λ pv. Contains marked pv × ¬
    IsAmong found pv)) (IsUnreadFault found.unread)
    → MatchResult r (λ left. HasSameFaults s0 s1 × HoldsNow s0.told (λ image. IsLeft image s0.sizes marked left)) (IsUseFault s0 s1)
found_left s0 s1 found marked r scan is =
    MatchResult-weaker r is
    (λ left so. (
      same_faults found.unread s0 s1 scan.faults so.0,
      now_weaker s0.told (λ image. IsScanOf image s0.sizes found) (λ image. IsLeft image s0.sizes marked left) (at so.0 left so.1) scan.now,
    ))
    (λ refusal fault. unread_fault found.unread s0 s1 refusal scan.faults fault)
  where
    at : found.unread ≡ set.empty → (l : Option ℕ)
        → MatchOption l (All (IsAmong found) marked) (λ pv. Contains marked pv × ¬ IsAmong found pv) → (image : Image)
        → IsScanOf image s0.sizes found
        → IsLeft image s0.sizes marked l
    at none None all image there = λ k d lt. record { found = found; scan = there; read = none; shape = scan.shape; of = all k d lt }
    at none (Some pv) one image there = (one.0, unlisted found there none scan.shape one.1)

-- ---- a scan that was refused

refused_says : (s0 s1 : State) (refusal : ScanRefusal) (unread : set.FinSet nat_cmp) → IsScanRefused s0 refusal unread s1
    → refusal ≢ why.NoMemory
    → HoldsNow s0.told (λ image. IsRefusalOfScan image s0.sizes unread refusal) × FailedOn unread s0 s1
refused_says s0 s1 why.NoMemory unread is other = absurd (other refl)
refused_says s0 s1 (why.DuplicatePv a b) unread is other = is
refused_says s0 s1 (why.NoCopy list) unread is other = is
refused_says s0 s1 (why.Unsupported disk) unread is other = is
refused_says s0 s1 (why.TwoGroups a b) unread is other = is
refused_says s0 s1 (why.Conflict a b seqno) unread is other = is
refused_says s0 s1 (why.PvShape disk) unread is other = is

-- want of memory, or unread disks
refused_fault : (s0 s1 : State) (refusal : ScanRefusal) (unread : set.FinSet nat_cmp) (handed : UseRefusal)
    → IsScanRefused s0 refusal unread s1 → (refusal ≡ why.NoMemory → handed ≡ NoMemory) → IsUnreadFault unread handed
    → IsUseFault s0 s1 handed
refused_fault s0 s1 why.NoMemory unread handed is wants fault = subst (IsUseFault s0 s1) (sym (wants refl)) tt
refused_fault s0 s1 (why.DuplicatePv a b) unread handed is wants fault = unread_fault unread s0 s1 handed is.1 fault
refused_fault s0 s1 (why.NoCopy list) unread handed is wants fault = unread_fault unread s0 s1 handed is.1 fault
refused_fault s0 s1 (why.Unsupported disk) unread handed is wants fault = unread_fault unread s0 s1 handed is.1 fault
refused_fault s0 s1 (why.TwoGroups a b) unread handed is wants fault = unread_fault unread s0 s1 handed is.1 fault
refused_fault s0 s1 (why.Conflict a b seqno) unread handed is wants fault = unread_fault unread s0 s1 handed is.1 fault
refused_fault s0 s1 (why.PvShape disk) unread handed is wants fault = unread_fault unread s0 s1 handed is.1 fault

pub refused_left : (s0 s1 : State) (refusal : ScanRefusal) (unread : set.FinSet nat_cmp) (marked : List ℕ) (first : ℕ)
    (r : Result (Option ℕ) UseRefusal) → IsScanRefused s0 refusal unread s1 → Contains marked first
    → MatchResult r (λ left. (unread ≡ set.empty) × (refusal ≢ why.NoMemory) × (left ≡ Some first))
    (λ handed. (refusal ≡ why.NoMemory → handed ≡ NoMemory) × IsUnreadFault unread handed)
    → MatchResult r (λ left. HasSameFaults s0 s1 × HoldsNow s0.told (λ image. IsLeft image s0.sizes marked left)) (IsUseFault s0 s1)
refused_left s0 s1 refusal unread marked first r scan there is =
    MatchResult-weaker r is
    (λ left so.
    let says = refused_says s0 s1 refusal unread scan so.1 in (
      same_faults unread s0 s1 says.1 so.0,
      subst (λ (l : Option ℕ). HoldsNow s0.told (λ image. IsLeft image s0.sizes marked l)) (sym so.2)
          (now_weaker s0.told (λ image. IsRefusalOfScan image s0.sizes unread refusal) (λ image. IsLeft image s0.sizes marked (Some first))
          (λ image kept. (
            there,
            refused refusal (subst (λ (s : set.FinSet nat_cmp). IsRefusalOfScan image s0.sizes s refusal) so.0 kept)
                so.1,
          )) says.0),
    ))
    (λ handed fault. refused_fault s0 s1 refusal unread handed scan fault.0 fault.1)

pub first_there : (marked : List ℕ) (first : ℕ) → slice_get marked 0 ≡ Some first → Contains marked first
first_there [] first is = absurd cc
first_there (pv ∷ marked) first is = (0, omega arith, same_Some pv first is)

-- it is one of the marked disks
pub found_of : (found : Found) (marked : List ℕ) (r : Result (Option ℕ) UseRefusal)
    → MatchResult r (λ left. (found.unread ≡ set.empty) × MatchOption left (All (IsAmong found) marked) (λ pv. Contains marked pv × ¬
    IsAmong found pv)) (IsUnreadFault found.unread)
    → IfOk r (λ left. IfSome left (Contains marked))
found_of found marked (Ok None) is = tt
found_of found marked (Ok (Some pv)) is = is.1.0
found_of found marked (Err refusal) is = tt

pub refused_of : (refusal : ScanRefusal) (unread : set.FinSet nat_cmp) (marked : List ℕ) (first : ℕ) (r : Result (Option ℕ) UseRefusal)
    → Contains marked first
    → MatchResult r (λ left. (unread ≡ set.empty) × (refusal ≢ why.NoMemory) × (left ≡ Some first))
    (λ handed. (refusal ≡ why.NoMemory → handed ≡ NoMemory) × IsUnreadFault unread handed)
    → IfOk r (λ left. IfSome left (Contains marked))
refused_of refusal unread marked first (Ok left) there is = subst (λ (l : Option ℕ). IfSome l (Contains marked)) (sym is.2) there
refused_of refusal unread marked first (Err handed) there is = tt
