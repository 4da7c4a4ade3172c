-- How the counts of faults rise while a batch is on its way.
use Rattle.std.proofs.Common.{List, [], ◌∷◌, ◌≡◌, ◌≤◌, ℕ, ◌+◌, Bool, true, false, not, ◌==◌, ◌&&◌, cond, Option, Some, None, sym, ap, subst}
use Rattle.std.proofs.Common.{◌∙◌, arith, eq-eqb}
use Rattle.sector_base.specs.declared.spans.Span.{Span}
use Rattle.disk_model.specs.declared.ops.Done.{Done}
use Rattle.disk_model.specs.Operations.{disk_of}
use Rattle.disk_model.specs.Calls.{Completes}
use Rattle.disk_model.specs.State.{State}
use Rattle.disk_batch.specs.declared.batching.BatchStep.{BatchStep}
use Rattle.disk_batch.specs.declared.batching.BatchStep.TheVariants.{Going, Well, Lost}
use Rattle.disk_batch.specs.Views.{View, Turn, Waits, Writes, Flushes, IsWell, IsLost, turn_of}
use Rattle.disk_batch.specs.Submits.{SubmitsWorks}
use Rattle.disk_batch.specs.Batches.{Starts, Follows, Goes, view_of, after_done}
use Rattle.disk_batch.specs.Faults.{FaultsSince, FaultsAlone}
use Rattle.disk_batch.specs.Alone.{Turns, lost_of}
use Rattle.disk_batch.proofs.Calling.{IsTurn, is_turn}

-- which operation a batch has lost after a completion of its own
abbrev pub lost_after : Bool → ℕ → Option ℕ → Option ℕ
lost_after well disk lost = cond well lost (Some disk)

one_more : (n m : ℕ) (well same : Bool) → m ≡ cond (not well && same) (n + 1) n → n ≤ m
one_more n m true same e = omega (arith, e)
one_more n m false true e = omega (arith, e)
one_more n m false false e = omega (arith, e)

-- an operation of its own completes
lost_done : (faults : ℕ → ℕ) (lost : Option ℕ) (before mid : State) (disk : ℕ) (well : Bool)
    → ((pv : ℕ) → mid.faults pv ≡ cond (not well && (disk == pv)) (before.faults pv + 1) (before.faults pv))
    → FaultsSince faults lost before → FaultsSince faults (lost_after well disk lost) mid
lost_done faults lost before mid disk true e h = record {
  rise = λ pv. let same : mid.faults pv ≡ before.faults pv = e pv in omega (arith, same, h.rise pv);
  lost_rose = λ pv is. let same : mid.faults pv ≡ before.faults pv = e pv in omega (arith, same, h.lost_rose pv is);
}
lost_done faults lost before mid disk false e h = record {
  rise = λ pv. omega (arith, one_more (before.faults pv) (mid.faults pv) false (disk == pv) (e pv), h.rise pv);
  lost_rose = λ pv (is : Some disk ≡ Some pv).
      let d : disk ≡ pv = cc in
      let here : (disk == pv) ≡ true = eq-eqb disk pv d in
      let more : mid.faults pv ≡ before.faults pv + 1 = e pv ∙ ap (λ (b : Bool). cond b (before.faults pv + 1) (before.faults pv)) here in
      omega (arith, more, h.rise pv);
}

pub faults_done : (faults : ℕ → ℕ) (before mid : State) (done : Done) (view : View) → Completes before done mid
    → FaultsSince faults view.lost before → FaultsSince faults (after_done view done).lost mid
faults_done faults before mid done view completes h = lost_done faults view.lost before mid (disk_of done.op) done.well completes.faults h

-- an operation of somebody else completes
pub faults_elsewhere : (faults : ℕ → ℕ) (before mid : State) (done : Done) (lost : Option ℕ) → Completes before done mid
    → FaultsSince faults lost before → FaultsSince faults lost mid
faults_elsewhere faults before mid done lost completes h =
    let more : (pv : ℕ) → before.faults pv ≤ mid.faults pv =
    λ pv. one_more (before.faults pv) (mid.faults pv) done.well (disk_of done.op == pv) (completes.faults pv) in
    record {
      rise = λ pv. omega (arith, more pv, h.rise pv);
      lost_rose = λ pv is. omega (arith, more pv, h.lost_rose pv is);
    }

-- operations are submitted, whoever's
pub faults_submitted : (faults : ℕ → ℕ) (old new : State) (works : _) (tags : _) (lost : Option ℕ) → SubmitsWorks old works tags new
    → FaultsSince faults lost old → FaultsSince faults lost new
faults_submitted faults old new works tags lost s h =
    let same : (pv : ℕ) → new.faults pv ≡ old.faults pv = λ pv. ap (λ (f : ℕ → ℕ). f pv) s.submits.faults in
    record {
      rise = λ pv. omega (arith, same pv, h.rise pv);
      lost_rose = λ pv is. omega (arith, same pv, h.lost_rose pv is);
    }

-- what a batch came to: where it has lost an operation, that of its disk
follows_faults : (faults : ℕ → ℕ) (old new : State) (view : View) (turn : Turn) (step : BatchStep) → IsTurn view turn
    → Follows old view turn step new → FaultsSince faults view.lost old → FaultsSince faults (lost_of step) new
follows_faults faults old new view Waits (Going next) is f h =
    subst (λ (s : State). FaultsSince faults (view_of next).lost s) (sym f.0)
    (subst (λ (l : Option ℕ). FaultsSince faults l old) (sym (ap (λ (v : View). v.lost) f.1)) h)
follows_faults faults old new view Writes (Going next) is f h =
    let same : (pv : ℕ) → new.faults pv ≡ old.faults pv = λ pv. ap (λ (g : ℕ → ℕ). g pv) f.submits.faults in
    subst (λ (l : Option ℕ). FaultsSince faults l new) (sym (ap (λ (v : View). v.lost) f.view_is))
    (record {
      rise = λ pv. omega (arith, same pv, h.rise pv);
      lost_rose = λ pv is. omega (arith, same pv, h.lost_rose pv is);
    })
follows_faults faults old new view Flushes (Going next) is f h =
    subst (λ (l : Option ℕ). FaultsSince faults l new) (sym (ap (λ (v : View). v.lost) f.1))
    (faults_submitted faults old new _ _ view.lost f.0 h)
follows_faults faults old new view IsWell Well is f h =
    subst (λ (s : State). FaultsSince faults None s) (sym f) (record { rise = h.rise; lost_rose = λ pv (e : None ≡ Some pv). cc })
follows_faults faults old new view (IsLost pv) (Lost pv') is f h =
    subst (λ (s : State). FaultsSince faults (Some pv') s) (sym f.0)
    (subst (λ (l : Option ℕ). FaultsSince faults l old) (is.1 ∙ ap (λ (n : ℕ). Some n) (sym f.1)) h)
follows_faults faults old new view turn step is f h = absurd f

pub faults_go : (faults : ℕ → ℕ) (before mid new : State) (view : View) (done : Done) (step : BatchStep) → Completes before done mid
    → Goes mid view done step new → FaultsSince faults view.lost before → FaultsSince faults (lost_of step) new
faults_go faults before mid new view done step completes goes h =
    let after = after_done view done in
    follows_faults faults mid new after (turn_of after) step (is_turn after) goes
    (faults_done faults before mid done view completes h)

-- where nothing else is in flight
none_lost : (lost : Option ℕ) (before mid : State) (disk : ℕ) (well : Bool)
    → ((pv : ℕ) → mid.faults pv ≡ cond (not well && (disk == pv)) (before.faults pv + 1) (before.faults pv))
    → lost_after well disk lost ≡ None
    → (lost ≡ None) × ((pv : ℕ) → mid.faults pv ≡ before.faults pv)
none_lost lost before mid disk true e none = (none, e)
none_lost lost before mid disk false e none = absurd (let z : Some disk ≡ None = none in cc)

-- a batch that has lost nothing had lost nothing
same_after : (old new : State) (view : View) (turn : Turn) (step : BatchStep) → IsTurn view turn → Follows old view turn step new
    → lost_of step ≡ None → (view.lost ≡ None) × ((pv : ℕ) → new.faults pv ≡ old.faults pv)
same_after old new view Waits (Going next) is f none =
    (sym (ap (λ (v : View). v.lost) f.1) ∙ none, λ pv. ap (λ (s : State). s.faults pv) f.0)
same_after old new view Writes (Going next) is f none =
    (sym (ap (λ (v : View). v.lost) f.view_is) ∙ none, λ pv. ap (λ (g : ℕ → ℕ). g pv) f.submits.faults)
same_after old new view Flushes (Going next) is f none = (is.2, λ pv. ap (λ (g : ℕ → ℕ). g pv) f.0.submits.faults)
same_after old new view IsWell Well is f none = (is.2, λ pv. ap (λ (s : State). s.faults pv) f)
same_after old new view (IsLost pv) (Lost pv') is f none = absurd (let z : Some pv' ≡ None = none in cc)
same_after old new view turn step is f none = absurd f

pub turns_faults : (old before mid new : State) (step next : BatchStep) (done : Done) → Completes before done mid
    → Turns mid step done next new → FaultsAlone old (lost_of step) before → FaultsAlone old (lost_of next) new
turns_faults old before mid new (Going b) next done completes goes h =
    let after : View = after_done (view_of b) done in (
      faults_go old.faults before mid new (view_of b) done next completes goes h.0,
      λ none pv.
          let a = same_after mid new after (turn_of after) next (is_turn after) goes none in
          let b' = none_lost (view_of b).lost before mid (disk_of done.op) done.well completes.faults a.0 in
          a.1 pv ∙ b'.1 pv ∙ h.1 b'.0 pv,
    )
turns_faults old before mid new Well next done completes goes h = absurd goes
turns_faults old before mid new (Lost pv) next done completes goes h = absurd goes

-- a batch starts
starts_lost : (old new : State) (puts : List (Span × List (List ℕ))) (disks : List ℕ) (view : View) → Starts old puts disks view new
    → (view.lost ≡ None) × (new.faults ≡ old.faults)
starts_lost old new [] disks view starts = (ap (λ (v : View). v.lost) starts.1, starts.0.submits.faults)
starts_lost old new (put ∷ puts) disks view starts = (ap (λ (v : View). v.lost) starts.view_is, starts.works.submits.faults)

pub faults_start : (old new : State) (puts : List (Span × List (List ℕ))) (disks : List ℕ) (view : View) → Starts old puts disks view new
    → FaultsAlone old view.lost new
faults_start old new puts disks view starts =
    let s = starts_lost old new puts disks view starts in
    let same : (pv : ℕ) → new.faults pv ≡ old.faults pv = λ pv. ap (λ (f : ℕ → ℕ). f pv) s.1 in
    (record { rise = λ pv. omega (arith, same pv); lost_rose = λ pv e. absurd (let z : None ≡ Some pv = sym s.0 ∙ e in cc) }, λ none. same)
