-- A batch starts: what it has made sure of, the disks that it flushes, and the counts of faults.
use Rattle.std.proofs.Common.{◌≡◌, ◌<◌, ℕ, Bool, true, false, List, [], ◌∷◌, ◌++◌, length, map, Option, None, IfSome, sym, ap, subst}
use Rattle.std.proofs.Common.{◌∙◌, arith}
use Rattle.std.proofs.lemmas.List.{length-append}
use Rattle.disk_model.specs.Durability.{AllLeave}
use Rattle.disk_model.specs.State.{State}
use Rattle.disk_model.specs.Steps.{Flushing}
use Rattle.disk_batch.specs.Batches.{Starts, StartsWrites}
use Rattle.disk_batch.specs.Faults.{FaultsSince}
use Rattle.disk_batch.specs.InTurn.{Put}
use Rattle.disk_batch.specs.Rounds.{AreStill, WriteTargets}
use Rattle.disk_batch.specs.Rest.{CanFollow}
use Rattle.disk_batch.specs.Submits.{SubmitsWorks}
use Rattle.disk_batch.specs.Views.{View}
use Rattle.disk_batch.specs.Writes.{BlockNext, BlocksFirst, write_work}
use Rattle.disk_batch.proofs.Calling.{Holds, starts_hold}
use Rattle.disk_batch.proofs.Faulting.{faults_submitted}

-- a view as it was made
pub made_as : (view : View) (tags flush : List ℕ) (made flushing : Bool) (rest : List Put)
    → view ≡ record { tags = tags; flush = flush; flushing = made; lost = None; rest = rest } → made ≡ flushing
    → view ≡ record { tags = view.tags; flush = flush; flushing = flushing; lost = None; rest = rest }
made_as view tags flush made flushing rest is so =
    is ∙ ap (λ (f : Bool). record { tags = tags; flush = flush; flushing = f; lost = None; rest = rest }) so
    ∙ ap (λ (t : List ℕ). record { tags = t; flush = flush; flushing = flushing; lost = None; rest = rest })
    (sym (ap (λ (v : View). v.tags) is))

module _ (old new : State) (disks : List ℕ) (view : View) where
  -- it starts with writes
  with_writes : (puts : List Put) → 0 < length puts → StartsWrites old puts disks view new → Starts old puts disks view new
  with_writes [] some starts = absurd (omega arith)
  with_writes (put ∷ puts) some starts = starts

  pub begun : (first rest : List Put) → 0 < length first → CanFollow first rest → BlocksFirst rest
      → SubmitsWorks old (map write_work first) view.tags new
      → view ≡ record { tags = view.tags; flush = disks; flushing = false; lost = None; rest = rest }
      → Starts old (first ++ rest) disks view new
  begun first rest some follow order works is =
      let same : rest ≡ view.rest = sym (ap (λ (v : View). v.rest) is) in
      with_writes (first ++ rest) (omega (arith, some, length-append first rest)) (record {
        first = first;
        some = some;
        parts = ap (λ (l : List Put). first ++ l) same;
        works = works;
        view_is = is
            ∙ ap (λ (l : List Put). record { tags = view.tags; flush = disks; flushing = false; lost = None; rest = l }) same;
        order = subst BlocksFirst same order;
        blocks = λ next. follow.blocks (subst BlockNext (sym same) next);
      })

  -- or with its flushes
  pub flushed_first : (first rest : List Put) → length first ≡ 0 → CanFollow first rest
      → SubmitsWorks old (map Flushing disks) view.tags new
      → view ≡ record { tags = view.tags; flush = disks; flushing = true; lost = None; rest = rest }
      → Starts old (first ++ rest) disks view new
  flushed_first [] [] none follow works is = (works, is)
  flushed_first [] (put ∷ rest) none follow works is = absurd (let some = follow.some (omega arith) in omega arith)
  flushed_first (put ∷ first) rest none follow works is = absurd (omega arith)

  -- a batch that writes something starts
  pub some_start : (mine target : ℕ → ℕ → Bool) (Now Goal : ℕ → ℕ → List ℕ → Type 0) (puts : List Put) → 0 < length puts
      → Starts old puts disks view new → WriteTargets mine target Now Goal (map write_work puts)
      → IfSome old.told (λ told. AreStill mine told × AllLeave mine Now told) → Holds mine target Now Goal view new
  some_start mine target Now Goal [] some starts targets h = absurd (omega arith)
  some_start mine target Now Goal (put ∷ puts) some starts targets h =
      starts_hold mine target Now Goal old new put puts disks view starts targets h

  -- the disks that it flushes
  pub start_flushes : (puts : List Put) → Starts old puts disks view new → view.flush ≡ disks
  start_flushes [] starts = ap (λ (v : View). v.flush) starts.1
  start_flushes (put ∷ puts) starts = ap (λ (v : View). v.flush) starts.view_is

  -- and the faults
  pub start_faults : (faults : ℕ → ℕ) (puts : List Put) → Starts old puts disks view new → FaultsSince faults None old
      → FaultsSince faults view.lost new
  start_faults faults [] starts h =
      subst (λ (l : Option ℕ). FaultsSince faults l new) (sym (ap (λ (v : View). v.lost) starts.1))
      (faults_submitted faults old new (map Flushing disks) view.tags None starts.0 h)
  start_faults faults (put ∷ puts) starts h =
      subst (λ (l : Option ℕ). FaultsSince faults l new) (sym (ap (λ (v : View). v.lost) starts.view_is))
      (faults_submitted faults old new (map write_work starts.first) view.tags None starts.works h)
