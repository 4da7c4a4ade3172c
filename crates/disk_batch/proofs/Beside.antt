-- Two batches side by side: what one does leaves what the other has made sure of.
use Rattle.std.proofs.Common.{◌≡◌, ◌<◌, ℕ, Bool, false, IsTrue, List, [], ◌∷◌, map, sym, ap, subst, ◌∙◌, refl}
use Rattle.std.proofs.lemmas.List.{map-append}
use Rattle.sector_base.specs.declared.spans.Span.{Span}
use Rattle.disk_model.specs.declared.ops.Done.{Done}
use Rattle.disk_model.specs.Steps.{Work, Flushing}
use Rattle.disk_model.specs.State.{State}
use Rattle.disk_batch.specs.declared.batching.BatchStep.{BatchStep}
use Rattle.disk_batch.specs.declared.batching.BatchStep.TheVariants.{Going, Well, Lost}
use Rattle.disk_batch.specs.Views.{View, Turn, Waits, Writes, Flushes, IsWell, IsLost, turn_of}
use Rattle.disk_batch.specs.Submits.{SubmitsWorks, put_operation}
use Rattle.disk_batch.specs.Writes.{write_work}
use Rattle.disk_batch.specs.Batches.{Starts, Follows, Goes, view_of, after_done}
use Rattle.disk_batch.specs.Rounds.{BatchHolds}
use Rattle.disk_model.proofs.InFlight.{tags_fresh}
use Rattle.disk_batch.proofs.Calling.{Holds}
use Rattle.disk_batch.proofs.Rounding.{batch_beside}
use Rattle.disk_batch.proofs.Works.{at_both, or_false_left}
use Rattle.disk_model.specs.Submitting.{submitted_on, writes_at}
use Rattle.disk_model.specs.InFlight.{IsAmong}
use Rattle.disk_model.proofs.WhereTold.{told_after}

module _ (mine target : ℕ → ℕ → Bool) (Now Goal : ℕ → ℕ → List ℕ → Type 0) where
  -- operations that write none of its sectors are submitted
  pub submits_beside : (old new : State) (works : List Work) (tags : List ℕ) (view : View) → SubmitsWorks old works tags new
      → ((pv sector : ℕ) → IsTrue (mine pv sector) → writes_at works pv sector ≡ false)
      → Holds mine target Now Goal view old → Holds mine target Now Goal view new
  submits_beside old new works tags view s apart h =
      told_after (submitted_on s.os) (BatchHolds mine target Now Goal view) (BatchHolds mine target Now Goal view) old.told new.told
      s.submits.told
      (λ t is b. batch_beside mine target Now Goal view s.os t
      (λ pv sector own. subst (λ (ws : List Work). writes_at ws pv sector ≡ false) (sym s.works_are) (apart pv sector own)) b) h

  -- another batch starts elsewhere
  pub starts_beside : (old new : State) (put : Span × List (List ℕ)) (puts : List (Span × List (List ℕ))) (disks : List ℕ)
      (other view : View) → Starts old (put ∷ puts) disks other new
      → ((pv sector : ℕ) → IsTrue (mine pv sector) → writes_at (map write_work (put ∷ puts)) pv sector ≡ false)
      → Holds mine target Now Goal view old → Holds mine target Now Goal view new
  starts_beside old new put puts disks other view starts apart h =
      submits_beside old new (map write_work starts.first) other.tags view starts.works
      (λ pv sector own. or_false_left (writes_at (map write_work starts.first) pv sector) (writes_at (map write_work other.rest) pv sector)
      (sym (at_both (map write_work starts.first) (map write_work other.rest) pv sector)
      ∙ ap (λ (ws : List Work). writes_at ws pv sector) (sym (map-append write_work starts.first other.rest))
      ∙ ap (λ (l : List (Span × List (List ℕ))). writes_at (map write_work l) pv sector) (sym starts.parts) ∙ apart pv sector own)) h

  -- another batch, which is to write none of its sectors, goes on
  follows_beside : (old new : State) (other : View) (turn : Turn) (step : BatchStep) (view : View)
      → ((pv sector : ℕ) → IsTrue (mine pv sector) → writes_at (map write_work other.rest) pv sector ≡ false)
      → Follows old other turn step new → Holds mine target Now Goal view old → Holds mine target Now Goal view new
  follows_beside old new other Waits (Going next) view apart f h = subst (λ (s : State). Holds mine target Now Goal view s) (sym f.0) h
  follows_beside old new other Writes (Going next) view apart f h =
      submits_beside old new (write_work f.put ∷ []) (f.tag ∷ []) view
      (record { os = put_operation f.tag f.put ∷ []; submits = f.submits; works_are = refl; tags_are = refl })
      (λ pv sector own. or_false_left (writes_at (write_work f.put ∷ []) pv sector) (writes_at (map write_work f.puts) pv sector)
      (sym (at_both (write_work f.put ∷ []) (map write_work f.puts) pv sector)
      ∙ ap (λ (l : List (Span × List (List ℕ))). writes_at (map write_work l) pv sector) (sym f.next_is) ∙ apart pv sector own)) h
  follows_beside old new other Flushes (Going next) view apart f h =
      submits_beside old new (map Flushing other.flush) (view_of next).tags view f.0 (λ pv sector own. none other.flush pv sector) h
    where
      none : (disks : List ℕ) (pv sector : ℕ) → writes_at (map Flushing disks) pv sector ≡ false
      none [] pv sector = refl
      none (d ∷ disks) pv sector = none disks pv sector
  follows_beside old new other IsWell Well view apart f h = subst (λ (s : State). Holds mine target Now Goal view s) (sym f) h
  follows_beside old new other (IsLost pv) (Lost pv') view apart f h = subst (λ (s : State). Holds mine target Now Goal view s) (sym f.0) h
  follows_beside old new other turn step view apart f h = absurd f

  pub goes_beside : (old new : State) (other : View) (done : Done) (step : BatchStep) (view : View)
      → ((pv sector : ℕ) → IsTrue (mine pv sector) → writes_at (map write_work other.rest) pv sector ≡ false)
      → Goes old other done step new → Holds mine target Now Goal view old → Holds mine target Now Goal view new
  goes_beside old new other done step view apart goes h =
      follows_beside old new (after_done other done) (turn_of (after_done other done)) step view apart goes h

-- tags that were given since are none of the older ones
pub fresh_tags : (old new : State) (works : List Work) (tags others : List ℕ) → SubmitsWorks old works tags new
    → ((t : ℕ) → IsAmong others t → t < old.next_tag) → (t : ℕ) → IsAmong tags t → IsAmong others t → ⊥
fresh_tags old new works tags others s older t a b =
    tags_fresh old new s.os others s.submits older t (subst (λ (l : List ℕ). IsAmong l t) (sym s.tags_are) a) b
