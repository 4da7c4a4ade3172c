-- What each step does to a batch's own sectors.
use Rattle.std.proofs.Common.{◌≡◌, ℕ, Bool, true, false, IsTrue, List, [], ◌∷◌, ◌++◌, map, None, refl, sym, ap, subst, ◌∙◌, ◌||◌}
use Rattle.sector_base.specs.declared.spans.Span.{Span}
use Rattle.disk_model.specs.Steps.{Work, Step, Submitted, Completed, Record, step_on}
use Rattle.disk_model.specs.Record.{Operation, IsRecord}
use Rattle.disk_model.specs.Brought.{writes}
use Rattle.disk_model.specs.Durability.{OnlyLeaves, AllLeave}
use Rattle.disk_model.proofs.Durable.{only_leaves_on}
use Rattle.disk_batch.specs.Views.{View, done_on}
use Rattle.disk_batch.specs.Rounds.{AreStill, BatchHolds, WriteTargets, IsElsewhere}
use Rattle.disk_batch.proofs.Progressing.{OnlyFlushes, foreign_on, own_done, writes_started, writes_next, flushes_started, batch_well}
use Rattle.disk_batch.proofs.Progressing.{only_leaves_submitted, flushes_write_nothing}
use Rattle.disk_batch.proofs.Works.{at_both, bring_left, bring_right, or_either, or_false_left, or_false_right}
use Rattle.disk_batch.specs.Writes.{write_work}
use Rattle.disk_model.specs.Submitting.{BringAt, BringsAt, submitted_on, works_of, writes_at}
use Rattle.disk_model.specs.State.{tags_of}
use Rattle.disk_model.specs.InFlight.{IsAmong, IsStill, OnlyTheirs}
use Rattle.disk_model.proofs.InFlight.{theirs_on}

-- what is still is so after submissions that don't write there
still_submitted : (os : List Operation) (told : Record) (pv sector : ℕ) → writes_at (works_of os) pv sector ≡ false → IsStill told pv sector
    → IsStill (submitted_on os told) pv sector
still_submitted [] told pv sector none h = h
still_submitted (o ∷ os) told pv sector none h =
    still_submitted os (step_on (Submitted o.tag o.work) told) pv sector
    (or_false_right (writes o.work pv sector) (writes_at (works_of os) pv sector) none)
    (theirs_on [] told pv sector (Submitted o.tag o.work) (or_false_left (writes o.work pv sector) (writes_at (works_of os) pv sector) none)
    h)

module _ (mine target : ℕ → ℕ → Bool) (Now Goal : ℕ → ℕ → List ℕ → Type 0) where
  -- a batch starts
  pub batch_started : (os : List Operation) (flush : List ℕ) (rest : List (Span × List (List ℕ))) (told : Record)
      → WriteTargets mine target Now Goal (works_of os ++ map write_work rest) → AreStill mine told → AllLeave mine Now told
      → BatchHolds mine target Now Goal (record { tags = tags_of os; flush = flush; flushing = false; lost = None; rest = rest })
      (submitted_on os told)
  batch_started os flush rest told puts still leaves =
      let later : List Work = map write_work rest in
      let both : (pv sector : ℕ) → writes_at (works_of os ++ later) pv sector
      ≡ (writes_at (works_of os) pv sector || writes_at later pv sector) = λ pv sector. at_both (works_of os) later pv sector in
      record {
        leaves =
            λ pv sector own. only_leaves_submitted os told pv sector (Now pv sector)
            (bring_left (works_of os) later pv sector (Now pv sector) (puts.allowed pv sector own)) (leaves pv sector own);
        targets =
            λ pv sector own aim. writes_started os flush rest told pv sector (Goal pv sector)
            (or_either (writes_at (works_of os) pv sector) (writes_at later pv sector)
            (subst IsTrue (both pv sector) (puts.targets pv sector own aim)))
            (bring_left (works_of os) later pv sector (Goal pv sector) (puts.wanted pv sector own))
            (bring_right (works_of os) later pv sector (Goal pv sector) (puts.wanted pv sector own)) (still pv sector own);
        others =
            λ pv sector own not. still_submitted os told pv sector
            (or_false_left (writes_at (works_of os) pv sector) (writes_at later pv sector)
            (sym (both pv sector) ∙ puts.others pv sector own not)) (still pv sector own);
        rest_allowed = λ pv sector own. bring_right (works_of os) later pv sector (Now pv sector) (puts.allowed pv sector own);
        rest_apart =
            λ pv sector own not. or_false_right (writes_at (works_of os) pv sector) (writes_at later pv sector)
            (sym (both pv sector) ∙ puts.others pv sector own not);
      }

  -- a step of somebody else
  pub batch_elsewhere : (view : View) (told : Record) (step : Step) → IsElsewhere mine view.tags step
      → BatchHolds mine target Now Goal view told → BatchHolds mine target Now Goal view (step_on step told)
  batch_elsewhere view told step else h = record {
    leaves = λ pv sector own. only_leaves_on told pv sector (Now pv sector) step (else.apart pv sector own) (h.leaves pv sector own);
    targets =
        λ pv sector own aim. foreign_on view told pv sector (Goal pv sector) step (else.apart pv sector own) else.foreign
        (h.targets pv sector own aim);
    others = λ pv sector own not. theirs_on [] told pv sector step (else.apart pv sector own) (h.others pv sector own not);
    rest_allowed = h.rest_allowed;
    rest_apart = h.rest_apart;
  }

  -- submissions of somebody else
  pub batch_beside : (view : View) (os : List Operation) (told : Record)
      → ((pv sector : ℕ) → IsTrue (mine pv sector) → writes_at (works_of os) pv sector ≡ false) → BatchHolds mine target Now Goal view told
      → BatchHolds mine target Now Goal view (submitted_on os told)
  batch_beside view [] told apart h = h
  batch_beside view (o ∷ os) told apart h =
      batch_beside view os (step_on (Submitted o.tag o.work) told)
      (λ pv sector own. or_false_right (writes o.work pv sector) (writes_at (works_of os) pv sector) (apart pv sector own))
      (batch_elsewhere view told (Submitted o.tag o.work)
      (record {
        foreign = tt;
        apart = λ pv sector own. or_false_left (writes o.work pv sector) (writes_at (works_of os) pv sector)
            (apart pv sector own);
      }) h)

  -- a completion of its own
  pub batch_done : (view : View) (told : Record) (tag disk : ℕ) (work : Work) (well : Bool) (fresh : List Bool)
      → IsRecord (step_on (Completed tag work well fresh) told).steps
      → BatchHolds mine target Now Goal view told
      → BatchHolds mine target Now Goal (done_on tag disk well view) (step_on (Completed tag work well fresh) told)
  batch_done view told tag disk work well fresh is h = record {
    leaves = λ pv sector own. only_leaves_on told pv sector (Now pv sector) (Completed tag work well fresh) refl (h.leaves pv sector own);
    targets = λ pv sector own aim. own_done view told pv sector (Goal pv sector) tag disk work well fresh is (h.targets pv sector own aim);
    others = λ pv sector own not. theirs_on [] told pv sector (Completed tag work well fresh) refl (h.others pv sector own not);
    rest_allowed = h.rest_allowed;
    rest_apart = h.rest_apart;
  }

  -- the next of its writes to come is submitted
  pub batch_next : (view : View) (put : Span × List (List ℕ)) (puts : List (Span × List (List ℕ))) (o : Operation) (told : Record)
      → view.rest ≡ put ∷ puts → view.flushing ≡ false → o.work ≡ write_work put → BatchHolds mine target Now Goal view told
      → BatchHolds mine target Now Goal (record view { tags = view.tags ++ o.tag ∷ []; rest = puts }) (submitted_on (o ∷ []) told)
  batch_next view put puts o told first writing is h =
      let allowed : (pv sector : ℕ) → IsTrue (mine pv sector) → BringAt (map write_work (put ∷ puts)) pv sector (Now pv sector) =
      λ pv sector own. subst (λ (l : List (Span × List (List ℕ))). BringAt (map write_work l) pv sector (Now pv sector)) first
      (h.rest_allowed pv sector own) in
      let apart : (pv sector : ℕ) → IsTrue (mine pv sector) → target pv sector ≡ false
      → writes_at (map write_work (put ∷ puts)) pv sector ≡ false =
      λ pv sector own not. subst (λ (l : List (Span × List (List ℕ))). writes_at (map write_work l) pv sector ≡ false) first
      (h.rest_apart pv sector own not) in
      record {
        leaves =
            λ pv sector own. only_leaves_submitted (o ∷ []) told pv sector (Now pv sector)
            (subst (λ (w : Work). BringsAt w pv sector (Now pv sector)) (sym is) (allowed pv sector own).0, tt) (h.leaves pv sector own);
        targets =
            λ pv sector own aim. writes_next view put puts o told pv sector (Goal pv sector) first writing is (h.targets pv sector own aim);
        others =
            λ pv sector own not. still_submitted (o ∷ []) told pv sector
            (ap (λ (w : Work). writes w pv sector || false) is
            ∙ ap (λ (b : Bool). b || false) (or_false_left (writes (write_work put) pv sector) (writes_at (map write_work puts) pv sector)
            (apart pv sector own not))) (h.others pv sector own not);
        rest_allowed = λ pv sector own. (allowed pv sector own).1;
        rest_apart =
            λ pv sector own not. or_false_right (writes (write_work put) pv sector) (writes_at (map write_work puts) pv sector)
            (apart pv sector own not);
      }

  -- its flushes are submitted
  pub batch_flushes : (view : View) (os : List Operation) (told : Record) → view.tags ≡ [] → view.flushing ≡ false → view.lost ≡ None
      → view.rest ≡ [] → OnlyFlushes os view.flush
      → ((pv sector : ℕ) → IsTrue (mine pv sector) → IsTrue (target pv sector) → IsAmong view.flush pv)
      → BatchHolds mine target Now Goal view told
      → BatchHolds mine target Now Goal (record view { tags = tags_of os; flushing = true }) (submitted_on os told)
  batch_flushes view os told none writing well over only among h = record {
    leaves =
        λ pv sector own. only_leaves_submitted os told pv sector (Now pv sector)
        (flushes_write_nothing os view.flush pv sector (Now pv sector) only).0 (h.leaves pv sector own);
    targets =
        λ pv sector own aim. flushes_started view os told pv sector (Goal pv sector) none writing well over only (among pv sector own aim)
        (h.targets pv sector own aim);
    others =
        λ pv sector own not. still_submitted os told pv sector (flushes_write_nothing os view.flush pv sector (Now pv sector) only).1
        (h.others pv sector own not);
    rest_allowed = h.rest_allowed;
    rest_apart = h.rest_apart;
  }

  -- it is through
  pub batch_brought : (view : View) (told : Record) → view.tags ≡ [] → view.flushing ≡ true → view.lost ≡ None
      → BatchHolds mine target Now Goal view told
      → (pv sector : ℕ) → IsTrue (mine pv sector) → IsTrue (target pv sector) → OnlyLeaves told pv sector (Goal pv sector)
  batch_brought view told none flushing well h pv sector own aim =
      batch_well view told pv sector (Goal pv sector) none flushing well (h.targets pv sector own aim)

  -- it is over, well or not
  still_here : (view : View) (told : Record) → view.tags ≡ [] → BatchHolds mine target Now Goal view told → (pv sector : ℕ)
      → IsTrue (mine pv sector) → (c : Bool) → target pv sector ≡ c → IsStill told pv sector
  still_here view told none h pv sector own true e =
      subst (λ (l : List ℕ). OnlyTheirs l told pv sector) none (h.targets pv sector own e).alone
  still_here view told none h pv sector own false e = h.others pv sector own e

  pub batch_still : (view : View) (told : Record) → view.tags ≡ [] → BatchHolds mine target Now Goal view told → AreStill mine told
  batch_still view told none h pv sector own = still_here view told none h pv sector own (target pv sector) refl
