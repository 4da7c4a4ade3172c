-- Which disks a batch has flushed, step by step.
use Rattle.std.proofs.Common.{◌≡◌, ◌≤◌, ℕ, Bool, true, false, List, [], ◌∷◌, All, Some, None, inl, inr, ⊎_elim, refl, sym, ap, subst, ◌∙◌}
use Rattle.std.proofs.lemmas.Bool.Decides.{eqb_tells}
use Rattle.std.proofs.lemmas.List.Elements.{All-head, All-tail}
use Rattle.disk_model.specs.Steps.{Work, Reading, Writing, Flushing, Step, Submitted, Completed, Record, step_on}
use Rattle.disk_model.specs.Record.{Operation, in_flight_after, IsRecord, IsIn}
use Rattle.disk_batch.specs.Views.{View, done_on}
use Rattle.disk_batch.specs.Flushed.{HasFlushedSince, AwaitsFlushSince, FlushesSince}
use Rattle.disk_batch.proofs.Progressing.{OnlyFlushes}
use Rattle.disk_model.specs.Submitting.{submitted_on}
use Rattle.disk_model.specs.State.{tags_of}
use Rattle.disk_model.specs.InFlight.{IsAmong, IsForeign}
use Rattle.disk_model.proofs.InFlight.{is_among-filter, completes_its_own, in_flight_on, in_flight_left, in_flight_submitted, in_flight_new}

-- what was flushed was so after one step more
pub flushed_on : (from pv : ℕ) (step : Step) (steps : List Step) → HasFlushedSince from pv steps → HasFlushedSince from pv (step ∷ steps)
flushed_on from pv (Submitted tag work) steps h = h
flushed_on from pv (Completed tag (Reading span) well fresh) steps h = h
flushed_on from pv (Completed tag (Writing span sectors) well fresh) steps h = h
flushed_on from pv (Completed tag (Flushing disk) true fresh) steps h = inr h
flushed_on from pv (Completed tag (Flushing disk) false fresh) steps h = h

-- a step of somebody else
pub flushes_elsewhere : (view : View) (told : Record) (from pv : ℕ) (step : Step) → IsForeign view.tags step
    → FlushesSince view told from pv → FlushesSince view (step_on step told) from pv
flushes_elsewhere view told from pv step foreign h = record {
  stage = λ well flushing.
      ⊎_elim (λ a. inl (flushed_on from pv step told.steps a))
      (λ b. inr (record {
        flush = b.flush;
        awaited = b.awaited;
        in_flight = in_flight_on view.tags step told (record { tag = b.flush; work = Flushing pv }) foreign b.awaited b.in_flight;
        since = b.since;
      }))
      (h.stage well flushing);
}

-- a completion of its own
pub flushes_done : (view : View) (told : Record) (from pv tag disk : ℕ) (work : Work) (well : Bool) (fresh : List Bool)
    → IsRecord (step_on (Completed tag work well fresh) told).steps
    → FlushesSince view told from pv → FlushesSince (done_on tag disk well view) (step_on (Completed tag work well fresh) told) from pv
flushes_done view told from pv tag disk work false fresh is h = record { stage = λ (e : Some disk ≡ None) flushing. cc }
flushes_done view told from pv tag disk work true fresh is h = record {
  stage = λ went flushing.
      ⊎_elim (λ a. inl (flushed_on from pv (Completed tag work true fresh) told.steps a))
      (λ b. ⊎_elim
      (λ same. let e : Flushing pv ≡ work = completes_its_own told.steps tag work (record { tag = b.flush; work = Flushing pv }) is.1 is.0
      b.in_flight same.1 in
      inl (subst (λ (w : Work). HasFlushedSince from pv (Completed tag w true fresh ∷ told.steps)) e
      (inl (refl, subst (λ (t : ℕ). from ≤ t) same.1 b.since))))
      (λ other. inr (record {
        flush = b.flush;
        awaited = is_among-filter view.tags tag b.flush b.awaited other.1;
        in_flight = in_flight_left tag work true fresh told (record { tag = b.flush; work = Flushing pv }) other.1 b.in_flight;
        since = b.since;
      }))
      (eqb_tells b.flush tag))
      (h.stage went flushing);
}

-- a batch that hasn't submitted its flushes
pub flushes_later : (view : View) (told : Record) (from pv : ℕ) → view.flushing ≡ false → FlushesSince view told from pv
flushes_later view told from pv later = record { stage = λ well flushing. absurd (let e : true ≡ false = sym flushing ∙ later in cc) }

-- its flushes are submitted
awaits_since : (os : List Operation) (disks : List ℕ) (told : Record) (from pv : ℕ) → OnlyFlushes os disks → IsAmong disks pv
    → All (λ (o : Operation). from ≤ o.tag) os → AwaitsFlushSince (tags_of os) (submitted_on os told) from pv
awaits_since [] [] told from pv only among fresh = absurd among
awaits_since [] (d ∷ disks) told from pv only among fresh = cc
awaits_since (o ∷ os) [] told from pv only among fresh = absurd among
awaits_since (o ∷ os) (d ∷ disks) told from pv only among fresh =
    let P : Operation → Type 0 = λ p. from ≤ p.tag in
    let work : o.work ≡ Flushing d = cc in
    let rest : OnlyFlushes os disks = cc in
    let told' : Record = step_on (Submitted o.tag o.work) told in
    ⊎_elim
    (λ (e : d ≡ pv).
    let here : Flushing pv ≡ o.work = sym (work ∙ ap (λ (n : ℕ). Flushing n) e) in
    record {
      flush = o.tag;
      awaited = inl refl;
      in_flight = in_flight_submitted os told' (record { tag = o.tag; work = Flushing pv })
          (subst (λ (w : Work). IsIn (in_flight_after told'.steps) (record { tag = o.tag; work = w })) (sym here)
          (in_flight_new o.tag o.work told));
      since = All-head P o os fresh;
    })
    (λ later.
    let a = awaits_since os disks told' from pv rest later (All-tail P o os fresh) in
    record { flush = a.flush; awaited = inr a.awaited; in_flight = a.in_flight; since = a.since })
    among

pub flushes_submitted : (view : View) (os : List Operation) (told : Record) (from pv : ℕ) → OnlyFlushes os view.flush
    → IsAmong view.flush pv → All (λ (o : Operation). from ≤ o.tag) os
    → FlushesSince (record view { tags = tags_of os; flushing = true }) (submitted_on os told) from pv
flushes_submitted view os told from pv only among fresh =
    record { stage = λ well flushing. inr (awaits_since os view.flush told from pv only among fresh) }

-- a batch that is through has flushed the disk
pub flushes_well : (view : View) (told : Record) (from pv : ℕ) → view.tags ≡ [] → view.flushing ≡ true → view.lost ≡ None
    → FlushesSince view told from pv → HasFlushedSince from pv told.steps
flushes_well view told from pv none flushing well h =
    ⊎_elim (λ a. a) (λ b. absurd (subst (λ (l : List ℕ). IsAmong l b.flush) none b.awaited)) (h.stage well flushing)
