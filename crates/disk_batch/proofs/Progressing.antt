-- How each step brings a batch on.
use Rattle.std.proofs.Common.{◌≡◌, ◌⊎◌, ℕ, Bool, true, false, not, ◌==◌, ◌||◌, IsTrue, List, [], ◌∷◌, ◌++◌, filter, map, All, Option, Some}
use Rattle.std.proofs.Common.{None, inl, inr}
use Rattle.std.proofs.Common.{⊎_elim, refl, sym, ap, subst, ◌∙◌}
use Rattle.std.proofs.lemmas.Bool.Decides.{eqb_tells}
use Rattle.std.proofs.lemmas.List.Elements.{All-cons, All-nil}
use Rattle.sector_base.specs.declared.spans.Span.{Span}
use Rattle.sector_base.specs.Spans.{covers}
use Rattle.disk_model.specs.Steps.{Work, Reading, Writing, Flushing, Step, Submitted, Completed, Record, step_on}
use Rattle.disk_model.specs.Record.{Operation, in_flight_after, IsRecord, IsIn}
use Rattle.disk_model.specs.Brought.{writes, brings}
use Rattle.disk_model.specs.CrashValues.{HasCompleted, IsOvertaken}
use Rattle.disk_model.specs.Durability.{OnlyLeaves, OnlyLeavesOrCompleted, OnlyLeavesOrOvertaken, OnlyLeavesOrDropped}
use Rattle.disk_model.proofs.WritesInFlight.{alone_completed}
use Rattle.disk_model.proofs.Durable.{only_leaves_on, or_completed_on, or_overtaken_on, or_dropped_on, new_write, write_completes}
use Rattle.disk_model.proofs.Durable.{flush_submitted, flush_completes}
use Rattle.disk_batch.specs.Views.{View, done_on}
use Rattle.disk_batch.specs.Progress.{AwaitsWrite, AwaitsFlush, IsToBeWritten, Stage, Brings}
use Rattle.disk_batch.specs.Writes.{write_work}
use Rattle.disk_model.specs.Submitting.{submitted_on, works_of, writes_at, BringsAt, BringAt}
use Rattle.disk_model.specs.State.{tags_of}
use Rattle.disk_model.specs.InFlight.{IsAmong, OnlyTheirs, IsStill, IsForeign}
use Rattle.disk_model.proofs.InFlight.{is_among-filter, is_among-left, is_among-right, in_append, completes_its_own, in_flight_on}
use Rattle.disk_model.proofs.InFlight.{in_flight_left, in_flight_submitted, in_flight_new}
use Rattle.disk_model.proofs.InFlight.{theirs_on, theirs_done, theirs_submitted}
use Rattle.disk_model.proofs.Submissions.{submitted_leaves}

-- a write of the sector that is awaited still is after a step that isn't the batch's own
awaits_on : (tags : List ℕ) (told : Record) (pv sector : ℕ) (step : Step) → IsForeign tags step → AwaitsWrite tags told pv sector
    → AwaitsWrite tags (step_on step told) pv sector
awaits_on tags told pv sector step foreign w = record {
  operation = w.operation;
  awaited = w.awaited;
  in_flight = in_flight_on tags step told w.operation foreign w.awaited w.in_flight;
  writes_it = w.writes_it;
}

-- what a step that isn't the batch's own leaves, where it brings nothing to the sector
stage_on : (rest : List (Span × List (List ℕ))) (flushing : Bool) (tags : List ℕ) (told : Record) (pv sector : ℕ) (Q : List ℕ → Type 0)
    (step : Step) → brings step pv sector ≡ false → IsForeign tags step
    → Stage rest flushing tags told pv sector Q → Stage rest flushing tags (step_on step told) pv sector Q
stage_on rest false tags told pv sector Q step q foreign h =
    ⊎_elim
    (λ a. inl (or_overtaken_on told pv sector Q step q a))
    (λ b. inr (
      or_completed_on told pv sector Q step q b.0,
      ⊎_elim (λ later. inl later) (λ w. inr (awaits_on tags told pv sector step foreign w)) b.1,
    )) h
stage_on rest true tags told pv sector Q step q foreign h =
    ⊎_elim
    (λ a. inl (only_leaves_on told pv sector Q step q a))
    (λ b. inr (record {
      flush = b.flush;
      awaited = b.awaited;
      in_flight = in_flight_on tags step told (record { tag = b.flush; work = Flushing pv }) foreign b.awaited b.in_flight;
      drops = or_dropped_on told pv sector Q step q b.flush b.drops;
    })) h

pub foreign_on : (view : View) (told : Record) (pv sector : ℕ) (Q : List ℕ → Type 0) (step : Step) → brings step pv sector ≡ false
    → IsForeign view.tags step
    → Brings view told pv sector Q → Brings view (step_on step told) pv sector Q
foreign_on view told pv sector Q step q foreign h =
    record {
      stage = λ e. stage_on view.rest view.flushing view.tags told pv sector Q step q foreign (h.stage e);
      rest = h.rest;
      alone = theirs_on view.tags told pv sector step q h.alone;
    }

-- a completion of its own that went well
stage_done : (rest : List (Span × List (List ℕ))) (flushing : Bool) (tags : List ℕ) (told : Record) (pv sector : ℕ) (Q : List ℕ → Type 0)
    (tag : ℕ) (work : Work) (fresh : List Bool) → IsRecord (step_on (Completed tag work true fresh) told).steps
    → Stage rest flushing tags told pv sector Q → Stage rest flushing (filter (λ (t : ℕ). not (t == tag)) tags)
    (step_on (Completed tag work true fresh) told) pv sector Q
stage_done rest false tags told pv sector Q tag work fresh is h =
    let step : Step = Completed tag work true fresh in
    ⊎_elim
    (λ a. inl (or_overtaken_on told pv sector Q step refl a))
    (λ b. ⊎_elim (λ later. inr (or_completed_on told pv sector Q step refl b.0, inl later))
    (λ w. ⊎_elim
    (λ same. let e : w.operation.work ≡ work = completes_its_own told.steps tag work w.operation is.1 is.0 w.in_flight same.1 in
    inl (write_completes told pv sector tag work fresh Q (subst (λ (v : Work). IsTrue (writes v pv sector)) e w.writes_it) b.0))
    (λ other. inr (
      or_completed_on told pv sector Q step refl b.0,
      inr (record {
        operation = w.operation;
        awaited = is_among-filter tags tag w.operation.tag w.awaited other.1;
        in_flight = in_flight_left tag work true fresh told w.operation other.1 w.in_flight;
        writes_it = w.writes_it;
      }),
    ))
    (eqb_tells w.operation.tag tag)) b.1) h
stage_done rest true tags told pv sector Q tag work fresh is h =
    let step : Step = Completed tag work true fresh in
    ⊎_elim
    (λ a. inl (only_leaves_on told pv sector Q step refl a))
    (λ b. ⊎_elim
    (λ same. let e : Flushing pv ≡ work = completes_its_own told.steps tag work (record { tag = b.flush; work = Flushing pv }) is.1 is.0
    b.in_flight same.1 in
    inl (subst (λ (w : Work). OnlyLeaves (step_on (Completed tag w true fresh) told) pv sector Q) e
    (flush_completes told pv sector tag fresh Q (subst (λ (t : ℕ). OnlyLeavesOrDropped told t pv sector Q) same.1 b.drops))))
    (λ other. inr (record {
      flush = b.flush;
      awaited = is_among-filter tags tag b.flush b.awaited other.1;
      in_flight = in_flight_left tag work true fresh told (record { tag = b.flush; work = Flushing pv }) other.1 b.in_flight;
      drops = or_dropped_on told pv sector Q step refl b.flush b.drops;
    }))
    (eqb_tells b.flush tag)) h

pub own_done : (view : View) (told : Record) (pv sector : ℕ) (Q : List ℕ → Type 0) (tag disk : ℕ) (work : Work) (well : Bool)
    (fresh : List Bool) → IsRecord (step_on (Completed tag work well fresh) told).steps
    → Brings view told pv sector Q → Brings (done_on tag disk well view) (step_on (Completed tag work well fresh) told) pv sector Q
own_done view told pv sector Q tag disk work true fresh is h =
    record {
      stage = λ e. stage_done view.rest view.flushing view.tags told pv sector Q tag work fresh is (h.stage e);
      rest = h.rest;
      alone = theirs_done view.tags told pv sector tag work true fresh h.alone;
    }
own_done view told pv sector Q tag disk work false fresh is h =
    record {
      stage = λ (e : Some disk ≡ None). cc;
      rest = h.rest;
      alone = theirs_done view.tags told pv sector tag work false fresh h.alone;
    }

-- what isn't true is false
not_true : (b : Bool) → (b ≡ true → ⊥) → b ≡ false
not_true true h = absurd (h refl)
not_true false h = refl

-- where no write of the sector is in flight, each has completed
all_still : (fs : List Operation) (pv sector : ℕ) → ((o : Operation) → IsIn fs o → IsTrue (writes o.work pv sector) → ⊥)
    → All (λ (o : Operation). writes o.work pv sector ≡ false) fs
all_still [] pv sector still = All-nil (λ (o : Operation). writes o.work pv sector ≡ false)
all_still (f ∷ fs) pv sector still =
    All-cons (λ (o : Operation). writes o.work pv sector ≡ false) f fs (not_true (writes f.work pv sector) (still f (inl refl)))
    (all_still fs pv sector (λ o a w. still o (inr a) w))

still_completed : (told : Record) (pv sector : ℕ) (Q : List ℕ → Type 0) → IsStill told pv sector → OnlyLeavesOrCompleted told pv sector Q
still_completed told pv sector Q still =
    alone_completed told (in_flight_after told.steps) pv sector Q refl (all_still (in_flight_after told.steps) pv sector still)

-- submissions that bring only values with Q
bring_step : (told : Record) (pv sector tag : ℕ) (work : Work) (Q : List ℕ → Type 0) (c : Bool) → writes work pv sector ≡ c
    → BringsAt work pv sector Q → OnlyLeavesOrCompleted told pv sector Q
    → OnlyLeavesOrCompleted (step_on (Submitted tag work) told) pv sector Q
bring_step told pv sector tag work Q false e b h = or_completed_on told pv sector Q (Submitted tag work) e h
bring_step told pv sector tag (Writing span sectors) Q true e b h = new_write told pv sector tag span sectors Q h (b e)
bring_step told pv sector tag (Reading span) Q true e b h = cc
bring_step told pv sector tag (Flushing disk) Q true e b h = cc

completed_submitted : (os : List Operation) (told : Record) (pv sector : ℕ) (Q : List ℕ → Type 0) → BringAt (works_of os) pv sector Q
    → OnlyLeavesOrCompleted told pv sector Q → OnlyLeavesOrCompleted (submitted_on os told) pv sector Q
completed_submitted [] told pv sector Q b h = h
completed_submitted (o ∷ os) told pv sector Q b h =
    completed_submitted os (step_on (Submitted o.tag o.work) told) pv sector Q b.1
    (bring_step told pv sector o.tag o.work Q (writes o.work pv sector) refl b.0 h)

-- a write of the sector that was submitted is awaited
awaits_here : (o : Operation) (os : List Operation) (told : Record) (pv sector : ℕ) (c : Bool) → writes o.work pv sector ≡ c
    → IsTrue (c || writes_at (works_of os) pv sector)
    → (IsTrue (writes_at (works_of os) pv sector) → AwaitsWrite (tags_of os) (submitted_on (o ∷ os) told) pv sector)
    → AwaitsWrite (tags_of (o ∷ os)) (submitted_on (o ∷ os) told) pv sector
awaits_here o os told pv sector true e h later = record {
  operation = o;
  awaited = inl refl;
  in_flight = in_flight_submitted os (step_on (Submitted o.tag o.work) told) o (in_flight_new o.tag o.work told);
  writes_it = e;
}
awaits_here o os told pv sector false e h later =
    let w = later h in
    record { operation = w.operation; awaited = inr w.awaited; in_flight = w.in_flight; writes_it = w.writes_it }

awaits_new : (os : List Operation) (told : Record) (pv sector : ℕ) → IsTrue (writes_at (works_of os) pv sector)
    → AwaitsWrite (tags_of os) (submitted_on os told) pv sector
awaits_new [] told pv sector h = cc
awaits_new (o ∷ os) told pv sector h =
    awaits_here o os told pv sector (writes o.work pv sector) refl h (awaits_new os (step_on (Submitted o.tag o.work) told) pv sector)

-- a batch starts to write
pub writes_started : (os : List Operation) (flush : List ℕ) (rest : List (Span × List (List ℕ))) (told : Record) (pv sector : ℕ)
    (Q : List ℕ → Type 0) → IsTrue (writes_at (works_of os) pv sector) ⊎ IsTrue (writes_at (map write_work rest) pv sector)
    → BringAt (works_of os) pv sector Q → BringAt (map write_work rest) pv sector Q → IsStill told pv sector
    → Brings (record { tags = tags_of os; flush = flush; flushing = false; lost = None; rest = rest }) (submitted_on os told) pv sector Q
writes_started os flush rest told pv sector Q w b later still = record {
  stage = λ e. inr (
    completed_submitted os told pv sector Q b (still_completed told pv sector Q still),
    ⊎_elim (λ now. inr (awaits_new os told pv sector now)) (λ then. inl then) w,
  );
  rest = later;
  alone = theirs_submitted os [] told pv sector still;
}

-- a write that has completed has so after a step more
completed_more : (step : Step) (steps : List Step) (write : Option ℕ) → HasCompleted steps write → HasCompleted (step ∷ steps) write
completed_more step steps None h = tt
completed_more (Submitted tag work) steps (Some write) h = h
completed_more (Completed tag work well fresh) steps (Some write) h = inr h

-- a write that was overtaken has completed
overtaken_completed : (steps : List Step) (pv sector : ℕ) (write : Option ℕ) → IsOvertaken steps pv sector write → HasCompleted steps write
overtaken_completed [] pv sector write h = absurd h
overtaken_completed (Submitted tag work ∷ steps) pv sector write h =
    completed_more (Submitted tag work) steps write (overtaken_completed steps pv sector write h)
overtaken_completed (Completed tag (Reading span) well fresh ∷ steps) pv sector write h =
    completed_more (Completed tag (Reading span) well fresh) steps write (overtaken_completed steps pv sector write h)
overtaken_completed (Completed tag (Flushing disk) well fresh ∷ steps) pv sector write h =
    completed_more (Completed tag (Flushing disk) well fresh) steps write (overtaken_completed steps pv sector write h)
overtaken_completed (Completed tag (Writing span sectors) false fresh ∷ steps) pv sector write h =
    completed_more (Completed tag (Writing span sectors) false fresh) steps write (overtaken_completed steps pv sector write h)
overtaken_completed (Completed tag (Writing span sectors) true fresh ∷ steps) pv sector write h =
    completed_more (Completed tag (Writing span sectors) true fresh) steps write
    (⊎_elim (λ before. overtaken_completed steps pv sector write before) (λ now. now.1) h)

or_completed_of : (told : Record) (pv sector : ℕ) (Q : List ℕ → Type 0) → OnlyLeavesOrOvertaken told pv sector Q
    → OnlyLeavesOrCompleted told pv sector Q
or_completed_of told pv sector Q h = record {
  each = λ write value may. ⊎_elim (λ a. inl a) (λ b. inr (overtaken_completed told.steps pv sector write b)) (h.each write value may);
}

-- the next of the writes to come is submitted: it writes the sector or not
stage_next : (put : Span × List (List ℕ)) (puts : List (Span × List (List ℕ))) (tags : List ℕ) (o : Operation) (told : Record)
    (pv sector : ℕ) (Q : List ℕ → Type 0) (c : Bool) → writes o.work pv sector ≡ c → o.work ≡ write_work put → BringsAt o.work pv sector Q
    → Stage (put ∷ puts) false tags told pv sector Q
    → Stage puts false (tags ++ o.tag ∷ []) (step_on (Submitted o.tag o.work) told) pv sector Q
stage_next put puts tags o told pv sector Q true here is b h =
    let before : OnlyLeavesOrCompleted told pv sector Q = ⊎_elim (λ a. or_completed_of told pv sector Q a) (λ c. c.0) h in
    inr (
      bring_step told pv sector o.tag o.work Q true here b before,
      inr (record {
        operation = o;
        awaited = is_among-right tags (o.tag ∷ []) o.tag (inl refl);
        in_flight = in_flight_new o.tag o.work told;
        writes_it = here;
      }),
    )
stage_next put puts tags o told pv sector Q false here is b h =
    let step : Step = Submitted o.tag o.work in
    let not : covers put.0 pv sector ≡ false = ap (λ (w : Work). writes w pv sector) (sym is) ∙ here in
    ⊎_elim
    (λ a. inl (or_overtaken_on told pv sector Q step here a))
    (λ c. inr (
      or_completed_on told pv sector Q step here c.0,
      ⊎_elim (λ later. inl (subst (λ (x : Bool). IsTrue (x || writes_at (map write_work puts) pv sector)) not later))
          (λ w. let w' = awaits_on tags told pv sector step tt w in
          inr (record {
            operation = w'.operation;
            awaited = is_among-left tags (o.tag ∷ []) w'.operation.tag w'.awaited;
            in_flight = w'.in_flight;
            writes_it = w'.writes_it;
          })) c.1,
    )) h

pub writes_next : (view : View) (put : Span × List (List ℕ)) (puts : List (Span × List (List ℕ))) (o : Operation) (told : Record)
    (pv sector : ℕ) (Q : List ℕ → Type 0) → view.rest ≡ put ∷ puts → view.flushing ≡ false → o.work ≡ write_work put
    → Brings view told pv sector Q
    → Brings (record view { tags = view.tags ++ o.tag ∷ []; rest = puts }) (submitted_on (o ∷ []) told) pv sector Q
writes_next view put puts o told pv sector Q first writing is h =
    let rest : BringAt (map write_work (put ∷ puts)) pv sector Q =
    subst (λ (l : List (Span × List (List ℕ))). BringAt (map write_work l) pv sector Q) first h.rest in
    let b : BringsAt o.work pv sector Q = subst (λ (w : Work). BringsAt w pv sector Q) (sym is) rest.0 in
    record {
      stage = λ e. subst (λ (f : Bool). Stage puts f (view.tags ++ o.tag ∷ []) (step_on (Submitted o.tag o.work) told) pv sector Q)
          (sym writing)
          (stage_next put puts view.tags o told pv sector Q (writes o.work pv sector) refl is b
          (subst (λ (f : Bool). Stage (put ∷ puts) f view.tags told pv sector Q) writing
          (subst (λ (l : List (Span × List (List ℕ))). Stage l view.flushing view.tags told pv sector Q) first (h.stage e))));
      rest = rest.1;
      alone = λ p within writes_it.
          ⊎_elim (λ (older : IsIn (in_flight_after told.steps) p). is_among-left view.tags (o.tag ∷ []) p.tag (h.alone p older writes_it))
          (λ (new : o ≡ p). is_among-right view.tags (o.tag ∷ []) p.tag (inl (ap (λ (q : Operation). q.tag) new)))
          (in_append (in_flight_after told.steps) o p within);
    }

-- no operation is a write
abbrev pub OnlyFlushes : List Operation → List ℕ → Type 0
OnlyFlushes os disks = works_of os ≡ map (λ (pv : ℕ). Flushing pv) disks

-- what will be overtaken still is after flushes were submitted
overtaken_flushes : (os : List Operation) (disks : List ℕ) (told : Record) (pv sector : ℕ) (Q : List ℕ → Type 0) → OnlyFlushes os disks
    → OnlyLeavesOrOvertaken told pv sector Q → OnlyLeavesOrOvertaken (submitted_on os told) pv sector Q
overtaken_flushes [] disks told pv sector Q only h = h
overtaken_flushes (o ∷ os) [] told pv sector Q only h = cc
overtaken_flushes (o ∷ os) (d ∷ disks) told pv sector Q only h =
    let work : o.work ≡ Flushing d = cc in
    let rest : OnlyFlushes os disks = cc in
    overtaken_flushes os disks (step_on (Submitted o.tag o.work) told) pv sector Q rest
    (or_overtaken_on told pv sector Q (Submitted o.tag o.work) (ap (λ (w : Work). writes w pv sector) work) h)

-- and what a flush is to drop
dropped_flushes : (os : List Operation) (disks : List ℕ) (told : Record) (flush pv sector : ℕ) (Q : List ℕ → Type 0) → OnlyFlushes os disks
    → OnlyLeavesOrDropped told flush pv sector Q → OnlyLeavesOrDropped (submitted_on os told) flush pv sector Q
dropped_flushes [] disks told flush pv sector Q only h = h
dropped_flushes (o ∷ os) [] told flush pv sector Q only h = cc
dropped_flushes (o ∷ os) (d ∷ disks) told flush pv sector Q only h =
    let work : o.work ≡ Flushing d = cc in
    let rest : OnlyFlushes os disks = cc in
    dropped_flushes os disks (step_on (Submitted o.tag o.work) told) flush pv sector Q rest
    (or_dropped_on told pv sector Q (Submitted o.tag o.work) (ap (λ (w : Work). writes w pv sector) work) flush h)

-- a flush that is submitted will settle each sector of its disk that is overtaken, whoever wrote it
pub flush_new : (os : List Operation) (disks : List ℕ) (told : Record) (pv sector : ℕ) (Q : List ℕ → Type 0) → OnlyFlushes os disks
    → IsAmong disks pv → OnlyLeavesOrOvertaken told pv sector Q
    → AwaitsFlush (tags_of os) (submitted_on os told) pv sector Q
flush_new [] [] told pv sector Q only among h = absurd among
flush_new [] (d ∷ disks) told pv sector Q only among h = cc
flush_new (o ∷ os) [] told pv sector Q only among h = absurd among
flush_new (o ∷ os) (d ∷ disks) told pv sector Q only among h =
    let work : o.work ≡ Flushing d = cc in
    let rest : OnlyFlushes os disks = cc in
    let told' : Record = step_on (Submitted o.tag o.work) told in
    ⊎_elim
    (λ (e : d ≡ pv).
    let here : Flushing pv ≡ o.work = sym (work ∙ ap (λ (n : ℕ). Flushing n) e) in
    record {
      flush = o.tag;
      awaited = inl refl;
      in_flight = in_flight_submitted os told' (record { tag = o.tag; work = Flushing pv })
          (subst (λ (w : Work). IsIn (in_flight_after told'.steps) (record { tag = o.tag; work = w })) (sym here)
          (in_flight_new o.tag o.work told));
      drops =
          dropped_flushes os disks told' o.tag pv sector Q rest
          (subst (λ (w : Work). OnlyLeavesOrDropped (step_on (Submitted o.tag w) told) o.tag pv sector Q) here
          (flush_submitted told pv sector o.tag Q h));
    })
    (λ later.
    let a =
    flush_new os disks told' pv sector Q rest later
    (or_overtaken_on told pv sector Q (Submitted o.tag o.work) (ap (λ (w : Work). writes w pv sector) work) h) in
    record { flush = a.flush; awaited = inr a.awaited; in_flight = a.in_flight; drops = a.drops })
    among

-- where no operation is awaited or to come, the sector's write has completed well
none_to_come : (rest : List (Span × List (List ℕ))) (tags : List ℕ) (told : Record) (pv sector : ℕ) → tags ≡ [] → rest ≡ []
    → IsToBeWritten rest tags told pv sector → ⊥
none_to_come rest tags told pv sector none over (inl later) =
    let e : false ≡ true = subst (λ (l : List (Span × List (List ℕ))). IsTrue (writes_at (map write_work l) pv sector)) over later in cc
none_to_come rest tags told pv sector none over (inr w) = subst (λ (l : List ℕ). IsAmong l w.operation.tag) none w.awaited

settled_overtaken : (rest : List (Span × List (List ℕ))) (told : Record) (pv sector : ℕ) (Q : List ℕ → Type 0) (tags : List ℕ) → tags ≡ []
    → rest ≡ [] → Stage rest false tags told pv sector Q → OnlyLeavesOrOvertaken told pv sector Q
settled_overtaken rest told pv sector Q tags none over h =
    ⊎_elim (λ a. a) (λ b. absurd (none_to_come rest tags told pv sector none over b.1)) h

settled_well : (rest : List (Span × List (List ℕ))) (told : Record) (pv sector : ℕ) (Q : List ℕ → Type 0) (tags : List ℕ) → tags ≡ []
    → Stage rest true tags told pv sector Q → OnlyLeaves told pv sector Q
settled_well rest told pv sector Q tags none h = ⊎_elim (λ a. a) (λ b. absurd (subst (λ (l : List ℕ). IsAmong l b.flush) none b.awaited)) h

-- once its writes have completed well, a batch submits its flushes
pub flushes_started : (view : View) (os : List Operation) (told : Record) (pv sector : ℕ) (Q : List ℕ → Type 0) → view.tags ≡ []
    → view.flushing ≡ false → view.lost ≡ None → view.rest ≡ [] → OnlyFlushes os view.flush → IsAmong view.flush pv
    → Brings view told pv sector Q → Brings (record view { tags = tags_of os; flushing = true }) (submitted_on os told) pv sector Q
flushes_started view os told pv sector Q none writing well over only among h = record {
  stage = λ e. inr (flush_new os view.flush told pv sector Q only among
      (settled_overtaken view.rest told pv sector Q view.tags none over
      (subst (λ (b : Bool). Stage view.rest b view.tags told pv sector Q) writing (h.stage well))));
  rest = h.rest;
  alone = theirs_submitted os [] told pv sector (subst (λ (l : List ℕ). OnlyTheirs l told pv sector) none h.alone);
}

-- a batch that is through has left only values with Q
pub batch_well : (view : View) (told : Record) (pv sector : ℕ) (Q : List ℕ → Type 0) → view.tags ≡ [] → view.flushing ≡ true
    → view.lost ≡ None → Brings view told pv sector Q → OnlyLeaves told pv sector Q
batch_well view told pv sector Q none flushing well h =
    settled_well view.rest told pv sector Q view.tags none
    (subst (λ (b : Bool). Stage view.rest b view.tags told pv sector Q) flushing (h.stage well))

pub only_leaves_submitted : (os : List Operation) (told : Record) (pv sector : ℕ) (P : List ℕ → Type 0) → BringAt (works_of os) pv sector P
    → OnlyLeaves told pv sector P → OnlyLeaves (submitted_on os told) pv sector P
only_leaves_submitted [] told pv sector P b h = h
only_leaves_submitted (o ∷ os) told pv sector P b h =
    only_leaves_submitted os (step_on (Submitted o.tag o.work) told) pv sector P b.1 (submitted_leaves o told pv sector P b.0 h)

-- flushes bring nothing and write nothing
pub flushes_write_nothing : (os : List Operation) (disks : List ℕ) (pv sector : ℕ) (P : List ℕ → Type 0) → OnlyFlushes os disks
    → BringAt (works_of os) pv sector P × (writes_at (works_of os) pv sector ≡ false)
flushes_write_nothing [] disks pv sector P only = (tt, refl)
flushes_write_nothing (o ∷ os) [] pv sector P only = cc
flushes_write_nothing (o ∷ os) (d ∷ disks) pv sector P only =
    let work : o.work ≡ Flushing d = cc in
    let rest : OnlyFlushes os disks = cc in
    let r = flushes_write_nothing os disks pv sector P rest in (
      (subst (λ (w : Work). BringsAt w pv sector P) (sym work) tt, r.0),
      ap (λ (w : Work). writes w pv sector || writes_at (works_of os) pv sector) work ∙ r.1,
    )
