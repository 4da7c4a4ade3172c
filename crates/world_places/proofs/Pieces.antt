-- What the operations of pieces and the data flushes keep of a tracked place.
use Rattle.std.proofs.Common.{◌≡◌, ◌≤◌, ◌<◌, ◌⊎◌, ℕ, ◌+◌, Bool, true, false, IsTrue, List, [], ◌∷◌, length, inl, inr, ⊎_elim, refl, sym}
use Rattle.std.proofs.Common.{suc, subst, ◌∙◌, arith}
use Rattle.std.proofs.lemmas.Bool.{or_right}
use Rattle.sector_base.specs.declared.spans.Span.{Span}
use Rattle.disk_model.proofs.Durable.{new_write, write_completes}
use Rattle.disk_model.specs.Brought.{brings, writes as brings_to}
use Rattle.disk_model.specs.Durability.{OnlyLeavesOrCompleted}
use Rattle.disk_model.specs.Record.{Operation}
use Rattle.disk_model.specs.Steps.{Completed, Flushing, Record, Step, Submitted, Work, Writing, step_on, value_at}
use Rattle.flush_plan.specs.Plans.{IsOrderly, Plan, flush_of, is_in_flight}
use Rattle.flush_plan.specs.Steps.{after_flushed, after_forgot, after_lost, after_submitted, after_wrote}
use Rattle.volume_history.proofs.Bases.{base_stays, base_unsettled, base_upto, bears_stays, unsettled_older}
use Rattle.volume_history.proofs.EarlierMoments.{replay_stays, upto_longer}
use Rattle.volume_history.specs.Candidates.{base_from}
use Rattle.volume_history.specs.Chronicles.{AreUpto, ChronicleEntry, Origin, origin_on, settled_at}
use Rattle.volume_history.specs.Placed.{Place}
use Rattle.volume_history.specs.Sources.{ByLine}
use Rattle.world_places.proofs.Carried.{AnyFits, Carries, Has, Leads, OriginStays, carries_asked, carries_both, carries_flushed}
use Rattle.world_places.proofs.Carried.{carries_forgot, carries_lost, carries_same, carries_step, carries_write, carries_wrote, idle_leg}
use Rattle.world_places.proofs.Carried.{tracked_carried}
use Rattle.world_places.proofs.Coming.{comes_new}
use Rattle.world_places.specs.Changes.{IsIdle, IsTold, LegsFrom, NoneWrites, NotesStay, RealStays, stepped, submitting}
use Rattle.world_places.specs.Lives.{Flying, IsWriting, Leg, LegState, Live, Well, Written, runs_at, value_in}
use Rattle.world_places.specs.Tracked.{IsLiveOf, LegAt, Scene, Tracked}

-- ---- origins

abbrev Within : Origin → List ChronicleEntry → Type 0
Within o es = AreUpto (length o.told.steps) es

-- entries within what was told, which don't settle the line there
abbrev Before : Origin → ℕ → ℕ → ℕ → List ChronicleEntry → Type 0
Before o n key x es = AreUpto (length o.told.steps) es × (settled_at es n key x ≡ false)

stays_on : (step : Step) (o : Origin) → o.first ≤ length o.told.steps → OriginStays o (origin_on step o) (Within o)
stays_on step o first = record {
  plain = λ es are. replay_stays step o es first are;
  bears_same = λ key x e es are. bears_stays step o key x e es first are.1;
  base_same = λ all key x es are. base_stays step o all false key x es first are;
  base_of = λ all flushed key x es are. base_upto o all flushed key x (length o.told.steps) es are;
  tail = λ e es are. are.1;
}

stays_same : (o : Origin) → OriginStays o o (Within o)
stays_same o = record {
  plain = λ es are. refl;
  bears_same = λ key x e es are. refl;
  base_same = λ all key x es are. refl;
  base_of = λ all flushed key x es are. base_upto o all flushed key x (length o.told.steps) es are;
  tail = λ e es are. are.1;
}

module _ (g : Scene) (key x : ℕ) (place : Place) (told : IsTold g) where
  -- ---- what happens elsewhere, flushes and notes

  -- legs that stood, and some that are idle
  leads : (o : Origin) (lives : List Live) (written : List Written) (plan : Plan) → LegsFrom IsIdle g.lives lives key x place
      → Leads AnyFits g (record { origin = o; entries = g.entries; lives = lives; written = written; plan = plan }) key x place
  leads o lives written plan legs l leg w =
      ⊎_elim (λ old. inl (old, tt)) (λ idle. inr (idle_leg plan o.told place (value_in l x) l leg idle)) (legs l leg w)

  -- a step of which any values are carried
  by_step : (step : Step) (lives' : List Live) (plan' : Plan)
      → Carries AnyFits g.plan g.origin.told plan' (step_on step g.origin.told) place.disk place.sector
      → RealStays g.entries g.lives g.entries lives' key x → Leads AnyFits g (stepped g step lives' plan') key x place
      → Tracked g key x place → Tracked (stepped g step lives' plan') key x place
  by_step step lives' plan' carries real legs h =
      tracked_carried AnyFits g (stepped g step lives' plan') key x place (Within g.origin) refl (stays_on step g.origin told.first)
      told.upto carries (λ based s. tt) real legs (λ w kept at. inl kept) h

  -- and that changes no piece
  by_plan : (step : Step) (plan' : Plan)
      → Carries AnyFits g.plan g.origin.told plan' (step_on step g.origin.told) place.disk place.sector → Tracked g key x place
      → Tracked (stepped g step g.lives plan') key x place
  by_plan step plan' carries h =
      by_step step g.lives plan' carries (λ n r. r)
      (λ l leg w. inl (record { live = l; own = leg; writing = w; state = refl; value = refl }, tt)) h

  -- a step that brings nothing there: a read, a write elsewhere, whatever completes
  pub tracked_by_step : (step : Step) → brings step place.disk place.sector ≡ false → Tracked g key x place
      → Tracked (stepped g step g.lives g.plan) key x place
  tracked_by_step step none h = by_plan step g.plan (carries_step g.plan g.origin.told place.disk place.sector step none) h

  -- a data flush: submitted, completed well, failed
  pub tracked_by_flush : (tag disk : ℕ) → Tracked g key x place
      → Tracked (stepped g (Submitted tag (Flushing disk)) g.lives (after_submitted g.plan disk tag)) key x place
  tracked_by_flush tag disk h =
      by_plan (Submitted tag (Flushing disk)) (after_submitted g.plan disk tag)
      (carries_asked g.plan g.origin.told place.disk place.sector tag disk) h

  pub tracked_by_flushed : (tag disk : ℕ) (fresh : List Bool) → IsTrue (is_in_flight g.plan tag) → (flush_of g.plan tag).pv ≡ disk
      → disk < length g.plan.marks → Tracked g key x place
      → Tracked (stepped g (Completed tag (Flushing disk) true fresh) g.lives (after_flushed g.plan tag)) key x place
  tracked_by_flushed tag disk fresh flies its within h =
      by_plan (Completed tag (Flushing disk) true fresh) (after_flushed g.plan tag)
      (carries_flushed g.plan g.origin.told place.disk place.sector tag disk fresh flies its within) h

  pub tracked_by_lost : (tag disk : ℕ) (fresh : List Bool) → IsTrue (is_in_flight g.plan tag) → Tracked g key x place
      → Tracked (stepped g (Completed tag (Flushing disk) false fresh) g.lives (after_lost g.plan tag)) key x place
  tracked_by_lost tag disk fresh flies h =
      by_plan (Completed tag (Flushing disk) false fresh) (after_lost g.plan tag)
      (carries_lost g.plan g.origin.told place.disk place.sector tag disk fresh flies) h

  -- pieces enter, start and leave, and notes of writes that last are dropped: no step and no entry
  pub tracked_by_lives : (lives' : List Live) (written' : List Written) → RealStays g.entries g.lives g.entries lives' key x
      → LegsFrom IsIdle g.lives lives' key x place → NotesStay g.written written' g.plan x place
      → Tracked g key x place → Tracked (record g { lives = lives'; written = written' }) key x place
  tracked_by_lives lives' written' real legs notes h =
      tracked_carried AnyFits g (record g { lives = lives'; written = written' }) key x place (Within g.origin) refl (stays_same g.origin)
      told.upto (carries_same g.plan g.origin.told place.disk place.sector) (λ based s. tt) real
      (leads g.origin lives' written' g.plan legs) notes h

  -- the plan forgets writes
  pub tracked_by_forgot : (number disk : ℕ) → Tracked g key x place
      → Tracked (record g { plan = after_forgot g.plan number disk }) key x place
  tracked_by_forgot number disk h =
      tracked_carried AnyFits g (record g { plan = after_forgot g.plan number disk }) key x place (Within g.origin) refl
      (stays_same g.origin) told.upto (carries_forgot g.plan g.origin.told place.disk place.sector number disk) (λ based s. tt)
      (λ n r. r) (λ l leg w. inl (record { live = l; own = leg; writing = w; state = refl; value = refl }, tt))
      (λ w kept at. inl kept) h

  -- ---- a piece's write

  -- it is submitted: no other write of the sector is in flight there, nor another piece's on its way
  module _ (lives' : List Live) (l0 : Live) (is : IsLiveOf g.entries l0 key x) where
    abbrev Its : List ChronicleEntry → Type 0
    Its es = Before g.origin l0.line key x es

    its_base : (all : List ChronicleEntry) (flushed : Bool) (k y : ℕ) (es : List ChronicleEntry) → Its es
        → Its (base_from g.origin all flushed k y es)
    its_base all flushed k y es are = (
      base_upto g.origin all flushed k y (length g.origin.told.steps) es are.0,
      base_unsettled g.origin all flushed k y l0.line key x es are.1,
    )

    its_stays : (step : Step) → OriginStays g.origin (origin_on step g.origin) Its
    its_stays step = record {
      plain = λ es are. replay_stays step g.origin es told.first are.0;
      bears_same = λ k y e es are. bears_stays step g.origin k y e es told.first are.0.1;
      base_same = λ all k y es are. base_stays step g.origin all false k y es told.first are.0;
      base_of = λ all flushed k y es are. its_base all flushed k y es are;
      tail = λ e es are. (are.0.1, unsettled_older e es key x l0.line are.1);
    }

    pub tracked_by_write : (tag : ℕ) (span : Span) (sectors : List (List ℕ)) → runs_at lives' l0.line key x ≡ true
        → value_at span sectors place.sector ≡ value_in l0 x
        → OnlyLeavesOrCompleted g.origin.told place.disk place.sector (λ v. v ≡ value_in l0 x)
        → RealStays g.entries g.lives g.entries lives' key x
        → ((l : Live) (leg : Leg) → IsWriting lives' key x place l leg
        → ((leg.state ≡ Flying tag) × (value_in l x ≡ value_in l0 x)) ⊎ IsIdle l leg)
        → Tracked g key x place → Tracked (stepped g (Submitted tag (Writing span sectors)) lives' g.plan) key x place
    tracked_by_write tag span sectors runs value still real legs h =
        let step : Step = Submitted tag (Writing span sectors) in
        let g' : Scene = stepped g (Submitted tag (Writing span sectors)) lives' g.plan in
        let now : Record = step_on (Submitted tag (Writing span sectors)) g.origin.told in
        tracked_carried (Has (value_at span sectors place.sector)) g g' key x place Its refl (its_stays step) (told.upto, is.unsettled)
        (carries_write g.plan g.origin.told place.disk place.sector tag span sectors)
        (λ based s. (
          ByLine l0.line is.line,
          record {
            begun = is.begun;
            writing = is.writing;
            covers = is.covers;
            unsettled = s.1;
            real = or_right (settled_at g.entries l0.line key x) (runs_at lives' l0.line key x) runs;
          },
          sym is.value ∙ sym value,
        ))
        real
        (λ l leg w. inr (⊎_elim
        (λ mine. subst (λ (s : LegState). LegAt g.plan now place (value_in l x) s) (sym mine.0)
        (subst (λ (v : List ℕ). OnlyLeavesOrCompleted now place.disk place.sector (λ u. u ≡ v)) (sym mine.1)
        (new_write g.origin.told place.disk place.sector tag span sectors (λ v. v ≡ value_in l0 x) still value)))
        (λ idle. idle_leg g.plan now place (value_in l x) l leg idle)
        (legs l leg w)))
        (λ w kept at. inl kept) h

  -- it completes well, where it was the only write of the place in flight, and is noted
  pub tracked_by_written : (lives' : List Live) (l0 : Live) (leg0 : Leg) (tag number : ℕ) (work : Work) (fresh : List Bool)
      → IsOrderly g.plan → IsTrue (brings_to work place.disk place.sector)
      → IsWriting g.lives key x place l0 leg0 → leg0.state ≡ Flying tag → RealStays g.entries g.lives g.entries lives' key x
      → LegsFrom (λ l leg. (leg.state ≡ Well (g.plan.held + 1)) × (value_in l x ≡ value_in l0 x)) g.lives lives' key x place
      → Tracked g key x place
      → Tracked (stepped g (Completed tag work true fresh) lives' (after_wrote g.plan number place.disk)) key x place
  tracked_by_written lives' l0 leg0 tag number work fresh orderly inside writing flies real legs h =
      let step : Step = Completed tag work true fresh in
      let plan' : Plan = after_wrote g.plan number place.disk in
      let now : Record = step_on (Completed tag work true fresh) g.origin.told in
      let here : OnlyLeavesOrCompleted g.origin.told place.disk place.sector (λ v. v ≡ value_in l0 x) =
      subst (λ (s : LegState). LegAt g.plan g.origin.told place (value_in l0 x) s) flies (h.runs l0 leg0 writing) in
      let over = write_completes g.origin.told place.disk place.sector tag work fresh (λ v. v ≡ value_in l0 x) inside here in
      by_step step lives' plan'
      (carries_both g.plan g.origin.told g.plan now plan' now place.disk place.sector
      (carries_step g.plan g.origin.told place.disk place.sector step refl)
      (carries_wrote g.plan now place.disk place.sector number place.disk))
      real
      (λ l leg w. ⊎_elim (λ old. inl (old, tt))
      (λ mine. inr (subst (λ (s : LegState). LegAt plan' now place (value_in l x) s) (sym mine.0)
      (subst (λ (u : List ℕ). LegAt plan' now place u (Well (g.plan.held + 1))) (sym mine.1)
      (comes_new g.plan now place.disk place.sector (g.plan.held + 1) (λ v. v ≡ value_in l0 x) number orderly over refl))))
      (legs l leg w)) h

  -- it completes badly: the place is as it was, and the piece will fail, or its region is unsynced
  pub tracked_by_bad : (lives' : List Live) (tag : ℕ) (work : Work) (fresh : List Bool)
      → RealStays g.entries g.lives g.entries lives' key x → LegsFrom IsIdle g.lives lives' key x place
      → Tracked g key x place → Tracked (stepped g (Completed tag work false fresh) lives' g.plan) key x place
  tracked_by_bad lives' tag work fresh real legs h =
      by_step (Completed tag work false fresh) lives' g.plan
      (carries_step g.plan g.origin.told place.disk place.sector (Completed tag work false fresh) refl) real
      (leads (origin_on (Completed tag work false fresh) g.origin) lives' g.written g.plan legs) h

  -- a write elsewhere that completes well, and is noted
  pub tracked_by_other : (lives' : List Live) (tag number disk : ℕ) (work : Work) (fresh : List Bool)
      → RealStays g.entries g.lives g.entries lives' key x → LegsFrom IsIdle g.lives lives' key x place
      → Tracked g key x place → Tracked (stepped g (Completed tag work true fresh) lives' (after_wrote g.plan number disk)) key x place
  tracked_by_other lives' tag number disk work fresh real legs h =
      let step : Step = Completed tag work true fresh in
      let plan' : Plan = after_wrote g.plan number disk in
      let now : Record = step_on (Completed tag work true fresh) g.origin.told in
      by_step step lives' plan'
      (carries_both g.plan g.origin.told g.plan now plan' now place.disk place.sector
      (carries_step g.plan g.origin.told place.disk place.sector step refl)
      (carries_wrote g.plan now place.disk place.sector number disk))
      real (leads (origin_on (Completed tag work true fresh) g.origin) lives' g.written plan' legs) h

-- ---- several submissions of one call, none of which writes there

pub tracked_by_submissions : (os : List Operation) (g : Scene) (key x : ℕ) (place : Place) → IsTold g → NoneWrites os place
    → Tracked g key x place → Tracked (submitting os g) key x place
tracked_by_submissions [] g key x place told none h = h
tracked_by_submissions (op ∷ os) g key x place told none h =
    tracked_by_submissions os (stepped g (Submitted op.tag op.work) g.lives g.plan) key x place
    (record {
      first = omega (arith, told.first);
      upto = upto_longer (length g.origin.told.steps) (suc (length g.origin.told.steps)) g.entries (omega arith) told.upto;
    })
    none.1 (tracked_by_step g key x place told (Submitted op.tag op.work) none.0 h)
