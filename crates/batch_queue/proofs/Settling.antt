-- A flush leaves one value in a sector of which no write is in flight and each ended well.
use Rattle.std.proofs.Common.{◌≡◌, ◌<◌, ◌⊎◌, ℕ, Bool, true, false, ◌&&◌, ◌||◌, if◌then◌else◌, IsTrue, IfSome, List, [], ◌∷◌, map}
use Rattle.std.proofs.Common.{slice_index_or, ◌-◌, Option, Some, None, inl, inr, ⊎_elim, refl, sym, ap, subst, ◌∙◌, arith}
use Rattle.std.proofs.lemmas.Bool.{cases_Bool}
use Rattle.sector_base.specs.Spans.{covers}
use Rattle.sector_base.specs.declared.spans.Span.{Span}
use Rattle.disk_model.specs.Brought.{writes}
use Rattle.disk_model.specs.CrashValues.{HasCompleted, IsOvertaken, MayLeave}
use Rattle.disk_model.specs.Durability.{AllLeave, OnlyLeaves, OnlyLeavesOrOvertaken}
use Rattle.disk_model.specs.InFlight.{IsAmong, IsStill}
use Rattle.disk_model.specs.Record.{IsIn, IsNewTag, IsRecord, Operation, in_flight_after}
use Rattle.disk_model.specs.State.{IsLawful, State, tags_of}
use Rattle.disk_model.specs.Steps.{Completed, Flushing, Image, Reading, Step, Submitted, Record, Work, Writing, now_after, step_on}
use Rattle.disk_model.specs.Steps.{steps_on, value_at}
use Rattle.disk_model.specs.Submitting.{BringAt, submitted_on, works_of, writes_at}
use Rattle.disk_model.specs.Calls.{Completes}
use Rattle.disk_model.specs.declared.ops.Done.{Done}
use Rattle.disk_model.proofs.Durable.{or_overtaken_on}
use Rattle.disk_model.proofs.InFlight.{found_in, in_append, in_filter, in_flight_older, in_newest, theirs_submitted}
use Rattle.disk_model.proofs.OneStepMore.{quiet}
use Rattle.disk_model.proofs.WritesInFlight.{IsInFlight, completed_or_in_flight}
use Rattle.disk_model.proofs.NowStands.{not_completed}
use Rattle.disk_model.proofs.WhereTold.{told_after, told_weaker}
use Rattle.disk_batch.specs.Rounds.{AreStill}
use Rattle.disk_batch.specs.InTurn.{Put}
use Rattle.disk_batch.specs.Views.{View}
use Rattle.disk_batch.specs.Writes.{write_work}
use Rattle.disk_batch.specs.Along.{GoesElsewhere}
use Rattle.disk_batch.specs.declared.batching.BatchStep.{BatchStep}
use Rattle.disk_batch.specs.declared.batching.BatchStep.TheVariants as batch
use Rattle.disk_batch.proofs.Calling.{goes_came}
use Rattle.disk_batch.proofs.Calling as calling
use Rattle.disk_batch.proofs.Elsewhere.{batch_steps, leave_steps}
use Rattle.batch_queue.specs.Lasting.{covered_by}
use Rattle.batch_queue.specs.Laws.{SettlingCame}
use Rattle.batch_queue.specs.Queues.{Follows, TurnView, Turns}
use Rattle.batch_queue.specs.declared.queue.TurnStep.{TurnStep}
use Rattle.batch_queue.specs.declared.queue.TurnStep.TheVariants.{Going, Through, Lost}
use Rattle.batch_queue.specs.Settling.{IsAny, IsOf, IsSettling, WroteWell}

-- ---- the values of writes in flight

same_tag : (a b : ℕ) → Some a ≡ Some b → a ≡ b
same_tag a b e = cc

module _ (opened : Image) (pv sector : ℕ) where
  -- the write of a value is older than a new tag
  may_older : (steps : List Step) (tag write : ℕ) (value : List ℕ) → IsNewTag tag steps → MayLeave opened steps pv sector (Some write) value
      → write < tag
  may_older [] tag write value new may = absurd (let e : Some write ≡ None = may.0 in cc)
  may_older (Submitted t (Writing span sectors) ∷ steps) tag write value new may =
      ⊎_elim (λ old. may_older steps tag write value new.1 old)
      (λ own. let e : write ≡ t = same_tag write t own.1 in omega (arith, e, new.0)) may
  may_older (Submitted t (Reading span) ∷ steps) tag write value new may = may_older steps tag write value new.1 may
  may_older (Submitted t (Flushing disk) ∷ steps) tag write value new may = may_older steps tag write value new.1 may
  may_older (Completed t work well fresh ∷ steps) tag write value new may =
      may_older steps tag write value new (quiet opened (Completed t work well fresh) steps pv sector (Some write) value tt may)

  -- the work brings the value to the sector
  abbrev BringsValue : Work → List ℕ → Type 0
  BringsValue (Writing span sectors) value = IsTrue (covers span pv sector) × (value ≡ value_at span sectors sector)
  BringsValue (Reading span) value = ⊥
  BringsValue (Flushing disk) value = ⊥

  not_older : (steps : List Step) (g f : Operation) (value : List ℕ) → IsNewTag g.tag steps → g ≡ f
      → MayLeave opened steps pv sector (Some f.tag) value → ⊥
  not_older steps g f value new newest old =
      let e : g.tag ≡ f.tag = ap (λ (o : Operation). o.tag) newest in
      let lt = may_older steps g.tag f.tag value new old in
      omega (arith, lt, e)

  -- a value whose write is in flight is what that brings
  in_flight_value : (steps : List Step) (f : Operation) (value : List ℕ) → IsRecord steps → IsIn (in_flight_after steps) f
      → MayLeave opened steps pv sector (Some f.tag) value → BringsValue f.work value
  in_flight_value [] f value is there may = absurd there
  in_flight_value (Submitted t (Writing span sectors) ∷ steps) f value is there may =
      ⊎_elim
      (λ older. ⊎_elim (λ old. in_flight_value steps f value is.1 older old)
      (λ own.
      let lt = in_flight_older t steps f is.0 older in
      let e : f.tag ≡ t = same_tag f.tag t own.1 in
      absurd (omega (arith, lt, e))) may)
      (λ newest. ⊎_elim (λ old. absurd (not_older steps (record { tag = t; work = Writing span sectors }) f value is.0 newest old))
      (λ own. subst (λ (o : Operation). BringsValue o.work value) newest (own.0, own.2)) may)
      (in_append (in_flight_after steps) (record { tag = t; work = Writing span sectors }) f there)
  in_flight_value (Submitted t (Reading span) ∷ steps) f value is there may =
      ⊎_elim (λ older. in_flight_value steps f value is.1 older may)
      (λ newest. absurd (not_older steps (record { tag = t; work = Reading span }) f value is.0 newest may))
      (in_append (in_flight_after steps) (record { tag = t; work = Reading span }) f there)
  in_flight_value (Submitted t (Flushing disk) ∷ steps) f value is there may =
      ⊎_elim (λ older. in_flight_value steps f value is.1 older may)
      (λ newest. absurd (not_older steps (record { tag = t; work = Flushing disk }) f value is.0 newest may))
      (in_append (in_flight_after steps) (record { tag = t; work = Flushing disk }) f there)
  in_flight_value (Completed t work well fresh ∷ steps) f value is there may =
      in_flight_value steps f value is.1 (in_filter (in_flight_after steps) t f there).0
      (quiet opened (Completed t work well fresh) steps pv sector (Some f.tag) value tt may)

  -- ---- a completed write is the last one, or overtaken

  submitted_done : (t : ℕ) (work : Work) (steps : List Step) (write : Option ℕ) → HasCompleted (Submitted t work ∷ steps) write
      → HasCompleted steps write
  submitted_done t work steps None h = tt
  submitted_done t work steps (Some w) h = h

  -- what has completed did so before, or is this operation's
  done_by : (t : ℕ) (work : Work) (well : Bool) (fresh : List Bool) (steps : List Step) (write : Option ℕ)
      → HasCompleted (Completed t work well fresh ∷ steps) write → HasCompleted steps write ⊎ (write ≡ Some t)
  done_by t work well fresh steps None h = inl tt
  done_by t work well fresh steps (Some w) h = ⊎_elim (λ e. inr (ap Some (sym e))) (λ older. inl older) h

  own_value : (t : ℕ) (work : Work) (steps : List Step) (write : Option ℕ) (value : List ℕ) → IsRecord steps
      → IsIn (in_flight_after steps) (record { tag = t; work = work }) → write ≡ Some t → MayLeave opened steps pv sector write value
      → BringsValue work value
  own_value t work steps write value is there own may =
      in_flight_value steps (record { tag = t; work = work }) value is there
      (subst (λ (w : Option ℕ). MayLeave opened steps pv sector w value) own may)

  abbrev Last : List Step → Option ℕ → List ℕ → Type 0
  Last steps write value = (value ≡ now_after opened steps pv sector) ⊎ IsOvertaken steps pv sector write

  abbrev now_if : List Step → Span → List (List ℕ) → Bool → List ℕ
  now_if steps span sectors b = if b then value_at span sectors sector else now_after opened steps pv sector

  now_written : (t : ℕ) (well : Bool) (fresh : List Bool) (steps : List Step) (span : Span) (sectors : List (List ℕ))
      → covers span pv sector ≡ true → well ≡ true
      → now_after opened (Completed t (Writing span sectors) well fresh ∷ steps) pv sector ≡ value_at span sectors sector
  now_written t well fresh steps span sectors c w =
      ap (λ (b : Bool). now_if steps span sectors (b && (well || slice_index_or fresh (sector - span.first) false))) c
      ∙ ap (λ (b : Bool). now_if steps span sectors (b || slice_index_or fresh (sector - span.first) false)) w

  now_kept : (t : ℕ) (well : Bool) (fresh : List Bool) (steps : List Step) (span : Span) (sectors : List (List ℕ))
      → covers span pv sector ≡ false
      → now_after opened (Completed t (Writing span sectors) well fresh ∷ steps) pv sector ≡ now_after opened steps pv sector
  now_kept t well fresh steps span sectors c =
      ap (λ (b : Bool). now_if steps span sectors (b && (well || slice_index_or fresh (sector - span.first) false))) c

  last_or_overtaken : (steps : List Step) (write : Option ℕ) (value : List ℕ) → IsRecord steps → WroteWell steps pv sector
      → MayLeave opened steps pv sector write value → HasCompleted steps write → Last steps write value
  last_or_overtaken [] write value is well may done = inl may.1
  last_or_overtaken (Submitted t (Writing span sectors) ∷ steps) write value is well may done =
      let before : HasCompleted steps write = submitted_done t (Writing span sectors) steps write done in
      ⊎_elim (λ old. last_or_overtaken steps write value is.1 well old before)
      (λ own. absurd (not_completed (Submitted t (Writing span sectors) ∷ steps) (record { tag = t; work = Writing span sectors }) is
      (in_newest (in_flight_after steps) (record { tag = t; work = Writing span sectors }))
      (subst (λ (w : Option ℕ). HasCompleted (Submitted t (Writing span sectors) ∷ steps) w) own.1 done))) may
  last_or_overtaken (Submitted t (Reading span) ∷ steps) write value is well may done =
      last_or_overtaken steps write value is.1 well may (submitted_done t (Reading span) steps write done)
  last_or_overtaken (Submitted t (Flushing disk) ∷ steps) write value is well may done =
      last_or_overtaken steps write value is.1 well may (submitted_done t (Flushing disk) steps write done)
  last_or_overtaken (Completed t (Reading span) ended fresh ∷ steps) write value is well may done =
      let old = quiet opened (Completed t (Reading span) ended fresh) steps pv sector write value tt may in
      ⊎_elim (λ before. last_or_overtaken steps write value is.1 well old before)
      (λ own. absurd (own_value t (Reading span) steps write value is.1 (found_in (in_flight_after steps) t (Reading span) is.0) own old))
      (done_by t (Reading span) ended fresh steps write done)
  last_or_overtaken (Completed t (Flushing disk) ended fresh ∷ steps) write value is well may done =
      let old = quiet opened (Completed t (Flushing disk) ended fresh) steps pv sector write value tt may in
      ⊎_elim (λ before. last_or_overtaken steps write value is.1 well old before)
      (λ own. absurd (own_value t (Flushing disk) steps write value is.1 (found_in (in_flight_after steps) t (Flushing disk) is.0) own old))
      (done_by t (Flushing disk) ended fresh steps write done)
  last_or_overtaken (Completed t (Writing span sectors) true fresh ∷ steps) write value is well may done =
      let old = quiet opened (Completed t (Writing span sectors) true fresh) steps pv sector write value tt may in
      let there = found_in (in_flight_after steps) t (Writing span sectors) is.0 in
      ⊎_elim
      (λ inside. ⊎_elim
      (λ before. inr (inr (inside, before)))
      (λ own. inl ((own_value t (Writing span sectors) steps write value is.1 there own old).1
      ∙ sym (now_written t true fresh steps span sectors inside refl)))
      (done_by t (Writing span sectors) true fresh steps write done))
      (λ outside. ⊎_elim
      (λ before. ⊎_elim (λ last. inl (last ∙ sym (now_kept t true fresh steps span sectors outside))) (λ over. inr (inl over))
      (last_or_overtaken steps write value is.1 well old before))
      (λ own. absurd (let e : true ≡ false = sym (own_value t (Writing span sectors) steps write value is.1 there own old).0
      ∙ outside in cc))
      (done_by t (Writing span sectors) true fresh steps write done))
      (cases_Bool (covers span pv sector))
  last_or_overtaken (Completed t (Writing span sectors) false fresh ∷ steps) write value is well may done =
      let old = quiet opened (Completed t (Writing span sectors) false fresh) steps pv sector write value tt may in
      let there = found_in (in_flight_after steps) t (Writing span sectors) is.0 in
      ⊎_elim
      (λ before. ⊎_elim (λ last. inl (last ∙ sym (now_kept t false fresh steps span sectors well.0))) (λ over. inr over)
      (last_or_overtaken steps write value is.1 well.1 old before))
      (λ own. absurd (let e : true ≡ false = sym (own_value t (Writing span sectors) steps write value is.1 there own old).0
      ∙ well.0 in cc))
      (done_by t (Writing span sectors) false fresh steps write done)

-- ---- the sector at the submission of a flush

flies : (fs : List Operation) (pv sector : ℕ) (write : Option ℕ) → IsInFlight fs pv sector write
    → (o : Operation) × IsIn fs o × IsTrue (writes o.work pv sector)
flies [] pv sector write h = absurd h
flies (f ∷ fs) pv sector write (inl here) = (f, inl refl, here.1)
flies (f ∷ fs) pv sector write (inr later) = let o = flies fs pv sector write later in (o.0, inr o.1, o.2)

-- where no write of it is in flight, and each ended well, a flush that is submitted now will leave what a read gives
pub settles : (told : Record) (pv sector : ℕ) → IsRecord told.steps → WroteWell told.steps pv sector → IsStill told pv sector
    → OnlyLeavesOrOvertaken told pv sector (λ v. v ≡ now_after told.opened told.steps pv sector)
settles told pv sector is well still = record {
  each = λ write value may.
      ⊎_elim (λ done. last_or_overtaken told.opened pv sector told.steps write value is well may done)
      (λ flying. let o = flies (in_flight_after told.steps) pv sector write flying in absurd (still o.0 o.1 o.2))
      (completed_or_in_flight told.opened told.steps pv sector write value may);
}

-- ---- a batch that flushes it

or_false_left : (a b : Bool) → (a || b) ≡ false → a ≡ false
or_false_left true b e = e
or_false_left false b e = refl

or_false_right : (a b : Bool) → (a || b) ≡ false → b ≡ false
or_false_right true b e = cc
or_false_right false b e = e

overtaken_submitted : (os : List Operation) (told : Record) (pv sector : ℕ) (Q : List ℕ → Type 0)
    → writes_at (works_of os) pv sector ≡ false → OnlyLeavesOrOvertaken told pv sector Q
    → OnlyLeavesOrOvertaken (submitted_on os told) pv sector Q
overtaken_submitted [] told pv sector Q none h = h
overtaken_submitted (o ∷ os) told pv sector Q none h =
    overtaken_submitted os (step_on (Submitted o.tag o.work) told) pv sector Q
    (or_false_right (writes o.work pv sector) (writes_at (works_of os) pv sector) none)
    (or_overtaken_on told pv sector Q (Submitted o.tag o.work)
    (or_false_left (writes o.work pv sector) (writes_at (works_of os) pv sector) none) h)

-- works that don't write the sector bring no value there but such ones
bring_none : (works : List Work) (pv sector : ℕ) (Q : List ℕ → Type 0) → writes_at works pv sector ≡ false → BringAt works pv sector Q
bring_none [] pv sector Q none = tt
bring_none (Writing span sectors ∷ works) pv sector Q none = (
  λ inside. absurd (let e : true ≡ false = sym inside ∙ or_false_left (covers span pv sector) (writes_at works pv sector) none in cc),
  bring_none works pv sector Q (or_false_right (covers span pv sector) (writes_at works pv sector) none),
)
bring_none (Reading span ∷ works) pv sector Q none = (tt, bring_none works pv sector Q none)
bring_none (Flushing disk ∷ works) pv sector Q none = (tt, bring_none works pv sector Q none)

-- a batch starts that writes none of these sectors
pub settling_starts : (free : ℕ → ℕ → Bool) (os : List Operation) (flush : List ℕ) (rest : List Put) (told : Record) → IsRecord told.steps
    → ((pv sector : ℕ) → IsTrue (free pv sector) → WroteWell told.steps pv sector)
    → AreStill free told → ((pv sector : ℕ) → IsTrue (free pv sector) → writes_at (works_of os) pv sector ≡ false)
    → ((pv sector : ℕ) → IsTrue (free pv sector) → covered_by rest pv sector ≡ false)
    → IsSettling free (now_after told.opened told.steps)
    (record { tags = tags_of os; flush = flush; flushing = false; lost = None; rest = rest }) (submitted_on os told)
settling_starts free os flush rest told is well still none later = record {
  leaves = λ pv sector it. record { each = λ write value may. tt };
  targets = λ pv sector it aim. record {
    stage = λ e. inl (overtaken_submitted os told pv sector (IsOf (now_after told.opened told.steps) pv sector) (none pv sector it)
        (settles told pv sector is (well pv sector it) (still pv sector it)));
    rest = bring_none (map write_work rest) pv sector (IsOf (now_after told.opened told.steps) pv sector) (later pv sector it);
    alone = theirs_submitted os [] told pv sector (still pv sector it);
  };
  others = λ pv sector it not. absurd (let e : true ≡ false = sym it ∙ not in cc);
  rest_allowed = λ pv sector it. bring_none (map write_work rest) pv sector (IsAny pv sector) (later pv sector it);
  rest_apart = λ pv sector it not. later pv sector it;
}

settling_follows : (free : ℕ → ℕ → Bool) (image : Image) (view : TurnView) (came : BatchStep) (step : TurnStep) (state : State)
    → Follows view came step → calling.Came free free IsAny (IsOf image) came state → SettlingCame free image step state
settling_follows free image view (batch.Going batching) (Going turning) state follows came =
    subst (λ (v : View). IfSome state.told (IsSettling free image v)) (sym (ap (λ (t : TurnView). t.batch) follows)) came
settling_follows free image view batch.Well (Through queue) state follows came =
    told_weaker (λ t. AreStill free t × AllLeave free IsAny t
    × ((pv sector : ℕ) → IsTrue (free pv sector) → IsTrue (free pv sector) → OnlyLeaves t pv sector (IsOf image pv sector)))
    (AllLeave free (IsOf image)) state.told (λ t c. λ pv sector it. c.2 pv sector it it) came
settling_follows free image view (batch.Lost pv) (Lost pv') state follows came = tt
settling_follows free image view came step state follows holds = absurd follows

-- it takes a completion of its own
pub settling_turns : (free : ℕ → ℕ → Bool) (image : Image) (before mid new : State) (view : TurnView) (done : Done) (step : TurnStep)
    → IsLawful mid → ((pv sector : ℕ) → IsTrue (free pv sector) → IsAmong view.batch.flush pv)
    → Completes before done mid → Turns mid view done step new → IfSome before.told (IsSettling free image view.batch)
    → SettlingCame free image step new
settling_turns free image before mid new view done step lawful among completes turns holds =
    settling_follows free image view turns.came step new turns.follows
    (goes_came free free IsAny (IsOf image) before mid new view.batch done turns.came lawful (λ pv sector own is. among pv sector own)
    completes turns.goes holds)

-- others go on
pub settling_beside : (free : ℕ → ℕ → Bool) (image : Image) (view : View) (old new : State) → GoesElsewhere free view.tags old new
    → (IfSome old.told (IsSettling free image view) → IfSome new.told (IsSettling free image view))
    × (IfSome old.told (AllLeave free (IsOf image)) → IfSome new.told (AllLeave free (IsOf image)))
settling_beside free image view old new beside = (
  λ holds. told_after (steps_on beside.newer) (IsSettling free image view) (IsSettling free image view) old.told new.told beside.told
      (λ t is h. batch_steps free free IsAny (IsOf image) view beside.newer t beside.elsewhere h) holds,
  λ leaves. told_after (steps_on beside.newer) (AllLeave free (IsOf image)) (AllLeave free (IsOf image)) old.told new.told beside.told
      (λ t is l. leave_steps free (IsOf image) view.tags beside.newer t beside.elsewhere l) leaves,
)
