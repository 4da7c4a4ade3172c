-- What a read gives after steps that began where nothing was in flight.
use Rattle.std.proofs.Common.{◌≡◌, ◌⊎◌, ℕ, ◌-◌, Bool, true, false, ◌&&◌, ◌||◌, IsTrue, cond, List, [], ◌∷◌, ◌++◌, map, inl, inr, ⊎_elim}
use Rattle.std.proofs.Common.{refl, sym, ap, subst, ◌∙◌}
use Rattle.std.specs.Prelude.{slice_index_or}
use Rattle.std.proofs.lemmas.Bool.Decides.{eqb_tells}
use Rattle.sector_base.specs.declared.spans.Span.{Span}
use Rattle.sector_base.specs.Spans.{covers}
use Rattle.disk_model.specs.Steps.{Image, Work, Reading, Writing, Flushing, Step, Submitted, Completed, now_after, value_at}
use Rattle.disk_model.specs.Record.{Operation, IsIn, in_flight_after, IsRecord}
use Rattle.disk_model.specs.Brought.{writes, brings}
use Rattle.disk_model.specs.Submitting.{BringsAt, writes_at}
use Rattle.disk_model.specs.Since.{writes_submitted}
use Rattle.disk_model.proofs.InFlight.{found_in, in_append, in_older, in_newest, in_filter, in_left, completes_its_own}
use Rattle.disk_batch.specs.Writes.{IsWrittenBy, write_work}
use Rattle.disk_batch.proofs.WrittenBy.{written_left, written_right}

-- each of these steps that brings a value to the sector brings one with Q
abbrev pub StepsBring : List Step → ℕ → ℕ → (List ℕ → Type 0) → Type 0
StepsBring [] pv sector Q = Unit {0}
StepsBring (Submitted tag work ∷ steps) pv sector Q = BringsAt work pv sector Q × StepsBring steps pv sector Q
StepsBring (Completed tag work well fresh ∷ steps) pv sector Q = StepsBring steps pv sector Q

-- one of these steps brings a value to the sector
abbrev pub OneBrings : List Step → ℕ → ℕ → Type 0
OneBrings [] pv sector = ⊥
OneBrings (step ∷ steps) pv sector = IsTrue (brings step pv sector) ⊎ OneBrings steps pv sector

-- each completion among these steps went well
abbrev pub AllWell : List Step → Type 0
AllWell [] = Unit {0}
AllWell (Completed tag work false fresh ∷ steps) = ⊥
AllWell (Completed tag work true fresh ∷ steps) = AllWell steps
AllWell (Submitted tag work ∷ steps) = AllWell steps

module _ (opened : Image) (older : List Step) (idle : in_flight_after older ≡ []) (pv sector : ℕ) (Q : List ℕ → Type 0) where
  -- what is in flight was submitted in these steps
  in_flight_brings : (since : List Step) → StepsBring since pv sector Q → (f : Operation) → IsIn (in_flight_after (since ++ older)) f
      → BringsAt f.work pv sector Q
  in_flight_brings [] b f a = absurd (subst (λ (l : List Operation). IsIn l f) idle a)
  in_flight_brings (Submitted tag work ∷ since) b f a =
      ⊎_elim (λ was. in_flight_brings since b.1 f was)
      (λ (e : record { tag = tag; work = work } ≡ f). subst (λ (w : Work). BringsAt w pv sector Q) (ap (λ (o : Operation). o.work) e)
      b.0)
      (in_append (in_flight_after (since ++ older)) _ f a)
  in_flight_brings (Completed tag work well fresh ∷ since) b f a =
      in_flight_brings since b f (in_filter (in_flight_after (since ++ older)) tag f a).0

  -- and so was what completes
  completed_brings : (since : List Step) (tag : ℕ) (work : Work) (well : Bool) (fresh : List Bool)
      → IsRecord (Completed tag work well fresh ∷ since ++ older) → StepsBring since pv sector Q → BringsAt work pv sector Q
  completed_brings since tag work well fresh is b =
      in_flight_brings since b (record { tag = tag; work = work }) (found_in (in_flight_after (since ++ older)) tag work is.0)

  now_here : (since : List Step) (span : Span) (sectors : List (List ℕ)) (c d : Bool) → covers span pv sector ≡ c
      → BringsAt (Writing span sectors) pv sector Q
      → (now_after opened (since ++ older) pv sector ≡ now_after opened older pv sector) ⊎ Q (now_after opened (since ++ older) pv sector)
      → (cond (c && d) (value_at span sectors sector) (now_after opened (since ++ older) pv sector) ≡ now_after opened older pv sector)
      ⊎ Q (cond (c && d) (value_at span sectors sector) (now_after opened (since ++ older) pv sector))
  now_here since span sectors true true e b h = inr (b e)
  now_here since span sectors true false e b h = h
  now_here since span sectors false d e b h = h

  -- a read gives what it gave, or a value with Q
  pub now_kept_or_brought : (since : List Step) → IsRecord (since ++ older) → StepsBring since pv sector Q
      → (now_after opened (since ++ older) pv sector ≡ now_after opened older pv sector) ⊎ Q (now_after opened (since ++ older) pv sector)
  now_kept_or_brought [] is b = inl refl
  now_kept_or_brought (Submitted tag work ∷ since) is b = now_kept_or_brought since is.1 b.1
  now_kept_or_brought (Completed tag (Writing span sectors) well fresh ∷ since) is b =
      now_here since span sectors (covers span pv sector) (well || slice_index_or fresh (sector - span.first) false) refl
      (completed_brings since tag (Writing span sectors) well fresh is b) (now_kept_or_brought since is.1 b)
  now_kept_or_brought (Completed tag (Reading span) well fresh ∷ since) is b = now_kept_or_brought since is.1 b
  now_kept_or_brought (Completed tag (Flushing disk) well fresh ∷ since) is b = now_kept_or_brought since is.1 b

  -- a write of the sector is in flight
  abbrev IsBeingWritten : List Step → Type 0
  IsBeingWritten steps = (f : Operation) × IsIn (in_flight_after steps) f × IsTrue (writes f.work pv sector)

  -- and is so after the completion of something else
  still_written : (since : List Step) (tag : ℕ) (work : Work) (fresh : List Bool) → writes work pv sector ≡ false
      → IsRecord (Completed tag work true fresh ∷ since ++ older) → IsBeingWritten (since ++ older)
      → IsBeingWritten (Completed tag work true fresh ∷ since ++ older)
  still_written since tag work fresh none is w =
      ⊎_elim
      (λ same. let e : w.0.work ≡ work = completes_its_own (since ++ older) tag work w.0 is.1 is.0 w.1 same.1 in
      absurd (let t : true ≡ false = sym w.2 ∙ ap (λ (x : Work). writes x pv sector) e ∙ none in cc))
      (λ other. (w.0, in_left (in_flight_after (since ++ older)) tag w.0 w.1 other.1, w.2))
      (eqb_tells w.0.tag tag)

  written_here : (since : List Step) (tag : ℕ) (span : Span) (sectors : List (List ℕ)) (fresh : List Bool) (c : Bool)
      → covers span pv sector ≡ c → IsRecord (Completed tag (Writing span sectors) true fresh ∷ since ++ older)
      → BringsAt (Writing span sectors) pv sector Q → Q (now_after opened (since ++ older) pv sector) ⊎ IsBeingWritten (since ++ older)
      → Q (cond (c && true) (value_at span sectors sector) (now_after opened (since ++ older) pv sector))
      ⊎ IsBeingWritten (Completed tag (Writing span sectors) true fresh ∷ since ++ older)
  written_here since tag span sectors fresh true e is b h = inl (b e)
  written_here since tag span sectors fresh false e is b h =
      ⊎_elim (λ q. inl q) (λ w. inr (still_written since tag (Writing span sectors) fresh e is w)) h

  written_on : (since : List Step) (tag : ℕ) (work : Work) (fresh : List Bool) → IsRecord (Completed tag work true fresh ∷ since ++ older)
      → BringsAt work pv sector Q → Q (now_after opened (since ++ older) pv sector) ⊎ IsBeingWritten (since ++ older)
      → Q (now_after opened (Completed tag work true fresh ∷ since ++ older) pv sector)
      ⊎ IsBeingWritten (Completed tag work true fresh ∷ since ++ older)
  written_on since tag (Writing span sectors) fresh is b h = written_here since tag span sectors fresh (covers span pv sector) refl is b h
  written_on since tag (Reading span) fresh is b h =
      ⊎_elim (λ q. inl q) (λ w. inr (still_written since tag (Reading span) fresh refl is w)) h
  written_on since tag (Flushing disk) fresh is b h =
      ⊎_elim (λ q. inl q) (λ w. inr (still_written since tag (Flushing disk) fresh refl is w)) h

  -- where nothing failed and the sector was written, a read gives a value with Q, or a write of it is in flight
  now_brought_or_written : (since : List Step) → IsRecord (since ++ older) → StepsBring since pv sector Q → AllWell since
      → OneBrings since pv sector
      → Q (now_after opened (since ++ older) pv sector) ⊎ IsBeingWritten (since ++ older)
  now_brought_or_written [] is b well one = absurd one
  now_brought_or_written (Submitted tag work ∷ since) is b well one =
      ⊎_elim
      (λ here. inr (record { tag = tag; work = work }, in_newest (in_flight_after (since ++ older)) _, here))
      (λ before. ⊎_elim (λ q. inl q) (λ w. inr (w.0, in_older (in_flight_after (since ++ older)) _ w.0 w.1, w.2))
      (now_brought_or_written since is.1 b.1 well before)) one
  now_brought_or_written (Completed tag work false fresh ∷ since) is b well one = absurd well
  now_brought_or_written (Completed tag work true fresh ∷ since) is b well one =
      ⊎_elim
      (λ (here : false ≡ true). cc)
      (λ before. written_on since tag work fresh is (completed_brings since tag work true fresh is b)
      (now_brought_or_written since is.1 b well before)) one

  -- once nothing is in flight, it gives a value with Q
  pub now_brought : (since : List Step) → IsRecord (since ++ older) → in_flight_after (since ++ older) ≡ [] → StepsBring since pv sector Q
      → AllWell since → OneBrings since pv sector → Q (now_after opened (since ++ older) pv sector)
  now_brought since is none b well one =
      ⊎_elim (λ q. q) (λ w. absurd (subst (λ (l : List Operation). IsIn l w.0) none w.1)) (now_brought_or_written since is b well one)

-- each write that was submitted in these steps brings its own values
bring_weaker : (work : Work) (pv sector : ℕ) (P Q : List ℕ → Type 0) → ((v : List ℕ) → P v → Q v) → BringsAt work pv sector P
    → BringsAt work pv sector Q
bring_weaker (Writing span sectors) pv sector P Q w b = λ inside. w _ (b inside)
bring_weaker (Reading span) pv sector P Q w b = tt
bring_weaker (Flushing disk) pv sector P Q w b = tt

steps_bring_weaker : (steps : List Step) (pv sector : ℕ) (P Q : List ℕ → Type 0) → ((v : List ℕ) → P v → Q v) → StepsBring steps pv sector P
    → StepsBring steps pv sector Q
steps_bring_weaker [] pv sector P Q w b = tt
steps_bring_weaker (Submitted tag work ∷ steps) pv sector P Q w b =
    (bring_weaker work pv sector P Q w b.0, steps_bring_weaker steps pv sector P Q w b.1)
steps_bring_weaker (Completed tag work well fresh ∷ steps) pv sector P Q w b = steps_bring_weaker steps pv sector P Q w b

pub steps_bring_written : (steps : List Step) (pv sector : ℕ) → StepsBring steps pv sector (IsWrittenBy (writes_submitted steps) pv sector)
steps_bring_written [] pv sector = tt
steps_bring_written (Submitted tag (Writing span sectors) ∷ steps) pv sector = (
  λ inside. written_right (writes_submitted steps) ((span, sectors) ∷ []) pv sector (value_at span sectors sector) (inl (inside, refl)),
  steps_bring_weaker steps pv sector (IsWrittenBy (writes_submitted steps) pv sector)
      (IsWrittenBy (writes_submitted steps ++ (span, sectors) ∷ []) pv sector)
      (λ v h. written_left (writes_submitted steps) ((span, sectors) ∷ []) pv sector v h)
      (steps_bring_written steps pv sector),
)
steps_bring_written (Submitted tag (Reading span) ∷ steps) pv sector = (tt, steps_bring_written steps pv sector)
steps_bring_written (Submitted tag (Flushing disk) ∷ steps) pv sector = (tt, steps_bring_written steps pv sector)
steps_bring_written (Completed tag work well fresh ∷ steps) pv sector = steps_bring_written steps pv sector

-- a sector that one of them writes is brought a value
only_last : (b : Bool) → IsTrue (b || false) → IsTrue b
only_last true h = h
only_last false h = h

either : (a b : Bool) → IsTrue (a || b) → IsTrue a ⊎ IsTrue b
either true b h = inl refl
either false b h = inr h

first_of : (a b : Bool) → IsTrue a → IsTrue (a || b)
first_of true b h = refl
first_of false b h = cc

second_of : (a b : Bool) → IsTrue b → IsTrue (a || b)
second_of true b h = refl
second_of false b h = h

earlier_or_last : (puts : List (Span × List (List ℕ))) (put : Span × List (List ℕ)) (pv sector : ℕ)
    → IsTrue (writes_at (map write_work (puts ++ put ∷ [])) pv sector)
    → IsTrue (writes_at (map write_work puts) pv sector) ⊎ IsTrue (covers put.0 pv sector)
earlier_or_last [] put pv sector h = inr (only_last (covers put.0 pv sector) h)
earlier_or_last (p ∷ puts) put pv sector h =
    ⊎_elim
    (λ here. inl (first_of (covers p.0 pv sector) (writes_at (map write_work puts) pv sector) here))
    (λ later. ⊎_elim (λ a. inl (second_of (covers p.0 pv sector) (writes_at (map write_work puts) pv sector) a)) (λ b. inr b)
    (earlier_or_last puts put pv sector later))
    (either (covers p.0 pv sector) (writes_at (map write_work (puts ++ put ∷ [])) pv sector) h)

pub one_brings : (steps : List Step) (pv sector : ℕ) → IsTrue (writes_at (map write_work (writes_submitted steps)) pv sector)
    → OneBrings steps pv sector
one_brings [] pv sector h = cc
one_brings (Submitted tag (Writing span sectors) ∷ steps) pv sector h =
    ⊎_elim (λ a. inr (one_brings steps pv sector a)) (λ b. inl b) (earlier_or_last (writes_submitted steps) (span, sectors) pv sector h)
one_brings (Submitted tag (Reading span) ∷ steps) pv sector h = inr (one_brings steps pv sector h)
one_brings (Submitted tag (Flushing disk) ∷ steps) pv sector h = inr (one_brings steps pv sector h)
one_brings (Completed tag work well fresh ∷ steps) pv sector h = inr (one_brings steps pv sector h)
