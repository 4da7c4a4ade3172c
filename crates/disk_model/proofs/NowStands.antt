-- What a read gives is a value that a crash may leave, so there is always an image.
use Rattle.std.proofs.Common.{◌≡◌, ◌<◌, ℕ, ◌-◌, Bool, true, false, not, ◌&&◌, ◌||◌, cond, slice_index_or, IsTrue, List, [], ◌∷◌, Option}
use Rattle.std.proofs.Common.{Some, None, inl, inr, ⊎_elim, refl, sym, ap, subst, ◌∙◌, arith}
use Rattle.sector_base.specs.declared.spans.Span.{Span}
use Rattle.sector_base.specs.Spans.{covers}
use Rattle.disk_model.specs.Steps.{Image, Work, Reading, Writing, Flushing, Step, Submitted, Completed, Record, value_at, now_after}
use Rattle.disk_model.specs.CrashValues.{MayLeave, HasCompleted, IsOvertaken, IsDropped, IsImage}
use Rattle.disk_model.specs.Record.{IsIn, Operation, in_flight_after, IsRecord, IsNewTag}
use Rattle.disk_model.specs.Durability.{OnlyLeaves, IsBase}
use Rattle.disk_model.proofs.InFlight.{found_in, in_append, in_filter, in_flight_older}
use Rattle.disk_model.proofs.OneStepMore.{completed_on, overtaken_on}

-- what has completed is older than a new tag
completed_old : (tag : ℕ) (steps : List Step) (write : ℕ) → IsRecord steps → IsNewTag tag steps → HasCompleted steps (Some write)
    → write < tag
completed_old tag [] write is new h = absurd h
completed_old tag (Submitted t work ∷ steps) write is new h = completed_old tag steps write is.1 new.1 h
completed_old tag (Completed t work well fresh ∷ steps) write is new h =
    ⊎_elim (λ (e : t ≡ write). let lt : t < tag = in_flight_older tag steps (record { tag = t; work = work }) new
    (found_in (in_flight_after steps) t work is.0) in omega arith)
    (λ b. completed_old tag steps write is.1 new b) h

-- what is in flight hasn't completed
pub not_completed : (steps : List Step) (f : Operation) → IsRecord steps → IsIn (in_flight_after steps) f → HasCompleted steps (Some f.tag)
    → ⊥
not_completed [] f is h c = h
not_completed (Submitted tag work ∷ steps) f is h c =
    ⊎_elim (λ a. not_completed steps f is.1 a c)
    (λ (e : record { tag = tag; work = work } ≡ f). let e' : tag ≡ f.tag = ap (λ (x : Operation). x.tag) e in let lt : f.tag
    < tag = completed_old tag steps f.tag is.1 is.0 c in absurd (omega arith)) (in_append (in_flight_after steps) _ f h)
not_completed (Completed tag work well fresh ∷ steps) f is h c =
    let r = in_filter (in_flight_after steps) tag f h in
    ⊎_elim (λ (e : tag ≡ f.tag). r.1 (sym e)) (λ b. not_completed steps f is.1 r.0 b) c

-- what is overtaken has completed
overtaken_completed : (steps : List Step) (pv sector : ℕ) (write : Option ℕ) → IsOvertaken steps pv sector write → HasCompleted steps write
overtaken_completed [] pv sector write h = absurd h
overtaken_completed (Submitted tag work ∷ steps) pv sector write h =
    completed_on (Submitted tag work) steps write (overtaken_completed steps pv sector write h)
overtaken_completed (Completed tag (Reading span) well fresh ∷ steps) pv sector write h =
    completed_on (Completed tag (Reading span) well fresh) steps write (overtaken_completed steps pv sector write h)
overtaken_completed (Completed tag (Flushing disk) well fresh ∷ steps) pv sector write h =
    completed_on (Completed tag (Flushing disk) well fresh) steps write (overtaken_completed steps pv sector write h)
overtaken_completed (Completed tag (Writing span sectors) false fresh ∷ steps) pv sector write h =
    completed_on (Completed tag (Writing span sectors) false fresh) steps write (overtaken_completed steps pv sector write h)
overtaken_completed (Completed tag (Writing span sectors) true fresh ∷ steps) pv sector write h =
    completed_on (Completed tag (Writing span sectors) true fresh) steps write
    (⊎_elim (λ a. overtaken_completed steps pv sector write a) (λ b. b.1) h)

-- what a flush will drop has been overtaken
pub dropped_overtaken : (steps : List Step) (flush pv sector : ℕ) (write : Option ℕ) → IsDropped steps flush pv sector write
    → IsOvertaken steps pv sector write
dropped_overtaken [] flush pv sector write h = absurd h
dropped_overtaken (Submitted tag work ∷ steps) flush pv sector write h =
    ⊎_elim (λ a. dropped_overtaken steps flush pv sector write a) (λ b. b.1) h
dropped_overtaken (Completed tag work well fresh ∷ steps) flush pv sector write h =
    overtaken_on (Completed tag work well fresh) steps pv sector write (dropped_overtaken steps flush pv sector write h)

-- a completion keeps a value whose write isn't overtaken
may_stay : (opened : Image) (steps : List Step) (tag : ℕ) (work : Work) (well : Bool) (fresh : List Bool) (pv sector : ℕ) (write : Option ℕ)
    (value : List ℕ)
    → MayLeave opened steps pv sector write value → (IsOvertaken steps pv sector write → ⊥)
    → MayLeave opened (Completed tag work well fresh ∷ steps) pv sector write value
may_stay opened steps tag (Reading span) well fresh pv sector write value may stays = may
may_stay opened steps tag (Writing span sectors) well fresh pv sector write value may stays = may
may_stay opened steps tag (Flushing disk) true fresh pv sector write value may stays =
    (may, λ e drop. stays (dropped_overtaken steps tag pv sector write drop))
may_stay opened steps tag (Flushing disk) false fresh pv sector write value may stays = may

-- a submission keeps every value
submitted_may : (opened : Image) (tag : ℕ) (work : Work) (steps : List Step) (pv sector : ℕ) (write : Option ℕ) (value : List ℕ)
    → MayLeave opened steps pv sector write value → MayLeave opened (Submitted tag work ∷ steps) pv sector write value
submitted_may opened tag (Writing span sectors) steps pv sector write value may = inl may
submitted_may opened tag (Reading span) steps pv sector write value may = may
submitted_may opened tag (Flushing disk) steps pv sector write value may = may

-- the work brings this value of the sector
abbrev BringsWork : Work → ℕ → ℕ → ℕ → ℕ → Span → List (List ℕ) → Type 0
BringsWork (Writing span' sectors') t pv sector tag span sectors =
    IsTrue (covers span' pv sector) × (Some tag ≡ Some t) × (value_at span sectors sector ≡ value_at span' sectors' sector)
BringsWork (Reading span') t pv sector tag span sectors = ⊥
BringsWork (Flushing disk) t pv sector tag span sectors = ⊥

-- the operation brings this value of the sector
abbrev Brings : Operation → ℕ → ℕ → ℕ → Span → List (List ℕ) → Type 0
Brings f pv sector tag span sectors = BringsWork f.work f.tag pv sector tag span sectors

-- a write in flight is among what a crash may leave
pub in_flight_may : (opened : Image) (steps : List Step) (tag : ℕ) (span : Span) (sectors : List (List ℕ)) (pv sector : ℕ) → IsRecord steps
    → IsTrue (covers span pv sector)
    → IsIn (in_flight_after steps) (record { tag = tag; work = Writing span sectors })
    → MayLeave opened steps pv sector (Some tag) (value_at span sectors sector)
in_flight_may opened [] tag span sectors pv sector is inside h = absurd h
in_flight_may opened (Submitted t (Writing span' sectors') ∷ steps) tag span sectors pv sector is inside h =
    ⊎_elim (λ a. inl (in_flight_may opened steps tag span sectors pv sector is.1 inside a))
    (λ (e : record { tag = t; work = Writing span' sectors' } ≡ record { tag = tag; work = Writing span sectors }).
    inr (subst (λ (f : Operation). Brings f pv sector tag span sectors) (sym e) (inside, refl, refl)))
    (in_append (in_flight_after steps) _ _ h)
in_flight_may opened (Submitted t (Reading span') ∷ steps) tag span sectors pv sector is inside h =
    ⊎_elim (λ a. in_flight_may opened steps tag span sectors pv sector is.1 inside a)
    (λ (e : record { tag = t; work = Reading span' } ≡ record { tag = tag; work = Writing span sectors }). absurd
    (let w : Reading span' ≡ Writing span sectors = ap (λ (x : Operation). x.work) e in cc)) (in_append (in_flight_after steps) _ _ h)
in_flight_may opened (Submitted t (Flushing disk) ∷ steps) tag span sectors pv sector is inside h =
    ⊎_elim (λ a. in_flight_may opened steps tag span sectors pv sector is.1 inside a)
    (λ (e : record { tag = t; work = Flushing disk } ≡ record { tag = tag; work = Writing span sectors }). absurd
    (let w : Flushing disk ≡ Writing span sectors = ap (λ (x : Operation). x.work) e in cc)) (in_append (in_flight_after steps) _ _ h)
in_flight_may opened (Completed t work well fresh ∷ steps) tag span sectors pv sector is inside h =
    let r = in_filter (in_flight_after steps) t _ h in
    may_stay opened steps t work well fresh pv sector (Some tag) (value_at span sectors sector)
    (in_flight_may opened steps tag span sectors pv sector is.1 inside r.0)
    (λ over. not_completed steps (record { tag = tag; work = Writing span sectors }) is.1 r.0
    (overtaken_completed steps pv sector (Some tag) over))

-- a value with a write that has completed and isn't overtaken
pub record Stands (opened : Image) (steps : List Step) (pv sector : ℕ) (value : List ℕ) : Type 0 where
  pub write : Option ℕ
  pub may : MayLeave opened steps pv sector write value
  pub completed : HasCompleted steps write
  pub last : IsOvertaken steps pv sector write → ⊥

-- what is there after a step that leaves it
stands_on : (opened : Image) (tag : ℕ) (work : Work) (well : Bool) (fresh : List Bool) (steps : List Step) (pv sector : ℕ) (value : List ℕ)
    → Stands opened steps pv sector value
    → ((write : Option ℕ) → IsOvertaken (Completed tag work well fresh ∷ steps) pv sector write → IsOvertaken steps pv sector write)
    → Stands opened (Completed tag work well fresh ∷ steps) pv sector value
stands_on opened tag work well fresh steps pv sector value h same = record {
  write = h.write;
  may = may_stay opened steps tag work well fresh pv sector h.write value h.may h.last;
  completed = completed_on (Completed tag work well fresh) steps h.write h.completed;
  last = λ over. h.last (same h.write over);
}

-- what a write that completes brings
new_stands : (opened : Image) (tag : ℕ) (span : Span) (sectors : List (List ℕ)) (well : Bool) (fresh : List Bool) (steps : List Step)
    (pv sector : ℕ) → IsRecord steps
    → IsIn (in_flight_after steps) (record { tag = tag; work = Writing span sectors }) → IsTrue (covers span pv sector)
    → Stands opened (Completed tag (Writing span sectors) well fresh ∷ steps) pv sector (value_at span sectors sector)
new_stands opened tag span sectors true fresh steps pv sector is h inside = record {
  write = Some tag;
  may = in_flight_may opened steps tag span sectors pv sector is inside h;
  completed = inl refl;
  last = λ over. not_completed steps _ is h (⊎_elim (λ a. overtaken_completed steps pv sector (Some tag) a) (λ b. b.1) over);
}
new_stands opened tag span sectors false fresh steps pv sector is h inside = record {
  write = Some tag;
  may = in_flight_may opened steps tag span sectors pv sector is inside h;
  completed = inl refl;
  last = λ over. not_completed steps _ is h (overtaken_completed steps pv sector (Some tag) over);
}

-- a write that leaves the sector
left_stands : (opened : Image) (tag : ℕ) (span : Span) (sectors : List (List ℕ)) (well : Bool) (fresh : List Bool) (steps : List Step)
    (pv sector : ℕ) (value : List ℕ) → Stands opened steps pv sector value
    → (IsTrue (covers span pv sector) → well ≡ true → ⊥)
    → Stands opened (Completed tag (Writing span sectors) well fresh ∷ steps) pv sector value
left_stands opened tag span sectors true fresh steps pv sector value h not =
    stands_on opened tag (Writing span sectors) true fresh steps pv sector value h
    (λ write over. ⊎_elim (λ a. a) (λ b. absurd (not b.0 refl)) over)
left_stands opened tag span sectors false fresh steps pv sector value h not =
    stands_on opened tag (Writing span sectors) false fresh steps pv sector value h (λ write over. over)

-- what is there after a write has completed, whatever it left
writes_now : (opened : Image) (tag : ℕ) (span : Span) (sectors : List (List ℕ)) (well : Bool) (fresh : List Bool) (steps : List Step)
    (pv sector : ℕ) (c fr : Bool) → covers span pv sector ≡ c → IsRecord steps
    → IsIn (in_flight_after steps) (record { tag = tag; work = Writing span sectors })
    → Stands opened steps pv sector (now_after opened steps pv sector)
    → Stands opened (Completed tag (Writing span sectors) well fresh ∷ steps) pv sector
    (cond (c && (well || fr)) (value_at span sectors sector) (now_after opened steps pv sector))
writes_now opened tag span sectors well fresh steps pv sector false fr e is h old =
    left_stands opened tag span sectors well fresh steps pv sector _ old (λ inside w. let f : true ≡ false = sym inside ∙ e in cc)
writes_now opened tag span sectors true fresh steps pv sector true fr e is h old =
    new_stands opened tag span sectors true fresh steps pv sector is h e
writes_now opened tag span sectors false fresh steps pv sector true true e is h old =
    new_stands opened tag span sectors false fresh steps pv sector is h e
writes_now opened tag span sectors false fresh steps pv sector true false e is h old =
    left_stands opened tag span sectors false fresh steps pv sector _ old (λ inside w. let f : true ≡ false = sym w in cc)

-- what a read gives stands
pub now_stands : (opened : Image) (steps : List Step) (pv sector : ℕ) → IsRecord steps
    → Stands opened steps pv sector (now_after opened steps pv sector)
now_stands opened [] pv sector is = record { write = None; may = (refl, refl); completed = tt; last = λ over. over }
now_stands opened (Submitted tag work ∷ steps) pv sector is =
    let old = now_stands opened steps pv sector is.1 in
    record {
      write = old.write;
      may = submitted_may opened tag work steps pv sector old.write _ old.may;
      completed = completed_on (Submitted tag work) steps old.write old.completed;
      last = old.last;
    }
now_stands opened (Completed tag (Reading span) well fresh ∷ steps) pv sector is =
    stands_on opened tag (Reading span) well fresh steps pv sector _ (now_stands opened steps pv sector is.1) (λ write over. over)
now_stands opened (Completed tag (Flushing disk) well fresh ∷ steps) pv sector is =
    stands_on opened tag (Flushing disk) well fresh steps pv sector _ (now_stands opened steps pv sector is.1) (λ write over. over)
now_stands opened (Completed tag (Writing span sectors) well fresh ∷ steps) pv sector is =
    writes_now opened tag span sectors well fresh steps pv sector (covers span pv sector) (slice_index_or fresh (sector - span.first) false)
    refl is.1
    (found_in (in_flight_after steps) tag _ is.0) (now_stands opened steps pv sector is.1)

-- so the contents of now are an image
pub now_image : (told : Record) → IsRecord told.steps → IsImage told (now_after told.opened told.steps)
now_image told is pv sector = let s = now_stands told.opened told.steps pv sector is in (s.write, s.may)

-- where each value that a crash may leave in the sector has Q, what a read gives has it
pub now_has : (told : Record) (pv sector : ℕ) (Q : List ℕ → Type 0) → IsRecord told.steps → OnlyLeaves told pv sector Q
    → Q (now_after told.opened told.steps pv sector)
now_has told pv sector Q is only = let s = now_image told is pv sector in only.each s.0 _ s.1

-- where each sector has one possible value, a read gives it
pub now_base : (told : Record) (base : Image) → IsRecord told.steps → IsBase told base → (pv sector : ℕ)
    → now_after told.opened told.steps pv sector ≡ base pv sector
now_base told base is one pv sector = now_has told pv sector (λ v. v ≡ base pv sector) is (one pv sector)

-- at opening each sector has one possible value
pub base_opened : (opened : Image) → IsBase (record { opened = opened; steps = [] }) opened
base_opened opened pv sector = record { each = λ write value may. may.1 }
