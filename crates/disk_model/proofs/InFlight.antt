-- Operations in flight, and lists of tags.
use Rattle.std.proofs.Common.{◌≡◌, ◌≢◌, ◌<◌, ◌⊎◌, ℕ, Bool, true, false, not, ◌==◌, List, [], ◌∷◌, ◌++◌, filter, Some, inl, inr, ⊎_elim}
use Rattle.std.proofs.Common.{refl, sym, ap, subst, ◌∙◌, arith, append_assoc, ◌≤◌, All, Contains, zero, suc}
use Rattle.std.proofs.lemmas.Bool.Decides.{eqb_tells}
use Rattle.std.proofs.lemmas.List.Elements.{All-head, All-tail}
use Rattle.disk_model.specs.Steps.{Work, Step, Submitted, Completed, Record, step_on}
use Rattle.disk_model.specs.Record.{IsIn, Operation, in_flight_after, work_of_tag, IsRecord, IsNewTag}
use Rattle.disk_model.specs.Brought.{writes, brings}
use Rattle.disk_model.specs.State.{State, tags_of}
use Rattle.disk_model.specs.Submitting.{SubmitsAll, submitted_on}
use Rattle.disk_model.specs.InFlight.{IsAmong, IsForeign, OnlyTheirs}

-- of the tags a completion takes its own away alone
pub is_among-filter : (tags : List ℕ) (tag t : ℕ) → IsAmong tags t → (t ≢ tag) → IsAmong (filter (λ (u : ℕ). not (u == tag)) tags) t
is_among-filter [] tag t h other = absurd h
is_among-filter (u ∷ us) tag t h other =
    ⊎_elim
    (λ same. rw same.0 (⊎_elim (λ (e : u ≡ t). absurd (other (sym e ∙ same.1))) (λ later. is_among-filter us tag t later other) h))
    (λ no. rw no.0 (⊎_elim (λ (e : u ≡ t). inl e) (λ later. inr (is_among-filter us tag t later other)) h))
    (eqb_tells u tag)

-- among one list or another
pub is_among-left : (tags more : List ℕ) (t : ℕ) → IsAmong tags t → IsAmong (tags ++ more) t
is_among-left [] more t h = absurd h
is_among-left (u ∷ us) more t h = ⊎_elim (λ a. inl a) (λ b. inr (is_among-left us more t b)) h

pub is_among-right : (tags more : List ℕ) (t : ℕ) → IsAmong more t → IsAmong (tags ++ more) t
is_among-right [] more t h = h
is_among-right (u ∷ us) more t h = inr (is_among-right us more t h)

-- what a tag finds is there
pub found_in : (fs : List Operation) (tag : ℕ) (work : Work) → work_of_tag fs tag ≡ Some work → IsIn fs (record { tag = tag; work = work })
found_in [] tag work h = cc
found_in (g ∷ gs) tag work h =
    ⊎_elim
    (λ same. let h' : Some g.work ≡ Some work = rw same.0 at h in let w : g.work ≡ work = cc in
    inl (ap (λ (t : ℕ). record { tag = t; work = g.work }) same.1 ∙ ap (λ (x : Work). record { tag = tag; work = x }) w))
    (λ other. let h' : work_of_tag gs tag ≡ Some work = rw other.0 at h in inr (found_in gs tag work h'))
    (eqb_tells g.tag tag)

-- what is among these and one more
pub in_append : (fs : List Operation) (g f : Operation) → IsIn (fs ++ g ∷ []) f → IsIn fs f ⊎ (g ≡ f)
in_append [] g f h = ⊎_elim (λ a. inr a) (λ b. absurd b) h
in_append (x ∷ fs) g f h = ⊎_elim (λ a. inl (inl a)) (λ b. ⊎_elim (λ c. inl (inr c)) (λ d. inr d) (in_append fs g f b)) h

-- what was there is there after one more
pub in_older : (fs : List Operation) (g f : Operation) → IsIn fs f → IsIn (fs ++ g ∷ []) f
in_older [] g f h = absurd h
in_older (x ∷ fs) g f h = ⊎_elim (λ a. inl a) (λ b. inr (in_older fs g f b)) h

-- and so is the newest
pub in_newest : (fs : List Operation) (g : Operation) → IsIn (fs ++ g ∷ []) g
in_newest [] g = inl refl
in_newest (x ∷ fs) g = inr (in_newest fs g)

-- what is left without a tag
pub in_filter : (fs : List Operation) (tag : ℕ) (f : Operation) → IsIn (filter (λ (x : Operation). not (x.tag == tag)) fs) f
    → IsIn fs f × (f.tag ≢ tag)
in_filter [] tag f h = absurd h
in_filter (g ∷ gs) tag f h =
    ⊎_elim
    (λ same. let h' : IsIn (filter (λ (x : Operation). not (x.tag == tag)) gs) f = rw same.0 at h in let r = in_filter gs tag f
    h' in (inr r.0, r.1))
    (λ other. let h' : IsIn (g ∷ filter (λ (x : Operation). not (x.tag == tag)) gs) f = rw other.0 at h in
    ⊎_elim (λ (e : g ≡ f). (inl e, λ (t : f.tag ≡ tag). other.1 (ap (λ (x : Operation). x.tag) e ∙ t)))
    (λ later. let r = in_filter gs tag f later in (inr r.0, r.1)) h')
    (eqb_tells g.tag tag)

-- what has another tag is left
pub in_left : (fs : List Operation) (tag : ℕ) (f : Operation) → IsIn fs f → (f.tag ≢ tag)
    → IsIn (filter (λ (x : Operation). not (x.tag == tag)) fs) f
in_left [] tag f h other = absurd h
in_left (g ∷ gs) tag f h other =
    ⊎_elim
    (λ same. rw same.0 (⊎_elim (λ (e : g ≡ f). absurd (other (sym (ap (λ (x : Operation). x.tag) e) ∙ same.1)))
    (λ later. in_left gs tag f later other) h))
    (λ no. rw no.0 (⊎_elim (λ (e : g ≡ f). inl e) (λ later. inr (in_left gs tag f later other)) h))
    (eqb_tells g.tag tag)

-- what is in flight is older than a new tag
pub in_flight_older : (tag : ℕ) (steps : List Step) (f : Operation) → IsNewTag tag steps → IsIn (in_flight_after steps) f → f.tag < tag
in_flight_older tag [] f new h = absurd h
in_flight_older tag (Submitted t work ∷ steps) f new h =
    ⊎_elim (λ a. in_flight_older tag steps f new.1 a)
    (λ (e : record { tag = t; work = work } ≡ f). let e' : t ≡ f.tag = ap (λ (x : Operation). x.tag) e in omega (arith, new.0))
    (in_append (in_flight_after steps) _ f h)
in_flight_older tag (Completed t work well fresh ∷ steps) f new h =
    in_flight_older tag steps f new (in_filter (in_flight_after steps) t f h).0

-- two operations in flight with one tag are one
pub unique_in_flight : (steps : List Step) (f g : Operation) → IsRecord steps → IsIn (in_flight_after steps) f
    → IsIn (in_flight_after steps) g → f.tag ≡ g.tag → f ≡ g
unique_in_flight [] f g is a b e = absurd a
unique_in_flight (Submitted t work ∷ steps) f g is a b e =
    let new : Operation = record { tag = t; work = work } in
    ⊎_elim
    (λ fa. ⊎_elim (λ ga. unique_in_flight steps f g is.1 fa ga e)
    (λ (gn : new ≡ g). absurd (let lt = in_flight_older t steps f is.0 fa in let x : t
    ≡ g.tag = ap (λ (o : Operation). o.tag) gn in omega arith)) (in_append (in_flight_after steps) new g b))
    (λ (fn : new ≡ f). ⊎_elim (λ ga. absurd (let lt = in_flight_older t steps g is.0 ga in let x : t
    ≡ f.tag = ap (λ (o : Operation). o.tag) fn in omega arith)) (λ (gn : new ≡ g). sym fn ∙ gn)
    (in_append (in_flight_after steps) new g b))
    (in_append (in_flight_after steps) new f a)
unique_in_flight (Completed t work well fresh ∷ steps) f g is a b e =
    unique_in_flight steps f g is.1 (in_filter (in_flight_after steps) t f a).0 (in_filter (in_flight_after steps) t g b).0 e

-- what completes is the operation in flight with its tag
pub completes_its_own : (steps : List Step) (tag : ℕ) (work : Work) (f : Operation) → IsRecord steps
    → work_of_tag (in_flight_after steps) tag ≡ Some work → IsIn (in_flight_after steps) f → f.tag ≡ tag → f.work ≡ work
completes_its_own steps tag work f is found a e =
    ap (λ (o : Operation). o.work) (unique_in_flight steps f (record { tag = tag; work = work }) is a
    (found_in (in_flight_after steps) tag work found) e)

-- it is in flight after a step that doesn't complete it
pub in_flight_on : (tags : List ℕ) (step : Step) (told : Record) (f : Operation) → IsForeign tags step → IsAmong tags f.tag
    → IsIn (in_flight_after told.steps) f → IsIn (in_flight_after (step_on step told).steps) f
in_flight_on tags (Submitted tag work) told f foreign awaited a = in_older (in_flight_after told.steps) _ f a
in_flight_on tags (Completed tag work well fresh) told f foreign awaited a =
    in_left (in_flight_after told.steps) tag f a (λ e. foreign (subst (IsAmong tags) e awaited))

-- after a completion with another tag
pub in_flight_left : (tag : ℕ) (work : Work) (well : Bool) (fresh : List Bool) (told : Record) (f : Operation) → (f.tag ≢ tag)
    → IsIn (in_flight_after told.steps) f → IsIn (in_flight_after (step_on (Completed tag work well fresh) told).steps) f
in_flight_left tag work well fresh told f other a = in_left (in_flight_after told.steps) tag f a other

-- after submissions
pub in_flight_submitted : (os : List Operation) (told : Record) (f : Operation) → IsIn (in_flight_after told.steps) f
    → IsIn (in_flight_after (submitted_on os told).steps) f
in_flight_submitted [] told f a = a
in_flight_submitted (o ∷ os) told f a =
    in_flight_submitted os (step_on (Submitted o.tag o.work) told) f (in_older (in_flight_after told.steps) _ f a)

-- what was just submitted is in flight
pub in_flight_new : (tag : ℕ) (work : Work) (told : Record)
    → IsIn (in_flight_after (step_on (Submitted tag work) told).steps) (record { tag = tag; work = work })
in_flight_new tag work told = in_newest (in_flight_after told.steps) _

-- nobody else writes the sector after a step that doesn't
pub theirs_on : (tags : List ℕ) (told : Record) (pv sector : ℕ) (step : Step) → brings step pv sector ≡ false
    → OnlyTheirs tags told pv sector → OnlyTheirs tags (step_on step told) pv sector
theirs_on tags told pv sector (Submitted tag work) q h o a w =
    ⊎_elim (λ was. h o was w) (λ (e : record { tag = tag; work = work } ≡ o). absurd
    (let v : work ≡ o.work = ap (λ (x : Operation). x.work) e in
    let c : true ≡ false = sym w ∙ sym (ap (λ (x : Work). writes x pv sector) v) ∙ q in cc)) (in_append (in_flight_after told.steps) _ o a)
theirs_on tags told pv sector (Completed tag work well fresh) q h o a w = h o (in_filter (in_flight_after told.steps) tag o a).0 w

-- after a completion of their own
pub theirs_done : (tags : List ℕ) (told : Record) (pv sector tag : ℕ) (work : Work) (well : Bool) (fresh : List Bool)
    → OnlyTheirs tags told pv sector
    → OnlyTheirs (filter (λ (t : ℕ). not (t == tag)) tags) (step_on (Completed tag work well fresh) told) pv sector
theirs_done tags told pv sector tag work well fresh h o a w =
    is_among-filter tags tag o.tag (h o (in_filter (in_flight_after told.steps) tag o a).0 w)
    ((in_filter (in_flight_after told.steps) tag o a).1)

-- after submissions of their own
pub theirs_submitted : (os : List Operation) (tags : List ℕ) (told : Record) (pv sector : ℕ) → OnlyTheirs tags told pv sector
    → OnlyTheirs (tags ++ tags_of os) (submitted_on os told) pv sector
theirs_submitted [] tags told pv sector h = λ o a w. is_among-left tags [] o.tag (h o a w)
theirs_submitted (o ∷ os) tags told pv sector h =
    let step : OnlyTheirs (tags ++ o.tag ∷ []) (step_on (Submitted o.tag o.work) told) pv sector =
    λ p a w. ⊎_elim (λ was. is_among-left tags (o.tag ∷ []) p.tag (h p was w))
    (λ (e : record { tag = o.tag; work = o.work } ≡ p). is_among-right tags (o.tag ∷ []) p.tag (inl (ap (λ (x : Operation). x.tag) e)))
    (in_append (in_flight_after told.steps) _ p a) in
    subst (λ (l : List ℕ). OnlyTheirs l (submitted_on (o ∷ os) told) pv sector) (append_assoc tags (o.tag ∷ []) (tags_of os))
    (theirs_submitted os (tags ++ o.tag ∷ []) (step_on (Submitted o.tag o.work) told) pv sector step)

-- of operations that are submitted one after another each has a tag below the next one, and none that was given before
among_below : (n : ℕ) (os : List Operation) (t : ℕ) → All (λ (o : Operation). o.tag < n) os → IsAmong (tags_of os) t → t < n
among_below n [] t below a = absurd a
among_below n (o ∷ os) t below a =
    let P : Operation → Type 0 = λ p. p.tag < n in
    ⊎_elim (λ (e : o.tag ≡ t). subst (λ (k : ℕ). k < n) e (All-head P o os below))
    (λ later. among_below n os t (All-tail P o os below) later) a

among_fresh : (n : ℕ) (os : List Operation) (t : ℕ) → All (λ (o : Operation). n ≤ o.tag) os → IsAmong (tags_of os) t → n ≤ t
among_fresh n [] t fresh a = absurd a
among_fresh n (o ∷ os) t fresh a =
    let P : Operation → Type 0 = λ p. n ≤ p.tag in
    ⊎_elim (λ (e : o.tag ≡ t). subst (λ (k : ℕ). n ≤ k) e (All-head P o os fresh))
    (λ later. among_fresh n os t (All-tail P o os fresh) later) a

pub tags_below : (old new : State) (os : List Operation) → SubmitsAll old os new → (t : ℕ) → IsAmong (tags_of os) t → t < new.next_tag
tags_below old new os s t a = among_below new.next_tag os t s.below a

pub tags_fresh : (old new : State) (os : List Operation) (others : List ℕ) → SubmitsAll old os new
    → ((t : ℕ) → IsAmong others t → t < old.next_tag) → (t : ℕ) → IsAmong (tags_of os) t → IsAmong others t → ⊥
tags_fresh old new os others s older t a b =
    let ge : old.next_tag ≤ t = among_fresh old.next_tag os t s.fresh a in
    let lt : t < old.next_tag = older t b in absurd (omega arith)

-- the tags of what is left without one of them
pub tags_left : (fs : List Operation) (tag : ℕ)
    → tags_of (filter (λ (o : Operation). not (o.tag == tag)) fs) ≡ filter (λ (t : ℕ). not (t == tag)) (tags_of fs)
tags_left [] tag = refl
tags_left (f ∷ fs) tag =
    ⊎_elim (λ same. rw same.0 (tags_left fs tag)) (λ other. rw other.0 (ap (λ (l : List ℕ). f.tag ∷ l) (tags_left fs tag)))
    (eqb_tells f.tag tag)

-- what these contain has one of their tags
pub contains_among : (fs : List Operation) (f : Operation) → IsIn fs f → IsAmong (tags_of fs) f.tag
contains_among [] f h = absurd h
contains_among (g ∷ gs) f h = ⊎_elim (λ (e : g ≡ f). inl (ap (λ (o : Operation). o.tag) e)) (λ later. inr (contains_among gs f later)) h

pub contains_in : (fs : List Operation) (f : Operation) → Contains fs f → IsIn fs f
contains_in [] f (i, lt, e) = absurd (omega arith)
contains_in (g ∷ gs) f (zero, lt, e) = inl e
contains_in (g ∷ gs) f (suc i, lt, e) = inr (contains_in gs f (i, omega arith, e))
