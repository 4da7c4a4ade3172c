-- What is held, as steps are added: a submission holds nothing more, and neither does a completion.
use Rattle.std.proofs.Common.{◌≡◌, ◌≢◌, ◌⊎◌, inl, inr, ℕ, nat_le, nat_lt, Bool, true, false, not, ◌==◌, zero, suc, ◌&&◌, ◌||◌}
use Rattle.std.proofs.Common.{if◌then◌else◌, cond, List, [], ◌∷◌, filter, Contains, ⊎_elim, refl, sym, ap, subst, ◌∙◌, arith}
use Rattle.std.specs.List.{list_any}
use Rattle.std.proofs.lemmas.Bool.Decides.{eqb_tells}
use Rattle.std.proofs.lemmas.List.Elements.{Contains-append_right}
use Rattle.disk_model.specs.Brought.{writes}
use Rattle.disk_model.specs.Steps.{Work, Step, Completed}
use Rattle.disk_model.specs.Record.{Operation}
use Rattle.disk_model.specs.State.{tags_of}
use Rattle.dev_shelf.specs.declared.plan.Hold.{Hold}
use Rattle.dev_shelf.specs.Plan.{PlanLeft, done_well, flushes, has_come, keeps_back, is_held}

-- of two tests one passes
or_cases : (b c : Bool) → (b || c) ≡ true → (b ≡ true) ⊎ (c ≡ true)
or_cases true c h = inl refl
or_cases false c h = inr h

or_left : (b c : Bool) → b ≡ true → (b || c) ≡ true
or_left true c h = refl
or_left false c h = absurd (let e : false ≡ true = h in cc)

or_right : (b c : Bool) → c ≡ true → (b || c) ≡ true
or_right true c h = refl
or_right false c h = h

-- what passes a test passes a weaker one
any_weaker : {X : Type 0} (p q : X → Bool) → ((x : X) → p x ≡ true → q x ≡ true) → (xs : List X) → list_any p xs ≡ true
    → list_any q xs ≡ true
any_weaker p q h [] e = e
any_weaker p q h (x ∷ xs) e =
    ⊎_elim (λ here. or_left (q x) (list_any q xs) (h x here)) (λ later. or_right (q x) (list_any q xs) (any_weaker p q h xs later))
    (or_cases (p x) (list_any p xs) e)

-- and so with one more in front
any_more : (b : Bool) (q : ℕ → Bool) (tag : ℕ) (tags : List ℕ) → list_any q tags ≡ true → list_any q (if b then tag ∷ tags else tags) ≡ true
any_more true q tag tags h = or_right (q tag) (list_any q tags) h
any_more false q tag tags h = h

-- what an operation waits for comes once
module _ (tag : ℕ) (work : Work) (well : Bool) (fresh : List Bool) (steps : List Step) where
  come_more : (hold : Hold) → has_come steps hold ≡ true → has_come (Completed tag work well fresh ∷ steps) hold ≡ true
  come_more hold h =
      let wrote : Work → Bool = λ w. writes w hold.until_pv hold.until in
      let before : ℕ → Bool = λ write. list_any (λ flush. nat_lt write flush) (done_well (flushes hold.until_pv) steps) in
      let after : ℕ → Bool =
      λ write. list_any (λ flush. nat_lt write flush) (done_well (flushes hold.until_pv) (Completed tag work well fresh ∷ steps)) in
      any_more (well && wrote work) after tag (done_well wrote steps)
      (any_weaker before after
      (λ write e. any_more (well && flushes hold.until_pv work) (λ flush. nat_lt write flush) tag (done_well (flushes hold.until_pv) steps)
      e)
      (done_well wrote steps) h)

  kept_fewer : (a b c : Bool) → (b ≡ true → c ≡ true) → (a && not c) ≡ true → (a && not b) ≡ true
  kept_fewer false b c h e = e
  kept_fewer true true c h e = absurd (let is : c ≡ true = h refl in let isnt : not c ≡ true = e in cc)
  kept_fewer true false c h e = refl

  and_weaker : (a b c : Bool) → (b ≡ true → c ≡ true) → (a && b) ≡ true → (a && c) ≡ true
  and_weaker false b c h e = e
  and_weaker true b c h e = h e

  held_before : (plan : PlanLeft) (o : Operation) → is_held plan (Completed tag work well fresh ∷ steps) o ≡ true
      → is_held plan steps o ≡ true
  held_before plan o =
      let later : List Step = Completed tag work well fresh ∷ steps in
      and_weaker (nat_le plan.let_go o.tag) (list_any (keeps_back later o) plan.holds) (list_any (keeps_back steps o) plan.holds)
      (any_weaker (keeps_back later o) (keeps_back steps o)
      (λ hold. kept_fewer (writes o.work hold.pv hold.sector) (has_come steps hold) (has_come later hold) (come_more hold))
      plan.holds)

  not_fewer : (b c : Bool) → (c ≡ true → b ≡ true) → not b ≡ true → not c ≡ true
  not_fewer b false h e = refl
  not_fewer b true h e = absurd (let is : b ≡ true = h refl in cc)

  -- so what is ready stays so
  pub ready_after : (plan : PlanLeft) (o : Operation) → not (is_held plan steps o) ≡ true
      → not (is_held plan (Completed tag work well fresh ∷ steps) o) ≡ true
  ready_after plan o = not_fewer (is_held plan steps o) (is_held plan (Completed tag work well fresh ∷ steps) o) (held_before plan o)

-- one more is ready, or isn't
contains_more : (b : Bool) (o : Operation) (os : List Operation) (t : ℕ) → Contains (tags_of os) t
    → Contains (tags_of (cond b (o ∷ os) os)) t
contains_more true o os t h = Contains-append_right (o.tag ∷ []) (tags_of os) t h
contains_more false o os t h = h

filtered_more : (q : Operation → Bool) (c : Bool) (o : Operation) (os : List Operation) (t : ℕ) → Contains (tags_of (filter q os)) t
    → Contains (tags_of (filter q (cond c (o ∷ os) os))) t
filtered_more q true o os t h = contains_more (q o) o (filter q os) t h
filtered_more q false o os t h = h

-- the first of a list, or a later one
contains_cons : (y : ℕ) (ys : List ℕ) (t : ℕ) → Contains (y ∷ ys) t → (y ≡ t) ⊎ Contains ys t
contains_cons y ys t (zero, lt, e) = inl e
contains_cons y ys t (suc k, lt, e) = inr (k, omega arith, e)

here_passes : (q : Operation → Bool) (o : Operation) (os : List Operation) → q o ≡ true → Contains (tags_of (filter q (o ∷ os))) o.tag
here_passes q o os h = rw h (0, omega arith, refl)

-- a test passes or fails
is_either : (b : Bool) → (b ≡ false) ⊎ (b ≡ true)
is_either false = inl refl
is_either true = inr refl

differs_from : (a b : ℕ) → a ≢ b → not (a == b) ≡ true
differs_from a b other = ⊎_elim (λ same. absurd (other same.1)) (λ apart. ap (λ (r : Bool). not r) apart.0) (eqb_tells a b)

-- the others that pass still do, by a weaker test
pub others_pass : (p q : Operation → Bool) → ((o : Operation) → p o ≡ true → q o ≡ true) → (tag : ℕ) (os : List Operation) (t : ℕ)
    → Contains (tags_of (filter p os)) t → t ≢ tag → Contains (tags_of (filter q (filter (λ o. not (o.tag == tag)) os))) t
others_pass p q h tag [] t was other = was
others_pass p q h tag (o ∷ os) t was other =
    let c : Bool = not (o.tag == tag) in
    let rest : List Operation = filter (λ (x : Operation). not (x.tag == tag)) os in
    let later : Contains (tags_of (filter p os)) t → Contains (tags_of (filter q (cond c (o ∷ rest) rest))) t =
    λ (in_rest : Contains (tags_of (filter p os)) t). filtered_more q c o rest t (others_pass p q h tag os t in_rest other) in
    ⊎_elim
    (λ (fails : p o ≡ false). later (subst (λ (b : Bool). Contains (tags_of (cond b (o ∷ filter p os) (filter p os))) t) fails was))
    (λ (passes : p o ≡ true).
    ⊎_elim
    (λ (here : o.tag ≡ t).
    let kept : c ≡ true = differs_from o.tag tag (λ same. other (sym here ∙ same)) in
    subst (λ (x : ℕ). Contains (tags_of (filter q (cond c (o ∷ rest) rest))) x) here
    (rw kept (here_passes q o rest (h o passes))))
    later
    (contains_cons o.tag (tags_of (filter p os)) t
    (subst (λ (b : Bool). Contains (tags_of (cond b (o ∷ filter p os) (filter p os))) t) passes was)))
    (is_either (p o))
