-- Histories that go on.
use Rattle.std.proofs.Common.{◌≡◌, ℕ, zero, suc, Bool, true, false, List, [], ◌∷◌, ◌++◌, refl, ap, sym, ◌∙◌, subst, append_assoc, Option}
use Rattle.std.proofs.Common.{Some, None, unwrap_or, replicate}
use Rattle.std.specs.Option.{option_map_or}
use mathlib.Core.List.{IsPrefix}
use Rattle.table_lock.specs.declared.event.LockEvent.{LockEvent}
use Rattle.table_lock.specs.declared.event.LockEvent.TheVariants.{Given, Taken, Missed}
use Rattle.table_lock.specs.History.{turn_after, value_after, last_value, IsOpenedWith, story_at, Continues, IsLegalFrom, IsLegal, Adds}
use Rattle.table_lock.specs.History.{GivesBack}
use Rattle.table_lock.proofs.Prefixes.{prefix_self, prefix_trans}

module _ {T : Type 0} where
  pub turn-append : (turn : Bool) (xs ys : List (LockEvent T)) → turn_after turn (xs ++ ys) ≡ turn_after (turn_after turn xs) ys
  turn-append turn [] ys = refl
  turn-append turn (Given value ∷ xs) ys = turn-append false xs ys
  turn-append turn (Taken ∷ xs) ys = turn-append true xs ys
  turn-append turn (Missed ∷ xs) ys = turn-append turn xs ys

  pub value-append : (last : Option T) (xs ys : List (LockEvent T)) → value_after last (xs ++ ys) ≡ value_after (value_after last xs) ys
  value-append last [] ys = refl
  value-append last (Given value ∷ xs) ys = value-append (Some value) xs ys
  value-append last (Taken ∷ xs) ys = value-append last xs ys
  value-append last (Missed ∷ xs) ys = value-append last xs ys

  -- misses change no value
  pub value_kept : (last : Option T) (misses : ℕ) → value_after last (replicate misses Missed) ≡ last
  value_kept last zero = refl
  value_kept last (suc misses) = value_kept last misses

  -- a history that goes on is opened with the same value
  pub opened_longer : (value : T) (xs ys : List (LockEvent T)) → IsPrefix xs ys → IsOpenedWith value xs → IsOpenedWith value ys
  opened_longer value xs ys p o = (o.0 ++ p.0, sym p.1 ∙ ap (λ l. l ++ p.0) o.1)

module _ {T O E : Type 0} (origin : T → O) (story : T → List E) where
  pub legal-append : (turn : Bool) (last : Option T) (xs ys : List (LockEvent T)) → IsLegalFrom origin story turn last xs
      → IsLegalFrom origin story (turn_after turn xs) (value_after last xs) ys
      → IsLegalFrom origin story turn last (xs ++ ys)
  legal-append turn last [] ys h more = more
  legal-append turn last (Given value ∷ xs) ys h more = (h.0, h.1, legal-append false (Some value) xs ys h.2 more)
  legal-append turn last (Taken ∷ xs) ys h more = (h.0, legal-append true last xs ys h.1 more)
  legal-append turn last (Missed ∷ xs) ys h more = (
    h.0,
    legal-append true last xs ys h.1 (subst (λ (b : Bool). IsLegalFrom origin story (turn_after b xs) (value_after last xs) ys) h.0
        more),
  )

  pub legal_front : (turn : Bool) (last : Option T) (xs ys : List (LockEvent T)) → IsLegalFrom origin story turn last (xs ++ ys)
      → IsLegalFrom origin story turn last xs
  legal_front turn last [] ys h = tt
  legal_front turn last (Given value ∷ xs) ys h = (h.0, h.1, legal_front false (Some value) xs ys h.2)
  legal_front turn last (Taken ∷ xs) ys h = (h.0, legal_front true last xs ys h.1)
  legal_front turn last (Missed ∷ xs) ys h = (h.0, legal_front true last xs ys h.1)

  pub legal_rest : (turn : Bool) (last : Option T) (xs ys : List (LockEvent T)) → IsLegalFrom origin story turn last (xs ++ ys)
      → IsLegalFrom origin story (turn_after turn xs) (value_after last xs) ys
  legal_rest turn last [] ys h = h
  legal_rest turn last (Given value ∷ xs) ys h = legal_rest false (Some value) xs ys h.2
  legal_rest turn last (Taken ∷ xs) ys h = legal_rest true last xs ys h.1
  legal_rest turn last (Missed ∷ xs) ys h =
      subst (λ (b : Bool). IsLegalFrom origin story (turn_after b xs) (value_after last xs) ys) (sym h.0) (legal_rest true last xs ys h.1)

  pub prefix_legal : (xs ys : List (LockEvent T)) → IsPrefix xs ys → IsLegal origin story ys → IsLegal origin story xs
  prefix_legal xs ys p h = legal_front true None xs p.0 (subst (λ (l : List (LockEvent T)). IsLegal origin story l) (sym p.1) h)

  continues_self : (v : T) → Continues origin story v v
  continues_self v = record { same = refl; longer = prefix_self (story v) }

  continues_trans : (v w u : T) → Continues origin story v w → Continues origin story w u → Continues origin story v u
  continues_trans v w u a b = record { same = b.same ∙ a.same; longer = prefix_trans (story v) (story w) (story u) a.longer b.longer }

  -- the last value continues each earlier one
  pub last_continues : (turn : Bool) (v : T) (xs : List (LockEvent T)) → IsLegalFrom origin story turn (Some v) xs
      → (w : T) × (value_after (Some v) xs ≡ Some w) × Continues origin story v w
  last_continues turn v [] h = (v, refl, continues_self v)
  last_continues turn v (Given value ∷ xs) h = let r = last_continues false value xs h.2 in (r.0, r.1, continues_trans v value r.0 h.1 r.2)
  last_continues turn v (Taken ∷ xs) h = last_continues true v xs h.1
  last_continues turn v (Missed ∷ xs) h = last_continues true v xs h.1

  -- the last value has the origin that the lock was opened with
  pub last_origin : (first : T) (xs : List (LockEvent T)) → IsOpenedWith first xs → IsLegal origin story xs
      → (w : T) × (last_value xs ≡ Some w) × (origin w ≡ origin first)
  last_origin first xs o h =
      let l : IsLegal origin story (Given first ∷ o.0) = subst (λ (l : List (LockEvent T)). IsLegal origin story l) o.1 h in
      let r = last_continues false first o.0 l.2 in
      (r.0, ap last_value o.1 ∙ r.1, r.2.same)

  story_grows : (turn : Bool) (last : Option T) (xs : List (LockEvent T)) → IsLegalFrom origin story turn last xs
      → IsPrefix (option_map_or story last []) (option_map_or story (value_after last xs) [])
  story_grows turn None xs h = (option_map_or story (value_after None xs) [], refl)
  story_grows turn (Some v) xs h =
      let r = last_continues turn v xs h in subst (λ (l : Option T). IsPrefix (story v) (option_map_or story l [])) (sym r.1) r.2.longer

  -- a longer history has a story that begins with that of the shorter one
  pub story_longer : (xs ys : List (LockEvent T)) → IsPrefix xs ys → IsLegal origin story ys
      → IsPrefix (story_at story xs) (story_at story ys)
  story_longer xs ys p h =
      let l : IsLegal origin story (xs ++ p.0) = subst (λ (l : List (LockEvent T)). IsLegal origin story l) (sym p.1) h in
      let r = story_grows (turn_after true xs) (value_after None xs) p.0 (legal_rest true None xs p.0 l) in
      subst (λ (l : Option T). IsPrefix (story_at story xs) (option_map_or story l [])) (sym (value-append None xs p.0) ∙ ap last_value p.1)
      r

  pub adds_longer : (before after : List (LockEvent T)) (e : LockEvent T) → Adds origin story before e after → IsPrefix before after
  adds_longer before after e a = (a.between ++ e ∷ [], sym (append_assoc before a.between (e ∷ [])) ∙ sym a.is)

  pub gives_longer : (before after : List (LockEvent T)) (value : T) → GivesBack origin story before value after → IsPrefix before after
  gives_longer before after value g =
      (replicate g.misses Missed ++ Given value ∷ [], sym (append_assoc before (replicate g.misses Missed) (Given value ∷ [])) ∙ sym g.is)

  -- the value that was given is the last one
  pub gives_last : (before after : List (LockEvent T)) (value : T) → GivesBack origin story before value after
      → last_value after ≡ Some value
  gives_last before after value g = ap last_value g.is ∙ value-append None (before ++ replicate g.misses Missed) (Given value ∷ [])

  -- what a seat that took the turn has in hand
  pub taken_value : (first : T) (before after : List (LockEvent T)) (value : T) → IsOpenedWith first before
      → Adds origin story before Taken after → last_value after ≡ Some value
      → (last_value after ≡ Some value) × (story_at story after ≡ story value) × (origin value ≡ origin first)
  taken_value first before after value opening a last =
      let r = last_origin first after (opened_longer first before after (adds_longer before after Taken a) opening) a.legal in
      let same : value ≡ r.0 = ap (λ o. unwrap_or o r.0) (sym last ∙ r.1) in
      (last, ap (λ o. option_map_or story o []) last, ap origin same ∙ r.2)

  -- a seat that had seen less adds the same
  pub adds_after : (before mid after : List (LockEvent T)) (e : LockEvent T) → IsPrefix before mid → Adds origin story mid e after
      → Adds origin story before e after
  adds_after before mid after e p a = record {
    between = p.0 ++ a.between;
    is = a.is ∙ ap (λ l. l ++ e ∷ []) (ap (λ l. l ++ a.between) (sym p.1) ∙ append_assoc before p.0 a.between);
    legal = a.legal;
  }
