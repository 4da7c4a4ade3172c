-- The names of open sections, kept in sets.
use Rattle.std.proofs.Common.{◌≡◌, ℕ, suc, Bool, true, false, cond, List, [], ◌∷◌, ◌++◌, length, map, reverse, refl, sym, ap, subst, ◌∙◌}
use Rattle.std.specs.Prelude.{nat_eq, ◌||◌}
use Rattle.std.specs.List.{list_any}
use Rattle.std.specs.Cmp.Lexicographic.{pointwise}
use Rattle.std.proofs.lemmas.Cmp.{nat_list_eq_equiv}
use Rattle.std.proofs.lemmas.List.{length-reverse, reverse-append, map_push}
use Rattle.conf_text.specs.declared.outline.Outer.{Outer}
use Rattle.conf_text.specs.declared.tree.ConfEntry as code
use Rattle.conf_text.specs.Entries.{ConfEntry, Open, Close, Many, Assign, after_entry}
use Rattle.conf_text.specs.Views.{entry_view}
use Rattle.conf_text.specs.Outline.{Seen, HasNames, HasOuter, HasSections, IsKeyed}

outer-length : (outer : List Outer) (given : List (List (List ℕ))) → HasOuter outer given → length given ≡ length outer
outer-length [] given h = ap length h
outer-length (o ∷ outer) [] h = absurd h
outer-length (o ∷ outer) (names ∷ given) h = ap suc (outer-length outer given h.1)

-- one section more than those round the innermost
pub sections-length : {K : Type 0} (name : K → List ℕ) (keys : List K) (outer : List Outer) (given : List (List (List ℕ)))
    → HasSections name keys (reverse outer) given → length given ≡ suc (length outer)
sections-length name keys outer [] h = absurd h
sections-length name keys outer (names ∷ given) h = ap suc (outer-length (reverse outer) given h.1 ∙ length-reverse outer)

-- a set with a name more
abbrev pub IsPut : {K : Type 0} → (K → List ℕ) → List K → List K → List ℕ → Type 0
IsPut name old new k =
    (q : List ℕ) → list_any (λ x. pointwise nat_eq q (name x)) new
    ≡ cond (pointwise nat_eq k q) true (list_any (λ x. pointwise nat_eq q (name x)) old)

either : (a b : Bool) → cond a true b ≡ (a || b)
either true b = refl
either false b = refl

names_put : {K : Type 0} (name : K → List ℕ) (old new : List K) (k : List ℕ) (names : List (List ℕ)) → IsPut name old new k
    → HasNames name old names → HasNames name new (k ∷ names)
names_put name old new k names put has = λ q.
    put q ∙ either (pointwise nat_eq k q) (list_any (λ x. pointwise nat_eq q (name x)) old)
    ∙ ap (λ x. x || list_any (λ x. pointwise nat_eq q (name x)) old) (nat_list_eq_equiv.symm k q)
    ∙ ap (λ x. pointwise nat_eq q k || x) (has q)

-- a key more
pub key_put : {K : Type 0} (name : K → List ℕ) (old new : List K) (k : List ℕ) (outer : List Outer) (given : List (List (List ℕ)))
    (e : ConfEntry) → IsPut name old new k → IsKeyed k e → HasSections name old outer given
    → HasSections name new outer (after_entry given e)
key_put name old new k outer [] e put keyed has = absurd has
key_put name old new k outer (names ∷ given) (Open n) put keyed has = absurd keyed
key_put name old new k outer (names ∷ given) Close put keyed has = absurd keyed
key_put name old new k outer (names ∷ given) (Assign n v) put keyed has =
    (subst (λ x. HasNames name new (x ∷ names)) (sym keyed) (names_put name old new k names put has.0), has.1)

-- a section ends
pub section_left : {K : Type 0} (name : K → List ℕ) (keys : List K) (before rest : List Outer) (o : Outer) (given : List (List (List ℕ)))
    → before ≡ rest ++ o ∷ [] → HasSections name keys (reverse before) given
    → HasSections (λ k. k.now) o.names.keys (reverse rest) (after_entry given Close)
section_left name keys before rest o [] e has = absurd has
section_left name keys before rest o (names ∷ given) e has =
    ended (reverse rest) given (subst (λ x. HasOuter x given) (ap reverse e ∙ reverse-append rest (o ∷ [])) has.1)
  where
    ended : (outer : List Outer) (given : List (List (List ℕ))) → HasOuter (o ∷ outer) given
        → HasSections (λ k. k.now) o.names.keys outer given
    ended outer [] h = absurd h
    ended outer (names ∷ given) h = h

-- a section begins
pub section_entered : {K : Type 0} (name : K → List ℕ) (inner : List K) (k : List ℕ) (before after : List Outer) (o : Outer)
    (given : List (List (List ℕ)))
    → HasSections (λ x. x.now) o.names.keys (reverse before) (after_entry given (Assign k (Many []))) → after ≡ before ++ o ∷ []
    → inner ≡ [] → HasSections name inner (reverse after) (after_entry given (Open k))
section_entered name inner k before after o [] has e none = absurd has
section_entered name inner k before after o (names ∷ given) has e none = (
  subst (λ x. HasNames name x []) (sym none) (λ q. refl),
  subst (λ x. HasOuter x ((k ∷ names) ∷ given)) (sym (ap reverse e ∙ reverse-append before (o ∷ []))) has,
)

-- the places of the braces, with one more
pub braces_pushed : (before after : List Outer) (o : Outer) → after ≡ before ++ o ∷ []
    → reverse (map (λ o. o.brace) after) ≡ o.brace ∷ reverse (map (λ o. o.brace) before)
braces_pushed before after o e =
    ap (λ x. reverse (map (λ o. o.brace) x)) e ∙ ap reverse (map_push (λ o. o.brace) before o)
    ∙ reverse-append (map (λ o. o.brace) before) (o.brace ∷ [])

pub entries_pushed : (old new : List code.ConfEntry) (e : code.ConfEntry) → new ≡ old ++ e ∷ []
    → map entry_view new ≡ map entry_view old ++ entry_view e ∷ []
entries_pushed old new e h = ap (map entry_view) h ∙ map_push entry_view old e

abbrev pub seen : List ConfEntry → List ℕ → Seen
seen es bs = record { entries = es; braces = bs }
