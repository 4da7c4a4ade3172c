-- One text after the other, in a sink.
use Rattle.std.proofs.Common.{◌≡◌, ℕ, List, [], ◌∷◌, ◌++◌, Result, Ok, Err, subst, append_assoc, refl}
use Rattle.std.specs.Prelude.{IfOk}
use Rattle.conf_text.specs.Entries.{ConfEntry}
use Rattle.conf_text.specs.Printed.{printed}
use Rattle.conf_text.specs.Sinks.{SinkLaws, Prints}

pub printed-append : (xs ys : List ConfEntry) → printed (xs ++ ys) ≡ printed xs ++ printed ys
printed-append [] ys = refl
printed-append (e ∷ xs) ys = rw (printed-append xs ys) (simp append_assoc refl)

module _ {S : Type 0} {Adds : S → List ℕ → S → Type 0} (laws : SinkLaws Adds) where
  -- the same text, written otherwise
  pub adds_as : {a b : S} {xs ys : List ℕ} → Adds a xs b → xs ≡ ys → Adds a ys b
  adds_as {a} {b} h e = subst (λ text. Adds a text b) e h

  -- what a last call adds, where it went well
  pub ends_with : {A E : Type 0} {a b : S} {xs : List ℕ} (c : S) (ys : List ℕ) (r : Result A E) (text : List ℕ) → Adds a xs b
      → IfOk r (λ _. Adds b ys c) → xs ++ ys ≡ text → IfOk r (λ _. Adds a text c)
  ends_with c ys (Ok x) text h k e = adds_as (laws.both h k) e
  ends_with c ys (Err x) text h k e = tt

  -- the same of entries
  pub prints_with : {A E : Type 0} {a b : S} {xs : List ℕ} (c : S) (ys : List ℕ) (r : Result A E) (es : List ConfEntry) → Adds a xs b
      → IfOk r (λ _. Adds b ys c) → xs ++ ys ≡ printed es → IfOk r (λ _. Prints Adds a es c)
  prints_with c ys (Ok x) es h k e = record { text = adds_as (laws.both h k) e }
  prints_with c ys (Err x) es h k e = tt

  -- no entries
  pub prints_nothing : (a : S) → Prints Adds a [] a
  prints_nothing a = record { text = laws.nothing a }

  -- entries after entries
  pub prints_both : {a b c : S} {es fs : List ConfEntry} → Prints Adds a es b → Prints Adds b fs c → Prints Adds a (es ++ fs) c
  prints_both {a} {b} {c} {es} {fs} h k = record { text = rw (printed-append es fs) (laws.both h.text k.text) }

  -- and those that a last call prints, where it went well
  pub prints_last : {A E : Type 0} {a b : S} {es : List ConfEntry} (c : S) (fs : List ConfEntry) (r : Result A E) → Prints Adds a es b
      → IfOk r (λ _. Prints Adds b fs c) → IfOk r (λ _. Prints Adds a (es ++ fs) c)
  prints_last c fs (Ok x) h k = prints_both h k
  prints_last c fs (Err x) h k = tt

  -- the same entries, said otherwise
  pub prints_as : {a b : S} {es fs : List ConfEntry} → Prints Adds a es b → es ≡ fs → Prints Adds a fs b
  prints_as {a} {b} h e = subst (λ entries. Prints Adds a entries b) e h
