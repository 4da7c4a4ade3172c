-- Entries written one after another.
use Rattle.std.proofs.Common.{◌≡◌, ℕ, List, ◌++◌, Result, Ok, Err, subst}
use Rattle.std.specs.Prelude.{IfOk}
use Rattle.conf_text.specs.Entries.{ConfEntry}
use Rattle.conf_text.specs.Sinks.{SinkLaws, Prints}
use Rattle.conf_text.proofs.Adding.{prints_both}

-- the same entries, written otherwise
pub prints_as : {S : Type 0} {Adds : S → List ℕ → S → Type 0} {a b : S} {es fs : List ConfEntry} → Prints Adds a es b → es ≡ fs
    → Prints Adds a fs b
prints_as {Adds = Adds} {a = a} {b = b} h same = subst (λ entries. Prints Adds a entries b) same h

-- what a last call prints makes them whole
pub prints_whole : {S : Type 0} {Adds : S → List ℕ → S → Type 0} → SinkLaws Adds
    → {A E : Type 0} {a b : S} {es : List ConfEntry} (c : S) (fs : List ConfEntry) (r : Result A E) (whole : List ConfEntry)
    → Prints Adds a es b → IfOk r (λ _. Prints Adds b fs c) → es ++ fs ≡ whole → IfOk r (λ _. Prints Adds a whole c)
prints_whole laws c fs (Ok x) whole h k same = prints_as (prints_both laws h k) same
prints_whole laws c fs (Err e) whole h k same = tt
