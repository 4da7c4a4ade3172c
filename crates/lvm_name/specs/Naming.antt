-- A name that is made of a text.
use Rattle.std.specs.Prelude.{◌≡◌, ℕ, List, Option, Some, None, Result, Ok, Err}
use Rattle.lvm_name.specs.declared.refusal.NameRefusal.{NameRefusal}
use Rattle.lvm_name.specs.declared.refusal.NameRefusal.TheVariants.{NoMemory}

-- it is the text, which no test refuses, or it is the first refusal; want of memory says nothing
abbrev pub Names : (List ℕ → Option NameRefusal) → Result (List ℕ) NameRefusal → List ℕ → Type 0
Names refusal_of (Ok name) text = (name ≡ text) × (refusal_of text ≡ None)
Names refusal_of (Err NoMemory) text = Unit {0}
Names refusal_of (Err refusal) text = refusal_of text ≡ Some refusal
