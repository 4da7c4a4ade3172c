-- What the code's reader stands for.
use Rattle.std.specs.Prelude.{◌≡◌, ℕ, ◌+◌, ◌≤◌, List, ◌++◌, length, take, drop, map, Result, Ok, Err}
use Rattle.conf_text.specs.declared.refusal.ConfRefusal.{ConfRefusal}
use Rattle.conf_text.specs.declared.refusal.ConfRefusal.TheVariants.{NoMemory}
use Rattle.conf_text.specs.declared.reader.Mode.{Mode}
use Rattle.conf_text.specs.declared.reader.Mode.TheVariants.{Word}
use Rattle.conf_text.specs.declared.reader.Reader as code
use Rattle.conf_text.specs.Reader.{Reader}
use Rattle.conf_text.specs.Views.{scalar_view}

-- what the code's reader stands for
abbrev pub reader_view : code.Reader → Reader
reader_view r =
    record {
      mode = r.mode;
      phase = r.phase;
      word = r.word.items;
      name = r.name.now;
      scalars = map scalar_view r.scalars.items;
      entries = r.outline.entries;
      braces = r.outline.braces;
    }

-- what a function returned, seen by view, is what reading gives, unless memory ran out
abbrev pub Fails : {Y : Type 0} → ConfRefusal → Result Y ConfRefusal → Type 0
Fails NoMemory read = Unit {0}
Fails e read = read ≡ Err e

-- and so is a value
abbrev pub Gives : {X Y : Type 0} → (X → Y) → Result X ConfRefusal → Result Y ConfRefusal → Type 0
Gives view (Ok x) read = read ≡ Ok (view x)
Gives view (Err e) read = Fails e read

-- the bytes end in this word
abbrev pub EndsIn : List ℕ → List ℕ → Type 0
EndsIn bytes word = (front : List ℕ) × (bytes ≡ front ++ word)

-- so they do where a word is read
abbrev pub IsWordOf : Mode → List ℕ → List ℕ → Type 0
IsWordOf Word bytes word = EndsIn bytes word
IsWordOf _ bytes word = Unit {0}

-- the word stands in the text at this place
abbrev pub IsWordAt : List ℕ → ℕ → List ℕ → Type 0
IsWordAt text from word = (from + length word ≤ length text) × (take (length word) (drop from text) ≡ word)
