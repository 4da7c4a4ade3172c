-- What a call that reads gives, where memory may be wanting.
use Rattle.std.specs.Prelude.{◌≡◌, ℕ, if◌then◌else◌, List, map, filter_map, Option, Some, None, Result, Ok, Err, Vec}
use Rattle.std.specs.Borrow.{Bor}
use Rattle.std.specs.declared.alloc.Global.{Global}
use Rattle.conf_text.specs.Entries.{Conf, ConfEntry}
use Rattle.meta_model.specs.Keys.{Read}
use Rattle.meta_model.specs.Standing.{is_segment_name}
use Rattle.meta_model.specs.declared.refusal.GroupRefusal.{GroupRefusal}
use Rattle.meta_model.specs.declared.refusal.GroupRefusal.TheVariants.{NoMemory}

-- the refusal is this one, or memory was wanting
abbrev pub Refuses : GroupRefusal → GroupRefusal → Type 0
Refuses wanted NoMemory = Unit {0}
Refuses wanted refusal = refusal ≡ wanted

-- the answer, seen so, is what was wanted, unless memory was wanting
abbrev pub GivesBy : {A B : Type 0} → (B → A) → Read A → Result B GroupRefusal → Type 0
GivesBy view wanted (Ok x) = wanted ≡ Ok (view x)
GivesBy view wanted (Err NoMemory) = Unit {0}
GivesBy view wanted (Err refusal) = wanted ≡ Err refusal

-- the same of an answer as it stands
abbrev pub Gives : {A : Type 0} → Read A → Result A GroupRefusal → Type 0
Gives wanted answer = GivesBy (λ x. x) wanted answer

-- the bytes that a slice refers to
abbrev pub as_bytes : Bor (List ℕ) → List ℕ
as_bytes slice = slice.now

-- and those of each slice of a vector
abbrev pub as_words : Vec (Bor (List ℕ)) Global → List (List ℕ)
as_words words = map as_bytes words.items

-- a pair of a name that is referred to and an extent
abbrev pub as_pair : Bor (List ℕ) × ℕ → List ℕ × ℕ
as_pair pair = (pair.0.now, pair.1)

-- and each pair of a vector
abbrev pub as_pairs : Vec (Bor (List ℕ) × ℕ) Global → List (List ℕ × ℕ)
as_pairs pairs = map as_pair pairs.items

-- sections with names that are referred to
abbrev pub as_sections : List (Bor (List ℕ) × Conf) → List (List ℕ × List ConfEntry)
as_sections sections = map (λ found. (found.0.now, found.1)) sections

-- the entries of a segment's section, where it is one
abbrev pub segment_body : List ℕ × List ConfEntry → Option (List ConfEntry)
segment_body found = if is_segment_name found.0 then Some found.1 else None

-- those of a vector that are segments
abbrev pub as_segments : Vec (Bor (List ℕ) × Conf) Global → List (List ConfEntry)
as_segments sections = filter_map segment_body (as_sections sections.items)

-- a name, and a section that is referred to
abbrev pub as_named : List ℕ × Bor Conf → List ℕ × List ConfEntry
as_named found = (found.0, found.1.now)
