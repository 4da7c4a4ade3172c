-- What a call does to the bytes of a stream and to its count of faults.
use Rattle.std.specs.Prelude.{◌≡◌, ◌≤◌, Bool, true, false, ◌<◌, ◌⊎◌, ◌↔◌, ◌^◌, ◌+◌, ◌-◌, ℕ, List, [], ◌++◌, length, take, drop, min, Option}
use Rattle.std.specs.Prelude.{IfSome}
use Rattle.std.specs.Option.{option_map}

-- the count of faults has risen; one that stands at the end of its 64 bits counts as risen
abbrev pub HasRisen : ℕ → ℕ → Type 0
HasRisen before after = (before < after) ⊎ (after ≡ 2 ^ 64 - 1)

-- one more, up to the end of 64 bits
abbrev pub counted_on : ℕ → ℕ
counted_on count = min (count + 1) (2 ^ 64 - 1)

-- the bytes written, with these after them, where they are told
abbrev pub with_more : Option (List ℕ) → List ℕ → Option (List ℕ)
with_more written more = option_map (λ bytes. bytes ++ more) written

-- A read of n bytes into a piece. Where the bytes left are told, the first n of them stand in the front of the piece, and
-- none are read into a piece that isn't empty exactly where none are left.
pub record Reads (left : Option (List ℕ)) (piece : List ℕ) (n : ℕ) (filled : List ℕ) (rest : Option (List ℕ)) : Type 0 where
  pub within : n ≤ length piece
  pub has : IfSome left (λ bytes. n ≤ length bytes)
  pub bytes : IfSome left (λ bytes. filled ≡ take n bytes ++ drop n piece)
  pub ended : IfSome left (λ bytes. 0 < length piece → (n ≡ 0) ↔ (bytes ≡ []))
  pub left_after : rest ≡ option_map (λ bytes. drop n bytes) left

-- a write of the first n bytes of a piece, at least one of a piece that isn't empty
pub record Writes (before : Option (List ℕ)) (piece : List ℕ) (n : ℕ) (after : Option (List ℕ)) : Type 0 where
  pub within : n ≤ length piece
  pub some : 0 < length piece → 0 < n
  pub bytes : after ≡ with_more before (take n piece)

-- what was written of a text is a front of it, and not all of it
abbrev pub WritesFront : Option (List ℕ) → List ℕ → Option (List ℕ) → Type 0
WritesFront before text after = (n : ℕ) × (n < length text) × (after ≡ with_more before (take n text))

-- a text was written by a call that went well or failed: whole and without a fault, or a front of it before a fault
abbrev pub WritesText : Option (List ℕ) → ℕ → List ℕ → Bool → Option (List ℕ) → ℕ → Type 0
WritesText before faults_before text true after faults_after = (after ≡ with_more before text) × (faults_after ≡ faults_before)
WritesText before faults_before text false after faults_after = WritesFront before text after × HasRisen faults_before faults_after
