-- One row of the table is asked for after another.
use Rattle.std.proofs.Common.{◌≡◌, ◌<◌, ℕ, ◌+◌, Bool, true, false, if◌then◌else◌, List, ◌∷◌, ◌++◌, length, map, drop}
use Rattle.std.proofs.Common.{get_or, slice_index_or, Option, Some, sym, ap, subst, ◌∙◌}
use Rattle.std.proofs.lemmas.List.{drop_more}
use Rattle.sector_base.specs.declared.spans.Span.{Span}
use Rattle.disk_model.specs.Since.{HoldsOfDisk}
use Rattle.disk_model.specs.State.{State}
use Rattle.disk_model.proofs.ReadingAlone.{holds_before, holds_both}
use Rattle.disk_contents.specs.declared.read_refusal.ReadRefusal.{ReadRefusal}
use Rattle.disk_contents.specs.Parts.{ReadsUntil, ReadsWell}
use Rattle.disk_contents.proofs.ReadingParts.{until_after, well_both}
use Rattle.disk_signature.specs.declared.kind.Kind.{Kind}
use Rattle.disk_signature.specs.declared.table.Signature.{Signature}
use Rattle.disk_signature.specs.Signatures.{first_among, first_kind, stands}
use Rattle.disk_signature.specs.Table.{row_of}

-- spans were read, and nothing failed
abbrev pub Read : State → State → Type 0
Read old new = (spans : List Span) × ReadsWell old spans new

-- spans were read until there was no going on
abbrev Ends : ℕ → State → State → ReadRefusal → Type 0
Ends pv old new refusal = (spans : List Span) × ReadsUntil pv old spans new refusal

-- one after the other
pub read_until : (pv : ℕ) (s0 s1 s2 : State) (refusal : ReadRefusal) → Read s0 s1 → Ends pv s1 s2 refusal → Ends pv s0 s2 refusal
read_until pv s0 s1 s2 refusal a b = (a.0 ++ b.0, until_after pv s0 s1 s2 a.0 b.0 refusal a.1 b.1)

-- how many sectors the disk has
abbrev disk_of : ℕ → State → ℕ
disk_of pv s = slice_index_or s.sizes pv 0

-- what the first row of the table tells that stands on the disk, the first of these rows tells
abbrev pub IsLeft : ℕ → State → List Signature → Type 0
IsLeft pv s rows =
    HoldsOfDisk s.told pv (λ sector_at. first_kind sector_at (disk_of pv s) ≡ first_among (map row_of rows) sector_at (disk_of pv s))

-- whether the row stands there
abbrev pub IsAnswer : ℕ → State → Signature → Bool → Type 0
IsAnswer pv s row found = HoldsOfDisk s.told pv (λ sector_at. found ≡ stands sector_at (disk_of pv s) (row_of row))

module _ (pv : ℕ) (s0 s1 s2 : State) (rows : List Signature) (i : ℕ) (d : Signature) (found : Bool) where
  abbrev row : Signature
  row = get_or rows i d

  abbrev behind : List Signature
  behind = drop (i + 1) rows

  -- whether a row stands after spans were read it does before
  answer_before : Read s0 s1 → IsAnswer pv s1 row found → IsAnswer pv s0 row found
  answer_before a told =
      subst (λ (sizes : List ℕ). HoldsOfDisk s0.told pv (λ at. found ≡ stands at (slice_index_or sizes pv 0) (row_of row))) a.1.again.sizes
      (holds_before s0.told s1.told a.0 pv (λ at. found ≡ stands at (disk_of pv s1) (row_of row)) a.1.reads told)

  -- the first row that is left, and those behind it
  left_more : i < length rows → IsLeft pv s0 (drop i rows) → IsLeft pv s0 (row ∷ behind)
  left_more lt left = subst (λ (l : List Signature). IsLeft pv s0 l) (drop_more rows i d lt) left

  abbrev first_of : List Signature → (ℕ → List ℕ) → Option Kind
  first_of l sector_at = first_among (map row_of l) sector_at (disk_of pv s0)

  abbrev first : (ℕ → List ℕ) → Option Kind
  first sector_at = first_kind sector_at (disk_of pv s0)

  abbrev answer : (ℕ → List ℕ) → Bool
  answer sector_at = stands sector_at (disk_of pv s0) (row_of row)

  -- what the first of these rows tells, by whether it stands
  by_answer : (b : Bool) (sector_at : ℕ → List ℕ) → found ≡ b → first sector_at ≡ first_of (row ∷ behind) sector_at
      → found ≡ answer sector_at → first sector_at ≡ (if b then Some row.0 else first_of behind sector_at)
  by_answer b sector_at said is at = is ∙ ap (λ (c : Bool). if c then Some row.0 else first_of behind sector_at) (sym at ∙ said)

  -- a row that doesn't stand is passed
  pub row_passed : i < length rows → Read s0 s1 × IsLeft pv s0 (drop i rows) → found ≡ false → Read s1 s2 × IsAnswer pv s1 row found
      → Read s0 s2 × IsLeft pv s0 behind
  row_passed lt was said now = (
    (was.0.0 ++ now.0.0, well_both s0 s1 s2 was.0.0 now.0.0 was.0.1 now.0.1),
    holds_both s0.told pv (λ at. first at ≡ first_of (row ∷ behind) at) (λ at. found ≡ answer at) (λ at. first at ≡ first_of behind at)
        (λ at is here. by_answer false at said is here) (left_more lt was.1) (answer_before was.0 now.1),
  )

  -- and one that stands is the first
  pub row_found : i < length rows → Read s0 s1 × IsLeft pv s0 (drop i rows) → found ≡ true → Read s1 s2 × IsAnswer pv s1 row found
      → (kind : Kind) → kind ≡ row.0 → Read s0 s2 × HoldsOfDisk s0.told pv (λ at. Some kind ≡ first at)
  row_found lt was said now kind kind_is = (
    (was.0.0 ++ now.0.0, well_both s0 s1 s2 was.0.0 now.0.0 was.0.1 now.0.1),
    holds_both s0.told pv (λ at. first at ≡ first_of (row ∷ behind) at) (λ at. found ≡ answer at) (λ at. Some kind ≡ first at)
        (λ at is here. ap (λ (k : Kind). Some k) kind_is ∙ sym (by_answer true at said is here))
        (left_more lt was.1) (answer_before was.0 now.1),
  )
