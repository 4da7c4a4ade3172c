-- The copies that were read so far, by the sizes and sums of the entries that they were read at.
use Rattle.std.specs.Prelude.{◌≡◌, ℕ, ◌++◌, List, length, Some, slice_get}
use Rattle.std.specs.BTreeMap.{BTreeMap, get}
use Rattle.std.specs.Ordering.{nat_cmp, ordering_then}
use Rattle.std.specs.declared.cmp.Ordering.{Ordering}
use Rattle.mda_header.specs.declared.header.Locn.{Locn}
use Rattle.scan_rules.specs.declared.readings.GroupCopy.{GroupCopy}
use Rattle.scan_rules.specs.Readings.{copied}
use Rattle.vg_scan.specs.Texts.{IsStored}

-- some bytes of the entry's size and sum are stored as the text of the copy
pub record IsKnown (locn : Locn) (copy : GroupCopy) : Type 0 where
  pub bytes : List ℕ
  pub size_is : length bytes ≡ locn.size
  pub stored : IsStored locn bytes (copied copy)

-- the order of an entry's size and sum
abbrev pub key_cmp : ℕ × ℕ → ℕ × ℕ → Ordering
key_cmp a b = ordering_then (nat_cmp a.0 b.0) (nat_cmp a.1 b.1)

-- the copy with this number was read at an entry of this size and sum
abbrev pub WasReadAt : List GroupCopy → ℕ × ℕ → ℕ → Type 0
WasReadAt copies key number =
    (locn : Locn) × (copy : GroupCopy) × ((locn.size, locn.sum) ≡ key) × (slice_get copies number ≡ Some copy) × IsKnown locn copy

-- each number is that of a copy which was read at an entry of the size and sum at which it stands
abbrev pub AreNumbered : BTreeMap (ℕ × ℕ) ℕ → List GroupCopy → Type 0
AreNumbered numbers copies = (key : ℕ × ℕ) (number : ℕ) → get key_cmp numbers key ≡ Some number → WasReadAt copies key number

-- copies were taken in behind those that were there
abbrev pub Continues : List GroupCopy → List GroupCopy → Type 0
Continues old new = (more : List GroupCopy) × (new ≡ old ++ more)
