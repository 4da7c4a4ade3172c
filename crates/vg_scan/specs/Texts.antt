-- What the committed text of a metadata area is: an accepted copy of a group's metadata, or why it is none.
use Rattle.std.specs.Prelude.{◌≡◌, ◌≢◌, ℕ, ◌+◌, ◌/◌, List, [], ◌∷◌, Ok, Err}
use Rattle.std.specs.Option.{option_map_or}
use Rattle.sector_base.specs.Checksum.{checksum, lvm_crc_start}
use Rattle.sector_base.specs.declared.spans.Span.{Span}
use Rattle.mda_header.specs.declared.header.Locn.{Locn}
use Rattle.mda_ring.specs.declared.area.Area.{Area}
use Rattle.mda_ring.specs.RingSpans.{ring_spans}
use Rattle.mda_ring.specs.Texts.{AreRead, IsTextOf as IsTextOfEntry, text_at}
use Rattle.conf_text.specs.Entries.{Conf}
use Rattle.conf_text.specs.Grammar.{IsTextOf}
use Rattle.conf_text.specs.Refusals.{IsCause}
use Rattle.conf_text.specs.declared.refusal.ConfRefusal.TheVariants.{NoMemory}
use Rattle.meta_model.specs.PassedOver.{passed_over}
use Rattle.meta_model.specs.Standing.{group_of}
use Rattle.meta_model.specs.declared.group.Group.{Group}
use Rattle.volume_rules.specs.Rules.{IsAccepted, IsFirstBroken}
use Rattle.scan_rules.specs.Decision.{AreaReading, HoldsNone, Copy, Refused}
use Rattle.scan_rules.specs.declared.copy_refusal.CopyRefusal.{CopyRefusal}
use Rattle.scan_rules.specs.declared.copy_refusal.CopyRefusal.TheVariants.{HeaderRefused, SumDiffers, TextRefused, GroupRefused, RuleBroken}

-- the spans of the sectors of a text, in the order of its bytes
abbrev pub text_spans : Area → Locn → List Span
text_spans area locn =
    (ring_spans area locn.offset locn.size).0 ∷ option_map_or (λ span. span ∷ []) (ring_spans area locn.offset locn.size).1 []

-- the sectors of the area that the entry's text touches, in the order of its bytes, where the area's disk has these sectors
pub record AreTextSectors (sector_at : ℕ → List ℕ) (area : Area) (locn : Locn) (sectors : List (List ℕ)) : Type 0 where
  pub read : AreRead (λ k. sector_at (area.start / 512 + k)) area.size locn.offset sectors

-- the stored bytes of the entry's text, where the area's disk has these sectors
abbrev pub stored_bytes : (ℕ → List ℕ) → Area → Locn → List ℕ
stored_bytes sector_at area locn = text_at (λ k. sector_at (area.start / 512 + k)) area.size locn.offset locn.size

-- the text stands for the group, which keeps all rules, and these are the paths of its keys that are passed over
pub record IsCopyOf (text : List ℕ) (group : Group) (passed : List (List ℕ)) : Type 0 where
  pub tree : Conf
  pub is_text : IsTextOf text tree
  pub stands : group_of tree ≡ Ok group
  pub accepted : IsAccepted group
  pub passed_is : passed ≡ passed_over tree

-- the first refusal of a text: of its grammar, its keys or its rules
abbrev pub IsTextRefusal : List ℕ → CopyRefusal → Type 0
IsTextRefusal text (HeaderRefused refusal) = ⊥
IsTextRefusal text (SumDiffers said found) = ⊥
IsTextRefusal text (TextRefused refusal) = IsCause text refusal × (refusal ≢ NoMemory)
IsTextRefusal text (GroupRefused refusal) = (tree : Conf) × IsTextOf text tree × (group_of tree ≡ Err refusal)
IsTextRefusal text (RuleBroken rule) =
    (tree : Conf) × (group : Group) × IsTextOf text tree × (group_of tree ≡ Ok group) × IsFirstBroken group rule

-- the refusal of stored bytes: of their checksum, or of their text
abbrev pub IsRefusalOf : Locn → List ℕ → CopyRefusal → Type 0
IsRefusalOf locn bytes (HeaderRefused refusal) = ⊥
IsRefusalOf locn bytes (SumDiffers said found) = (said ≡ locn.sum) × (found ≡ checksum lvm_crc_start bytes) × (said ≢ found)
IsRefusalOf locn bytes (TextRefused refusal) = (text : List ℕ) × IsTextOfEntry locn bytes text × IsTextRefusal text (TextRefused refusal)
IsRefusalOf locn bytes (GroupRefused refusal) = (text : List ℕ) × IsTextOfEntry locn bytes text × IsTextRefusal text (GroupRefused refusal)
IsRefusalOf locn bytes (RuleBroken rule) = (text : List ℕ) × IsTextOfEntry locn bytes text × IsTextRefusal text (RuleBroken rule)

-- what the bytes that are stored for an entry are: a copy of a group, or the first refusal
abbrev pub IsStored : Locn → List ℕ → AreaReading → Type 0
IsStored locn bytes HoldsNone = ⊥
IsStored locn bytes (Copy group text passed) = IsTextOfEntry locn bytes text × IsCopyOf text group passed
IsStored locn bytes (Refused refusal) = IsRefusalOf locn bytes refusal
