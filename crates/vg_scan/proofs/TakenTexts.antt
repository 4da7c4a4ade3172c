-- A text that is taken in gives its number.
use Rattle.std.proofs.Common.{◌≡◌, ◌<◌, ℕ, ◌+◌, ◌++◌, List, [], ◌∷◌, length, Some, slice_get, sym, ap, subst, ◌∙◌, arith}
use Rattle.std.proofs.lemmas.List.{length_push}
use Rattle.mda_header.specs.declared.header.Locn.{Locn}
use Rattle.scan_rules.specs.Readings.{copied, gives_of}
use Rattle.scan_rules.specs.declared.readings.AreaGives.TheVariants.{Copy as Numbered}
use Rattle.scan_rules.specs.declared.readings.GroupCopy.{GroupCopy}
use Rattle.vg_scan.specs.Collected.{IsKnown}
use Rattle.vg_scan.specs.Texts.{IsStored}
use Rattle.vg_scan.proofs.Continued.{last_copy}
use Rattle.vg_scan.proofs.KnownTexts.{gives_number}

-- it is known by the entry that it was read at
pub copy_known : (locn : Locn) (bytes : List ℕ) (copy : GroupCopy) → length bytes ≡ locn.size → IsStored locn bytes (copied copy)
    → IsKnown locn copy
copy_known locn bytes copy size stored = record { bytes = bytes; size_is = size; stored = stored }

module _ (old new : List GroupCopy) (copy : GroupCopy) (number : ℕ) (last : number ≡ length old) (grown : new ≡ old ++ copy ∷ []) where
  -- its number stands for it
  pub taken_copy : (locn : Locn) (bytes : List ℕ) → IsStored locn bytes (copied copy) → IsStored locn bytes (gives_of new (Numbered number))
  taken_copy locn bytes stored =
      let at : slice_get new number ≡ Some copy =
      ap (slice_get new) last ∙ ap (λ (l : List GroupCopy). slice_get l (length old)) grown ∙ last_copy old copy in
      subst (IsStored locn bytes) (sym (gives_number new number copy at)) stored

  pub taken_number : number < length new
  taken_number =
      let long : length new ≡ length old + 1 = ap length grown ∙ length_push old copy in
      omega arith
