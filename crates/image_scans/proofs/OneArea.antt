-- What one area gives, by what its header sector and its ring have.
use Rattle.std.proofs.Common.{◌≡◌, ◌≤◌, ◌<◌, ◌⊎◌, ℕ, ◌+◌, ◌-◌, ◌^◌, true, false, List, [], length, Option, Some, None, inl, inr, ⊎_elim}
use Rattle.std.proofs.Common.{refl, sym, ap, subst, ◌∙◌, arith}
use Rattle.std.proofs.lemmas.Bool.{cases_lt}
use Rattle.sector_base.specs.Checksum.{checksum, lvm_crc_start}
use Rattle.mda_header.specs.declared.entry.HeaderEntry.TheVariants.{Nothing, Text}
use Rattle.mda_header.specs.declared.header.Locn.{Locn}
use Rattle.mda_header.specs.declared.header.MdaHeader.{MdaHeader}
use Rattle.mda_header.specs.Header.{IsCommitted, IsEntry, IsHeader, IsInside, IsPrecommitted, locn_at}
use Rattle.mda_header.specs.HeaderBytes.{header_bytes, summed_bytes}
use Rattle.mda_header.proofs.ReadAgain.{header_read}
use Rattle.mda_ring.specs.declared.area.Area.{Area}
use Rattle.mda_ring.specs.Areas.{CanTake, IsArea}
use Rattle.mda_ring.specs.Ring.{need, room}
use Rattle.mda_ring.specs.Texts.{without_zero}
use Rattle.mda_ring.proofs.TextBytes.{without_zero-zero}
use Rattle.conf_text.specs.Printed.{printed}
use Rattle.meta_model.specs.Standing.{HasTree}
use Rattle.meta_model.specs.declared.group.Group.{Group}
use Rattle.meta_print.specs.Layout.{tree_of}
use Rattle.meta_print.specs.ReadAgain.{IsReadAs}
use Rattle.meta_print.proofs.ReadAgain.{tree_again}
use Rattle.volume_rules.specs.Rules.{IsAccepted}
use Rattle.scan_rules.specs.Decision.{Copy}
use Rattle.vg_scan.specs.Texts.{IsCopyOf, IsStored}
use Rattle.vg_commit.specs.Written.{header_after, header_of, new_entry, stored}
use Rattle.vg_commit.proofs.AreaPuts.{entry_inside, is_placed}
use Rattle.change_batches.proofs.ChecksumBound.{checksum_below}

-- ---- a header with a committed text

inside_or_not : (size : ℕ) (locn : Locn) → IsInside size locn ⊎ ¬ IsInside size locn
inside_or_not size locn =
    ⊎_elim
    (λ (low : locn.offset < 512). inr (λ (is : IsInside size locn). absurd (omega (arith, low, is.behind_header))))
    (λ (behind : 512 ≤ locn.offset).
    ⊎_elim
    (λ (before : locn.offset < size).
    ⊎_elim
    (λ (some : 0 < locn.size).
    ⊎_elim
    (λ (large : size - 512 < locn.size). inr (λ (is : IsInside size locn). absurd (omega (arith, large, is.has_room))))
    (λ (fits : locn.size ≤ size - 512). inl (record { behind_header = behind; before_end = before; has_bytes = some; has_room = fits }))
    (cases_lt (size - 512) locn.size))
    (λ (none : locn.size ≤ 0). inr (λ (is : IsInside size locn). absurd (omega (arith, none, is.has_bytes))))
    (cases_lt 0 locn.size))
    (λ (past : size ≤ locn.offset). inr (λ (is : IsInside size locn). absurd (omega (arith, past, is.before_end))))
    (cases_lt locn.offset size))
    (cases_lt locn.offset 512)

-- a sector that names a committed text of the area is its header
pub header_of_text : (sector : List ℕ) (start size : ℕ) (locn : Locn) → IsEntry sector start size (Text locn)
    → (header : MdaHeader) × IsHeader sector header × (header.start ≡ start) × (header.size ≡ size)
header_of_text sector start size locn is =
    ⊎_elim
    (λ inside. make (Some (locn_at sector 64)) (refl, inside))
    (λ outside. make None outside)
    (inside_or_not size (locn_at sector 64))
  where
    make : (precommitted : Option Locn) → IsPrecommitted sector size precommitted
        → (header : MdaHeader) × IsHeader sector header × (header.start ≡ start) × (header.size ≡ size)
    make precommitted pre = (
      record { start = start; size = size; committed = Some (locn_at sector 40); precommitted = precommitted; ignored = false },
      record {
        sound = is.0.of_area.sound;
        start = is.0.of_area.start_is;
        size = is.0.of_area.size_is;
        committed = (refl, is.0.inside);
        precommitted = pre;
        ignored = ((λ yes. absurd (let e : false ≡ true = yes in cc)), (λ bit. absurd (is.1 bit)));
      },
      refl,
      refl,
    )

-- a header that isn't ignored and has no committed text
pub entry_nothing : (sector : List ℕ) (start size : ℕ) (header : MdaHeader) → IsHeader sector header → header.committed ≡ None
    → header.ignored ≡ false → IsEntry sector start size Nothing
entry_nothing sector start size header is none seen = (
  record { sound = is.sound; none = subst (IsCommitted sector header.size) none is.committed },
  λ bit. absurd (let e : true ≡ false = sym (is.ignored.1 bit) ∙ seen in cc),
)

-- one that isn't ignored and names a text
pub entry_text : (sector : List ℕ) (header : MdaHeader) (locn : Locn) → IsHeader sector header → header.committed ≡ Some locn
    → header.ignored ≡ false → IsEntry sector header.start header.size (Text locn)
entry_text sector header locn is named seen =
    let committed : (locn ≡ locn_at sector 40) × IsInside header.size locn = subst (IsCommitted sector header.size) named is.committed in (
      record {
        of_area = record { sound = is.sound; start_is = is.start; size_is = is.size };
        inside = subst (IsInside header.size) committed.0 committed.1;
      },
      (λ bit. absurd (let e : true ≡ false = sym (is.ignored.1 bit) ∙ seen in cc)),
      committed.0,
    )

-- ---- the headers of a commit

module _ (text : List ℕ) (a : Area × Option Locn) (take : CanTake a) (fits : need (length text + 1) ≤ room a.0.size a.1) where
  made_inside : IsInside a.0.size (new_entry text a)
  made_inside = (entry_inside text a (is_placed text a take fits)).0

  -- the header that publishes the text is read as it is
  pub after_read : IsHeader (header_bytes (header_after text a)) (header_after text a)
  after_read =
      let ends : a.0.start + a.0.size ≤ 2 ^ 49 = take.0.ends in
      let sum : checksum lvm_crc_start (summed_bytes (header_after text a)) < 2 ^ 32 =
      checksum_below lvm_crc_start (summed_bytes (header_after text a)) in
      header_read a.0.start a.0.size (Some (new_entry text a)) None false (omega (arith, ends)) (omega (arith, ends))
      (checksum_below lvm_crc_start (stored text)) tt (omega (arith, sum)) made_inside tt

  -- and the one before it, where no text was committed
  pub before_read : IsHeader (header_bytes (header_of a.0 None (Some (new_entry text a)))) (header_of a.0 None (Some (new_entry text a)))
  before_read =
      let ends : a.0.start + a.0.size ≤ 2 ^ 49 = take.0.ends in
      let sum : checksum lvm_crc_start (summed_bytes (header_of a.0 None (Some (new_entry text a)))) < 2 ^ 32 =
      checksum_below lvm_crc_start (summed_bytes (header_of a.0 None (Some (new_entry text a)))) in
      header_read a.0.start a.0.size None (Some (new_entry text a)) false (omega (arith, ends)) (omega (arith, ends)) tt
      (checksum_below lvm_crc_start (stored text)) (omega (arith, sum)) tt made_inside

-- the header of an area in which no text stands is read as it is
pub empty_header_read : (area : Area) → IsArea area → IsHeader (header_bytes (header_of area None None)) (header_of area None None)
empty_header_read area good =
    let ends : area.start + area.size ≤ 2 ^ 49 = good.ends in
    let sum : checksum lvm_crc_start (summed_bytes (header_of area None None)) < 2 ^ 32 =
    checksum_below lvm_crc_start (summed_bytes (header_of area None None)) in
    header_read area.start area.size None None false (omega (arith, ends)) (omega (arith, ends)) tt tt (omega (arith, sum)) tt tt

-- ---- the text of a group

pub printed_copy : (group : Group) (now : ℕ) → now < 2 ^ 64 → HasTree group → IsAccepted group
    → IsCopyOf (printed (tree_of group now)) group []
printed_copy group now time tree accepted =
    let read : IsReadAs (tree_of group now) group = tree_again group now time tree in
    record { tree = tree_of group now; is_text = read.is_text; stands = read.stands; accepted = accepted; passed_is = sym read.known }

-- bytes that are a text as it is stored
pub stored_copy : (text : List ℕ) (group : Group) (passed : List (List ℕ)) (a : Area × Option Locn) (bytes : List ℕ)
    → IsCopyOf text group passed → bytes ≡ stored text → IsStored (new_entry text a) bytes (Copy group text passed)
stored_copy text group passed a bytes copy is =
    (record { agrees = ap (checksum lvm_crc_start) is; text_is = sym (ap without_zero is ∙ without_zero-zero text) }, copy)
