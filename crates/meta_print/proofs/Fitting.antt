-- What is printed of a group keeps the limits of a text, section by section.
use Rattle.std.proofs.Common.{◌≡◌, ℕ, ◌<◌, ◌^◌, Bool, true, false, List, [], ◌∷◌, ◌++◌, length, Option, Some, None, refl}
use Rattle.std.specs.Prelude.{flat_map, codes}
use Rattle.std.specs.List.{list_all, AllByRecursion as Each}
use Rattle.std.proofs.lemmas.Bool.{lt-ltb}
use Rattle.conf_text.specs.Bytes.{kind}
use Rattle.conf_text.specs.Entries.{Many, fits_scalar}
use Rattle.conf_text.specs.Grammar.{IsContent}
use Rattle.conf_text.specs.Printed.{CanPrintAll}
use Rattle.lvm_id.specs.LvmId.{hyphen_form}
use Rattle.meta_model.specs.declared.group.Group.{Group}
use Rattle.meta_model.specs.declared.pv.Pv.{Pv}
use Rattle.meta_model.specs.declared.segment.Leg.{Leg}
use Rattle.meta_model.specs.declared.segment.SegKind.{SegKind}
use Rattle.meta_model.specs.declared.segment.SegKind.TheVariants.{Striped, Mirror}
use Rattle.meta_model.specs.declared.segment.Segment.{Segment}
use Rattle.meta_model.specs.Status.{LvStatus}
use Rattle.meta_model.specs.Status.{VgStatus}
use Rattle.meta_print.specs.Layout.{word_if, pair_of, lv_words, vg_words}
use Rattle.meta_print.proofs.Printable.{IsLeg, IsLegs, FitsIfThere, IsKind, IsSegment, IsPv}
use Rattle.meta_print.proofs.PvAgain.{pv_body}
use Rattle.meta_print.proofs.SegmentAgain.{segment_body, striped_body, is_shown}
use Rattle.meta_print.proofs.Limits.{FitsIn, fits_none, fits_assign, fits_number, fits_text, fits_words, key_named}

-- ---- words

-- each can be printed
pub record AreContents (ws : List (List ℕ)) : Type 0 where
  pub each : Each IsContent ws

each_both : (xs ys : List (List ℕ)) → Each IsContent xs → Each IsContent ys → Each IsContent (xs ++ ys)
each_both [] ys first second = second
each_both (x ∷ xs) ys first second = (first.0, each_both xs ys first.1 second)

both : {xs ys : List (List ℕ)} → AreContents xs → AreContents ys → AreContents (xs ++ ys)
both {xs} {ys} first second = record { each = each_both xs ys first.each second.each }

word_content : (is : Bool) (word : List ℕ) → IsContent word → AreContents (word_if is word)
word_content true word h = record { each = (h, tt) }
word_content false word h = record { each = tt }

pub lv_words-content : (status : LvStatus) → AreContents (lv_words status)
unfolding kind
lv_words-content status =
    both (both (both (both (both (both
    (word_content status.read (codes "READ") refl) (word_content status.write (codes "WRITE") refl))
    (word_content status.visible (codes "VISIBLE") refl)) (word_content status.fixed_minor (codes "FIXED_MINOR") refl))
    (word_content status.pvmove (codes "PVMOVE") refl)) (word_content status.locked (codes "LOCKED") refl))
    (word_content status.notsynced (codes "NOTSYNCED") refl)

pub vg_words-content : (status : VgStatus) → AreContents (vg_words status)
unfolding kind
vg_words-content status =
    both (both (word_content status.resizeable (codes "RESIZEABLE") refl) (word_content status.read (codes "READ") refl))
    (word_content status.write (codes "WRITE") refl)

-- ---- a physical volume

pub pv_fits : (pv : Pv) → IsPv pv → FitsIn 0 (pv_body pv)
unfolding kind
pv_fits pv h = record {
  later = codes "pe_count" ∷ codes "pe_start" ∷ codes "dev_size" ∷ codes "flags" ∷ codes "status" ∷ codes "device" ∷ codes "id" ∷ [];
  fits =
      fits_text (codes "id") (hyphen_form pv.id) (key_named (codes "id") refl refl) refl h.id_again.content
      (fits_text (codes "device") pv.device (key_named (codes "device") refl refl) refl h.device_content
      (fits_words (codes "status") (word_if pv.allocatable (codes "ALLOCATABLE")) (key_named (codes "status") refl refl) refl
      (word_content pv.allocatable (codes "ALLOCATABLE") refl).each
      (fits_words (codes "flags") (word_if pv.missing (codes "MISSING")) (key_named (codes "flags") refl refl) refl
      (word_content pv.missing (codes "MISSING") refl).each
      (fits_number (codes "dev_size") pv.dev_size (key_named (codes "dev_size") refl refl) refl h.size_fits
      (fits_number (codes "pe_start") pv.pe_start (key_named (codes "pe_start") refl refl) refl h.start_fits
      (fits_number (codes "pe_count") pv.pe_count (key_named (codes "pe_count") refl refl) refl h.count_fits fits_none))))));
}

-- ---- a segment

legs_can : (group : Group) (legs : List Leg) → Each (IsLeg group) legs → CanPrintAll (flat_map (pair_of group) legs)
legs_can group [] h = tt
legs_can group (leg ∷ legs) h = (h.0.content, (h.0.first_fits, legs_can group legs h.1))

legs_small : (group : Group) (legs : List Leg) → Each (IsLeg group) legs → list_all fits_scalar (flat_map (pair_of group) legs) ≡ true
legs_small group [] h = refl
legs_small group (leg ∷ legs) h = rw (lt-ltb leg.first (2 ^ 64) h.0.first_fits, legs_small group legs h.1) refl

striped_fits : (group : Group) (start count stripe : ℕ) (legs : List Leg) (shown : Bool) → start < 2 ^ 64 → count < 2 ^ 64 → stripe < 2 ^ 64
    → IsLegs group legs
    → FitsIn 0 (striped_body start count (length legs) stripe (flat_map (pair_of group) legs) shown)
unfolding kind
striped_fits group start count stripe legs true start_fits count_fits stripe_fits h = record {
  later = codes "stripes" ∷ codes "stripe_size" ∷ codes "stripe_count" ∷ codes "type" ∷ codes "extent_count" ∷ codes "start_extent" ∷ [];
  fits =
      fits_number (codes "start_extent") start (key_named (codes "start_extent") refl refl) refl start_fits
      (fits_number (codes "extent_count") count (key_named (codes "extent_count") refl refl) refl count_fits
      (fits_text (codes "type") (codes "striped") (key_named (codes "type") refl refl) refl refl
      (fits_number (codes "stripe_count") (length legs) (key_named (codes "stripe_count") refl refl) refl h.count_fits
      (fits_number (codes "stripe_size") stripe (key_named (codes "stripe_size") refl refl) refl stripe_fits
      (fits_assign (codes "stripes") (Many (flat_map (pair_of group) legs)) refl
      (key_named (codes "stripes") refl refl, legs_can group legs h.each) (legs_small group legs h.each) fits_none)))));
}
striped_fits group start count stripe legs false start_fits count_fits stripe_fits h = record {
  later = codes "stripes" ∷ codes "stripe_count" ∷ codes "type" ∷ codes "extent_count" ∷ codes "start_extent" ∷ [];
  fits =
      fits_number (codes "start_extent") start (key_named (codes "start_extent") refl refl) refl start_fits
      (fits_number (codes "extent_count") count (key_named (codes "extent_count") refl refl) refl count_fits
      (fits_text (codes "type") (codes "striped") (key_named (codes "type") refl refl) refl refl
      (fits_number (codes "stripe_count") (length legs) (key_named (codes "stripe_count") refl refl) refl h.count_fits
      (fits_assign (codes "stripes") (Many (flat_map (pair_of group) legs)) refl
      (key_named (codes "stripes") refl refl, legs_can group legs h.each) (legs_small group legs h.each) fits_none))));
}

mirror_fits : (group : Group) (start count region : ℕ) (moved : Option ℕ) (legs : List Leg) → start < 2 ^ 64 → count < 2 ^ 64
    → region < 2 ^ 64 → FitsIfThere moved → IsLegs group legs
    → FitsIn 0 (segment_body group (record { start = start; count = count; kind = Mirror region moved legs }))
unfolding kind
mirror_fits group start count region None legs start_fits count_fits region_fits moved_fits h = record {
  later = codes "mirrors" ∷ codes "region_size" ∷ codes "mirror_count" ∷ codes "type" ∷ codes "extent_count" ∷ codes "start_extent" ∷ [];
  fits =
      fits_number (codes "start_extent") start (key_named (codes "start_extent") refl refl) refl start_fits
      (fits_number (codes "extent_count") count (key_named (codes "extent_count") refl refl) refl count_fits
      (fits_text (codes "type") (codes "mirror") (key_named (codes "type") refl refl) refl refl
      (fits_number (codes "mirror_count") (length legs) (key_named (codes "mirror_count") refl refl) refl h.count_fits
      (fits_number (codes "region_size") region (key_named (codes "region_size") refl refl) refl region_fits
      (fits_assign (codes "mirrors") (Many (flat_map (pair_of group) legs)) refl
      (key_named (codes "mirrors") refl refl, legs_can group legs h.each) (legs_small group legs h.each) fits_none)))));
}
mirror_fits group start count region (Some moved) legs start_fits count_fits region_fits moved_fits h = record {
  later =
      codes "mirrors" ∷ codes "extents_moved" ∷ codes "region_size" ∷ codes "mirror_count" ∷ codes "type" ∷ codes "extent_count"
      ∷ codes "start_extent" ∷ [];
  fits =
      fits_number (codes "start_extent") start (key_named (codes "start_extent") refl refl) refl start_fits
      (fits_number (codes "extent_count") count (key_named (codes "extent_count") refl refl) refl count_fits
      (fits_text (codes "type") (codes "mirror") (key_named (codes "type") refl refl) refl refl
      (fits_number (codes "mirror_count") (length legs) (key_named (codes "mirror_count") refl refl) refl h.count_fits
      (fits_number (codes "region_size") region (key_named (codes "region_size") refl refl) refl region_fits
      (fits_number (codes "extents_moved") moved (key_named (codes "extents_moved") refl refl) refl moved_fits
      (fits_assign (codes "mirrors") (Many (flat_map (pair_of group) legs)) refl
      (key_named (codes "mirrors") refl refl, legs_can group legs h.each) (legs_small group legs h.each) fits_none))))));
}

kind_fits : (group : Group) (start count : ℕ) (kind : SegKind) → start < 2 ^ 64 → count < 2 ^ 64 → IsKind group kind
    → FitsIn 0 (segment_body group (record { start = start; count = count; kind = kind }))
kind_fits group start count (Striped stripe legs) start_fits count_fits h =
    striped_fits group start count stripe legs (is_shown (length legs) stripe) start_fits count_fits h.0 h.1
kind_fits group start count (Mirror region moved legs) start_fits count_fits h =
    mirror_fits group start count region moved legs start_fits count_fits h.0 h.1 h.2

pub segment_fits : (group : Group) (segment : Segment) → IsSegment group segment → FitsIn 0 (segment_body group segment)
segment_fits group segment h = kind_fits group segment.start segment.count segment.kind h.start_fits h.count_fits h.kind_is
