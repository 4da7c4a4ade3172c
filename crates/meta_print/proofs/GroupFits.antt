-- What is printed of a group keeps the limits of a text.
use Rattle.std.proofs.Common.{◌≡◌, ℕ, suc, ◌+◌, ◌<◌, ◌≤◌, ◌^◌, true, false, List, [], ◌∷◌, ◌++◌, length, map, refl, ap, arith}
use Rattle.std.specs.Prelude.{nat_eq, flat_map, codes}
use Rattle.std.specs.Char.{is_ascii_digit}
use Rattle.std.specs.Fmt.{decimal}
use Rattle.std.specs.List.{list_all, AllByRecursion as Each}
use Rattle.std.specs.Cmp.Lexicographic.{pointwise}
use Rattle.std.proofs.lemmas.Bool.{or_from, ne_eqb, and_parts}
use Rattle.std.proofs.lemmas.Bool.Decides.{nat_tests}
use Rattle.conf_text.specs.Bytes.{kind}
use Rattle.conf_text.specs.Entries.{ConfEntry, KeepsLimits, IsBalanced}
use Rattle.conf_text.specs.Grammar.{is_name, IsName}
use Rattle.conf_text.specs.Printed.{CanPrint}
use Rattle.lvm_id.specs.LvmId.{hyphen_form}
use Rattle.meta_model.specs.declared.group.Group.{Group}
use Rattle.meta_model.specs.declared.pv.Pv.{Pv}
use Rattle.meta_model.specs.declared.lv.Lv.{Lv}
use Rattle.meta_model.specs.declared.segment.Segment.{Segment}
use Rattle.meta_print.specs.Layout.{section, lv_words, vg_words, segments_entries, pv_entries, lv_entries, lvs_entries, trailer, tree_of}
use Rattle.meta_print.specs.Layout.{backup_of}
use Rattle.meta_print.proofs.Printable.{IsSegment, IsLv, IsPv, AreNames, IsPrintable}
use Rattle.meta_print.proofs.NamesOfText.{volume_name-name, group_name-name, group_name-beside, differ_back, IsBeside}
use Rattle.meta_print.proofs.Numbered.{numbered, decimal_digits, numbered_differ}
use Rattle.meta_print.proofs.PvAgain.{pv_body}
use Rattle.meta_print.proofs.SegmentAgain.{segment_body}
use Rattle.meta_print.proofs.LvAgain.{lv_body}
use Rattle.meta_print.proofs.GroupAgain.{group_body}
use Rattle.meta_print.proofs.VolumesAgain.{row_sections}
use Rattle.meta_print.proofs.Limits.{Fits, FitsIn, fits_none, fits_deeper, fits_both, fits_section, fits_number, fits_text, fits_words}
use Rattle.meta_print.proofs.Limits.{key_named, has_name}
use Rattle.meta_print.proofs.Fitting.{lv_words-content, vg_words-content, pv_fits, segment_fits}

-- ---- the names of segments

digit_name : (b : ℕ) → is_ascii_digit b ≡ true → is_name (kind b) ≡ true
unfolding kind
digit_name b h = rw h refl

digits_name : (ds : List ℕ) → list_all is_ascii_digit ds ≡ true → list_all (λ b. is_name (kind b)) ds ≡ true
digits_name [] h = refl
digits_name (d ∷ ds) h =
    let parts : (is_ascii_digit d ≡ true) × (list_all is_ascii_digit ds ≡ true) =
    and_parts (is_ascii_digit d) (list_all is_ascii_digit ds) h in
    rw (digit_name d parts.0, digits_name ds parts.1) refl

-- seven letters before digits
lettered : (ds : List ℕ) → list_all (λ b. is_name (kind b)) ds ≡ true → list_all (λ b. is_name (kind b)) (codes "segment" ++ ds) ≡ true
unfolding kind
lettered ds h = h

numbered_name : (at : ℕ) → at < 2 ^ 64 → IsName (numbered at)
numbered_name at fits =
    key_named (numbered at) (ne_eqb (length (numbered at)) 0 (λ e. omega (arith, e)))
    (lettered (decimal at) (digits_name (decimal at) (decimal_digits at fits)))

no_count_by : (ds : List ℕ) → list_all is_ascii_digit ds ≡ true → pointwise nat_eq ds (codes "_count") ≡ false
no_count_by [] h = refl
no_count_by (d ∷ ds) h =
    let parts : (is_ascii_digit d ≡ true) × (list_all is_ascii_digit ds ≡ true) =
    and_parts (is_ascii_digit d) (list_all is_ascii_digit ds) h in
    let digit : is_ascii_digit d ≡ true = parts.0 in
    let other : nat_eq d 95 ≡ false = grind (arith, nat_tests) in
    rw other refl

-- the segments from this one on have other names
abbrev AreFree : ℕ → List (List ℕ) → Type 0
AreFree at names = (m : ℕ) → at ≤ m → m < 2 ^ 64 → has_name names (numbered m) ≡ false

abbrev lv_names : List (List ℕ)
lv_names = codes "segment_count" ∷ codes "creation_host" ∷ codes "creation_time" ∷ codes "flags" ∷ codes "status" ∷ codes "id" ∷ []

free_first : AreFree 1 lv_names
free_first m some fits =
    or_from (pointwise nat_eq (numbered m) (codes "segment_count")) _ (no_count_by (decimal m) (decimal_digits m fits)) refl

free_next : (at : ℕ) (names : List (List ℕ)) → at < 2 ^ 64 → AreFree at names → AreFree (at + 1) (numbered at ∷ names)
free_next at names small free m above fits =
    or_from (pointwise nat_eq (numbered m) (numbered at)) (has_name names (numbered m))
    (numbered_differ m at fits small (λ e. omega (arith, e, above))) (free m (omega arith) fits)

-- ---- a logical volume

abbrev with_segments : ℕ → List Segment → List (List ℕ) → List (List ℕ)
with_segments at [] names = names
with_segments at (segment ∷ segments) names = with_segments (at + 1) segments (numbered at ∷ names)

segments_fit : (group : Group) (at : ℕ) (segments : List Segment) (names : List (List ℕ)) → at + length segments ≤ 2 ^ 64 → AreFree at names
    → Each (IsSegment group) segments
    → Fits 1 names (with_segments at segments names) (segments_entries group at segments)
segments_fit group at [] names room free h = fits_none
segments_fit group at (segment ∷ segments) names room free h =
    let small : at < 2 ^ 64 = omega (arith, room) in
    fits_both
    (fits_section (numbered at) (segment_body group segment) (numbered_name at small) (free at (omega arith) small)
    (segment_fits group segment h.0).fits)
    (segments_fit group (at + 1) segments (numbered at ∷ names) (omega (arith, room)) (free_next at names small free) h.1)

lv_fits : (group : Group) (lv : Lv) → IsLv group lv → FitsIn 1 (lv_body group lv)
unfolding kind
lv_fits group lv h = record {
  later = with_segments 1 lv.segments lv_names;
  fits =
      fits_text (codes "id") (hyphen_form lv.id) (key_named (codes "id") refl refl) refl h.id_again.content
      (fits_words (codes "status") (lv_words lv.status) (key_named (codes "status") refl refl) refl (lv_words-content lv.status).each
      (fits_words (codes "flags") [] (key_named (codes "flags") refl refl) refl tt
      (fits_number (codes "creation_time") lv.created (key_named (codes "creation_time") refl refl) refl h.created_fits
      (fits_text (codes "creation_host") lv.host (key_named (codes "creation_host") refl refl) refl h.host_content
      (fits_number (codes "segment_count") (length lv.segments) (key_named (codes "segment_count") refl refl) refl h.count_fits
      (segments_fit group 1 lv.segments lv_names (omega (arith, h.count_fits)) free_first h.each))))));
}

-- ---- volumes

-- the names of a section, the last first
abbrev with_names : List (List ℕ) → List (List ℕ) → List (List ℕ)
with_names taken [] = taken
with_names taken (name ∷ names) = with_names (name ∷ taken) names

rows_fit : {A : Type 0} (deep : ℕ) (body : A → List ConfEntry) (taken : List (List ℕ)) (rows : List (List ℕ × A))
    → AreNames taken (map (λ row. row.0) rows)
    → Each (λ (row : List ℕ × A). FitsIn deep (body row.1)) rows
    → Fits (suc deep) taken (with_names taken (map (λ row. row.0) rows)) (row_sections body rows)
rows_fit deep body taken [] names h = fits_none
rows_fit deep body taken (row ∷ rows) names h =
    fits_both (fits_section row.0 (body row.1) (volume_name-name row.0 names.0) names.1 h.0.fits)
    (rows_fit deep body (row.0 ∷ taken) rows names.2 h.1)

pvs_fit : (pvs : List (List ℕ × Pv)) → Each (λ (pv : List ℕ × Pv). IsPv pv.1) pvs
    → Each (λ (row : List ℕ × Pv). FitsIn 0 (pv_body row.1)) pvs
pvs_fit [] h = tt
pvs_fit (pv ∷ pvs) h = (pv_fits pv.1 h.0, pvs_fit pvs h.1)

lvs_fit : (group : Group) (lvs : List (List ℕ × Lv)) → Each (λ (lv : List ℕ × Lv). IsLv group lv.1) lvs
    → Each (λ (row : List ℕ × Lv). FitsIn 1 (lv_body group row.1)) lvs
lvs_fit group [] h = tt
lvs_fit group (lv ∷ lvs) h = (lv_fits group lv.1 h.0, lvs_fit group lvs h.1)

lvs_entries-fit : (group : Group) (names : List (List ℕ)) (lvs : List (List ℕ × Lv)) → has_name names (codes "logical_volumes") ≡ false
    → AreNames [] (map (λ lv. lv.0) lvs)
    → Each (λ (lv : List ℕ × Lv). IsLv group lv.1) lvs → (later : List (List ℕ)) × Fits 3 names later (lvs_entries group lvs)
unfolding kind
lvs_entries-fit group names [] fresh named h = (names, fits_none)
lvs_entries-fit group names (lv ∷ lvs) fresh named h = (
  codes "logical_volumes" ∷ names,
  fits_section (codes "logical_volumes") (flat_map (lv_entries group) (lv ∷ lvs))
      (key_named (codes "logical_volumes") refl refl) fresh (rows_fit 1 (lv_body group) [] (lv ∷ lvs) named (lvs_fit group (lv ∷ lvs) h)),
)

-- ---- the group

abbrev group_names : List (List ℕ)
group_names =
    codes "physical_volumes" ∷ codes "metadata_copies" ∷ codes "max_pv" ∷ codes "max_lv" ∷ codes "extent_size" ∷ codes "flags"
    ∷ codes "status" ∷ codes "format" ∷ codes "seqno" ∷ codes "id" ∷ []

pvs_section-fits : (group : Group) (names : List (List ℕ)) → has_name names (codes "physical_volumes") ≡ false → IsPrintable group
    → Fits 3 names (codes "physical_volumes" ∷ names) (section (codes "physical_volumes") (flat_map pv_entries group.pvs))
unfolding kind
pvs_section-fits group names fresh h =
    fits_deeper 1 (fits_section (codes "physical_volumes") (flat_map pv_entries group.pvs) (key_named (codes "physical_volumes") refl refl)
    fresh (rows_fit 0 pv_body [] group.pvs h.pv_names (pvs_fit group.pvs h.each_pv)))

group_fits : (group : Group) → IsPrintable group → FitsIn 3 (group_body group)
unfolding kind
group_fits group h =
    let lvs : (later : List (List ℕ)) × Fits 3 group_names later (lvs_entries group group.lvs) =
    lvs_entries-fit group group_names group.lvs refl h.lv_names h.each_lv in
    record {
      later = lvs.0;
      fits =
          fits_text (codes "id") (hyphen_form group.id) (key_named (codes "id") refl refl) refl h.id_again.content
          (fits_number (codes "seqno") group.seqno (key_named (codes "seqno") refl refl) refl h.seqno_fits
          (fits_text (codes "format") (codes "lvm2") (key_named (codes "format") refl refl) refl refl
          (fits_words (codes "status") (vg_words group.status) (key_named (codes "status") refl refl) refl
          (vg_words-content group.status).each
          (fits_words (codes "flags") [] (key_named (codes "flags") refl refl) refl tt
          (fits_number (codes "extent_size") group.extent_size (key_named (codes "extent_size") refl refl) refl h.extent_fits
          (fits_number (codes "max_lv") group.max_lv (key_named (codes "max_lv") refl refl) refl h.max_lv_fits
          (fits_number (codes "max_pv") group.max_pv (key_named (codes "max_pv") refl refl) refl h.max_pv_fits
          (fits_number (codes "metadata_copies") group.copies (key_named (codes "metadata_copies") refl refl) refl h.copies_fits
          (fits_both (pvs_section-fits group _ refl h) lvs.1)))))))));
    }

-- ---- the whole text

-- none of these names is that of a key beside the group
record AreBeside (names : List (List ℕ)) : Type 0 where
  no_contents : has_name names (codes "contents") ≡ false
  no_version : has_name names (codes "version") ≡ false
  no_description : has_name names (codes "description") ≡ false
  no_host : has_name names (codes "creation_host") ≡ false
  no_time : has_name names (codes "creation_time") ≡ false

abbrev with_trailer : List (List ℕ) → List (List ℕ)
with_trailer names = codes "creation_time" ∷ codes "creation_host" ∷ codes "description" ∷ codes "version" ∷ codes "contents" ∷ names

trailer_fits : (names : List (List ℕ)) (now : ℕ) → AreBeside names → now < 2 ^ 64 → Fits 4 names (with_trailer names) (trailer now)
unfolding kind
trailer_fits names now beside small =
    fits_text (codes "contents") (codes "Text Format Volume Group") (key_named (codes "contents") refl refl) beside.no_contents refl
    (fits_number (codes "version") 1 (key_named (codes "version") refl refl) beside.no_version (omega arith)
    (fits_text (codes "description") [] (key_named (codes "description") refl refl) beside.no_description refl
    (fits_text (codes "creation_host") (codes "localhost") (key_named (codes "creation_host") refl refl) beside.no_host refl
    (fits_number (codes "creation_time") now (key_named (codes "creation_time") refl refl) beside.no_time small fits_none))))

beside_group : (name : List ℕ) → IsBeside name → AreBeside (name ∷ [])
beside_group name h = record {
  no_contents = or_from _ false (differ_back name (codes "contents") h.no_contents) refl;
  no_version = or_from _ false (differ_back name (codes "version") h.no_version) refl;
  no_description = or_from _ false (differ_back name (codes "description") h.no_description) refl;
  no_host = or_from _ false (differ_back name (codes "creation_host") h.no_host) refl;
  no_time = or_from _ false (differ_back name (codes "creation_time") h.no_time) refl;
}

beside_trailer : (name : List ℕ) → IsBeside name → has_name (with_trailer []) name ≡ false
beside_trailer name h = rw (h.no_time, h.no_host, h.no_description, h.no_version, h.no_contents) refl

-- it can be printed, is balanced and keeps the limits
pub record IsSound (es : List ConfEntry) : Type 0 where
  pub can : CanPrint es
  pub balanced : IsBalanced es
  pub limits : KeepsLimits es

sound_by : (later : List (List ℕ)) (es : List ConfEntry) → Fits 4 [] later es → IsSound es
sound_by later es fits = record { can = fits.can; balanced = ap length (fits.after []); limits = fits.kept [] (omega arith) }

pub tree_sound : (group : Group) (now : ℕ) → now < 2 ^ 64 → IsPrintable group → IsSound (tree_of group now)
tree_sound group now small h =
    sound_by (with_trailer (group.name ∷ [])) (tree_of group now)
    (fits_both (fits_section group.name (group_body group) (group_name-name group.name h.name_is) refl (group_fits group h).fits)
    (trailer_fits (group.name ∷ []) now (beside_group group.name (group_name-beside group.name h.name_is)) small))

pub backup_sound : (group : Group) (now : ℕ) → now < 2 ^ 64 → IsPrintable group → IsSound (backup_of group now)
backup_sound group now small h =
    sound_by (group.name ∷ with_trailer []) (backup_of group now)
    (fits_both (trailer_fits [] now (record {
      no_contents = refl;
      no_version = refl;
      no_description = refl;
      no_host = refl;
      no_time = refl;
    }) small)
    (fits_section group.name (group_body group) (group_name-name group.name h.name_is)
    (beside_trailer group.name (group_name-beside group.name h.name_is)) (group_fits group h).fits))
