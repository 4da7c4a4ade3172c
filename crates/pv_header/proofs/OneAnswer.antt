-- A sector has one header at most, and one answer: but for the want of memory, no two answers fit it.
use Rattle.std.proofs.Common.{◌≡◌, ℕ, ◌+◌, ◌*◌, ◌≤◌, Option, Some, None, Result, Ok, Err, List, [], ◌∷◌, ◌++◌, length, find, refl, sym, ap}
use Rattle.std.proofs.Common.{subst, ◌∙◌, arith, ◌⊎◌, inl, inr, MatchResult, slice_range}
use Rattle.std.proofs.lemmas.Bool.{cases_lt}
use Rattle.std.proofs.lemmas.List.{ext_get_or}
use Rattle.std.proofs.lemmas.Option.{get_or_from_slice_get}
use Rattle.std.specs.Option.{option_map}
use Rattle.sector_base.specs.Fields.{field}
use Rattle.lvm_id.specs.LvmId.{IsId, IsFirstMisfit, fits_plain}
use Rattle.pv_header.specs.declared.extent_list.Extent.{Extent}
use Rattle.pv_header.specs.declared.header.PvHeader.{PvHeader}
use Rattle.pv_header.specs.declared.refusal.PvRefusal.{PvRefusal}
use Rattle.pv_header.specs.declared.refusal.PvRefusal.TheVariants.{NoMemory, BadId, ListUnended, AreaOutside, AreaShape, AreasOverlap}
use Rattle.pv_header.specs.declared.refusal.PvRefusal.TheVariants.{Bootloader}
use Rattle.pv_header.specs.Areas.{is_outside, is_misshapen, first_overlap}
use Rattle.pv_header.specs.Extents.{IsListAt, IsUnended, extent_at}
use Rattle.pv_header.specs.PvHeader.{IsPvHeader, after_list, areas_place, extension_place}
use Rattle.pv_header.specs.PvRefusal.{Reads, Refuses, IsFirstUnended, offsets_of}
use Rattle.pv_header.specs.PvRefusal.IsFirstUnended.{data_list, metadata_list, bootloader_list}
use Rattle.pv_header.proofs.ReadLists.{BeginsList-goes_on, no_extent}

-- a list doesn't go on where another ends
not_shorter : (sector : List ℕ) (at : ℕ) (xs ys : List Extent) → IsListAt sector at xs → IsListAt sector at ys → length ys ≤ length xs
not_shorter sector at xs ys x y = elim (cases_lt (length xs) (length ys)) [
  | inl h ↦ absurd (BeginsList-goes_on sector at ys (record { pairs = y.pairs; offsets = y.offsets }) (length xs) h x.ended)
  | inr h ↦ h
]

IsListAt-unique : (sector : List ℕ) (at : ℕ) (xs ys : List Extent) → IsListAt sector at xs → IsListAt sector at ys → xs ≡ ys
IsListAt-unique sector at xs ys x y =
    let ys_in = not_shorter sector at xs ys x y in
    let xs_in = not_shorter sector at ys xs y x in
    ext_get_or no_extent xs ys (omega arith)
    (λ k h. get_or_from_slice_get xs k (extent_at sector (at + 16 * k)) no_extent (x.pairs k h)
    ∙ sym (get_or_from_slice_get ys k (extent_at sector (at + 16 * k)) no_extent (y.pairs k (omega arith))))

IsListAt-not_unended : (sector : List ℕ) (at : ℕ) (xs : List Extent) → IsListAt sector at xs → IsUnended sector at → ⊥
IsListAt-not_unended sector at xs x unended = unended (length xs) x.within x.ended

-- what stands where a list ends that is as long
IsListAt-after : (sector : List ℕ) (at : ℕ) (xs ys zs : List Extent) → xs ≡ ys → IsListAt sector (after_list at ys) zs
    → IsListAt sector (after_list at xs) zs
IsListAt-after sector at xs ys zs e z = subst (λ list. IsListAt sector (after_list at list) zs) (sym e) z

-- a sector has one header at most
pub IsPvHeader-unique : (sector : List ℕ) (g h : PvHeader) (b c : List Extent) → IsPvHeader sector g b → IsPvHeader sector h c
    → (g ≡ h) × (b ≡ c)
IsPvHeader-unique sector g h b c x y =
    let data_same = IsListAt-unique sector 72 g.data_areas h.data_areas x.data_at y.data_at in
    let place_same : areas_place g ≡ areas_place h = ap (after_list 72) data_same in
    let areas_same =
    IsListAt-unique sector (areas_place g) g.areas h.areas x.areas_at
    (subst (λ at. IsListAt sector at h.areas) (sym place_same) y.areas_at) in
    let extension_same : extension_place g ≡ extension_place h = λ i. after_list (place_same i) (areas_same i) in
    let id_same = sym x.id_at ∙ y.id_at in
    let device_same = sym x.device_at ∙ y.device_at in
    let version_same = sym x.version_at ∙ ap (field 4 sector) extension_same ∙ y.version_at in
    let flags_same = sym x.flags_at ∙ ap (λ at. field 4 sector (at + 4)) extension_same ∙ y.flags_at in
    let bootloader_same =
    IsListAt-unique sector (extension_place g + 8) b c x.bootloader_at
    (subst (λ at. IsListAt sector (at + 8) c) (sym extension_same) y.bootloader_at) in (
      λ i. record {
        id = id_same i;
        device_bytes = device_same i;
        data_areas = data_same i;
        areas = areas_same i;
        version = version_same i;
        flags = flags_same i;
      },
      bootloader_same,
    )

-- the id of a header is one
id_of_header : (sector : List ℕ) (h : PvHeader) (b : List Extent) → IsPvHeader sector h b → IsId (slice_range sector 32 64)
id_of_header sector h b x = subst IsId (sym x.id_at) x.id_valid

IsFirstMisfit-not_id : (text : List ℕ) (place : ℕ) → IsFirstMisfit fits_plain text place → IsId text → ⊥
IsFirstMisfit-not_id text place misfit id = let one = id.in_alphabet place 0 misfit.within in let other = misfit.misfit in cc

IsFirstMisfit-unique : (text : List ℕ) (m n : ℕ) → IsFirstMisfit fits_plain text m → IsFirstMisfit fits_plain text n → m ≡ n
IsFirstMisfit-unique text m n x y =
    let below = not_before m n x y in
    let above = not_before n m y x in
    omega arith
  where
    not_before : (m n : ℕ) → IsFirstMisfit fits_plain text m → IsFirstMisfit fits_plain text n → n ≤ m
    not_before m n x y = elim (cases_lt m n) [
      | inl h ↦ let one = y.before m h in let other = x.misfit in absurd cc
      | inr h ↦ h
    ]

-- where a list has no end, there is no header
IsFirstUnended-no_header : (sector : List ℕ) (n : ℕ) (h : PvHeader) (b : List Extent) → IsFirstUnended sector n → IsPvHeader sector h b → ⊥
IsFirstUnended-no_header sector _ h b (data_list unended) x = IsListAt-not_unended sector 72 h.data_areas x.data_at unended
IsFirstUnended-no_header sector _ h b (metadata_list data_areas data_at unended) x =
    let same = IsListAt-unique sector 72 data_areas h.data_areas data_at x.data_at in
    IsListAt-not_unended sector (after_list 72 data_areas) h.areas
    (IsListAt-after sector 72 data_areas h.data_areas h.areas same x.areas_at) unended
IsFirstUnended-no_header sector _ h b (bootloader_list data_areas areas data_at areas_at unended) x =
    let data_same = IsListAt-unique sector 72 data_areas h.data_areas data_at x.data_at in
    let areas_same =
    IsListAt-unique sector (after_list 72 data_areas) areas h.areas areas_at
    (IsListAt-after sector 72 data_areas h.data_areas h.areas data_same x.areas_at) in
    let place_same : after_list (after_list 72 data_areas) areas ≡ extension_place h =
    λ i. after_list (after_list 72 (data_same i)) (areas_same i) in
    IsListAt-not_unended sector (extension_place h + 8) b x.bootloader_at (subst (λ at. IsUnended sector (at + 8)) place_same unended)

-- the first list without an end is one
IsFirstUnended-unique : (sector : List ℕ) (m n : ℕ) → IsFirstUnended sector m → IsFirstUnended sector n → m ≡ n
IsFirstUnended-unique sector _ _ (data_list u) (data_list v) = refl
IsFirstUnended-unique sector _ _ (data_list u) (metadata_list data_areas data_at v) =
    absurd (IsListAt-not_unended sector 72 data_areas data_at u)
IsFirstUnended-unique sector _ _ (data_list u) (bootloader_list data_areas areas data_at areas_at v) =
    absurd (IsListAt-not_unended sector 72 data_areas data_at u)
IsFirstUnended-unique sector _ _ (metadata_list data_areas data_at u) (data_list v) =
    absurd (IsListAt-not_unended sector 72 data_areas data_at v)
IsFirstUnended-unique sector _ _ (metadata_list data_areas data_at u) (metadata_list data_areas' data_at' v) = refl
IsFirstUnended-unique sector _ _ (metadata_list xs data_at u) (bootloader_list ys areas data_at' areas_at v) =
    absurd (IsListAt-not_unended sector (after_list 72 xs) areas
    (IsListAt-after sector 72 xs ys areas (IsListAt-unique sector 72 xs ys data_at data_at') areas_at) u)
IsFirstUnended-unique sector _ _ (bootloader_list data_areas areas data_at areas_at u) (data_list v) =
    absurd (IsListAt-not_unended sector 72 data_areas data_at v)
IsFirstUnended-unique sector _ _ (bootloader_list ys areas data_at areas_at u) (metadata_list xs data_at' v) =
    absurd (IsListAt-not_unended sector (after_list 72 xs) areas
    (IsListAt-after sector 72 xs ys areas (IsListAt-unique sector 72 xs ys data_at' data_at) areas_at) v)
IsFirstUnended-unique sector _ _ (bootloader_list xs areas data_at areas_at u) (bootloader_list ys areas' data_at' areas_at' v) = refl

-- what the three tests of the areas make of a header's fields
verdict : Option Extent → Option Extent → Option (ℕ × ℕ) → PvHeader → List Extent → ℕ → Result PvHeader PvRefusal
verdict (Some area) misshapen overlap h b disk_bytes = Err (AreaOutside area.offset area.size disk_bytes)
verdict None (Some area) overlap h b disk_bytes = Err (AreaShape area.offset area.size)
verdict None None (Some pair) h b disk_bytes = Err (AreasOverlap pair.0 pair.1)
verdict None None None h [] disk_bytes = Ok h
verdict None None None h (area ∷ more) disk_bytes = Err (Bootloader area.offset)

verdict_of : ℕ → PvHeader → List Extent → Result PvHeader PvRefusal
verdict_of disk_bytes h b =
    verdict (find (is_outside disk_bytes) (h.data_areas ++ h.areas)) (find is_misshapen h.areas)
    (option_map offsets_of (first_overlap (h.data_areas ++ h.areas) disk_bytes)) h b disk_bytes

abbrev Answers : List ℕ → ℕ → Result PvHeader PvRefusal → Type 0
Answers sector disk_bytes r = MatchResult r (Reads sector disk_bytes) (Refuses sector disk_bytes)

abbrev no_memory : Result PvHeader PvRefusal
no_memory = Err NoMemory

-- the same verdict for the one header
same_verdict : (sector : List ℕ) (disk_bytes : ℕ) (g h : PvHeader) (b c : List Extent) (r : Result PvHeader PvRefusal)
    → IsPvHeader sector g b → IsPvHeader sector h c
    → r ≡ verdict_of disk_bytes g b → (r ≡ verdict_of disk_bytes h c) ⊎ (r ≡ no_memory)
same_verdict sector disk_bytes g h b c r x y e =
    let same = IsPvHeader-unique sector g h b c x y in
    inl (e ∙ (λ i. verdict_of disk_bytes (same.0 i) (same.1 i)))

-- each answer about a sector with a header is the verdict
answer_of_header : (sector : List ℕ) (disk_bytes : ℕ) (h : PvHeader) (b : List Extent) (r : Result PvHeader PvRefusal)
    → IsPvHeader sector h b → Answers sector disk_bytes r
    → (r ≡ verdict_of disk_bytes h b) ⊎ (r ≡ no_memory)
unfolding verdict_of verdict
answer_of_header sector disk_bytes h b (Ok g) x a =
    same_verdict sector disk_bytes g h [] b (Ok g) a.fields x
    (λ i. verdict (sym a.areas.inside i) (sym a.areas.well_shaped i) (option_map offsets_of (sym a.areas.apart i)) g [] disk_bytes)
answer_of_header sector disk_bytes h b (Err NoMemory) x a = inr refl
answer_of_header sector disk_bytes h b (Err (BadId place)) x a =
    absurd (IsFirstMisfit-not_id (slice_range sector 32 64) place a (id_of_header sector h b x))
answer_of_header sector disk_bytes h b (Err (ListUnended list)) x a = absurd (IsFirstUnended-no_header sector list h b a.1 x)
answer_of_header sector disk_bytes h b (Err (AreaOutside offset size bytes)) x (g, c, y, (e, said)) =
    same_verdict sector disk_bytes g h c b (Err (AreaOutside offset size bytes)) y x
    (ap (λ n. Err (AreaOutside offset size n)) said
    ∙ (λ i. verdict (sym e i) (find is_misshapen g.areas) (option_map offsets_of (first_overlap (g.data_areas ++ g.areas) disk_bytes)) g
    c disk_bytes))
answer_of_header sector disk_bytes h b (Err (AreaShape offset size)) x (g, c, y, (inside, e)) =
    same_verdict sector disk_bytes g h c b (Err (AreaShape offset size)) y x
    (λ i. verdict (sym inside i) (sym e i) (option_map offsets_of (first_overlap (g.data_areas ++ g.areas) disk_bytes)) g c disk_bytes)
answer_of_header sector disk_bytes h b (Err (AreasOverlap first second)) x (g, c, y, (inside, well_shaped, e)) =
    same_verdict sector disk_bytes g h c b (Err (AreasOverlap first second)) y x
    (λ i. verdict (sym inside i) (sym well_shaped i) (sym e i) g c disk_bytes)
answer_of_header sector disk_bytes h b (Err (Bootloader offset)) x (g, size, more, y, lie) =
    same_verdict sector disk_bytes g h (record { offset = offset; size = size } ∷ more) b (Err (Bootloader offset)) y x
    (λ i. verdict (sym lie.inside i) (sym lie.well_shaped i) (option_map offsets_of (sym lie.apart i)) g
    (record { offset = offset; size = size } ∷ more) disk_bytes)

-- the same answer, but for the want of memory
abbrev pub AreOne : Result PvHeader PvRefusal → Result PvHeader PvRefusal → Type 0
AreOne r s = (r ≡ s) ⊎ ((r ≡ no_memory) ⊎ (s ≡ no_memory))

both_verdicts : (v r s : Result PvHeader PvRefusal) → (r ≡ v) ⊎ (r ≡ no_memory) → (s ≡ v) ⊎ (s ≡ no_memory) → AreOne r s
both_verdicts v r s (inl e) (inl f) = inl (e ∙ sym f)
both_verdicts v r s (inr e) y = inr (inl e)
both_verdicts v r s (inl e) (inr f) = inr (inr f)

answers_of_header : (sector : List ℕ) (disk_bytes : ℕ) (h : PvHeader) (b : List Extent) (r s : Result PvHeader PvRefusal)
    → IsPvHeader sector h b
    → Answers sector disk_bytes r → Answers sector disk_bytes s → AreOne r s
answers_of_header sector disk_bytes h b r s x a a' =
    both_verdicts (verdict_of disk_bytes h b) r s (answer_of_header sector disk_bytes h b r x a)
    (answer_of_header sector disk_bytes h b s x a')

answers_of_bad_id : (sector : List ℕ) (disk_bytes place : ℕ) (s : Result PvHeader PvRefusal)
    → IsFirstMisfit fits_plain (slice_range sector 32 64) place
    → Answers sector disk_bytes s → AreOne (Err (BadId place)) s
answers_of_bad_id sector disk_bytes place (Ok h) misfit a =
    absurd (IsFirstMisfit-not_id (slice_range sector 32 64) place misfit (id_of_header sector h [] a.fields))
answers_of_bad_id sector disk_bytes place (Err NoMemory) misfit a = inr (inr refl)
answers_of_bad_id sector disk_bytes place (Err (BadId other)) misfit a =
    inl (ap (λ n. Err (BadId n)) (IsFirstMisfit-unique (slice_range sector 32 64) place other misfit a))
answers_of_bad_id sector disk_bytes place (Err (ListUnended list)) misfit a =
    absurd (IsFirstMisfit-not_id (slice_range sector 32 64) place misfit a.0)
answers_of_bad_id sector disk_bytes place (Err (AreaOutside offset size bytes)) misfit (h, b, x, _) =
    absurd (IsFirstMisfit-not_id (slice_range sector 32 64) place misfit (id_of_header sector h b x))
answers_of_bad_id sector disk_bytes place (Err (AreaShape offset size)) misfit (h, b, x, _) =
    absurd (IsFirstMisfit-not_id (slice_range sector 32 64) place misfit (id_of_header sector h b x))
answers_of_bad_id sector disk_bytes place (Err (AreasOverlap first second)) misfit (h, b, x, _) =
    absurd (IsFirstMisfit-not_id (slice_range sector 32 64) place misfit (id_of_header sector h b x))
answers_of_bad_id sector disk_bytes place (Err (Bootloader offset)) misfit (h, size, more, x, _) =
    absurd (IsFirstMisfit-not_id (slice_range sector 32 64) place misfit
    (id_of_header sector h (record { offset = offset; size = size } ∷ more) x))

answers_of_unended : (sector : List ℕ) (disk_bytes list : ℕ) (s : Result PvHeader PvRefusal) → IsId (slice_range sector 32 64)
    → IsFirstUnended sector list
    → Answers sector disk_bytes s → AreOne (Err (ListUnended list)) s
answers_of_unended sector disk_bytes list (Ok h) id unended a = absurd (IsFirstUnended-no_header sector list h [] unended a.fields)
answers_of_unended sector disk_bytes list (Err NoMemory) id unended a = inr (inr refl)
answers_of_unended sector disk_bytes list (Err (BadId place)) id unended a =
    absurd (IsFirstMisfit-not_id (slice_range sector 32 64) place a id)
answers_of_unended sector disk_bytes list (Err (ListUnended other)) id unended a =
    inl (ap (λ n. Err (ListUnended n)) (IsFirstUnended-unique sector list other unended a.1))
answers_of_unended sector disk_bytes list (Err (AreaOutside offset size bytes)) id unended (h, b, x, _) =
    absurd (IsFirstUnended-no_header sector list h b unended x)
answers_of_unended sector disk_bytes list (Err (AreaShape offset size)) id unended (h, b, x, _) =
    absurd (IsFirstUnended-no_header sector list h b unended x)
answers_of_unended sector disk_bytes list (Err (AreasOverlap first second)) id unended (h, b, x, _) =
    absurd (IsFirstUnended-no_header sector list h b unended x)
answers_of_unended sector disk_bytes list (Err (Bootloader offset)) id unended (h, size, more, x, _) =
    absurd (IsFirstUnended-no_header sector list h (record { offset = offset; size = size } ∷ more) unended x)

-- no two answers fit a sector
pub one_answer : (sector : List ℕ) (disk_bytes : ℕ) (r s : Result PvHeader PvRefusal)
    → MatchResult r (Reads sector disk_bytes) (Refuses sector disk_bytes)
    → MatchResult s (Reads sector disk_bytes) (Refuses sector disk_bytes) → (r ≡ s) ⊎ ((r ≡ Err NoMemory) ⊎ (s ≡ Err NoMemory))
one_answer sector disk_bytes (Ok h) s a a' = answers_of_header sector disk_bytes h [] (Ok h) s a.fields a a'
one_answer sector disk_bytes (Err NoMemory) s a a' = inr (inl refl)
one_answer sector disk_bytes (Err (BadId place)) s a a' = answers_of_bad_id sector disk_bytes place s a a'
one_answer sector disk_bytes (Err (ListUnended list)) s a a' = answers_of_unended sector disk_bytes list s a.0 a.1 a'
one_answer sector disk_bytes (Err (AreaOutside offset size bytes)) s a a' =
    answers_of_header sector disk_bytes a.0 a.1 (Err (AreaOutside offset size bytes)) s a.2 a a'
one_answer sector disk_bytes (Err (AreaShape offset size)) s a a' =
    answers_of_header sector disk_bytes a.0 a.1 (Err (AreaShape offset size)) s a.2 a a'
one_answer sector disk_bytes (Err (AreasOverlap first second)) s a a' =
    answers_of_header sector disk_bytes a.0 a.1 (Err (AreasOverlap first second)) s a.2 a a'
one_answer sector disk_bytes (Err (Bootloader offset)) s a a' =
    answers_of_header sector disk_bytes a.0 (record { offset = offset; size = a.1 } ∷ a.2) (Err (Bootloader offset)) s a.3 a a'
