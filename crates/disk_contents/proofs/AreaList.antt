-- The metadata areas: they begin on the disk, and are looked at one after another.
use Rattle.std.proofs.Common.{◌≡◌, ◌<◌, ◌≤◌, ℕ, ◌+◌, ◌*◌, ◌/◌, ◌++◌, false, List, [], ◌∷◌, All, get_or, length, map, drop, take, sym, ap}
use Rattle.std.proofs.Common.{subst, ◌∙◌, arith, lit<, length-append}
use Rattle.std.proofs.lemmas.Bool.Decides.{nat_tests}
use Rattle.std.proofs.lemmas.List.{get_or-append-add, map-append, take-append-drop, take_more}
use Rattle.std.proofs.lemmas.List.Elements.{All-push}
use Rattle.std.proofs.Math.Nat.{div-lt_iff_lt-mul}
use Rattle.sector_base.specs.declared.spans.Span.{Span}
use Rattle.disk_model.specs.Puts.{one_sector}
use Rattle.mda_header.specs.Header.{IsEntry}
use Rattle.pv_header.specs.declared.extent_list.Extent.{Extent}
use Rattle.pv_header.specs.Areas.{CanLie, is_misshapen, is_outside}
use Rattle.pv_header.proofs.Overlaps.{All-from_find}
use Rattle.disk_contents.specs.declared.contents.AreaFound.{AreaFound}
use Rattle.disk_contents.specs.Contents.{IsAreaFound, IsMdaFound}
use Rattle.disk_contents.specs.Reads.{area_spans}

begins_within : (disk : ℕ) (area : Extent) → is_outside (disk * 512) area ≡ false → is_misshapen area ≡ false → area.offset / 512 < disk
begins_within disk area inside shaped =
    let has_bytes : 1536 ≤ area.size = grind (arith, nat_tests) in
    let ends : area.offset + area.size ≤ disk * 512 = grind (arith, nat_tests) in
    (div-lt_iff_lt-mul (lit< tt)).1 (omega arith)

-- the header sector of each area that can lie on a disk is one of the disk's
pub areas_within : (data_areas areas : List Extent) (disk : ℕ) → CanLie data_areas areas (disk * 512)
    → All (λ area. area.offset / 512 < disk) areas
areas_within data_areas areas disk lie k d lt =
    let all = All-from_find (is_outside (disk * 512)) (data_areas ++ areas) lie.inside in
    let shaped = All-from_find is_misshapen areas lie.well_shaped in
    let there : length data_areas + k < length (data_areas ++ areas) = omega (arith, length-append data_areas areas) in
    let inside = all (length data_areas + k) d there in
    begins_within disk (get_or areas k d) (ap (is_outside (disk * 512)) (sym (get_or-append-add data_areas areas k d)) ∙ inside)
    (shaped k d lt)

-- what stands in an area's header sector, by its contents
pub area_found : (sector_at : ℕ → List ℕ) (found : AreaFound) (area : Extent) (sector : List ℕ) → found.area ≡ area
    → IsMdaFound sector area found.header → IsEntry sector area.offset area.size found.entry
    → sector ≡ sector_at (area.offset / 512) → IsAreaFound sector_at found
area_found sector_at found area sector same header entry at =
    subst (λ (e : Extent). IsMdaFound (sector_at (e.offset / 512)) e found.header
    × IsEntry (sector_at (e.offset / 512)) e.offset e.size found.entry) (sym same)
    (subst (λ (s : List ℕ). IsMdaFound s area found.header × IsEntry s area.offset area.size found.entry) at (header, entry))

abbrev area_of : AreaFound → Extent
area_of found = found.area

-- one area more
pub areas_more : (areas : List Extent) (i : ℕ) (d : Extent) (all new : List AreaFound) (found : AreaFound) → i < length areas
    → map (λ (f : AreaFound). f.area) all ≡ take i areas
    → found.area ≡ get_or areas i d → new ≡ all ++ found ∷ [] → map (λ (f : AreaFound). f.area) new ≡ take (i + 1) areas
areas_more areas i d all new found lt before is pushed =
    ap (map area_of) pushed
    ∙ map-append area_of all (found ∷ [])
    ∙ ap (λ (l : List Extent). l ++ found.area ∷ []) before
    ∙ ap (λ (e : Extent). take i areas ++ e ∷ []) is
    ∙ sym (take_more areas i d lt)

pub all_more : (sector_at : ℕ → List ℕ) (all new : List AreaFound) (found : AreaFound) → new ≡ all ++ found ∷ []
    → All (IsAreaFound sector_at) all → IsAreaFound sector_at found
    → All (IsAreaFound sector_at) new
all_more sector_at all new found pushed each is =
    subst (λ (l : List AreaFound). All (IsAreaFound sector_at) l) (sym pushed) (All-push (IsAreaFound sector_at) all found each is)

abbrev span_of : ℕ → Extent → Span
span_of pv area = one_sector pv (area.offset / 512)

-- the span of one area more
pub spans_more : (pv : ℕ) (areas : List Extent) (i : ℕ) (d : Extent) → i < length areas
    → area_spans pv (take (i + 1) areas) ≡ area_spans pv (take i areas) ++ one_sector pv ((get_or areas i d).offset / 512) ∷ []
spans_more pv areas i d lt = ap (map (span_of pv)) (take_more areas i d lt) ∙ map-append (span_of pv) (take i areas) (get_or areas i d ∷ [])

-- the spans of the areas before one, of that one and of those after it
pub spans_all : (pv : ℕ) (areas : List Extent) (i : ℕ) (d : Extent) → i < length areas
    → (area_spans pv (take i areas) ++ one_sector pv ((get_or areas i d).offset / 512) ∷ []) ++ area_spans pv (drop (i + 1) areas)
    ≡ area_spans pv areas
spans_all pv areas i d lt =
    ap (λ (l : List Span). l ++ area_spans pv (drop (i + 1) areas)) (sym (spans_more pv areas i d lt))
    ∙ sym (map-append (span_of pv) (take (i + 1) areas) (drop (i + 1) areas))
    ∙ ap (map (span_of pv)) (take-append-drop (i + 1) areas)
