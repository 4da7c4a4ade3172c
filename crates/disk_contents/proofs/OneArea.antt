-- The header sector of a metadata area has one answer.
use Rattle.std.proofs.Common.{◌≡◌, ℕ, ◌/◌, Result, Ok, Err, List, [], ◌∷◌, All, map, refl, sym, ap, subst, ◌∙◌}
use Rattle.std.proofs.lemmas.List.Elements.{All-head, All-tail}
use Rattle.mda_header.specs.declared.header.MdaHeader.{MdaHeader}
use Rattle.mda_header.specs.declared.refusal.MdaRefusal.{MdaRefusal}
use Rattle.mda_header.specs.Header.{IsEntry}
use Rattle.mda_header.proofs.Fields.{one_reading}
use Rattle.mda_header.proofs.OneEntry.{one_entry}
use Rattle.mda_header.proofs.OneRefusal.{header_or_refusal, one_refusal}
use Rattle.pv_header.specs.declared.extent_list.Extent.{Extent}
use Rattle.disk_contents.specs.declared.contents.AreaFound.{AreaFound}
use Rattle.disk_contents.specs.Contents.{AreAreasFound, IsAreaFound, IsMdaFound}

one_found : (sector : List ℕ) (area : Extent) (a b : Result MdaHeader MdaRefusal) → IsMdaFound sector area a → IsMdaFound sector area b
    → a ≡ b
one_found sector area (Ok g) (Ok h) is is' = ap (λ (header : MdaHeader). Ok header) (one_reading sector g h is.0 is'.0)
one_found sector area (Ok g) (Err r) is is' = absurd (header_or_refusal sector area.offset area.size g r is.0 is.1 is.2 is')
one_found sector area (Err r) (Ok h) is is' = absurd (header_or_refusal sector area.offset area.size h r is'.0 is'.1 is'.2 is)
one_found sector area (Err r) (Err q) is is' =
    ap (λ (refusal : MdaRefusal). Err refusal) (one_refusal sector area.offset area.size r q is is')

one_area : (sector_at : ℕ → List ℕ) (a b : AreaFound) → a.area ≡ b.area → IsAreaFound sector_at a → IsAreaFound sector_at b → a ≡ b
one_area sector_at a b same is is' =
    let sector : List ℕ = sector_at (b.area.offset / 512) in
    let here : IsMdaFound sector b.area a.header × IsEntry sector b.area.offset b.area.size a.entry =
    subst (λ (e : Extent). IsMdaFound (sector_at (e.offset / 512)) e a.header
    × IsEntry (sector_at (e.offset / 512)) e.offset e.size a.entry) same is
    in
    λ i. record {
      area = same i;
      header = one_found sector b.area a.header b.header here.0 is'.0 i;
      entry = one_entry sector b.area.offset b.area.size a.entry b.entry here.1 is'.1 i;
    }

same_head : (a b : Extent) (xs ys : List Extent) → a ∷ xs ≡ b ∷ ys → a ≡ b
same_head a b xs ys e = cc

same_tail : (a b : Extent) (xs ys : List Extent) → a ∷ xs ≡ b ∷ ys → xs ≡ ys
same_tail a b xs ys e = cc

abbrev areas_of : List AreaFound → List Extent
areas_of all = map (λ (found : AreaFound). found.area) all

one_list : (sector_at : ℕ → List ℕ) (xs ys : List AreaFound) → areas_of xs ≡ areas_of ys → All (IsAreaFound sector_at) xs
    → All (IsAreaFound sector_at) ys → xs ≡ ys
one_list sector_at [] [] same is is' = refl
one_list sector_at [] (y ∷ ys) same is is' = absurd cc
one_list sector_at (x ∷ xs) [] same is is' = absurd cc
one_list sector_at (x ∷ xs) (y ∷ ys) same is is' =
    let head : x ≡ y =
    one_area sector_at x y (same_head x.area y.area (areas_of xs) (areas_of ys) same) (All-head (IsAreaFound sector_at) x xs is)
    (All-head (IsAreaFound sector_at) y ys is') in
    let tail : xs ≡ ys =
    one_list sector_at xs ys (same_tail x.area y.area (areas_of xs) (areas_of ys) same) (All-tail (IsAreaFound sector_at) x xs is)
    (All-tail (IsAreaFound sector_at) y ys is') in
    λ i. head i ∷ tail i

-- the areas of a disk are found in one way
pub one_areas : (sector_at : ℕ → List ℕ) (areas : List Extent) (xs ys : List AreaFound) → AreAreasFound sector_at areas xs
    → AreAreasFound sector_at areas ys → xs ≡ ys
one_areas sector_at areas xs ys is is' = one_list sector_at xs ys (is.in_order ∙ sym is'.in_order) is.each is'.each
