-- The volumes of a group in which a visible volume has its first extents alone.
use Rattle.std.proofs.Common.{◌≡◌, ◌≤◌, ◌<◌, ℕ, zero, suc, ◌+◌, ◌*◌, true, false, List, ◌∷◌, map, take, Some}
use Rattle.std.proofs.Common.{refl, sym, ap, subst, ◌∙◌, arith}
use Rattle.std.specs.Prelude.{slice_get}
use Rattle.std.specs.List.{range_with_len}
use Rattle.std.proofs.lemmas.Nat.{mul-le}
use Rattle.std.proofs.lemmas.Option.{same_Some}
use Rattle.std.specs.Str.{bytes_eq}
use Rattle.meta_model.specs.Standing.{HasTree}
use Rattle.meta_model.specs.declared.lv.Lv.{Lv}
use Rattle.meta_print.proofs.GroupFrom.{printable}
use Rattle.meta_print.proofs.Printable.{IsPrintable}
use Rattle.volume_rules.specs.Extents.{extents_of}
use Rattle.volume_rules.specs.Rules.{IsAccepted}
use Rattle.volume_view.proofs.PrimariesStand.{primary_stands}
use Rattle.group_edits.proofs.OneNamed.{IsVisibleAt, visible_at}
use Rattle.group_edits.proofs.ShortFront.{fewer_extents}
use Rattle.group_edits.proofs.ShortenedPlaces.{front_most, primary_front, primary_others}
use Rattle.group_edits.specs.ShortenedVolume.{shortened, shortened_volume}
use Rattle.group_edits.specs.Visible.{visible_named}
use Rattle.vg_scan.specs.Versions.{Version}
use Rattle.volume_history.specs.Changing.{changed_named, cut_to}
use Rattle.volume_history.specs.Placed.{Place, place_of, places_of, volumes_of}
use Rattle.line_history.proofs.KeptVolumes.{KeepsDisks, place_kept, places_kept}
use Rattle.line_history.proofs.NamedChanges.{Row, volumes_changed}

-- functions that are equal on the front of a range
map_front : (f g : ℕ → Place) (from less more : ℕ) → less ≤ more → ((k : ℕ) → k < from + less → f k ≡ g k)
    → map f (range_with_len from less) ≡ take less (map g (range_with_len from more))
map_front f g from zero more within same = refl
map_front f g from (suc less) zero within same = absurd (omega (arith, within))
map_front f g from (suc less) (suc more) within same =
    ap (λ (x : Place). x ∷ map f (range_with_len (from + 1) less)) (same from (omega arith))
    ∙ ap (λ (l : List Place). g from ∷ l) (map_front f g (from + 1) less more (omega (arith, within)) (λ k lt. same k (omega (arith, lt))))

module _ (name : List ℕ) (left : ℕ) (before : Version) (disk_of : List ℕ) where
  abbrev after : Version
  after = record { group = shortened_volume name left before.group; disk_of = disk_of }

  -- how many sectors the volume keeps
  abbrev sectors : Lv → ℕ
  sectors lv = extents_of (shortened left lv) * before.group.extent_size

  module _ (accepted : IsAccepted before.group) (disks : KeepsDisks before after) (can : IsPrintable before.group) (v : ℕ × Lv)
      (found : visible_named before.group name ≡ Some v) (seen : v.1.status.visible ≡ true) where
    -- a row of another name has the same places
    places_other : (number : ℕ) (row : Row) → slice_get before.group.lvs number ≡ Some row → bytes_eq row.0 name ≡ false
        → places_of after number row.1 ≡ places_of before number row.1
    places_other number row there other =
        places_kept before after accepted disks refl number number row row.1 there refl
        (λ sector at is. primary_others before.group name left v accepted can found seen number sector at
        (λ r stands. subst (λ (x : Row). bytes_eq x.0 name ≡ false) (same_Some row r (sym there ∙ stands)) other) is)

    -- the volume has the places of its first sectors
    places_cut : (number : ℕ) (row : Row) → slice_get before.group.lvs number ≡ Some row → bytes_eq row.0 name ≡ true
        → places_of after number (shortened left row.1) ≡ take (sectors row.1) (places_of before number row.1)
    places_cut number row there same =
        let size : ℕ = before.group.extent_size in
        let fewer : sectors row.1 ≤ extents_of row.1 * size =
        mul-le (extents_of (shortened left row.1)) size (extents_of row.1) size (fewer_extents row.1.segments left) (omega arith) in
        let most : sectors row.1 ≤ left * size =
        mul-le (extents_of (shortened left row.1)) size left size (front_most row.1.segments left) (omega arith) in
        map_front (place_of after number) (place_of before number) 0 (sectors row.1) (extents_of row.1 * size) fewer
        (λ sector less.
        let at = primary_stands before.group number sector row accepted there (omega (arith, less, fewer)) in
        place_kept before after accepted disks refl number number sector at.0 at.1
        (primary_front before.group name left v accepted can found seen number row there same sector at.0 (omega (arith, less, most))
        at.1))

  -- so it is in the group
  pub volumes_shortened : IsAccepted before.group → KeepsDisks before after → HasTree before.group → (v : ℕ × Lv)
      → visible_named before.group name ≡ Some v
      → volumes_of (Some after) ≡ changed_named name (cut_to (sectors v.1)) (volumes_of (Some before))
  volumes_shortened accepted disks tree v found =
      let at : IsVisibleAt 0 name before.group.lvs v = visible_at before.group name v found in
      let seen : v.1.status.visible ≡ true = ap (λ (lv : Lv). lv.status.visible) (sym at.volume) ∙ at.visible in
      let can : IsPrintable before.group = printable before.group tree in
      volumes_changed name (λ (row : Row). (row.0, shortened left row.1)) (cut_to (sectors v.1)) before after v
      (record {
        rows = refl;
        seen = λ row. refl;
        kept = places_other accepted disks can v found seen;
        made = λ number row there same is.
            ap (λ (l : List Place). record { id = row.1.id; name = row.0; places = l })
            (places_cut accepted disks can v found seen number row there same
            ∙ ap (λ (x : ℕ × Lv). take (sectors x.1) (places_of before number row.1)) is);
      }) tree found
