-- The volumes of a group without a visible one.
use Rattle.std.proofs.Common.{◌≡◌, ◌<◌, ◌≤◌, ℕ, suc, ◌+◌, Bool, true, false, ◌&&◌, cond, List, [], ◌∷◌, Some, refl, sym, ap, ◌∙◌, arith}
use Rattle.std.specs.Prelude.{slice_get}
use Rattle.std.proofs.lemmas.Option.{same_Some}
use Rattle.std.specs.Str.{bytes_eq}
use Rattle.meta_model.specs.declared.lv.Lv.{Lv}
use Rattle.volume_rules.specs.Rules.{IsAccepted}
use Rattle.group_edits.proofs.RemovedPlaces.{primary_without}
use Rattle.group_edits.proofs.Renumbered.{extents_same}
use Rattle.group_edits.proofs.Staying.{new, next_going, next_staying, rows_after, rows_going, rows_staying}
use Rattle.group_edits.proofs.VisibleStay.{removed_goes, visible_stays}
use Rattle.group_edits.specs.Removing.{on_after, stays, without_volume}
use Rattle.group_edits.specs.Renumbered.{renumbered_lv}
use Rattle.group_edits.specs.Visible.{visible_from, visible_named}
use Rattle.vg_scan.specs.Versions.{Version}
use Rattle.volume_history.specs.Changing.{without_named}
use Rattle.volume_history.specs.Placed.{Place, PlacedVolume, placed_from, places_of, volumes_of}
use Rattle.line_history.proofs.KeptVolumes.{KeepsDisks, StandFrom, all_stand, first_stands, places_kept, rest_stand}

-- a volume that is found by its name stands no earlier
found_from : (name : List ℕ) (number : ℕ) (rows : List (List ℕ × Lv)) (v : ℕ × Lv) → visible_from number name rows ≡ Some v → number ≤ v.0
found_from name number [] v found = absurd cc
found_from name number (row ∷ rows) v found =
    by (row.1.status.visible && bytes_eq row.0 name) found (λ made. found_from name (number + 1) rows v made) where
      by : (b : Bool) → cond b (Some (number, row.1)) (visible_from (number + 1) name rows) ≡ Some v
          → (visible_from (number + 1) name rows ≡ Some v → number + 1 ≤ v.0) → number ≤ v.0
      by true made later = let at : number ≡ v.0 = ap (λ (x : ℕ × Lv). x.0) (same_Some (number, row.1) v made) in omega (arith, at)
      by false made later = let behind = later made in omega (arith, behind)

module _ (before : Version) (disk_of : List ℕ) (removed : ℕ) where
  abbrev after : Version
  after = record { group = without_volume before.group removed; disk_of = disk_of }

  abbrev stay : ℕ → Bool
  stay = stays before.group removed

  -- the volume of the row
  abbrev placed : ℕ → List ℕ × Lv → PlacedVolume
  placed number row = record { id = row.1.id; name = row.0; places = places_of before number row.1 }

  -- the volumes of those of these rows that stay
  abbrev left : ℕ → List (List ℕ × Lv) → List PlacedVolume
  left number rows = placed_from after (new stay number) (rows_after stay number rows)

  left_staying : (number : ℕ) (row : List ℕ × Lv) (rows : List (List ℕ × Lv)) → stay number ≡ true
      → left number (row ∷ rows) ≡ cond row.1.status.visible
      (record { id = row.1.id; name = row.0; places = places_of after (new stay number) (renumbered_lv (on_after stay) row.1) }
      ∷ left (number + 1) rows) (left (number + 1) rows)
  left_staying number row rows stayed =
      let volume : PlacedVolume =
      record { id = row.1.id; name = row.0; places = places_of after (new stay number) (renumbered_lv (on_after stay) row.1) } in
      let next : new stay number + 1 ≡ new stay (number + 1) =
      sym (next_staying stay number stayed) ∙ ap (new stay) (let e : suc number ≡ number + 1 = omega arith in e) in
      ap (placed_from after (new stay number)) (rows_staying stay number row rows stayed)
      ∙ ap (λ (n : ℕ). cond row.1.status.visible (volume ∷ placed_from after n (rows_after stay (number + 1) rows))
      (placed_from after n (rows_after stay (number + 1) rows))) next

  -- a row that goes leaves nothing
  left_going : (number : ℕ) (row : List ℕ × Lv) (rows : List (List ℕ × Lv)) → stay number ≡ false
      → left number (row ∷ rows) ≡ left (number + 1) rows
  left_going number row rows goes =
      let next : new stay number ≡ new stay (number + 1) =
      sym (next_going stay number goes) ∙ ap (new stay) (let e : suc number ≡ number + 1 = omega arith in e) in
      ap (placed_from after (new stay number)) (rows_going stay number row rows goes)
      ∙ ap (λ (n : ℕ). placed_from after n (rows_after stay (number + 1) rows)) next

  module _ (accepted : IsAccepted before.group) (row : List ℕ × Lv) (there : slice_get before.group.lvs removed ≡ Some row)
      (seen : row.1.status.visible ≡ true) (disks : KeepsDisks before after) where
    -- a row that stays has the same places
    left_kept : (number : ℕ) (one : List ℕ × Lv) (rows : List (List ℕ × Lv)) → slice_get before.group.lvs number ≡ Some one
        → stay number ≡ true
        → left number (one ∷ rows) ≡ cond one.1.status.visible (placed number one ∷ left (number + 1) rows) (left (number + 1) rows)
    left_kept number one rows is stayed =
        left_staying number one rows stayed
        ∙ ap (λ (l : List Place). cond one.1.status.visible (record { id = one.1.id; name = one.0; places = l } ∷ left (number + 1) rows)
        (left (number + 1) rows))
        (places_kept before after accepted disks refl number (new stay number) one (renumbered_lv (on_after stay) one.1) is
        (extents_same (on_after stay) one.1) (λ sector at goes. primary_without before.group removed row accepted there seen number
        sector at stayed goes))

    -- a hidden row leaves nothing, and a visible one its volume, where it isn't the removed one
    left_hidden : (number : ℕ) (one : List ℕ × Lv) (rows : List (List ℕ × Lv)) → slice_get before.group.lvs number ≡ Some one
        → one.1.status.visible ≡ false → left number (one ∷ rows) ≡ left (number + 1) rows
    left_hidden number one rows is hidden = by (stay number) refl where
      by : (b : Bool) → stay number ≡ b → left number (one ∷ rows) ≡ left (number + 1) rows
      by true stayed =
          left_kept number one rows is stayed ∙ ap
          (λ (b : Bool). cond b (placed number one ∷ left (number + 1) rows) (left (number + 1) rows)) hidden
      by false goes = left_going number one rows goes

    left_visible : (number : ℕ) (one : List ℕ × Lv) (rows : List (List ℕ × Lv)) → slice_get before.group.lvs number ≡ Some one
        → one.1.status.visible ≡ true → (number ≡ removed → ⊥) → left number (one ∷ rows) ≡ placed number one ∷ left (number + 1) rows
    left_visible number one rows is visible other =
        left_kept number one rows is (visible_stays before.group removed number one accepted is visible other)
        ∙ ap (λ (b : Bool). cond b (placed number one ∷ left (number + 1) rows) (left (number + 1) rows)) visible

    -- those behind it stay
    behind_stay : (number : ℕ) (rows : List (List ℕ × Lv)) → StandFrom before.group number rows → removed < number
        → left number rows ≡ placed_from before number rows
    behind_stay number [] stand behind = refl
    behind_stay number (one ∷ rows) stand behind =
        by one.1.status.visible refl (behind_stay (number + 1) rows (rest_stand before.group number one rows stand) (omega (arith, behind)))
      where
        is : slice_get before.group.lvs number ≡ Some one
        is = first_stands before.group number one rows stand

        by : (b : Bool) → one.1.status.visible ≡ b → left (number + 1) rows ≡ placed_from before (number + 1) rows
            → left number (one ∷ rows) ≡ cond b (placed number one ∷ placed_from before (number + 1) rows)
            (placed_from before (number + 1) rows)
        by true visible later =
            left_visible number one rows is visible (λ same. omega (arith, behind, same))
            ∙ ap (λ (l : List PlacedVolume). placed number one ∷ l) later
        by false hidden later = left_hidden number one rows is hidden ∙ later

    -- of the others the first visible one of its name is gone
    removed_from : (name : List ℕ) (number : ℕ) (rows : List (List ℕ × Lv)) (lv : Lv) → StandFrom before.group number rows
        → visible_from number name rows ≡ Some (removed, lv) → left number rows ≡ without_named name (placed_from before number rows)
    removed_from name number [] lv stand found = absurd cc
    removed_from name number (one ∷ rows) lv stand found =
        by one.1.status.visible (bytes_eq one.0 name) refl refl found
        (λ made. removed_from name (number + 1) rows lv (rest_stand before.group number one rows stand) made)
      where
        is : slice_get before.group.lvs number ≡ Some one
        is = first_stands before.group number one rows stand

        later : List PlacedVolume
        later = placed_from before (number + 1) rows

        by : (visible same : Bool) → one.1.status.visible ≡ visible → bytes_eq one.0 name ≡ same
            → cond (visible && same) (Some (number, one.1)) (visible_from (number + 1) name rows) ≡ Some (removed, lv)
            → (visible_from (number + 1) name rows ≡ Some (removed, lv) → left (number + 1) rows ≡ without_named name later)
            → left number (one ∷ rows) ≡ without_named name (cond visible (placed number one ∷ later) later)
        by true true visible same made next =
            let at : number ≡ removed = ap (λ (x : ℕ × Lv). x.0) (same_Some (number, one.1) (removed, lv) made) in
            left_going number one rows (ap stay at ∙ removed_goes before.group removed)
            ∙ behind_stay (number + 1) rows (rest_stand before.group number one rows stand) (omega (arith, at))
            ∙ sym (ap (λ (b : Bool). cond b later (placed number one ∷ without_named name later)) (same))
        by true false visible same made next =
            let behind : number + 1 ≤ removed = found_from name (number + 1) rows (removed, lv) made in
            left_visible number one rows is visible (λ equal. omega (arith, behind, equal))
            ∙ ap (λ (l : List PlacedVolume). placed number one ∷ l) (next made)
            ∙ sym (ap (λ (b : Bool). cond b later (placed number one ∷ without_named name later)) (same))
        by false same hidden is_same made next = left_hidden number one rows is hidden ∙ next made

    -- so it is in the group
    pub volumes_removed : (name : List ℕ) (lv : Lv) → visible_named before.group name ≡ Some (removed, lv)
        → volumes_of (Some after) ≡ without_named name (volumes_of (Some before))
    unfolding visible_named volumes_of
    volumes_removed name lv found = removed_from name 0 before.group.lvs lv (all_stand before.group) found
