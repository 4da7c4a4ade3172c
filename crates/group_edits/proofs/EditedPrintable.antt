-- The logical volumes that stay in an edited group can be printed, by their new numbers.
use Rattle.std.proofs.Common.{◌≡◌, ℕ, false, List, [], get_or, Some, refl, sym, ap, subst, ◌∙◌}
use Rattle.std.specs.Prelude.{slice_get}
use Rattle.std.specs.List.{AllByRecursion as Each}
use Rattle.std.proofs.lemmas.List.Elements.{All-from_recursion, recursion_from_All}
use Rattle.std.proofs.lemmas.Option.{same_Some, slice_get-get_or}
use Rattle.lvm_name.specs.Names.{is_among}
use Rattle.meta_model.specs.Runs.{legs_of}
use Rattle.meta_model.specs.declared.group.Group.{Group}
use Rattle.meta_model.specs.declared.pv.Pv.{Pv}
use Rattle.meta_model.specs.declared.segment.Leg.{Leg}
use Rattle.meta_model.specs.declared.segment.On.{On}
use Rattle.meta_model.specs.declared.segment.On.TheVariants as on
use Rattle.meta_model.specs.declared.segment.Segment.{Segment}
use Rattle.meta_print.proofs.Printable.{AreNames, IsLv}
use Rattle.volume_rules.proofs.LegRuns.{run_of}
use Rattle.volume_view.proofs.MetSegments.{all_at}
use Rattle.group_edits.proofs.EditedLegs.{LegsAreAllowed, hidden_below}
use Rattle.group_edits.proofs.Edits.{Any, KeepsVolumes, OnStays, Row}
use Rattle.group_edits.proofs.PrintedNames.{IsFound, IsFoundBy, lv_found, lv_names, pv_found, pv_names}
use Rattle.group_edits.proofs.Renumbered.{row_is_same, same_on, unchanged}
use Rattle.group_edits.proofs.RenumberedPrintable.{lv_kept}
use Rattle.group_edits.proofs.Selections.{map_at, map_from}
use Rattle.group_edits.specs.Renumbered.{renumbered_lv}

module _ (group other : Group) (number : On → On) (pv_at lv_at : ℕ → ℕ) (PvStays Stays : ℕ → Type 0)
    (Segments : List Segment → List Segment → Type 0)
    (volumes : KeepsVolumes group other number pv_at lv_at PvStays Stays Segments) (legs : LegsAreAllowed group)
    (pvs : AreNames [] (pv_names other)) (lvs : AreNames [] (lv_names other))
    (apart : (name : List ℕ) → is_among (pv_names group) name ≡ false → is_among (pv_names other) name ≡ false) where
  -- it stays, and a logical volume is hidden
  abbrev IsGood : On → Type 0
  IsGood o = OnStays PvStays Stays o
      × ((m : ℕ) → o ≡ on.Lv m → (row : Row) × (slice_get group.lvs m ≡ Some row) × (row.1.status.visible ≡ false))

  found_as : (o : On) → IsGood o → IsFound group o → IsFoundBy group other o (number o)
  found_as (on.Pv n) good found =
      subst (IsFoundBy group other (on.Pv n)) (sym (volumes.pv_is n)) (pv_found group other n (pv_at n) pvs (λ name at.
      (let row = map_from (λ (pv : List ℕ × Pv). pv.0) group.pvs n name at in
      let now = volumes.pv_there n row.0 good.0 row.1 in
      map_at (λ (pv : List ℕ × Pv). pv.0) other.pvs (pv_at n) now.0 now.1 ∙ ap (λ (x : List ℕ). Some x) (now.2 ∙ row.2))) found)
  found_as (on.Lv m) good found =
      let row = good.1 m refl in
      let now = volumes.lv_there m row.0 good.0 row.1 in
      subst (IsFoundBy group other (on.Lv m)) (sym (volumes.lv_is m)) (lv_found group other m (lv_at m) lvs (λ name at.
      map_at (λ (lv : Row). lv.0) other.lvs (lv_at m) now.0 now.1
      ∙ ap (λ (x : List ℕ). Some x) (ap (λ (r : Row). r.0) (now.2.hidden row.2)
      ∙ same_Some row.0.0 name (sym (map_at (λ (lv : Row). lv.0) group.lvs m row.0 row.1) ∙ at)))
      (λ name at none. apart name none) found)

  -- each volume that stays
  pub row_prints : Each (λ (lv : Row). IsLv group lv.1) group.lvs → (n : ℕ) (row : Row) → Stays n → slice_get group.lvs n ≡ Some row
      → IsLv other (renumbered_lv number row.1)
  row_prints can n row stays there =
      lv_kept group other number IsGood found_as row.1 (λ s segment at j leg is. good s segment at j leg is)
      (all_at (λ (lv : Row). IsLv group lv.1) group.lvs n row (All-from_recursion (λ (lv : Row). IsLv group lv.1) group.lvs can) there)
    where
      good : (s : ℕ) (segment : Segment) → slice_get row.1.segments s ≡ Some segment → (j : ℕ) (leg : Leg)
          → slice_get (legs_of segment.kind) j ≡ Some leg → IsGood leg.on
      good s segment at j leg is =
          let r = run_of group n row s segment j leg there at is in (
            subst (OnStays PvStays Stays) r.5 (volumes.below r.0 r.1 (subst Stays (sym r.2) stays)),
            λ m lies. hidden_below group legs r.0 m r.1 (r.5 ∙ lies),
          )

-- where all stay by their own numbers
pub rows_print : (group other : Group) (Segments : List Segment → List Segment → Type 0)
    → KeepsVolumes group other same_on unchanged unchanged Any Any Segments → LegsAreAllowed group → AreNames [] (pv_names other)
    → AreNames [] (lv_names other) → ((name : List ℕ) → is_among (pv_names group) name ≡ false → is_among (pv_names other) name ≡ false)
    → Each (λ (lv : Row). IsLv group lv.1) group.lvs → Each (λ (lv : Row). IsLv other lv.1) group.lvs
rows_print group other Segments volumes legs pvs lvs apart can =
    recursion_from_All (λ (lv : Row). IsLv other lv.1) group.lvs (λ k d within.
    subst (λ (lv : Row). IsLv other lv.1) (row_is_same (get_or group.lvs k d))
    (row_prints group other same_on unchanged unchanged Any Any Segments volumes legs pvs lvs apart can k (get_or group.lvs k d) tt
    (slice_get-get_or group.lvs k d within)))
