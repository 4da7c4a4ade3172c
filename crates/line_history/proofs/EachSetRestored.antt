-- The group of a text that takes the place of the one that was found lists each id that this lists.
use Rattle.std.proofs.Common.{◌≡◌, ℕ, Bool, true, false, not, cond, List, [], ◌∷◌, map, Option, Some, None, ⊎_elim, refl, subst}
use Rattle.std.specs.Prelude.{filter, is_some}
use Rattle.std.specs.List.{list_any}
use Rattle.std.specs.Option.{option_map_or}
use Rattle.std.proofs.lemmas.Bool.{or_cases}
use Rattle.std.specs.Str.{bytes_eq}
use Rattle.line_answers.specs.declared.op_refusal.OpRefusal.TheVariants.{UnknownGroup}
use Rattle.meta_model.specs.declared.group.Group.{Group}
use Rattle.meta_model.specs.declared.pv.Pv.{Pv}
use Rattle.scan_rules.proofs.Scanning.{same_bytes_tells}
use Rattle.scan_rules.specs.Decision.{lists}
use Rattle.vg_found.specs.Disks.{disks_of}
use Rattle.group_edits.specs.RestoredGroup.{restored_group}
use Rattle.group_plan.proofs.Chained.{back_passes, front_passes}
use Rattle.group_plan.proofs.Passed.{both_false}
use Rattle.group_plan.specs.Committing.{length_row_on, named_rows, rows_where_found}
use Rattle.group_plan.specs.Ids.{has_pv_id}
use Rattle.group_plan.specs.Judging.{first_refusal}
use Rattle.group_plan.specs.declared.backup.Backup.{Backup}
use Rattle.group_plan.specs.declared.backup.Backup.TheVariants.{Sound}
use Rattle.group_plan.specs.declared.state.GroupState.{GroupState}
use Rattle.vg_plans.proofs.PassedRows.{sound_passes}
use Rattle.vg_plans.proofs.Restoring.{Restores}
use Rattle.vg_plans.proofs.SoundBackup.{no_least, no_some}
use Rattle.vg_plans.specs.Vgcfgrestore.{id_lacked, ids_lacked, least_of, restore_rows, sound_rows, sound_tests, vgcfgrestore_change}
use Rattle.vg_plans.specs.Vgcfgrestore.{vgcfgrestore_rows}

-- ---- no id is lacked

module _ (said : Group) (id : List ℕ) where
  abbrev has_it : List ℕ × Pv → Bool
  has_it pv = bytes_eq pv.1.id id

  abbrev lacked : List (List ℕ × Pv) → List (List ℕ × Pv)
  lacked pvs = filter (λ (row : List ℕ × Pv). not (has_pv_id said row.1.id)) pvs

  none_lacked : (pvs : List (List ℕ × Pv)) → least_of None (ids_lacked said pvs) ≡ None → list_any has_it pvs ≡ true → lists said id ≡ true
  none_lacked [] none any = absurd cc
  none_lacked (pv ∷ pvs) none any = by (none_lacked pvs) (has_pv_id said pv.1.id) refl none
    where
      by : (least_of None (ids_lacked said pvs) ≡ None → list_any has_it pvs ≡ true → lists said id ≡ true) → (b : Bool)
          → has_pv_id said pv.1.id ≡ b
          → least_of None (map (λ (row : List ℕ × Pv). row.1.id) (cond (not b) (pv ∷ lacked pvs) (lacked pvs))) ≡ None
          → lists said id ≡ true
      by later true has none =
          ⊎_elim (λ here. subst (λ (own : List ℕ). lists said own ≡ true) (same_bytes_tells pv.1.id id here) has) (later none)
          (or_cases (has_it pv) (list_any has_it pvs) any)
      by later false has none = absurd (no_least (map (λ (row : List ℕ × Pv). row.1.id) (lacked pvs)) pv.1.id none)

-- ---- a restore that no row refuses

module _ (state : GroupState) (vg : List ℕ) (now : ℕ) (made : Restores state (vgcfgrestore_change state) now)
    (passes : first_refusal (vgcfgrestore_rows state vg now) ≡ None) where
  sound : first_refusal (sound_tests state made.old made.said) ≡ None
  sound =
      back_passes (sound_tests state made.old made.said)
      (length_row_on state (disks_of made.said state.disks) (restored_group made.old made.said) now ∷ [])
      (front_passes (named_rows made.old vg) (sound_rows state made.old made.said now)
      (subst (λ (o : Option Group). first_refusal
      (option_map_or (restore_rows state vg (Sound made.said) now) o (Some (UnknownGroup vg) ∷ [])) ≡ None) made.there
      (subst (λ (o : Option Backup). first_refusal
      (option_map_or (λ (backup : Backup). rows_where_found state.group vg (restore_rows state vg backup now)) o []) ≡ None) made.gives
      passes)))

  pub still_listed : (id : List ℕ) → lists made.old id ≡ true → lists made.said id ≡ true
  still_listed id listed =
      let none =
      both_false (is_some (id_lacked made.old made.said)) (is_some (id_lacked made.said made.old))
      (sound_passes state made.old made.said sound).same_pvs
      in
      none_lacked made.said id made.old.pvs (no_some (id_lacked made.said made.old) none.1) listed
