-- What each row of a list says where none refuses, by its name: nothing else goes by the places of rows.
use Rattle.std.proofs.Common.{◌≡◌, ◌≢◌, ℕ, ◌+◌, ◌==◌, ◌||◌, true, false, List, [], ◌++◌, length, None, sym, ◌∙◌}
use Rattle.std.specs.Prelude.{is_some}
use Rattle.std.specs.List.{remove}
use Rattle.std.specs.Str.{bytes_eq}
use Rattle.std.proofs.lemmas.Bool.{eq-eqb, true≢false}
use Rattle.line_answers.specs.declared.op_refusal.OpRefusal.TheVariants.{InUse, LastPv, SeqnoEnd}
use Rattle.meta_model.specs.declared.group.Group.{Group}
use Rattle.group_edits.specs.ReducedGroup.{has_leg_on_pv}
use Rattle.group_edits.specs.RenamedGroup.{renamed_group}
use Rattle.group_edits.specs.NextVersion.{next_version}
use Rattle.group_plan.proofs.Rows.{none_holds, seqno_left, test_fails, test_holds}
use Rattle.group_plan.specs.Added.{added_of, disks_added}
use Rattle.group_plan.specs.Committing.{length_row, no_area_row, seqno_row}
use Rattle.group_plan.specs.Judging.{area_row, first_refusal, used_row}
use Rattle.group_plan.specs.NewGroup.{text_row}
use Rattle.group_plan.specs.declared.state.GroupState.{GroupState}
use Rattle.vg_plans.specs.Vgcfgrestore.{disks_held, id_lacked, shape_row, sound_tests}
use Rattle.vg_plans.specs.Vgcreate.{new_rows}
use Rattle.vg_plans.specs.Vgextend.{found_rows}
use Rattle.vg_plans.specs.Vgreduce.{leaving_tests}
use Rattle.vg_plans.specs.Vgrename.{rename_rows}

-- ---- vgrename

pub record RenamePasses (state : GroupState) (new : List ℕ) (now : ℕ) (group : Group) : Type 0 where
  pub has_area : no_area_row state ≡ None
  pub seqno : seqno_row group ≡ None
  pub fits : length_row state (renamed_group group new) now ≡ None

pub rename_passes : (state : GroupState) (vg new : List ℕ) (now : ℕ) (group : Group)
    → first_refusal (rename_rows state vg new now group) ≡ None → RenamePasses state new now group
rename_passes state vg new now group none =
    let rows = none_holds (rename_rows state vg new now group) none in
    record { has_area = rows.1.1.1.0; seqno = rows.1.1.1.1.0; fits = rows.1.1.1.1.1.0 }

-- ---- vgreduce

-- the group may have a next version without the physical volume with this number
pub record MayLeave (group : Group) (number : ℕ) : Type 0 where
  pub unused : has_leg_on_pv group number ≡ false
  pub others : length group.pvs ≢ 1
  pub seqno : group.seqno ≢ 4294967295

pub record LeavingPasses (state : GroupState) (group : Group) (number : ℕ) : Type 0 where
  pub may : MayLeave group number
  pub has_area : area_row state.areas (remove state.disk_of number) ≡ None

pub leaving_passes : (state : GroupState) (group : Group) (name : List ℕ) (number : ℕ)
    → first_refusal (leaving_tests state group name number) ≡ None → LeavingPasses state group number
leaving_passes state group name number none =
    let rows = none_holds (leaving_tests state group name number) none in
    record {
      may = record {
        unused = test_fails (has_leg_on_pv group number) (InUse name) rows.0;
        others = λ one. true≢false (sym (eq-eqb (length group.pvs) 1 one) ∙ test_fails (length group.pvs == 1) (LastPv name) rows.1.0);
        seqno = seqno_left group rows.1.1.1.0;
      };
      has_area = rows.1.1.0;
    }

-- ---- vgcfgrestore

-- of a text whose group keeps the rules
pub record SoundPasses (state : GroupState) (found said : Group) : Type 0 where
  pub has_area : area_row state.areas (disks_held said state.disks) ≡ None
  pub seqnos : (found.seqno == 4294967295 || said.seqno == 4294967295) ≡ false
  pub shape : shape_row said state.disks ≡ None
  pub same_id : bytes_eq said.id found.id ≡ true
  pub same_name : bytes_eq said.name found.name ≡ true
  pub same_pvs : (is_some (id_lacked found said) || is_some (id_lacked said found)) ≡ false

pub sound_passes : (state : GroupState) (found said : Group) → first_refusal (sound_tests state found said) ≡ None
    → SoundPasses state found said
sound_passes state found said none =
    let rows = none_holds (sound_tests state found said) none in
    record {
      has_area = rows.1.0;
      seqnos = test_fails (found.seqno == 4294967295 || said.seqno == 4294967295) SeqnoEnd rows.1.1.1.1.0;
      shape = rows.1.1.1.1.1.0;
      same_id = test_holds (bytes_eq said.id found.id) _ rows.1.1.1.1.1.1.0;
      same_name = test_holds (bytes_eq said.name found.name) _ rows.1.1.1.1.1.1.1.0;
      same_pvs = test_fails (is_some (id_lacked found said) || is_some (id_lacked said found)) _ rows.1.1.1.1.1.1.1.1.0;
    }

-- ---- vgcreate and vgextend

pub record NewPasses (state : GroupState) (base : Group) (names : List (List ℕ)) (now : ℕ) : Type 0 where
  pub used : used_row [] (added_of state names) ≡ None
  pub has_area : area_row state.areas (disks_added (added_of state names)) ≡ None
  pub fits : text_row state base [] (added_of state names) now ≡ None

pub new_passes : (state : GroupState) (base : Group) (names : List (List ℕ)) (now : ℕ)
    → first_refusal (new_rows state base names now) ≡ None → NewPasses state base names now
new_passes state base names now none =
    let rows = none_holds (new_rows state base names now) none in
    record { used = rows.1.0; has_area = rows.1.1.0; fits = rows.1.1.1.1.1.1.0 }

pub record ExtendPasses (state : GroupState) (names : List (List ℕ)) (now : ℕ) (group : Group) : Type 0 where
  pub used : used_row state.disk_of (added_of state names) ≡ None
  pub has_area : area_row state.areas (state.disk_of ++ disks_added (added_of state names)) ≡ None
  pub fits : text_row state (next_version group) state.disk_of (added_of state names) now ≡ None

pub extend_passes : (state : GroupState) (vg : List ℕ) (names : List (List ℕ)) (now : ℕ) (group : Group)
    → first_refusal (found_rows state vg names now group) ≡ None → ExtendPasses state names now group
extend_passes state vg names now group none =
    let rows = none_holds (found_rows state vg names now group) none in
    record { used = rows.1.1.1.1.0; has_area = rows.1.1.1.1.1.0; fits = rows.1.1.1.1.1.1.1.1.1.1.0 }
