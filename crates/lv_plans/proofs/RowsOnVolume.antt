-- The rows on a visible volume, and what the rows of its name and lock say.
use Rattle.std.proofs.Common.{◌≡◌, ℕ, Bool, true, false, cond, List, [], ◌∷◌, Option, Some, None, Result, refl, subst}
use Rattle.std.specs.Prelude.{is_some, option_map}
use Rattle.std.specs.Option.{option_map_or}
use Rattle.std.proofs.lemmas.Option.{same_Some}
use Rattle.lvm_name.specs.Names.{is_among}
use Rattle.line_answers.specs.declared.op_refusal.OpRefusal.{OpRefusal}
use Rattle.line_answers.specs.declared.op_refusal.OpRefusal.TheVariants.{Locked, NameTaken, UnknownVolume}
use Rattle.meta_model.specs.Tables.{names_of}
use Rattle.meta_model.specs.declared.group.Group.{Group}
use Rattle.meta_model.specs.declared.lv.Lv.{Lv}
use Rattle.volume_rules.specs.Moving.{leads_to_pvmove}
use Rattle.group_edits.specs.RenamedVolume.{renamed_volume}
use Rattle.group_edits.specs.Removing.{without_volume}
use Rattle.group_plan.proofs.Chained.{plans_back}
use Rattle.group_plan.specs.Committing.{length_row, no_area_row, no_change, seqno_row, version_change}
use Rattle.group_plan.specs.Judging.{first_refusal}
use Rattle.group_plan.specs.Plans.{Plans}
use Rattle.group_plan.specs.declared.refusal.PlanRefusal.{PlanRefusal}
use Rattle.group_plan.specs.declared.state.Change.{Change}
use Rattle.group_plan.specs.declared.state.GroupState.{GroupState}
use Rattle.lv_plans.specs.Lvremove.{remove_lv_rows}
use Rattle.lv_plans.specs.Lvrename.{rename_lv_rows}
use Rattle.lv_plans.specs.Volumes.{locked_row, taken_row}

-- ---- the volume of a name

pub plans_on : (o : Option (ℕ × Lv)) (number : ℕ) (rows : ℕ × Lv → List (Option OpRefusal)) (others : List (Option OpRefusal))
    (wanted : Change) (result : Result Change PlanRefusal)
    → Some number ≡ option_map (λ (v : ℕ × Lv). v.0) o → ((lv : Lv) → Plans (rows (number, lv)) wanted result)
    → Plans (option_map_or rows o others) wanted result
plans_on None number rows others wanted result is plans = absurd cc
plans_on (Some v) number rows others wanted result is plans =
    subst (λ (n : ℕ). Plans (rows (n, v.1)) wanted result) (same_Some number v.0 is) (plans v.1)

pub unknown_on : (o : Option (ℕ × Lv)) (rows : ℕ × Lv → List (Option OpRefusal)) (name : List ℕ) → None ≡ option_map (λ (v : ℕ × Lv). v.0) o
    → first_refusal (option_map_or rows o (Some (UnknownVolume name) ∷ [])) ≡ Some (UnknownVolume name)
unknown_on None rows name is = refl
unknown_on (Some v) rows name is = absurd cc

pub named_is_some : (o : Option (ℕ × Lv)) (number : ℕ) → Some number ≡ option_map (λ (v : ℕ × Lv). v.0) o → is_some o ≡ true
named_is_some None number is = absurd cc
named_is_some (Some v) number is = refl

-- the change of an lvremove, where the volume has this number
pub removes_on : (state : GroupState) (group : Group) (number : ℕ) (o : Option (ℕ × Lv)) (rows : ℕ × Lv → List (Option OpRefusal))
    (others : List (Option OpRefusal)) (result : Result Change PlanRefusal)
    → Some number ≡ option_map (λ (v : ℕ × Lv). v.0) o
    → ((lv : Lv) → Plans (rows (number, lv)) (version_change state (without_volume group number)) result)
    → Plans (option_map_or rows o others) (option_map_or (λ (v : ℕ × Lv). version_change state (without_volume group v.0)) o
    (no_change state)) result
removes_on state group number None rows others result is plans = absurd cc
removes_on state group number (Some v) rows others result is plans =
    subst (λ (n : ℕ). Plans (rows (n, v.1)) (version_change state (without_volume group n)) result) (same_Some number v.0 is) (plans v.1)

-- ---- rows that hold

pub name_free : (group : Group) (name : List ℕ) → taken_row group name ≡ None → is_among (names_of group.lvs) name ≡ false
unfolding taken_row
name_free group name none = by (is_among (names_of group.lvs) name) none where
  by : (b : Bool) → cond b (Some (NameTaken name)) None ≡ None → b ≡ false
  by true is = absurd cc
  by false is = refl

pub not_locked : (group : Group) (name : List ℕ) (number : ℕ) → locked_row group name number ≡ None → leads_to_pvmove group 4 number ≡ false
unfolding locked_row
not_locked group name number none = by (leads_to_pvmove group 4 number) none where
  by : (b : Bool) → ◌≡◌ {A = Option OpRefusal} (cond b (Some (Locked name)) None) None → b ≡ false
  by true is = absurd cc
  by false is = refl

-- ---- one after another

four_pass : (a b c d : Option OpRefusal) → a ≡ None → b ≡ None → c ≡ None → d ≡ None → first_refusal (a ∷ b ∷ c ∷ d ∷ []) ≡ None
four_pass a b c d first second third fourth = rw (first, second, third, fourth) refl

three_pass : (a b c : Option OpRefusal) → a ≡ None → b ≡ None → c ≡ None → first_refusal (a ∷ b ∷ c ∷ []) ≡ None
three_pass a b c first second third = rw (first, second, third) refl

-- the rows of an lvrename, where none before the text's refuses
pub rename_plans : (state : GroupState) (old name new : List ℕ) (now number : ℕ) (found group next : Group)
    (result : Result Change PlanRefusal) → found ≡ group → name ≡ new → next ≡ renamed_volume old name group
    → taken_row found name ≡ None → locked_row found old number ≡ None → no_area_row state ≡ None → seqno_row found ≡ None
    → Plans (length_row state next now ∷ []) (version_change state next) result
    → (lv : Lv) → Plans (rename_lv_rows state old new now group (number, lv)) (version_change state (renamed_volume old new group)) result
rename_plans state old name new now number found group next result same named is free unlocked area seqno plans lv =
    subst (λ (n : List ℕ). Plans (rename_lv_rows state old n now group (number, lv)) (version_change state (renamed_volume old n group))
    result) named
    (plans_back (taken_row group name ∷ locked_row group old number ∷ no_area_row state ∷ seqno_row group ∷ [])
    (length_row state (renamed_volume old name group) now ∷ []) (version_change state (renamed_volume old name group)) result
    (four_pass (taken_row group name) (locked_row group old number) (no_area_row state) (seqno_row group)
    (subst (λ (g : Group). taken_row g name ≡ None) same free) (subst (λ (g : Group). locked_row g old number ≡ None) same unlocked) area
    (subst (λ (g : Group). seqno_row g ≡ None) same seqno))
    (subst (λ (g : Group). Plans (length_row state g now ∷ []) (version_change state g) result) is plans))

-- those of an lvremove
pub remove_plans : (state : GroupState) (name : List ℕ) (now number : ℕ) (found group next : Group) (result : Result Change PlanRefusal)
    → found ≡ group → next ≡ without_volume group number
    → locked_row found name number ≡ None → no_area_row state ≡ None → seqno_row found ≡ None
    → Plans (length_row state next now ∷ []) (version_change state next) result
    → (lv : Lv) → Plans (remove_lv_rows state name now group (number, lv)) (version_change state (without_volume group number)) result
remove_plans state name now number found group next result same is unlocked area seqno plans lv =
    plans_back (locked_row group name number ∷ no_area_row state ∷ seqno_row group ∷ [])
    (length_row state (without_volume group number) now ∷ []) (version_change state (without_volume group number)) result
    (three_pass (locked_row group name number) (no_area_row state) (seqno_row group)
    (subst (λ (g : Group). locked_row g name number ≡ None) same unlocked) area (subst (λ (g : Group). seqno_row g ≡ None) same seqno))
    (subst (λ (g : Group). Plans (length_row state g now ∷ []) (version_change state g) result) is plans)
