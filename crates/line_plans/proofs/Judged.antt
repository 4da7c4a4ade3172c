-- How a line on a path is judged, row by row.
use Rattle.std.proofs.Common.{◌≡◌, ◌<◌, ◌≤◌, ℕ, ◌+◌, ◌-◌, ◌*◌, ◌^◌, Bool, true, false, not, ◌&&◌, List, [], ◌∷◌, min, Option, Some, None}
use Rattle.std.proofs.Common.{refl, sym, ap, subst, ◌∙◌, arith}
use Rattle.std.specs.Prelude.{is_none, nat_le, option_map, slice_get, unwrap_or, IfSome}
use Rattle.std.specs.Option.{option_and_then}
use Rattle.std.specs.Str.{bytes_eq}
use Rattle.std.proofs.lemmas.Bool.Decides.{nat_tests}
use Rattle.std.proofs.lemmas.Option.{same_Some}
use Rattle.command_table.specs.declared.command.Path.{Path}
use Rattle.line_answers.specs.declared.op_refusal.OpRefusal.{OpRefusal}
use Rattle.line_answers.specs.declared.op_refusal.OpRefusal.TheVariants.{PastEnd, ReadOnly, UnknownGroup, UnknownVolume}
use Rattle.meta_model.specs.declared.group.Group.{Group}
use Rattle.meta_model.specs.declared.lv.Lv.{Lv}
use Rattle.volume_rules.specs.Extents.{extents_of}
use Rattle.volume_rules.specs.declared.rule.Rule.TheVariants.{Follows}
use Rattle.volume_rules.specs.Rules.{Follow, IsAccepted}
use Rattle.list_laws.proofs.Fronts.{all_at}
use Rattle.seg_place.specs.Sectors.{sectors_of}
use Rattle.group_edits.specs.Visible.{visible_named}
use Rattle.group_plan.proofs.Chained.{none_both, none_row, one_row, refused_back, refused_front}
use Rattle.group_plan.specs.Judging.{IsRefusedBy, first_refusal, refused_if}
use Rattle.group_plan.specs.declared.refusal.PlanRefusal.{PlanRefusal}
use Rattle.line_plans.specs.Judging.{may_write, past_end, path_rows}

-- ---- the name of the group

-- a line that isn't refused names the group
pub names_group : (group : Group) (path : Path) (writes : Bool) (range : Option (ℕ × ℕ))
    → first_refusal (path_rows group path writes range) ≡ None → bytes_eq group.name path.vg ≡ true
names_group group path writes range none = by (bytes_eq group.name path.vg) refl where
  by : (b : Bool) → bytes_eq group.name path.vg ≡ b → bytes_eq group.name path.vg ≡ true
  by true is = is
  by false is = absurd (let free = subst (λ (b : Bool). first_refusal (refused_if (not b) (UnknownGroup path.vg)
      ∷ refused_if (writes && not (may_write group (visible_named group path.lv))) ReadOnly
      ∷ refused_if (is_none (visible_named group path.lv)) (UnknownVolume path.lv)
      ∷ option_and_then (λ (volume : ℕ × Lv). option_and_then (λ (r : ℕ × ℕ). past_end group r volume) range) (visible_named group path.lv)
      ∷ []) ≡ None) is none in cc)

-- ---- the end of the sectors

-- a volume has few sectors
pub few_sectors : (group : Group) (lv : ℕ) → IsAccepted group → sectors_of group lv < 2 ^ 48
unfolding sectors_of
few_sectors group lv accepted = by (slice_get group.lvs lv) refl where
  by : (o : Option (List ℕ × Lv)) → slice_get group.lvs lv ≡ o
      → unwrap_or (option_map (λ (v : List ℕ × Lv). extents_of v.1 * group.extent_size) o) 0 < 2 ^ 48
  by None is = omega arith
  by (Some volume) is =
      (all_at (λ (v : List ℕ × Lv). Follow 0 v.1.segments × (extents_of v.1 * group.extent_size < 2 ^ 48)) group.lvs lv volume
      (accepted Follows) is).1

module _ (group : Group) (range : ℕ × ℕ) (volume : ℕ × Lv) (end : ℕ) (accepted : IsAccepted group)
    (is_end : end ≡ min (range.0 + range.1) (2 ^ 64 - 1)) where
  -- a row of sectors that end behind the volume's
  pub ends_past : sectors_of group volume.0 < end → past_end group range volume ≡ Some (PastEnd end (sectors_of group volume.0))
  ends_past past =
      let test : nat_le (range.0 + range.1) (sectors_of group volume.0) ≡ false = grind (arith, nat_tests) in
      ap (λ (b : Bool). refused_if (not b) (PastEnd (min (range.0 + range.1) (2 ^ 64 - 1)) (sectors_of group volume.0))) test
      ∙ ap (λ (e : ℕ). Some (PastEnd e (sectors_of group volume.0))) (sym is_end)

  -- and of others
  pub ends_within : end ≤ sectors_of group volume.0 → past_end group range volume ≡ None
  ends_within within =
      let few : sectors_of group volume.0 < 2 ^ 48 = few_sectors group volume.0 accepted in
      let test : nat_le (range.0 + range.1) (sectors_of group volume.0) ≡ true = grind (arith, nat_tests) in
      ap (λ (b : Bool). refused_if (not b) (PastEnd (min (range.0 + range.1) (2 ^ 64 - 1)) (sectors_of group volume.0))) test

-- what it says where it doesn't refuse
within_end : (group : Group) (range : ℕ × ℕ) (volume : ℕ × Lv) → past_end group range volume ≡ None
    → range.0 + range.1 ≤ sectors_of group volume.0
within_end group range volume none = by (nat_le (range.0 + range.1) (sectors_of group volume.0)) refl none where
  by : (b : Bool) → nat_le (range.0 + range.1) (sectors_of group volume.0) ≡ b
      → refused_if (not b) (PastEnd (min (range.0 + range.1) (2 ^ 64 - 1)) (sectors_of group volume.0)) ≡ None
      → range.0 + range.1 ≤ sectors_of group volume.0
  by true test made = grind (arith, nat_tests)
  by false test made = absurd cc

-- ---- the rows

two_pass : (a b : Option OpRefusal) → a ≡ None → b ≡ None → first_refusal (a ∷ b ∷ []) ≡ None
two_pass a b first second = rw (first, second) refl

three_pass : (a b c : Option OpRefusal) → a ≡ None → b ≡ None → c ≡ None → first_refusal (a ∷ b ∷ c ∷ []) ≡ None
three_pass a b c first second third = rw (first, second, third) refl

module _ (group : Group) (path : Path) (writing : Bool) (range : Option (ℕ × ℕ)) where
  abbrev name_row : Option OpRefusal
  name_row = refused_if (not (bytes_eq group.name path.vg)) (UnknownGroup path.vg)

  abbrev write_row : Option (ℕ × Lv) → Option OpRefusal
  write_row o = refused_if (writing && not (may_write group o)) ReadOnly

  abbrev volume_row : Option (ℕ × Lv) → Option OpRefusal
  volume_row o = refused_if (is_none o) (UnknownVolume path.lv)

  abbrev end_row : Option (ℕ × Lv) → Option OpRefusal
  end_row o = option_and_then (λ (volume : ℕ × Lv). option_and_then (λ (r : ℕ × ℕ). past_end group r volume) range) o

  -- the group has another name
  pub name_refused : (e : PlanRefusal) → IsRefusedBy name_row e → IsRefusedBy (first_refusal (path_rows group path writing range)) e
  name_refused e is =
      let o : Option (ℕ × Lv) = visible_named group path.lv in
      refused_front (name_row ∷ []) (write_row o ∷ volume_row o ∷ end_row o ∷ []) e (one_row name_row e is)

  -- nothing may be written there
  pub write_refused : name_row ≡ None → (writing && not (may_write group (visible_named group path.lv))) ≡ true
      → first_refusal (path_rows group path writing range) ≡ Some ReadOnly
  write_refused named test =
      let o : Option (ℕ × Lv) = visible_named group path.lv in
      ap (λ (row : Option OpRefusal). first_refusal (row ∷ write_row o ∷ volume_row o ∷ end_row o ∷ [])) named
      ∙ ap (λ (b : Bool). first_refusal (refused_if b ReadOnly ∷ volume_row o ∷ end_row o ∷ [])) test

  not_written : (o : Option (ℕ × Lv)) → (writing && not (may_write group o)) ≡ false → write_row o ≡ None
  not_written o test = ap (λ (b : Bool). refused_if b ReadOnly) test

  -- no visible volume has the name
  pub volume_refused : name_row ≡ None → (writing && not (may_write group (visible_named group path.lv))) ≡ false
      → None ≡ option_map (λ (v : ℕ × Lv). v.0) (visible_named group path.lv)
      → first_refusal (path_rows group path writing range) ≡ Some (UnknownVolume path.lv)
  volume_refused named test none = by (visible_named group path.lv) test none where
    by : (o : Option (ℕ × Lv)) → (writing && not (may_write group o)) ≡ false → None ≡ option_map (λ (v : ℕ × Lv). v.0) o
        → first_refusal (name_row ∷ write_row o ∷ volume_row o ∷ end_row o ∷ []) ≡ Some (UnknownVolume path.lv)
    by None test none =
        ap (λ (row : Option OpRefusal). first_refusal (row ∷ write_row None ∷ volume_row None ∷ end_row None ∷ [])) named
        ∙ ap (λ (row : Option OpRefusal). first_refusal (row ∷ volume_row None ∷ end_row None ∷ [])) (not_written None test)
    by (Some v) test none = absurd cc

  -- one has, and by this row its sectors are judged
  abbrev row_of : ℕ → Lv → Option OpRefusal
  row_of lv volume = option_and_then (λ (r : ℕ × ℕ). past_end group r (lv, volume)) range

  same_row : (lv : ℕ) (v : ℕ × Lv) → Some lv ≡ option_map (λ (w : ℕ × Lv). w.0) (Some v) → row_of lv v.1 ≡ end_row (Some v)
  same_row lv v is = ap (λ (n : ℕ). row_of n v.1) (same_Some lv v.0 is)

  pub end_refused : (lv : ℕ) (e : PlanRefusal) → name_row ≡ None → (writing && not (may_write group (visible_named group path.lv))) ≡ false
      → Some lv ≡ option_map (λ (v : ℕ × Lv). v.0) (visible_named group path.lv) → ((volume : Lv) → IsRefusedBy (row_of lv volume) e)
      → IsRefusedBy (first_refusal (path_rows group path writing range)) e
  end_refused lv e named test is refuses = by (visible_named group path.lv) test is where
    by : (o : Option (ℕ × Lv)) → (writing && not (may_write group o)) ≡ false → Some lv ≡ option_map (λ (v : ℕ × Lv). v.0) o
        → IsRefusedBy (first_refusal (name_row ∷ write_row o ∷ volume_row o ∷ end_row o ∷ [])) e
    by None test is = absurd cc
    by (Some v) test is =
        refused_back (name_row ∷ write_row (Some v) ∷ volume_row (Some v) ∷ []) (end_row (Some v) ∷ []) e
        (three_pass name_row (write_row (Some v)) (volume_row (Some v)) named (not_written (Some v) test) refl)
        (one_row (end_row (Some v)) e (subst (λ (row : Option OpRefusal). IsRefusedBy row e) (same_row lv v is) (refuses v.1)))

  -- none of them refuses
  pub all_pass : (lv : ℕ) → name_row ≡ None → (writing && not (may_write group (visible_named group path.lv))) ≡ false
      → Some lv ≡ option_map (λ (v : ℕ × Lv). v.0) (visible_named group path.lv) → ((volume : Lv) → row_of lv volume ≡ None)
      → (first_refusal (path_rows group path writing range) ≡ None) × IfSome range (λ (r : ℕ × ℕ). r.0 + r.1 ≤ sectors_of group lv)
  all_pass lv named test is passes = by (visible_named group path.lv) test is where
    ends : (o : Option (ℕ × ℕ)) (volume : Lv) → option_and_then (λ (r : ℕ × ℕ). past_end group r (lv, volume)) o ≡ None
        → IfSome o (λ (r : ℕ × ℕ). r.0 + r.1 ≤ sectors_of group lv)
    ends None volume none = tt
    ends (Some r) volume none = within_end group r (lv, volume) none

    by : (o : Option (ℕ × Lv)) → (writing && not (may_write group o)) ≡ false → Some lv ≡ option_map (λ (v : ℕ × Lv). v.0) o
        → (first_refusal (name_row ∷ write_row o ∷ volume_row o ∷ end_row o ∷ []) ≡ None)
        × IfSome range (λ (r : ℕ × ℕ). r.0 + r.1 ≤ sectors_of group lv)
    by None test is = absurd cc
    by (Some v) test is = (
      none_both (name_row ∷ write_row (Some v) ∷ volume_row (Some v) ∷ []) (end_row (Some v) ∷ [])
          (three_pass name_row (write_row (Some v)) (volume_row (Some v)) named (not_written (Some v) test) refl)
          (none_row (end_row (Some v)) (sym (same_row lv v is) ∙ passes v.1)),
      ends range v.1 (passes v.1),
    )
