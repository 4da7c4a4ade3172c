-- The group of the volumes that aren't marked is the one without those that go.
use Rattle.std.proofs.Common.{◌≡◌, ◌≤◌, ◌<◌, ℕ, Bool, true, false, not, ◌||◌, ◌&&◌, List, inl, inr, refl, sym, ap, subst, ◌∙◌, arith}
use Rattle.std.specs.Prelude.{◌≢◌, ◌==◌, length, map}
use Rattle.std.specs.List.{list_all, list_any}
use Rattle.std.proofs.Math.Path.{fun_ext}
use Rattle.std.proofs.lemmas.Bool.{cases_lt}
use Rattle.std.proofs.lemmas.Option.{slice_get_within}
use Rattle.meta_model.specs.Standing.{HasTree}
use Rattle.meta_model.specs.declared.group.Group.{Group}
use Rattle.meta_model.specs.declared.lv.Lv.{Lv}
use Rattle.seg_place.specs.Marks.{is_marked}
use Rattle.volume_rules.specs.Legs.{LiesOn}
use Rattle.volume_rules.specs.Moving.{leads_to_pvmove}
use Rattle.volume_rules.specs.Rules.{IsAccepted}
use Rattle.volume_rules.specs.declared.rule.Rule.TheVariants.{Volumes}
use Rattle.group_edits.proofs.EditedLegs.{hidden_below, legs_allowed}
use Rattle.group_edits.proofs.Removed.{any_found, leg_lies, removed_whole, same_number, visible_stands}
use Rattle.group_edits.proofs.Whole.{IsWhole}
use Rattle.group_edits.specs.NextVersion.{with_lvs}
use Rattle.group_edits.specs.Marking.{unmarked}
use Rattle.group_edits.specs.Removing.{goes_with, has_leg_on, lv_numbers, on_after, stays, that_stay, without_volume}
use Rattle.group_edits.specs.Renumbered.{renumbered_row}
use Rattle.group_edits.specs.Visible.{IsVisible}

module _ (group : Group) (accepted : IsAccepted group) where
  -- what a leg lies on has a number
  named_below : (n m : ℕ) → LiesOn group n m → m < length group.lvs
  named_below n m lies =
      let below = hidden_below group (legs_allowed group accepted) lies.0 m lies.1 lies.3 in
      slice_get_within group.lvs m below.0 below.1

  -- past the volumes nothing goes
  none_past : (removed lv : ℕ) → removed < length group.lvs → length group.lvs ≤ lv → goes_with group removed 4 lv ≡ false
  none_past removed lv stands past = by (lv == removed) refl (list_any (has_leg_on group lv) (lv_numbers group)) refl where
    rest : Bool
    rest = list_all (λ upper. not (has_leg_on group lv upper) || goes_with group removed 3 upper) (lv_numbers group)

    by : (a : Bool) → (lv == removed) ≡ a → (b : Bool) → list_any (has_leg_on group lv) (lv_numbers group) ≡ b
        → ((lv == removed) || (list_any (has_leg_on group lv) (lv_numbers group)
        && list_all (λ upper. not (has_leg_on group lv upper) || goes_with group removed 3 upper) (lv_numbers group))) ≡ false
    by true same b any = let e = same_number lv removed same in absurd (omega (arith, e, stands, past))
    by false same true any =
        let found = any_found (has_leg_on group lv) (lv_numbers group) any in
        let within = named_below found.0 lv (leg_lies group found.0 lv found.2) in
        absurd (omega (arith, within, past))
    by false same false any =
        ap (λ (a : Bool). a || (list_any (has_leg_on group lv) (lv_numbers group)
        && list_all (λ upper. not (has_leg_on group lv upper) || goes_with group removed 3 upper) (lv_numbers group))) same
        ∙ ap (λ (b : Bool). b && list_all (λ upper. not (has_leg_on group lv upper) || goes_with group removed 3 upper) (lv_numbers group))
        any

  same_stays : (removed : ℕ) (goes : List Bool) → removed < length group.lvs
      → ((lv : ℕ) → lv < 1024 → is_marked goes lv ≡ goes_with group removed 4 lv) → ((lv : ℕ) → 1024 ≤ lv → is_marked goes lv ≡ false)
      → unmarked goes ≡ stays group removed
  unfolding stays
  same_stays removed goes stands told past =
      fun_ext (λ (lv : ℕ). elim (cases_lt lv 1024) [
        | inl below ↦ ap not (told lv below)
        | inr above ↦ ap not (past lv (omega (arith, above))
            ∙ sym (none_past removed lv stands (let few = (accepted Volumes).lvs in omega (arith, few, above))))
      ])

-- what is made of the volumes that aren't marked
pub without_is : (group next : Group) (removed : ℕ) (goes : List Bool) (lvs : List (List ℕ × Lv)) → IsAccepted group
    → removed < length group.lvs → ((lv : ℕ) → lv < 1024 → is_marked goes lv ≡ goes_with group removed 4 lv)
    → ((lv : ℕ) → 1024 ≤ lv → is_marked goes lv ≡ false)
    → lvs ≡ map (renumbered_row (on_after (unmarked goes))) (that_stay (unmarked goes) 0 group.lvs) → next ≡ with_lvs group lvs
    → next ≡ without_volume group removed
without_is group next removed goes lvs accepted stands told past rows made =
    made ∙ ap (with_lvs group) (rows ∙ ap (λ (s : ℕ → Bool). map (renumbered_row (on_after s)) (that_stay s 0 group.lvs))
    (same_stays group accepted removed goes stands told past))

pub rows_by : (group : Group) (numbers goes : List Bool) (lvs : List (List ℕ × Lv)) → numbers ≡ goes
    → lvs ≡ map (renumbered_row (on_after (unmarked numbers))) (that_stay (unmarked numbers) 0 group.lvs)
    → lvs ≡ map (renumbered_row (on_after (unmarked goes))) (that_stay (unmarked goes) 0 group.lvs)
rows_by group numbers goes lvs same rows =
    rows ∙ ap (λ (marks : List Bool). map (renumbered_row (on_after (unmarked marks))) (that_stay (unmarked marks) 0 group.lvs)) same

-- as it is made
pub rest_is : (group found next : Group) (removed : ℕ) (goes : List Bool) (lvs : List (List ℕ × Lv)) → found ≡ group → IsAccepted found
    → IsVisible group removed → ((lv : ℕ) → lv < 1024 → is_marked goes lv ≡ goes_with found removed 4 lv)
    → ((lv : ℕ) → 1024 ≤ lv → is_marked goes lv ≡ false)
    → lvs ≡ map (renumbered_row (on_after (unmarked goes))) (that_stay (unmarked goes) 0 found.lvs) → next ≡ with_lvs found lvs
    → next ≡ without_volume group removed
rest_is group found next removed goes lvs same accepted visible told past rows made =
    without_is found next removed goes lvs accepted
    (subst (λ (g : Group). removed < length g.lvs) (sym same) (visible_stands group removed visible)) told past rows made
    ∙ ap (λ (g : Group). without_volume g removed) same

pub rest_whole : (group found next : Group) (removed : ℕ) → found ≡ group → next ≡ without_volume group removed → IsVisible group removed
    → leads_to_pvmove group 4 removed ≡ false → group.seqno ≢ 4294967295 → IsAccepted found → HasTree found → IsWhole next
rest_whole group found next removed same is visible still other accepted tree =
    subst IsWhole (sym is) (removed_whole group removed visible still other (subst IsAccepted same accepted) (subst HasTree same tree))
