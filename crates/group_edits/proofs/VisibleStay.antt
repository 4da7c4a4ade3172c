-- Of the visible volumes only the removed one goes.
use Rattle.std.proofs.Common.{◌≡◌, ℕ, Bool, true, false, not, ◌||◌, ◌&&◌, List, Some, refl, sym, ap, ◌∙◌}
use Rattle.std.specs.Prelude.{◌≢◌, ◌==◌, slice_get}
use Rattle.std.specs.List.{list_all, list_any}
use Rattle.std.proofs.lemmas.Bool.{eq-eqb, true≢false}
use Rattle.meta_model.specs.declared.group.Group.{Group}
use Rattle.meta_model.specs.declared.lv.Lv.{Lv}
use Rattle.volume_rules.specs.Rules.{IsAccepted}
use Rattle.volume_rules.specs.declared.rule.Rule.TheVariants as rule
use Rattle.group_edits.proofs.Removed.{any_found, leg_lies, same_number}
use Rattle.group_edits.specs.Removing.{goes_with, has_leg_on, lv_numbers, stays}

-- the removed one does
pub removed_goes : (group : Group) (removed : ℕ) → stays group removed removed ≡ false
unfolding stays
removed_goes group removed =
    ap (λ (b : Bool). not (b || (list_any (has_leg_on group removed) (lv_numbers group)
    && list_all (λ upper. not (has_leg_on group removed upper) || goes_with group removed 3 upper) (lv_numbers group))))
    (eq-eqb removed removed refl)

-- another one that is visible stays, since no leg lies on it
pub visible_stays : (group : Group) (removed n : ℕ) (row : List ℕ × Lv) → IsAccepted group → slice_get group.lvs n ≡ Some row
    → row.1.status.visible ≡ true → n ≢ removed → stays group removed n ≡ true
unfolding stays
visible_stays group removed n row accepted there seen other =
    by (n == removed) (list_any (has_leg_on group n) (lv_numbers group)) refl refl where
      by : (same held : Bool) → (n == removed) ≡ same → list_any (has_leg_on group n) (lv_numbers group) ≡ held
          → not (same || (held && list_all (λ upper. not (has_leg_on group n upper) || goes_with group removed 3 upper) (lv_numbers group)))
          ≡ true
      by true held same is = absurd (other (same_number n removed same))
      by false false same is = refl
      by false true same is =
          let upper = any_found (has_leg_on group n) (lv_numbers group) is in
          absurd (true≢false (sym seen ∙ (accepted rule.Depth).hidden upper.0 n row.1 (leg_lies group upper.0 n upper.2) (row.0, there)))
