-- The physical volumes on the disks that the words of a line name, one word after another.
use Rattle.std.proofs.Common.{◌≡◌, ◌<◌, ℕ, ◌+◌, Bool, true, false, cond, List, ◌∷◌, drop, get_or, length, Option, Some, sym, ap, ◌∙◌}
use Rattle.std.specs.Prelude.{filter_map, find, option_map}
use Rattle.std.specs.FinSet as set
use Rattle.std.specs.List.{cons_option}
use Rattle.std.specs.Ordering.{nat_cmp}
use Rattle.std.proofs.lemmas.List.{drop_more}
use Rattle.line_answers.specs.declared.op_refusal.OpRefusal.TheVariants.{NotInGroup}
use Rattle.group_plan.specs.Judging.{with_all}
use Rattle.group_plan.specs.Members.{is_outside, outside_row, pv_named}
use Rattle.group_plan.specs.declared.state.GroupState.{GroupState}

module _ (state : GroupState) (names : List (List ℕ)) (i : ℕ) (own : List ℕ) (within : i < length names) (is : own ≡ get_or names i own)
  where
    rest : drop i names ≡ own ∷ drop (i + 1) names
    rest = drop_more names i own within ∙ ap (λ (first : List ℕ). first ∷ drop (i + 1) names) (sym is)

    -- the group lists none on the disk with this one, or the next is to be looked at
    pub outside_here : (given : List ℕ) → find (is_outside state) (drop i names) ≡ find (is_outside state) names
        → is_outside state own ≡ true
        → given ≡ own → outside_row state names ≡ Some (NotInGroup given)
    unfolding outside_row
    outside_here given before outside copied =
        ap (option_map (λ name. NotInGroup name))
        (sym before ∙ ap (find (is_outside state)) rest
        ∙ ap (λ (b : Bool). cond b (Some own) (find (is_outside state) (drop (i + 1) names))) outside)
        ∙ ap (λ (name : List ℕ). Some (NotInGroup name)) (sym copied)

    pub outside_past : find (is_outside state) (drop i names) ≡ find (is_outside state) names → is_outside state own ≡ false
        → find (is_outside state) (drop (i + 1) names) ≡ find (is_outside state) names
    outside_past before listed =
        sym (ap (find (is_outside state)) rest ∙ ap (λ (b : Bool). cond b (Some own) (find (is_outside state) (drop (i + 1) names))) listed)
        ∙ before

    -- its number is one more of those that are named
    pub named_more : (all : set.FinSet nat_cmp) (found : Option ℕ) → pv_named state own ≡ found
        → with_all all (filter_map (pv_named state) (drop i names))
        ≡ with_all all (cons_option found (filter_map (pv_named state) (drop (i + 1) names)))
    named_more all found told =
        ap (λ (left : List (List ℕ)). with_all all (filter_map (pv_named state) left)) rest
        ∙ ap (λ (o : Option ℕ). with_all all (cons_option o (filter_map (pv_named state) (drop (i + 1) names)))) told
