-- What the rows of an lvreduce say of its volume, and that they plan its change.
use Rattle.std.proofs.Common.{◌≡◌, ◌≤◌, ◌<◌, ℕ, zero, suc, ◌*◌, ◌^◌, true, false, List, [], ◌∷◌, length, Option, Some, None, Result, refl}
use Rattle.std.proofs.Common.{sym, ap, subst, ◌∙◌, arith}
use Rattle.std.specs.Prelude.{nat_le, slice_get, All, IsSomeAnd}
use Rattle.std.specs.Option.{option_map_or}
use Rattle.std.proofs.lemmas.Bool.Decides.{nat_tests}
use Rattle.std.proofs.lemmas.Grind.{div_ceil_times}
use Rattle.std.proofs.lemmas.Option.{slice_get_within}
use Rattle.command_table.specs.declared.amount.Amount.{Amount}
use Rattle.command_table.specs.declared.amount.Amount.TheVariants.{Extents, Sectors}
use Rattle.line_answers.specs.declared.op_refusal.OpRefusal.{OpRefusal}
use Rattle.line_answers.specs.declared.op_refusal.OpRefusal.TheVariants.{Layered, NotShorter}
use Rattle.meta_model.specs.declared.group.Group.{Group}
use Rattle.meta_model.specs.declared.lv.Lv.{Lv}
use Rattle.meta_model.specs.declared.segment.Segment.{Segment}
use Rattle.volume_rules.specs.Extents.{extents_of}
use Rattle.volume_rules.specs.Rules.{IsAccepted}
use Rattle.group_edits.proofs.OneNamed.{IsVisibleAt, visible_at}
use Rattle.group_edits.proofs.Shortened.{extents_few, keeps_within, legs_few, may_keep}
use Rattle.group_edits.specs.ShortenedVolume.{HasFewLegs, MayKeep, is_layered, kept_of, parts_of, shortened_volume}
use Rattle.group_edits.specs.Visible.{IsVisible, visible_named}
use Rattle.group_plan.proofs.Chained.{plans_back}
use Rattle.group_plan.proofs.Rows.{test_fails}
use Rattle.group_plan.specs.Committing.{length_row, no_area_row, seqno_row, version_change}
use Rattle.group_plan.specs.Judging.{first_refusal}
use Rattle.group_plan.specs.Plans.{Plans}
use Rattle.group_plan.specs.declared.refusal.PlanRefusal.{PlanRefusal}
use Rattle.group_plan.specs.declared.state.Change.{Change}
use Rattle.group_plan.specs.declared.state.GroupState.{GroupState}
use Rattle.lv_plans.specs.Lvreduce.{reduce_lv_rows, reduced_group, shorter_row}
use Rattle.lv_plans.specs.Sizes.{IsAmount, extents_for, kept_by}
use Rattle.lv_plans.specs.Volumes.{layered_row, locked_row}

-- what has one or more is in one part or more
pub some_parts : (count size : ℕ) → 1 ≤ count → 1 ≤ size → 1 ≤ parts_of count size
some_parts count size some least = by (parts_of count size) (div_ceil_times count size least).0 where
  by : (parts : ℕ) → count ≤ parts * size → 1 ≤ parts
  by zero bound = absurd (omega (arith, bound, some))
  by (suc parts) bound = omega arith

-- an amount is an extent or more
pub some_extents : (size : ℕ) (amount : Amount) → 1 ≤ size → IsAmount amount → 1 ≤ extents_for size amount
some_extents size (Extents count) some is = is.0
some_extents size (Sectors count) some is = some_parts count size is.0 some

-- a visible volume's number is one of a volume
pub visible_within : (group : Group) (number : ℕ) → IsVisible group number → number < length group.lvs
visible_within group number seen = by (slice_get group.lvs number) refl seen where
  by : (o : Option (List ℕ × Lv)) → slice_get group.lvs number ≡ o → IsSomeAnd o (λ (row : List ℕ × Lv). row.1.status.visible ≡ true)
      → number < length group.lvs
  by None there is = absurd is
  by (Some row) there is = slice_get_within group.lvs number row there

-- ---- the rows

pub not_layered : (name : List ℕ) (lv : Lv) → layered_row name lv ≡ None → is_layered lv ≡ false
unfolding layered_row
not_layered name lv none = test_fails (is_layered lv) (Layered name) none

pub keeps_fewer : (kept has : ℕ) → shorter_row kept has ≡ None → kept < has
keeps_fewer kept has none =
    let fails : nat_le has kept ≡ false = test_fails (nat_le has kept) (NotShorter kept has) none in grind (arith, nat_tests, fails)

-- ---- the volume

module _ (group : Group) (accepted : IsAccepted group) (name : List ℕ) (number : ℕ) (lv : Lv)
    (volume : visible_named group name ≡ Some (number, lv)) where
  at : IsVisibleAt 0 name group.lvs (number, lv)
  at = visible_at group name (number, lv) volume

  pub has_few_legs : All (λ (s : Segment). HasFewLegs s.kind) lv.segments
  has_few_legs =
      subst (λ (v : Lv). All (λ (s : Segment). HasFewLegs s.kind) v.segments) at.volume (legs_few group accepted at.k at.row at.there)

  pub has_few_extents : extents_of lv < 2 ^ 48
  has_few_extents = subst (λ (v : Lv). extents_of v < 2 ^ 48) at.volume (extents_few group accepted at.k at.row at.there)

  -- it keeps no more than it has, where no more is said
  pub keeps_no_more : (said : ℕ) → said ≤ extents_of lv → kept_of lv.segments said ≤ extents_of lv
  keeps_no_more said =
      subst (λ (v : Lv). said ≤ extents_of v → kept_of v.segments said ≤ extents_of v) at.volume
      (keeps_within group accepted at.k at.row at.there said)

  -- where the rows on it pass
  pub may_be_cut : (said : ℕ) → 1 ≤ said → layered_row name lv ≡ None → shorter_row (kept_of lv.segments said) (extents_of lv) ≡ None
      → MayKeep (kept_of lv.segments said) lv
  may_be_cut said some apart fewer =
      by lv at.volume (not_layered name lv apart) (keeps_fewer (kept_of lv.segments said) (extents_of lv) fewer) where
        by : (v : Lv) → at.row.1 ≡ v → is_layered v ≡ false → kept_of v.segments said < extents_of v → MayKeep (kept_of v.segments said) v
        by v is apart' fewer' =
            subst (λ (w : Lv). MayKeep (kept_of w.segments said) w) is
            (may_keep group accepted at.k at.row at.there said some (subst (λ (w : Lv). is_layered w ≡ false) (sym is) apart')
            (subst (λ (w : Lv). kept_of w.segments said < extents_of w) (sym is) fewer'))

-- ---- one after another

five_pass : (a b c d e : Option OpRefusal) → a ≡ None → b ≡ None → c ≡ None → d ≡ None → e ≡ None
    → first_refusal (a ∷ b ∷ c ∷ d ∷ e ∷ []) ≡ None
five_pass a b c d e first second third fourth fifth = rw (first, second, third, fourth, fifth) refl

-- the rows, where none before the text's refuses
pub reduce_plans : (state : GroupState) (name : List ℕ) (amount : Amount) (now number kept : ℕ) (lv : Lv) (found group next : Group)
    (result : Result Change PlanRefusal) → found ≡ group → kept ≡ kept_by found.extent_size amount lv
    → next ≡ shortened_volume name kept group → locked_row found name number ≡ None → layered_row name lv ≡ None → no_area_row state ≡ None
    → shorter_row kept (extents_of lv) ≡ None → seqno_row found ≡ None
    → Plans (length_row state next now ∷ []) (version_change state next) result
    → Plans (reduce_lv_rows state name amount now group (number, lv)) (version_change state (reduced_group name amount group lv)) result
reduce_plans state name amount now number kept lv found group next result same is made unlocked apart area fewer seqno plans =
    let by_group : kept ≡ kept_by group.extent_size amount lv = is ∙ ap (λ (g : Group). kept_by g.extent_size amount lv) same in
    plans_back (locked_row group name number ∷ layered_row name lv ∷ no_area_row state
    ∷ shorter_row (kept_by group.extent_size amount lv) (extents_of lv) ∷ seqno_row group ∷ [])
    (length_row state (reduced_group name amount group lv) now ∷ []) (version_change state (reduced_group name amount group lv)) result
    (five_pass (locked_row group name number) (layered_row name lv) (no_area_row state)
    (shorter_row (kept_by group.extent_size amount lv) (extents_of lv)) (seqno_row group)
    (subst (λ (g : Group). locked_row g name number ≡ None) same unlocked) apart area
    (subst (λ (k : ℕ). shorter_row k (extents_of lv) ≡ None) by_group fewer) (subst (λ (g : Group). seqno_row g ≡ None) same seqno))
    (subst (λ (g : Group). Plans (length_row state g now ∷ []) (version_change state g) result)
    (made ∙ ap (λ (k : ℕ). shortened_volume name k group) by_group) plans)

-- the rows and the change, where this is the volume
pub plans_there : (o : Option (ℕ × Lv)) (v : ℕ × Lv) (rows : ℕ × Lv → List (Option OpRefusal)) (others : List (Option OpRefusal))
    (wanted : ℕ × Lv → Change) (none : Change) (result : Result Change PlanRefusal)
    → o ≡ Some v → Plans (rows v) (wanted v) result → Plans (option_map_or rows o others) (option_map_or wanted o none) result
plans_there o v rows others wanted none result is plans =
    subst (λ (p : Option (ℕ × Lv)). Plans (option_map_or rows p others) (option_map_or wanted p none) result) (sym is) plans
