-- A group in which a visible volume has its first extents alone keeps all rules, and a tree stands for it. What a caller wants
-- of its volumes.
use Rattle.std.proofs.Common.{◌≡◌, ◌≤◌, ◌<◌, ℕ, ◌*◌, ◌^◌, false, List, map, Option, Some, None, refl, sym, ap, subst, ◌∙◌, arith}
use Rattle.std.specs.Prelude.{◌≢◌, slice_get, All, Contains, IsSomeAnd}
use Rattle.std.specs.List.{AllByRecursion as Each}
use Rattle.std.proofs.lemmas.List.Elements.{All-contains, All-from_recursion, recursion_from_All}
use Rattle.meta_model.specs.Standing.{HasTree}
use Rattle.meta_model.specs.declared.group.Group.{Group}
use Rattle.meta_model.specs.declared.lv.Lv.{Lv}
use Rattle.meta_model.specs.declared.segment.Segment.{Segment}
use Rattle.meta_print.proofs.GroupFrom.{printable}
use Rattle.meta_print.proofs.Printable.{IsPrintable}
use Rattle.meta_print.proofs.ReadAgain.{has_tree}
use Rattle.volume_rules.specs.Extents.{extents_of}
use Rattle.volume_rules.specs.Rules.{Follow, IsAccepted, IsWholeMirror, IsWholeStriped}
use Rattle.volume_rules.specs.declared.rule.Rule.TheVariants.{Follows, Mirrors, Numbers, Stripes}
use Rattle.group_edits.proofs.KeptExtents.{IsShared, kept_again, kept_below, kept_more}
use Rattle.group_edits.proofs.Selections.{contains_at}
use Rattle.group_edits.proofs.ShortRules.{printable_short, segments_few, segments_shared, short_accepted}
use Rattle.group_edits.proofs.Whole.{IsWhole, seqno_below}
use Rattle.group_edits.specs.NextVersion.{changed_if, with_lvs}
use Rattle.group_edits.specs.ShortenedVolume.{HasFewLegs, MayKeep, is_layered, kept_of, shortened, shortened_volume}
use Rattle.group_edits.specs.Visible.{visible_named}

-- ---- the group

-- where there is such a volume
pub shortened_whole : (group : Group) (name : List ℕ) (left : ℕ) → IsSomeAnd (visible_named group name) (λ (v : ℕ × Lv). MayKeep left v.1)
    → group.seqno ≢ 4294967295 → IsAccepted group → HasTree group
    → IsWhole (shortened_volume name left group)
shortened_whole group name left may last accepted tree = by (visible_named group name) refl may where
  by : (o : Option (ℕ × Lv)) → visible_named group name ≡ o → IsSomeAnd o (λ (v : ℕ × Lv). MayKeep left v.1)
      → IsWhole (shortened_volume name left group)
  by None found may_keep = absurd may_keep
  by (Some v) found may_keep =
      let below : group.seqno < 4294967295 = seqno_below group accepted last in
      let can : IsPrintable group = printable group tree in
      record {
        accepted = short_accepted group name left v accepted can found may_keep below;
        tree = has_tree (shortened_volume name left group) (printable_short group name left v accepted found may_keep below can);
      }

-- as it is made
pub shortened_made : (group found next : Group) (name : List ℕ) (left : ℕ) (lvs : List (List ℕ × Lv)) → found ≡ group
    → lvs ≡ map (changed_if name (λ (row : List ℕ × Lv). (row.0, shortened left row.1))) found.lvs → next ≡ with_lvs found lvs
    → next ≡ shortened_volume name left group
shortened_made group found next name left lvs same rows made = made ∙ ap (with_lvs found) rows ∙ ap (shortened_volume name left) same

pub made_whole : (group found next : Group) (name : List ℕ) (left : ℕ) → found ≡ group → next ≡ shortened_volume name left group
    → IsSomeAnd (visible_named group name) (λ (v : ℕ × Lv). MayKeep left v.1) → group.seqno ≢ 4294967295
    → IsAccepted found → HasTree found → IsWhole next
made_whole group found next name left same is may last accepted tree =
    subst IsWhole (sym is) (shortened_whole group name left may last (subst IsAccepted same accepted) (subst HasTree same tree))

-- ---- a volume of an accepted group

module _ (group : Group) (accepted : IsAccepted group) (n : ℕ) (row : List ℕ × Lv) (there : slice_get group.lvs n ≡ Some row) where
  within : Contains group.lvs row
  within = contains_at group.lvs n row there

  striped : Each (λ (s : Segment). IsWholeStriped group.extent_size s.count s.kind) row.1.segments
  striped =
      recursion_from_All (λ (s : Segment). IsWholeStriped group.extent_size s.count s.kind) row.1.segments
      (All-contains (λ (r : List ℕ × Lv). All (λ (s : Segment). IsWholeStriped group.extent_size s.count s.kind) r.1.segments) group.lvs row
      (accepted Stripes) within)

  few : Each (λ (s : Segment). HasFewLegs s.kind) row.1.segments
  few =
      segments_few group.extent_size row.1.segments striped
      (recursion_from_All (λ (s : Segment). IsWholeMirror s.kind) row.1.segments
      (All-contains (λ (r : List ℕ × Lv). All (λ (s : Segment). IsWholeMirror s.kind) r.1.segments) group.lvs row (accepted Mirrors)
      within))

  shared : Each (IsShared group.extent_size) row.1.segments
  shared = segments_shared group.extent_size row.1.segments striped few

  -- its segments have one to eight legs
  pub legs_few : All (λ (s : Segment). HasFewLegs s.kind) row.1.segments
  legs_few = All-from_recursion (λ (s : Segment). HasFewLegs s.kind) row.1.segments few

  -- it has few extents
  pub extents_few : extents_of row.1 < 2 ^ 48
  extents_few =
      by (extents_of row.1) group.extent_size (accepted Numbers).extent_size.0
      (All-contains (λ (r : List ℕ × Lv). Follow 0 r.1.segments × (extents_of r.1 * group.extent_size < 2 ^ 48)) group.lvs row
      (accepted Follows) within).1
    where
      by : (count size : ℕ) → 8 ≤ size → count * size < 2 ^ 48 → count < 2 ^ 48
      by count size some small = grind (arith, some, small)

  -- it keeps no more than it has, where no more is said
  pub keeps_within : (said : ℕ) → said ≤ extents_of row.1 → kept_of row.1.segments said ≤ extents_of row.1
  keeps_within said less = kept_below group.extent_size row.1.segments said shared less

  -- what it keeps of what is said may be kept, where that is less than it has
  pub may_keep : (said : ℕ) → 1 ≤ said → is_layered row.1 ≡ false → kept_of row.1.segments said < extents_of row.1
      → MayKeep (kept_of row.1.segments said) row.1
  may_keep said some apart less = record {
    apart = apart;
    some = (let more = kept_more group.extent_size row.1.segments said shared in omega (arith, more, some));
    fewer = less;
    whole = kept_again group.extent_size row.1.segments said shared;
  }
