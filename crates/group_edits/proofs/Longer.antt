-- A group in which a visible volume has more segments on free extents keeps all rules, and a tree stands for it.
use Rattle.std.proofs.Common.{◌≡◌, ◌≢◌, ◌<◌, ℕ, ◌^◌, true, false, List, [], ◌∷◌, ◌++◌, length, map, Option, Some, None, refl, sym, ap}
use Rattle.std.proofs.Common.{subst, ◌∙◌, true≢false, arith}
use Rattle.std.specs.Prelude.{All, IsSomeAnd}
use Rattle.std.specs.List.{AllByRecursion as Each}
use Rattle.std.proofs.lemmas.List.Elements.{All-from_recursion}
use Rattle.std.proofs.lemmas.List.Sums.{sum_by-append, sum_by-cons}
use Rattle.std.specs.Str.{bytes_eq}
use Rattle.meta_model.specs.Standing.{HasTree}
use Rattle.meta_model.specs.declared.group.Group.{Group}
use Rattle.meta_model.specs.declared.lv.Lv.{Lv}
use Rattle.meta_model.specs.declared.segment.Segment.{Segment}
use Rattle.meta_print.proofs.GroupFrom.{printable}
use Rattle.meta_print.proofs.Printable.{AreNames, IsLv, IsPrintable, IsSegment}
use Rattle.meta_print.proofs.ReadAgain.{has_tree}
use Rattle.extent_alloc.specs.declared.part.Part.{Part}
use Rattle.volume_rules.proofs.LegRuns.{join_all}
use Rattle.volume_rules.specs.Extents.{extents_of}
use Rattle.volume_rules.specs.Rules.{IsAccepted, LvIsSmall}
use Rattle.volume_rules.specs.declared.rule.Rule.TheVariants.{Numbers, Segments}
use Rattle.group_edits.proofs.EditedLegs.{legs_allowed}
use Rattle.group_edits.proofs.EditedPrintable.{rows_print}
use Rattle.group_edits.proofs.Edits.{AnySegments}
use Rattle.group_edits.proofs.GrownPrintable.{version_printable}
use Rattle.group_edits.proofs.GrownRules.{grown_volumes}
use Rattle.group_edits.proofs.LongerRules.{below_sectors, ends, follows, is_grown, its, its_some, legs_may, longer_accepted}
use Rattle.group_edits.proofs.MadePrintable.{parts_print}
use Rattle.group_edits.proofs.PrintedNames.{lv_names}
use Rattle.group_edits.proofs.Split.{IsSplit, change_between, each_between, each_replaced, map_replaced, split}
use Rattle.group_edits.proofs.Whole.{IsWhole, seqno_below}
use Rattle.group_edits.specs.GivenSegments.{segments_of}
use Rattle.group_edits.specs.LongerVolume.{CanBeLonger, CanBeLongerIf, MayGrow, last_kind, longer, longer_row, longer_volume}
use Rattle.group_edits.specs.NextVersion.{changed_if, with_lvs}
use Rattle.group_edits.specs.Visible.{visible_named}

abbrev Row : Type 0
Row = List ℕ × Lv

-- ---- around the volume

module _ (group : Group) (before after : List Row) (row : Row) (given : List Part) (rows : group.lvs ≡ before ++ row ∷ after)
    (seen : row.1.status.visible ≡ true)
    (may : MayGrow group row.1 given) (accepted : IsAccepted group) where
  abbrev next : Group
  next = with_lvs group (before ++ longer_row given row ∷ after)

  abbrev added : List Segment
  added = segments_of (last_kind row.1.segments) (extents_of row.1) given

  names_same : lv_names next ≡ lv_names group
  names_same = sym (ap (map (λ (r : Row). r.0)) rows ∙ map_replaced (λ (r : Row). r.0) before after row (longer_row given row) refl)

  -- its segments are no more than those of the group
  few : group.seqno < 4294967295 → length (longer given row.1).segments < 2 ^ 64
  few below =
      let most = (longer_accepted group before after row rows accepted given seen may below Segments).few in
      let a = sum_by-append (λ (r : Row). length r.1.segments) before (longer_row given row ∷ after) in
      let b = sum_by-cons (λ (r : Row). length r.1.segments) (longer_row given row) after in
      omega (arith, most, a, b)

  printable_longer : group.seqno < 4294967295 → IsPrintable group → IsPrintable next
  printable_longer below can =
      version_printable group (before ++ longer_row given row ∷ after) below can (subst (AreNames []) (sym names_same) can.lv_names)
      (each_replaced (λ (r : Row). IsLv next r.1) before after row (longer_row given row) olds
      (longer_lv (each_between (λ (r : Row). IsLv next r.1) before after row olds))) where
        olds : Each (λ (r : Row). IsLv next r.1) (before ++ row ∷ after)
        olds =
            subst (Each (λ (r : Row). IsLv next r.1)) rows
            (rows_print group next AnySegments
            (grown_volumes group (before ++ longer_row given row ∷ after) (is_grown group before after row rows accepted given seen may))
            (legs_allowed group accepted) can.pv_names (subst (AreNames []) (sym names_same) can.lv_names) (λ own none. none) can.each_lv)

        longer_lv : IsLv next row.1 → IsLv next (longer given row.1)
        longer_lv is = record {
          id_again = is.id_again;
          created_fits = is.created_fits;
          host_content = is.host_content;
          count_fits = few below;
          each =
              join_all (IsSegment next) row.1.segments added is.each
              (parts_print (last_kind row.1.segments) group next _ given (legs_may group before after row rows accepted) may.laid
              (accepted Numbers).pvs refl can.pv_names (extents_of row.1)
              (ends group before after row rows accepted given seen may));
        }

  pub whole_around : group.seqno < 4294967295 → HasTree group → IsWhole next
  whole_around below tree = record {
    accepted = longer_accepted group before after row rows accepted given seen may below;
    tree = has_tree next (printable_longer below (printable group tree));
  }

  -- it can be made longer
  pub can_be : CanBeLonger given row.1
  can_be = record {
    some = its_some group before after row rows accepted;
    small = its group before after row rows accepted (λ (r : Row). LvIsSmall r.1) (accepted Numbers).lvs;
    follow = (follows group before after row rows accepted).0;
    fits = let few = below_sectors group accepted (extents_of (longer given row.1)) may.sectors in omega (arith, few);
  }

-- ---- the volume of a name

module _ (group : Group) (name : List ℕ) (given : List Part) where
  abbrev Grows : Type 0
  Grows = IsSomeAnd (visible_named group name) (λ (volume : ℕ × Lv). MayGrow group volume.1 given)

  -- its place among the volumes
  record IsFound : Type 0 where
    v : ℕ × Lv
    place : IsSplit name group.lvs v.1
    may : MayGrow group place.row.1 given

  found_by : HasTree group → Grows → IsFound
  unfolding visible_named
  found_by tree grows = by (visible_named group name) refl grows where
    by : (o : Option (ℕ × Lv)) → visible_named group name ≡ o → IsSomeAnd o (λ (volume : ℕ × Lv). MayGrow group volume.1 given) → IsFound
    by None found may = absurd may
    by (Some v) found may =
        let place : IsSplit name group.lvs v.1 = split name 0 group.lvs [] v found (printable group tree).lv_names in
        record { v = v; place = place; may = subst (λ (lv : Lv). MayGrow group lv given) (sym place.is_volume) may }

  changed_is : (f : IsFound) → longer_volume name given group
      ≡ with_lvs group (f.place.before ++ longer_row given f.place.row ∷ f.place.after)
  changed_is f =
      ap (λ (lvs : List Row). with_lvs group (map (changed_if name (longer_row given)) lvs)) f.place.rows_is
      ∙ ap (with_lvs group) (change_between name (longer_row given) f.place.before f.place.after f.place.row f.place.earlier f.place.later
      f.place.named)

  pub longer_whole : Grows → group.seqno ≢ 4294967295 → IsAccepted group → HasTree group → IsWhole (longer_volume name given group)
  longer_whole grows other accepted tree =
      let f : IsFound = found_by tree grows in
      subst IsWhole (sym (changed_is f)) (whole_around group f.place.before f.place.after f.place.row given f.place.rows_is f.place.seen
      f.may accepted (seqno_below group accepted other) tree)

  others_can : (rows : List Row) → Each (λ (row : Row). bytes_eq row.0 name ≡ false) rows → Each (CanBeLongerIf name given) rows
  others_can [] others = tt
  others_can (row ∷ rows) others = (λ named. absurd (true≢false (sym named ∙ others.0)), others_can rows others.1)

  pub can_lengthen : Grows → IsAccepted group → HasTree group → All (CanBeLongerIf name given) group.lvs
  can_lengthen grows accepted tree =
      let f : IsFound = found_by tree grows in
      subst (All (CanBeLongerIf name given)) (sym f.place.rows_is)
      (All-from_recursion (CanBeLongerIf name given) (f.place.before ++ f.place.row ∷ f.place.after)
      (join_all (CanBeLongerIf name given) f.place.before (f.place.row ∷ f.place.after) (others_can f.place.before f.place.earlier) (
        λ named. can_be group f.place.before f.place.after f.place.row given f.place.rows_is f.place.seen f.may accepted,
        others_can f.place.after f.place.later,
      )))

-- ---- as it is made

module _ (group found : Group) (name : List ℕ) (given parts : List Part) (same : found ≡ group) (slice : parts ≡ given) where
  pub can_made : Grows group name given → IsAccepted found → HasTree found → All (CanBeLongerIf name parts) found.lvs
  can_made grows accepted tree =
      subst (λ (ps : List Part). All (CanBeLongerIf name ps) found.lvs) (sym slice)
      (subst (λ (g : Group). All (CanBeLongerIf name given) g.lvs) (sym same)
      (can_lengthen group name given grows (subst IsAccepted same accepted) (subst HasTree same tree)))

  pub longer_made : (lvs : List Row) (later : Group) → lvs ≡ map (changed_if name (longer_row parts)) found.lvs → later ≡ with_lvs found lvs
      → later ≡ longer_volume name given group
  longer_made lvs later rows made =
      made
      ∙ ap (with_lvs found) rows
      ∙ ap (λ (ps : List Part). longer_volume name ps found) slice
      ∙ ap (longer_volume name given) same

  pub made_whole : (later : Group) → later ≡ longer_volume name given group → Grows group name given → group.seqno ≢ 4294967295
      → IsAccepted found → HasTree found → IsWhole later
  made_whole later is grows other accepted tree =
      subst IsWhole (sym is) (longer_whole group name given grows other (subst IsAccepted same accepted) (subst HasTree same tree))
