-- A group in which a visible volume has a new name keeps all rules, and a tree stands for it.
use Rattle.std.proofs.Common.{◌≡◌, ◌<◌, ℕ, Bool, true, false, cond, List, [], ◌∷◌, length, map, Option, Some, None, refl, sym, ap, subst}
use Rattle.std.proofs.Common.{◌∙◌, arith}
use Rattle.std.specs.Prelude.{◌≢◌, is_none, is_some, Contains}
use Rattle.std.specs.List.{AllByRecursion as Each}
use Rattle.std.proofs.lemmas.Bool.{false≢true, true≢false}
use Rattle.std.specs.Str.{bytes_eq}
use Rattle.lvm_name.specs.Names.{any_name_refusal, is_among, volume_name_refusal, is_reserved}
use Rattle.meta_model.specs.Standing.{HasTree}
use Rattle.meta_model.specs.Tables.{names_of}
use Rattle.meta_model.specs.declared.group.Group.{Group}
use Rattle.meta_model.specs.declared.lv.Lv.{Lv}
use Rattle.meta_print.proofs.GroupFrom.{printable}
use Rattle.meta_print.proofs.NamesOfText.{Passes, passes_by}
use Rattle.meta_print.proofs.Printable.{AreNames, IsLv, IsPrintable}
use Rattle.meta_print.proofs.ReadAgain.{has_tree}
use Rattle.volume_rules.specs.Rules.{IsAccepted}
use Rattle.group_edits.proofs.EditedLegs.{legs_allowed}
use Rattle.group_edits.proofs.EditedPrintable.{rows_print}
use Rattle.group_edits.proofs.EditedRows.{KeepsOwn, mapped_accepted, mapped_volumes, same_keeps}
use Rattle.group_edits.proofs.Edits.{KeepsSegments, StaysAs}
use Rattle.group_edits.proofs.GrownPrintable.{version_printable}
use Rattle.group_edits.proofs.OneNamed.{IsVisibleAt, is_this, visible_at}
use Rattle.group_edits.proofs.PrintedNames.{lv_names}
use Rattle.group_edits.proofs.RenamedPlaces.{named_same}
use Rattle.group_edits.proofs.RenamedPrintable.{names_after}
use Rattle.group_edits.proofs.Renumbered.{row_is_same, same_on}
use Rattle.group_edits.proofs.Whole.{IsWhole, seqno_below}
use Rattle.group_edits.specs.NextVersion.{changed_if, with_lvs}
use Rattle.group_edits.specs.Visible.{visible_named}
use Rattle.group_edits.specs.RenamedVolume.{renamed_volume}

-- a name that users may give is one of a volume
pub given_named : (name : List ℕ) → volume_name_refusal name ≡ None → is_none (any_name_refusal name) ≡ true
given_named name none =
    let p : Passes name = passes_by is_reserved name (ap is_none none) in rw (p.some, p.short, p.no_dash, p.no_dots, p.bytes) refl

-- ---- the group

module _ (group : Group) (old new : List ℕ) (v : ℕ × Lv) (accepted : IsAccepted group) (tree : HasTree group)
    (found : visible_named group old ≡ Some v) where
  can : IsPrintable group
  can = printable group tree

  -- a volume is visible, where it has the old name
  seen : (row : List ℕ × Lv) → Contains group.lvs row → bytes_eq row.0 old ≡ true → row.1.status.visible ≡ true
  seen row within same =
      let at : IsVisibleAt 0 old group.lvs v = visible_at group old v found in
      ap (λ (lv : Lv). lv.status.visible) (is_this group old v can found row within same ∙ sym at.volume) ∙ at.visible

  name_kept : (row : List ℕ × Lv) → Contains group.lvs row → row.1.status.visible ≡ false
      → (changed_if old (λ (r : List ℕ × Lv). (new, r.1)) row).0 ≡ row.0
  name_kept row within hidden = by (bytes_eq row.0 old) refl where
    by : (b : Bool) → bytes_eq row.0 old ≡ b → (cond b (new, row.1) row).0 ≡ row.0
    by true is = absurd (true≢false (sym (seen row within is) ∙ hidden))
    by false is = refl

  stays : (row : List ℕ × Lv) → Contains group.lvs row
      → StaysAs same_on (KeepsSegments same_on) row (changed_if old (λ (r : List ℕ × Lv). (new, r.1)) row)
  stays row within = record {
    status = ap (λ (lv : Lv). lv.status) (named_same old new row);
    hidden = λ hidden. (λ i. (name_kept row within hidden i, named_same old new row i)) ∙ sym (row_is_same row);
    segments =
        subst (λ (lv : Lv). KeepsSegments same_on row.1.segments lv.segments) (sym (named_same old new row)) (same_keeps row.1.segments);
  }

  renamed_accepted : group.seqno < 4294967295 → IsAccepted (renamed_volume old new group)
  renamed_accepted below =
      mapped_accepted group (changed_if old (λ (r : List ℕ × Lv). (new, r.1))) (λ row. ap (λ (lv : Lv). lv.id) (named_same old new row))
      (λ row. let same = ap (λ (lv : Lv). length lv.segments) (named_same old new row) in omega (arith, same))
      stays
      (λ row within own. subst (KeepsOwn group.extent_size) (sym (named_same old new row)) own) below accepted

  each_row : (rows : List (List ℕ × Lv)) → Each (λ (lv : List ℕ × Lv). IsLv (renamed_volume old new group) lv.1) rows
      → Each (λ (lv : List ℕ × Lv). IsLv (renamed_volume old new group) lv.1)
      (map (changed_if old (λ (r : List ℕ × Lv). (new, r.1))) rows)
  each_row [] are = tt
  each_row (row ∷ rows) are = (subst (IsLv (renamed_volume old new group)) (sym (named_same old new row)) are.0, each_row rows are.1)

  renamed_printable : AreNames [] (lv_names (renamed_volume old new group)) → group.seqno < 4294967295
      → IsPrintable (renamed_volume old new group)
  renamed_printable names below =
      version_printable group (map (changed_if old (λ (r : List ℕ × Lv). (new, r.1))) group.lvs) below can names
      (each_row group.lvs (rows_print group (renamed_volume old new group) (KeepsSegments same_on)
      (mapped_volumes group (renamed_volume old new group) (changed_if old (λ (r : List ℕ × Lv). (new, r.1))) refl
      (λ n pv is. (pv, is, refl, refl)) stays)
      (legs_allowed group accepted) can.pv_names names (λ own none. none) can.each_lv))

  pub volume_whole : is_among (names_of group.lvs) new ≡ false → volume_name_refusal new ≡ None → group.seqno < 4294967295
      → IsWhole (renamed_volume old new group)
  volume_whole free valid below = record {
    accepted = renamed_accepted below;
    tree =
        has_tree (renamed_volume old new group)
        (renamed_printable (names_after old new group.lvs (given_named new valid) free can.lv_names) below);
  }

-- where there is a visible volume of the old name
pub renamed_whole : (group : Group) (old new : List ℕ) → is_some (visible_named group old) ≡ true
    → is_among (names_of group.lvs) new ≡ false → volume_name_refusal new ≡ None → group.seqno ≢ 4294967295
    → IsAccepted group → HasTree group → IsWhole (renamed_volume old new group)
renamed_whole group old new there free valid other accepted tree = by (visible_named group old) refl there where
  by : (o : Option (ℕ × Lv)) → visible_named group old ≡ o → is_some o ≡ true → IsWhole (renamed_volume old new group)
  by None found is = absurd (false≢true is)
  by (Some v) found is = volume_whole group old new v accepted tree found free valid (seqno_below group accepted other)

-- as it is made
pub volume_made : (group found next : Group) (old new : List ℕ) (lvs : List (List ℕ × Lv)) → found ≡ group
    → lvs ≡ map (changed_if old (λ (row : List ℕ × Lv). (new, row.1))) found.lvs → next ≡ with_lvs found lvs
    → next ≡ renamed_volume old new group
volume_made group found next old new lvs same rows made = made ∙ ap (with_lvs found) rows ∙ ap (renamed_volume old new) same

pub made_whole : (group found next : Group) (old new : List ℕ) → found ≡ group → next ≡ renamed_volume old new group
    → is_some (visible_named group old) ≡ true → is_among (names_of group.lvs) new ≡ false → volume_name_refusal new ≡ None
    → group.seqno ≢ 4294967295
    → IsAccepted found → HasTree found → IsWhole next
made_whole group found next old new same is there free valid other accepted tree =
    subst IsWhole (sym is) (renamed_whole group old new there free valid other (subst IsAccepted same accepted) (subst HasTree same tree))
