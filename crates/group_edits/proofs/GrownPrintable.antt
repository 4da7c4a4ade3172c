-- New legs on physical volumes can be printed, and so can the next version of a group, where its volumes can.
use Rattle.std.proofs.Common.{◌≡◌, ◌<◌, ℕ, ◌^◌, true, List, [], ◌∷◌, map, Some, refl, sym, subst, arith}
use Rattle.std.specs.Prelude.{is_none, slice_get}
use Rattle.std.specs.List.{AllByRecursion as Each, list_all}
use Rattle.std.proofs.lemmas.Bool.{and_parts}
use Rattle.conf_text.specs.Bytes.{kind}
use Rattle.conf_text.specs.Grammar.{IsContent, is_allowed, is_name}
use Rattle.conf_text.specs.declared.kind.Kind.{Kind}
use Rattle.conf_text.specs.declared.kind.Kind.TheVariants.{Digit, Letter}
use Rattle.lvm_name.specs.Names.{any_name_refusal}
use Rattle.meta_model.specs.declared.group.Group.{Group}
use Rattle.meta_model.specs.declared.lv.Lv.{Lv}
use Rattle.meta_model.specs.declared.pv.Pv.{Pv}
use Rattle.meta_model.specs.declared.segment.Leg.{Leg}
use Rattle.meta_model.specs.declared.segment.On.{On}
use Rattle.meta_model.specs.declared.segment.On.TheVariants as on
use Rattle.meta_print.specs.Layout.{name_of}
use Rattle.meta_print.proofs.NamesOfText.{volume_name-name}
use Rattle.meta_print.proofs.Printable.{AreNames, IsLeg, IsLv, IsPrintable}
use Rattle.group_edits.proofs.PrintedNames.{IsFound, pv_named, pv_names, valid_at}
use Rattle.group_edits.proofs.Selections.{map_at}
use Rattle.group_edits.specs.NextVersion.{with_lvs}

-- ---- names can be printed

name_allowed : (k : Kind) → is_name k ≡ true → is_allowed k ≡ true
name_allowed Digit is = refl
name_allowed Letter is = refl
name_allowed _ is = absurd cc

all_allowed : (bs : List ℕ) → list_all (λ b. is_name (kind b)) bs ≡ true → list_all (λ b. is_allowed (kind b)) bs ≡ true
all_allowed [] all = refl
all_allowed (b ∷ bs) all =
    let parts = and_parts (is_name (kind b)) (list_all (λ b. is_name (kind b)) bs) all in
    rw (name_allowed (kind b) parts.0, all_allowed bs parts.1) refl

name_content : (name : List ℕ) → is_none (any_name_refusal name) ≡ true → IsContent name
name_content name valid = all_allowed name (volume_name-name name valid).1

-- ---- a leg on a physical volume

pub new_leg : (group : Group) → AreNames [] (pv_names group) → (leg : Leg) (pv : ℕ) (row : List ℕ × Pv) → leg.on ≡ on.Pv pv
    → slice_get group.pvs pv ≡ Some row → leg.first < 2 ^ 64 → IsLeg group leg
new_leg group are leg pv row lies there first =
    let at : slice_get (pv_names group) pv ≡ Some row.0 = map_at (λ (r : List ℕ × Pv). r.0) group.pvs pv row there in
    let found = pv_named group pv row.0 are at in
    record {
      found = subst (IsFound group) (sym lies) found.0;
      content =
          subst (λ (o : On). IsContent (name_of group o)) (sym lies)
          (subst IsContent (sym found.1) (name_content row.0 (valid_at [] (pv_names group) pv row.0 are at)));
      first_fits = first;
    }

-- ---- the group

-- the next version of a group can be printed, where its volumes can
pub version_printable : (group : Group) (lvs : List (List ℕ × Lv)) → group.seqno < 4294967295 → IsPrintable group
    → AreNames [] (map (λ (lv : List ℕ × Lv). lv.0) lvs) → Each (λ (lv : List ℕ × Lv). IsLv (with_lvs group lvs) lv.1) lvs
    → IsPrintable (with_lvs group lvs)
version_printable group lvs below can names each = record {
  name_is = can.name_is;
  id_again = can.id_again;
  seqno_fits = omega (arith, below);
  extent_fits = can.extent_fits;
  max_lv_fits = can.max_lv_fits;
  max_pv_fits = can.max_pv_fits;
  copies_fits = can.copies_fits;
  pv_names = can.pv_names;
  lv_names = names;
  each_pv = can.each_pv;
  each_lv = each;
}
