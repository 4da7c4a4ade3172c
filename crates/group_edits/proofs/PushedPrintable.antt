-- A group with one more physical volume, or another version of one, can be printed, where it could before.
use Rattle.std.proofs.Common.{◌≡◌, ◌<◌, ℕ, ◌^◌, Bool, true, false, List, [], ◌∷◌, ◌++◌, None, refl, sym, ap, subst, ◌∙◌}
use Rattle.std.specs.Prelude.{nat_eq, is_none, slice_get}
use Rattle.std.specs.List.{list_any}
use Rattle.std.specs.Cmp.Lexicographic.{pointwise}
use Rattle.std.proofs.lemmas.Bool.{or_from}
use Rattle.std.proofs.lemmas.List.{map-append}
use Rattle.std.proofs.lemmas.List.Elements.{All-from_recursion}
use Rattle.lvm_name.specs.Names.{any_name_refusal, group_name_refusal, is_among}
use Rattle.meta_model.specs.declared.group.Group.{Group}
use Rattle.meta_model.specs.declared.pv.Pv.{Pv}
use Rattle.meta_model.specs.declared.segment.On.{On}
use Rattle.meta_model.specs.declared.segment.On.TheVariants as on
use Rattle.meta_print.proofs.NamesOfText.{differ_back}
use Rattle.meta_print.proofs.Printable.{AreNames, IsPrintable, IsPv}
use Rattle.volume_view.proofs.MetSegments.{all_at}
use Rattle.list_laws.proofs.Inserted.{each_pushed, none_by, none_passes, slice_get-pushed}
use Rattle.group_edits.proofs.PrintedNames.{IsFound, IsFoundBy, lv_found, lv_names, names_pushed, pv_found, pv_names}
use Rattle.group_edits.proofs.Pushed.{pushed}
use Rattle.group_edits.proofs.RenumberedPrintable.{each_same}

none_pushed : (p : List ℕ → Bool) (xs : List (List ℕ)) (y : List ℕ) → list_any p xs ≡ false → p y ≡ false
    → list_any p (xs ++ y ∷ []) ≡ false
none_pushed p [] y none other = or_from (p y) false other refl
none_pushed p (x ∷ xs) y none other =
    let parts = none_by (p x) (list_any p xs) none in or_from (p x) (list_any p (xs ++ y ∷ [])) parts.0 (none_pushed p xs y parts.1 other)

pub printable_pushed : (group : Group) (row : List ℕ × Pv) → IsPrintable group → IsPv row.1 → any_name_refusal row.0 ≡ None
    → is_among (pv_names group) row.0 ≡ false → is_among (lv_names group) row.0 ≡ false
    → IsPrintable (pushed group row)
printable_pushed group row can pv named free_pv free_lv = record {
  name_is = can.name_is;
  id_again = can.id_again;
  seqno_fits = can.seqno_fits;
  extent_fits = can.extent_fits;
  max_lv_fits = can.max_lv_fits;
  max_pv_fits = can.max_pv_fits;
  copies_fits = can.copies_fits;
  pv_names = names;
  lv_names = can.lv_names;
  each_pv = each_pushed (λ (pv : List ℕ × Pv). IsPv pv.1) group.pvs row can.each_pv pv;
  each_lv = each_same group (pushed group row) again group.lvs can.each_lv;
} where
  more : pv_names (pushed group row) ≡ pv_names group ++ row.0 ∷ []
  more = map-append (λ (pv : List ℕ × Pv). pv.0) group.pvs (row ∷ [])

  names : AreNames [] (pv_names (pushed group row))
  names =
      subst (AreNames []) (sym more)
      (names_pushed [] (pv_names group) row.0 (ap is_none named) refl free_pv can.pv_names)

  again : (is : On) → IsFound group is → IsFoundBy group (pushed group row) is is
  again (on.Pv n) found =
      pv_found group (pushed group row) n n names (λ name at. ap (λ (l : List (List ℕ)). slice_get l n) more
      ∙ slice_get-pushed (pv_names group) (row.0 ∷ []) n name at) found
  again (on.Lv n) found =
      lv_found group (pushed group row) n n can.lv_names (λ name at. at) (λ name at none. ap (λ (l : List (List ℕ)). is_among l name) more
      ∙ none_pushed (pointwise nat_eq name) (pv_names group) row.0 none (differ_back row.0 name
      (all_at (λ (x : List ℕ). pointwise nat_eq row.0 x ≡ false) (lv_names group) n name
      (All-from_recursion (λ (x : List ℕ). pointwise nat_eq row.0 x ≡ false) (lv_names group)
      (none_passes (pointwise nat_eq row.0) (lv_names group) free_lv)) at))) found

-- so can another version of a group, with another name
pub printable_renamed : (group : Group) (new : List ℕ) (seqno : ℕ) → is_none (group_name_refusal new) ≡ true → seqno < 2 ^ 64
    → IsPrintable group → IsPrintable (record group { name = new; seqno = seqno })
printable_renamed group new seqno named small can = record {
  name_is = named;
  id_again = can.id_again;
  seqno_fits = small;
  extent_fits = can.extent_fits;
  max_lv_fits = can.max_lv_fits;
  max_pv_fits = can.max_pv_fits;
  copies_fits = can.copies_fits;
  pv_names = can.pv_names;
  lv_names = can.lv_names;
  each_pv = can.each_pv;
  each_lv = each_same group (record group { name = new; seqno = seqno }) again group.lvs can.each_lv;
} where
  again : (is : On) → IsFound group is → IsFoundBy group (record group { name = new; seqno = seqno }) is is
  again (on.Pv n) found = (found, refl)
  again (on.Lv n) found = (found, refl)

-- or with its own
pub printable_version : (group : Group) (seqno : ℕ) → seqno < 2 ^ 64 → IsPrintable group → IsPrintable (record group { seqno = seqno })
printable_version group seqno small can = printable_renamed group group.name seqno can.name_is small can
