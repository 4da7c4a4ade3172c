-- The restored group keeps all rules, and a tree stands for it, as for the text's.
use Rattle.std.proofs.Common.{◌≡◌, ◌≢◌, ◌≤◌, ◌<◌, ℕ, ◌+◌, ◌^◌, List, [], ◌∷◌, ◌++◌, length, map, Some, refl, sym, ap, subst, ◌∙◌, arith}
use Rattle.std.specs.Prelude.{AllPairs, max, slice_get}
use Rattle.std.specs.List.{AllByRecursion as Each}
use Rattle.std.proofs.lemmas.List.{length-map, map-id}
use Rattle.std.proofs.lemmas.List.Elements.{All-map}
use Rattle.std.proofs.lemmas.Simd.{map-map}
use Rattle.lvm_name.specs.Names.{is_among}
use Rattle.meta_model.specs.Standing.{HasTree}
use Rattle.meta_model.specs.declared.group.Group.{Group}
use Rattle.meta_model.specs.declared.lv.Lv.{Lv}
use Rattle.meta_model.specs.declared.pv.Pv.{Pv}
use Rattle.meta_print.proofs.GroupFrom.{printable}
use Rattle.meta_print.proofs.Printable.{AreNames, IsPrintable, IsPv}
use Rattle.meta_print.proofs.ReadAgain.{has_tree}
use Rattle.volume_rules.specs.Rules.{FitsDevice, IsAccepted, Keeps, PvIsSmall, ids_of}
use Rattle.volume_rules.specs.declared.rule.Rule.TheVariants.{Numbers, Ids, Volumes, Extents}
use Rattle.group_edits.proofs.EditedLegs.{legs_allowed}
use Rattle.group_edits.proofs.EditedPrintable.{rows_print}
use Rattle.group_edits.proofs.EditedRows.{mapped_volumes, same_stays}
use Rattle.group_edits.proofs.Edits.{KeepsSegments}
use Rattle.group_edits.proofs.PrintedNames.{pv_names}
use Rattle.group_edits.proofs.PushedRules.{accepted_base, base_accepted, base_changed}
use Rattle.group_edits.proofs.Renumbered.{same_on}
use Rattle.group_edits.proofs.Selections.{map_at}
use Rattle.group_edits.proofs.Whole.{IsWhole, seqno_below}
use Rattle.group_edits.specs.RestoredGroup.{found_pv, restored_group}

module _ (group : Group) (seqno : ℕ) where
  abbrev other : Group
  other = record group { seqno = seqno; pvs = map found_pv group.pvs }

  ids_same : ids_of other ≡ ids_of group
  ids_same =
      ap (λ (ids : List (List ℕ)). group.id ∷ (ids ++ map (λ (lv : List ℕ × Lv). lv.1.id) group.lvs))
      (map-map (λ (pv : List ℕ × Pv). pv.1.id) found_pv group.pvs)

  numbers_kept : 1 ≤ seqno → seqno ≤ 4294967295 → Keeps group Numbers → Keeps other Numbers
  numbers_kept some most numbers = record {
    seqno = (some, most);
    extent_size = numbers.extent_size;
    limits = numbers.limits;
    pvs = All-map (λ (pv : List ℕ × Pv). PvIsSmall pv.1) found_pv group.pvs numbers.pvs;
    lvs = numbers.lvs;
  }

  pv_there : (k : ℕ) (pv : List ℕ × Pv) → slice_get group.pvs k ≡ Some pv
      → (row : List ℕ × Pv) × (slice_get other.pvs k ≡ Some row) × (row.0 ≡ pv.0) × (row.1.pe_count ≡ pv.1.pe_count)
  pv_there k pv is = (found_pv pv, map_at found_pv group.pvs k pv is, refl, refl)

  restored_accepted : 1 ≤ seqno → seqno ≤ 4294967295 → IsAccepted group → IsAccepted other
  restored_accepted some most accepted =
      let volumes = accepted Volumes in
      let count : length other.pvs ≡ length group.pvs = length-map group.pvs found_pv in
      base_accepted other
      (base_changed group group.name seqno (map found_pv group.pvs) pv_there
      (numbers_kept some most (accepted Numbers)) (subst (AllPairs (λ (a b : List ℕ). a ≢ b)) (sym ids_same) (accepted Ids))
      (All-map (λ (pv : List ℕ × Pv). FitsDevice group.extent_size pv.1) found_pv group.pvs (accepted Extents))
      (accepted_base group accepted))
      (record {
        pvs = (subst (λ (n : ℕ). 1 ≤ n) (sym count) volumes.pvs.0, subst (λ (n : ℕ). n ≤ 64) (sym count) volumes.pvs.1);
        lvs = volumes.lvs;
        max_pv = λ limit. subst (λ (n : ℕ). n ≤ group.max_pv) (sym count) (volumes.max_pv limit);
        max_lv = volumes.max_lv;
      })

  -- ---- its tree

  names_same : pv_names other ≡ pv_names group
  names_same = map-map (λ (pv : List ℕ × Pv). pv.0) found_pv group.pvs

  each_pv : (pvs : List (List ℕ × Pv)) → Each (λ (pv : List ℕ × Pv). IsPv pv.1) pvs
      → Each (λ (pv : List ℕ × Pv). IsPv pv.1) (map found_pv pvs)
  each_pv [] are = tt
  each_pv (pv ∷ pvs) are = (
    record {
      id_again = are.0.id_again;
      device_content = are.0.device_content;
      size_fits = are.0.size_fits;
      start_fits = are.0.start_fits;
      count_fits = are.0.count_fits;
    },
    each_pv pvs are.1,
  )

  restored_printable : seqno < 2 ^ 64 → IsAccepted group → IsPrintable group → IsPrintable other
  restored_printable small accepted can = record {
    name_is = can.name_is;
    id_again = can.id_again;
    seqno_fits = small;
    extent_fits = can.extent_fits;
    max_lv_fits = can.max_lv_fits;
    max_pv_fits = can.max_pv_fits;
    copies_fits = can.copies_fits;
    pv_names = pvs;
    lv_names = can.lv_names;
    each_pv = each_pv group.pvs can.each_pv;
    each_lv =
        rows_print group other (KeepsSegments same_on)
        (mapped_volumes group other (λ row. row) (sym (map-id group.lvs)) pv_there (λ row within. same_stays row))
        (legs_allowed group accepted) pvs can.lv_names
        (λ name none. ap (λ (l : List (List ℕ)). is_among l name) names_same ∙ none) can.each_lv;
  } where
    pvs : AreNames [] (pv_names other)
    pvs = subst (AreNames []) (sym names_same) can.pv_names

-- where neither has the last number
pub restored_whole : (found said : Group) → found.seqno ≢ 4294967295 → said.seqno ≢ 4294967295 → IsAccepted found → IsAccepted said
    → HasTree said → IsWhole (restored_group found said)
restored_whole found said other other' old new tree =
    let most : max found.seqno said.seqno + 1 ≤ 4294967295 =
    (let below = seqno_below found old other in let below' = seqno_below said new other' in omega (arith, below, below')) in
    record {
      accepted = restored_accepted said (max found.seqno said.seqno + 1) (omega arith) most new;
      tree =
          has_tree (restored_group found said) (restored_printable said (max found.seqno said.seqno + 1) (omega (arith, most)) new
          (printable said tree));
    }

-- as it is made
pub restored_made : (found said next : Group) (greater : ℕ) (pvs : List (List ℕ × Pv)) → next ≡ said → greater ≡ max found.seqno said.seqno
    → pvs ≡ map found_pv said.pvs → record next { seqno = greater + 1; pvs = pvs } ≡ restored_group found said
restored_made found said next greater pvs is great are = λ i. record (is i) { seqno = great i + 1; pvs = are i }

pub made_whole : (group text found said next : Group) → found ≡ group → said ≡ text → next ≡ restored_group found said
    → group.seqno ≢ 4294967295 → text.seqno ≢ 4294967295 → IsAccepted found → IsAccepted said → HasTree said → IsWhole next
made_whole group text found said next same same' is other other' old new tree =
    subst IsWhole (sym is)
    (restored_whole found said (subst (λ (g : Group). g.seqno ≢ 4294967295) (sym same) other)
    (subst (λ (g : Group). g.seqno ≢ 4294967295) (sym same') other') old new tree)

pub greater_most : (a b most greater : ℕ) → greater ≡ max a b → a < most → b < most → greater ≤ most
greater_most a b most greater is first second = omega (arith, is, first, second)
