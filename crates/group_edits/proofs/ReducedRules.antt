-- A group without a physical volume on which no leg lies keeps all rules, where it has another one, and can be printed.
use Rattle.std.proofs.Common.{◌≡◌, ◌≢◌, ◌<◌, ℕ, zero, suc, ◌+◌, false, List, [], ◌∷◌, ◌++◌, length, map, Some, inl, refl, sym, ap, subst}
use Rattle.std.proofs.Common.{◌∙◌, arith, ◌^◌, get_or}
use Rattle.std.proofs.lemmas.Option.{slice_get-get_or}
use Rattle.std.specs.Prelude.{slice_get, All, AllPairs}
use Rattle.std.specs.List.{remove}
use Rattle.std.proofs.lemmas.List.{length-map}
use Rattle.std.proofs.lemmas.List.Edits.{length-remove}
use Rattle.std.proofs.lemmas.List.Elements.{All-contains, All-from_recursion, All-map, recursion_from_All}
use Rattle.meta_model.specs.declared.group.Group.{Group}
use Rattle.meta_model.specs.declared.pv.Pv.{Pv}
use Rattle.meta_model.specs.declared.segment.On.{On}
use Rattle.meta_model.specs.declared.segment.On.TheVariants as on
use Rattle.volume_rules.specs.Legs.{runs_of}
use Rattle.volume_rules.specs.Rules.{FitsDevice, IsAccepted, PvIsSmall, ids_of}
use Rattle.volume_rules.specs.declared.rule.Rule.TheVariants.{Numbers, Ids, Volumes, Segments, Extents}
use Rattle.group_edits.proofs.EditedLegs.{legs_allowed, legs_kept}
use Rattle.group_edits.proofs.EditedPrintable.{row_prints}
use Rattle.group_edits.proofs.EditedRows.{AllKeepOwn, all_renumbered, all_rules, keep_own, next_numbers, renumbered_stays, row_edit}
use Rattle.group_edits.proofs.EditedRows.{segments_renumbered}
use Rattle.group_edits.proofs.Edits.{Any, KeepsSegments, KeepsVolumes, OnStays, Row, StaysAs, WasRow}
use Rattle.group_edits.proofs.PrintedNames.{lv_names, none_some, pv_names, some_names}
use Rattle.group_edits.proofs.ReducedRuns.{IsElsewhere, get_without, number_apart, runs_elsewhere}
use Rattle.group_edits.proofs.Renumbered.{unchanged}
use Rattle.group_edits.proofs.Selections.{AreSome, map_at, map_from, map_part, some_all, some_front, some_map, some_pairs, some_without}
use Rattle.group_edits.specs.ReducedGroup.{has_leg_on_pv, number_without, on_without_pv, reduced_group}
use Rattle.group_edits.specs.Renumbered.{renumbered_row}
use Rattle.meta_print.proofs.Printable.{AreNames, IsLv, IsPrintable, IsPv}

-- ---- lists

pub all_without : {X : Type 0} (P : X → Type 0) (xs : List X) (removed : ℕ) → All P xs → All P (remove xs removed)
all_without P xs removed all = some_all P (remove xs removed) xs (some_without xs removed) all

pub map-remove : {X Y : Type 0} (f : X → Y) (xs : List X) (removed : ℕ) → map f (remove xs removed) ≡ remove (map f xs) removed
map-remove f [] zero = refl
map-remove f [] (suc removed) = refl
map-remove f (x ∷ xs) zero = refl
map-remove f (x ∷ xs) (suc removed) = ap (λ ys. f x ∷ ys) (map-remove f xs removed)

-- ---- the group

-- it is another physical volume
abbrev pub IsOther : ℕ → ℕ → Type 0
IsOther removed pv = pv ≢ removed

pub on_other : (removed : ℕ) (o : On) → o ≢ on.Pv removed → OnStays (IsOther removed) Any o
on_other removed (on.Pv pv) other = λ same. other (ap on.Pv same)
on_other removed (on.Lv lv) other = tt

module _ (group : Group) (removed : ℕ) (unused : has_leg_on_pv group removed ≡ false) where
  abbrev rest : Group
  rest = reduced_group group removed

  abbrev number : On → On
  number = on_without_pv removed

  row_was : (m : ℕ) (now : Row) → slice_get rest.lvs m ≡ Some now → WasRow group number unchanged Any (KeepsSegments number) m now
  row_was m now is =
      let row = map_from (renumbered_row number) group.lvs m now is in
      record {
        n = m;
        was = row.0;
        stays = tt;
        at = refl;
        there = row.1;
        kept = subst (StaysAs number (KeepsSegments number) row.0) row.2 (renumbered_stays number row.0);
      }

  pub keeps_volumes : KeepsVolumes group rest number (number_without removed) unchanged (IsOther removed) Any (KeepsSegments number)
  keeps_volumes = record {
    pv_is = λ n. refl;
    lv_is = λ n. refl;
    pv_apart = number_apart removed;
    lv_apart = λ a b first second same. same;
    pv_there = λ n pv other is. (pv, get_without group.pvs removed n other ∙ is, refl, refl);
    lv_there =
        λ n row stays is. (
          renumbered_row number row,
          map_at (renumbered_row number) group.lvs n row is,
          renumbered_stays number row,
        );
    lv_from = λ m now is. inl (row_was m now is);
    below = λ run within stays. on_other removed run.on
        (All-contains (IsElsewhere removed) (runs_of group) run (runs_elsewhere removed group unused) within);
    above = λ run m within lies moves. tt;
  }

  -- the group without it keeps all rules
  pub reduced_accepted : removed < length group.pvs → length group.pvs ≢ 1 → group.seqno < 4294967295 → IsAccepted group → IsAccepted rest
  reduced_accepted within more below accepted =
      let few = accepted Volumes in
      let less : length rest.pvs + 1 ≡ length group.pvs = length-remove group.pvs removed within in
      let same : length rest.lvs ≡ length group.lvs = length-map group.lvs (renumbered_row number) in
      all_rules rest
      (next_numbers group accepted below) (all_without (λ (pv : List ℕ × Pv). PvIsSmall pv.1) group.pvs removed (accepted Numbers).pvs)
      ids
      (record {
        pvs = (omega (arith, less, few.pvs.0, more), omega (arith, less, few.pvs.1));
        lvs = omega (arith, same, few.lvs);
        max_pv = λ limit. let most = few.max_pv limit in omega (arith, less, most);
        max_lv = λ limit. let most = few.max_lv limit in omega (arith, same, most);
      })
      (let fewer = segments_renumbered number group.lvs in let most = (accepted Segments).few in omega (arith, fewer, most))
      (all_without (λ (pv : List ℕ × Pv). FitsDevice group.extent_size pv.1) group.pvs removed (accepted Extents)) own
      (legs_kept group rest number (number_without removed) unchanged (IsOther removed) Any (KeepsSegments number)
      (row_edit group rest number (number_without removed) unchanged (IsOther removed) Any keeps_volumes row_was)
      (legs_allowed group accepted))
    where
      own : AllKeepOwn group.extent_size rest.lvs
      own = all_renumbered number group.extent_size group.lvs (keep_own group accepted)

      ids : AllPairs (λ (a b : List ℕ). a ≢ b) (ids_of rest)
      ids =
          subst (λ (l : List (List ℕ)). AllPairs (λ (a b : List ℕ). a ≢ b)
          (group.id ∷ (map (λ (pv : List ℕ × Pv). pv.1.id) (remove group.pvs removed) ++ l)))
          (sym (map_part (renumbered_row number) (λ (row : Row). row.1.id) (λ row. refl) group.lvs))
          (some_pairs (λ (a b : List ℕ). a ≢ b)
          (group.id ∷ (map (λ (pv : List ℕ × Pv). pv.1.id) (remove group.pvs removed) ++ map (λ (row : Row). row.1.id) group.lvs))
          (ids_of group)
          (inl (
            refl,
            some_front (map (λ (row : Row). row.1.id) group.lvs) (map (λ (pv : List ℕ × Pv). pv.1.id) (remove group.pvs removed))
                (map (λ (pv : List ℕ × Pv). pv.1.id) group.pvs)
                (some_map (λ (pv : List ℕ × Pv). pv.1.id) (remove group.pvs removed) group.pvs (some_without group.pvs removed)),
          ))
          (accepted Ids))

  -- the group without it can be printed
  pub reduced_printable : group.seqno + 1 < 2 ^ 64 → IsAccepted group → IsPrintable group → IsPrintable rest
  reduced_printable small accepted can = record {
    name_is = can.name_is;
    id_again = can.id_again;
    seqno_fits = small;
    extent_fits = can.extent_fits;
    max_lv_fits = can.max_lv_fits;
    max_pv_fits = can.max_pv_fits;
    copies_fits = can.copies_fits;
    pv_names = pvs;
    lv_names = lvs;
    each_pv =
        recursion_from_All (λ (pv : List ℕ × Pv). IsPv pv.1) rest.pvs
        (all_without (λ (pv : List ℕ × Pv). IsPv pv.1) group.pvs removed
        (All-from_recursion (λ (pv : List ℕ × Pv). IsPv pv.1) group.pvs can.each_pv));
    each_lv =
        recursion_from_All (λ (lv : Row). IsLv rest lv.1) rest.lvs
        (All-map (λ (lv : Row). IsLv rest lv.1) (renumbered_row number) group.lvs (λ k d within.
        row_prints group rest number (number_without removed) unchanged (IsOther removed) Any
        (KeepsSegments number) keeps_volumes (legs_allowed group accepted) pvs lvs
        (λ name none. none_some (pv_names rest) (pv_names group) name some none) can.each_lv k (get_or group.lvs k d) tt
        (slice_get-get_or group.lvs k d within)));
  } where
    some : AreSome (pv_names rest) (pv_names group)
    some = some_map (λ (pv : List ℕ × Pv). pv.0) rest.pvs group.pvs (some_without group.pvs removed)

    pvs : AreNames [] (pv_names rest)
    pvs = some_names (pv_names rest) (pv_names group) some can.pv_names

    lvs : AreNames [] (lv_names rest)
    lvs =
        subst (AreNames []) (sym (map_part (renumbered_row number) (λ (row : Row). row.0) (λ row. refl) group.lvs))
        can.lv_names
