-- A group without some volumes keeps all rules and can be printed, where what the others lie on stays.
use Rattle.std.proofs.Common.{◌≡◌, ◌≢◌, ◌<◌, ℕ, Bool, true, List, ◌∷◌, ◌++◌, length, map, Some, inl, refl, sym, subst, arith, [], get_or}
use Rattle.std.proofs.lemmas.List.Elements.{All-map, recursion_from_All}
use Rattle.std.proofs.lemmas.Option.{slice_get-get_or}
use Rattle.std.specs.Prelude.{slice_get, AllPairs, Contains}
use Rattle.std.proofs.lemmas.List.{length-map}
use Rattle.meta_model.specs.declared.group.Group.{Group}
use Rattle.meta_model.specs.declared.pv.Pv.{Pv}
use Rattle.meta_model.specs.declared.segment.On.{On}
use Rattle.meta_model.specs.declared.segment.On.TheVariants as on
use Rattle.volume_rules.specs.Legs.{LegRun, LiesOn, runs_of}
use Rattle.volume_rules.specs.Rules.{IsAccepted, IsPvmove, ids_of}
use Rattle.volume_rules.specs.declared.rule.Rule.TheVariants.{Ids, Segments}
use Rattle.group_edits.proofs.EditedLegs.{legs_allowed, legs_kept}
use Rattle.group_edits.proofs.EditedPrintable.{row_prints}
use Rattle.group_edits.proofs.EditedRows.{KeepsOwn, all_renumbered, fewer_volumes, keep_own, next_accepted, renumbered_stays, row_edit}
use Rattle.group_edits.proofs.EditedRows.{segments_renumbered}
use Rattle.group_edits.proofs.Edits.{Any, KeepsSegments, KeepsVolumes, OnStays, Row, StaysAs, WasRow}
use Rattle.group_edits.proofs.GrownPrintable.{version_printable}
use Rattle.group_edits.proofs.PrintedNames.{lv_names, some_names}
use Rattle.group_edits.proofs.Renumbered.{unchanged}
use Rattle.group_edits.proofs.Selections.{AreSome, map_at, map_from, map_part, some_all, some_behind, some_length, some_map, some_pairs}
use Rattle.group_edits.proofs.Selections.{some_sum}
use Rattle.group_edits.proofs.Staying.{new, new_apart, some_stay, stay_at, stay_from}
use Rattle.group_edits.specs.Removing.{on_after, that_stay, with_staying}
use Rattle.group_edits.specs.Renumbered.{renumbered_row}
use Rattle.meta_print.proofs.Printable.{AreNames, IsLv, IsPrintable}

module _ (group : Group) (stays : ℕ → Bool) where
  abbrev pub rest : Group
  rest = with_staying stays group

  abbrev pub Stays : ℕ → Type 0
  Stays n = stays n ≡ true

  abbrev pub number : On → On
  number = on_after stays

  abbrev pub rows : List Row
  rows = that_stay stays 0 group.lvs

  -- a volume that stays, by its new number
  pub row_there : (n : ℕ) (row : Row) → slice_get group.lvs n ≡ Some row → stays n ≡ true
      → slice_get rest.lvs (new stays n) ≡ Some (renumbered_row number row)
  row_there n row is stayed = map_at (renumbered_row number) rows (new stays n) row (stay_at stays n group.lvs row is stayed)

  row_was : (m : ℕ) (now : Row) → slice_get rest.lvs m ≡ Some now → WasRow group number (new stays) Stays (KeepsSegments number) m now
  row_was m now is =
      let row = map_from (renumbered_row number) rows m now is in
      let old = stay_from stays m group.lvs row.0 row.1 in
      record {
        n = old.0;
        was = row.0;
        stays = old.2;
        at = old.3;
        there = old.1;
        kept = subst (StaysAs number (KeepsSegments number) row.0) row.2 (renumbered_stays number row.0);
      }

  module _ (closed : (n m : ℕ) → stays n ≡ true → LiesOn group n m → stays m ≡ true) where
    pub below_stays : (run : LegRun) → Contains (runs_of group) run → Stays run.lv → OnStays Any Stays run.on
    below_stays run within stayed = by run.on refl where
      by : (o : On) → run.on ≡ o → OnStays Any Stays o
      by (on.Pv pv) lies = tt
      by (on.Lv m) lies = closed run.lv m stayed (run, within, refl, lies)

  module _ (closed : (n m : ℕ) → stays n ≡ true → LiesOn group n m → stays m ≡ true)
      (upper : (n m : ℕ) → LiesOn group n m → IsPvmove group m → stays n ≡ true) where
    pub keeps_volumes : KeepsVolumes group rest number unchanged (new stays) Any Stays (KeepsSegments number)
    keeps_volumes = record {
      pv_is = λ n. refl;
      lv_is = λ n. refl;
      pv_apart = λ a b first second same. same;
      lv_apart = new_apart stays;
      pv_there = λ n pv stands is. (pv, is, refl, refl);
      lv_there = λ n row stayed is. (renumbered_row number row, row_there n row is stayed, renumbered_stays number row);
      lv_from = λ m now is. inl (row_was m now is);
      below = below_stays closed;
      above = λ run m within lies moves. upper run.lv m (run, within, refl, lies) moves;
    }

    -- where what lies on the PVMOVE volume stays too
    pub staying_accepted : IsAccepted group → group.seqno < 4294967295 → IsAccepted rest
    staying_accepted accepted below =
        next_accepted group (map (renumbered_row number) rows) accepted below ids
        (fewer_volumes group (map (renumbered_row number) rows) accepted
        (let same = length-map rows (renumbered_row number) in let fewer = some_length rows group.lvs some in omega (arith, same, fewer)))
        (let same = segments_renumbered number rows in
        let fewer = some_sum (λ (row : Row). length row.1.segments) rows group.lvs some in
        let few = (accepted Segments).few in omega (arith, same, fewer, few))
        (all_renumbered number group.extent_size rows
        (some_all (λ (row : Row). KeepsOwn group.extent_size row.1) rows group.lvs some (keep_own group accepted)))
        (legs_kept group rest number unchanged (new stays) Any Stays (KeepsSegments number)
        (row_edit group rest number unchanged (new stays) Any Stays keeps_volumes row_was) (legs_allowed group accepted))
      where
        some : AreSome rows group.lvs
        some = some_stay stays 0 group.lvs

        ids : AllPairs (λ (a b : List ℕ). a ≢ b) (ids_of rest)
        ids =
            subst (λ (l : List (List ℕ)). AllPairs (λ (a b : List ℕ). a ≢ b)
            (group.id ∷ (map (λ (pv : List ℕ × Pv). pv.1.id) group.pvs ++ l)))
            (sym (map_part (renumbered_row number) (λ (row : Row). row.1.id) (λ row. refl) rows))
            (some_pairs (λ (a b : List ℕ). a ≢ b)
            (group.id ∷ (map (λ (pv : List ℕ × Pv). pv.1.id) group.pvs ++ map (λ (row : Row). row.1.id) rows)) (ids_of group)
            (inl (
              refl,
              some_behind (map (λ (pv : List ℕ × Pv). pv.1.id) group.pvs) (map (λ (row : Row). row.1.id) rows)
                  (map (λ (row : Row). row.1.id) group.lvs) (some_map (λ (row : Row). row.1.id) rows group.lvs some),
            ))
            (accepted Ids))

    -- it can be printed
    pub staying_printable : IsAccepted group → group.seqno < 4294967295 → IsPrintable group → IsPrintable rest
    staying_printable accepted below can =
        version_printable group (map (renumbered_row number) rows) below can names
        (recursion_from_All (λ (lv : Row). IsLv rest lv.1) rest.lvs
        (All-map (λ (lv : Row). IsLv rest lv.1) (renumbered_row number) rows (λ m d within.
        (let row : Row = get_or rows m d in
        let old = stay_from stays m group.lvs row (slice_get-get_or rows m d within) in
        row_prints group rest number unchanged (new stays) Any Stays
        (KeepsSegments number) keeps_volumes (legs_allowed group accepted) can.pv_names names
        (λ name none. none) can.each_lv old.0 row old.2 old.1))))
      where
        names : AreNames [] (lv_names rest)
        names =
            subst (AreNames []) (sym (map_part (renumbered_row number) (λ (row : Row). row.0) (λ row. refl) rows))
            (some_names (map (λ (row : Row). row.0) rows) (lv_names group)
            (some_map (λ (row : Row). row.0) rows group.lvs (some_stay stays 0 group.lvs)) can.lv_names)
