-- The extents of a physical volume of the group are no more than its disk has sectors.
use Rattle.std.proofs.Common.{◌≡◌, ◌≤◌, ◌<◌, ℕ, suc, ◌+◌, ◌*◌, ◌^◌, Bool, true, false, ◌||◌, ◌&&◌, cond, ltb, List, [], ◌∷◌, length, map}
use Rattle.std.proofs.Common.{Option, Some, None, inl, inr, refl, sym, ap, subst, ◌∙◌, arith}
use Rattle.std.specs.Prelude.{option_map, slice_get, unwrap_or, All, Contains, IfSome}
use Rattle.std.specs.List.{AllByRecursion as Each, list_any}
use Rattle.std.proofs.lemmas.Bool.{cases_lt, false≢true}
use Rattle.std.proofs.lemmas.Bool.Decides.{nat_tests}
use Rattle.std.proofs.lemmas.List.Elements.{All-contains, All-contains_itself, All-from_recursion, recursion_from_All}
use Rattle.std.proofs.lemmas.List.{length-map}
use Rattle.std.specs.Str.{bytes_eq}
use Rattle.pv_header.specs.declared.header.PvHeader.{PvHeader}
use Rattle.meta_model.specs.declared.group.Group.{Group}
use Rattle.meta_model.specs.declared.pv.Pv.{Pv}
use Rattle.volume_rules.specs.Rules.{IsAccepted}
use Rattle.volume_rules.specs.declared.rule.Rule.TheVariants.{Volumes}
use Rattle.scan_rules.specs.Decision.{Reading, first_misplaced, is_misplaced, meets_area}
use Rattle.scan_rules.specs.Found.{is_this_misplaced}
use Rattle.scan_rules.proofs.Scanning.{same_bytes_tells, same_bytes_to}
use Rattle.vg_found.specs.declared.disk.Disk.{Disk}
use Rattle.vg_found.specs.Disks.{disk_shape, disk_with, disks_of, has_header_id, header_on, pv_shape, shapes}
use Rattle.group_edits.proofs.FewSectors.{LieOnDisks}
use Rattle.list_laws.proofs.Inserted.{none_passes}
use Rattle.group_plan.proofs.PlacedVolumes.{IsPlacedOn, each_placed, misplaced_with}
use Rattle.group_plan.proofs.StateFacts.{listed_are}
use Rattle.group_plan.specs.State.{IsState}
use Rattle.group_plan.specs.declared.state.GroupState.{GroupState}

abbrev Row : Type 0
Row = List ℕ × Pv

-- ---- on one disk

-- a run of sectors that isn't misplaced has none, or ends on the disk
pub ends_on : (start end sectors : ℕ) (rest : Bool) → (ltb start end && (ltb sectors end || rest)) ≡ false → start < end → end ≤ sectors
ends_on start end sectors rest placed some =
    elim (cases_lt sectors end) [
      | inl past ↦
          let first : ltb start end ≡ true = grind (arith, nat_tests) in
          let second : ltb sectors end ≡ true = grind (arith, nat_tests) in
          absurd (false≢true (sym placed ∙ ap (λ (b : Bool). b && (ltb sectors end || rest)) first ∙ ap (λ (b : Bool). b || rest) second))
      | inr upto ↦ upto
    ]

few_on : (start count sectors : ℕ) (rest : Bool) → (ltb start (start + count) && (ltb sectors (start + count) || rest)) ≡ false
    → sectors ≤ 2 ^ 40 → count ≤ 2 ^ 40
few_on start count sectors rest placed most =
    elim (cases_lt start (start + count)) [
      | inl some ↦ let upto = ends_on start (start + count) sectors rest placed some in omega (arith, upto, most)
      | inr none ↦ omega (arith, none)
    ]

own_few : (extent_size : ℕ) (reading : Reading) (pv : Row) (header : PvHeader) → bytes_eq pv.1.id header.id ≡ true
    → is_this_misplaced extent_size reading (pv_shape header) pv ≡ false → reading.sectors ≤ 2 ^ 40 → pv.1.pe_count * extent_size ≤ 2 ^ 40
own_few extent_size reading pv header same placed most =
    few_on pv.1.pe_start (pv.1.pe_count * extent_size) reading.sectors
    (ltb pv.1.pe_start 8 || list_any (meets_area pv.1.pe_start (pv.1.pe_start + pv.1.pe_count * extent_size)) (pv_shape header).areas)
    (sym (ap (λ (b : Bool). b && is_misplaced pv.1.pe_start (pv.1.pe_start + pv.1.pe_count * extent_size) reading (pv_shape header)) same)
    ∙ placed) most

-- ---- on all disks

module _ (group : Group) (pv : Row) (among : Contains group.pvs pv) where
  abbrev IsFew : Type 0
  IsFew = pv.1.pe_count * group.extent_size ≤ 2 ^ 40

  -- where the disk's header has its id
  here : (disk : Disk) (header : Option PvHeader) → header_on disk.contents ≡ header
      → unwrap_or (option_map (λ (h : PvHeader). bytes_eq h.id pv.1.id) header) false ≡ true → IsPlacedOn group (disk_shape disk)
      → disk.sectors ≤ 2 ^ 40 → IsFew
  here disk None there has placed most = absurd (false≢true has)
  here disk (Some header) there has placed most =
      own_few group.extent_size (disk_shape disk) pv header (same_bytes_to pv.1.id header.id (sym (same_bytes_tells header.id pv.1.id has)))
      (All-contains (λ (p : Row). is_this_misplaced group.extent_size (disk_shape disk) (pv_shape header) p ≡ false) group.pvs pv
      (All-from_recursion (λ (p : Row). is_this_misplaced group.extent_size (disk_shape disk) (pv_shape header) p ≡ false) group.pvs
      (none_passes (is_this_misplaced group.extent_size (disk_shape disk) (pv_shape header)) group.pvs
      (subst (λ (o : Option PvHeader). misplaced_with group (disk_shape disk) o ≡ false) there placed)))
      among)
      most

  on_own : (disks : List Disk) → ((k : ℕ) (disk : Disk) → slice_get disks k ≡ Some disk → disk.sectors ≤ 2 ^ 40)
      → Each (IsPlacedOn group) (shapes disks) → disk_with disks pv.1.id < length disks → IsFew
  on_own [] most placed within = absurd (omega (arith, within))
  on_own (disk ∷ disks) most placed within =
      by (has_header_id pv.1.id disk) refl within (λ later. on_own disks (λ k d there. most (suc k) d there) placed.1 later) where
        by : (b : Bool) → has_header_id pv.1.id disk ≡ b → cond b 0 (disk_with disks pv.1.id + 1) < suc (length disks)
            → (disk_with disks pv.1.id < length disks → IsFew) → IsFew
        by true has within later = here disk (header_on disk.contents) refl has placed.0 (most 0 disk refl)
        by false other within later = later (omega (arith, within))

-- where lines may be judged against the state
pub lie_on_disks : (state : GroupState) → IsState state → (group : Group) → state.group ≡ Some group → LieOnDisks group
lie_on_disks state is group found =
    All-from_recursion (λ (pv : Row). pv.1.pe_count * group.extent_size ≤ 2 ^ 40) group.pvs
    (by group.pvs (recursion_from_All (Contains group.pvs) group.pvs (All-contains_itself group.pvs))
    (recursion_from_All (λ n. n < length state.disks) (disks_of group state.disks) listed))
  where
    listed : All (λ n. n < length state.disks) (disks_of group state.disks)
    listed =
        subst (All (λ n. n < length state.disks)) (listed_are state group is found)
        (subst (λ (o : Option Group). IfSome o (λ g. All (λ n. n < length state.disks) state.disk_of)) found is.there)

    placed : Each (IsPlacedOn group) (shapes state.disks)
    placed =
        each_placed group 0 (shapes state.disks)
        (subst (λ (o : Option Group). IfSome o (λ g. first_misplaced g (shapes state.disks) ≡ None)) found is.placed)

    by : (pvs : List Row) → Each (Contains group.pvs) pvs
        → Each (λ n. n < length state.disks) (map (λ (pv : Row). disk_with state.disks pv.1.id) pvs)
        → Each (λ (pv : Row). pv.1.pe_count * group.extent_size ≤ 2 ^ 40) pvs
    by [] among within = tt
    by (pv ∷ pvs) among within =
        (on_own group pv among.0 state.disks (λ k disk there. (is.disks k disk there).most) placed within.0, by pvs among.1 within.1)

-- the group lists at most 64 disks
pub few_listed : (state : GroupState) → IsState state → (group : Group) → state.group ≡ Some group → IsAccepted group
    → length state.disk_of ≤ 64
few_listed state is group found accepted =
    let same : length state.disk_of ≡ length group.pvs =
    ap length (listed_are state group is found) ∙ length-map group.pvs (λ (pv : Row). disk_with state.disks pv.1.id) in
    let few = (accepted Volumes).pvs.1 in
    omega (arith, same, few)
