-- The first sectors of a new volume lie in their disk.
use Rattle.std.proofs.Common.{◌≡◌, ◌≤◌, ◌<◌, ℕ, zero, suc, ◌+◌, ◌*◌, Bool, true, false, ◌&&◌, ◌||◌, cond, ltb, List, [], ◌∷◌, length, map}
use Rattle.std.proofs.Common.{Option, Some, None, refl, sym, ap, subst, ◌∙◌, arith}
use Rattle.std.specs.Prelude.{option_map, slice_get, slice_index, unwrap_or, All, Contains, IfSome}
use Rattle.std.specs.List.{AllByRecursion as Each, list_any}
use Rattle.std.proofs.lemmas.Bool.{false≢true}
use Rattle.std.proofs.lemmas.List.{length-map}
use Rattle.std.proofs.lemmas.Option.{same_Some}
use Rattle.std.proofs.lemmas.List.Elements.{All-contains, All-from_recursion}
use Rattle.std.specs.Str.{bytes_eq}
use Rattle.sector_base.specs.declared.spans.Span.{Span}
use Rattle.pv_header.specs.declared.header.PvHeader.{PvHeader}
use Rattle.meta_model.specs.declared.group.Group.{Group}
use Rattle.meta_model.specs.declared.pv.Pv.{Pv}
use Rattle.meta_model.specs.declared.segment.SegKind.{SegKind}
use Rattle.volume_rules.specs.Rules.{IsAccepted}
use Rattle.extent_alloc.specs.declared.part.Part.{Part}
use Rattle.scan_rules.specs.Decision.{Reading, first_misplaced, is_misplaced, meets_area}
use Rattle.scan_rules.specs.Found.{is_this_misplaced}
use Rattle.scan_rules.proofs.Scanning.{same_bytes_tells, same_bytes_to}
use Rattle.vg_found.specs.declared.disk.Disk.{Disk}
use Rattle.vg_found.specs.Disks.{disk_shape, disk_with, disks_of, has_header_id, header_on, pv_shape, shapes}
use Rattle.group_edits.proofs.FirstSectors.{Beginning, beginning, start_within}
use Rattle.list_laws.proofs.Inserted.{none_passes}
use Rattle.group_edits.proofs.Selections.{contains_at}
use Rattle.group_edits.specs.NewVolume.{MayHave}
use Rattle.group_plan.proofs.PlacedGroup.{ends_on}
use Rattle.group_plan.proofs.PlacedVolumes.{IsPlacedOn, each_placed, misplaced_with}
use Rattle.group_plan.proofs.StateFacts.{listed_are}
use Rattle.group_plan.specs.State.{IsState}
use Rattle.group_plan.specs.Zeroing.{AreWithin}
use Rattle.group_plan.specs.declared.state.GroupState.{GroupState}
use Rattle.lv_plans.proofs.Creating.{zeroed_is}
use Rattle.lv_plans.specs.Lvcreate.{zeroed_at}

abbrev Row : Type 0
Row = List ℕ × Pv

-- the extents of a physical volume end on the disk with this number, where they have a sector
record EndsOn (group : Group) (disks : List Disk) (pv : Row) (number : ℕ) : Type 0 where
  disk : Disk
  there : slice_get disks number ≡ Some disk
  ends : pv.1.pe_start < pv.1.pe_start + pv.1.pe_count * group.extent_size
      → pv.1.pe_start + pv.1.pe_count * group.extent_size ≤ disk.sectors

module _ (group : Group) (pv : Row) (among : Contains group.pvs pv) where
  abbrev end : ℕ
  end = pv.1.pe_start + pv.1.pe_count * group.extent_size

  own_ends : (reading : Reading) (header : PvHeader) → bytes_eq pv.1.id header.id ≡ true
      → is_this_misplaced group.extent_size reading (pv_shape header) pv ≡ false → pv.1.pe_start < end → end ≤ reading.sectors
  own_ends reading header same placed some =
      ends_on pv.1.pe_start end reading.sectors (ltb pv.1.pe_start 8 || list_any (meets_area pv.1.pe_start end) (pv_shape header).areas)
      (sym (ap (λ (b : Bool). b && is_misplaced pv.1.pe_start end reading (pv_shape header)) same) ∙ placed) some

  -- where the disk's header has its id
  here : (disk : Disk) (header : Option PvHeader) → header_on disk.contents ≡ header
      → unwrap_or (option_map (λ (h : PvHeader). bytes_eq h.id pv.1.id) header) false ≡ true → IsPlacedOn group (disk_shape disk)
      → pv.1.pe_start < end → end ≤ disk.sectors
  here disk None there has placed some = absurd (false≢true has)
  here disk (Some header) there has placed some =
      own_ends (disk_shape disk) header (same_bytes_to pv.1.id header.id (sym (same_bytes_tells header.id pv.1.id has)))
      (All-contains (λ (p : Row). is_this_misplaced group.extent_size (disk_shape disk) (pv_shape header) p ≡ false) group.pvs pv
      (All-from_recursion (λ (p : Row). is_this_misplaced group.extent_size (disk_shape disk) (pv_shape header) p ≡ false) group.pvs
      (none_passes (is_this_misplaced group.extent_size (disk_shape disk) (pv_shape header)) group.pvs
      (subst (λ (o : Option PvHeader). misplaced_with group (disk_shape disk) o ≡ false) there placed)))
      among)
      some

  on_own : (disks : List Disk) → Each (IsPlacedOn group) (shapes disks) → disk_with disks pv.1.id < length disks
      → EndsOn group disks pv (disk_with disks pv.1.id)
  on_own [] placed within = absurd (omega (arith, within))
  on_own (disk ∷ disks) placed within = by (has_header_id pv.1.id disk) refl within (λ later. on_own disks placed.1 later) where
    by : (b : Bool) → has_header_id pv.1.id disk ≡ b → cond b 0 (disk_with disks pv.1.id + 1) < suc (length disks)
        → (disk_with disks pv.1.id < length disks → EndsOn group disks pv (disk_with disks pv.1.id))
        → EndsOn group (disk ∷ disks) pv (cond b 0 (disk_with disks pv.1.id + 1))
    by true has within later = record { disk = disk; there = refl; ends = here disk (header_on disk.contents) refl has placed.0 }
    by false other within later =
        let l : EndsOn group disks pv (disk_with disks pv.1.id) = later (omega (arith, within)) in
        let next : disk_with disks pv.1.id + 1 ≡ suc (disk_with disks pv.1.id) = omega arith in
        record { disk = l.disk; there = ap (slice_get (disk ∷ disks)) next ∙ l.there; ends = l.ends }

index_at : {X : Type 0} (f : X → ℕ) (xs : List X) (k : ℕ) (x : X) → slice_get xs k ≡ Some x → slice_index (map f xs) k ≡ f x
index_at f [] k x there = absurd cc
index_at f (y ∷ xs) zero x there = ap f (same_Some y x there)
index_at f (y ∷ xs) (suc k) x there = index_at f xs k x there

below_length : {X : Type 0} (xs : List X) (k : ℕ) (x : X) → slice_get xs k ≡ Some x → k < length xs
below_length [] k x there = absurd cc
below_length (y ∷ xs) zero x there = omega arith
below_length (y ∷ xs) (suc k) x there = let less = below_length xs k x there in omega (arith, less)

-- of each physical volume of the group
pv_ends : (state : GroupState) → IsState state → (group : Group) → state.group ≡ Some group → (k : ℕ) (pv : Row)
    → slice_get group.pvs k ≡ Some pv → EndsOn group state.disks pv (slice_index state.disk_of k)
pv_ends state is group found k pv at =
    subst (EndsOn group state.disks pv) (sym number)
    (on_own group pv (contains_at group.pvs k pv at) state.disks placed (subst (λ (n : ℕ). n < length state.disks) number within))
  where
    listed : state.disk_of ≡ disks_of group state.disks
    listed = listed_are state group is found

    number : slice_index state.disk_of k ≡ disk_with state.disks pv.1.id
    number = ap (λ (l : List ℕ). slice_index l k) listed ∙ index_at (λ (p : Row). disk_with state.disks p.1.id) group.pvs k pv at

    placed : Each (IsPlacedOn group) (shapes state.disks)
    placed =
        each_placed group 0 (shapes state.disks)
        (subst (λ (o : Option Group). IfSome o (λ g. first_misplaced g (shapes state.disks) ≡ None)) found is.placed)

    within : slice_index state.disk_of k < length state.disks
    within =
        let less = below_length group.pvs k pv at in
        let count : length state.disk_of ≡ length group.pvs =
        ap length listed ∙ length-map group.pvs (λ (p : Row). disk_with state.disks p.1.id) in
        subst (λ (o : Option Group). IfSome o (λ g. All (λ n. n < length state.disks) state.disk_of)) found is.there k 0
        (omega (arith, less, count))

-- the first eight sectors of the volume that the group may have
pub new_within : (state : GroupState) → IsState state → (group : Group) → state.group ≡ Some group
    → (name id : List ℕ) (kind : SegKind) (given : List Part) (now : ℕ) → MayHave group id kind given now → IsAccepted group
    → AreWithin state.disks (zeroed_at state.disk_of group given)
new_within state is group found name id kind given now may accepted =
    let b : Beginning group given = beginning group name id kind given now may accepted in
    let room = start_within group name id kind given now may accepted b.part b.is_part b.run b.is_run b.pv b.is_pv in
    let on : EndsOn group state.disks b.pv (slice_index state.disk_of b.run.pv) = pv_ends state is group found b.run.pv b.pv b.is_pv in
    let ends = on.ends (omega (arith, room)) in
    subst (AreWithin state.disks) (sym (zeroed_is state.disk_of group given b))
    (record { disk = on.disk; there = on.there; some = omega arith; within = omega (arith, room, ends) })

-- so do these spans
pub zeroed_within : (state : GroupState) → IsState state → (found group : Group) → found ≡ group → state.group ≡ Some group
    → (name id : List ℕ) (kind : SegKind) (given parts : List Part) → parts ≡ given → (now : ℕ) → MayHave group id kind given now
    → IsAccepted found
    → (disk_of : List ℕ) → disk_of ≡ state.disk_of → (spans : List Span) → spans ≡ zeroed_at disk_of found parts
    → AreWithin state.disks spans
zeroed_within state is found group same there name id kind given parts slice now may accepted disk_of listed spans at =
    subst (AreWithin state.disks) (sym (at ∙ ap (λ (l : List ℕ). zeroed_at l found parts) listed
    ∙ ap (λ (g : Group). zeroed_at state.disk_of g parts) same ∙ ap (zeroed_at state.disk_of group) slice))
    (new_within state is group there name id kind given now may (subst IsAccepted same accepted))
