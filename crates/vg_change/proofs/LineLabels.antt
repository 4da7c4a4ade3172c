-- The labels that a line writes, and the areas behind those of new physical volumes.
use Rattle.std.proofs.Common.{◌≡◌, ◌≢◌, ◌≤◌, ◌<◌, ◌⊎◌, ℕ, ◌+◌, ◌-◌, ◌*◌, ◌/◌, ◌^◌, Bool, true, ◌||◌, List, [], ◌∷◌, ◌++◌, map, get_or}
use Rattle.std.proofs.Common.{flat_map, Option, None, Some, inl, inr, ⊎_elim, refl, sym, ap, subst, ◌∙◌, arith, lit<}
use Rattle.std.specs.Prelude.{All, AllPairs, unwrap_or, IsSomeAnd}
use Rattle.std.specs.Option.{option_map_or}
use Rattle.std.proofs.lemmas.Bool.{cases_Bool}
use Rattle.std.proofs.lemmas.List.Elements.{All-append, All-cons, All-head, All-map, All-nil, All-tail, All-weaker}
use Rattle.std.proofs.lemmas.Option.{none-some, same_Some}
use Rattle.sector_base.specs.Spans.{covers}
use Rattle.lvm_id.specs.LvmId.{IsId}
use Rattle.command_table.specs.Options.{number_named}
use Rattle.command_table.specs.declared.command.Command.{Command}
use Rattle.command_table.specs.declared.command.Command.TheVariants.{Lvcreate, Vgreduce}
use Rattle.lvm_script.specs.declared.line.Line.{Line}
use Rattle.disk_model.specs.Puts.{one_sector}
use Rattle.disk_model.specs.Steps.{Image}
use Rattle.disk_model.specs.Submitting.{writes_at}
use Rattle.pv_header.specs.declared.extent_list.Extent.{Extent}
use Rattle.pv_header.specs.declared.header.PvHeader.{PvHeader}
use Rattle.pv_header.specs.Extents.{Fits64}
use Rattle.pv_header.specs.PvRefusal.{Reads}
use Rattle.mda_header.specs.Header.{IsHeader}
use Rattle.mda_header.specs.HeaderBytes.{header_bytes as mda_bytes}
use Rattle.meta_model.specs.declared.group.Group.{Group}
use Rattle.extent_alloc.specs.declared.part.Part.{Part}
use Rattle.disk_batch.specs.InTurn.{Put, with_batches, with_writes}
use Rattle.disk_batch.specs.Writes.{write_work}
use Rattle.disk_batch.proofs.FrontBatches.{KeepsSector, batches_kept}
use Rattle.disk_batch.proofs.InTurn.{batches_append}
use Rattle.disk_contents.specs.declared.contents.PvFound.{PvFound}
use Rattle.disk_contents.specs.declared.contents.PvFound.TheVariants.{NoLabel, NoHeader, Whole}
use Rattle.vg_found.specs.declared.disk.Disk.{Disk}
use Rattle.vg_found.specs.Disks.{header_on}
use Rattle.vg_found.specs.Shape.{ContentsCanStand, IsDisk}
use Rattle.vg_commit.specs.Showing.{sectors_of}
use Rattle.group_plan.proofs.AddedFacts.{IsFoundOn, all_found}
use Rattle.group_plan.specs.Added.{added_of, label_of}
use Rattle.group_plan.specs.Committing.{no_change}
use Rattle.group_plan.specs.Judging.{first_refusal}
use Rattle.group_plan.specs.Members.{pv_named}
use Rattle.group_plan.specs.NewGroup.{extended}
use Rattle.group_plan.specs.State.{IsState}
use Rattle.group_plan.specs.declared.added.AddedPv.{AddedPv}
use Rattle.group_plan.specs.declared.state.GroupState.{GroupState}
use Rattle.group_plan.specs.declared.state.NewLabel.{NewLabel}
use Rattle.pv_plans.proofs.NewAreas.{areas_have}
use Rattle.pv_plans.specs.Pvcreate.{fewest_sectors, new_areas, new_label, pvcreate_change, pvcreate_rows}
use Rattle.vg_plans.proofs.Restoring.{restore_holds}
use Rattle.vg_plans.specs.Vgcfgrestore.{vgcfgrestore_change}
use Rattle.vg_plans.specs.Vgcreate.{empty_group}
use Rattle.vg_plans.specs.Vgextend.{extend_by}
use Rattle.vg_plans.specs.Vgreduce.{leaving_change, reduce_change}
use Rattle.group_ops.proofs.NextVersions.{is_next, next_labels, by_kind}
use Rattle.group_ops.specs.Planning.{IsPlanned, change_of, refusal_of}
use Rattle.change_batches.specs.Batches.{area_put, area_puts, batch_if, empty_area, label_put}
use Rattle.change_batches.specs.Sound.{AreasLie, CanLabel, header_sector}
use Rattle.change_batches.proofs.AreaBatch.{areas_there}
use Rattle.change_batches.proofs.KeptImages.{KeepNear}
use Rattle.change_batches.proofs.LabelPuts.{all_if, labels_keep_far, one_tells, with_if}
use Rattle.change_batches.proofs.LabelsRead.{CanBeFound, empty_read}
use Rattle.change_batches.proofs.FittingAreas.{fit_both}
use Rattle.vg_change.proofs.SoundPvcreate.{has_enough, labels_have}

-- ---- where no group is committed

-- a metadata area of a new physical volume: its header stands behind the sectors of labels, and its numbers have 63 bits
pub record IsNewArea (area : Extent) : Type 0 where
  pub behind : 4 ≤ header_sector area
  pub starts : area.offset < 2 ^ 63
  pub sized : area.size < 2 ^ 63

-- all areas behind the label are such
abbrev pub HasNewAreas : NewLabel → Type 0
HasNewAreas label = All IsNewArea label.header.areas

-- and those behind all labels
abbrev pub AreNew : List NewLabel → Type 0
AreNew labels = All HasNewAreas labels

none_new : (labels : List NewLabel) → labels ≡ [] → AreNew labels
none_new labels none = subst AreNew (sym none) (All-nil HasNewAreas)

-- on a disk with enough sectors for them
areas_new : (copies sectors : ℕ) → fewest_sectors copies ≤ sectors → sectors ≤ 2 ^ 40 → All IsNewArea (new_areas sectors copies)
areas_new copies sectors enough most =
    areas_have IsNewArea copies sectors enough
    (let far : 4 ≤ 8 = omega arith in record { behind = far; starts = lit< tt; sized = lit< tt })
    (λ both.
    let far : 4 ≤ (sectors * 512 - 1044480) / 512 = omega (arith, both) in
    let starts : sectors * 512 - 1044480 < 2 ^ 63 = omega (arith, most) in
    record { behind = far; starts = starts; sized = lit< tt })

-- what holds of the label of a new physical volume with such areas holds of each that a pvcreate writes
pv_has : (P : NewLabel → Type 0) (state : GroupState) → IsState state → (id name : List ℕ) (copies : ℕ)
    → first_refusal (pvcreate_rows state id name copies) ≡ None
    → ((number : ℕ) (disk : Disk) → All IsNewArea (new_areas disk.sectors copies) → P (new_label id copies number disk))
    → All P (pvcreate_change state id name copies).labels
pv_has P state is id name copies none has =
    labels_have id copies P state.disks (number_named state.names name)
    (λ number disk named there.
    has number disk
    (areas_new copies disk.sectors (has_enough state id name copies number disk none named there) (is.disks number disk there).most))

extend_new : (state : GroupState) (o : Option Group) (pvs : List (List ℕ)) → (extend_by state o pvs).group ≡ None
    → AreNew (extend_by state o pvs).labels
extend_new state None pvs none = none_new [] refl
extend_new state (Some group) pvs none = absurd cc

leaving_labels : (state : GroupState) (group : Group) (o : Option ℕ)
    → (option_map_or (leaving_change state group) o (no_change state)).labels ≡ []
leaving_labels state group None = refl
leaving_labels state group (Some number) = refl

leave_labels : (state : GroupState) (name : List ℕ) (o : Option Group)
    → (option_map_or (reduce_change state name) o (no_change state)).labels ≡ []
leave_labels state name None = refl
leave_labels state name (Some group) = leaving_labels state group (pv_named state name)

restore_labels : (state : GroupState) → (vgcfgrestore_change state).labels ≡ []
restore_labels state = restore_holds state (λ change. change.labels ≡ []) refl (λ disks next. refl)

abbrev line_of : ℕ → Option (List ℕ) → Command → Line
line_of number id command = record { number = number; id = id; command = command }

new_of : (state : GroupState) → IsState state → (number : ℕ) (id : Option (List ℕ)) (command : Command) (now : ℕ) (given : List Part)
    → IsPlanned id command → refusal_of state (line_of number id command) now given ≡ None
    → (change_of state (line_of number id command) now given).group ≡ None
    → AreNew (change_of state (line_of number id command) now given).labels
new_of state is number id command now given planned passes none =
    by_kind (λ c. refusal_of state (line_of number id c) now given ≡ None → (change_of state (line_of number id c) now given).group ≡ None
    → AreNew (change_of state (line_of number id c) now given).labels)
    (record {
      next = λ c one no passes none.
          none_new (change_of state (line_of number id c) now given).labels (next_labels state number id c now given one);
      new_volume = λ new passes none.
          none_new (change_of state (line_of number id (Lvcreate new)) now given).labels
          (next_labels state number id (Lvcreate new) now given refl);
      new_pv = λ pv copies passes none. pv_has HasNewAreas state is (unwrap_or id []) pv copies passes (λ number disk new. new);
      new_group = λ vg extent_size pvs passes none.
          absurd (none-some (extended (empty_group (unwrap_or id []) vg extent_size) (added_of state pvs)) (sym none));
      joining = λ vg pvs passes none. extend_new state state.group pvs none;
      leaving = λ vg pv passes none.
          none_new (change_of state (line_of number id (Vgreduce vg pv)) now given).labels (leave_labels state pv state.group);
      removal = λ vg passes none. All-nil HasNewAreas;
      restore = λ vg text passes none. none_new (vgcfgrestore_change state).labels (restore_labels state);
    }) id command planned passes none

pub new_labels_are : (state : GroupState) (line : Line) (now : ℕ) (given : List Part) → IsState state → IsPlanned line.id line.command
    → refusal_of state line now given ≡ None → (change_of state line now given).group ≡ None
    → AreNew (change_of state line now given).labels
new_labels_are state line now given is planned passes none =
    new_of state is line.number line.id line.command now given planned passes none

-- ---- the headers of such areas leave the sectors of labels

meets_none : (disk : ℕ) (area : Extent) → IsNewArea area → (pv sector : ℕ) → (disk ≢ pv) ⊎ (sector < 4)
    → covers (one_sector disk (area.offset / 512)) pv sector ≡ true → ⊥
meets_none disk area new pv sector (inl other) here = other (one_tells disk (area.offset / 512) pv sector here).0
meets_none disk area new pv sector (inr low) here =
    let far : 4 ≤ area.offset / 512 = new.behind in
    let at : area.offset / 512 ≡ sector = (one_tells disk (area.offset / 512) pv sector here).1 in
    omega (arith, far, at, low)

-- those of one label, before other writes
near_one : (disk : ℕ) (areas : List Extent) → All IsNewArea areas → (more : List Put) (pv sector : ℕ) → (disk ≢ pv) ⊎ (sector < 4)
    → KeepsSector pv sector more → KeepsSector pv sector (map (area_put disk) areas ++ more)
near_one disk [] new more pv sector apart rest = rest
near_one disk (area ∷ areas) new more pv sector apart rest =
    ⊎_elim
    (λ here. absurd (meets_none disk area (All-head IsNewArea area areas new) pv sector apart here))
    (λ out. ap (λ (b : Bool). b || writes_at (map write_work (map (area_put disk) areas ++ more)) pv sector) out
    ∙ near_one disk areas (All-tail IsNewArea area areas new) more pv sector apart rest)
    (cases_Bool (covers (one_sector disk (area.offset / 512)) pv sector))

-- no label of a list is on the disk, or the sector is one of the first four: so it is of the first label, and of the others
first_apart : (label : NewLabel) (labels : List NewLabel) (pv sector : ℕ)
    → All (λ (l : NewLabel). l.disk ≢ pv) (label ∷ labels) ⊎ (sector < 4) → (label.disk ≢ pv) ⊎ (sector < 4)
first_apart label labels pv sector (inl other) = inl (All-head (λ (l : NewLabel). l.disk ≢ pv) label labels other)
first_apart label labels pv sector (inr low) = inr low

rest_apart : (label : NewLabel) (labels : List NewLabel) (pv sector : ℕ)
    → All (λ (l : NewLabel). l.disk ≢ pv) (label ∷ labels) ⊎ (sector < 4) → All (λ (l : NewLabel). l.disk ≢ pv) labels ⊎ (sector < 4)
rest_apart label labels pv sector (inl other) = inl (All-tail (λ (l : NewLabel). l.disk ≢ pv) label labels other)
rest_apart label labels pv sector (inr low) = inr low

pub new_near : (labels : List NewLabel) → AreNew labels → KeepNear labels (flat_map area_puts labels)
new_near [] new pv sector apart = refl
new_near (label ∷ labels) new pv sector apart =
    near_one label.disk label.header.areas (All-head HasNewAreas label labels new) (flat_map area_puts labels) pv sector
    (first_apart label labels pv sector apart)
    (new_near labels (All-tail HasNewAreas label labels new) pv sector (rest_apart label labels pv sector apart))

-- ---- and are there once all is written

-- all that is written
abbrev new_image : List NewLabel → Image → Image
new_image labels base = with_batches (batch_if (flat_map area_puts labels) ++ batch_if (map label_put labels) ++ []) base

-- behind the sectors of labels that is the headers of areas
image_far : (labels : List NewLabel) → All CanLabel labels → (base : Image) (pv sector : ℕ) → 4 ≤ sector
    → new_image labels base pv sector ≡ with_writes (flat_map area_puts labels) base pv sector
image_far labels can base pv sector far =
    let areas : List (List Put) = batch_if (flat_map area_puts labels) in
    let own : List (List Put) = batch_if (map label_put labels) in
    ap (λ (i : Image). i pv sector) (batches_append (areas ++ own) [] base)
    ∙ ap (λ (i : Image). i pv sector) (batches_append areas own base)
    ∙ batches_kept own (with_batches areas base) pv sector
    (all_if (KeepsSector pv sector) (map label_put labels) (labels_keep_far labels can pv sector far))
    ∙ ap (λ (i : Image). i pv sector) (with_if (flat_map area_puts labels) base)

-- each area of the label is empty in the image
abbrev HasEmpty : Image → NewLabel → Type 0
HasEmpty image label =
    All (λ (area : Extent). IsHeader (sectors_of (record { pv = label.disk; start = area.offset; size = area.size }) image 0)
    (empty_area area)) label.header.areas

pub new_empty : (sizes : List ℕ) (labels : List NewLabel) → AreNew labels → All CanLabel labels → All (AreasLie sizes) labels
    → AllPairs (λ (a b : NewLabel). a.disk ≢ b.disk) labels → (base : Image) → All (HasEmpty (new_image labels base)) labels
new_empty sizes labels new can lie differ base k d within j e inside =
    let label : NewLabel = get_or labels k d in
    let area : Extent = get_or label.header.areas j e in
    let is : IsNewArea area = new k d within j e inside in
    let front : area.offset / 512 + 0 ≡ area.offset / 512 = omega arith in
    let there : new_image labels base label.disk (area.offset / 512 + 0) ≡ mda_bytes (empty_area area) =
    ap (new_image labels base label.disk) front ∙ image_far labels can base label.disk (area.offset / 512) is.behind
    ∙ areas_there sizes labels lie differ base k d within j e inside in
    subst (λ (sector : List ℕ). IsHeader sector (empty_area area)) (sym there) (empty_read area is.starts is.sized)

-- ---- what is found of a header

abbrev IsBehind : Extent → Type 0
IsBehind area = area.offset ≢ 0

abbrev pub HeaderIsFound : NewLabel → Type 0
HeaderIsFound label = CanBeFound label.header

abbrev data_area : Extent
data_area = record { offset = 1048576; size = 0 }

fits_new : (area : Extent) → IsNewArea area → Fits64 area
fits_new area is = (omega (arith, is.starts), omega (arith, is.sized))

behind_new : (area : Extent) → IsNewArea area → IsBehind area
behind_new area is none = let far : 4 ≤ area.offset / 512 = is.behind in omega (arith, far, none)

found_new : (id : List ℕ) (copies number : ℕ) (disk : Disk) → IsId id → All IsNewArea (new_areas disk.sectors copies)
    → HeaderIsFound (new_label id copies number disk)
found_new id copies number disk valid new = record {
  id = valid;
  version = refl;
  data_fit = All-cons Fits64 data_area [] (lit< tt, lit< tt) (All-nil Fits64);
  areas_fit = All-weaker IsNewArea Fits64 fits_new (new_areas disk.sectors copies) new;
  offsets =
      All-cons IsBehind data_area (new_areas disk.sectors copies) (λ (e : 1048576 ≡ 0). cc)
      (All-weaker IsNewArea IsBehind behind_new (new_areas disk.sectors copies) new);
}

-- ---- a header that was read from a disk

reads_on : (pv sectors : ℕ) (contents : Option PvFound) (header : PvHeader) → ContentsCanStand pv sectors contents
    → header_on contents ≡ Some header → (sector : List ℕ) × Reads sector (sectors * 512) header
reads_on pv sectors None header stands is = absurd cc
reads_on pv sectors (Some (NoLabel refusal)) header stands is = absurd cc
reads_on pv sectors (Some (NoHeader label refusal)) header stands is = absurd cc
reads_on pv sectors (Some (Whole label own areas)) header stands is =
    subst (λ (h : PvHeader). (sector : List ℕ) × Reads sector (sectors * 512) h) (same_Some own header is) stands.1

found_added : (state : GroupState) → IsState state → (added : AddedPv) → IsFoundOn state added → HeaderIsFound (label_of added)
found_added state is added found =
    let disk : IsDisk added.disk found.has.disk = is.disks added.disk found.has.disk found.has.there in
    let most : found.has.disk.sectors ≤ 2 ^ 40 = disk.most in
    let read : (sector : List ℕ) × Reads sector (found.has.disk.sectors * 512) added.header =
    reads_on added.disk found.has.disk.sectors found.has.disk.contents added.header disk.contents found.has.is in
    let fits =
    fit_both (found.has.disk.sectors * 512) (omega (arith, most)) added.header.data_areas added.header.areas read.1.areas.inside in
    record {
      id = found.id;
      version = refl;
      data_fit = fits.0;
      areas_fit = fits.1;
      offsets = All-append IsBehind added.header.data_areas added.header.areas read.1.fields.data_at.offsets read.1.fields.areas_at.offsets;
    }

found_all : (state : GroupState) → IsState state → (names : List (List ℕ)) → All HeaderIsFound (map label_of (added_of state names))
found_all state is names =
    All-map HeaderIsFound label_of (added_of state names)
    (All-weaker (IsFoundOn state) (λ added. HeaderIsFound (label_of added)) (found_added state is) (added_of state names)
    (all_found state is names))

-- ---- of any line

drawn_id : (o : Option (List ℕ)) → IsSomeAnd o IsId → IsId (unwrap_or o [])
drawn_id None has = absurd has
drawn_id (Some id) has = has

found_extend : (state : GroupState) → IsState state → (o : Option Group) (pvs : List (List ℕ))
    → All HeaderIsFound (extend_by state o pvs).labels
found_extend state is None pvs = All-nil HeaderIsFound
found_extend state is (Some group) pvs = found_all state is pvs

none_found : (state : GroupState) (number : ℕ) (id : Option (List ℕ)) (command : Command) (now : ℕ) (given : List Part)
    → is_next command ≡ true → All HeaderIsFound (change_of state (line_of number id command) now given).labels
none_found state number id command now given is =
    subst (All HeaderIsFound) (sym (next_labels state number id command now given is)) (All-nil HeaderIsFound)

found_of : (state : GroupState) → IsState state → (number : ℕ) (id : Option (List ℕ)) (command : Command) (now : ℕ) (given : List Part)
    → IsPlanned id command → refusal_of state (line_of number id command) now given ≡ None
    → All HeaderIsFound (change_of state (line_of number id command) now given).labels
found_of state is number id command now given planned passes =
    by_kind (λ c. IsPlanned id c → refusal_of state (line_of number id c) now given ≡ None
    → All HeaderIsFound (change_of state (line_of number id c) now given).labels)
    (record {
      next = λ c one no planned passes. none_found state number id c now given one;
      new_volume = λ new planned passes. none_found state number id (Lvcreate new) now given refl;
      new_pv = λ pv copies planned passes.
          pv_has HeaderIsFound state is (unwrap_or id []) pv copies passes
          (λ number disk new. found_new (unwrap_or id []) copies number disk (drawn_id id planned) new);
      new_group = λ vg extent_size pvs planned passes. found_all state is pvs;
      joining = λ vg pvs planned passes. found_extend state is state.group pvs;
      leaving = λ vg pv planned passes. subst (All HeaderIsFound) (sym (leave_labels state pv state.group)) (All-nil HeaderIsFound);
      removal = λ vg planned passes. All-nil HeaderIsFound;
      restore = λ vg text planned passes. subst (All HeaderIsFound) (sym (restore_labels state)) (All-nil HeaderIsFound);
    }) id command planned planned passes

pub headers_found : (state : GroupState) (line : Line) (now : ℕ) (given : List Part) → IsState state → IsPlanned line.id line.command
    → refusal_of state line now given ≡ None → All HeaderIsFound (change_of state line now given).labels
headers_found state line now given is planned passes = found_of state is line.number line.id line.command now given planned passes
