-- A disk that a group lets go is none of those to which a version is committed.
use Rattle.std.proofs.Common.{◌≡◌, ◌≢◌, ◌<◌, ℕ, zero, suc, true, false, List, [], ◌∷◌, ◌++◌, length, map, Option, Some, None, ⊎_elim, refl, Bool}
use Rattle.std.proofs.Common.{sym, ap, subst, ◌∙◌, arith}
use Rattle.std.specs.Prelude.{AllPairs, IfSome, slice_get, slice_index}
use Rattle.std.specs.List.{AllByRecursion as Each, list_any, remove}
use Rattle.std.specs.Ordering.{nat_cmp}
use Rattle.std.specs.FinSet as set
use Rattle.std.proofs.lemmas.Bool.{cases_Bool, false≢true, or_cases, true≢false}
use Rattle.std.proofs.lemmas.List.{length-map}
use Rattle.std.proofs.lemmas.List.Elements.{All-cons, All-nil, recursion_from_All}
use Rattle.std.proofs.lemmas.Option.{same_Some}
use Rattle.std.specs.Str.{bytes_eq}
use Rattle.command_table.specs.declared.command.Command.{Command}
use Rattle.command_table.specs.declared.command.Command.TheVariants.{Vgreduce, Vgremove}
use Rattle.pv_header.specs.declared.header.PvHeader.{PvHeader}
use Rattle.meta_model.specs.declared.group.Group.{Group}
use Rattle.meta_model.specs.declared.lv.Lv.{Lv}
use Rattle.meta_model.specs.declared.pv.Pv.{Pv}
use Rattle.volume_rules.specs.Rules.{IdsDiffer}
use Rattle.volume_rules.specs.declared.rule.Rule.TheVariants.{Ids}
use Rattle.extent_alloc.specs.declared.part.Part.{Part}
use Rattle.scan_rules.specs.Decision.{Reading, has_id, lists}
use Rattle.scan_rules.specs.Found.{is_missing}
use Rattle.scan_rules.proofs.Scanning.{same_bytes_tells}
use Rattle.vg_found.specs.declared.disk.Disk.{Disk}
use Rattle.vg_found.specs.declared.found.Found.{Found}
use Rattle.vg_found.specs.Disks.{disk_with, disks_of, header_on, shapes}
use Rattle.vg_found.specs.Shape.{HasShape}
use Rattle.vg_found.specs.Whole.{IsWhole as FoundIsWhole}
use Rattle.group_edits.specs.ReducedGroup.{reduced_group}
use Rattle.group_plan.specs.Judging.{set_of}
use Rattle.group_plan.specs.declared.state.Change.{Change}
use Rattle.group_plan.specs.declared.state.GroupState.{GroupState}
use Rattle.group_plan.specs.declared.backup.Backup.{Backup}
use Rattle.vg_plans.proofs.Leaving.{LeavesNext, leaves_next}
use Rattle.vg_plans.specs.Vgreduce.{vgreduce_change}
use Rattle.group_ops.proofs.NoClears.{clears, none_cleared}
use Rattle.group_ops.specs.Laws.{state_in}
use Rattle.group_ops.specs.Planning.{IsPlanned, change_of, refusal_of}
use Rattle.change_batches.proofs.DiskSets.{of_set}
use Rattle.image_scans.proofs.Again.{all_there}
use Rattle.image_scans.proofs.CommitCommands.{none_missing_of, old_whole}
use Rattle.image_scans.proofs.CommittedGroup.{IsListedOn, MakesGroup}
use Rattle.image_scans.proofs.Makes.{HasDisk, disk_found, not_missing}
use Rattle.image_scans.proofs.SettledBase.{IsSettledScan}

abbrev Row : Type 0
Row = List ℕ × Pv

-- the disks that are cleared are none of those to which it commits
abbrev pub ClearsOthers : Change → Type 0
ClearsOthers change = (pv : ℕ) → set.contains change.cleared pv ≡ true → set.contains (set_of change.disk_of) pv ≡ false

-- ---- the id that has left

row_at : (rows : List Row) (f : Row → ℕ) (k : ℕ) → k < length rows
    → (row : Row) × (slice_get rows k ≡ Some row) × (slice_index (map f rows) k ≡ f row)
row_at [] f k within = absurd (omega (arith, within))
row_at (row ∷ rows) f zero within = (row, refl, refl)
row_at (row ∷ rows) f (suc k) within = row_at rows f k (omega (arith, within))

each_map : {X Y : Type 0} (P : Y → Type 0) (f : X → Y) (xs : List X) (more : List Y) → Each P (map f xs ++ more)
    → Each (λ (x : X). P (f x)) xs
each_map P f [] more all = tt
each_map P f (x ∷ xs) more all = (all.0, each_map P f xs more all.1)

each_at : {X : Type 0} (P : X → Type 0) (xs : List X) (k : ℕ) (x : X) → slice_get xs k ≡ Some x → Each P xs → P x
each_at P [] k x there all = absurd cc
each_at P (y ∷ xs) zero x there all = subst P (same_Some y x there) all.0
each_at P (y ∷ xs) (suc k) x there all = each_at P xs k x there all.1

module _ (more : List (List ℕ)) where
  abbrev Differ : List Row → Type 0
  Differ rows = AllPairs (λ (a b : List ℕ). a ≢ b) (map (λ (row : Row). row.1.id) rows ++ more)

  first_differs : (row : Row) (rows : List Row) → Differ (row ∷ rows) → Each (λ (other : Row). row.1.id ≢ other.1.id) rows
  first_differs row rows pairs =
      each_map (λ (id : List ℕ). row.1.id ≢ id) (λ (other : Row). other.1.id) rows more
      (recursion_from_All (λ (id : List ℕ). row.1.id ≢ id) (map (λ (other : Row). other.1.id) rows ++ more)
      (λ k d within. pairs 0 (suc k) d (omega arith) (omega (arith, within))))

  none_has : (id : List ℕ) (rows : List Row) → Each (λ (other : Row). id ≢ other.1.id) rows
      → list_any (λ (other : Row). bytes_eq other.1.id id) rows ≡ true → ⊥
  none_has id [] all any = false≢true any
  none_has id (other ∷ rows) all any =
      ⊎_elim
      (λ here. all.0 (sym (same_bytes_tells other.1.id id here)))
      (λ later. none_has id rows all.1 later)
      (or_cases (bytes_eq other.1.id id) (list_any (λ (o : Row). bytes_eq o.1.id id) rows) any)

  -- no other row has it
  has_left : (rows : List Row) (k : ℕ) (row : Row) → slice_get rows k ≡ Some row → Differ rows
      → list_any (λ (other : Row). bytes_eq other.1.id row.1.id) (remove rows k) ≡ true → ⊥
  has_left [] k row there pairs any = absurd cc
  has_left (first ∷ rows) zero row there pairs any =
      none_has row.1.id rows (subst (λ (r : Row). Each (λ (other : Row). r.1.id ≢ other.1.id) rows) (same_Some first row there)
      (first_differs first rows pairs)) any
  has_left (first ∷ rows) (suc k) row there pairs any =
      ⊎_elim
      (λ here. each_at (λ (other : Row). first.1.id ≢ other.1.id) rows k row there (first_differs first rows pairs)
      (same_bytes_tells first.1.id row.1.id here))
      (λ later. has_left rows k row there (λ i j d before within. pairs (suc i) (suc j) d (omega (arith, before)) (omega (arith, within)))
      later)
      (or_cases (bytes_eq first.1.id row.1.id) (list_any (λ (o : Row). bytes_eq o.1.id row.1.id) (remove rows k)) any)

-- ---- vgreduce

module _ (found : Found) (names : List (List ℕ)) (backup : Option Backup) (shape : HasShape found) (whole : FoundIsWhole found)
    (readings : List Reading) (settled : IsSettledScan readings found) (change : Change) (now : ℕ)
    (left : LeavesNext (state_in found names backup) change now)
    (group : Group) (makes : MakesGroup (state_in found names backup) change group) where
  abbrev state : GroupState
  state = state_in found names backup

  listed_are : found.disk_of ≡ disks_of left.old found.disks
  listed_are = subst (λ (o : Option Group). IfSome o (λ g. found.disk_of ≡ disks_of g found.disks)) left.there shape.disk_of

  within : left.number < length left.old.pvs
  within =
      let count : length found.disk_of ≡ length left.old.pvs =
      ap length listed_are ∙ length-map left.old.pvs (λ (row : Row). disk_with found.disks row.1.id) in
      let less = left.listed in
      omega (arith, count, less)

  gone : (row : Row) × (slice_get left.old.pvs left.number ≡ Some row)
      × (slice_index (map (λ (r : Row). disk_with found.disks r.1.id) left.old.pvs) left.number ≡ disk_with found.disks row.1.id)
  gone = row_at left.old.pvs (λ (r : Row). disk_with found.disks r.1.id) left.number within

  -- its disk has a header with its id
  own_disk : HasDisk found.disks gone.0.1.id
  own_disk =
      let present : is_missing (shapes found.disks) gone.0 ≡ false =
      each_at (λ (row : Row). is_missing (shapes found.disks) row ≡ false) left.old.pvs left.number gone.0 gone.1
      (all_there (shapes found.disks) left.old.pvs (none_missing_of found shape whole left.old left.there))
      in
      disk_found gone.0.1.id found.disks (not_missing state gone.0 gone.0.1.missing (list_any (has_id gone.0.1.id) (shapes found.disks))
      refl refl present)

  number_is : slice_index found.disk_of left.number ≡ disk_with found.disks gone.0.1.id
  number_is = ap (λ (l : List ℕ). slice_index l left.number) listed_are ∙ gone.2

  cleared_is : (pv : ℕ) → set.contains change.cleared pv ≡ true → pv ≡ disk_with found.disks gone.0.1.id
  cleared_is pv has =
      let own : pv ≡ slice_index found.disk_of left.number =
      of_set (λ (n : ℕ). n ≡ slice_index found.disk_of left.number) (slice_index found.disk_of left.number ∷ [])
      (All-cons (λ (n : ℕ). n ≡ slice_index found.disk_of left.number) (slice_index found.disk_of left.number) [] refl
      (All-nil (λ (n : ℕ). n ≡ slice_index found.disk_of left.number))) pv
      (subst (λ (c : Change). set.contains c.cleared pv ≡ true) left.change_is has)
      in
      own ∙ number_is

  not_listed : (pv : ℕ) → pv ≡ disk_with found.disks gone.0.1.id → IsListedOn group found.disks pv → ⊥
  not_listed pv at listed =
      let same : own_disk.disk ≡ listed.disk =
      same_Some own_disk.disk listed.disk (sym own_disk.there ∙ ap (slice_get found.disks) (sym at) ∙ listed.there) in
      let header : own_disk.header ≡ listed.header =
      same_Some own_disk.header listed.header (sym own_disk.is ∙ ap (λ (d : Disk). header_on d.contents) same ∙ listed.is) in
      let id : listed.header.id ≡ gone.0.1.id = ap (λ (h : PvHeader). h.id) (sym header) ∙ own_disk.same in
      let next : reduced_group left.old left.number ≡ group =
      same_Some (reduced_group left.old left.number) group (ap (λ (c : Change). c.group) (sym left.change_is) ∙ makes.made) in
      let any : lists (reduced_group left.old left.number) gone.0.1.id ≡ true =
      ap (λ (g : Group). lists g gone.0.1.id) next ∙ ap (lists group) (sym id) ∙ listed.listed in
      let differ : IdsDiffer left.old = (old_whole readings found settled left.old left.there).0 Ids in
      has_left (map (λ (lv : List ℕ × Lv). lv.1.id) left.old.lvs) left.old.pvs left.number gone.0 gone.1
      (λ i j d before inside. differ (suc i) (suc j) d (omega (arith, before)) (omega (arith, inside))) any

  leaves_apart : ClearsOthers change
  leaves_apart pv has =
      ⊎_elim
      (λ on. absurd (not_listed pv (cleared_is pv has) (of_set (IsListedOn group found.disks) change.disk_of makes.listed pv on)))
      (λ off. off)
      (cases_Bool (set.contains (set_of change.disk_of) pv))

-- ---- any line that commits

no_clears : (change : Change) → change.cleared ≡ set.empty → ClearsOthers change
no_clears change none pv has =
    absurd (true≢false (sym has ∙ ap (λ (s : set.FinSet nat_cmp). set.contains s pv) none ∙ set.contains-empty nat_cmp pv))

module _ (found : Found) (names : List (List ℕ)) (backup : Option Backup) (shape : HasShape found) (whole : FoundIsWhole found)
    (readings : List Reading) (settled : IsSettledScan readings found) (number : ℕ) (id : Option (List ℕ)) (now : ℕ) (given : List Part)
  where
    abbrev change_by : Command → Change
    change_by command = change_of (state_in found names backup) (record { number = number; id = id; command = command }) now given

    others_by : (command : Command) → IsPlanned id command → clears command ≡ false → ClearsOthers (change_by command)
    others_by command planned other =
        no_clears (change_by command) (none_cleared (state_in found names backup) number id command now given planned other)

    pub clears_others : (command : Command) → IsPlanned id command
        → refusal_of (state_in found names backup) (record { number = number; id = id; command = command }) now given ≡ None
        → (group : Group)
        → MakesGroup (state_in found names backup) (change_by command) group → ClearsOthers (change_by command)
    clears_others command planned none group makes = by (clears command) refl
      where
        leaves_others : (c : Command) → clears c ≡ true
            → refusal_of (state_in found names backup) (record { number = number; id = id; command = c }) now given ≡ None
            → MakesGroup (state_in found names backup) (change_by c) group → ClearsOthers (change_by c)
        leaves_others (Vgreduce vg pv) one none makes =
            leaves_apart found names backup shape whole readings settled (vgreduce_change (state_in found names backup) pv) now
            (leaves_next (state_in found names backup) vg pv now none) group makes
        leaves_others (Vgremove vg) one none makes = absurd (let e : ◌≡◌ {A = Option Group} None (Some group) = makes.made in cc)
        leaves_others c one none makes = absurd cc

        by : (b : Bool) → clears command ≡ b → ClearsOthers (change_by command)
        by true one = leaves_others command one none makes
        by false other = others_by command planned other
