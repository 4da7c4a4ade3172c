-- The first sectors of the volume that an lvcreate makes are those that it zeroes.
use Rattle.std.proofs.Common.{◌≡◌, ◌<◌, ◌⊎◌, ℕ, zero, suc, ◌+◌, ◌*◌, ◌^◌, ◌||◌, Bool, true, false, List, [], ◌∷◌, ◌++◌, length, drop, map}
use Rattle.std.proofs.Common.{Option, Some, None, inl, inr, refl, sym, ap, subst, ◌∙◌, arith}
use Rattle.std.specs.Prelude.{IfSome, option_map, slice_index, unwrap_or}
use Rattle.std.specs.List.{range_with_len}
use Rattle.std.proofs.lemmas.Option.{same_Some}
use Rattle.sector_base.specs.declared.places.At.{At}
use Rattle.sector_base.specs.declared.spans.Span.{Span}
use Rattle.command_table.specs.declared.command.Command.{Command}
use Rattle.command_table.specs.declared.command.Command.TheVariants.{Lvcreate}
use Rattle.command_table.specs.declared.command.NewVolume.{NewVolume}
use Rattle.lvm_script.specs.declared.line.Line.{Line}
use Rattle.mda_ring.proofs.SpanLaws.{covers_from}
use Rattle.meta_model.specs.declared.group.Group.{Group}
use Rattle.meta_model.specs.declared.lv.Lv.{Lv}
use Rattle.volume_rules.specs.Extents.{extents_of}
use Rattle.volume_rules.specs.Rules.{IsAccepted}
use Rattle.volume_view.specs.Places.{primary}
use Rattle.extent_alloc.specs.declared.part.Part.{Part}
use Rattle.vg_found.specs.Disks.{disks_of}
use Rattle.vg_found.specs.Shape.{HasShape}
use Rattle.vg_found.specs.declared.found.Found.{Found}
use Rattle.group_edits.proofs.FirstSectors.{Beginning, beginning, first_sectors}
use Rattle.group_edits.specs.NewVolume.{MayHave, new_lv}
use Rattle.group_plan.specs.State.{IsState}
use Rattle.group_plan.specs.declared.state.Change.{Change}
use Rattle.group_plan.specs.declared.state.GroupState.{GroupState}
use Rattle.group_plan.specs.declared.backup.Backup.{Backup}
use Rattle.lv_plans.proofs.CreatedVolume.{Creates, creates}
use Rattle.lv_plans.proofs.Creating.{zeroed_is}
use Rattle.lv_plans.specs.Allocating.{Takes}
use Rattle.lv_plans.specs.Lvcreate.{created_group, eight_from, kind_for, zeroed_at}
use Rattle.group_ops.proofs.NextVersions.{drawn_is}
use Rattle.group_ops.specs.Planning.{IsPlanned, asks_of, change_of, refusal_of, zeroes}
use Rattle.group_ops.specs.Laws.{state_in}
use Rattle.image_scans.specs.Laws.{in_spans, version_of}
use Rattle.vg_scan.specs.Versions.{Version, version_in}
use Rattle.volume_history.specs.Candidates.{place_at}
use Rattle.volume_history.specs.Placed.{Place, PlacedVolume, no_place, on_disk, place_of, volumes_of}
use Rattle.line_history.proofs.KeptVolumes.{KeepsDisks}
use Rattle.line_history.proofs.LongerVolumes.{new_placed, volumes_more}

-- ---- lists

last_same : {X : Type 0} (xs : List X) (a b : X) → xs ++ a ∷ [] ≡ xs ++ b ∷ [] → a ≡ b
last_same [] a b is = cc
last_same (x ∷ xs) a b is = last_same xs a b (ap (drop 1) is)

at_range : (f : ℕ → Place) (from count x : ℕ) → x < length (map f (range_with_len from count))
    → place_at (map f (range_with_len from count)) x ≡ f (from + x)
at_range f from zero x lt = absurd (omega (arith, lt))
at_range f from (suc count) zero lt = ap f (omega arith)
at_range f from (suc count) (suc x) lt = at_range f (from + 1) count x (omega (arith, lt)) ∙ ap f (omega arith)

-- ---- the volume in its group

module _ (old : Group) (disk_of : List ℕ) (accepted : IsAccepted old) (id : List ℕ) (new : NewVolume) (now : ℕ) (given : List Part)
    (may : MayHave old id (kind_for new) given now) where
  abbrev after : Version
  after = record { group = created_group id new now given old; disk_of = disk_of }

  -- its first sectors are zeroed
  first_zeroed : (x : ℕ) → x < 8 → in_spans (zeroed_at disk_of old given) (place_of after (length old.lvs) x).disk
      (place_of after (length old.lvs) x).sector ≡ true
  unfolding place_of
  first_zeroed x low =
      let b : Beginning old given = beginning old new.lv id (kind_for new) given now may accepted in
      let start : ℕ = b.pv.1.pe_start + b.run.first * old.extent_size in
      let span : Span = eight_from (slice_index disk_of b.run.pv) old.extent_size b.pv.1 b.run in
      let is : primary (created_group id new now given old) (length old.lvs) x ≡ Some (record { pv = b.run.pv; sector = start + x }) =
      first_sectors old new.lv id (kind_for new) given now may accepted b.part b.is_part b.run b.is_run b.pv b.is_pv x low
      in
      let place : Place =
      unwrap_or (option_map (on_disk disk_of) (primary (created_group id new now given old) (length old.lvs) x)) no_place in
      let there : place ≡ record { disk = slice_index disk_of b.run.pv; sector = start + x } =
      ap (λ (o : Option At). unwrap_or (option_map (on_disk disk_of) o) no_place) is in
      ap (λ (spans : List Span). in_spans spans place.disk place.sector) (zeroed_is disk_of old given b)
      ∙ ap (λ (p : Place). in_spans (span ∷ []) p.disk p.sector) there
      ∙ ap (λ (c : Bool). c || false) (covers_from span (slice_index disk_of b.run.pv) (start + x) refl (omega arith) (omega (arith, low)))

  -- and so are those of the volume that stands last
  module _ (disks_before : List ℕ) where
    abbrev before : Version
    before = record { group = old; disk_of = disks_before }

    last_zeroed : KeepsDisks before after → (volume : PlacedVolume) → volumes_of (Some after) ≡ volumes_of (Some before) ++ volume ∷ []
        → (x : ℕ) → x < length volume.places → x < 8
        → in_spans (zeroed_at disk_of old given) (place_at volume.places x).disk (place_at volume.places x).sector ≡ true
    last_zeroed disks volume is x within low =
        subst (λ (v : PlacedVolume). x < length v.places
        → in_spans (zeroed_at disk_of old given) (place_at v.places x).disk (place_at v.places x).sector ≡ true)
        (sym (last_same (volumes_of (Some before)) volume own (sym is ∙ volumes_more (new.lv, lv) before disk_of accepted disks refl)))
        (λ within. subst (λ (p : Place). in_spans (zeroed_at disk_of old given) p.disk p.sector ≡ true)
        (sym (at_range (place_of after (length old.lvs)) 0 (extents_of lv * old.extent_size) x within
        ∙ ap (place_of after (length old.lvs)) (omega arith))) (first_zeroed x low))
        within
      where
        lv : Lv
        lv = new_lv id (kind_for new) given now

        own : PlacedVolume
        own = new_placed (new.lv, lv) before disk_of

-- ---- the line

module _ (found : Found) (names : List (List ℕ)) (backup : Option Backup) (now : ℕ) (given : List Part) (shape : HasShape found)
    (state_is : IsState (state_in found names backup)) (accepted : (group : Group) → found.group ≡ Some group → IsAccepted group)
    (time : now < 2 ^ 48) where
  abbrev state : GroupState
  state = state_in found names backup

  -- the volume that the change puts behind the others of this version
  abbrev ZeroesLast : Option Version → Change → Type 0
  ZeroesLast before change =
      (group : Group) → change.group ≡ Some group → (volume : PlacedVolume)
      → volumes_of (Some (version_of group change)) ≡ volumes_of before ++ volume ∷ [] → (x : ℕ) → x < length volume.places → x < 8
      → in_spans change.zero (place_at volume.places x).disk (place_at volume.places x).sector ≡ true

  new_zeroed : (number : ℕ) (id : Option (List ℕ)) (new : NewVolume) → IsPlanned id (Lvcreate new)
      → Takes (asks_of state (record { number = number; id = id; command = Lvcreate new })) given
      → refusal_of state (record { number = number; id = id; command = Lvcreate new }) now given ≡ None
      → ZeroesLast (version_in found) (change_of state (record { number = number; id = id; command = Lvcreate new }) now given)
  new_zeroed number id new planned takes passes =
      subst (ZeroesLast (version_in found)) (sym made.change_is)
      (λ group is volume last.
      last_zeroed made.old found.disk_of (accepted made.old made.there) drawn new now given
      (made.may state_is (accepted made.old made.there) time) (disks_of made.old found.disks)
      (λ k pv there. ap (λ (l : List ℕ). slice_index l k) listed) volume
      (ap (λ (g : Group). volumes_of (Some (record { group = g; disk_of = found.disk_of })))
      (same_Some (created_group drawn new now given made.old) group is) ∙ last
      ∙ ap (λ (v : Option Version). volumes_of v ++ volume ∷ []) was))
    where
      drawn : List ℕ
      drawn = unwrap_or id []

      made : Creates state drawn new now given
      made = creates state drawn new now given (drawn_is id planned.0) planned.1 found.group refl takes passes

      listed : found.disk_of ≡ disks_of made.old found.disks
      listed = subst (λ (o : Option Group). IfSome o (λ g. found.disk_of ≡ disks_of g found.disks)) made.there shape.disk_of

      was : version_in found ≡ Some (record { group = made.old; disk_of = disks_of made.old found.disks })
      was = ap (λ (o : Option Group). option_map (λ (g : Group). record { group = g; disk_of = disks_of g found.disks }) o) made.there

  -- of a line with this command
  pub line_zeroed : (line : Line) (new : NewVolume) → Lvcreate new ≡ line.command → IsPlanned line.id line.command
      → Takes (asks_of state line) given → refusal_of state line now given ≡ None
      → ZeroesLast (version_in found) (change_of state line now given)
  line_zeroed line new is =
      subst
      (λ (command : Command). IsPlanned line.id command
      → Takes (asks_of state (record { number = line.number; id = line.id; command = command })) given
      → refusal_of state (record { number = line.number; id = line.id; command = command }) now given ≡ None
      → ZeroesLast (version_in found) (change_of state (record { number = line.number; id = line.id; command = command }) now given))
      is (new_zeroed line.number line.id new)

-- a command zeroes nothing, or is an lvcreate
pub zero_cases : (command : Command) → (zeroes command ≡ false) ⊎ ((new : NewVolume) × (Lvcreate new ≡ command))
zero_cases (Lvcreate new) = inr (new, refl)
zero_cases command = inl refl
