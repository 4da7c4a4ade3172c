-- The zeros of an lvcreate lie in free extents of the group that was found.
use Rattle.std.proofs.Common.{◌≡◌, ◌<◌, ℕ, ◌^◌, refl, Option, List, [], ◌∷◌, Some, None, sym, ap, subst, ◌∙◌}
use Rattle.std.specs.Prelude.{option_map, slice_index}
use Rattle.std.specs.Option.{option_map_or}
use Rattle.sector_base.specs.declared.spans.Span.{Span}
use Rattle.lvm_id.specs.LvmId.{IsId}
use Rattle.command_table.specs.declared.command.NewVolume.{NewVolume}
use Rattle.line_answers.specs.declared.op_refusal.OpRefusal.TheVariants.{UnknownGroup}
use Rattle.meta_model.specs.Standing.{HasTree}
use Rattle.meta_model.specs.declared.group.Group.{Group}
use Rattle.volume_rules.specs.Rules.{IsAccepted}
use Rattle.extent_alloc.specs.declared.part.Part.{Part}
use Rattle.vg_found.specs.Disks.{disks_of}
use Rattle.vg_found.specs.Shape.{HasShape}
use Rattle.vg_found.specs.Whole.{IsWhole}
use Rattle.vg_found.specs.declared.found.Found.{Found}
use Rattle.group_edits.proofs.FirstSectors.{Beginning, beginning}
use Rattle.group_edits.specs.NewVolume.{MayHave}
use Rattle.group_plan.specs.Judging.{first_refusal}
use Rattle.group_plan.specs.State.{IsState}
use Rattle.group_plan.specs.declared.state.Change.{Change}
use Rattle.group_plan.specs.declared.state.GroupState.{GroupState}
use Rattle.group_plan.specs.declared.backup.Backup.{Backup}
use Rattle.lv_plans.proofs.CreatedVolume.{Creates, creates}
use Rattle.lv_plans.proofs.Creating.{zeroed_is}
use Rattle.lv_plans.specs.Allocating.{Takes}
use Rattle.lv_plans.specs.Lvcreate.{IsNewVolume, create_asks, create_in_rows, eight_from, kind_for, lvcreate_change, zeroed_at}
use Rattle.group_ops.specs.Laws.{state_in}
use Rattle.image_scans.specs.Laws.{IsFree, ZeroesLie, in_spans}
use Rattle.image_scans.proofs.NewPlaces.{first_free}
use Rattle.image_scans.proofs.NoWrites.{found_listed, found_placed, found_there}

pub new_lie : (found : Found) (names : List (List ℕ)) (backup : Option Backup) (id : List ℕ) (new : NewVolume) (now : ℕ) (given : List Part)
    → HasShape found → IsWhole found → IsState (state_in found names backup)
    → ((group : Group) → found.group ≡ Some group → IsAccepted group × HasTree group) → IsNewVolume new → now < 2 ^ 48 → IsId id
    → Takes (option_map (create_asks (state_in found names backup) id new) found.group) given
    → first_refusal (option_map_or (λ (g : Group). create_in_rows (state_in found names backup) id new now g given) found.group
    (Some (UnknownGroup new.vg) ∷ [])) ≡ None
    → ZeroesLie found (lvcreate_change (state_in found names backup) id new now given)
new_lie found names backup id new now given shape whole state_is held values time is_id takes passes disk sector among =
    let state : GroupState = state_in found names backup in
    let made : Creates state id new now given = creates state id new now given is_id values found.group refl takes passes in
    let old : Group = made.old in
    let known = held old made.there in
    let may : MayHave old id (kind_for new) given now = made.may state_is known.0 time in
    let b : Beginning old given = beginning old new.lv id (kind_for new) given now may known.0 in
    let listed : found.disk_of ≡ disks_of old found.disks = found_listed found shape old made.there in
    let zeroed : (lvcreate_change state id new now given).zero
    ≡ eight_from (slice_index (disks_of old found.disks) b.run.pv) old.extent_size b.pv.1 b.run ∷ [] =
    ap (λ (c : Change). c.zero) made.change_is ∙ ap (λ (l : List ℕ). zeroed_at l old given) listed
    ∙ zeroed_is (disks_of old found.disks) old given b
    in
    let free : IsFree old (disks_of old found.disks) disk sector =
    first_free old found.disks known.0 (found_placed found shape old made.there) (found_there found shape whole old made.there) new.lv id
    (kind_for new) given now may b.part b.is_part b.run b.is_run b.pv b.is_pv
    (made.whole state_is known.0 known.1 time).accepted disk sector
    (sym (ap (λ (spans : List Span). in_spans spans disk sector) zeroed) ∙ among)
    in
    (old, made.there, subst (λ (l : List ℕ). IsFree old l disk sector) (sym listed) free)
