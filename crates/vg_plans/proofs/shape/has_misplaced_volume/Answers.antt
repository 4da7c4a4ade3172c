use Rattle.std.proofs.Common.{ℕ, ◌+◌, ◌*◌, Bool, Option, false, sym, ap, subst, ◌∙◌}
use Rattle.std.specs.Prelude.{option_map, unwrap_or}
use Rattle.meta_model.specs.declared.group.Group.{Group}
use Rattle.meta_model.specs.declared.pv.Pv.{Pv}
use Rattle.volume_rules.specs.Rules.{FitsDevice, IsAccepted}
use Rattle.volume_rules.specs.declared.rule.Rule.TheVariants.{Extents, Ids}
use Rattle.scan_rules.proofs.OnePv.{first_decides}
use Rattle.scan_rules.specs.Decision.{Found, Reading, is_misplaced}
use Rattle.vg_found.specs.Disks.{disk_shape, pv_shape}
use Rattle.group_plan.proofs.FoundIds.{holds_of_found}
use Rattle.vg_plans.proofs.shape.has_misplaced_volume.Goals as goal

-- whether it doesn't lie well there
abbrev test : ℕ → Reading → Found → Pv → Bool
test extent_size disk found pv = is_misplaced pv.pe_start (pv.pe_start + pv.pe_count * extent_size) disk found

pub leaves_place-requires : goal.leaves_place-requires
leaves_place-requires c =
    let group = c.args.members.now in
    subst (λ (g : Group). FitsDevice g.extent_size c.in-Some.pv.now) (sym c.group-group.ensures.group)
    (holds_of_found (FitsDevice group.extent_size) c.args.header.now.id c.in-Some.pv.now group.pvs
    (subst IsAccepted c.group-group.ensures.group c.group-group.ensures.accepted Extents) (sym c.in-Some.ensures))

pub returns-in-Some : goal.returns-in-Some
returns-in-Some c =
    let disk = disk_shape c.args.disk.now in
    let found = pv_shape c.args.header.now in
    let group = c.args.members.now in
    c.leaves_place.ensures
    ∙ ap (λ g. test g.extent_size disk found c.in-Some.pv.now) c.group-group.ensures.group
    ∙ ap (λ (o : Option Pv). unwrap_or (option_map (test group.extent_size disk found) o) false) c.in-Some.ensures
    ∙ first_decides group found.id (test group.extent_size disk found)
    (subst IsAccepted c.group-group.ensures.group c.group-group.ensures.accepted Ids)

pub returns-in-None : goal.returns-in-None
returns-in-None c =
    let disk = disk_shape c.args.disk.now in
    let found = pv_shape c.args.header.now in
    let group = c.args.members.now in
    ap (λ (o : Option Pv). unwrap_or (option_map (test group.extent_size disk found) o) false) c.in-None.ensures
    ∙ first_decides group found.id (test group.extent_size disk found)
    (subst IsAccepted c.group-group.ensures.group c.group-group.ensures.accepted Ids)
