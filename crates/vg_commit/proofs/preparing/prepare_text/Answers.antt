use Rattle.std.proofs.Common.{List, Option, subst}
use Rattle.mda_header.specs.declared.header.Locn.{Locn}
use Rattle.mda_ring.specs.declared.area.Area.{Area}
use Rattle.vg_commit.specs.Plans.{IsPlan}
use Rattle.vg_commit.proofs.Disks.{area_disks_some}
use Rattle.vg_commit.proofs.Planning.{plan_small, plan_within, prepared_result, small_disks, start_result}
use Rattle.vg_commit.proofs.preparing.prepare_text.Goals as goal

pub disks_of_areas-disks-requires : goal.disks_of_areas-disks-requires
disks_of_areas-disks-requires c = small_disks c.args.areas.now c.args.flush c.requires

pub batches_of-requires-clause-disks : goal.batches_of-requires-clause-disks
batches_of-requires-clause-disks c =
    area_disks_some c.args.areas.now c.args.flush c.disks_of_areas-disks.result c.disks_of_areas-disks.ensures c.requires

pub returns-clause-prepared : goal.returns-clause-prepared
returns-clause-prepared c =
    let is_plan : IsPlan c.args.text.now c.args.areas.now c.in_ok-plan.plan =
    subst (λ (l : List (Area × Option Locn)). IsPlan c.args.text.now l c.in_ok-plan.plan) c.as_slice.ensures c.in_ok-plan.ensures in
    prepared_result c.args.text.now c.args.areas.now c.args.flush c.disks_of_areas-disks.result c.in_ok-plan.plan is_plan
    c.disks_of_areas-disks.ensures c.requires c.batches_of.result c.batches_of.ensures.batches c.batches_of.ensures.cause

pub returns-clause-can_start : goal.returns-clause-can_start
returns-clause-can_start c =
    let is_plan : IsPlan c.args.text.now c.args.areas.now c.in_ok-plan.plan =
    subst (λ (l : List (Area × Option Locn)). IsPlan c.args.text.now l c.in_ok-plan.plan) c.as_slice.ensures c.in_ok-plan.ensures in
    start_result c.args.text.now c.args.areas.now c.args.flush c.disks_of_areas-disks.result c.in_ok-plan.plan is_plan
    c.disks_of_areas-disks.ensures c.requires c.batches_of.result c.batches_of.ensures.batches

pub batches_of-requires-clause-small : goal.batches_of-requires-clause-small
batches_of-requires-clause-small c =
    plan_small c.args.text.now c.args.areas.now c.args.flush c.requires c.in_ok-plan.plan
    (subst (λ (l : List (Area × Option Locn)). IsPlan c.args.text.now l c.in_ok-plan.plan) c.as_slice.ensures c.in_ok-plan.ensures)

pub batches_of-requires-clause-parts : goal.batches_of-requires-clause-parts
batches_of-requires-clause-parts c =
    plan_within c.args.text.now c.args.areas.now c.args.flush c.requires c.in_ok-plan.plan
    (subst (λ (l : List (Area × Option Locn)). IsPlan c.args.text.now l c.in_ok-plan.plan) c.as_slice.ensures c.in_ok-plan.ensures)
