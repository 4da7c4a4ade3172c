-- Each batch is added behind the others.
use Rattle.std.proofs.Common.{◌≡◌, ℕ, List, Option, unwrap_or, refl, sym, ap, subst, ◌∙◌}
use Rattle.mda_header.specs.declared.header.Locn.{Locn}
use Rattle.mda_ring.specs.declared.area.Area.{Area}
use Rattle.vg_found.specs.declared.disk.Disk.{Disk}
use Rattle.vg_found.specs.Disks.{held_areas}
use Rattle.group_plan.specs.Cleared.{used_labels}
use Rattle.change_batches.specs.Building.{AreClearsAdded, AreHeld, AreLabelsAdded, AreScanned}
use Rattle.change_batches.specs.Sound.{sizes_of}
use Rattle.vg_repair.specs.Stale.{stale_areas, stale_by, text_of}
use Rattle.vg_repair.proofs.HeldAreas.{are_scanned, stale_held}
use Rattle.vg_repair.proofs.RepairBatches.{all_made, same_rewritten}
use Rattle.vg_repair.proofs.batches.batches_of.Goals as goal

pub push_rewrites-requires : goal.push_rewrites-requires
push_rewrites-requires c =
    let is : c.in_ok-stale.stale ≡ stale_areas c.args.found.now =
    c.in_ok-stale.ensures ∙ ap (λ (s : List (ℕ × ℕ)). stale_by s c.as_slice.result.now) c.as_slice-2.ensures
    ∙ ap (stale_by c.args.found.now.stale) c.as_slice.ensures
    in
    subst AreHeld (sym is) (stale_held c.args.found.now c.requires)

pub push_labels-requires : goal.push_labels-requires
push_labels-requires c =
    let scanned = are_scanned c.args.found.now c.requires in
    subst (λ (d : List Disk). AreScanned d (held_areas 0 d)) (sym c.as_slice-3.ensures)
    (record { few = scanned.few; each = scanned.each; held = refl })

pub push_clears-requires : goal.push_clears-requires
push_clears-requires c =
    subst (λ (d : List Disk). AreScanned d c.as_slice-5.result.now) (sym c.as_slice-4.ensures)
    (subst (AreScanned c.args.found.now.disks) (sym c.as_slice-5.ensures) (are_scanned c.args.found.now c.requires))

pub returns : goal.returns
returns c =
    let stale : c.in_ok-stale.stale ≡ stale_areas c.args.found.now =
    c.in_ok-stale.ensures ∙ ap (λ (s : List (ℕ × ℕ)). stale_by s c.as_slice.result.now) c.as_slice-2.ensures
    ∙ ap (stale_by c.args.found.now.stale) c.as_slice.ensures
    in
    let text : c.text_or.result.now ≡ text_of c.args.found.now =
    c.text_or.ensures ∙ ap (λ (n : List ℕ). unwrap_or c.args.found.now.text n) (c.from_vec-none.ensures ∙ c.new.ensures.items) in
    all_made c.args.found.now c.requires c.push_rewrites.new.batches.items c.push_labels.new.batches.items c.push_clears.new.batches.items
    (same_rewritten c.text_or.result.now (text_of c.args.found.now) c.in_ok-stale.stale (stale_areas c.args.found.now)
    c.new-batches.result.items c.push_rewrites.new.batches.items text stale c.new-batches.ensures.items c.in_ok-push_rewrites.ensures)
    (subst (λ (d : List Disk). AreLabelsAdded (used_labels c.args.found.now.old d) (sizes_of d) c.push_rewrites.new.batches.items
    c.push_labels.new.batches.items) c.as_slice-3.ensures c.in_ok-push_labels.ensures)
    (subst (λ (d : List Disk). AreClearsAdded c.args.found.now.strays d c.args.found.now.areas c.push_labels.new.batches.items
    c.push_clears.new.batches.items) c.as_slice-4.ensures
    (subst (λ (a : List (Area × Option Locn)). AreClearsAdded c.args.found.now.strays c.as_slice-4.result.now a
    c.push_labels.new.batches.items c.push_clears.new.batches.items) c.as_slice-5.ensures c.in_ok-push_clears.ensures))
