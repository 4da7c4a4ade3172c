-- What was decided, and what stands on the disks, is what was found.
use Rattle.std.proofs.Common.{ℕ, List, refl, ap, ◌∙◌}
use Rattle.std.specs.FinSet as set
use Rattle.std.specs.Prelude.{option_map}
use Rattle.scan_rules.specs.declared.readings.GroupCopy.{GroupCopy}
use Rattle.vg_found.specs.declared.disk.Disk.{Disk}
use Rattle.vg_found.specs.Disks.{held_areas, old_among}
use Rattle.vg_found.proofs.ShapedAreas.{areas_shaped}
use Rattle.vg_scan.specs.Outcome.{listed_disks}
use Rattle.vg_scan.proofs.OutcomeShape.{outcome_of}
use Rattle.vg_scan.proofs.outcome.found_of.Goals as goal

pub returns : goal.returns
returns c =
    let decided = c.in_ok-decided.decided in
    outcome_of c.args.disks.items c.args.unread c.args.readings.disks decided
    (record {
      group = c.parts_of-group.result.0;
      text = c.parts_of-group.result.1;
      unknown = c.parts_of-group.result.2;
      disks = c.from_vec.result;
      areas = c.in_ok-areas.areas;
      stale = decided.stale;
      strays = decided.strays;
      old = c.old_disks-old.result;
      missing = decided.missing;
      disk_of = c.in_ok-disk_of.disk_of;
      unread = c.args.unread;
    })
    c.requires.some c.requires.few c.requires.shapes (λ disks each. areas_shaped disks each) c.in_ok-decided.ensures
    (record {
      group = c.parts_of-group.ensures.group;
      text = c.parts_of-group.ensures.text;
      unknown = c.parts_of-group.ensures.unknown;
      stale = refl;
      strays = refl;
      missing = refl;
    })
    c.from_vec.ensures refl (c.in_ok-areas.ensures ∙ ap (held_areas 0) c.deref.ensures.value)
    (c.in_ok-disk_of.ensures ∙ ap (listed_disks (option_map (λ (copy : GroupCopy). copy.group) decided.copy)) c.deref-2.ensures.value)
    (c.old_disks-old.ensures ∙ ap (λ (l : List Disk). set.from_list (old_among l c.as_slice.result.now)) c.deref-3.ensures.value
    ∙ ap (λ (l : List ℕ). set.from_list (old_among c.args.disks.items l)) c.as_slice.ensures)
