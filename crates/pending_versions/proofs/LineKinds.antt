-- A line that makes a version: its kind, and what that says of births.
use Rattle.std.proofs.Common.{◌≡◌, ◌≤◌, ℕ, ◌==◌, nat_le, true, false, length, Option, Some, None, refl, sym, ap, arith}
use Rattle.std.proofs.lemmas.Bool.{true≢false}
use Rattle.list_laws.proofs.Bools.{and_cases, eq_of, true_le}
use Rattle.command_table.specs.Commands.{CommandKind, GroupNamed, NextVersion, Restore, VolumeAdded, VolumeLonger, kind_of}
use Rattle.disk_model.specs.Steps.{Image}
use Rattle.line_table.specs.Machine.{PlainState, sectors_of}
use Rattle.lvm_script.specs.declared.line.Line.{Line}
use Rattle.vg_scan.specs.Versions.{Version}
use Rattle.volume_history.specs.Candidates.{is_born}
use Rattle.volume_history.specs.Changing.{KindChanges}
use Rattle.volume_history.specs.Replay.{kind_step, line_step}
use Rattle.pending_versions.proofs.Keys.{sectors_past}
use Rattle.pending_versions.specs.Births.{LineChanges, born_places, line_births, line_zeros, restores, zero_places}
use Rattle.pending_versions.specs.Coming.{open_step}
use Rattle.pending_versions.specs.Machines.{AreKeyed}

-- the line is of this kind
pub record IsKind (b : Option (Line × Option ℕ)) (before after : Option Version) : Type 0 where
  pub kind : CommandKind
  pub changes : KindChanges kind before after
  pub keeps : restores kind ≡ false
  pub births : line_births b before after ≡ born_places kind before after
  pub zeros : line_zeros b after ≡ zero_places kind after
  pub steps : (state : PlainState) (image : Image) → line_step b before after state image ≡ kind_step kind before after state image

pub kind_is : (b : Option (Line × Option ℕ)) (before after : Option Version) → LineChanges b before after → IsKind b before after
kind_is None before after changes = absurd changes
kind_is (Some l) before after changes = record {
  kind = kind_of l.0.command;
  changes = changes.0;
  keeps = changes.1;
  births = refl;
  zeros = refl;
  steps = λ state image. refl;
}

-- a sector that is born is one of no volume so far
pub born_new : (kind : CommandKind) (before after : Option Version) (state : PlainState) → restores kind ≡ false
    → AreKeyed 0 state.next_key state.volumes → (key x : ℕ) → is_born (open_step kind before after state) state key x ≡ true
    → length (sectors_of state.volumes key) ≤ x
born_new (VolumeAdded lv) before after state none keys key x born =
    let own : state.next_key ≡ key = eq_of state.next_key key (and_cases (state.next_key == key) _ born).0 in
    let empty = ap length (sectors_past key 0 state.next_key state.volumes (omega (arith, own)) keys) in omega (arith, empty)
born_new (NextVersion (VolumeLonger lv)) before after state none keys key x born =
    true_le (length (sectors_of state.volumes key)) x
    (and_cases (nat_le (length (sectors_of state.volumes key)) x) _ (and_cases _ _ born).1).0
born_new Restore before after state none keys key x born = absurd (true≢false none)
born_new (NextVersion (GroupNamed new)) before after state none keys key x born = absurd (true≢false (sym born))
born_new _ before after state none keys key x born = absurd (true≢false (sym born))
