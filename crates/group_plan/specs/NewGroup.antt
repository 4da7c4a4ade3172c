-- The group that a line gives, and what stands beside it in the change.
use Rattle.std.specs.Prelude.{ℕ, List, [], ◌++◌, map, Option, Some}
use Rattle.std.specs.FinSet as set
use Rattle.line_answers.specs.declared.op_refusal.OpRefusal.{OpRefusal}
use Rattle.meta_model.specs.declared.group.Group.{Group}
use Rattle.meta_model.specs.declared.lv.Lv.{Lv}
use Rattle.meta_model.specs.declared.pv.Pv.{Pv}
use Rattle.group_edits.specs.JoinedGroup.{with_pvs}
use Rattle.group_plan.specs.Added.{disks_added, label_of, pv_of}
use Rattle.group_plan.specs.Judging.{large_row, set_of, stored_size}
use Rattle.group_plan.specs.declared.added.AddedPv.{AddedPv}
use Rattle.group_plan.specs.declared.state.Change.{Change}
use Rattle.group_plan.specs.declared.state.GroupState.{GroupState}

-- the physical volumes with these behind them
abbrev pub with_added : List (List ℕ × Lv) → ℕ → List (List ℕ × Pv) → List AddedPv → List (List ℕ × Pv)
with_added lvs extent_size pvs all = with_pvs lvs pvs (map (pv_of extent_size) all)

-- the group with these too
unfoldable pub extended : Group → List AddedPv → Group
extended base all = record base { pvs = with_added base.lvs base.extent_size base.pvs all }

-- the first area of its physical volumes that can't take its text, where these disks were listed before
abbrev pub text_row : GroupState → Group → List ℕ → List AddedPv → ℕ → Option OpRefusal
text_row state base listed all now = large_row state.areas (listed ++ disks_added all) (stored_size (extended base all) now)

-- the change that makes it one with these: it is committed, their labels say that they are used, and their disks follow
-- those that were listed
abbrev pub change_with : Group → List ℕ → List AddedPv → Change
change_with base listed all =
    record {
      group = Some (extended base all);
      zero = [];
      labels = map label_of all;
      taken = set_of (disks_added all);
      cleared = set.empty;
      disk_of = listed ++ disks_added all;
    }
