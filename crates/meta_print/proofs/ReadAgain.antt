-- What is printed of a group for which a tree stands is read again.
use Rattle.std.proofs.Common.{ℕ, ◌<◌, ◌^◌, arith}
use Rattle.conf_text.specs.Printed.{printed}
use Rattle.meta_model.specs.declared.group.Group.{Group}
use Rattle.meta_model.specs.Standing.{HasTree}
use Rattle.meta_print.specs.Layout.{tree_of, backup_of}
use Rattle.meta_print.specs.ReadAgain.{IsReadAs}
use Rattle.meta_print.proofs.Printable.{IsPrintable}
use Rattle.meta_print.proofs.GroupFrom.{printable}
use Rattle.meta_print.proofs.GroupFits.{IsSound, tree_sound, backup_sound}
use Rattle.conf_text.proofs.Reprinted.{printed_again}
use Rattle.meta_print.proofs.TreeAgain.{tree_stands, backup_stands, tree_known, backup_known}

pub tree_again : (group : Group) (now : ℕ) → now < 2 ^ 64 → HasTree group → IsReadAs (tree_of group now) group
tree_again group now small h =
    let good : IsPrintable group = printable group h in
    let sound : IsSound (tree_of group now) = tree_sound group now small good in
    record {
      is_text = printed_again (tree_of group now) sound.can sound.balanced sound.limits;
      stands = tree_stands group now good;
      known = tree_known group now good;
    }

pub backup_again : (group : Group) (now : ℕ) → now < 2 ^ 64 → HasTree group → IsReadAs (backup_of group now) group
backup_again group now small h =
    let good : IsPrintable group = printable group h in
    let sound : IsSound (backup_of group now) = backup_sound group now small good in
    record {
      is_text = printed_again (backup_of group now) sound.can sound.balanced sound.limits;
      stands = backup_stands group now good;
      known = backup_known group now good;
    }

-- a tree stands for each group that can be printed
pub has_tree : (group : Group) → IsPrintable group → HasTree group
has_tree group good =
    let sound : IsSound (tree_of group 0) = tree_sound group 0 (omega arith) good in
    record {
      text = printed (tree_of group 0);
      tree = tree_of group 0;
      is_text = printed_again (tree_of group 0) sound.can sound.balanced sound.limits;
      stands = tree_stands group 0 good;
    }
