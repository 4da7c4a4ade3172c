-- The group and the unknown keys of a tree, as they are read.
use Rattle.std.specs.Prelude.{◌≡◌, ℕ, List, Result, Ok, Err}
use Rattle.conf_text.specs.Entries.{Conf}
use Rattle.meta_model.specs.PassedOver.{passed_over}
use Rattle.meta_model.specs.Standing.{group_of}
use Rattle.meta_model.specs.declared.group.Group.{Group}
use Rattle.meta_model.specs.declared.refusal.GroupRefusal.{GroupRefusal}
use Rattle.meta_model.specs.declared.refusal.GroupRefusal.TheVariants.{NoMemory}

-- the group that the tree stands for, with the keys that are passed over, or the first refusal; want of memory says nothing
abbrev pub StandsFor : Conf → Result (Group × List (List ℕ)) GroupRefusal → Type 0
StandsFor tree (Ok found) = (group_of tree ≡ Ok found.0) × (found.1 ≡ passed_over tree)
StandsFor tree (Err NoMemory) = Unit {0}
StandsFor tree (Err refusal) = group_of tree ≡ Err refusal
