-- What is printed is read again.
use Rattle.std.specs.Prelude.{◌≡◌, [], Ok}
use Rattle.conf_text.specs.Entries.{Conf}
use Rattle.conf_text.specs.Grammar.{IsTextOf}
use Rattle.conf_text.specs.Printed.{printed}
use Rattle.meta_model.specs.declared.group.Group.{Group}
use Rattle.meta_model.specs.PassedOver.{passed_over}
use Rattle.meta_model.specs.Standing.{group_of}

-- the tree's printed text is a text of it, and it stands for the group with no key passed over
pub record IsReadAs (tree : Conf) (group : Group) : Type 0 where
  pub is_text : IsTextOf (printed tree) tree
  pub stands : group_of tree ≡ Ok group
  pub known : passed_over tree ≡ []
