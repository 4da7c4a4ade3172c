-- What is passed over is what is unknown of the items.
use Rattle.std.proofs.Common.{◌≡◌, refl}
use Rattle.conf_text.specs.Entries.{Conf}
use Rattle.conf_text.specs.Items.{items}
use Rattle.meta_model.specs.PassedOver.{passed_over}
use Rattle.meta_read.specs.Unknowns.{unknown_of}

pub passed_over_items : (tree : Conf) → passed_over tree ≡ unknown_of (items tree)
unfolding passed_over
passed_over_items tree = refl
