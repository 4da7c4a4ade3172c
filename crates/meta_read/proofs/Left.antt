-- What is left of a section after its first name was taken.
use Rattle.std.proofs.Common.{ℕ, List, [], ◌∷◌, Option, Some, None, Bor}
use Rattle.conf_text.specs.Entries.{Conf}
use Rattle.conf_text.specs.Items.{items}
use Rattle.conf_text.specs.Sections.{item_view}
use Rattle.conf_text.specs.declared.section.Item.{Item}
use Rattle.meta_model.specs.Keys.{Items}

-- the first item and those behind it
abbrev pub items_left : Option (Bor (List ℕ) × Item × Conf) → Items
items_left None = []
items_left (Some first) = (first.0.now, item_view first.1) ∷ items first.2
