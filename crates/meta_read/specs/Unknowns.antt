-- What is unknown of the items of a whole text.
use Rattle.std.specs.Prelude.{ℕ, if◌then◌else◌, List, [], ◌∷◌, flat_map}
use Rattle.lvm_name.specs.Names.{is_top_key}
use Rattle.conf_text.specs.Items.{Node, Leaf, Body, items}
use Rattle.meta_model.specs.Keys.{Items}
use Rattle.meta_model.specs.PassedOver.{in_group}

-- what is unknown of an item of the top level
abbrev pub unknown_item : List ℕ → Node → List (List ℕ)
unknown_item name (Leaf value) = if is_top_key name then [] else name ∷ []
unknown_item name (Body entries) = in_group name (items entries)

-- of all of them
abbrev pub unknown_of : Items → List (List ℕ)
unknown_of keys = flat_map (λ item. unknown_item item.0 item.1) keys
