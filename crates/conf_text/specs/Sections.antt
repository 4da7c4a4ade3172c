-- What the code's items stand for.
use Rattle.std.specs.Prelude.{ℕ, List, map}
use Rattle.conf_text.specs.declared.section.Item as item
use Rattle.conf_text.specs.declared.section.Item.TheVariants as items
use Rattle.conf_text.specs.Entries.{Number, Text, One, Many}
use Rattle.conf_text.specs.Items.{Node, Leaf, Body}
use Rattle.conf_text.specs.Views.{scalar_view}

-- what an item of a section stands for
abbrev pub item_view : item.Item → Node
item_view (items.Number n) = Leaf (One (Number n))
item_view (items.Text s) = Leaf (One (Text s.now))
item_view (items.List scalars) = Leaf (Many (map scalar_view scalars.now))
item_view (items.Section entries) = Body entries

-- an item with its name
abbrev pub named_item_view : List ℕ × item.Item → List ℕ × Node
named_item_view pair = (pair.0, item_view pair.1)
