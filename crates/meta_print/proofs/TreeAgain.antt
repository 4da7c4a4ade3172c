-- What is printed of a group stands for it, and no key is passed over.
use Rattle.std.proofs.Common.{◌≡◌, ℕ, true, List, [], ◌∷◌, Ok, refl, sym, ap, ◌∙◌}
use Rattle.std.proofs.lemmas.List.{append-nil}
use Rattle.std.specs.Prelude.{codes, is_none}
use Rattle.lvm_name.specs.Names.{group_name_refusal}
use Rattle.conf_text.specs.Entries.{Conf, ConfEntry, One, Number, Text}
use Rattle.conf_text.specs.Items.{Leaf, Body, items}
use Rattle.meta_model.specs.Keys.{Items}
use Rattle.meta_model.specs.PassedOver.{in_group, passed_over}
use Rattle.meta_model.specs.Standing.{group_in, group_of}
use Rattle.meta_model.specs.declared.group.Group.{Group}
use Rattle.meta_print.specs.Layout.{section, trailer, tree_of, backup_of}
use Rattle.meta_print.proofs.Sections.{section_item}
use Rattle.meta_print.proofs.Printable.{IsPrintable}
use Rattle.meta_print.proofs.NamesOfText.{IsBeside, group_name-beside}
use Rattle.meta_print.proofs.GroupAgain.{group_body, group_whole, group_read_again, group_keys_known}

-- the items of the trailer, with these behind them
abbrev trailer_items : ℕ → Items → Items
trailer_items now more =
    (codes "contents", Leaf (One (Text (codes "Text Format Volume Group"))))
    ∷ (codes "version", Leaf (One (Number 1)))
    ∷ (codes "description", Leaf (One (Text [])))
    ∷ (codes "creation_host", Leaf (One (Text (codes "localhost"))))
    ∷ (codes "creation_time", Leaf (One (Number now)))
    ∷ more

tree_items : (group : Group) (now : ℕ) → items (tree_of group now) ≡ (group.name, Body (group_body group)) ∷ trailer_items now []
tree_items group now = section_item group.name (group_body group) (trailer now) (group_whole group)

backup_items : (group : Group) (now : ℕ) → items (backup_of group now) ≡ trailer_items now ((group.name, Body (group_body group)) ∷ [])
backup_items group now =
    ap (trailer_items now) (ap items (sym (append-nil (section group.name (group_body group))))
    ∙ section_item group.name (group_body group) [] (group_whole group))

stands_by : (tree : Conf) (group : Group) (now : ℕ) (body : List ConfEntry) → items tree ≡ (group.name, Body body) ∷ trailer_items now []
    → is_none (group_name_refusal group.name) ≡ true → IsBeside group.name → group_in group.name (items body) ≡ Ok group
    → group_of tree ≡ Ok group
unfolding group_of
stands_by tree group now body found name beside read = rw (found, name, beside.no_contents, beside.no_version, read) refl

backup_stands_by : (tree : Conf) (group : Group) (now : ℕ) (body : List ConfEntry)
    → items tree ≡ trailer_items now ((group.name, Body body) ∷ [])
    → is_none (group_name_refusal group.name) ≡ true → group_in group.name (items body) ≡ Ok group → group_of tree ≡ Ok group
unfolding group_of
backup_stands_by tree group now body found name read = rw (found, name, read) refl

known_by : (tree : Conf) (name : List ℕ) (now : ℕ) (body : List ConfEntry) → items tree ≡ (name, Body body) ∷ trailer_items now []
    → in_group name (items body) ≡ [] → passed_over tree ≡ []
unfolding passed_over
known_by tree name now body found known = rw (found, known) refl

backup_known_by : (tree : Conf) (name : List ℕ) (now : ℕ) (body : List ConfEntry) → items tree ≡ trailer_items now ((name, Body body) ∷ [])
    → in_group name (items body) ≡ [] → passed_over tree ≡ []
unfolding passed_over
backup_known_by tree name now body found known = rw (found, known) refl

pub tree_stands : (group : Group) (now : ℕ) → IsPrintable group → group_of (tree_of group now) ≡ Ok group
tree_stands group now h =
    stands_by (tree_of group now) group now (group_body group) (tree_items group now) h.name_is (group_name-beside group.name h.name_is)
    (group_read_again group h)

pub backup_stands : (group : Group) (now : ℕ) → IsPrintable group → group_of (backup_of group now) ≡ Ok group
backup_stands group now h =
    backup_stands_by (backup_of group now) group now (group_body group) (backup_items group now) h.name_is (group_read_again group h)

pub tree_known : (group : Group) (now : ℕ) → IsPrintable group → passed_over (tree_of group now) ≡ []
tree_known group now h =
    known_by (tree_of group now) group.name now (group_body group) (tree_items group now) (group_keys_known group group.name h)

pub backup_known : (group : Group) (now : ℕ) → IsPrintable group → passed_over (backup_of group now) ≡ []
backup_known group now h =
    backup_known_by (backup_of group now) group.name now (group_body group) (backup_items group now) (group_keys_known group group.name h)
