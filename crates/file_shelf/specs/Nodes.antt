-- Files by their nodes.
use Rattle.std.specs.Prelude.{◌≡◌, ◌<◌, ℕ, List, length, slice_index_or, All, Some}
use Rattle.std.specs.BTreeMap.{BTreeMap, get, values}
use Rattle.std.specs.Ordering.{nat_cmp, ordering_then}
use Rattle.std.specs.declared.cmp.Ordering.{Ordering}
use Rattle.file_shelf.specs.declared.image.Node.{Node}

-- the order of nodes
abbrev pub node_cmp : Node → Node → Ordering
node_cmp a b = ordering_then (nat_cmp a.device b.device) (nat_cmp a.inode b.inode)

-- each node of the list stands in the map with its number, and no other number does
abbrev pub AreNumbered : BTreeMap Node ℕ → List Node → Type 0
AreNumbered numbers nodes =
    ((k : ℕ) (d : Node) → k < length nodes → get node_cmp numbers (slice_index_or nodes k d) ≡ Some k)
    × All (λ k. k < length nodes) (values numbers)
