-- The ids of volumes, and blocks of volumes in their order.
use Rattle.std.specs.Prelude.{◌≡◌, ◌≢◌, ℕ, ◌+◌, ◌≤◌, ◌<◌, List, [], ◌∷◌, length, map, slice_index_or, Contains}
use Rattle.std.specs.Ordering.{nat_cmp}
use Rattle.std.specs.Cmp.Lexicographic.{slice_cmp}
use Rattle.std.specs.List.Sorted.{IsSortedByKey}
use Rattle.meta_model.specs.declared.group.Group.{Group}
use Rattle.meta_model.specs.declared.lv.Lv.{Lv}
use Rattle.meta_model.specs.declared.pv.Pv.{Pv}
use Rattle.meta_model.specs.declared.extent_span.ExtentSpan.{ExtentSpan}
use Rattle.vg_check.specs.declared.kind.Kind.{Kind}
use Rattle.vg_check.specs.declared.kind.Kind.TheVariants as kind

-- the ids of the volumes of a kind
abbrev pub kind_ids : Group → Kind → List (List ℕ)
kind_ids group kind.Pv = map (λ (pv : List ℕ × Pv). pv.1.id) group.pvs
kind_ids group kind.Lv = map (λ (lv : List ℕ × Lv). lv.1.id) group.lvs

-- those of the group, and of an earlier kind
abbrev pub ids_before : Group → Kind → List (List ℕ)
ids_before group kind.Pv = group.id ∷ []
ids_before group kind.Lv = group.id ∷ map (λ (pv : List ℕ × Pv). pv.1.id) group.pvs

-- the id of one volume, and that of the group where there is none
abbrev pub id_of : Group → Kind → ℕ → List ℕ
id_of group kind number = slice_index_or (kind_ids group kind) number group.id

-- the volumes with these numbers have ids of their own
pub record IdsStandApart (group : Group) (kind : Kind) (from to : ℕ) : Type 0 where
  pub apart : (i j : ℕ) → from ≤ i → i < to → i < j → j < length (kind_ids group kind) → id_of group kind i ≢ id_of group kind j
  pub before : (i : ℕ) (id : List ℕ) → from ≤ i → i < to → Contains (ids_before group kind) id → id_of group kind i ≢ id

-- a block of the volumes from this number on, so many
abbrev pub IsNumbered : ℕ → ℕ → List ExtentSpan → Type 0
IsNumbered from many block = (k : ℕ) (d : ExtentSpan) → k < many → (slice_index_or block k d).on ≡ from + k

-- a block in the order of ids
abbrev pub IsSortedById : Group → Kind → List ExtentSpan → Type 0
IsSortedById group kind block = IsSortedByKey (λ (run : ExtentSpan). id_of group kind run.on) (slice_cmp nat_cmp) block

-- two volumes of a block differ
abbrev pub IdsDifferAt : Group → Kind → ExtentSpan → ExtentSpan → Type 0
IdsDifferAt group kind a b = id_of group kind a.on ≢ id_of group kind b.on

-- one of a block has the id
abbrev pub HasId : Group → Kind → List ExtentSpan → List ℕ → Type 0
HasId group kind block id = (run : ExtentSpan) × Contains block run × (id_of group kind run.on ≡ id)

-- no volume of the kind has an id of the block, from this number on
abbrev pub NoneHas : Group → Kind → List ExtentSpan → Kind → ℕ → Type 0
NoneHas group kind block other from =
    (number : ℕ) → from ≤ number → number < length (kind_ids group other) → HasId group kind block (id_of group other number) → ⊥

-- neither the group nor a volume of an earlier kind has one
abbrev pub NoneBeforeHas : Group → Kind → List ExtentSpan → Type 0
NoneBeforeHas group kind block = (id : List ℕ) → Contains (ids_before group kind) id → HasId group kind block id → ⊥
