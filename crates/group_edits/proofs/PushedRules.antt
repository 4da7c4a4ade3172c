-- A group with one more physical volume keeps the rules that it kept.
use Rattle.std.proofs.Common.{◌≡◌, ◌≢◌, ◌≤◌, ℕ, suc, List, [], ◌∷◌, ◌++◌, length, map, Some, refl, sym, ap, subst, ◌∙◌, append_assoc}
use Rattle.std.proofs.Common.{arith}
use Rattle.std.specs.Prelude.{slice_get, All, AllPairs}
use Rattle.std.specs.List.{AllByRecursion as Each}
use Rattle.std.proofs.lemmas.List.{map-append, map-id}
use Rattle.std.proofs.lemmas.List.Elements.{All-weaker, recursion_from_All}
use Rattle.meta_model.specs.declared.group.Group.{Group}
use Rattle.meta_model.specs.declared.lv.Lv.{Lv}
use Rattle.meta_model.specs.declared.pv.Pv.{Pv}
use Rattle.volume_rules.specs.Rules.{FitsDevice, IsAccepted, Keeps, PvIsSmall, VolumesAreFew, ids_of, number_of}
use Rattle.volume_rules.specs.declared.rule.Rule.{Rule}
use Rattle.volume_rules.specs.declared.rule.Rule.TheVariants.{Numbers, Ids, Volumes, Segments, Extents, Follows, Stripes, Mirrors, Within}
use Rattle.volume_rules.specs.declared.rule.Rule.TheVariants.{Apart, Depth, Moved, Pvmove, Locked}
use Rattle.group_edits.proofs.EditedLegs.{LegsAreAllowed}
use Rattle.group_edits.proofs.EditedRows.{mapped_legs, same_stays}
use Rattle.list_laws.proofs.Inserted.{all_pushed, pairs_inserted, slice_get-pushed}
use Rattle.group_edits.proofs.Pushed.{pushed}

-- all rules, but for the number of its physical volumes
pub record IsBase (group : Group) : Type 0 where
  pub kept : (rule : Rule) → number_of rule ≢ 3 → Keeps group rule
  pub lvs : length group.lvs ≤ 1024
  pub max_lv : group.max_lv ≢ 0 → length group.lvs ≤ group.max_lv

-- a physical volume that may join it
pub record MayJoin (group : Group) (pv : Pv) : Type 0 where
  pub small : PvIsSmall pv
  pub fits : FitsDevice group.extent_size pv
  pub fresh : All (λ id. id ≢ pv.id) (ids_of group)

pub accepted_base : (group : Group) → IsAccepted group → IsBase group
accepted_base group accepted =
    record { kept = λ rule other. accepted rule; lvs = (accepted Volumes).lvs; max_lv = (accepted Volumes).max_lv }

pub base_accepted : (group : Group) → IsBase group → VolumesAreFew group → IsAccepted group
base_accepted group base few Numbers = base.kept Numbers (λ e. omega (arith, e))
base_accepted group base few Ids = base.kept Ids (λ e. omega (arith, e))
base_accepted group base few Volumes = few
base_accepted group base few Segments = base.kept Segments (λ e. omega (arith, e))
base_accepted group base few Extents = base.kept Extents (λ e. omega (arith, e))
base_accepted group base few Follows = base.kept Follows (λ e. omega (arith, e))
base_accepted group base few Stripes = base.kept Stripes (λ e. omega (arith, e))
base_accepted group base few Mirrors = base.kept Mirrors (λ e. omega (arith, e))
base_accepted group base few Within = base.kept Within (λ e. omega (arith, e))
base_accepted group base few Apart = base.kept Apart (λ e. omega (arith, e))
base_accepted group base few Depth = base.kept Depth (λ e. omega (arith, e))
base_accepted group base few Moved = base.kept Moved (λ e. omega (arith, e))
base_accepted group base few Pvmove = base.kept Pvmove (λ e. omega (arith, e))
base_accepted group base few Locked = base.kept Locked (λ e. omega (arith, e))

-- ---- ids

abbrev Differ : List ℕ → List ℕ → Type 0
Differ a b = a ≢ b

front : (new : List ℕ) (xs ys : List (List ℕ)) → Each (λ other. other ≢ new) (xs ++ ys) → Each (λ other. other ≢ new) xs
front new [] ys all = tt
front new (x ∷ xs) ys all = (all.0, front new xs ys all.1)

back : (new : List ℕ) (xs ys : List (List ℕ)) → All (λ other. other ≢ new) (xs ++ ys) → All (λ other. other ≢ new) ys
back new [] ys all = all
back new (x ∷ xs) ys all = back new xs ys (λ k d within. all (suc k) d (omega arith))

ids_pushed : (id new : List ℕ) (pvs lvs : List (List ℕ)) → AllPairs Differ (id ∷ (pvs ++ lvs))
    → All (λ other. other ≢ new) (id ∷ (pvs ++ lvs)) → AllPairs Differ (id ∷ (pvs ++ new ∷ lvs))
ids_pushed id new pvs lvs differ fresh =
    pairs_inserted Differ (id ∷ pvs) lvs new differ
    (front new (id ∷ pvs) lvs (recursion_from_All (λ other. other ≢ new) (id ∷ (pvs ++ lvs)) fresh))
    (All-weaker (λ other. other ≢ new) (Differ new) (λ other apart same. apart (sym same)) lvs (back new (id ∷ pvs) lvs fresh))

pub ids_of-pushed : (group : Group) (row : List ℕ × Pv)
    → ids_of (pushed group row) ≡ group.id ∷ (map (λ (pv : List ℕ × Pv). pv.1.id) group.pvs ++ row.1.id
    ∷ map (λ (lv : List ℕ × Lv). lv.1.id) group.lvs)
ids_of-pushed group row =
    ap (λ (ids : List (List ℕ)). group.id ∷ (ids ++ map (λ (lv : List ℕ × Lv). lv.1.id) group.lvs))
    (map-append (λ (pv : List ℕ × Pv). pv.1.id) group.pvs (row ∷ []))
    ∙ ap (λ (ids : List (List ℕ)). group.id ∷ ids)
    (append_assoc (map (λ (pv : List ℕ × Pv). pv.1.id) group.pvs) (row.1.id ∷ []) (map (λ (lv : List ℕ × Lv). lv.1.id) group.lvs))

ids_kept : (group : Group) (row : List ℕ × Pv) → Keeps group Ids → All (λ id. id ≢ row.1.id) (ids_of group) → Keeps (pushed group row) Ids
ids_kept group row differ fresh =
    subst (AllPairs Differ) (sym (ids_of-pushed group row))
    (ids_pushed group.id row.1.id (map (λ (pv : List ℕ × Pv). pv.1.id) group.pvs) (map (λ (lv : List ℕ × Lv). lv.1.id) group.lvs) differ
    fresh)

-- ---- another version of a group, with this name and these physical volumes

abbrev changed : Group → List ℕ → ℕ → List (List ℕ × Pv) → Group
changed group name seqno pvs = record group { name = name; seqno = seqno; pvs = pvs }

base_legs : (group : Group) → IsBase group → LegsAreAllowed group
base_legs group base = record {
  within = base.kept Within (λ e. omega (arith, e));
  apart = base.kept Apart (λ e. omega (arith, e));
  depth = base.kept Depth (λ e. omega (arith, e));
  pvmove = base.kept Pvmove (λ e. omega (arith, e));
  locked = base.kept Locked (λ e. omega (arith, e));
}

module _ (group : Group) (new : List ℕ) (seqno : ℕ) (pvs : List (List ℕ × Pv))
    (stay : (k : ℕ) (pv : List ℕ × Pv) → slice_get group.pvs k ≡ Some pv
    → (row : List ℕ × Pv) × (slice_get pvs k ≡ Some row) × (row.0 ≡ pv.0) × (row.1.pe_count ≡ pv.1.pe_count)) where
  abbrev other : Group
  other = changed group new seqno pvs

  -- keeps all rules, where it keeps those on numbers, ids and physical volumes
  pub base_changed : Keeps other Numbers → Keeps other Ids → Keeps other Extents → IsBase group → IsBase other
  base_changed numbers ids extents base = record { kept = keeps; lvs = base.lvs; max_lv = base.max_lv } where
    legs : LegsAreAllowed other
    legs =
        mapped_legs group other (λ row. row) (sym (map-id group.lvs)) stay (λ row within. same_stays row) (base_legs group base)

    keeps : (rule : Rule) → number_of rule ≢ 3 → Keeps other rule
    keeps Numbers apart = numbers
    keeps Ids apart = ids
    keeps Volumes apart = absurd (apart refl)
    keeps Segments apart = record { few = (base.kept Segments apart).few; some = (base.kept Segments apart).some }
    keeps Extents apart = extents
    keeps Follows apart = base.kept Follows apart
    keeps Stripes apart = base.kept Stripes apart
    keeps Mirrors apart = base.kept Mirrors apart
    keeps Within apart = legs.within
    keeps Apart apart = legs.apart
    keeps Depth apart = legs.depth
    keeps Moved apart = base.kept Moved apart
    keeps Pvmove apart = legs.pvmove
    keeps Locked apart = legs.locked

-- ---- all of them

numbers_kept : (group : Group) (row : List ℕ × Pv) → PvIsSmall row.1 → Keeps group Numbers → Keeps (pushed group row) Numbers
numbers_kept group row small numbers = record {
  seqno = numbers.seqno;
  extent_size = numbers.extent_size;
  limits = numbers.limits;
  pvs = all_pushed (λ (pv : List ℕ × Pv). PvIsSmall pv.1) group.pvs row numbers.pvs small;
  lvs = numbers.lvs;
}

pub base_pushed : (group : Group) (row : List ℕ × Pv) → IsBase group → MayJoin group row.1 → IsBase (pushed group row)
base_pushed group row base may =
    base_changed group group.name group.seqno (group.pvs ++ row ∷ [])
    (λ k pv is. (pv, slice_get-pushed group.pvs (row ∷ []) k pv is, refl, refl))
    (numbers_kept group row may.small (base.kept Numbers (λ e. omega (arith, e))))
    (ids_kept group row (base.kept Ids (λ e. omega (arith, e))) may.fresh)
    (all_pushed (λ (pv : List ℕ × Pv). FitsDevice group.extent_size pv.1) group.pvs row (base.kept Extents (λ e. omega (arith, e)))
    may.fits) base

version_numbers : (group : Group) (new : List ℕ) (seqno : ℕ) → 1 ≤ seqno → seqno ≤ 4294967295 → Keeps group Numbers
    → Keeps (record group { name = new; seqno = seqno }) Numbers
version_numbers group new seqno some most numbers =
    record { seqno = (some, most); extent_size = numbers.extent_size; limits = numbers.limits; pvs = numbers.pvs; lvs = numbers.lvs }

-- another version, with another name, keeps them too
pub base_renamed : (group : Group) (new : List ℕ) (seqno : ℕ) → 1 ≤ seqno → seqno ≤ 4294967295 → IsBase group
    → IsBase (record group { name = new; seqno = seqno })
base_renamed group new seqno some most base =
    base_changed group new seqno group.pvs (λ k pv is. (pv, is, refl, refl))
    (version_numbers group new seqno some most (base.kept Numbers (λ e. omega (arith, e))))
    (base.kept Ids (λ e. omega (arith, e))) (base.kept Extents (λ e. omega (arith, e))) base

-- so does one with its own name
pub base_version : (group : Group) (seqno : ℕ) → 1 ≤ seqno → seqno ≤ 4294967295 → IsBase group → IsBase (record group { seqno = seqno })
base_version group seqno some most base = base_renamed group group.name seqno some most base
