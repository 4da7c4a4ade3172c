-- A group with further physical volumes keeps all rules, but for their number, and can be printed.
use Rattle.std.proofs.Common.{◌≡◌, ◌≢◌, ◌<◌, ℕ, ◌+◌, ◌^◌, Bool, true, false, ◌||◌, List, [], ◌∷◌, ◌++◌, length, map}
use Rattle.std.proofs.Common.{refl, sym, subst, ◌∙◌, length-append, arith}
use Rattle.std.specs.Prelude.{All, nat_eq}
use Rattle.std.specs.Cmp.Lexicographic.{pointwise}
use Rattle.std.specs.List.{AllByRecursion as Each}
use Rattle.std.proofs.lemmas.List.Elements.{All-from_recursion, recursion_from_All}
use Rattle.std.proofs.lemmas.List.Folds.{list_any-append}
use Rattle.lvm_name.specs.Names.{is_among}
use Rattle.meta_model.specs.declared.group.Group.{Group}
use Rattle.meta_model.specs.declared.lv.Lv.{Lv}
use Rattle.meta_model.specs.declared.pv.Pv.{Pv}
use Rattle.meta_model.specs.Tables.{names_of}
use Rattle.meta_print.proofs.Printable.{IsPrintable, IsPv}
use Rattle.volume_rules.specs.Rules.{FitsDevice, PvIsSmall, ids_of}
use Rattle.group_edits.specs.JoinedGroup.{free_number, joined_group, names_in, pv_name, with_pvs}
use Rattle.group_edits.proofs.FreeNames.{free, names_length, pv_name-named}
use Rattle.list_laws.proofs.Inserted.{each_inserted}
use Rattle.group_edits.proofs.Pushed.{pushed}
use Rattle.group_edits.proofs.PushedPrintable.{printable_pushed}
use Rattle.group_edits.proofs.PushedRules.{IsBase, base_pushed, ids_of-pushed}

-- a group that keeps the rules, but for the number of its physical volumes, and can be printed
pub record IsGood (group : Group) : Type 0 where
  pub base : IsBase group
  pub printable : IsPrintable group

-- its numbers are small, its extents of this size lie on its device, and it can be printed
pub record Fits (extent_size : ℕ) (pv : Pv) : Type 0 where
  pub small : PvIsSmall pv
  pub device : FitsDevice extent_size pv
  pub printable : IsPv pv

-- no id of the group is its
abbrev pub IsFresh : Group → Pv → Type 0
IsFresh group pv = All (λ id. id ≢ pv.id) (ids_of group)

abbrev pub IdApart : Pv → Pv → Type 0
IdApart a b = a.id ≢ b.id

-- no two of them have one
abbrev pub AreApart : List Pv → Type 0
AreApart [] = Unit {0}
AreApart (pv ∷ more) = Each (IdApart pv) more × AreApart more

abbrev new_row : Group → Pv → List ℕ × Pv
new_row group pv = (pv_name (free_number (names_in group.pvs group.lvs)), pv)

-- ---- one

both_false : (a b : Bool) → (a || b) ≡ false → (a ≡ false) × (b ≡ false)
both_false true b none = absurd cc
both_false false b none = (refl, none)

good_pushed : (group : Group) (pv : Pv) → length group.pvs + length group.lvs < 2 ^ 33 → IsGood group → Fits group.extent_size pv
    → IsFresh group pv → IsGood (pushed group (new_row group pv))
good_pushed group pv few good fits fresh =
    let names : List (List ℕ) = names_in group.pvs group.lvs in
    let own = free names (omega (arith, names_length group.pvs group.lvs, few)) in
    let free_both : (is_among (names_of group.pvs) (pv_name (free_number names)) ≡ false)
    × (is_among (names_of group.lvs) (pv_name (free_number names)) ≡ false) =
    both_false _ _ (sym (list_any-append (pointwise nat_eq (pv_name (free_number names))) (names_of group.pvs) (names_of group.lvs))
    ∙ own.1)
    in
    record {
      base = base_pushed group (new_row group pv) good.base (record { small = fits.small; fits = fits.device; fresh = fresh });
      printable =
          printable_pushed group (new_row group pv) good.printable fits.printable
          (pv_name-named (free_number names) (omega (arith, own.0, names_length group.pvs group.lvs, few))) free_both.0 free_both.1;
    }

fresh_pushed : (group : Group) (pv other : Pv) → IsFresh group other → IdApart pv other → IsFresh (pushed group (new_row group pv)) other
fresh_pushed group pv other fresh apart =
    subst (All (λ id. id ≢ other.id)) (sym (ids_of-pushed group (new_row group pv)))
    (All-from_recursion (λ id. id ≢ other.id)
    (group.id ∷ (map (λ (row : List ℕ × Pv). row.1.id) group.pvs ++ pv.id ∷ map (λ (lv : List ℕ × Lv). lv.1.id) group.lvs))
    (each_inserted (λ id. id ≢ other.id) (group.id ∷ map (λ (row : List ℕ × Pv). row.1.id) group.pvs)
    (map (λ (lv : List ℕ × Lv). lv.1.id) group.lvs) pv.id
    (recursion_from_All (λ id. id ≢ other.id) (ids_of group) fresh) apart))

all_fresh_pushed : (group : Group) (pv : Pv) (more : List Pv) → Each (IsFresh group) more → Each (IdApart pv) more
    → Each (IsFresh (pushed group (new_row group pv))) more
all_fresh_pushed group pv [] fresh apart = tt
all_fresh_pushed group pv (other ∷ more) fresh apart =
    (fresh_pushed group pv other fresh.0 apart.0, all_fresh_pushed group pv more fresh.1 apart.1)

-- ---- all of them

pub good_joined : (group : Group) (more : List Pv) → length group.pvs + length group.lvs + length more < 2 ^ 33 → IsGood group
    → Each (Fits group.extent_size) more → Each (IsFresh group) more → AreApart more → IsGood (joined_group group more)
good_joined group [] few good fits fresh apart = good
good_joined group (pv ∷ more) few good fits fresh apart =
    good_joined (pushed group (new_row group pv)) more (omega (arith, few, length-append group.pvs (new_row group pv ∷ [])))
    (good_pushed group pv (omega (arith, few)) good fits.0 fresh.0) fits.1 (all_fresh_pushed group pv more fresh.1 apart.0) apart.1

pub count_joined : (lvs : List (List ℕ × Lv)) (pvs : List (List ℕ × Pv)) (more : List Pv)
    → length (with_pvs lvs pvs more) ≡ length pvs + length more
count_joined lvs pvs [] = omega arith
count_joined lvs pvs (pv ∷ more) =
    count_joined lvs (pvs ++ (pv_name (free_number (names_in pvs lvs)), pv) ∷ []) more
    ∙ omega (arith, length-append pvs ((pv_name (free_number (names_in pvs lvs)), pv) ∷ []))
