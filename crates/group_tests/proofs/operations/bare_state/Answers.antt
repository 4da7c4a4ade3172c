-- The state has one disk, on which a label can stand.
use Rattle.std.proofs.Common.{◌≡◌, ◌<◌, ℕ, zero, suc, true, List, [], ◌∷◌, Option, Some, None, refl, sym, ap, subst, ◌∙◌, arith}
use Rattle.std.specs.Prelude.{codes, slice_get}
use Rattle.std.proofs.lemmas.List.Elements.{All-from_recursion}
use Rattle.std.proofs.lemmas.Option.{same_Some, slice_get_within}
use Rattle.command_table.specs.Values.{is_disk_name}
use Rattle.pv_header.specs.declared.refusal.PvRefusal.TheVariants.{ListUnended}
use Rattle.mda_header.specs.declared.header.Locn.{Locn}
use Rattle.mda_ring.specs.declared.area.Area.{Area}
use Rattle.disk_contents.specs.declared.contents.PvFound.TheVariants.{NoHeader}
use Rattle.vg_found.specs.declared.disk.Disk.{Disk}
use Rattle.vg_found.specs.Disks.{held_areas}
use Rattle.vg_found.specs.Shape.{IsDisk}
use Rattle.group_plan.specs.State.{IsState}
use Rattle.group_tests.proofs.operations.bare_state.Goals as goal

abbrev bare : Disk
bare = record { sectors = 2056; contents = Some (NoHeader 3 (ListUnended 1)) }

abbrev names : List (List ℕ)
names = codes "c" ∷ []

is_disk : (pv : ℕ) → IsDisk pv bare
is_disk pv = record { least = omega arith; most = omega arith; contents = omega arith }

each : (pv : ℕ) (disk : Disk) → slice_get (bare ∷ []) pv ≡ Some disk → IsDisk pv disk
each zero disk there = subst (IsDisk zero) (same_Some bare disk there) (is_disk zero)
each (suc pv) disk there = let within : suc pv < 1 = slice_get_within (bare ∷ []) (suc pv) disk there in absurd (omega (arith, within))

state : (disk_of : List ℕ)
    → IsState (record {
      group = None;
      disks = bare ∷ [];
      names = names;
      areas = held_areas 0 (bare ∷ []);
      disk_of = disk_of;
      backup = None;
    })
state disk_of = record {
  few = omega arith;
  disks = each;
  differ = refl;
  named = refl;
  names = All-from_recursion (λ name. is_disk_name name ≡ true) names (refl, tt);
  areas = refl;
  disk_of = tt;
  there = tt;
  placed = tt;
}

-- the same of lists that were made
state_with : (disks : List Disk) (texts : List (List ℕ)) (areas : List (Area × Option Locn)) (disk_of : List ℕ)
    → disks ≡ bare ∷ [] → texts ≡ names → areas ≡ held_areas 0 disks
    → IsState (record { group = None; disks = disks; names = texts; areas = areas; disk_of = disk_of; backup = None })
state_with disks texts areas disk_of are_disks are_texts are_areas =
    subst (λ (l : List Disk). IsState (record { group = None; disks = l; names = texts; areas = areas; disk_of = disk_of; backup = None }))
    (sym are_disks)
    (subst (λ (t : List (List ℕ)). IsState (record {
      group = None;
      disks = bare ∷ [];
      names = t;
      areas = areas;
      disk_of = disk_of;
      backup = None;
    }))
    (sym are_texts)
    (subst (λ (a : List (Area × Option Locn)). IsState
    (record { group = None; disks = bare ∷ []; names = names; areas = a; disk_of = disk_of; backup = None }))
    (sym (are_areas ∙ ap (held_areas 0) are_disks))
    (state disk_of)))

pub returns : goal.returns
returns c =
    state_with c.from_vec.result c.in_ok-names.names c.in_ok-areas.areas c.from_vec-2.result
    (c.from_vec.ensures ∙ c.in_ok-disks.ensures.items)
    c.in_ok-names.ensures
    (c.in_ok-areas.ensures ∙ ap (held_areas 0) (c.deref.ensures.value ∙ sym c.from_vec.ensures))
