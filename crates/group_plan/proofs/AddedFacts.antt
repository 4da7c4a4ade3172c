-- What is known of the physical volumes that a line adds.
use Rattle.std.proofs.Common.{◌≡◌, ◌<◌, ℕ, ◌+◌, ◌*◌, Bool, true, false, cond, List, [], ◌∷◌, length, Option, Some, None, refl, sym, ap}
use Rattle.std.proofs.Common.{subst, arith}
use Rattle.std.specs.Prelude.{All, option_map, slice_get}
use Rattle.std.specs.Option.{option_and_then}
use Rattle.std.specs.Str.{bytes_eq}
use Rattle.std.specs.Cmp.Lexicographic.{same_text}
use Rattle.std.proofs.lemmas.List.Elements.{All-head, All-tail, All-weaker}
use Rattle.std.proofs.lemmas.Option.{same_Some, slice_get_within}
use Rattle.lvm_id.specs.LvmId.{IsId}
use Rattle.command_table.specs.Options.{number_named}
use Rattle.command_table.specs.Values.{is_disk_name}
use Rattle.pv_header.specs.Areas.{CanLie}
use Rattle.pv_header.specs.declared.header.PvHeader.{PvHeader}
use Rattle.conf_text.specs.Grammar.{IsContent}
use Rattle.disk_contents.specs.declared.contents.PvFound.{PvFound}
use Rattle.disk_contents.specs.declared.contents.PvFound.TheVariants.{NoLabel, NoHeader, Whole}
use Rattle.list_laws.proofs.KeptLists.{all_kept}
use Rattle.vg_found.specs.declared.disk.Disk.{Disk}
use Rattle.vg_found.specs.Disks.{header_on}
use Rattle.vg_found.specs.Shape.{ContentsCanStand, IsDisk}
use Rattle.group_plan.proofs.Contents.{disk_name-content}
use Rattle.group_plan.proofs.DataPlaces.{data_ends, data_starts}
use Rattle.group_plan.proofs.Disks.{HasHeader}
use Rattle.group_plan.specs.Added.{IsAdded, added_at, added_named, added_of, added_on, pv_in}
use Rattle.group_plan.specs.State.{IsState}
use Rattle.group_plan.specs.declared.added.AddedPv.{AddedPv}
use Rattle.group_plan.specs.declared.state.GroupState.{GroupState}

-- it is on one of the disks, as it was found there, and its name and id can be printed
pub record IsFoundOn (state : GroupState) (added : AddedPv) : Type 0 where
  pub is : IsAdded added
  pub has : HasHeader state.disks added.disk added.header
  pub sectors : added.sectors ≡ has.disk.sectors
  pub lie : CanLie added.header.data_areas added.header.areas (added.sectors * 512)
  pub id : IsId added.header.id
  pub content : IsContent added.name

-- ---- options

and_then_some : {X Y : Type 0} (f : X → Option Y) (o : Option X) (y : Y) → option_and_then f o ≡ Some y
    → (x : X) × (o ≡ Some x) × (f x ≡ Some y)
and_then_some f None y is = absurd cc
and_then_some f (Some x) y is = (x, refl, is)

map_some : {X Y : Type 0} (f : X → Y) (o : Option X) (y : Y) → option_map f o ≡ Some y → (x : X) × (o ≡ Some x) × (f x ≡ y)
map_some f None y is = absurd cc
map_some f (Some x) y is = (x, refl, same_Some (f x) y is)

-- ---- what stands on its disk

-- the label, the header and its areas are well
record IsWell (sectors : ℕ) (contents : Option PvFound) (header : PvHeader) : Type 0 where
  is : header_on contents ≡ Some header
  id : IsId header.id
  lie : CanLie header.data_areas header.areas (sectors * 512)

well_by : (pv sectors : ℕ) (found : PvFound) (label : ℕ) (header : PvHeader) → ContentsCanStand pv sectors (Some found)
    → pv_in found ≡ Some (label, header) → IsWell sectors (Some found) header
well_by pv sectors (NoLabel refusal) label header stands is = absurd cc
well_by pv sectors (NoHeader other refusal) label header stands is = absurd cc
well_by pv sectors (Whole other own areas) label header stands is =
    let same : own ≡ header = ap (λ (pair : ℕ × PvHeader). pair.1) (same_Some (other, own) (label, header) is) in
    subst (IsWell sectors (Some (Whole other own areas))) same
    (record { is = refl; id = stands.1.1.fields.id_valid; lie = stands.1.1.areas })

well : (pv sectors : ℕ) (contents : Option PvFound) (label : ℕ) (header : PvHeader) → ContentsCanStand pv sectors contents
    → option_and_then pv_in contents ≡ Some (label, header) → IsWell sectors contents header
well pv sectors None label header stands is = absurd cc
well pv sectors (Some found) label header stands is = well_by pv sectors found label header stands is

-- ---- its name

named_by : (first : List ℕ) (names : List (List ℕ)) (name : List ℕ) (number : ℕ) (b : Bool) (o : Option ℕ) → bytes_eq first name ≡ b
    → is_disk_name first ≡ true → ((n : ℕ) → o ≡ Some n → is_disk_name name ≡ true)
    → cond b (Some 0) (option_map (λ (n : ℕ). n + 1) o) ≡ Some number → is_disk_name name ≡ true
named_by first names name number true o same here later is =
    subst (λ (l : List ℕ). is_disk_name l ≡ true) (same_text first name (sym same)) here
named_by first names name number false None same here later is = absurd cc
named_by first names name number false (Some n) same here later is = later n refl

named_disk : (names : List (List ℕ)) (name : List ℕ) (number : ℕ) → number_named names name ≡ Some number
    → All (λ n. is_disk_name n ≡ true) names → is_disk_name name ≡ true
unfolding number_named
named_disk [] name number is all = absurd cc
named_disk (first ∷ names) name number is all =
    named_by first names name number (bytes_eq first name) (number_named names name) refl
    (All-head (λ n. is_disk_name n ≡ true) first names all)
    (λ n found. named_disk names name n found (All-tail (λ n. is_disk_name n ≡ true) first names all)) is

-- ---- one of them

abbrev added_with : List ℕ → ℕ → ℕ → ℕ × PvHeader → AddedPv
added_with name number sectors pv = record { disk = number; name = name; sectors = sectors; label = pv.0; header = pv.1 }

found_with : (state : GroupState) → IsState state → (name : List ℕ) (number : ℕ) (disk : Disk) (label : ℕ) (header : PvHeader)
    → is_disk_name name ≡ true → slice_get state.disks number ≡ Some disk
    → option_and_then pv_in disk.contents ≡ Some (label, header) → IsFoundOn state (added_with name number disk.sectors (label, header))
found_with state is name number disk label header named there stands =
    let whole : IsDisk number disk = is.disks number disk there in
    let good : IsWell disk.sectors disk.contents header = well number disk.sectors disk.contents label header whole.contents stands in
    let within : number < length state.disks = slice_get_within state.disks number disk there in
    record {
      is = record {
        disk_below = omega (arith, within, is.few);
        most = whole.most;
        starts = data_starts header.data_areas header.areas disk.sectors whole.least good.lie;
        ends = data_ends header.data_areas header.areas disk.sectors good.lie;
      };
      has = record { disk = disk; there = there; is = good.is };
      sectors = refl;
      lie = good.lie;
      id = good.id;
      content = disk_name-content name named;
    }

found_on : (state : GroupState) → IsState state → (name : List ℕ) (added : AddedPv) → added_named state name ≡ Some added
    → IsFoundOn state added
unfolding added_named
found_on state is name added found =
    let numbered = and_then_some (added_at state name) (number_named state.names name) added found in
    let disked = and_then_some (added_on name numbered.0) (slice_get state.disks numbered.0) added numbered.2 in
    let headed = map_some (added_with name numbered.0 disked.0.sectors) (option_and_then pv_in disked.0.contents) added disked.2 in
    subst (IsFoundOn state) headed.2 (found_with state is name numbered.0 disked.0 headed.0.0 headed.0.1
    (named_disk state.names name numbered.0 numbered.1 is.names) disked.1 headed.1)

-- all of them
pub all_found : (state : GroupState) → IsState state → (names : List (List ℕ)) → All (IsFoundOn state) (added_of state names)
all_found state is names =
    all_kept (IsFoundOn state) (λ name. Unit {0}) (added_named state) (λ name added any found. found_on state is name added found) names
    (λ k d within. tt)

pub all_added : (state : GroupState) → IsState state → (names : List (List ℕ)) → All IsAdded (added_of state names)
all_added state is names = All-weaker (IsFoundOn state) IsAdded (λ added found. found.is) (added_of state names) (all_found state is names)
