-- The groups that vgcreate and vgextend commit.
use Rattle.std.proofs.Common.{◌≡◌, ◌<◌, ℕ, zero, suc, ◌+◌, Bool, true, false, not, ◌||◌, cond, List, [], ◌∷◌, ◌++◌, length, get_or, map}
use Rattle.std.proofs.Common.{Option, Some, None, ⊎_elim, refl, sym, ap, subst, ◌∙◌, add-one, append_assoc, arith}
use Rattle.std.specs.Prelude.{All, option_map, slice_get, unwrap_or}
use Rattle.std.specs.List.{AllByRecursion as Each, list_any}
use Rattle.std.specs.Option.{option_and_then}
use Rattle.std.proofs.lemmas.Bool.{false≢true, true≢false, or_cases, or_left, or_right}
use Rattle.std.proofs.lemmas.List.Elements.{All-append, All-from_recursion, All-map, recursion_from_All}
use Rattle.std.proofs.lemmas.Option.{same_Some}
use Rattle.std.specs.Str.{bytes_eq}
use Rattle.command_table.specs.Options.{number_named}
use Rattle.pv_header.specs.declared.header.PvHeader.{PvHeader}
use Rattle.meta_model.specs.declared.group.Group.{Group}
use Rattle.meta_model.specs.declared.lv.Lv.{Lv}
use Rattle.meta_model.specs.declared.pv.Pv.{Pv}
use Rattle.scan_rules.specs.Decision.{Found as PvOf, has_id}
use Rattle.scan_rules.specs.Found.{is_missing}
use Rattle.scan_rules.proofs.Scanning.{same_bytes_tells, same_bytes_to}
use Rattle.disk_contents.specs.declared.contents.PvFound.{PvFound}
use Rattle.disk_contents.specs.declared.contents.PvFound.TheVariants.{NoLabel, NoHeader, Whole}
use Rattle.vg_found.specs.declared.disk.Disk.{Disk}
use Rattle.vg_found.specs.Disks.{disk_shape, disk_with, disks_of, has_header_id, header_on, pv_shape, shapes}
use Rattle.list_laws.proofs.KeptLists.{all_kept}
use Rattle.group_edits.proofs.Whole.{IsWhole}
use Rattle.group_plan.proofs.Disks.{disk_with_own}
use Rattle.group_plan.specs.Added.{added_at, added_named, added_of, added_on, disks_added, pv_in, pv_of}
use Rattle.group_edits.specs.JoinedGroup.{free_number, names_in, pv_name}
use Rattle.group_plan.specs.NewGroup.{change_with, extended, with_added}
use Rattle.group_plan.specs.State.{IsState}
use Rattle.group_plan.specs.declared.added.AddedPv.{AddedPv}
use Rattle.group_plan.specs.declared.state.GroupState.{GroupState}
use Rattle.image_scans.proofs.CommittedGroup.{IsAddedOn, IsListedOn, MakesGroup}

-- ---- the physical volumes that were found

and_then_some : {X Y : Type 0} (f : X → Option Y) (o : Option X) (y : Y) → option_and_then f o ≡ Some y
    → (x : X) × (o ≡ Some x) × (f x ≡ Some y)
and_then_some f None y is = absurd cc
and_then_some f (Some x) y is = (x, refl, is)

map_some : {X Y : Type 0} (f : X → Y) (o : Option X) (y : Y) → option_map f o ≡ Some y → (x : X) × (o ≡ Some x) × (f x ≡ y)
map_some f None y is = absurd cc
map_some f (Some x) y is = (x, refl, same_Some (f x) y is)

abbrev added_with : List ℕ → ℕ → ℕ → ℕ × PvHeader → AddedPv
added_with name number sectors pv = record { disk = number; name = name; sectors = sectors; label = pv.0; header = pv.1 }

added_is : (state : GroupState) (name : List ℕ) (added : AddedPv) → added_named state name ≡ Some added → IsAddedOn state.disks added
unfolding added_named
added_is state name added found =
    let numbered = and_then_some (added_at state name) (number_named state.names name) added found in
    let disked = and_then_some (added_on name numbered.0) (slice_get state.disks numbered.0) added numbered.2 in
    let headed = map_some (added_with name numbered.0 disked.0.sectors) (option_and_then pv_in disked.0.contents) added disked.2 in
    subst (IsAddedOn state.disks) headed.2 (record { disk = disked.0; there = disked.1; found = headed.1 })

all_on : (state : GroupState) (names : List (List ℕ)) → All (IsAddedOn state.disks) (added_of state names)
all_on state names =
    all_kept (IsAddedOn state.disks) (λ name. Unit {0}) (added_named state) (λ name added any found. added_is state name added found) names
    (λ k d within. tt)

header_in_pv : (found : PvFound) (label : ℕ) (header : PvHeader) → pv_in found ≡ Some (label, header) → header_on (Some found) ≡ Some header
header_in_pv (NoLabel refusal) label header is = absurd cc
header_in_pv (NoHeader other refusal) label header is = absurd cc
header_in_pv (Whole other own areas) label header is = ap (λ (o : Option (ℕ × PvHeader)). option_map (λ (p : ℕ × PvHeader). p.1) o) is

header_of : (contents : Option PvFound) (label : ℕ) (header : PvHeader) → option_and_then pv_in contents ≡ Some (label, header)
    → header_on contents ≡ Some header
header_of None label header is = absurd cc
header_of (Some found) label header is = header_in_pv found label header is

-- ---- lists

any_here : {X : Type 0} (p : X → Bool) (xs : List X) (k : ℕ) (d : X) → k < length xs → p (get_or xs k d) ≡ true → list_any p xs ≡ true
any_here p [] k d within is = absurd (omega (arith, within))
any_here p (x ∷ xs) zero d within is = or_left (p x) (list_any p xs) is
any_here p (x ∷ xs) (suc k) d within is = or_right (p x) (list_any p xs) (any_here p xs k d (omega (arith, within)) is)

any_front : {X : Type 0} (p : X → Bool) (xs ys : List X) → list_any p xs ≡ true → list_any p (xs ++ ys) ≡ true
any_front p [] ys any = absurd (false≢true any)
any_front p (x ∷ xs) ys any =
    ⊎_elim (λ here. or_left (p x) (list_any p (xs ++ ys)) here) (λ later. or_right (p x) (list_any p (xs ++ ys)) (any_front p xs ys later))
    (or_cases (p x) (list_any p xs) any)

any_last : {X : Type 0} (p : X → Bool) (xs : List X) (x : X) → p x ≡ true → list_any p (xs ++ x ∷ []) ≡ true
any_last p [] x is = or_left (p x) false is
any_last p (y ∷ xs) x is = or_right (p y) (list_any p (xs ++ x ∷ [])) (any_last p xs x is)

each_last : {X : Type 0} (P : X → Type 0) (xs : List X) (x : X) → Each P xs → P x → Each P (xs ++ x ∷ [])
each_last P [] x all is = (is, tt)
each_last P (y ∷ xs) x all is = (all.0, each_last P xs x all.1 is)

map_last : {X Y : Type 0} (f : X → Y) (xs : List X) (x : X) → map f (xs ++ x ∷ []) ≡ map f xs ++ f x ∷ []
map_last f [] x = refl
map_last f (y ∷ xs) x = ap (λ l. f y ∷ l) (map_last f xs x)

-- ---- disks with ids

pub has_same : (id : List ℕ) (o : Option PvHeader)
    → unwrap_or (option_map (λ (pv : PvOf). bytes_eq pv.id id) (option_map pv_shape o)) false
    ≡ unwrap_or (option_map (λ (h : PvHeader). bytes_eq h.id id) o) false
has_same id None = refl
has_same id (Some header) = refl

-- the disk that is found by an id
pub record HasDisk (disks : List Disk) (id : List ℕ) : Type 0 where
  pub disk : Disk
  pub there : slice_get disks (disk_with disks id) ≡ Some disk
  pub header : PvHeader
  pub is : header_on disk.contents ≡ Some header
  pub same : header.id ≡ id

own_header : (id : List ℕ) (o : Option PvHeader) → unwrap_or (option_map (λ (h : PvHeader). bytes_eq h.id id) o) false ≡ true
    → (header : PvHeader) × (o ≡ Some header) × (header.id ≡ id)
own_header id None is = absurd (false≢true is)
own_header id (Some header) is = (header, refl, same_bytes_tells header.id id is)

pub disk_found : (id : List ℕ) (disks : List Disk) → list_any (has_id id) (shapes disks) ≡ true → HasDisk disks id
disk_found id [] any = absurd (false≢true any)
disk_found id (disk ∷ disks) any = step (λ later. disk_found id disks later) (has_header_id id disk) refl
  where
    step : (list_any (has_id id) (shapes disks) ≡ true → HasDisk disks id) → (b : Bool) → has_header_id id disk ≡ b
        → HasDisk (disk ∷ disks) id
    step rest true here =
        let own = own_header id (header_on disk.contents) here in
        record {
          disk = disk;
          there = ap (λ (b : Bool). slice_get (disk ∷ disks) (cond b 0 (disk_with disks id + 1))) here;
          header = own.0;
          is = own.1;
          same = own.2;
        }
    step rest false here =
        let later : list_any (has_id id) (shapes disks) ≡ true =
        ⊎_elim
        (λ first. absurd (true≢false (sym first ∙ has_same id (header_on disk.contents) ∙ here)))
        (λ any'. any')
        (or_cases (has_id id (disk_shape disk)) (list_any (has_id id) (shapes disks)) any)
        in
        let r : HasDisk disks id = rest later in
        record {
          disk = r.disk;
          there =
              ap (λ (b : Bool). slice_get (disk ∷ disks) (cond b 0 (disk_with disks id + 1))) here
              ∙ ap (slice_get (disk ∷ disks)) (add-one (disk_with disks id)) ∙ r.there;
          header = r.header;
          is = r.is;
          same = r.same;
        }

shape_at : (disks : List Disk) (k : ℕ) (disk : Disk) (header : PvHeader) → slice_get disks k ≡ Some disk
    → header_on disk.contents ≡ Some header → list_any (has_id header.id) (shapes disks) ≡ true
shape_at [] k disk header there is = absurd cc
shape_at (first ∷ disks) zero disk header there is =
    or_left (has_id header.id (disk_shape first)) (list_any (has_id header.id) (shapes disks))
    (has_same header.id (header_on first.contents)
    ∙ ap (λ (o : Option PvHeader). unwrap_or (option_map (λ (h : PvHeader). bytes_eq h.id header.id) o) false)
    (ap (λ (d : Disk). header_on d.contents) (same_Some first disk there) ∙ is)
    ∙ same_bytes_to header.id header.id refl)
shape_at (first ∷ disks) (suc k) disk header there is =
    or_right (has_id header.id (disk_shape first)) (list_any (has_id header.id) (shapes disks)) (shape_at disks k disk header there is)

-- ---- the physical volumes with more

module _ (lvs : List (List ℕ × Lv)) (extent_size : ℕ) where
  abbrev row : List (List ℕ × Pv) → AddedPv → List ℕ × Pv
  row pvs added = (pv_name (free_number (names_in pvs lvs)), pv_of extent_size added)

  any_added : (p : List ℕ × Pv → Bool) (pvs : List (List ℕ × Pv)) (all : List AddedPv) → list_any p pvs ≡ true
      → list_any p (with_added lvs extent_size pvs all) ≡ true
  any_added p pvs [] any = any
  any_added p pvs (added ∷ more) any = any_added p (pvs ++ row pvs added ∷ []) more (any_front p pvs (row pvs added ∷ []) any)

  all_listed : (pvs : List (List ℕ × Pv)) (all : List AddedPv)
      → Each (λ (added : AddedPv). list_any (λ (pv : List ℕ × Pv). bytes_eq pv.1.id added.header.id) (with_added lvs extent_size pvs all)
      ≡ true) all
  all_listed pvs [] = tt
  all_listed pvs (added ∷ more) = (
    any_added (λ (pv : List ℕ × Pv). bytes_eq pv.1.id added.header.id) (pvs ++ row pvs added ∷ []) more
        (any_last (λ (pv : List ℕ × Pv). bytes_eq pv.1.id added.header.id) pvs (row pvs added)
        (same_bytes_to added.header.id added.header.id refl)),
    all_listed (pvs ++ row pvs added ∷ []) more,
  )

  each_with : (P : List ℕ × Pv → Type 0) (pvs : List (List ℕ × Pv)) (all : List AddedPv) → Each P pvs
      → Each (λ (added : AddedPv). (name : List ℕ) → P (name, pv_of extent_size added)) all → Each P (with_added lvs extent_size pvs all)
  each_with P pvs [] first later = first
  each_with P pvs (added ∷ more) first later =
      each_with P (pvs ++ row pvs added ∷ []) more
      (each_last P pvs (row pvs added) first (later.0 (pv_name (free_number (names_in pvs lvs))))) later.1

  disks_with : (disks : List Disk) (pvs : List (List ℕ × Pv)) (all : List AddedPv)
      → Each (λ (added : AddedPv). disk_with disks added.header.id ≡ added.disk) all
      → map (λ (pv : List ℕ × Pv). disk_with disks pv.1.id) (with_added lvs extent_size pvs all)
      ≡ map (λ (pv : List ℕ × Pv). disk_with disks pv.1.id) pvs ++ disks_added all
  disks_with disks pvs [] own = sym (append_nil (map (λ (pv : List ℕ × Pv). disk_with disks pv.1.id) pvs))
    where
      append_nil : (l : List ℕ) → l ++ [] ≡ l
      append_nil [] = refl
      append_nil (x ∷ l) = ap (λ m. x ∷ m) (append_nil l)
  disks_with disks pvs (added ∷ more) own =
      let f : List ℕ × Pv → ℕ = λ pv. disk_with disks pv.1.id in
      disks_with disks (pvs ++ row pvs added ∷ []) more own.1
      ∙ ap (λ l. l ++ disks_added more) (map_last f pvs (row pvs added) ∙ ap (λ n. map f pvs ++ n ∷ []) own.0)
      ∙ append_assoc (map f pvs) (added.disk ∷ []) (disks_added more)

-- ---- the change

-- what is known of the group that is extended
pub record IsBaseOf (state : GroupState) (base : Group) (listed : List ℕ) : Type 0 where
  pub disks_is : disks_of base state.disks ≡ listed
  pub there : Each (λ (pv : List ℕ × Pv). is_missing (shapes state.disks) pv ≡ false) base.pvs

pub not_missing : (state : GroupState) (pv : List ℕ × Pv) (missing any : Bool) → pv.1.missing ≡ missing
    → list_any (has_id pv.1.id) (shapes state.disks) ≡ any → is_missing (shapes state.disks) pv ≡ false → any ≡ true
not_missing state pv missing true m a is = refl
not_missing state pv true false m a is =
    absurd (true≢false (sym (ap (λ (b : Bool). b || not (list_any (has_id pv.1.id) (shapes state.disks))) m) ∙ is))
not_missing state pv false false m a is =
    absurd (true≢false (sym (ap (λ (b : Bool). b || not (list_any (has_id pv.1.id) (shapes state.disks))) m ∙ ap not a) ∙ is))

pub makes_group : (state : GroupState) → IsState state → (base : Group) (listed : List ℕ) (names : List (List ℕ))
    → IsBaseOf state base listed → IsWhole (extended base (added_of state names))
    → MakesGroup state (change_with base listed (added_of state names)) (extended base (added_of state names))
unfolding extended
makes_group state is base listed names known whole =
    let all : List AddedPv = added_of state names in
    let on : All (IsAddedOn state.disks) all = all_on state names in
    let own : Each (λ (added : AddedPv). disk_with state.disks added.header.id ≡ added.disk) all =
    recursion_from_All (λ (added : AddedPv). disk_with state.disks added.header.id ≡ added.disk) all
    (λ k d within.
    let o : IsAddedOn state.disks (get_or all k d) = on k d within in
    disk_with_own 0 state.disks is.differ (get_or all k d).disk o.disk (get_or all k d).header o.there
    (header_of o.disk.contents (get_or all k d).label (get_or all k d).header o.found))
    in
    record {
      made = refl;
      whole = whole;
      first = listed;
      all = all;
      labels_is = refl;
      disk_of_is = refl;
      on = on;
      listed =
          All-append (IsListedOn (extended base all) state.disks) listed (disks_added all)
          (subst (All (IsListedOn (extended base all) state.disks)) known.disks_is
          (All-map (IsListedOn (extended base all) state.disks) (λ (pv : List ℕ × Pv). disk_with state.disks pv.1.id) base.pvs
          (λ k d within. listed_one all k d within)))
          (All-map (IsListedOn (extended base all) state.disks) (λ (added : AddedPv). added.disk) all
          (λ k d within.
          let o : IsAddedOn state.disks (get_or all k d) = on k d within in
          record {
            disk = o.disk;
            there = o.there;
            header = (get_or all k d).header;
            is = header_of o.disk.contents (get_or all k d).label (get_or all k d).header o.found;
            listed =
                All-from_recursion (λ (added : AddedPv). list_any (λ (pv : List ℕ × Pv). bytes_eq pv.1.id added.header.id)
                (with_added base.lvs base.extent_size base.pvs all) ≡ true) all (all_listed base.lvs base.extent_size base.pvs all) k d
                within;
          }));
      disks_is = disks_with base.lvs base.extent_size state.disks base.pvs all own ∙ ap (λ l. l ++ disks_added all) known.disks_is;
      there =
          each_with base.lvs base.extent_size (λ (pv : List ℕ × Pv). is_missing (shapes state.disks) pv ≡ false) base.pvs all known.there
          (recursion_from_All (λ (added : AddedPv). (name : List ℕ)
          → is_missing (shapes state.disks) (name, pv_of base.extent_size added) ≡ false) all
          (λ k d within name.
          let o : IsAddedOn state.disks (get_or all k d) = on k d within in
          ap not (shape_at state.disks (get_or all k d).disk o.disk (get_or all k d).header o.there
          (header_of o.disk.contents (get_or all k d).label (get_or all k d).header o.found))));
    }
  where
    listed_one : (all : List AddedPv) (k : ℕ) (d : List ℕ × Pv) → k < length base.pvs
        → IsListedOn (record base { pvs = with_added base.lvs base.extent_size base.pvs all }) state.disks
        (disk_with state.disks (get_or base.pvs k d).1.id)
    listed_one all k d within =
        let pv : List ℕ × Pv = get_or base.pvs k d in
        let present : is_missing (shapes state.disks) pv ≡ false =
        All-from_recursion (λ (p : List ℕ × Pv). is_missing (shapes state.disks) p ≡ false) base.pvs known.there k d within in
        let any : list_any (has_id pv.1.id) (shapes state.disks) ≡ true =
        not_missing state pv pv.1.missing (list_any (has_id pv.1.id) (shapes state.disks)) refl refl present in
        let found : HasDisk state.disks pv.1.id = disk_found pv.1.id state.disks any in
        record {
          disk = found.disk;
          there = found.there;
          header = found.header;
          is = found.is;
          listed =
              any_added base.lvs base.extent_size (λ (p : List ℕ × Pv). bytes_eq p.1.id found.header.id) base.pvs all
              (any_here (λ (p : List ℕ × Pv). bytes_eq p.1.id found.header.id) base.pvs k d within
              (same_bytes_to pv.1.id found.header.id (sym found.same)));
        }
