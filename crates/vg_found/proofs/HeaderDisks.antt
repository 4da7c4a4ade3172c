-- The disks of physical volumes that are there.
use Rattle.std.proofs.Common.{◌≡◌, ◌<◌, ℕ, zero, suc, ◌+◌, Bool, true, false, not, ◌||◌, cond, List, [], ◌∷◌, length, map, Option, Some}
use Rattle.std.proofs.Common.{None, refl, sym, ap, ◌∙◌, add-one, arith}
use Rattle.std.specs.Prelude.{filter, option_map, slice_get, unwrap_or}
use Rattle.std.specs.List.{list_any}
use Rattle.std.proofs.lemmas.Bool.{false≢true}
use Rattle.std.proofs.lemmas.Option.{same_Some, slice_get-map}
use Rattle.std.specs.Str.{bytes_eq}
use Rattle.meta_model.specs.declared.group.Group.{Group}
use Rattle.meta_model.specs.declared.pv.Pv.{Pv}
use Rattle.pv_header.specs.declared.header.PvHeader.{PvHeader}
use Rattle.scan_rules.specs.Decision.{has_id}
use Rattle.scan_rules.specs.Found.{is_missing, missing_of}
use Rattle.scan_rules.proofs.Scanning.{same_bytes_tells}
use Rattle.vg_found.specs.declared.disk.Disk.{Disk}
use Rattle.vg_found.specs.Disks.{disk_with, disks_of, has_header_id, header_on, pv_shape, shapes}
use Rattle.vg_found.specs.Laws.{HasHeader}

-- a disk that has the id in its shape has it in its header
shape_has : (id : List ℕ) (header : Option PvHeader)
    → unwrap_or (option_map (λ pv. bytes_eq pv.id id) (option_map pv_shape header)) false
    ≡ unwrap_or (option_map (λ (h : PvHeader). bytes_eq h.id id) header) false
shape_has id None = refl
shape_has id (Some header) = refl

header_with : (id : List ℕ) (o : Option PvHeader) → unwrap_or (option_map (λ (h : PvHeader). bytes_eq h.id id) o) false ≡ true
    → (header : PvHeader) × (o ≡ Some header) × (header.id ≡ id)
header_with id None has = absurd (false≢true has)
header_with id (Some header) has = (header, refl, same_bytes_tells header.id id has)

-- the first disk with the id, where one has it
abbrev IsThere : List Disk → List ℕ → Type 0
IsThere disks id =
    (disk : Disk) × (disk_with disks id < length disks) × (slice_get disks (disk_with disks id) ≡ Some disk) × HasHeader disk id

abbrev number_if : Bool → List Disk → List ℕ → ℕ
number_if here disks id = cond here 0 (disk_with disks id + 1)

here_or_later : (id : List ℕ) (disk : Disk) (disks : List Disk) (here : Bool) → has_header_id id disk ≡ here
    → (list_any (has_id id) (shapes disks) ≡ true → IsThere disks id)
    → (here || list_any (has_id id) (shapes disks)) ≡ true
    → (d : Disk) × (number_if here disks id < length (disk ∷ disks)) × (slice_get (disk ∷ disks) (number_if here disks id) ≡ Some d)
    × HasHeader d id
here_or_later id disk disks true is later any = (disk, omega arith, refl, header_with id (header_on disk.contents) is)
here_or_later id disk disks false is later any =
    let found : IsThere disks id = later any in
    (found.0, omega (arith, found.1), ap (slice_get (disk ∷ disks)) (add-one (disk_with disks id)) ∙ found.2, found.3)

is_there : (id : List ℕ) (disks : List Disk) → list_any (has_id id) (shapes disks) ≡ true → IsThere disks id
is_there id [] any = absurd (false≢true any)
is_there id (disk ∷ disks) any =
    here_or_later id disk disks (has_header_id id disk) refl (is_there id disks)
    (ap (λ (b : Bool). b || list_any (has_id id) (shapes disks)) (sym (shape_has id (header_on disk.contents))) ∙ any)

-- no physical volume is missing where none is named so
not_first : (p : List ℕ × Pv → Bool) (first : List ℕ × Pv) (pvs : List (List ℕ × Pv)) (b : Bool)
    → map (λ (pv : List ℕ × Pv). pv.1.id) (cond b (first ∷ filter p pvs) (filter p pvs)) ≡ []
    → (b ≡ false) × (map (λ (pv : List ℕ × Pv). pv.1.id) (filter p pvs) ≡ [])
not_first p first pvs true none = absurd cc
not_first p first pvs false none = (refl, none)

none_kept : (p : List ℕ × Pv → Bool) (pvs : List (List ℕ × Pv)) → map (λ (pv : List ℕ × Pv). pv.1.id) (filter p pvs) ≡ []
    → (i : ℕ) (pv : List ℕ × Pv) → slice_get pvs i ≡ Some pv → p pv ≡ false
none_kept p [] none i pv is = absurd cc
none_kept p (first ∷ pvs) none zero pv is = ap p (sym (same_Some first pv is)) ∙ (not_first p first pvs (p first) none).0
none_kept p (first ∷ pvs) none (suc i) pv is = none_kept p pvs (not_first p first pvs (p first) none).1 i pv is

not_missing : (away any : Bool) → (away || not any) ≡ false → any ≡ true
not_missing true any is = absurd (false≢true (sym is))
not_missing false true is = refl
not_missing false false is = absurd (false≢true (sym is))

pub there : (disks : List Disk) (group : Group) → missing_of (shapes disks) group.pvs ≡ [] → (i : ℕ) (pv : List ℕ × Pv)
    → slice_get group.pvs i ≡ Some pv
    → (number : ℕ) × (disk : Disk) × (slice_get (disks_of group disks) i ≡ Some number) × (number < length disks)
    × (slice_get disks number ≡ Some disk) × HasHeader disk pv.1.id
there disks group none i pv is =
    let any : list_any (has_id pv.1.id) (shapes disks) ≡ true =
    not_missing pv.1.missing (list_any (has_id pv.1.id) (shapes disks)) (none_kept (is_missing (shapes disks)) group.pvs none i pv is)
    in
    let found : IsThere disks pv.1.id = is_there pv.1.id disks any in
    let entry : slice_get (disks_of group disks) i ≡ Some (disk_with disks pv.1.id) =
    slice_get-map (λ (p : List ℕ × Pv). disk_with disks p.1.id) group.pvs i
    ∙ ap (option_map (λ (p : List ℕ × Pv). disk_with disks p.1.id)) is
    in
    (disk_with disks pv.1.id, found.0, entry, found.1, found.2, found.3)
