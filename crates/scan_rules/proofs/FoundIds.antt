-- The disks of ids that were found.
use Rattle.std.proofs.Common.{◌≡◌, ℕ, ◌+◌, Bool, true, false, not, ◌||◌, cond, List, [], ◌∷◌, Option, Some, None, refl, sym, ap, ◌∙◌}
use Rattle.std.specs.Prelude.{filter, find, is_some, map, option_map, unwrap_or}
use Rattle.std.specs.Cmp.Lexicographic.{nat_list_cmp_total, slice_cmp, texts_ties}
use Rattle.std.specs.FinMap as map
use Rattle.std.specs.FinMap.{get-empty, get-insert}
use Rattle.std.specs.List.{list_any}
use Rattle.std.specs.Ordering.{nat_cmp}
use Rattle.std.specs.Str.{bytes_eq}
use Rattle.id_index.proofs.Found.{get_put}
use Rattle.meta_model.specs.declared.pv.Pv.{Pv}
use Rattle.scan_rules.specs.Decision.{Found, Reading, has_id, ids_from, first_duplicate}
use Rattle.scan_rules.specs.Found.{disks_by_id, missing_by, missing_of}

-- the number at an id is that of the first disk with it
pub disk_with : (id : List ℕ) (ids : List (ℕ × List ℕ))
    → map.get (disks_by_id ids) id ≡ option_map (λ (other : ℕ × List ℕ). other.0) (find (λ (other : ℕ × List ℕ). bytes_eq id other.1) ids)
disk_with id [] = get-empty (slice_cmp nat_cmp) id
disk_with id (one ∷ more) =
    get-insert nat_list_cmp_total (disks_by_id more) one.1 one.0 id
    ∙ ap (λ (b : Bool). cond b (Some one.0) (map.get (disks_by_id more) id)) (sym (texts_ties id one.1))
    ∙ by (bytes_eq id one.1) (disk_with id more)
  where
    by : (b : Bool) → map.get (disks_by_id more) id
        ≡ option_map (λ (other : ℕ × List ℕ). other.0) (find (λ (other : ℕ × List ℕ). bytes_eq id other.1) more)
        → cond b (Some one.0) (map.get (disks_by_id more) id)
        ≡ option_map (λ (other : ℕ × List ℕ). other.0) (cond b (Some one) (find (λ (other : ℕ × List ℕ). bytes_eq id other.1) more))
    by true later = refl
    by false later = later

-- one that comes again behind an id, or what comes again behind that
pub repeats_with : (one : ℕ × List ℕ) (more : List (ℕ × List ℕ)) (other : ℕ) → map.get (disks_by_id more) one.1 ≡ Some other
    → Some (one.0, other) ≡ first_duplicate (one ∷ more)
repeats_with one more other is = of (find (λ (d : ℕ × List ℕ). bytes_eq one.1 d.1) more) (sym is ∙ disk_with one.1 more) where
  of : (o : Option (ℕ × List ℕ)) → Some other ≡ option_map (λ (d : ℕ × List ℕ). d.0) o
      → Some (one.0, other) ≡ unwrap_or (option_map (λ (d : ℕ × List ℕ). Some (one.0, d.0)) o) (first_duplicate more)
  of None at = cc
  of (Some d) at = ap (option_map (λ (n : ℕ). (one.0, n))) at

pub repeats_later : (one : ℕ × List ℕ) (more : List (ℕ × List ℕ)) → map.get (disks_by_id more) one.1 ≡ None
    → first_duplicate more ≡ first_duplicate (one ∷ more)
repeats_later one more is = of (find (λ (d : ℕ × List ℕ). bytes_eq one.1 d.1) more) (sym is ∙ disk_with one.1 more) where
  of : (o : Option (ℕ × List ℕ)) → None ≡ option_map (λ (d : ℕ × List ℕ). d.0) o
      → first_duplicate more ≡ unwrap_or (option_map (λ (d : ℕ × List ℕ). Some (one.0, d.0)) o) (first_duplicate more)
  of None at = refl
  of (Some d) at = cc

-- an id has a number where a disk has it
found_by : (id : List ℕ) (first : ℕ) (disks : List Reading)
    → map.contains_key (disks_by_id (ids_from first disks)) id ≡ list_any (has_id id) disks
found_by id first [] = ap is_some (get-empty (slice_cmp nat_cmp) id)
found_by id first (disk ∷ disks) = of disk.pv (found_by id (first + 1) disks) where
  ids : List (ℕ × List ℕ)
  ids = ids_from (first + 1) disks

  put : (b : Bool) → map.contains_key (disks_by_id ids) id ≡ list_any (has_id id) disks
      → is_some (cond b (Some first) (map.get (disks_by_id ids) id)) ≡ (b || list_any (has_id id) disks)
  put true later = refl
  put false later = later

  of : (pv : Option Found) → map.contains_key (disks_by_id ids) id ≡ list_any (has_id id) disks
      → map.contains_key (disks_by_id (unwrap_or (option_map (λ (x : Found). (first, x.id) ∷ ids) pv) ids)) id
      ≡ (unwrap_or (option_map (λ (x : Found). bytes_eq x.id id) pv) false || list_any (has_id id) disks)
  of None later = later
  of (Some pv) later =
      ap is_some (get_put (disks_by_id ids) pv.id first id)
      ∙ put (bytes_eq pv.id id) later

-- so the missing ones are those without a number
pub missing_by_disks : (disks : List Reading) (pvs : List (List ℕ × Pv))
    → missing_by (disks_by_id (ids_from 0 disks)) pvs ≡ missing_of disks pvs
missing_by_disks disks pvs =
    λ i. map (λ (pv : List ℕ × Pv). pv.1.id) (filter (λ (pv : List ℕ × Pv). pv.1.missing || not (found_by pv.1.id 0 disks i)) pvs)
