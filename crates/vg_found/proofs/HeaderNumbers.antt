-- What stands at an id among the disks' numbers is the first disk whose header has it.
use Rattle.std.proofs.Common.{◌≡◌, ℕ, ◌+◌, Bool, true, false, cond, List, [], ◌∷◌, length, Option, Some, None, ap, ◌∙◌, arith}
use Rattle.std.specs.Prelude.{option_map, unwrap_or}
use Rattle.std.specs.Cmp.Lexicographic.{slice_cmp}
use Rattle.std.specs.Ordering.{nat_cmp}
use Rattle.std.specs.FinMap as map
use Rattle.std.specs.FinMap.{get-empty}
use Rattle.std.specs.Str.{bytes_eq}
use Rattle.id_index.specs.Ids.{IdNumbers}
use Rattle.id_index.proofs.Found.{get_put}
use Rattle.pv_header.specs.declared.header.PvHeader.{PvHeader}
use Rattle.vg_found.specs.declared.disk.Disk.{Disk}
use Rattle.vg_found.specs.Disks.{disk_with, header_on, headers_by_id, put_header}

-- one disk more in front of the others
one_more : (first end n : ℕ) (id : List ℕ) (o : Option PvHeader) (numbers : IdNumbers) → unwrap_or (map.get numbers id) end ≡ first + 1 + n
    → unwrap_or (map.get (put_header first o numbers) id) end
    ≡ first + cond (unwrap_or (option_map (λ (h : PvHeader). bytes_eq h.id id) o) false) 0 (n + 1)
one_more first end n id None numbers later = let e : first + 1 + n ≡ first + (n + 1) = omega arith in later ∙ e
one_more first end n id (Some header) numbers later =
    ap (λ (at : Option ℕ). unwrap_or at end)
    (get_put numbers header.id first id)
    ∙ by_test (bytes_eq header.id id) where
      by_test : (b : Bool) → unwrap_or (cond b (Some first) (map.get numbers id)) end ≡ first + cond b 0 (n + 1)
      by_test true = let e : first ≡ first + 0 = omega arith in e
      by_test false = let e : first + 1 + n ≡ first + (n + 1) = omega arith in later ∙ e

found_from : (first : ℕ) (disks : List Disk) (id : List ℕ)
    → unwrap_or (map.get (headers_by_id first disks) id) (first + length disks) ≡ first + disk_with disks id
found_from first [] id = ap (λ (at : Option ℕ). unwrap_or at (first + 0)) (get-empty (slice_cmp nat_cmp) id)
found_from first (disk ∷ disks) id =
    let end : first + length (disk ∷ disks) ≡ first + 1 + length disks = omega arith in
    one_more first (first + length (disk ∷ disks)) (disk_with disks id) id (header_on disk.contents) (headers_by_id (first + 1) disks)
    (ap (unwrap_or (map.get (headers_by_id (first + 1) disks) id)) end ∙ found_from (first + 1) disks id)

pub number_found : (disks : List Disk) (id : List ℕ) → unwrap_or (map.get (headers_by_id 0 disks) id) (length disks) ≡ disk_with disks id
number_found disks id =
    let end : length disks ≡ 0 + length disks = omega arith in
    let at : 0 + disk_with disks id ≡ disk_with disks id = omega arith in
    ap (unwrap_or (map.get (headers_by_id 0 disks) id)) end ∙ found_from 0 disks id ∙ at
