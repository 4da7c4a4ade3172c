-- What is read where the bytes of a number or of a list of areas stand.
use Rattle.std.proofs.Common.{◌≡◌, ◌≢◌, ℕ, ◌+◌, ◌*◌, ◌^◌, ◌<◌, ◌≤◌, Some, List, ◌∷◌, ◌++◌, length, take, drop, get_or, replicate, refl, sym}
use Rattle.std.proofs.Common.{ap, ◌∙◌, arith}
use Rattle.std.proofs.lemmas.List.{append_assoc, take-append-drop, length-take-le, drop_at, drop-drop, drop_more}
use Rattle.std.proofs.lemmas.List.Concat.{flat_map-append}
use Rattle.std.proofs.lemmas.Option.{slice_get-get_or}
use Rattle.std.specs.List.{All}
use Rattle.byteorder.specs.Endian.{little_bytes, little_number}
use Rattle.byteorder.specs.Numbers.{length-bytes_low_first, little_number-reads_back}
use Rattle.sector_base.specs.Fields.{field}
use Rattle.pv_header.specs.declared.extent_list.Extent.{Extent}
use Rattle.pv_header.specs.Extents.{IsListAt, extent_at, list_bytes, pair_bytes, Fits64}
use Rattle.pv_header.proofs.Placed.{length-list_bytes}

-- what stands after some bytes
pub drop_next : (sector : List ℕ) (place : ℕ) (bs rest : List ℕ) (next : ℕ) → drop place sector ≡ bs ++ rest → next ≡ place + length bs
    → drop next sector ≡ rest
drop_next sector place bs rest next h e =
    ap (λ n. drop n sector) e ∙ sym (drop-drop (length bs) place sector) ∙ ap (drop (length bs)) h ∙ drop_at bs rest (length bs) refl

-- a number is read where its bytes stand
pub field-written : (n : ℕ) (sector : List ℕ) (place x : ℕ) (rest : List ℕ) → drop place sector ≡ little_bytes n x ++ rest → x < 256 ^ n
    → field n sector place ≡ x
field-written n sector place x rest h fits = ap (little_number n) h ∙ little_number-reads_back n x rest fits

-- an area is read where its pair stands
pub extent_at-written : (sector : List ℕ) (place : ℕ) (area : Extent) (rest : List ℕ) → drop place sector ≡ pair_bytes area ++ rest
    → Fits64 area → extent_at sector place ≡ area
unfolding extent_at pair_bytes
extent_at-written sector place area rest h fits =
    let both = h ∙ append_assoc (little_bytes 8 area.offset) (little_bytes 8 area.size) rest in
    let next =
    drop_next sector place (little_bytes 8 area.offset) (little_bytes 8 area.size ++ rest) (place + 8) both
    (omega (arith, length-bytes_low_first 0 8 area.offset)) in
    let offset = field-written 8 sector place area.offset (little_bytes 8 area.size ++ rest) both fits.0 in
    let size = field-written 8 sector (place + 8) area.size rest next fits.1 in
    λ i. record { offset = offset i; size = size i }

list_bytes-append : (xs ys : List Extent) → list_bytes (xs ++ ys) ≡ list_bytes xs ++ list_bytes ys
unfolding list_bytes
list_bytes-append xs ys = flat_map-append pair_bytes xs ys

list_bytes-cons : (area : Extent) (list : List Extent) → list_bytes (area ∷ list) ≡ pair_bytes area ++ list_bytes list
unfolding list_bytes
list_bytes-cons area list = refl

-- where pair k stands
drop-list_bytes : (list : List Extent) (k : ℕ) (d : Extent) (rest : List ℕ) → k < length list
    → drop (16 * k) (list_bytes list ++ rest) ≡ pair_bytes (get_or list k d) ++ (list_bytes (drop (k + 1) list) ++ rest)
drop-list_bytes list k d rest h =
    let before : length (list_bytes (take k list)) ≡ 16 * k =
    length-list_bytes (take k list) ∙ ap (λ n. 16 * n) (length-take-le k list (omega arith)) in
    let split : list_bytes list ≡ list_bytes (take k list) ++ list_bytes (drop k list) =
    ap list_bytes (sym (take-append-drop k list)) ∙ list_bytes-append (take k list) (drop k list) in
    let here : list_bytes (drop k list) ≡ pair_bytes (get_or list k d) ++ list_bytes (drop (k + 1) list) =
    ap list_bytes (drop_more list k d h) ∙ list_bytes-cons (get_or list k d) (drop (k + 1) list) in
    ap (λ (bs : List ℕ). drop (16 * k) (bs ++ rest)) split
    ∙ ap (drop (16 * k)) (append_assoc (list_bytes (take k list)) (list_bytes (drop k list)) rest)
    ∙ drop_at (list_bytes (take k list)) (list_bytes (drop k list) ++ rest) (16 * k) before
    ∙ ap (λ (bs : List ℕ). bs ++ rest) here
    ∙ append_assoc (pair_bytes (get_or list k d)) (list_bytes (drop (k + 1) list)) rest

-- a list is read where its pairs stand, with zeros behind
pub IsListAt-written : (sector : List ℕ) (at : ℕ) (list : List Extent) (rest : List ℕ)
    → drop at sector ≡ list_bytes list ++ (replicate 16 0 ++ rest)
    → at + 16 * length list + 8 ≤ 512 → All Fits64 list → All (λ area. area.offset ≢ 0) list → IsListAt sector at list
IsListAt-written sector at list rest h room fits offsets =
    let none : Extent = record { offset = 0; size = 0 } in
    let end =
    drop_next sector at (list_bytes list) (replicate 16 0 ++ rest) (at + 16 * length list) h (omega (arith, length-list_bytes list)) in
    record {
      within = room;
      pairs = λ k l.
          let here = sym (drop-drop (16 * k) at sector) ∙ ap (drop (16 * k)) h ∙ drop-list_bytes list k none (replicate 16 0 ++ rest) l in
          slice_get-get_or list k none l ∙ ap Some
          (sym (extent_at-written sector (at + 16 * k) (get_or list k none) _ here (fits k none l)));
      offsets = offsets;
      ended = ap (little_number 8) end;
    }
