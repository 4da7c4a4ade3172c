-- A header is read where it was written.
use Rattle.std.proofs.Common.{◌≡◌, ◌≢◌, ℕ, ◌+◌, ◌-◌, ◌*◌, ◌^◌, ◌<◌, ◌≤◌, List, [], ◌++◌, length, take, drop, replicate, ap, subst, ◌∙◌}
use Rattle.std.proofs.Common.{arith, lit<}
use Rattle.std.proofs.lemmas.List.{append_assoc, take_at, drop_at, length-append, get_or_append_left, get_or-append-add}
use Rattle.std.proofs.lemmas.List.{replicate-append-replicate}
use Rattle.std.specs.List.{All}
use Rattle.byteorder.specs.Endian.{little_bytes}
use Rattle.byteorder.specs.Numbers.{length-bytes_low_first}
use Rattle.lvm_id.specs.LvmId.{IsId}
use Rattle.pv_header.specs.declared.extent_list.Extent.{Extent}
use Rattle.pv_header.specs.declared.header.PvHeader.{PvHeader}
use Rattle.pv_header.specs.Extents.{Fits64, list_bytes}
use Rattle.pv_header.specs.PvHeader.{IsPvHeader, fields_bytes, header_bytes, areas_place, extension_place}
use Rattle.pv_header.proofs.Placed.{length-list_bytes}
use Rattle.pv_header.proofs.Filled.{Fills}
use Rattle.pv_header.proofs.WrittenLists.{drop_next, field-written, IsListAt-written}

-- the bytes one after another
fields_bytes-in_order : (h : PvHeader) (zs : List ℕ) → fields_bytes h ++ zs
    ≡ h.id ++ (little_bytes 8 h.device_bytes ++ (list_bytes h.data_areas ++ (replicate 16 0 ++ (list_bytes h.areas ++ (replicate 16 0
    ++ (little_bytes 4 2 ++ (little_bytes 4 h.flags ++ (replicate 16 0 ++ zs))))))))
unfolding fields_bytes
fields_bytes-in_order h zs = simp append_assoc

pub length-fields_bytes : (h : PvHeader) → length h.id ≡ 32 → length (fields_bytes h) ≡ 96 + 16 * length h.data_areas + 16 * length h.areas
unfolding fields_bytes
length-fields_bytes h size =
    simp length-append (omega (
      arith,
      size,
      length-bytes_low_first 0 8 h.device_bytes,
      length-bytes_low_first 0 4 2,
      length-bytes_low_first 0 4 h.flags,
      length-list_bytes h.data_areas,
      length-list_bytes h.areas,
    ))

-- a part of two lists put together
All-append_left : (P : Extent → Type 0) (xs ys : List Extent) → All P (xs ++ ys) → All P xs
All-append_left P xs ys all k d l = subst P (get_or_append_left xs ys d k l) (all k d (omega (arith, length-append xs ys)))

All-append_right : (P : Extent → Type 0) (xs ys : List Extent) → All P (xs ++ ys) → All P ys
All-append_right P xs ys all k d l = subst P (get_or-append-add xs ys k d) (all (length xs + k) d (omega (arith, length-append xs ys)))

pub IsPvHeader-written : (sector front : List ℕ) (h : PvHeader) → length front ≡ 32 → sector ≡ front ++ header_bytes h → IsId h.id
    → h.device_bytes < 2 ^ 64 → h.flags < 2 ^ 32
    → length h.data_areas + length h.areas ≤ 24 → All Fits64 h.data_areas → All Fits64 h.areas
    → All (λ area. area.offset ≢ 0) (h.data_areas ++ h.areas)
    → IsPvHeader sector (record h { version = 2 }) []
unfolding list_bytes
IsPvHeader-written sector front h size e id device flags room data_fit areas_fit offsets =
    let zs : List ℕ = replicate (480 - length (fields_bytes h)) 0 in
    let at_32 = ap (drop 32) e ∙ drop_at front (header_bytes h) 32 size ∙ fields_bytes-in_order h zs in
    let at_64 = drop_next sector 32 h.id _ 64 at_32 (omega (arith, id.length_is)) in
    let at_data =
    drop_next sector 64 (little_bytes 8 h.device_bytes) _ 72 at_64 (omega (arith, length-bytes_low_first 0 8 h.device_bytes)) in
    let at_data_end =
    drop_next sector 72 (list_bytes h.data_areas) _ (72 + 16 * length h.data_areas) at_data
    (omega (arith, length-list_bytes h.data_areas)) in
    let at_areas = drop_next sector (72 + 16 * length h.data_areas) (replicate 16 0) _ (areas_place h) at_data_end (omega arith) in
    let at_areas_end =
    drop_next sector (areas_place h) (list_bytes h.areas) _ (areas_place h + 16 * length h.areas) at_areas
    (omega (arith, length-list_bytes h.areas)) in
    let at_version =
    drop_next sector (areas_place h + 16 * length h.areas) (replicate 16 0) _ (extension_place h) at_areas_end (omega arith) in
    let at_flags =
    drop_next sector (extension_place h) (little_bytes 4 2) _ (extension_place h + 4) at_version
    (omega (arith, length-bytes_low_first 0 4 2)) in
    let at_rest =
    drop_next sector (extension_place h + 4) (little_bytes 4 h.flags) _ (extension_place h + 8) at_flags
    (omega (arith, length-bytes_low_first 0 4 h.flags)) in
    record {
      id_valid = id;
      id_at = ap (take 32) at_32 ∙ take_at h.id _ 32 id.length_is;
      device_at = field-written 8 sector 64 h.device_bytes _ at_64 device;
      data_at =
          IsListAt-written sector 72 h.data_areas _ at_data (omega arith) data_fit
          (All-append_left (λ area. area.offset ≢ 0) h.data_areas h.areas offsets);
      areas_at =
          IsListAt-written sector (areas_place h) h.areas _ at_areas (omega arith) areas_fit
          (All-append_right (λ area. area.offset ≢ 0) h.data_areas h.areas offsets);
      version_at = field-written 4 sector (extension_place h) 2 _ at_version (lit< tt);
      flags_at = field-written 4 sector (extension_place h + 4) h.flags _ at_flags flags;
      bootloader_at =
          IsListAt-written sector (extension_place h + 8) [] zs at_rest (omega arith) (λ k d l. absurd (omega arith))
          (λ k d l. absurd (omega arith));
    }

regroup : (front : List ℕ) (h : PvHeader) (m n : ℕ) → m ≡ 16 + n
    → front ++ h.id ++ little_bytes 8 h.device_bytes ++ list_bytes h.data_areas ++ replicate 16 0 ++ list_bytes h.areas ++ replicate 16 0
    ++ (little_bytes 4 2 ++ little_bytes 4 h.flags) ++ replicate m 0
    ≡ front ++ (fields_bytes h ++ replicate n 0)
regroup front h m n e = rw (e, ← replicate-append-replicate {A = ℕ} 16 n 0, fields_bytes-in_order h (replicate n 0)) (simp append_assoc)

-- a sector filled with the fields has the header's bytes
pub Fills-fields : (front sector : List ℕ) (h : PvHeader) (place : ℕ) → length h.id ≡ 32
    → place ≡ 112 + 16 * length h.data_areas + 16 * length h.areas
    → length h.data_areas + length h.areas ≤ 24
    → Fills sector (front ++ h.id ++ little_bytes 8 h.device_bytes ++ list_bytes h.data_areas ++ replicate 16 0 ++ list_bytes h.areas
    ++ replicate 16 0 ++ (little_bytes 4 2 ++ little_bytes 4 h.flags)) place
    → sector ≡ front ++ header_bytes h
Fills-fields front sector h place id e room fills =
    fills.bytes ∙ regroup front h (512 - place) (480 - length (fields_bytes h)) (omega (arith, length-fields_bytes h id))
