-- Bytes put into a sector one after another.
use Rattle.std.proofs.Common.{◌≡◌, ℕ, ◌+◌, ◌-◌, ◌*◌, ◌<◌, ◌≤◌, List, [], ◌∷◌, ◌++◌, length, take, drop, get_or, replicate, refl, sym, ap}
use Rattle.std.proofs.Common.{◌∙◌, arith}
use Rattle.std.proofs.lemmas.List.{append-nil, append_assoc, take-append-drop, length-append, length-take-le, length-drop, take_at, drop_at}
use Rattle.std.proofs.lemmas.List.{drop-drop, drop-replicate, take_more}
use Rattle.std.proofs.Math.Nat.{add-zero}
use Rattle.std.proofs.lemmas.List.Concat.{flat_map-append}
use Rattle.byteorder.specs.Numbers.{length-bytes_low_first}
use Rattle.byteorder.specs.Endian.{little_bytes}
use Rattle.sector_base.specs.Fields.{with_bytes}
use Rattle.pv_header.specs.declared.extent_list.Extent.{Extent}
use Rattle.pv_header.specs.Extents.{list_bytes, pair_bytes}

pub with_bytes-nil : (s : List ℕ) (at : ℕ) → with_bytes s at [] ≡ s
with_bytes-nil s at = rw (append-nil, add-zero) (take-append-drop at s)

pub length-with_bytes : (s : List ℕ) (at : ℕ) (bs : List ℕ) → at + length bs ≤ length s → length (with_bytes s at bs) ≡ length s
length-with_bytes s at bs h =
    omega (
      arith,
      length-append (take at s ++ bs) (drop (at + length bs) s),
      length-append (take at s) bs,
      length-take-le at s (omega arith),
      length-drop (at + length bs) s,
    )

-- bytes put right after others
pub with_bytes-with_bytes : (s : List ℕ) (at : ℕ) (bs cs : List ℕ) (place : ℕ) → place ≡ at + length bs → place + length cs ≤ length s
    → with_bytes (with_bytes s at bs) place cs ≡ with_bytes s at (bs ++ cs)
with_bytes-with_bytes s at bs cs place e h =
    let front : length (take at s ++ bs) ≡ place = omega (arith, length-append (take at s) bs, length-take-le at s (omega arith)) in
    let first = take_at (take at s ++ bs) (drop (at + length bs) s) place front in
    let rest : drop (place + length cs) (with_bytes s at bs) ≡ drop (at + length (bs ++ cs)) s =
    sym (drop-drop (length cs) place (with_bytes s at bs))
    ∙ ap (drop (length cs)) (drop_at (take at s ++ bs) (drop (at + length bs) s) place front)
    ∙ drop-drop (length cs) (at + length bs) s
    ∙ ap (λ n. drop n s) (let n : at + length bs + length cs ≡ at + length (bs ++ cs) = omega (arith, length-append bs cs) in n) in
    rw (first, rest, append_assoc (take at s) bs cs) refl

-- bytes put at the beginning of the zeros
pub with_bytes-zeros : (front : List ℕ) (n at : ℕ) (bs : List ℕ) → length front ≡ at → length bs ≤ n
    → with_bytes (front ++ replicate n 0) at bs ≡ front ++ bs ++ replicate (n - length bs) 0
with_bytes-zeros front n at bs e h =
    let first = take_at front (replicate n 0) at e in
    let rest : drop (at + length bs) (front ++ replicate n 0) ≡ replicate (n - length bs) 0 =
    sym (drop-drop (length bs) at (front ++ replicate n 0))
    ∙ ap (drop (length bs)) (drop_at front (replicate n 0) at e)
    ∙ drop-replicate (length bs) n 0 in
    rw (first, rest) refl

pub length-pair_bytes : (area : Extent) → length (pair_bytes area) ≡ 16
unfolding pair_bytes
length-pair_bytes area =
    omega (
      arith,
      length-append (little_bytes 8 area.offset) (little_bytes 8 area.size),
      length-bytes_low_first 0 8 area.offset,
      length-bytes_low_first 0 8 area.size,
    )

pub length-list_bytes : (list : List Extent) → length (list_bytes list) ≡ 16 * length list
unfolding list_bytes
length-list_bytes [] = refl
length-list_bytes (area ∷ list) =
    omega (arith, length-append (pair_bytes area) (list_bytes list), length-pair_bytes area, length-list_bytes list)

pub list_bytes_more : (list : List Extent) (i : ℕ) (d : Extent) → i < length list
    → list_bytes (take (i + 1) list) ≡ list_bytes (take i list) ++ pair_bytes (get_or list i d)
unfolding list_bytes
list_bytes_more list i d h =
    ap list_bytes (take_more list i d h) ∙ flat_map-append pair_bytes (take i list) (get_or list i d ∷ [])
    ∙ ap (λ (bs : List ℕ). list_bytes (take i list) ++ bs) (append-nil (pair_bytes (get_or list i d)))
