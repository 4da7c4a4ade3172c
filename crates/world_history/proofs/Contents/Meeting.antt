-- Pieces that have a sector of a disk in common overlap.
use Rattle.std.proofs.Common.{◌≡◌, ◌≤◌, ◌<◌, ℕ, ◌+◌, ◌-◌, true, IsTrue, nat_eq, nat_lt, max, min, Option, Some, slice_get, ap, ◌∙◌, arith}
use Rattle.std.proofs.lemmas.Bool.{and_from, eq-eqb, lt-ltb}
use Rattle.std.proofs.lemmas.Bool.Decides.{nat_tests}
use Rattle.sector_base.specs.declared.places.Piece.{Piece}
use Rattle.sector_base.specs.declared.spans.Span.{Span}
use Rattle.sector_base.specs.Spans.{covers}
use Rattle.claim_table.specs.Extents.{end_of, overlaps}
use Rattle.vg_scan.specs.Versions.{Version}
use Rattle.volume_history.specs.Placed.{Place, volumes_of}
use Rattle.world_history.specs.Shown.{StandsIn, places_keyed}

-- pieces of one volume share a sector, by its number in each
overlap : (p q : Piece) (x y : ℕ) → p.volume ≡ q.volume → x ≡ y → p.first ≤ x → x < p.first + p.count → q.first ≤ y → y < q.first + q.count
    → overlaps p q ≡ true
overlap p q x y volume same low high low' high' =
    and_from (nat_eq p.volume q.volume) (nat_lt (max p.first q.first) (min (end_of p) (end_of q))) (eq-eqb p.volume q.volume volume)
    (lt-ltb (max p.first q.first) (min (end_of p) (end_of q)) (omega (arith, same, low, high, low', high')))

covers_sector : (span : Span) (pv sector : ℕ) → IsTrue (covers span pv sector)
    → (span.pv ≡ pv) × (span.first ≤ sector) × (sector < span.first + span.count)
covers_sector span pv sector is = (grind (arith, nat_tests), grind (arith, nat_tests), grind (arith, nat_tests))

-- a sector that the span covers is a place of the piece
placed_in : (version : Option Version) (piece : Piece) (span : Span) (pv sector : ℕ) → StandsIn version piece span
    → IsTrue (covers span pv sector)
    → (x : ℕ) × (piece.first ≤ x) × (x < piece.first + piece.count)
    × (slice_get (places_keyed (volumes_of version) piece.volume) x ≡ Some (record { disk = pv; sector = sector }))
placed_in version piece span pv sector stands is =
    let on = covers_sector span pv sector is in
    let i : ℕ = sector - span.first in
    let lt : i < piece.count = omega (arith, on.1, on.2, stands.many) in
    let there : span.first + i ≡ sector = omega (arith, on.1) in
    let place : ◌≡◌ {A = Place} (record { disk = span.pv; sector = span.first + i }) (record { disk = pv; sector = sector }) =
    ap {B = Place} (λ (d : ℕ). record { disk = d; sector = span.first + i }) on.0
    ∙ ap {B = Place} (λ (s : ℕ). record { disk = pv; sector = s }) there in
    (piece.first + i, omega arith, omega (arith, lt), stands.there i lt ∙ ap Some place)

-- pieces whose spans cover one sector of a disk, where no two places of the volumes are one
pub both_cover : (version : Option Version) (p q : Piece) (s t : Span) (pv sector : ℕ)
    → ((key x other y : ℕ) (at : Place) → slice_get (places_keyed (volumes_of version) key) x ≡ Some at
    → slice_get (places_keyed (volumes_of version) other) y ≡ Some at → (key ≡ other) × (x ≡ y))
    → StandsIn version p s
    → StandsIn version q t
    → IsTrue (covers s pv sector)
    → IsTrue (covers t pv sector)
    → overlaps p q ≡ true
both_cover version p q s t pv sector differ stands stands' is is' =
    let a = placed_in version p s pv sector stands is in
    let b = placed_in version q t pv sector stands' is' in
    let same = differ p.volume a.0 q.volume b.0 (record { disk = pv; sector = sector }) a.3 b.3 in
    overlap p q a.0 b.0 same.0 same.1 a.1 a.2 b.1 b.2
