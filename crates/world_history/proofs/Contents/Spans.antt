-- A write or a read that completes at the span of a piece.
use Rattle.std.proofs.Common.{◌≡◌, ◌≤◌, ◌<◌, ◌⊎◌, ℕ, ◌+◌, ◌-◌, ◌&&◌, ◌||◌, Bool, true, false, if◌then◌else◌, IsTrue}
use Rattle.std.proofs.Common.{List, [], ◌∷◌, length, take, drop, slice_get, slice_index_or, Some, inl, inr, refl, sym, ap, ◌∙◌, arith}
use Rattle.std.proofs.lemmas.Bool.{or_left, false_from_ne_true}
use Rattle.std.proofs.lemmas.Bool.Decides.{nat_tests}
use Rattle.std.proofs.lemmas.List.{ext_get_or}
use Rattle.sector_base.specs.declared.places.Piece.{Piece}
use Rattle.sector_base.specs.declared.spans.Span.{Span}
use Rattle.sector_base.specs.Spans.{covers}
use Rattle.disk_model.specs.Steps.{Image, Step, Completed, Writing, now_after, value_at}
use Rattle.line_table.specs.Machine.{sectors_of}
use Rattle.volume_history.specs.Placed.{Place, PlacedVolume, values_on}
use Rattle.volume_history.specs.Replay.{opening_volumes}
use Rattle.world_history.specs.Shown.{places_keyed}
use Rattle.world_history.proofs.Contents.Values.{shown_each, shown_length, shown_place}

covered : (span : Span) (pv sector : ℕ) → IsTrue (covers span pv sector)
    → (span.pv ≡ pv) × (span.first ≤ sector) × (sector < span.first + span.count)
covered span pv sector is = (grind (arith, nat_tests), grind (arith, nat_tests), grind (arith, nat_tests))

covers_place : (span : Span) (i : ℕ) → i < span.count → IsTrue (covers span span.pv (span.first + i))
covers_place span i lt = grind (arith, nat_tests)

-- what sectors laid on the span have for one of its places
value_there : (span : Span) (sectors : List (List ℕ)) (i : ℕ) → value_at span sectors (span.first + i) ≡ slice_index_or sectors i []
value_there span sectors i = ap (λ (k : ℕ). slice_index_or sectors k []) (omega arith)

module _ (vs : List PlacedVolume) (piece : Piece) (inside : piece.first + piece.count ≤ length (places_keyed vs piece.volume)) (span : Span)
    (there : (i : ℕ) → i < piece.count
    → slice_get (places_keyed vs piece.volume) (piece.first + i) ≡ Some (record { disk = span.pv; sector = span.first + i }))
    (many : span.count ≡ piece.count)
    (apart : (key x other y : ℕ) (p : Place) → slice_get (places_keyed vs key) x ≡ Some p → slice_get (places_keyed vs other) y ≡ Some p
    → (key ≡ other) × (x ≡ y)) where
  abbrev shown : Image → List (List ℕ)
  shown image = take piece.count (drop piece.first (values_on image (places_keyed vs piece.volume)))

  -- a sector of the piece is what the image has in the span
  shown_span : (image : Image) (i : ℕ) → i < piece.count → slice_index_or (shown image) i [] ≡ image span.pv (span.first + i)
  shown_span image i lt =
      shown_place vs piece inside image i (record { disk = span.pv; sector = span.first + i }) lt (there i lt)

  -- a place that the span covers is one of the piece's
  own_place : (key x : ℕ) (p : Place) → slice_get (places_keyed vs key) x ≡ Some p → IsTrue (covers span p.disk p.sector)
      → (key ≡ piece.volume) × (piece.first ≤ x) × (x < piece.first + piece.count)
  own_place key x p at is =
      let on = covered span p.disk p.sector is in
      let i : ℕ = p.sector - span.first in
      let lt : i < piece.count = omega (arith, on.1, on.2, many) in
      let sector : span.first + i ≡ p.sector = omega (arith, on.1) in
      let place : ◌≡◌ {A = Place} (record { disk = span.pv; sector = span.first + i }) p =
      ap {B = Place} (λ (d : ℕ). record { disk = d; sector = span.first + i }) on.0
      ∙ ap {B = Place} (λ (s : ℕ). record { disk = p.disk; sector = s }) sector in
      let same = apart key x piece.volume (piece.first + i) p at (there i lt ∙ ap Some place) in
      (same.0, omega (arith, same.1), omega (arith, same.1, lt))

  module _ (opened : Image) (steps : List Step) (tag : ℕ) (sectors : List (List ℕ)) (well : Bool) (fresh : List Bool) where
    abbrev old : Image
    old = now_after opened steps

    abbrev new : Image
    new = now_after opened (Completed tag (Writing span sectors) well fresh ∷ steps)

    -- a write leaves all other places
    pub written_others : (key x : ℕ) (p : Place) → slice_get (places_keyed vs key) x ≡ Some p
        → (key ≡ piece.volume → piece.first ≤ x → x < piece.first + piece.count → ⊥)
        → now_after opened (Completed tag (Writing span sectors) well fresh ∷ steps) p.disk p.sector
        ≡ now_after opened steps p.disk p.sector
    written_others key x p at other =
        ap (λ (b : Bool). if b && (well || slice_index_or fresh (p.sector - span.first) false) then value_at span sectors p.sector
        else old p.disk p.sector)
        (false_from_ne_true (covers span p.disk p.sector) (λ is. let own = own_place key x p at is in other own.0 own.1 own.2))

    new_there : (i : ℕ) → i < piece.count → (b : Bool) → (well || slice_index_or fresh ((span.first + i) - span.first) false) ≡ b
        → slice_index_or (shown new) i [] ≡ (if b then slice_index_or sectors i [] else old span.pv (span.first + i))
    new_there i lt b is =
        let covers_it : covers span span.pv (span.first + i) ≡ true = covers_place span i (omega (arith, lt, many)) in
        shown_span new i lt
        ∙ ap (λ (c : Bool). if c && (well || slice_index_or fresh ((span.first + i) - span.first) false)
        then value_at span sectors (span.first + i) else old span.pv (span.first + i)) covers_it
        ∙ ap (λ (c : Bool). if c then value_at span sectors (span.first + i) else old span.pv (span.first + i)) is
        ∙ ap (λ (v : List ℕ). if b then v else old span.pv (span.first + i)) (value_there span sectors i)

    -- one that went well leaves its sectors in the piece
    pub written_well : well ≡ true → length sectors ≡ piece.count
        → take piece.count
        (drop piece.first
        (values_on (now_after opened (Completed tag (Writing span sectors) well fresh ∷ steps)) (places_keyed vs piece.volume)))
        ≡ sectors
    written_well is long =
        let count : length (shown new) ≡ piece.count = shown_length vs piece inside new in
        ext_get_or [] (shown new) sectors (count ∙ sym long)
        (λ i lt. new_there i (omega (arith, lt, count)) true
        (or_left well (slice_index_or fresh ((span.first + i) - span.first) false) is))

    -- one that went well or not leaves in each sector what it had, or its own
    pub old_or_new : length sectors ≡ piece.count → (i : ℕ) → i < piece.count
        → (slice_index_or
        (take piece.count
        (drop piece.first
        (values_on (now_after opened (Completed tag (Writing span sectors) well fresh ∷ steps)) (places_keyed vs piece.volume))))
        i [] ≡ slice_index_or (sectors_of (opening_volumes (now_after opened steps) 0 vs) piece.volume) (piece.first + i) [])
        ⊎ (slice_index_or
        (take piece.count
        (drop piece.first
        (values_on (now_after opened (Completed tag (Writing span sectors) well fresh ∷ steps)) (places_keyed vs piece.volume))))
        i [] ≡ slice_index_or sectors i [])
    old_or_new long i lt = at (well || slice_index_or fresh ((span.first + i) - span.first) false) refl
      where
        at : (b : Bool) → (well || slice_index_or fresh ((span.first + i) - span.first) false) ≡ b
            → (slice_index_or (shown new) i []
            ≡ slice_index_or (sectors_of (opening_volumes old 0 vs) piece.volume) (piece.first + i) [])
            ⊎ (slice_index_or (shown new) i [] ≡ slice_index_or sectors i [])
        at true is = inr (new_there i lt true is)
        at false is = inl (new_there i lt false is ∙ sym (shown_span old i lt) ∙ shown_each vs piece inside old i lt)

  -- a read of the span gives the machine's sectors
  pub read_each : (values : List (List ℕ)) (image : Image) → length values ≡ piece.count
      → ((pv sector : ℕ) → IsTrue (covers span pv sector) → value_at span values sector ≡ image pv sector) → (i : ℕ) → i < piece.count
      → slice_index_or values i [] ≡ slice_index_or (sectors_of (opening_volumes image 0 vs) piece.volume) (piece.first + i) []
  read_each values image long same i lt =
      sym (value_there span values i) ∙ same span.pv (span.first + i) (covers_place span i (omega (arith, lt, many)))
      ∙ sym (shown_span image i lt) ∙ shown_each vs piece inside image i lt
