-- What is gathered from the sectors of an entry.
use Rattle.std.proofs.Common.{◌≡◌, ℕ, ◌+◌, ◌%◌, List, [], ◌∷◌, ◌++◌, length, map, ap, ◌∙◌}
use Rattle.std.specs.List.{range_with_len}
use Rattle.std.proofs.lemmas.List.FromFn.{length-map-range_with_len}
use Rattle.mda_header.specs.Header.{IsInside}
use Rattle.mda_header.specs.declared.header.Locn.{Locn}
use Rattle.mda_ring.specs.declared.area.Area.{Area}
use Rattle.mda_ring.specs.Areas.{IsArea}
use Rattle.mda_ring.specs.Ring.{need, touched_count}
use Rattle.mda_ring.specs.Texts.{AreRead, byte_in, text_sectors, text_at}
use Rattle.mda_ring.proofs.TextBytes.{bytes-text_sectors, bytes-text_at}

-- the bytes that were taken from these sectors from the entry's first byte on
pub record IsTaken (locn : Locn) (sectors : List (List ℕ)) (bytes : List ℕ) : Type 0 where
  pub taken : bytes ≡ map (λ m. byte_in sectors (locn.offset % 512 + m)) (range_with_len 0 locn.size)

-- the bytes that were taken from a slice of the sectors
pub taken-slice : (locn : Locn) (sectors slice : List (List ℕ)) (bytes : List ℕ) → slice ≡ sectors
    → bytes ≡ map (λ m. byte_in slice (locn.offset % 512 + m)) (range_with_len 0 locn.size) → IsTaken locn sectors bytes
taken-slice locn sectors slice bytes whole taken =
    record { taken = taken ∙ ap (λ (l : List (List ℕ)). map (λ m. byte_in l (locn.offset % 512 + m)) (range_with_len 0 locn.size)) whole }

-- they are the text's
pub taken-text_at : (area : Area) (locn : Locn) (sectors : List (List ℕ)) (bytes : List ℕ) (sector_at : ℕ → List ℕ) → IsArea area
    → IsInside area.size locn → length sectors ≡ touched_count area.size locn.offset locn.size
    → IsTaken locn sectors bytes → AreRead sector_at area.size locn.offset sectors
    → bytes ≡ text_at sector_at area.size locn.offset locn.size
taken-text_at area locn sectors bytes sector_at good inside all is read =
    bytes-text_at sector_at area.size locn.offset locn.size sectors bytes good.size_is_whole good.has_ring inside.behind_header
    inside.before_end inside.has_room all read is.taken

-- they are those of the text that was put into the sectors
pub taken-text_sectors : (locn : Locn) (sectors : List (List ℕ)) (bytes text : List ℕ) → IsTaken locn sectors bytes
    → sectors ≡ text_sectors text (need (length text + 1)) → locn.offset % 512 ≡ 0 → locn.size ≡ length text + 1 → bytes ≡ text ++ 0 ∷ []
taken-text_sectors locn sectors bytes text is put whole long =
    bytes-text_sectors text sectors bytes (locn.offset % 512) locn.size put whole long is.taken

-- they are as many as the entry says
pub taken-length : (locn : Locn) (sectors : List (List ℕ)) (bytes : List ℕ) → IsTaken locn sectors bytes → length bytes ≡ locn.size
taken-length locn sectors bytes is =
    ap length is.taken ∙ length-map-range_with_len (λ m. byte_in sectors (locn.offset % 512 + m)) 0 locn.size
