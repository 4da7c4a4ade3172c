-- What is lent is a part of one sector.
use Rattle.std.proofs.Common.{◌≡◌, ◌<◌, ℕ, ◌*◌, ◌/◌, ◌%◌, [], length, take, get_or, refl, ap, ◌∙◌, arith}
use Rattle.std.proofs.lemmas.List.{get_or_default}
use Rattle.std.proofs.lemmas.Slice.{between_to_end}
use Rattle.mda_ring.proofs.SectorParts.{part_bytes}
use Rattle.mda_ring.proofs.text_read.part_at.Goals as goal

pub returns-clause-bytes : goal.returns-clause-bytes
returns-clause-bytes c =
    let sectors = c.args.sectors.now in
    let place : ℕ = c.args.at % (512 * length sectors) in
    let sector = c.as_bytes.result.now in
    let among : place / 512 < length sectors = omega arith in
    let of : sector ≡ get_or sectors (place / 512) [] =
    c.as_bytes.ensures.value ∙ c.index-sectors-place.is ∙ get_or_default sectors (place / 512) c.index-sectors-place.result [] among in
    part_bytes sectors sector _ c.args.at place c.min.result c.requires.some refl of (omega arith)
    (ap (take c.min.result) (between_to_end sector (place % 512) 512 (omega arith)))
