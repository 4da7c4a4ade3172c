-- The header was read of the label's sector; else memory was wanting before an area was read.
use Rattle.std.proofs.Common.{ℕ, ◌*◌, inl, refl, subst, [], slice_index_or}
use Rattle.disk_model.proofs.ReadingAlone.{holds_always}
use Rattle.pv_header.specs.PvRefusal.{Reads}
use Rattle.disk_contents.specs.Reads.{AreAreasOf}
use Rattle.disk_contents.proofs.ReadingParts.{until_wanting, well_nothing}
use Rattle.disk_contents.proofs.find.find_header.Goals as goal

pub find_areas-requires-clause-read : goal.find_areas-requires-clause-read
find_areas-requires-clause-read g c =
    let sector = c.args.sector.now in
    (sector, subst (λ (n : ℕ). Reads sector (n * 512) c.in-Ok.header) c.sectors-disk.ensures c.in-Ok.ensures.answer)

pub returns-in-Err-NoMemory-clause-found : goal.returns-in-Err-NoMemory-clause-found
returns-in-Err-NoMemory-clause-found g c =
    let before = g.S.Shelf.state c.args.shelf.now in (
      [],
      holds_always before.told c.args.number (λ s. AreAreasOf s (slice_index_or before.sizes c.args.number 0) []) (λ s. inl refl),
      until_wanting c.args.number before before [] [] [] refl (well_nothing before before refl c.requires.idle),
    )
