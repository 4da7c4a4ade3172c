-- The label stands in one of the sectors that were read, and what is found afterwards stood there before.
use Rattle.pv_label.specs.LabelSectors.{first_four, label_span}
use Rattle.std.proofs.Common.{◌≡◌, ℕ, List, [], ◌∷◌, slice_index_or, subst}
use Rattle.std.proofs.lemmas.Result.{MatchResult-weaker}
use Rattle.pv_label.specs.Label.{IsFirstLabel}
use Rattle.disk_contents.specs.Contents.{IsFound}
use Rattle.disk_model.specs.Since.{HoldsOfDisk}
use Rattle.disk_model.proofs.ReadingAlone.{holds_after, holds_before, holds_weaker}
use Rattle.disk_contents.specs.Parts.{ReadsWell}
use Rattle.disk_contents.specs.Reads.{AreAreasOf, area_spans, areas_found}
use Rattle.disk_contents.proofs.ReadingParts.{until_after, well_both}
use Rattle.disk_contents.proofs.FirstSectors.{label_is_there, label_of_read}
use Rattle.disk_contents.proofs.find.find_pv.Goals as goal

pub find_header-requires-clause-label : goal.find_header-requires-clause-label
find_header-requires-clause-label g c =
    let before = g.S.Shelf.state c.args.shelf.now in
    let there = g.S.Shelf.state c.read_first.new.shelf in
    let number = c.in-Ok.found.sector in
    let first = c.in_ok-first.first in
    let went : ReadsWell before (label_span c.args.disk ∷ []) there = c.in_ok-first.ensures.0 in
    holds_after before.told there.told (label_span c.args.disk ∷ []) c.args.disk (λ sector_at. IsFirstLabel (first_four sector_at) number)
    went.reads went.silent
    (holds_weaker before.told c.args.disk (λ sector_at. first ≡ first_four sector_at)
    (λ sector_at. IsFirstLabel (first_four sector_at) number)
    (λ sector_at read. label_of_read sector_at first number c.in-Ok.ensures read) c.in_ok-first.ensures.1)

pub find_header-requires-clause-sector : goal.find_header-requires-clause-sector
find_header-requires-clause-sector g c =
    let before = g.S.Shelf.state c.args.shelf.now in
    let there = g.S.Shelf.state c.read_first.new.shelf in
    let number = c.in-Ok.found.sector in
    let first = c.in_ok-first.first in
    let sector = c.label_sector-sector.result in
    let went : ReadsWell before (label_span c.args.disk ∷ []) there = c.in_ok-first.ensures.0 in
    holds_after before.told there.told (label_span c.args.disk ∷ []) c.args.disk (λ sector_at. sector ≡ sector_at number) went.reads went.silent
    (holds_weaker before.told c.args.disk (λ sector_at. first ≡ first_four sector_at) (λ sector_at. sector ≡ sector_at number)
    (λ sector_at read. label_is_there sector_at first sector number c.in-Ok.ensures c.label_sector-sector.ensures read)
    c.in_ok-first.ensures.1)

pub returns-in-Ok-clause-found : goal.returns-in-Ok-clause-found
returns-in-Ok-clause-found g c =
    let before = g.S.Shelf.state c.args.shelf.now in
    let there = g.S.Shelf.state c.read_first.new.shelf in
    let after = g.S.Shelf.state c.find_header.new.shelf in
    let went : ReadsWell before (label_span c.args.disk ∷ []) there = c.in_ok-first.ensures.0 in
    MatchResult-weaker c.find_header.result c.find_header.ensures.found
    (λ found is. (
      well_both before there after (label_span c.args.disk ∷ []) (area_spans c.args.disk (areas_found found)) went is.0,
      holds_before before.told there.told (label_span c.args.disk ∷ []) c.args.disk
          (λ sector_at. IsFound sector_at (slice_index_or before.sizes c.args.disk 0) found) went.reads
          (holds_weaker there.told c.args.disk (λ sector_at. IsFound sector_at (slice_index_or there.sizes c.args.disk 0) found)
          (λ sector_at. IsFound sector_at (slice_index_or before.sizes c.args.disk 0) found)
          (λ sector_at stands. subst (λ (sizes : List ℕ). IsFound sector_at (slice_index_or sizes c.args.disk 0) found) went.again.sizes
          stands) is.1),
    ))
    (λ refusal until. (
      until.0,
      holds_before before.told there.told (label_span c.args.disk ∷ []) c.args.disk
          (λ sector_at. AreAreasOf sector_at (slice_index_or before.sizes c.args.disk 0) until.0) went.reads
          (subst (λ (sizes : List ℕ). HoldsOfDisk there.told c.args.disk
          (λ sector_at. AreAreasOf sector_at (slice_index_or sizes c.args.disk 0) until.0)) went.again.sizes until.1),
      until_after c.args.disk before there after (label_span c.args.disk ∷ []) (area_spans c.args.disk until.0) refusal went until.2,
    ))
