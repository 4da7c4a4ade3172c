-- What is taken from the sectors is the text of the entry.
use Rattle.std.proofs.lemmas.Result.{MatchResult-weaker}
use Rattle.mda_ring.proofs.EntryBytes.{taken-length, taken-slice, taken-text_at, taken-text_sectors}
use Rattle.mda_ring.proofs.text_read.gather_bytes.Goals as goal

pub returns-clause-gathered : goal.returns-clause-gathered
returns-clause-gathered c = λ sector_at read.
    let locn = c.args.locn in
    let sectors = c.args.sectors.now in
    MatchResult-weaker c.bytes_from.result c.bytes_from.ensures
    (λ bytes is. taken-text_at c.args.area.now locn sectors bytes.items sector_at c.requires.area c.requires.entry c.requires.sectors
    (taken-slice locn sectors _ bytes.items c.as_slice.ensures.value is) read)
    (λ _ none. none)

pub returns-clause-text_sectors : goal.returns-clause-text_sectors
returns-clause-text_sectors c = λ text put whole long.
    let locn = c.args.locn in
    let sectors = c.args.sectors.now in
    MatchResult-weaker c.bytes_from.result c.bytes_from.ensures
    (λ bytes is. taken-text_sectors locn sectors bytes.items text (taken-slice locn sectors _ bytes.items c.as_slice.ensures.value is) put
    whole long)
    (λ _ none. none)

pub returns-clause-count : goal.returns-clause-count
returns-clause-count c =
    let locn = c.args.locn in
    let sectors = c.args.sectors.now in
    MatchResult-weaker c.bytes_from.result c.bytes_from.ensures
    (λ bytes is. taken-length locn sectors bytes.items (taken-slice locn sectors _ bytes.items c.as_slice.ensures.value is))
    (λ _ none. none)
