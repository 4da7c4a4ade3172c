-- Room is made, and then the span is read, well or not.
use Rattle.std.proofs.Common.{◌≡◌, ◌<◌, ℕ, ◌+◌, [], ◌∷◌, slice_index_or}
use Rattle.std.proofs.lemmas.Result.{err_from_is_err_and}
use Rattle.disk_contents.specs.declared.read_refusal.ReadRefusal.TheVariants.{ReadFailed}
use Rattle.disk_contents.specs.Parts.{ReadsWell}
use Rattle.disk_model.proofs.ReadingAlone.{holds_before}
use Rattle.disk_contents.proofs.ReadingParts.{read_holds, until_after, until_read, well_both, well_read, well_reserved}
use Rattle.disk_contents.proofs.reading.read_into.Goals as goal

pub returns : goal.returns
returns g c =
    let before = g.S.Shelf.state c.args.shelf.now in
    let ready = g.S.Shelf.state c.reserve.new.self in
    let after = g.S.Shelf.state c.read_span.new.shelf in
    let span = c.args.span in
    let sectors = c.in_ok-read_span.field-0 in
    let reserved : ReadsWell before [] ready = well_reserved before ready _ _ c.in_ok-reserve.ensures.ok c.requires.idle in
    let done = c.in_ok-read_span.ensures.carried_out in (
      well_both before ready after [] (span ∷ []) reserved
          (well_read ready after span _ done.0 done.1 c.in_ok-read_span.ensures.reads c.in_ok-read_span.ensures.fault),
      c.in_ok-read_span.ensures.len,
      holds_before before.told ready.told [] span.pv
          (λ sector_at. (k : ℕ) → k < span.count → slice_index_or sectors k [] ≡ sector_at (span.first + k)) reserved.reads
          (read_holds ready.told span sectors c.in_ok-read_span.ensures.read),
    )

pub returns-in_err-read_span : goal.returns-in_err-read_span
returns-in_err-read_span g c =
    let before = g.S.Shelf.state c.args.shelf.now in
    let ready = g.S.Shelf.state c.reserve.new.self in
    let after = g.S.Shelf.state c.read_span.new.shelf in
    let p = err_from_is_err_and c.from_residual-in_err-read_span.result c.from_residual-in_err-read_span.ensures.1 in
    let failed = c.in_err-read_span.ensures in
    rw (p.1, p.2)
    (until_after c.args.span.pv before ready after [] (c.args.span ∷ []) (ReadFailed c.in_err-read_span.field-0.0)
    (well_reserved before ready _ _ c.in_ok-reserve.ensures.ok c.requires.idle)
    (until_read ready after c.args.span c.in_err-read_span.field-0.0 failed.reads failed.spends failed.fault))
