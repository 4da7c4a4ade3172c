-- The spans of the text are read one after the other.
use Rattle.std.proofs.Common.{ℕ, [], ◌∷◌, Option, Some, subst}
use Rattle.std.proofs.lemmas.List.{append-nil}
use Rattle.std.proofs.lemmas.Result.{err_from_is_err_and}
use Rattle.sector_base.specs.declared.spans.Span.{Span}
use Rattle.disk_model.specs.Since.{HoldsOfDisk}
use Rattle.disk_model.proofs.ReadingAlone.{holds_before, holds_both}
use Rattle.vg_scan.specs.Texts.{AreTextSectors, text_spans}
use Rattle.disk_contents.specs.Parts.{ReadsWell}
use Rattle.disk_contents.proofs.ReadingParts.{until_wanting}
use Rattle.vg_scan.proofs.TextSectors.{AreSpansOf, IsSpanRead, both_read, first_ended, in_area_rest, read_joined, rest_ended}
use Rattle.vg_scan.proofs.text_sectors.read_ring.Goals as goal

pub returns-in_err-sectors-clause-read : goal.returns-in_err-sectors-clause-read
returns-in_err-sectors-clause-read g c =
    let before = g.S.Shelf.state c.args.shelf.now in
    let after = g.S.Shelf.state c.read_into.new.shelf in
    let spans = c.spans-rest.ensures in
    let p = err_from_is_err_and c.from_residual-in_err-sectors.result c.from_residual-in_err-sectors.ensures.1 in
    rw (p.1, p.2)
    (first_ended c.args.area.now c.args.locn c.spans-rest.result spans.spans before after after c.in_err-sectors.field-0.0
    spans.in_area.0.pv_is c.in_err-sectors.ensures)

pub returns-in_err-more-in-Some-clause-read : goal.returns-in_err-more-in-Some-clause-read
returns-in_err-more-in-Some-clause-read g c =
    let before = g.S.Shelf.state c.args.shelf.now in
    let there = g.S.Shelf.state c.read_into.new.shelf in
    let after = g.S.Shelf.state c.read_sectors.new.shelf in
    let spans = c.spans-rest.ensures in
    let area = c.args.area.now in
    let rest = c.in-Some.rest in
    let p = err_from_is_err_and c.from_residual-in_err-more-in-Some.result c.from_residual-in_err-more-in-Some.ensures.1 in
    rw (p.1, p.2)
    (rest_ended area c.args.locn c.spans-rest.result spans.spans before there after rest c.in_err-more-in-Some.field-0.0 c.in-Some.is
    (in_area_rest area c.spans-rest.result.1 rest c.in-Some.is spans.in_area.1) c.in_ok-sectors.ensures.0 c.in_err-more-in-Some.ensures)

pub returns-in_err-joined-in-Some-clause-read : goal.returns-in_err-joined-in-Some-clause-read
returns-in_err-joined-in-Some-clause-read g c =
    let before = g.S.Shelf.state c.args.shelf.now in
    let there = g.S.Shelf.state c.read_into.new.shelf in
    let after = g.S.Shelf.state c.read_sectors.new.shelf in
    let area = c.args.area.now in
    let texts = text_spans area c.args.locn in
    let p = err_from_is_err_and c.from_residual-in_err-joined-in-Some.result c.from_residual-in_err-joined-in-Some.ensures.1 in
    rw (p.1, p.2)
    (until_wanting area.pv before after texts [] texts (append-nil texts)
    (both_read area c.args.locn c.spans-rest.result c.spans-rest.ensures.spans before there after c.in-Some.rest c.in-Some.is
    c.in_ok-sectors.ensures.0 c.in_ok-more-in-Some.ensures.0))

pub returns-in_ok-joined-in-Some-clause-read : goal.returns-in_ok-joined-in-Some-clause-read
returns-in_ok-joined-in-Some-clause-read g c =
    let before = g.S.Shelf.state c.args.shelf.now in
    let there = g.S.Shelf.state c.read_into.new.shelf in
    let after = g.S.Shelf.state c.read_sectors.new.shelf in
    let spans = c.spans-rest.ensures in
    let area = c.args.area.now in
    let locn = c.args.locn in
    let first = c.spans-rest.result.0 in
    let rest = c.in-Some.rest in
    let sectors = c.in_ok-sectors.sectors in
    let more = c.in_ok-more-in-Some.more in
    let all = c.in_ok-joined-in-Some.field-0 in
    let went : ReadsWell before (first ∷ []) there = c.in_ok-sectors.ensures.0 in
    let are : AreSpansOf area locn (first, Some rest) =
    subst (λ (o : Option Span). AreSpansOf area locn (first, o)) c.in-Some.is
    (record { count_is = spans.count; order = spans.order }) in
    let read : HoldsOfDisk before.told area.pv (IsSpanRead first sectors) =
    subst (λ (p : ℕ). HoldsOfDisk before.told p (IsSpanRead first sectors)) spans.in_area.0.pv_is c.in_ok-sectors.ensures.2 in
    let read' : HoldsOfDisk there.told area.pv (IsSpanRead rest more) =
    subst (λ (p : ℕ). HoldsOfDisk there.told p (IsSpanRead rest more))
    (in_area_rest area c.spans-rest.result.1 rest c.in-Some.is spans.in_area.1) c.in_ok-more-in-Some.ensures.2
    in (
      both_read area locn c.spans-rest.result spans.spans before there after rest c.in-Some.is went c.in_ok-more-in-Some.ensures.0,
      holds_both before.told area.pv (IsSpanRead first sectors) (IsSpanRead rest more) (λ sector_at. AreTextSectors sector_at area locn all)
          (λ sector_at a b. read_joined area locn first rest sectors more all are c.in_ok-sectors.ensures.1 c.in_ok-more-in-Some.ensures.1
          c.in_ok-joined-in-Some.ensures sector_at a b)
          read
          (holds_before before.told there.told (first ∷ []) area.pv (IsSpanRead rest more) went.reads read'),
    )
