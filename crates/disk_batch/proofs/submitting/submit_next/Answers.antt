use Rattle.std.proofs.Common.{List, subst}
use Rattle.std.proofs.lemmas.List.Elements.{All-head}
use Rattle.sector_base.specs.declared.spans.Span.{Span}
use Rattle.disk_model.specs.Operations.{Fills}
use Rattle.disk_batch.specs.Rest.{rest_of}
use Rattle.disk_batch.specs.Writes.{LieIn}
use Rattle.disk_batch.proofs.submitting.submit_next.Goals as goal

pub submit-tag-requires-clause-lies : goal.submit-tag-requires-clause-lies
submit-tag-requires-clause-lies g c =
    let sizes = (g.S.Shelf.state c.args.shelf.now).sizes in
    All-head (λ (put : Span × List (List _)). Fills sizes put.0 put.1) (c.in-Some.span, c.in-Some.sectors) (rest_of c.take_first.new.self)
    (subst (LieIn sizes) c.in-Some.ensures c.requires.lie)
