use Rattle.std.proofs.Common.{◌≡◌, Bool, true, Option, IfSome, List, [], ◌∷◌, ℕ, sym, ap, subst, ◌∙◌}
use Rattle.sector_base.specs.declared.spans.Span.{Span}
use Rattle.disk_model.specs.declared.ops.Op.{Op}
use Rattle.disk_model.specs.declared.ops.Op.TheVariants.{Read}
use Rattle.disk_model.specs.Steps.{Record, Reading}
use Rattle.disk_model.specs.Operations.{work_of}
use Rattle.disk_model.specs.Reading.{ReadsAll}
use Rattle.disk_model.specs.Since.{OnlyReads}
use Rattle.disk_model.proofs.OneAtATime.{told_by_operation}
use Rattle.disk_model.proofs.ReadingAlone.{reads_span}
use Rattle.disk_model.proofs.carry_out.read_span.Goals as goal

-- what a read that went well read, by the operation that it was
well_read : (told : Option Record) (op : Op) (well : Bool) (span : Span) (sectors : List (List ℕ)) → op ≡ Read span sectors → well ≡ true
    → IfSome told (λ t. ReadsAll t op well) → IfSome told (λ t. ReadsAll t (Read span sectors) true)
well_read told op well span sectors is went h =
    subst (λ (b : Bool). IfSome told (λ t. ReadsAll t (Read span sectors) b)) went
    (subst (λ (o : Op). IfSome told (λ t. ReadsAll t o well)) is h)

pub returns-in-Read-clause-read : goal.returns-in-Read-clause-read
returns-in-Read-clause-read g c =
    let same : Reading c.in-Read.field-0 ≡ Reading c.args.span = ap work_of (sym c.in-Read.is) ∙ c.run_one-op.ensures.work in
    let span : c.in-Read.field-0 ≡ c.args.span = cc in
    well_read (g.S.Shelf.state c.args.shelf.now).told c.run_one-op.result.op c.run_one-op.result.well c.args.span c.in-Read.sectors
    (c.in-Read.is ∙ ap (λ (s : Span). Read s c.in-Read.sectors) span) c.if-well.true c.run_one-op.ensures.reads

pub returns-in-Read-clause-reads : goal.returns-in-Read-clause-reads
returns-in-Read-clause-reads g c =
    told_by_operation (g.S.Shelf.state c.args.shelf.now) (Read c.args.span c.args.buffer) c.run_one-op.result
    (g.S.Shelf.state c.run_one-op.new.shelf) (λ old new. OnlyReads old (c.args.span ∷ []) new) c.run_one-op.ensures
    (λ t fresh. reads_span t c.run_one-op.result.tag c.args.span c.run_one-op.result.well fresh)

pub returns-in_default-clause-reads : goal.returns-in_default-clause-reads
returns-in_default-clause-reads g c =
    told_by_operation (g.S.Shelf.state c.args.shelf.now) (Read c.args.span c.args.buffer) c.run_one-op.result
    (g.S.Shelf.state c.run_one-op.new.shelf) (λ old new. OnlyReads old (c.args.span ∷ []) new) c.run_one-op.ensures
    (λ t fresh. reads_span t c.run_one-op.result.tag c.args.span c.run_one-op.result.well fresh)
