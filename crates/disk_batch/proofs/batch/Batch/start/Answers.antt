use Rattle.std.proofs.Common.{◌≡◌, ◌<◌, ◌==◌, ℕ, true, false, List, drop, length, map, reverse, sym, ap, subst, arith, length-append}
use Rattle.std.proofs.lemmas.Bool.{eqb-true, false_from_ne_true}
use Rattle.std.proofs.lemmas.List.Elements.{All-drop}
use Rattle.sector_base.specs.declared.spans.Span.{Span}
use Rattle.disk_model.specs.Steps.{Flushing}
use Rattle.disk_batch.specs.Batches.{view_of}
use Rattle.disk_batch.specs.Parts.{IsBlockOf, IsEnd}
use Rattle.disk_batch.specs.Rest.{rest_of}
use Rattle.disk_batch.specs.Submits.{SubmitsWorks}
use Rattle.disk_batch.specs.Views.{View}
use Rattle.disk_batch.specs.Writes.{LieIn, write_work}
use Rattle.disk_batch.proofs.Fitting.{first_lie}
use Rattle.disk_batch.proofs.PartPuts.{all_reversed, blocks_follow}
use Rattle.disk_batch.proofs.Starting.{begun, flushed_first, made_as}
use Rattle.disk_batch.proofs.batch.Batch.start.Goals as goal
use Rattle.disk_batch.proofs.batch.Batch.start.Goals.{then-flushing, else-flushing}

pub submit_writes-requires-clause-lie : goal.submit_writes-requires-clause-lie
submit_writes-requires-clause-lie g c =
    let self = c.args.self in
    let sizes = (g.S.Shelf.state c.args.shelf.now).sizes in
    subst (LieIn sizes) (sym c.into_vec.ensures) (first_lie sizes self.first (rest_of self.rest) c.requires.lie)

pub submit_writes-requires-clause-ops : goal.submit_writes-requires-clause-ops
submit_writes-requires-clause-ops g c =
    let self = c.args.self in
    let many = ap (λ (l : List (Span × List (List ℕ))). length l) c.into_vec.ensures in
    omega (arith, many, length-append self.first (rest_of self.rest), c.requires.ops)

pub returns : goal.returns
returns g c =
    let self = c.args.self in
    let rest = self.rest in
    let old = g.S.Shelf.state c.args.shelf.now in
    let new = g.S.Shelf.state c.if-flushing.shelf in
    let view : View = view_of c.from_parts.result in
    let tags : c.if-flushing.tags.items ≡ view.tags = sym (ap (λ (v : View). v.tags) c.from_parts.ensures) in
    elim c.if-flushing.branch [
      | then-flushing w ↦
          let works : SubmitsWorks old (map Flushing self.disks.items) c.if-flushing.tags.items new =
          rw w.tags-is (rw w.shelf-is (subst (λ (l : List ℕ). SubmitsWorks old (map Flushing l) w.submit_flushes.new.tags.items
          (g.S.Shelf.state w.submit_flushes.new.shelf)) w.deref.ensures.value w.submit_flushes.ensures.submits)) in
          flushed_first old new self.disks.items view self.first (rest_of rest) (omega (arith, c.len-flushing.ensures, w.if-flushing.true))
          self.follow (subst (λ (l : List ℕ). SubmitsWorks old (map Flushing self.disks.items) l new) tags works)
          (made_as view c.if-flushing.tags.items self.disks.items (c.len-flushing.result == 0) true (rest_of rest) c.from_parts.ensures
          (ap (λ (n : ℕ). n == 0) w.if-flushing.true))
      | else-flushing w ↦
          let works : SubmitsWorks old (map write_work self.first) c.if-flushing.tags.items new =
          rw w.tags-is (rw w.shelf-is (subst (λ (l : List (Span × List (List ℕ))). SubmitsWorks old (map write_work l)
          w.submit_writes.new.tags.items (g.S.Shelf.state w.submit_writes.new.shelf)) w.into_vec.ensures
          w.submit_writes.ensures.submits)) in
          let some : 0 < length self.first = omega (arith, c.len-flushing.ensures, w.if-flushing.false) in
          begun old new self.disks.items view self.first (rest_of rest) some self.follow
          (blocks_follow rest.text (length rest.text) (drop rest.at rest.blocks.items) (reverse rest.ends.items)
          (All-drop (IsBlockOf (length rest.text)) rest.at rest.blocks.items rest.parts) (all_reversed IsEnd rest.ends.items rest.others))
          (subst (λ (l : List ℕ). SubmitsWorks old (map write_work self.first) l new) tags works)
          (made_as view c.if-flushing.tags.items self.disks.items (c.len-flushing.result == 0) false (rest_of rest) c.from_parts.ensures
          (false_from_ne_true (c.len-flushing.result == 0) (λ e. w.if-flushing.false (eqb-true c.len-flushing.result 0 e))))
    ]
