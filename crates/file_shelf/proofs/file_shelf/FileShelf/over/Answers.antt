-- The queue has the files' sizes.
use Rattle.std.proofs.Common.{◌≡◌, ℕ, map, All, ap, sym, subst, ◌∙◌}
use Rattle.std.proofs.lemmas.List.{length-map}
use Rattle.std.proofs.lemmas.List.Elements.{All-map}
use Rattle.disk_model.specs.State.{State}
use Rattle.op_queue.specs.Queue.{state_of, opened_state}
use Rattle.file_shelf.specs.Sizes.{IsSize}
use Rattle.file_shelf.specs.declared.image.Image.{Image}
use Rattle.file_shelf.proofs.file_shelf.FileShelf.over.Goals as goal

pub invariant_of-result : goal.invariant_of-result
invariant_of-result g c =
    let size : Image g.row.F.Denot → ℕ = λ image. image.sectors in
    let same : (state_of c.in_ok-queue.queue).sizes ≡ map size c.args.images.items =
    ap (λ (s : State). s.sizes) c.in_ok-queue.ensures.state ∙ c.in_ok-sizes.ensures in
    record {
      good = c.in_ok-queue.ensures.good;
      sizes = subst (All IsSize) (sym same) (All-map IsSize size c.args.images.items c.requires.sizes);
      each = rw (same, length-map) c.args.images.ok.0;
    }

pub returns-clause-state : goal.returns-clause-state
returns-clause-state g c = c.in_ok-queue.ensures.state ∙ ap opened_state c.in_ok-sizes.ensures
