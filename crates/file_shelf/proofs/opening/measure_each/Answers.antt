-- The next file is measured.
use Rattle.std.proofs.Common.{rules, All, refl, ap, subst, ◌∙◌}
use Rattle.std.proofs.lemmas.List.Elements.{All-nil, All-head, All-tail, All-push}
use Rattle.file_shelf.specs.declared.image.Access.{Access}
use Rattle.file_shelf.specs.declared.image.Image.{Image}
use Rattle.file_shelf.specs.declared.image.Node.{Node}
use Rattle.file_shelf.specs.declared.image.Unmeasured.{Unmeasured}
use Rattle.file_shelf.specs.Sizes.{IsSize}
use Rattle.file_shelf.proofs.Rows.{part_moved}
use Rattle.file_shelf.proofs.opening.measure_each.Goals as goal

pub loop-number-init : goal.loop-number-init
loop-number-init g c =
    let all = ap (λ e. e.iter.rest.items) c.into_iter-number-iterator.ensures.into_iter_gives
    ∙ ap (λ i. i.rest.items) c.enumerate-number-items.ensures.source
    ∙ c.into_iter.ensures.rest in
    let none = c.new-images.ensures.items in
    record {
      count = search rules;
      locked = rw all c.requires.locked;
      files = rw (none, all) refl;
      nodes = rw (none, all) refl;
      sizes = rw none (All-nil (λ (image : Image _). IsSize image.sectors));
    }

pub measured-requires : goal.measured-requires
measured-requires g c =
    let IsLocked : Unmeasured _ → Type 0 = λ opened. (access : Access) × g.F.ImageFile.Holds opened.file access in
    let locked = subst (All IsLocked) c.in-Some.ensures.steps.0.0 c.loop-number.invariant.locked in
    record { locked = All-head IsLocked c.in-Some.opened c.next.new.self.iter.rest.items locked }

pub loop-number-preserved : goal.loop-number-preserved
loop-number-preserved g c =
    let IsLocked : Unmeasured _ → Type 0 = λ opened. (access : Access) × g.F.ImageFile.Holds opened.file access in
    let old = c.loop-number.images.items in
    let image = c.in-Ok.image in
    let opened = c.in-Some.opened in
    let all = c.loop-number.number-iterator.iter.rest.items in
    let rest = c.next.new.self.iter.rest.items in
    let was = c.loop-number.invariant in
    let is = c.in-Ok.ensures in
    let first = c.in-Some.ensures.steps.0.0 in
    let items = c.in_ok-push-in-Ok.ensures.items in
    let file : Unmeasured _ → g.row.F.Denot = λ opened. opened.file in
    let node : Unmeasured _ → Node = λ opened. opened.node in
    record {
      count = search rules;
      locked = All-tail IsLocked opened rest (subst (All IsLocked) first was.locked);
      files = rw items (part_moved (λ (i : Image _). i.file) file old image all rest opened _ is.file first was.files);
      nodes = rw items (part_moved (λ (i : Image _). i.node) node old image all rest opened _ is.node first was.nodes);
      sizes = rw items (All-push (λ (i : Image _). IsSize i.sectors) old image was.sizes is.size);
    }
