-- The file of each number is locked, and each file has a number.
use Rattle.std.proofs.Common.{◌≡◌, ◌<◌, ◌∷◌, length, map, get_or, All, inl, refl, sym, subst, ◌∙◌, arith}
use Rattle.std.specs.BTreeMap.{values}
use Rattle.std.proofs.lemmas.List.{length-map}
use Rattle.std.proofs.lemmas.List.Elements.{All-head, All-tail, All-weaker}
use Rattle.std.proofs.lemmas.Option.{slice_get_read, get_or_from_slice_get}
use Rattle.file_shelf.specs.declared.image.Node.{Node}
use Rattle.file_shelf.specs.declared.image.Unmeasured.{Unmeasured}
use Rattle.file_shelf.proofs.Walked.{walked_on, walked_all, number_stands}
use Rattle.file_shelf.proofs.opening.lock_each.Goals as goal

pub loop-number-init : goal.loop-number-init
loop-number-init g c =
    let node : Unmeasured _ → Node = λ opened. opened.node in
    let files = c.args.files.now.items in
    let numbers = c.args.numbers.now in
    let given = c.into_iter-number-iterator.ensures.into_iter_gives in
    let all : c.into_iter-number-iterator.result ≡ values numbers = given ∙ c.values-number-items.ensures.rest in
    let as_many = length-map files node in
    record {
      within = rw all (All-weaker (λ k. k < length (map node files)) (λ k. k < length files) (λ k lt. omega (arith, lt, as_many))
          (values numbers) c.requires.numbers.1);
      each = λ k lt. inl (rw all (number_stands numbers (map node files) c.requires.numbers k (omega (arith, lt, as_many))));
    }

pub loop-number-preserved : goal.loop-number-preserved
loop-number-preserved g c =
    let files = c.args.files.now.items in
    let at = c.in-Some.number.now in
    let rest = c.next.new.self in
    let was = c.loop-number.invariant in
    let first : c.loop-number.number-iterator ≡ at ∷ rest = c.in-Some.ensures.steps in
    let inside = subst (All (λ k. k < length files)) first was.within in
    let file = c.index.result.now in
    let here = slice_get_read files (length files) at file refl (All-head (λ k. k < length files) at rest inside) c.index.ensures in
    record {
      within = All-tail (λ k. k < length files) at rest inside;
      each = walked_on (λ k. (d : Unmeasured _) → g.F.ImageFile.Holds (get_or files k d).file c.args.access) (length files)
          c.loop-number.number-iterator was.each at rest first
          (λ d. subst (λ (o : Unmeasured _). g.F.ImageFile.Holds o.file c.args.access) (sym (get_or_from_slice_get files at file d here))
          c.in_default.ensures);
    }

pub returns-clause-locked : goal.returns-clause-locked
returns-clause-locked g c = λ k d lt.
    let files = c.args.files.now.items in
    walked_all (λ k. (d : Unmeasured _) → g.F.ImageFile.Holds (get_or files k d).file c.args.access) (length files)
    c.loop-number.number-iterator c.loop-number.invariant.each c.in-None.ensures.steps.0 k lt d
