-- The opened value is alone where no write has touched the sector.
use Rattle.std.proofs.Common.{ℕ, List, [], ◌≡◌, Option, length, drop, get_or, arith, ap, sym, subst, ◌∙◌}
use Rattle.std.proofs.lemmas.List.{get_or_default}
use Rattle.disk_model.proofs.ValueLists.{some_value}
use Rattle.dev_shelf.specs.DiskRow.{image_of}
use Rattle.dev_shelf.specs.RowValues.{TakesOne, told_after}
use Rattle.dev_shelf.proofs.RecordMoments.{record_at}
use Rattle.dev_shelf.proofs.Untouched.{takes_untouched}
use Rattle.dev_shelf.proofs.mem_shelf.crash_image.sector_at.Goals as goal

pub returns-then-not-touched : goal.returns-then-not-touched
returns-then-not-touched c =
    let row = c.args.row.now in
    let told = told_after row c.args.moment in
    let choices = drop c.args.taken.now c.args.choices.now.items in
    let there : c.get.result ≡ image_of row.opened.items c.args.disk c.args.sector =
    c.get.ensures.value ∙ ap (λ (d : List (List ℕ)). get_or d c.args.sector [])
    (c.index.ensures ∙ get_or_default row.opened.items c.args.disk c.index.result.now [] (omega (arith, row.opened.ok.0))) in
    subst (λ (v : List ℕ). TakesOne told c.args.disk c.args.sector choices v choices) (sym there)
    (takes_untouched told c.args.disk c.args.sector choices (sym c.requires.touched ∙ c.if-not-touched.true))

pub choose-requires : goal.choose-requires
choose-requires c =
    let row = c.args.row.now in
    let told = told_after row c.args.moment in
    let some =
    some_value told.opened told.steps c.args.disk c.args.sector
    (record_at row.written.items row.steps.items c.args.moment c.requires.good.follows) in
    omega (arith, some, ap (λ (l : List (Option ℕ × List ℕ)). length l) c.in_ok-values.ensures, c.in_ok-values.values.ok.0)
