use Rattle.std.proofs.Common.{◌≡◌, ◌≤◌, ℕ, List, length, vec_len, arith, subst, sym}
use Rattle.std.proofs.lemmas.List.{length-map}
use Rattle.disk_model.specs.Moments.{EachImage, at_moment}
use Rattle.dev_shelf.specs.declared.mem_shelf.disk_row.DiskRow.{DiskRow}
use Rattle.dev_shelf.specs.ChosenImage.{CanBeChosen, IsChosen}
use Rattle.dev_shelf.specs.DiskRow.{sizes_of, state_of, told_by}
use Rattle.dev_shelf.specs.DiskRowInvariant.{IsGood}
use Rattle.dev_shelf.specs.RowValues.{TakesDisks, told_after}
use Rattle.dev_shelf.proofs.CrashImage.{row_chosen, row_image}
use Rattle.dev_shelf.proofs.EveryImage.{each_chosen}
use Rattle.dev_shelf.proofs.mem_shelf.MemShelf.images_at.Goals as goal

pub returns-clause-chosen_values : goal.returns-clause-chosen_values
returns-clause-chosen_values c =
    let row = c.args.self.now.row in
    let le : c.args.moment ≤ length row.steps.items = omega (arith, row.steps.ok.0) in
    let many : vec_len row.opened ≡ length (sizes_of row) = simp length-map (omega (arith, row.opened.ok.0)) in
    let takes =
    subst (λ (n : ℕ). TakesDisks (told_after row c.args.moment) (sizes_of row) n c.args.choices.now.items c.in_ok-disks.disks.items
    c.in_ok-disks.ensures.0) many c.in_ok-disks.ensures.1 in
    rw c.from_vec.ensures (subst (λ (l : List ℕ). IsChosen (at_moment c.args.moment (told_by row)) l c.args.choices.now.items
    c.in_ok-disks.disks.items) (sym c.args.self.now.good.sizes)
    (row_chosen row c.args.self.now.good c.args.moment le c.args.choices.now.items c.in_ok-disks.disks.items c.in_ok-disks.ensures.0
    takes))

pub returns-clause-image : goal.returns-clause-image
returns-clause-image c =
    let row = c.args.self.now.row in
    let le : c.args.moment ≤ length row.steps.items = omega (arith, row.steps.ok.0) in
    let many : vec_len row.opened ≡ length (sizes_of row) = simp length-map (omega (arith, row.opened.ok.0)) in
    let takes =
    subst (λ (n : ℕ). TakesDisks (told_after row c.args.moment) (sizes_of row) n c.args.choices.now.items c.in_ok-disks.disks.items
    c.in_ok-disks.ensures.0) many c.in_ok-disks.ensures.1 in
    rw c.from_vec.ensures (row_image row c.args.self.now.good c.args.moment le c.args.choices.now.items c.in_ok-disks.disks.items
    c.in_ok-disks.ensures.0 takes)

-- at each moment each image can be chosen, of disks of the state's sizes
each_of : (row : DiskRow) (good : IsGood row) (moment : ℕ)
    → EachImage (CanBeChosen (at_moment moment (told_by row)) (state_of row).sizes) (at_moment moment (told_by row))
each_of row good moment =
    subst (λ (l : List ℕ). EachImage (CanBeChosen (at_moment moment (told_by row)) l) (at_moment moment (told_by row))) (sym good.sizes)
    (each_chosen row good moment)

pub returns-clause-every : goal.returns-clause-every
returns-clause-every c = each_of c.args.self.now.row c.args.self.now.good c.args.moment

pub returns-in_err-disks-clause-every : goal.returns-in_err-disks-clause-every
returns-in_err-disks-clause-every c = each_of c.args.self.now.row c.args.self.now.good c.args.moment
