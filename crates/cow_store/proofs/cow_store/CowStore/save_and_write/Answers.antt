use Rattle.std.proofs.Common.{◌/◌, List, ap, ◌∙◌}
use Rattle.cow_store.specs.Calls.{Sets, as_it_was}
use Rattle.cow_store.specs.Entries.{slot_of}
use Rattle.cow_store.specs.Stands.{setting}
use Rattle.cow_store.specs.Views.{view_of}
use Rattle.cow_store.proofs.Keeping.{keeps_both}
use Rattle.cow_store.proofs.Setting.{on_ok, saved_slot, sets_saved, some_is}
use Rattle.cow_store.proofs.cow_store.CowStore.save_and_write.Goals as goal

pub write-requires-clause-saved : goal.write-requires-clause-saved
write-requires-clause-saved g c =
    let old = view_of g.V.Vols.state c.args.self.now in
    let chunk = c.args.at / 8 in
    let mid = view_of g.V.Vols.state c.save.new.self in
    some_is (slot_of mid.entries chunk) c.args.slot
    (ap (λ (l : List _). slot_of l chunk) c.in_ok-save.ensures.saves.entries
    ∙ saved_slot old.entries c.args.slot chunk c.requires.slot c.requires.new)

pub returns-clause-sets : goal.returns-clause-sets
returns-clause-sets g c =
    let old = view_of g.V.Vols.state c.args.self.now in
    let mid = view_of g.V.Vols.state c.save.new.self in
    let new = view_of g.V.Vols.state c.write.new.self in
    on_ok c.write.result (Sets c.args.at c.args.from.now mid new) (Sets c.args.at c.args.from.now old new)
    (λ next. sets_saved c.args.at c.args.slot c.args.from.now old mid new c.requires.slot c.requires.new c.in_ok-save.ensures.saves next)
    c.write.ensures.sets

pub returns-clause-keeps : goal.returns-clause-keeps
returns-clause-keeps g c =
    let old = view_of g.V.Vols.state c.args.self.now in
    let mid = view_of g.V.Vols.state c.save.new.self in
    let new = view_of g.V.Vols.state c.write.new.self in
    keeps_both (setting (c.args.at / 8)) as_it_was old mid new c.in_ok-save.ensures.keeps c.write.ensures.keeps
