use Rattle.std.proofs.Common.{[], ◌∷◌, ◌/◌, is_ok}
use Rattle.disk_model.specs.Puts.{one_sector}
use Rattle.disk_model.specs.Steps.{Writing}
use Rattle.cow_store.specs.Entries.{slot_of}
use Rattle.cow_store.specs.Layout.{lengths_of}
use Rattle.cow_store.specs.Views.{view_of}
use Rattle.cow_store.specs.Writing.{HasSlot}
use Rattle.cow_store.proofs.Keeping.{keeps_operation, some_of}
use Rattle.cow_store.proofs.SectorWrites.{writes_origin}
use Rattle.cow_store.proofs.cow_store.CowStore.write.Goals as goal

pub returns-clause-keeps : goal.returns-clause-keeps
returns-clause-keeps g c =
    let old = view_of g.V.Vols.state c.args.self.now in
    let well = is_ok c.write_sector-written.result in
    keeps_operation (HasSlot c.args.at) old (view_of g.V.Vols.state c.outcome.new.self) (g.V.Vols.state c.write_sector-written.new.vols)
    (Writing (one_sector 0 c.args.at) (c.args.from.now ∷ [])) well c.requires.ops.store c.requires.ops.going
    c.write_sector-written.ensures.operates c.outcome.ensures.view
    (λ past. some_of (slot_of old.entries (c.args.at / 8)) c.requires.saved)
    (λ t tag fresh. writes_origin (lengths_of old.vols.sizes) t tag well fresh c.args.at c.args.from.now)
