use Rattle.std.proofs.Common.{◌≡◌, ℕ, false, List, length, length-set, is_ok, ap, sym, ◌∙◌}
use Rattle.std.specs.List.{slice_get}
use Rattle.cow_store.specs.Views.{CowView, view_of}
use Rattle.cow_store.specs.Writing.{giving}
use Rattle.cow_store.proofs.Keeping.{after_operation, keeps_saving, not_failed}
use Rattle.cow_store.proofs.PutTable.{free_there}
use Rattle.cow_store.proofs.cow_store.CowStore.save.Goals as goal

pub returns-in_err-outcome-clause-keeps : goal.returns-in_err-outcome-clause-keeps
returns-in_err-outcome-clause-keeps g c =
    let old = view_of g.V.Vols.state c.args.self.now in
    let new = view_of g.V.Vols.state c.outcome.new.self in
    let vols = g.V.Vols.state c.save_chunk-saved.new.vols in
    let well = is_ok c.save_chunk-saved.result in
    let view : new ≡ after_operation old vols well = c.outcome.ensures.view in
    let bad : well ≡ false = sym c.outcome.ensures.ok ∙ ap is_ok c.in_err-outcome.was in
    keeps_saving old new c.args.chunk c.args.slot well vols c.requires.ops.store c.requires.ops.going
    (ap (λ (v : CowView). v.vols.sizes) view ∙ c.save_chunk-saved.ensures.spends.sizes)
    (ap (λ (v : CowView). v.vols.told) view) (ap (λ (v : CowView). length v.entries) view) c.requires.slot c.requires.new
    (λ still. absurd (let went = not_failed well old.spent (sym (ap (λ (v : CowView). v.spent) view) ∙ still) in cc))
    c.save_chunk-saved.ensures.told

pub put-requires-clause-free : goal.put-requires-clause-free
put-requires-clause-free g c =
    let old = view_of g.V.Vols.state c.args.self.now in
    ap (λ (v : CowView). slice_get v.entries c.args.slot) c.outcome.ensures.view ∙ free_there old.entries c.args.slot c.requires.slot

pub returns-clause-keeps : goal.returns-clause-keeps
returns-clause-keeps g c =
    let old = view_of g.V.Vols.state c.args.self.now in
    let mid = view_of g.V.Vols.state c.outcome.new.self in
    let new : CowView = record mid { entries = c.put.new.self } in
    let vols = g.V.Vols.state c.save_chunk-saved.new.vols in
    let well = is_ok c.save_chunk-saved.result in
    let view : mid ≡ after_operation old vols well = c.outcome.ensures.view in
    let entries : new.entries ≡ giving c.args.chunk c.args.slot old.entries =
    c.put.ensures ∙ ap (λ (v : CowView). giving c.args.chunk c.args.slot v.entries) view in
    keeps_saving old new c.args.chunk c.args.slot well vols c.requires.ops.store c.requires.ops.going
    (ap (λ (v : CowView). v.vols.sizes) view ∙ c.save_chunk-saved.ensures.spends.sizes)
    (ap (λ (v : CowView). v.vols.told) view)
    (ap (λ (l : List ℕ). length l) entries ∙ length-set old.entries c.args.slot _) c.requires.slot c.requires.new
    (λ still. (not_failed well old.spent (sym (ap (λ (v : CowView). v.spent) view) ∙ still), entries))
    c.save_chunk-saved.ensures.told
