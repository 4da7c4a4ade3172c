use Rattle.std.proofs.Common.{◌≡◌, false, is_ok, refl, subst, sym}
use Rattle.cow_store.specs.Calls.{Keeps, as_it_was}
use Rattle.cow_store.specs.Layout.{lengths_of}
use Rattle.cow_store.specs.Views.{CowView, view_of}
use Rattle.cow_store.specs.Writing.{Always, WritesNone, unchanged}
use Rattle.cow_store.proofs.Keeping.{after_operation, keeps_both, keeps_part, keeps_same, not_failed}
use Rattle.cow_store.proofs.cow_store.CowStore.flush.Goals as goal

pub returns-clause-keeps : goal.returns-clause-keeps
returns-clause-keeps g c =
    let old = view_of g.V.Vols.state c.args.self.now in
    let mid : CowView = record old { vols = g.V.Vols.state c.reserve.new.self } in
    let vols = g.V.Vols.state c.flush_both-flushed.new.vols in
    let well = is_ok c.flush_both-flushed.result in
    let going : old.spent ≡ false = c.if-self.false in
    let first : Keeps as_it_was old mid =
    keeps_same old mid c.requires (record { vols = c.in_ok-reserve.ensures.ok.same; entries = refl; spent = refl }) in
    let next : Keeps as_it_was mid (after_operation mid vols well) =
    keeps_part Always unchanged well (λ t t'. WritesNone (lengths_of mid.vols.sizes) well t t') mid (after_operation mid vols well)
    first.store
    c.flush_both-flushed.ensures.spends.sizes refl going (λ still. (not_failed well mid.spent still, refl)) (λ past. tt)
    (λ t t' r. (r.goes, r.promise)) c.flush_both-flushed.ensures.stands in
    subst (λ (v : CowView). Keeps as_it_was old v) (sym c.outcome.ensures.view)
    (keeps_both as_it_was as_it_was old mid (after_operation mid vols well) first next)
