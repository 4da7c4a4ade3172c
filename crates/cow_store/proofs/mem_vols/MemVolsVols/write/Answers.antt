use Rattle.std.proofs.Common.{◌≡◌, ◌∷◌, [], ℕ, Bool, List, length, ap, subst, sym, ◌∙◌, arith}
use Rattle.dev_shelf.specs.MemShelf.{plan_left, state_of_shelf}
use Rattle.sector_base.specs.declared.spans.Span.{Span}
use Rattle.disk_model.specs.Puts.{one_sector}
use Rattle.disk_model.specs.Steps.{Work, Writing}
use Rattle.cow_store.specs.MemVols.{FollowsPlan, volumes_of}
use Rattle.cow_store.specs.VolStates.{Operates}
use Rattle.cow_store.proofs.ShelfCalls.{follows, operates, set_one}
use Rattle.cow_store.proofs.mem_vols.MemVolsVols.write.Goals as goal

-- the sector is written
is_written : (c : goal.After-answer) → Writing c.one_sector-span.result c.set.new.self
    ≡ Writing (one_sector c.args.v c.args.at) (c.args.from.now ∷ [])
is_written c =
    ap (λ (s : Span). Writing s c.set.new.self) c.one_sector-span.ensures
    ∙ ap (λ (l : List (List ℕ)). Writing (one_sector c.args.v c.args.at) l)
    (c.set.ensures ∙ set_one _ _ (ap (λ (l : List (List ℕ)). length l) c.replace-buffer.ensures.value ∙ c.args.self.now.one))

pub returns-clause-operates : goal.returns-clause-operates
returns-clause-operates c =
    let s0 = state_of_shelf c.args.self.now.shelf in
    let s1 = state_of_shelf c.run-op.new.shelf in
    let work : Work = Writing (one_sector c.args.v c.args.at) (c.args.from.now ∷ []) in
    subst (λ (b : Bool). Operates (volumes_of s0) work b (volumes_of s1)) (sym c.answer.ensures)
    (subst (λ (w : Work). Operates (volumes_of s0) w c.run-op.result.well (volumes_of s1)) (is_written c)
    (operates s0 s1 _ c.run-op.result c.run-op.ensures.carries_out ((omega (arith, ap (λ (s : Span). s.count) c.one_sector-span.ensures)))))

pub returns-clause-plan : goal.returns-clause-plan
returns-clause-plan c =
    let s0 = state_of_shelf c.args.self.now.shelf in
    let s1 = state_of_shelf c.run-op.new.shelf in
    let work : Work = Writing (one_sector c.args.v c.args.at) (c.args.from.now ∷ []) in
    let p0 = plan_left c.args.self.now.shelf in
    let p1 = plan_left c.run-op.new.shelf in
    subst (λ (b : Bool). FollowsPlan (volumes_of s0) p0.fails work b (volumes_of s1) p1.fails) (sym c.answer.ensures)
    (subst (λ (w : Work). FollowsPlan (volumes_of s0) p0.fails w c.run-op.result.well (volumes_of s1) p1.fails) (is_written c)
    (follows s0 s1 _ c.run-op.result p0.fails p1.fails c.run-op.ensures.carries_out c.run-op.ensures.fails c.run-op.ensures.plan))
