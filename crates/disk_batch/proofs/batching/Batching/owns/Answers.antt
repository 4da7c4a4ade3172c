use Rattle.std.proofs.Common.{◌==◌, ℕ, IsTrue, List, subst, sym}
use Rattle.std.specs.List.{list_any}
use Rattle.disk_batch.proofs.Submissions.{any_among, among_any}
use Rattle.disk_batch.proofs.batching.Batching.owns.Goals as goal

pub returns : goal.returns
returns c =
    let found : List ℕ → Type 0 = λ l. IsTrue (list_any (λ (t : ℕ). t == c.args.tag) l) in (
      λ h. any_among c.args.self.now.tags.items c.args.tag
          (subst found c.deref.ensures.value (subst IsTrue c.contains.ensures.value h)),
      λ h. subst IsTrue (sym c.contains.ensures.value)
          (subst found (sym c.deref.ensures.value) (among_any c.args.self.now.tags.items c.args.tag h)),
    )
