-- A world is opened: no disk has failed, no line is open, nothing waits, and nothing was written.
use Rattle.std.proofs.Common.{◌≡◌, ◌<◌, ℕ, ◌+◌, ◌*◌, [], length, get_or, replicate, Contains, inl, inr, ⊎_elim, sym, ap, subst, ◌∙◌, arith}
use Rattle.std.proofs.Common.{true≢false}
use Rattle.std.specs.FinSet as set
use Rattle.std.specs.Ordering.{nat_cmp}
use Rattle.std.proofs.lemmas.Bool.{cases_lt}
use Rattle.std.proofs.lemmas.List.{get_or-replicate, get_or_past, length-replicate}
use Rattle.std.proofs.lemmas.Option.{none-some}
use Rattle.flush_plan.specs.declared.records.Marks.{Marks}
use Rattle.flush_plan.specs.Plans.{marks_of, no_marks}
use Rattle.flush_waits.specs.declared.ticket.Waiting.{Waiting}
use Rattle.flush_waits.specs.Waits.{DiskWaits, Waits, dirty_at, disk_waits, new_waits, none_waits}
use Rattle.vg_found.specs.declared.found.Found.{Found}
use Rattle.volume_history.specs.Chronicles.{Origin}
use Rattle.world_acts.specs.Acts.{IsLost, World}
use Rattle.world_acts.specs.OpenLines.{Opens, open_at}
use Rattle.io_core.specs.Worlds.{IsOpenedOn}
use Rattle.world_history.specs.Contents.{HasContents}
use Rattle.world_tracks.proofs.WaitSteps.{waiters}
use Rattle.world_tracks.proofs.Causes.Carried.{HasCauses}

-- all of a list of the same
all_same : {X : Type 0} (n k : ℕ) (x : X) → get_or (replicate n x) k x ≡ x
all_same n k x =
    ⊎_elim (λ (lt : k < n). get_or-replicate n k x x lt)
    (λ ge. let long = length-replicate n x in get_or_past (replicate n x) k x (omega (arith, long, ge))) (cases_lt k n)

pub opened_causes : (o : Origin) (w : World) (found : Found) (disks : ℕ) → IsOpenedOn found disks w.core → HasContents o w []
    → HasCauses o w []
opened_causes o w found disks opened c = record {
  told = c.told;
  is = c.is;
  volumes = c.holds.volumes;
  knows = record {
    lost = λ pv lost. absurd (none_lost pv lost);
    failing = λ n p why at fails. absurd (none-some p (ap (λ (x : Opens). open_at x n) (sym opened.opens) ∙ at));
    dirty = λ key pv lt some. absurd (let none = none_dirty key pv in omega (arith, some, none));
    waits = λ pv it has. absurd (none_waits_there pv it has);
    answered = tt;
  };
}
  where
    many : ℕ
    many = length w.core.volumes.rows.items

    none_lost : (pv : ℕ) → IsLost w.core pv → ⊥
    none_lost pv (inl is) =
        true≢false (sym is ∙ ap (λ (x : set.FinSet nat_cmp). set.contains x pv) opened.failed ∙ set.contains-empty nat_cmp pv)
    none_lost pv (inr far) =
        let same : marks_of w.core.waits.plan pv ≡ no_marks =
        ap (λ (x : Waits). marks_of x.plan pv) opened.waits ∙ all_same disks pv no_marks in
        let stable : (marks_of w.core.waits.plan pv).stable ≡ 0 = ap (λ (m : Marks). m.stable) same in
        let ended : (marks_of w.core.waits.plan pv).ended ≡ 0 = ap (λ (m : Marks). m.ended) same in
        omega (arith, far, stable, ended)

    none_dirty : (key pv : ℕ) → dirty_at w.core.waits key pv ≡ 0
    none_dirty key pv =
        ap (λ (x : Waits). dirty_at x key pv) opened.waits
        ∙ all_same (many * disks) (key * length (new_waits disks many).disks + pv) 0

    none_waits_there : (pv : ℕ) (it : Waiting) → Contains (waiters (disk_waits w.core.waits pv)) it → ⊥
    none_waits_there pv it has =
        let same : disk_waits w.core.waits pv ≡ none_waits =
        ap (λ (x : Waits). disk_waits x pv) opened.waits ∙ all_same disks pv none_waits in
        let there : Contains [] it = subst (λ (d : DiskWaits). Contains (waiters d) it) same has in
        let lt = there.1 in omega (arith, lt)
