-- The faults of an operation that was carried out alone.
use Rattle.std.proofs.Common.{◌≡◌, ◌≢◌, ℕ, ◌+◌, ◌==◌, ◌&&◌, Bool, true, false, not, cond, Option, Some, None, IfSome, option_map, refl, sym}
use Rattle.std.proofs.Common.{ap, subst, ◌∙◌, arith}
use Rattle.std.proofs.lemmas.Bool.Decides.{nat_tests}
use Rattle.disk_model.specs.declared.ops.Op.{Op}
use Rattle.disk_model.specs.declared.ops.Done.{Done}
use Rattle.disk_model.specs.Steps.{Record, Work}
use Rattle.disk_model.specs.CarriesOut.{CarriesOut, with_operation}
use Rattle.disk_model.specs.Faults.{EndsInFault, HasSameFaults, IsLastFault}
use Rattle.disk_model.specs.Operations.{disk_of, work_of}
use Rattle.disk_model.specs.State.{State}

eqb_same : (n : ℕ) → (n == n) ≡ true
eqb_same n = grind (arith, nat_tests)

eqb_differs : (n m : ℕ) → (m ≢ n) → (n == m) ≡ false
eqb_differs n m apart = grind (arith, nat_tests)

module _ (old new : State) (op : Op) (done : Done) (c : CarriesOut old op done new) where
  faults : (well : Bool) → done.well ≡ well → (p : ℕ)
      → new.faults p ≡ cond (not well && (disk_of op == p)) (old.faults p + 1) (old.faults p)
  faults well is p = c.faults p ∙ ap (λ (b : Bool). cond (not b && (disk_of op == p)) (old.faults p + 1) (old.faults p)) is

  -- where it went well none was counted
  pub same_faults : done.well ≡ true → HasSameFaults old new
  same_faults well p = faults true well p

  ends_in_fault : done.well ≡ false → IfSome new.told (λ t. EndsInFault (work_of op) t.steps)
  ends_in_fault failed =
      let Failed : Option Record → Type 0 = λ o. IfSome o (λ t. EndsInFault (work_of op) t.steps) in
      (elim old.told as (λ (o : Option Record). new.told ≡ option_map (with_operation done.tag (work_of op) done.well c.told.0) o
      → Failed new.told) [
        | None ↦ λ e. subst Failed (sym e) tt
        | Some t ↦ λ e.
            let here : EndsInFault (work_of op) (with_operation done.tag (work_of op) done.well c.told.0 t).steps =
            subst (λ (b : Bool). EndsInFault (work_of op) (with_operation done.tag (work_of op) b c.told.0 t).steps) (sym failed) refl in
            subst Failed (sym e) here
      ]) c.told.1

  -- where it failed it is the last step
  pub last_fault : done.well ≡ false → IsLastFault old new (disk_of op) (work_of op)
  last_fault failed = record {
    disk = refl;
    one =
        faults false failed (disk_of op) ∙ ap (λ (b : Bool). cond b (old.faults (disk_of op) + 1) (old.faults (disk_of op)))
        (eqb_same (disk_of op));
    others =
        λ other apart. faults false failed other
        ∙ ap (λ (b : Bool). cond b (old.faults other + 1) (old.faults other)) (eqb_differs (disk_of op) other apart);
    last = ends_in_fault failed;
  }

-- a fault that came after a call without one
pub last_fault_after : (s0 s1 s2 : State) (pv : ℕ) (work : Work) → HasSameFaults s0 s1 → IsLastFault s1 s2 pv work
    → IsLastFault s0 s2 pv work
last_fault_after s0 s1 s2 pv work same f = record {
  disk = f.disk;
  one = f.one ∙ ap (λ (n : ℕ). n + 1) (same pv);
  others = λ other apart. f.others other apart ∙ same other;
  last = f.last;
}

pub same_faults_both : (s0 s1 s2 : State) → HasSameFaults s0 s1 → HasSameFaults s1 s2 → HasSameFaults s0 s2
same_faults_both s0 s1 s2 first more p = more p ∙ first p
