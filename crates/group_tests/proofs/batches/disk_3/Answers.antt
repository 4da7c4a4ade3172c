use Rattle.std.proofs.Common.{Bool, true, ◌≡◌, ◌||◌, sym, ap, subst, ◌∙◌, arith}
use Rattle.std.specs.Cmp.{nat_cmp_total, unsigned_tied}
use Rattle.std.specs.Ordering.{nat_cmp}
use Rattle.std.specs.FinSet.{FinSet, contains, contains-insert, insert}
use Rattle.disk_batch.proofs.DisksOfSet.{some_disk}
use Rattle.group_tests.proofs.batches.disk_3.Goals as goal

-- a set with 3 has it
has_3 : (set : FinSet nat_cmp) → contains (insert set 3) 3 ≡ true
has_3 set = contains-insert nat_cmp_total set 3 3 ∙ ap (λ (t : Bool). t || contains set 3) (unsigned_tied 3 3)

pub returns : goal.returns
returns c =
    record {
      some = some_disk c.insert.new.self 3 (omega arith)
          (subst (λ (s : FinSet nat_cmp). contains s 3 ≡ true) (sym c.insert.ensures) (has_3 c.new-flush.result));
    }
