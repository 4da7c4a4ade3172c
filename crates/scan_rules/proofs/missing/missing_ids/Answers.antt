use Rattle.std.proofs.Common.{List, ℕ, sym, ap, ◌++◌, ◌+◌, drop, ◌∙◌}
use Rattle.scan_rules.specs.Found.{missing_by}
use Rattle.scan_rules.proofs.Steps.{missing_here, missing_past}
use Rattle.scan_rules.proofs.missing.missing_ids.Goals as goal
use Rattle.scan_rules.proofs.missing.missing_ids.Goals.{then-is_missing+in_ok-push, else-is_missing}

pub loop-i-preserved : goal.loop-i-preserved
loop-i-preserved c =
    let found = c.args.found.now in
    let pvs = c.args.group.now.pvs in
    let whole = missing_by found pvs in
    elim c.if-is_missing.branch [
      | then-is_missing+in_ok-push w ↦
          ap (λ v. v.items ++ missing_by found (drop (c.loop-i.i + 1) pvs)) w.missing-is
          ∙ ap (λ (l : List (List ℕ)). l ++ missing_by found (drop (c.loop-i.i + 1) pvs)) w.in_ok-push.ensures.items
          ∙ missing_here found pvs c.loop-i.i _ c.loop-i.missing.items whole c.get.ensures c.loop-i.invariant
          (sym c.is_missing.ensures ∙ w.if-is_missing.true)
      | else-is_missing w ↦
          ap (λ v. v.items ++ missing_by found (drop (c.loop-i.i + 1) pvs)) w.missing-is
          ∙ missing_past found pvs c.loop-i.i _ c.loop-i.missing.items whole c.get.ensures c.loop-i.invariant
          (sym c.is_missing.ensures ∙ w.if-is_missing.false)
    ]
