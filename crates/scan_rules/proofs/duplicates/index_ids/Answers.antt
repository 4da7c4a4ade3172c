-- One id more, from the last to the first.
use Rattle.std.proofs.Common.{◌≡◌, ℕ, ◌+◌, ◌-◌, List, ◌∷◌, drop, sym, ap, ◌∙◌, arith}
use Rattle.std.specs.FinMap as map
use Rattle.scan_rules.specs.Decision.{first_duplicate}
use Rattle.scan_rules.specs.Found.{disks_by_id}
use Rattle.scan_rules.proofs.FoundIds.{repeats_later, repeats_with}
use Rattle.list_laws.proofs.Walks.{next_read}
use Rattle.scan_rules.proofs.duplicates.index_ids.Goals as goal
use Rattle.scan_rules.proofs.duplicates.index_ids.Goals.{in-Some, in_default}

pub loop-i-preserved : goal.loop-i-preserved
loop-i-preserved c =
    let ids : List (ℕ × List ℕ) = c.args.ids.now in
    let i : ℕ = c.loop-i.i in
    let one : ℕ × List ℕ = c.index-ids-i.result in
    let more : List (ℕ × List ℕ) = drop i ids in
    let next : drop (i - 1) ids ≡ one ∷ more =
    next_read ids (i - 1) one (omega (arith, c.loop-i-test.true, c.loop-i.auto.i)) c.index-ids-i.is
    ∙ ap (λ (n : ℕ). one ∷ drop n ids) (let e : i - 1 + 1 ≡ i = omega (arith, c.loop-i-test.true) in e) in
    let got : map.get (disks_by_id more) one.1 ≡ c.get.result = ap (λ m. map.get m one.1) (sym c.loop-i.invariant.0) ∙ sym c.get.ensures in
    let repeated : c.match-get.repeated ≡ first_duplicate (one ∷ more) =
    elim c.match-get.branch [
      | in-Some w ↦ w.repeated-is ∙ repeats_with one more w.in-Some.other (got ∙ w.in-Some.is)
      | in_default w ↦ w.repeated-is ∙ c.loop-i.invariant.1 ∙ repeats_later one more (got ∙ w.in_default.is)
    ] in (
      c.in_ok-insert.ensures.ok ∙ ap (λ m. map.insert m one.1 one.0) c.loop-i.invariant.0 ∙ sym (ap disks_by_id next),
      repeated ∙ sym (ap first_duplicate next),
    )
