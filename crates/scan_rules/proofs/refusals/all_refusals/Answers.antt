use Rattle.std.proofs.Common.{◌≡◌, ℕ, ◌+◌, ◌++◌, List, length, filter_map, sym, ap, ◌∙◌, arith}
use Rattle.std.proofs.lemmas.List.{length_push}
use Rattle.scan_rules.specs.declared.copy_refusal.CopyRefusal.{CopyRefusal}
use Rattle.scan_rules.specs.declared.readings.DiskRead.{DiskRead}
use Rattle.scan_rules.specs.Flat.{areas_on, refused_in, refused_on}
use Rattle.scan_rules.proofs.Steps.{refused_more}
use Rattle.scan_rules.proofs.refusals.all_refusals.Goals as goal

pub loop-disk-preserved : goal.loop-disk-preserved
loop-disk-preserved c =
    let yielded : List DiskRead = c.loop-disk.yielded in
    let disk : DiskRead = c.in-Some.disk in
    let number : c.loop-disk.number ≡ 0 + length yielded = omega (arith, c.loop-disk.invariant.1) in (
      c.in_ok-push_refusals_of.ensures
          ∙ ap (λ (l : List (ℕ × CopyRefusal)). l ++ filter_map (refused_in c.loop-disk.number) (areas_on disk)) c.loop-disk.invariant.0
          ∙ ap (λ (n : ℕ). refused_on 0 yielded ++ filter_map (refused_in n) (areas_on disk)) number
          ∙ sym (refused_more 0 yielded disk),
      omega (arith, c.loop-disk.invariant.1, length_push yielded disk),
    )
