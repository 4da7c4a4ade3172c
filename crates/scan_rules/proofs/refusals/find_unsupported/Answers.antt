use Rattle.std.proofs.Common.{◌+◌, drop, sym, ◌∙◌}
use Rattle.list_laws.proofs.Walks.{next_read}
use Rattle.scan_rules.proofs.Steps.{supported_step, unsupported_step}
use Rattle.scan_rules.proofs.refusals.find_unsupported.Goals as goal

pub returns-then-has_unsupported_text : goal.returns-then-has_unsupported_text
returns-then-has_unsupported_text c =
    let disks = c.args.disks.now in
    let i = c.loop-number.number in
    let disk = c.index-disks-number.result in
    sym (unsupported_step i (drop i disks) disk (drop (i + 1) disks)
    (next_read disks i disk c.loop-number-test.true c.index-disks-number.is)
    (sym c.has_unsupported_text.ensures ∙ c.if-has_unsupported_text.true))
    ∙ c.loop-number.invariant

pub loop-number-preserved : goal.loop-number-preserved
loop-number-preserved c =
    let disks = c.args.disks.now in
    let i = c.loop-number.number in
    let disk = c.index-disks-number.result in
    supported_step i (drop i disks) disk (drop (i + 1) disks) (next_read disks i disk c.loop-number-test.true c.index-disks-number.is)
    (sym c.has_unsupported_text.ensures ∙ c.if-has_unsupported_text.false)
    ∙ c.loop-number.invariant
