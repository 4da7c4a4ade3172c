use Rattle.std.proofs.Common.{length, Ok, sym, ap, ◌∙◌}
use Rattle.lvm_id.proofs.Groups.{length-hyphen_form, joined-hyphen_form, joined, no_misfit}
use Rattle.lvm_id.proofs.parse.parse_hyphen.Goals as goal

pub returns-then-text-ne38-clause-accepted : goal.returns-then-text-ne38-clause-accepted
returns-then-text-ne38-clause-accepted c chars valid e =
    absurd (c.if-text-ne38.true (sym (ap length e) ∙ length-hyphen_form chars valid.length_is))

pub returns-in-Some-clause-accepted : goal.returns-in-Some-clause-accepted
returns-in-Some-clause-accepted c chars valid e =
    absurd (no_misfit chars c.args.text.now c.in-Some.place valid e c.in-Some.ensures)

pub returns-in-Some-2-clause-accepted : goal.returns-in-Some-2-clause-accepted
returns-in-Some-2-clause-accepted c chars valid e =
    absurd (no_misfit chars c.args.text.now c.in-Some.place valid e c.in-Some.ensures)

pub returns-in-None-clause-accepted : goal.returns-in-None-clause-accepted
returns-in-None-clause-accepted c chars valid e =
    ap Ok (c.new.ensures ∙ sym (joined-hyphen_form c.without_hyphens.result c.without_hyphens.ensures.valid.length_is)
    ∙ ap joined (c.without_hyphens.ensures.printed ∙ sym e) ∙ joined-hyphen_form chars valid.length_is)
