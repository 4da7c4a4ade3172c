-- A text that is known gives its number, and another is judged and taken in.
use Rattle.std.proofs.Common.{ℕ, List, refl, subst}
use Rattle.scan_rules.specs.Readings.{gives_of}
use Rattle.scan_rules.specs.declared.readings.AreaGives.TheVariants.{Copy as Numbered}
use Rattle.vg_scan.specs.Texts.{IsStored}
use Rattle.vg_scan.proofs.Continued.{continues_one, continues_same}
use Rattle.vg_scan.proofs.TakenTexts.{copy_known, taken_copy, taken_number}
use Rattle.vg_scan.proofs.area.take_text.Goals as goal

pub returns-in-Some-clause-continues : goal.returns-in-Some-clause-continues
returns-in-Some-clause-continues c = continues_same c.args.collected.now.copies c.args.collected.now.copies refl

pub returns-in_err-bytes-clause-continues : goal.returns-in_err-bytes-clause-continues
returns-in_err-bytes-clause-continues c = continues_same c.args.collected.now.copies c.args.collected.now.copies refl

pub returns-in_err-copy-clause-continues : goal.returns-in_err-copy-clause-continues
returns-in_err-copy-clause-continues c = continues_same c.args.collected.now.copies c.args.collected.now.copies refl

pub push_copy-requires : goal.push_copy-requires
push_copy-requires c =
    record { known = copy_known c.args.locn c.in_ok-bytes.bytes.items c.in-Ok.copy c.in_ok-bytes.ensures.count (rw c.in-Ok.is at c.in_ok-copy.ensures) }

pub returns-in_err-push_copy-in-Ok-clause-continues : goal.returns-in_err-push_copy-in-Ok-clause-continues
returns-in_err-push_copy-in-Ok-clause-continues c =
    continues_same c.args.collected.now.copies c.push_copy.new.self.copies c.in_err-push_copy-in-Ok.ensures.copies

pub returns-in_ok-push_copy-in-Ok-clause-given : goal.returns-in_ok-push_copy-in-Ok-clause-given
returns-in_ok-push_copy-in-Ok-clause-given c =
    let pushed = c.in_ok-push_copy-in-Ok.ensures.copies in
    subst (λ (l : List ℕ). IsStored c.args.locn l (gives_of c.push_copy.new.self.copies (Numbered c.in_ok-push_copy-in-Ok.field-0)))
    c.in_ok-bytes.ensures.taken
    (taken_copy c.args.collected.now.copies c.push_copy.new.self.copies c.in-Ok.copy c.in_ok-push_copy-in-Ok.field-0 pushed.0 pushed.1
    c.args.locn c.in_ok-bytes.bytes.items (rw c.in-Ok.is at c.in_ok-copy.ensures))

pub returns-in_ok-push_copy-in-Ok-clause-numbers : goal.returns-in_ok-push_copy-in-Ok-clause-numbers
returns-in_ok-push_copy-in-Ok-clause-numbers c =
    let pushed = c.in_ok-push_copy-in-Ok.ensures.copies in
    taken_number c.args.collected.now.copies c.push_copy.new.self.copies c.in-Ok.copy c.in_ok-push_copy-in-Ok.field-0 pushed.0 pushed.1

pub returns-in_ok-push_copy-in-Ok-clause-continues : goal.returns-in_ok-push_copy-in-Ok-clause-continues
returns-in_ok-push_copy-in-Ok-clause-continues c =
    continues_one c.args.collected.now.copies c.push_copy.new.self.copies c.in-Ok.copy c.in_ok-push_copy-in-Ok.ensures.copies.1

pub returns-in-Err-clause-continues : goal.returns-in-Err-clause-continues
returns-in-Err-clause-continues c = continues_same c.args.collected.now.copies c.args.collected.now.copies refl
