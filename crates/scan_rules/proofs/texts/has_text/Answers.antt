-- Equal numbers have equal texts.
use Rattle.std.proofs.Common.{ℕ, false, Option, ap, sym, ◌∙◌, refl}
use Rattle.std.specs.Prelude.{option_map, unwrap_or, slice_get}
use Rattle.std.specs.Str.{bytes_eq}
use Rattle.scan_rules.specs.declared.readings.GroupCopy.{GroupCopy}
use Rattle.scan_rules.proofs.Scanning.{same_bytes_to}
use Rattle.scan_rules.proofs.texts.has_text.Goals as goal

pub returns-then-number-own : goal.returns-then-number-own
returns-then-number-own c =
    sym (ap (λ (n : ℕ). unwrap_or (option_map (λ (other : GroupCopy). bytes_eq other.text c.args.copy.now.text)
    (slice_get c.args.copies.now n)) false) c.if-number-own.true
    ∙ ap (λ (o : Option GroupCopy). unwrap_or (option_map (λ (other : GroupCopy). bytes_eq other.text c.args.copy.now.text) o) false)
    c.requires
    ∙ same_bytes_to c.args.copy.now.text c.args.copy.now.text refl)
