-- Three parts.
use Rattle.std.proofs.Common.{List, ℕ, ◌++◌, ap, ◌∙◌}
use Rattle.std.specs.Prelude.{codes}
use Rattle.lvm_report.proofs.OneLine.{last_part, part}
use Rattle.lvm_report.proofs.vgck_lines.put_key.Goals as goal

pub returns : goal.returns
returns c =
    let text : List ℕ = c.args.text.now.items in
    let word : List ℕ = codes "unknown key " in
    let path : List ℕ = c.args.path.now in
    last_part c.extend_from_slice-3.result text c.extend_from_slice-2.new.self.items (word ++ path) c.extend_from_slice-3.new.self.items
    (codes "\n")
    (part text c.extend_from_slice.new.self.items word c.extend_from_slice-2.new.self.items path c.in_ok-extend_from_slice.ensures.items
    (c.in_ok-extend_from_slice-2.ensures.items ∙ ap (λ (bytes : List ℕ). c.extend_from_slice.new.self.items ++ bytes) c.as_bytes.ensures))
    c.extend_from_slice-3.ensures.items
