use Rattle.std.proofs.Common.{◌≡◌, ℕ, ◌+◌, ◌-◌, ◌*◌, List, take, drop, sym, ap, ◌∙◌, arith}
use Rattle.command_table.specs.declared.command.Command.{Command}
use Rattle.data_lines.specs.DataLines.{bytes_of_hex, value_for}
use Rattle.data_lines.proofs.contents.sector_for.Goals as goal

pub returns-in-Write : goal.returns-in-Write
returns-in-Write c =
    let skip : ℕ = (c.args.at - c.in-Write.start) * 1024 in
    let many : skip + 1024 - skip ≡ 1024 = omega arith in
    c.digits_sector.ensures ∙ ap (λ (n : ℕ). bytes_of_hex (take n (drop skip c.as_bytes-digits.result.now))) many
    ∙ ap (λ (digits : List ℕ). bytes_of_hex (take 1024 (drop skip digits))) c.as_bytes-digits.ensures
    ∙ sym (ap (λ (command : Command). value_for command c.args.at) c.in-Write.is)
