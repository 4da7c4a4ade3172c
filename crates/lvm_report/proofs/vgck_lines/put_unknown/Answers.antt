-- One path more.
use Rattle.std.proofs.Common.{ℕ, List, ◌++◌, refl, arith, length}
use Rattle.std.specs.Prelude.{codes}
use Rattle.std.specs.List.{flat_map}
use Rattle.std.proofs.lemmas.Option.{slice_get_read}
use Rattle.lvm_report.proofs.Rows.{line_more, walked}
use Rattle.lvm_report.proofs.vgck_lines.put_unknown.Goals as goal

abbrev line : List ℕ → List ℕ
line path = codes "unknown key " ++ path ++ codes "\n"

pub loop-number-preserved : goal.loop-number-preserved
loop-number-preserved c =
    line_more line c.args.paths.now c.loop-number.number c.get.result.now c.loop-number.text.items c.put_key.new.text.items
    (c.args.text.now.items ++ flat_map line c.args.paths.now)
    (slice_get_read c.args.paths.now (length c.args.paths.now) c.loop-number.number c.get.result.now refl (omega arith) c.get.ensures)
    c.in_ok-put_key.ensures c.loop-number.invariant

pub returns : goal.returns
returns c =
    walked (flat_map line) c.args.paths.now c.loop-number.number c.loop-number.text.items
    (c.args.text.now.items ++ flat_map line c.args.paths.now) refl (omega arith) c.loop-number.invariant
