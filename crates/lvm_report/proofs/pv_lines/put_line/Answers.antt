-- Four columns.
use Rattle.std.proofs.Common.{◌≡◌, List, ℕ, ◌++◌}
use Rattle.std.specs.Prelude.{codes}
use Rattle.lvm_report.specs.Columns.{left, right}
use Rattle.lvm_report.proofs.OneLine.{column, first_column, last_column}
use Rattle.lvm_report.proofs.pv_lines.put_line.Goals as goal

pub returns : goal.returns
returns c =
    let text : List ℕ = c.args.text.now.items in
    let space : List ℕ = codes " " in
    let one : List ℕ = c.put_left.new.text.items in
    let two : List ℕ = c.put_left-2.new.text.items in
    let three : List ℕ = c.put_right.new.text.items in
    let name : List ℕ = left 20 c.args.name.now in
    let group : List ℕ = left 16 c.args.group.now in
    let extents : List ℕ = right 10 c.args.extents in
    let first : one ≡ text ++ (name ++ space) = first_column text one name space c.in_ok-put_left.ensures in
    let second : two ≡ text ++ (name ++ space ++ group ++ space) =
    column text one (name ++ space) two group space first c.in_ok-put_left-2.ensures in
    let third : three ≡ text ++ (name ++ space ++ group ++ space ++ extents ++ space) =
    column text two (name ++ space ++ group ++ space) three extents space second c.in_ok-put_right.ensures in
    last_column c.put_last.result text three (name ++ space ++ group ++ space ++ extents ++ space) c.put_last.new.text.items
    (right 10 c.args.free) (codes "\n") third c.put_last.ensures
