-- Six columns.
use Rattle.std.proofs.Common.{◌≡◌, List, ℕ, ◌++◌, ap, ◌∙◌, length, subst}
use Rattle.std.specs.Prelude.{IfOk, codes}
use Rattle.meta_model.specs.declared.group.Group.{Group}
use Rattle.lvm_report.specs.Columns.{left, right}
use Rattle.lvm_report.specs.Volumes.{extents_of_group, free_of_group, visible_volumes}
use Rattle.lvm_report.proofs.OneLine.{column, first_column, last_column}
use Rattle.lvm_report.proofs.group_line.put_group.Goals as goal

pub returns : goal.returns
returns c =
    let group : Group = c.args.group.now in
    let text : List ℕ = c.args.text.now.items in
    let space : List ℕ = codes " " in
    let end : List ℕ = codes "\n" in
    let one : List ℕ = c.put_left.new.text.items in
    let two : List ℕ = c.put_right.new.text.items in
    let three : List ℕ = c.put_right-2.new.text.items in
    let four : List ℕ = c.put_right-3.new.text.items in
    let five : List ℕ = c.put_right-4.new.text.items in
    let line1 : List ℕ = left 16 group.name ++ space in
    let line2 : List ℕ = line1 ++ right 6 (length group.pvs) ++ space in
    let line3 : List ℕ = line2 ++ right 6 (length (visible_volumes group)) ++ space in
    let line4 : List ℕ = line3 ++ right 10 group.seqno ++ space in
    let line5 : List ℕ = line4 ++ right 10 (extents_of_group group) ++ space in
    let first : one ≡ text ++ line1 =
    first_column text one (left 16 group.name) space
    (c.in_ok-put_left.ensures ∙ ap (λ (name : List ℕ). text ++ left 16 name ++ space) c.as_bytes.ensures)
    in
    let second : two ≡ text ++ line2 =
    column text one line1 two (right 6 (length group.pvs)) space first
    (c.in_ok-put_right.ensures ∙ ap (λ (n : ℕ). one ++ right 6 n ++ space) c.len.ensures.count)
    in
    let third : three ≡ text ++ line3 =
    column text two line2 three (right 6 (length (visible_volumes group))) space second
    (c.in_ok-put_right-2.ensures ∙ ap (λ (n : ℕ). two ++ right 6 n ++ space) c.count_visible.ensures)
    in
    let fourth : four ≡ text ++ line4 = column text three line3 four (right 10 group.seqno) space third c.in_ok-put_right-3.ensures in
    let fifth : five ≡ text ++ line5 =
    column text four line4 five (right 10 (extents_of_group group)) space fourth
    (c.in_ok-put_right-4.ensures ∙ ap (λ (n : ℕ). four ++ right 10 n ++ space) c.count_extents.ensures)
    in
    last_column c.put_last.result text five line5 c.put_last.new.text.items (right 10 (free_of_group group)) end fifth
    (subst (λ (n : ℕ). IfOk c.put_last.result (λ _. c.put_last.new.text.items ≡ five ++ right 10 n ++ end)) c.in_ok-count_free.ensures
    c.put_last.ensures)
