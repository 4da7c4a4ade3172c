-- Four columns; a volume has no more extents than sectors.
use Rattle.std.proofs.Common.{◌≡◌, ◌++◌, ◌*◌, ◌<◌, ◌^◌, ℕ, List, ap, sym, ◌∙◌, subst, sum_by}
use Rattle.std.specs.Prelude.{IfOk, codes}
use Rattle.meta_model.specs.declared.segment.Segment.{Segment}
use Rattle.volume_rules.specs.Extents.{extents_of}
use Rattle.lvm_report.specs.Columns.{left, right}
use Rattle.lvm_report.proofs.OneLine.{column, first_column, last_column}
use Rattle.lvm_report.proofs.VolumeLines.{extents_are_fewer}
use Rattle.lvm_report.proofs.volume_lines.put_volume.Goals as goal

pub count_extents-extents-requires : goal.count_extents-extents-requires
count_extents-extents-requires c =
    subst (λ (segments : List Segment). sum_by (λ (segment : Segment). segment.count) segments < 2 ^ 64) (sym c.as_slice.ensures)
    (extents_are_fewer (extents_of c.args.lv.now) c.args.group.now.extent_size c.requires.size c.requires.few)

pub returns : goal.returns
returns c =
    let text : List ℕ = c.args.text.now.items in
    let size : ℕ = c.args.group.now.extent_size in
    let space : List ℕ = codes " " in
    let end : List ℕ = codes "\n" in
    let one : List ℕ = c.put_left.new.text.items in
    let two : List ℕ = c.put_left-2.new.text.items in
    let three : List ℕ = c.put_left-3.new.text.items in
    let line1 : List ℕ = left 16 c.args.name.now ++ space in
    let line2 : List ℕ = line1 ++ left 16 c.args.group.now.name ++ space in
    let line3 : List ℕ = line2 ++ left 6 c.args.kind.now ++ space in
    let first : one ≡ text ++ line1 =
    first_column text one (left 16 c.args.name.now) space
    (c.in_ok-put_left.ensures ∙ ap (λ (name : List ℕ). text ++ left 16 name ++ space) c.as_bytes.ensures)
    in
    let second : two ≡ text ++ line2 =
    column text one line1 two (left 16 c.args.group.now.name) space first
    (c.in_ok-put_left-2.ensures ∙ ap (λ (name : List ℕ). one ++ left 16 name ++ space) c.as_bytes-2.ensures)
    in
    let third : three ≡ text ++ line3 =
    column text two line2 three (left 6 c.args.kind.now) space second
    (c.in_ok-put_left-3.ensures ∙ ap (λ (kind : List ℕ). two ++ left 6 kind ++ space) c.as_bytes-3.ensures.value)
    in
    let extents : c.count_extents-extents.result ≡ extents_of c.args.lv.now =
    c.count_extents-extents.ensures ∙ ap (λ (segments : List Segment). sum_by (λ (segment : Segment). segment.count) segments)
    c.as_slice.ensures
    in
    last_column c.put_last.result text three line3 c.put_last.new.text.items (right 12 (extents_of c.args.lv.now * size)) end third
    (subst (λ (n : ℕ). IfOk c.put_last.result (λ _. c.put_last.new.text.items ≡ three ++ right 12 (n * size) ++ end)) extents
    c.put_last.ensures)
