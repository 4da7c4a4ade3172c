-- Visible volumes, each with its number, and the sizes of volumes.
use Rattle.std.proofs.Common.{◌≡◌, ℕ, ◌+◌, ◌*◌, ◌<◌, ◌≤◌, ◌^◌, Bool, true, false, List, ◌∷◌, ◌++◌, length, Some, ap, refl, ◌∙◌, arith}
use Rattle.std.specs.Prelude.{[], codes, if◌then◌else◌, slice_get}
use Rattle.std.specs.List.{enumerate_from, filter, flat_map}
use Rattle.std.proofs.lemmas.List.{at_drop_all}
use Rattle.std.proofs.lemmas.List.FromFn.{length-enumerate_from}
use Rattle.std.proofs.lemmas.Nat.{mul-le}
use Rattle.meta_model.specs.declared.group.Group.{Group}
use Rattle.meta_model.specs.declared.lv.Lv.{Lv}
use Rattle.volume_rules.specs.Extents.{extents_of}
use Rattle.volume_rules.specs.Moving.{leads_to_pvmove}
use Rattle.volume_rules.specs.Rules.{Follow, IsAccepted}
use Rattle.volume_rules.specs.declared.rule.Rule.TheVariants.{Numbers, Follows}
use Rattle.list_laws.proofs.RowWalks.{all_at}
use Rattle.lvm_report.specs.Reports.{lv_line}
use Rattle.lvm_report.specs.VolumeLine.{visible_from, volume_line}
use Rattle.lvm_report.specs.Volumes.{first_kind, kind_of}
use Rattle.lvm_report.proofs.Rows.{next_row, numbered_at, one_line}

abbrev Row : Type 0
Row = List ℕ × Lv

-- how many they are
one_or_none : (is : Bool) (row : ℕ × Row) (rows : List (ℕ × Row))
    → length (if is then row ∷ rows else rows) ≡ (if is then 1 else 0) + length rows
one_or_none true row rows = omega arith
one_or_none false row rows = omega arith

pub one_at_most : (is : Bool) → (if is then 1 else 0) ≤ 1
one_at_most true = omega arith
one_at_most false = omega arith

pub count_next : (group : Group) (number : ℕ) (row : Row) → slice_get group.lvs number ≡ Some row
    → length (visible_from group number) ≡ (if row.1.status.visible then 1 else 0) + length (visible_from group (number + 1))
count_next group number row here =
    ap (λ (rows : List (ℕ × Row)). length (filter (λ (lv : ℕ × Row). lv.1.1.status.visible) rows))
    (next_row (enumerate_from 0 group.lvs) number (number, row) (numbered_at group.lvs number row here))
    ∙ one_or_none row.1.status.visible (number, row) (visible_from group (number + 1))

pub none_past : (group : Group) (number : ℕ) → length group.lvs ≤ number → length (visible_from group number) ≡ 0
none_past group number done =
    at_drop_all (λ (rows : List (ℕ × Row)). length (filter (λ (lv : ℕ × Row). lv.1.1.status.visible) rows)) (enumerate_from 0 group.lvs)
    number (omega (arith, done, length-enumerate_from 0 group.lvs))

-- their lines
line_or_none : (line : ℕ × Row → List ℕ) (is : Bool) (row : ℕ × Row) (rows : List (ℕ × Row))
    → flat_map line (if is then row ∷ rows else rows) ≡ (if is then line row else []) ++ flat_map line rows
line_or_none line true row rows = refl
line_or_none line false row rows = refl

lines_next : (group : Group) (number : ℕ) (row : Row) → slice_get group.lvs number ≡ Some row
    → flat_map (lv_line group) (visible_from group number)
    ≡ (if row.1.status.visible then lv_line group (number, row) else []) ++ flat_map (lv_line group) (visible_from group (number + 1))
lines_next group number row here =
    ap (λ (rows : List (ℕ × Row)). flat_map (lv_line group) (filter (λ (lv : ℕ × Row). lv.1.1.status.visible) rows))
    (next_row (enumerate_from 0 group.lvs) number (number, row) (numbered_at group.lvs number row here))
    ∙ line_or_none (lv_line group) row.1.status.visible (number, row) (visible_from group (number + 1))

pub line_more : (group : Group) (number : ℕ) (row : Row) (moving : Bool) (kind before after whole : List ℕ)
    → slice_get group.lvs number ≡ Some row → moving ≡ leads_to_pvmove group 4 number
    → kind ≡ (if moving then codes "moving" else first_kind row.1.segments)
    → after ≡ before ++ (if row.1.status.visible then volume_line group row.0 kind (extents_of row.1) else [])
    → before ++ flat_map (lv_line group) (visible_from group number) ≡ whole
    → after ++ flat_map (lv_line group) (visible_from group (number + 1)) ≡ whole
line_more group number row moving kind before after whole here moves is put so_far =
    let same : kind ≡ kind_of group number row.1 = is ∙ ap (λ m. if m then codes "moving" else first_kind row.1.segments) moves in
    one_line before after (if row.1.status.visible then lv_line group (number, row) else []) whole
    (flat_map (lv_line group) (visible_from group number)) (flat_map (lv_line group) (visible_from group (number + 1)))
    (put ∙ ap (λ k. before ++ (if row.1.status.visible then volume_line group row.0 k (extents_of row.1) else [])) same)
    (lines_next group number row here) so_far

-- ---- sizes

pub size_is_some : (group : Group) → IsAccepted group → 1 ≤ group.extent_size
size_is_some group accepted = omega (arith, (accepted Numbers).extent_size.0)

pub sectors_are_few : (group : Group) (number : ℕ) (row : Row) → IsAccepted group → slice_get group.lvs number ≡ Some row
    → extents_of row.1 * group.extent_size < 2 ^ 48
sectors_are_few group number row accepted here =
    (all_at (λ (lv : List ℕ × Lv). Follow 0 lv.1.segments × (extents_of lv.1 * group.extent_size < 2 ^ 48)) group.lvs number row
    (accepted Follows) here).1

-- no more extents than sectors
pub extents_are_fewer : (extents size : ℕ) → 1 ≤ size → extents * size < 2 ^ 48 → extents < 2 ^ 64
extents_are_fewer extents size some few = omega (arith, mul-le extents 1 extents size (omega arith) some)
