-- Six kinds of lines.
use Rattle.std.proofs.Common.{◌≡◌, ◌<◌, ◌++◌, ℕ, Bool, List, sym, ap, ◌∙◌, length, subst, arith}
use Rattle.std.specs.Prelude.{All, IfOk, codes}
use Rattle.std.proofs.Math.Path.{fun_ext}
use Rattle.std.specs.FinSet as set
use Rattle.std.specs.List.{flat_map, list_any}
use Rattle.lvm_id.specs.LvmId.{hyphen_form}
use Rattle.command_table.specs.Options.{Word}
use Rattle.vg_found.specs.declared.found.Found.{Found}
use Rattle.vg_found.specs.StaleAreas.{is_on}
use Rattle.lvm_report.specs.Reports.{disk_lines}
use Rattle.lvm_report.proofs.OneLine.{last_put, part}
use Rattle.lvm_report.proofs.vgck_lines.put_faults.Goals as goal

abbrev missing_lines : List (List ℕ) → List ℕ
missing_lines ids = flat_map (λ id. codes "missing " ++ hyphen_form id ++ codes "\n") ids

abbrev unknown_lines : List (List ℕ) → List ℕ
unknown_lines paths = flat_map (λ path. codes "unknown key " ++ path ++ codes "\n") paths

abbrev stale_lines : List Word → ℕ → List (ℕ × ℕ) → List ℕ
stale_lines names disks areas = disk_lines (codes "stale ") names disks (λ pv. list_any (is_on pv) areas)

pub stale_disks-stale-requires : goal.stale_disks-stale-requires
stale_disks-stale-requires c = record {
  few = λ k d within.
      let on : All (λ (area : ℕ × ℕ). area.0 < length c.args.found.now.disks) c.as_slice.result.now =
      subst (λ (areas : List (ℕ × ℕ)). All (λ (area : ℕ × ℕ). area.0 < length c.args.found.now.disks) areas) (sym c.as_slice.ensures)
      c.requires.stale
      in
      let below = on k d within in
      omega (arith, below, c.requires.few);
}

pub returns : goal.returns
returns c =
    let found : Found = c.args.found.now in
    let names : List Word = c.args.names.now in
    let text : List ℕ = c.args.text.now.items in
    let disks : ℕ = length found.disks in
    let one : List ℕ = c.put_set.new.text.items in
    let two : List ℕ = c.put_set-2.new.text.items in
    let three : List ℕ = c.put_set-3.new.text.items in
    let four : List ℕ = c.put_missing.new.text.items in
    let five : List ℕ = c.put_unknown.new.text.items in
    let stale : List ℕ = stale_lines names disks found.stale in
    let strays : List ℕ = disk_lines (codes "stray ") names disks (set.contains found.strays) in
    let old : List ℕ = disk_lines (codes "old ") names disks (set.contains found.old) in
    let missing : List ℕ = missing_lines found.missing in
    let unknown : List ℕ = unknown_lines found.unknown in
    let marked : set.contains c.stale_disks-stale.result ≡ λ (pv : ℕ). list_any (is_on pv) found.stale =
    fun_ext (λ (pv : ℕ). c.stale_disks-stale.ensures pv ∙ ap (list_any (is_on pv)) c.as_slice.ensures)
    in
    let first : one ≡ text ++ stale =
    c.in_ok-put_set.ensures ∙ ap (λ (n : ℕ). text ++ disk_lines (codes "stale ") names n (set.contains c.stale_disks-stale.result))
    c.len.ensures
    ∙ ap (λ (test : ℕ → Bool). text ++ disk_lines (codes "stale ") names disks test) marked
    in
    let second : two ≡ text ++ (stale ++ strays) =
    part text one stale two strays first (c.in_ok-put_set-2.ensures
    ∙ ap (λ (n : ℕ). one ++ disk_lines (codes "stray ") names n (set.contains found.strays)) c.len-2.ensures)
    in
    let third : three ≡ text ++ (stale ++ strays ++ old) =
    part text two (stale ++ strays) three old second (c.in_ok-put_set-3.ensures
    ∙ ap (λ (n : ℕ). two ++ disk_lines (codes "old ") names n (set.contains found.old)) c.len-3.ensures)
    in
    let fourth : four ≡ text ++ (stale ++ strays ++ old ++ missing) =
    part text three (stale ++ strays ++ old) four missing third
    (c.in_ok-put_missing.ensures ∙ ap (λ (ids : List (List ℕ)). three ++ missing_lines ids) c.as_slice-2.ensures)
    in
    let fifth : five ≡ text ++ (stale ++ strays ++ old ++ missing ++ unknown) =
    part text four (stale ++ strays ++ old ++ missing) five unknown fourth c.in_ok-put_unknown.ensures in
    last_put c.put_set-4.result text five (stale ++ strays ++ old ++ missing ++ unknown) c.put_set-4.new.text.items
    (disk_lines (codes "unreadable ") names disks (set.contains found.unread)) fifth
    (subst (λ (n : ℕ). IfOk c.put_set-4.result
    (λ _. c.put_set-4.new.text.items ≡ five ++ disk_lines (codes "unreadable ") names n (set.contains found.unread))) c.len-4.ensures
    c.put_set-4.ensures)
