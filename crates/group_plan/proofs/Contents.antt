-- Disks' names can be printed.
use Rattle.std.proofs.Common.{◌≡◌, ℕ, ◌≤◌, true, ◌&&◌, ◌==◌, List, length, arith}
use Rattle.std.specs.Prelude.{nat_le, not}
use Rattle.std.proofs.lemmas.Bool.{and_parts, leb-true, ne_eqb}
use Rattle.std.specs.List.{list_all}
use Rattle.command_table.specs.Values.{is_disk_name, is_visible}
use Rattle.conf_text.specs.Grammar.{IsContent}
use Rattle.group_edits.proofs.PrintedIds.{all_allowed, allows, byte_allowed}

visible_allowed : (b : ℕ) → is_visible b ≡ true → allows b ≡ true
visible_allowed b visible =
    let from : 33 ≤ b = leb-true 33 b (and_parts (nat_le 33 b) (nat_le b 126) visible).0 in
    byte_allowed b (ne_eqb b 10 (λ e. omega (arith, e, from))) (ne_eqb b 0 (λ e. omega (arith, e, from)))

pub disk_name-content : (name : List ℕ) → is_disk_name name ≡ true → IsContent name
disk_name-content name is =
    let parts : (not (length name == 0) ≡ true) × ((nat_le (length name) 127 && list_all is_visible name) ≡ true) =
    and_parts (not (length name == 0)) (nat_le (length name) 127 && list_all is_visible name) is in
    let more : (nat_le (length name) 127 ≡ true) × (list_all is_visible name ≡ true) =
    and_parts (nat_le (length name) 127) (list_all is_visible name) parts.1 in
    all_allowed is_visible visible_allowed name more.1
