-- The words of a run name 1 to 64 disks, or none.
use Rattle.std.proofs.Common.{◌≡◌, ◌≤◌, Bool, true, false, if◌then◌else◌, ◌==◌, nat_le, not, List, [], ◌∷◌, length, Option, Some, None}
use Rattle.std.proofs.Common.{refl, subst, arith}
use Rattle.std.proofs.lemmas.Bool.{and_parts, leb-true}
use Rattle.std.specs.Prelude.{option_and_then, option_map}
use Rattle.command_table.specs.Options.{Word}
use Rattle.lvm_words.specs.declared.command_line.CommandLine.{CommandLine}
use Rattle.lvm_words.specs.CommandLines.{command_line_of}
use Rattle.lvm_words.specs.Disks.{Front, are_disks, front_of, where_disks}
use Rattle.lvm_words.proofs.LineNames.{names_of_line}

in_bounds : (names : List Word) → are_disks names ≡ true → (1 ≤ length names) × (length names ≤ 64)
in_bounds [] are = absurd (cc)
in_bounds (name ∷ names) are =
    let few = (and_parts (not (length (name ∷ names) == 0)) _ are).1 in
    (omega arith, leb-true (length (name ∷ names)) 64 (and_parts (nat_le (length (name ∷ names)) 64) _ few).0)

bounds_of : (front : Option Front) (names : List Word)
    → option_map (λ (f : Front). f.names) (option_and_then where_disks front) ≡ Some names → (1 ≤ length names) × (length names ≤ 64)
bounds_of None names is = absurd (cc)
bounds_of (Some front) names is = go (are_disks front.names) refl is
  where
    go : (b : Bool) → are_disks front.names ≡ b → option_map (λ (f : Front). f.names) (if b then Some front else None) ≡ Some names
        → (1 ≤ length names) × (length names ≤ 64)
    go true are is =
        let same : front.names ≡ names = cc in subst (λ (l : List Word). (1 ≤ length l) × (length l ≤ 64)) same (in_bounds front.names are)
    go false are is = absurd (cc)

pub few_named : (words : List Word) (line : CommandLine) → command_line_of words ≡ Some line
    → (1 ≤ length line.names) × (length line.names ≤ 64)
few_named words line is = bounds_of (front_of words) line.names (names_of_line words line is)
