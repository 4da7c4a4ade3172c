-- Each disk that the words of a run name has a name that disks can have.
use Rattle.std.proofs.Common.{◌≡◌, ◌⊎◌, All, Bool, true, false, if◌then◌else◌, List, [], ◌∷◌, Option, Some, None, IfSome, option_map}
use Rattle.std.proofs.Common.{option_and_then, subst, inl, inr}
use Rattle.std.proofs.lemmas.Bool.{cases_Bool}
use Rattle.std.proofs.lemmas.List.Elements.{All-cons, All-nil}
use Rattle.command_table.specs.Options.{Word}
use Rattle.command_table.specs.Values.{is_disk_name}
use Rattle.lvm_words.specs.declared.command_line.CommandLine.{CommandLine}
use Rattle.lvm_words.specs.CommandLines.{command_line_of}
use Rattle.lvm_words.specs.Disks.{Front, are_disks, front_of, is_disk_option, where_disks, with_name}
use Rattle.lvm_words.proofs.LineNames.{names_of_line}
use Rattle.lvm_run.specs.Runs.{AreNamed}
use Rattle.lvm_run.proofs.NamedDisks.{few_named}

abbrev AllNamed : List Word → Type 0
AllNamed names = All (λ (name : Word). is_disk_name name ≡ true) names

none_named : AllNamed []
none_named = All-nil (λ (name : Word). is_disk_name name ≡ true)

one_more : (name : Word) (front : Option Front) → is_disk_name name ≡ true → IfSome front (λ (f : Front). AllNamed f.names)
    → IfSome (option_map (with_name name) front) (λ (f : Front). AllNamed f.names)
one_more name None is named = tt
one_more name (Some front) is named = All-cons (λ (own : Word). is_disk_name own ≡ true) name front.names is named

front_named : (words : List Word) → IfSome (front_of words) (λ (f : Front). AllNamed f.names)
unfolding front_of
front_named [] = none_named
front_named (word ∷ []) = go (is_disk_option word)
  where
    go : (b : Bool) → IfSome (if b then None else Some (record { names = []; rest = word ∷ [] })) (λ (f : Front). AllNamed f.names)
    go true = tt
    go false = none_named
front_named (word ∷ name ∷ rest) = go (front_named rest) (is_disk_option word) (cases_Bool (is_disk_name name))
  where
    go : IfSome (front_of rest) (λ (f : Front). AllNamed f.names) → (b : Bool) → (is_disk_name name ≡ true) ⊎ (is_disk_name name ≡ false)
        → IfSome (if b then (if is_disk_name name then option_map (with_name name) (front_of rest) else None) else Some
        (record { names = []; rest = word ∷ name ∷ rest })) (λ (f : Front). AllNamed f.names)
    go named true (inl e) = rw e (one_more name (front_of rest) e named)
    go named true (inr e) = rw e tt
    go named false e = none_named

where_named : (front : Option Front) → IfSome front (λ (f : Front). AllNamed f.names)
    → IfSome (option_map (λ (f : Front). f.names) (option_and_then where_disks front)) AllNamed
where_named None named = tt
where_named (Some front) named = go (are_disks front.names)
  where
    go : (b : Bool) → IfSome (option_map (λ (f : Front). f.names) (if b then Some front else None)) AllNamed
    go true = named
    go false = tt

-- a run has 1 to 64 disks, each with a name that disks can have
pub are_named : (words : List Word) (line : CommandLine) → command_line_of words ≡ Some line → AreNamed line.names
are_named words line is =
    let few = few_named words line is in
    record {
      some = few.0;
      few = few.1;
      each =
          subst (λ (o : Option (List Word)). IfSome o AllNamed) (names_of_line words line is)
          (where_named (front_of words) (front_named words));
    }
