-- A line that reads or writes has a sector.
use Rattle.std.proofs.Common.{◌<◌, ◌≡◌, ◌&&◌, ◌||◌, ◌==◌, ◌+◌, ◌%◌, ◌/◌, ℕ, suc, Bool, true, false, not, nat_le, nat_lt, if◌then◌else◌}
use Rattle.std.proofs.Common.{List, [], ◌∷◌, ◌++◌, length, Option, Some, None, refl, sym, subst, arith}
use Rattle.std.specs.Prelude.{⊤, fold, option_and_then}
use Rattle.std.specs.Option.{option_map_or}
use Rattle.std.proofs.lemmas.Bool.{and_parts, false≢true, leb-true, lt-ltb}
use Rattle.std.proofs.lemmas.Nat.{le-div}
use Rattle.std.proofs.lemmas.Option.{none-some}
use Rattle.command_table.specs.declared.command.Command.{Command}
use Rattle.command_table.specs.declared.fault.Fault.{Fault}
use Rattle.command_table.specs.declared.fault.Fault.TheVariants.{BadCount}
use Rattle.command_table.specs.declared.kind.Kind.{Kind}
use Rattle.command_table.specs.declared.kind.Kind.TheVariants.{Flag}
use Rattle.command_table.specs.declared.role.Role.{Role}
use Rattle.command_table.specs.declared.role.Role.TheVariants as role
use Rattle.command_table.specs.declared.table.CommandName.{CommandName}
use Rattle.command_table.specs.declared.table.OptionRow.{OptionRow}
use Rattle.command_table.specs.Options.{Word, is_dashed}
use Rattle.command_table.specs.Table.{argument_of, options_of}
use Rattle.command_table.specs.Values.{are_sectors, fault_in, is_between, number_fault, number_of}
use Rattle.command_table.specs.Words.{Read as Reading, Split, after_role, after_word, fault_of, first_fault, has_key}
use Rattle.command_table.specs.Words.{option_named, role_of, role_of_option, role_of_other, role_of_row}
use Rattle.list_laws.proofs.Bools.{true_lt}
use Rattle.data_lines.specs.DataLines.{covers_sector, in_range, is_data, range_covers, range_of}
use Rattle.world_history.proofs.EntryLists.{in_range_at}

-- a command that reads or writes does so to a sector or more
abbrev pub has_sectors : Command → Bool
has_sectors command = not (is_data command) || nat_lt 0 (option_map_or (λ (r : ℕ × ℕ). r.1) (range_of command) 0)

-- ---- arguments of which none has a fault

-- the fault of the word that is the argument with this number
abbrev pub argument_fault : CommandName → ℕ → Word → Option Fault
argument_fault called number word = option_and_then (λ (kind : Kind). fault_in kind word) (argument_of called number)

-- no word has a fault, by its number
abbrev pub AreFine : (ℕ → Word → Option Fault) → List Word → Type 0
AreFine fault [] = ⊤
AreFine fault (word ∷ words) = (fault 0 word ≡ None) × AreFine (λ n. fault (suc n)) words

one_fine : (fault : ℕ → Word → Option Fault) (words : List Word) (word : Word) → AreFine fault words → fault (length words) word ≡ None
    → AreFine fault (words ++ word ∷ [])
one_fine fault [] word fine none = (none, tt)
one_fine fault (first ∷ words) word fine none = (fine.0, one_fine (λ n. fault (suc n)) words word fine.1 none)

-- a word that is an argument has this number
abbrev Numbers : ℕ → Role → Type 0
Numbers number (role.Argument own) = own ≡ number
Numbers number _ = ⊤

row_numbers : (number : ℕ) (row : OptionRow) → Numbers number (role_of_row row)
row_numbers number row = by row.kind
  where
    by : (kind : Kind) → Numbers number (role_of_row (record { key = row.key; kind = kind }))
    by Flag = tt
    by kind = tt

option_numbers : (split : Split) (row : Option OptionRow) → Numbers (length split.arguments) (role_of_option split row)
option_numbers split None = tt
option_numbers split (Some row) = by (has_key split.seen row.key)
  where
    by : (before : Bool) → Numbers (length split.arguments) (if before then role.Stray else role_of_row row)
    by true = tt
    by false = row_numbers (length split.arguments) row

other_numbers : (split : Split) (waiting : Option OptionRow) → Numbers (length split.arguments) (role_of_other split waiting)
other_numbers split None = refl
other_numbers split (Some row) = tt

-- the next argument's number is how many there are
word_numbers : (rows : List OptionRow) (split : Split) (word : Word) → Numbers (length split.arguments) (role_of rows split word)
word_numbers rows split word = by (is_dashed word)
  where
    by : (dashed : Bool) → Numbers (length split.arguments)
        (if dashed then role_of_option split (option_named rows word) else role_of_other split split.waiting)
    by true = option_numbers split (option_named rows word)
    by false = other_numbers split split.waiting

role_fine : (called : CommandName) (split : Split) (word : Word) (next : Role) → Numbers (length split.arguments) next
    → fault_of called word next ≡ None → AreFine (argument_fault called) split.arguments
    → AreFine (argument_fault called) (after_role split word next).arguments
role_fine called split word role.Stray is none fine = fine
role_fine called split word (role.Flag key) is none fine = fine
role_fine called split word (role.Option row) is none fine = fine
role_fine called split word (role.Value row) is none fine = fine
role_fine called split word (role.Argument number) is none fine =
    one_fine (argument_fault called) split.arguments word fine (subst (λ (n : ℕ). argument_fault called n word ≡ None) is none)

neither_fault : (fault : Option (Fault × ℕ)) (next : Option Fault) (place : ℕ) → first_fault fault next place ≡ None
    → (fault ≡ None) × (next ≡ None)
neither_fault (Some fault) next place none = absurd (none-some fault (sym none))
neither_fault None (Some fault) place none = absurd (none-some (fault, place) (sym none))
neither_fault None None place none = (refl, refl)

-- where the words have no fault, no argument has one
pub words_fine : (called : CommandName) (words : List (Word × ℕ)) (so_far : Reading)
    → (so_far.fault ≡ None → AreFine (argument_fault called) so_far.split.arguments)
    → (fold (after_word called) so_far words).fault ≡ None
    → AreFine (argument_fault called) (fold (after_word called) so_far words).split.arguments
words_fine called [] so_far fine none = fine none
words_fine called (word ∷ words) so_far fine none = words_fine called words (after_word called so_far word) next none
  where
    next : (after_word called so_far word).fault ≡ None → AreFine (argument_fault called) (after_word called so_far word).split.arguments
    next fault =
        let now = role_of (options_of called) so_far.split word.0 in
        let neither = neither_fault so_far.fault (fault_of called word.0 now) word.1 fault in
        role_fine called so_far.split word.0 now (word_numbers (options_of called) so_far.split word.0) neither.1 (fine neither.0)

-- ---- commands that read or write

passed : (test : Bool) (fault : Option Fault) → (if test then fault else Some BadCount) ≡ None → test ≡ true
passed true fault none = refl
passed false fault none = absurd (none-some BadCount (sym none))

-- a number from 1 on
pub count_has : (word : Word) (n : ℕ) → number_of word ≡ Some n → number_fault (is_between 1 128) (number_of word) ≡ None
    → nat_lt 0 n ≡ true
count_has word n is none =
    let fits = passed (is_between 1 128 n) None (subst (λ (o : Option ℕ). number_fault (is_between 1 128) o ≡ None) is none) in
    lt-ltb 0 n (leb-true 1 n (and_parts (nat_le 1 n) (nat_le n 128) fits).0)

-- the digits of a sector or more
pub digits_has : (digits : ℕ) (fault : Option Fault) → (if are_sectors digits then fault else Some BadCount) ≡ None
    → nat_lt 0 (digits / 1024) ≡ true
digits_has digits fault none =
    let fits = passed (are_sectors digits) fault none in
    let within = (and_parts (nat_le 1024 digits && nat_le digits 8192) (digits % 1024 == 0) fits).0 in
    let long = leb-true 1024 digits (and_parts (nat_le 1024 digits) (nat_le digits 8192) within).0 in
    lt-ltb 0 (digits / 1024) (le-div 1 digits 1024 (omega arith) (omega (arith, long)))

-- one that has sectors covers its first
pub first_sector : (c : Command) → has_sectors c ≡ true → is_data c ≡ true → (x : ℕ) × (covers_sector c x ≡ true)
first_sector c has reads = by (range_of c) refl (some (is_data c) has reads)
  where
    some : (b : Bool) → (not b || nat_lt 0 (option_map_or (λ (r : ℕ × ℕ). r.1) (range_of c) 0)) ≡ true → b ≡ true
        → nat_lt 0 (option_map_or (λ (r : ℕ × ℕ). r.1) (range_of c) 0) ≡ true
    some true has reads = has
    some false has reads = absurd (false≢true reads)

    first_of : (r : ℕ × ℕ) → 0 < r.1 → range_covers (Some r) r.0 ≡ true
    first_of r some = let e : r.0 + 0 ≡ r.0 = omega arith in
        subst (λ (y : ℕ). in_range r.0 r.1 y ≡ true) e (in_range_at r.0 r.1 0 some)

    by : (r : Option (ℕ × ℕ)) → range_of c ≡ r → nat_lt 0 (option_map_or (λ (r : ℕ × ℕ). r.1) r 0) ≡ true
        → (x : ℕ) × (covers_sector c x ≡ true)
    by None is has = absurd (false≢true has)
    by (Some r) is has = (r.0, rw (is) (first_of r (true_lt 0 r.1 has)))
