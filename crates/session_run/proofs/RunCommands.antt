-- The commands of lines that begin with names which run.
use Rattle.std.proofs.Common.{◌≡◌, ◌+◌, ◌&&◌, ℕ, Bool, true, false, not, nat_lt, if◌then◌else◌, List, [], ◌∷◌, length}
use Rattle.std.proofs.Common.{Option, Result, Some, None, Ok, Err, refl, ap, sym, subst, inl, inr, ◌⊎◌}
use Rattle.std.specs.Prelude.{⊤, is_some, option_map}
use Rattle.std.specs.List.{list_all}
use Rattle.std.specs.Option.{option_map_or, option_or}
use Rattle.std.proofs.lemmas.Bool.{false≢true}
use Rattle.std.proofs.lemmas.Option.{none-some}
use Rattle.command_table.specs.declared.command.Command.TheVariants.{Fill, Flush, List as Listing, Read, Wait, Write}
use Rattle.command_table.specs.declared.option_key.OptionKey.TheVariants as key
use Rattle.command_table.specs.declared.line_fault.LineFault.TheVariants.{NotHere, SessionFull, UnknownWord}
use Rattle.command_table.specs.declared.command.Command.{Command}
use Rattle.command_table.specs.declared.command.Path.{Path}
use Rattle.command_table.specs.declared.fault.Fault.{Fault}
use Rattle.command_table.specs.declared.fault.Fault.TheVariants.{BadHex}
use Rattle.command_table.specs.declared.refusal.CommandRefusal.{CommandRefusal}
use Rattle.command_table.specs.declared.refusal.CommandRefusal.TheVariants as wrong
use Rattle.command_table.specs.declared.table.CommandName.{CommandName}
use Rattle.command_table.specs.declared.table.CommandName.TheVariants as name
use Rattle.command_table.specs.Commands.{alone, command_by_name, draws, fill_words, read_words, sectors_of, write_words}
use Rattle.command_table.specs.Given.{OptionValues, one_path, path_in, value_in}
use Rattle.command_table.specs.Meaning.{at_place, command_of, meaning_of, meaning_with}
use Rattle.command_table.specs.Options.{Word}
use Rattle.command_table.specs.Table.{command_named, is_for_scripts}
use Rattle.command_table.specs.Values.{is_hex_digit, number_of, unless}
use Rattle.command_table.specs.Words.{is_complete, nothing_read, read}
use Rattle.data_lines.specs.DataLines.{runs_beside}
use Rattle.lvm_script.specs.Script.{Commands, Meant, behind_all, commands_from, commands_with, is_comment, limited, line_meant, line_named}
use Rattle.lvm_script.specs.Script.{line_of_words, meaning_of_line, most_lines, most_sectors, words_in}
use Rattle.session_run.specs.SessionScript.{first_unrun, runs_named, unrun_in, unrun_line}
use Rattle.session_run.proofs.SomeSectors.{AreFine, argument_fault, count_has, digits_has, has_sectors, words_fine}

-- a world runs the command, it draws no id, and where it reads or writes it has a sector
pub record Runs (command : Command) : Type 0 where
  pub beside : runs_beside command ≡ true
  pub undrawn : draws command ≡ false
  pub sectors : has_sectors command ≡ true

-- what an option holds, with the equation
seen : {A : Type 0} (o : Option A) → (o ≡ None) ⊎ ((x : A) × (o ≡ Some x))
seen None = inl refl
seen (Some x) = inr (x, refl)

ok_same : {A E : Type 0} (x y : A) → ◌≡◌ {A = Result A E} (Ok x) (Ok y) → x ≡ y
ok_same x y is = cc

err_ok : {A E : Type 0} (e : E) (x : A) → Err e ≡ Ok x → ⊥
err_ok e x is = cc

some_same : {A : Type 0} (x y : A) → Some x ≡ Some y → x ≡ y
some_same x y is = cc

some_err : {A E : Type 0} (e : E) (x : A) → Some (Err e) ≡ Some (Ok x) → ⊥
some_err e x is = cc

as_is : (P : Command → Type 0) (c command : Command) → P c → Some c ≡ Some command → P command
as_is P c command holds is = subst P (some_same c command is) holds

mapped : (P : Command → Type 0) {A : Type 0} (f : A → Command) (o : Option A) (command : Command) → ((x : A) → P (f x))
    → option_map f o ≡ Some command
    → P command
mapped P f None command holds is = absurd (none-some command is)
mapped P f (Some x) command holds is = as_is P (f x) command (holds x) is

-- ---- the command that words make: what holds of all that these words may make holds of it

by_read : (P : List Word → Command → Type 0)
    → ((path start count : Word) (p : Path) (s c : ℕ) → number_of count ≡ Some c → P (path ∷ start ∷ count ∷ []) (Read p s c))
    → (arguments : List Word) (command : Command) → read_words arguments ≡ Some command → P arguments command
by_read P holds [] command is = absurd (none-some command is)
by_read P holds (path ∷ []) command is = absurd (none-some command is)
by_read P holds (path ∷ start ∷ []) command is = absurd (none-some command is)
by_read P holds (path ∷ start ∷ count ∷ more ∷ rest) command is = absurd (none-some command is)
by_read P holds (path ∷ start ∷ count ∷ []) command is = go (seen (path_in path)) (seen (number_of start)) (seen (number_of count))
  where
    go : (path_in path ≡ None) ⊎ ((x : Path) × (path_in path ≡ Some x)) → (number_of start ≡ None) ⊎ ((x : ℕ) × (number_of start ≡ Some x))
        → (number_of count ≡ None) ⊎ ((x : ℕ) × (number_of count ≡ Some x))
        → P (path ∷ start ∷ count ∷ []) command
    go (inl no_path) s c = absurd (none-some command (rw no_path at is))
    go (inr p) (inl no_start) c = absurd (none-some command (rw (p.1, no_start) at is))
    go (inr p) (inr s) (inl no_count) = absurd (none-some command (rw (p.1, s.1, no_count) at is))
    go (inr p) (inr s) (inr c) =
        as_is (P (path ∷ start ∷ count ∷ [])) (Read p.0 s.0 c.0) command (holds path start count p.0 s.0 c.0 c.1)
        (rw (p.1, s.1, c.1) at is)

by_fill : (P : List Word → Command → Type 0) (given : OptionValues)
    → ((path start count value : Word) (p : Path) (s c v : ℕ) (through : Bool) → number_of count ≡ Some c
    → P (path ∷ start ∷ count ∷ value ∷ []) (Fill p s c v through))
    → (arguments : List Word) (command : Command) → fill_words given arguments ≡ Some command → P arguments command
by_fill P given holds [] command is = absurd (none-some command is)
by_fill P given holds (path ∷ []) command is = absurd (none-some command is)
by_fill P given holds (path ∷ start ∷ []) command is = absurd (none-some command is)
by_fill P given holds (path ∷ start ∷ count ∷ []) command is = absurd (none-some command is)
by_fill P given holds (path ∷ start ∷ count ∷ value ∷ more ∷ rest) command is = absurd (none-some command is)
by_fill P given holds (path ∷ start ∷ count ∷ value ∷ []) command is =
    go (seen (path_in path)) (seen (number_of start)) (seen (number_of count)) (seen (number_of value))
  where
    go : (path_in path ≡ None) ⊎ ((x : Path) × (path_in path ≡ Some x)) → (number_of start ≡ None) ⊎ ((x : ℕ) × (number_of start ≡ Some x))
        → (number_of count ≡ None) ⊎ ((x : ℕ) × (number_of count ≡ Some x))
        → (number_of value ≡ None) ⊎ ((x : ℕ) × (number_of value ≡ Some x))
        → P (path ∷ start ∷ count ∷ value ∷ []) command
    go (inl no_path) s c v = absurd (none-some command (rw no_path at is))
    go (inr p) (inl no_start) c v = absurd (none-some command (rw (p.1, no_start) at is))
    go (inr p) (inr s) (inl no_count) v = absurd (none-some command (rw (p.1, s.1, no_count) at is))
    go (inr p) (inr s) (inr c) (inl no_value) = absurd (none-some command (rw (p.1, s.1, c.1, no_value) at is))
    go (inr p) (inr s) (inr c) (inr v) =
        let through = is_some (given key.Through) in
        as_is (P (path ∷ start ∷ count ∷ value ∷ [])) (Fill p.0 s.0 c.0 v.0 through) command
        (holds path start count value p.0 s.0 c.0 v.0 through c.1)
        (rw (p.1, s.1, c.1, v.1) at is)

by_write : (P : List Word → Command → Type 0) (given : OptionValues)
    → ((path start hex : Word) (p : Path) (s : ℕ) (through : Bool) → P (path ∷ start ∷ hex ∷ []) (Write p s hex through))
    → (arguments : List Word) (command : Command) → write_words given arguments ≡ Some command → P arguments command
by_write P given holds [] command is = absurd (none-some command is)
by_write P given holds (path ∷ []) command is = absurd (none-some command is)
by_write P given holds (path ∷ start ∷ []) command is = absurd (none-some command is)
by_write P given holds (path ∷ start ∷ hex ∷ more ∷ rest) command is = absurd (none-some command is)
by_write P given holds (path ∷ start ∷ hex ∷ []) command is = go (seen (path_in path)) (seen (number_of start))
  where
    go : (path_in path ≡ None) ⊎ ((x : Path) × (path_in path ≡ Some x)) → (number_of start ≡ None) ⊎ ((x : ℕ) × (number_of start ≡ Some x))
        → P (path ∷ start ∷ hex ∷ []) command
    go (inl no_path) s = absurd (none-some command (rw no_path at is))
    go (inr p) (inl no_start) = absurd (none-some command (rw (p.1, no_start) at is))
    go (inr p) (inr s) =
        let through = is_some (given key.Through) in
        as_is (P (path ∷ start ∷ hex ∷ [])) (Write p.0 s.0 hex through) command (holds path start hex p.0 s.0 through)
        (rw (p.1, s.1) at is)

by_alone : (P : Command → Type 0) (c : Command) (arguments : List Word) (command : Command) → P c → alone c arguments ≡ Some command
    → P command
by_alone P c [] command holds is = as_is P c command holds is
by_alone P c (argument ∷ arguments) command holds is = absurd (none-some command is)

-- ---- the words of a command that runs, none of which has a fault

words_run : (called : CommandName) (given : OptionValues) (arguments : List Word) (command : Command)
    → command_by_name called given arguments ≡ Some command → runs_named called ≡ true → AreFine (argument_fault called) arguments
    → Runs command
words_run name.Read given arguments command is runs fine =
    by_read (λ words c. AreFine (argument_fault name.Read) words → Runs c)
    (λ path start count p s c is fine. record { beside = refl; undrawn = refl; sectors = count_has count c is fine.1.1.0 })
    arguments command is fine
words_run name.Fill given arguments command is runs fine =
    by_fill (λ words c. AreFine (argument_fault name.Fill) words → Runs c) given
    (λ path start count value p s c v through is fine.
    record { beside = refl; undrawn = refl; sectors = count_has count c is fine.1.1.0 })
    arguments command is fine
words_run name.Write given arguments command is runs fine =
    by_write (λ words c. AreFine (argument_fault name.Write) words → Runs c) given
    (λ path start hex p s through fine. record {
      beside = refl;
      undrawn = refl;
      sectors = digits_has (length hex) (unless BadHex (list_all is_hex_digit hex)) fine.1.1.0;
    }) arguments command is fine
words_run name.Flush given arguments command is runs fine =
    mapped Runs Flush (one_path arguments) command (λ path. record { beside = refl; undrawn = refl; sectors = refl }) is
words_run name.List given arguments command is runs fine =
    by_alone Runs Listing arguments command (record { beside = refl; undrawn = refl; sectors = refl }) is
words_run name.Wait given arguments command is runs fine =
    by_alone Runs Wait arguments command (record { beside = refl; undrawn = refl; sectors = refl }) is
words_run called given arguments command is runs fine = absurd (false≢true runs)

-- ---- a line

placed : (end : ℕ) (meaning : Result Command CommandRefusal) (command : Command) → at_place end meaning ≡ Ok command → meaning ≡ Ok command
placed end (Ok meaning) command is = ap Ok (ok_same meaning command is)
placed end (Err (wrong.Faulty fault place)) command is = absurd (err_ok _ command is)
placed end (Err wrong.WrongWords) command is = absurd (err_ok _ command is)
placed end (Err wrong.NoMemory) command is = absurd (err_ok _ command is)

faultless : (fault : Option (Fault × ℕ)) (meaning : Option Command) (command : Command) → meaning_with fault meaning ≡ Ok command
    → (fault ≡ None) × (meaning ≡ Some command)
faultless (Some fault) meaning command is = absurd (err_ok _ command is)
faultless None (Some meaning) command is = (refl, ap Some (ok_same meaning command is))
faultless None None command is = absurd (err_ok _ command is)

complete : (all : Bool) (meaning : Option Command) (command : Command) → (if all then meaning else None) ≡ Some command
    → meaning ≡ Some command
complete true meaning command is = is
complete false meaning command is = absurd (none-some command is)

-- words that mean a command have no fault, and it is made of them
made_of : (called : CommandName) (end : ℕ) (words : List (Word × ℕ)) (command : Command)
    → at_place end (meaning_of called words) ≡ Ok command
    → ((read called words).fault ≡ None)
    × (command_by_name called (value_in (read called words).split.given) (read called words).split.arguments ≡ Some command)
made_of called end words command is =
    let split = (read called words).split in
    let made = command_by_name called (value_in split.given) split.arguments in
    let so = faultless (read called words).fault (command_of called split) command (placed end (meaning_of called words) command is) in
    (so.0, complete (is_complete split) made command so.1)

meaning_runs : (called : CommandName) (end : ℕ) (words : List (Word × ℕ)) (command : Command) → runs_named called ≡ true
    → at_place end (meaning_of called words) ≡ Ok command → Runs command
meaning_runs called end words command runs is =
    let split = (read called words).split in
    let made = made_of called end words command is in
    words_run called (value_in split.given) split.arguments command made.1 runs
    (words_fine called words nothing_read (λ none. tt) made.0)

-- the test of a name that doesn't run, by what is asked of it
runs_then : (scripts runs : Bool) (called : CommandName) (place end : ℕ) (words : List (Word × ℕ)) (command : Command)
    → runs_named called ≡ runs → (if scripts && not runs then Some place else None) ≡ None
    → (if scripts then at_place end (meaning_of called words) else Err (NotHere, place)) ≡ Ok command
    → Runs command
runs_then true true called place end words command runs none is = meaning_runs called end words command runs is
runs_then true false called place end words command runs none is = absurd (none-some place (sym none))
runs_then false runs called place end words command runs_is none is = absurd (err_ok (NotHere, place) command is)

named_runs : (called : Option CommandName) (place end : ℕ) (words : List (Word × ℕ)) (command : Command)
    → (if option_map_or (λ (n : CommandName). is_for_scripts n && not (runs_named n)) called false then Some place else None) ≡ None
    → line_named called place end words ≡ Ok command
    → Runs command
named_runs None place end words command none is = absurd (err_ok (UnknownWord, place) command is)
named_runs (Some called) place end words command none is =
    runs_then (is_for_scripts called) (runs_named called) called place end words command refl none is

line_runs : (end : ℕ) (words : List (Word × ℕ)) (command : Command) → unrun_in words ≡ None → line_of_words end words ≡ Some (Ok command)
    → Runs command
line_runs end [] command none is = absurd (none-some (Ok command) is)
line_runs end (first ∷ rest) command none is =
    named_runs (command_named first.0) first.1 end rest command none
    (some_same (line_named (command_named first.0) first.1 end rest) (Ok command) is)

commented : (comment : Bool) (end : ℕ) (words : List (Word × ℕ)) (command : Command) → (if comment then None else unrun_in words) ≡ None
    → (if comment then None else line_of_words end words) ≡ Some (Ok command)
    → Runs command
commented true end words command none is = absurd (none-some (Ok command) is)
commented false end words command none is = line_runs end words command none is

not_past : (past : Bool) (meant : Option Meant) (command : Command)
    → (if past then Some (Err (SessionFull, 0)) else meant) ≡ Some (Ok command) → meant ≡ Some (Ok command)
not_past true meant command is = absurd (some_err (SessionFull, 0) command is)
not_past false meant command is = is

unlimited : (sectors : ℕ) (meant : Option Meant) (command : Command) → limited sectors meant ≡ Some (Ok command) → meant ≡ Some (Ok command)
unlimited sectors None command is = is
unlimited sectors (Some (Err refusal)) command is = is
unlimited sectors (Some (Ok other)) command is =
    not_past (nat_lt most_sectors (sectors + sectors_of other)) (Some (Ok other)) command is

-- a line that isn't past the limits means what its words do
in_limits : (number sectors : ℕ) (line : List ℕ) (command : Command) → limited sectors (line_meant number line) ≡ Some (Ok command)
    → meaning_of_line line ≡ Some (Ok command)
in_limits number sectors line command is =
    not_past (nat_lt most_lines number) (meaning_of_line line) command (unlimited sectors (line_meant number line) command is)

command_runs : (number sectors : ℕ) (line : List ℕ) (command : Command) → unrun_line line ≡ None
    → limited sectors (line_meant number line) ≡ Some (Ok command)
    → Runs command
command_runs number sectors line command none is =
    commented (is_comment line) (length line) (words_in line) command none (in_limits number sectors line command is)

-- ---- the lines of a script

-- each of the commands runs
abbrev pub AllRun : List (ℕ × Command) → Type 0
AllRun [] = ⊤
AllRun (command ∷ commands) = Runs command.1 × AllRun commands

both_none : (o : Option ℕ) (number : ℕ) (rest : Option (ℕ × ℕ)) → option_or (option_map (λ (place : ℕ). (number, place)) o) rest ≡ None
    → (o ≡ None) × (rest ≡ None)
both_none None number rest is = (refl, is)
both_none (Some place) number rest is = absurd (none-some (number, place) (sym is))

one_more : (P : List (ℕ × Command) → Type 0) (number : ℕ) (command : Command) (after : Commands) (commands : List (ℕ × Command))
    → ((more : List (ℕ × Command)) → after ≡ Ok more → P ((number, command) ∷ more))
    → behind_all ((number, command) ∷ []) after ≡ Ok commands
    → P commands
one_more P number command (Err refusal) commands holds is = absurd (err_ok refusal commands is)
one_more P number command (Ok more) commands holds is = subst P (ok_same ((number, command) ∷ more) commands is) (holds more refl)

-- what holds of the commands of all lines, as it does of those that follow a line, with its own
next_line : (P : List (ℕ × Command) → Type 0) (number sectors : ℕ) (meant : Option Meant) (after : ℕ → Commands)
    (commands : List (ℕ × Command))
    → ((command : Command) (more : List (ℕ × Command)) → meant ≡ Some (Ok command) → P more → P ((number, command) ∷ more))
    → ((sectors : ℕ) (more : List (ℕ × Command)) → after sectors ≡ Ok more → P more)
    → commands_with number sectors meant after ≡ Ok commands
    → P commands
next_line P number sectors None after commands first rest is = rest sectors commands is
next_line P number sectors (Some (Err refusal)) after commands first rest is = absurd (err_ok _ commands is)
next_line P number sectors (Some (Ok command)) after commands first rest is =
    let behind = sectors + sectors_of command in
    one_more P number command (after behind) commands (λ more so. first command more refl (rest behind more so)) is

-- where no line begins with a name that doesn't run, all commands run
pub commands_run : (lines : List (List ℕ)) (first number sectors : ℕ) (commands : List (ℕ × Command)) → first_unrun first lines ≡ None
    → commands_from lines number sectors ≡ Ok commands
    → AllRun commands
unfolding commands_from
commands_run [] first number sectors commands none is = subst AllRun (ok_same [] commands is) tt
commands_run (line ∷ lines) first number sectors commands none is =
    let both = both_none (unrun_line line) first (first_unrun (first + 1) lines) none in
    next_line AllRun number sectors (limited sectors (line_meant number line)) (commands_from lines (number + 1)) commands
    (λ command more so all. (command_runs number sectors line command both.0 so, all))
    (λ sectors more. commands_run lines (first + 1) (number + 1) sectors more both.1)
    is
