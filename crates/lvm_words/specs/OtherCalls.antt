-- The words for other calls than the run of a command or a session: a row of each list for each. They are this program's own.
use Rattle.std.specs.Prelude.{List, [], ◌∷◌, Option, codes, find}
use Rattle.std.specs.Str.{bytes_eq}
use Rattle.command_table.specs.declared.kind.Kind.{Kind}
use Rattle.command_table.specs.declared.kind.Kind.TheVariants.{Path}
use Rattle.command_table.specs.Options.{Word}
use Rattle.lvm_words.specs.declared.other_call.OtherCall.{OtherCall}
use Rattle.lvm_words.specs.declared.other_call.OtherCall.TheVariants.{Export, Import, Cow, Lmirror}

-- the calls
abbrev pub other_calls : List OtherCall
other_calls = Export ∷ Import ∷ Cow ∷ Lmirror ∷ []

-- the word that names a call
abbrev pub spelling_of : OtherCall → Word
spelling_of Export = codes "export"
spelling_of Import = codes "import"
spelling_of Cow = codes "cow"
spelling_of Lmirror = codes "lmirror"

-- what its arguments have to be, by their places
abbrev pub arguments_of : OtherCall → List Kind
arguments_of Export = Path ∷ []
arguments_of Import = Path ∷ []
arguments_of Cow = Path ∷ Path ∷ []
arguments_of Lmirror = Path ∷ Path ∷ Path ∷ []

-- the call that a word names
abbrev pub call_named : Word → Option OtherCall
call_named word = find (λ call. bytes_eq (spelling_of call) word) other_calls
