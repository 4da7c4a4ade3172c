-- The refusal of a line's words.
use Rattle.std.proofs.Common.{◌≡◌, ℕ, true, List, Some, Err, Result, ap, sym, subst, inl, inr, ◌⊎◌}
use Rattle.std.specs.Prelude.{⊤}
use Rattle.command_table.specs.declared.command.Command.{Command}
use Rattle.command_table.specs.declared.table.CommandName.{CommandName}
use Rattle.command_table.specs.declared.refusal.CommandRefusal.{CommandRefusal}
use Rattle.command_table.specs.declared.refusal.CommandRefusal.TheVariants.{Faulty, WrongWords, NoMemory}
use Rattle.command_table.specs.declared.line_fault.LineFault.{LineFault}
use Rattle.command_table.specs.Meaning.{at_place, meaning_of}
use Rattle.command_table.specs.Options.{Word}
use Rattle.command_table.specs.Table.{is_for_scripts}
use Rattle.lvm_script.specs.declared.script_refusal.LineRefusal.{LineRefusal}
use Rattle.lvm_script.specs.declared.script_refusal.LineRefusal.TheVariants as line
use Rattle.lvm_script.specs.Script.{IsRefusal, IsRefusalOf, line_named, refusal_at}

-- it is want of memory
abbrev OfMemory : CommandRefusal → Type 0
OfMemory NoMemory = ⊤
OfMemory refusal = ⊥

pub at_end : {A : Type 0} (end : ℕ) (meant : Result A CommandRefusal) (refusal : CommandRefusal)
    → (refusal ≡ NoMemory) ⊎ (meant ≡ Err refusal)
    → IsRefusalOf (at_place end meant) (refusal_at end refusal)
at_end end meant (Faulty fault place) (inr is) = ap (at_place end) is
at_end end meant WrongWords (inr is) = ap (at_place end) is
at_end end meant (Faulty fault place) (inl is) = absurd (subst OfMemory (sym is) tt)
at_end end meant WrongWords (inl is) = absurd (subst OfMemory (sym is) tt)
at_end end meant NoMemory is = tt

of_line : (meant : Result Command (LineFault × ℕ)) (refusal : LineRefusal) → IsRefusalOf meant refusal → IsRefusal (Some meant) refusal
of_line meant line.NoMemory is = tt
of_line meant (line.Refused fault place) is = ap Some is

pub refused_words : (name : CommandName) (place end : ℕ) (rest : List (Word × ℕ)) (refusal : CommandRefusal) → is_for_scripts name ≡ true
    → (refusal ≡ NoMemory) ⊎ (meaning_of name rest ≡ Err refusal)
    → IsRefusal (Some (line_named (Some name) place end rest)) (refusal_at end refusal)
refused_words name place end rest refusal here is =
    rw here (of_line (at_place end (meaning_of name rest)) (refusal_at end refusal) (at_end end (meaning_of name rest) refusal is))
