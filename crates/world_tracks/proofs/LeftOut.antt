-- No disk is left out by lines that run beside others: none of them is a pvcreate.
use Rattle.std.proofs.Common.{◌≡◌, ℕ, true, false, not, ◌&&◌, if◌then◌else◌, List, [], ◌∷◌, Option, None, refl, ap, ◌∙◌, true≢false, sym}
use Rattle.command_table.specs.Options.{Word}
use Rattle.command_table.specs.declared.command.Command.{Command}
use Rattle.command_table.specs.declared.command.Command.TheVariants.{Pvcreate}
use Rattle.data_lines.specs.DataLines.{runs_beside}
use Rattle.volume_history.specs.Chronicles.{Answered, Begun, Changed, ChronicleEntry, Failed, GivenUp, Opened, Origin, Took}
use Rattle.volume_history.specs.Chronicles.{answer_in, has_answer, is_number, left_out, left_out_by, wrote_disk}
use Rattle.volume_history.specs.Commands.{created_disk, is_fine}
use Rattle.world_tracks.specs.Moments.{AreBeside}

-- such a line creates no physical volume
none_created : (names : List Word) (command : Command) → runs_beside command ≡ true → created_disk names command ≡ None
none_created names (Pvcreate pv copies) is = absurd (true≢false (sym is))
none_created names _ is = refl

none_by : (o : Origin) (all : List ChronicleEntry) (moment : ℕ) (es : List ChronicleEntry) (pv : ℕ) → AreBeside es
    → left_out_by o all moment es pv ≡ false
none_by o all moment [] pv are = refl
none_by o all moment (Begun from n line key ∷ es) pv are =
    ap (λ (d : Option ℕ). if is_number d pv && wrote_disk o all moment from n line pv
    then not (has_answer is_fine (answer_in all n)) else left_out_by o all moment es pv) (none_created o.names line.command are.0)
    ∙ none_by o all moment es pv are.1
none_by o all moment (Opened m n version ∷ es) pv are = none_by o all moment es pv are
none_by o all moment (Took m n piece ∷ es) pv are = none_by o all moment es pv are
none_by o all moment (Changed m n version ∷ es) pv are = none_by o all moment es pv are
none_by o all moment (GivenUp m n ∷ es) pv are = none_by o all moment es pv are
none_by o all moment (Failed m n piece ∷ es) pv are = none_by o all moment es pv are
none_by o all moment (Answered m n answer ∷ es) pv are = none_by o all moment es pv are

pub none_left_out : (o : Origin) (es : List ChronicleEntry) (moment pv : ℕ) → AreBeside es → left_out o es moment pv ≡ false
none_left_out o es moment pv are = none_by o es moment es pv are
