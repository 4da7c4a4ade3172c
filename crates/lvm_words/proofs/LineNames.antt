-- The disks of a command line that has a meaning.
use Rattle.std.proofs.Common.{◌≡◌, List, Option, Some, None, ap}
use Rattle.std.specs.Prelude.{option_and_then, option_map}
use Rattle.std.specs.Result.{result_ok}
use Rattle.command_table.specs.declared.request.Request.{Request}
use Rattle.command_table.specs.Meaning.{meaning_of_words}
use Rattle.command_table.specs.Options.{Word}
use Rattle.lvm_words.specs.declared.command_line.CommandLine.{CommandLine}
use Rattle.lvm_words.specs.CommandLines.{command_line_of, of_disks}
use Rattle.lvm_words.specs.Disks.{Front, disks_front, disks_named}

named_with : (front : Front) (line : CommandLine) (meaning : Option Request)
    → option_map (λ request. record { names = front.names; request = request }) meaning ≡ Some line → Some front.names ≡ Some line.names
named_with front line None e = cc
named_with front line (Some request) e =
    let is : record { names = front.names; request = request } ≡ line = cc in
    ap (λ (l : CommandLine). Some l.names) is

named_by : (front : Option Front) (line : CommandLine) → option_and_then of_disks front ≡ Some line
    → option_map (λ (f : Front). f.names) front ≡ Some line.names
named_by None line e = cc
named_by (Some front) line e = named_with front line (result_ok (meaning_of_words front.rest)) e

pub names_of_line : (words : List Word) (line : CommandLine) → command_line_of words ≡ Some line → disks_named words ≡ Some line.names
names_of_line words line e = named_by (disks_front words) line e
