-- Each answer and each refusal as it prints, where the disks are named `sda` and `sdb`.
use Rattle.std.specs.Prelude.{◌≡◌, ℕ, List, [], ◌∷◌, ◌++◌, codes, flat_map, map, replicate}
use Rattle.std.specs.Fmt.{digits}
use Rattle.std.proofs.Common.{refl}
use Rattle.lvm_id.specs.LvmId.{hyphen_form}
use Rattle.command_table.specs.Options.{Word}
use Rattle.line_answers.specs.declared.answer.Answer.{Answer}
use Rattle.line_answers.specs.declared.answer.Answer.TheVariants.{Fine, Read, Listed, Refused, ReadFailed, PvFailed, Fenced, Stopped}
use Rattle.line_answers.specs.declared.answer.Answer.TheVariants.{Aborted, NoMemory}
use Rattle.line_answers.specs.declared.op_refusal.OpRefusal.{OpRefusal}
use Rattle.line_answers.specs.declared.op_refusal.OpRefusal.TheVariants as refusal
use Rattle.line_answers.specs.Answers.{answer_text, token}

abbrev names : List Word
names = codes "sda" ∷ codes "sdb" ∷ []

-- what each prints
abbrev printed : List (Answer × List ℕ) → List (List ℕ)
printed rows = map (λ row. answer_text names row.0) rows

abbrev refused : List (OpRefusal × List ℕ) → List (List ℕ)
refused rows = map (λ row. answer_text names (Refused row.0)) rows

-- refusals without values, and with numbers
abbrev of_numbers : List (OpRefusal × List ℕ)
of_numbers =
    (refusal.ReadOnly, codes "refused ReadOnly") ∷ (refusal.NotResizeable, codes "refused NotResizeable")
    ∷ (refusal.MoveStands, codes "refused MoveStands") ∷ (refusal.NoMove, codes "refused NoMove")
    ∷ (refusal.NothingThere 1, codes "refused NothingThere sdb") ∷ (refusal.NoArea, codes "refused NoArea")
    ∷ (refusal.TooSmall 2055 2056, codes "refused TooSmall 2055 2056") ∷ (refusal.BadStripe 24 64, codes "refused BadStripe 24 64")
    ∷ (refusal.NotLonger 4 5, codes "refused NotLonger 4 5") ∷ (refusal.NotShorter 6 5, codes "refused NotShorter 6 5")
    ∷ (refusal.PastEnd 18446744073709551615 8, codes "refused PastEnd 18446744073709551615 8")
    ∷ (refusal.TooMany 9 8, codes "refused TooMany 9 8") ∷ (refusal.SeqnoEnd, codes "refused SeqnoEnd")
    ∷ (refusal.NotAllocatable 0, codes "refused NotAllocatable sda") ∷ (refusal.NoSpace 7 3, codes "refused NoSpace 7 3")
    ∷ (refusal.NoRun 7 2, codes "refused NoRun 7 2") ∷ (refusal.TooFewPvs 3 1, codes "refused TooFewPvs 3 1")
    ∷ (refusal.BadRule 15, codes "refused BadRule 15") ∷ (refusal.TooLarge 2 1, codes "refused TooLarge 2 1") ∷ []

they_print_numbers : refused of_numbers ≡ map (λ row. row.1) of_numbers
unfolding digits
they_print_numbers = refl

-- refusals with a name
abbrev of_names : List (OpRefusal × List ℕ)
of_names =
    (refusal.UnknownGroup (codes "vg0"), codes "refused UnknownGroup vg0")
    ∷ (refusal.GroupStands (codes "vg0"), codes "refused GroupStands vg0")
    ∷ (refusal.UnknownVolume (codes "data"), codes "refused UnknownVolume data")
    ∷ (refusal.NameTaken (codes "data"), codes "refused NameTaken data")
    ∷ (refusal.UnknownPv (codes "sdz"), codes "refused UnknownPv sdz") ∷ (refusal.PvUsed (codes "sda"), codes "refused PvUsed sda")
    ∷ (refusal.NotInGroup (codes "sda"), codes "refused NotInGroup sda")
    ∷ (refusal.Locked (codes "data"), codes "refused Locked data") ∷ (refusal.Layered (codes "data"), codes "refused Layered data")
    ∷ (refusal.NotMirror (codes "data"), codes "refused NotMirror data") ∷ (refusal.InUse (codes "sda"), codes "refused InUse sda")
    ∷ (refusal.LastPv (codes "sda"), codes "refused LastPv sda") ∷ (refusal.BadText (codes "BadKey"), codes "refused BadText BadKey") ∷ []

they_print_names : refused of_names ≡ map (λ row. row.1) of_names
they_print_names = refl

another_group_prints : answer_text names (Refused (refusal.OtherGroup (codes "vg1") (codes "vg0"))) ≡ codes "refused OtherGroup vg1 vg0"
another_group_prints = refl

an_id_prints : answer_text names (Refused (refusal.IdTaken (codes "00000000100000000100000030000000")))
    ≡ codes "refused IdTaken 000000-0010-0000-0001-0000-0030-000000"
unfolding hyphen_form
an_id_prints = refl

-- ---- answers

abbrev answers : List (Answer × List ℕ)
answers =
    (Fine, codes "ok") ∷ (Read [], codes "data") ∷ (Listed ((codes "data", 32768) ∷ (codes "swap", 8) ∷ []), codes "list data=32768 swap=8")
    ∷ (Listed [], codes "list") ∷ (ReadFailed 0, codes "read failed sda") ∷ (PvFailed 1, codes "pv failed sdb")
    ∷ (Fenced 0, codes "fenced sda") ∷ (Stopped 1, codes "stopped sdb") ∷ (Aborted, codes "aborted") ∷ (NoMemory, codes "no memory") ∷ []

they_print : printed answers ≡ map (λ row. row.1) answers
unfolding digits
they_print = refl

-- ---- sectors

-- eight bytes, the lowest of the number first
abbrev number : List ℕ
number = 239 ∷ 205 ∷ 171 ∷ 137 ∷ 103 ∷ 69 ∷ 35 ∷ 1 ∷ []

-- so many times these bytes
abbrev times : ℕ → List ℕ → List ℕ
times count bytes = flat_map (λ (n : ℕ). bytes) (replicate count 0)

one_number : token (times 64 number) ≡ codes "=0123456789abcdef"
one_number = refl

zeros : token (times 64 (replicate 8 0)) ≡ codes "=0000000000000000"
zeros = refl

-- the last byte is another
another_byte : token (times 63 number ++ 239 ∷ 205 ∷ 171 ∷ 137 ∷ 103 ∷ 69 ∷ 35 ∷ 250 ∷ [])
    ≡ times 63 (codes "efcdab8967452301") ++ codes "efcdab89674523fa"
another_byte = refl
