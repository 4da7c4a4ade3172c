-- The line of what words ask for can be planned: it has the values that the tests of single words let through.
use Rattle.std.proofs.Common.{◌≡◌, ◌≤◌, ◌<◌, ◌∙◌, ◌^◌, ◌%◌, ◌+◌, ◌-◌, ◌&&◌, ◌⊎◌, ℕ, zero, suc, Bool, true, false, if◌then◌else◌, nat_le}
use Rattle.std.proofs.Common.{List, [], ◌∷◌, length, not, Option, Some, None, Result, Ok, Err, IfSome, is_none, is_some, IsSomeAnd, find}
use Rattle.std.proofs.Common.{option_map, option_and_then, unwrap_or, refl, ap, sym, subst, inl, inr, arith}
use Rattle.std.proofs.lemmas.Bool.{and_parts, cases_Bool, eqb-true, leb-true, true≢false}
use Rattle.std.proofs.Math.Nat.{two-pow-succ}
use Rattle.std.specs.Int.{is_power_of_two}
use Rattle.std.specs.List.{list_all}
use Rattle.std.specs.Result.{result_ok}
use Rattle.lvm_id.specs.LvmId.{IsId}
use Rattle.lvm_name.specs.Names.{group_name_refusal, volume_name_refusal}
use Rattle.command_table.specs.declared.amount.Amount.{Amount}
use Rattle.command_table.specs.declared.amount.Amount.TheVariants.{Extents, Sectors}
use Rattle.command_table.specs.declared.amount.Growth.{Growth}
use Rattle.command_table.specs.declared.amount.Growth.TheVariants.{By, To}
use Rattle.command_table.specs.declared.command.Command.{Command}
use Rattle.command_table.specs.declared.command.Command.TheVariants.{Pvck, Pvmove, Pvs, Vgremove, Vgcfgbackup, Vgcfgrestore, Vgck, Vgs}
use Rattle.command_table.specs.declared.command.Command.TheVariants.{Lvremove, Lvs}
use Rattle.command_table.specs.declared.command.Moving.TheVariants.{Abort, From, GoOn}
use Rattle.command_table.specs.declared.command.Path.{Path}
use Rattle.command_table.specs.declared.table.CommandName.{CommandName}
use Rattle.command_table.specs.declared.table.CommandName.TheVariants as name
use Rattle.command_table.specs.declared.fault.Fault.{Fault}
use Rattle.command_table.specs.declared.fault.Fault.TheVariants.{BadCount, BadName}
use Rattle.command_table.specs.declared.kind.Kind.TheVariants.{Growth as Grows, Number, PowerSize, Size, SizeGrowth, Volume}
use Rattle.command_table.specs.declared.option_key.OptionKey.{OptionKey}
use Rattle.command_table.specs.declared.option_key.OptionKey.TheVariants as key
use Rattle.command_table.specs.declared.refusal.CommandRefusal.{CommandRefusal}
use Rattle.command_table.specs.declared.refusal.CommandRefusal.TheVariants.{Faulty, WrongWords, NoMemory}
use Rattle.command_table.specs.declared.request.Request.{Request}
use Rattle.command_table.specs.declared.request.Request.TheVariants.{One, Session}
use Rattle.command_table.specs.declared.request.Session.{Session as SessionWords}
use Rattle.command_table.specs.declared.table.OptionRow.{OptionRow}
use Rattle.command_table.specs.Commands.{alone, goes_together, changes, draws, longer, lvcreate, lvextend, lvreduce, lvrename, new_volume}
use Rattle.command_table.specs.Commands.{pvcreate, pvmove, shorter, vgcreate, vgextend, vgreduce, vgrename}
use Rattle.command_table.specs.Given.{OptionValues, amount_of, amount_with, growth_by, growth_of, growth_with, one_path, one_word, path_in}
use Rattle.command_table.specs.Given.{size, value_in}
use Rattle.command_table.specs.Meaning.{at_place, demo, demo_of, meaning_of_words, meaning_with, narrow, request_by_name, request_named}
use Rattle.command_table.specs.Meaning.{request_read, session, session_on, workers_in}
use Rattle.command_table.specs.Options.{Word, is_key}
use Rattle.command_table.specs.Table.{command_named, is_for_words, options_of}
use Rattle.command_table.specs.Values.{has_plus, is_between, is_group_name, number_fault, number_of, size_of, unless, without_plus}
use Rattle.command_table.specs.Words.{Split, is_complete, nothing_split, numbered_from, read}
use Rattle.lvm_words.specs.declared.command_line.CommandLine.{CommandLine}
use Rattle.lvm_words.specs.CommandLines.{command_line_of, of_disks}
use Rattle.lvm_words.specs.Disks.{Front, disks_front}
use Rattle.lvm_words.specs.Parser.{arguments_pass, value_passes}
use Rattle.lvm_words.proofs.FaultFree.{all_pass, fault_free, given_passes, kind_in, split_read}
use Rattle.lvm_words.proofs.Spellings.{same_key}
use Rattle.volume_rules.specs.Rules.{IsPowerOfTwo}
use Rattle.vg_check.proofs.OneBit.{power_from_ones}
use Rattle.lv_plans.specs.Sizes.{IsAmount, IsGrowth}
use Rattle.group_ops.specs.Planning.{IsPlanned}
use Rattle.lvm_run.specs.Commands.{is_built}

-- from 8 sectors to 2^31, and a multiple of 8
abbrev IsExtentSize : ℕ → Type 0
IsExtentSize n = (8 ≤ n) × (n ≤ 2 ^ 31) × (n % 8 ≡ 0)

-- where the command is built and changes something, its line can be planned, with any id where it draws one
abbrev pub IsMeant : Command → Type 0
IsMeant command =
    (id : Option (List ℕ)) → (draws command ≡ true → IsSomeAnd id IsId) → is_built command ≡ true → changes command ≡ true
    → IsPlanned id command

-- the same of what words ask for
abbrev IsMeantRequest : Request → Type 0
IsMeantRequest (One command) = IsMeant command
IsMeantRequest _ = Unit {0}

-- ---- options

mapped : {A B : Type 0} (P : B → Type 0) (f : A → B) → ((a : A) → P (f a)) → (o : Option A) → IfSome (option_map f o) P
mapped P f each None = tt
mapped P f each (Some a) = each a

chained : {A B : Type 0} (P : B → Type 0) (f : A → Option B) → ((a : A) → IfSome (f a) P) → (o : Option A) → IfSome (option_and_then f o) P
chained P f each None = tt
chained P f each (Some a) = each a

found_passes : {A : Type 0} (p q : A → Bool) (items : List A) → list_all p items ≡ true
    → IfSome (find q items) (λ a. (p a ≡ true) × (q a ≡ true))
found_passes p q [] all = tt
found_passes {A} p q (a ∷ items) all = go (found_passes p q items both.1) (cases_Bool (q a))
  where
    both : (p a ≡ true) × (list_all p items ≡ true)
    both = and_parts (p a) (list_all p items) all

    go : IfSome (find q items) (λ (a : A). (p a ≡ true) × (q a ≡ true)) → (q a ≡ true) ⊎ (q a ≡ false)
        → IfSome (find q (a ∷ items)) (λ (a : A). (p a ≡ true) × (q a ≡ true))
    go rest (inl e) = rw e (both.0, e)
    go rest (inr e) = rw e rest

-- ---- the size of an extent

eights : (k n : ℕ) → n ≡ 2 ^ k → 8 ≤ n → n % 8 ≡ 0
eights zero n is least = absurd (omega (arith, is, least))
eights (suc zero) n is least = absurd (omega (arith, is, least))
eights (suc (suc zero)) n is least = absurd (omega (arith, is, least))
eights (suc (suc (suc k))) n is least = omega (arith, is, two-pow-succ k, two-pow-succ (suc k), two-pow-succ (suc (suc k)))

size_fits : (n : ℕ) → (is_between 8 2097152 n && is_power_of_two n) ≡ true → IsExtentSize n
size_fits n passes =
    let both = and_parts (is_between 8 2097152 n) (is_power_of_two n) passes in
    let bounds = and_parts (nat_le 8 n) (nat_le n 2097152) both.0 in
    let least = leb-true 8 n bounds.0 in
    let most = leb-true n 2097152 bounds.1 in
    let power = power_from_ones n (eqb-true _ 1 both.1) in
    (least, omega (arith, most), eights power.0 n power.1 least)

number_passes : (passes : ℕ → Bool) (n : ℕ) → is_none (number_fault passes (Some n)) ≡ true → passes n ≡ true
number_passes passes n none = go (passes n) none
  where
    go : (b : Bool) → is_none (if b then None else Some BadCount) ≡ true → b ≡ true
    go true e = refl
    go false e = absurd (true≢false (sym e))

size_or_usual : (word : Option Word) → IfSome word (λ w. value_passes (PowerSize 2048 8 2097152) w ≡ true)
    → IsExtentSize (unwrap_or (option_and_then (size_of 2048) word) 8192)
size_or_usual None passes = (omega arith, omega arith, refl)
size_or_usual (Some word) passes = go (size_of 2048 word) passes
  where
    go : (o : Option ℕ) → is_none (number_fault (λ n. is_between 8 2097152 n && is_power_of_two n) o) ≡ true
        → IsExtentSize (unwrap_or o 8192)
    go None none = absurd (true≢false (sym none))
    go (Some n) none = size_fits n (number_passes (λ n. is_between 8 2097152 n && is_power_of_two n) n none)

-- ---- how large a volume is to be

between : (least most n : ℕ) → is_between least most n ≡ true → (least ≤ n) × (n ≤ most)
between least most n passes =
    let bounds = and_parts (nat_le least n) (nat_le n most) passes in (leb-true least n bounds.0, leb-true n most bounds.1)

count_fits : (o : Option ℕ) → is_none (number_fault (is_between 1 (2 ^ 64 - 1)) o) ≡ true → IfSome o (λ n. (1 ≤ n) × (n < 2 ^ 64))
count_fits None none = tt
count_fits (Some n) none =
    let fits = between 1 (2 ^ 64 - 1) n (number_passes (is_between 1 (2 ^ 64 - 1)) n none) in (fits.0, omega (arith, fits.1))

extents_fit : (word : Option Word) → IfSome word (λ w. value_passes (Number 1 (2 ^ 64 - 1)) w ≡ true)
    → IfSome (option_and_then number_of word) (λ n. (1 ≤ n) × (n < 2 ^ 64))
extents_fit None passes = tt
extents_fit (Some word) passes = count_fits (number_of word) passes

length_fits : (o : Option ℕ) → is_none (number_fault (is_between 1 (2 ^ 48 - 1)) o) ≡ true → IfSome o (λ n. (1 ≤ n) × (n < 2 ^ 48))
length_fits None none = tt
length_fits (Some n) none =
    let fits = between 1 (2 ^ 48 - 1) n (number_passes (is_between 1 (2 ^ 48 - 1)) n none) in (fits.0, omega (arith, fits.1))

sectors_fit : (word : Option Word) → IfSome word (λ w. value_passes (Size 2048 1 (2 ^ 48 - 1)) w ≡ true)
    → IfSome (option_and_then (size_of 2048) word) (λ n. (1 ≤ n) × (n < 2 ^ 48))
sectors_fit None passes = tt
sectors_fit (Some word) passes = length_fits (size_of 2048 word) passes

amount_fits : (extents sectors : Option ℕ) → IfSome extents (λ n. (1 ≤ n) × (n < 2 ^ 64)) → IfSome sectors (λ n. (1 ≤ n) × (n < 2 ^ 48))
    → IfSome (amount_with extents sectors) IsAmount
amount_fits None None extents_fit sectors_fit = tt
amount_fits None (Some n) extents_fit sectors_fit = sectors_fit
amount_fits (Some n) None extents_fit sectors_fit = extents_fit
amount_fits (Some n) (Some m) extents_fit sectors_fit = tt

-- to so much, or by so much
growth_fits : (word : Word) (amount : Amount) → IsAmount amount → IsGrowth (growth_by word amount)
growth_fits word amount fits = by (has_plus word) where
  by : (plus : Bool) → IsGrowth (if plus then By amount else To amount)
  by true = fits
  by false = fits

growths_fit : (extents sectors : Option Word) → IfSome extents (λ w. value_passes (Grows 1 (2 ^ 64 - 1)) w ≡ true)
    → IfSome sectors (λ w. value_passes (SizeGrowth 2048 1 (2 ^ 48 - 1)) w ≡ true) → IfSome (growth_with extents sectors) IsGrowth
growths_fit None None extents_fit sectors_fit = tt
growths_fit (Some word) None extents_fit sectors_fit =
    by (number_of (without_plus word)) (count_fits (number_of (without_plus word)) extents_fit) where
      by : (o : Option ℕ) → IfSome o (λ n. (1 ≤ n) × (n < 2 ^ 64)) → IfSome (option_map (λ n. growth_by word (Extents n)) o) IsGrowth
      by None fits = tt
      by (Some n) fits = growth_fits word (Extents n) fits
growths_fit None (Some word) extents_fit sectors_fit =
    by (size_of 2048 (without_plus word)) (length_fits (size_of 2048 (without_plus word)) sectors_fit) where
      by : (o : Option ℕ) → IfSome o (λ n. (1 ≤ n) × (n < 2 ^ 48)) → IfSome (option_map (λ n. growth_by word (Sectors n)) o) IsGrowth
      by None fits = tt
      by (Some n) fits = growth_fits word (Sectors n) fits
growths_fit (Some word) (Some other) extents_fit sectors_fit = tt

-- ---- a new volume

number_fits : (least most : ℕ) (word : Option Word) → IfSome word (λ w. value_passes (Number least most) w ≡ true)
    → IfSome (option_and_then number_of word) (λ n. (least ≤ n) × (n ≤ most))
number_fits least most None passes = tt
number_fits least most (Some word) passes = go (number_of word) passes
  where
    go : (o : Option ℕ) → is_none (number_fault (is_between least most) o) ≡ true → IfSome o (λ n. (least ≤ n) × (n ≤ most))
    go None none = tt
    go (Some n) none = between least most n (number_passes (is_between least most) n none)

-- the number of stripes, and that of further legs
stripes_fit : (o : Option ℕ) → IfSome o (λ n. (1 ≤ n) × (n ≤ 8)) → (1 ≤ unwrap_or o 1) × (unwrap_or o 1 ≤ 8)
stripes_fit None fits = (omega arith, omega arith)
stripes_fit (Some n) fits = fits

mirrors_fit : (o : Option ℕ) → IfSome o (λ n. (1 ≤ n) × (n ≤ 7)) → unwrap_or o 0 ≤ 7
mirrors_fit None fits = omega arith
mirrors_fit (Some n) fits = fits.1

-- a power of two from 8 sectors on
abbrev IsPieceSize : ℕ → Type 0
IsPieceSize n = IsPowerOfTwo n × (8 ≤ n) × (n < 2 ^ 48)

piece_fits : (word : Option Word) → IfSome word (λ w. value_passes (PowerSize 2 8 (2 ^ 48 - 1)) w ≡ true)
    → IsPieceSize (unwrap_or (option_and_then (size_of 2) word) 128)
piece_fits None passes = ((7, refl), omega arith, omega arith)
piece_fits (Some word) passes = go (size_of 2 word) passes
  where
    one : (n : ℕ) → (is_between 8 (2 ^ 48 - 1) n && is_power_of_two n) ≡ true → IsPieceSize n
    one n both_pass =
        let both = and_parts (is_between 8 (2 ^ 48 - 1) n) (is_power_of_two n) both_pass in
        let bounds = between 8 (2 ^ 48 - 1) n both.0 in
        (power_from_ones n (eqb-true _ 1 both.1), bounds.0, omega (arith, bounds.1))

    go : (o : Option ℕ) → is_none (number_fault (λ n. is_between 8 (2 ^ 48 - 1) n && is_power_of_two n) o) ≡ true
        → IsPieceSize (unwrap_or o 128)
    go None none = absurd (true≢false (sym none))
    go (Some n) none = one n (number_passes (λ n. is_between 8 (2 ^ 48 - 1) n && is_power_of_two n) n none)

-- further legs are asked for with one stripe alone
mirrors_alone : (mirrors stripes : Option Word) (rest : Bool) → (not (is_some mirrors && is_some stripes) && rest) ≡ true
    → 1 ≤ unwrap_or (option_and_then number_of mirrors) 0 → unwrap_or (option_and_then number_of stripes) 1 ≡ 1
mirrors_alone None stripes rest together some = absurd (omega (arith, some))
mirrors_alone (Some mirrors) None rest together some = refl
mirrors_alone (Some mirrors) (Some stripes) rest together some = absurd (true≢false (sym together))

-- the value of an option is what it has to be
value_fits : (rows : List OptionRow) (given : List (OptionKey × Word)) (k : OptionKey) → list_all (given_passes rows) given ≡ true
    → IfSome (value_in given k) (λ word. value_passes (kind_in rows k) word ≡ true)
value_fits rows given k all =
    go (find (λ (pair : OptionKey × Word). is_key pair.0 k) given) (found_passes (given_passes rows) (λ pair. is_key pair.0 k) given all)
  where
    go : (o : Option (OptionKey × Word)) → IfSome o
        (λ (pair : OptionKey × Word). (given_passes rows pair ≡ true) × (is_key pair.0 k ≡ true))
        → IfSome (option_map (λ (pair : OptionKey × Word). pair.1) o) (λ (word : Word). value_passes (kind_in rows k) word ≡ true)
    go None passes = tt
    go (Some pair) passes = subst (λ (own : OptionKey). value_passes (kind_in rows own) pair.1 ≡ true) (same_key pair.0 k passes.1) passes.0

-- ---- commands

name_fits : {A : Type 0} (o : Option A) → is_none (unless BadName (is_none o)) ≡ true → o ≡ None
name_fits None e = refl
name_fits (Some a) e = absurd (true≢false (sym e))

reads_meant : (command : Command) → changes command ≡ false → IsMeant command
reads_meant command reads = λ id drawn built changing. absurd (true≢false (sym changing ∙ reads))

unbuilt_meant : (command : Command) → is_built command ≡ false → IsMeant command
unbuilt_meant command unbuilt = λ id drawn built changing. absurd (true≢false (sym built ∙ unbuilt))

vgcreate_meant : (given : OptionValues) (arguments : List Word) → IsExtentSize (unwrap_or (size given key.PhysicalExtentSize 2048) 8192)
    → arguments_pass name.Vgcreate 0 arguments ≡ true → IfSome (vgcreate given arguments) IsMeant
vgcreate_meant given [] fits pass = tt
vgcreate_meant given (vg ∷ []) fits pass = tt
vgcreate_meant given (vg ∷ pv ∷ pvs) fits pass =
    let named = name_fits (group_name_refusal vg) (and_parts _ (arguments_pass name.Vgcreate 1 (pv ∷ pvs)) pass).0 in
    λ id drawn built changing. (drawn refl, named, fits.0, fits.1, fits.2)

pvcreate_meant : (given : OptionValues) (arguments : List Word) → IfSome (pvcreate given arguments) IsMeant
pvcreate_meant given [] = tt
pvcreate_meant given (pv ∷ []) = λ id drawn built changing. drawn refl
pvcreate_meant given (pv ∷ other ∷ more) = tt

pvmove_meant : (given : OptionValues) (arguments : List Word) → IfSome (pvmove given arguments) IsMeant
pvmove_meant given arguments = go (cases_Bool (is_some (given key.Abort))) arguments
  where
    go : (is_some (given key.Abort) ≡ true) ⊎ (is_some (given key.Abort) ≡ false) → (arguments : List Word)
        → IfSome (pvmove given arguments) IsMeant
    go (inl e) [] = rw e (unbuilt_meant (Pvmove Abort) refl)
    go (inl e) (pv ∷ onto) = rw e tt
    go (inr e) [] = rw e (unbuilt_meant (Pvmove GoOn) refl)
    go (inr e) (pv ∷ onto) = rw e (unbuilt_meant (Pvmove (From pv onto)) refl)

vgextend_meant : (arguments : List Word) → IfSome (vgextend arguments) IsMeant
vgextend_meant [] = tt
vgextend_meant (vg ∷ []) = tt
vgextend_meant (vg ∷ pv ∷ pvs) = λ id drawn built changing. tt

vgreduce_meant : (arguments : List Word) → IfSome (vgreduce arguments) IsMeant
vgreduce_meant [] = tt
vgreduce_meant (vg ∷ []) = tt
vgreduce_meant (vg ∷ pv ∷ []) = λ id drawn built changing. tt
vgreduce_meant (vg ∷ pv ∷ other ∷ more) = tt

vgrename_meant : (arguments : List Word) → arguments_pass name.Vgrename 0 arguments ≡ true → IfSome (vgrename arguments) IsMeant
vgrename_meant [] pass = tt
vgrename_meant (vg ∷ []) pass = tt
vgrename_meant (vg ∷ new ∷ []) pass =
    let rest = (and_parts _ (arguments_pass name.Vgrename 1 (new ∷ [])) pass).1 in
    let named = name_fits (group_name_refusal new) (and_parts _ (arguments_pass name.Vgrename 2 []) rest).0 in
    λ id drawn built changing. named
vgrename_meant (vg ∷ new ∷ other ∷ more) pass = tt

lvrename_meant : (arguments : List Word) → arguments_pass name.Lvrename 0 arguments ≡ true → IfSome (lvrename arguments) IsMeant
lvrename_meant [] pass = tt
lvrename_meant (vg ∷ []) pass = tt
lvrename_meant (vg ∷ old ∷ []) pass = tt
lvrename_meant (vg ∷ old ∷ new ∷ []) pass =
    let rest = (and_parts _ (arguments_pass name.Lvrename 1 (old ∷ new ∷ [])) pass).1 in
    let last = (and_parts _ (arguments_pass name.Lvrename 2 (new ∷ [])) rest).1 in
    let named = name_fits (volume_name_refusal new) (and_parts _ (arguments_pass name.Lvrename 3 []) last).0 in
    λ id drawn built changing. named
lvrename_meant (vg ∷ old ∷ new ∷ other ∷ more) pass = tt

-- the values of its options are what they have to be
record NewFits (given : OptionValues) : Type 0 where
  named : IfSome (given key.Name) (λ word. value_passes Volume word ≡ true)
  amount : IfSome (amount_of given) IsAmount
  stripes : IfSome (given key.Stripes) (λ word. value_passes (Number 1 8) word ≡ true)
  piece : IfSome (given key.StripeSize) (λ word. value_passes (PowerSize 2 8 (2 ^ 48 - 1)) word ≡ true)
  mirrors : IfSome (given key.Mirrors) (λ word. value_passes (Number 1 7) word ≡ true)

lvcreate_meant : (given : OptionValues) (arguments : List Word) → NewFits given → IfSome (lvcreate given arguments) IsMeant
lvcreate_meant given [] fits = tt
lvcreate_meant given (vg ∷ pvs) fits = go (goes_together given) refl
  where
    with_size : goes_together given ≡ true → (lv : Option Word) → IfSome lv (λ word. value_passes Volume word ≡ true)
        → (amount : Option Amount) → IfSome amount IsAmount → IfSome (new_volume given lv amount vg pvs) IsMeant
    with_size together None named amount sized = tt
    with_size together (Some lv) named None sized = tt
    with_size together (Some lv) named (Some amount) sized = λ id drawn built changing. (
      drawn refl,
      record {
        named = name_fits (volume_name_refusal lv) named;
        amount = sized;
        stripes = stripes_fit _ (number_fits 1 8 (given key.Stripes) fits.stripes);
        mirrors = (
          mirrors_fit _ (number_fits 1 7 (given key.Mirrors) fits.mirrors),
          mirrors_alone (given key.Mirrors) (given key.Stripes) _ together,
        );
        stripe_size = piece_fits (given key.StripeSize) fits.piece;
      },
    )

    go : (b : Bool) → goes_together given ≡ b
        → IfSome (if b then new_volume given (given key.Name) (amount_of given) vg pvs else None) IsMeant
    go true together = with_size together (given key.Name) fits.named (amount_of given) fits.amount
    go false together = tt

lvextend_meant : (given : OptionValues) (arguments : List Word) → IfSome (growth_of given) IsGrowth
    → IfSome (lvextend given arguments) IsMeant
lvextend_meant given [] fits = tt
lvextend_meant given (path ∷ pvs) fits = go (growth_of given) fits (path_in path)
  where
    go : (growth : Option Growth) → IfSome growth IsGrowth → (path : Option Path) → IfSome (longer pvs growth path) IsMeant
    go None fits path = tt
    go (Some growth) fits None = tt
    go (Some growth) fits (Some path) = λ id drawn built changing. fits

lvreduce_meant : (given : OptionValues) (arguments : List Word) → IfSome (amount_of given) IsAmount
    → IfSome (lvreduce given arguments) IsMeant
lvreduce_meant given arguments fits = go (amount_of given) fits (one_path arguments)
  where
    go : (amount : Option Amount) → IfSome amount IsAmount → (path : Option Path) → IfSome (shorter amount path) IsMeant
    go None fits path = tt
    go (Some amount) fits None = tt
    go (Some amount) fits (Some path) = λ id drawn built changing. fits

alone_meant : (command : Command) → IsMeant command → (arguments : List Word) → IfSome (alone command arguments) IsMeant
alone_meant command meant [] = meant
alone_meant command meant (word ∷ words) = tt

-- ---- what is asked for

session_meant : (given : OptionValues) (arguments : List Word) → IfSome (session given arguments) IsMeantRequest
session_meant given arguments =
    chained IsMeantRequest (session_on given (workers_in given)) (with_workers (workers_in given)) (one_word arguments)
  where
    with_workers : (workers : Option ℕ) (vg : Word) → IfSome (session_on given workers vg) IsMeantRequest
    with_workers None vg = tt
    with_workers (Some workers) vg = go _ (is_group_name vg)
      where
        go : (words : SessionWords) (b : Bool) → IfSome (if b then Some (Session words) else None) IsMeantRequest
        go words true = tt
        go words false = tt

demo_meant : (arguments : List Word) → IfSome (demo arguments) IsMeantRequest
demo_meant [] = tt
demo_meant (seed ∷ []) = tt
demo_meant (seed ∷ lines ∷ []) = tt
demo_meant (seed ∷ lines ∷ workers ∷ []) = go (number_of seed) (number_of lines) (option_and_then narrow (number_of workers))
  where
    go : (seed lines workers : Option ℕ) → IfSome (demo_of seed lines workers) IsMeantRequest
    go None lines workers = tt
    go (Some seed) None workers = tt
    go (Some seed) (Some lines) None = tt
    go (Some seed) (Some lines) (Some workers) = tt
demo_meant (seed ∷ lines ∷ workers ∷ other ∷ more) = tt

one_meant : (command : Option Command) → IfSome command IsMeant → IfSome (option_map One command) IsMeantRequest
one_meant None meant = tt
one_meant (Some command) meant = meant

-- by the name of a command that stands on the command line
request_meant : (name : CommandName) (split : Split) → is_for_words name ≡ true → all_pass name split ≡ true
    → IfSome (request_by_name name (value_in split.given) split.arguments) IsMeantRequest
request_meant name.Pvcreate split here pass = one_meant _ (pvcreate_meant (value_in split.given) split.arguments)
request_meant name.Pvmove split here pass = one_meant _ (pvmove_meant (value_in split.given) split.arguments)
request_meant name.Pvck split here pass = one_meant _ (mapped IsMeant Pvck (λ pv. reads_meant (Pvck pv) refl) (one_word split.arguments))
request_meant name.Pvs split here pass = one_meant _ (alone_meant Pvs (reads_meant Pvs refl) split.arguments)
request_meant name.Vgcreate split here pass =
    let both =
    and_parts (list_all (given_passes (options_of name.Vgcreate)) split.given) (arguments_pass name.Vgcreate 0 split.arguments) pass in
    let fits =
    size_or_usual (value_in split.given key.PhysicalExtentSize)
    (value_fits (options_of name.Vgcreate) split.given key.PhysicalExtentSize both.0) in
    one_meant _ (vgcreate_meant (value_in split.given) split.arguments fits both.1)
request_meant name.Vgextend split here pass = one_meant _ (vgextend_meant split.arguments)
request_meant name.Vgreduce split here pass = one_meant _ (vgreduce_meant split.arguments)
request_meant name.Vgremove split here pass =
    one_meant _ (mapped IsMeant Vgremove (λ vg id drawn built changing. tt) (one_word split.arguments))
request_meant name.Vgrename split here pass =
    one_meant _ (vgrename_meant split.arguments
    (and_parts (list_all (given_passes (options_of name.Vgrename)) split.given) (arguments_pass name.Vgrename 0 split.arguments)
    pass).1)
request_meant name.Vgcfgbackup split here pass =
    one_meant _ (mapped IsMeant Vgcfgbackup (λ vg. reads_meant (Vgcfgbackup vg) refl) (one_word split.arguments))
request_meant name.Vgcfgrestore split here pass =
    one_meant _ (mapped IsMeant (λ vg. Vgcfgrestore vg []) (λ vg id drawn built changing. tt) (one_word split.arguments))
request_meant name.Vgck split here pass = one_meant _ (alone_meant Vgck (reads_meant Vgck refl) split.arguments)
request_meant name.Vgs split here pass = one_meant _ (alone_meant Vgs (reads_meant Vgs refl) split.arguments)
request_meant name.Lvcreate split here pass =
    let all =
    (and_parts (list_all (given_passes (options_of name.Lvcreate)) split.given) (arguments_pass name.Lvcreate 0 split.arguments)
    pass).0 in
    let extents = extents_fit (value_in split.given key.Extents) (value_fits (options_of name.Lvcreate) split.given key.Extents all) in
    let sectors = sectors_fit (value_in split.given key.Size) (value_fits (options_of name.Lvcreate) split.given key.Size all) in
    one_meant _
    (lvcreate_meant (value_in split.given) split.arguments
    (record {
      named = value_fits (options_of name.Lvcreate) split.given key.Name all;
      amount = amount_fits _ _ extents sectors;
      stripes = value_fits (options_of name.Lvcreate) split.given key.Stripes all;
      piece = value_fits (options_of name.Lvcreate) split.given key.StripeSize all;
      mirrors = value_fits (options_of name.Lvcreate) split.given key.Mirrors all;
    }))
request_meant name.Lvextend split here pass =
    let all =
    (and_parts (list_all (given_passes (options_of name.Lvextend)) split.given) (arguments_pass name.Lvextend 0 split.arguments)
    pass).0 in
    let extents = value_fits (options_of name.Lvextend) split.given key.Extents all in
    let sectors = value_fits (options_of name.Lvextend) split.given key.Size all in
    one_meant _ (lvextend_meant (value_in split.given) split.arguments
    (growths_fit (value_in split.given key.Extents) (value_in split.given key.Size) extents sectors))
request_meant name.Lvreduce split here pass =
    let all =
    (and_parts (list_all (given_passes (options_of name.Lvreduce)) split.given) (arguments_pass name.Lvreduce 0 split.arguments)
    pass).0 in
    let extents = extents_fit (value_in split.given key.Extents) (value_fits (options_of name.Lvreduce) split.given key.Extents all) in
    let sectors = sectors_fit (value_in split.given key.Size) (value_fits (options_of name.Lvreduce) split.given key.Size all) in
    one_meant _ (lvreduce_meant (value_in split.given) split.arguments (amount_fits _ _ extents sectors))
request_meant name.Lvremove split here pass =
    one_meant _ (mapped IsMeant Lvremove (λ path id drawn built changing. tt) (one_path split.arguments))
request_meant name.Lvrename split here pass =
    one_meant _ (lvrename_meant split.arguments
    (and_parts (list_all (given_passes (options_of name.Lvrename)) split.given) (arguments_pass name.Lvrename 0 split.arguments)
    pass).1)
request_meant name.Lvs split here pass = one_meant _ (alone_meant Lvs (reads_meant Lvs refl) split.arguments)
request_meant name.Session split here pass = session_meant (value_in split.given) split.arguments
request_meant name.Demo split here pass = demo_meant split.arguments
request_meant _ split here pass = absurd (true≢false (sym here))

-- ---- words

-- without a faulty word all of them pass
words_pass : (name : CommandName) (words : List (Word × ℕ)) → (read name words).fault ≡ None → all_pass name (read name words).split ≡ true
words_pass name words none = ap (all_pass name) (split_read name words nothing_split None) ∙ ((fault_free name words).0 none).1

read_meant : (name : CommandName) (words : List (Word × ℕ)) → is_for_words name ≡ true
    → IfSome (result_ok (request_read name (read name words))) IsMeantRequest
read_meant name words here = go (read name words).fault refl (is_complete (read name words).split)
  where
    asked : Option Request
    asked = request_by_name name (value_in (read name words).split.given) (read name words).split.arguments

    whole : (o : Option Request) → IfSome o IsMeantRequest → IfSome (result_ok (meaning_with None o)) IsMeantRequest
    whole None meant = tt
    whole (Some request) meant = meant

    go : (fault : Option (Fault × ℕ)) → (read name words).fault ≡ fault → (complete : Bool)
        → IfSome (result_ok (meaning_with fault (if complete then asked else None))) IsMeantRequest
    go (Some fault) is complete = tt
    go None is true = whole asked (request_meant name (read name words).split here (words_pass name words is))
    go None is false = tt

at_place_meant : (end : ℕ) (meaning : Result Request CommandRefusal) → IfSome (result_ok meaning) IsMeantRequest
    → IfSome (result_ok (at_place end meaning)) IsMeantRequest
at_place_meant end (Ok request) meant = meant
at_place_meant end (Err (Faulty fault place)) meant = tt
at_place_meant end (Err WrongWords) meant = tt
at_place_meant end (Err NoMemory) meant = tt

named_meant : (name : Option CommandName) (words : List Word) → IfSome (result_ok (request_named name words)) IsMeantRequest
named_meant None words = tt
named_meant (Some name) words = go (cases_Bool (is_for_words name))
  where
    go : (is_for_words name ≡ true) ⊎ (is_for_words name ≡ false) → IfSome (result_ok (request_named (Some name) words)) IsMeantRequest
    go (inl e) =
        rw e (at_place_meant (length words + 1) (request_read name (read name (numbered_from 1 words)))
        (read_meant name (numbered_from 1 words) e))
    go (inr e) = rw e tt

words_meant : (words : List Word) → IfSome (result_ok (meaning_of_words words)) IsMeantRequest
words_meant [] = tt
words_meant (first ∷ rest) = named_meant (command_named first) rest

front_meant : (front : Front) → IfSome (of_disks front) (λ (line : CommandLine). IsMeantRequest line.request)
front_meant front = go (result_ok (meaning_of_words front.rest)) (words_meant front.rest)
  where
    go : (o : Option Request) → IfSome o IsMeantRequest
        → IfSome (option_map (λ (request : Request). record { names = front.names; request = request }) o)
        (λ (line : CommandLine). IsMeantRequest line.request)
    go None meant = tt
    go (Some request) meant = meant

-- the command that words ask for
pub planned : (words : List Word) (line : CommandLine) (command : Command) → command_line_of words ≡ Some line → line.request ≡ One command
    → IsMeant command
planned words line command is asked =
    let all = chained (λ (line : CommandLine). IsMeantRequest line.request) of_disks front_meant (disks_front words) in
    subst IsMeantRequest asked (subst (λ (o : Option CommandLine). IfSome o (λ (line : CommandLine). IsMeantRequest line.request)) is all)
