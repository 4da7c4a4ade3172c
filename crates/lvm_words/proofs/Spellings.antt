-- How clap reads a word that spells an option.
use Rattle.std.proofs.Common.{◌≡◌, ◌∙◌, ℕ, ◌==◌, cond, true, false, [], ◌∷◌, Option, Some, None, refl, ap, sym, subst, inl, inr, ◌⊎◌}
use Rattle.std.proofs.lemmas.Bool.{or_cases, true≢false}
use Rattle.std.proofs.lemmas.Slice.Eq.{bytes_eq-Decides}
use Rattle.std.specs.Prelude.{codes, is_some, slice_get, encode_utf8, drop, length, unwrap_or}
use Rattle.std.specs.Option.{option_map_or}
use Rattle.std.specs.Str.{bytes_eq, chars}
use Rattle.clap.specs.Lexer.{long_of, short_of}
use Rattle.clap.proofs.OnLiterals.{clap_on_literals}
use Rattle.command_table.specs.declared.option_key.OptionKey.{OptionKey}
use Rattle.command_table.specs.declared.option_key.OptionKey.TheVariants.{Abort, Alloc, DiskThreads, Extents, MetadataCopies}
use Rattle.command_table.specs.declared.option_key.OptionKey.TheVariants.{Mirrors, Name, PhysicalExtentSize, Size, Status, Stripes}
use Rattle.command_table.specs.declared.option_key.OptionKey.TheVariants.{StripeSize, Through, Workers}
use Rattle.command_table.specs.Options.{Word, is_key, letter_of, name_of, spells}
use Rattle.lvm_words.specs.Parser.{rest_id}

-- the word is the option's long spelling, or its short one
pub data Spelled (key : OptionKey) : Word → Type 0 where
  long : Spelled key (45 ∷ 45 ∷ name_of key)
  short : (letter : ℕ) → letter_of key ≡ Some letter → Spelled key (45 ∷ letter ∷ [])

pub long_word_of : (key : OptionKey) → long_of (45 ∷ 45 ∷ name_of key) ≡ Some (name_of key, None)
long_word_of Abort = refl
long_word_of Alloc = refl
long_word_of DiskThreads = refl
long_word_of Extents = refl
long_word_of MetadataCopies = refl
long_word_of Mirrors = refl
long_word_of Name = refl
long_word_of PhysicalExtentSize = refl
long_word_of Size = refl
long_word_of Status = refl
long_word_of Stripes = refl
long_word_of StripeSize = refl
long_word_of Through = refl
long_word_of Workers = refl

pub not_only_hyphens : (key : OptionKey) → bytes_eq (45 ∷ 45 ∷ name_of key) (45 ∷ 45 ∷ []) ≡ false
not_only_hyphens Abort = refl
not_only_hyphens Alloc = refl
not_only_hyphens DiskThreads = refl
not_only_hyphens Extents = refl
not_only_hyphens MetadataCopies = refl
not_only_hyphens Mirrors = refl
not_only_hyphens Name = refl
not_only_hyphens PhysicalExtentSize = refl
not_only_hyphens Size = refl
not_only_hyphens Status = refl
not_only_hyphens Stripes = refl
not_only_hyphens StripeSize = refl
not_only_hyphens Through = refl
not_only_hyphens Workers = refl

pub not_the_rest : (key : OptionKey) → bytes_eq (name_of key) rest_id ≡ false
not_the_rest Abort = refl
not_the_rest Alloc = refl
not_the_rest DiskThreads = refl
not_the_rest Extents = refl
not_the_rest MetadataCopies = refl
not_the_rest Mirrors = refl
not_the_rest Name = refl
not_the_rest PhysicalExtentSize = refl
not_the_rest Size = refl
not_the_rest Status = refl
not_the_rest Stripes = refl
not_the_rest StripeSize = refl
not_the_rest Through = refl
not_the_rest Workers = refl

-- ---- an option by its name and by its letter

pub same_name : (key : OptionKey) → is_key key key ≡ true
same_name key = (bytes_eq-Decides (name_of key) (name_of key)).1 refl

key_of_name : Word → OptionKey
key_of_name name =
    cond (bytes_eq name (codes "abort")) Abort
    (cond (bytes_eq name (codes "alloc")) Alloc
    (cond (bytes_eq name (codes "disk-threads")) DiskThreads
    (cond (bytes_eq name (codes "extents")) Extents
    (cond (bytes_eq name (codes "metadatacopies")) MetadataCopies
    (cond (bytes_eq name (codes "mirrors")) Mirrors
    (cond (bytes_eq name (codes "name")) Name
    (cond (bytes_eq name (codes "physicalextentsize")) PhysicalExtentSize
    (cond (bytes_eq name (codes "size")) Size
    (cond (bytes_eq name (codes "status")) Status
    (cond (bytes_eq name (codes "stripes")) Stripes
    (cond (bytes_eq name (codes "stripesize")) StripeSize
    (cond (bytes_eq name (codes "through")) Through
    Workers))))))))))))

key_of_name_of : (key : OptionKey) → key_of_name (name_of key) ≡ key
unfolding key_of_name
key_of_name_of Abort = refl
key_of_name_of Alloc = refl
key_of_name_of DiskThreads = refl
key_of_name_of Extents = refl
key_of_name_of MetadataCopies = refl
key_of_name_of Mirrors = refl
key_of_name_of Name = refl
key_of_name_of PhysicalExtentSize = refl
key_of_name_of Size = refl
key_of_name_of Status = refl
key_of_name_of Stripes = refl
key_of_name_of StripeSize = refl
key_of_name_of Through = refl
key_of_name_of Workers = refl

pub same_key : (a b : OptionKey) → bytes_eq (name_of a) (name_of b) ≡ true → a ≡ b
same_key a b e = sym (key_of_name_of a) ∙ ap key_of_name ((bytes_eq-Decides (name_of a) (name_of b)).0 e) ∙ key_of_name_of b

key_of_letter : Option ℕ → OptionKey
key_of_letter None = Abort
key_of_letter (Some letter) =
    cond (letter == 108) Extents
    (cond (letter == 109) Mirrors
    (cond (letter == 110) Name
    (cond (letter == 115) PhysicalExtentSize
    (cond (letter == 76) Size
    (cond (letter == 105) Stripes
    StripeSize)))))

key_of_letter_of : (key : OptionKey) (letter : ℕ) → letter_of key ≡ Some letter → key_of_letter (letter_of key) ≡ key
unfolding key_of_letter
key_of_letter_of Abort letter e = absurd (true≢false (sym (ap is_some e)))
key_of_letter_of Alloc letter e = absurd (true≢false (sym (ap is_some e)))
key_of_letter_of DiskThreads letter e = absurd (true≢false (sym (ap is_some e)))
key_of_letter_of Extents letter e = refl
key_of_letter_of MetadataCopies letter e = absurd (true≢false (sym (ap is_some e)))
key_of_letter_of Mirrors letter e = refl
key_of_letter_of Name letter e = refl
key_of_letter_of PhysicalExtentSize letter e = refl
key_of_letter_of Size letter e = refl
key_of_letter_of Status letter e = absurd (true≢false (sym (ap is_some e)))
key_of_letter_of Stripes letter e = refl
key_of_letter_of StripeSize letter e = refl
key_of_letter_of Through letter e = absurd (true≢false (sym (ap is_some e)))
key_of_letter_of Workers letter e = absurd (true≢false (sym (ap is_some e)))

pub same_letter : (a b : OptionKey) (letter : ℕ) → letter_of a ≡ Some letter → letter_of b ≡ Some letter → a ≡ b
same_letter a b letter ea eb = sym (key_of_letter_of a letter ea) ∙ ap key_of_letter (ea ∙ sym eb) ∙ key_of_letter_of b letter eb

-- ---- the word of a letter

some_is : (a b : ℕ) → Some a ≡ Some b → a ≡ b
some_is a b e = ap (λ o. unwrap_or o 0) e

abbrev At : ℕ → Type 0
At letter =
    (long_of (45 ∷ letter ∷ []) ≡ None) × (short_of (45 ∷ letter ∷ []) ≡ Some (letter ∷ []))
    × (bytes_eq (45 ∷ letter ∷ []) (45 ∷ 45 ∷ []) ≡ false)
    × (slice_get (chars (letter ∷ [])) 0 ≡ Some letter) × (drop (length (encode_utf8 letter)) (letter ∷ []) ≡ [])

pub short_word_of : (key : OptionKey) (letter : ℕ) → letter_of key ≡ Some letter
    → (long_of (45 ∷ letter ∷ []) ≡ None) × (short_of (45 ∷ letter ∷ []) ≡ Some (letter ∷ []))
    × (bytes_eq (45 ∷ letter ∷ []) (45 ∷ 45 ∷ []) ≡ false)
    × (slice_get (chars (letter ∷ [])) 0 ≡ Some letter) × (drop (length (encode_utf8 letter)) (letter ∷ []) ≡ [])
unfolding clap_on_literals
short_word_of Abort letter e = absurd (true≢false (sym (ap is_some e)))
short_word_of Alloc letter e = absurd (true≢false (sym (ap is_some e)))
short_word_of DiskThreads letter e = absurd (true≢false (sym (ap is_some e)))
short_word_of Extents letter e = subst (λ l. At l) (some_is 108 letter e) (refl, refl, refl, refl, refl)
short_word_of MetadataCopies letter e = absurd (true≢false (sym (ap is_some e)))
short_word_of Mirrors letter e = subst (λ l. At l) (some_is 109 letter e) (refl, refl, refl, refl, refl)
short_word_of Name letter e = subst (λ l. At l) (some_is 110 letter e) (refl, refl, refl, refl, refl)
short_word_of PhysicalExtentSize letter e = subst (λ l. At l) (some_is 115 letter e) (refl, refl, refl, refl, refl)
short_word_of Size letter e = subst (λ l. At l) (some_is 76 letter e) (refl, refl, refl, refl, refl)
short_word_of Status letter e = absurd (true≢false (sym (ap is_some e)))
short_word_of Stripes letter e = subst (λ l. At l) (some_is 105 letter e) (refl, refl, refl, refl, refl)
short_word_of StripeSize letter e = subst (λ l. At l) (some_is 73 letter e) (refl, refl, refl, refl, refl)
short_word_of Through letter e = absurd (true≢false (sym (ap is_some e)))
short_word_of Workers letter e = absurd (true≢false (sym (ap is_some e)))

-- ---- what a word that spells an option is

spelled_from : (key : OptionKey) (word : Word)
    → (bytes_eq (45 ∷ 45 ∷ name_of key) word ≡ true)
    ⊎ (option_map_or (λ letter. bytes_eq (45 ∷ letter ∷ []) word) (letter_of key) false ≡ true)
    → Spelled key word
spelled_from key word (inl e) = subst (Spelled key) ((bytes_eq-Decides (45 ∷ 45 ∷ name_of key) word).0 e) long
spelled_from key word (inr e) = go (letter_of key) refl e
  where
    go : (l : Option ℕ) → letter_of key ≡ l → option_map_or (λ letter. bytes_eq (45 ∷ letter ∷ []) word) l false ≡ true → Spelled key word
    go None is e = absurd (true≢false (sym e))
    go (Some letter) is e = subst (Spelled key) ((bytes_eq-Decides (45 ∷ letter ∷ []) word).0 e) (short letter is)

pub spelled : (key : OptionKey) (word : Word) → spells key word ≡ true → Spelled key word
spelled key word e = spelled_from key word (or_cases (bytes_eq (45 ∷ 45 ∷ name_of key) word) _ e)
