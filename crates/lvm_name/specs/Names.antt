-- The names of lvm2, as lvm(8) has them.
use Rattle.std.specs.Prelude.{ℕ, Bool, false, not, ◌||◌, ◌==◌, nat_eq, nat_le, if◌then◌else◌, List, [], ◌∷◌, length, take, Option, Some}
use Rattle.std.specs.Prelude.{None, codes}
use Rattle.std.specs.Char.{is_ascii_alphanumeric}
use Rattle.std.specs.List.{list_any, position}
use Rattle.std.specs.Cmp.Lexicographic.{pointwise}
use Rattle.lvm_name.specs.declared.refusal.NameRefusal.{NameRefusal}
use Rattle.lvm_name.specs.declared.refusal.NameRefusal.TheVariants.{Empty, TooLong, LeadingDash, Dots, BadChar, Reserved}

-- a letter, a digit, `+`, `_`, `.` or `-`
abbrev pub is_name_byte : ℕ → Bool
is_name_byte byte = is_ascii_alphanumeric byte || byte == 43 || byte == 95 || byte == 46 || byte == 45

-- the text begins with this one
abbrev pub begins_with : List ℕ → List ℕ → Bool
begins_with front text = pointwise nat_eq front (take (length front) text)

-- this one stands somewhere in the text
abbrev pub has_within : List ℕ → List ℕ → Bool
has_within part [] = begins_with part []
has_within part (byte ∷ more) = begins_with part (byte ∷ more) || has_within part more

-- the text is one of these
abbrev pub is_among : List (List ℕ) → List ℕ → Bool
is_among texts text = list_any (pointwise nat_eq text) texts

-- the keys that stand beside a group in its text
abbrev pub is_top_key : List ℕ → Bool
is_top_key text =
    is_among (codes "contents" ∷ codes "version" ∷ codes "description" ∷ codes "creation_host" ∷ codes "creation_time" ∷ []) text

-- what lvm2 names its hidden volumes by
abbrev pub is_reserved : List ℕ → Bool
is_reserved text =
    begins_with (codes "pvmove") text || begins_with (codes "snapshot") text || has_within (codes "_mimage") text
    || has_within (codes "_mlog") text

-- the first test that the text fails, where these names are reserved
abbrev pub name_refusal : (List ℕ → Bool) → List ℕ → Option NameRefusal
name_refusal reserves text =
    if length text == 0 then Some Empty
    else if not (nat_le (length text) 127) then Some (TooLong (length text))
    else if begins_with (codes "-") text then Some LeadingDash
    else if is_among (codes "." ∷ codes ".." ∷ []) text then Some Dots
    else bad_byte_or (position (λ byte. not (is_name_byte byte)) text) (if reserves text then Some Reserved else None)
  where
    bad_byte_or : Option ℕ → Option NameRefusal → Option NameRefusal
    bad_byte_or (Some place) other = Some (BadChar place)
    bad_byte_or None other = other

-- of a group's name
abbrev pub group_name_refusal : List ℕ → Option NameRefusal
group_name_refusal text = name_refusal is_top_key text

-- of the name of a volume that a user gives
abbrev pub volume_name_refusal : List ℕ → Option NameRefusal
volume_name_refusal text = name_refusal is_reserved text

-- of the name of a volume in a text
abbrev pub any_name_refusal : List ℕ → Option NameRefusal
any_name_refusal text = name_refusal (λ _. false) text
