-- The value of an option, behind its reference.
use Rattle.std.proofs.Common.{◌≡◌, ◌∙◌, ap, true, false, List, [], ◌∷◌, map, Option, refl, inl, inr, ◌⊎◌}
use Rattle.std.proofs.lemmas.Bool.{cases_Bool}
use Rattle.std.specs.Borrow.{Bor}
use Rattle.std.specs.Prelude.{find, option_map}
use Rattle.command_table.specs.declared.option_key.OptionKey.{OptionKey}
use Rattle.command_table.specs.Options.{Word, is_key}

pub value_read : (pairs : List (OptionKey × Bor Word)) (key : OptionKey)
    → option_map (λ (pair : OptionKey × Bor Word). pair.1.now) (find (λ (pair : OptionKey × Bor Word). is_key pair.0 key) pairs)
    ≡ option_map (λ (pair : OptionKey × Word). pair.1)
    (find (λ (pair : OptionKey × Word). is_key pair.0 key) (map (λ (pair : OptionKey × Bor Word). (pair.0, pair.1.now)) pairs))
value_read [] key = refl
value_read (pair ∷ pairs) key = go (value_read pairs key) (cases_Bool (is_key pair.0 key))
  where
    go : option_map (λ (pair : OptionKey × Bor Word). pair.1.now) (find (λ (pair : OptionKey × Bor Word). is_key pair.0 key) pairs)
        ≡ option_map (λ (pair : OptionKey × Word). pair.1)
        (find (λ (pair : OptionKey × Word). is_key pair.0 key) (map (λ (pair : OptionKey × Bor Word). (pair.0, pair.1.now)) pairs))
        → (is_key pair.0 key ≡ true) ⊎ (is_key pair.0 key ≡ false)
        → option_map (λ (pair : OptionKey × Bor Word). pair.1.now)
        (find (λ (pair : OptionKey × Bor Word). is_key pair.0 key) (pair ∷ pairs))
        ≡ option_map (λ (pair : OptionKey × Word). pair.1)
        (find (λ (pair : OptionKey × Word). is_key pair.0 key) (map (λ (pair : OptionKey × Bor Word). (pair.0, pair.1.now)) (pair ∷ pairs)))
    go rest (inl e) = rw e refl
    go rest (inr e) = rw e rest

-- the same of the pairs that the code reads
pub value_found : (pairs read : List (OptionKey × Bor Word)) (key : OptionKey) (o : Option (OptionKey × Bor Word)) → read ≡ pairs
    → o ≡ find (λ (pair : OptionKey × Bor Word). is_key pair.0 key) read
    → option_map (λ (pair : OptionKey × Bor Word). pair.1.now) o
    ≡ option_map (λ (pair : OptionKey × Word). pair.1)
    (find (λ (pair : OptionKey × Word). is_key pair.0 key) (map (λ (pair : OptionKey × Bor Word). (pair.0, pair.1.now)) pairs))
value_found pairs read key o same is =
    ap (option_map (λ (pair : OptionKey × Bor Word). pair.1.now)) (is ∙ ap (find (λ (pair : OptionKey × Bor Word). is_key pair.0 key)) same)
    ∙ value_read pairs key
