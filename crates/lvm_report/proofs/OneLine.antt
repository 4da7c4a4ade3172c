-- A line put in parts, one after the other; `++` nests to the left.
use Rattle.std.proofs.Common.{◌≡◌, List, ℕ, ◌++◌, ap, refl, ◌∙◌, append_assoc}
use Rattle.std.specs.Prelude.{Result, Ok, Err, IfOk, if◌then◌else◌, is_ok}

-- one part more behind a line so far
pub part : (text before line after word : List ℕ) → before ≡ text ++ line → after ≡ before ++ word → after ≡ text ++ (line ++ word)
part text before line after word so_far put = put ∙ ap (λ some. some ++ word) so_far ∙ append_assoc text line word

-- the last one, where there was room for it
pub last_part : {A E : Type 0} (result : Result A E) (text before line after word : List ℕ) → before ≡ text ++ line
    → after ≡ (if is_ok result then before ++ word else before)
    → IfOk result (λ _. after ≡ text ++ (line ++ word))
last_part (Ok value) text before line after word so_far put = part text before line after word so_far put
last_part (Err error) text before line after word so_far put = tt

pub last_put : {A E : Type 0} (result : Result A E) (text before line after word : List ℕ) → before ≡ text ++ line
    → IfOk result (λ _. after ≡ before ++ word) → IfOk result (λ _. after ≡ text ++ (line ++ word))
last_put (Ok value) text before line after word so_far put = part text before line after word so_far put
last_put (Err error) text before line after word so_far put = tt

-- the first column, and its space
pub first_column : (text after word end : List ℕ) → after ≡ text ++ word ++ end → after ≡ text ++ (word ++ end)
first_column text after word end put = put ∙ append_assoc text word end

-- one column more behind a line so far
pub column : (text before line after word end : List ℕ) → before ≡ text ++ line → after ≡ before ++ word ++ end
    → after ≡ text ++ (line ++ word ++ end)
column text before line after word end so_far put =
    put ∙ ap (λ some. some ++ end) (part text before line (before ++ word) word so_far refl) ∙ append_assoc text (line ++ word) end

-- the last one, where there was room for it
pub last_column : {A E : Type 0} (result : Result A E) (text before line after word end : List ℕ) → before ≡ text ++ line
    → IfOk result (λ _. after ≡ before ++ word ++ end)
    → IfOk result (λ _. after ≡ text ++ (line ++ word ++ end))
last_column (Ok value) text before line after word end so_far put = column text before line after word end so_far put
last_column (Err error) text before line after word end so_far put = tt
