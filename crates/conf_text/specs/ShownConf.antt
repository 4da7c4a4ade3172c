-- How each ConfRefusal is printed.
use Rattle.std.specs.Prelude.{ℕ, List, [], ◌∷◌, codes}
use Rattle.sector_base.specs.Shown.{Value}
use Rattle.sector_base.specs.Shown.Value.{number}
use Rattle.conf_text.specs.declared.refusal.ConfRefusal.{ConfRefusal}
use Rattle.conf_text.specs.declared.refusal.ConfRefusal.TheVariants.{NoMemory, BadToken, Unclosed, DuplicateKey, NumberTooWide, TooDeep}

-- its kind, and its place
abbrev pub shown_conf : ConfRefusal → List ℕ × List Value
shown_conf NoMemory = (codes "NoMemory", [])
shown_conf (BadToken place) = (codes "BadToken", number place ∷ [])
shown_conf (Unclosed place) = (codes "Unclosed", number place ∷ [])
shown_conf (DuplicateKey place) = (codes "DuplicateKey", number place ∷ [])
shown_conf (NumberTooWide place) = (codes "NumberTooWide", number place ∷ [])
shown_conf (TooDeep place) = (codes "TooDeep", number place ∷ [])
