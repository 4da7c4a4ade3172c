-- The first refusal of one sector more, and that a refused sector is no label.
use Rattle.std.proofs.Common.{◌<◌, ℕ, ◌+◌, List, sym, ◌∙◌, arith, below_more}
use Rattle.pv_label.specs.declared.refusal.LabelRefusal.{LabelRefusal}
use Rattle.pv_label.specs.declared.refusal.LabelRefusal.TheVariants.{NoLabel, WrongSector, BadSum, BadOffset, BadType}
use Rattle.pv_label.specs.First.{first_refusal}
use Rattle.pv_label.specs.Label.{BeginsLikeLabel, IsFirstRefusal, IsLabel, IsRefused, sector_at}

pub IsRefused-no_label : (sector : List ℕ) (number : ℕ) (refusal : LabelRefusal) → IsRefused sector number refusal → ¬ IsLabel sector number
IsRefused-no_label sector number NoLabel h label = h label.id
IsRefused-no_label sector number (WrongSector said found) h label = h.3 (sym h.1 ∙ label.sector_is)
IsRefused-no_label sector number (BadSum at) h label = h.3 label.crc_is
IsRefused-no_label sector number (BadOffset said) h label = h.4 (sym h.3 ∙ label.offset_is)
IsRefused-no_label sector number BadType h label = h.4 label.kind

-- a sector that begins like a label is the first where none did
first_here : (sectors : List (List ℕ)) (n : ℕ) (refusal : LabelRefusal) → ((k : ℕ) → k < n → ¬ BeginsLikeLabel (sector_at sectors k))
    → BeginsLikeLabel (sector_at sectors n) → IsRefused (sector_at sectors n) n refusal
    → (number : ℕ) × (number < n + 1) × BeginsLikeLabel (sector_at sectors number)
    × ((k : ℕ) → k < number → ¬ BeginsLikeLabel (sector_at sectors k)) × IsRefused (sector_at sectors number) number refusal
first_here sectors n refusal none begins refused = (n, omega arith, begins, none, refused)

still_first : (sectors : List (List ℕ)) (n : ℕ) (refusal : LabelRefusal)
    → (number : ℕ) × (number < n) × BeginsLikeLabel (sector_at sectors number)
    × ((k : ℕ) → k < number → ¬ BeginsLikeLabel (sector_at sectors k)) × IsRefused (sector_at sectors number) number refusal
    → (number : ℕ) × (number < n + 1) × BeginsLikeLabel (sector_at sectors number)
    × ((k : ℕ) → k < number → ¬ BeginsLikeLabel (sector_at sectors k)) × IsRefused (sector_at sectors number) number refusal
still_first sectors n refusal h = (h.0, omega (arith, h.1), h.2, h.3, h.4)

pub IsFirstRefusal-more : (sectors : List (List ℕ)) (n : ℕ) (before cause : LabelRefusal) → IsFirstRefusal sectors n before
    → IsRefused (sector_at sectors n) n cause → IsFirstRefusal sectors (n + 1) (first_refusal before cause)
IsFirstRefusal-more sectors n NoLabel NoLabel none refused = below_more _ _ none refused
IsFirstRefusal-more sectors n NoLabel (WrongSector said found) none refused =
    first_here sectors n (WrongSector said found) none refused.0 refused
IsFirstRefusal-more sectors n NoLabel (BadSum at) none refused = first_here sectors n (BadSum at) none refused.0 refused
IsFirstRefusal-more sectors n NoLabel (BadOffset said) none refused = first_here sectors n (BadOffset said) none refused.0 refused
IsFirstRefusal-more sectors n NoLabel BadType none refused = first_here sectors n BadType none refused.0 refused
IsFirstRefusal-more sectors n (WrongSector said found) cause h refused = still_first sectors n (WrongSector said found) h
IsFirstRefusal-more sectors n (BadSum at) cause h refused = still_first sectors n (BadSum at) h
IsFirstRefusal-more sectors n (BadOffset said) cause h refused = still_first sectors n (BadOffset said) h
IsFirstRefusal-more sectors n BadType cause h refused = still_first sectors n BadType h
