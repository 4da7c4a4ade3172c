-- The first four sectors of a disk, and the label among them.
use Rattle.pv_label.specs.LabelSectors.{first_four}
use Rattle.std.proofs.Common.{◌≡◌, ◌<◌, ℕ, zero, suc, List, [], slice_index_or, refl, ap, subst, ◌∙◌, arith}
use Rattle.pv_label.specs.Label.{IsFirstLabel}

nth_of_four : (sector_at : ℕ → List ℕ) (number : ℕ) → number < 4 → slice_index_or (first_four sector_at) number [] ≡ sector_at number
nth_of_four sector_at zero lt = refl
nth_of_four sector_at (suc zero) lt = refl
nth_of_four sector_at (suc (suc zero)) lt = refl
nth_of_four sector_at (suc (suc (suc zero))) lt = refl
nth_of_four sector_at (suc (suc (suc (suc n)))) lt = absurd (omega arith)

-- the label's sector is the one of this number
pub label_is_there : (sector_at : ℕ → List ℕ) (first : List (List ℕ)) (sector : List ℕ) (number : ℕ) → IsFirstLabel first number
    → sector ≡ slice_index_or first number []
    → first ≡ first_four sector_at → sector ≡ sector_at number
label_is_there sector_at first sector number label is read =
    is ∙ ap (λ (l : List (List ℕ)). slice_index_or l number []) read ∙ nth_of_four sector_at number label.among

pub label_of_read : (sector_at : ℕ → List ℕ) (first : List (List ℕ)) (number : ℕ) → IsFirstLabel first number → first ≡ first_four sector_at
    → IsFirstLabel (first_four sector_at) number
label_of_read sector_at first number label read = subst (λ (l : List (List ℕ)). IsFirstLabel l number) read label
