-- The first four sectors have one answer about their label.
use Rattle.std.proofs.Common.{◌≡◌, ◌<◌, ℕ, List, refl, sym, ap, subst, inl, inr, ◌∙◌, arith}
use Rattle.std.proofs.lemmas.Bool.{cases_lt}
use Rattle.pv_label.specs.declared.refusal.LabelRefusal.{LabelRefusal}
use Rattle.pv_label.specs.declared.refusal.LabelRefusal.TheVariants.{NoLabel, WrongSector, BadSum, BadOffset, BadType}
use Rattle.pv_label.specs.Label.{BeginsLikeLabel, IsFirstLabel, IsFirstRefusal, IsLabelRefusal, IsRefused, sector_at}

not_earlier : (sectors : List (List ℕ)) (a b : ℕ) → IsFirstLabel sectors a → IsFirstLabel sectors b → a < b → ⊥
not_earlier sectors a b is is' earlier = is'.first a earlier is.label

pub one_label : (sectors : List (List ℕ)) (a b : ℕ) → IsFirstLabel sectors a → IsFirstLabel sectors b → a ≡ b
one_label sectors a b is is' =
    elim (cases_lt a b) [
      | inl earlier ↦ absurd (not_earlier sectors a b is is' earlier)
      | inr from ↦
          elim (cases_lt b a) [
            | inl earlier ↦ absurd (not_earlier sectors b a is' is earlier)
            | inr upto ↦ omega arith
          ]
    ]

pub label_or_refusal : (sectors : List (List ℕ)) (number : ℕ) (refusal : LabelRefusal) → IsFirstLabel sectors number
    → IsLabelRefusal sectors refusal → ⊥
label_or_refusal sectors number refusal is refused = refused.none number is.among is.label

-- a sector that begins like a label has one refusal
one_refusal : (sector : List ℕ) (number : ℕ) (a b : LabelRefusal) → BeginsLikeLabel sector → IsRefused sector number a
    → IsRefused sector number b → a ≡ b
one_refusal sector number NoLabel NoLabel begins h k = absurd (h begins)
one_refusal sector number NoLabel (WrongSector said' found') begins h k = absurd (h begins)
one_refusal sector number NoLabel (BadSum at') begins h k = absurd (h begins)
one_refusal sector number NoLabel (BadOffset said') begins h k = absurd (h begins)
one_refusal sector number NoLabel BadType begins h k = absurd (h begins)
one_refusal sector number (WrongSector said found) NoLabel begins h k = absurd (k begins)
one_refusal sector number (WrongSector said found) (WrongSector said' found') begins h k =
    λ i. WrongSector ((sym h.1 ∙ k.1) i) ((h.2 ∙ sym k.2) i)
one_refusal sector number (WrongSector said found) (BadSum at') begins h k = absurd (h.3 (sym h.1 ∙ k.1))
one_refusal sector number (WrongSector said found) (BadOffset said') begins h k = absurd (h.3 (sym h.1 ∙ k.1))
one_refusal sector number (WrongSector said found) BadType begins h k = absurd (h.3 (sym h.1 ∙ k.1))
one_refusal sector number (BadSum at) NoLabel begins h k = absurd (k begins)
one_refusal sector number (BadSum at) (WrongSector said' found') begins h k = absurd (k.3 (sym k.1 ∙ h.1))
one_refusal sector number (BadSum at) (BadSum at') begins h k = ap (λ (n : ℕ). BadSum n) (h.2 ∙ sym k.2)
one_refusal sector number (BadSum at) (BadOffset said') begins h k = absurd (h.3 k.2)
one_refusal sector number (BadSum at) BadType begins h k = absurd (h.3 k.2)
one_refusal sector number (BadOffset said) NoLabel begins h k = absurd (k begins)
one_refusal sector number (BadOffset said) (WrongSector said' found') begins h k = absurd (k.3 (sym k.1 ∙ h.1))
one_refusal sector number (BadOffset said) (BadSum at') begins h k = absurd (k.3 h.2)
one_refusal sector number (BadOffset said) (BadOffset said') begins h k = ap (λ (n : ℕ). BadOffset n) (sym h.3 ∙ k.3)
one_refusal sector number (BadOffset said) BadType begins h k = absurd (h.4 (sym h.3 ∙ k.3))
one_refusal sector number BadType NoLabel begins h k = absurd (k begins)
one_refusal sector number BadType (WrongSector said' found') begins h k = absurd (k.3 (sym k.1 ∙ h.1))
one_refusal sector number BadType (BadSum at') begins h k = absurd (k.3 h.2)
one_refusal sector number BadType (BadOffset said') begins h k = absurd (k.4 (sym k.3 ∙ h.3))
one_refusal sector number BadType BadType begins h k = refl

-- the first sector that begins like a label
abbrev FirstBegins : List (List ℕ) → ℕ → Type 0
FirstBegins sectors number =
    (number < 4) × BeginsLikeLabel (sector_at sectors number) × ((k : ℕ) → k < number → ¬ BeginsLikeLabel (sector_at sectors k))

one_beginning : (sectors : List (List ℕ)) (a b : ℕ) → FirstBegins sectors a → FirstBegins sectors b → a ≡ b
one_beginning sectors a b is is' =
    elim (cases_lt a b) [
      | inl earlier ↦ absurd (is'.2 a earlier is.1)
      | inr from ↦
          elim (cases_lt b a) [
            | inl earlier ↦ absurd (is.2 b earlier is'.1)
            | inr upto ↦ omega arith
          ]
    ]

abbrev FirstRefuses : List (List ℕ) → LabelRefusal → Type 0
FirstRefuses sectors refusal =
    (number : ℕ) × (number < 4) × BeginsLikeLabel (sector_at sectors number)
    × ((k : ℕ) → k < number → ¬ BeginsLikeLabel (sector_at sectors k))
    × IsRefused (sector_at sectors number) number refusal

first_refusals : (sectors : List (List ℕ)) (a b : LabelRefusal) → FirstRefuses sectors a → FirstRefuses sectors b → a ≡ b
first_refusals sectors a b h k =
    let same : k.0 ≡ h.0 = one_beginning sectors k.0 h.0 (k.1, k.2, k.3) (h.1, h.2, h.3) in
    let here : IsRefused (sector_at sectors h.0) h.0 b = subst (λ (n : ℕ). IsRefused (sector_at sectors n) n b) same k.4 in
    one_refusal (sector_at sectors h.0) h.0 a b h.2 h.4 here

first_causes : (sectors : List (List ℕ)) (a b : LabelRefusal) → IsFirstRefusal sectors 4 a → IsFirstRefusal sectors 4 b → a ≡ b
first_causes sectors NoLabel NoLabel h k = refl
first_causes sectors NoLabel (WrongSector said' found') h k = absurd (h k.0 k.1 k.2)
first_causes sectors NoLabel (BadSum at') h k = absurd (h k.0 k.1 k.2)
first_causes sectors NoLabel (BadOffset said') h k = absurd (h k.0 k.1 k.2)
first_causes sectors NoLabel BadType h k = absurd (h k.0 k.1 k.2)
first_causes sectors (WrongSector said found) NoLabel h k = absurd (k h.0 h.1 h.2)
first_causes sectors (WrongSector said found) (WrongSector said' found') h k =
    first_refusals sectors (WrongSector said found) (WrongSector said' found') h k
first_causes sectors (WrongSector said found) (BadSum at') h k = first_refusals sectors (WrongSector said found) (BadSum at') h k
first_causes sectors (WrongSector said found) (BadOffset said') h k = first_refusals sectors (WrongSector said found) (BadOffset said') h k
first_causes sectors (WrongSector said found) BadType h k = first_refusals sectors (WrongSector said found) BadType h k
first_causes sectors (BadSum at) NoLabel h k = absurd (k h.0 h.1 h.2)
first_causes sectors (BadSum at) (WrongSector said' found') h k = first_refusals sectors (BadSum at) (WrongSector said' found') h k
first_causes sectors (BadSum at) (BadSum at') h k = first_refusals sectors (BadSum at) (BadSum at') h k
first_causes sectors (BadSum at) (BadOffset said') h k = first_refusals sectors (BadSum at) (BadOffset said') h k
first_causes sectors (BadSum at) BadType h k = first_refusals sectors (BadSum at) BadType h k
first_causes sectors (BadOffset said) NoLabel h k = absurd (k h.0 h.1 h.2)
first_causes sectors (BadOffset said) (WrongSector said' found') h k =
    first_refusals sectors (BadOffset said) (WrongSector said' found') h k
first_causes sectors (BadOffset said) (BadSum at') h k = first_refusals sectors (BadOffset said) (BadSum at') h k
first_causes sectors (BadOffset said) (BadOffset said') h k = first_refusals sectors (BadOffset said) (BadOffset said') h k
first_causes sectors (BadOffset said) BadType h k = first_refusals sectors (BadOffset said) BadType h k
first_causes sectors BadType NoLabel h k = absurd (k h.0 h.1 h.2)
first_causes sectors BadType (WrongSector said' found') h k = first_refusals sectors BadType (WrongSector said' found') h k
first_causes sectors BadType (BadSum at') h k = first_refusals sectors BadType (BadSum at') h k
first_causes sectors BadType (BadOffset said') h k = first_refusals sectors BadType (BadOffset said') h k
first_causes sectors BadType BadType h k = first_refusals sectors BadType BadType h k

pub one_label_refusal : (sectors : List (List ℕ)) (a b : LabelRefusal) → IsLabelRefusal sectors a → IsLabelRefusal sectors b → a ≡ b
one_label_refusal sectors a b is is' = first_causes sectors a b is.cause is'.cause
