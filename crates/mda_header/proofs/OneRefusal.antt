-- A sector is refused in one way, and a header of the area isn't refused.
use Rattle.std.proofs.Common.{◌≡◌, ℕ, List, refl, sym, ap, subst, ◌∙◌}
use Rattle.mda_header.specs.declared.header.MdaHeader.{MdaHeader}
use Rattle.mda_header.specs.declared.refusal.MdaRefusal.{MdaRefusal}
use Rattle.mda_header.specs.declared.refusal.MdaRefusal.TheVariants.{BadSum, BadMagic, BadVersion, WrongStart, SizeBad, LocnOutside}
use Rattle.mda_header.specs.Header.{IsHeader, IsRefused}
use Rattle.mda_header.proofs.Fields.{IsRefused-no_header}

-- a header of the area isn't refused
pub header_or_refusal : (sector : List ℕ) (start size : ℕ) (header : MdaHeader) (refusal : MdaRefusal) → IsHeader sector header
    → header.start ≡ start → header.size ≡ size
    → IsRefused sector start size refusal → ⊥
header_or_refusal sector start size header refusal is s z h =
    let at_start : IsRefused sector header.start size refusal = subst (λ (n : ℕ). IsRefused sector n size refusal) (sym s) h in
    IsRefused-no_header sector header refusal (subst (λ (n : ℕ). IsRefused sector header.start n refusal) (sym z) at_start) is

-- a sector is refused in one way
pub one_refusal : (sector : List ℕ) (start size : ℕ) (a b : MdaRefusal) → IsRefused sector start size a → IsRefused sector start size b
    → a ≡ b
one_refusal sector start size (BadSum said found) (BadSum said' found') h k = λ i. BadSum ((sym h.0 ∙ k.0) i) ((h.1 ∙ sym k.1) i)
one_refusal sector start size (BadSum said found) BadMagic h k = absurd (h.2 (sym h.0 ∙ k.0 ∙ sym h.1))
one_refusal sector start size (BadSum said found) (BadVersion said') h k = absurd (h.2 (sym h.0 ∙ k.0 ∙ sym h.1))
one_refusal sector start size (BadSum said found) (WrongStart said' sought') h k = absurd (h.2 (sym h.0 ∙ k.0.checksum_is ∙ sym h.1))
one_refusal sector start size (BadSum said found) (SizeBad said' sought') h k = absurd (h.2 (sym h.0 ∙ k.0.checksum_is ∙ sym h.1))
one_refusal sector start size (BadSum said found) (LocnOutside offset' text_size') h k =
    absurd (h.2 (sym h.0 ∙ k.0.sound.checksum_is ∙ sym h.1))
one_refusal sector start size BadMagic (BadSum said' found') h k = absurd (k.2 (sym k.0 ∙ h.0 ∙ sym k.1))
one_refusal sector start size BadMagic BadMagic h k = refl
one_refusal sector start size BadMagic (BadVersion said') h k = absurd (h.1 k.1)
one_refusal sector start size BadMagic (WrongStart said' sought') h k = absurd (h.1 k.0.magic)
one_refusal sector start size BadMagic (SizeBad said' sought') h k = absurd (h.1 k.0.magic)
one_refusal sector start size BadMagic (LocnOutside offset' text_size') h k = absurd (h.1 k.0.sound.magic)
one_refusal sector start size (BadVersion said) (BadSum said' found') h k = absurd (k.2 (sym k.0 ∙ h.0 ∙ sym k.1))
one_refusal sector start size (BadVersion said) BadMagic h k = absurd (k.1 h.1)
one_refusal sector start size (BadVersion said) (BadVersion said') h k = ap (λ (n : ℕ). BadVersion n) (sym h.2 ∙ k.2)
one_refusal sector start size (BadVersion said) (WrongStart said' sought') h k = absurd (h.3 (sym h.2 ∙ k.0.version))
one_refusal sector start size (BadVersion said) (SizeBad said' sought') h k = absurd (h.3 (sym h.2 ∙ k.0.version))
one_refusal sector start size (BadVersion said) (LocnOutside offset' text_size') h k = absurd (h.3 (sym h.2 ∙ k.0.sound.version))
one_refusal sector start size (WrongStart said sought) (BadSum said' found') h k = absurd (k.2 (sym k.0 ∙ h.0.checksum_is ∙ sym k.1))
one_refusal sector start size (WrongStart said sought) BadMagic h k = absurd (k.1 h.0.magic)
one_refusal sector start size (WrongStart said sought) (BadVersion said') h k = absurd (k.3 (sym k.2 ∙ h.0.version))
one_refusal sector start size (WrongStart said sought) (WrongStart said' sought') h k =
    λ i. WrongStart ((sym h.1 ∙ k.1) i) ((h.2 ∙ sym k.2) i)
one_refusal sector start size (WrongStart said sought) (SizeBad said' sought') h k = absurd (h.3 (sym h.1 ∙ k.1))
one_refusal sector start size (WrongStart said sought) (LocnOutside offset' text_size') h k = absurd (h.3 (sym h.1 ∙ k.0.start_is))
one_refusal sector start size (SizeBad said sought) (BadSum said' found') h k = absurd (k.2 (sym k.0 ∙ h.0.checksum_is ∙ sym k.1))
one_refusal sector start size (SizeBad said sought) BadMagic h k = absurd (k.1 h.0.magic)
one_refusal sector start size (SizeBad said sought) (BadVersion said') h k = absurd (k.3 (sym k.2 ∙ h.0.version))
one_refusal sector start size (SizeBad said sought) (WrongStart said' sought') h k = absurd (k.3 (sym k.1 ∙ h.1))
one_refusal sector start size (SizeBad said sought) (SizeBad said' sought') h k = λ i. SizeBad ((sym h.2 ∙ k.2) i) ((h.3 ∙ sym k.3) i)
one_refusal sector start size (SizeBad said sought) (LocnOutside offset' text_size') h k = absurd (h.4 (sym h.2 ∙ k.0.size_is))
one_refusal sector start size (LocnOutside offset text_size) (BadSum said' found') h k =
    absurd (k.2 (sym k.0 ∙ h.0.sound.checksum_is ∙ sym k.1))
one_refusal sector start size (LocnOutside offset text_size) BadMagic h k = absurd (k.1 h.0.sound.magic)
one_refusal sector start size (LocnOutside offset text_size) (BadVersion said') h k = absurd (k.3 (sym k.2 ∙ h.0.sound.version))
one_refusal sector start size (LocnOutside offset text_size) (WrongStart said' sought') h k = absurd (k.3 (sym k.1 ∙ h.0.start_is))
one_refusal sector start size (LocnOutside offset text_size) (SizeBad said' sought') h k = absurd (k.4 (sym k.2 ∙ h.0.size_is))
one_refusal sector start size (LocnOutside offset text_size) (LocnOutside offset' text_size') h k =
    λ i. LocnOutside ((sym h.1 ∙ k.1) i) ((sym h.2 ∙ k.2) i)
