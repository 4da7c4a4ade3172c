-- A sector says one thing of the committed text.
use Rattle.std.proofs.Common.{◌≡◌, ◌≤◌, ℕ, List, refl, sym, ap, ◌∙◌, arith}
use Rattle.mda_header.specs.declared.entry.HeaderEntry.{HeaderEntry}
use Rattle.mda_header.specs.declared.entry.HeaderEntry.TheVariants.{Ignored, Nothing, Text, Refused}
use Rattle.mda_header.specs.declared.header.Locn.{Locn}
use Rattle.mda_header.specs.declared.refusal.MdaRefusal.{MdaRefusal}
use Rattle.mda_header.specs.declared.refusal.MdaRefusal.TheVariants.{BadSum, BadMagic, BadVersion, WrongStart, SizeBad, LocnOutside}
use Rattle.mda_header.specs.Header.{HoldsNothing, HoldsText, IsEntry, IsRefused, locn_at}
use Rattle.mda_header.proofs.OneRefusal.{one_refusal}

-- a header whose text lies in the area isn't refused
text_or_refusal : (sector : List ℕ) (start size : ℕ) (refusal : MdaRefusal) → HoldsText sector start size
    → IsRefused sector start size refusal → ⊥
text_or_refusal sector start size (BadSum said found) is h = h.2 (sym h.0 ∙ is.of_area.sound.checksum_is ∙ sym h.1)
text_or_refusal sector start size BadMagic is h = h.1 is.of_area.sound.magic
text_or_refusal sector start size (BadVersion said) is h = h.3 (sym h.2 ∙ is.of_area.sound.version)
text_or_refusal sector start size (WrongStart said sought) is h = h.3 (sym h.1 ∙ is.of_area.start_is)
text_or_refusal sector start size (SizeBad said sought) is h = h.4 (sym h.2 ∙ is.of_area.size_is)
text_or_refusal sector start size (LocnOutside offset text_size) is h = h.4 is.inside

-- an offset of 0 is none, and a text lies behind the header
nothing_or_text : (sector : List ℕ) (start size : ℕ) → HoldsNothing sector → HoldsText sector start size → ⊥
nothing_or_text sector start size none is =
    let offset : (locn_at sector 40).offset ≡ 0 = none.none in
    let behind : 512 ≤ (locn_at sector 40).offset = is.inside.behind_header in
    omega arith

pub one_entry : (sector : List ℕ) (start size : ℕ) (a b : HeaderEntry) → IsEntry sector start size a → IsEntry sector start size b → a ≡ b
one_entry sector start size Ignored Ignored h k = refl
one_entry sector start size Ignored Nothing h k = absurd (k.1 h.bit)
one_entry sector start size Ignored (Text locn) h k = absurd (k.1 h.bit)
one_entry sector start size Ignored (Refused refusal) h k = absurd (k.2 h)
one_entry sector start size Nothing Ignored h k = absurd (h.1 k.bit)
one_entry sector start size Nothing Nothing h k = refl
one_entry sector start size Nothing (Text locn) h k = absurd (nothing_or_text sector start size h.0 k.0)
one_entry sector start size Nothing (Refused refusal) h k = absurd (k.1 h.0)
one_entry sector start size (Text locn) Ignored h k = absurd (h.1 k.bit)
one_entry sector start size (Text locn) Nothing h k = absurd (nothing_or_text sector start size k.0 h.0)
one_entry sector start size (Text locn) (Text locn') h k = ap (λ (l : Locn). Text l) (h.2 ∙ sym k.2)
one_entry sector start size (Text locn) (Refused refusal) h k = absurd (text_or_refusal sector start size refusal h.0 k.0)
one_entry sector start size (Refused refusal) Ignored h k = absurd (h.2 k)
one_entry sector start size (Refused refusal) Nothing h k = absurd (h.1 k.0)
one_entry sector start size (Refused refusal) (Text locn) h k = absurd (text_or_refusal sector start size refusal k.0 h.0)
one_entry sector start size (Refused refusal) (Refused refusal') h k =
    ap (λ (r : MdaRefusal). Refused r) (one_refusal sector start size refusal refusal' h.0 k.0)
