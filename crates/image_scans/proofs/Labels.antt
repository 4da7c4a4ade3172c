-- The label of a physical volume that is written again: it is read as before, with the same id and areas.
use Rattle.std.proofs.Common.{◌≡◌, ◌<◌, ℕ, zero, suc, List, [], ◌∷◌, refl, sym, subst, ◌∙◌, arith}
use Rattle.pv_header.specs.declared.header.PvHeader.{PvHeader}
use Rattle.pv_header.specs.Areas.{CanLie}
use Rattle.pv_header.specs.PvHeader.{IsPvHeader}
use Rattle.pv_header.specs.PvRefusal.{Reads}
use Rattle.pv_label.specs.Label.{IsFirstLabel, IsLabel, sector_at}
use Rattle.pv_label.specs.LabelSectors.{first_four}

-- the first four sectors of a disk, one by one
pub of_four : (sectors : ℕ → List ℕ) (k : ℕ) → k < 4 → sector_at (first_four sectors) k ≡ sectors k
of_four sectors zero low = refl
of_four sectors (suc zero) low = refl
of_four sectors (suc (suc zero)) low = refl
of_four sectors (suc (suc (suc zero))) low = refl
of_four sectors (suc (suc (suc (suc k)))) low = absurd (omega (arith, low))

-- disks with the same four have the same list
pub four_same : (old new : ℕ → List ℕ) → ((k : ℕ) → k < 4 → new k ≡ old k) → first_four new ≡ first_four old
four_same old new same = λ i. same 0 (omega arith) i ∷ same 1 (omega arith) i ∷ same 2 (omega arith) i ∷ same 3 (omega arith) i ∷ []

-- the first label stays the first, where those before it stay
pub label_again : (old new : ℕ → List ℕ) (label : ℕ) → ((k : ℕ) → k < label → new k ≡ old k) → IsLabel (new label) label
    → IsFirstLabel (first_four old) label → IsFirstLabel (first_four new) label
label_again old new label same is first = record {
  among = first.among;
  label = subst (λ (s : List ℕ). IsLabel s label) (sym (of_four new label first.among)) is;
  first = λ k before has.
      let low : label < 4 = first.among in
      first.first k before (subst (λ (s : List ℕ). IsLabel s k)
      (of_four new k (omega (arith, before, low)) ∙ same k before ∙ sym (of_four old k (omega (arith, before, low)))) has);
}

-- a header with the same id and areas
pub record IsSameHeader (old new : PvHeader) : Type 0 where
  pub id : new.id ≡ old.id
  pub held : new.data_areas ≡ old.data_areas
  pub areas : new.areas ≡ old.areas

pub header_again : (sector : List ℕ) (bytes : ℕ) (old new : PvHeader) → IsSameHeader old new → IsPvHeader sector new []
    → CanLie old.data_areas old.areas bytes → Reads sector bytes new
header_again sector bytes old new same is lie = record {
  fields = is;
  areas = subst (λ l. CanLie l new.areas bytes) (sym same.held) (subst (λ l. CanLie old.data_areas l bytes) (sym same.areas) lie);
}
