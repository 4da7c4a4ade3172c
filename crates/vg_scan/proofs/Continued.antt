-- Copies that are taken in behind others leave what numbers stand for.
use Rattle.std.proofs.Common.{◌≡◌, ℕ, zero, suc, ◌+◌, ◌<◌, ◌≤◌, List, [], ◌∷◌, ◌++◌, length, map, slice_get, option_map, unwrap_or, Option}
use Rattle.std.proofs.Common.{Some, None, refl, sym, ap, ◌∙◌, arith, length-append, append_assoc}
use Rattle.std.proofs.lemmas.List.{append-nil}
use Rattle.scan_rules.specs.declared.readings.AreaGives.{AreaGives}
use Rattle.scan_rules.specs.declared.readings.AreaGives.TheVariants.{Nothing, Copy as Numbered, Refused as RefusedFor}
use Rattle.scan_rules.specs.declared.readings.AreaRead.{AreaRead}
use Rattle.scan_rules.specs.declared.readings.GroupCopy.{GroupCopy}
use Rattle.scan_rules.specs.Decision.{HoldsNone}
use Rattle.scan_rules.specs.Readings.{GivesAtMost, area_of, copied, gives_of}
use Rattle.vg_scan.specs.Collected.{Continues}
use Rattle.vg_scan.specs.Shapes.{AreasGiveAtMost}

-- nothing was taken in
pub continues_same : (old new : List GroupCopy) → new ≡ old → Continues old new
continues_same old new same = ([], same ∙ sym (append-nil old))

-- one copy was
pub continues_one : (old new : List GroupCopy) (copy : GroupCopy) → new ≡ old ++ copy ∷ [] → Continues old new
continues_one old new copy grown = (copy ∷ [], grown)

-- some, and then others
pub continues_both : (old mid new : List GroupCopy) → Continues old mid → Continues mid new → Continues old new
continues_both old mid new a b = (a.0 ++ b.0, b.1 ∙ ap (λ (l : List GroupCopy). l ++ b.0) a.1 ∙ append_assoc old a.0 b.0)

-- they are as many, or more
pub continues_count : (old new : List GroupCopy) → Continues old new → length old ≤ length new
continues_count old new a =
    let long : length new ≡ length old + length a.0 = ap length a.1 ∙ length-append old a.0 in
    omega arith

-- a copy that was there before has its number still
pub older_copy : (copies more : List GroupCopy) (number : ℕ) → number < length copies
    → slice_get (copies ++ more) number ≡ slice_get copies number
older_copy [] more number within = absurd (omega arith)
older_copy (copy ∷ copies) more zero within = refl
older_copy (copy ∷ copies) more (suc number) within = older_copy copies more number (omega arith)

older_gives : (copies more : List GroupCopy) (gives : Option AreaGives) → GivesAtMost (length copies) gives
    → option_map (gives_of (copies ++ more)) gives ≡ option_map (gives_of copies) gives
older_gives copies more None within = refl
older_gives copies more (Some Nothing) within = refl
older_gives copies more (Some (RefusedFor why)) within = refl
older_gives copies more (Some (Numbered number)) within =
    ap (λ (o : Option GroupCopy). Some (unwrap_or (option_map copied o) HoldsNone)) (older_copy copies more number within)

older_behind : (copies more : List GroupCopy) (areas : List AreaRead) → AreasGiveAtMost (length copies) areas
    → map (area_of (copies ++ more)) areas ≡ map (area_of copies) areas
older_behind copies more [] within = refl
older_behind copies more (area ∷ areas) within =
    λ i. record { start = area.start; sectors = area.sectors; reading = older_gives copies more area.gives within.0 i }
    ∷ older_behind copies more areas within.1 i

-- areas that were read before give what they gave
pub older_areas : (old new : List GroupCopy) (areas : List AreaRead) → Continues old new → AreasGiveAtMost (length old) areas
    → map (area_of new) areas ≡ map (area_of old) areas
older_areas old new areas a within = ap (λ (l : List GroupCopy). map (area_of l) areas) a.1 ∙ older_behind old a.0 areas within

more_gives : (few many : ℕ) → few ≤ many → (gives : Option AreaGives) → GivesAtMost few gives → GivesAtMost many gives
more_gives few many grows None within = tt
more_gives few many grows (Some Nothing) within = tt
more_gives few many grows (Some (RefusedFor why)) within = tt
more_gives few many grows (Some (Numbered number)) within = omega arith

-- and their numbers are those of copies still
pub more_areas : (few many : ℕ) → few ≤ many → (areas : List AreaRead) → AreasGiveAtMost few areas → AreasGiveAtMost many areas
more_areas few many grows [] within = tt
more_areas few many grows (area ∷ areas) within = (more_gives few many grows area.gives within.0, more_areas few many grows areas within.1)

pub numbers_push : (count : ℕ) (areas : List AreaRead) (area : AreaRead) → AreasGiveAtMost count areas → GivesAtMost count area.gives
    → AreasGiveAtMost count (areas ++ area ∷ [])
numbers_push count [] area within is = (is, tt)
numbers_push count (first ∷ areas) area within is = (within.0, numbers_push count areas area within.1 is)

-- the copy that was taken in last has the number of those before it
pub last_copy : (copies : List GroupCopy) (copy : GroupCopy) → slice_get (copies ++ copy ∷ []) (length copies) ≡ Some copy
last_copy [] copy = refl
last_copy (first ∷ copies) copy = last_copy copies copy
