-- Sectors of the store that are put, and a table that is cleared.
use Rattle.std.proofs.Common.{◌≡◌, ◌≢◌, ◌≤◌, ◌<◌, ℕ, ◌+◌, ◌==◌, ◌&&◌, cond, Bool, true, false, IsTrue, List, [], ◌∷◌, Option, ⊎_elim, refl}
use Rattle.std.proofs.Common.{ap, ◌∙◌, arith}
use Rattle.std.proofs.lemmas.Bool.{cases_lt}
use Rattle.std.proofs.lemmas.Bool.Decides.{nat_tests}
use Rattle.sector_base.specs.Spans.{covers}
use Rattle.disk_model.specs.CarriesOut.{with_operation}
use Rattle.disk_model.specs.CrashValues.{MayLeave}
use Rattle.disk_model.specs.Durability.{OnlyLeaves}
use Rattle.disk_model.specs.Puts.{one_sector}
use Rattle.disk_model.specs.Steps.{Writing, Flushing, Record, now_after}
use Rattle.disk_model.proofs.OneAtATime.{acknowledged}
use Rattle.cow_store.specs.Layout.{zeros}
use Rattle.cow_store.specs.VolStates.{AreOneByOne, WritesWell}
use Rattle.cow_store.specs.Writing.{ClearsTable, GoesOn, PutsSector}
use Rattle.cow_store.proofs.Goes.{goes_both, goes_operation}
use Rattle.cow_store.proofs.Operations.{idle_one_by_one}
use Rattle.cow_store.proofs.Overtaken.{lasts_flushed}
use Rattle.cow_store.proofs.SectorWrites.{covered, now_elsewhere, now_written, value_there}

failed : {A : Type 0} → IsTrue false → A
failed went = absurd (let h : false ≡ true = went in cc)

-- a write leaves the values of other sectors
pub write_others : (t : Record) (tag at : ℕ) (value : List ℕ) (well : Bool) (fresh : List Bool) (v sector : ℕ) (write : Option ℕ)
    (x : List ℕ)
    → (v ≡ 1 → sector ≢ at)
    → (let t' = with_operation tag (Writing (one_sector 1 at) (value ∷ [])) well fresh t in MayLeave t'.opened t'.steps v sector write x)
    → MayLeave t.opened t.steps v sector write x
write_others t tag at value well fresh v sector write x away may =
    ⊎_elim (λ old. old) (λ new. let h = covered 1 at v sector new.0 in absurd (away h.0 h.1)) may

-- a flush brings no value
pub flush_others : (t : Record) (tag disk : ℕ) (well : Bool) (fresh : List Bool) (v sector : ℕ) (write : Option ℕ) (x : List ℕ)
    → (let t' = with_operation tag (Flushing disk) well fresh t in MayLeave t'.opened t'.steps v sector write x)
    → MayLeave t.opened t.steps v sector write x
flush_others t tag disk true fresh v sector write x may = may.0
flush_others t tag disk false fresh v sector write x may = may

-- the write of a sector that is put failed
pub put_unwritten : (t : Record) (tag at : ℕ) (value : List ℕ) (fresh : List Bool)
    → PutsSector at value false t (with_operation tag (Writing (one_sector 1 at) (value ∷ [])) false fresh t)
put_unwritten t tag at value fresh = record {
  goes = goes_operation t tag (Writing (one_sector 1 at) (value ∷ [])) false fresh;
  now = λ went. failed went;
  lasting = λ went. failed went;
  others = λ v sector write x away may. write_others t tag at value false fresh v sector write x away may;
}

-- it went well, and then the flush or not
pub put_flushed : (t : Record) (tag tag' at : ℕ) (value : List ℕ) (fresh fresh' : List Bool) (well : Bool) → AreOneByOne t.steps
    → PutsSector at value well t
    (with_operation tag' (Flushing 1) well fresh' (with_operation tag (Writing (one_sector 1 at) (value ∷ [])) true fresh t))
put_flushed t tag tag' at value fresh fresh' well one =
    let t1 = with_operation tag (Writing (one_sector 1 at) (value ∷ [])) true fresh t in
    let t2 = with_operation tag' (Flushing 1) well fresh' t1 in
    record {
      goes =
          goes_both t t1 t2 well (goes_operation t tag (Writing (one_sector 1 at) (value ∷ [])) true fresh)
          (goes_operation t1 tag' (Flushing 1) well fresh');
      now = λ went v sector. now_written t tag 1 at value fresh v sector;
      lasting = lasts well;
      others = λ v sector write x away may.
          write_others t tag at value true fresh v sector write x away (flush_others t1 tag' 1 well fresh' v sector write x may);
    }
  where
    lasts : (b : Bool) → IsTrue b
        → OnlyLeaves (with_operation tag' (Flushing 1) b fresh' (with_operation tag (Writing (one_sector 1 at) (value ∷ [])) true fresh t))
        1 at
        (λ v. v ≡ value)
    lasts false went = failed went
    lasts true went =
        let inside : IsTrue (covers (one_sector 1 at) 1 at) = grind (arith, nat_tests) in
        record {
          each = λ write v may.
              (acknowledged t tag tag' (one_sector 1 at) (value ∷ []) fresh fresh' (idle_one_by_one t.steps one) at inside).each write v may
              ∙ value_there 1 at at value refl;
        }

-- so many sectors of a table have got zeros
pub record WritesZeros (count : ℕ) (well : Bool) (old new : Record) : Type 0 where
  pub goes : GoesOn well old new
  pub origin : (sector : ℕ) → now_after new.opened new.steps 0 sector ≡ now_after old.opened old.steps 0 sector
  pub zeroed : IsTrue well → (sector : ℕ) → 0 < sector → sector < 1 + count → now_after new.opened new.steps 1 sector ≡ zeros
  pub others : (v sector : ℕ) (write : Option ℕ) (value : List ℕ) → (v ≡ 1 → sector ≡ 0)
      → MayLeave new.opened new.steps v sector write value → MayLeave old.opened old.steps v sector write value

pub zeros_none : (t : Record) → WritesZeros 0 true t t
zeros_none t = record {
  goes = record { since = []; steps = refl; one_by_one = λ one. one; wells = λ went wells. wells };
  origin = λ s. refl;
  zeroed = λ went s some lt. absurd (omega (arith, some, lt));
  others = λ v s write x away may. may;
}

-- one more
pub zeros_more : (count : ℕ) (a b : Record) (tag : ℕ) (well : Bool) (fresh : List Bool) → WritesZeros count true a b
    → WritesZeros (count + 1) well a (with_operation tag (Writing (one_sector 1 (1 + count)) (zeros ∷ [])) well fresh b)
zeros_more count a b tag well fresh z = record {
  goes =
      goes_both a b (with_operation tag (Writing (one_sector 1 (1 + count)) (zeros ∷ [])) well fresh b) well z.goes
      (goes_operation b tag (Writing (one_sector 1 (1 + count)) (zeros ∷ [])) well fresh);
  origin = λ s. now_elsewhere b tag 1 (1 + count) zeros well fresh 0 s (λ on. absurd (omega arith)) ∙ z.origin s;
  zeroed = zeroed well;
  others = λ v s write x away may.
      z.others v s write x away (write_others b tag (1 + count) zeros well fresh v s write x (λ on e. omega (arith, away on, e)) may);
}
  where
    zeroed : (w : Bool) → IsTrue w → (sector : ℕ) → 0 < sector → sector < 1 + (count + 1)
        → (let t' = with_operation tag (Writing (one_sector 1 (1 + count)) (zeros ∷ [])) w fresh b in now_after t'.opened t'.steps 1 sector)
        ≡ zeros
    zeroed false went s some lt = failed went
    zeroed true went s some lt =
        ⊎_elim
        (λ (before : s < 1 + count).
        now_elsewhere b tag 1 (1 + count) zeros true fresh 1 s (λ on e. omega (arith, before, e)) ∙ z.zeroed refl s some before)
        (λ (last : 1 + count ≤ s).
        let e : ((1 == 1) && (s == 1 + count)) ≡ true = grind (arith, nat_tests) in
        now_written b tag 1 (1 + count) zeros fresh 1 s ∙ ap (λ (t : Bool). cond t zeros (now_after b.opened b.steps 1 s)) e)
        (cases_lt s (1 + count))

-- a write failed
pub cleared_failed : (tables count : ℕ) (a b : Record) → WritesZeros count false a b → ClearsTable tables false a b
cleared_failed tables count a b z = record { goes = z.goes; origin = z.origin; lasting = λ went. failed went; others = z.others }

-- all were written, and the store flushed
pub cleared_flushed : (tables : ℕ) (a b : Record) (tag : ℕ) (well : Bool) (fresh : List Bool) → WritesZeros tables true a b
    → ClearsTable tables well a (with_operation tag (Flushing 1) well fresh b)
cleared_flushed tables a b tag well fresh z = record {
  goes = goes_both a b (with_operation tag (Flushing 1) well fresh b) well z.goes (goes_operation b tag (Flushing 1) well fresh);
  origin = z.origin;
  lasting = lasts well;
  others = λ v s write x away may. z.others v s write x away (flush_others b tag 1 well fresh v s write x may);
}
  where
    lasts : (w : Bool) → IsTrue w → AreOneByOne a.steps → WritesWell a.steps → (sector : ℕ) → 0 < sector → sector < 1 + tables
        → OnlyLeaves (with_operation tag (Flushing 1) w fresh b) 1 sector (λ v. v ≡ zeros)
    lasts false went one wells s some lt = failed went
    lasts true went one wells s some lt =
        let last = lasts_flushed b.opened 1 s tag fresh b.steps (z.goes.one_by_one one) (z.goes.wells refl wells) in
        record { each = λ write v may. last.each write v may ∙ z.zeroed refl s some lt }
