-- Sectors of the origin that are copied to the store.
use Rattle.std.proofs.Common.{◌≡◌, ◌≤◌, ◌<◌, ℕ, ◌+◌, ◌==◌, ◌&&◌, cond, Bool, true, false, IsTrue, List, [], ◌∷◌, refl, ap, subst}
use Rattle.std.proofs.Common.{⊎_elim, ◌∙◌, arith}
use Rattle.std.proofs.lemmas.Bool.{cases_lt}
use Rattle.std.proofs.lemmas.Bool.Decides.{nat_tests}
use Rattle.disk_model.specs.CarriesOut.{with_operation}
use Rattle.disk_model.specs.Durability.{OnlyLeaves}
use Rattle.disk_model.specs.Puts.{one_sector}
use Rattle.disk_model.specs.Steps.{Reading, Writing, Flushing, Record, now_after}
use Rattle.cow_store.specs.Layout.{Lengths}
use Rattle.cow_store.specs.Stands.{Past}
use Rattle.cow_store.specs.VolStates.{AreOneByOne, WritesWell}
use Rattle.cow_store.specs.Writing.{AreUnused, CopiesChunk, CopiesSectors, IsUnused, unchanged}
use Rattle.cow_store.proofs.Goes.{goes_both, goes_operation, promise_both, promise_weaker}
use Rattle.cow_store.proofs.Overtaken.{lasts_flushed}
use Rattle.cow_store.proofs.SectorWrites.{flushes_one, now_elsewhere, now_written, reads_one, writes_unused}

failed : {A : Type 0} → IsTrue false → A
failed went = absurd (let h : false ≡ true = went in cc)

-- a front of the sectors is unused
unused_front : (lengths : Lengths) (to count more : ℕ) (past : Past) (entries : List ℕ) → count ≤ more
    → AreUnused lengths to more past entries
    → AreUnused lengths to count past entries
unused_front lengths to count more past entries le h k lt = h k (omega (arith, le, lt))

-- those behind them
unused_behind : (lengths : Lengths) (to count : ℕ) (past : Past) (entries : List ℕ) → AreUnused lengths to (count + 1) past entries
    → AreUnused lengths (to + count) 1 past entries
unused_behind lengths to count past entries h k lt =
    let place : to + count ≡ to + count + k = omega arith in
    subst (λ (n : ℕ). IsUnused lengths n past entries) place (h count (omega arith))

-- nothing was copied
pub copies_none : (lengths : Lengths) (from to : ℕ) (t : Record) → CopiesSectors lengths from to 0 true t t
copies_none lengths from to t = record {
  goes = record { since = []; steps = refl; one_by_one = λ one. one; wells = λ went wells. wells };
  origin = λ s. refl;
  earlier = λ s lt. refl;
  copied = λ went k lt. absurd (omega arith);
  promise = λ past entries w p k. (p, λ went. k);
}

-- the read failed
pub copy_unread : (lengths : Lengths) (from to tag : ℕ) (fresh : List Bool) (t : Record)
    → CopiesSectors lengths from to 1 false t (with_operation tag (Reading (one_sector 0 from)) false fresh t)
copy_unread lengths from to tag fresh t = record {
  goes = goes_operation t tag (Reading (one_sector 0 from)) false fresh;
  origin = λ s. refl;
  earlier = λ s lt. refl;
  copied = λ went. failed went;
  promise = reads_one lengths t tag false fresh 0 from (AreUnused lengths to 1);
}

-- it was read, and written
pub copy_written : (lengths : Lengths) (from to tag tag' : ℕ) (fresh fresh' : List Bool) (well : Bool) (value : List ℕ) (t : Record)
    → value ≡ now_after t.opened t.steps 0 from
    → CopiesSectors lengths from to 1 well t
    (with_operation tag' (Writing (one_sector 1 to) (value ∷ [])) well fresh'
    (with_operation tag (Reading (one_sector 0 from)) true fresh t))
copy_written lengths from to tag tag' fresh fresh' well value t is =
    let t1 = with_operation tag (Reading (one_sector 0 from)) true fresh t in
    let t2 = with_operation tag' (Writing (one_sector 1 to) (value ∷ [])) well fresh' t1 in
    record {
      goes =
          goes_both t t1 t2 well (goes_operation t tag (Reading (one_sector 0 from)) true fresh)
          (goes_operation t1 tag' (Writing (one_sector 1 to) (value ∷ [])) well fresh');
      origin = λ s. now_elsewhere t1 tag' 1 to value well fresh' 0 s (λ on. absurd (omega arith));
      earlier = λ s lt. now_elsewhere t1 tag' 1 to value well fresh' 1 s (λ on here. omega (arith, lt, here));
      copied = copied_so well;
      promise =
          promise_both lengths (AreUnused lengths to 1) (IsUnused lengths to) unchanged unchanged well t t1 t2
          (reads_one lengths t tag true fresh 0 from (AreUnused lengths to 1)) (writes_unused lengths t1 tag' well fresh' to value)
          (λ past entries w k.
          let place : to + 0 ≡ to = omega arith in subst (λ (n : ℕ). IsUnused lengths n past entries) place (w 0 (omega arith)));
    }
  where
    copied_so : (b : Bool) → IsTrue b → (k : ℕ) → k < 1
        → (let t2 = with_operation tag' (Writing (one_sector 1 to) (value ∷ [])) b fresh'
        (with_operation tag (Reading (one_sector 0 from)) true fresh t) in now_after t2.opened t2.steps 1 (to + k))
        ≡ now_after t.opened t.steps 0 (from + k)
    copied_so true went k lt =
        let here : ((1 == 1) && (to + k == to)) ≡ true = grind (arith, nat_tests) in
        let t1 = with_operation tag (Reading (one_sector 0 from)) true fresh t in
        now_written t1 tag' 1 to value fresh' 1 (to + k)
        ∙ ap (λ (b : Bool). cond b value (now_after t1.opened t1.steps 1 (to + k))) here
        ∙ is
        ∙ ap (λ (n : ℕ). now_after t.opened t.steps 0 n) (omega arith)
    copied_so false went k lt = failed went

-- one sector more
pub copies_more : (lengths : Lengths) (from to count : ℕ) (well : Bool) (a b c : Record) → CopiesSectors lengths from to count true a b
    → CopiesSectors lengths (from + count) (to + count) 1 well b c → CopiesSectors lengths from to (count + 1) well a c
copies_more lengths from to count well a b c first next = record {
  goes = goes_both a b c well first.goes next.goes;
  origin = λ s. next.origin s ∙ first.origin s;
  earlier = λ s lt. next.earlier s (omega (arith, lt)) ∙ first.earlier s lt;
  copied = λ went k lt.
      ⊎_elim
      (λ (before : k < count). next.earlier (to + k) (omega (arith, before)) ∙ first.copied refl k before)
      (λ (last : count ≤ k).
      let e : k ≡ count = omega (arith, lt, last) in
      ap (λ (n : ℕ). now_after c.opened c.steps 1 n) (omega (arith, e))
      ∙ next.copied went 0 (omega arith)
      ∙ first.origin (from + count + 0)
      ∙ ap (λ (n : ℕ). now_after a.opened a.steps 0 n) (omega (arith, e)))
      (cases_lt k count);
  promise =
      promise_both lengths (AreUnused lengths to (count + 1)) (AreUnused lengths (to + count) 1) unchanged unchanged well a b c
      (promise_weaker lengths (AreUnused lengths to count) (AreUnused lengths to (count + 1)) unchanged true a b
      (λ past entries w. unused_front lengths to count (count + 1) past entries (omega arith) w) first.promise)
      next.promise (λ past entries w k. unused_behind lengths to count past entries w);
}

-- where one failed, so did all
pub copies_failed : (lengths : Lengths) (from to count more : ℕ) (a b : Record) → count ≤ more
    → CopiesSectors lengths from to count false a b → CopiesSectors lengths from to more false a b
copies_failed lengths from to count more a b le first = record {
  goes = first.goes;
  origin = first.origin;
  earlier = first.earlier;
  copied = λ went. failed went;
  promise =
      promise_weaker lengths (AreUnused lengths to count) (AreUnused lengths to more) unchanged false a b
      (λ past entries w. unused_front lengths to count more past entries le w) first.promise;
}

-- so the chunk wasn't copied
pub chunk_failed : (lengths : Lengths) (from to count : ℕ) (a b : Record) → CopiesSectors lengths from to count false a b
    → CopiesChunk lengths from to count false a b
chunk_failed lengths from to count a b c = record { copies = c; lasting = λ went. failed went }

-- all were copied, and the store flushed
pub chunk_flushed : (lengths : Lengths) (from to count tag : ℕ) (fresh : List Bool) (well : Bool) (a b : Record)
    → CopiesSectors lengths from to count true a b → CopiesChunk lengths from to count well a (with_operation tag (Flushing 1) well fresh b)
chunk_flushed lengths from to count tag fresh well a b c = record {
  copies = record {
    goes = goes_both a b (with_operation tag (Flushing 1) well fresh b) well c.goes (goes_operation b tag (Flushing 1) well fresh);
    origin = c.origin;
    earlier = c.earlier;
    copied = λ went k lt. c.copied refl k lt;
    promise =
        promise_both lengths (AreUnused lengths to count) (AreUnused lengths to count) unchanged unchanged well a b
        (with_operation tag (Flushing 1) well fresh b) c.promise (flushes_one lengths b tag well fresh 1 (AreUnused lengths to count))
        (λ past entries w k. w);
  };
  lasting = lasts_so well;
}
  where
    lasts_so : (w : Bool) → IsTrue w → WritesWell a.steps → AreOneByOne a.steps → (k : ℕ) → k < count
        → OnlyLeaves (with_operation tag (Flushing 1) w fresh b) 1 (to + k) (λ v. v ≡ now_after a.opened a.steps 0 (from + k))
    lasts_so false went wells one k lt = failed went
    lasts_so true went wells one k lt =
        let last = lasts_flushed b.opened 1 (to + k) tag fresh b.steps (c.goes.one_by_one one) (c.goes.wells refl wells) in
        record { each = λ write value may. last.each write value may ∙ c.copied refl k lt }
