-- A store is opened: both volumes are flushed, and it is read.
use Rattle.std.proofs.Common.{◌≡◌, ◌<◌, ℕ, zero, suc, ◌/◌, Bool, true, List, [], ◌∷◌, ◌++◌, Option, Some, None, Ok, inl, inr, refl, sym, ap}
use Rattle.std.proofs.Common.{subst, ◌∙◌, arith}
use Rattle.std.proofs.lemmas.List.Elements.{All-cons, All-contains_itself, All-nil}
use Rattle.disk_model.specs.CarriesOut.{with_operation}
use Rattle.disk_model.specs.Durability.{EachOnlyLeaves, OnlyLeaves}
use Rattle.disk_model.specs.Order.{HasFlushed, WritesNothing}
use Rattle.disk_model.specs.Since.{KeepsSectors}
use Rattle.disk_model.specs.Steps.{Image, Work, Reading, Writing, Flushing, Step, Submitted, Completed, Record, now_after, steps_on}
use Rattle.disk_model.proofs.Bringing.{only_leaves}
use Rattle.disk_model.proofs.Ordered.{writes_nothing_append, writes_nothing_brings}
use Rattle.disk_model.proofs.StepsSince.{steps_joined}
use Rattle.cow_store.specs.Beginning.{Opens}
use Rattle.cow_store.specs.Entries.{chunks_of, slot_of}
use Rattle.cow_store.specs.Layout.{Lengths, slots_in}
use Rattle.cow_store.specs.Opening.{opens}
use Rattle.cow_store.specs.Snapshot.{sector_by, snapshot}
use Rattle.cow_store.specs.Stands.{IsRight}
use Rattle.cow_store.specs.VolStates.{AreOneByOne, WritesWell}
use Rattle.cow_store.specs.Writing.{FlushesBoth, GoesOn}
use Rattle.cow_store.proofs.Begun.{begins}
use Rattle.cow_store.proofs.Clearing.{flush_others}
use Rattle.cow_store.proofs.Goes.{goes_operation}
use Rattle.cow_store.proofs.Images.{opened_entries, same_opens}
use Rattle.cow_store.proofs.Overtaken.{lasts_flushed}

-- two flushes, one after another
pub flushes_both : (t : Record) (tag tag' : ℕ) (fresh fresh' : List Bool)
    → FlushesBoth t (with_operation tag' (Flushing 1) true fresh' (with_operation tag (Flushing 0) true fresh t))
flushes_both t tag tag' fresh fresh' = record {
  keeps = record {
    since = since;
    steps = refl;
    nothing = tt;
    same = λ v sector. refl;
    flushes =
        All-cons (λ v. HasFlushed v since) 0 (1 ∷ []) (inr (inl refl))
        (All-cons (λ v. HasFlushed v since) 1 [] (inl refl) (All-nil (λ v. HasFlushed v since)));
  };
  lasting = lasting;
}
  where
    since : List Step
    since =
        Completed tag' (Flushing 1) true fresh'
        ∷ Submitted tag' (Flushing 1)
        ∷ Completed tag (Flushing 0) true fresh
        ∷ Submitted tag (Flushing 0)
        ∷ []

    t1 : Record
    t1 = with_operation tag (Flushing 0) true fresh t

    goes : GoesOn true t t1
    goes = goes_operation t tag (Flushing 0) true fresh

    lasting : AreOneByOne t.steps → WritesWell t.steps → (v sector : ℕ) → v < 2
        → OnlyLeaves (with_operation tag' (Flushing 1) true fresh' t1) v sector (λ value. value ≡ now_after t.opened t.steps v sector)
    lasting one wells zero sector lt = record {
      each = λ write value may.
          (lasts_flushed t.opened 0 sector tag fresh t.steps one wells).each write value
          (flush_others t1 tag' 1 true fresh' 0 sector write value may);
    }
    lasting one wells (suc zero) sector lt =
        lasts_flushed t1.opened 1 sector tag' fresh' t1.steps (goes.one_by_one one) (goes.wells refl wells)
    lasting one wells (suc (suc v)) sector lt = absurd (omega (arith, lt))

-- each write went well after a read or a flush where each did before it
reads_well : (tag tag' : ℕ) (work : Work) (well : Bool) (fresh : List Bool) (since steps : List Step)
    → WritesNothing (Submitted tag' work ∷ since) → (WritesNothing since → WritesWell steps)
    → WritesWell (Completed tag work well fresh ∷ Submitted tag' work ∷ steps)
reads_well tag tag' (Reading span) well fresh since steps nothing wells = wells nothing
reads_well tag tag' (Flushing v) well fresh since steps nothing wells = wells nothing
reads_well tag tag' (Writing span sectors) well fresh since steps nothing wells = absurd nothing

-- and after steps that write nothing
wells_on : (since old : List Step) → AreOneByOne (since ++ old) → AreOneByOne old → WritesNothing since → WritesWell old
    → WritesWell (since ++ old)
wells_on [] old all before nothing wells = wells
wells_on (Submitted tag work ∷ since) old all before nothing wells = absurd all
wells_on (Completed tag work well fresh ∷ []) [] all before nothing wells = absurd all
wells_on (Completed tag work well fresh ∷ []) (Submitted tag' work' ∷ old) all before nothing wells = absurd before
wells_on (Completed tag work well fresh ∷ []) (Completed tag' work' well' fresh' ∷ old) all before nothing wells = absurd all
wells_on (Completed tag work well fresh ∷ Completed tag' work' well' fresh' ∷ since) old all before nothing wells = absurd all
wells_on (Completed tag work well fresh ∷ Submitted tag' work' ∷ since) old all before nothing wells =
    subst (λ (w : Work). WritesWell (Completed tag w well fresh ∷ Submitted tag' work' ∷ (since ++ old))) all.1
    (reads_well tag tag' work' well fresh since (since ++ old) nothing (λ rest. wells_on since old all.2 before rest wells))

module _ (lengths : Lengths) (entries : List ℕ) (t0 t1 t2 : Record) (both : FlushesBoth t0 t1) (reads : KeepsSectors t1 [] t2)
    (one0 : AreOneByOne t0.steps) (one2 : AreOneByOne t2.steps) (found : opens lengths (now_after t0.opened t0.steps) ≡ Ok entries) where
  abbrev now : Image
  now = now_after t0.opened t0.steps

  abbrev since : List Step
  since = reads.since ++ both.keeps.since

  steps_are : t2 ≡ steps_on since t0
  steps_are = steps_joined t0 t1 t2 both.keeps.since reads.since both.keeps.steps reads.steps

  same_now : (v sector : ℕ) → now_after t2.opened t2.steps v sector ≡ now v sector
  same_now v sector = reads.same v sector ∙ both.keeps.same v sector

  -- of the origin and the store
  abbrev IsNow : ℕ → ℕ → List ℕ → Type 0
  IsNow v sector value = v < 2 → value ≡ now v sector

  module _ (wells : WritesWell t0.steps) where
    wells2 : WritesWell t2.steps
    wells2 =
        let steps : t2.steps ≡ since ++ t0.steps = ap (λ (t : Record). t.steps) steps_are in
        subst (λ (l : List Step). WritesWell l) (sym steps)
        (wells_on since t0.steps (subst (λ (l : List Step). AreOneByOne l) steps one2) one0
        (writes_nothing_append reads.since both.keeps.since reads.nothing both.keeps.nothing) wells)

    lasts : EachOnlyLeaves IsNow t2
    lasts =
        subst (λ (t : Record). EachOnlyLeaves IsNow t) (sym reads.steps)
        (only_leaves IsNow t1.opened t1.steps
        (λ v sector. record { each = λ write value may lt. (both.lasting one0 wells v sector lt).each write value may }) reads.since
        (writes_nothing_brings IsNow reads.since reads.nothing))

    snapshot_by : (x : ℕ) (slot : Option ℕ) → slot_of entries (x / 8) ≡ slot
        → snapshot lengths now x ≡ sector_by (slots_in lengths.store) slot now x
    snapshot_by x slot has =
        ap (λ (l : List ℕ). sector_by (slots_in lengths.store) (slot_of l (x / 8)) now x) (opened_entries lengths now entries found)
        ∙ ap (λ (o : Option ℕ). sector_by (slots_in lengths.store) o now x) has

    is_right : (v sector : ℕ) (value : List ℕ) → IsNow v sector value
        → IsRight lengths (snapshot lengths now) entries (now 1) v sector value
    is_right v sector value is = record {
      stands = λ on lt. is (omega (arith, on)) ∙ ap (λ (n : ℕ). now n sector) on;
      saved = λ on x slot lt has there.
          is (omega (arith, on)) ∙ ap (λ (n : ℕ). now n sector) on ∙ ap (now 1) there ∙ sym (snapshot_by x (Some slot) has);
      unsaved = λ on lt none. is (omega (arith, on)) ∙ ap (λ (n : ℕ). now n sector) on ∙ sym (snapshot_by sector None none);
    }

  -- so the promise stands
  pub opened : Opens lengths entries t0 t2
  opened = record {
    since = since;
    steps = steps_are;
    found = found;
    stands = λ wells.
        begins lengths (snapshot lengths now) (chunks_of entries) entries (now 1) t2 one2 (wells2 wells)
        (All-contains_itself (chunks_of entries))
        (same_opens lengths (λ v. now 1) now (λ sector lt. refl) ∙ found)
        (λ v sector. record { each = λ write value may. is_right wells v sector value ((lasts wells v sector).each write value may) })
        (λ sector. record {
          each = λ write value may. (lasts wells 0 sector).each write value may (omega arith)
              ∙ sym (same_now 0 sector);
        });
  }
