-- A snapshot is taken: the origin is flushed, the head is cleared, then the table, and the head is written.
use Rattle.std.proofs.Common.{◌≡◌, ◌≤◌, ◌<◌, ℕ, zero, suc, ◌+◌, ◌/◌, ◌^◌, cond, Bool, true, List, []}
use Rattle.std.proofs.Common.{Contains, Some, None, ⊎_elim, refl, sym, ap, subst, ◌∙◌, arith}
use Rattle.std.proofs.lemmas.Bool.Decides.{eqb_tells}
use Rattle.disk_model.specs.CarriesOut.{with_operation}
use Rattle.disk_model.specs.CrashValues.{MayLeave}
use Rattle.disk_model.specs.Durability.{EachOnlyLeaves, OnlyLeaves}
use Rattle.disk_model.specs.Steps.{Flushing, Record, now_after}
use Rattle.cow_store.specs.Beginning.{Takes, no_entries}
use Rattle.cow_store.specs.Layout.{Lengths, head_for, slots_in, table_sectors, zeros}
use Rattle.cow_store.specs.Stands.{IsRight}
use Rattle.cow_store.specs.VolStates.{AreOneByOne, WritesWell}
use Rattle.cow_store.specs.Writing.{ClearsTable, GoesOn, PutsSector}
use Rattle.cow_store.proofs.Begun.{begins}
use Rattle.cow_store.proofs.Goes.{goes_both, goes_operation}
use Rattle.cow_store.proofs.NewStore.{new_opens, new_table, no_chunks}
use Rattle.cow_store.proofs.Overtaken.{lasts_flushed}
use Rattle.cow_store.proofs.Slots.{none_given}

module _ (lengths : Lengths) (large : 10 ≤ lengths.store) (small : lengths.origin < 2 ^ 64) (t0 t2 t3 t4 : Record) (tag : ℕ)
    (fresh : List Bool)
    (one : AreOneByOne t0.steps) (first : PutsSector 0 zeros true (with_operation tag (Flushing 0) true fresh t0) t2)
    (clear : ClearsTable (table_sectors (slots_in lengths.store)) true t2 t3) (last : PutsSector 0 (head_for lengths.origin) true t3 t4)
  where
    abbrev flushed : Record
    flushed = with_operation tag (Flushing 0) true fresh t0

    goes : GoesOn true t0 t4
    goes =
        goes_both t0 t3 t4 true
        (goes_both t0 t2 t3 true (goes_both t0 flushed t2 true (goes_operation t0 tag (Flushing 0) true fresh) first.goes) clear.goes)
        last.goes

    origin_same : (sector : ℕ) → now_after t4.opened t4.steps 0 sector ≡ now_after t0.opened t0.steps 0 sector
    origin_same sector = last.now refl 0 sector ∙ clear.origin sector ∙ first.now refl 0 sector

    one2 : AreOneByOne t2.steps
    one2 = first.goes.one_by_one ((goes_operation t0 tag (Flushing 0) true fresh).one_by_one one)

    module _ (wells : WritesWell t0.steps) where
      wells2 : WritesWell t2.steps
      wells2 = first.goes.wells refl ((goes_operation t0 tag (Flushing 0) true fresh).wells refl wells)

      -- the origin has one value
      origin_lasts : (sector : ℕ) → OnlyLeaves t4 0 sector (λ v. v ≡ now_after t0.opened t0.steps 0 sector)
      origin_lasts sector = record {
        each = λ write v may.
            (lasts_flushed t0.opened 0 sector tag fresh t0.steps one wells).each write v
            (first.others 0 sector write v (λ on. absurd (omega arith))
            (clear.others 0 sector write v (λ on. absurd (omega arith)) (last.others 0 sector write v (λ on. absurd (omega arith)) may)));
      }

      -- and so have the head and the table
      table_lasts : (sector : ℕ) → sector < 1 + table_sectors (slots_in lengths.store)
          → OnlyLeaves t4 1 sector (λ v. v ≡ new_table lengths.origin sector)
      table_lasts sector lt =
          ⊎_elim
          (λ here. record {
            each = λ write v may.
                (last.lasting refl).each write v (subst (λ (n : ℕ). MayLeave t4.opened t4.steps 1 n write v) here.1 may)
                ∙ sym (ap (λ (b : Bool). cond b (head_for lengths.origin) zeros) here.0);
          })
          (λ away. record {
            each = λ write v may.
                (clear.lasting refl one2 wells2 sector (positive sector away.1) lt).each write v
                (last.others 1 sector write v (λ on. away.1) may)
                ∙ sym (ap (λ (b : Bool). cond b (head_for lengths.origin) zeros) away.0);
          })
          (eqb_tells sector 0)
        where
          positive : (n : ℕ) → (n ≡ 0 → ⊥) → 0 < n
          positive zero away = absurd (away refl)
          positive (suc n) away = omega arith

      right : EachOnlyLeaves (IsRight lengths (now_after t0.opened t0.steps 0) (no_entries lengths) (new_table lengths.origin)) t4
      right v sector = record {
        each = λ write value may. record {
          stands = λ on lt.
              (table_lasts sector lt).each write value (subst (λ (n : ℕ). MayLeave t4.opened t4.steps n sector write value) on may);
          saved = λ on x slot lt has there.
              absurd (let e : Some slot ≡ None = sym has ∙ none_given (slots_in lengths.store) (x / 8) 0 in cc);
          unsaved = λ on lt none.
              (origin_lasts sector).each write value (subst (λ (n : ℕ). MayLeave t4.opened t4.steps n sector write value) on may);
        };
      }

    -- so the promise stands
    pub takes : Takes lengths t0 t4
    takes = record {
      since = goes.since;
      steps = goes.steps;
      origin = origin_same;
      stands = λ wells.
          begins lengths (now_after t0.opened t0.steps 0) [] (no_entries lengths) (new_table lengths.origin) t4 (goes.one_by_one one)
          (goes.wells refl wells) (no_chunks (Contains []) (slots_in lengths.store)) (new_opens lengths large small) (right wells)
          (λ sector. record { each = λ write v may. (origin_lasts wells sector).each write v may ∙ sym (origin_same sector) });
    }
