-- One sector is written and its disk flushed, where nothing else is in flight.
use Rattle.std.proofs.Common.{◌≡◌, ◌⊎◌, inl, inr, ⊎_elim, length, ℕ, ◌-◌, ◌==◌, ◌&&◌, Bool, true, false, cond, not, IsTrue, List, [], ◌∷◌}
use Rattle.std.proofs.Common.{slice_index_or, Some, refl, sym, ap, subst, ◌∙◌, arith}
use Rattle.std.proofs.lemmas.Bool.Decides.{nat_tests, eqb_tells}
use Rattle.sector_base.specs.declared.spans.Span.{Span}
use Rattle.sector_base.specs.Spans.{covers}
use Rattle.disk_model.specs.declared.ops.Op.TheVariants.{Write, Flush}
use Rattle.disk_model.specs.declared.ops.Done.{Done}
use Rattle.disk_model.specs.Steps.{Image, Writing, Flushing, Submitted, Completed, Step, Record, now_after, steps_on, value_at}
use Rattle.disk_model.specs.Record.{in_flight_after}
use Rattle.disk_model.specs.CrashValues.{MayLeave}
use Rattle.disk_model.specs.State.{State, IsLawful}
use Rattle.disk_model.specs.CarriesOut.{CarriesOut, with_operation}
use Rattle.disk_model.proofs.OneAtATime.{operation_told, idle_told, acknowledged}
use Rattle.disk_model.specs.Brought.{BringOnly}
use Rattle.disk_model.specs.Faults.{IsLastFault}
use Rattle.disk_model.proofs.Ordered.{bring_only_weaker}
use Rattle.disk_model.proofs.LastFault.{last_fault, last_fault_after, same_faults}
use Rattle.disk_model.specs.Moments.{EveryImageSince}
use Rattle.disk_model.specs.Durability.{EachOnlyLeaves, IsBase, OnlyLeaves}
use Rattle.disk_model.proofs.Bringing.{every_moment, only_leaves}
use Rattle.disk_model.specs.Since.{writes_submitted}
use Rattle.disk_model.specs.Puts.{HasFirst, IsPutFault, Put, PutsAll, PutsAllTold, one_sector, put_on, write_of_put}

-- The one value is brought to the one sector, by one write. Where all went well it is what a read gives there, and no
-- crash leaves another one.
record BringsPut (old : Record) (pv sector : ℕ) (value : List ℕ) (well : Bool) (new : Record) : Type 0 where
  since : List Step
  steps : new ≡ steps_on since old
  writes : writes_submitted since ≡ write_of_put (record { pv = pv; sector = sector; value = value }) ∷ []
  brings : BringOnly (λ p s v. (p ≡ pv) × (s ≡ sector) × (v ≡ value)) since
  now : IsTrue well → (p s : ℕ) → now_after new.opened new.steps p s
      ≡ cond ((p == pv) && (s == sector)) value (now_after old.opened old.steps p s)
  durable : IsTrue well → OnlyLeaves new pv sector (λ v. v ≡ value)

-- it covers that sector alone
covers-one : (pv sector p s : ℕ) → covers (one_sector pv sector) p s ≡ ((p == pv) && (s == sector))
covers-one pv sector p s = grind (arith, nat_tests)

covered : (pv sector p s : ℕ) → IsTrue (covers (one_sector pv sector) p s) → (p ≡ pv) × (s ≡ sector)
covered pv sector p s h = (grind (arith, nat_tests), grind (arith, nat_tests))

covers_it : (pv sector : ℕ) → IsTrue (covers (one_sector pv sector) pv sector)
covers_it pv sector = grind (arith, nat_tests)

module _ (t : Record) (pv sector : ℕ) (contents : List (List ℕ)) (one : contents ≡ slice_index_or contents 0 [] ∷ []) where
  abbrev value : List ℕ
  value = slice_index_or contents 0 []

  abbrev place : Span
  place = one_sector pv sector

  value_there : (s : ℕ) → s ≡ sector → value_at place contents s ≡ value
  value_there s e = let zero_on : s - sector ≡ 0 = omega arith in ap (λ (k : ℕ). slice_index_or contents k []) zero_on

  brings_it : (p s : ℕ) → IsTrue (covers place p s) → (p ≡ pv) × (s ≡ sector) × (value_at place contents s ≡ value)
  brings_it p s inside = let at = covered pv sector p s inside in (at.0, at.1, value_there s at.1)

  -- what a read gives after the write
  now_put : (b : Bool) (p s : ℕ) → covers place p s ≡ b → (old : List ℕ)
      → cond (b && true) (value_at place contents s) old ≡ cond b value old
  now_put true p s e old = value_there s (covered pv sector p s e).1
  now_put false p s e old = refl

  submits_it : (place, contents) ∷ [] ≡ write_of_put (record { pv = pv; sector = sector; value = value }) ∷ []
  submits_it = ap (λ (l : List (List ℕ)). (place, l) ∷ []) one

  -- the write failed
  write_failed : (tag : ℕ) (fresh : List Bool)
      → BringsPut t pv sector value false (with_operation tag (Writing place contents) false fresh t)
  write_failed tag fresh = record {
    since = Completed tag (Writing place contents) false fresh ∷ Submitted tag (Writing place contents) ∷ [];
    steps = refl;
    writes = submits_it;
    brings = (brings_it, tt);
    now = λ no. absurd (let h : false ≡ true = no in cc);
    durable = λ no. absurd (let h : false ≡ true = no in cc);
  }

  -- the write went well, and then the flush or not
  put_well : (tag tag' : ℕ) (fresh fresh' : List Bool) (well : Bool) → in_flight_after t.steps ≡ []
      → BringsPut t pv sector value well (with_operation tag' (Flushing pv) well fresh'
      (with_operation tag (Writing place contents) true fresh t))
  put_well tag tag' fresh fresh' false idle = record {
    since =
        Completed tag' (Flushing pv) false fresh' ∷ Submitted tag' (Flushing pv) ∷ Completed tag (Writing place contents) true fresh
        ∷ Submitted tag (Writing place contents) ∷ [];
    steps = refl;
    writes = submits_it;
    brings = (brings_it, tt);
    now = λ no. absurd (let h : false ≡ true = no in cc);
    durable = λ no. absurd (let h : false ≡ true = no in cc);
  }
  put_well tag tag' fresh fresh' true idle = record {
    since =
        Completed tag' (Flushing pv) true fresh' ∷ Submitted tag' (Flushing pv) ∷ Completed tag (Writing place contents) true fresh
        ∷ Submitted tag (Writing place contents) ∷ [];
    steps = refl;
    writes = submits_it;
    brings = (brings_it, tt);
    now = λ yes p s.
        now_put (covers place p s) p s refl (now_after t.opened t.steps p s)
        ∙ ap (λ (b : Bool). cond b value (now_after t.opened t.steps p s)) (covers-one pv sector p s);
    durable = λ yes. record {
      each = λ write v may.
          (acknowledged t tag tag' place contents fresh fresh' idle sector (covers_it pv sector)).each write v may
          ∙ value_there sector refl;
    };
  }

-- a value is that of the base, or the new one in the one sector
abbrev IsOldOrPut : Image → Put → ℕ → ℕ → List ℕ → Type 0
IsOldOrPut base put p s v = (v ≡ base p s) ⊎ ((p ≡ put.pv) × (s ≡ put.sector) × (v ≡ put.value))

-- what is tested of a sector
at_put : (p s pv sector : ℕ) (value old v : List ℕ) → ((p ≡ pv) → (s ≡ sector) → v ≡ value) → (((p ≡ pv) × (s ≡ sector) → ⊥) → v ≡ old)
    → v ≡ cond ((p == pv) && (s == sector)) value old
at_put p s pv sector value old v there elsewhere =
    ⊎_elim
    (λ at. ⊎_elim (λ here. rw (at.0, here.0) (there at.1 here.1)) (λ away. rw (at.0, away.0) (elsewhere (λ both. away.1 both.1)))
    (eqb_tells s sector))
    (λ away. rw away.0 (elsewhere (λ both. away.1 both.0)))
    (eqb_tells p pv)

module _ (old new : Record) (pv sector : ℕ) (value : List ℕ) (well : Bool) (b : BringsPut old pv sector value well new) (base : Image)
    (is : IsBase old base) where
  abbrev put : Put
  put = record { pv = pv; sector = sector; value = value }

  start : EachOnlyLeaves (IsOldOrPut base put) old
  start p s = record { each = λ write v may. inl ((is p s).each write v may) }

  brings_put : BringOnly (IsOldOrPut base put) b.since
  brings_put = bring_only_weaker (λ p s v. (p ≡ pv) × (s ≡ sector) × (v ≡ value)) (IsOldOrPut base put) b.since (λ p s v h. inr h) b.brings

  -- an image of such values is the base, or has the new one in its sector
  one_image : (image : Image) → ((p s : ℕ) → IsOldOrPut base put p s (image p s)) → HasFirst (put ∷ []) base image
  one_image image each =
      ⊎_elim
      (λ (same : image pv sector ≡ base pv sector). record {
        count = 0;
        among = omega arith;
        same = λ p s. ⊎_elim (λ a. a) (λ h. rw (h.0, h.1) same) (each p s);
      })
      (λ (there : (pv ≡ pv) × (sector ≡ sector) × (image pv sector ≡ value)). record {
        count = 1;
        among = omega arith;
        same = λ p s. at_put p s pv sector value (base p s) (image p s)
            (λ on here. rw (on, here) there.2)
            (λ away. ⊎_elim (λ a. a) (λ h. absurd (away (h.0, h.1))) (each p s));
      })
      (each pv sector)

  put_images : EveryImageSince (length old.steps) new (HasFirst (put ∷ []) base)
  put_images =
      let every = every_moment (IsOldOrPut base put) old.opened old.steps start b.since brings_put in
      subst (λ (t : Record). EveryImageSince (length old.steps) t (HasFirst (put ∷ []) base)) (sym b.steps)
      (λ moment from upto image im. one_image image (every moment from upto image im))

  put_lasts : IsTrue well → IsBase new (put_on put base)
  put_lasts went p s = record {
    each = λ write v may.
        at_put p s pv sector value (base p s) v
        (λ on here. (b.durable went).each write v
        (subst (λ (n : ℕ). MayLeave new.opened new.steps pv n write v) here
        (subst (λ (n : ℕ). MayLeave new.opened new.steps n s write v) on may)))
        (λ away. ⊎_elim (λ a. a) (λ h. absurd (away (h.0, h.1)))
        ((subst (λ (t : Record). EachOnlyLeaves (IsOldOrPut base put) t) (sym b.steps)
        (only_leaves (IsOldOrPut base put) old.opened old.steps start b.since brings_put) p s).each write v may));
  }

-- the one sector was put
puts_one : (old new : Record) (pv sector : ℕ) (value : List ℕ) (well : Bool) → BringsPut old pv sector value well new
    → PutsAll old (record { pv = pv; sector = sector; value = value } ∷ []) well new
puts_one old new pv sector value well b = record {
  since = b.since;
  steps = b.steps;
  submitted = 1;
  among = omega arith;
  writes = b.writes;
  whole = λ went. refl;
  every_image = λ base is. put_images old new pv sector value well b base is;
  lasting = λ went base is. put_lasts old new pv sector value well b base is went;
  now = b.now;
}

-- a list of one element
pub one_element : (contents : List (List ℕ)) → length contents ≡ 1 → contents ≡ slice_index_or contents 0 [] ∷ []
one_element [] e = cc
one_element (x ∷ []) e = refl
one_element (x ∷ y ∷ more) e = absurd (omega arith)

-- the two operations, by the shelf's states before and after each
module _ (pv sector : ℕ) (contents : List (List ℕ)) (one : length contents ≡ 1) (s0 s1 : State) (done1 : Done)
    (c1 : CarriesOut s0 (Write (one_sector pv sector) contents) done1 s1) where
  abbrev the_put : Put
  the_put = record { pv = pv; sector = sector; value = slice_index_or contents 0 [] }

  written : (well : Bool) → done1.well ≡ well → (old : Record) → s0.told ≡ Some old
      → (fresh : List Bool) × (s1.told ≡ Some (with_operation done1.tag (Writing (one_sector pv sector) contents) well fresh old))
  written well is old e =
      let f = operation_told s0 (Write (one_sector pv sector) contents) done1 s1 old c1 e in
      (f.0, f.1 ∙ ap (λ (b : Bool). Some (with_operation done1.tag (Writing (one_sector pv sector) contents) b f.0 old)) is)

  pub puts_failed_write : done1.well ≡ false → PutsAllTold s0.told (the_put ∷ []) false s1.told
  puts_failed_write well1 old e =
      let f = written false well1 old e in (
        _,
        f.1,
        puts_one old _ pv sector (slice_index_or contents 0 []) false
            (write_failed old pv sector contents (one_element contents one) done1.tag f.0),
      )

  pub puts_flushed : (s2 : State) (done2 : Done) → CarriesOut s1 (Flush pv) done2 s2 → IsLawful s0 → s0.in_flight ≡ [] → done1.well ≡ true
      → PutsAllTold s0.told (the_put ∷ []) done2.well s2.told
  puts_flushed s2 done2 c2 lawful idle well1 old e =
      let f = written true well1 old e in
      let f2 = operation_told s1 (Flush pv) done2 s2 _ c2 f.1 in (
        _,
        f2.1,
        puts_one old _ pv sector (slice_index_or contents 0 []) done2.well
            (put_well old pv sector contents (one_element contents one) done1.tag done2.tag f.0 f2.0 done2.well
            (idle_told s0 old lawful idle e)),
      )

  pub put_fault_of_write : done1.well ≡ false → IsPutFault s0 s1 the_put pv
  put_fault_of_write failed =
      inl (subst (λ (l : List (List ℕ)). IsLastFault s0 s1 pv (Writing (one_sector pv sector) l)) (one_element contents one)
      (last_fault s0 s1 (Write (one_sector pv sector) contents) done1 c1 failed))

  pub put_fault_of_flush : (s2 : State) → done1.well ≡ true → IsLastFault s1 s2 pv (Flushing pv) → IsPutFault s0 s2 the_put pv
  put_fault_of_flush s2 well f =
      inr (last_fault_after s0 s1 s2 pv (Flushing pv) (same_faults s0 s1 (Write (one_sector pv sector) contents) done1 c1 well) f)

pub well_if_not_not : (b : Bool) → not b ≡ false → b ≡ true
well_if_not_not true h = refl
well_if_not_not false h = sym h

pub failed_if_not : (b : Bool) → not b ≡ true → b ≡ false
failed_if_not true h = sym h
failed_if_not false h = refl
