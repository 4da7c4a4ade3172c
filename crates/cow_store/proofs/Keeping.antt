-- A call on a store keeps it a store, and the promise.
use Rattle.std.proofs.Common.{◌≡◌, ◌≤◌, ◌<◌, ◌^◌, ℕ, cond, Bool, true, false, IsTrue, List, [], length, Option, Some, None, IsSome, refl}
use Rattle.std.proofs.Common.{sym, ap, subst, ◌∙◌, arith}
use Rattle.disk_model.specs.Since.{BetweenRecords}
use Rattle.disk_model.specs.CarriesOut.{with_operation}
use Rattle.disk_model.specs.Steps.{Record, Work}
use Rattle.disk_model.proofs.StepsSince.{between_both, between_same, between_weaker, steps_joined}
use Rattle.cow_store.specs.Answers.{IsSameButSpare}
use Rattle.cow_store.specs.Calls.{Keeps, StillStands, as_it_was}
use Rattle.cow_store.specs.Entries.{free_slot, slot_of}
use Rattle.cow_store.specs.Layout.{lengths_of, slots_in}
use Rattle.cow_store.specs.Stands.{Past, Stands, setting}
use Rattle.cow_store.specs.Views.{CowView, IsStore}
use Rattle.cow_store.specs.VolStates.{Operates, VolState}
use Rattle.cow_store.specs.Writing.{CanBeSaved, GoesOn, PromiseGoesOn, SavesChunk, giving, unchanged}
use Rattle.cow_store.proofs.Goes.{goes_operation, stands_after, stands_more, told_by}

-- it is a store with as many entries on volumes of the same sizes
pub store_again : (old new : CowView) → IsStore old → new.vols.sizes ≡ old.vols.sizes → length new.entries ≡ length old.entries
    → IsStore new
store_again old new is sizes many = record {
  volumes = subst (λ (l : List ℕ). 2 ≤ length l) (sym sizes) is.volumes;
  large = subst (λ (l : List ℕ). 10 ≤ (lengths_of l).store) (sym sizes) is.large;
  fits = subst (λ (l : List ℕ). (lengths_of l).store < 2 ^ 64) (sym sizes) is.fits;
  slots = many ∙ is.slots ∙ ap (λ (l : List ℕ). slots_in (lengths_of l).store) (sym sizes);
}

-- what is not spent hasn't failed
pub not_failed : (well spent : Bool) → cond well spent true ≡ false → well ≡ true
not_failed true spent e = refl
not_failed false spent e = sym e

-- a part of a call, by what it does to the record
pub keeps_part : (When : Past → List ℕ → Type 0) (f : List ℕ → List ℕ) (well : Bool) (R : Record → Record → Type 0) (old new : CowView)
    → IsStore old → new.vols.sizes ≡ old.vols.sizes → length new.entries ≡ length old.entries → old.spent ≡ false
    → (new.spent ≡ false → IsTrue well × (new.entries ≡ f old.entries)) → ((past : Past) → When past old.entries)
    → ((t t' : Record) → R t t' → GoesOn well t t' × PromiseGoesOn (lengths_of old.vols.sizes) When f well t t')
    → BetweenRecords R old.vols.told new.vols.told → Keeps as_it_was old new
keeps_part When f well R old new is sizes many going after w make told = record {
  store = store_again old new is sizes many;
  sizes = sizes;
  told =
      between_weaker R (StillStands as_it_was old new) old.vols.told new.vols.told
      (λ t t' r.
      let h = make t t' r in
      record {
        since = h.0.since;
        steps = h.0.steps;
        stands = λ past s.
            stands_after (lengths_of old.vols.sizes) When f well t t' past old.entries new.entries old.spent new.spent h.1 (w past) going
            after s;
      }) told;
}

-- two parts of a call
still_both : (more more' : Past → Past) (a b c : CowView) → b.vols.sizes ≡ a.vols.sizes → (t0 t1 t2 : Record) → StillStands more a b t0 t1
    → StillStands more' b c t1 t2 → StillStands (λ past. more' (more past)) a c t0 t2
still_both more more' a b c sizes t0 t1 t2 first next = record {
  since = _;
  steps = steps_joined t0 t1 t2 first.since next.since first.steps next.steps;
  stands = λ past s.
      subst (λ (l : List ℕ). Stands (lengths_of l) (more' (more past)) c.entries c.spent t2) sizes
      (next.stands (more past)
      (subst (λ (l : List ℕ). Stands (lengths_of l) (more past) b.entries b.spent t1) (sym sizes) (first.stands past s)));
}

pub keeps_both : (more more' : Past → Past) (a b c : CowView) → Keeps more a b → Keeps more' b c → Keeps (λ past. more' (more past)) a c
keeps_both more more' a b c first next = record {
  store = next.store;
  sizes = next.sizes ∙ first.sizes;
  told =
      between_both (StillStands more a b) (StillStands more' b c) (StillStands (λ past. more' (more past)) a c) a.vols.told b.vols.told
      c.vols.told (still_both more more' a b c first.sizes) first.told next.told;
}

-- nothing was done
pub keeps_same : (old new : CowView) → IsStore old → IsSameButSpare old new → Keeps as_it_was old new
keeps_same old new is same =
    let sizes : new.vols.sizes ≡ old.vols.sizes = ap (λ (v : VolState). v.sizes) same.vols in
    record {
      store = store_again old new is sizes (ap (λ (l : List ℕ). length l) same.entries);
      sizes = sizes;
      told =
          between_same (StillStands as_it_was old new) old.vols.told new.vols.told (ap (λ (v : VolState). v.told) same.vols)
          (λ t. record {
            since = [];
            steps = refl;
            stands = λ past s.
                subst (λ (b : Bool). Stands (lengths_of old.vols.sizes) past new.entries b t) (sym same.spent)
                (subst (λ (l : List ℕ). Stands (lengths_of old.vols.sizes) past l old.spent t) (sym same.entries) s);
          });
    }

-- a sector may be set in a chunk
pub keeps_more : (chunk : ℕ) (old new : CowView) → Keeps as_it_was old new → Keeps (setting chunk) old new
keeps_more chunk old new k = record {
  store = k.store;
  sizes = k.sizes;
  told =
      between_weaker (StillStands as_it_was old new) (StillStands (setting chunk) old new) old.vols.told new.vols.told
      (λ t t' h. record {
        since = h.since;
        steps = h.steps;
        stands = λ past s. stands_more (lengths_of old.vols.sizes) past chunk new.entries new.spent t' (h.stands past s);
      }) k.told;
}

-- the store after an operation, which spends it where it failed
abbrev pub after_operation : CowView → VolState → Bool → CowView
after_operation old vols well = record old { vols = vols; spent = cond well old.spent true }

-- one operation
pub keeps_operation : (When : Past → List ℕ → Type 0) (old new : CowView) (vols : VolState) (work : Work) (well : Bool) → IsStore old
    → old.spent ≡ false → Operates old.vols work well vols → new ≡ after_operation old vols well → ((past : Past) → When past old.entries)
    → ((t : Record) (tag : ℕ) (fresh : List Bool)
    → PromiseGoesOn (lengths_of old.vols.sizes) When unchanged well t (with_operation tag work well fresh t))
    → Keeps as_it_was old new
keeps_operation When old new vols work well is going o view w make =
    let R : Record → Record → Type 0 =
    λ t t'. GoesOn well t t' × PromiseGoesOn (lengths_of old.vols.sizes) When unchanged well t t' in
    subst (λ (n : CowView). Keeps as_it_was old n) (sym view)
    (keeps_part When unchanged well R old (after_operation old vols well) is o.sizes refl going
    (λ still. (not_failed well old.spent still, refl)) w (λ t t' r. r)
    (told_by old.vols work well vols R o (λ t e tag fresh. (goes_operation t tag work well fresh, make t tag fresh))))

-- what is some
pub some_of : {T : Type 0} (o : Option T) → IsSome o → (x : T) × (o ≡ Some x)
some_of (Some x) some = (x, refl)
some_of None some = absurd (let h : false ≡ true = some in cc)

-- a chunk was saved, or that failed
pub keeps_saving : (old new : CowView) (chunk slot : ℕ) (well : Bool) (vols : VolState) → IsStore old → old.spent ≡ false
    → new.vols.sizes ≡ old.vols.sizes → new.vols.told ≡ vols.told → length new.entries ≡ length old.entries
    → free_slot old.entries ≡ Some slot → slot_of old.entries chunk ≡ None
    → (new.spent ≡ false → IsTrue well × (new.entries ≡ giving chunk slot old.entries))
    → BetweenRecords (λ t t'. SavesChunk (lengths_of old.vols.sizes) chunk slot well t t') old.vols.told vols.told
    → Keeps (setting chunk) old new
keeps_saving old new chunk slot well vols is going sizes same many free none after told = record {
  store = store_again old new is sizes many;
  sizes = sizes;
  told =
      subst (λ (o : Option Record). BetweenRecords (StillStands (setting chunk) old new) old.vols.told o) (sym same)
      (between_weaker (λ t t'. SavesChunk (lengths_of old.vols.sizes) chunk slot well t t') (StillStands (setting chunk) old new)
      old.vols.told
      vols.told
      (λ t t' r. record {
        since = r.goes.since;
        steps = r.goes.steps;
        stands = λ past s.
            stands_after (lengths_of old.vols.sizes) (CanBeSaved chunk slot) (giving chunk slot) well t t' (setting chunk past) old.entries
            new.entries old.spent new.spent r.promise (free, none, (0, omega arith, refl)) going after
            (stands_more (lengths_of old.vols.sizes) past chunk old.entries old.spent t s);
      }) told);
}
