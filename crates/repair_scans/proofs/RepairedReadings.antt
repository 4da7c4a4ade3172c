-- How disks read once a repair is done, and that nothing is stale there and no disk a stray.
use Rattle.std.proofs.Common.{◌≡◌, ◌↔◌, ◌==◌, ◌&&◌, ℕ, Bool, true, false, cond, List, [], ◌∷◌, map, Option, Some, None, inl, inr, ⊎_elim}
use Rattle.std.proofs.Common.{refl, sym, ap, ◌∙◌}
use Rattle.std.specs.Prelude.{nat_eq, option_map, slice_get}
use Rattle.std.specs.FinSet as set
use Rattle.std.specs.List.{Contains, enumerate_from, list_any}
use Rattle.std.specs.Option.{option_and_then}
use Rattle.std.specs.Ordering.{nat_cmp}
use Rattle.std.proofs.lemmas.Bool.{and_from, and_parts, eq-eqb, eqb-true, false≢true, or_cases, or_left, or_right, true≢false}
use Rattle.std.proofs.lemmas.Option.{same_Some}
use Rattle.meta_model.specs.declared.group.Group.{Group}
use Rattle.scan_rules.specs.Decision.{Area, AreaReading, Found as PvOf, HoldsNone, Reading, gives, is_something, lists}
use Rattle.scan_rules.specs.Laws.{IsStale, IsStray, given_in, pv_on}
use Rattle.list_laws.proofs.Members.{In, has_member, in_list}
use Rattle.vg_repair.specs.Stale.{is_among}
use Rattle.vg_repair.proofs.Numbered.{mapped_at}
use Rattle.repair_scans.proofs.StraysApart.{in_set}

-- ---- members of the two lists

among_in : (stale : List (ℕ × ℕ)) (disk area : ℕ) → is_among stale disk area ≡ true → In stale (disk, area)
among_in [] disk area any = absurd (false≢true any)
among_in (one ∷ stale) disk area any =
    ⊎_elim
    (λ here.
    let parts = and_parts (one.0 == disk) (one.1 == area) here in
    let same_disk : one.0 ≡ disk = eqb-true one.0 disk parts.0 in
    let same_area : one.1 ≡ area = eqb-true one.1 area parts.1 in
    inl (λ i. (same_disk i, same_area i)))
    (λ later. inr (among_in stale disk area later))
    (or_cases ((one.0 == disk) && (one.1 == area)) (is_among stale disk area) any)

in_among : (stale : List (ℕ × ℕ)) (disk area : ℕ) → In stale (disk, area) → is_among stale disk area ≡ true
in_among [] disk area is = absurd is
in_among (one ∷ stale) disk area (inl here) =
    or_left ((one.0 == disk) && (one.1 == area)) (is_among stale disk area)
    (and_from (one.0 == disk) (one.1 == area) (eq-eqb one.0 disk (ap (λ (a : ℕ × ℕ). a.0) here))
    (eq-eqb one.1 area (ap (λ (a : ℕ × ℕ). a.1) here)))
in_among (one ∷ stale) disk area (inr later) =
    or_right ((one.0 == disk) && (one.1 == area)) (is_among stale disk area) (in_among stale disk area later)

any_in : (numbers : List ℕ) (n : ℕ) → In numbers n → list_any (λ y. nat_eq y n) numbers ≡ true
any_in [] n is = absurd is
any_in (m ∷ numbers) n (inl here) = or_left (nat_eq m n) (list_any (λ y. nat_eq y n) numbers) (eq-eqb m n here)
any_in (m ∷ numbers) n (inr later) = or_right (nat_eq m n) (list_any (λ y. nat_eq y n) numbers) (any_in numbers n later)

-- ---- the readings

-- what an area gives then, where it isn't ignored: nothing on a stray, the copy where it was stale, and else what it gave
abbrev pub given_after : Bool → Bool → AreaReading → Option AreaReading → Option AreaReading
given_after stray old new None = None
given_after stray old new (Some r) = cond stray (Some HoldsNone) (cond old (Some new) (Some r))

module _ (stale : List (ℕ × ℕ)) (strays : set.FinSet nat_cmp) (new : AreaReading) where
  -- an area of this disk, by its number
  abbrev pub area_after : ℕ → ℕ × Area → Area
  area_after disk area =
      record {
        start = area.1.start;
        sectors = area.1.sectors;
        reading = given_after (set.contains strays disk) (is_among stale disk area.0) new area.1.reading;
      }

  -- the physical volume of this disk
  abbrev pub pv_after : ℕ → PvOf → PvOf
  pv_after disk pv = record { id = pv.id; areas = map (area_after disk) (enumerate_from 0 pv.areas) }

  -- a disk, by its number
  abbrev pub reading_after : ℕ × Reading → Reading
  reading_after disk = record { sectors = disk.1.sectors; pv = option_map (pv_after disk.0) disk.1.pv }

  -- all disks
  abbrev pub readings_after : List Reading → List Reading
  readings_after readings = map reading_after (enumerate_from 0 readings)

  -- ---- what they were before

  record WasOn (readings : List Reading) (disk : ℕ) (pv : PvOf) : Type 0 where
    before : PvOf
    there : pv_on readings disk ≡ Some before
    is : pv_after disk before ≡ pv

  record WasIn (disk : ℕ) (pv : PvOf) (area : ℕ) (given : AreaReading) : Type 0 where
    before : AreaReading
    there : given_in pv area ≡ Some before
    is : cond (set.contains strays disk) HoldsNone (cond (is_among stale disk area) new before) ≡ given

  pv_was : (readings : List Reading) (disk : ℕ) (pv : PvOf) → pv_on (readings_after readings) disk ≡ Some pv → WasOn readings disk pv
  pv_was readings disk pv has = by (slice_get (readings_after readings) disk) refl has
    where
      with_pv : (reading : Reading) → slice_get readings disk ≡ Some reading → (o : Option PvOf) → reading.pv ≡ o
          → option_map (pv_after disk) o ≡ Some pv → WasOn readings disk pv
      with_pv reading at None is maps = absurd cc
      with_pv reading at (Some before) is maps =
          record {
            before = before;
            there = ap (λ (o : Option Reading). option_and_then (λ (r : Reading). r.pv) o) at ∙ is;
            is = same_Some (pv_after disk before) pv maps;
          }

      by : (o : Option Reading) → slice_get (readings_after readings) disk ≡ o → option_and_then (λ (r : Reading). r.pv) o ≡ Some pv
          → WasOn readings disk pv
      by None at is = absurd cc
      by (Some reading) at is =
          let w = mapped_at reading_after readings disk reading at in
          with_pv w.0 w.1 w.0.pv refl (ap (λ (r : Reading). r.pv) w.2 ∙ is)

  given_was : (disk : ℕ) (pv : PvOf) (area : ℕ) (given : AreaReading) → given_in (pv_after disk pv) area ≡ Some given
      → WasIn disk pv area given
  given_was disk pv area given has = by (slice_get (map (area_after disk) (enumerate_from 0 pv.areas)) area) refl has
    where
      chosen : (stray old : Bool) (r : AreaReading) → cond stray (Some HoldsNone) (cond old (Some new) (Some r)) ≡ Some given
          → cond stray HoldsNone (cond old new r) ≡ given
      chosen true old r is = same_Some HoldsNone given is
      chosen false true r is = same_Some new given is
      chosen false false r is = same_Some r given is

      with_given : (at : Area) → slice_get pv.areas area ≡ Some at → (o : Option AreaReading) → at.reading ≡ o
          → given_after (set.contains strays disk) (is_among stale disk area) new o ≡ Some given → WasIn disk pv area given
      with_given at there None is gives' = absurd cc
      with_given at there (Some before) is gives' =
          record {
            before = before;
            there = ap (λ (o : Option Area). option_and_then (λ (a : Area). a.reading) o) there ∙ is;
            is = chosen (set.contains strays disk) (is_among stale disk area) before gives';
          }

      by : (o : Option Area) → slice_get (map (area_after disk) (enumerate_from 0 pv.areas)) area ≡ o
          → option_and_then (λ (a : Area). a.reading) o ≡ Some given → WasIn disk pv area given
      by None at is = absurd cc
      by (Some found) at is =
          let w = mapped_at (area_after disk) pv.areas area found at in
          with_given w.0 w.1 w.0.reading refl (ap (λ (a : Area). a.reading) w.2 ∙ is)

  -- ---- nothing is stale, and there is no stray

  module _ (group : Group) (text : List ℕ) (readings : List Reading) (gives_new : gives text new ≡ true)
      (are_stale : (disk area : ℕ) → Contains stale (disk, area) ↔ IsStale group text readings disk area)
      (numbers : List ℕ) (strays_is : strays ≡ set.from_list numbers)
      (are_strays : (disk : ℕ) → Contains numbers disk ↔ IsStray group readings disk) where
    is_stray : (disk : ℕ) → set.contains strays disk ≡ true → IsStray group readings disk
    is_stray disk has =
        (are_strays disk).0 (in_set numbers disk (ap (λ (s : set.FinSet nat_cmp). set.contains s disk) (sym strays_is) ∙ has))

    has_stray : (disk : ℕ) → IsStray group readings disk → set.contains strays disk ≡ true
    has_stray disk is =
        ap (λ (s : set.FinSet nat_cmp). set.contains s disk) strays_is ∙ set.contains-from_list_nat numbers disk
        ∙ any_in numbers disk (in_list numbers disk ((are_strays disk).1 is))

    is_old : (disk area : ℕ) → is_among stale disk area ≡ true → IsStale group text readings disk area
    is_old disk area among = (are_stale disk area).0 (has_member stale (disk, area) (among_in stale disk area among))

    has_old : (disk area : ℕ) → IsStale group text readings disk area → is_among stale disk area ≡ true
    has_old disk area is = in_among stale disk area (in_list stale (disk, area) ((are_stale disk area).1 is))

    -- a stray isn't listed
    unlisted : (disk : ℕ) (pv : PvOf) → pv_on readings disk ≡ Some pv → set.contains strays disk ≡ true → lists group pv.id ≡ false
    unlisted disk pv there stray =
        let s : IsStray group readings disk = is_stray disk stray in
        ap (λ (p : PvOf). lists group p.id) (same_Some pv s.pv (sym there ∙ s.on_disk)) ∙ s.is_unlisted

    -- no area of a listed disk gives anything else than the copy
    pub none_stale : (disk area : ℕ) → IsStale group text (readings_after readings) disk area → ⊥
    none_stale disk area s =
        by (set.contains strays disk) refl (is_among stale disk area) refl g.is
      where
        w : WasOn readings disk s.pv
        w = pv_was readings disk s.pv s.on_disk

        g : WasIn disk w.before area s.given
        g = given_was disk w.before area s.given (ap (λ (pv : PvOf). given_in pv area) w.is ∙ s.in_area)

        listed : lists group w.before.id ≡ true
        listed = ap (λ (pv : PvOf). lists group pv.id) w.is ∙ s.is_listed

        by : (stray : Bool) → set.contains strays disk ≡ stray → (old : Bool) → is_among stale disk area ≡ old
            → cond stray HoldsNone (cond old new g.before) ≡ s.given → ⊥
        by true stray old among is = true≢false (sym listed ∙ unlisted disk w.before w.there stray)
        by false stray true among is = true≢false (sym gives_new ∙ ap (gives text) is ∙ s.differs)
        by false stray false among is =
            true≢false
            (sym (has_old disk area (record {
              pv = w.before;
              given = g.before;
              on_disk = w.there;
              is_listed = listed;
              in_area = g.there;
              differs = ap (gives text) is ∙ s.differs;
            }))
            ∙ among)

    -- and no disk that isn't listed gives anything
    pub none_stray : (disk : ℕ) → IsStray group (readings_after readings) disk → ⊥
    none_stray disk s =
        by (set.contains strays disk) refl (is_among stale disk s.area) refl g.is
      where
        w : WasOn readings disk s.pv
        w = pv_was readings disk s.pv s.on_disk

        g : WasIn disk w.before s.area s.given
        g = given_was disk w.before s.area s.given (ap (λ (pv : PvOf). given_in pv s.area) w.is ∙ s.in_area)

        not_listed : lists group w.before.id ≡ false
        not_listed = ap (λ (pv : PvOf). lists group pv.id) w.is ∙ s.is_unlisted

        by : (stray : Bool) → set.contains strays disk ≡ stray → (old : Bool) → is_among stale disk s.area ≡ old
            → cond stray HoldsNone (cond old new g.before) ≡ s.given → ⊥
        by true stray old among is = true≢false (sym s.is_there ∙ ap is_something (sym is))
        by false stray true among is =
            let t : IsStale group text readings disk s.area = is_old disk s.area among in
            true≢false (sym t.is_listed ∙ ap (λ (pv : PvOf). lists group pv.id) (same_Some t.pv w.before (sym t.on_disk ∙ w.there))
            ∙ not_listed)
        by false stray false among is =
            true≢false
            (sym (has_stray disk (record {
              pv = w.before;
              area = s.area;
              given = g.before;
              on_disk = w.there;
              is_unlisted = not_listed;
              in_area = g.there;
              is_there = ap is_something is ∙ s.is_there;
            }))
            ∙ stray)

-- a list that has no member
pub no_member : {X : Type 0} (xs : List X) → ((x : X) → Contains xs x → ⊥) → xs ≡ []
no_member [] none = refl
no_member (x ∷ xs) none = absurd (none x (has_member (x ∷ xs) x (inl refl)))
