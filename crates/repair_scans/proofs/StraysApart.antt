-- What is stale is on no stray, and no old disk is one: both are on disks that the group lists.
use Rattle.std.proofs.Common.{◌≡◌, ◌<◌, ℕ, zero, suc, ◌+◌, Bool, true, false, cond, List, [], ◌∷◌, length, get_or, map, Option, Some, None}
use Rattle.std.proofs.Common.{inl, inr, ⊎_elim, refl, sym, ap, subst, ◌∙◌, add-one, arith}
use Rattle.std.specs.Prelude.{All, filter, nat_eq, nat_lt, option_map, slice_get, unwrap_or}
use Rattle.std.specs.FinSet as set
use Rattle.std.specs.List.{Contains, list_any}
use Rattle.std.specs.Option.{option_and_then, option_map_or}
use Rattle.std.specs.Ordering.{nat_cmp}
use Rattle.std.specs.Str.{bytes_eq}
use Rattle.std.proofs.lemmas.Bool.{cases_Bool, eqb-true, false≢true, or_cases, or_left, or_right, true≢false}
use Rattle.std.proofs.lemmas.List.Elements.{All-nil}
use Rattle.std.proofs.lemmas.Option.{same_Some}
use Rattle.disk_model.specs.Steps.{Image}
use Rattle.pv_header.specs.declared.header.PvHeader.{PvHeader}
use Rattle.meta_model.specs.declared.group.Group.{Group}
use Rattle.meta_model.specs.declared.pv.Pv.{Pv}
use Rattle.scan_rules.specs.Decision.{Conflict, DuplicatePv, Found as PvOf, FoundGroup, Held, NoCopy, NoGroup, PvShape, Reading, SamePv}
use Rattle.scan_rules.specs.Decision.{ScanAnswer, TwoGroups, Unsupported, decide_scan, lists}
use Rattle.scan_rules.specs.Laws.{IsStale, IsStray}
use Rattle.list_laws.proofs.Members.{In, has_member, in_list}
use Rattle.scan_rules.proofs.Repairs.{stale_exact, strays_exact}
use Rattle.scan_rules.proofs.Scanning.{same_bytes_tells, same_bytes_to}
use Rattle.vg_found.specs.Disks.{disk_with, disks_of, has_header_id, has_old_header, header_on, is_old, old_among, old_of, pv_shape}
use Rattle.vg_found.specs.declared.disk.Disk.{Disk}
use Rattle.vg_found.specs.declared.found.Found.{Found}
use Rattle.vg_scan.specs.Readings.{AreDiskReadings, IsDiskReading}
use Rattle.vg_scan.specs.Scans.{IsFoundBy, IsScanOf}
use Rattle.vg_repair.specs.Laws.{StraysAreOthers}
use Rattle.image_scans.proofs.ReadingShapes.{pv_shaped}

-- the members of a set that was made of a list
pub member : (numbers : List ℕ) (n : ℕ) → list_any (λ y. nat_eq y n) numbers ≡ true → In numbers n
member [] n any = absurd (false≢true any)
member (m ∷ numbers) n any =
    ⊎_elim (λ here. inl (eqb-true m n here)) (λ later. inr (member numbers n later))
    (or_cases (nat_eq m n) (list_any (λ y. nat_eq y n) numbers) any)

pub in_set : (numbers : List ℕ) (n : ℕ) → set.contains (set.from_list {R = nat_cmp} numbers) n ≡ true → Contains numbers n
in_set numbers n has = has_member numbers n (member numbers n (sym (set.contains-from_list_nat numbers n) ∙ has))

-- the one at a number is a member
pub in_at : {X : Type 0} (xs : List X) (k : ℕ) (d : X) → k < length xs → In xs (get_or xs k d)
in_at [] k d within = absurd (omega (arith, within))
in_at (x ∷ xs) zero d within = inl refl
in_at (x ∷ xs) (suc k) d within = inr (in_at xs k d (omega (arith, within)))

-- what a list has of those that pass
in_filter : (p : ℕ → Bool) (xs : List ℕ) (n : ℕ) → In (filter p xs) n → In xs n × (p n ≡ true)
in_filter p [] n among = absurd among
in_filter p (m ∷ xs) n among = step (λ later. in_filter p xs n later) (p m) refl among
  where
    step : (In (filter p xs) n → In xs n × (p n ≡ true)) → (b : Bool) → p m ≡ b → In (cond b (m ∷ filter p xs) (filter p xs)) n
        → In (m ∷ xs) n × (p n ≡ true)
    step more true is (inl here) = (inl here, ap p (sym here) ∙ is)
    step more true is (inr later) = let r = more later in (inr r.0, r.1)
    step more false is later = let r = more later in (inr r.0, r.1)

in_mapped : {X : Type 0} (f : X → ℕ) (xs : List X) (n : ℕ) → In (map f xs) n → (x : X) × In xs x × (f x ≡ n)
in_mapped f [] n among = absurd among
in_mapped f (x ∷ xs) n (inl here) = (x, inl refl, here)
in_mapped f (x ∷ xs) n (inr later) = let r = in_mapped f xs n later in (r.0, inr r.1, r.2)

any_in : {X : Type 0} (p : X → Bool) (xs : List X) (x : X) → In xs x → p x ≡ true → list_any p xs ≡ true
any_in p [] x among is = absurd among
any_in p (y ∷ ys) x (inl here) is = or_left (p y) (list_any p ys) (ap p here ∙ is)
any_in p (y ∷ ys) x (inr later) is = or_right (p y) (list_any p ys) (any_in p ys x later is)

-- ---- disks of the group

-- the disk that is found by an id has it
with_id : (id : List ℕ) (disks : List Disk) (disk : Disk) → slice_get disks (disk_with disks id) ≡ Some disk → has_header_id id disk ≡ true
with_id id [] disk there = absurd cc
with_id id (first ∷ disks) disk there = step (λ later. with_id id disks disk later) (has_header_id id first) refl there
  where
    step : (slice_get disks (disk_with disks id) ≡ Some disk → has_header_id id disk ≡ true) → (b : Bool) → has_header_id id first ≡ b
        → slice_get (first ∷ disks) (cond b 0 (disk_with disks id + 1)) ≡ Some disk → has_header_id id disk ≡ true
    step more true is here = ap (has_header_id id) (sym (same_Some first disk here)) ∙ is
    step more false is later = more (ap (slice_get (first ∷ disks)) (sym (add-one (disk_with disks id))) ∙ later)

own_id : (id : List ℕ) (o : Option PvHeader) (header : PvHeader) → o ≡ Some header
    → unwrap_or (option_map (λ (h : PvHeader). bytes_eq h.id id) o) false ≡ true → header.id ≡ id
own_id id None header is has = absurd cc
own_id id (Some other) header is has =
    ap (λ (h : PvHeader). h.id) (sym (same_Some other header is)) ∙ same_bytes_tells other.id id has

old_header : (o : Option PvHeader) → unwrap_or (option_map (λ (h : PvHeader). nat_lt h.version 2) o) false ≡ true
    → (header : PvHeader) × (o ≡ Some header)
old_header None is = absurd (false≢true is)
old_header (Some header) is = (header, refl)

-- an old disk has a header that the group lists
record IsOldDisk (group : Group) (disks : List Disk) (pv : ℕ) : Type 0 where
  disk : Disk
  there : slice_get disks pv ≡ Some disk
  header : PvHeader
  is_header : header_on disk.contents ≡ Some header
  is_listed : lists group header.id ≡ true

old_disk : (group : Group) (disks : List Disk) (pv : ℕ) → set.contains (old_of (Some group) disks) pv ≡ true → IsOldDisk group disks pv
old_disk group disks pv old =
    let among : In (disks_of group disks) pv × (is_old disks pv ≡ true) =
    in_filter (is_old disks) (disks_of group disks) pv
    (in_list (old_among disks (disks_of group disks)) pv (in_set (old_among disks (disks_of group disks)) pv old)) in
    let row = in_mapped (λ (p : List ℕ × Pv). disk_with disks p.1.id) group.pvs pv among.0 in
    by row.0 row.1 row.2 (slice_get disks pv) refl among.1
  where
    by : (row : List ℕ × Pv) → In group.pvs row → disk_with disks row.1.id ≡ pv → (o : Option Disk) → slice_get disks pv ≡ o
        → option_map_or has_old_header o false ≡ true → IsOldDisk group disks pv
    by row listed at None there is = absurd (false≢true is)
    by row listed at (Some disk) there is =
        let header = old_header (header_on disk.contents) is in
        let same : header.0.id ≡ row.1.id =
        own_id row.1.id (header_on disk.contents) header.0 header.1 (with_id row.1.id disks disk (ap (slice_get disks) at ∙ there)) in
        record {
          disk = disk;
          there = there;
          header = header.0;
          is_header = header.1;
          is_listed =
              any_in (λ (p : List ℕ × Pv). bytes_eq p.1.id header.0.id) group.pvs row listed
              (same_bytes_to row.1.id header.0.id (sym same));
        }

-- ---- a stray's header isn't listed

reading_at : (image : Image) (unread : set.FinSet nat_cmp) (first : ℕ) (disks : List Disk) (readings : List Reading)
    → AreDiskReadings image unread first disks readings → (k : ℕ) (disk : Disk) → slice_get disks k ≡ Some disk
    → (reading : Reading) × (slice_get readings k ≡ Some reading) × IsDiskReading (first + k) (image (first + k)) disk reading
reading_at image unread first [] readings are k disk there = absurd cc
reading_at image unread first (d ∷ disks) [] are k disk there = absurd are
reading_at image unread first (d ∷ disks) (reading ∷ readings) are zero disk there = (
  reading,
  refl,
  subst (λ (n : ℕ). IsDiskReading n (image n) disk reading) (omega arith)
      (subst (λ (x : Disk). IsDiskReading first (image first) x reading) (same_Some d disk there) are.1),
)
reading_at image unread first (d ∷ disks) (reading ∷ readings) are (suc k) disk there =
    let r = reading_at image unread (first + 1) disks readings are.2 k disk there in
    (r.0, r.1, subst (λ (n : ℕ). IsDiskReading n (image n) disk r.0) (omega arith) r.2)

same_id : (header : PvHeader) (o : Option PvHeader) (own : PvOf) (read : Option PvOf) → o ≡ Some header → read ≡ Some own
    → SamePv (option_map pv_shape o) read → own.id ≡ header.id
same_id header None own read is has same = absurd cc
same_id header (Some other) own None is has same = absurd same
same_id header (Some other) own (Some pv) is has same =
    ap (λ (x : PvOf). x.id) (sym (same_Some pv own has)) ∙ sym same.0 ∙ ap (λ (x : PvHeader). x.id) (same_Some other header is)

module _ (base : Image) (sizes : List ℕ) (found : Found) (scan : IsScanOf base sizes found) where
  abbrev readings : List Reading
  readings = scan.readings

  pub unlisted : (held : Held) (stale : List (ℕ × ℕ)) (strays : List ℕ) (missing : List (List ℕ))
      → decide_scan readings ≡ FoundGroup held stale strays missing → found.strays ≡ set.from_list strays
      → (pv : ℕ) (disk : Disk) (header : PvHeader) → slice_get found.disks pv ≡ Some disk → header_on disk.contents ≡ Some header
      → set.contains found.strays pv ≡ true → lists held.group header.id ≡ false
  unlisted held stale strays missing is are pv disk header there has stray =
      let among : Contains strays pv =
      in_set strays pv (ap (λ (s : set.FinSet nat_cmp). set.contains s pv) (sym are) ∙ stray) in
      let s : IsStray held.group readings pv = (strays_exact readings held stale strays missing is pv).0 among in
      let r = reading_at base found.unread 0 found.disks readings scan.are.each pv disk there in
      let read : IsDiskReading pv (base pv) disk r.0 = subst (λ (n : ℕ). IsDiskReading n (base n) disk r.0) (omega arith) r.2 in
      let own : r.0.pv ≡ Some s.pv = sym (ap (λ (o : Option Reading). option_and_then (λ (x : Reading). x.pv) o) r.1) ∙ s.on_disk in
      let id : s.pv.id ≡ header.id =
      same_id header (header_on disk.contents) s.pv r.0.pv has own
      (pv_shaped pv disk.sectors (base pv) disk.contents r.0.pv read.contents read.pv_is) in
      ap (lists held.group) (sym id) ∙ s.is_unlisted

  -- ---- what is stale, and what is old

  of_group : (held : Held) (stale : List (ℕ × ℕ)) (strays : List ℕ) (missing : List (List ℕ))
      → decide_scan readings ≡ FoundGroup held stale strays missing → IsFoundBy (FoundGroup held stale strays missing) found
      → StraysAreOthers found
  of_group held stale strays missing is by = record {
    stale =
        subst (All (λ (area : ℕ × ℕ). set.contains found.strays area.0 ≡ false)) (sym by.3)
        (λ k d within.
        let area : ℕ × ℕ = get_or stale k d in
        ⊎_elim
        (λ stray.
        let s : IsStale held.group held.text readings area.0 area.1 =
        (stale_exact readings held stale strays missing is area.0 area.1).0 (has_member stale area (in_at stale k d within)) in
        let t : IsStray held.group readings area.0 =
        (strays_exact readings held stale strays missing is area.0).0
        (in_set strays area.0 (ap (λ (x : set.FinSet nat_cmp). set.contains x area.0) (sym by.4) ∙ stray)) in
        let same : s.pv ≡ t.pv = same_Some s.pv t.pv (sym s.on_disk ∙ t.on_disk) in
        absurd (true≢false (sym s.is_listed ∙ ap (λ (pv : PvOf). lists held.group pv.id) same ∙ t.is_unlisted)))
        (λ other. other)
        (cases_Bool (set.contains found.strays area.0)));
    old =
        λ pv was. ⊎_elim
        (λ stray.
        let is_there : set.contains (old_of (Some held.group) found.disks) pv ≡ true =
        ap (λ (x : set.FinSet nat_cmp). set.contains x pv) (sym (scan.old ∙ ap (λ (o : Option Group). old_of o found.disks) by.0)) ∙ was in
        let o : IsOldDisk held.group found.disks pv = old_disk held.group found.disks pv is_there in
        absurd (true≢false (sym o.is_listed ∙ unlisted held stale strays missing is by.4 pv o.disk o.header o.there o.is_header stray)))
        (λ other. other)
        (cases_Bool (set.contains found.strays pv));
  }

  of_none : IsFoundBy NoGroup found → StraysAreOthers found
  of_none by = record {
    stale =
        subst (All (λ (area : ℕ × ℕ). set.contains found.strays area.0 ≡ false)) (sym by.3)
        (All-nil (λ (area : ℕ × ℕ). set.contains found.strays area.0 ≡ false));
    old = λ pv was. ap (λ (x : set.FinSet nat_cmp). set.contains x pv) by.4 ∙ set.contains-empty nat_cmp pv;
  }

  by_answer : (answer : ScanAnswer) → decide_scan readings ≡ answer → IsFoundBy answer found → StraysAreOthers found
  by_answer (FoundGroup held stale strays missing) is by = of_group held stale strays missing is by
  by_answer NoGroup is by = of_none by
  by_answer (DuplicatePv a b) is by = absurd by
  by_answer (NoCopy rs) is by = absurd by
  by_answer (Unsupported pv) is by = absurd by
  by_answer (TwoGroups a b) is by = absurd by
  by_answer (Conflict a b seqno) is by = absurd by
  by_answer (PvShape pv) is by = absurd by

  pub strays_apart : StraysAreOthers found
  strays_apart = by_answer (decide_scan readings) refl scan.answer
