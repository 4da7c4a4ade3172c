-- One disk more was scanned.
use Rattle.std.proofs.Common.{◌≡◌, ◌≢◌, ◌<◌, ◌≤◌, ℕ, zero, suc, ◌+◌, ◌*◌, ◌^◌, Bool, true, false, ◌||◌, eqb, cond, List, [], ◌∷◌, ◌++◌}
use Rattle.std.proofs.Common.{length, take, get_or, Option, Some, None, ◌⊎◌, inl, inr, refl, sym, ap, subst, ◌∙◌, arith}
use Rattle.std.proofs.Common.{length-append}
use Rattle.std.specs.Prelude.{is_none, slice_get, All}
use Rattle.std.specs.FinSet as set
use Rattle.std.specs.Cmp.{nat_cmp_total, unsigned_tied}
use Rattle.std.specs.Ordering.{nat_cmp}
use Rattle.std.proofs.lemmas.Bool.{cases_lt, eq-eqb, false≢true}
use Rattle.std.proofs.lemmas.Bool.Decides.{nat_tests}
use Rattle.std.proofs.lemmas.List.{append-nil, map-append, take_more}
use Rattle.std.proofs.lemmas.List.Elements.{All-head, All-tail, filter-append}
use Rattle.std.proofs.lemmas.Option.{same_Some, slice_get_within}
use Rattle.sector_base.specs.declared.spans.Span.{Span}
use Rattle.disk_model.specs.Since.{BetweenRecords, HoldsOfDisk, OnlyReads, ReadsTold, spans_read}
use Rattle.disk_model.specs.State.{State}
use Rattle.disk_model.specs.Steps.{Image, Record, now_after}
use Rattle.disk_model.proofs.ReadingAlone.{reads_told_both, same_now}
use Rattle.disk_model.proofs.StepsSince.{between_both, between_same, between_weaker}
use Rattle.pv_header.specs.declared.extent_list.Extent.{Extent}
use Rattle.disk_contents.specs.declared.contents.PvFound.{PvFound}
use Rattle.disk_contents.specs.Reads.{AreAreasOf}
use Rattle.scan_rules.specs.Decision.{Reading, SameHeaders}
use Rattle.vg_found.specs.declared.disk.Disk.{Disk}
use Rattle.vg_found.specs.Disks.{shapes}
use Rattle.vg_found.specs.Shape.{IsDisk, IsUnread}
use Rattle.vg_scan.specs.Disks.{ReadsDisk}
use Rattle.vg_scan.specs.Readings.{AreDiskReadings, IsDiskReading}
use Rattle.vg_scan.specs.Scanned.{AreScanned, HasFaultsOf, HaveShapes, IsScannedDisk, ReadsFewBelow, unread_with}
use Rattle.vg_scan.specs.Scans.{AreFewReads, FailedOn, HoldsNow, ReadsFew, spans_on}

-- ---- what was read

told_reads : (old new : Record) (spans : List Span) → OnlyReads old spans new → ReadsTold (Some old) spans (Some new)
told_reads old new spans reads = λ before is. (new, refl, subst (λ (t : Record). OnlyReads t spans new) (same_Some old before is) reads)

reads_both : (first more : List Span) (old mid new : Record) → OnlyReads old first mid → OnlyReads mid more new
    → OnlyReads old (first ++ more) new
reads_both first more old mid new a b =
    let both =
    reads_told_both first more (Some old) (Some mid) (Some new) (told_reads old mid first a) (told_reads mid new more b) old refl in
    subst (λ (t : Record). OnlyReads old (first ++ more) t) (sym (same_Some new both.0 both.1)) both.2

only_below : (count : ℕ) (sizes : List ℕ) (old new : Record) (reads : ReadsFewBelow count sizes old new)
    → OnlyReads old (spans_read reads.since) new
only_below count sizes old new reads = record { since = reads.since; steps = reads.steps; reads = reads.reads; spans_are = refl }

only_disk : (pv sectors : ℕ) (old new : Record) (reads : ReadsDisk pv sectors old new) → OnlyReads old (spans_read reads.since) new
only_disk pv sectors old new reads = record { since = reads.since; steps = reads.steps; reads = reads.reads; spans_are = refl }

none_on : (pv own : ℕ) (spans : List Span) → All (λ (span : Span). span.pv ≡ own) spans → pv ≢ own → spans_on pv spans ≡ []
none_on pv own [] all other = refl
none_on pv own (span ∷ spans) all other =
    let here : span.pv ≡ own = All-head (λ (s : Span). s.pv ≡ own) span spans all in
    let apart : eqb span.pv pv ≡ false = grind (arith, nat_tests) in
    ap (λ (b : Bool). cond b (span ∷ spans_on pv spans) (spans_on pv spans)) apart
    ∙ none_on pv own spans (All-tail (λ (s : Span). s.pv ≡ own) span spans all) other

no_more : (pv : ℕ) (spans : List Span) → length (spans_on pv spans) ≤ length spans
no_more pv [] = omega arith
no_more pv (span ∷ spans) = of (eqb span.pv pv) (no_more pv spans) where
  of : (b : Bool) → length (spans_on pv spans) ≤ length spans
      → length (cond b (span ∷ spans_on pv spans) (spans_on pv spans)) ≤ suc (length spans)
  of true fewer = omega arith
  of false fewer = omega arith

same_or_not : (a b : ℕ) → (a ≡ b) ⊎ (a ≢ b)
same_or_not a b =
    elim (cases_lt a b) [
      | inl below ↦ inr (λ same. absurd (omega arith))
      | inr from ↦ elim (cases_lt b a) [ inl above ↦ inr (λ same. absurd (omega arith)) | inr upto ↦ inl (omega arith) ]
    ]

-- how many spans of two rows are on a disk
on_both : (pv : ℕ) (first more : List Span) → spans_on pv (first ++ more) ≡ spans_on pv first ++ spans_on pv more
on_both pv first more = filter-append (λ (span : Span). eqb span.pv pv) first more

abbrev FewOn : Image → List ℕ → List Span → ℕ → Type 0
FewOn image sizes spans pv =
    (areas : List Extent) × AreAreasOf (image pv) (get_or sizes pv 0) areas × (length (spans_on pv spans) ≤ 1 + 3 * length areas)

few_of_both : (image : Image) (sizes : List ℕ) (count : ℕ) (first more : List Span) (areas : List Extent) → AreFewReads image sizes first
    → ((pv : ℕ) → count ≤ pv → spans_on pv first ≡ [])
    → All (λ (span : Span). span.pv ≡ count) more → AreAreasOf (image count) (get_or sizes count 0) areas
    → length more ≤ 1 + 3 * length areas → AreFewReads image sizes (first ++ more)
few_of_both image sizes count first more areas few none own are bound pv = of (same_or_not pv count) where
  of : (pv ≡ count) ⊎ (pv ≢ count) → FewOn image sizes (first ++ more) pv
  of (inl same) =
      let here : spans_on pv (first ++ more) ≡ spans_on pv more =
      on_both pv first more ∙ ap (λ (l : List Span). l ++ spans_on pv more) (none pv (omega (arith, same))) in
      let fewer : length (spans_on pv more) ≤ length more = no_more pv more in
      (areas, subst (λ (n : ℕ). AreAreasOf (image n) (get_or sizes n 0) areas) (sym same) are, omega (arith, ap length here, fewer, bound))
  of (inr other) =
      let here : spans_on pv (first ++ more) ≡ spans_on pv first =
      on_both pv first more ∙ ap (λ (l : List Span). spans_on pv first ++ l) (none_on pv count more own other)
      ∙ append-nil (spans_on pv first)
      in
      ((few pv).0, (few pv).1, omega (arith, ap length here, (few pv).2))

none_of_both : (count : ℕ) (first more : List Span) → ((pv : ℕ) → count ≤ pv → spans_on pv first ≡ [])
    → All (λ (span : Span). span.pv ≡ count) more → (pv : ℕ) → count + 1 ≤ pv → spans_on pv (first ++ more) ≡ []
none_of_both count first more none own pv above =
    on_both pv first more ∙ ap (λ (l : List Span). l ++ spans_on pv more) (none pv (omega arith))
    ∙ none_on pv count more own (λ same. absurd (omega (arith, same, above)))

more_reads : (count : ℕ) (sizes : List ℕ) (old mid new : Record) → ReadsFewBelow count sizes old mid
    → ReadsDisk count (get_or sizes count 0) mid new → ReadsFewBelow (count + 1) sizes old new
more_reads count sizes old mid new a b =
    let first : List Span = spans_read a.since in
    let more : List Span = spans_read b.since in
    let both : OnlyReads old (first ++ more) new =
    reads_both first more old mid new (only_below count sizes old mid a) (only_disk count (get_or sizes count 0) mid new b) in
    let same : now_after mid.opened mid.steps ≡ now_after old.opened old.steps =
    same_now old mid first (only_below count sizes old mid a) in
    let are : AreAreasOf (now_after old.opened old.steps count) (get_or sizes count 0) b.areas =
    subst (λ (image : Image). AreAreasOf (image count) (get_or sizes count 0) b.areas) same b.are in
    record {
      since = both.since;
      steps = both.steps;
      reads = both.reads;
      few =
          subst (λ (l : List Span). AreFewReads (now_after old.opened old.steps) sizes l) (sym both.spans_are)
          (few_of_both (now_after old.opened old.steps) sizes count first more b.areas a.few a.none_above b.own are b.few);
      none_above = λ pv above. ap (spans_on pv) both.spans_are ∙ none_of_both count first more a.none_above b.own pv above;
    }

-- the disks so far, and then this one
pub more_told : (count : ℕ) (sizes : List ℕ) (s0 s1 s2 : Option Record) → BetweenRecords (ReadsFewBelow count sizes) s0 s1
    → BetweenRecords (ReadsDisk count (get_or sizes count 0)) s1 s2 → BetweenRecords (ReadsFewBelow (count + 1) sizes) s0 s2
more_told count sizes s0 s1 s2 a b =
    between_both (ReadsFewBelow count sizes) (ReadsDisk count (get_or sizes count 0)) (ReadsFewBelow (count + 1) sizes) s0 s1 s2
    (more_reads count sizes) a b

pub few_told : (count : ℕ) (sizes : List ℕ) (s0 s1 : Option Record) → BetweenRecords (ReadsFewBelow count sizes) s0 s1
    → BetweenRecords (ReadsFew sizes) s0 s1
few_told count sizes s0 s1 a =
    between_weaker (ReadsFewBelow count sizes) (ReadsFew sizes) s0 s1
    (λ old new r. record { since = r.since; steps = r.steps; reads = r.reads; few = r.few }) a

-- ---- what the disks hold

holds_more : (count : ℕ) (sizes : List ℕ) (s0 s1 : Option Record) (P R : Image → Type 0) (Q : (ℕ → List ℕ) → Type 0)
    → BetweenRecords (ReadsFewBelow count sizes) s0 s1
    → ((image : Image) → P image → Q (image count) → R image) → HoldsNow s0 P → HoldsOfDisk s1 count Q → HoldsNow s0 R
holds_more count sizes None s1 P R Q reads make p q = tt
holds_more count sizes (Some old) s1 P R Q reads make p q =
    let f = reads old refl in
    let here : HoldsOfDisk (Some f.0) count Q = subst (λ (o : Option Record). HoldsOfDisk o count Q) f.1 q in
    make (now_after old.opened old.steps) p (subst (λ (image : Image). Q (image count))
    (same_now old f.0 (spans_read f.2.since) (only_below count sizes old f.0 f.2)) here)

-- a set with one number more, or as it was, has the same below that number
abbrev with_unread : set.FinSet nat_cmp → ℕ → Option PvFound → set.FinSet nat_cmp
with_unread unread pv contents = cond (is_none contents) (set.insert unread pv) unread

inserted : (unread : set.FinSet nat_cmp) (pv q : ℕ) → set.contains (set.insert unread pv) q ≡ (eqb q pv || set.contains unread q)
inserted unread pv q = set.contains-insert nat_cmp_total unread pv q ∙ ap (λ (t : Bool). t || set.contains unread q) (unsigned_tied q pv)

same_apart : (unread : set.FinSet nat_cmp) (pv : ℕ) (contents : Option PvFound) (q : ℕ) → q ≢ pv
    → set.contains (with_unread unread pv contents) q ≡ set.contains unread q
same_apart unread pv None q other =
    let apart : eqb q pv ≡ false = grind (arith, nat_tests) in
    inserted unread pv q ∙ ap (λ (t : Bool). t || set.contains unread q) apart
same_apart unread pv (Some contents) q other = refl

-- this disk is in it exactly where nothing is known of it
unread_here : (unread : set.FinSet nat_cmp) (pv : ℕ) (contents : Option PvFound) → set.contains unread pv ≡ false
    → set.contains (with_unread unread pv contents) pv ≡ is_none contents
unread_here unread pv None absent = inserted unread pv pv ∙ ap (λ (t : Bool). t || set.contains unread pv) (eq-eqb pv pv refl)
unread_here unread pv (Some contents) absent = absent

none_exactly : (contents : Option PvFound) (b : Bool) → b ≡ is_none contents → (contents ≡ None → b ≡ true) × (b ≡ true → contents ≡ None)
none_exactly None b is = (λ none. is, λ there. refl)
none_exactly (Some contents) b is = (λ none. absurd cc, λ there. absurd (false≢true (sym is ∙ there)))

absent_here : (unread : set.FinSet nat_cmp) (pv : ℕ) → ((q : ℕ) → set.contains unread q ≡ true → q < pv) → (b : Bool)
    → set.contains unread pv ≡ b → b ≡ false
absent_here unread pv below true is = absurd (omega (arith, below pv is))
absent_here unread pv below false is = refl

kept_readings : (image : Image) (unread more : set.FinSet nat_cmp) (n count : ℕ) (disks : List Disk) (readings : List Reading)
    → ((q : ℕ) → q < count → set.contains more q ≡ set.contains unread q) → n + length disks ≤ count
    → AreDiskReadings image unread n disks readings → AreDiskReadings image more n disks readings
kept_readings image unread more n count [] [] same within are = tt
kept_readings image unread more n count [] (r ∷ readings) same within are = absurd are
kept_readings image unread more n count (d ∷ disks) [] same within are = absurd are
kept_readings image unread more n count (d ∷ disks) (r ∷ readings) same within are = (
  (λ none. same n (omega arith) ∙ are.0.0 none, λ there. are.0.1 (sym (same n (omega arith)) ∙ there)),
  are.1,
  kept_readings image unread more (n + 1) count disks readings same (omega arith) are.2,
)

push_reading : (image : Image) (unread : set.FinSet nat_cmp) (n count : ℕ) (disks : List Disk) (readings : List Reading) (disk : Disk)
    (reading : Reading) → n + length disks ≡ count → AreDiskReadings image unread n disks readings
    → IsUnread unread count disk → IsDiskReading count (image count) disk reading
    → AreDiskReadings image unread n (disks ++ disk ∷ []) (readings ++ reading ∷ [])
push_reading image unread n count [] [] disk reading at are unread_is is =
    let same : count ≡ n = omega arith in
    (subst (λ (m : ℕ). IsUnread unread m disk) same unread_is, subst (λ (m : ℕ). IsDiskReading m (image m) disk reading) same is, tt)
push_reading image unread n count [] (r ∷ readings) disk reading at are unread_is is = absurd are
push_reading image unread n count (d ∷ disks) [] disk reading at are unread_is is = absurd are
push_reading image unread n count (d ∷ disks) (r ∷ readings) disk reading at are unread_is is =
    (are.0, are.1, push_reading image unread (n + 1) count disks readings disk reading (omega arith) are.2 unread_is is)

push_header : (disks : List Disk) (readings : List Reading) (disk : Disk) (reading : Reading) → SameHeaders (shapes disks) readings
    → SameHeaders (shapes (disk ∷ [])) (reading ∷ [])
    → SameHeaders (shapes (disks ++ disk ∷ [])) (readings ++ reading ∷ [])
push_header [] [] disk reading same last = last
push_header [] (r ∷ readings) disk reading same last = absurd same
push_header (d ∷ disks) [] disk reading same last = absurd same
push_header (d ∷ disks) (r ∷ readings) disk reading same last = (same.0, same.1, push_header disks readings disk reading same.2 last)

-- the disk at a place of one disk more: an earlier one, or the last
at_push : (disks : List Disk) (disk : Disk) (pv : ℕ) (found : Disk) → slice_get (disks ++ disk ∷ []) pv ≡ Some found
    → (slice_get disks pv ≡ Some found) ⊎ ((pv ≡ length disks) × (disk ≡ found))
at_push [] disk zero found is = inr (refl, same_Some disk found is)
at_push [] disk (suc pv) found is = absurd cc
at_push (d ∷ disks) disk zero found is = inl is
at_push (d ∷ disks) disk (suc pv) found is =
    elim (at_push disks disk pv found is) [ inl earlier ↦ inl earlier | inr last ↦ inr (ap suc last.0, last.1) ]

shapes_more : (count : ℕ) (disks : List Disk) (unread : set.FinSet nat_cmp) (readings : List Reading) (disk : Disk) (reading : Reading)
    → length disks ≡ count → HaveShapes disks unread readings
    → IsDisk count disk → SameHeaders (shapes (disk ∷ [])) (reading ∷ [])
    → HaveShapes (disks ++ disk ∷ []) (unread_with unread count disk) (readings ++ reading ∷ [])
shapes_more count disks unread readings disk reading at have stands same =
    let more : set.FinSet nat_cmp = unread_with unread count disk in
    let absent : set.contains unread count ≡ false =
    absent_here unread count (λ q there. let below : q < length disks = have.below q there in omega (arith, below, at))
    (set.contains unread count) refl
    in
    let length_is : length (disks ++ disk ∷ []) ≡ count + 1 = length-append disks (disk ∷ []) ∙ omega arith in
    let exactly = none_exactly disk.contents (set.contains more count) (unread_here unread count disk.contents absent) in
    record {
      each = λ pv found there.
          elim (at_push disks disk pv found there) [
            | inl earlier ↦
                let within : pv < length disks = slice_get_within disks pv found earlier in
                let before = have.each pv found earlier in
                let kept : set.contains more pv ≡ set.contains unread pv =
                same_apart unread count disk.contents pv (λ q. absurd (omega (arith, within, at, q))) in
                (before.0, (λ none. kept ∙ before.1.0 none, λ is. before.1.1 (sym kept ∙ is)))
            | inr last ↦
                let here : pv ≡ count = last.0 ∙ at in
                subst (λ (d : Disk). IsDisk pv d × IsUnread more pv d) last.1
                (subst (λ (n : ℕ). IsDisk n disk × IsUnread more n disk) (sym here) (stands, exactly))
          ];
      below = λ q there.
          elim (same_or_not q count) [
            | inl same_number ↦ omega (arith, same_number, length_is)
            | inr other ↦
                let within : q < length disks = have.below q (sym (same_apart unread count disk.contents q other) ∙ there) in
                omega (arith, within, at, length_is)
          ];
      headers = push_header disks readings disk reading have.headers same;
    }

-- ---- the faults

faults_more : (count : ℕ) (unread : set.FinSet nat_cmp) (contents : Option PvFound) (s0 s1 s2 : State) → set.contains unread count ≡ false
    → FailedOn unread s0 s1 → HasFaultsOf count contents s1 s2 → FailedOn (with_unread unread count contents) s0 s2
faults_more count unread None s0 s1 s2 absent before here =
    let same_here : s1.faults count ≡ s0.faults count = before.same count absent in
    record {
      rose = λ q there.
          elim (same_or_not q count) [
            | inl same ↦ subst (λ (n : ℕ). s0.faults n < s2.faults n) (sym same) (omega (arith, here.0, same_here))
            | inr other ↦
                let rose : s0.faults q < s1.faults q = before.rose q (sym (same_apart unread count None q other) ∙ there) in
                omega (arith, rose, here.1 q other)
          ];
      same = λ q away.
          elim (same_or_not q count) [
            | inl same ↦ absurd (false≢true (sym away ∙ ap (set.contains (set.insert unread count)) same
                ∙ unread_here unread count None absent))
            | inr other ↦ here.1 q other ∙ before.same q (sym (same_apart unread count None q other) ∙ away)
          ];
    }
faults_more count unread (Some contents) s0 s1 s2 absent before here = record {
  rose = λ q there. let rose : s0.faults q < s1.faults q = before.rose q there in omega (arith, rose, here q);
  same = λ q away. here q ∙ before.same q away;
}

-- ---- all of it

scanned_more : (count : ℕ) (disks : List Disk) (unread : set.FinSet nat_cmp) (readings after : List Reading) (disk : Disk)
    (s0 s1 s2 : State) → AreScanned s0 count disks unread readings s1 → (d : IsScannedDisk count s1 readings disk after s2)
    → BetweenRecords (ReadsDisk count (get_or s0.sizes count 0)) s1.told s2.told → s1.sizes ≡ s0.sizes → count < length s0.sizes
    → 8 ≤ get_or s0.sizes count 0 → get_or s0.sizes count 0 ≤ 2 ^ 40
    → AreScanned s0 (count + 1) (disks ++ disk ∷ []) (unread_with unread count disk) (readings ++ d.reading ∷ []) s2
scanned_more count disks unread readings after disk s0 s1 s2 so_far d reads sizes_are within least most =
    let size : disk.sectors ≡ get_or s0.sizes count 0 = d.sectors ∙ ap (λ (l : List ℕ). get_or l count 0) sizes_are in
    let stands : IsDisk count disk =
    record { least = omega (arith, size, least); most = subst (λ (n : ℕ). n ≤ 2 ^ 40) (sym size) most; contents = d.stands } in
    let absent : set.contains unread count ≡ false =
    absent_here unread count (λ q there. let below : q
    < length disks = so_far.shape.below q there in omega (arith, below, so_far.disk_count)) (set.contains unread count) refl
    in
    record {
      disk_count = length-append disks (disk ∷ []) ∙ omega (arith, so_far.disk_count);
      reading_count = length-append readings (d.reading ∷ []) ∙ omega (arith, so_far.reading_count);
      sizes =
          map-append (λ (x : Disk). x.sectors) disks (disk ∷ [])
          ∙ ap (λ (l : List ℕ). l ++ disk.sectors ∷ []) so_far.sizes
          ∙ ap (λ (n : ℕ). take count s0.sizes ++ n ∷ []) size
          ∙ sym (take_more s0.sizes count 0 within);
      now =
          holds_more count s0.sizes s0.told s1.told (λ image. AreDiskReadings image unread 0 disks readings)
          (λ image. AreDiskReadings image (unread_with unread count disk) 0 (disks ++ disk ∷ []) (readings ++ d.reading ∷ []))
          (λ sector_at. IsDiskReading count sector_at disk d.reading) so_far.reads
          (λ image are is.
          push_reading image (unread_with unread count disk) 0 count disks readings disk d.reading (omega (arith, so_far.disk_count))
          (kept_readings image unread (unread_with unread count disk) 0 count disks readings
          (λ q below. same_apart unread count disk.contents q (λ same. absurd (omega (arith, below, same))))
          (omega (arith, so_far.disk_count)) are)
          (none_exactly disk.contents (set.contains (unread_with unread count disk) count) (unread_here unread count disk.contents absent))
          is)
          so_far.now d.now;
      shape = shapes_more count disks unread readings disk d.reading so_far.disk_count so_far.shape stands (d.same_sectors, d.same_pv, tt);
      faults = faults_more count unread disk.contents s0 s1 s2 absent so_far.faults d.faults;
      reads = more_told count s0.sizes s0.told s1.told s2.told so_far.reads reads;
    }

of_size : (count : ℕ) (s0 s1 s2 : State) → s1.sizes ≡ s0.sizes → BetweenRecords (ReadsDisk count (get_or s1.sizes count 0)) s1.told s2.told
    → BetweenRecords (ReadsDisk count (get_or s0.sizes count 0)) s1.told s2.told
of_size count s0 s1 s2 sizes_are reads =
    subst (λ (l : List ℕ). BetweenRecords (ReadsDisk count (get_or l count 0)) s1.told s2.told) sizes_are reads

pub next_scanned : (count : ℕ) (disks more : List Disk) (unread unread_more : set.FinSet nat_cmp) (readings after : List Reading)
    (disk : Disk) (s0 s1 s2 : State) → AreScanned s0 count disks unread readings s1
    → IsScannedDisk count s1 readings disk after s2 → BetweenRecords (ReadsDisk count (get_or s1.sizes count 0)) s1.told s2.told
    → s1.sizes ≡ s0.sizes → count < length s0.sizes → 8 ≤ get_or s0.sizes count 0
    → get_or s0.sizes count 0 ≤ 2 ^ 40 → more ≡ disks ++ disk ∷ [] → unread_more ≡ unread_with unread count disk
    → AreScanned s0 (count + 1) more unread_more after s2
next_scanned count disks more unread unread_more readings after disk s0 s1 s2 so_far d reads sizes_are within least most pushed named =
    subst (λ (l : List Disk). AreScanned s0 (count + 1) l unread_more after s2) (sym pushed)
    (subst (λ (s : set.FinSet nat_cmp). AreScanned s0 (count + 1) (disks ++ disk ∷ []) s after s2) (sym named)
    (subst (λ (l : List Reading). AreScanned s0 (count + 1) (disks ++ disk ∷ []) (unread_with unread count disk) l s2) (sym d.pushed)
    (scanned_more count disks unread readings after disk s0 s1 s2 so_far d (of_size count s0 s1 s2 sizes_are reads) sizes_are within least
    most)))

-- the reads where going on was impossible
pub reads_stopped : (count : ℕ) (disks : List Disk) (unread : set.FinSet nat_cmp) (readings : List Reading) (s0 s1 s2 : State)
    → AreScanned s0 count disks unread readings s1 → s1.sizes ≡ s0.sizes
    → BetweenRecords (ReadsDisk count (get_or s1.sizes count 0)) s1.told s2.told → BetweenRecords (ReadsFew s0.sizes) s0.told s2.told
reads_stopped count disks unread readings s0 s1 s2 so_far sizes_are reads =
    few_told (count + 1) s0.sizes s0.told s2.told
    (more_told count s0.sizes s0.told s1.told s2.told so_far.reads (of_size count s0 s1 s2 sizes_are reads))

-- before the first disk
pub none_scanned : (disks : List Disk) (unread : set.FinSet nat_cmp) (readings : List Reading) (s : State) → disks ≡ [] → unread ≡ set.empty
    → readings ≡ [] → AreScanned s 0 disks unread readings s
none_scanned disks unread readings s no_disks no_unread no_readings =
    subst (λ (l : List Disk). AreScanned s 0 l unread readings s) (sym no_disks)
    (subst (λ (p : set.FinSet nat_cmp). AreScanned s 0 [] p readings s) (sym no_unread)
    (subst (λ (l : List Reading). AreScanned s 0 [] set.empty l s) (sym no_readings) (record {
      disk_count = refl;
      reading_count = refl;
      sizes = refl;
      now = always s.told;
      shape = record {
        each = λ pv disk there. absurd cc;
        below = λ pv there. absurd (false≢true (sym (set.contains-empty nat_cmp pv) ∙ there));
        headers = tt;
      };
      faults = record { rose = λ pv there. absurd (false≢true (sym (set.contains-empty nat_cmp pv) ∙ there)); same = λ pv away. refl };
      reads =
          between_same (ReadsFewBelow 0 s.sizes) s.told s.told refl
          (λ old. record {
            since = [];
            steps = refl;
            reads = tt;
            few = λ pv. ([], inl refl, omega arith);
            none_above = λ pv above. refl;
          });
    })))
  where
    always : (told : Option Record) → HoldsNow told (λ image. AreDiskReadings image set.empty 0 [] [])
    always None = tt
    always (Some t) = tt
