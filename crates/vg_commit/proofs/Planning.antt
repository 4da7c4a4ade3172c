-- The plan of a commit, area by area, and what is prepared from it.
use Rattle.std.proofs.Common.{◌≡◌, ◌≤◌, ◌<◌, ℕ, ◌+◌, ◌-◌, ◌*◌, ◌/◌, ◌^◌, min, Bool, true, false, cond, nat_lt, List, [], ◌∷◌, ◌++◌, length}
use Rattle.std.proofs.Common.{take, drop, flat_map, map, get_or, Option, None, Some, IfSome, refl, sym, ap, subst, subst₂, ◌∙◌, arith}
use Rattle.std.specs.Prelude.{All, IfErr, IfOk, MatchResult, Result, Ok, Err}
use Rattle.std.specs.Ordering.{nat_cmp}
use Rattle.std.specs.FinSet.{FinSet}
use Rattle.std.proofs.lemmas.Bool.{cond-false, le-ltb, ltb-true}
use Rattle.std.proofs.lemmas.List.{append-nil, get_or-map, get_or_default, length-drop, length-map, map-append, map_push, take-append-drop}
use Rattle.std.proofs.lemmas.List.{take_all}
use Rattle.std.proofs.lemmas.List.{take_more}
use Rattle.std.proofs.lemmas.List.Concat.{flat_map-append}
use Rattle.std.proofs.lemmas.List.Elements.{All-append, All-cons, All-head, All-map, All-nil, All-push, All-tail}
use Rattle.std.proofs.lemmas.List.FromFn.{length-map-range_with_len}
use Rattle.sector_base.specs.Checksum.{checksum, lvm_crc_start}
use Rattle.sector_base.specs.declared.spans.Span.{Span}
use Rattle.disk_model.specs.Operations.{IsWithin}
use Rattle.disk_batch.specs.Blocks.{in_blocks}
use Rattle.disk_batch.specs.Parts.{IsPartOf, IsSmall, part_put}
use Rattle.disk_batch.specs.Writes.{LieIn, disks_in}
use Rattle.mda_header.specs.declared.header.Locn.{Locn}
use Rattle.mda_header.specs.Header.{IsHeader, IsInside}
use Rattle.mda_header.specs.HeaderBytes.{CanBeRead, IsNoneOrInside, header_bytes}
use Rattle.mda_ring.specs.declared.area.Area.{Area}
use Rattle.mda_ring.specs.declared.place.Place.{Place}
use Rattle.mda_ring.specs.Areas.{CanTake, IsArea, LieApart}
use Rattle.mda_ring.specs.NextPlace.{IsNext}
use Rattle.mda_ring.specs.Ring.{need, next_offset, room, touched_count}
use Rattle.mda_ring.specs.RingSpans.{ring_spans, sectors_to_end, span_of_area}
use Rattle.mda_ring.specs.Texts.{text_sector, text_sectors}
use Rattle.vg_commit.specs.declared.plan.Plan.{Plan}
use Rattle.vg_commit.specs.declared.prepared.Prepared.{Prepared}
use Rattle.vg_commit.specs.declared.refusal.CommitRefusal.{CommitRefusal}
use Rattle.vg_commit.specs.declared.refusal.CommitRefusal.TheVariants.{NoMemory, TooLarge}
use Rattle.vg_commit.specs.Written.{area_span, area_writes, header_after, header_before, header_of, header_span, headers_of, new_entry}
use Rattle.vg_commit.specs.Written.{publish_of, rest_put, stored, text_puts, whole_texts, with_entries}
use Rattle.vg_commit.specs.TooLarge.{IsCause, first_too_large}
use Rattle.vg_commit.specs.Plans.{Adds, HeadersRead, IsPlan, parts_on, rest_part, text_parts}
use Rattle.vg_commit.specs.Preparing.{AreCommitted, AreWithin, CanStart, HasBatches, IsOnDiskOf, IsPrepared, area_disks}
use Rattle.vg_commit.proofs.AreaPuts.{IsPlaced, entry_inside, is_placed}
use Rattle.vg_commit.proofs.AreasCommit.{rooms}
use Rattle.vg_commit.proofs.Disks.{area_disks_too}
use Rattle.vg_commit.proofs.Lying.{headers_lie, headers_some, publish_lie, publish_some, texts_lie, texts_some}

if_inside : (size : ℕ) (committed : Option Locn) → IsNoneOrInside size committed → IfSome committed (IsInside size)
if_inside size None h = tt
if_inside size (Some locn) h = h

-- one area's writes
pub adds_area : (text : List ℕ) (area : Area) (committed : Option Locn) (place : Place) (count sum : ℕ) (old new : Plan) (bytes : List ℕ)
    → bytes ≡ text → count ≡ length bytes + 1 → IsNext area.size committed count place → sum ≡ checksum lvm_crc_start (stored text)
    → new.text ≡ old.text → new.texts.items ≡ old.texts.items ++ parts_on (ring_spans area place.offset count)
    → new.headers.items ≡ old.headers.items ++ (
      header_span area,
      header_bytes (header_of area committed (Some (record { offset = place.offset; size = count; sum = sum }))) ∷ [],
    ) ∷ []
    → new.publish.items ≡ old.publish.items ++ (
      header_span area,
      header_bytes (header_of area (Some (record { offset = place.offset; size = count; sum = sum })) None) ∷ [],
    ) ∷ []
    → new.areas.items ≡ old.areas.items ++ (area, Some (record { offset = place.offset; size = count; sum = sum })) ∷ []
    → (CanBeRead (header_of area committed (Some (record { offset = place.offset; size = count; sum = sum })))
    → IsHeader (header_bytes (header_of area committed (Some (record { offset = place.offset; size = count; sum = sum }))))
    (header_of area committed (Some (record { offset = place.offset; size = count; sum = sum }))))
    → (CanBeRead (header_of area (Some (record { offset = place.offset; size = count; sum = sum })) None)
    → IsHeader (header_bytes (header_of area (Some (record { offset = place.offset; size = count; sum = sum })) None))
    (header_of area (Some (record { offset = place.offset; size = count; sum = sum })) None))
    → IsArea area → IsNoneOrInside area.size committed → Adds text (area, committed) old new
adds_area text area committed place count sum old new bytes bytes_eq count_is next sum_is kept texts headers publish entries read_before
    read_after good inside =
    let long : count ≡ length text + 1 = count_is ∙ ap (λ (l : List ℕ). length l + 1) bytes_eq in
    let entry : Locn = record { offset = place.offset; size = count; sum = sum } in
    let same : entry ≡ new_entry text (area, committed) =
    ap (λ (o : ℕ). record { offset = o; size = count; sum = sum }) next.offset_is
    ∙ ap (λ (n : ℕ). record { offset = next_offset area.size committed; size = n; sum = sum }) long
    ∙ ap (λ (s : ℕ). record { offset = next_offset area.size committed; size = length text + 1; sum = s }) sum_is
    in
    let has_room : need (length text + 1) ≤ room area.size committed =
    subst (λ (n : ℕ). need n ≤ room area.size committed) long next.has_room in
    let in_area : IsInside area.size (new_entry text (area, committed)) =
    (entry_inside text (area, committed) (is_placed text (area, committed) (good, if_inside area.size committed inside) has_room)).0 in
    record {
      sectors = kept;
      texts =
          texts ∙ ap (λ (o : ℕ). old.texts.items ++ parts_on (ring_spans area o count)) next.offset_is
          ∙ ap (λ (n : ℕ). old.texts.items ++ parts_on (ring_spans area (next_offset area.size committed) n)) long;
      headers =
          headers ∙ ap (λ (e : Locn). old.headers.items ++ (header_span area, header_bytes (header_of area committed (Some e)) ∷ []) ∷ [])
          same;
      publish =
          publish ∙ ap (λ (e : Locn). old.publish.items ++ (header_span area, header_bytes (header_of area (Some e) None) ∷ []) ∷ []) same;
      entries = entries ∙ ap (λ (e : Locn). old.areas.items ++ (area, Some e) ∷ []) same;
      room =
          cond-false (nat_lt (room area.size committed) (need (length text + 1))) _ _
          (le-ltb (room area.size committed) (need (length text + 1)) has_room);
      read = record {
        before =
            subst (λ (e : Locn). IsHeader (header_bytes (header_of area committed (Some e))) (header_of area committed (Some e))) same
            (read_before (record { committed = inside; precommitted = subst (IsInside area.size) (sym same) in_area }));
        after =
            subst (λ (e : Locn). IsHeader (header_bytes (header_of area (Some e) None)) (header_of area (Some e) None)) same
            (read_after (record { committed = subst (IsInside area.size) (sym same) in_area; precommitted = tt }));
      };
    }

-- one area more in each list
module _ (text : List ℕ) (a : Area × Option Locn) where
  parts_push : (areas : List (Area × Option Locn))
      → flat_map (text_parts text) (areas ++ a ∷ []) ≡ flat_map (text_parts text) areas ++ text_parts text a
  parts_push areas =
      flat_map-append (text_parts text) areas (a ∷ [])
      ∙ ap (λ (l : List (Span × ℕ)). flat_map (text_parts text) areas ++ l) (append-nil (text_parts text a))

  headers_push : (areas : List (Area × Option Locn))
      → headers_of (map (area_writes text) (areas ++ a ∷ []))
      ≡ headers_of (map (area_writes text) areas) ++ (header_span a.0, header_bytes (header_before text a) ∷ []) ∷ []
  headers_push [] = refl
  headers_push (b ∷ areas) =
      ap (λ (l : List (Span × List (List ℕ))). (header_span b.0, header_bytes (header_before text b) ∷ []) ∷ l) (headers_push areas)

  publish_push : (areas : List (Area × Option Locn))
      → publish_of (map (area_writes text) (areas ++ a ∷ []))
      ≡ publish_of (map (area_writes text) areas) ++ (header_span a.0, header_bytes (header_after text a) ∷ []) ∷ []
  publish_push [] = refl
  publish_push (b ∷ areas) =
      ap (λ (l : List (Span × List (List ℕ))). (header_span b.0, header_bytes (header_after text b) ∷ []) ∷ l) (publish_push areas)

  -- the first that is too large
  first_push : (areas : List (Area × Option Locn)) → first_too_large text areas ≡ None
      → first_too_large text (areas ++ a ∷ []) ≡ first_too_large text (a ∷ [])
  first_push [] none = refl
  first_push (b ∷ areas) none = step (λ rest. first_push areas rest) (nat_lt (room b.0.size b.1) (need (length text + 1))) none
    where
      step : (first_too_large text areas ≡ None → first_too_large text (areas ++ a ∷ []) ≡ first_too_large text (a ∷ [])) → (c : Bool)
          → cond c (Some (need (length text + 1), room b.0.size b.1)) (first_too_large text areas) ≡ None
          → cond c (Some (need (length text + 1), room b.0.size b.1)) (first_too_large text (areas ++ a ∷ []))
          ≡ first_too_large text (a ∷ [])
      step rest true h = cc
      step rest false h = rest h

  first_found : (areas more : List (Area × Option Locn)) (found : ℕ × ℕ) → first_too_large text areas ≡ Some found
      → first_too_large text (areas ++ more) ≡ Some found
  first_found [] more found is = cc
  first_found (b ∷ areas) more found is =
      step (λ rest. first_found areas more found rest) (nat_lt (room b.0.size b.1) (need (length text + 1))) is
    where
      step : (first_too_large text areas ≡ Some found → first_too_large text (areas ++ more) ≡ Some found) → (c : Bool)
          → cond c (Some (need (length text + 1), room b.0.size b.1)) (first_too_large text areas) ≡ Some found
          → cond c (Some (need (length text + 1), room b.0.size b.1)) (first_too_large text (areas ++ more)) ≡ Some found
      step rest true h = h
      step rest false h = rest h

  plan_push : (areas : List (Area × Option Locn)) (old new : Plan) → IsPlan text areas old → Adds text a old new
      → IsPlan text (areas ++ a ∷ []) new
  plan_push areas old new plan adds = record {
    sectors = adds.sectors ∙ plan.sectors;
    texts = adds.texts ∙ ap (λ (l : List (Span × ℕ)). l ++ text_parts text a) plan.texts ∙ sym (parts_push areas);
    headers =
        adds.headers ∙ ap (λ (l : List (Span × List (List ℕ))). l ++ (header_span a.0, header_bytes (header_before text a) ∷ []) ∷ [])
        plan.headers ∙ sym (headers_push areas);
    publish =
        adds.publish ∙ ap (λ (l : List (Span × List (List ℕ))). l ++ (header_span a.0, header_bytes (header_after text a) ∷ []) ∷ [])
        plan.publish ∙ sym (publish_push areas);
    entries =
        adds.entries ∙ ap (λ (l : List (Area × Option Locn)). l ++ (a.0, Some (new_entry text a)) ∷ []) plan.entries
        ∙ sym (map_push (λ (b : Area × Option Locn). (b.0, Some (new_entry text b))) areas a);
    room = first_push areas plan.room ∙ adds.room;
    read = All-push (HeadersRead text) areas a plan.read adds.read;
  }

-- no area yet
pub plan_none : (text : List ℕ) (areas : List (Area × Option Locn)) (plan : Plan) → plan.text ≡ text_sectors text (need (length text + 1))
    → plan.texts.items ≡ [] → plan.headers.items ≡ [] → plan.publish.items ≡ [] → plan.areas.items ≡ [] → IsPlan text (take 0 areas) plan
plan_none text areas plan e a b c d =
    record { sectors = e; texts = a; headers = b; publish = c; entries = d; room = refl; read = All-nil (HeadersRead text) }

-- the next area of a loop
pub plan_on : (text : List ℕ) (areas : List (Area × Option Locn)) (i : ℕ) (a : Area × Option Locn) (old new : Plan) → i < length areas
    → a ≡ get_or areas i a → IsPlan text (take i areas) old → Adds text a old new → IsPlan text (take (i + 1) areas) new
plan_on text areas i a old new within is plan adds =
    subst (λ (l : List (Area × Option Locn)). IsPlan text l new)
    (sym (take_more areas i a within ∙ ap (λ (b : Area × Option Locn). take i areas ++ b ∷ []) (sym is)))
    (plan_push text a (take i areas) old new plan adds)

-- all of them
pub plan_all : (text : List ℕ) (areas : List (Area × Option Locn)) (i : ℕ) (plan : Plan) → length areas ≤ i
    → IsPlan text (take i areas) plan → IsPlan text areas plan
plan_all text areas i plan past h = subst (λ (l : List (Area × Option Locn)). IsPlan text l plan) (take_all i areas past) h

-- the area that can't take the text is the first one
pub cause_on : (text : List ℕ) (areas : List (Area × Option Locn)) (i : ℕ) (a : Area × Option Locn) (plan : Plan) (refusal : CommitRefusal)
    → i < length areas → a ≡ get_or areas i a → IsPlan text (take i areas) plan → IsCause text (a ∷ []) refusal → IsCause text areas refusal
cause_on text areas i a plan NoMemory within is done cause = tt
cause_on text areas i a plan (TooLarge n r) within is done cause =
    let front : first_too_large text (take (i + 1) areas) ≡ Some (n, r) =
    ap (first_too_large text) (take_more areas i a within ∙ ap (λ (b : Area × Option Locn). take i areas ++ b ∷ []) (sym is))
    ∙ first_push text a (take i areas) done.room ∙ cause
    in
    ap (first_too_large text) (sym (take-append-drop (i + 1) areas))
    ∙ first_found text a (take (i + 1) areas) (drop (i + 1) areas) (n, r) front

-- disks are small
pub small_disks : (areas : List (Area × Option Locn)) (flush : FinSet nat_cmp) → AreCommitted areas flush
    → All (λ (a : Area × Option Locn). a.0.pv < 64) areas
small_disks areas flush committed k d within = (committed.on_disks k d within).0

-- a next text can be committed to the areas with their new entries
again : (text : List ℕ) (areas : List (Area × Option Locn)) (flush : FinSet nat_cmp) → AreCommitted areas flush
    → first_too_large text areas ≡ None → AreCommitted (with_entries text areas) flush
again text areas flush committed room_is =
    let f : Area × Option Locn → Area × Option Locn = λ a. (a.0, Some (new_entry text a)) in
    record {
      some = omega (arith, committed.some, length-map areas f);
      take = All-map CanTake f areas
          (λ k d within. (
            (committed.take k d within).0,
            (entry_inside text (get_or areas k d) (is_placed text (get_or areas k d) (committed.take k d within)
                (rooms text areas room_is k d within))).0,
          ));
      apart = λ i j d below within.
          let in_j : j < length areas = omega (arith, within, length-map areas f) in
          subst₂ LieApart (sym (get_or-map f areas i d d (omega (arith, in_j, below)))) (sym (get_or-map f areas j d d in_j))
          (committed.apart i j d below in_j);
      on_disks = All-map (IsOnDiskOf flush) f areas committed.on_disks;
    }

within_again : (sizes text : List ℕ) (areas : List (Area × Option Locn)) (flush : FinSet nat_cmp) → AreWithin sizes areas flush
    → AreWithin sizes (with_entries text areas) flush
within_again sizes text areas flush inside = record {
  areas_lie =
      All-map (λ (a : Area × Option Locn). IsWithin sizes (area_span a.0)) (λ (a : Area × Option Locn). (a.0, Some (new_entry text a)))
      areas inside.areas_lie;
  disks_are = inside.disks_are;
}

-- ---- the parts of the text are its writes

module _ (text : List ℕ) where
  abbrev total : ℕ
  total = need (length text + 1)

  abbrev sectors : List (List ℕ)
  sectors = text_sectors text total

  long : length sectors ≡ total
  long = length-map-range_with_len (text_sector text) 0 total

  module _ (a : Area × Option Locn) (placed : IsPlaced text a) where
    abbrev offset : ℕ
    offset = next_offset a.0.size a.1

    abbrev all : ℕ
    all = touched_count a.0.size offset (length text + 1)

    abbrev to_end : ℕ
    to_end = sectors_to_end a.0.size offset

    abbrev second : Span
    second = span_of_area a.0 1 (all - to_end)

    rest_writes : (b : Bool) → nat_lt to_end all ≡ b
        → map (part_put sectors) (rest_part (cond b (Some second) None) (min all to_end))
        ≡ rest_put (cond b (Some second) None) (drop (min all to_end) sectors)
    rest_writes true round =
        let past : to_end < all = ltb-true to_end all round in
        let same : all ≡ total = placed.touched in
        ap (λ (l : List (List ℕ)). (second, l) ∷ [])
        (take_all (all - to_end) (drop (min all to_end) sectors) (omega (arith, past, same, long, length-drop (min all to_end) sectors)))
    rest_writes false straight = refl

    area_writes_parts : map (part_put sectors) (text_parts text a) ≡ text_puts text a
    area_writes_parts =
        ap (λ (l : List (Span × List (List ℕ))). (span_of_area a.0 (offset / 512) (min all to_end), take (min all to_end) sectors) ∷ l)
        (rest_writes (nat_lt to_end all) refl)

    -- and lie in it
    rest_has : (P : Span × ℕ → Type 0) → (to_end < all → P (second, min all to_end)) → (b : Bool) → nat_lt to_end all ≡ b
        → All P (rest_part (cond b (Some second) None) (min all to_end))
    rest_has P there true round = All-cons P (second, min all to_end) [] (there (ltb-true to_end all round)) (All-nil P)
    rest_has P there false straight = All-nil P

    area_within : All (IsPartOf (length sectors)) (text_parts text a)
    area_within =
        let same : all ≡ total = placed.touched in
        All-cons (IsPartOf (length sectors)) (span_of_area a.0 (offset / 512) (min all to_end), 0) _ (omega (arith, same, long))
        (rest_has (IsPartOf (length sectors)) (λ past. omega (arith, past, same, long)) (nat_lt to_end all) refl)

    area_small : All IsSmall (text_parts text a)
    area_small =
        let same : all ≡ total = placed.touched in
        let fits : 512 * total ≤ a.0.size - 512 = placed.ring.fits in
        let before : offset < a.0.size = placed.ring.before_end in
        let ends : a.0.start + a.0.size ≤ 2 ^ 49 = placed.good.ends in
        All-cons IsSmall (span_of_area a.0 (offset / 512) (min all to_end), 0) _
        (omega (arith, same, fits, before, ends), omega (arith, same, fits, ends))
        (rest_has IsSmall (λ past. (omega (arith, past, same, fits, ends), omega (arith, past, same, fits, ends))) (nat_lt to_end all) refl)

  parts_writes : (areas : List (Area × Option Locn)) → All (IsPlaced text) areas
      → map (part_put sectors) (flat_map (text_parts text) areas) ≡ whole_texts (map (area_writes text) areas)
  parts_writes [] placed = refl
  parts_writes (a ∷ areas) placed =
      map-append (part_put sectors) (text_parts text a) (flat_map (text_parts text) areas)
      ∙ ap (λ (l : List (Span × List (List ℕ))). l ++ map (part_put sectors) (flat_map (text_parts text) areas))
      (area_writes_parts a (All-head (IsPlaced text) a areas placed))
      ∙ ap (λ (l : List (Span × List (List ℕ))). text_puts text a ++ l) (parts_writes areas (All-tail (IsPlaced text) a areas placed))

  parts_have : (P : Span × ℕ → Type 0) → ((a : Area × Option Locn) → IsPlaced text a → All P (text_parts text a))
      → (areas : List (Area × Option Locn)) → All (IsPlaced text) areas → All P (flat_map (text_parts text) areas)
  parts_have P each [] placed = All-nil P
  parts_have P each (a ∷ areas) placed =
      All-append P (text_parts text a) (flat_map (text_parts text) areas) (each a (All-head (IsPlaced text) a areas placed))
      (parts_have P each areas (All-tail (IsPlaced text) a areas placed))

  module _ (areas : List (Area × Option Locn)) (flush : FinSet nat_cmp) (committed : AreCommitted areas flush) (plan : Plan)
      (is_plan : IsPlan text areas plan) where
    pub all_placed : All (IsPlaced text) areas
    all_placed k d within =
        is_placed text (get_or areas k d) (committed.take k d within) (rooms text areas is_plan.room k d within)

    pub plan_small : All IsSmall plan.texts.items
    plan_small = subst (All IsSmall) (sym is_plan.texts) (parts_have IsSmall area_small areas all_placed)

    pub plan_within : All (IsPartOf (length plan.text)) plan.texts.items
    plan_within =
        subst (λ (l : List (List ℕ)). All (IsPartOf (length l)) plan.texts.items) (sym is_plan.sectors)
        (subst (All (IsPartOf (length sectors))) (sym is_plan.texts) (parts_have (IsPartOf (length sectors)) area_within areas all_placed))

module _ (text : List ℕ) (areas : List (Area × Option Locn)) (flush disks : FinSet nat_cmp) (plan : Plan) (is_plan : IsPlan text areas plan)
    (are : disks ≡ area_disks areas) (committed : AreCommitted areas flush) where
  -- what is prepared
  is_prepared : (prepared : Prepared) → HasBatches plan flush disks prepared → IsPrepared prepared areas flush text
  is_prepared prepared has = record {
    committed = committed;
    room = is_plan.room;
    texts = has.texts
        ∙ ap in_blocks
        (ap (λ (s : List (List ℕ)). map (part_put s) plan.texts.items) is_plan.sectors
        ∙ ap (λ (l : List (Span × ℕ)). map (part_put (text_sectors text (need (length text + 1)))) l) is_plan.texts
        ∙ parts_writes text areas (all_placed text areas flush committed plan is_plan));
    headers = has.headers ∙ is_plan.headers;
    publish = has.publish ∙ is_plan.publish;
    text_disks = has.text_disks;
    header_disks = has.header_disks ∙ ap disks_in are;
    publish_disks = has.publish_disks ∙ ap disks_in are;
    entries = has.entries ∙ is_plan.entries;
    again =
        subst (λ (l : List (Area × Option Locn)). AreCommitted l flush) (sym (has.entries ∙ is_plan.entries))
        (again text areas flush committed is_plan.room);
    read = is_plan.read;
  }

  pub prepared_result : (result : Result Prepared CommitRefusal) → IfOk result (HasBatches plan flush disks)
      → IfErr result (λ (refusal : CommitRefusal). refusal ≡ NoMemory)
      → MatchResult result (λ (prepared : Prepared). IsPrepared prepared areas flush text) (IsCause text areas)
  prepared_result (Ok prepared) has none = is_prepared prepared has
  prepared_result (Err refusal) has none = subst (IsCause text areas) (sym none) tt

  -- and that it can start
  placed : All (IsPlaced text) areas
  placed = all_placed text areas flush committed plan is_plan

  starts : (prepared : Prepared) → HasBatches plan flush disks prepared → (sizes : List ℕ) → AreWithin sizes areas flush
      → CanStart sizes prepared
  starts prepared has sizes inside =
      let few : (disks' : List ℕ) → Type 0 = λ disks'. All (λ (pv : ℕ). pv < length sizes) disks' in
      let p = is_prepared prepared has in
      let all_disks : few (disks_in (area_disks areas)) =
      area_disks_too (λ (pv : ℕ). pv < length sizes) areas flush committed.on_disks inside.disks_are in
      let writes : List (Span × List (List ℕ)) → Type 0 = λ l. (0 < length l) × LieIn sizes l in
      let w1 =
      subst writes (sym p.texts) (texts_some text areas committed.some placed, texts_lie sizes text areas placed inside.areas_lie) in
      let w2 =
      subst writes (sym p.headers) (headers_some text areas committed.some, headers_lie sizes text areas placed inside.areas_lie) in
      let w3 =
      subst writes (sym p.publish) (publish_some text areas committed.some, publish_lie sizes text areas placed inside.areas_lie) in
      let d1 = subst few (sym p.text_disks) inside.disks_are in
      let d2 = subst few (sym p.header_disks) all_disks in
      let d3 = subst few (sym p.publish_disks) all_disks in
      record {
        texts = record { writes = w1.0; lie = w1.1; within = d1 };
        headers = record { writes = w2.0; lie = w2.1; within = d2 };
        publish = record { writes = w3.0; lie = w3.1; within = d3 };
      }

  pub start_result : (result : Result Prepared CommitRefusal) → IfOk result (HasBatches plan flush disks) → (sizes : List ℕ)
      → AreWithin sizes areas flush → IfOk result (λ (prepared : Prepared). CanStart sizes prepared × AreWithin sizes prepared.areas flush)
  start_result (Ok prepared) has sizes inside = (
    starts prepared has sizes inside,
    subst (λ (l : List (Area × Option Locn)). AreWithin sizes l flush)
        (sym (has.entries ∙ is_plan.entries)) (within_again sizes text areas flush inside),
  )
  start_result (Err refusal) has sizes inside = tt

-- the same for the area at its place in the list
pub plan_at : (text : List ℕ) (areas : List (Area × Option Locn)) (i : ℕ) (d : Area × Option Locn) (old new : Plan) → i < length areas
    → IsPlan text (take i areas) old → Adds text (get_or areas i d) old new → IsPlan text (take (i + 1) areas) new
plan_at text areas i d old new within plan adds =
    plan_on text areas i (get_or areas i d) old new within (get_or_default areas i d (get_or areas i d) within) plan adds

pub cause_at : (text : List ℕ) (areas : List (Area × Option Locn)) (i : ℕ) (d : Area × Option Locn) (plan : Plan) (refusal : CommitRefusal)
    → i < length areas → IsPlan text (take i areas) plan → IsCause text (get_or areas i d ∷ []) refusal → IsCause text areas refusal
cause_at text areas i d plan refusal within done cause =
    cause_on text areas i (get_or areas i d) plan refusal within (get_or_default areas i d (get_or areas i d) within) done cause
