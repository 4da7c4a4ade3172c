-- Parts of a text, and the blocks in which they are written.
use Rattle.std.proofs.Common.{◌≡◌, ◌≤◌, ◌<◌, ◌+◌, ◌-◌, ◌*◌, ◌/◌, ◌%◌, ℕ, zero, suc, List, [], ◌∷◌, ◌++◌, drop, length, map, take, flat_map}
use Rattle.std.proofs.Common.{reverse, sum_by, All}
use Rattle.std.proofs.Common.{slice_index_or, refl, sym, ap, subst, ◌∙◌, arith, append_assoc, cond, Bool, true, false, ◌==◌}
use Rattle.std.specs.List.{range_with_len}
use Rattle.std.proofs.lemmas.List.{drop-drop, drop-take, ext_get_or, get_or-drop, get_or-take, length-drop, length-take-le, map-append}
use Rattle.std.proofs.lemmas.List.{take-take}
use Rattle.std.proofs.lemmas.List.Elements.{All-append, All-cons, All-head, All-map, All-nil, All-tail, All-weaker}
use Rattle.std.proofs.lemmas.List.Sorted.{All-permutation, IsPermutation-reverse, sum_by-IsPermutation}
use Rattle.sector_base.specs.declared.spans.Span.{Span}
use Rattle.disk_batch.specs.Blocks.{blocks_of, end_of, in_blocks, piece_of}
use Rattle.disk_batch.specs.Parts.{IsBlockOf, IsEnd, IsPartOf, block_parts, end_parts, part_put, piece_part}
use Rattle.disk_batch.specs.Writes.{BlockNext, BlocksFirst, block_size, span_count}
use Rattle.disk_batch.proofs.Submissions.{sum_first}

-- a buffer that was filled sector by sector
pub filled_is : (text old new : List (List ℕ)) (from : ℕ) → from + length old ≤ length text → length new ≡ length old
    → ((k : ℕ) → k < length old → slice_index_or new k [] ≡ slice_index_or text (from + k) [])
    → new ≡ take (length old) (drop from text)
filled_is text old new from fits len each =
    let long : length (take (length old) (drop from text)) ≡ length old =
    length-take-le (length old) (drop from text) (omega (arith, length-drop from text)) in
    ext_get_or [] new (take (length old) (drop from text)) (len ∙ sym long)
    (λ k within.
    let lt : k < length old = omega (arith, len) in
    each k lt ∙ sym (get_or-take (length old) (drop from text) k [] lt ∙ get_or-drop from text k []))

-- a piece of a part is a piece of its write
pub piece_put : (text : List (List ℕ)) (part : Span × ℕ) (at count : ℕ) → at + count ≤ part.0.count
    → part_put text (piece_part part at count) ≡ piece_of (part_put text part) at count
piece_put text part at count le =
    let c : ℕ = part.0.count in
    let more : ℕ = c - at in
    let e : at + more ≡ c = omega (arith, le) in
    let span : Span = record { pv = part.0.pv; first = part.0.first + at; count = count } in
    let same : take count (drop (part.1 + at) text) ≡ take count (drop at (take c (drop part.1 text))) =
    ap (take count) (sym (drop-drop at part.1 text))
    ∙ sym (take-take count more (drop at (drop part.1 text)) (omega (arith, le)))
    ∙ ap (take count) (sym (drop-take at more (drop part.1 text)) ∙ ap (λ (n : ℕ). drop at (take n (drop part.1 text))) e) in
    ap (λ (sectors : List (List ℕ)). (span, sectors)) same

-- the same over the numbers of a range
maps_same : {X : Type 0} (f g : ℕ → X) (first count : ℕ) → ((k : ℕ) → k < first + count → f k ≡ g k)
    → map f (range_with_len first count) ≡ map g (range_with_len first count)
maps_same f g first zero same = refl
maps_same f g first (suc count) same =
    ap (λ x. x ∷ map f (range_with_len (first + 1) count)) (same first (omega arith))
    ∙ ap (λ l. g first ∷ l) (maps_same f g (first + 1) count (λ k lt. same k (omega arith)))

map_map : {X Y : Type 0} (f : X → Y) (g : ℕ → X) (ns : List ℕ) → map f (map g ns) ≡ map (λ (n : ℕ). f (g n)) ns
map_map f g [] = refl
map_map f g (n ∷ ns) = ap (λ l. f (g n) ∷ l) (map_map f g ns)

pub blocks_put : (text : List (List ℕ)) (part : Span × ℕ) → map (part_put text) (block_parts part) ≡ blocks_of (part_put text part)
blocks_put text part =
    let many : ℕ = part.0.count / block_size in
    map_map (part_put text) (λ (k : ℕ). piece_part part (block_size * k) block_size) (range_with_len 0 many)
    ∙ maps_same (λ (k : ℕ). part_put text (piece_part part (block_size * k) block_size))
    (λ (k : ℕ). piece_of (part_put text part) (block_size * k) block_size) 0 many
    (λ k lt. piece_put text part (block_size * k) block_size (omega arith))

ends_put : (text : List (List ℕ)) (part : Span × ℕ) → map (part_put text) (end_parts part) ≡ end_of (part_put text part)
ends_put text part = by (part.0.count % block_size == 0)
  where
    last : ℕ
    last = block_size * (part.0.count / block_size)

    left : ℕ
    left = part.0.count % block_size

    by : (b : Bool) → map (part_put text) (cond b [] (piece_part part last left ∷ []))
        ≡ cond b [] (piece_of (part_put text part) last left ∷ [])
    by true = refl
    by false = ap (λ (put : Span × List (List ℕ)). put ∷ []) (piece_put text part last left (omega arith))

map_flat : (text : List (List ℕ)) (f : Span × ℕ → List (Span × ℕ)) (g : Span × List (List ℕ) → List (Span × List (List ℕ)))
    → ((part : Span × ℕ) → map (part_put text) (f part) ≡ g (part_put text part)) → (parts : List (Span × ℕ))
    → map (part_put text) (flat_map f parts) ≡ flat_map g (map (part_put text) parts)
map_flat text f g same [] = refl
map_flat text f g same (part ∷ parts) =
    map-append (part_put text) (f part) (flat_map f parts)
    ∙ ap (λ (l : List (Span × List (List ℕ))). l ++ map (part_put text) (flat_map f parts)) (same part)
    ∙ ap (λ (l : List (Span × List (List ℕ))). g (part_put text part) ++ l) (map_flat text f g same parts)

-- the blocks of all parts, and what is left of them, are those of their writes
pub parts_in_blocks : (text : List (List ℕ)) (parts : List (Span × ℕ))
    → map (part_put text) (flat_map block_parts parts) ++ map (part_put text) (flat_map end_parts parts)
    ≡ in_blocks (map (part_put text) parts)
parts_in_blocks text parts =
    ap (λ (l : List (Span × List (List ℕ))). l ++ map (part_put text) (flat_map end_parts parts))
    (map_flat text block_parts blocks_of (blocks_put text) parts)
    ∙ ap (λ (l : List (Span × List (List ℕ))). flat_map blocks_of (map (part_put text) parts) ++ l)
    (map_flat text end_parts end_of (ends_put text) parts)

-- ---- what holds of the blocks

blocks_lie : (count : ℕ) (part : Span × ℕ) → IsPartOf count part → (first many : ℕ) → block_size * (first + many) ≤ part.0.count
    → All (IsBlockOf count) (map (λ (k : ℕ). piece_part part (block_size * k) block_size) (range_with_len first many))
blocks_lie count part within first zero le = All-nil (IsBlockOf count)
blocks_lie count part within first (suc many) le =
    All-cons (IsBlockOf count) (piece_part part (block_size * first) block_size)
    (map (λ (k : ℕ). piece_part part (block_size * k) block_size) (range_with_len (first + 1) many))
    (record { size = refl; within = omega (arith, within, le) }) (blocks_lie count part within (first + 1) many (omega (arith, le)))

-- each lies in the text
pub all_blocks : (count : ℕ) (parts : List (Span × ℕ)) → All (IsPartOf count) parts → All (IsBlockOf count) (flat_map block_parts parts)
all_blocks count [] all = All-nil (IsBlockOf count)
all_blocks count (part ∷ parts) all =
    All-append (IsBlockOf count) (block_parts part) (flat_map block_parts parts)
    (blocks_lie count part (All-head (IsPartOf count) part parts all) 0 (part.0.count / block_size) (omega arith))
    (all_blocks count parts (All-tail (IsPartOf count) part parts all))

-- and what is left of each part is smaller than one
pub all_ends : (text : List (List ℕ)) (parts : List (Span × ℕ)) → All IsEnd (map (part_put text) (flat_map end_parts parts))
all_ends text [] = All-nil IsEnd
all_ends text (part ∷ parts) =
    subst (All IsEnd) (sym (map-append (part_put text) (end_parts part) (flat_map end_parts parts)))
    (All-append IsEnd (map (part_put text) (end_parts part)) (map (part_put text) (flat_map end_parts parts)) (one (left == 0))
    (all_ends text parts))
  where
    left : ℕ
    left = part.0.count % block_size

    one : (b : Bool) → All IsEnd (map (part_put text) (cond b [] (piece_part part (block_size * (part.0.count / block_size)) left ∷ [])))
    one true = All-nil IsEnd
    one false = All-cons IsEnd _ [] (let lt : left < block_size = omega arith in lt) (All-nil IsEnd)

-- so many sectors they have
pub blocks_sum : (text : List (List ℕ)) (count : ℕ) (blocks : List (Span × ℕ)) → All (IsBlockOf count) blocks
    → sum_by span_count (map (part_put text) blocks) ≡ block_size * length blocks
blocks_sum text count [] all = refl
blocks_sum text count (part ∷ blocks) all =
    let size : span_count (part_put text part) ≡ block_size = (All-head (IsBlockOf count) part blocks all).size in
    omega (
      arith,
      size,
      sum_first span_count (part_put text part) (map (part_put text) blocks),
      blocks_sum text count blocks (All-tail (IsBlockOf count) part blocks all),
    )

-- blocks and what is smaller behind them
ends_follow : (ends : List (Span × List (List ℕ))) → All IsEnd ends → BlocksFirst ends × (BlockNext ends → ⊥)
ends_follow [] all = (tt, λ no. no)
ends_follow (put ∷ ends) all =
    let rest = ends_follow ends (All-tail IsEnd put ends all) in
    let small : put.0.count < block_size = All-head IsEnd put ends all in
    ((λ next. absurd (rest.1 next), rest.0), λ (is : put.0.count ≡ block_size). absurd (omega (arith, is)))

pub blocks_follow : (text : List (List ℕ)) (count : ℕ) (blocks : List (Span × ℕ)) (ends : List (Span × List (List ℕ)))
    → All (IsBlockOf count) blocks → All IsEnd ends → BlocksFirst (map (part_put text) blocks ++ ends)
blocks_follow text count [] ends all small = (ends_follow ends small).0
blocks_follow text count (part ∷ blocks) ends all small = (
  λ next. (All-head (IsBlockOf count) part blocks all).size,
  blocks_follow text count blocks ends (All-tail (IsBlockOf count) part blocks all)
      small,
)

-- the blocks' writes are blocks
pub all_sized : (text : List (List ℕ)) (count : ℕ) (blocks : List (Span × ℕ)) → All (IsBlockOf count) blocks
    → All (λ (put : Span × List (List ℕ)). put.0.count ≡ block_size) (map (part_put text) blocks)
all_sized text count blocks all =
    All-map (λ (put : Span × List (List ℕ)). put.0.count ≡ block_size) (part_put text) blocks
    (All-weaker (IsBlockOf count) (λ (part : Span × ℕ). (part_put text part).0.count ≡ block_size) (λ part is. is.size) blocks all)

-- a reversed list keeps what holds of each
pub all_reversed : (P : Span × List (List ℕ) → Type 0) (xs : List (Span × List (List ℕ))) → All P xs → All P (reverse xs)
all_reversed P xs all = All-permutation P xs (reverse xs) (IsPermutation-reverse xs) all

pub sum_reversed : (f : Span × List (List ℕ) → ℕ) (xs : List (Span × List (List ℕ))) → sum_by f (reverse xs) ≡ sum_by f xs
sum_reversed f xs = sum_by-IsPermutation f xs (reverse xs) (IsPermutation-reverse xs)

-- ---- those that are submitted first, and the others

pub first_and_others : (text : List (List ℕ)) (parts blocks front later : List (Span × ℕ)) (first ends : List (Span × List (List ℕ)))
    → blocks ≡ flat_map block_parts parts → front ++ later ≡ blocks → first ≡ map (part_put text) front
    → ends ≡ map (part_put text) (flat_map end_parts parts)
    → first ++ (map (part_put text) later ++ ends) ≡ in_blocks (map (part_put text) parts)
first_and_others text parts blocks front later first ends blocks_are both first_is ends_are =
    ap (λ (l : List (Span × List (List ℕ))). l ++ (map (part_put text) later ++ ends)) first_is
    ∙ sym (append_assoc (map (part_put text) front) (map (part_put text) later) ends)
    ∙ ap (λ (l : List (Span × List (List ℕ))). l ++ ends)
    (sym (map-append (part_put text) front later) ∙ ap (λ (l : List (Span × ℕ)). map (part_put text) l) (both ∙ blocks_are))
    ∙ ap (λ (l : List (Span × List (List ℕ))). map (part_put text) (flat_map block_parts parts) ++ l) ends_are
    ∙ parts_in_blocks text parts

pub none_later : (later : List (Span × ℕ)) → length later ≡ 0 → later ≡ []
none_later [] e = refl
none_later (part ∷ later) e = absurd (omega (arith, e))
