-- A text that is a front and the texts of items, written one item after another.
use Rattle.std.proofs.Common.{◌≡◌, ◌<◌, ℕ, ◌+◌, true, false, List, ◌++◌, take, drop, length, get_or, Option, ap, sym, subst, ◌∙◌}
use Rattle.std.proofs.Common.{append_assoc}
use Rattle.std.proofs.lemmas.Grind.{flat_map-append}
use Rattle.std.proofs.lemmas.List.{flat_map_more, take-append-drop, take_more}
use Rattle.std.specs.List.{flat_map}
use Rattle.byte_streams.specs.Streams.{WritesText}
use Rattle.byte_streams.proofs.TextsWritten.{failed_before, written_both}

one_more : {A : Type 0} (f : A → List ℕ) (front : List ℕ) (items : List A) (i : ℕ) (d : A) → i < length items
    → front ++ flat_map f (take (i + 1) items) ≡ (front ++ flat_map f (take i items)) ++ f (get_or items i d)
one_more f front items i d within =
    ap (λ l. front ++ flat_map f l) (take_more items i d within) ∙ sym (flat_map_more f front (take i items) (get_or items i d))

all_of : {A : Type 0} (f : A → List ℕ) (front : List ℕ) (items : List A) (i : ℕ)
    → front ++ flat_map f items ≡ (front ++ flat_map f (take i items)) ++ flat_map f (drop i items)
all_of f front items i =
    ap (λ l. front ++ flat_map f l) (sym (take-append-drop i items))
    ∙ ap (λ l. front ++ l) (flat_map-append f (take i items) (drop i items))
    ∙ sym (append_assoc front (flat_map f (take i items)) (flat_map f (drop i items)))

-- so many were written, and then one more
pub next_written : {A : Type 0} (f : A → List ℕ) (b0 b1 b2 : Option (List ℕ)) (f0 f1 f2 : ℕ) (front : List ℕ) (items : List A) (i : ℕ)
    (item : A) → i < length items → item ≡ get_or items i item
    → WritesText b0 f0 (front ++ flat_map f (take i items)) true b1 f1 → WritesText b1 f1 (f item) true b2 f2
    → WritesText b0 f0 (front ++ flat_map f (take (i + 1) items)) true b2 f2
next_written f b0 b1 b2 f0 f1 f2 front items i item within is before here =
    let next = subst (λ (x : _). WritesText b1 f1 (f x) true b2 f2) is here in
    subst (λ (t : List ℕ). WritesText b0 f0 t true b2 f2) (sym (one_more f front items i item within))
    (written_both b0 b1 b2 f0 f1 f2 (front ++ flat_map f (take i items)) (f (get_or items i item)) true before next)

-- so many were written, and then one in part
pub stopped_at : {A : Type 0} (f : A → List ℕ) (b0 b1 b2 : Option (List ℕ)) (f0 f1 f2 : ℕ) (front : List ℕ) (items : List A) (i : ℕ)
    (item : A) → i < length items → item ≡ get_or items i item
    → WritesText b0 f0 (front ++ flat_map f (take i items)) true b1 f1 → WritesText b1 f1 (f item) false b2 f2
    → WritesText b0 f0 (front ++ flat_map f items) false b2 f2
stopped_at f b0 b1 b2 f0 f1 f2 front items i item within is before part =
    let here = subst (λ (x : _). WritesText b1 f1 (f x) false b2 f2) is part in
    let so_far = written_both b0 b1 b2 f0 f1 f2 (front ++ flat_map f (take i items)) (f (get_or items i item)) false before here in
    let more = subst (λ (t : List ℕ). WritesText b0 f0 t false b2 f2) (sym (one_more f front items i item within)) so_far in
    subst (λ (t : List ℕ). WritesText b0 f0 t false b2 f2) (sym (all_of f front items (i + 1)))
    (failed_before b0 b2 f0 f2 (front ++ flat_map f (take (i + 1) items)) (flat_map f (drop (i + 1) items)) more)
