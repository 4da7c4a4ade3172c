-- What is pushed into a table goes last.
use Rattle.std.proofs.Common.{◌≡◌, ℕ, ◌+◌, false, true≢false, nat_eq, List, [], ◌∷◌, ◌++◌, take, slice_get, Option, Some, None, is_some}
use Rattle.std.proofs.Common.{Result, Ok, Err, is_err, refl, ap, ◌∙◌}
use Rattle.std.proofs.lemmas.List.{take_more}
use Rattle.std.proofs.lemmas.Option.{slice_get_within, get_or_from_slice_get}
use Rattle.std.specs.Cmp.Lexicographic.{pointwise}
use Rattle.std.proofs.lemmas.Map.Made.{is_some-lookup}
use Rattle.indexmap.specs.IndexMap.{IndexMap, insert_entry}
use Rattle.indexmap.proofs.CallerLemmas.{insert_entry-new}
use Rattle.lvm_name.specs.Names.{is_among}
use Rattle.meta_model.specs.Tables.{names_of, Pushes}
use Rattle.meta_model.specs.declared.table.PushRefusal.{PushRefusal}

-- what isn't there
pub absent : {A : Type 0} (found : Option A) → is_some found ≡ false → found ≡ None
absent None none = refl
absent (Some x) none = absurd (true≢false none)

pub insert_entry-last : {A S : Type 0} (map : IndexMap (List ℕ) A S) (name : List ℕ) (row : A)
    → is_among (names_of map.entries) name ≡ false → insert_entry (pointwise nat_eq) map.entries name row ≡ map.entries ++ (name, row) ∷ []
insert_entry-last map name row none =
    insert_entry-new (pointwise nat_eq) map name row (absent _ (is_some-lookup (pointwise nat_eq name) map.entries ∙ none))

-- what was pushed without an error stands last
pub pushed : {A : Type 0} (old : List (List ℕ × A)) (name : List ℕ) (row : A) (result : Result (Unit {0}) PushRefusal)
    (new : List (List ℕ × A)) → Pushes old name row result new → is_err result ≡ false → new ≡ old ++ (name, row) ∷ []
pushed old name row (Ok done) new pushes well = pushes.0
pushed old name row (Err refusal) new pushes well = absurd (true≢false well)

-- a front and the element behind it
pub take-next : {A : Type 0} (xs : List A) (at : ℕ) (x : A) → slice_get xs at ≡ Some x → take (at + 1) xs ≡ take at xs ++ x ∷ []
take-next xs at x is = take_more xs at x (slice_get_within xs at x is) ∙ ap (λ y. take at xs ++ y ∷ []) (get_or_from_slice_get xs at x x is)
