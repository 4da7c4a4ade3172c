-- What the calls that submit operations do to the shelf.
use Rattle.std.specs.Prelude.{◌≡◌, ℕ, Bool, true, false, List, [], ◌∷◌, ◌++◌}
use Rattle.sector_base.specs.declared.spans.Span.{Span}
use Rattle.disk_model.specs.declared.ops.Op.TheVariants.{Write}
use Rattle.disk_model.specs.Steps.{Work}
use Rattle.disk_model.specs.Record.{Operation}
use Rattle.disk_model.specs.Calls.{Submits}
use Rattle.disk_model.specs.State.{State, tags_of}
use Rattle.disk_batch.specs.Writes.{write_work}
use Rattle.disk_model.specs.Submitting.{SubmitsAll, works_of}

-- operations that do this were submitted, in this order, and got these tags
pub record SubmitsWorks (old : State) (works : List Work) (tags : List ℕ) (new : State) : Type 0 where
  pub os : List Operation
  pub submits : SubmitsAll old os new
  pub works_are : works_of os ≡ works
  pub tags_are : tags_of os ≡ tags

-- the operation with this tag that makes the write
abbrev pub put_operation : ℕ → Span × List (List ℕ) → Operation
put_operation tag put = record { tag = tag; work = write_work put }

-- the first of these writes was taken off and submitted, and its tag was put behind the others
pub record SubmitsPut (old : State) (puts : List (Span × List (List ℕ))) (tags : List ℕ) (rest : List (Span × List (List ℕ)))
    (tags' : List ℕ) (new : State) : Type 0 where
  pub put : Span × List (List ℕ)
  pub tag : ℕ
  pub first : puts ≡ put ∷ rest
  pub behind : tags' ≡ tags ++ tag ∷ []
  pub submits : SubmitsAll old (put_operation tag put ∷ []) new

-- so it was, or there is none and nothing was done
abbrev pub SubmitsFirst : State → List (Span × List (List ℕ)) → List ℕ → Bool → List (Span × List (List ℕ)) → List ℕ → State → Type 0
SubmitsFirst old puts tags true rest tags' new = SubmitsPut old puts tags rest tags' new
SubmitsFirst old puts tags false rest tags' new = (puts ≡ []) × (rest ≡ []) × (tags' ≡ tags) × (new ≡ old)

-- the last write of a list was taken off and submitted, and its tag was put behind the others
pub record SubmitsLast (old : State) (puts : List (Span × List (List ℕ))) (tags : List ℕ) (rest : List (Span × List (List ℕ)))
    (tags' : List ℕ) (new : State) : Type 0 where
  pub put : Span × List (List ℕ)
  pub tag : ℕ
  pub last : puts ≡ rest ++ put ∷ []
  pub behind : tags' ≡ tags ++ tag ∷ []
  pub submits : Submits old (Write put.0 put.1) tag new
