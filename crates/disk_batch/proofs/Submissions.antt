-- Operations that are submitted one after another.
use Rattle.std.proofs.Common.{reverse, ◌==◌, ◌≤◌, ◌<◌, not, filter, length, IsTrue, inl, inr, ⊎_elim, ◌≡◌, ℕ, ◌+◌, List, [], ◌∷◌, ◌++◌, map}
use Rattle.std.proofs.Common.{sum_by, Some, refl, sym, ap}
use Rattle.std.proofs.Common.{subst, ◌∙◌, arith, append_assoc}
use Rattle.std.specs.List.{list_any}
use Rattle.std.proofs.lemmas.Bool.Decides.{eqb_tells}
use Rattle.std.proofs.lemmas.List.{map-append, reverse-append}
use Rattle.std.proofs.lemmas.List.Sums.{sum_by-append}
use Rattle.std.proofs.lemmas.List.Elements.{All-pop}
use Rattle.sector_base.specs.declared.spans.Span.{Span}
use Rattle.disk_model.specs.declared.ops.Op.{Op}
use Rattle.disk_model.specs.Steps.{Work}
use Rattle.disk_model.specs.Record.{Operation}
use Rattle.disk_model.specs.Operations.{work_of}
use Rattle.disk_model.specs.Calls.{Submits}
use Rattle.disk_model.specs.State.{State}
use Rattle.disk_model.specs.Operations.{Fills}
use Rattle.disk_model.proofs.Submissions.{submits_none, submits_more}
use Rattle.disk_batch.specs.Submits.{SubmitsWorks}
use Rattle.disk_batch.specs.Writes.{write_work, LieIn}
use Rattle.disk_model.specs.InFlight.{IsAmong}

-- a search for a tag finds whether it is among these
pub any_among : (tags : List ℕ) (tag : ℕ) → IsTrue (list_any (λ (t : ℕ). t == tag) tags) → IsAmong tags tag
any_among [] tag h = cc
any_among (t ∷ tags) tag h = ⊎_elim (λ same. inl same.1) (λ other. inr (any_among tags tag (rw other.0 at h))) (eqb_tells t tag)

pub among_any : (tags : List ℕ) (tag : ℕ) → IsAmong tags tag → IsTrue (list_any (λ (t : ℕ). t == tag) tags)
among_any [] tag h = absurd h
among_any (t ∷ tags) tag h =
    ⊎_elim (λ same. rw same.0 refl) (λ other. rw other.0
    (⊎_elim (λ (e : t ≡ tag). absurd (other.1 e)) (λ later. among_any tags tag later) h)) (eqb_tells t tag)

-- nothing was submitted yet
pub works_none : (state : State) → SubmitsWorks state [] [] state
works_none state = record { os = []; submits = submits_none state; works_are = refl; tags_are = refl }

-- one operation more was submitted
pub works_more : (old mid new : State) (works : List Work) (tags : List ℕ) (op : Op) (tag : ℕ) → SubmitsWorks old works tags mid
    → Submits mid op tag new → SubmitsWorks old (works ++ work_of op ∷ []) (tags ++ tag ∷ []) new
works_more old mid new works tags op tag all one =
    let o : Operation = record { tag = tag; work = work_of op } in
    record {
      os = all.os ++ o ∷ [];
      submits = submits_more old mid new all.os op tag all.submits one;
      works_are = map-append (λ (p : Operation). p.work) all.os (o ∷ []) ∙ ap (λ (l : List Work). l ++ work_of op ∷ []) all.works_are;
      tags_are = map-append (λ (p : Operation). p.tag) all.os (o ∷ []) ∙ ap (λ (l : List ℕ). l ++ tag ∷ []) all.tags_are;
    }

-- the last write of a reversed list comes next
pub map_last : (puts rest : List (Span × List (List ℕ))) (put : Span × List (List ℕ)) (works : List Work) (all : List Work)
    → puts ≡ rest ++ put ∷ [] → works ++ map write_work (reverse puts) ≡ all
    → (works ++ write_work put ∷ []) ++ map write_work (reverse rest) ≡ all
map_last puts rest put works all e h =
    append_assoc works (write_work put ∷ []) (map write_work (reverse rest))
    ∙ ap (λ (l : List (Span × List (List ℕ))). works ++ map write_work l) (sym (ap reverse e ∙ reverse-append rest (put ∷ []))) ∙ h

-- the others lie in the disks too
pub lie_front : (sizes sizes' : List ℕ) (puts rest : List (Span × List (List ℕ))) (put : Span × List (List ℕ)) → puts ≡ rest ++ put ∷ []
    → sizes' ≡ sizes → LieIn sizes puts → LieIn sizes' rest
lie_front sizes sizes' puts rest put e s lie =
    let P : Span × List (List ℕ) → Type 0 = λ p. Fills sizes p.0 p.1 in
    subst (λ (l : List ℕ). LieIn l rest) (sym s) ((All-pop P puts rest (Some put) e lie).0)

-- how many sectors the last write and the others have
pub sum_last : (f : Span × List (List ℕ) → ℕ) (rest : List (Span × List (List ℕ))) (put : Span × List (List ℕ))
    → sum_by f (rest ++ put ∷ []) ≡ sum_by f rest + f put
sum_last f rest put =
    let one : sum_by f (put ∷ []) ≡ f put = omega arith in sum_by-append f rest (put ∷ []) ∙ ap (λ (n : ℕ). sum_by f rest + n) one

-- and the first and the others
pub sum_first : (f : Span × List (List ℕ) → ℕ) (put : Span × List (List ℕ)) (puts : List (Span × List (List ℕ)))
    → sum_by f (put ∷ puts) ≡ f put + sum_by f puts
sum_first f put puts =
    let one : sum_by f (put ∷ []) ≡ f put = omega arith in
    sum_by-append f (put ∷ []) puts ∙ ap (λ (n : ℕ). n + sum_by f puts) one

-- where a tag is among some, fewer are left without it
none_more : (tags : List ℕ) (tag : ℕ) → length (filter (λ (t : ℕ). not (t == tag)) tags) ≤ length tags
none_more [] tag = omega arith
none_more (t ∷ tags) tag =
    ⊎_elim (λ same. rw same.0 (omega (arith, none_more tags tag))) (λ other. rw other.0 (omega (arith, none_more tags tag)))
    (eqb_tells t tag)

pub fewer_left : (tags : List ℕ) (tag : ℕ) → IsAmong tags tag → length (filter (λ (t : ℕ). not (t == tag)) tags) < length tags
fewer_left [] tag among = absurd among
fewer_left (t ∷ tags) tag among =
    ⊎_elim (λ same. rw same.0 (omega (arith, none_more tags tag)))
    (λ other. rw other.0 (⊎_elim (λ (e : t ≡ tag). absurd (other.1 e)) (λ later. omega (arith, fewer_left tags tag later)) among))
    (eqb_tells t tag)
