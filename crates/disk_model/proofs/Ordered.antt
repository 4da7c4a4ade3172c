-- The order of writes and flushes in steps that were made one call after another.
use Rattle.std.proofs.Common.{◌<◌, ℕ, true, false, List, [], ◌∷◌, ◌++◌, inl, inr, ⊎_elim}
use Rattle.disk_model.specs.Steps.{Reading, Writing, Flushing, Step, Submitted, Completed, value_at}
use Rattle.disk_model.specs.Brought.{BringOnly}
use Rattle.disk_model.specs.Order.{HasFlushed, FlushesFirst, WritesNothing}

-- a flush that completed well did so after newer steps too
pub flushed_later : (pv : ℕ) (newer older : List Step) → HasFlushed pv older → HasFlushed pv (newer ++ older)
flushed_later pv [] older h = h
flushed_later pv (Submitted tag work ∷ newer) older h = flushed_later pv newer older h
flushed_later pv (Completed tag (Reading span) well fresh ∷ newer) older h = flushed_later pv newer older h
flushed_later pv (Completed tag (Writing span sectors) well fresh ∷ newer) older h = flushed_later pv newer older h
flushed_later pv (Completed tag (Flushing disk) true fresh ∷ newer) older h = inr (flushed_later pv newer older h)
flushed_later pv (Completed tag (Flushing disk) false fresh ∷ newer) older h = flushed_later pv newer older h

-- a flush that completed well in the newer steps did so in all of them
pub flushed_newer : (pv : ℕ) (newer older : List Step) → HasFlushed pv newer → HasFlushed pv (newer ++ older)
flushed_newer pv [] older h = absurd h
flushed_newer pv (Submitted tag work ∷ newer) older h = flushed_newer pv newer older h
flushed_newer pv (Completed tag (Reading span) well fresh ∷ newer) older h = flushed_newer pv newer older h
flushed_newer pv (Completed tag (Writing span sectors) well fresh ∷ newer) older h = flushed_newer pv newer older h
flushed_newer pv (Completed tag (Flushing disk) true fresh ∷ newer) older h =
    ⊎_elim (λ a. inl a) (λ b. inr (flushed_newer pv newer older b)) h
flushed_newer pv (Completed tag (Flushing disk) false fresh ∷ newer) older h = flushed_newer pv newer older h

-- once a flush of each disk has completed well, any steps may follow
pub flushes_first_later : (disks : ℕ) (newer older : List Step) → ((pv : ℕ) → pv < disks → HasFlushed pv older) → FlushesFirst disks older
    → FlushesFirst disks (newer ++ older)
flushes_first_later disks [] older all first = first
flushes_first_later disks (Submitted tag (Reading span) ∷ newer) older all first = flushes_first_later disks newer older all first
flushes_first_later disks (Submitted tag (Flushing disk) ∷ newer) older all first = flushes_first_later disks newer older all first
flushes_first_later disks (Submitted tag (Writing span sectors) ∷ newer) older all first =
    (λ pv lt. flushed_later pv newer older (all pv lt), flushes_first_later disks newer older all first)
flushes_first_later disks (Completed tag work well fresh ∷ newer) older all first = flushes_first_later disks newer older all first

-- two calls that each flush first do so together
pub flushes_first_append : (disks : ℕ) (newer older : List Step) → FlushesFirst disks newer → FlushesFirst disks older
    → FlushesFirst disks (newer ++ older)
flushes_first_append disks [] older first then_first = then_first
flushes_first_append disks (Submitted tag (Reading span) ∷ newer) older first then_first =
    flushes_first_append disks newer older first then_first
flushes_first_append disks (Submitted tag (Flushing disk) ∷ newer) older first then_first =
    flushes_first_append disks newer older first then_first
flushes_first_append disks (Submitted tag (Writing span sectors) ∷ newer) older first then_first =
    (λ pv lt. flushed_newer pv newer older (first.0 pv lt), flushes_first_append disks newer older first.1 then_first)
flushes_first_append disks (Completed tag work well fresh ∷ newer) older first then_first =
    flushes_first_append disks newer older first then_first

-- two calls that write nothing write nothing together
pub writes_nothing_append : (newer older : List Step) → WritesNothing newer → WritesNothing older → WritesNothing (newer ++ older)
writes_nothing_append [] older none then_none = then_none
writes_nothing_append (Submitted tag (Reading span) ∷ newer) older none then_none = writes_nothing_append newer older none then_none
writes_nothing_append (Submitted tag (Flushing disk) ∷ newer) older none then_none = writes_nothing_append newer older none then_none
writes_nothing_append (Submitted tag (Writing span sectors) ∷ newer) older none then_none = absurd none
writes_nothing_append (Completed tag work well fresh ∷ newer) older none then_none = writes_nothing_append newer older none then_none

-- steps that write nothing flush first
pub writes_nothing_first : (disks : ℕ) (steps : List Step) → WritesNothing steps → FlushesFirst disks steps
writes_nothing_first disks [] none = tt
writes_nothing_first disks (Submitted tag (Reading span) ∷ steps) none = writes_nothing_first disks steps none
writes_nothing_first disks (Submitted tag (Flushing disk) ∷ steps) none = writes_nothing_first disks steps none
writes_nothing_first disks (Submitted tag (Writing span sectors) ∷ steps) none = absurd none
writes_nothing_first disks (Completed tag work well fresh ∷ steps) none = writes_nothing_first disks steps none

-- steps that write nothing bring no value
pub writes_nothing_brings : (Q : ℕ → ℕ → List ℕ → Type 0) (steps : List Step) → WritesNothing steps → BringOnly Q steps
writes_nothing_brings Q [] none = tt
writes_nothing_brings Q (Submitted tag (Reading span) ∷ steps) none = writes_nothing_brings Q steps none
writes_nothing_brings Q (Submitted tag (Flushing disk) ∷ steps) none = writes_nothing_brings Q steps none
writes_nothing_brings Q (Submitted tag (Writing span sectors) ∷ steps) none = absurd none
writes_nothing_brings Q (Completed tag work well fresh ∷ steps) none = writes_nothing_brings Q steps none

-- two calls that bring values with Q bring such together
pub bring_only_append : (Q : ℕ → ℕ → List ℕ → Type 0) (newer older : List Step) → BringOnly Q newer → BringOnly Q older
    → BringOnly Q (newer ++ older)
bring_only_append Q [] older b then_b = then_b
bring_only_append Q (Submitted tag (Reading span) ∷ newer) older b then_b = bring_only_append Q newer older b then_b
bring_only_append Q (Submitted tag (Flushing disk) ∷ newer) older b then_b = bring_only_append Q newer older b then_b
bring_only_append Q (Submitted tag (Writing span sectors) ∷ newer) older b then_b = (b.0, bring_only_append Q newer older b.1 then_b)
bring_only_append Q (Completed tag work well fresh ∷ newer) older b then_b = bring_only_append Q newer older b then_b

-- values with P that steps bring have Q
pub bring_only_weaker : (P Q : ℕ → ℕ → List ℕ → Type 0) (steps : List Step) → ((pv s : ℕ) (v : List ℕ) → P pv s v → Q pv s v)
    → BringOnly P steps → BringOnly Q steps
bring_only_weaker P Q [] up b = tt
bring_only_weaker P Q (Submitted tag (Writing span sectors) ∷ steps) up b =
    (λ pv s inside. up pv s (value_at span sectors s) (b.0 pv s inside), bring_only_weaker P Q steps up b.1)
bring_only_weaker P Q (Submitted tag (Reading span) ∷ steps) up b = bring_only_weaker P Q steps up b
bring_only_weaker P Q (Submitted tag (Flushing disk) ∷ steps) up b = bring_only_weaker P Q steps up b
bring_only_weaker P Q (Completed tag work well fresh ∷ steps) up b = bring_only_weaker P Q steps up b
