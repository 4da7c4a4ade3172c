-- Reading on, byte by byte.
use Rattle.std.proofs.Common.{◌≡◌, ℕ, suc, ◌+◌, ◌<◌, ◌≤◌, List, ◌∷◌, length, drop, get_or, Result, ap, ◌∙◌, arith}
use Rattle.std.proofs.Math.Seq.{drop-cons}
use Rattle.std.proofs.lemmas.List.{drop_all}
use Rattle.conf_text.specs.declared.refusal.ConfRefusal.{ConfRefusal}
use Rattle.conf_text.specs.declared.refusal.ConfRefusal.TheVariants.{NoMemory, BadToken, Unclosed, DuplicateKey, NumberTooWide, TooDeep}
use Rattle.conf_text.specs.ReaderViews.{Fails}
use Rattle.conf_text.specs.Reader.{Reader, Read, ◌>>=◌, step, outcome, ended}

pub outcome-drop : (text : List ℕ) (at : ℕ) (r : Reader) → at < length text
    → outcome at r (drop at text) ≡ (step at (get_or text at 0) r >>= λ s. outcome (at + 1) s (drop (at + 1) text))
unfolding outcome
outcome-drop text at r h =
    let next : suc at ≡ at + 1 = omega arith in
    ap (outcome at r) (drop-cons text at 0 h ∙ ap (λ n. get_or text at 0 ∷ drop n text) next)

pub outcome-end : (text : List ℕ) (at : ℕ) (r : Reader) → length text ≤ at → outcome at r (drop at text) ≡ ended at r
unfolding outcome
outcome-end text at r h = ap (outcome at r) (drop_all at text h)

pub fails_on : {A : Type 0} (e : ConfRefusal) (x : Read) (f : Reader → Result A ConfRefusal) → Fails e x → Fails e (x >>= f)
fails_on NoMemory x f h = tt
fails_on (BadToken p) x f h = ap (λ y. y >>= f) h
fails_on (Unclosed p) x f h = ap (λ y. y >>= f) h
fails_on (DuplicateKey p) x f h = ap (λ y. y >>= f) h
fails_on (NumberTooWide p) x f h = ap (λ y. y >>= f) h
fails_on (TooDeep p) x f h = ap (λ y. y >>= f) h
