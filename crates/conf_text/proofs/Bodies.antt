-- Where the body of a section ends, and what stands after it.
use Rattle.std.proofs.Common.{◌≡◌, ℕ, zero, suc, ◌+◌, ◌<◌, List, [], ◌∷◌, length, get_or, map, take, drop, refl, sym, ap, ◌∙◌, arith}
use Rattle.std.proofs.Common.{add-one}
use Rattle.conf_text.specs.Entries.{ConfEntry, Open, Close, Assign}
use Rattle.conf_text.specs.Items.{body_from, items_from, items}

-- the element at a place of what is seen, and what stands after it
pub seen_at : {X Y : Type 0} (f : X → Y) (xs : List X) (at : ℕ) (x : X) → at < length xs → x ≡ get_or xs at x
    → drop at (map f xs) ≡ f x ∷ drop (at + 1) (map f xs)
seen_at f [] at x h e = absurd (omega arith)
seen_at f (y ∷ xs) zero x h e = rw e refl
seen_at f (y ∷ xs) (suc at) x h e = rw add-one (seen_at f xs at x (omega arith) e ∙ rw add-one refl)

-- the body is what stands before its end
pub body_taken : (deep : ℕ) (es : List ConfEntry) → body_from deep es ≡ take (length (body_from deep es)) es
body_taken deep [] = refl
body_taken zero (Close ∷ es) = refl
body_taken (suc deep) (Close ∷ es) = ap (λ b. Close ∷ b) (body_taken deep es)
body_taken deep (Open name ∷ es) = ap (λ b. Open name ∷ b) (body_taken (suc deep) es)
body_taken deep (Assign name value ∷ es) = ap (λ b. Assign name value ∷ b) (body_taken deep es)

-- what a section has after a body is what stands after the body's end
pub items_after : (deep : ℕ) (es : List ConfEntry) → items_from (suc deep) es ≡ items_from 0 (drop (length (body_from deep es)) es)
items_after deep [] = refl
items_after zero (Close ∷ es) = refl
items_after (suc deep) (Close ∷ es) = items_after deep es
items_after deep (Open name ∷ es) = items_after (suc deep) es
items_after deep (Assign name value ∷ es) = items_after deep es

-- a body ends at its brace
pub body_ends : {e : ConfEntry} {rest : List ConfEntry} (deep at : ℕ) (es : List ConfEntry) → drop at es ≡ e ∷ rest → e ≡ Close → deep ≡ 0
    → at + length (body_from deep (drop at es)) ≡ length (body_from 0 es) → at ≡ length (body_from 0 es)
body_ends deep at es here close outer so_far =
    let shut : body_from deep (drop at es) ≡ [] = rw (here, close, outer) refl in
    omega (arith, ap length shut)

-- and goes on by each other entry
pub body_goes_on : {e : ConfEntry} (deep next at : ℕ) (es : List ConfEntry) → drop at es ≡ e ∷ drop (at + 1) es
    → body_from deep (e ∷ drop (at + 1) es) ≡ e ∷ body_from next (drop (at + 1) es)
    → at + length (body_from deep (drop at es)) ≡ length (body_from 0 es)
    → at + 1 + length (body_from next (drop (at + 1) es)) ≡ length (body_from 0 es)
body_goes_on deep next at es here step so_far =
    let longer : length (body_from deep (drop at es)) ≡ suc (length (body_from next (drop (at + 1) es))) = rw here (ap length step) in
    omega arith

-- a brace that closes nothing gives a section nothing
pub items_go_on : {e : ConfEntry} (at : ℕ) (es : List ConfEntry) → drop at es ≡ e ∷ drop (at + 1) es → e ≡ Close
    → items (drop at es) ≡ items es → items (drop (at + 1) es) ≡ items es
items_go_on at es here close so_far =
    let skips : items (drop at es) ≡ items (drop (at + 1) es) = rw (here, close) refl in
    sym skips ∙ so_far
