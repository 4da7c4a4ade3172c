-- A sector that is filled from its front on, with zeros behind.
use Rattle.std.proofs.Common.{◌≡◌, ℕ, ◌+◌, ◌-◌, ◌≤◌, List, [], ◌++◌, length, take, drop, replicate, sym, ap, ◌∙◌, arith}
use Rattle.std.proofs.lemmas.List.{append-nil, append_assoc, length-append, length-replicate, length-take-le, drop_all}
use Rattle.std.proofs.lemmas.List.{replicate-append-replicate}
use Rattle.sector_base.specs.Fields.{with_bytes}
use Rattle.pv_header.proofs.Placed.{with_bytes-zeros}

-- the sector begins with these bytes, and is zero from the place on
pub record Fills (sector front : List ℕ) (place : ℕ) : Type 0 where
  pub bytes : sector ≡ front ++ replicate (512 - place) 0
  pub front_len : length front ≡ place

-- zeros up to the end
pub Fills-zeroed : (old new : List ℕ) → length old ≡ 512 → new ≡ with_bytes old 32 (replicate 480 0) → Fills new (take 32 old) 32
Fills-zeroed old new size e =
    let none : drop 512 old ≡ [] = drop_all 512 old (omega arith) in
    record {
      bytes = e ∙ ap (λ (rest : List ℕ). take 32 old ++ replicate 480 0 ++ rest) none ∙ append-nil (take 32 old ++ replicate 480 0);
      front_len = length-take-le 32 old (omega arith);
    }

-- bytes put at the place
pub Fills-put : (old front : List ℕ) (place : ℕ) (new bs : List ℕ) (next : ℕ) → Fills old front place → new ≡ with_bytes old place bs
    → next ≡ place + length bs → next ≤ 512
    → Fills new (front ++ bs) next
Fills-put old front place new bs next fills e n h =
    let left : 512 - place - length bs ≡ 512 - next = omega arith in
    record {
      bytes =
          e ∙ ap (λ s. with_bytes s place bs) fills.bytes ∙ with_bytes-zeros front (512 - place) place bs fills.front_len (omega arith)
          ∙ ap (λ m. front ++ bs ++ replicate m 0) left;
      front_len = omega (arith, length-append front bs, fills.front_len);
    }

skipped : (front : List ℕ) (all n rest : ℕ) → all ≡ n + rest → front ++ replicate all 0 ≡ front ++ replicate n 0 ++ replicate rest 0
skipped front all n rest e =
    ap (λ m. front ++ replicate m 0) e ∙ ap (λ (zs : List ℕ). front ++ zs) (sym (replicate-append-replicate n rest 0))
    ∙ sym (append_assoc front (replicate n 0) (replicate rest 0))

-- zeros passed over
pub Fills-skip : (sector front : List ℕ) (place n next : ℕ) → Fills sector front place → next ≡ place + n → next ≤ 512
    → Fills sector (front ++ replicate n 0) next
Fills-skip sector front place n next fills e h =
    let left : 512 - place ≡ n + (512 - next) = omega arith in
    record {
      bytes = fills.bytes ∙ skipped front (512 - place) n (512 - next) left;
      front_len = omega (arith, length-append front (replicate n 0), length-replicate {A = ℕ} n 0, fills.front_len);
    }
