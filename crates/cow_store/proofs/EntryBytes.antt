-- A sector of the table once an entry was put into it.
use Rattle.std.proofs.Common.{◌≡◌, ◌≤◌, ◌<◌, ℕ, ◌+◌, ◌-◌, ◌^◌, List, ◌++◌, length, take, drop, sym, ap, ◌∙◌, arith}
use Rattle.std.proofs.Common.{append_assoc, length-append}
use Rattle.std.proofs.lemmas.List.{drop-drop, drop-take, drop_at, length-take-le, take_at}
use Rattle.byteorder.specs.Numbers.{little_from-take}
use Rattle.sector_base.specs.Fields.{field, little_bytes, with_field}
use Rattle.sector_base.proofs.Puts.{field-at, length-little_bytes}

module _ (sector : List ℕ) (at value : ℕ) (fits : at + 8 ≤ length sector) where
  front : length (take at sector) ≡ at
  front = length-take-le at sector (omega (arith, fits))

  bytes : length (little_bytes 8 value) ≡ 8
  bytes = length-little_bytes 8 value

  -- the entry is read again
  pub field_put : value < 256 ^ 8 → field 8 (with_field 8 sector at value) at ≡ value
  field_put small =
      ap (λ (l : List ℕ). field 8 l at) (append_assoc (take at sector) (little_bytes 8 value)
      (drop (at + length (little_bytes 8 value)) sector))
      ∙ field-at (take at sector) 8 at value (drop (at + length (little_bytes 8 value)) sector) front small

  -- the bytes before it
  pub before : take at (with_field 8 sector at value) ≡ take at sector
  before =
      ap (take at) (append_assoc (take at sector) (little_bytes 8 value) (drop (at + length (little_bytes 8 value)) sector))
      ∙ take_at (take at sector) (little_bytes 8 value ++ drop (at + length (little_bytes 8 value)) sector) at front

  -- an entry before it
  pub field_before : (place : ℕ) → place + 8 ≤ at → field 8 (with_field 8 sector at value) place ≡ field 8 sector place
  field_before place le =
      let m : ℕ = at - place in
      let whole : place + m ≡ at = omega (arith, le) in
      let cut : (l : List ℕ) → take m (drop place l) ≡ drop place (take at l) =
      λ l. sym (drop-take place m l) ∙ ap (λ (n : ℕ). drop place (take n l)) whole in
      let same : take m (drop place (with_field 8 sector at value)) ≡ take m (drop place sector) =
      cut (with_field 8 sector at value) ∙ ap (drop place) before ∙ sym (cut sector) in
      sym (little_from-take 0 8 m (drop place (with_field 8 sector at value)) (omega (arith, le)))
      ∙ ap (λ (l : List ℕ). field 8 l 0) same
      ∙ little_from-take 0 8 m (drop place sector) (omega (arith, le))

  -- and one behind it
  pub field_behind : (place : ℕ) → at + 8 ≤ place → field 8 (with_field 8 sector at value) place ≡ field 8 sector place
  field_behind place le =
      let k : ℕ = place - (at + 8) in
      let place_is : place ≡ (at + 8) + k = omega (arith, le) in
      let long : length (take at sector ++ little_bytes 8 value) ≡ at + 8 =
      omega (arith, front, bytes, length-append (take at sector) (little_bytes 8 value)) in
      let end : at + length (little_bytes 8 value) ≡ at + 8 = omega (arith, bytes) in
      let rest : drop (at + 8) (with_field 8 sector at value) ≡ drop (at + 8) sector =
      drop_at (take at sector ++ little_bytes 8 value) (drop (at + length (little_bytes 8 value)) sector) (at + 8) long
      ∙ ap (λ (n : ℕ). drop n sector) end in
      ap (λ (l : List ℕ). field 8 l 0)
      (ap (λ (n : ℕ). drop n (with_field 8 sector at value)) place_is
      ∙ sym (drop-drop k (at + 8) (with_field 8 sector at value))
      ∙ ap (drop k) rest
      ∙ drop-drop k (at + 8) sector
      ∙ ap (λ (n : ℕ). drop n sector) (sym place_is))
