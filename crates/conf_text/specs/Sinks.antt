-- Where a text is written.
use Rattle.std.specs.Prelude.{◌≡◌, ℕ, ◌+◌, ◌≤◌, ◌^◌, min, List, [], ◌++◌, length}
use Rattle.conf_text.specs.Entries.{Conf}
use Rattle.conf_text.specs.Printed.{printed}
use Rattle.std.proofs.Common.{sym, append_assoc, ◌∙◌, ap, arith}
use Rattle.std.proofs.lemmas.List.{append-nil, length-append}

-- to add nothing changes nothing, and to add one text after the other adds both
pub record SinkLaws {S : Type 0} (Adds : S → List ℕ → S → Type 0) : Type 0 where
  pub nothing : (a : S) → Adds a [] a
  pub both : {a b c : S} {xs ys : List ℕ} → Adds a xs b → Adds b ys c → Adds a (xs ++ ys) c

-- the entries are added, as they are printed
pub record Prints {S : Type 0} (Adds : S → List ℕ → S → Type 0) (old : S) (entries : Conf) (new : S) : Type 0 where
  pub text : Adds old (printed entries) new

-- the bytes stand after those that stood there
abbrev pub Follows : {S : Type 0} → (S → List ℕ) → S → List ℕ → S → Type 0
Follows items old bytes new = items new ≡ items old ++ bytes

-- such a sink keeps the laws
pub follows_laws : {S : Type 0} (items : S → List ℕ) → SinkLaws (Follows items)
follows_laws items = record {
  nothing = λ a. sym (append-nil (items a));
  both = λ {a} {b} {c} {xs} {ys} h k. k ∙ ap (λ front. front ++ ys) h ∙ append_assoc (items a) xs ys;
}

-- the bytes are counted, and the count stops at 2^62
abbrev pub CountsTo : ℕ → List ℕ → ℕ → Type 0
CountsTo old bytes new = old ≤ 2 ^ 62 → new ≡ min (old + length bytes) (2 ^ 62)

-- and so does a count
pub counted_laws : SinkLaws CountsTo
counted_laws = record {
  nothing = λ a within. omega arith;
  both = λ {a} {b} {c} {xs} {ys} h k within.
      let first : b ≡ min (a + length xs) (2 ^ 62) = h within in
      let then : c ≡ min (b + length ys) (2 ^ 62) = k (omega arith) in
      omega (arith, length-append xs ys);
}
