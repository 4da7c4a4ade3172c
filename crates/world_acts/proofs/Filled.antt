-- Sectors that are copied into the buffer of a line that reads are put at their place in it.
use Rattle.std.proofs.Common.{◌≡◌, ◌≤◌, ◌<◌, ℕ, ◌+◌, ◌-◌, Bool, true, cond, nat_le, nat_lt, ◌&&◌, List, ◌++◌, [], length, get_or, set}
use Rattle.std.proofs.Common.{take, drop, Option, None, Some, is_some, inl, inr, sym, ap, subst, ◌∙◌, arith}
use Rattle.std.proofs.lemmas.Bool.{cases_lt, le-leb, le-ltb, lt-leb, lt-ltb}
use Rattle.std.proofs.lemmas.List.{ext_get_or, get_or-append_right, get_or-drop}
use Rattle.std.proofs.lemmas.List.{get_or-take, get_or_append_left, get_or_default, length-append}
use Rattle.std.proofs.lemmas.List.{length-drop, length-take}
use Rattle.line_table.specs.Machine.{put_at}
use Rattle.world_acts.specs.declared.open_line.OpenLine.{OpenLine}
use Rattle.world_acts.specs.declared.open_line.Work.{Work}
use Rattle.world_acts.specs.declared.open_line.Work.TheVariants.{Read}
use Rattle.world_acts.specs.OpenLines.{Opens, after_filled, filled, fits_read, open_at, open_of, with_open}
use Rattle.world_acts.proofs.LinesKept.{open_is, open_within}
use Rattle.world_acts.proofs.Tables.{some_of}

module _ (first : ℕ) (values buffer : List (List ℕ)) (fits : first + length values ≤ length buffer) where
  front_len : length (take first buffer) ≡ first
  front_len = omega (arith, length-take first buffer, fits)

  both_len : length (take first buffer ++ values) ≡ first + length values
  both_len = omega (arith, length-append (take first buffer) values, front_len)

  pub all_len : length (put_at first values buffer) ≡ length buffer
  all_len =
      omega (
        arith,
        length-append (take first buffer ++ values) (drop (first + length values) buffer),
        both_len,
        length-drop (first + length values) buffer,
        fits,
      )

  pub before_put : (k : ℕ) → k < first → get_or buffer k [] ≡ get_or (put_at first values buffer) k []
  before_put k lt =
      sym (get_or_append_left (take first buffer ++ values) (drop (first + length values) buffer) [] k (omega (arith, both_len, lt))
      ∙ get_or_append_left (take first buffer) values [] k (omega (arith, front_len, lt)) ∙ get_or-take first buffer k [] lt)

  pub in_put : (k : ℕ) → first ≤ k → k < first + length values → get_or values (k - first) [] ≡ get_or (put_at first values buffer) k []
  in_put k le lt =
      sym (get_or_append_left (take first buffer ++ values) (drop (first + length values) buffer) [] k (omega (arith, both_len, lt))
      ∙ get_or-append_right (take first buffer) values first k [] front_len le)

  pub behind_put : (k : ℕ) → first + length values ≤ k → get_or buffer k [] ≡ get_or (put_at first values buffer) k []
  behind_put k le =
      let n : ℕ = first + length values in
      let there : n + (k - n) ≡ k = omega (arith, le) in
      sym (get_or-append_right (take first buffer ++ values) (drop n buffer) n k [] both_len le
      ∙ get_or-drop n buffer (k - n) [] ∙ ap (λ (m : ℕ). get_or buffer m []) there)

  put_is : (new : List (List ℕ)) → length new ≡ length buffer
      → ((k : ℕ) → get_or new k []
      ≡ cond (nat_le first k && nat_lt k (first + length values)) (get_or values (k - first) []) (get_or buffer k []))
      → new ≡ put_at first values buffer
  put_is new same each = ext_get_or [] new (put_at first values buffer) (same ∙ sym all_len) (λ k within. each k ∙ at k)
    where
      at : (k : ℕ)
          → cond (nat_le first k && nat_lt k (first + length values)) (get_or values (k - first) []) (get_or buffer k [])
          ≡ get_or (put_at first values buffer) k []
      at k = elim (cases_lt k first) [
        | inl low ↦
            ap (λ (b : Bool). cond (b && nat_lt k (first + length values)) (get_or values (k - first) []) (get_or buffer k []))
            (lt-leb first k low) ∙ before_put k low
        | inr high ↦
            ap (λ (b : Bool). cond (b && nat_lt k (first + length values)) (get_or values (k - first) []) (get_or buffer k []))
            (le-leb first k high)
            ∙ elim (cases_lt k (first + length values)) [
              | inl low ↦
                  ap (λ (b : Bool). cond b (get_or values (k - first) []) (get_or buffer k [])) (lt-ltb k (first + length values) low)
                  ∙ in_put k high low
              | inr far ↦
                  ap (λ (b : Bool). cond b (get_or values (k - first) []) (get_or buffer k [])) (le-ltb k (first + length values) far)
                  ∙ behind_put k far
            ]
      ]

-- the open line whose buffer was written is the line filled
pub view_filled : (list : List (Option OpenLine)) (spare : ℕ) (old : Opens) (line first count : ℕ) (sectors : List (List ℕ))
    (o : Option OpenLine) (p : OpenLine) (start : ℕ) (buffer new : List (List ℕ))
    → ◌≡◌ {A = Opens} (record { list = list; spare = spare }) old
    → is_some (open_at old line) ≡ true
    → fits_read (open_of old line).work first (length sectors)
    → o ≡ get_or list line o
    → o ≡ Some p
    → p.work ≡ Read start buffer
    → count ≡ length sectors
    → length new ≡ length buffer
    → ((k : ℕ) → get_or new k []
    ≡ cond (nat_le (first - start) k && nat_lt k (first - start + count)) (get_or sectors (k - (first - start)) []) (get_or buffer k []))
    → ◌≡◌ {A = Opens} (record { list = set list line (Some (record p { work = Read start new })); spare = spare })
    (after_filled old line first sectors)
view_filled list spare old line first count sectors o p start buffer new view some fits there is reads many long each =
    let opens : Opens = record { list = list; spare = spare } in
    let some' : is_some (open_at opens line) ≡ true = ap (λ (x : Opens). is_some (open_at x line)) view ∙ some in
    let found : (x : OpenLine) × (open_at opens line ≡ Some x) = some_of (open_at opens line) some' in
    let at : open_at opens line ≡ Some p =
    get_or_default list line None o (open_within opens line found.0 found.1) ∙ sym there ∙ is in
    let own : open_of opens line ≡ p = open_is opens line p at in
    let fits' : fits_read (Read start buffer) first (length sectors) =
    subst (λ (w : Work). fits_read w first (length sectors)) (ap (λ (x : OpenLine). x.work) own ∙ reads)
    (subst (λ (x : Opens). fits_read (open_of x line).work first (length sectors)) (sym view) fits) in
    let put : new ≡ put_at (first - start) sectors buffer =
    put_is (first - start) sectors buffer (omega (arith, fits'.0, fits'.1)) new long
    (subst (λ (n : ℕ). (k : ℕ) → get_or new k []
    ≡ cond (nat_le (first - start) k && nat_lt k (first - start + n)) (get_or sectors (k - (first - start)) []) (get_or buffer k []))
    many each) in
    let work : Read start new ≡ filled p.work first sectors =
    ap (λ (b : List (List ℕ)). Read start b) put ∙ sym (ap (λ (w : Work). filled w first sectors) reads) in
    subst (λ (x : Opens). ◌≡◌ {A = Opens} (record { list = set list line (Some (record p { work = Read start new })); spare = spare })
    (after_filled x line first sectors)) view
    (subst (λ (x : OpenLine). ◌≡◌ {A = Opens}
    (record { list = set list line (Some (record p { work = Read start new })); spare = spare })
    (with_open opens line (record x { work = filled x.work first sectors }))) (sym own)
    (ap (λ (w : Work). with_open opens line (record p { work = w })) work))
