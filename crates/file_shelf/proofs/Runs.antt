-- Sectors in a run of bytes, as one more is copied.
use Rattle.std.proofs.Common.{◌≡◌, ◌≤◌, ◌<◌, ℕ, ◌+◌, ◌-◌, ◌*◌, ◌&&◌, List, [], ◌++◌, length, take, drop, slice_index_or, slice_set, nat_le}
use Rattle.std.proofs.Common.{nat_lt, if◌then◌else◌, sym, ap, subst, ◌∙◌, arith}
use Rattle.std.proofs.lemmas.List.{drop-take, drop_all, append-nil, get_or-set_same, get_or-set_other}
use Rattle.std.proofs.lemmas.Slice.{take-put_mid_below, between-put_mid}
use Rattle.std.proofs.lemmas.Grind.{common_steps}
use Rattle.std.proofs.lemmas.Bool.{cases_eq}
use borrow.Rule.Slice.PartMut.{put_mid}
use Rattle.sector_base.specs.Fields.{with_bytes}
use Rattle.file_shelf.specs.Bytes.{sector_of}

-- a write to one sector leaves the earlier ones
pub sector_of-earlier : (xs ys : List ℕ) (j k n : ℕ) → j < k → 512 * k ≤ length xs
    → sector_of (put_mid (512 * k) n xs ys) j ≡ sector_of xs j
sector_of-earlier xs ys j k n lt le =
    sym (drop-take (512 * j) 512 (put_mid (512 * k) n xs ys))
    ∙ ap (λ (l : List ℕ). drop (512 * j) l) (take-put_mid_below (512 * k) n xs ys (512 * j + 512) (omega arith) le)
    ∙ drop-take (512 * j) 512 xs

-- what is written to a sector
pub sector_of-written : (xs ys : List ℕ) (k n : ℕ) → 512 * k ≤ length xs → length ys ≡ 512 → sector_of (put_mid (512 * k) n xs ys) k ≡ ys
sector_of-written xs ys k n le len =
    let e : 512 * k + 512 - 512 * k ≡ 512 = omega arith in
    subst (λ (m : ℕ). take m (drop (512 * k) (put_mid (512 * k) n xs ys)) ≡ ys) e
    (between-put_mid (512 * k) n xs ys (512 * k + 512) le (omega arith))

-- a whole sector is put
pub with_bytes-whole : (old bytes : List ℕ) → length old ≡ 512 → length bytes ≡ 512 → with_bytes old 0 bytes ≡ bytes
with_bytes-whole old bytes len whole =
    ap (λ (l : List ℕ). bytes ++ l) (drop_all (0 + length bytes) old (omega arith)) ∙ append-nil bytes

-- one sector more is set
pub set_more : (xs : List (List ℕ)) (old copied : ℕ → List ℕ) (at k : ℕ) (x : List ℕ) → at + k < length xs → x ≡ copied k
    → ((s : ℕ) → slice_index_or xs s [] ≡ (if nat_le at s && nat_lt s (at + k) then copied (s - at) else old s))
    → (s : ℕ) → slice_index_or (slice_set xs (at + k) x) s [] ≡ (if nat_le at s && nat_lt s (at + (k + 1)) then copied (s - at) else old s)
set_more xs old copied at k x lt is so_far s = grind (arith, common_steps, so_far s, get_or-set_same, get_or-set_other, cases_eq s (at + k))
