-- Tokens of a text, or a cause, are what is taken: so there is one outcome at most.
use Rattle.std.proofs.Common.{◌≡◌, ℕ, ◌+◌, Bool, true, false, List, [], ◌∷◌, ◌++◌, length, Option, Some, None, Ok, Err, refl, sym, ap, ◌∙◌}
use Rattle.std.proofs.Common.{append_assoc, inl, inr, arith}
use Rattle.std.specs.Prelude.{if◌then◌else◌, IsSome}
use Rattle.std.specs.List.{list_all}
use Rattle.std.specs.Option.{option_and_then}
use Rattle.std.proofs.lemmas.List.{append-nil, length-append}
use Rattle.conf_text.specs.declared.kind.Kind.{Kind}
use Rattle.conf_text.specs.declared.refusal.ConfRefusal.{ConfRefusal}
use Rattle.conf_text.specs.declared.refusal.ConfRefusal.TheVariants.{BadToken, Unclosed}
use Rattle.conf_text.specs.declared.token.Token.{Token}
use Rattle.conf_text.specs.declared.token.TokenKind.{TokenKind}
use Rattle.conf_text.specs.declared.token.TokenKind.TheVariants.{Word, Text, Mark}
use Rattle.conf_text.specs.Bytes.{kind}
use Rattle.conf_text.specs.Grammar.{is_name, EndsWord, gap_byte, after_gap, is_escaped, is_allowed, IsContent, escaped}
use Rattle.conf_text.specs.Scan.{Mode, Between, InWord, InString, is_quote, closes, token, string_byte, with_tokens, scan}
use Rattle.conf_text.specs.Tokens.{IsTokenBytes, EndsToken, BeginsToken, BeginsTokens, AreTokens, may_stand, may_stand_in_string, inside}
use Rattle.conf_text.specs.Tokens.{IsBadBetween, IsBadInString, IsCutString, Stops, StopsAfterTokens}
use Rattle.conf_text.proofs.KindTests.{bad_no_gap, bad_no_name, bad_no_quote, bad_no_mark, plain_no_quote, plain_goes_on, not_allowed_stops}
use Rattle.conf_text.proofs.KindTests.{not_allowed_no_quote}
use Rattle.conf_text.proofs.Steps.{both_true, kind-quote, kind-backslash}
use Rattle.conf_text.proofs.ScanBytes.{with_none, with_more, scan_none, gap_goes, comment_stuck, word_begins, string_begins, mark_taken}
use Rattle.conf_text.proofs.ScanBytes.{nothing_begins, word_goes, word_stops, string_goes, string_stuck, string_closes}

-- what is taken at a place that is said otherwise
elsewhere : (mode : Mode) (at to : ℕ) (rest : List ℕ) → at ≡ to → scan mode at rest ≡ scan mode to rest
elsewhere mode at to rest e = ap (λ n. scan mode n rest) e

-- ---- runs of bytes

gap_head : (o : Option Bool) (b : ℕ) (gap rest : List ℕ) (c d : Bool) (at : ℕ)
    → ((e : Bool) → after_gap e gap ≡ Some d → scan (Between e) (at + 1) (gap ++ rest) ≡ scan (Between d) (at + 1 + length gap) rest)
    → gap_byte c (kind b) ≡ o → option_and_then (λ next. after_gap next gap) o ≡ Some d
    → scan (Between c) at (b ∷ (gap ++ rest)) ≡ scan (Between d) (at + length (b ∷ gap)) rest
gap_head None b gap rest c d at later is goes = absurd cc
gap_head (Some e) b gap rest c d at later is goes =
    gap_goes at b (gap ++ rest) c e is ∙ later e goes ∙ elsewhere (Between d) _ _ rest (omega arith)

gap_run : (gap rest : List ℕ) (c d : Bool) (at : ℕ) → after_gap c gap ≡ Some d
    → scan (Between c) at (gap ++ rest) ≡ scan (Between d) (at + length gap) rest
gap_run [] rest c d at e =
    let same : c ≡ d = cc in
    ap (λ m. scan (Between m) at rest) same ∙ elsewhere (Between d) _ _ rest (omega arith)
gap_run (b ∷ gap) rest c d at e = gap_head (gap_byte c (kind b)) b gap rest c d at (λ f. gap_run gap rest f d (at + 1)) refl e

word_run : (word rest : List ℕ) (from at : ℕ) → list_all (λ b. is_name (kind b)) word ≡ true
    → scan (InWord from) at (word ++ rest) ≡ scan (InWord from) (at + length word) rest
word_run [] rest from at e = elsewhere (InWord from) _ _ rest (omega arith)
word_run (b ∷ word) rest from at e =
    let (first, others) = both_true (is_name (kind b)) _ e in
    word_goes at b (word ++ rest) from first ∙ word_run word rest from (at + 1) others ∙ elsewhere (InWord from) _ _ rest (omega arith)

word_ends : (rest : List ℕ) (from at : ℕ) → EndsWord rest
    → scan (InWord from) at rest ≡ with_tokens (token from at Word ∷ []) (scan (Between false) at rest)
word_ends [] from at e = scan_none (InWord from) at ∙ ap (with_tokens (token from at Word ∷ [])) (sym (scan_none (Between false) at))
word_ends (b ∷ rest) from at e = word_stops at b rest from e

quote_begins : (at : ℕ) (bs : List ℕ) → scan (Between false) at (34 ∷ bs) ≡ scan (InString false at) (at + 1) bs
quote_begins at bs = string_begins at 34 bs (ap is_quote kind-quote)

slash_goes : (from at : ℕ) (bs : List ℕ) → scan (InString false from) at (92 ∷ bs) ≡ scan (InString true from) (at + 1) bs
slash_goes from at bs = string_goes at 92 bs false true from (ap (closes false) kind-backslash) (ap (string_byte false) kind-backslash)

quote_closes : (from at : ℕ) (bs : List ℕ)
    → scan (InString false from) at (34 ∷ bs) ≡ with_tokens (token from (at + 1) Text ∷ []) (scan (Between false) (at + 1) bs)
quote_closes from at bs = string_closes at 34 bs false from (ap (closes false) kind-quote)

string_head : (c : Bool) (b : ℕ) (content rest : List ℕ) (from at : ℕ) → is_escaped (kind b) ≡ c → is_allowed (kind b) ≡ true
    → ((n : ℕ) → scan (InString false from) n (escaped content ++ rest) ≡ scan (InString false from) (n + length (escaped content)) rest)
    → scan (InString false from) at ((if c then 92 ∷ b ∷ escaped content else b ∷ escaped content) ++ rest)
    ≡ scan (InString false from) (at + length (if c then 92 ∷ b ∷ escaped content else b ∷ escaped content)) rest
string_head true b content rest from at is allowed later =
    let goes : string_byte true (kind b) ≡ Some false = rw is refl in
    slash_goes from at (b ∷ (escaped content ++ rest)) ∙ string_goes (at + 1) b (escaped content ++ rest) true false from refl goes
    ∙ later (at + 1 + 1) ∙ elsewhere (InString false from) _ _ rest (omega arith)
string_head false b content rest from at is allowed later =
    string_goes at b (escaped content ++ rest) false false from (plain_no_quote (kind b) is) (plain_goes_on (kind b) is allowed)
    ∙ later (at + 1) ∙ elsewhere (InString false from) _ _ rest (omega arith)

string_run : (content rest : List ℕ) (from at : ℕ) → IsContent content
    → scan (InString false from) at (escaped content ++ rest) ≡ scan (InString false from) (at + length (escaped content)) rest
string_run [] rest from at e = elsewhere (InString false from) _ _ rest (omega arith)
string_run (b ∷ content) rest from at e =
    let (first, others) = both_true (is_allowed (kind b)) _ e in
    string_head (is_escaped (kind b)) b content rest from at refl first (λ n. string_run content rest from n others)

-- a string so far, from its quote on
open_run : (content rest : List ℕ) (slash : Bool) (at : ℕ) → IsContent content
    → scan (Between false) at (34 ∷ (inside content slash ++ rest)) ≡ scan (InString slash at) (at + 1 + length (inside content slash)) rest
open_run content rest false at e = quote_begins at (escaped content ++ rest) ∙ string_run content rest at (at + 1) e
open_run content rest true at e =
    quote_begins at ((escaped content ++ 92 ∷ []) ++ rest)
    ∙ ap (scan (InString false at) (at + 1)) (append_assoc (escaped content) (92 ∷ []) rest)
    ∙ string_run content (92 ∷ rest) at (at + 1) e ∙ slash_goes at (at + 1 + length (escaped content)) rest
    ∙ elsewhere (InString true at) _ _ rest (omega (arith, length-append (escaped content) (92 ∷ [])))

-- ---- tokens

token_taken : (k : TokenKind) (bytes rest : List ℕ) (at : ℕ) → IsTokenBytes k bytes → EndsToken k rest
    → scan (Between false) at (bytes ++ rest)
    ≡ with_tokens (token at (at + length bytes) k ∷ []) (scan (Between false) (at + length bytes) rest)
token_taken Word [] rest at e ends = absurd (e.0 refl)
token_taken Word (b ∷ word) rest at e ends =
    let (first, others) = both_true (is_name (kind b)) _ e.1 in
    word_begins at b (word ++ rest) first ∙ word_run word rest at (at + 1) others
    ∙ elsewhere (InWord at) _ (at + length (b ∷ word)) rest (omega arith)
    ∙ word_ends rest at (at + length (b ∷ word)) ends
token_taken Text bytes rest at e ends =
    let (content, allowed, is) = e in
    let long : at + 1 + length (escaped content) + 1 ≡ at + length bytes =
    rw is (omega (arith, length-append (escaped content) (34 ∷ []))) in
    let regrouped : bytes ++ rest ≡ 34 ∷ (inside content false ++ 34 ∷ rest) = rw is (simp append_assoc refl) in
    ap (scan (Between false) at) regrouped ∙ open_run content (34 ∷ rest) false at allowed
    ∙ quote_closes at (at + 1 + length (escaped content)) rest
    ∙ ap (λ n. with_tokens (token at n Text ∷ []) (scan (Between false) n rest)) long
token_taken Mark bytes rest at e ends =
    let (b, mark, is) = e in
    rw is (mark_taken at b rest mark)

token_comes : (start : ℕ) (text : List ℕ) (t : Token) (rest : List ℕ) → BeginsToken start text t rest
    → scan (Between false) start text ≡ with_tokens (t ∷ []) (scan (Between false) t.to rest)
token_comes start text t rest h =
    let place : start + length h.gap + length h.bytes ≡ t.to = omega (arith, h.from_is, h.to_is) in
    ap (scan (Between false) start) h.text_is ∙ gap_run h.gap (h.bytes ++ rest) false false start h.gap_is
    ∙ token_taken t.kind h.bytes rest (start + length h.gap) h.bytes_are h.ends
    ∙ ap (λ n. with_tokens (token (start + length h.gap) n t.kind ∷ []) (scan (Between false) n rest)) place
    ∙ ap (λ n. with_tokens (token n t.to t.kind ∷ []) (scan (Between false) t.to rest)) (sym h.from_is)

token_length : (start : ℕ) (text : List ℕ) (t : Token) (rest : List ℕ) → BeginsToken start text t rest
    → t.to + length rest ≡ start + length text
token_length start text t rest h =
    omega (arith, h.from_is, h.to_is, ap length h.text_is, length-append h.gap (h.bytes ++ rest), length-append h.bytes rest)

tokens_come : (tokens : List Token) (start at : ℕ) (text rest : List ℕ) → BeginsTokens start text tokens rest
    → at + length rest ≡ start + length text → scan (Between false) start text ≡ with_tokens tokens (scan (Between false) at rest)
tokens_come [] start at text rest h place =
    let here : start ≡ at = omega (arith, ap length h) in
    ap (scan (Between false) start) h ∙ elsewhere (Between false) start at rest here ∙ sym (with_none _)
tokens_come (t ∷ ts) start at text rest h place =
    let (more, first, others) = h in
    let there : at + length rest ≡ t.to + length more = omega (arith, token_length start text t more first) in
    token_comes start text t more first ∙ ap (with_tokens (t ∷ [])) (tokens_come ts t.to at more rest others there) ∙ sym (with_more t ts _)

tokens_place : (tokens : List Token) (start : ℕ) (text rest : List ℕ) → BeginsTokens start text tokens rest
    → (at : ℕ) × (at + length rest ≡ start + length text)
tokens_place [] start text rest h = (start, ap (λ s. start + length s) (sym h))
tokens_place (t ∷ ts) start text rest h =
    let (more, first, others) = h in
    let (at, place) = tokens_place ts t.to more rest others in
    (at, place ∙ token_length start text t more first)

last_gap : (gap : List ℕ) (o : Option Bool) (at : ℕ) → after_gap false gap ≡ o → IsSome o → scan (Between false) at gap ≡ Ok []
last_gap gap None at e some = absurd cc
last_gap gap (Some d) at e some =
    ap (scan (Between false) at) (sym (append-nil gap)) ∙ gap_run gap [] false d at e ∙ scan_none (Between d) (at + length gap)

-- the tokens of a text are taken
pub are_taken : (start : ℕ) (text : List ℕ) (tokens : List Token) → AreTokens start text tokens
    → scan (Between false) start text ≡ Ok tokens
are_taken start text tokens h =
    let (at, place) = tokens_place tokens start text h.gap h.begun in
    tokens_come tokens start at text h.gap h.begun place ∙ ap (with_tokens tokens) (last_gap h.gap (after_gap false h.gap) at refl h.ended)
    ∙ ap Ok (append-nil tokens)

-- ---- causes

bad_byte : (comment : Bool) (at b : ℕ) (bs : List ℕ) → may_stand comment (kind b) ≡ false
    → scan (Between comment) at (b ∷ bs) ≡ Err (BadToken at)
bad_byte true at b bs e = comment_stuck at b bs true refl (bad_no_gap true (kind b) e)
bad_byte false at b bs e =
    nothing_begins at b bs (bad_no_gap false (kind b) e) (bad_no_name (kind b) e) (bad_no_quote (kind b) e) (bad_no_mark (kind b) e)

bad_between_taken : (start : ℕ) (text : List ℕ) (place : ℕ) → IsBadBetween start text place
    → scan (Between false) start text ≡ Err (BadToken place)
bad_between_taken start text place h =
    ap (scan (Between false) start) h.text_is ∙ gap_run h.gap (h.byte ∷ h.more) false h.comment start h.gap_is
    ∙ bad_byte h.comment (start + length h.gap) h.byte h.more h.bad ∙ ap (λ n. Err (BadToken n)) (sym h.place_is)

closed_not : (slash : Bool) (k : Kind) → may_stand_in_string slash k ≡ false → closes slash k ≡ false
closed_not true k e = refl
closed_not false k e = not_allowed_no_quote k e

stuck_not : (slash : Bool) (k : Kind) → may_stand_in_string slash k ≡ false → string_byte slash k ≡ None
stuck_not true k e = rw e refl
stuck_not false k e = not_allowed_stops k e

bad_in_string_taken : (start : ℕ) (text : List ℕ) (place : ℕ) → IsBadInString start text place
    → scan (Between false) start text ≡ Err (BadToken place)
bad_in_string_taken start text place h =
    let at = start + length h.gap in
    ap (scan (Between false) start) h.text_is
    ∙ gap_run h.gap (34 ∷ (inside h.content h.slash ++ h.byte ∷ h.more)) false false start h.gap_is
    ∙ open_run h.content (h.byte ∷ h.more) h.slash at h.content_is
    ∙ string_stuck (at + 1 + length (inside h.content h.slash)) h.byte h.more h.slash at (closed_not h.slash (kind h.byte) h.bad)
    (stuck_not h.slash (kind h.byte) h.bad)
    ∙ ap (λ n. Err (BadToken n)) (sym h.place_is)

cut_string_taken : (start : ℕ) (text : List ℕ) (place : ℕ) → IsCutString start text place
    → scan (Between false) start text ≡ Err (Unclosed place)
cut_string_taken start text place h =
    let at = start + length h.gap in
    ap (scan (Between false) start) (h.text_is ∙ ap (λ s. h.gap ++ 34 ∷ s) (sym (append-nil (inside h.content h.slash))))
    ∙ gap_run h.gap (34 ∷ (inside h.content h.slash ++ [])) false false start h.gap_is
    ∙ open_run h.content [] h.slash at h.content_is ∙ scan_none (InString h.slash at) (at + 1 + length (inside h.content h.slash))
    ∙ ap (λ n. Err (Unclosed n)) (sym h.place_is)

stop_taken : (start : ℕ) (text : List ℕ) (e : ConfRefusal) → Stops start text e → scan (Between false) start text ≡ Err e
stop_taken start text (BadToken place) (inl h) = bad_between_taken start text place h
stop_taken start text (BadToken place) (inr h) = bad_in_string_taken start text place h
stop_taken start text (Unclosed place) h = cut_string_taken start text place h
stop_taken start text _ h = absurd h

-- and a cause is
pub stops_taken : (start : ℕ) (text : List ℕ) (e : ConfRefusal) → StopsAfterTokens start text e → scan (Between false) start text ≡ Err e
stops_taken start text e h =
    tokens_come h.before start h.at text h.rest h.begun h.at_is ∙ ap (with_tokens h.before) (stop_taken h.at h.rest e h.stops)
