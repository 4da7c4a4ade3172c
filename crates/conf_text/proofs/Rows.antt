-- The definitions tried on texts.
use Rattle.std.proofs.Common.{◌≡◌, [], ◌∷◌, Ok, Err, refl}
use Rattle.conf_text.specs.declared.refusal.ConfRefusal.TheVariants.{BadToken, Unclosed, DuplicateKey, NumberTooWide, TooDeep}
use Rattle.conf_text.specs.Entries.{Number, Text, One, Many, Open, Close, Assign}
use Rattle.conf_text.specs.Bytes.{kind}
use Rattle.conf_text.specs.Grammar.{IsTextOf}
use Rattle.conf_text.specs.Reader.{reading, outcome, step, ended}
use Rattle.conf_text.specs.Refusals.{IsBadToken, IsUnclosed, IsDuplicate}
use Rattle.conf_text.proofs.Causes.{refused_cause, read_text}

-- 'a {'
open_brace : reading (97 ∷ 32 ∷ 123 ∷ []) ≡ Err (Unclosed 2)
unfolding outcome step ended kind
open_brace = refl

-- 'a{a{a{a{a{a{a{a{a{a{a{a{a{a{a{a{a{'
seventeen : reading (97 ∷ 123 ∷ 97 ∷ 123 ∷ 97 ∷ 123 ∷ 97 ∷ 123 ∷ 97 ∷ 123 ∷ 97 ∷ 123 ∷ 97 ∷ 123 ∷ 97 ∷ 123 ∷ 97 ∷ 123 ∷ 97 ∷ 123 ∷ 97 ∷ 123
    ∷ 97 ∷ 123 ∷ 97 ∷ 123 ∷ 97 ∷ 123 ∷ 97 ∷ 123 ∷ 97 ∷ 123 ∷ 97 ∷ 123 ∷ []) ≡ Err (TooDeep 33)
unfolding outcome step ended kind
seventeen = refl

-- 'a{a{a{a{a{a{a{a{a{a{a{a{a{a{a{a{}}}}}}}}}}}}}}}}'
sixteen : reading (97 ∷ 123 ∷ 97 ∷ 123 ∷ 97 ∷ 123 ∷ 97 ∷ 123 ∷ 97 ∷ 123 ∷ 97 ∷ 123 ∷ 97 ∷ 123 ∷ 97 ∷ 123 ∷ 97 ∷ 123 ∷ 97 ∷ 123 ∷ 97 ∷ 123
    ∷ 97 ∷ 123 ∷ 97 ∷ 123 ∷ 97 ∷ 123 ∷ 97 ∷ 123 ∷ 97 ∷ 123 ∷ 125 ∷ 125 ∷ 125 ∷ 125 ∷ 125 ∷ 125 ∷ 125 ∷ 125 ∷ 125 ∷ 125 ∷ 125 ∷ 125 ∷ 125
    ∷ 125 ∷ 125 ∷ 125 ∷ []) ≡ Ok (Open (97 ∷ []) ∷ Open (97 ∷ []) ∷ Open (97 ∷ []) ∷ Open (97 ∷ []) ∷ Open (97 ∷ []) ∷ Open (97 ∷ [])
    ∷ Open (97 ∷ []) ∷ Open (97 ∷ []) ∷ Open (97 ∷ []) ∷ Open (97 ∷ []) ∷ Open (97 ∷ []) ∷ Open (97 ∷ []) ∷ Open (97 ∷ []) ∷ Open (97 ∷ [])
    ∷ Open (97 ∷ []) ∷ Open (97 ∷ []) ∷ Close ∷ Close ∷ Close ∷ Close ∷ Close ∷ Close ∷ Close ∷ Close ∷ Close ∷ Close ∷ Close ∷ Close
    ∷ Close ∷ Close ∷ Close ∷ Close ∷ [])
unfolding outcome step ended kind
sixteen = refl

-- 'a = [1,]'
comma_last : reading (97 ∷ 32 ∷ 61 ∷ 32 ∷ 91 ∷ 49 ∷ 44 ∷ 93 ∷ []) ≡ Err (BadToken 7)
unfolding outcome step ended kind
comma_last = refl

-- 'a = 1 a = 2'
twice : reading (97 ∷ 32 ∷ 61 ∷ 32 ∷ 49 ∷ 32 ∷ 97 ∷ 32 ∷ 61 ∷ 32 ∷ 50 ∷ []) ≡ Err (DuplicateKey 6)
unfolding outcome step ended kind
twice = refl

-- 'a = "x'
open_quote : reading (97 ∷ 32 ∷ 61 ∷ 32 ∷ 34 ∷ 120 ∷ []) ≡ Err (Unclosed 4)
unfolding outcome step ended kind
open_quote = refl

-- 'a ='
cut : reading (97 ∷ 32 ∷ 61 ∷ []) ≡ Err (BadToken 3)
unfolding outcome step ended kind
cut = refl

-- 'a\x00'
zero_byte : reading (97 ∷ 0 ∷ []) ≡ Err (BadToken 1)
unfolding outcome step ended kind
zero_byte = refl

-- ''
nothing : reading [] ≡ Ok []
unfolding outcome step ended kind
nothing = refl

-- 'a = [12 ]'
one_array : reading (97 ∷ 32 ∷ 61 ∷ 32 ∷ 91 ∷ 49 ∷ 50 ∷ 32 ∷ 93 ∷ []) ≡ Ok (Assign (97 ∷ []) (Many (Number 12 ∷ [])) ∷ [])
unfolding outcome step ended kind
one_array = refl

-- 'a=007#c\nb="x\\"\\\\"'
two_items : reading (97 ∷ 61 ∷ 48 ∷ 48 ∷ 55 ∷ 35 ∷ 99 ∷ 10 ∷ 98 ∷ 61 ∷ 34 ∷ 120 ∷ 92 ∷ 34 ∷ 92 ∷ 92 ∷ 34 ∷ [])
    ≡ Ok (Assign (97 ∷ []) (One (Number 7)) ∷ Assign (98 ∷ []) (One (Text (120 ∷ 34 ∷ 92 ∷ []))) ∷ [])
unfolding outcome step ended kind
two_items = refl

-- 'a=[#[\n] #'
empty_array : reading (97 ∷ 61 ∷ 91 ∷ 35 ∷ 91 ∷ 10 ∷ 93 ∷ 32 ∷ 35 ∷ []) ≡ Ok (Assign (97 ∷ []) (Many []) ∷ [])
unfolding outcome step ended kind
empty_array = refl

-- 'a=18446744073709551615'
widest : reading (97 ∷ 61 ∷ 49 ∷ 56 ∷ 52 ∷ 52 ∷ 54 ∷ 55 ∷ 52 ∷ 52 ∷ 48 ∷ 55 ∷ 51 ∷ 55 ∷ 48 ∷ 57 ∷ 53 ∷ 53 ∷ 49 ∷ 54 ∷ 49 ∷ 53 ∷ [])
    ≡ Ok (Assign (97 ∷ []) (One (Number 18446744073709551615)) ∷ [])
unfolding outcome step ended kind
widest = refl

-- 'a=[1, 18446744073709551616'
too_wide : reading (97 ∷ 61 ∷ 91 ∷ 49 ∷ 44 ∷ 32 ∷ 49 ∷ 56 ∷ 52 ∷ 52 ∷ 54 ∷ 55 ∷ 52 ∷ 52 ∷ 48 ∷ 55 ∷ 51 ∷ 55 ∷ 48 ∷ 57 ∷ 53 ∷ 53 ∷ 49 ∷ 54
    ∷ 49 ∷ 54 ∷ []) ≡ Err (NumberTooWide 6)
unfolding outcome step ended kind
too_wide = refl

-- 'a=99999999999999999999x'
word_after_digits : reading (97 ∷ 61 ∷ 57 ∷ 57 ∷ 57 ∷ 57 ∷ 57 ∷ 57 ∷ 57 ∷ 57 ∷ 57 ∷ 57 ∷ 57 ∷ 57 ∷ 57 ∷ 57 ∷ 57 ∷ 57 ∷ 57 ∷ 57 ∷ 57 ∷ 57
    ∷ 120 ∷ []) ≡ Err (BadToken 22)
unfolding outcome step ended kind
word_after_digits = refl

-- 'a=1 a\x00'
given_then_zero : reading (97 ∷ 61 ∷ 49 ∷ 32 ∷ 97 ∷ 0 ∷ []) ≡ Err (DuplicateKey 4)
unfolding outcome step ended kind
given_then_zero = refl

-- 'a{b=1 b'
given_inside : reading (97 ∷ 123 ∷ 98 ∷ 61 ∷ 49 ∷ 32 ∷ 98 ∷ []) ≡ Err (DuplicateKey 6)
unfolding outcome step ended kind
given_inside = refl

-- 'a{b=1}c{b=1}'
given_in_another : reading (97 ∷ 123 ∷ 98 ∷ 61 ∷ 49 ∷ 125 ∷ 99 ∷ 123 ∷ 98 ∷ 61 ∷ 49 ∷ 125 ∷ [])
    ≡ Ok (Open (97 ∷ []) ∷ Assign (98 ∷ []) (One (Number 1)) ∷ Close ∷ Open (99 ∷ []) ∷ Assign (98 ∷ []) (One (Number 1)) ∷ Close ∷ [])
unfolding outcome step ended kind
given_in_another = refl

-- 'a{b='
cut_inside : reading (97 ∷ 123 ∷ 98 ∷ 61 ∷ []) ≡ Err (Unclosed 1)
unfolding outcome step ended kind
cut_inside = refl

-- 'a{b=["]",'
open_bracket : reading (97 ∷ 123 ∷ 98 ∷ 61 ∷ 91 ∷ 34 ∷ 93 ∷ 34 ∷ 44 ∷ []) ≡ Err (Unclosed 4)
unfolding outcome step ended kind
open_bracket = refl

-- 'a{b=["]","'
open_inner_quote : reading (97 ∷ 123 ∷ 98 ∷ 61 ∷ 91 ∷ 34 ∷ 93 ∷ 34 ∷ 44 ∷ 34 ∷ []) ≡ Err (Unclosed 9)
unfolding outcome step ended kind
open_inner_quote = refl

-- 'a{}}'
closed_too_often : reading (97 ∷ 123 ∷ 125 ∷ 125 ∷ []) ≡ Err (BadToken 3)
unfolding outcome step ended kind
closed_too_often = refl

-- 'a="\\n'
bad_escape : reading (97 ∷ 61 ∷ 34 ∷ 92 ∷ 110 ∷ []) ≡ Err (BadToken 4)
unfolding outcome step ended kind
bad_escape = refl

-- 'a="\n'
feed_in_string : reading (97 ∷ 61 ∷ 34 ∷ 10 ∷ []) ≡ Err (BadToken 3)
unfolding outcome step ended kind
feed_in_string = refl

-- 'a "'
quote_as_name : reading (97 ∷ 32 ∷ 34 ∷ []) ≡ Err (BadToken 2)
unfolding outcome step ended kind
quote_as_name = refl

-- '#\x00'
zero_in_comment : reading (35 ∷ 0 ∷ []) ≡ Err (BadToken 1)
unfolding outcome step ended kind
zero_in_comment = refl

-- 'a="x"b=1'
string_then_name : reading (97 ∷ 61 ∷ 34 ∷ 120 ∷ 34 ∷ 98 ∷ 61 ∷ 49 ∷ [])
    ≡ Ok (Assign (97 ∷ []) (One (Text (120 ∷ []))) ∷ Assign (98 ∷ []) (One (Number 1)) ∷ [])
unfolding outcome step ended kind
string_then_name = refl

-- '5=5'
digits_as_name : reading (53 ∷ 61 ∷ 53 ∷ []) ≡ Ok (Assign (53 ∷ []) (One (Number 5)) ∷ [])
unfolding outcome step ended kind
digits_as_name = refl

-- 'a{a{a{a{a{a{a{a{a{a{a{a{a{a{a{a{b=1 b{'
given_before_deep : reading (97 ∷ 123 ∷ 97 ∷ 123 ∷ 97 ∷ 123 ∷ 97 ∷ 123 ∷ 97 ∷ 123 ∷ 97 ∷ 123 ∷ 97 ∷ 123 ∷ 97 ∷ 123 ∷ 97 ∷ 123 ∷ 97 ∷ 123
    ∷ 97 ∷ 123 ∷ 97 ∷ 123 ∷ 97 ∷ 123 ∷ 97 ∷ 123 ∷ 97 ∷ 123 ∷ 97 ∷ 123 ∷ 98 ∷ 61 ∷ 49 ∷ 32 ∷ 98 ∷ 123 ∷ []) ≡ Err (DuplicateKey 36)
unfolding outcome step ended kind
given_before_deep = refl

-- 'a{}#x'
comment_last : reading (97 ∷ 123 ∷ 125 ∷ 35 ∷ 120 ∷ []) ≡ Ok (Open (97 ∷ []) ∷ Close ∷ [])
unfolding outcome step ended kind
comment_last = refl

-- ---- the relations at some of these texts

-- 'a = [1,]': a comma isn't the last byte before a bracket
comma_last_bad : IsBadToken (97 ∷ 32 ∷ 61 ∷ 32 ∷ 91 ∷ 49 ∷ 44 ∷ 93 ∷ []) 7
comma_last_bad = refused_cause (97 ∷ 32 ∷ 61 ∷ 32 ∷ 91 ∷ 49 ∷ 44 ∷ 93 ∷ []) (BadToken 7) comma_last

-- 'a =': the text ends after `=`
cut_bad : IsBadToken (97 ∷ 32 ∷ 61 ∷ []) 3
cut_bad = refused_cause (97 ∷ 32 ∷ 61 ∷ []) (BadToken 3) cut

-- 'a\x00'
zero_bad : IsBadToken (97 ∷ 0 ∷ []) 1
zero_bad = refused_cause (97 ∷ 0 ∷ []) (BadToken 1) zero_byte

-- 'a {'
brace_unclosed : IsUnclosed (97 ∷ 32 ∷ 123 ∷ []) 2
brace_unclosed = refused_cause (97 ∷ 32 ∷ 123 ∷ []) (Unclosed 2) open_brace

-- 'a = "x'
quote_unclosed : IsUnclosed (97 ∷ 32 ∷ 61 ∷ 32 ∷ 34 ∷ 120 ∷ []) 4
quote_unclosed = refused_cause (97 ∷ 32 ∷ 61 ∷ 32 ∷ 34 ∷ 120 ∷ []) (Unclosed 4) open_quote

-- 'a{b=': the brace is before the end
brace_first : IsUnclosed (97 ∷ 123 ∷ 98 ∷ 61 ∷ []) 1
brace_first = refused_cause (97 ∷ 123 ∷ 98 ∷ 61 ∷ []) (Unclosed 1) cut_inside

-- 'a = 1 a = 2'
twice_given : IsDuplicate (97 ∷ 32 ∷ 61 ∷ 32 ∷ 49 ∷ 32 ∷ 97 ∷ 32 ∷ 61 ∷ 32 ∷ 50 ∷ []) 6
twice_given = refused_cause (97 ∷ 32 ∷ 61 ∷ 32 ∷ 49 ∷ 32 ∷ 97 ∷ 32 ∷ 61 ∷ 32 ∷ 50 ∷ []) (DuplicateKey 6) twice

-- 'a = [12 ]'
array_text : IsTextOf (97 ∷ 32 ∷ 61 ∷ 32 ∷ 91 ∷ 49 ∷ 50 ∷ 32 ∷ 93 ∷ []) (Assign (97 ∷ []) (Many (Number 12 ∷ [])) ∷ [])
array_text = read_text (97 ∷ 32 ∷ 61 ∷ 32 ∷ 91 ∷ 49 ∷ 50 ∷ 32 ∷ 93 ∷ []) (Assign (97 ∷ []) (Many (Number 12 ∷ [])) ∷ []) one_array
