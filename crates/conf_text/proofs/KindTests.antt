-- What is known of a byte by its kind, and of a kind by another test of it.
use Rattle.std.proofs.Common.{◌≡◌, ℕ, Bool, true, false, Some, None, refl, arith}
use Rattle.std.proofs.lemmas.Bool.Decides.{nat_tests}
use Rattle.conf_text.specs.declared.kind.Kind.{Kind}
use Rattle.conf_text.specs.declared.kind.Kind.TheVariants.{Digit, Letter, LineFeed, Quote, Backslash, OpenBrace, CloseBrace, OpenBracket}
use Rattle.conf_text.specs.declared.kind.Kind.TheVariants.{CloseBracket, Equals, Comma, Zero, Other}
use Rattle.conf_text.specs.Bytes.{kind}
use Rattle.conf_text.specs.Grammar.{is_name, gap_byte, is_escaped, is_allowed}
use Rattle.conf_text.specs.Scan.{is_quote, string_byte}
use Rattle.conf_text.specs.Tokens.{is_mark, may_stand}

pub quote_is : (b : ℕ) → is_quote (kind b) ≡ true → b ≡ 34
unfolding kind
quote_is b e = grind (arith, nat_tests)

pub backslash_is : (b : ℕ) → kind b ≡ Backslash → b ≡ 92
unfolding kind
backslash_is b e = grind (arith, nat_tests)

pub name_no_gap : (k : Kind) → is_name k ≡ true → gap_byte false k ≡ None
name_no_gap Digit e = refl
name_no_gap Letter e = refl
name_no_gap _ e = absurd cc

pub quote_no_gap : (k : Kind) → is_quote k ≡ true → gap_byte false k ≡ None
quote_no_gap Quote e = refl
quote_no_gap _ e = absurd cc

pub quote_no_name : (k : Kind) → is_quote k ≡ true → is_name k ≡ false
quote_no_name Quote e = refl
quote_no_name _ e = absurd cc

pub mark_no_gap : (k : Kind) → is_mark k ≡ true → gap_byte false k ≡ None
mark_no_gap OpenBrace e = refl
mark_no_gap CloseBrace e = refl
mark_no_gap OpenBracket e = refl
mark_no_gap CloseBracket e = refl
mark_no_gap Equals e = refl
mark_no_gap Comma e = refl
mark_no_gap _ e = absurd cc

pub mark_no_name : (k : Kind) → is_mark k ≡ true → is_name k ≡ false
mark_no_name Digit e = absurd cc
mark_no_name Letter e = absurd cc
mark_no_name _ e = refl

pub mark_no_quote : (k : Kind) → is_mark k ≡ true → is_quote k ≡ false
mark_no_quote Quote e = absurd cc
mark_no_quote _ e = refl

-- a byte that may go on with a gap may stand
pub in_comment_bad : (k : Kind) → gap_byte true k ≡ None → may_stand true k ≡ false
in_comment_bad Zero e = refl
in_comment_bad _ e = absurd cc

pub nothing_bad : (k : Kind) → gap_byte false k ≡ None → is_name k ≡ false → is_quote k ≡ false → is_mark k ≡ false
    → may_stand false k ≡ false
nothing_bad Backslash e f g h = refl
nothing_bad Zero e f g h = refl
nothing_bad Other e f g h = refl
nothing_bad _ e f g h = absurd cc

pub bad_no_gap : (comment : Bool) (k : Kind) → may_stand comment k ≡ false → gap_byte comment k ≡ None
bad_no_gap true Zero e = refl
bad_no_gap true _ e = absurd cc
bad_no_gap false Backslash e = refl
bad_no_gap false Zero e = refl
bad_no_gap false Other e = refl
bad_no_gap false _ e = absurd cc

pub bad_no_name : (k : Kind) → may_stand false k ≡ false → is_name k ≡ false
bad_no_name Digit e = absurd cc
bad_no_name Letter e = absurd cc
bad_no_name _ e = refl

pub bad_no_quote : (k : Kind) → may_stand false k ≡ false → is_quote k ≡ false
bad_no_quote Quote e = absurd cc
bad_no_quote _ e = refl

pub bad_no_mark : (k : Kind) → may_stand false k ≡ false → is_mark k ≡ false
bad_no_mark Backslash e = refl
bad_no_mark Zero e = refl
bad_no_mark Other e = refl
bad_no_mark _ e = absurd cc

pub plain_no_quote : (k : Kind) → is_escaped k ≡ false → is_quote k ≡ false
plain_no_quote Quote e = absurd cc
plain_no_quote _ e = refl

pub plain_goes_on : (k : Kind) → is_escaped k ≡ false → is_allowed k ≡ true → string_byte false k ≡ Some false
plain_goes_on Backslash e f = absurd cc
plain_goes_on LineFeed e f = absurd cc
plain_goes_on Zero e f = absurd cc
plain_goes_on _ e f = refl

pub not_allowed_stops : (k : Kind) → is_allowed k ≡ false → string_byte false k ≡ None
not_allowed_stops LineFeed e = refl
not_allowed_stops Zero e = refl
not_allowed_stops _ e = absurd cc

pub not_allowed_no_quote : (k : Kind) → is_allowed k ≡ false → is_quote k ≡ false
not_allowed_no_quote Quote e = absurd cc
not_allowed_no_quote _ e = refl

pub escaped_allowed : (k : Kind) → is_escaped k ≡ true → is_allowed k ≡ true
escaped_allowed Quote e = refl
escaped_allowed Backslash e = refl
escaped_allowed _ e = absurd cc
