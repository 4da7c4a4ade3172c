-- Which byte has which kind.
use Rattle.std.proofs.Common.{◌≡◌, ℕ, Bool, true, false, cond, refl, subst}
use Rattle.std.specs.Prelude.{◌||◌, ◌==◌}
use Rattle.std.specs.Char.{is_ascii_digit}
use Rattle.std.proofs.lemmas.Bool.{eqb-true}
use Rattle.conf_text.specs.declared.kind.Kind.{Kind}
use Rattle.conf_text.specs.declared.kind.Kind.TheVariants.{Digit, Letter, Blank, LineFeed, Hash, Quote, Backslash, OpenBrace, CloseBrace}
use Rattle.conf_text.specs.declared.kind.Kind.TheVariants.{OpenBracket, CloseBracket, Equals, Comma, Zero, Other}
use Rattle.conf_text.specs.Bytes.{kind, mark, is_letter}

abbrev pub IsByteOf : Kind → ℕ → Type 0
IsByteOf LineFeed b = b ≡ 10
IsByteOf Hash b = b ≡ 35
IsByteOf Quote b = b ≡ 34
IsByteOf Backslash b = b ≡ 92
IsByteOf OpenBrace b = b ≡ 123
IsByteOf CloseBrace b = b ≡ 125
IsByteOf OpenBracket b = b ≡ 91
IsByteOf CloseBracket b = b ≡ 93
IsByteOf Equals b = b ≡ 61
IsByteOf Comma b = b ≡ 44
IsByteOf _ b = Unit {0}

chosen : (c : Bool) (b : ℕ) (k rest : Kind) → (c ≡ true → IsByteOf k b) → IsByteOf rest b → IsByteOf (cond c k rest) b
chosen true b k rest h other = h refl
chosen false b k rest h other = other

mark_byte : (b : ℕ) → IsByteOf (mark b) b
mark_byte b =
    chosen (b == 35) b Hash _ (eqb-true b 35)
    (chosen (b == 34) b Quote _ (eqb-true b 34)
    (chosen (b == 92) b Backslash _ (eqb-true b 92)
    (chosen (b == 123) b OpenBrace _ (eqb-true b 123)
    (chosen (b == 125) b CloseBrace _ (eqb-true b 125)
    (chosen (b == 91) b OpenBracket _ (eqb-true b 91)
    (chosen (b == 93) b CloseBracket _ (eqb-true b 93)
    (chosen (b == 61) b Equals _ (eqb-true b 61)
    (chosen (b == 44) b Comma _ (eqb-true b 44)
    (chosen (b == 0) b Zero Other (λ h. tt) tt)))))))))

kind_byte : (b : ℕ) → IsByteOf (kind b) b
unfolding kind
kind_byte b =
    chosen (is_ascii_digit b) b Digit _ (λ h. tt)
    (chosen (is_letter b) b Letter _ (λ h. tt)
    (chosen (b == 32 || b == 9 || b == 13) b Blank _ (λ h. tt)
    (chosen (b == 10) b LineFeed (mark b) (eqb-true b 10) (mark_byte b))))

pub byte_of : (b : ℕ) (k : Kind) → kind b ≡ k → IsByteOf k b
byte_of b k e = subst (λ x. IsByteOf x b) e (kind_byte b)
