-- Which texts are numbers. As this project's own choice, wider than the BNF, digits may begin with zeros and the
-- digits behind `/` may be zeros.
use Rattle.std.specs.Prelude.{ℕ, Bool, ◌||◌, ◌==◌, IsTrue, codes, [], ◌∷◌, ◌++◌}
use Rattle.std.specs.List.{list_all}
use Rattle.tptp_lexer.specs.Bytes.{Text, is_numeric}

-- <sign>: `+` or `-`
abbrev pub is_sign : ℕ → Bool
is_sign byte = byte == 43 || byte == 45

-- <exponent>: `e` or `E`
abbrev pub is_exponent : ℕ → Bool
is_exponent byte = byte == 101 || byte == 69

-- <numeric><numeric>*
abbrev pub AreDigits : Text → Type 0
AreDigits [] = ⊥
AreDigits (digit ∷ digits) = IsTrue (list_all is_numeric (digit ∷ digits))

-- a <sign>, or nothing
pub data IsSign : Text → Type 0 where
  no_sign : IsSign []
  one_sign : {byte : ℕ} → IsTrue (is_sign byte) → IsSign (byte ∷ [])

-- <dot_decimal>, or nothing
pub data IsFraction : Text → Type 0 where
  no_fraction : IsFraction []
  dot_decimal : {digits : Text} → AreDigits digits → IsFraction (codes "." ++ digits)

-- <exponent><exp_integer>, or nothing
pub data IsExponent : Text → Type 0 where
  no_exponent : IsExponent []
  exponent : {byte : ℕ} (sign digits : Text) → IsTrue (is_exponent byte) → IsSign sign → AreDigits digits → IsExponent (byte ∷ (sign ++ digits))

-- <number>
pub data IsNumber : Text → Type 0 where
  -- <rational>
  rational : (sign digits below : Text) → IsSign sign → AreDigits digits → AreDigits below → IsNumber (sign ++ (digits ++ (codes "/" ++ below)))
  -- <integer> and <real>
  decimal : (sign digits fraction power : Text) → IsSign sign → AreDigits digits → IsFraction fraction → IsExponent power → IsNumber (sign ++ (digits ++ (fraction ++ power)))
